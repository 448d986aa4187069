use Rattle.std.proofs.Common.{length, arith}
use Rattle.flashbase.proofs.BytesLemmas.{pad4_least}
use Rattle.jnode.proofs.reading.rest_seen.Goals as goal

pub slice-requires : goal.slice-requires
slice-requires g c =
    let most = pad4_least c.u32_in.result (length c.args.rest.now) (omega arith) c.requires.words in
    omega arith
