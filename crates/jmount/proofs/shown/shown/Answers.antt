use Rattle.std.proofs.Common.{sym}
use Rattle.flashbase.proofs.ListLemmas.{length-each_below}
use Rattle.jfrag.specs.Overlays.{byte_at}
use Rattle.jmount.specs.Stored.{visible_in}
use Rattle.jmount.proofs.shown.shown.Goals as goal

pub returns : goal.returns
returns c =
    let stored = c.args.stored.now in
    let size = sym (length-each_below stored.size (λ place. byte_at (visible_in stored.bytes place))) in
    λ i. record { kind = c.kind_of.ensures i; mode = stored.mode; uid = stored.uid; gid = stored.gid; size = size i; atime = stored.atime; mtime = stored.mtime; ctime = stored.ctime; device = stored.device }
