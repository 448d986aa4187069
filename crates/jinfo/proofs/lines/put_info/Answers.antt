use Rattle.std.proofs.Common.{◌∙◌, ap, arith, subst}
use Rattle.std.specs.Io.KnownBytes.{Appends}
use Rattle.jinfo.specs.InfoText.{info_lines}
use Rattle.jinfo.specs.declared.info.Info.{Info}
use Rattle.jinfo.proofs.CensusLemmas.{info_order}
use Rattle.jinfo.proofs.lines.put_info.Goals as goal

pub returns : goal.returns
returns g c =
    let told = c.info_of-info.ensures in (
      omega arith,
      ap (λ (info : Info). info.order) told ∙ info_order c.args.image.now,
      subst (λ (info : Info). Appends (g.S.Sink.taken c.args.sink.now) (g.S.Sink.taken c.put_lines.new.sink) (info_lines info)) told
          c.in_ok-put_lines.ensures.0,
      c.in_ok-put_lines.ensures.1,
    )
