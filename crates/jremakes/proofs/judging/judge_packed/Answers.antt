use Rattle.std.proofs.Common.{◌≡◌, Some}
use Rattle.jconvert.specs.Compressing.{compress_fault}
use Rattle.jexpand.specs.declared.fault.ConvertFault.{ConvertFault}
use Rattle.jremakes.proofs.FaultLemmas.{refused_by}
use Rattle.jremakes.proofs.judging.judge_packed.Goals as goal

pub returns-in-Err-clause-judged : goal.returns-in-Err-clause-judged
returns-in-Err-clause-judged g c =
    let found = compress_fault g.E.Order.order c.args.geometry.block c.args.image.now in (
      c.in-Err.fault,
      c.conversion_refusal.ensures,
      refused_by (λ (f : ConvertFault). found ≡ Some f) c.in-Err.fault c.in-Err.ensures.refused
          c.in-Err.ensures.no_sink,
    )
