use Rattle.std.proofs.Common.{◌<◌, length, arith, subst, sym, length-append}
use Rattle.std.specs.Io.KnownBytes.{Appends}
use Rattle.std.proofs.KnownBytes.{Appends-trans}
use Rattle.std.proofs.Math.Seq.{take-append-add}
use Rattle.jreport.proofs.faults.put_both.Goals as goal

pub returns-in-Err-clause-part : goal.returns-in-Err-clause-part
returns-in-Err-clause-part g c =
    let first = c.args.first.now in
    let second = c.args.second.now in
    let part = c.in-Err.ensures.part in
    let short : c.in-Err.field-0.taken < length second = part.0 in (
      omega (arith, short, length-append first second),
      subst (λ bytes. Appends (g.T.Sink.taken c.args.sink.now) (g.T.Sink.taken c.put_all-2.new.sink) bytes)
          (sym (take-append-add first second c.in-Err.field-0.taken))
          (Appends-trans _ _ _ _ _ c.in_ok-put_all.ensures.puts.0 part.1),
    )
