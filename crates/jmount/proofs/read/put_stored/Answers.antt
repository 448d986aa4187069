use Rattle.std.proofs.Common.{ℕ, Some, List, ◌∙◌, subst, sym, ap, arith, take_all}
use Rattle.std.specs.Io.KnownBytes.{Appends}
use Rattle.flashbase.specs.Device.{PutsPart, next_count}
use Rattle.jmount.specs.Shown.{bytes_if}
use Rattle.jmount.specs.Stored.{stored_object}
use Rattle.jmount.proofs.PieceLemmas.{bytes_put, part_put, piece_read}
use Rattle.jmount.proofs.ReadLemmas.{length-stored}
use Rattle.jmount.proofs.read.put_stored.Goals as goal

pub loop-offset-smaller : goal.loop-offset-smaller
loop-offset-smaller g c =
    let all = length-stored c.args.stored.now (sym c.has_bytes.ensures ∙ c.if-not-has_bytes.false) in
    omega (arith, all, c.read_stored-count.ensures.count, c.from-size.ensures, c.loop-offset-test.true, c.loop-offset-test.array_long)

pub loop-offset-preserved : goal.loop-offset-preserved
loop-offset-preserved g c =
    let bytes = bytes_if (Some (stored_object c.args.stored.now)) in
    let all = length-stored c.args.stored.now (sym c.has_bytes.ensures ∙ c.if-not-has_bytes.false) in
    let before = c.loop-offset.invariant in
    let n = c.read_stored-count.result in
    let same = piece_read bytes _ c.read_stored-count.new.out c.loop-offset.offset n _ c.read_stored-count.ensures.count c.read_stored-count.ensures.bytes in
    let put = c.in-Ok.ensures.puts in
    record {
      within = omega (arith, all, c.read_stored-count.ensures.count, c.from-size.ensures, before.within);
      put = bytes_put bytes c.loop-offset.offset n _ (g.T.Sink.taken c.loop-offset.sink) _ before.put
          (subst (λ (l : List ℕ). Appends (g.T.Sink.taken c.loop-offset.sink) (g.T.Sink.taken c.put_all.new.sink) l) same put.0);
      failed = put.1 ∙ before.failed;
    }

pub returns-in-Err : goal.returns-in-Err
returns-in-Err g c =
    let bytes = bytes_if (Some (stored_object c.args.stored.now)) in
    let before = c.loop-offset.invariant in
    let n = c.read_stored-count.result in
    let same = piece_read bytes _ c.read_stored-count.new.out c.loop-offset.offset n _ c.read_stored-count.ensures.count c.read_stored-count.ensures.bytes in
    let put = c.in-Err.ensures.puts in (
      part_put bytes c.loop-offset.offset n _ (g.T.Sink.taken c.loop-offset.sink) _ before.put
          (subst (λ (l : List ℕ). PutsPart (g.T.Sink.taken c.loop-offset.sink) (g.T.Sink.taken c.put_all.new.sink) l) same put.0),
      put.1 ∙ ap next_count before.failed,
    )

pub returns : goal.returns
returns g c =
    let all = length-stored c.args.stored.now (sym c.has_bytes.ensures ∙ c.if-not-has_bytes.false) in
    let done = c.loop-offset.invariant in (
      subst (Appends (g.T.Sink.taken c.args.sink.now) (g.T.Sink.taken c.loop-offset.sink))
          (take_all c.loop-offset.offset (bytes_if (Some (stored_object c.args.stored.now))) (omega (arith, all, c.from-size.ensures, c.loop-offset-test.false))) done.put,
      done.failed,
    )
