use Rattle.std.proofs.Common.{◌≡◌, ◌<◌, ◌≤◌, ◌+◌, ◌-◌, ◌++◌, ℕ, List, Some, length, take, drop, slice_index, ap, sym, ◌∙◌, arith}
use Rattle.std.proofs.lemmas.List.{length-take}
use Rattle.jmount.specs.Shown.{bytes_if}
use Rattle.jmount.specs.Stored.{stored_object}
use Rattle.jmount.proofs.ReadLemmas.{length-stored_most, byte-read}
use Rattle.jmount.proofs.read.zeros_end_stored.Goals as goal

pub overflow_add-result : goal.overflow_add-result
overflow_add-result c =
    let bytes = bytes_if (Some (stored_object c.args.stored.now)) in
    let most = length-stored_most c.args.stored.now in
    let count = c.read_stored-count.ensures.count in
    let run = c.zero_run.ensures.within in
    let part = length-take c.read_stored-count.result c.read_stored-count.new.out in
    omega (arith, most, count, run, part, c.from-size.ensures, c.from-size.type_inv)

pub returns-clause-zeros : goal.returns-clause-zeros
returns-clause-zeros c = λ i from to.
    let bytes = bytes_if (Some (stored_object c.args.stored.now)) in
    let count = c.read_stored-count.result in
    let part = length-take count c.read_stored-count.new.out in
    let within : i - c.args.offset < c.zero_run.result = omega arith in
    let inside : i - c.args.offset < count = omega (arith, c.zero_run.ensures.within, part) in
    let fits : count ≤ length bytes - c.args.offset = omega (arith, c.read_stored-count.ensures.count) in
    let is : c.args.offset + (i - c.args.offset) ≡ i = omega arith in
    ap (λ (k : ℕ). slice_index bytes k) (sym is) ∙ sym (byte-read bytes _ c.args.offset count (i - c.args.offset) fits inside)
    ∙ ap (λ (out : List ℕ). slice_index (take count out) (i - c.args.offset)) (sym c.read_stored-count.ensures.bytes) ∙ c.zero_run.ensures.zeros (i - c.args.offset) within

pub returns-then-size-offset-clause-stops : goal.returns-then-size-offset-clause-stops
returns-then-size-offset-clause-stops c = λ same inside.
    absurd (omega (arith, length-stored_most c.args.stored.now, c.from-size.ensures, c.if-size-offset.true, inside))
