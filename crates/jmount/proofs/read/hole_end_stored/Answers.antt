use Rattle.std.proofs.Common.{[], length, cond, ap, sym, ◌∙◌, arith}
use Rattle.jmount.specs.Stored.{stored_object}
use Rattle.jmount.proofs.ReadLemmas.{length-stored, stored_hole}
use Rattle.jmount.proofs.read.hole_end_stored.Goals as goal

pub returns-then-not-has_bytes-clause-bytes : goal.returns-then-not-has_bytes-clause-bytes
returns-then-not-has_bytes-clause-bytes c = λ same inside.
    let none = ap (λ b. length (cond b (stored_object c.args.stored.now).body [])) (sym c.has_bytes.ensures ∙ c.if-not-has_bytes.true) in
    absurd (omega arith)

pub returns-then-offset-from-clause-bytes : goal.returns-then-offset-from-clause-bytes
returns-then-offset-from-clause-bytes c = λ same inside.
    let all = length-stored c.args.stored.now (sym c.has_bytes.ensures ∙ c.if-not-has_bytes.false) in
    absurd (omega (arith, all, c.from.ensures, c.if-offset-from.true))

pub returns-clause-within : goal.returns-clause-within
returns-clause-within c =
    let all = length-stored c.args.stored.now (sym c.has_bytes.ensures ∙ c.if-not-has_bytes.false) in
    omega (arith, all, c.from-2.ensures, c.min.ensures)

pub returns-clause-zeros : goal.returns-clause-zeros
returns-clause-zeros c = λ i from to.
    let has = sym c.has_bytes.ensures ∙ c.if-not-has_bytes.false in
    stored_hole c.args.stored.now has i (omega (arith, c.from-2.ensures, c.min.ensures))
    (c.hole_end-end.ensures.holes i from (omega (arith, c.from-2.ensures, c.min.ensures)))

pub returns-clause-bytes : goal.returns-clause-bytes
returns-clause-bytes c = λ same inside.
    c.hole_end-end.ensures.bytes (omega (arith, c.from-2.ensures, c.min.ensures, c.if-offset-from.false, c.from.ensures, same))
