use Rattle.std.proofs.Common.{◌≡◌, ◌+◌, ℕ, drop, Some, None, sym, subst, arith}
use Rattle.std.proofs.lemmas.List.{take_rest}
use Rattle.jnode.specs.Weak.{is_weak, is_hidden, IsLeastHidden, stored_at}
use Rattle.jnode.proofs.StoredLemmas.{least_none, least_some}
use Rattle.jnode.proofs.WholeLemmas.{whole_stored_cuts, written_is_whole}
use Rattle.jnode.proofs.weak.weak_cut.Goals as goal

pub returns-in-Some : goal.returns-in-Some
returns-in-Some g c =
    let e = g.E.Order.order in
    let xs = c.args.bytes.now in
    let front : c.stored_at-front.result ≡ stored_at e xs = c.stored_at-front.ensures.place in
    let least : IsLeastHidden (drop c.stored_at-front.result xs) (Some c.in-Some.hidden) = rw take_rest at c.in-Some.ensures.least in
    let all : c.loop-cut.cut ≡ c.stored_at-front.result = omega (arith, c.loop-cut.auto.cut-end) in
    least_some e xs c.stored_at-front.result c.in-Some.hidden (λ i less. c.loop-cut.invariant i (omega arith))
    (subst (λ (m : ℕ). (k : ℕ) → is_weak e xs (m + k) ≡ is_hidden (drop m xs) k) (sym front) (whole_stored_cuts e xs (written_is_whole e xs c.requires)).same)
    least

pub returns-in-None : goal.returns-in-None
returns-in-None g c =
    let e = g.E.Order.order in
    let xs = c.args.bytes.now in
    let front : c.stored_at-front.result ≡ stored_at e xs = c.stored_at-front.ensures.place in
    let least : IsLeastHidden (drop c.stored_at-front.result xs) None = rw take_rest at c.in-None.ensures.least in
    let all : c.loop-cut.cut ≡ c.stored_at-front.result = omega (arith, c.loop-cut.auto.cut-end) in
    least_none e xs c.stored_at-front.result (λ i less. c.loop-cut.invariant i (omega arith))
    (subst (λ (m : ℕ). (k : ℕ) → is_weak e xs (m + k) ≡ is_hidden (drop m xs) k) (sym front) (whole_stored_cuts e xs (written_is_whole e xs c.requires)).same)
    least
