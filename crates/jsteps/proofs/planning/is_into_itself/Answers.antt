use Rattle.std.proofs.Common.{◌≡◌, ◌∙◌, ℕ, Some, Bool, true, Result, sym, subst}
use Rattle.std.specs.Prelude.{◌&&◌, ◌==◌, IfOk}
use Rattle.std.specs.List.{list_any}
use Rattle.jsteps.specs.Where.{met, names_above}
use Rattle.jsteps.proofs.planning.is_into_itself.Goals as goal

both : {E : Type 0} (r : Result Bool E) (h y : Bool) → h ≡ true → IfOk r (λ b. b ≡ y) → IfOk r (λ b. b ≡ (h && y))
both {E} r h y e k = subst (λ (h : Bool). IfOk r (λ b. b ≡ (h && y))) (sym e) k

pub returns-then-has_bits : goal.returns-then-has_bits
returns-then-has_bits c = both c.meets_above.result _ _ (sym c.has_bits.ensures ∙ c.if-has_bits.true)
    (subst (λ (n : ℕ). IfOk c.meets_above.result (λ b. b ≡ list_any (λ i. i == n) (met c.args.index.now.tree (names_above c.args.new.now) (Some 1)))) c.unwrap_or.ensures c.meets_above.ensures)
