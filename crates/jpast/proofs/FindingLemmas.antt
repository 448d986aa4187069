-- What is left of objects, one after another.
use Rattle.std.proofs.Common.{◌≡◌, ℕ, suc, zero, List, [], ◌∷◌, ◌++◌, Bor, sym, ◌∙◌, arith}
use Rattle.std.specs.Prelude.{map}
use Rattle.std.specs.List.{All}
use Rattle.std.proofs.lemmas.List.{map-append}
use Rattle.std.proofs.lemmas.List.Elements.{All-append}
use Rattle.jmount.specs.Tree.{State}
use Rattle.jpast.specs.Pasts.{IsPastOf, NodesAt}
use Rattle.jpast.specs.declared.past.Past.{Past}

pub order_more : (ps : List Past) (p : Past) (ys : List (Bor ℕ)) (y : Bor ℕ) → map (λ (past : Past). past.ino) ps ≡ map (λ (n : Bor ℕ). n.now) ys → p.ino ≡ y.now
    → map (λ (past : Past). past.ino) (ps ++ p ∷ []) ≡ map (λ (n : Bor ℕ). n.now) (ys ++ y ∷ [])
order_more ps p ys y same is =
    map-append (λ (past : Past). past.ino) ps (p ∷ [])
    ∙ (λ i. same i ++ is i ∷ [])
    ∙ sym (map-append (λ (n : Bor ℕ). n.now) ys (y ∷ []))

pub each_more : (ns : NodesAt) (t : State) (ps : List Past) (p : Past) → All (IsPastOf ns t) ps → IsPastOf ns t p → All (IsPastOf ns t) (ps ++ p ∷ [])
each_more ns t ps p each is = All-append (IsPastOf ns t) ps (p ∷ []) each only
  where
    only : All (IsPastOf ns t) (p ∷ [])
    only zero d less = is
    only (suc k) d less = absurd (omega (arith, less))
