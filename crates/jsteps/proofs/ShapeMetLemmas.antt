-- A path from the root that does not meet a directory does not lead below it.
use Rattle.std.proofs.Common.{◌≡◌, ◌≢◌, ℕ, true, false, List, [], ◌∷◌, Some, Ok, ap, sym, ◌∙◌, subst}
use Rattle.std.specs.Prelude.{◌==◌}
use Rattle.std.specs.List.{list_any}
use Rattle.std.proofs.lemmas.Bool.{eqb-false, or_parts}
use Rattle.jmount.specs.Tree.{Outline, named, is_directory}
use Rattle.jmount.specs.Find.{walk}
use Rattle.jmount.proofs.ShapeLemmas.{Leads, IsShaped, leads_nowhere, leads_more, last_step, walk_step, same_ok}
use Rattle.jsteps.specs.Where.{met}

met_first : (t : Outline) (names : List (List ℕ)) (m c : ℕ) → list_any (λ i. i == m) (met t names (Some c)) ≡ false → (c == m) ≡ false
met_first t [] m c h = (or_parts (c == m) false h).0
met_first t (name ∷ names) m c h = (or_parts (c == m) (list_any (λ i. i == m) (met t names (named t c name))) h).0

-- a walk that ends at a directory begins at one
begins_at_directory : (t : Outline) (names : List (List ℕ)) (a p : ℕ) → walk t names (Ok a) ≡ Ok p → is_directory t p ≡ true → is_directory t a ≡ true
begins_at_directory t [] a p e d = subst (λ i. is_directory t i ≡ true) (sym (same_ok a p e)) d
begins_at_directory t (name ∷ names) a p e d = (walk_step t a name names p e).directory

-- where the last of the names that lead to a number stands
back_one : (t : Outline) (m a c : ℕ) (n : List ℕ) (qs ys : List (List ℕ)) → IsShaped t → Leads t 1 qs a → is_directory t a ≡ true → named t a n ≡ Some c → is_directory t c ≡ true → (c == m) ≡ false
    → Leads t m ys c → (zs : List (List ℕ)) × Leads t m zs a
back_one t m a c n qs [] shape reached d e there other h = absurd (eqb-false c m other (sym (leads_nowhere t m c h)))
back_one t m a c n qs (y ∷ ys) shape reached d e there other h =
    let last = last_step t m c y ys h in
    let not_root : c ≢ 1 = λ is. shape.no_loop 1 n qs (leads_more t 1 a 1 n qs reached d (e ∙ ap Some is)) in
    let one = shape.single last.0 a y n c last.2 e there not_root in
    (ys, subst (Leads t m ys) one.0 last.3)

pub back_to : (t : Outline) (m : ℕ) (names : List (List ℕ)) (a p : ℕ) (qs xs : List (List ℕ)) → IsShaped t → Leads t 1 qs a → walk t names (Ok a) ≡ Ok p
    → list_any (λ i. i == m) (met t names (Some a)) ≡ false → is_directory t p ≡ true → Leads t m xs p → (ys : List (List ℕ)) × Leads t m ys a
back_to t m [] a p qs xs shape reached e none d h = (xs, subst (Leads t m xs) (sym (same_ok a p e)) h)
back_to t m (name ∷ names) a p qs xs shape reached e none d h =
    let s = walk_step t a name names p e in
    let later : list_any (λ i. i == m) (met t names (Some s.to)) ≡ false =
    ap (λ o. list_any (λ i. i == m) (met t names o)) (sym s.entry) ∙ (or_parts (a == m) (list_any (λ i. i == m) (met t names (named t a name))) none).1 in
    let below = back_to t m names s.to p (name ∷ qs) xs shape (leads_more t 1 a s.to name qs reached s.directory s.entry) s.rest later d h in
    back_one t m a s.to name qs below.0 shape reached s.directory s.entry (begins_at_directory t names s.to p s.rest d) (met_first t names m s.to later) below.1
