-- The greatest versions that are stored.
use Rattle.std.proofs.Common.{◌≡◌, ℕ, Bool, true, false, ◌==◌, ◌||◌, List, [], ◌∷◌, ◌++◌, map, cond, Option, Some, None, max, refl, ap, sym, ◌∙◌}
use Rattle.std.specs.Prelude.{option_map, unwrap_or}
use Rattle.std.specs.List.{list_any}
use Rattle.std.specs.Ordering.{nat_cmp, eq_by_cmp}
use Rattle.std.specs.Cmp.{nat_cmp_total, eq_by_cmp_equiv, unsigned_tied}
use Rattle.std.specs.FinMap.{nat_cmp-IsAntisymmetric}
use Rattle.std.proofs.lemmas.Bool.{true≢false}
use Rattle.flashbase.specs.Lists.{newest}
use Rattle.flashbase.proofs.ListLemmas.{get-tabled, filter-no_key}
use Rattle.jnode.specs.declared.node.Dirent.{Dirent}
use Rattle.jname.specs.Live.{highest}
use Rattle.jmount.specs.declared.stored.Stored.{Stored}
use Rattle.jmount.specs.Stored.{ObjectsByNumber, stored_top, stored_tops}
use Rattle.jmount.specs.Shown.{top_at}
use Rattle.jmount.proofs.StoredLemmas.{lookup-no_key}

neither_of : (a b : Bool) → (a || b) ≡ false → (a ≡ false) × (b ≡ false)
neither_of true b h = absurd (true≢false h)
neither_of false b h = (refl, h)

either_cons : (a b c d : Bool) → (b ≡ (c || d)) → (a || b) ≡ ((a || c) || d)
either_cons true b c d e = refl
either_cons false b c d e = e

any-append : (p : ℕ → Bool) (xs ys : List ℕ) → list_any p (xs ++ ys) ≡ (list_any p xs || list_any p ys)
any-append p [] ys = refl
any-append p (x ∷ xs) ys = either_cons (p x) (list_any p (xs ++ ys)) (list_any p xs) (list_any p ys) (any-append p xs ys)

highest-none : (names : List Dirent) (i : ℕ) → list_any (eq_by_cmp nat_cmp i) (map (λ entry. entry.pino) names) ≡ false → highest names i ≡ None
highest-none names i none =
    ap (λ (es : List Dirent). option_map (λ entry. entry.version) (newest (λ entry. entry.version) es))
    (filter-no_key nat_cmp (λ (entry : Dirent). entry.pino) (λ entry. entry.pino == i) i
    (λ entry. (eq_by_cmp_equiv nat_cmp_total).symm i entry.pino ∙ unsigned_tied entry.pino i) names none)

or_zero : (b : Bool) (n : ℕ) → (b ≡ false → n ≡ 0) → unwrap_or (cond b (Some n) None) 0 ≡ n
or_zero true n h = refl
or_zero false n h = sym (h refl)

pub top_at-stored : (objects : ObjectsByNumber) (names : List Dirent) (i : ℕ) → top_at (stored_tops objects names) i ≡ stored_top objects names i
top_at-stored objects names i =
    let numbers = map (λ e. e.0) objects.entries in
    let owners = map (λ (entry : Dirent). entry.pino) names in
    ap (λ o. unwrap_or o 0) (get-tabled nat_cmp nat_cmp_total nat_cmp-IsAntisymmetric (numbers ++ owners) (λ j. Some (stored_top objects names j)) i)
    ∙ or_zero (list_any (eq_by_cmp nat_cmp i) (numbers ++ owners)) (stored_top objects names i)
    (λ none.
    let apart = neither_of (list_any (eq_by_cmp nat_cmp i) numbers) (list_any (eq_by_cmp nat_cmp i) owners) (sym (any-append (eq_by_cmp nat_cmp i) numbers owners) ∙ none) in
    ap (λ (o : Option Stored). max (unwrap_or (option_map (λ stored. stored.version) o) 0) (unwrap_or (highest names i) 0)) (lookup-no_key i objects.entries apart.0)
    ∙ ap (λ o. max 0 (unwrap_or o 0)) (highest-none names i apart.1))
