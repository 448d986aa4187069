-- Where the names of a path lead.
use Rattle.std.proofs.Common.{◌≡◌, ℕ, ◌+◌, ◌<◌, length, length-append, arith, true, false, Option, Some, None, List, [], ◌∷◌, ◌++◌, map, Bor, Result, Ok, refl, ap, sym, ◌∙◌}
use Rattle.std.proofs.lemmas.List.{map-append}
use Rattle.std.specs.Prelude.{◌==◌, nat_lt, unwrap_or, MatchOption}
use Rattle.std.specs.List.{list_any}
use Rattle.std.proofs.lemmas.Bool.{ne_eqb}
use Rattle.jmount.specs.Find.{path_names, walk}
use Rattle.jmount.specs.Tree.{Outline}
use Rattle.jmount.specs.declared.fault.FindFault.{FindFault}
use Rattle.jsteps.specs.Site.{IsSite, IsSiteOf}
use Rattle.jsteps.specs.Refusals.{is_bad_path}
use Rattle.jsteps.specs.Where.{all_but_last, last_of, named_there, names_on_path, names_above}
use Rattle.jsteps.specs.declared.site.Site.{Site}

pub all_but_last-push : (xs : List (List ℕ)) (x : List ℕ) → all_but_last (xs ++ x ∷ []) ≡ xs
all_but_last-push [] x = refl
all_but_last-push (y ∷ []) x = refl
all_but_last-push (y ∷ z ∷ xs) x = ap (λ ys. y ∷ ys) (all_but_last-push (z ∷ xs) x)

pub last_of-push : (xs : List (List ℕ)) (x : List ℕ) → last_of (xs ++ x ∷ []) ≡ x
last_of-push [] x = refl
last_of-push (y ∷ []) x = refl
last_of-push (y ∷ z ∷ xs) x = last_of-push (z ∷ xs) x

pub site_is : (t : Outline) (names front : List (Bor (List ℕ))) (last : Bor (List ℕ)) (site : Site) → names ≡ front ++ last ∷ []
    → site.above ≡ walk t (map (λ n. n.now) front) (Ok 1) → site.last.now ≡ last.now → site.number ≡ named_there t site.above last.now
    → site.is_long ≡ list_any (λ (name : List ℕ). nat_lt 254 (length name)) (map (λ n. n.now) names) → IsSite t (map (λ n. n.now) names) site
site_is t names front last site is above is_last number long_one =
    let list : map (λ (n : Bor (List ℕ)). n.now) names ≡ map (λ (n : Bor (List ℕ)). n.now) front ++ last.now ∷ [] =
    ap (map (λ (n : Bor (List ℕ)). n.now)) is ∙ map-append (λ (n : Bor (List ℕ)). n.now) front (last ∷ []) in
    let but_last : all_but_last (map (λ (n : Bor (List ℕ)). n.now) names) ≡ map (λ (n : Bor (List ℕ)). n.now) front =
    ap all_but_last list ∙ all_but_last-push (map (λ (n : Bor (List ℕ)). n.now) front) last.now in
    let the_last : last_of (map (λ (n : Bor (List ℕ)). n.now) names) ≡ last.now = ap last_of list ∙ last_of-push (map (λ (n : Bor (List ℕ)). n.now) front) last.now in
    let walked : site.above ≡ walk t (all_but_last (map (λ n. n.now) names)) (Ok 1) = above ∙ ap (λ ns. walk t ns (Ok 1)) (sym but_last) in
    let long : length (map (λ (n : Bor (List ℕ)). n.now) names) ≡ length (map (λ (n : Bor (List ℕ)). n.now) front) + 1 = ap length list ∙ length-append (map (λ (n : Bor (List ℕ)). n.now) front) (last.now ∷ []) in
    record {
      some = omega arith;
      long = long_one;
      above = walked;
      last = is_last ∙ sym the_last;
      number = number ∙ ap (λ (r : Result ℕ FindFault). named_there t r last.now) walked
          ∙ ap (named_there t (walk t (all_but_last (map (λ n. n.now) names)) (Ok 1))) (sym the_last);
    }

not_empty : {X : Type 0} (xs : List X) → 0 < length xs → (length xs == 0) ≡ false
not_empty [] h = absurd (omega arith)
not_empty (x ∷ xs) h = ne_eqb (length (x ∷ xs)) 0 (λ z. omega arith)

pub site_of_path : (t : Outline) (path : List ℕ) (names : List (List ℕ)) (site : Site) → path_names path ≡ Some names → IsSite t names site → IsSiteOf t path site
site_of_path t path names site is has =
    let same : names_on_path path ≡ names = ap (λ (o : Option (List (List ℕ))). unwrap_or o []) is in
    record {
      long = has.long ∙ ap (list_any (λ (name : List ℕ). nat_lt 254 (length name))) (sym same);
      good = ap (λ (ns : List (List ℕ)). length ns == 0) same ∙ not_empty names has.some;
      above = has.above ∙ ap (λ ns. walk t (all_but_last ns) (Ok 1)) (sym same);
      last = has.last ∙ ap last_of (sym same);
      number = has.number ∙ ap (λ ns. named_there t (walk t (all_but_last ns) (Ok 1)) (last_of ns)) (sym same);
    }

pub bad_path : (path : List ℕ) → path_names path ≡ None → is_bad_path path ≡ true
bad_path path is = ap (λ (o : Option (List (List ℕ))). length (unwrap_or o []) == 0) is

bad_root : (path : List ℕ) (names : List (Bor (List ℕ))) → names ≡ [] → path_names path ≡ Some (map (λ n. n.now) names) → is_bad_path path ≡ true
bad_root path names none is = ap (λ (o : Option (List (List ℕ))). length (unwrap_or o []) == 0) is ∙ ap (λ (ns : List (Bor (List ℕ))). length (map (λ n. n.now) ns) == 0) none

pub site_answer : (t : Outline) (path : List ℕ) (names : List (Bor (List ℕ))) (o : Option Site) → path_names path ≡ Some (map (λ n. n.now) names)
    → MatchOption o (names ≡ []) (IsSite t (map (λ n. n.now) names)) → MatchOption o (is_bad_path path ≡ true) (IsSiteOf t path)
site_answer t path names None is has = bad_root path names has is
site_answer t path names (Some site) is has = site_of_path t path (map (λ n. n.now) names) site is has

-- all names of a path but the last
pub front_is : (path : List ℕ) (names front : List (Bor (List ℕ))) (last : Bor (List ℕ)) → path_names path ≡ Some (map (λ n. n.now) names) → names ≡ front ++ last ∷ []
    → map (λ n. n.now) front ≡ names_above path
front_is path names front last is parts =
    sym
    (ap (λ (o : Option (List (List ℕ))). all_but_last (unwrap_or o [])) is
    ∙ ap (λ (ns : List (Bor (List ℕ))). all_but_last (map (λ n. n.now) ns)) parts
    ∙ ap all_but_last (map-append (λ (n : Bor (List ℕ)). n.now) front (last ∷ []))
    ∙ all_but_last-push (map (λ (n : Bor (List ℕ)). n.now) front) last.now)
