-- The names of a path are what is between its slashes.
use Rattle.std.proofs.Common.{◌≡◌, ℕ, Bool, true, false, not, ◌&&◌, cond, List, [], ◌∷◌, ◌++◌, length, drop, Some, None, refl, ap, sym, ◌∙◌, subst, arith}
use Rattle.std.specs.Prelude.{◌==◌, nat_lt, bytes_eq, is_some}
use Rattle.std.specs.List.{list_all, flat_map}
use Rattle.std.proofs.lemmas.Bool.{true≢false, false≢true, and_parts, eqb-true}
use Rattle.std.proofs.lemmas.Option.{same_Some}
use Rattle.std.proofs.lemmas.List.Sums.{AllPass-from_list_all, list_all-from_AllPass}
use Rattle.jmount.specs.Find.{is_name, path_text, IsPath, to_first, parts, names_if, path_names}
use Rattle.jmount.specs.Laws as law

-- a slash before each name
abbrev slashed : List (List ℕ) → List ℕ
slashed names = flat_map (λ n. 47 ∷ n) names

abbrev is_nil : List ℕ → Bool
is_nil [] = true
is_nil (b ∷ bytes) = false

-- ---- what is between the slashes of a text makes it up

slashed_first : (b : ℕ) (ps : List (List ℕ)) (rest : List ℕ) → slashed ps ≡ 47 ∷ rest → slashed (to_first b ps) ≡ 47 ∷ b ∷ rest
slashed_first b [] rest e = absurd (true≢false (ap is_nil e))
slashed_first b (p ∷ ps) rest e = ap (λ bs. 47 ∷ b ∷ drop 1 bs) e

slashed_part : (b : ℕ) (t : Bool) (ps : List (List ℕ)) (rest : List ℕ) → (b == 47) ≡ t → slashed ps ≡ 47 ∷ rest
    → slashed (cond t ([] ∷ ps) (to_first b ps)) ≡ 47 ∷ b ∷ rest
slashed_part b true ps rest slash e = ap (λ bs. 47 ∷ bs) e ∙ ap (λ (c : ℕ). 47 ∷ c ∷ rest) (sym (eqb-true b 47 slash))
slashed_part b false ps rest slash e = slashed_first b ps rest e

slashed-parts : (bytes : List ℕ) → slashed (parts bytes) ≡ 47 ∷ bytes
slashed-parts [] = refl
slashed-parts (b ∷ bytes) = slashed_part b (b == 47) (parts bytes) bytes refl (slashed-parts bytes)

path_text-slashed : (ps : List (List ℕ)) (rest : List ℕ) → slashed ps ≡ 47 ∷ rest → path_text ps ≡ 47 ∷ rest
path_text-slashed [] rest e = absurd (true≢false (ap is_nil e))
path_text-slashed (p ∷ ps) rest e = e

found : (bytes : List ℕ) (ps names : List (List ℕ)) (named : Bool) → list_all is_name ps ≡ named → cond named (Some ps) None ≡ Some names → 47 ∷ bytes ≡ path_text ps → IsPath (47 ∷ bytes) names
found bytes ps names true all e is =
    let same : ps ≡ names = same_Some ps names e in
    subst (λ ns. IsPath (47 ∷ bytes) ns) same (is, AllPass-from_list_all is_name ps all)
found bytes ps names false all e is = absurd (false≢true (ap is_some e))

alone : (b : ℕ) (slash : Bool) (names : List (List ℕ)) → (b == 47) ≡ slash → cond slash (Some []) None ≡ Some names → IsPath (b ∷ []) names
alone b true names t e =
    let same : [] ≡ names = same_Some [] names e in
    subst (λ ns. IsPath (b ∷ []) ns) same (ap (λ c. c ∷ []) (eqb-true b 47 t), λ k d l. absurd (omega arith))
alone b false names t e = absurd (false≢true (ap is_some e))

with_names : (b c : ℕ) (bytes : List ℕ) (slash : Bool) (names : List (List ℕ)) → (b == 47) ≡ slash → cond slash (names_if (parts (c ∷ bytes))) None ≡ Some names → IsPath (b ∷ c ∷ bytes) names
with_names b c bytes true names t e =
    let ps = parts (c ∷ bytes) in
    let is : path_text ps ≡ 47 ∷ c ∷ bytes = path_text-slashed ps (c ∷ bytes) (slashed-parts (c ∷ bytes)) in
    subst (λ (a : ℕ). IsPath (a ∷ c ∷ bytes) names) (sym (eqb-true b 47 t)) (found (c ∷ bytes) ps names (list_all is_name ps) refl e (sym is))
with_names b c bytes false names t e = absurd (false≢true (ap is_some e))

names-IsPath : (text : List ℕ) (names : List (List ℕ)) → path_names text ≡ Some names → IsPath text names
names-IsPath [] names e = absurd (false≢true (ap is_some e))
names-IsPath (b ∷ []) names e = alone b (b == 47) names refl e
names-IsPath (b ∷ c ∷ bytes) names e = with_names b c bytes (b == 47) names refl e

-- ---- names without slashes are found again

abbrev not_slash : ℕ → Bool
not_slash b = not (b == 47) && not (b == 0)

first_two : (a b c d : Bool) → (a && b && c && d) ≡ true → (a ≡ true) × (b ≡ true)
first_two true true c d h = (refl, refl)
first_two true false c d h = absurd (false≢true h)
first_two false b c d h = absurd (false≢true h)

name_parts : (name : List ℕ) → is_name name ≡ true → (nat_lt 0 (length name) ≡ true) × (list_all not_slash name ≡ true)
name_parts name h =
    first_two (nat_lt 0 (length name)) (list_all not_slash name) (not (bytes_eq name (46 ∷ []))) (not (bytes_eq name (46 ∷ 46 ∷ []))) h

no_slash : (t u : Bool) → (not t && u) ≡ true → t ≡ false
no_slash true u h = absurd (false≢true h)
no_slash false u h = refl

parts_more : (name rest : List ℕ) (ps : List (List ℕ)) → list_all not_slash name ≡ true → parts rest ≡ [] ∷ ps → parts (name ++ rest) ≡ name ∷ ps
parts_more [] rest ps none e = e
parts_more (b ∷ name) rest ps none e =
    let here = and_parts (not_slash b) (list_all not_slash name) none in
    ap (λ (t : Bool). cond t ([] ∷ parts (name ++ rest)) (to_first b (parts (name ++ rest)))) (no_slash (b == 47) (not (b == 0)) here.0)
    ∙ ap (to_first b) (parts_more name rest ps here.1 e)

parts-slashed : (names : List (List ℕ)) → list_all is_name names ≡ true → parts (slashed names) ≡ [] ∷ names
parts-slashed [] all = refl
parts-slashed (name ∷ names) all =
    let here = and_parts (is_name name) (list_all is_name names) all in
    ap (λ ps. [] ∷ ps) (parts_more name (slashed names) names (name_parts name here.0).1 (parts-slashed names here.1))

-- a text that begins with a slash, and with more
path_names-more : (name rest : List ℕ) → nat_lt 0 (length name) ≡ true → path_names (47 ∷ (name ++ rest)) ≡ names_if (parts (name ++ rest))
path_names-more [] rest some = absurd (false≢true some)
path_names-more (c ∷ name) rest some = refl

names_found : (names : List (List ℕ)) → list_all is_name names ≡ true → path_names (path_text names) ≡ Some names
names_found [] all = refl
names_found (name ∷ names) all =
    let here = and_parts (is_name name) (list_all is_name names) all in
    let name_is = name_parts name here.0 in
    path_names-more name (slashed names) name_is.0
    ∙ ap names_if (parts_more name (slashed names) names name_is.1 (parts-slashed names here.1))
    ∙ ap (λ (t : Bool). cond t (Some (name ∷ names)) None) all

pub path_names_exactly : law.PathNamesExactly
path_names_exactly text names = (
  names-IsPath text names,
  λ is. ap path_names is.0 ∙ names_found names (list_all-from_AllPass is_name names is.1),
)
