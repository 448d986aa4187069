-- The names of a directory.
use Rattle.std.proofs.Common.{◌≡◌, ℕ, Bool, ◌&&◌, cond, List, [], ◌∷◌, map, Option, Some, None, ap, sym, ◌∙◌, subst, arith}
use Rattle.std.specs.Prelude.{if◌then◌else◌, ◌==◌}
use Rattle.std.specs.List.Sorted.{IsStrictlySortedBy}
use Rattle.std.specs.Option.{option_and_then}
use Rattle.std.specs.Cmp.Lexicographic.{nat_list_eq_equiv}
use Rattle.std.specs.Cow.{cow_slice_items}
use Rattle.std.specs.Str.{bytes_eq}
use Rattle.std.proofs.lemmas.Bool.{false≢true}
use Rattle.std.proofs.lemmas.Map.Text.{is_eq-slice_cmp}
use Rattle.jname.specs.declared.versions.Content.{Content}
use Rattle.jname.specs.declared.versions.Versions.{Versions}
use Rattle.jname.specs.declared.name_map.NameMap.{NameMap}
use Rattle.jname.specs.Versions.{version_at}
use Rattle.jname.specs.ContentsByName.{Name, name_cmp, versions_of_name, content_in}
use Rattle.jname.specs.NameMaps.{names_in}
use Rattle.jname.proofs.ContentsByNameLemmas.{by_test, HasOneMore, IsBound, bound_of_one_more}

pub names_ordered : (names : NameMap) → IsStrictlySortedBy name_cmp (map (λ e. e.0) (names_in names))
names_ordered names = names.ordered

-- ---- an only name

same_test : (n m : List ℕ) → bytes_eq n m ≡ bytes_eq m n
same_test n m = nat_list_eq_equiv.symm n m

of_one : (e : Name × Versions) (name : List ℕ) → versions_of_name (e ∷ []) name ≡ cond (bytes_eq (cow_slice_items e.0) name) (Some e.1) None
of_one e name = ap (λ (b : Bool). cond b (Some e.1) None) (is_eq-slice_cmp name (cow_slice_items e.0) ∙ same_test name (cow_slice_items e.0))

at_version : ℕ → Option Versions → Option Content
at_version v o = option_and_then (λ (x : Versions). version_at x v) o

content_one : (e : Name × Versions) (n : List ℕ) (v : ℕ) → content_in (e ∷ []) n v ≡ at_version v (cond (bytes_eq (cow_slice_items e.0) n) (Some e.1) None)
unfolding at_version
content_one e n v = ap (at_version v) (of_one e n)

-- and the first of all
pub first_more : (names : NameMap) (k : Name) (versions : Versions) (version : ℕ) (content : Content) → names_in names ≡ (k, versions) ∷ []
    → ((v : ℕ) → version_at versions v ≡ (if version == v then Some content else None)) → HasOneMore [] (names_in names) (cow_slice_items k) version content
unfolding at_version
first_more names k versions version content is more =
    subst (λ (es : List (Name × Versions)). HasOneMore [] es (cow_slice_items k) version content) (sym is)
    (λ n v. by_test (bytes_eq (cow_slice_items k) n)
    (λ e. content_one (k, versions) n v ∙ ap (λ (b : Bool). at_version v (cond b (Some versions) None)) e ∙ more v
    ∙ ap (λ (b : Bool). if b && version == v then Some content else None) (sym e))
    (λ e. content_one (k, versions) n v ∙ ap (λ (b : Bool). at_version v (cond b (Some versions) None)) e
    ∙ ap (λ (b : Bool). if b && version == v then Some content else None) (sym e)))

pub bound_of_first : (names : List (Name × Versions)) (name : List ℕ) (version : ℕ) (content : Content) → HasOneMore [] names name version content → IsBound names version
bound_of_first names name version content more =
    bound_of_one_more [] names name version content 0 version more (omega arith) (λ n v h. absurd (false≢true h))
