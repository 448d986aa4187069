-- An entry is in the list exactly where its content is stored at its directory, name and version.
use Rattle.std.proofs.Common.{◌≡◌, ℕ, List, [], map, Option, Some, None, refl, ap, sym, ◌∙◌, subst, ⊎_elim}
use Rattle.std.specs.Prelude.{Contains}
use Rattle.std.specs.List.{flat_map}
use Rattle.std.specs.List.Sorted.{IsStrictlySortedBy}
use Rattle.std.specs.Option.{option_and_then}
use Rattle.std.specs.Ordering.{nat_cmp, is_eq, eq_by_cmp}
use Rattle.std.specs.Cmp.{nat_cmp_total, eq_by_cmp_equiv, on_total, IsTotalOrder}
use Rattle.std.specs.Cmp.Lexicographic.{slice_cmp, nat_list_cmp_total}
use Rattle.std.specs.Cow.{cow_slice_items}
use Rattle.std.specs.Map.{lookup}
use Rattle.std.specs.BTreeMap.{get, IsOrdered}
use Rattle.std.proofs.lemmas.List.Folds.{flat_map-map}
use Rattle.std.proofs.lemmas.Slice.Eq.{bytes_eq-Decides}
use Rattle.std.proofs.lemmas.Map.Keys.{IsDistinct-from_sorted}
use Rattle.std.proofs.lemmas.Map.Lookups.{exact_unsigned}
use Rattle.std.proofs.lemmas.Map.Text.{is_eq-slice_cmp}
use Rattle.std.proofs.lemmas.Map.Views.{lookup-from_Contains, Contains-from_lookup, tells_apart}
use Rattle.jnode.specs.declared.node.Dirent.{Dirent}
use Rattle.jname.specs.declared.versions.Content.{Content}
use Rattle.jname.specs.declared.versions.Versions.{Versions}
use Rattle.jname.specs.declared.versions.Versions.TheVariants.{One, Several}
use Rattle.jname.specs.declared.apart.Apart.{Apart}
use Rattle.jname.specs.Versions.{contents_of, version_at}
use Rattle.jname.specs.declared.name_map.NameMap.{NameMap}
use Rattle.jname.specs.ContentsByName.{Name, name_cmp, versions_of_name, with_contents, HasSameContents}
use Rattle.jname.specs.NameMaps.{names_in}
use Rattle.jname.specs.Directories.{DirectoriesByNumber, content_at, content_held}
use Rattle.jname.specs.Entries.{content_of_entry, entry_of, entries_under, entries_in_directory, entries_of}
use Rattle.jname.proofs.NameMapLemmas.{names_ordered}
use Rattle.jname.proofs.VersionLemmas.{newest_at, older_at, only_at}
use Rattle.flashbase.proofs.MemberLemmas.{Contains-none, Contains-cases, Contains-map, Contains-map_from, Contains-flat_map, Contains-flat_map_from, Contains-lookup}

-- what a step gives comes from a value
and_then_from : {A B : Type 0} (f : A → Option B) (o : Option A) (b : B) → option_and_then f o ≡ Some b → (a : A) × (o ≡ Some a) × (f a ≡ Some b)
and_then_from f None b h = let no : None ≡ Some b = h in cc
and_then_from f (Some a) b h = (a, refl, h)

pub nat_found : {X : Type 0} (es : List (ℕ × X)) (k : ℕ) (x : X) → IsStrictlySortedBy nat_cmp (map (λ e. e.0) es) → Contains es (k, x) → lookup (eq_by_cmp nat_cmp k) es ≡ Some x
nat_found es k x sorted h = lookup-from_Contains (eq_by_cmp_equiv nat_cmp_total) k x es (IsDistinct-from_sorted nat_cmp _ sorted) h

-- a content that is stored at a version is found there
pub version_found : (versions : Versions) (v : ℕ) (content : Content) → Contains (contents_of versions) (v, content) → version_at versions v ≡ Some content
version_found (One version only) v content h =
    ⊎_elim
    (λ is. only_at version only v (sym (ap (λ (e : ℕ × Content). e.0) is)) ∙ ap (λ (e : ℕ × Content). Some e.1) is)
    (λ none. absurd (Contains-none (v, content) none))
    (Contains-cases (version, only) [] (v, content) h)
version_found (Several several) v content h =
    let sorted = several.value in
    ⊎_elim
    (λ is. newest_at sorted v (sym (ap (λ (e : ℕ × Content). e.0) is)) ∙ ap (λ (e : ℕ × Content). Some e.1) is)
    (λ older. older_at sorted v content (nat_found sorted.older.entries v content sorted.ordered older))
    (Contains-cases (sorted.greatest, sorted.newest) sorted.older.entries (v, content) h)

name_cmp_total : IsTotalOrder name_cmp
name_cmp_total = on_total cow_slice_items nat_list_cmp_total

pub name_found : (names : NameMap) (k : Name) (versions : Versions) → Contains (names_in names) (k, versions) → versions_of_name (names_in names) (cow_slice_items k) ≡ Some versions
name_found names k versions h = lookup-from_Contains (eq_by_cmp_equiv name_cmp_total) k versions (names_in names) (IsDistinct-from_sorted name_cmp _ (names_ordered names)) h

-- the content of an entry of the list is stored
pub content_at-from_Contains : (directories : DirectoriesByNumber) → IsOrdered nat_cmp directories → (x : Dirent) → Contains (entries_of directories) x → content_at directories x.pino x.name x.version ≡ Some (content_of_entry x)
unfolding entries_of
content_at-from_Contains directories ordered x h =
    let a = Contains-flat_map_from entries_in_directory directories.entries x h in
    let b = Contains-flat_map_from (entries_under a.0.0) (names_in a.0.1.directory.value.names) x a.2 in
    let c = Contains-map_from (entry_of a.0.0 (cow_slice_items b.0.0)) (contents_of b.0.1) x b.2 in
    let directory : get nat_cmp directories a.0.0 ≡ Some a.0.1 = nat_found directories.entries a.0.0 a.0.1 ordered a.1 in
    let name : versions_of_name (names_in a.0.1.directory.value.names) (cow_slice_items b.0.0) ≡ Some b.0.1 = name_found a.0.1.directory.value.names b.0.0 b.0.1 b.1 in
    let version : version_at b.0.1 c.0.0 ≡ Some c.0.1 = version_found b.0.1 c.0.0 c.0.1 c.1 in
    let there : content_at directories a.0.0 (cow_slice_items b.0.0) c.0.0 ≡ Some c.0.1 =
    ap (λ (o : Option Apart). option_and_then (λ d. content_held d (cow_slice_items b.0.0) c.0.0) o) directory
    ∙ ap (λ (o : Option Versions). option_and_then (λ vs. version_at vs c.0.0) o) name ∙ version in
    subst (λ (y : Dirent). content_at directories y.pino y.name y.version ≡ Some (content_of_entry y)) c.2 there

-- a content that is stored is that of an entry of the list
pub Contains-from_content_at : (directories : DirectoriesByNumber) (x : Dirent) → content_at directories x.pino x.name x.version ≡ Some (content_of_entry x) → Contains (entries_of directories) x
unfolding entries_of
Contains-from_content_at directories x h =
    let d = and_then_from (λ (d : Apart). content_held d x.name x.version) (get nat_cmp directories x.pino) (content_of_entry x) h in
    let vs = and_then_from (λ (vs : Versions). version_at vs x.version) (versions_of_name (names_in d.0.directory.value.names) x.name) (content_of_entry x) d.2 in
    let in_directories : Contains directories.entries (x.pino, d.0) = Contains-from_lookup (tells_apart exact_unsigned) x.pino d.0 directories.entries d.1 in
    let k = Contains-lookup (λ (k : Name). is_eq (slice_cmp nat_cmp x.name (cow_slice_items k))) (names_in d.0.directory.value.names) vs.0 vs.1 in
    let same_name : x.name ≡ cow_slice_items k.0 = (bytes_eq-Decides x.name (cow_slice_items k.0)).0 (sym (is_eq-slice_cmp x.name (cow_slice_items k.0)) ∙ k.2) in
    let in_versions : Contains (contents_of vs.0) (x.version, content_of_entry x) = Contains-from_lookup (tells_apart exact_unsigned) x.version (content_of_entry x) (contents_of vs.0) vs.2 in
    let under : Contains (entries_under x.pino (k.0, vs.0)) x =
    subst (λ (name : List ℕ). Contains (entries_under x.pino (k.0, vs.0)) (entry_of x.pino name (x.version, content_of_entry x))) (sym same_name)
    (Contains-map (entry_of x.pino (cow_slice_items k.0)) (contents_of vs.0) (x.version, content_of_entry x) in_versions) in
    Contains-flat_map entries_in_directory directories.entries (x.pino, d.0) x in_directories
    (Contains-flat_map (entries_under x.pino) (names_in d.0.directory.value.names) (k.0, vs.0) x k.1 under)

-- ---- the list, where a directory shows the same

shown_under : ℕ → Name × List (ℕ × Content) → List Dirent
shown_under pino s = map (entry_of pino (cow_slice_items s.0)) s.1

pub entries_in_directory-same : (pino : ℕ) (old new : Apart) → HasSameContents (names_in old.directory.value.names) (names_in new.directory.value.names) → entries_in_directory (pino, new) ≡ entries_in_directory (pino, old)
unfolding shown_under
entries_in_directory-same pino old new same =
    sym (flat_map-map (shown_under pino) with_contents (names_in new.directory.value.names))
    ∙ ap (λ (ss : List (Name × List (ℕ × Content))). flat_map (shown_under pino) ss) same
    ∙ flat_map-map (shown_under pino) with_contents (names_in old.directory.value.names)

-- the list is made of the lists of the directories
pub entries_of-same : (old new : DirectoriesByNumber) → map entries_in_directory new.entries ≡ map entries_in_directory old.entries → entries_of new ≡ entries_of old
unfolding entries_of
entries_of-same old new same =
    sym (flat_map-map (λ (es : List Dirent). es) entries_in_directory new.entries)
    ∙ ap (λ (ss : List (List Dirent)). flat_map (λ (es : List Dirent). es) ss) same
    ∙ flat_map-map (λ (es : List Dirent). es) entries_in_directory old.entries

pub entries_of-unchanged : (old new : DirectoriesByNumber) → new.entries ≡ old.entries → entries_of new ≡ entries_of old
entries_of-unchanged old new same = entries_of-same old new (ap (λ (es : List (ℕ × Apart)). map entries_in_directory es) same)

pub entries_of-none : (directories : DirectoriesByNumber) → directories.entries ≡ [] → entries_of directories ≡ []
unfolding entries_of
entries_of-none directories e = ap (λ (es : List (ℕ × Apart)). flat_map entries_in_directory es) e
