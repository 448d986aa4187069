-- The walks give the live names, all of them, in order.
use Rattle.std.proofs.Common.{◌≡◌, ℕ, Bool, List, [], ◌∷◌, ◌++◌, map, Option, Some, None, refl, ap, sym, ◌∙◌, subst, Ordering}
use Rattle.std.specs.Prelude.{Contains, T, filter, ◌==◌}
use Rattle.std.specs.declared.cmp.Ordering.TheVariants.{Less}
use Rattle.std.specs.List.{flat_map}
use Rattle.std.specs.List.Sorted.{IsStrictlySortedBy}
use Rattle.std.specs.Option.{option_and_then, option_map}
use Rattle.std.specs.Ordering.{nat_cmp, is_eq, ordering_then}
use Rattle.std.specs.Cmp.{nat_cmp_total, tied_itself}
use Rattle.std.specs.Cmp.Lexicographic.{slice_cmp}
use Rattle.std.specs.Cow.{cow_slice_items}
use Rattle.std.specs.BTreeMap.{get, IsOrdered}
use Rattle.std.specs.FinMap.{entries, entries_sorted}
use Rattle.std.specs.FinMap.Entries.{below_all, is_sorted, is_sorted-where_key}
use Rattle.std.proofs.lemmas.Bool.{eq-eqb, eqb-true}
use Rattle.std.proofs.lemmas.Option.{same_Some}
use Rattle.std.proofs.lemmas.List.{map-append}
use Rattle.std.proofs.lemmas.List.Elements.{All-contains}
use Rattle.std.proofs.lemmas.Slice.Eq.{bytes_eq-Decides}
use Rattle.std.proofs.lemmas.Map.Keys.{sorted_tail}
use Rattle.std.proofs.lemmas.Map.Lookups.{exact_unsigned}
use Rattle.std.proofs.lemmas.Map.Text.{is_eq-slice_cmp}
use Rattle.std.proofs.lemmas.Map.Views.{All-after_first, Contains-from_lookup, tells_apart}
use Rattle.jname.specs.declared.versions.Versions.{Versions}
use Rattle.jname.specs.declared.apart.Apart.{Apart}
use Rattle.jname.specs.Versions.{IsLiveIn, version_at}
use Rattle.jname.specs.ContentsByName.{Name, name_cmp, versions_of_name}
use Rattle.jname.specs.NameMaps.{names_in}
use Rattle.jname.specs.Directories.{DirectoriesByNumber, content_held}
use Rattle.jname.specs.Entries.{entries_of}
use Rattle.jname.specs.Live.{Key, key_cmp, live, live_names, names_of, all_names}
use Rattle.jname.specs.Walk.{live_ino, live_name, names_under, with_parent, names_within}
use Rattle.flashbase.proofs.MemberLemmas.{Contains-map, Contains-map_from, Contains-flat_map, Contains-flat_map_from, Contains-filter, Contains-filter_from, Contains-lookup, Contains-here, Contains-filter_map, Contains-filter_map_from}
use Rattle.jname.proofs.NameMapLemmas.{names_ordered}
use Rattle.jname.proofs.EntriesLemmas.{nat_found, name_found}
use Rattle.jname.proofs.LiveLemmas.{live-is}
use Rattle.jname.proofs.WalkLemmas.{live_ino-IsLiveIn}
use Rattle.jname.proofs.SortedLemmas.{T_both, T_first, T_second, below_all-from, below_all-at, is_sorted-append, is_sorted-cons_option, same_members}
use Rattle.jname.proofs.NamingLemmas.{key_cmp_total, key_cmp-IsAntisymmetric, live-from_Contains, Contains-from_live}

-- ---- what a name stands for, by what is stored

pub live-at_name : (directories : DirectoriesByNumber) → IsOrdered nat_cmp directories → (pino : ℕ) (d : Apart) (name : List ℕ) (versions : Versions) → get nat_cmp directories pino ≡ Some d → versions_of_name (names_in d.directory.value.names) name ≡ Some versions
    → live_ino versions ≡ live (entries_of directories) (pino, name)
live-at_name directories ordered pino d name versions directory found =
    live-is directories ordered (pino, name) (live_ino versions)
    (subst (λ (o : Option Apart). IsLiveIn (λ v. option_and_then (λ (e : Apart). content_held e name v) o) (live_ino versions)) (sym directory)
    (subst (λ (o : Option Versions). IsLiveIn (λ v. option_and_then (λ (m : Versions). version_at m v) o) (live_ino versions)) (sym found) (live_ino-IsLiveIn versions)))

nothing : IsLiveIn (λ v. None) None
nothing v content top = let no : None ≡ Some content = top.0 in cc

pub live-no_name : (directories : DirectoriesByNumber) → IsOrdered nat_cmp directories → (pino : ℕ) (d : Apart) (name : List ℕ) → get nat_cmp directories pino ≡ Some d → versions_of_name (names_in d.directory.value.names) name ≡ None
    → None ≡ live (entries_of directories) (pino, name)
live-no_name directories ordered pino d name directory none =
    live-is directories ordered (pino, name) None
    (subst (λ (o : Option Apart). IsLiveIn (λ v. option_and_then (λ (e : Apart). content_held e name v) o) None) (sym directory)
    (subst (λ (o : Option Versions). IsLiveIn (λ v. option_and_then (λ (m : Versions). version_at m v) o) None) (sym none) nothing))

pub live-no_directory : (directories : DirectoriesByNumber) → IsOrdered nat_cmp directories → (pino : ℕ) (name : List ℕ) → get nat_cmp directories pino ≡ None → None ≡ live (entries_of directories) (pino, name)
live-no_directory directories ordered pino name none =
    live-is directories ordered (pino, name) None
    (subst (λ (o : Option Apart). IsLiveIn (λ v. option_and_then (λ (e : Apart). content_held e name v) o) None) (sym none) nothing)

-- ---- the names of one directory

named_from : (e : Name × Versions) (x : List ℕ × ℕ) (o : Option ℕ) → live_ino e.1 ≡ o → option_map (λ ino. (cow_slice_items e.0, ino)) o ≡ Some x → (cow_slice_items e.0 ≡ x.0) × (live_ino e.1 ≡ Some x.1)
named_from e x None is h = let no : None ≡ Some x = h in cc
named_from e x (Some ino) is h =
    let same : (cow_slice_items e.0, ino) ≡ x = same_Some (cow_slice_items e.0, ino) x h in
    (ap (λ (p : List ℕ × ℕ). p.0) same, is ∙ ap (λ (p : List ℕ × ℕ). Some p.1) same)

live_name-from : (e : Name × Versions) (x : List ℕ × ℕ) → live_name e ≡ Some x → (cow_slice_items e.0 ≡ x.0) × (live_ino e.1 ≡ Some x.1)
live_name-from e x h = named_from e x (live_ino e.1) refl h

-- a name that the walk gives is live
pub live-from_names_under : (directories : DirectoriesByNumber) → IsOrdered nat_cmp directories → (pino : ℕ) (d : Apart) → get nat_cmp directories pino ≡ Some d → (x : List ℕ × ℕ) → Contains (names_under (names_in d.directory.value.names)) x
    → live (entries_of directories) (pino, x.0) ≡ Some x.1
live-from_names_under directories ordered pino d directory x h =
    let k = Contains-filter_map_from live_name (names_in d.directory.value.names) x h in
    let is = live_name-from k.0 x k.2 in
    let found : versions_of_name (names_in d.directory.value.names) x.0 ≡ Some k.0.1 = subst (λ (n : List ℕ). versions_of_name (names_in d.directory.value.names) n ≡ Some k.0.1) is.0 (name_found d.directory.value.names k.0.0 k.0.1 k.1) in
    sym (live-at_name directories ordered pino d x.0 k.0.1 directory found) ∙ is.1

given_name : (directories : DirectoriesByNumber) → IsOrdered nat_cmp directories → (pino : ℕ) (d : Apart) → get nat_cmp directories pino ≡ Some d → (x : List ℕ × ℕ) (o : Option Versions) → versions_of_name (names_in d.directory.value.names) x.0 ≡ o
    → live (entries_of directories) (pino, x.0) ≡ Some x.1 → Contains (names_under (names_in d.directory.value.names)) x
given_name directories ordered pino d directory x None none h =
    let no : None ≡ Some x.1 = live-no_name directories ordered pino d x.0 directory none ∙ h in cc
given_name directories ordered pino d directory x (Some versions) found h =
    let k = Contains-lookup (λ (k : Name). is_eq (slice_cmp nat_cmp x.0 (cow_slice_items k))) (names_in d.directory.value.names) versions found in
    let same : x.0 ≡ cow_slice_items k.0 = (bytes_eq-Decides x.0 (cow_slice_items k.0)).0 (sym (is_eq-slice_cmp x.0 (cow_slice_items k.0)) ∙ k.2) in
    let ino : live_ino versions ≡ Some x.1 = live-at_name directories ordered pino d x.0 versions directory found ∙ h in
    Contains-filter_map live_name (names_in d.directory.value.names) (k.0, versions) x k.1
    (ap (λ (o : Option ℕ). option_map (λ n. (cow_slice_items k.0, n)) o) ino ∙ ap (λ (n : List ℕ). Some (n, x.1)) (sym same))

-- a name that is live is given
pub names_under-from_live : (directories : DirectoriesByNumber) → IsOrdered nat_cmp directories → (pino : ℕ) (d : Apart) → get nat_cmp directories pino ≡ Some d → (x : List ℕ × ℕ)
    → live (entries_of directories) (pino, x.0) ≡ Some x.1 → Contains (names_under (names_in d.directory.value.names)) x
names_under-from_live directories ordered pino d directory x h = given_name directories ordered pino d directory x (versions_of_name (names_in d.directory.value.names) x.0) refl h

-- names rise
pub is_sorted-names_under : (es : List (Name × Versions)) → IsStrictlySortedBy name_cmp (map (λ e. e.0) es) → T (is_sorted (slice_cmp nat_cmp) (names_under es))
is_sorted-names_under [] h = tt
is_sorted-names_under (e ∷ es) h =
    is_sorted-cons_option (slice_cmp nat_cmp) (live_name e) (names_under es) (is_sorted-names_under es (sorted_tail name_cmp e.0 (map (λ (p : Name × Versions). p.0) es) h))
    (λ x is. below_all-from (slice_cmp nat_cmp) x.0 (names_under es) (λ y there.
    let k = Contains-filter_map_from live_name es y there in
    let less : name_cmp e.0 k.0.0 ≡ Less = All-contains (λ (q : Name). name_cmp e.0 q ≡ Less) (map (λ (p : Name × Versions). p.0) es) k.0.0 (All-after_first name_cmp e.0 (map (λ (p : Name × Versions). p.0) es) h) (Contains-map (λ (p : Name × Versions). p.0) es k.0 k.1) in
    subst (λ (n : List ℕ). slice_cmp nat_cmp n y.0 ≡ Less) (live_name-from e x is).0
    (subst (λ (n : List ℕ). slice_cmp nat_cmp (cow_slice_items e.0) n ≡ Less) (live_name-from k.0 y k.2).0 less)))

-- ---- with the directory's number

abbrev pub keyed : ℕ → List ℕ × ℕ → Key × ℕ
keyed pino x = ((pino, x.0), x.1)

key_less : (pino : ℕ) (a b : List ℕ) → slice_cmp nat_cmp a b ≡ Less → key_cmp (pino, a) (pino, b) ≡ Less
key_less pino a b h = ap (λ (o : Ordering). ordering_then o (slice_cmp nat_cmp a b)) (tied_itself nat_cmp_total pino) ∙ h

number_less : (p q : ℕ) (a b : List ℕ) → nat_cmp p q ≡ Less → key_cmp (p, a) (q, b) ≡ Less
number_less p q a b h = ap (λ (o : Ordering). ordering_then o (slice_cmp nat_cmp a b)) h

pub is_sorted-keyed : (pino : ℕ) (xs : List (List ℕ × ℕ)) → T (is_sorted (slice_cmp nat_cmp) xs) → T (is_sorted key_cmp (map (keyed pino) xs))
is_sorted-keyed pino [] h = tt
is_sorted-keyed pino (x ∷ xs) h =
    T_both (below_all key_cmp (pino, x.0) (map (keyed pino) xs)) (is_sorted key_cmp (map (keyed pino) xs))
    (below_all-from key_cmp (pino, x.0) (map (keyed pino) xs) (λ e there.
    let y = Contains-map_from (keyed pino) xs e there in
    subst (λ (z : Key × ℕ). key_cmp (pino, x.0) z.0 ≡ Less) y.2 (key_less pino x.0 y.0.0 (below_all-at (slice_cmp nat_cmp) x.0 xs y.0 (T_first (below_all (slice_cmp nat_cmp) x.0 xs) (is_sorted (slice_cmp nat_cmp) xs) h) y.1))))
    (is_sorted-keyed pino xs (T_second (below_all (slice_cmp nat_cmp) x.0 xs) (is_sorted (slice_cmp nat_cmp) xs) h))

-- the names of directories, by their keys
abbrev pub keyed_within : List (ℕ × Apart) → List (Key × ℕ)
keyed_within es = flat_map (λ e. map (keyed e.0) (names_under (names_in e.1.directory.value.names))) es

pub is_sorted-keyed_within : (es : List (ℕ × Apart)) → IsStrictlySortedBy nat_cmp (map (λ e. e.0) es) → T (is_sorted key_cmp (keyed_within es))
is_sorted-keyed_within [] h = tt
is_sorted-keyed_within (e ∷ es) h =
    is_sorted-append key_cmp (map (keyed e.0) (names_under (names_in e.1.directory.value.names))) (keyed_within es)
    (is_sorted-keyed e.0 (names_under (names_in e.1.directory.value.names)) (is_sorted-names_under (names_in e.1.directory.value.names) (names_ordered e.1.directory.value.names)))
    (is_sorted-keyed_within es (sorted_tail nat_cmp e.0 (map (λ (p : ℕ × Apart). p.0) es) h))
    (λ x y in_x in_y.
    let a = Contains-map_from (keyed e.0) (names_under (names_in e.1.directory.value.names)) x in_x in
    let d = Contains-flat_map_from (λ (f : ℕ × Apart). map (keyed f.0) (names_under (names_in f.1.directory.value.names))) es y in_y in
    let b = Contains-map_from (keyed d.0.0) (names_under (names_in d.0.1.directory.value.names)) y d.2 in
    let less : nat_cmp e.0 d.0.0 ≡ Less = All-contains (λ (q : ℕ). nat_cmp e.0 q ≡ Less) (map (λ (p : ℕ × Apart). p.0) es) d.0.0 (All-after_first nat_cmp e.0 (map (λ (p : ℕ × Apart). p.0) es) h) (Contains-map (λ (p : ℕ × Apart). p.0) es d.0 d.1) in
    subst (λ (w : Key × ℕ). key_cmp w.0 y.0 ≡ Less) a.2 (subst (λ (z : Key × ℕ). key_cmp (e.0, a.0.0) z.0 ≡ Less) b.2 (number_less e.0 d.0.0 a.0.0 b.0.0 less)))

live-from_keyed : (directories : DirectoriesByNumber) → IsOrdered nat_cmp directories → (x : Key × ℕ) → Contains (keyed_within directories.entries) x → live (entries_of directories) x.0 ≡ Some x.1
live-from_keyed directories ordered x h =
    let d = Contains-flat_map_from (λ (f : ℕ × Apart). map (keyed f.0) (names_under (names_in f.1.directory.value.names))) directories.entries x h in
    let y = Contains-map_from (keyed d.0.0) (names_under (names_in d.0.1.directory.value.names)) x d.2 in
    subst (λ (z : Key × ℕ). live (entries_of directories) z.0 ≡ Some z.1) y.2
    (live-from_names_under directories ordered d.0.0 d.0.1 (nat_found directories.entries d.0.0 d.0.1 ordered d.1) y.0 y.1)

given_key : (directories : DirectoriesByNumber) → IsOrdered nat_cmp directories → (x : Key × ℕ) (o : Option Apart) → get nat_cmp directories x.0.0 ≡ o → live (entries_of directories) x.0 ≡ Some x.1 → Contains (keyed_within directories.entries) x
given_key directories ordered x None none h =
    let no : None ≡ Some x.1 = live-no_directory directories ordered x.0.0 x.0.1 none ∙ h in cc
given_key directories ordered x (Some d) there h =
    Contains-flat_map (λ (f : ℕ × Apart). map (keyed f.0) (names_under (names_in f.1.directory.value.names))) directories.entries (x.0.0, d) x
    (Contains-from_lookup (tells_apart exact_unsigned) x.0.0 d directories.entries there)
    (Contains-map (keyed x.0.0) (names_under (names_in d.directory.value.names)) (x.0.1, x.1) (names_under-from_live directories ordered x.0.0 d there (x.0.1, x.1) h))

-- the walk over all directories is the map of live names
pub entries-live_names : (directories : DirectoriesByNumber) → IsOrdered nat_cmp directories → keyed_within directories.entries ≡ entries (live_names (entries_of directories))
entries-live_names directories ordered =
    same_members key_cmp key_cmp_total key_cmp-IsAntisymmetric (keyed_within directories.entries) (entries (live_names (entries_of directories)))
    (is_sorted-keyed_within directories.entries ordered) (entries_sorted (live_names (entries_of directories)))
    (λ x. (
      λ h. Contains-from_live (entries_of directories) x.0 x.1 (live-from_keyed directories ordered x h),
      λ h. given_key directories ordered x (get nat_cmp directories x.0.0) refl (live-from_Contains (entries_of directories) x.0 x.1 h),
    ))

abbrev spread : Key × ℕ → ℕ × List ℕ × ℕ
spread e = (e.0.0, e.0.1, e.1)

map-spread_keyed : (pino : ℕ) (xs : List (List ℕ × ℕ)) → map spread (map (keyed pino) xs) ≡ map (with_parent pino) xs
map-spread_keyed pino [] = refl
map-spread_keyed pino (x ∷ xs) = ap (λ (ys : List (ℕ × List ℕ × ℕ)). (pino, x.0, x.1) ∷ ys) (map-spread_keyed pino xs)

map-spread : (es : List (ℕ × Apart)) → map spread (keyed_within es) ≡ names_within es
map-spread [] = refl
map-spread (e ∷ es) =
    map-append spread (map (keyed e.0) (names_under (names_in e.1.directory.value.names))) (keyed_within es)
    ∙ ap (λ (xs : List (ℕ × List ℕ × ℕ)). xs ++ map spread (keyed_within es)) (map-spread_keyed e.0 (names_under (names_in e.1.directory.value.names)))
    ∙ ap (λ (ys : List (ℕ × List ℕ × ℕ)). map (with_parent e.0) (names_under (names_in e.1.directory.value.names)) ++ ys) (map-spread es)

pub names_within-is : (directories : DirectoriesByNumber) → IsOrdered nat_cmp directories → names_within directories.entries ≡ all_names (entries_of directories)
names_within-is directories ordered = sym (map-spread directories.entries) ∙ ap (λ (es : List (Key × ℕ)). map spread es) (entries-live_names directories ordered)

-- ---- one directory's part of the map

abbrev in_number : ℕ → Key × ℕ → Bool
in_number pino e = e.0.0 == pino

abbrev part_of : DirectoriesByNumber → ℕ → List (Key × ℕ)
part_of directories pino = filter (in_number pino) (entries (live_names (entries_of directories)))

live-from_part : (directories : DirectoriesByNumber) (pino : ℕ) (x : Key × ℕ) → Contains (part_of directories pino) x → (x.0.0 ≡ pino) × (live (entries_of directories) (pino, x.0.1) ≡ Some x.1)
live-from_part directories pino x h =
    let found = Contains-filter_from (in_number pino) (entries (live_names (entries_of directories))) x h in
    let number : x.0.0 ≡ pino = eqb-true x.0.0 pino found.1 in
    (number, subst (λ (p : ℕ). live (entries_of directories) (p, x.0.1) ≡ Some x.1) number (live-from_Contains (entries_of directories) x.0 x.1 found.0))

part-from_live : (directories : DirectoriesByNumber) (pino : ℕ) (x : List ℕ × ℕ) → live (entries_of directories) (pino, x.0) ≡ Some x.1 → Contains (part_of directories pino) (keyed pino x)
part-from_live directories pino x h =
    Contains-filter (in_number pino) (entries (live_names (entries_of directories))) (keyed pino x) (eq-eqb pino pino refl) (Contains-from_live (entries_of directories) (pino, x.0) x.1 h)

keyed-part : (directories : DirectoriesByNumber) → IsOrdered nat_cmp directories → (pino : ℕ) (d : Apart) → get nat_cmp directories pino ≡ Some d → map (keyed pino) (names_under (names_in d.directory.value.names)) ≡ part_of directories pino
keyed-part directories ordered pino d directory =
    same_members key_cmp key_cmp_total key_cmp-IsAntisymmetric (map (keyed pino) (names_under (names_in d.directory.value.names))) (part_of directories pino)
    (is_sorted-keyed pino (names_under (names_in d.directory.value.names)) (is_sorted-names_under (names_in d.directory.value.names) (names_ordered d.directory.value.names)))
    (is_sorted-where_key key_cmp (λ (k : Key). k.0 == pino) (entries (live_names (entries_of directories))) (entries_sorted (live_names (entries_of directories))))
    (λ x. (
      λ h.
          let y = Contains-map_from (keyed pino) (names_under (names_in d.directory.value.names)) x h in
          subst (λ (z : Key × ℕ). Contains (part_of directories pino) z) y.2 (part-from_live directories pino y.0 (live-from_names_under directories ordered pino d directory y.0 y.1)),
      λ h.
          let is = live-from_part directories pino x h in
          subst (λ (p : ℕ). Contains (map (keyed pino) (names_under (names_in d.directory.value.names))) ((p, x.0.1), x.1)) (sym is.0)
          (Contains-map (keyed pino) (names_under (names_in d.directory.value.names)) (x.0.1, x.1) (names_under-from_live directories ordered pino d directory (x.0.1, x.1) is.1)),
    ))

abbrev unkeyed : Key × ℕ → List ℕ × ℕ
unkeyed e = (e.0.1, e.1)

map-unkeyed : (pino : ℕ) (xs : List (List ℕ × ℕ)) → map unkeyed (map (keyed pino) xs) ≡ xs
map-unkeyed pino [] = refl
map-unkeyed pino (x ∷ xs) = ap (λ (ys : List (List ℕ × ℕ)). x ∷ ys) (map-unkeyed pino xs)

pub names_under-is : (directories : DirectoriesByNumber) → IsOrdered nat_cmp directories → (pino : ℕ) (d : Apart) → get nat_cmp directories pino ≡ Some d → names_under (names_in d.directory.value.names) ≡ names_of (entries_of directories) pino
names_under-is directories ordered pino d directory =
    sym (map-unkeyed pino (names_under (names_in d.directory.value.names))) ∙ ap (λ (es : List (Key × ℕ)). map unkeyed es) (keyed-part directories ordered pino d directory)

empty_of_none : {X : Type 0} (xs : List X) → ((x : X) → Contains xs x → ⊥) → xs ≡ []
empty_of_none [] h = refl
empty_of_none (x ∷ xs) h = absurd (h x (Contains-here x xs))

pub names_of-none : (directories : DirectoriesByNumber) → IsOrdered nat_cmp directories → (pino : ℕ) → get nat_cmp directories pino ≡ None → [] ≡ names_of (entries_of directories) pino
names_of-none directories ordered pino none =
    let part : part_of directories pino ≡ [] = empty_of_none (part_of directories pino) (λ x h. let no : None ≡ Some x.1 = live-no_directory directories ordered pino x.0.1 none ∙ (live-from_part directories pino x h).1 in cc) in
    ap (λ (es : List (Key × ℕ)). map unkeyed es) (sym part)
