-- What is kept, by look-up.
use Rattle.jname.proofs.SortedLemmas.{find-from_Contains, Contains-from_find}
use Rattle.flashbase.proofs.MemberLemmas.{Contains-map, Contains-map_from}
use Rattle.std.proofs.lemmas.Map.Text.{is_eq-slice_cmp}
use Rattle.std.proofs.lemmas.Slice.Eq.{bytes_eq-Decides}
use Rattle.std.proofs.Common.{◌≡◌, ℕ, Bool, true, false, ◌||◌, List, [], ◌∷◌, map, cond, Option, Some, None, refl, ap, sym, ◌∙◌, length, arith}
use Rattle.std.specs.Prelude.{◌==◌, option_map, option_and_then, unwrap_or, is_some, not}
use Rattle.std.specs.List.{list_any, flat_map}
use Rattle.std.specs.Map.{lookup}
use Rattle.std.specs.Ordering.{nat_cmp, eq_by_cmp, is_eq, ordering_then}
use Rattle.std.specs.declared.cmp.Ordering.{Ordering}
use Rattle.std.specs.declared.cmp.Ordering.TheVariants.{Less, Equal, Greater}
use Rattle.std.specs.Cmp.{nat_cmp_total}
use Rattle.std.specs.Cmp.Lexicographic.{slice_cmp}
use Rattle.std.specs.BTreeMap.{get}
use Rattle.std.specs.FinMap as finite
use Rattle.std.specs.FinMap.{same_map, nat_cmp-IsAntisymmetric, entries_sorted, get-entries, find}
use Rattle.std.proofs.lemmas.Bool.{or_parts, true≢false, eqb-true, eq-eqb, ne_eqb, not_from_false}
use Rattle.std.proofs.lemmas.List.Folds.{list_any-append, Any-from_list_any, list_any-from_Any}
use Rattle.flashbase.proofs.ListLemmas.{get-tabled_all}
use Rattle.jname.specs.Live.{Key, key_cmp}
use Rattle.jname.proofs.NamingLemmas.{key_cmp_total, key_cmp-IsAntisymmetric}
use Rattle.jmount.specs.Tree.{object, type_bits, has_bits, directory_bits}
use Rattle.jmount.specs.Shown.{shown_outline}
use Rattle.jmount.proofs.StoredLemmas.{lookup-no_key}
use Rattle.jsteps.specs.Nodes.{Indexed}
use Rattle.jsteps.specs.Stored.{stored_outline, Objects, OwnedName, Directories, index_names, is_without_names, ino_in, ino_at, keys_under, stored_index}
use Rattle.jsteps.specs.declared.directories.Names.{Names}
use Rattle.jsteps.specs.declared.stored.Stored.{Stored}

-- ---- names

none_later : {X : Type 0} (b c : Bool) (x : X) (o : Option X) → (b || c) ≡ false → (c ≡ false → o ≡ None) → cond b (Some x) o ≡ None
none_later true c x o h later = absurd (true≢false h)
none_later false c x o h later = later h

-- the test of a key in its directory is that of the name
in_directory : (r : Ordering) (s : Ordering) → is_eq r ≡ true → is_eq (ordering_then r s) ≡ is_eq s
in_directory Less s h = absurd (true≢false (sym h))
in_directory Equal s h = refl
in_directory Greater s h = absurd (true≢false (sym h))

none_in : (q : Key) (dir : ℕ) (es : List (OwnedName × ℕ)) → is_eq (nat_cmp q.0 dir) ≡ true → list_any (eq_by_cmp key_cmp q) (map (λ n. (dir, n.0.items)) es) ≡ false
    → lookup (λ (k : OwnedName). is_eq (slice_cmp nat_cmp q.1 k.items)) es ≡ None
none_in q dir [] tied none = refl
none_in q dir (e ∷ es) tied none =
    let parts = or_parts (eq_by_cmp key_cmp q (dir, e.0.items)) (list_any (eq_by_cmp key_cmp q) (map (λ n. (dir, n.0.items)) es)) none in
    ap (λ (b : Bool). cond b (Some e.1) (lookup (λ (k : OwnedName). is_eq (slice_cmp nat_cmp q.1 k.items)) es))
    (sym (in_directory (nat_cmp q.0 dir) (slice_cmp nat_cmp q.1 e.0.items) tied) ∙ parts.0)
    ∙ none_in q dir es tied parts.1

found_under : (q : Key) (b : Bool) (e : Names) (o : Option Names) → (b ≡ true → ino_in e q.1 ≡ None) → option_and_then (λ names. ino_in names q.1) o ≡ None
    → option_and_then (λ names. ino_in names q.1) (cond b (Some e) o) ≡ None
found_under q true e o here later = here refl
found_under q false e o here later = later

none_at : (q : Key) (es : List (ℕ × Names)) → list_any (eq_by_cmp key_cmp q) (flat_map keys_under es) ≡ false
    → option_and_then (λ names. ino_in names q.1) (lookup (eq_by_cmp nat_cmp q.0) es) ≡ None
none_at q [] none = refl
none_at q (e ∷ es) none =
    let parts = or_parts (list_any (eq_by_cmp key_cmp q) (keys_under e)) (list_any (eq_by_cmp key_cmp q) (flat_map keys_under es))
    (sym (list_any-append (eq_by_cmp key_cmp q) (keys_under e) (flat_map keys_under es)) ∙ none) in
    found_under q (eq_by_cmp nat_cmp q.0 e.0) e.1 (lookup (eq_by_cmp nat_cmp q.0) es)
    (λ tied. none_in q e.0 (index_names e.1) tied parts.0)
    (none_at q es parts.1)

-- ---- what the index has at each number and name

pub object-stored : (objects : Objects) (directories : Directories) (next i : ℕ) → object (stored_index objects directories next).tree i ≡ option_map stored_outline (get nat_cmp objects i)
unfolding stored_index
object-stored objects directories next i =
    get-tabled_all nat_cmp nat_cmp_total nat_cmp-IsAntisymmetric (map (λ e. e.0) objects.entries) (λ j. option_map stored_outline (get nat_cmp objects j)) i
    (λ none. ap (option_map stored_outline) (lookup-no_key i objects.entries none))

pub top-stored : (objects : Objects) (directories : Directories) (next i : ℕ) → finite.get (stored_index objects directories next).tops i ≡ option_map (λ stored. stored.top) (get nat_cmp objects i)
unfolding stored_index
top-stored objects directories next i =
    get-tabled_all nat_cmp nat_cmp_total nat_cmp-IsAntisymmetric (map (λ e. e.0) objects.entries) (λ j. option_map (λ stored. stored.top) (get nat_cmp objects j)) i
    (λ none. ap (option_map (λ (stored : Stored). stored.top)) (lookup-no_key i objects.entries none))

pub name-stored : (objects : Objects) (directories : Directories) (next : ℕ) (key : Key) → finite.get (stored_index objects directories next).tree.names key ≡ ino_at directories key
unfolding stored_index
name-stored objects directories next key =
    get-tabled_all key_cmp key_cmp_total key_cmp-IsAntisymmetric (flat_map keys_under directories.entries) (ino_at directories) key
    (λ none. none_at key directories.entries none)

pub next-stored : (objects : Objects) (directories : Directories) (next : ℕ) → (stored_index objects directories next).tree.next ≡ next
unfolding stored_index
next-stored objects directories next = refl

-- an index is what it has
pub stored_index-is : (objects : Objects) (directories : Directories) (next : ℕ) (x : Indexed)
    → ((i : ℕ) → option_map stored_outline (get nat_cmp objects i) ≡ object x.tree i)
    → ((i : ℕ) → option_map (λ stored. stored.top) (get nat_cmp objects i) ≡ finite.get x.tops i)
    → ((key : Key) → ino_at directories key ≡ finite.get x.tree.names key)
    → next ≡ x.tree.next → stored_index objects directories next ≡ x
stored_index-is objects directories next x same_objects same_tops same_names same_next =
    let y = stored_index objects directories next in
    let objects_are = same_map nat_cmp_total nat_cmp-IsAntisymmetric y.tree.objects x.tree.objects (λ i. object-stored objects directories next i ∙ same_objects i) in
    let tops_are = same_map nat_cmp_total nat_cmp-IsAntisymmetric y.tops x.tops (λ i. top-stored objects directories next i ∙ same_tops i) in
    let names_are = same_map key_cmp_total key_cmp-IsAntisymmetric y.tree.names x.tree.names (λ key. name-stored objects directories next key ∙ same_names key) in
    let next_is : y.tree.next ≡ x.tree.next = next-stored objects directories next ∙ same_next in
    λ i. record { tree = record { objects = objects_are i; names = names_are i; next = next_is i }; tops = tops_are i }

pub shown-stored : (k : Option Stored) → unwrap_or (option_map (λ stored. Some (shown_outline (stored_outline stored))) k) None ≡ option_map shown_outline (option_map stored_outline k)
shown-stored None = refl
shown-stored (Some stored) = refl

pub directory-stored : (k : Option Stored) → unwrap_or (option_map (λ stored. type_bits stored.mode == directory_bits) k) false ≡ has_bits directory_bits (option_map stored_outline k)
directory-stored None = refl
directory-stored (Some stored) = refl

-- ---- whether a directory has names

-- whether names are kept of a directory
abbrev pub keeps_names : Directories → ℕ → Bool
keeps_names directories dir = unwrap_or (option_map (λ names. not (is_without_names names)) (get nat_cmp directories dir)) false

both_true : (a b : Bool) → (a ≡ true → b ≡ true) → (b ≡ true → a ≡ true) → a ≡ b
both_true true b f g = sym (f refl)
both_true false true f g = g refl
both_true false false f g = refl

some_kept : (names : Option Names) (name : List ℕ) (v : ℕ) → option_and_then (λ names. ino_in names name) names ≡ Some v → unwrap_or (option_map (λ names. not (is_without_names names)) names) false ≡ true
some_kept None name v e = absurd (true≢false (sym (ap is_some e)))
some_kept (Some names) name v e = by_entries (index_names names) (λ (es : List (OwnedName × ℕ)). lookup (λ (k : OwnedName). is_eq (slice_cmp nat_cmp name k.items)) es) refl e
  where
    by_entries : (es : List (OwnedName × ℕ)) (f : List (OwnedName × ℕ) → Option ℕ) → f [] ≡ None → f es ≡ Some v → not (length es == 0) ≡ true
    by_entries [] f none e = absurd (true≢false (sym (ap is_some (sym none ∙ e))))
    by_entries (x ∷ es) f none e = not_from_false (length (x ∷ es) == 0) (ne_eqb (length (x ∷ es)) 0 (λ z. omega arith))

first_found : (n : OwnedName) (v : ℕ) (es : List (OwnedName × ℕ)) → lookup (λ (k : OwnedName). is_eq (slice_cmp nat_cmp n.items k.items)) ((n, v) ∷ es) ≡ Some v
first_found n v es =
    ap (λ (b : Bool). cond b (Some v) (lookup (λ (k : OwnedName). is_eq (slice_cmp nat_cmp n.items k.items)) es)) (is_eq-slice_cmp n.items n.items ∙ (bytes_eq-Decides n.items n.items).1 refl)

-- a name that is kept, where names are
kept_name : (names : Option Names) → unwrap_or (option_map (λ names. not (is_without_names names)) names) false ≡ true
    → (name : List ℕ) × (v : ℕ) × (option_and_then (λ names. ino_in names name) names ≡ Some v)
kept_name None h = absurd (true≢false (sym h))
kept_name (Some names) h = by_entries (index_names names) refl h
  where
    by_entries : (es : List (OwnedName × ℕ)) → index_names names ≡ es → not (length es == 0) ≡ true → (name : List ℕ) × (v : ℕ) × (ino_in names name ≡ Some v)
    by_entries [] e h = absurd (true≢false (sym h))
    by_entries (x ∷ es) e h = (x.0.items, x.1, ap (lookup (λ (k : OwnedName). is_eq (slice_cmp nat_cmp x.0.items k.items))) e ∙ first_found x.0 x.1 es)

pub has_names-stored : (objects : Objects) (directories : Directories) (next dir : ℕ) → list_any (λ key. key.0 == dir) (finite.keys (stored_index objects directories next).tree.names) ≡ keeps_names directories dir
has_names-stored objects directories next dir =
    let m = (stored_index objects directories next).tree.names in
    both_true (list_any (λ (key : Key). key.0 == dir) (finite.keys m)) (keeps_names directories dir)
    (λ any.
    let found = Any-from_list_any (λ (key : Key). key.0 == dir) (finite.keys m) any in
    let key : Key = found.1 in
    let e = Contains-map_from (λ (e : Key × ℕ). e.0) (finite.entries m) key (found.0, found.2, found.3) in
    let there : finite.get m key ≡ Some e.0.1 =
    ap (finite.get m) (sym e.2) ∙ get-entries m e.0.0 ∙ find-from_Contains key_cmp key_cmp_total (finite.entries m) e.0.0 e.0.1 (entries_sorted m) e.1 in
    let kept = some_kept (get nat_cmp directories key.0) key.1 e.0.1 (sym (name-stored objects directories next key) ∙ there) in
    ap (keeps_names directories) (sym (eqb-true key.0 dir found.4)) ∙ kept)
    (λ kept.
    let name = kept_name (get nat_cmp directories dir) kept in
    let key : Key = (dir, name.0) in
    let there : find key_cmp key (finite.entries m) ≡ Some name.1 = sym (get-entries m key) ∙ name-stored objects directories next key ∙ name.2 in
    let in_entries = Contains-from_find key_cmp key_cmp-IsAntisymmetric (finite.entries m) key name.1 there in
    let at = Contains-map (λ (e : Key × ℕ). e.0) (finite.entries m) (key, name.1) in_entries in
    list_any-from_Any (λ (key : Key). key.0 == dir) (finite.keys m) (at.0, key, at.1, at.2, eq-eqb dir dir refl))
