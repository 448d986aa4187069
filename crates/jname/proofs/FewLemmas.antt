-- A few names in a row: where a name stands in it, and what a change there leaves.
use Rattle.std.proofs.Common.{◌≡◌, ℕ, zero, suc, Bool, true, false, ◌&&◌, ◌<◌, ◌++◌, List, [], ◌∷◌, map, length, Option, Some, None, Result, Ok, Err, OnOk, OnErr, refl, ap, sym, ◌∙◌, subst, ⊎_elim, inl, inr, arith}
use Rattle.std.specs.Prelude.{if◌then◌else◌, ◌==◌, ◌⊎◌, slice_index_or, set}
use Rattle.std.specs.List.{insert, AllByRecursion}
use Rattle.std.specs.List.Sorted.{IsStrictlySortedBy}
use Rattle.std.specs.Option.{option_and_then}
use Rattle.std.specs.declared.cmp.Ordering.{Ordering}
use Rattle.std.specs.declared.cmp.Ordering.TheVariants.{Less, Equal, Greater}
use Rattle.std.specs.Ordering.{nat_cmp, is_eq, match_ordering, ordering_reverse}
use Rattle.std.specs.Cmp.Lexicographic.{slice_cmp, nat_list_cmp_total, nat_list_eq_equiv}
use Rattle.std.specs.Cow.{cow_slice_items}
use Rattle.std.specs.Map.{keys_of}
use Rattle.std.specs.BTreeMap.{insert_entry}
use Rattle.std.specs.Str.{bytes_eq}
use Rattle.std.proofs.lemmas.List.{append-nil}
use Rattle.std.proofs.lemmas.Map.Entries.{lookup_head, lookup_tail}
use Rattle.std.proofs.lemmas.Map.Text.{is_eq-slice_cmp}
use Rattle.std.proofs.lemmas.Slice.Eq.{bytes_eq-Decides}
use Rattle.jname.specs.declared.versions.Content.{Content}
use Rattle.jname.specs.declared.versions.Versions.{Versions}
use Rattle.jname.specs.Versions.{contents_of, version_at}
use Rattle.jname.specs.ContentsByName.{Name, name_cmp, versions_of_name, content_in, with_contents}
use Rattle.jname.specs.Few.{place_or_gap, one_further, place_in}
use Rattle.jname.proofs.ContentsByNameLemmas.{by_test, HasOneMore}

abbrev order_of : List ℕ → Name × Versions → Ordering
order_of name e = slice_cmp nat_cmp name (cow_slice_items e.0)

-- ---- the place

at_or_further : (o : Ordering) (r : Result ℕ ℕ) (i : ℕ) → match_ordering o (Err 0) (Ok 0) (one_further r) ≡ Ok i → ((o ≡ Equal) × (0 ≡ i)) ⊎ ((o ≡ Greater) × (j : ℕ) × (r ≡ Ok j) × (suc j ≡ i))
at_or_further Less r i h = cc
at_or_further Equal r i h = inl (refl, ap place_or_gap h)
at_or_further Greater (Ok j) i h = inr (refl, j, refl, ap place_or_gap h)
at_or_further Greater (Err j) i h = cc

gap_or_further : (o : Ordering) (r : Result ℕ ℕ) (i : ℕ) → match_ordering o (Err 0) (Ok 0) (one_further r) ≡ Err i → ((o ≡ Less) × (0 ≡ i)) ⊎ ((o ≡ Greater) × (j : ℕ) × (r ≡ Err j) × (suc j ≡ i))
gap_or_further Less r i h = inl (refl, ap place_or_gap h)
gap_or_further Equal r i h = cc
gap_or_further Greater (Ok j) i h = cc
gap_or_further Greater (Err j) i h = inr (refl, j, refl, ap place_or_gap h)

pub place_within : (es : List (Name × Versions)) (name : List ℕ) (i : ℕ) → place_in es name ≡ Ok i → i < length es
place_within [] name i h = cc
place_within (e ∷ es) name i h =
    ⊎_elim
    (λ at. let is : 0 ≡ i = at.1 in omega arith)
    (λ later. let less : later.1 < length es = place_within es name later.1 later.2 in let is : suc later.1 ≡ i = later.3 in omega arith)
    (at_or_further (order_of name e) (place_in es name) i h)

-- ---- what stands there

tail_of : (o : Ordering) → o ≡ Greater → is_eq o ≡ false
tail_of o is = ap is_eq is

pub found_at : (es m : List (Name × Versions)) (name : List ℕ) (i : ℕ) (d : Name × Versions) → place_in es name ≡ Ok i → versions_of_name (es ++ m) name ≡ Some (slice_index_or es i d).1
found_at [] m name i d h = cc
found_at (e ∷ es) m name i d h =
    ⊎_elim
    (λ at. lookup_head (λ k. is_eq (slice_cmp nat_cmp name (cow_slice_items k))) e (es ++ m) (ap is_eq at.0) ∙ ap (λ (j : ℕ). Some (slice_index_or (e ∷ es) j d).1) at.1)
    (λ later. lookup_tail (λ k. is_eq (slice_cmp nat_cmp name (cow_slice_items k))) e (es ++ m) (ap is_eq later.0)
    ∙ found_at es m name later.1 d later.2 ∙ ap (λ (j : ℕ). Some (slice_index_or (e ∷ es) j d).1) later.3)
    (at_or_further (order_of name e) (place_in es name) i h)

-- a name that is below all of these is none of them
below_all : (name : List ℕ) (es : List (Name × Versions)) → AllByRecursion (λ y. slice_cmp nat_cmp name (cow_slice_items y) ≡ Less) (keys_of es) → versions_of_name es name ≡ None
below_all name [] h = refl
below_all name (e ∷ es) h = lookup_tail (λ k. is_eq (slice_cmp nat_cmp name (cow_slice_items k))) e es (ap is_eq h.0) ∙ below_all name es h.1

below_more : (name bytes : List ℕ) (es : List (Name × Versions)) → slice_cmp nat_cmp name bytes ≡ Less → AllByRecursion (λ y. slice_cmp nat_cmp bytes (cow_slice_items y) ≡ Less) (keys_of es)
    → AllByRecursion (λ y. slice_cmp nat_cmp name (cow_slice_items y) ≡ Less) (keys_of es)
below_more name bytes [] less h = tt
below_more name bytes (e ∷ es) less h = (nat_list_cmp_total.trans name bytes (cow_slice_items e.0) less h.0, below_more name bytes es less h.1)

pub absent : (es m : List (Name × Versions)) (name : List ℕ) (i : ℕ) → IsStrictlySortedBy name_cmp (keys_of (es ++ m)) → place_in es name ≡ Err i → versions_of_name es name ≡ None
unfolding IsStrictlySortedBy
absent [] m name i sorted h = refl
absent (e ∷ es) m name i sorted h =
    ⊎_elim
    (λ at. lookup_tail (λ k. is_eq (slice_cmp nat_cmp name (cow_slice_items k))) e es (ap is_eq at.0) ∙ below_all name es (below_more name (cow_slice_items e.0) es at.0 (front es m sorted.0)))
    (λ later. lookup_tail (λ k. is_eq (slice_cmp nat_cmp name (cow_slice_items k))) e es (ap is_eq later.0) ∙ absent es m name later.1 sorted.1 later.2)
    (gap_or_further (order_of name e) (place_in es name) i h)
  where
    front : (xs ys : List (Name × Versions)) → AllByRecursion (λ y. name_cmp e.0 y ≡ Less) (keys_of (xs ++ ys)) → AllByRecursion (λ y. name_cmp e.0 y ≡ Less) (keys_of xs)
    front [] ys all = tt
    front (x ∷ xs) ys all = (all.0, front xs ys all.1)

pub behind : (es m : List (Name × Versions)) (name : List ℕ) → versions_of_name es name ≡ None → versions_of_name (es ++ m) name ≡ versions_of_name m name
behind [] m name h = refl
behind (e ∷ es) m name h =
    by_test (is_eq (order_of name e))
    (λ t. let some : versions_of_name (e ∷ es) name ≡ Some e.1 = lookup_head (λ k. is_eq (slice_cmp nat_cmp name (cow_slice_items k))) e es t in cc)
    (λ f. lookup_tail (λ k. is_eq (slice_cmp nat_cmp name (cow_slice_items k))) e (es ++ m) f
    ∙ behind es m name (sym (lookup_tail (λ k. is_eq (slice_cmp nat_cmp name (cow_slice_items k))) e es f) ∙ h))

-- ---- one name

pub sorted_one : (es : List (Name × Versions)) (e : Name × Versions) → es ≡ e ∷ [] → IsStrictlySortedBy name_cmp (keys_of es)
unfolding IsStrictlySortedBy
sorted_one es e is = subst (λ (xs : List (Name × Versions)). IsStrictlySortedBy name_cmp (keys_of xs)) (sym is) (tt, tt)

-- ---- the last of a row goes to the front of the map

last_below : (xs : List (Name × Versions)) (e : Name × Versions) (ys : List (Name × Versions)) → IsStrictlySortedBy name_cmp (keys_of (xs ++ e ∷ ys)) → insert_entry name_cmp ys e.0 e.1 ≡ e ∷ ys
unfolding IsStrictlySortedBy
last_below [] e [] sorted = refl
last_below [] e (y ∷ ys) sorted = ap (λ (o : Ordering). match_ordering o (e ∷ y ∷ ys) ((y.0, e.1) ∷ ys) (y ∷ insert_entry name_cmp ys e.0 e.1)) sorted.0.0
last_below (x ∷ xs) e ys sorted = last_below xs e ys sorted.1

append_one : (xs : List (Name × Versions)) (e : Name × Versions) (ys : List (Name × Versions)) → (xs ++ e ∷ []) ++ ys ≡ xs ++ e ∷ ys
append_one [] e ys = refl
append_one (x ∷ xs) e ys = ap (λ (zs : List (Name × Versions)). x ∷ zs) (append_one xs e ys)

pub moved : (row left : List (Name × Versions)) (map_old map_new : List (Name × Versions)) (k : Name) (versions : Versions) → row ≡ left ++ (k, versions) ∷ []
    → IsStrictlySortedBy name_cmp (keys_of (row ++ map_old)) → map_new ≡ insert_entry name_cmp map_old k versions → left ++ map_new ≡ row ++ map_old
moved row left map_old map_new k versions is sorted inserted =
    let same : row ++ map_old ≡ left ++ (k, versions) ∷ map_old = ap (λ (es : List (Name × Versions)). es ++ map_old) is ∙ append_one left (k, versions) map_old in
    ap (λ (es : List (Name × Versions)). left ++ es) (inserted ∙ last_below left (k, versions) map_old (subst (λ (es : List (Name × Versions)). IsStrictlySortedBy name_cmp (keys_of es)) same sorted)) ∙ sym same

-- ---- a change of one name

at_version : ℕ → Option Versions → Option Content
at_version v o = option_and_then (λ (x : Versions). version_at x v) o

content_first : (e : Name × Versions) (es : List (Name × Versions)) (n : List ℕ) (v : ℕ) → is_eq (order_of n e) ≡ true → content_in (e ∷ es) n v ≡ version_at e.1 v
unfolding at_version
content_first e es n v t = ap (at_version v) (lookup_head (λ k. is_eq (slice_cmp nat_cmp n (cow_slice_items k))) e es t)

content_later : (e : Name × Versions) (es : List (Name × Versions)) (n : List ℕ) (v : ℕ) → is_eq (order_of n e) ≡ false → content_in (e ∷ es) n v ≡ content_in es n v
unfolding at_version
content_later e es n v f = ap (at_version v) (lookup_tail (λ k. is_eq (slice_cmp nat_cmp n (cow_slice_items k))) e es f)

-- a name is that of an entry exactly where it is so in order
is_name : (n : List ℕ) (e : Name × Versions) (b : Bool) → is_eq (order_of n e) ≡ b → bytes_eq (cow_slice_items e.0) n ≡ b
is_name n e b h = nat_list_eq_equiv.symm (cow_slice_items e.0) n ∙ sym (is_eq-slice_cmp n (cow_slice_items e.0)) ∙ h

other_name : (name n : List ℕ) (e : Name × Versions) → is_eq (order_of name e) ≡ false → is_eq (order_of n e) ≡ true → bytes_eq name n ≡ false
other_name name n e f t =
    by_test (bytes_eq name n)
    (λ y. let same : is_eq (order_of name e) ≡ true = subst (λ (x : List ℕ). is_eq (order_of x e) ≡ true) (sym ((bytes_eq-Decides name n).0 y)) t in cc)
    (λ no. no)

more_later : (e : Name × Versions) (old new : List (Name × Versions)) (name : List ℕ) (version : ℕ) (content : Content) → is_eq (order_of name e) ≡ false
    → HasOneMore old new name version content → HasOneMore (e ∷ old) (e ∷ new) name version content
more_later e old new name version content f more n v =
    by_test (is_eq (order_of n e))
    (λ t. content_first e new n v t ∙ sym (content_first e old n v t)
    ∙ ap (λ (b : Bool). if b && version == v then Some content else content_in (e ∷ old) n v) (sym (other_name name n e f t)))
    (λ o. content_later e new n v o ∙ more n v ∙ ap (λ (c : Option Content). if bytes_eq name n && version == v then Some content else c) (sym (content_later e old n v o)))

more_there : (k : Name) (was is : Versions) (es : List (Name × Versions)) (version : ℕ) (content : Content) → ((v : ℕ) → version_at is v ≡ (if version == v then Some content else version_at was v))
    → HasOneMore ((k, was) ∷ es) ((k, is) ∷ es) (cow_slice_items k) version content
more_there k was is es version content more n v =
    by_test (is_eq (order_of n (k, was)))
    (λ t. content_first (k, is) es n v t ∙ more v ∙ ap (λ (c : Option Content). if version == v then Some content else c) (sym (content_first (k, was) es n v t))
    ∙ ap (λ (b : Bool). if b && version == v then Some content else content_in ((k, was) ∷ es) n v) (sym (is_name n (k, was) true t)))
    (λ f. content_later (k, is) es n v f ∙ sym (content_later (k, was) es n v f)
    ∙ ap (λ (b : Bool). if b && version == v then Some content else content_in ((k, was) ∷ es) n v) (sym (is_name n (k, was) false f)))

more_new : (k : Name) (is : Versions) (es : List (Name × Versions)) (version : ℕ) (content : Content) → versions_of_name es (cow_slice_items k) ≡ None
    → ((v : ℕ) → version_at is v ≡ (if version == v then Some content else None)) → HasOneMore es ((k, is) ∷ es) (cow_slice_items k) version content
unfolding at_version
more_new k is es version content none more n v =
    by_test (is_eq (order_of n (k, is)))
    (λ t. let same : cow_slice_items k ≡ n = (bytes_eq-Decides (cow_slice_items k) n).0 (is_name n (k, is) true t) in
    content_first (k, is) es n v t ∙ more v
    ∙ ap (λ (c : Option Content). if version == v then Some content else c) (sym (ap (at_version v) (subst (λ (x : List ℕ). versions_of_name es x ≡ None) same none)))
    ∙ ap (λ (b : Bool). if b && version == v then Some content else content_in es n v) (sym (is_name n (k, is) true t)))
    (λ f. content_later (k, is) es n v f
    ∙ ap (λ (b : Bool). if b && version == v then Some content else content_in es n v) (sym (is_name n (k, is) false f)))

equal_is : (name : List ℕ) (e : Name × Versions) → order_of name e ≡ Equal → cow_slice_items e.0 ≡ name
equal_is name e is = (bytes_eq-Decides (cow_slice_items e.0) name).0 (is_name name e true (ap is_eq is))

-- a name that is found, with other versions
pub found_more : (es m : List (Name × Versions)) (name : List ℕ) (i : ℕ) (d : Name × Versions) (is : Versions) (version : ℕ) (content : Content) → place_in es name ≡ Ok i
    → ((v : ℕ) → version_at is v ≡ (if version == v then Some content else version_at (slice_index_or es i d).1 v))
    → HasOneMore (es ++ m) (set es i ((slice_index_or es i d).0, is) ++ m) name version content
found_more [] m name i d is version content h more = cc
found_more (e ∷ es) m name i d is version content h more =
    ⊎_elim
    (λ at. here (ap (λ (j : ℕ). slice_index_or (e ∷ es) j d) (sym at.1)) at.0 at.1)
    (λ later. subst (λ (j : ℕ). ((v : ℕ) → version_at is v ≡ (if version == v then Some content else version_at (slice_index_or (e ∷ es) j d).1 v))
    → HasOneMore (e ∷ es ++ m) (set (e ∷ es) j ((slice_index_or (e ∷ es) j d).0, is) ++ m) name version content) later.3
    (λ more_later_on. more_later e (es ++ m) (set es later.1 ((slice_index_or es later.1 d).0, is) ++ m) name version content (ap is_eq later.0)
    (found_more es m name later.1 d is version content later.2 more_later_on)) more)
    (at_or_further (order_of name e) (place_in es name) i h)
  where
    here : slice_index_or (e ∷ es) i d ≡ e → order_of name e ≡ Equal → 0 ≡ i → HasOneMore ((e ∷ es) ++ m) (set (e ∷ es) i ((slice_index_or (e ∷ es) i d).0, is) ++ m) name version content
    here there equal first =
        subst (λ (n : List ℕ). HasOneMore ((e ∷ es) ++ m) (set (e ∷ es) i ((slice_index_or (e ∷ es) i d).0, is) ++ m) n version content) (equal_is name e equal)
        (subst (λ (j : ℕ). ((v : ℕ) → version_at is v ≡ (if version == v then Some content else version_at (slice_index_or (e ∷ es) j d).1 v))
        → HasOneMore ((e ∷ es) ++ m) (set (e ∷ es) j ((slice_index_or (e ∷ es) j d).0, is) ++ m) (cow_slice_items e.0) version content) first
        (λ same. more_there e.0 e.1 is (es ++ m) version content same) more)

pub replaced : {Y : Type 0} (f : Name × Versions → Y) (es m : List (Name × Versions)) (i : ℕ) (d : Name × Versions) (is : Versions) → i < length es
    → f ((slice_index_or es i d).0, is) ≡ f (slice_index_or es i d) → map f (set es i ((slice_index_or es i d).0, is) ++ m) ≡ map f (es ++ m)
replaced f [] m i d is less same = let no : i < 0 = less in absurd (omega arith)
replaced f (e ∷ es) m zero d is less same = ap (λ y. y ∷ map f (es ++ m)) same
replaced f (e ∷ es) m (suc i) d is less same = ap (λ ys. f e ∷ ys) (replaced f es m i d is (omega (arith, less)) same)

-- ---- a new name

not_among : (es : List (Name × Versions)) (name : List ℕ) (i : ℕ) → IsStrictlySortedBy name_cmp (keys_of es) → place_in es name ≡ Err i → versions_of_name es name ≡ None
not_among es name i sorted gap = absent es [] name i (subst (λ (xs : List (Name × Versions)). IsStrictlySortedBy name_cmp (keys_of xs)) (sym (append-nil es)) sorted) gap

put_one : (es : List (Name × Versions)) (name : List ℕ) (i : ℕ) (k : Name) (is : Versions) (version : ℕ) (content : Content) → IsStrictlySortedBy name_cmp (keys_of es) → place_in es name ≡ Err i → cow_slice_items k ≡ name
    → ((v : ℕ) → version_at is v ≡ (if version == v then Some content else None)) → HasOneMore es (insert es i (k, is)) name version content
unfolding IsStrictlySortedBy
put_one [] name i k is version content sorted gap same more =
    subst (λ (j : ℕ). HasOneMore [] (insert [] j (k, is)) name version content) (ap place_or_gap gap)
    (subst (λ (n : List ℕ). HasOneMore [] ((k, is) ∷ []) n version content) same (more_new k is [] version content refl more))
put_one (e ∷ es) name i k is version content sorted gap same more =
    ⊎_elim
    (λ at. subst (λ (j : ℕ). HasOneMore (e ∷ es) (insert (e ∷ es) j (k, is)) name version content) at.1
    (subst (λ (n : List ℕ). HasOneMore (e ∷ es) ((k, is) ∷ e ∷ es) n version content) same
    (more_new k is (e ∷ es) version content (subst (λ (n : List ℕ). versions_of_name (e ∷ es) n ≡ None) (sym same) (not_among (e ∷ es) name i sorted gap)) more)))
    (λ later. subst (λ (j : ℕ). HasOneMore (e ∷ es) (insert (e ∷ es) j (k, is)) name version content) later.3
    (more_later e es (insert es later.1 (k, is)) name version content (ap is_eq later.0) (put_one es name later.1 k is version content sorted.1 later.2 same more)))
    (gap_or_further (order_of name e) (place_in es name) i gap)

all_put : (P : Name → Type 0) (es : List (Name × Versions)) (i : ℕ) (e : Name × Versions) → AllByRecursion P (keys_of es) → P e.0 → AllByRecursion P (keys_of (insert es i e))
all_put P [] zero e all p = (p, tt)
all_put P [] (suc i) e all p = (p, tt)
all_put P (x ∷ es) zero e all p = (p, all)
all_put P (x ∷ es) (suc i) e all p = (all.0, all_put P es i e all.1 p)

put_in_order : (es : List (Name × Versions)) (name : List ℕ) (i : ℕ) (k : Name) (is : Versions) → IsStrictlySortedBy name_cmp (keys_of es) → place_in es name ≡ Err i → cow_slice_items k ≡ name
    → IsStrictlySortedBy name_cmp (keys_of (insert es i (k, is)))
unfolding IsStrictlySortedBy
put_in_order [] name i k is sorted gap same = subst (λ (j : ℕ). IsStrictlySortedBy name_cmp (keys_of (insert [] j (k, is)))) (ap place_or_gap gap) (tt, tt)
put_in_order (e ∷ es) name i k is sorted gap same =
    ⊎_elim
    (λ at. subst (λ (j : ℕ). IsStrictlySortedBy name_cmp (keys_of (insert (e ∷ es) j (k, is)))) at.1
    (subst (λ (n : List ℕ). AllByRecursion (λ y. slice_cmp nat_cmp n (cow_slice_items y) ≡ Less) (keys_of (e ∷ es))) (sym same) (at.0, below_more name (cow_slice_items e.0) es at.0 sorted.0), sorted))
    (λ later. subst (λ (j : ℕ). IsStrictlySortedBy name_cmp (keys_of (insert (e ∷ es) j (k, is)))) later.3 (
      all_put (λ y. name_cmp e.0 y ≡ Less) es later.1 (k, is) sorted.0 (subst (λ (n : List ℕ). slice_cmp nat_cmp (cow_slice_items e.0) n ≡ Less) (sym same) (nat_list_cmp_total.antisymm (cow_slice_items e.0) name ∙ ap ordering_reverse later.0)),
      put_in_order es name later.1 k is sorted.1 later.2 same,
    ))
    (gap_or_further (order_of name e) (place_in es name) i gap)

pub put_more : (es m : List (Name × Versions)) (name : List ℕ) (i : ℕ) (k : Name) (is : Versions) (version : ℕ) (content : Content) → m ≡ [] → IsStrictlySortedBy name_cmp (keys_of (es ++ m)) → place_in es name ≡ Err i
    → cow_slice_items k ≡ name → ((v : ℕ) → version_at is v ≡ (if version == v then Some content else None)) → HasOneMore (es ++ m) (insert es i (k, is) ++ m) name version content
put_more es m name i k is version content none sorted gap same more =
    subst (λ (xs : List (Name × Versions)). HasOneMore (es ++ xs) (insert es i (k, is) ++ xs) name version content) (sym none)
    (subst (λ (xs : List (Name × Versions)). HasOneMore xs (insert es i (k, is) ++ []) name version content) (sym (append-nil es))
    (subst (λ (xs : List (Name × Versions)). HasOneMore es xs name version content) (sym (append-nil (insert es i (k, is))))
    (put_one es name i k is version content (row_sorted es m none sorted) gap same more)))
  where
    row_sorted : (es m : List (Name × Versions)) → m ≡ [] → IsStrictlySortedBy name_cmp (keys_of (es ++ m)) → IsStrictlySortedBy name_cmp (keys_of es)
    row_sorted es m none sorted = subst (λ (xs : List (Name × Versions)). IsStrictlySortedBy name_cmp (keys_of xs)) (ap (λ (xs : List (Name × Versions)). es ++ xs) none ∙ append-nil es) sorted

pub put_sorted : (es m : List (Name × Versions)) (name : List ℕ) (i : ℕ) (k : Name) (is : Versions) → m ≡ [] → IsStrictlySortedBy name_cmp (keys_of (es ++ m)) → place_in es name ≡ Err i
    → cow_slice_items k ≡ name → IsStrictlySortedBy name_cmp (keys_of (insert es i (k, is) ++ m))
put_sorted es m name i k is none sorted gap same =
    subst (λ (xs : List (Name × Versions)). IsStrictlySortedBy name_cmp (keys_of xs)) (sym (ap (λ (xs : List (Name × Versions)). insert es i (k, is) ++ xs) none ∙ append-nil (insert es i (k, is))))
    (put_in_order es name i k is (subst (λ (xs : List (Name × Versions)). IsStrictlySortedBy name_cmp (keys_of xs)) (ap (λ (xs : List (Name × Versions)). es ++ xs) none ∙ append-nil es) sorted) gap same)

-- ---- the entry that was lent

pub lent_more : (es m : List (Name × Versions)) (name : List ℕ) (i : ℕ) (x : Name × Versions) (is : Versions) (version : ℕ) (content : Content) → place_in es name ≡ Ok i → x ≡ slice_index_or es i x
    → ((v : ℕ) → version_at is v ≡ (if version == v then Some content else version_at x.1 v)) → HasOneMore (es ++ m) (set es i (x.0, is) ++ m) name version content
lent_more es m name i x is version content at there more =
    subst (λ (y : Name × Versions). HasOneMore (es ++ m) (set es i (y.0, is) ++ m) name version content) (sym there)
    (found_more es m name i x is version content at (subst (λ (y : Name × Versions). (v : ℕ) → version_at is v ≡ (if version == v then Some content else version_at y.1 v)) there more))

pub lent_same : (es m : List (Name × Versions)) (name : List ℕ) (i : ℕ) (x : Name × Versions) (is : Versions) → place_in es name ≡ Ok i → x ≡ slice_index_or es i x
    → contents_of is ≡ contents_of x.1 → map with_contents (set es i (x.0, is) ++ m) ≡ map with_contents (es ++ m)
lent_same es m name i x is at there same =
    subst (λ (y : Name × Versions). contents_of is ≡ contents_of y.1 → map with_contents (set es i (y.0, is) ++ m) ≡ map with_contents (es ++ m)) (sym there)
    (λ e. replaced with_contents es m i x is (place_within es name i at) (ap (λ (cs : List (ℕ × Content)). ((slice_index_or es i x).0, cs)) e)) same

pub lent_sorted : (es m : List (Name × Versions)) (name : List ℕ) (i : ℕ) (x : Name × Versions) (is : Versions) → place_in es name ≡ Ok i → x ≡ slice_index_or es i x
    → IsStrictlySortedBy name_cmp (keys_of (es ++ m)) → IsStrictlySortedBy name_cmp (keys_of (set es i (x.0, is) ++ m))
lent_sorted es m name i x is at there sorted =
    subst (λ (ks : List Name). IsStrictlySortedBy name_cmp ks)
    (sym (subst (λ (y : Name × Versions). keys_of (set es i (y.0, is) ++ m) ≡ keys_of (es ++ m)) (sym there) (replaced (λ e. e.0) es m i x is (place_within es name i at) refl))) sorted

pub lent_content : (es m : List (Name × Versions)) (name : List ℕ) (i : ℕ) (x : Name × Versions) (v : ℕ) → place_in es name ≡ Ok i → x ≡ slice_index_or es i x → content_in (es ++ m) name v ≡ version_at x.1 v
unfolding at_version
lent_content es m name i x v at there = ap (at_version v) (found_at es m name i x at ∙ ap (λ (y : Name × Versions). Some y.1) (sym there))

pub gap_content : (es m : List (Name × Versions)) (name : List ℕ) (i : ℕ) (v : ℕ) → m ≡ [] → IsStrictlySortedBy name_cmp (keys_of (es ++ m)) → place_in es name ≡ Err i → content_in (es ++ m) name v ≡ None
unfolding at_version
gap_content es m name i v none sorted gap =
    ap (at_version v) (behind es m name (absent es m name i sorted gap) ∙ ap (λ (xs : List (Name × Versions)). versions_of_name xs name) none)

pub none_by_length : (es : List (Name × Versions)) → length es ≡ 0 → es ≡ []
none_by_length [] h = refl
none_by_length (e ∷ es) h = absurd (omega (arith, h))

pub either_way : {T E P : Type 0} (r : Result T E) → OnOk r P → OnErr r P → P
either_way (Ok x) ok err = ok
either_way (Err e) ok err = err
