-- The directories of first names, as they are kept.
use Rattle.std.proofs.Common.{◌≡◌, ◌≢◌, ℕ, Bool, true, false, cond, List, [], ◌∷◌, Option, Some, None, refl, ap, sym, ◌∙◌, subst}
use Rattle.std.specs.Prelude.{Contains, option_map, is_some, if◌then◌else◌, ◌==◌}
use Rattle.std.specs.List.{find}
use Rattle.std.specs.Option.{option_and_then, option_or}
use Rattle.std.specs.Map.{lookup}
use Rattle.std.specs.Ordering.{nat_cmp, eq_by_cmp}
use Rattle.std.specs.BTreeMap.{Updates, get}
use Rattle.std.specs.FinMap.{entries}
use Rattle.std.proofs.lemmas.Bool.{eqb-true, false≢true}
use Rattle.flashbase.proofs.MemberLemmas.{Contains-here, Contains-there, Contains-map_from}
use Rattle.jnode.specs.declared.node.Dirent.{Dirent}
use Rattle.jname.specs.Live.{Key, all_names, live_names}
use Rattle.jname.proofs.ContentsByNameLemmas.{by_test}
use Rattle.jname.proofs.NamingLemmas.{live-from_Contains}
use Rattle.jmount.specs.Tree.{State, first_directory, first_directory_in, all_entries, is_there}
use Rattle.jmount.specs.Stored.{ObjectsByNumber, stored_object, stored_state}
use Rattle.jmount.specs.Storing.{as_made}
use Rattle.jmount.specs.Kept.{HasNoDirectories, HasDirectories, directory_kept_at, directory_kept}
use Rattle.jmount.specs.declared.stored.Stored.{Stored}
use Rattle.jmount.proofs.NamesLemmas.{live_is_of_newest}
use Rattle.jmount.proofs.StoredLemmas.{object-is, is_some-map}
use Rattle.jmount.proofs.StoringLemmas.{replaced_at}

abbrev pub Name : Type 0
Name = ℕ × List ℕ × ℕ

or_none : (o : Option ℕ) → option_or o None ≡ o
or_none None = refl
or_none (Some d) = refl

-- ---- objects that are made have none

pub none_kept : (objects : ObjectsByNumber) → objects.entries ≡ [] → HasNoDirectories objects
none_kept objects empty i = ap (λ (es : List (ℕ × Stored)). option_and_then directory_kept (lookup (eq_by_cmp nat_cmp i) es)) empty

pub none_with_one_more : (old new : ObjectsByNumber) (k : ℕ) (stored : Stored) → Updates nat_cmp old new k (Some stored) → directory_kept stored ≡ None → HasNoDirectories old → HasNoDirectories new
none_with_one_more old new k stored u kept none i =
    ap (option_and_then directory_kept) (replaced_at old new k stored u i) ∙ by (k == i)
  where
    by : (b : Bool) → option_and_then directory_kept (if b then Some stored else get nat_cmp old i) ≡ None
    by true = kept
    by false = none i

-- ---- one name

-- the objects are the same, but for the directories that are kept with them
abbrev pub HasSame : ObjectsByNumber → ObjectsByNumber → Type 0
HasSame old new = (i : ℕ) → option_map as_made (get nat_cmp new i) ≡ option_map as_made (get nat_cmp old i)

-- a directory is kept with the object of a number, where none was kept before
abbrev pub KeepsIn : ObjectsByNumber → ObjectsByNumber → ℕ → ℕ → Type 0
KeepsIn old new k dir = (i : ℕ) → is_some (get nat_cmp old i) ≡ true → directory_kept_at new i ≡ option_or (directory_kept_at old i) (if k == i then Some dir else None)

pub same_with : (old new : ObjectsByNumber) (k : ℕ) (before after : Stored) → get nat_cmp old k ≡ Some before → Updates nat_cmp old new k (Some after) → as_made after ≡ as_made before → HasSame old new
same_with old new k before after was u same i =
    by_test (k == i)
    (λ e.
    ap (option_map as_made) (replaced_at old new k after u i ∙ ap (λ (b : Bool). if b then Some after else get nat_cmp old i) e)
    ∙ ap Some same
    ∙ ap (option_map as_made) (sym was ∙ ap (get nat_cmp old) (eqb-true k i e)))
    (λ e. ap (option_map as_made) (replaced_at old new k after u i ∙ ap (λ (b : Bool). if b then Some after else get nat_cmp old i) e))

pub keeps_with : (old new : ObjectsByNumber) (k dir : ℕ) (before after : Stored) → get nat_cmp old k ≡ Some before → Updates nat_cmp old new k (Some after)
    → directory_kept after ≡ option_or (directory_kept before) (Some dir) → KeepsIn old new k dir
keeps_with old new k dir before after was u kept i there =
    by_test (k == i)
    (λ e.
    ap (option_and_then directory_kept) (replaced_at old new k after u i ∙ ap (λ (b : Bool). if b then Some after else get nat_cmp old i) e)
    ∙ kept
    ∙ ap (λ (o : Option Stored). option_or (option_and_then directory_kept o) (Some dir)) (sym was ∙ ap (get nat_cmp old) (eqb-true k i e))
    ∙ sym (ap (λ (b : Bool). option_or (directory_kept_at old i) (if b then Some dir else None)) e))
    (λ e.
    ap (option_and_then directory_kept) (replaced_at old new k after u i ∙ ap (λ (b : Bool). if b then Some after else get nat_cmp old i) e)
    ∙ sym (or_none (directory_kept_at old i))
    ∙ sym (ap (λ (b : Bool). option_or (directory_kept_at old i) (if b then Some dir else None)) e))

pub keeps_without : (old new : ObjectsByNumber) (k dir : ℕ) → get nat_cmp old k ≡ None → new ≡ old → KeepsIn old new k dir
keeps_without old new k dir none is i there =
    ap (λ (objects : ObjectsByNumber). directory_kept_at objects i) is
    ∙ by_test (k == i)
    (λ e. absurd (false≢true (sym (ap is_some (ap (get nat_cmp old) (sym (eqb-true k i e)) ∙ none)) ∙ there)))
    (λ e. sym (or_none (directory_kept_at old i)) ∙ sym (ap (λ (b : Bool). option_or (directory_kept_at old i) (if b then Some dir else None)) e))

-- ---- name by name

-- so far, and those that are left
abbrev pub KeepsSoFar : ObjectsByNumber → List Name → List Name → Type 0
KeepsSoFar objects all left = (i : ℕ) → is_some (get nat_cmp objects i) ≡ true → option_or (directory_kept_at objects i) (first_directory_in left i) ≡ first_directory_in all i

pub keeps_begin : (objects : ObjectsByNumber) (all left : List Name) → HasNoDirectories objects → left ≡ all → KeepsSoFar objects all left
keeps_begin objects all left none is i there =
    ap (λ (o : Option ℕ). option_or o (first_directory_in left i)) (none i) ∙ ap (λ (l : List Name). first_directory_in l i) is

pub keeps_more : (old new : ObjectsByNumber) (all left rest : List Name) (x : Name) → left ≡ x ∷ rest → HasSame old new → KeepsIn old new x.2 x.0 → KeepsSoFar old all left → KeepsSoFar new all rest
keeps_more old new all left rest x is same keeps so_far i there =
    let was : is_some (get nat_cmp old i) ≡ true = is_some-map as_made (get nat_cmp old i) ∙ sym (ap is_some (same i)) ∙ sym (is_some-map as_made (get nat_cmp new i)) ∙ there in
    ap (λ (o : Option ℕ). option_or o (first_directory_in rest i)) (keeps i was) ∙ one (directory_kept_at old i) (x.2 == i)
    ∙ ap (λ (l : List Name). option_or (directory_kept_at old i) (first_directory_in l i)) (sym is) ∙ so_far i was
  where
    one : (o : Option ℕ) (b : Bool) → option_or (option_or o (cond b (Some x.0) None)) (first_directory_in rest i) ≡ option_or o (option_map (λ e. e.0) (cond b (Some x) (find (λ e. e.2 == i) rest)))
    one None true = refl
    one None false = refl
    one (Some d) b = refl

pub keeps_all : (objects : ObjectsByNumber) (all left : List Name) → left ≡ [] → KeepsSoFar objects all left → HasDirectories objects all
keeps_all objects all left none so_far i there =
    sym (or_none (directory_kept_at objects i)) ∙ ap (λ (l : List Name). option_or (directory_kept_at objects i) (first_directory_in l i)) (sym none) ∙ so_far i there

-- ---- no name is in a directory of number 0

abbrev pub HaveParents : List Name → Type 0
HaveParents names = (x : Name) → Contains names x → x.0 ≢ 0

pub parents_begin : (given : List Dirent) (left : List Name) → left ≡ all_names given → ((entry : Dirent) → Contains given entry → entry.pino ≢ 0) → HaveParents left
parents_begin given left is parents x h zero =
    let found = Contains-map_from (λ (e : Key × ℕ). (e.0.0, e.0.1, e.1)) (entries (live_names given)) x (subst (λ (l : List Name). Contains l x) is h) in
    let key = found.0.0 in
    let newest = (live_is_of_newest given key found.0.1 (live-from_Contains given key found.0.1 found.1)).1 in
    parents newest.0 newest.1.there (newest.1.directory ∙ ap (λ (n : Name). n.0) found.2 ∙ zero)

pub parents_first : (left rest : List Name) (x : Name) → left ≡ x ∷ rest → HaveParents left → x.0 ≢ 0
parents_first left rest x is parents = parents x (subst (λ (l : List Name). Contains l x) (sym is) (Contains-here x rest))

pub parents_more : (left rest : List Name) (x : Name) → left ≡ x ∷ rest → HaveParents left → HaveParents rest
parents_more left rest x is parents y h = parents y (subst (λ (l : List Name). Contains l y) (sym is) (Contains-there x rest y h))

-- ---- what is kept is what the file system says

pub first_directory-is : (s : State) (objects : ObjectsByNumber) (names : List Dirent) (next : ℕ) → stored_state objects names next ≡ s → HasDirectories objects (all_names names)
    → (i : ℕ) → directory_kept_at objects i ≡ first_directory s i
first_directory-is s objects names next is directories i = by_found (get nat_cmp objects i) refl
  where
    there : (o : Option Stored) → get nat_cmp objects i ≡ o → is_some o ≡ is_there s i
    there o e = is_some-map stored_object o ∙ ap (λ (o : Option Stored). is_some (option_map stored_object o)) (sym e) ∙ sym (ap is_some (object-is s objects names next is i))

    by_found : (o : Option Stored) → get nat_cmp objects i ≡ o → directory_kept_at objects i ≡ first_directory s i
    by_found None e = ap (option_and_then directory_kept) e ∙ ap (λ (b : Bool). if b then first_directory_in (all_entries s) i else None) (there None e)
    by_found (Some stored) e =
        directories i (ap is_some e) ∙ ap (λ (t : State). first_directory_in (all_entries t) i) is
        ∙ ap (λ (b : Bool). if b then first_directory_in (all_entries s) i else None) (there (Some stored) e)
