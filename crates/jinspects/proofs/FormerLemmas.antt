-- The objects that a path ever named.
use Rattle.std.proofs.Common.{◌≡◌, ℕ, ◌+◌, ◌-◌, ◌==◌, ◌&&◌, ◌||◌, ◌<◌, not, cond, Bool, true, false, List, [], ◌∷◌, ◌++◌, length, take, map, Option, Some, None, Result, Ok, Err, IfErr, IfOk, ap, sym, subst, refl, ◌∙◌, arith, length-append, IsTrue, ◌↔◌, inl, inr}
use Rattle.std.specs.Borrow.{Bor}
use Rattle.std.specs.Prelude.{Decides, bytes_eq, get_or}
use Rattle.std.proofs.lemmas.Bool.{false≢true}
use Rattle.std.specs.BTreeSet.{BTreeSet, contains}
use Rattle.std.specs.Cmp.{unsigned_tied}
use Rattle.std.specs.List.{flat_map, list_any}
use Rattle.std.specs.Ordering.{eq_by_cmp, nat_cmp}
use Rattle.std.proofs.Math.Seq.{take-append_seam}
use Rattle.std.proofs.lemmas.List.{map-append}
use Rattle.std.proofs.lemmas.List.Folds.{flat_map-map, list_any_more}
use Rattle.std.proofs.lemmas.Slice.Eq.{bytes_eq-Decides}
use Rattle.jnode.specs.declared.node.Dirent.{Dirent}
use Rattle.jnode.specs.declared.node.NodeRef.{NodeRef}
use Rattle.jnode.specs.declared.node.NodeRef.TheVariants.{Entry, Inode}
use Rattle.jmount.specs.Find.{path_names, path_text, way_up}
use Rattle.jmount.specs.Tree.{State}
use Rattle.jmount.specs.declared.fault.FindFault.{FindFault}
use Rattle.jsteps.specs.Where.{last_of}
use Rattle.jcompact.specs.Matters.{Placed}
use Rattle.jedge.specs.declared.fault.Fault.{Fault}
use Rattle.jedge.specs.declared.fault.Fault.TheVariants as fault
use Rattle.jinspects.specs.Former.{AreFormer, AreFormerBy, AreFormerIn, IsFormerBehind, IsNoFormer, IsNoFormerBy, IsNoneBehind, TellsPath, gives_name, is_name_given, was_named}

-- ---- a name

pub same_bool : {P : Type 0} (b c : Bool) → IsTrue b ↔ P → Decides c P → b ≡ c
same_bool true true is decides = refl
same_bool false false is decides = refl
same_bool true false is decides = absurd (false≢true (decides.1 (is.0 refl)))
same_bool false true is decides = absurd (false≢true (is.1 (decides.0 refl)))

pub name_tested : (b : Bool) (part name : List ℕ) → IsTrue b ↔ (part ≡ name) → b ≡ bytes_eq part name
name_tested b part name is = same_bool b (bytes_eq part name) is (bytes_eq-Decides part name)

-- ---- one node

or_false : (b : Bool) → b ≡ (b || false)
or_false true = refl
or_false false = refl

or_by : (b c : Bool) → cond b true c ≡ (c || b)
or_by true true = refl
or_by true false = refl
or_by false true = refl
or_by false false = refl

pub not_given : (dir : ℕ) (name : List ℕ) (d : Dirent) (numbers : BTreeSet ℕ) → is_name_given dir name d ≡ false → (i : ℕ)
    → contains nat_cmp numbers i ≡ (contains nat_cmp numbers i || gives_name dir name i (Entry d))
not_given dir name d numbers not i =
    or_false (contains nat_cmp numbers i) ∙ ap (λ (b : Bool). contains nat_cmp numbers i || (b && (d.ino == i))) (sym not)

pub given : (dir : ℕ) (name : List ℕ) (d : Dirent) (old new : BTreeSet ℕ) → is_name_given dir name d ≡ true
    → ((q : ℕ) → contains nat_cmp new q ≡ cond (eq_by_cmp nat_cmp d.ino q) true (contains nat_cmp old q)) → (i : ℕ)
    → contains nat_cmp new i ≡ (contains nat_cmp old i || gives_name dir name i (Entry d))
given dir name d old new is gains i =
    gains i ∙ ap (λ (b : Bool). cond b true (contains nat_cmp old i)) (unsigned_tied d.ino i) ∙ or_by (d.ino == i) (contains nat_cmp old i)
    ∙ ap (λ (b : Bool). contains nat_cmp old i || (b && (d.ino == i))) (sym is)

pub no_entry : (dir : ℕ) (name : List ℕ) (n : NodeRef) (numbers : BTreeSet ℕ) → ((i : ℕ) → gives_name dir name i n ≡ false) → (i : ℕ)
    → contains nat_cmp numbers i ≡ (contains nat_cmp numbers i || gives_name dir name i n)
no_entry dir name n numbers not i =
    or_false (contains nat_cmp numbers i) ∙ ap (λ (b : Bool). contains nat_cmp numbers i || b) (sym (not i))

-- ---- all of them

pub one_more : (dir : ℕ) (name : List ℕ) (ns : List Placed) (k : ℕ) (n : Placed) (old new : BTreeSet ℕ) → k < length ns → get_or ns k n ≡ n
    → AreFormerIn (take k ns) dir name old → ((i : ℕ) → contains nat_cmp new i ≡ (contains nat_cmp old i || gives_name dir name i n.1))
    → AreFormerIn (take (k + 1) ns) dir name new
one_more dir name ns k n old new within is before gains i =
    gains i ∙ ap (λ (b : Bool). b || gives_name dir name i n.1) (before i)
    ∙ ap (λ (m : Placed). was_named (take k ns) dir name i || gives_name dir name i m.1) (sym is)
    ∙ sym (list_any_more (λ (m : Placed). gives_name dir name i m.1) ns k n within)

-- ---- the text of names

pub text_of_names : {B : Type 0} (shown : B → List ℕ) (names : List B) → 0 < length names
    → flat_map (λ (n : B). 47 ∷ shown n) names ≡ path_text (map shown names)
text_of_names shown [] some = absurd (omega (arith, some))
text_of_names shown (n ∷ ns) some = sym (flat_map-map (λ l. 47 ∷ l) shown (n ∷ ns))

-- ---- the last name, and those before it

last_behind : (front : List (List ℕ)) (last : List ℕ) → last_of (front ++ last ∷ []) ≡ last
last_behind [] last = refl
last_behind (x ∷ []) last = refl
last_behind (x ∷ y ∷ xs) last = last_behind (y ∷ xs) last

front_behind : (front : List (List ℕ)) (last : List ℕ) → way_up (front ++ last ∷ []) ≡ front
front_behind front last =
    ap (λ (n : ℕ). take n (front ++ last ∷ [])) (omega (arith, length-append front (last ∷ []))) ∙ take-append_seam front (last ∷ [])

former_by : (ns : List Placed) (t : State) (front : List (List ℕ)) (last : List ℕ) (numbers : BTreeSet ℕ)
    → IsFormerBehind ns t front last numbers → AreFormerBy ns t (Some (front ++ last ∷ [])) numbers
former_by ns t [] last numbers is = is
former_by ns t (x ∷ xs) last numbers is =
    subst (λ (w : List (List ℕ)). IsFormerBehind ns t w (last_of (x ∷ xs ++ last ∷ [])) numbers) (sym (front_behind (x ∷ xs) last))
    (subst (λ (l : List ℕ). IsFormerBehind ns t (x ∷ xs) l numbers) (sym (last_behind (x ∷ xs) last)) is)

no_former_by : (ns : List Placed) (t : State) (front : List (List ℕ)) (last : List ℕ) (f : FindFault)
    → IsNoneBehind ns t front last f → IsNoFormerBy ns t (Some (front ++ last ∷ [])) f
no_former_by ns t [] last f is = is
no_former_by ns t (x ∷ xs) last f is =
    subst (λ (w : List (List ℕ)). IsNoneBehind ns t w (last_of (x ∷ xs ++ last ∷ [])) f) (sym (front_behind (x ∷ xs) last))
    (subst (λ (l : List ℕ). IsNoneBehind ns t (x ∷ xs) l f) (sym (last_behind (x ∷ xs) last)) is)

names_end : (path : List ℕ) (names front : List (Bor (List ℕ))) (last : Bor (List ℕ)) → Some (map (λ n. n.now) names) ≡ path_names path
    → names ≡ front ++ last ∷ [] → Some (map (λ n. n.now) front ++ last.now ∷ []) ≡ path_names path
names_end path names front last is ends =
    ap Some (sym (map-append (λ (n : Bor (List ℕ)). n.now) front (last ∷ []))) ∙ ap (λ (l : List (Bor (List ℕ))). Some (map (λ n. n.now) l)) (sym ends) ∙ is

tells_more : (less more : FindFault → Type 0) → ((f : FindFault) → less f → more f) → (f : Fault) → TellsPath less f → TellsPath more f
tells_more less more to (fault.File file) tells = tells
tells_more less more to (fault.NotRead file) tells = tells
tells_more less more to (fault.NoNodes of count) tells = tells
tells_more less more to (fault.NoSpace folder) tells = tells
tells_more less more to (fault.Findings of findings) tells = tells
tells_more less more to (fault.Refused why) tells = (tells.0, tells.1, to tells.0 tells.2)
tells_more less more to fault.Output tells = tells
tells_more less more to fault.OutOfMemory tells = tells

pub former_ok : (ns : List Placed) (t : State) (path : List ℕ) (names front : List (Bor (List ℕ))) (last : Bor (List ℕ))
    → Some (map (λ n. n.now) names) ≡ path_names path → names ≡ front ++ last ∷ [] → (r : Result (BTreeSet ℕ) Fault)
    → IfOk r (IsFormerBehind ns t (map (λ n. n.now) front) last.now) → IfOk r (AreFormer ns t path)
former_ok ns t path names front last is ends (Ok numbers) behind =
    subst (λ (o : Option (List (List ℕ))). AreFormerBy ns t o numbers) (names_end path names front last is ends)
    (former_by ns t (map (λ n. n.now) front) last.now numbers behind)
former_ok ns t path names front last is ends (Err f) behind = behind

pub former_err : (ns : List Placed) (t : State) (path : List ℕ) (names front : List (Bor (List ℕ))) (last : Bor (List ℕ))
    → Some (map (λ n. n.now) names) ≡ path_names path → names ≡ front ++ last ∷ [] → (r : Result (BTreeSet ℕ) Fault)
    → IfErr r (TellsPath (IsNoneBehind ns t (map (λ n. n.now) front) last.now)) → IfErr r (TellsPath (IsNoFormer ns t path))
former_err ns t path names front last is ends (Ok numbers) behind = behind
former_err ns t path names front last is ends (Err f) behind =
    tells_more (IsNoneBehind ns t (map (λ n. n.now) front) last.now) (IsNoFormer ns t path)
    (λ (why : FindFault) (none : IsNoneBehind ns t (map (λ n. n.now) front) last.now why). subst (λ (o : Option (List (List ℕ))). IsNoFormerBy ns t o why)
    (names_end path names front last is ends) (no_former_by ns t (map (λ n. n.now) front) last.now why none))
    f behind
