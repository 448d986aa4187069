-- What a change of one name, or of one directory, leaves at every name, version and directory.
use Rattle.std.proofs.Common.{◌≡◌, ℕ, Bool, true, false, cond, ◌&&◌, List, [], ◌∷◌, map, refl, sym, ap, subst, Some, None, Option, Result, Ok, Err, OnOk, OnErr, ◌∙◌, ⊎_elim, inl, inr, ◌≤◌, arith, ◌↔◌}
use Rattle.std.specs.Prelude.{◌⊎◌, if◌then◌else◌, ◌==◌, IsSome, max}
use Rattle.std.specs.Option.{option_and_then}
use Rattle.std.specs.Ordering.{nat_cmp, is_eq, eq_by_cmp}
use Rattle.std.specs.Cmp.{eq_by_cmp_equiv}
use Rattle.std.specs.Cmp.Lexicographic.{slice_cmp, nat_list_cmp_total, nat_list_eq_equiv}
use Rattle.std.specs.Cow.{cow_slice_items}
use Rattle.std.specs.Str.{bytes_eq}
use Rattle.std.specs.BTreeMap.{UpdatesBy}
use Rattle.std.specs.Map.{lookup, KeepsOthers, IsKeyTest, AreApart}
use Rattle.std.proofs.lemmas.Bool.{cases_lt, eq-eqb, eqb-true}
use Rattle.std.proofs.lemmas.Slice.Eq.{bytes_eq-Decides}
use Rattle.std.proofs.lemmas.Map.Text.{is_eq-slice_cmp}
use Rattle.jname.specs.declared.versions.Content.{Content}
use Rattle.jname.specs.declared.versions.Versions.{Versions}
use Rattle.jname.specs.Versions.{contents_of, version_at, Differs}
use Rattle.jname.specs.ContentsByName.{Name, name_cmp, ByName, versions_of_name, content_in, with_contents, HasSameContents}

pub ok_map : {T E : Type 0} {P Q : Type 0} (r : Result T E) → (P → Q) → OnOk r P → OnOk r Q
ok_map (Ok x) f h = f h
ok_map (Err e) f h = h

pub err_map : {T E : Type 0} {P Q : Type 0} (r : Result T E) → (P → Q) → OnErr r P → OnErr r Q
err_map (Ok x) f h = h
err_map (Err e) f h = f h

pub ok_both : {T E : Type 0} {P Q R : Type 0} (r : Result T E) → (P → Q → R) → OnOk r P → OnOk r Q → OnOk r R
ok_both (Ok x) f h k = f h k
ok_both (Err e) f h k = h

pub err_always : {T E : Type 0} {P : Type 0} (r : Result T E) → P → OnErr r P
err_always (Ok x) p = tt
err_always (Err e) p = p

-- a test is true or false
pub by_test : {P : Type 0} (b : Bool) → (b ≡ true → P) → (b ≡ false → P) → P
by_test true yes_case no_case = yes_case refl
by_test false yes_case no_case = no_case refl

-- ---- names

apart : (bs cs ks : List ℕ) → bytes_eq bs cs ≡ false → bytes_eq bs ks ≡ true → bytes_eq cs ks ≡ false
apart bs cs ks n y = nat_list_eq_equiv.symm cs ks ∙ sym (nat_list_eq_equiv.congr bs ks cs y) ∙ n

pub apart_in_order : (bs cs ks : List ℕ) → bytes_eq bs cs ≡ false → is_eq (slice_cmp nat_cmp bs ks) ≡ true → is_eq (slice_cmp nat_cmp cs ks) ≡ false
apart_in_order bs cs ks n y = is_eq-slice_cmp cs ks ∙ apart bs cs ks n (sym (is_eq-slice_cmp bs ks) ∙ y)

pub other_entries : {K X : Type 0} (eq : K → K → Bool) (test : K → Bool) (old new : List (K × X)) → KeepsOthers eq test old new → (other : K → Bool) → IsKeyTest eq other → AreApart test other → lookup other new ≡ lookup other old
unfolding KeepsOthers
other_entries eq test old new h = h

-- the versions of one name are replaced
abbrev pub Replaces : ByName → ByName → List ℕ → Versions → Type 0
Replaces old new name versions = UpdatesBy name_cmp (λ (k : Name). slice_cmp nat_cmp name (cow_slice_items k)) old new (Some versions)

pub versions_of_name-same : (old new : ByName) (name : List ℕ) (versions : Versions) → Replaces old new name versions → (n : List ℕ) → bytes_eq name n ≡ true → versions_of_name new.entries n ≡ Some versions
versions_of_name-same old new name versions u n e = subst (λ (x : List ℕ). versions_of_name new.entries x ≡ Some versions) ((bytes_eq-Decides name n).0 e) u.1

pub versions_of_name-other : (old new : ByName) (name : List ℕ) (versions : Versions) → Replaces old new name versions → (n : List ℕ) → bytes_eq name n ≡ false → versions_of_name new.entries n ≡ versions_of_name old.entries n
versions_of_name-other old new name versions u n e =
    other_entries (eq_by_cmp name_cmp) (λ (k : Name). is_eq (slice_cmp nat_cmp name (cow_slice_items k))) old.entries new.entries u.3
    (λ (k : Name). is_eq (slice_cmp nat_cmp n (cow_slice_items k)))
    (λ (x y : Name). (eq_by_cmp_equiv nat_list_cmp_total).congr n (cow_slice_items x) (cow_slice_items y))
    (λ (k : Name). apart_in_order name n (cow_slice_items k) e)

at_version : ℕ → Option Versions → Option Content
at_version v o = option_and_then (λ (x : Versions). version_at x v) o

-- where the versions of a name have one content more, so has the directory
pub content_in-replaced : (old new : ByName) (name : List ℕ) (versions : Versions) (version : ℕ) (content : Content) → Replaces old new name versions
    → ((v : ℕ) → version_at versions v ≡ (if version == v then Some content else content_in old.entries name v))
    → (n : List ℕ) (v : ℕ) → content_in new.entries n v ≡ (if bytes_eq name n && version == v then Some content else content_in old.entries n v)
unfolding at_version
content_in-replaced old new name versions version content u h n v =
    by_test (bytes_eq name n)
    (λ e. ap (at_version v) (versions_of_name-same old new name versions u n e) ∙ h v
    ∙ ap (λ (x : List ℕ). if version == v then Some content else content_in old.entries x v) ((bytes_eq-Decides name n).0 e)
    ∙ ap (λ (b : Bool). if b && version == v then Some content else content_in old.entries n v) (sym e))
    (λ e. ap (at_version v) (versions_of_name-other old new name versions u n e)
    ∙ ap (λ (b : Bool). if b && version == v then Some content else content_in old.entries n v) (sym e))

-- where they are as they were, so is the directory
pub content_in-unchanged : (old new : ByName) (name : List ℕ) (versions : Versions) → Replaces old new name versions
    → ((v : ℕ) → version_at versions v ≡ content_in old.entries name v)
    → (n : List ℕ) (v : ℕ) → content_in new.entries n v ≡ content_in old.entries n v
unfolding at_version
content_in-unchanged old new name versions u h n v =
    by_test (bytes_eq name n)
    (λ e. ap (at_version v) (versions_of_name-same old new name versions u n e) ∙ h v ∙ ap (λ (x : List ℕ). content_in old.entries x v) ((bytes_eq-Decides name n).0 e))
    (λ e. ap (at_version v) (versions_of_name-other old new name versions u n e))

-- ---- the greatest version

pub some_of_both : (b c : Bool) (x : Content) (o : Option Content) → (if b && c then Some x else o) ≡ None → o ≡ None
some_of_both true true x o e = let no : Some x ≡ None = e in cc
some_of_both true false x o e = e
some_of_both false c x o e = e

-- no version that is stored is higher
abbrev pub IsBound : List (Name × Versions) → ℕ → Type 0
IsBound names highest = (n : List ℕ) (v : ℕ) → IsSome (content_in names n v) → v ≤ highest

-- one that is stored is as high
abbrev pub IsReached : List (Name × Versions) → ℕ → Type 0
IsReached names highest = ((n : List ℕ) → content_in names n highest ≡ None) → ⊥

abbrev pub HasOneMore : List (Name × Versions) → List (Name × Versions) → List ℕ → ℕ → Content → Type 0
HasOneMore old new name version content = (n : List ℕ) (v : ℕ) → content_in new n v ≡ (if bytes_eq name n && version == v then Some content else content_in old n v)

one_more_bound : (b c : Bool) (x : Content) (o : Option Content) (v version highest : ℕ) → (c ≡ true → version ≡ v) → (IsSome o → v ≤ highest) → IsSome (if b && c then Some x else o) → v ≤ max highest version
one_more_bound true true x o v version highest same below h = let e : version ≡ v = same refl in omega arith
one_more_bound true false x o v version highest same below h = let e : v ≤ highest = below h in omega arith
one_more_bound false c x o v version highest same below h = let e : v ≤ highest = below h in omega arith

pub bound_of_one_more : (old new : List (Name × Versions)) (name : List ℕ) (version : ℕ) (content : Content) (highest top : ℕ) → HasOneMore old new name version content → top ≡ max highest version → IsBound old highest → IsBound new top
bound_of_one_more old new name version content highest top more is below n v h =
    let e : v ≤ max highest version = one_more_bound (bytes_eq name n) (version == v) content (content_in old n v) v version highest (eqb-true version v) (below n v) (subst (λ (o : Option Content). IsSome o) (more n v) h) in
    omega arith

bytes_eq-self : (n : List ℕ) → bytes_eq n n ≡ true
bytes_eq-self n = (bytes_eq-Decides n n).1 refl

pub reached_there : (old new : List (Name × Versions)) (name : List ℕ) (version : ℕ) (content : Content) → HasOneMore old new name version content → IsReached new version
reached_there old new name version content more none =
    let there : content_in new name version ≡ Some content = more name version ∙ ap (λ (b : Bool). if b && version == version then Some content else content_in old name version) (bytes_eq-self name) ∙ ap (λ (b : Bool). if b then Some content else content_in old name version) (eq-eqb version version refl) in
    let gone : content_in new name version ≡ None = none name in
    cc

reached_still : (old new : List (Name × Versions)) (name : List ℕ) (version : ℕ) (content : Content) (highest : ℕ) → HasOneMore old new name version content → IsReached old highest → IsReached new highest
reached_still old new name version content highest more reached none =
    reached (λ n. some_of_both (bytes_eq name n) (version == highest) content (content_in old n highest) (sym (more n highest) ∙ none n))

one_of_max : (a b m : ℕ) → m ≡ max a b → (m ≡ a) ⊎ (m ≡ b)
one_of_max a b m e = ⊎_elim (λ lt. inr (omega arith)) (λ ge. inl (omega arith)) (cases_lt a b)

pub reached_by_one_more : (old new : List (Name × Versions)) (name : List ℕ) (version : ℕ) (content : Content) (highest top : ℕ) → HasOneMore old new name version content → top ≡ max highest version → IsReached old highest → IsReached new top
reached_by_one_more old new name version content highest top more is reached =
    ⊎_elim
    (λ (e : top ≡ highest). subst (λ (t : ℕ). IsReached new t) (sym e) (reached_still old new name version content highest more reached))
    (λ (e : top ≡ version). subst (λ (t : ℕ). IsReached new t) (sym e) (reached_there old new name version content more))
    (one_of_max highest version top is)

-- ---- where nothing is stored, nothing clashes

pub no_clash : (o : Option Content) (content : Content) (P : Type 0) → o ≡ None → (P → ⊥) → P ↔ Differs o content
no_clash o content P gone not = (λ p. absurd (not p), λ d. absurd (subst (λ (q : Option Content). Differs q content) gone d))

pub content_in-none : (names : List (Name × Versions)) (name : List ℕ) (v : ℕ) → versions_of_name names name ≡ None → content_in names name v ≡ None
unfolding at_version
content_in-none names name v e = ap (at_version v) e

-- ---- names that show the same

-- the content at a version of a name that shows as these
content_shown : List (Name × List (ℕ × Content)) → List ℕ → ℕ → Option Content
content_shown ss n v = option_and_then (λ (cs : List (ℕ × Content)). lookup (eq_by_cmp nat_cmp v) cs) (lookup (λ (k : Name). is_eq (slice_cmp nat_cmp n (cow_slice_items k))) ss)

shown_first : (b : Bool) (e : Name × Versions) (v : ℕ) (o : Option Versions) (p : Option (List (ℕ × Content)))
    → option_and_then (λ (x : Versions). version_at x v) o ≡ option_and_then (λ (cs : List (ℕ × Content)). lookup (eq_by_cmp nat_cmp v) cs) p
    → option_and_then (λ (x : Versions). version_at x v) (cond b (Some e.1) o) ≡ option_and_then (λ (cs : List (ℕ × Content)). lookup (eq_by_cmp nat_cmp v) cs) (cond b (Some (contents_of e.1)) p)
shown_first true e v o p h = refl
shown_first false e v o p h = h

content_shown-is : (es : List (Name × Versions)) (n : List ℕ) (v : ℕ) → content_in es n v ≡ content_shown (map with_contents es) n v
unfolding content_shown
content_shown-is [] n v = refl
content_shown-is (e ∷ es) n v =
    shown_first (is_eq (slice_cmp nat_cmp n (cow_slice_items e.0))) e v (versions_of_name es n) (lookup (λ (k : Name). is_eq (slice_cmp nat_cmp n (cow_slice_items k))) (map with_contents es)) (content_shown-is es n v)

content_in-same : (old new : List (Name × Versions)) → HasSameContents old new → (n : List ℕ) (v : ℕ) → content_in new n v ≡ content_in old n v
content_in-same old new same n v =
    content_shown-is new n v ∙ ap (λ (ss : List (Name × List (ℕ × Content))). content_shown ss n v) same ∙ sym (content_shown-is old n v)

pub bound_the_same : (old new : List (Name × Versions)) (highest : ℕ) → HasSameContents old new → IsBound old highest → IsBound new highest
bound_the_same old new highest same bound n v h = bound n v (subst (λ (o : Option Content). IsSome o) (content_in-same old new same n v) h)

pub reached_the_same : (old new : List (Name × Versions)) (highest : ℕ) → HasSameContents old new → IsReached old highest → IsReached new highest
reached_the_same old new highest same reached none = reached (λ n. sym (content_in-same old new same n highest) ∙ none n)
