-- The numbers that several names stand for.
use Rattle.std.proofs.Common.{◌≡◌, ◌≢◌, ℕ, Bool, true, false, not, Decides, List, [], ◌∷◌, ◌++◌, Option, Some, None, refl, ap, sym, ◌∙◌, subst, ⊎_elim}
use Rattle.std.specs.Prelude.{Contains, is_some, if◌then◌else◌, ◌==◌, ◌&&◌}
use Rattle.std.specs.List.{list_any}
use Rattle.std.specs.Option.{option_and_then, option_or}
use Rattle.std.specs.Ordering.{nat_cmp}
use Rattle.std.specs.BTreeMap.{get}
use Rattle.std.specs.BTreeSet.{BTreeSet, contains}
use Rattle.std.specs.FinMap.{entries, entries_sorted}
use Rattle.std.proofs.lemmas.Bool.{eqb-true, eq-eqb, ne_eqb, false≢true, true≢false}
use Rattle.std.proofs.lemmas.List.{append_assoc, append-nil}
use Rattle.std.proofs.lemmas.List.Elements.{Contains-append_left, Contains-append_right}
use Rattle.flashbase.proofs.MemberLemmas.{Contains-none, Contains-here}
use Rattle.jnode.specs.declared.node.Dirent.{Dirent}
use Rattle.jname.specs.Live.{all_names, live_names}
use Rattle.jname.proofs.ContentsByNameLemmas.{by_test}
use Rattle.jmount.specs.Tree.{State, all_entries, is_directory}
use Rattle.jmount.specs.Shape.{IsSingle, HasOneName}
use Rattle.jmount.specs.Stored.{ObjectsByNumber, stored_object, stored_state}
use Rattle.jmount.specs.Storing.{as_made}
use Rattle.jmount.specs.Kept.{HasNoDirectories, HasOneNameIn, HasSeveral, HasSeveralIn, directory_kept_at, directory_kept}
use Rattle.jmount.specs.declared.stored.Stored.{Stored}
use Rattle.jmount.proofs.StoredLemmas.{object-is, is_some-map}
use Rattle.jmount.proofs.KeptLemmas.{HasSame, KeepsIn}
use Rattle.jmount.proofs.ShapeLemmas.{there_of_directory}
use Rattle.jmount.proofs.ShapeOfLemmas.{any_from, any_to}
use Rattle.jmount.proofs.ShapingLemmas.{Name, Gains, gained, gains_it, gains_more, not_again, one_of, none_is, in_all, of_all, in_keys, from_keys, not_true}

-- ---- name by name

abbrev SamePlace : Name → Name → Type 0
SamePlace e f = (e.0 ≡ f.0) × (e.1 ≡ f.1)

-- of the names that were read, the objects that have one are kept with a directory, and the set has
-- the numbers of those that have two
pub record NotesSeveral (objects : ObjectsByNumber) (all done rest : List Name) (several : BTreeSet ℕ) : Type 0 where
  pub whole : all ≡ done ++ rest
  pub met : (i : ℕ) → is_some (directory_kept_at objects i) ≡ true → (e : Name) × Contains done e × (e.2 ≡ i)
  pub each : (e : Name) → Contains done e → is_some (get nat_cmp objects e.2) ≡ true → is_some (directory_kept_at objects e.2) ≡ true
  pub single : (e f : Name) → Contains done e → Contains done f → e.2 ≡ f.2 → is_some (get nat_cmp objects e.2) ≡ true → contains nat_cmp several e.2 ≡ false → SamePlace e f
  pub twice : (i : ℕ) → contains nat_cmp several i ≡ true → (e : Name) × (f : Name) × Contains done e × Contains done f × (e.2 ≡ i) × (f.2 ≡ i) × (SamePlace e f → ⊥)

pub notes_begin : (objects : ObjectsByNumber) (all rest : List Name) (several : BTreeSet ℕ) → HasNoDirectories objects → rest ≡ all → several.keys ≡ [] → NotesSeveral objects all [] rest several
notes_begin objects all rest several none is empty = record {
  whole = sym is;
  met = λ i h. absurd (false≢true (sym (ap is_some (none i)) ∙ h));
  each = λ e there. absurd (Contains-none e there);
  single = λ e f there. absurd (Contains-none e there);
  twice = λ i h. absurd (none_is several i empty h);
}

kept_there : (o : Option Stored) → is_some (option_and_then directory_kept o) ≡ true → is_some o ≡ true
kept_there None h = h
kept_there (Some stored) h = refl

either_kept : (o p : Option ℕ) → is_some o ≡ true → is_some (option_or o p) ≡ true
either_kept (Some d) p h = refl
either_kept None p h = absurd (false≢true h)

kept_now : (o : Option ℕ) (dir : ℕ) → is_some (option_or o (Some dir)) ≡ true
kept_now (Some d) dir = refl
kept_now None dir = refl

was_kept : (o : Option ℕ) → is_some (option_or o None) ≡ true → is_some o ≡ true
was_kept (Some d) h = refl
was_kept None h = h

-- one more name, and the objects after it
module _ (old new : ObjectsByNumber) (all done left rest : List Name) (x : Name) (is : left ≡ x ∷ rest) (same : HasSame old new) (keeps : KeepsIn old new x.2 x.0) where
  there_before : (i : ℕ) → is_some (get nat_cmp new i) ≡ true → is_some (get nat_cmp old i) ≡ true
  there_before i h = is_some-map as_made (get nat_cmp old i) ∙ sym (ap is_some (same i)) ∙ sym (is_some-map as_made (get nat_cmp new i)) ∙ h

  split : (several : BTreeSet ℕ) → NotesSeveral old all done left several → all ≡ done ++ x ∷ rest
  split several so_far = so_far.whole ∙ ap (λ (xs : List Name). done ++ xs) is

  moved : (several : BTreeSet ℕ) → NotesSeveral old all done left several → all ≡ (done ++ x ∷ []) ++ rest
  moved several so_far = split several so_far ∙ sym (append_assoc done (x ∷ []) rest)

  met_more : (several : BTreeSet ℕ) → NotesSeveral old all done left several → (i : ℕ) → is_some (directory_kept_at new i) ≡ true → (e : Name) × Contains (done ++ x ∷ []) e × (e.2 ≡ i)
  met_more several so_far i h =
      let there = there_before i (kept_there (get nat_cmp new i) h) in
      let kept : is_some (option_or (directory_kept_at old i) (if x.2 == i then Some x.0 else None)) ≡ true = sym (ap is_some (keeps i there)) ∙ h in
      by_test (x.2 == i)
      (λ t. (x, Contains-append_right done (x ∷ []) x (Contains-here x []), eqb-true x.2 i t))
      (λ f.
      let before = so_far.met i (was_kept (directory_kept_at old i) (sym (ap (λ (b : Bool). is_some (option_or (directory_kept_at old i) (if b then Some x.0 else None))) f) ∙ kept)) in
      (before.0, Contains-append_left done (x ∷ []) before.0 before.1, before.2))

  each_more : (several : BTreeSet ℕ) → NotesSeveral old all done left several → (e : Name) → Contains (done ++ x ∷ []) e → is_some (get nat_cmp new e.2) ≡ true → is_some (directory_kept_at new e.2) ≡ true
  each_more several so_far e there h =
      let was = there_before e.2 h in
      ap is_some (keeps e.2 was)
      ∙ ⊎_elim
      (λ before. either_kept (directory_kept_at old e.2) (if x.2 == e.2 then Some x.0 else None) (so_far.each e before was))
      (λ (here : x ≡ e).
      ap (λ (b : Bool). is_some (option_or (directory_kept_at old e.2) (if b then Some x.0 else None))) (eq-eqb x.2 e.2 (ap (λ (n : Name). n.2) here)) ∙ kept_now (directory_kept_at old e.2) x.0)
      (one_of done x e there)

  -- the first of its number
  pub notes_first : (several : BTreeSet ℕ) → is_some (directory_kept_at old x.2) ≡ false → NotesSeveral old all done left several → NotesSeveral new all (done ++ x ∷ []) rest several
  notes_first several fresh so_far = record {
    whole = moved several so_far;
    met = met_more several so_far;
    each = each_more several so_far;
    single = λ e f in_e in_f number there free.
        let was = there_before e.2 there in
        let is_fresh : (g : Name) → Contains done g → x.2 ≡ g.2 → is_some (get nat_cmp old g.2) ≡ true → ⊥ =
        λ g in_g one was_g. false≢true (sym fresh ∙ ap (λ (i : ℕ). is_some (directory_kept_at old i)) one ∙ so_far.each g in_g was_g) in
        ⊎_elim
        (λ before.
        ⊎_elim (λ also. so_far.single e f before also number was free)
        (λ (same_f : x ≡ f). absurd (is_fresh e before (ap (λ (n : Name). n.2) same_f ∙ sym number) was))
        (one_of done x f in_f))
        (λ (same_e : x ≡ e).
        ⊎_elim
        (λ also. absurd (is_fresh f also (ap (λ (n : Name). n.2) same_e ∙ number) (subst (λ (i : ℕ). is_some (get nat_cmp old i) ≡ true) number was)))
        (λ (same_f : x ≡ f). (ap (λ (n : Name). n.0) (sym same_e ∙ same_f), ap (λ (n : Name). n.1) (sym same_e ∙ same_f)))
        (one_of done x f in_f))
        (one_of done x e in_e);
    twice = λ i h.
        let found = so_far.twice i h in
        (found.0, found.1, Contains-append_left done (x ∷ []) found.0 found.2, Contains-append_left done (x ∷ []) found.1 found.3, found.4, found.5, found.6);
  }

  -- a further one
  pub notes_further : (given : List Dirent) → all ≡ all_names given → (before after : BTreeSet ℕ) → is_some (directory_kept_at old x.2) ≡ true → Gains before after x.2 → NotesSeveral old all done left before
      → NotesSeveral new all (done ++ x ∷ []) rest after
  notes_further given names before after again u so_far =
      let stays : (i : ℕ) → contains nat_cmp after i ≡ false → contains nat_cmp before i ≡ false =
      λ i h. by_test (contains nat_cmp before i) (λ t. absurd (true≢false (sym (gains_more before after x.2 i u t) ∙ h))) (λ f. f) in
      let is_other : (e : Name) → x ≡ e → contains nat_cmp after e.2 ≡ false → ⊥ =
      λ e is_e h. true≢false (sym (gains_it before after x.2 u) ∙ ap (λ (n : Name). contains nat_cmp after n.2) is_e ∙ h) in
      record {
        whole = moved before so_far;
        met = met_more before so_far;
        each = each_more before so_far;
        single = λ e f in_e in_f number there free.
            ⊎_elim
            (λ in_done.
            ⊎_elim (λ also. so_far.single e f in_done also number (there_before e.2 there) (stays e.2 free))
            (λ (same_f : x ≡ f). absurd (is_other f same_f (sym (ap (contains nat_cmp after) number) ∙ free)))
            (one_of done x f in_f))
            (λ (same_e : x ≡ e). absurd (is_other e same_e free))
            (one_of done x e in_e);
        twice = λ i h.
            ⊎_elim
            (λ (here : x.2 ≡ i).
            let found = so_far.met x.2 again in (
              found.0,
              x,
              Contains-append_left done (x ∷ []) found.0 found.1,
              Contains-append_right done (x ∷ []) x (Contains-here x []),
              found.2 ∙ here,
              here,
              λ place. not_again (entries (live_names given)) (entries_sorted (live_names given)) done rest found.0 x (sym names ∙ split before so_far) found.1 place.0 place.1,
            ))
            (λ was.
            let found = so_far.twice i was in
            (found.0, found.1, Contains-append_left done (x ∷ []) found.0 found.2, Contains-append_left done (x ∷ []) found.1 found.3, found.4, found.5, found.6))
            (gained before after x.2 i u h);
      }

pub notes_all : (objects : ObjectsByNumber) (all done rest : List Name) (several : BTreeSet ℕ) → rest ≡ [] → NotesSeveral objects all done rest several → HasSeveralIn objects all several
notes_all objects all done rest several none so_far i there =
    let whole : all ≡ done = so_far.whole ∙ ap (λ (xs : List Name). done ++ xs) none ∙ append-nil done in
    let in_done : (e : Name) → Contains all e → Contains done e = λ e h. subst (λ (xs : List Name). Contains xs e) whole h in
    let in_names : (e : Name) → Contains done e → Contains all e = λ e h. subst (λ (xs : List Name). Contains xs e) (sym whole) h in (
      λ free e f in_e in_f is_e is_f.
          so_far.single e f (in_done e in_e) (in_done f in_f) (is_e ∙ sym is_f) (ap (λ (j : ℕ). is_some (get nat_cmp objects j)) is_e ∙ there)
          (ap (contains nat_cmp several) is_e ∙ not_true (contains nat_cmp several i) free),
      λ one.
          by_test (contains nat_cmp several i)
          (λ t.
          let found = so_far.twice i t in
          absurd (found.6 (one found.0 found.1 (in_names found.0 found.2) (in_names found.1 found.3) found.4 found.5)))
          (λ f. ap not f),
    )

-- ---- of a file system

one_name : (s : State) (i : ℕ) → HasOneNameIn (all_entries s) i → HasOneName s i
one_name s i one a b m n h k = one (a, m, i) (b, n, i) (in_all s a m i h) (in_all s b n i k) refl refl

one_name_in : (s : State) (i : ℕ) → HasOneName s i → HasOneNameIn (all_entries s) i
one_name_in s i one e f in_e in_f is_e is_f = one e.0 f.0 e.1 f.1 (of_all s e in_e ∙ ap Some is_e) (of_all s f in_f ∙ ap Some is_f)

pub several-is : (objects : ObjectsByNumber) (names : List Dirent) (next : ℕ) (several : BTreeSet ℕ) → HasSeveralIn objects (all_names names) several → HasSeveral (stored_state objects names next) several
several-is objects names next several known i there =
    let s : State = stored_state objects names next in
    let is : is_some (get nat_cmp objects i) ≡ true = is_some-map stored_object (get nat_cmp objects i) ∙ sym (ap is_some (object-is s objects names next refl i)) ∙ there in
    let decides = known i is in (λ free. one_name s i (decides.0 free), λ one. decides.1 (one_name_in s i one))

-- ---- second names of directories

is_second : State → ℕ → Bool
is_second s i = not (i == 1) && is_directory s i

of_second : (s : State) (i : ℕ) → is_second s i ≡ true → (i ≢ 1) × (is_directory s i ≡ true)
unfolding is_second
of_second s i h =
    by_test (i == 1)
    (λ t. absurd (false≢true (sym (ap (λ (b : Bool). not b && is_directory s i) t) ∙ h)))
    (λ f. (λ is. true≢false (sym (eq-eqb i 1 is) ∙ f), sym (ap (λ (b : Bool). not b && is_directory s i) f) ∙ h))

to_second : (s : State) (i : ℕ) → i ≢ 1 → is_directory s i ≡ true → is_second s i ≡ true
unfolding is_second
to_second s i other dir = ap (λ (b : Bool). not b && is_directory s i) (ne_eqb i 1 other) ∙ dir

pub second_is_told : (s : State) (several : BTreeSet ℕ) (told : Bool) → HasSeveral s several → told ≡ list_any (λ i. not (i == 1) && is_directory s i) several.keys → Decides (not told) (IsSingle s)
unfolding is_second
second_is_told s several told known is = (
  λ free a b m n i h k dir other.
      by_test (contains nat_cmp several i)
      (λ t.
      let any = any_from (is_second s) several.keys i (in_keys several i t) (to_second s i other dir) in
      absurd (false≢true (sym (ap not (is ∙ any)) ∙ free)))
      (λ f. (known i (there_of_directory s i dir)).0 (ap not f) a b m n h k),
  λ single.
      by_test told
      (λ t.
      let found = any_to (is_second s) several.keys (sym is ∙ t) in
      let second = of_second s found.0 found.2 in
      let free = (known found.0 (there_of_directory s found.0 second.1)).1 (λ a b m n h k. single a b m n found.0 h k second.1 second.0) in
      absurd (false≢true (sym (ap not (from_keys several found.0 found.1)) ∙ free)))
      (λ f. ap not f),
)
