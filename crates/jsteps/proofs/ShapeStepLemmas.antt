-- Which steps keep the shape of a tree.
use Rattle.std.proofs.Common.{◌≡◌, ◌≢◌, ℕ, ◌+◌, ◌/◌, Bool, true, false, cond, List, [], ◌∷◌, ◌++◌, length, Option, Some, None, refl, ap, sym, ◌∙◌, inl, inr, ◌⊎◌, ⊎_elim}
use Rattle.std.specs.Prelude.{flat_map, is_some, nat_lt, ◌==◌, max, min}
use Rattle.std.specs.List.{AllByRecursion}
use Rattle.std.specs.Ordering.{eq_by_cmp, nat_cmp}
use Rattle.std.specs.Cmp.{nat_cmp_total, eq_by_cmp_equiv}
use Rattle.std.specs.FinMap.{get, insert, remove, get-insert, get-remove}
use Rattle.std.proofs.lemmas.Bool.{cond_both, false≢true}
use Rattle.std.proofs.lemmas.Map.Views.{tells_apart}
use Rattle.jname.specs.Live.{Key, key_cmp}
use Rattle.jname.proofs.NamingLemmas.{key_cmp_total, key_cmp-IsAntisymmetric}
use Rattle.jmount.specs.Tree.{ObjectOf, Outline, object, named, is_directory, has_bits, directory_bits}
use Rattle.jsteps.specs.Steps.{sizes, do_step, after, renamed, rewritten, with_body, with_attributes, reattributed}
use Rattle.jsteps.specs.Nodes.{Indexed, advanced, advanced_all}
use Rattle.jsteps.specs.Planning.{piece_puts, page_puts, puts, spelling_len, zeros_to, write_steps, resize_steps}
use Rattle.jsteps.specs.declared.op.Attributes.{Attributes}
use Rattle.jsteps.specs.declared.step.Step.{Step}
use Rattle.jsteps.specs.declared.step.Step.TheVariants as step
use Rattle.jsteps.proofs.ConsistentLemmas.{cond_some_cases, tied}
use Rattle.jsteps.proofs.StepsLemmas.{kind_stays}
use Rattle.jmount.proofs.ShapeLemmas.{Leads, Follows, IsShaped, follows_keeps, gains_keeps}

-- ---- a number has another object

directory_there : (t : Outline) (i : ℕ) (b : Bool) (v : ObjectOf ℕ) → (b ≡ true → is_directory t i ≡ has_bits directory_bits (Some v))
    → has_bits directory_bits (cond b (Some v) (object t i)) ≡ true → is_directory t i ≡ true
directory_there t i true v h d = h refl ∙ d
directory_there t i false v h d = d

pub insert_follows : (t : Outline) (ino : ℕ) (v : ObjectOf ℕ) (next : ℕ)
    → ((d : ℕ) (n : List ℕ) (i : ℕ) → named t d n ≡ Some i → i ≡ ino → is_directory t i ≡ has_bits directory_bits (Some v))
    → Follows t (record { objects = insert t.objects ino v; names = t.names; next = next })
insert_follows t ino v next h = record {
  entries = λ d n i e there. (
    e,
    directory_there t i (eq_by_cmp nat_cmp i ino) v (λ yes. h d n i e (tied i ino yes))
        (sym (ap (has_bits directory_bits) (get-insert nat_cmp_total t.objects ino v i)) ∙ there),
  );
}

rewritten_follows : (t : Outline) (ino time : ℕ) (change : ℕ → ℕ) (o : Option (ObjectOf ℕ)) → object t ino ≡ o → Follows t (rewritten t ino time change o)
rewritten_follows t ino time change None is = record { entries = λ d n i e there. (e, there) }
rewritten_follows t ino time change (Some o) is =
    insert_follows t ino (with_body o time (change o.body)) t.next (λ d n i e same. ap (is_directory t) same ∙ ap (has_bits directory_bits) is)

reattributed_follows : (t : Outline) (ino time : ℕ) (attributes : Attributes) (o : Option (ObjectOf ℕ)) → object t ino ≡ o → Follows t (reattributed t ino time attributes o)
reattributed_follows t ino time attributes None is = record { entries = λ d n i e there. (e, there) }
reattributed_follows t ino time attributes (Some o) is =
    insert_follows t ino (with_attributes o time attributes) t.next
    (λ d n i e same. ap (is_directory t) same ∙ ap (has_bits directory_bits) is ∙ sym (ap (λ (kind : ℕ). kind == directory_bits) (kind_stays o.mode attributes.mode)))

-- ---- steps that change one object and keep its kind

pub OnObject : Step → Type 0
OnObject (step.MakeObject time mode uid gid target) = ⊥
OnObject (step.SetName time directory name ino) = ⊥
OnObject (step.ClearName time directory name) = ⊥
OnObject (step.Put time ino offset new) = Unit {0}
OnObject (step.Zero time ino count) = Unit {0}
OnObject (step.Cut time ino size) = Unit {0}
OnObject (step.SetAttributes time ino attributes) = Unit {0}

object_follows : (t : Outline) (s : Step) → OnObject s → Follows t (do_step sizes t s)
unfolding OnObject
object_follows t (step.MakeObject time mode uid gid target) is = absurd is
object_follows t (step.SetName time directory name ino) is = absurd is
object_follows t (step.ClearName time directory name) is = absurd is
object_follows t (step.Put time ino offset new) is = rewritten_follows t ino time (λ old. max old (offset + length new)) (object t ino) refl
object_follows t (step.Zero time ino count) is = rewritten_follows t ino time (λ old. old + count) (object t ino) refl
object_follows t (step.Cut time ino size) is = rewritten_follows t ino time (λ old. min size old) (object t ino) refl
object_follows t (step.SetAttributes time ino attributes) is = reattributed_follows t ino time attributes (object t ino) refl

pub object_keeps : (t : Outline) (steps : List Step) → AllByRecursion OnObject steps → IsShaped t → IsShaped (after sizes t steps)
object_keeps t [] all shape = shape
object_keeps t (s ∷ steps) all shape = object_keeps (do_step sizes t s) steps all.1 (follows_keeps t (do_step sizes t s) (object_follows t s all.0) shape)

all_append : {X : Type 0} (P : X → Type 0) (xs ys : List X) → AllByRecursion P xs → AllByRecursion P ys → AllByRecursion P (xs ++ ys)
all_append P [] ys all more = more
all_append P (x ∷ xs) ys all more = (all.0, all_append P xs ys all.1 more)

all_flat : {X : Type 0} (P : X → Type 0) (f : ℕ → List X) (ks : List ℕ) → ((k : ℕ) → AllByRecursion P (f k)) → AllByRecursion P (flat_map f ks)
all_flat P f [] all = tt
all_flat P f (k ∷ ks) all = all_append P (f k) (flat_map f ks) (all k) (all_flat P f ks all)

piece_on_object : (time ino start : ℕ) (piece : List ℕ) → AllByRecursion OnObject (piece_puts time ino start piece)
unfolding OnObject
piece_on_object time ino start piece =
    cond_both (length piece == spelling_len) _ _ (AllByRecursion OnObject) (λ yes. (tt, (tt, tt))) (λ no. (tt, tt))

zeros_on_object : (time ino old new : ℕ) → AllByRecursion OnObject (zeros_to time ino old new)
unfolding OnObject
zeros_on_object time ino old new = cond_both (nat_lt old new) _ _ (AllByRecursion OnObject) (λ yes. (tt, tt)) (λ no. tt)

pub write_on_object : (page time ino size offset : ℕ) (bytes : List ℕ) → AllByRecursion OnObject (write_steps page time ino size offset bytes)
write_on_object page time ino size offset [] = tt
write_on_object page time ino size offset (b ∷ bytes) =
    all_append OnObject (zeros_to time ino size offset) (puts page time ino offset (b ∷ bytes)) (zeros_on_object time ino size offset)
    (all_flat OnObject (λ n. page_puts page time ino offset (b ∷ bytes) (offset / page + n)) _ (λ n. piece_on_object time ino _ _))

pub resize_on_object : (time ino old new : ℕ) → AllByRecursion OnObject (resize_steps time ino old new)
unfolding OnObject
resize_on_object time ino old new = cond_both (nat_lt new old) _ _ (AllByRecursion OnObject) (λ yes. (tt, tt)) (λ no. zeros_on_object time ino old new)

pub attributes_on_object : (time ino : ℕ) (attributes : Attributes) → AllByRecursion OnObject (step.SetAttributes time ino attributes ∷ [])
unfolding OnObject
attributes_on_object time ino attributes = (tt, tt)

-- what such steps leave of a tree: its names, its next number, and which numbers have objects
pub record IsLeft (t u : Outline) : Type 0 where
  pub names : u.names ≡ t.names
  pub next : u.next ≡ t.next
  pub there : (d : ℕ) → is_some (object t d) ≡ true → is_some (object u d) ≡ true

pub still_some : {X : Type 0} (b : Bool) (v : X) (o : Option X) → is_some o ≡ true → is_some (cond b (Some v) o) ≡ true
still_some true v o h = refl
still_some false v o h = h

insert_left : (t : Outline) (ino : ℕ) (v : ObjectOf ℕ) → IsLeft t (record { objects = insert t.objects ino v; names = t.names; next = t.next })
insert_left t ino v = record {
  names = refl;
  next = refl;
  there = λ d h. ap is_some (get-insert nat_cmp_total t.objects ino v d) ∙ still_some (eq_by_cmp nat_cmp d ino) v (object t d) h;
}

none_left : (t : Outline) → IsLeft t t
none_left t = record { names = refl; next = refl; there = λ d h. h }

rewritten_left : (t : Outline) (ino time : ℕ) (change : ℕ → ℕ) (o : Option (ObjectOf ℕ)) → IsLeft t (rewritten t ino time change o)
rewritten_left t ino time change None = none_left t
rewritten_left t ino time change (Some o) = insert_left t ino (with_body o time (change o.body))

reattributed_left : (t : Outline) (ino time : ℕ) (attributes : Attributes) (o : Option (ObjectOf ℕ)) → IsLeft t (reattributed t ino time attributes o)
reattributed_left t ino time attributes None = none_left t
reattributed_left t ino time attributes (Some o) = insert_left t ino (with_attributes o time attributes)

object_left : (t : Outline) (s : Step) → OnObject s → IsLeft t (do_step sizes t s)
unfolding OnObject
object_left t (step.MakeObject time mode uid gid target) is = absurd is
object_left t (step.SetName time directory name ino) is = absurd is
object_left t (step.ClearName time directory name) is = absurd is
object_left t (step.Put time ino offset new) is = rewritten_left t ino time (λ old. max old (offset + length new)) (object t ino)
object_left t (step.Zero time ino count) is = rewritten_left t ino time (λ old. old + count) (object t ino)
object_left t (step.Cut time ino size) is = rewritten_left t ino time (λ old. min size old) (object t ino)
object_left t (step.SetAttributes time ino attributes) is = reattributed_left t ino time attributes (object t ino)

pub objects_left : (t : Outline) (steps : List Step) → AllByRecursion OnObject steps → IsLeft t (after sizes t steps)
objects_left t [] all = none_left t
objects_left t (s ∷ steps) all =
    let one = object_left t s all.0 in
    let rest = objects_left (do_step sizes t s) steps all.1 in
    record { names = rest.names ∙ one.names; next = rest.next ∙ one.next; there = λ d h. rest.there d (one.there d h) }

-- ---- several steps

pub after-append : (t : Outline) (xs ys : List Step) → after sizes t (xs ++ ys) ≡ after sizes (after sizes t xs) ys
after-append t [] ys = refl
after-append t (s ∷ xs) ys = after-append (do_step sizes t s) xs ys

pub tree_advanced : (x : Indexed) (steps : List Step) → (advanced_all x steps).tree ≡ after sizes x.tree steps
tree_advanced x [] = refl
tree_advanced x (s ∷ steps) = tree_advanced (advanced x s) steps

-- ---- names

same_key : (k l : Key) → eq_by_cmp key_cmp k l ≡ true → k ≡ l
same_key k l h = tells_apart {R = key_cmp} key_cmp-IsAntisymmetric k l h

still_there : {X : Type 0} (b : Bool) (o : Option X) (p : X) → cond b None o ≡ Some p → (b ≡ false) × (o ≡ Some p)
still_there true o p e = absurd (false≢true (ap is_some e))
still_there false o p e = (refl, e)

pub clear_follows : (t : Outline) (key : Key) → Follows t (renamed t (remove t.names key))
clear_follows t key = record {
  entries = λ d n i e there. ((still_there (eq_by_cmp key_cmp (d, n) key) (get t.names (d, n)) i (sym (get-remove key_cmp_total t.names key (d, n)) ∙ e)).1, there);
}

-- one more name, which may be that of a directory
pub record MayGain (t u : Outline) (dir : ℕ) (name : List ℕ) (i : ℕ) : Type 0 where
  pub directories : (k : ℕ) → is_directory u k ≡ is_directory t k
  pub entries : (d : ℕ) (n : List ℕ) (k : ℕ) → named u d n ≡ Some k → (named t d n ≡ Some k) ⊎ ((d ≡ dir) × (n ≡ name) × (k ≡ i))
  pub alone : is_directory t i ≡ true → (d : ℕ) (n : List ℕ) → named u d n ≡ Some i → (d ≡ dir) × (n ≡ name)
  pub apart : is_directory t i ≡ true → (ns : List (List ℕ)) → Leads t i ns dir → ⊥

pub may_gain_keeps : (t u : Outline) (dir : ℕ) (name : List ℕ) (i : ℕ) → MayGain t u dir name i → IsShaped t → IsShaped u
may_gain_keeps t u dir name i is shape = by_kind (is_directory t i) refl
  where
    by_kind : (b : Bool) → is_directory t i ≡ b → IsShaped u
    by_kind true d =
        gains_keeps t u dir name i (record { directories = is.directories; entries = is.entries; alone = is.alone d; apart = is.apart d }) shape
    by_kind false d =
        follows_keeps t u
        (record {
          entries = λ a n k e there.
              let kind : is_directory t k ≡ true = sym (is.directories k) ∙ there in
              ⊎_elim
              (λ (old : named t a n ≡ Some k). (old, kind))
              (λ (new : (a ≡ dir) × (n ≡ name) × (k ≡ i)). absurd (false≢true (sym d ∙ ap (is_directory t) (sym new.2) ∙ kind)))
              (is.entries a n k e);
        })
        shape

-- the names of a tree in which a name is set
set_entries : (t : Outline) (dir : ℕ) (name : List ℕ) (i d : ℕ) (n : List ℕ) (k : ℕ) → get (insert t.names (dir, name) i) (d, n) ≡ Some k
    → ((named t d n ≡ Some k) ⊎ ((d ≡ dir) × (n ≡ name) × (k ≡ i)))
set_entries t dir name i d n k e =
    ⊎_elim
    (λ (here : (eq_by_cmp key_cmp (d, n) (dir, name) ≡ true) × (i ≡ k)).
    let key = same_key (d, n) (dir, name) here.0 in
    inr (ap (λ (k : Key). k.0) key, ap (λ (k : Key). k.1) key, sym here.1))
    (λ old. inl old)
    (cond_some_cases (eq_by_cmp key_cmp (d, n) (dir, name)) i (get t.names (d, n)) k (sym (get-insert key_cmp_total t.names (dir, name) i (d, n)) ∙ e))

pub set_keeps : (t : Outline) (dir : ℕ) (name : List ℕ) (i : ℕ)
    → (is_directory t i ≡ true → (d : ℕ) (n : List ℕ) → named t d n ≡ Some i → ⊥)
    → (is_directory t i ≡ true → (ns : List (List ℕ)) → Leads t i ns dir → ⊥)
    → IsShaped t → IsShaped (renamed t (insert t.names (dir, name) i))
set_keeps t dir name i none apart shape =
    may_gain_keeps t (renamed t (insert t.names (dir, name) i)) dir name i
    (record {
      directories = λ k. refl;
      entries = λ d n k e. set_entries t dir name i d n k e;
      alone = λ there d n e.
          ⊎_elim
          (λ (old : named t d n ≡ Some i). absurd (none there d n old))
          (λ (new : (d ≡ dir) × (n ≡ name) × (i ≡ i)). (new.0, new.1))
          (set_entries t dir name i d n i e);
      apart = apart;
    })
    shape

-- a name is set, and then the old one of the same number cleared
pub move_keeps : (t : Outline) (dir : ℕ) (name : List ℕ) (from : ℕ) (old : List ℕ) (i : ℕ) → named t from old ≡ Some i → (is_directory t i ≡ true → i ≢ 1)
    → (is_directory t i ≡ true → (ns : List (List ℕ)) → Leads t i ns dir → ⊥)
    → IsShaped t → IsShaped (renamed (renamed t (insert t.names (dir, name) i)) (remove (insert t.names (dir, name) i) (from, old)))
move_keeps t dir name from old i stood other apart shape =
    let names = insert t.names (dir, name) i in
    let left : (d : ℕ) (n : List ℕ) (k : ℕ) → get (remove names (from, old)) (d, n) ≡ Some k → (eq_by_cmp key_cmp (d, n) (from, old) ≡ false) × (get names (d, n) ≡ Some k) =
    λ d n k e. still_there (eq_by_cmp key_cmp (d, n) (from, old)) (get names (d, n)) k (sym (get-remove key_cmp_total names (from, old) (d, n)) ∙ e) in
    may_gain_keeps t (renamed (renamed t names) (remove names (from, old))) dir name i
    (record {
      directories = λ k. refl;
      entries = λ d n k e. set_entries t dir name i d n k (left d n k e).1;
      alone = λ there d n e.
          let at = left d n i e in
          ⊎_elim
          (λ (stands : named t d n ≡ Some i).
          let one = shape.single d from n old i stands stood there (other there) in
          absurd
          (false≢true
          (sym at.0
          ∙ ap (λ (d : ℕ). eq_by_cmp key_cmp (d, n) (from, old)) one.0
          ∙ ap (λ (n : List ℕ). eq_by_cmp key_cmp (from, n) (from, old)) one.1
          ∙ (eq_by_cmp_equiv key_cmp_total).refl (from, old))))
          (λ (new : (d ≡ dir) × (n ≡ name) × (i ≡ i)). (new.0, new.1))
          (set_entries t dir name i d n i at.1);
      apart = apart;
    })
    shape
