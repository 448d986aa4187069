-- The versions and numbers of a plan are as few as the steps before it.
use Rattle.std.proofs.Common.{◌≡◌, ℕ, ◌+◌, ◌<◌, ◌≤◌, Bool, true, false, cond, List, [], ◌∷◌, length, Option, Some, None, refl, ap, sym, ◌∙◌, subst, arith}
use Rattle.std.specs.Prelude.{◌||◌, nat_lt, unwrap_or}
use Rattle.std.specs.List.{list_any, AllByRecursion}
use Rattle.std.specs.Ordering.{eq_by_cmp, nat_cmp}
use Rattle.std.specs.Cmp.{nat_cmp_total}
use Rattle.std.specs.FinMap.{get, get-insert}
use Rattle.std.proofs.lemmas.Bool.{ltb-true}
use Rattle.jmount.specs.Tree.{ObjectOf, Outline, object}
use Rattle.jmount.specs.StateOf.{owner, version_of}
use Rattle.jmount.specs.Shown.{top_at}
use Rattle.jsteps.specs.Steps.{sizes, do_step, rewritten, reattributed}
use Rattle.jsteps.specs.Nodes.{Indexed, node_of, nodes_of, advanced, advanced_all}
use Rattle.jsteps.specs.Refusals.{is_past}
use Rattle.jsteps.specs.declared.op.Attributes.{Attributes}
use Rattle.jsteps.specs.declared.step.Step.{Step}
use Rattle.jsteps.specs.declared.step.Step.TheVariants as step

pub not_above : (most n : ℕ) → n ≤ most → nat_lt most n ≡ false
not_above most n le = by (nat_lt most n) refl
  where
    by : (b : Bool) → nat_lt most n ≡ b → b ≡ false
    by true e = let more : most < n = ltb-true most n e in absurd (omega arith)
    by false e = refl

-- after so many steps from the empty file system
pub record IsCounted (n : ℕ) (x : Indexed) : Type 0 where
  pub tops : (i : ℕ) → top_at x.tops i ≤ n
  pub next : x.tree.next ≤ n + 2

version_few : (n : ℕ) (x : Indexed) (s : Step) → IsCounted n x → version_of (node_of x s) ≤ n + 1
version_few n x (step.MakeObject time mode uid gid target) few = omega arith
version_few n x (step.SetName time directory name ino) few = let top : top_at x.tops directory ≤ n = few.tops directory in omega arith
version_few n x (step.ClearName time directory name) few = let top : top_at x.tops directory ≤ n = few.tops directory in omega arith
version_few n x (step.Put time ino offset new) few = let top : top_at x.tops ino ≤ n = few.tops ino in omega arith
version_few n x (step.Zero time ino count) few = let top : top_at x.tops ino ≤ n = few.tops ino in omega arith
version_few n x (step.Cut time ino size) few = let top : top_at x.tops ino ≤ n = few.tops ino in omega arith
version_few n x (step.SetAttributes time ino attributes) few = let top : top_at x.tops ino ≤ n = few.tops ino in omega arith

next_rewritten : (t : Outline) (ino time : ℕ) (change : ℕ → ℕ) (o : Option (ObjectOf ℕ)) → (rewritten t ino time change o).next ≡ t.next
next_rewritten t ino time change None = refl
next_rewritten t ino time change (Some o) = refl

next_reattributed : (t : Outline) (ino time : ℕ) (a : Attributes) (o : Option (ObjectOf ℕ)) → (reattributed t ino time a o).next ≡ t.next
next_reattributed t ino time a None = refl
next_reattributed t ino time a (Some o) = refl

same_next : (n next now : ℕ) → now ≡ next → next ≤ n + 2 → now ≤ n + 1 + 2
same_next n next now e le = omega arith

next_few : (n : ℕ) (x : Indexed) (s : Step) → IsCounted n x → (do_step sizes x.tree s).next ≤ n + 1 + 2
next_few n x (step.MakeObject time mode uid gid target) few = let next : x.tree.next ≤ n + 2 = few.next in omega arith
next_few n x (step.SetName time directory name ino) few = same_next n x.tree.next x.tree.next refl few.next
next_few n x (step.ClearName time directory name) few = same_next n x.tree.next x.tree.next refl few.next
next_few n x (step.Put time ino offset new) few = same_next n x.tree.next _
    (next_rewritten x.tree ino time (λ old. sizes.put old offset new) (object x.tree ino)) few.next
next_few n x (step.Zero time ino count) few = same_next n x.tree.next _
    (next_rewritten x.tree ino time (λ old. sizes.grown old count) (object x.tree ino)) few.next
next_few n x (step.Cut time ino size) few = same_next n x.tree.next _ (next_rewritten x.tree ino time (λ old. sizes.cut old size) (object x.tree ino)) few.next
next_few n x (step.SetAttributes time ino attributes) few = same_next n x.tree.next _ (next_reattributed x.tree ino time attributes (object x.tree ino))
    few.next

top_few : (n : ℕ) (b : Bool) (v : ℕ) (o : Option ℕ) → v ≤ n + 1 → unwrap_or o 0 ≤ n → unwrap_or (cond b (Some v) o) 0 ≤ n + 1
top_few n true v o h k = h
top_few n false v o h k = omega arith

counted_step : (n : ℕ) (x : Indexed) (s : Step) → IsCounted n x → IsCounted (n + 1) (advanced x s)
counted_step n x s few =
    let own = owner (node_of x s) in
    let v = version_of (node_of x s) in
    record {
      tops = λ i.
          subst (λ o. unwrap_or o 0 ≤ n + 1) (sym (get-insert nat_cmp_total x.tops own v i))
          (top_few n (eq_by_cmp nat_cmp i own) v (get x.tops i) (version_few n x s few) (few.tops i));
      next = next_few n x s few;
    }

pub counted_all : (n : ℕ) (x : Indexed) (steps : List Step) → IsCounted n x → IsCounted (n + length steps) (advanced_all x steps)
counted_all n x [] few = let same : n ≡ n + 0 = omega arith in subst (λ m. IsCounted m x) same few
counted_all n x (s ∷ steps) few =
    let same : n + 1 + length steps ≡ n + length (s ∷ steps) = omega arith in
    subst (λ m. IsCounted m (advanced_all x (s ∷ steps))) same (counted_all (n + 1) (advanced x s) steps (counted_step n x s few))

-- the number that a step works on is of 32 bits; a new object's own is the next
abbrev pub HasOwner : Step → Type 0
HasOwner (step.MakeObject time mode uid gid target) = Unit {0}
HasOwner (step.SetName time directory name ino) = directory ≤ 0xFFFFFFFF
HasOwner (step.ClearName time directory name) = directory ≤ 0xFFFFFFFF
HasOwner (step.Put time ino offset new) = ino ≤ 0xFFFFFFFF
HasOwner (step.Zero time ino count) = ino ≤ 0xFFFFFFFF
HasOwner (step.Cut time ino size) = ino ≤ 0xFFFFFFFF
HasOwner (step.SetAttributes time ino attributes) = ino ≤ 0xFFFFFFFF

owner_few : (n : ℕ) (x : Indexed) (s : Step) → IsCounted n x → HasOwner s → n + 2 ≤ 0xFFFFFFFF → owner (node_of x s) ≤ 0xFFFFFFFF
owner_few n x (step.MakeObject time mode uid gid target) few has le = let next : x.tree.next ≤ n + 2 = few.next in omega arith
owner_few n x (step.SetName time directory name ino) few has le = has
owner_few n x (step.ClearName time directory name) few has le = has
owner_few n x (step.Put time ino offset new) few has le = has
owner_few n x (step.Zero time ino count) few has le = has
owner_few n x (step.Cut time ino size) few has le = has
owner_few n x (step.SetAttributes time ino attributes) few has le = has

pub none_past : (n : ℕ) (x : Indexed) (steps : List Step) → IsCounted n x → AllByRecursion HasOwner steps → n + length steps + 2 ≤ 0xFFFFFFFF
    → list_any is_past (nodes_of x steps) ≡ false
none_past n x [] few has le = refl
none_past n x (s ∷ steps) few has le =
    let v = version_of (node_of x s) in
    let i = owner (node_of x s) in
    let version : v ≤ n + 1 = version_few n x s few in
    ap (λ b. (b || nat_lt 0xFFFFFFFF i) || list_any is_past (nodes_of (advanced x s) steps)) (not_above 0xFFFFFFFF v (omega arith))
    ∙ ap (λ b. b || list_any is_past (nodes_of (advanced x s) steps)) (not_above 0xFFFFFFFF i (owner_few n x s few has.0 (omega arith)))
    ∙ none_past (n + 1) (advanced x s) steps (counted_step n x s few) has.1 (omega arith)
