-- A number that is one of a regular file stays it.
use Rattle.std.proofs.Common.{◌≡◌, ℕ, ◌<◌, ◌≤◌, Bool, true, false, cond, List, [], ◌∷◌, length, refl, sym, ap, subst, ◌∙◌, arith, Option, Some, None}
use Rattle.std.specs.Prelude.{◌==◌, IsTrue, option_map, unwrap_or, slice_get}
use Rattle.std.specs.Ordering.{nat_cmp, eq_by_cmp}
use Rattle.std.specs.Cmp.{nat_cmp_total}
use Rattle.std.specs.FinMap.{FinMap, get, insert, get-insert}
use Rattle.std.proofs.lemmas.Bool.{eqb-true}
use Rattle.jmount.specs.Tree.{ObjectOf, object, type_bits, regular_bits}
use Rattle.jmount.specs.Shown.{shown_outline}
use Rattle.jmount.specs.declared.object.Object.{Object}
use Rattle.jsteps.specs.Steps.{rewritten, reattributed, with_attributes, with_body, own_bytes}
use Rattle.jsteps.specs.Nodes.{Indexed, advanced, advanced_all, node_of, no_object}
use Rattle.jsteps.specs.declared.op.Attributes.{Attributes}
use Rattle.jsteps.specs.declared.step.Step.{Step}
use Rattle.jsteps.specs.declared.step.Step.TheVariants as step
use Rattle.jsteps.proofs.ConsistentLemmas.{tied}
use Rattle.jsteps.proofs.PutsLemmas.{itself}
use Rattle.jsteps.proofs.StepsLemmas.{kind_stays}
use Rattle.jpacked.specs.Forms.{IsFileAt, IsOfFile}

kind_of : Option (ObjectOf ℕ) → ℕ
kind_of o = type_bits (unwrap_or o no_object).mode

inserted : (m : FinMap nat_cmp (ObjectOf ℕ)) (ino i : ℕ) (o : ObjectOf ℕ) → (i ≡ ino → type_bits o.mode ≡ kind_of (get m i)) → kind_of (get (insert m ino o) i) ≡ kind_of (get m i)
unfolding kind_of
inserted m ino i o same = ap kind_of (get-insert nat_cmp_total m ino o i) ∙ by (eq_by_cmp nat_cmp i ino) refl
  where
    by : (b : Bool) → eq_by_cmp nat_cmp i ino ≡ b → kind_of (cond b (Some o) (get m i)) ≡ kind_of (get m i)
    by true h = same (tied i ino h)
    by false h = refl

here_kind : (m : FinMap nat_cmp (ObjectOf ℕ)) (ino i : ℕ) (o : ObjectOf ℕ) → get m ino ≡ Some o → i ≡ ino → type_bits o.mode ≡ kind_of (get m i)
unfolding kind_of
here_kind m ino i o is same = sym (ap (λ (j : ℕ). kind_of (get m j)) same ∙ ap kind_of is)

-- a tree in which an object has other bytes, or other attributes
record SameKinds (x : Indexed) (objects : FinMap nat_cmp (ObjectOf ℕ)) (next i : ℕ) : Type 0 where
  up : x.tree.next ≤ next
  kind : kind_of (get objects i) ≡ kind_of (get x.tree.objects i)

rewritten_kinds : (x : Indexed) (ino time i : ℕ) (change : ℕ → ℕ) (o : Option (ObjectOf ℕ)) → get x.tree.objects ino ≡ o
    → SameKinds x (rewritten x.tree ino time change o).objects (rewritten x.tree ino time change o).next i
rewritten_kinds x ino time i change None is = record { up = omega arith; kind = refl }
rewritten_kinds x ino time i change (Some o) is =
    record { up = omega arith; kind = inserted x.tree.objects ino i (with_body o time (change o.body)) (λ same. here_kind x.tree.objects ino i o is same) }

reattributed_kinds : (x : Indexed) (ino time i : ℕ) (attributes : Attributes) (o : Option (ObjectOf ℕ)) → get x.tree.objects ino ≡ o
    → SameKinds x (reattributed x.tree ino time attributes o).objects (reattributed x.tree ino time attributes o).next i
reattributed_kinds x ino time i attributes None is = record { up = omega arith; kind = refl }
reattributed_kinds x ino time i attributes (Some o) is =
    record { up = omega arith; kind = inserted x.tree.objects ino i (with_attributes o time attributes) (λ same. kind_stays o.mode attributes.mode ∙ here_kind x.tree.objects ino i o is same) }

stays : (x y : Indexed) (i : ℕ) → SameKinds x y.tree.objects y.tree.next i → IsFileAt x i → IsFileAt y i
unfolding kind_of
stays x y i same at = record { taken = omega (arith, at.taken, same.up); regular = same.kind ∙ at.regular }

pub file_stays : (x : Indexed) (s : Step) (i : ℕ) → IsFileAt x i → IsFileAt (advanced x s) i
file_stays x (step.MakeObject time mode uid gid target) i at =
    let there : i < x.tree.next = at.taken in
    stays x (advanced x (step.MakeObject time mode uid gid target)) i
    (record { up = omega arith; kind = inserted x.tree.objects x.tree.next i _ (λ same. absurd (omega (arith, there, same))) }) at
file_stays x (step.SetName time directory name ino) i at = record { taken = at.taken; regular = at.regular }
file_stays x (step.ClearName time directory name) i at = record { taken = at.taken; regular = at.regular }
file_stays x (step.Put time ino offset new) i at = stays x (advanced x (step.Put time ino offset new)) i (rewritten_kinds x ino time i _ (object x.tree ino) refl) at
file_stays x (step.Zero time ino count) i at = stays x (advanced x (step.Zero time ino count)) i (rewritten_kinds x ino time i _ (object x.tree ino) refl) at
file_stays x (step.Cut time ino size) i at = stays x (advanced x (step.Cut time ino size)) i (rewritten_kinds x ino time i _ (object x.tree ino) refl) at
file_stays x (step.SetAttributes time ino attributes) i at =
    stays x (advanced x (step.SetAttributes time ino attributes)) i (reattributed_kinds x ino time i attributes (object x.tree ino) refl) at

pub files_stay : (x : Indexed) (steps : List Step) (i : ℕ) → IsFileAt x i → IsFileAt (advanced_all x steps) i
files_stay x [] i at = at
files_stay x (s ∷ steps) i at = files_stay (advanced x s) steps i (file_stays x s i at)

-- an object that is there
pub known_file : (x : Indexed) (i : ℕ) (o : Object) → option_map shown_outline (object x.tree i) ≡ Some o → IsTrue (type_bits o.mode == regular_bits) → i < x.tree.next → IsFileAt x i
known_file x i o is regular taken = by (object x.tree i) refl is
  where
    by : (q : Option (ObjectOf ℕ)) → object x.tree i ≡ q → option_map shown_outline q ≡ Some o → IsFileAt x i
    by None at has = cc
    by (Some p) at has =
        let same : shown_outline p ≡ o = cc in
        let mode : p.mode ≡ o.mode = ap (λ (q : Object). q.mode) same in
        record { taken = taken; regular = ap (λ (q : Option (ObjectOf ℕ)). type_bits (unwrap_or q no_object).mode) at ∙ (ap type_bits mode ∙ eqb-true _ _ regular) }

-- one that was made
pub new_file : (x : Indexed) (steps : List Step) (time mode uid gid i : ℕ) (target : List ℕ) → slice_get steps 0 ≡ Some (step.MakeObject time mode uid gid target) → i ≡ x.tree.next
    → IsTrue (type_bits mode == regular_bits) → IsFileAt (advanced_all x steps) i
new_file x [] time mode uid gid i target first is regular = cc
new_file x (s ∷ steps) time mode uid gid i target first is regular =
    let same : s ≡ step.MakeObject time mode uid gid target = cc in
    let made : ObjectOf ℕ = record { mode = mode; uid = uid; gid = gid; atime = time; mtime = time; ctime = time; device = None; body = length (own_bytes mode target) } in
    subst (λ (t : Step). IsFileAt (advanced_all (advanced x t) steps) i) (sym same)
    (files_stay (advanced x (step.MakeObject time mode uid gid target)) steps i (record {
      taken = omega (arith, is);
      regular = ap (λ (q : Option (ObjectOf ℕ)). type_bits (unwrap_or q no_object).mode) (get-insert nat_cmp_total x.tree.objects x.tree.next made i)
          ∙ (ap (λ (b : Bool). type_bits (unwrap_or (cond b (Some made) (get x.tree.objects i)) no_object).mode) (ap (λ (j : ℕ). eq_by_cmp nat_cmp j x.tree.next) is ∙ itself x.tree.next)
          ∙ eqb-true _ _ regular);
    }))

-- the nodes that give a regular file bytes
pub made_is_of_file : (x : Indexed) (time mode uid gid : ℕ) (target : List ℕ) → IsTrue (type_bits mode == regular_bits) → IsOfFile (node_of x (step.MakeObject time mode uid gid target)) target
made_is_of_file x time mode uid gid target regular = (_, refl, record { fill = refl; long = refl; regular = eqb-true _ _ regular })

pub put_is_of_file : (x : Indexed) (time ino offset : ℕ) (new : List ℕ) → IsFileAt x ino → IsOfFile (node_of x (step.Put time ino offset new)) new
put_is_of_file x time ino offset new at = (_, refl, record { fill = refl; long = refl; regular = at.regular })
