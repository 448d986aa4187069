-- The empty file system, and the operation that gives its root attributes.
use Rattle.std.proofs.Common.{◌≡◌, ℕ, ◌+◌, ◌<◌, ◌≤◌, Bool, true, false, cond, List, [], ◌∷◌, Option, Some, None, Ok, refl, inl, ap, sym, ◌∙◌, subst, arith}
use Rattle.std.specs.Prelude.{Contains, IsTrue, option_map, is_some, unwrap_or, not, ◌||◌, ◌&&◌, ◌==◌}
use Rattle.std.specs.List.{list_any}
use Rattle.std.specs.Ordering.{eq_by_cmp, nat_cmp}
use Rattle.std.specs.Cmp.{nat_cmp_total, unsigned_tied}
use Rattle.std.specs.FinMap.{get, insert, get-insert}
use Rattle.std.proofs.lemmas.Bool.{eqb-true, cond-true, false≢true}
use Rattle.jmount.specs.Find.{walk}
use Rattle.jmount.specs.Shape.{HasShape}
use Rattle.jmount.specs.StateOf.{default_root, state_of, top}
use Rattle.jmount.specs.Tree.{ObjectOf, State, named, object, has_bits, directory_bits, is_directory, sized}
use Rattle.jmount.proofs.NumbersLemmas.{object-state_of, named-state_of}
use Rattle.jmount.proofs.ShapeLemmas.{same_ok, walk_step}
use Rattle.jsteps.specs.Nodes.{index_of, nodes_of}
use Rattle.jscan.specs.Pages.{IsPage}
use Rattle.jsteps.specs.Planning.{steps_of}
use Rattle.jsteps.specs.Refusals.{is_past, takes_attributes}
use Rattle.jsteps.specs.Steps.{bytes, after, reattributed, with_attributes, with_permissions}
use Rattle.jsteps.specs.declared.op.Op.{Op}
use Rattle.jsteps.specs.declared.op.Op.TheVariants as op
use Rattle.jsteps.specs.declared.op.Attributes as given
use Rattle.jsteps.specs.declared.step.Step.TheVariants as step
use Rattle.jsteps.proofs.ConsistentLemmas.{index_is_consistent}
use Rattle.jsteps.proofs.IndexLemmas.{get_tops}
use Rattle.jfolder.specs.Actions.{AttributesFit}
use Rattle.jfolder.specs.declared.tree.Attributes.{Attributes}
use Rattle.jtree.specs.Holding.{root_object}
use Rattle.jtree.proofs.AcceptLemmas.{IsFree, accept, and_false}
use Rattle.jtree.proofs.CountLemmas.{none_past, not_above}
use Rattle.jtree.proofs.NodesLemmas.{Writes, none_elsewhere}
use Rattle.jtree.proofs.RewriteLemmas.{itself}
use Rattle.jtree.proofs.RunLemmas.{IsAt, Reaches, at_object, reaches_one}
use Rattle.jtree.proofs.StandLemmas.{Stands}

no_names : (dir : ℕ) (name : List ℕ) → named (state_of []) dir name ≡ None
no_names dir name = named-state_of [] dir name

root_there : object (state_of []) 1 ≡ Some default_root
root_there = object-state_of [] 1

none_some : {P : Type 0} (o : Option ℕ) (i : ℕ) → o ≡ None → o ≡ Some i → P
none_some o i e f = absurd (false≢true (ap is_some (sym e ∙ f)))

no_element : {X : Type 0} {P : Type 0} (x : X) → Contains [] x → P
no_element x (k, less, e) = absurd (omega arith)

no_top : (b : Bool) → unwrap_or (cond b (Some 0) None) 0 ≤ 0
no_top true = omega arith
no_top false = omega arith

empty_shape : HasShape (state_of [])
empty_shape = record {
  single = λ a b m n i e f there other. none_some (named (state_of []) a m) i (no_names a m) e;
  no_loop = λ i names e. no_walk i names e;
}
  where
    no_walk : (i : ℕ) (names : List (List ℕ)) → walk (state_of []) names (Ok i) ≡ Ok i → names ≡ []
    no_walk i [] e = refl
    no_walk i (name ∷ names) e = let s = walk_step (state_of []) i name names i e in none_some (named (state_of []) i name) s.to (no_names i name) s.entry

pub empty_at : IsAt 0 (index_of []) (state_of [])
empty_at = record {
  tree = refl;
  same = index_is_consistent [] (λ node among. no_element node among) (subst (λ o. IsTrue (has_bits directory_bits o)) (sym root_there) refl);
  counted = record {
    tops = λ i. subst (λ (o : Option ℕ). unwrap_or o 0 ≤ 0) (sym (get_tops (state_of []) (top []) i)) (no_top (is_some (object (state_of []) i)));
    next = omega arith;
  };
  shape = empty_shape;
}

-- ---- the root's attributes

abbrev pub root_given : Attributes → given.Attributes
root_given a = record { mode = a.mode; uid = a.uid; gid = a.gid; atime = a.time; mtime = a.time }

abbrev pub root_op : Attributes → Op
root_op a = op.SetAttributes a.time (47 ∷ []) (root_given a)

root_mode : (mode : ℕ) → mode ≤ 0o7777 → with_permissions 0o040755 mode ≡ 0o040000 + mode
root_mode mode fits = omega arith

either : (b root : Bool) (new : ObjectOf (List ℕ)) (o : Option (ObjectOf (List ℕ))) → b ≡ root → o ≡ cond root (Some default_root) None
    → is_some (cond b (Some new) o) ≡ true → root ≡ true
either b true new o same e there = refl
either b false new o same e there =
    absurd (false≢true (sym (ap is_some e) ∙ sym (ap (λ (b : Bool). is_some (cond b (Some new) o)) same) ∙ there))

only_root : (k : ℕ) (new : ObjectOf (List ℕ)) → is_some (get (insert (state_of []).objects 1 new) k) ≡ true → k ≡ 1
only_root k new e =
    eqb-true k 1
    (either (eq_by_cmp nat_cmp k 1) (k == 1) new (get (state_of []).objects k) (unsigned_tied k 1) (object-state_of [] k)
    (sym (ap is_some (get-insert nat_cmp_total (state_of []).objects 1 new k)) ∙ e))

-- the root has these attributes, and nothing else is there
abbrev with_root : Attributes → State
with_root a =
    let s = state_of [] in
    record { objects = insert s.objects 1 (with_attributes default_root a.time (root_given a)); names = s.names; next = s.next }

root_after : (a : Attributes) → after bytes (state_of []) (step.SetAttributes a.time 1 (root_given a) ∷ []) ≡ with_root a
root_after a = ap (reattributed (state_of []) 1 a.time (root_given a)) root_there

root_stands : (a : Attributes) → AttributesFit a → Stands (root_object a) [] (after bytes (state_of []) (step.SetAttributes a.time 1 (root_given a) ∷ []))
root_stands a fits =
    let s = state_of [] in
    let new = with_attributes default_root a.time (root_given a) in
    subst (Stands (root_object a) []) (sym (root_after a))
    (record {
      root_is = get-insert nat_cmp_total s.objects 1 new 1
          ∙ cond-true (eq_by_cmp nat_cmp 1 1) (Some new) (get s.objects 1) (itself 1)
          ∙ ap (λ mode. Some (record new { mode = mode })) (root_mode a.mode fits.mode);
      held = λ m among. no_element m among;
      names_are = λ dir name i e. none_some (named s dir name) i (no_names dir name) e;
      apart = λ m o among other i e f. no_element m among;
      objects_are = λ k e. inl (only_root k new e);
    })

-- no names lead to anything but the root
none_below : {P : Type 0} (names : List (List ℕ)) (k : ℕ) → 1 < k → walk (state_of []) names (Ok 1) ≡ Ok k → P
none_below [] k some e = let root : 1 ≡ k = same_ok 1 k e in absurd (omega arith)
none_below (name ∷ names) k some e =
    let s = walk_step (state_of []) 1 name names k e in
    none_some (named (state_of []) 1 name) s.to (no_names 1 name) s.entry

root_writes : (a : Attributes) → Writes (index_of []) (state_of []) (after bytes (state_of []) (step.SetAttributes a.time 1 (root_given a) ∷ [])) (step.SetAttributes a.time 1 (root_given a) ∷ [])
root_writes a =
    let steps = step.SetAttributes a.time 1 (root_given a) ∷ [] in
    subst (λ (t : State). Writes (index_of []) (state_of []) t steps) (sym (root_after a))
    (record {
      next = omega arith;
      keeps = λ names k some e. none_below names k some e;
      kept = λ k some less. let over : 1 < k = some in none_elsewhere 1 k (index_of []) steps (refl, tt) (λ (e : k ≡ 1). omega arith);
      fresh = λ k some le. let over : 1 < k = some in none_elsewhere 1 k (index_of []) steps (refl, tt) (λ (e : k ≡ 1). omega arith);
    })

root_free : (page : ℕ) (a : Attributes) → AttributesFit a → IsFree page (index_of []) (root_op a)
root_free page a fits =
    let x = index_of [] in
    let there : object x.tree 1 ≡ Some (sized default_root) = at_object 0 x (state_of []) empty_at 1 ∙ ap (option_map sized) root_there in
    record {
      bad = refl;
      long = refl;
      found = ap (λ (o : Option (ObjectOf ℕ)). is_directory x.tree 1 && not (is_some o)) there ∙ and_false (is_directory x.tree 1);
      directory = ap (λ (o : Option (ObjectOf ℕ)). not (has_bits directory_bits o) || false) there;
      fresh = refl;
      kind = ap (λ o. not (takes_attributes o)) there;
      empty = refl;
      into = refl;
      large = refl;
      mode = not_above 0o7777 a.mode fits.mode;
      link = refl;
    }

pub root_reaches : (page : ℕ) (a : Attributes) → IsPage page → AttributesFit a
    → Reaches page 0 (index_of []) (state_of []) (root_op a ∷ []) (root_object a) [] 1
root_reaches page a is_page fits =
    let x = index_of [] in
    let steps = step.SetAttributes a.time 1 (root_given a) ∷ [] in
    let one : 1 ≤ 0xFFFFFFFF = omega arith in
    let room : list_any is_past (nodes_of x (steps_of page x.tree (root_op a))) ≡ false = none_past 0 x steps empty_at.counted (one, tt) (omega arith) in
    reaches_one page 0 x (state_of []) (root_op a) steps (root_object a) [] 1 is_page empty_at (fits.time, (fits.uid, fits.gid, fits.time, fits.time))
    (accept page x (root_op a) steps (root_free page a fits) refl room)
    (root_stands a fits)
    (omega arith)
    (root_writes a)
