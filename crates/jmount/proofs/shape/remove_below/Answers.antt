use Rattle.std.proofs.Common.{rules, ◌≡◌, ◌+◌, List, ◌∷◌, [], length, vec_len, sym, ap, ◌∙◌, subst, arith, ℕ}
use Rattle.jmount.specs.Shaping.{IsPeeledUpTo}
use Rattle.jmount.proofs.ShapingLemmas.{begins_to_read, was_read, reads_past, takes_out, same_set}
use Rattle.jmount.proofs.shape.remove_below.Goals as goal

pub loop-dir-init : goal.loop-dir-init
loop-dir-init c = λ apart up_to. up_to

pub loop-ino-init : goal.loop-ino-init
loop-ino-init c =
    let s = c.args.tree.now in
    record {
      can = tt;
      finite = tt;
      peeled = λ apart up_to.
          begins_to_read s apart c.in-Some.dir c.loop-dir.above.items c.pop.new.self.items c.into_iter-ino-iterator.result c.loop-dir.left c.in-Some.ensures.items
          (c.into_iter-ino-iterator.ensures.into_iter_gives ∙ c.entries-ino-items.ensures) (c.loop-dir.invariant apart up_to);
      as_many = λ j. vec_len c.pop.new.self + length c.loop-dir.left.keys;
    }

pub loop-dir-smaller : goal.loop-dir-smaller
loop-dir-smaller c =
    let same : vec_len c.loop-ino.above + length c.loop-ino.left.keys ≡ vec_len c.pop.new.self + length c.loop-dir.left.keys = c.loop-ino.invariant.as_many in
    let popped : vec_len c.pop.new.self + 1 ≡ vec_len c.loop-dir.above = c.in-Some.ensures.len in
    omega arith

pub loop-dir-preserved : goal.loop-dir-preserved
loop-dir-preserved c = λ apart up_to.
    was_read c.args.tree.now apart c.in-Some.dir c.loop-ino.above.items c.loop-ino.ino-iterator c.loop-ino.left c.in-None.ensures.steps.0 (c.loop-ino.invariant.peeled apart up_to)

pub loop-ino-preserved-in-Continue-1 : goal.loop-ino-preserved-in-Continue-1
loop-ino-preserved-in-Continue-1 c =
    let s = c.args.tree.now in
    let is : c.loop-ino.ino-iterator ≡ (c.in-Some-2.field-0-0.now, c.in-Some-2.ino) ∷ c.next.new.self = search rules in
    let same : vec_len c.loop-ino.above + length c.loop-ino.left.keys ≡ vec_len c.pop.new.self + length c.loop-dir.left.keys = c.loop-ino.invariant.as_many in
    let pushed : vec_len c.push.new.self ≡ vec_len c.loop-ino.above + 1 = c.in_ok-push.ensures.len in
    let removed : length c.remove.new.self.keys + 1 ≡ length c.loop-ino.left.keys = c.if-remove.ensures.len in
    record {
      can = tt;
      finite = tt;
      peeled = λ apart up_to.
          takes_out s apart c.in-Some.dir c.loop-ino.above.items c.push.new.self.items c.loop-ino.ino-iterator c.next.new.self c.in-Some-2.field-0-0.now c.in-Some-2.ino c.loop-ino.left c.remove.new.self is
          (sym c.remove.ensures.test ∙ c.if-remove.true) c.remove.ensures.updates.0 c.in_ok-push.ensures.items (c.loop-ino.invariant.peeled apart up_to);
      as_many = omega arith;
    }

pub loop-ino-preserved : goal.loop-ino-preserved
loop-ino-preserved c =
    let s = c.args.tree.now in
    let is : c.loop-ino.ino-iterator ≡ (c.in-Some-2.field-0-0.now, c.in-Some-2.ino) ∷ c.next.new.self = search rules in
    let unchanged : c.remove.new.self.keys ≡ c.loop-ino.left.keys = c.if-remove.ensures.unchanged in
    record {
      can = tt;
      finite = tt;
      peeled = λ apart up_to.
          same_set s apart c.in-Some.dir c.loop-ino.above.items c.next.new.self c.loop-ino.left c.remove.new.self unchanged
          (reads_past s apart c.in-Some.dir c.loop-ino.above.items c.loop-ino.ino-iterator c.next.new.self c.in-Some-2.field-0-0.now c.in-Some-2.ino c.loop-ino.left is
          (sym c.remove.ensures.test ∙ c.if-remove.false) (c.loop-ino.invariant.peeled apart up_to));
      as_many = ap (λ (ks : List ℕ). vec_len c.loop-ino.above + length ks) unchanged ∙ c.loop-ino.invariant.as_many;
    }

pub returns : goal.returns
returns c = λ apart up_to.
    let none : c.loop-dir.above.items ≡ [] = search rules in
    subst (λ (above : List ℕ). IsPeeledUpTo c.args.tree.now apart above c.loop-dir.left) none (c.loop-dir.invariant apart up_to)
