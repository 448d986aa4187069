use Rattle.std.proofs.Common.{rules, ◌≡◌, ◌+◌, List, ◌∷◌, [], length, vec_len, ap, ◌∙◌, subst, arith, ℕ}
use Rattle.jcompact.specs.Reaching.{IsMetUpTo}
use Rattle.jcompact.proofs.ReachingLemmas.{begins, was_read, reads_past, takes_out, same_set}
use Rattle.jcompact.proofs.reaching.take_reached.Goals as goal

pub loop-dir-init : goal.loop-dir-init
loop-dir-init c = λ up_to. up_to

pub loop-ino-init : goal.loop-ino-init
loop-ino-init c = record {
  can = tt;
  finite = tt;
  reading = λ up_to.
      begins c.args.mounted.now.state c.in-Some.dir c.loop-dir.above.items c.pop.new.self.items c.into_iter-ino-iterator.result c.loop-dir.unmet c.in-Some.ensures.items
      (c.into_iter-ino-iterator.ensures.into_iter_gives ∙ c.entries-ino-items.ensures) (c.loop-dir.invariant up_to);
  as_many = λ j. vec_len c.pop.new.self + length c.loop-dir.unmet.keys;
}

pub loop-dir-smaller : goal.loop-dir-smaller
loop-dir-smaller c =
    let same : vec_len c.loop-ino.above + length c.loop-ino.unmet.keys ≡ vec_len c.pop.new.self + length c.loop-dir.unmet.keys = c.loop-ino.invariant.as_many in
    let popped : vec_len c.pop.new.self + 1 ≡ vec_len c.loop-dir.above = c.in-Some.ensures.len in
    omega arith

pub loop-dir-preserved : goal.loop-dir-preserved
loop-dir-preserved c = λ up_to.
    was_read c.args.mounted.now.state c.in-Some.dir c.loop-ino.above.items c.loop-ino.ino-iterator c.loop-ino.unmet c.in-None.ensures.steps.0 (c.loop-ino.invariant.reading up_to)

pub loop-ino-preserved-in-Continue-1 : goal.loop-ino-preserved-in-Continue-1
loop-ino-preserved-in-Continue-1 c =
    let s = c.args.mounted.now.state in
    let is : c.loop-ino.ino-iterator ≡ (c.in-Some-2.field-0-0.now, c.in-Some-2.ino) ∷ c.next.new.self = search rules in
    let same : vec_len c.loop-ino.above + length c.loop-ino.unmet.keys ≡ vec_len c.pop.new.self + length c.loop-dir.unmet.keys = c.loop-ino.invariant.as_many in
    let pushed : vec_len c.push.new.self ≡ vec_len c.loop-ino.above + 1 = c.in_ok-push.ensures.len in
    let removed : length c.take.new.unmet.keys + 1 ≡ length c.loop-ino.unmet.keys = c.take.ensures.fewer c.if-take.true in
    record {
      can = tt;
      finite = tt;
      reading = λ up_to.
          takes_out s c.in-Some.dir c.loop-ino.above.items c.push.new.self.items c.loop-ino.ino-iterator c.next.new.self c.in-Some-2.field-0-0.now c.in-Some-2.ino c.loop-ino.unmet c.take.new.unmet is
          (c.take.ensures.directory c.if-take.true) (c.take.ensures.there c.if-take.true) (c.take.ensures.taken c.if-take.true) c.in_ok-push.ensures.items (c.loop-ino.invariant.reading up_to);
      as_many = omega arith;
    }

pub loop-ino-preserved : goal.loop-ino-preserved
loop-ino-preserved c =
    let s = c.args.mounted.now.state in
    let is : c.loop-ino.ino-iterator ≡ (c.in-Some-2.field-0-0.now, c.in-Some-2.ino) ∷ c.next.new.self = search rules in
    let unchanged : c.take.new.unmet.keys ≡ c.loop-ino.unmet.keys = c.take.ensures.same c.if-take.false in
    record {
      can = tt;
      finite = tt;
      reading = λ up_to.
          same_set s c.in-Some.dir c.loop-ino.above.items c.next.new.self c.loop-ino.unmet c.take.new.unmet unchanged
          (reads_past s c.in-Some.dir c.loop-ino.above.items c.loop-ino.ino-iterator c.next.new.self c.in-Some-2.field-0-0.now c.in-Some-2.ino c.loop-ino.unmet is
          (c.take.ensures.none c.if-take.false) (c.loop-ino.invariant.reading up_to));
      as_many = ap (λ (ks : List ℕ). vec_len c.loop-ino.above + length ks) unchanged ∙ c.loop-ino.invariant.as_many;
    }

pub returns : goal.returns
returns c = λ up_to.
    let none : c.loop-dir.above.items ≡ [] = search rules in
    subst (λ (above : List ℕ). IsMetUpTo c.args.mounted.now.state above c.loop-dir.unmet) none (c.loop-dir.invariant up_to)
