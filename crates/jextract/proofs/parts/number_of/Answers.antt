use Rattle.std.proofs.Common.{rules, ◌≡◌, ◌∷◌, subst, sym, ◌∙◌}
use Rattle.jmount.specs.Tree.{entries_in}
use Rattle.jextract.proofs.WayLemmas.{AreLeftOf, all_left, less_left}
use Rattle.jextract.proofs.parts.number_of.Goals as goal

pub loop-other-init : goal.loop-other-init
loop-other-init c =
    let s = c.args.mounted.now.state in
    let all : c.into_iter-other-iterator.result ≡ entries_in s c.args.dir = c.into_iter-other-iterator.ensures.into_iter_gives ∙ c.entries-other-items.ensures in
    record {
      can = tt;
      finite = tt;
      left = subst (AreLeftOf s c.args.dir c.args.name.now) (sym all) (all_left s c.args.dir c.args.name.now);
    }

pub loop-other-preserved : goal.loop-other-preserved
loop-other-preserved c =
    let s = c.args.mounted.now.state in
    let is : c.loop-other.other-iterator ≡ (c.in-Some.other.now, c.in-Some.ino) ∷ c.next.new.self = search rules in
    record {
      can = tt;
      finite = tt;
      left = less_left s c.args.dir c.args.name.now c.in-Some.other.now c.in-Some.ino c.next.new.self (sym c.eq.ensures ∙ c.if-eq.false)
          (subst (AreLeftOf s c.args.dir c.args.name.now) is c.loop-other.invariant.left);
    }
