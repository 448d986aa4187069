use Rattle.std.proofs.Common.{◌≡◌, ◌∙◌, ℕ, ◌∷◌, rules, sym}
use Rattle.jmount.specs.declared.object.Object.{Object}
use Rattle.jdeleted.proofs.FindingLemmas.{all_found, one_found, one_passed}
use Rattle.jdeleted.proofs.finding.deleted_in.Goals as goal

pub loop-ino-preserved-in-Continue-branch-2 : goal.loop-ino-preserved-in-Continue-branch-2
loop-ino-preserved-in-Continue-branch-2 c =
    let x : ℕ × Object = (c.in-Some.ino, c.in-Some.object) in
    let is : c.loop-ino.ino-iterator ≡ x ∷ c.next.new.self = search rules in
    record {
      can = tt;
      finite = tt;
      so_far = one_found c.args.mounted.now.state c.in_ok-unreached.unreached c.loop-ino.ino-iterator c.next.new.self x is c.loop-ino.numbers.items c.push.new.self.items
          c.in_ok-unreached.ensures.unreached (sym c.is_deleted.ensures ∙ c.if-is_deleted.true) c.in_ok-push.ensures.items c.loop-ino.invariant.so_far;
    }

pub loop-ino-preserved : goal.loop-ino-preserved
loop-ino-preserved c =
    let x : ℕ × Object = (c.in-Some.ino, c.in-Some.object) in
    let is : c.loop-ino.ino-iterator ≡ x ∷ c.next.new.self = search rules in
    record {
      can = tt;
      finite = tt;
      so_far = one_passed c.args.mounted.now.state c.in_ok-unreached.unreached c.loop-ino.ino-iterator c.next.new.self x is c.loop-ino.numbers.items
          (sym c.is_deleted.ensures ∙ c.if-is_deleted.false) c.loop-ino.invariant.so_far;
    }

pub returns : goal.returns
returns c =
    all_found c.args.mounted.now.state c.in_ok-unreached.unreached c.loop-ino.ino-iterator c.loop-ino.numbers.items c.in_ok-unreached.ensures.unreached c.in-None.ensures.steps.0
    c.loop-ino.invariant.so_far
