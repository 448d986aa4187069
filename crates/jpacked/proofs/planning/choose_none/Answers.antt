use Rattle.std.proofs.Common.{rules, ◌≡◌, ◌≤◌, [], ◌∷◌, ◌++◌, List, length, length-append, ℕ, arith, subst, sym, ap}
use Rattle.jpacked.proofs.PlainLemmas.{are_none, none_pushed, none_are_packed}
use Rattle.jpacked.proofs.planning.choose_none.Goals as goal

pub loop-i-init : goal.loop-i-init
loop-i-init g c =
    let none : c.in_ok-streams.streams.items ≡ [] = search rules in
    record {
      within = omega arith;
      many = ap length none;
      none = subst are_none (sym none) tt;
    }

pub loop-i-preserved : goal.loop-i-preserved
loop-i-preserved g c =
    let t : List ℕ = c.none-stream.result in
    let pushed : c.push.new.self.items ≡ c.loop-i.streams.items ++ t ∷ [] = search rules in
    record {
      within = omega arith;
      many = omega (arith, ap length pushed, length-append c.loop-i.streams.items (t ∷ []), c.loop-i.invariant.many);
      none = subst are_none (sym pushed) (none_pushed c.loop-i.streams.items t c.loop-i.invariant.none c.none-stream.ensures);
    }

pub returns-clause-chosen : goal.returns-clause-chosen
returns-clause-chosen g c =
    let a = c.args in
    let r = c.requires.steps in
    let all : length a.steps.now ≤ c.loop-i.i = search rules in
    let many : length c.loop-i.streams.items ≡ length a.steps.now = omega (arith, all, c.loop-i.invariant.many, c.loop-i.invariant.within) in
    none_are_packed r.0 g.E.Order.order a._index.now a.steps.now a.held c.loop-i.streams.items r.1 r.2 many c.loop-i.invariant.none c.requires.held

pub returns-clause-plain : goal.returns-clause-plain
returns-clause-plain g c = c.loop-i.invariant.none
