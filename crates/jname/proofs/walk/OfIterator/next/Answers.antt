use Rattle.std.proofs.Common.{rules, ◌≡◌, ℕ, ◌∷◌, Some, None, Option, ◌∙◌, sym, ap, subst, length, arith}
use Rattle.jname.specs.Versions.{IsLiveIn, version_at}
use Rattle.jname.specs.NameMaps.{names_left}
use Rattle.jname.proofs.WalkLemmas.{names_under-live, names_under-gone}
use Rattle.jname.proofs.walk.OfIterator.next.Goals as goal

pub returns-in-Some-live-clause-steps : goal.returns-in-Some-live-clause-steps
returns-in-Some-live-clause-steps c =
    let live : IsLiveIn (version_at c.in-Some.versions.now) (Some c.in-Some-live.ino) = c.in-Some-live.ensures in
    let is : names_left c.loop-name.self-inside.left ≡ (c.in-Some.name.now, c.in-Some.versions.now) ∷ names_left c.next.new.self = search rules in
    sym c.self.view_is ∙ sym c.loop-name.invariant
    ∙ names_under-live (names_left c.loop-name.self-inside.left) (names_left c.next.new.self) c.in-Some.name.now c.in-Some.versions.now c.as_slice.result.now c.in-Some-live.ino is c.as_slice.ensures.value live

pub returns-in-Some-live-clause-goes : goal.returns-in-Some-live-clause-goes
returns-in-Some-live-clause-goes c =
    let fewer = ap length (returns-in-Some-live-clause-steps c) in
    record { on = λ _. (tt, tt, omega (arith, fewer)); keeps = tt; rests = λ _. tt }

pub loop-name-preserved : goal.loop-name-preserved
loop-name-preserved c =
    let live : IsLiveIn (version_at c.in-Some.versions.now) None = subst (λ (o : Option ℕ). IsLiveIn (version_at c.in-Some.versions.now) o) c.in_default-live.is c.live.ensures in
    let is : names_left c.loop-name.self-inside.left ≡ (c.in-Some.name.now, c.in-Some.versions.now) ∷ names_left c.next.new.self = search rules in
    sym (names_under-gone (names_left c.loop-name.self-inside.left) (names_left c.next.new.self) c.in-Some.name.now c.in-Some.versions.now is live) ∙ c.loop-name.invariant
