use Rattle.std.proofs.lemmas.Nat.Gcd.{IsGcd-from_zero, IsGcd-from_mod}
use Rattle.jinfo.proofs.sizes.common_divisor.Goals as goal

pub loop-rest-init : goal.loop-rest-init
loop-rest-init c = λ g is. is

pub loop-rest-preserved : goal.loop-rest-preserved
loop-rest-preserved c = λ g is. c.loop-rest.invariant g (IsGcd-from_mod c.loop-rest.divisor c.loop-rest.rest g is)

pub returns : goal.returns
returns c = c.loop-rest.invariant c.loop-rest.divisor (IsGcd-from_zero c.loop-rest.divisor c.loop-rest.rest c.loop-rest-test.false)
