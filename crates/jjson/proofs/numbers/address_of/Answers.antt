use Rattle.std.proofs.Common.{◌≡◌, ℕ, ◌^◌, ◌<◌, ◌≤◌, length, arith}
use Rattle.std.proofs.Math.Nat.{pow-le-pow_right}
use Rattle.std.proofs.lemmas.Grind.{common_steps}
use Rattle.jjson.proofs.numbers.address_of.Goals as goal

small : (n i : ℕ) → i < 8 → n < 16 ^ i → n < 16 ^ 7
small n i few less =
    let power : 16 ^ i ≤ 16 ^ 7 = pow-le-pow_right {n = 16} (omega arith) {i = i} {j = 7} (omega arith) in
    omega (arith, power, less)

pub overflow_mul-number : goal.overflow_mul-number
overflow_mul-number c =
    let eight : length c.args.word.now ≡ 8 = grind (arith, common_steps, c.requires) in
    let less = small c.loop-digit.number c.loop-digit.digit-index (omega (arith, eight, c.loop-digit-test.true)) c.loop-digit.invariant.small in
    omega (arith, less)

pub overflow_add-number : goal.overflow_add-number
overflow_add-number c =
    let eight : length c.args.word.now ≡ 8 = grind (arith, common_steps, c.requires) in
    let less = small c.loop-digit.number c.loop-digit.digit-index (omega (arith, eight, c.loop-digit-test.true)) c.loop-digit.invariant.small in
    omega (arith, less, c.from.ensures, c.hex_value.ensures.small)
