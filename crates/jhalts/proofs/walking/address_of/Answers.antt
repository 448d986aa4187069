use Rattle.std.proofs.Common.{◌≡◌, ◌+◌, ◌*◌, ◌≤◌, Some, length, refl, sym, ap, arith}
use Rattle.std.specs.Prelude.{slice_get}
use Rattle.std.proofs.lemmas.Option.{slice_get_read}
use Rattle.jhalts.specs.InShares.{row_address}
use Rattle.jhalts.proofs.WalkLemmas.{address_small, row_some}
use Rattle.jhalts.proofs.walking.address_of.Goals as goal

pub overflow_mul-result : goal.overflow_mul-result
overflow_mul-result c =
    let a = c.args in
    let s = c.in-Some.stretch.now in
    let at : slice_get a.stretches.now a.walk.passed ≡ Some s = slice_get_read a.stretches.now (length a.stretches.now) a.walk.passed s refl c.in-Some.ensures.lookup.3.0 c.in-Some.ensures.lookup.1 in
    let small : s.block * a.walk.flash.size + a.walk.place ≤ 268435456 = address_small a.walk.flash a.stretches.now a.walk s at c.requires in
    omega (arith, small)

pub overflow_add-result : goal.overflow_add-result
overflow_add-result c =
    let a = c.args in
    let s = c.in-Some.stretch.now in
    let at : slice_get a.stretches.now a.walk.passed ≡ Some s = slice_get_read a.stretches.now (length a.stretches.now) a.walk.passed s refl c.in-Some.ensures.lookup.3.0 c.in-Some.ensures.lookup.1 in
    let small : s.block * a.walk.flash.size + a.walk.place ≤ 268435456 = address_small a.walk.flash a.stretches.now a.walk s at c.requires in
    omega (arith, small)

pub returns-in-Some : goal.returns-in-Some
returns-in-Some c =
    let a = c.args in
    let s = c.in-Some.stretch.now in
    let at : slice_get a.stretches.now a.walk.passed ≡ Some s = slice_get_read a.stretches.now (length a.stretches.now) a.walk.passed s refl c.in-Some.ensures.lookup.3.0 c.in-Some.ensures.lookup.1 in
    sym (ap (row_address a.walk.flash.size) (row_some a.stretches.now a.walk.passed a.walk.place s at))
