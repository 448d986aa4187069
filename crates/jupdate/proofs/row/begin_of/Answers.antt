use Rattle.std.proofs.Common.{rules, ◌≡◌, ◌+◌, ◌≤◌, Some, length, arith, refl}
use Rattle.std.specs.Prelude.{slice_get}
use Rattle.std.proofs.lemmas.Option.{slice_get_read}
use Rattle.jlog.proofs.CodeLemmas.{flash_limits}
use Rattle.jupdate.proofs.StretchLemmas.{begin_some, within_block}
use Rattle.jupdate.proofs.row.begin_of.Goals as goal

pub overflow_add-result : goal.overflow_add-result
overflow_add-result c =
    let a = c.args in
    let s = c.in-Some.stretch.now in
    let at : slice_get a.stretches.now a.passed ≡ Some s = slice_get_read a.stretches.now (length a.stretches.now) a.passed s refl c.in-Some.ensures.lookup.3.0 c.in-Some.ensures.lookup.1 in
    let short : s.place + s.len ≤ a.flash.size = within_block a.flash.size 0 a.flash.count a.stretches.now a.passed s c.requires.stretches at in
    let small : s.place + s.len ≤ 4194304 = omega (arith, short, (flash_limits a.flash.size a.flash.count c.requires.flash).most) in
    search (rules, small)

pub returns-in-Some-clause-left : goal.returns-in-Some-clause-left
returns-in-Some-clause-left c =
    let a = c.args in
    begin_some a.stretches.now a.passed c.in-Some.stretch.now
    (slice_get_read a.stretches.now (length a.stretches.now) a.passed c.in-Some.stretch.now refl c.in-Some.ensures.lookup.3.0 c.in-Some.ensures.lookup.1)
