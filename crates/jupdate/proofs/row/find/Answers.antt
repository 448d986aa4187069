use Rattle.std.proofs.Common.{rules, ◌≡◌, ◌+◌, ◌*◌, ◌<◌, ◌≤◌, ◌∙◌, None, Some, suc, get_or, length, ℕ, List, drop, arith, subst, sym, ap}
use Rattle.std.specs.List.{AllByRecursion}
use Rattle.std.proofs.lemmas.List.{get_or-map}
use Rattle.jlog.specs.Places.{place_within}
use Rattle.jrests.specs.declared.opening.Opening.{Opening}
use Rattle.jopenings.specs.declared.placing.Stretch.{Stretch}
use Rattle.jupdate.specs.Rows.{IsOpen, ended, ends_of, left_at}
use Rattle.jupdate.proofs.RowLemmas.{head_is, tail_is, spot_here, spot_next}
use Rattle.jupdate.proofs.StretchLemmas.{many_ends}
use Rattle.jupdate.proofs.row.find.Goals as goal

first : Opening
first = record { block = 0; place = 0 }

pub place_of-requires-clause-from : goal.place_of-requires-clause-from
place_of-requires-clause-from c =
    let at = c.loop-next.next in
    let it = head_is (IsOpen c.args.flash.size c.args.flash.count) (ends_of c.args.stretches.now) at.passed at.place first (omega (arith, many_ends c.args.stretches.now)) c.loop-next.invariant.openings in
    omega (arith, it.inside)

pub place_of-requires-clause-word : goal.place_of-requires-clause-word
place_of-requires-clause-word c =
    let at = c.loop-next.next in
    (head_is (IsOpen c.args.flash.size c.args.flash.count) (ends_of c.args.stretches.now) at.passed at.place first (omega (arith, many_ends c.args.stretches.now)) c.loop-next.invariant.openings).word

pub loop-next-preserved : goal.loop-next-preserved
loop-next-preserved c =
    let a = c.args in
    let at = c.loop-next.next in
    let below : at.passed < length (ends_of a.stretches.now) = omega (arith, many_ends a.stretches.now) in
    let next : suc at.passed ≡ at.passed + 1 = omega arith in
    let left : left_at (ends_of a.stretches.now) c.begin_of-next.result ≡ drop (suc at.passed) (ends_of a.stretches.now) = c.begin_of-next.ensures.left ∙ ap (λ (n : ℕ). drop n (ends_of a.stretches.now)) (sym next) in
    let none : place_within a.flash.size 1 at.place a.len ≡ None = search rules in
    record {
      openings = subst (AllByRecursion (IsOpen a.flash.size a.flash.count)) (sym left) (tail_is (IsOpen a.flash.size a.flash.count) (ends_of a.stretches.now) at.passed at.place first below c.loop-next.invariant.openings);
      begins = λ _. left ∙ ap (λ (n : ℕ). drop n (ends_of a.stretches.now)) (next ∙ sym c.begin_of-next.ensures.passed);
      same = spot_next a.flash.size (ends_of a.stretches.now) a.cursor at a.len first (left_at (ends_of a.stretches.now) c.begin_of-next.result) below c.loop-next.invariant.same none left;
    }

pub returns-in-Some : goal.returns-in-Some
returns-in-Some c =
    let a = c.args in
    let at = c.loop-next.next in
    let none : Stretch = record { block = 0; place = 0; len = 0 } in
    let below : at.passed < length a.stretches.now = search rules in
    let o : Opening = ended (get_or a.stretches.now at.passed none) in
    let is : o ≡ get_or (ends_of a.stretches.now) at.passed o = sym (get_or-map ended a.stretches.now at.passed none o below) in
    let found : place_within a.flash.size 1 at.place a.len ≡ Some c.in-Some.at = search rules in
    spot_here a.flash.size (ends_of a.stretches.now) a.cursor at a.len c.in-Some.at o (omega (arith, many_ends a.stretches.now)) is c.loop-next.invariant.same found c.loop-next.invariant.begins
