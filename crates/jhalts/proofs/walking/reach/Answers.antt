use Rattle.std.proofs.Common.{rules, ◌≡◌, ◌∙◌, ◌+◌, ◌<◌, ◌≤◌, ℕ, suc, List, [], false, drop, get_or, length, sym, ap, arith}
use Rattle.std.specs.Prelude.{◌==◌}
use Rattle.jrests.specs.declared.opening.Opening.{Opening}
use Rattle.jopenings.specs.declared.placing.Stretch.{Stretch}
use Rattle.jupdate.specs.Rows.{begins_of, opened}
use Rattle.jupdate.proofs.RowLemmas.{gone}
use Rattle.jhalts.specs.Walk.{from_block, row_of_walk}
use Rattle.jhalts.proofs.WalkLemmas.{block_here, block_next, gone_row, row_none}
use Rattle.jhalts.proofs.walking.reach.Goals as goal

nowhere : Stretch
nowhere = record { block = 0; place = 0; len = 0 }

pub loop-next-preserved : goal.loop-next-preserved
unfolding nowhere
loop-next-preserved c =
    let a = c.args in
    let at = c.loop-next.next in
    let s : Stretch = get_or a.stretches.now at.passed nowhere in
    let begins : List Opening = begins_of a.stretches.now in
    let below : at.passed < length a.stretches.now = search rules in
    let other : (s.block == a.block) ≡ false = search rules in
    let next : suc at.passed ≡ at.passed + 1 = omega arith in
    let left : row_of_walk a.stretches.now c.at_opening-next.result ≡ drop (suc at.passed) begins = c.at_opening-next.ensures.row ∙ ap (λ (n : ℕ). drop n begins) (sym next) in
    record {
      same = c.loop-next.invariant.same
          ∙ (ap (from_block a.block) (gone_row a.stretches.now at.passed at.place nowhere below)
          ∙ (block_next a.block (gone (opened s) at.place) (drop (suc at.passed) begins) other ∙ ap (from_block a.block) (sym left)));
      flash = c.at_opening-next.ensures.flash;
    }

pub returns-then-here-block-clause-row : goal.returns-then-here-block-clause-row
unfolding nowhere
returns-then-here-block-clause-row c =
    let a = c.args in
    let at = c.loop-next.next in
    let s : Stretch = get_or a.stretches.now at.passed nowhere in
    let below : at.passed < length a.stretches.now = search rules in
    let same : s.block ≡ a.block = search rules in
    let head = gone_row a.stretches.now at.passed at.place nowhere below in
    let here : from_block a.block (row_of_walk a.stretches.now at) ≡ row_of_walk a.stretches.now at =
    ap (from_block a.block) head ∙ (block_here a.block (gone (opened s) at.place) (drop (suc at.passed) (begins_of a.stretches.now)) same ∙ sym head) in
    sym (c.loop-next.invariant.same ∙ here)

pub returns-clause-row : goal.returns-clause-row
returns-clause-row c =
    let a = c.args in
    let at = c.loop-next.next in
    let past : length a.stretches.now ≤ at.passed = search rules in
    let none : row_of_walk a.stretches.now at ≡ [] = row_none a.stretches.now at.passed at.place past in
    none ∙ (sym (ap (from_block a.block) none) ∙ sym c.loop-next.invariant.same)
