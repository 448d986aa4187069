use Rattle.std.proofs.Common.{rules, ◌≡◌, ◌≤◌, ◌+◌, ◌<◌, [], ◌∷◌, List, length, ℕ, take, take_all, get_or, suc, arith, subst, sym, ap, ◌∙◌, refl, IsTrue}
use Rattle.std.specs.List.{AllByRecursion}
use Rattle.jsteps.specs.Nodes.{Indexed, nodes_of}
use Rattle.jsteps.specs.declared.step.Step.{Step}
use Rattle.jlog.specs.Laws.{FitsBlock}
use Rattle.jlog.proofs.DoneLemmas.{all_first}
use Rattle.jlog.proofs.StepLemmas.{size_words}
use Rattle.jpacked.specs.Forms.{step_forms}
use Rattle.jpacked.proofs.MadeLemmas.{made_many, many_nodes}
use Rattle.jrests.specs.Shares.{fit_in}
use Rattle.jrests.specs.declared.opening.Opening.{Opening}
use Rattle.jopenings.specs.After.{row_after_all}
use Rattle.jopenings.proofs.AfterLemmas.{none_fit}
use Rattle.jupdate.specs.Rows.{IsOpen, ends_of, left_at, reached}
use Rattle.jupdate.proofs.RowLemmas.{all_stay_open, left_behind, more_room, no_room}
use Rattle.jupdate.proofs.TurnLemmas.{Turn, all_fit_blocks, all_forms, turn}
use Rattle.jupdate.proofs.room.has_room.Goals as goal

pub loop-i-init : goal.loop-i-init
loop-i-init g c = record {
  within = omega arith;
  left = refl;
  fits = none_fit c.args.flash.size (left_at (ends_of c.args.stretches.now) c.args.cursor);
}

pub bounds-streams-i : goal.bounds-streams-i
bounds-streams-i g c =
    let e = g.E.Order.order in
    let a = c.args in
    let x : Indexed = a._index.now in
    let below : c.loop-i.i < length a.steps.now = search rules in
    omega (arith, below, made_many e (nodes_of x a.steps.now) a.streams.now c.requires.made, many_nodes x a.steps.now)

pub form_len-len-requires-clause-step : goal.form_len-len-requires-clause-step
form_len-len-requires-clause-step g c =
    let a = c.args in
    let it : Turn g.E.Order.order a._index.now a.steps.now a.streams.now c.loop-i.i c.index-steps-i.result c.as_slice.result.now =
    turn a.flash.size g.E.Order.order a._index.now a.steps.now a.streams.now c.loop-i.i c.index-steps-i.result c.as_slice.result.now c.requires.steps c.requires.made (search rules) (search rules) (search rules) in
    omega (arith, it.own)

pub form_len-len-requires-clause-stream : goal.form_len-len-requires-clause-stream
form_len-len-requires-clause-stream g c =
    let a = c.args in
    let it : Turn g.E.Order.order a._index.now a.steps.now a.streams.now c.loop-i.i c.index-steps-i.result c.as_slice.result.now =
    turn a.flash.size g.E.Order.order a._index.now a.steps.now a.streams.now c.loop-i.i c.index-steps-i.result c.as_slice.result.now c.requires.steps c.requires.made (search rules) (search rules) (search rules) in
    omega (arith, it.packed)

pub overflow_cast-len : goal.overflow_cast-len
overflow_cast-len g c =
    let a = c.args in
    let it : Turn g.E.Order.order a._index.now a.steps.now a.streams.now c.loop-i.i c.index-steps-i.result c.as_slice.result.now =
    turn a.flash.size g.E.Order.order a._index.now a.steps.now a.streams.now c.loop-i.i c.index-steps-i.result c.as_slice.result.now c.requires.steps c.requires.made (search rules) (search rules) (search rules) in
    let long : c.form_len-len.result ≤ 16452 = omega (arith, it.small, c.form_len-len.ensures) in
    search (rules, long)

pub find-requires-clause-openings : goal.find-requires-clause-openings
find-requires-clause-openings g c =
    let e = g.E.Order.order in
    let a = c.args in
    let x : Indexed = a._index.now in
    let forms : List (List ℕ) = step_forms e x a.steps.now a.streams.now in
    let ok : AllByRecursion (FitsBlock a.flash.size) forms = all_fit_blocks a.flash.size e x a.steps.now a.streams.now c.requires.steps c.requires.made in
    subst (AllByRecursion (IsOpen a.flash.size a.flash.count)) (sym c.loop-i.invariant.left)
    (all_stay_open a.flash.size a.flash.count (left_at (ends_of a.stretches.now) a.cursor) (take c.loop-i.i forms) (size_words a.flash.size a.flash.count c.requires.flash)
    (all_first (FitsBlock a.flash.size) c.loop-i.i forms ok) c.requires.openings)

pub find-requires-clause-len : goal.find-requires-clause-len
find-requires-clause-len g c =
    let a = c.args in
    let it : Turn g.E.Order.order a._index.now a.steps.now a.streams.now c.loop-i.i c.index-steps-i.result c.as_slice.result.now =
    turn a.flash.size g.E.Order.order a._index.now a.steps.now a.streams.now c.loop-i.i c.index-steps-i.result c.as_slice.result.now c.requires.steps c.requires.made (search rules) (search rules) (search rules) in
    omega (arith, it.small, c.form_len-len.ensures)

pub returns-in-None : goal.returns-in-None
returns-in-None g c =
    let e = g.E.Order.order in
    let a = c.args in
    let x : Indexed = a._index.now in
    let t : List ℕ = c.as_slice.result.now in
    let forms : List (List ℕ) = step_forms e x a.steps.now a.streams.now in
    let it : Turn e x a.steps.now a.streams.now c.loop-i.i c.index-steps-i.result t =
    turn a.flash.size e x a.steps.now a.streams.now c.loop-i.i c.index-steps-i.result t c.requires.steps c.requires.made (search rules) (search rules) (search rules) in
    let long : c.form_len-len.result ≡ length (get_or forms c.loop-i.i t) = c.form_len-len.ensures ∙ it.long in
    no_room a.flash.size (left_at (ends_of a.stretches.now) a.cursor) forms c.loop-i.i t (left_at (ends_of a.stretches.now) c.loop-i.next) it.under c.loop-i.invariant.left
    (subst (λ (n : ℕ). reached a.flash.size (left_at (ends_of a.stretches.now) c.loop-i.next) n ≡ []) long c.in-None.ensures)

pub loop-i-preserved : goal.loop-i-preserved
loop-i-preserved g c =
    let e = g.E.Order.order in
    let a = c.args in
    let x : Indexed = a._index.now in
    let i : ℕ = c.loop-i.i in
    let t : List ℕ = c.as_slice.result.now in
    let forms : List (List ℕ) = step_forms e x a.steps.now a.streams.now in
    let below : i < length a.steps.now = search rules in
    let it : Turn e x a.steps.now a.streams.now i c.index-steps-i.result t =
    turn a.flash.size e x a.steps.now a.streams.now i c.index-steps-i.result t c.requires.steps c.requires.made below (search rules) (search rules) in
    let long : c.form_len-len.result ≡ length (get_or forms i t) = c.form_len-len.ensures ∙ it.long in
    let spot = c.in-Some.ensures in
    let now : List Opening = left_at (ends_of a.stretches.now) c.loop-i.next in
    let on = left_behind e a.flash.size (ends_of a.stretches.now) c.loop-i.next c.form_len-len.result c.in-Some.spot (get_or forms i t) spot long c.behind-next.result.passed c.behind-next.result.place
    c.behind-next.ensures.passed c.behind-next.ensures.place in
    let room = more_room e a.flash.size (left_at (ends_of a.stretches.now) a.cursor) forms i t now (left_at (ends_of a.stretches.now) c.behind-next.result) spot.opening spot.rest it.under c.loop-i.invariant.left c.loop-i.invariant.fits
    (subst (λ (n : ℕ). reached a.flash.size now n ≡ spot.opening ∷ spot.rest) long spot.first) on in
    let next : suc i ≡ i + 1 = omega arith in
    record {
      within = omega arith;
      left = room.left ∙ ap (λ (n : ℕ). row_after_all a.flash.size (left_at (ends_of a.stretches.now) a.cursor) (take n forms)) next;
      fits = subst (λ (n : ℕ). IsTrue (fit_in a.flash.size (left_at (ends_of a.stretches.now) a.cursor) (take n forms))) next room.fits;
    }

pub returns : goal.returns
returns g c =
    let e = g.E.Order.order in
    let a = c.args in
    let x : Indexed = a._index.now in
    let forms : List (List ℕ) = step_forms e x a.steps.now a.streams.now in
    let all : length forms ≤ c.loop-i.i = omega (arith, all_forms e x a.steps.now a.streams.now c.requires.made) in
    sym (subst (λ (l : List (List ℕ)). IsTrue (fit_in a.flash.size (left_at (ends_of a.stretches.now) a.cursor) l)) (take_all c.loop-i.i forms all) c.loop-i.invariant.fits)
