use Rattle.std.proofs.Common.{rules, ◌≡◌, ◌≤◌, ◌+◌, ◌<◌, List, drop, length, ℕ, take, take_all, get_or, suc, arith, subst, sym, ap, ◌∙◌, refl, Err}
use Rattle.std.specs.List.{AllByRecursion}
use Rattle.flashbase.specs.Device.{next_count}
use Rattle.jsteps.specs.Nodes.{Indexed, node_of, nodes_of}
use Rattle.jsteps.specs.declared.step.Step.{Step}
use Rattle.jlog.specs.Laws.{FitsBlock}
use Rattle.jlog.specs.declared.writing.Stop.TheVariants as stop
use Rattle.jlog.proofs.DoneLemmas.{all_first}
use Rattle.jlog.proofs.StepLemmas.{size_words}
use Rattle.jpacked.specs.Forms.{form_with, step_forms}
use Rattle.jpacked.proofs.MadeLemmas.{made_many, many_nodes}
use Rattle.jrests.specs.Shares.{shares}
use Rattle.jrests.specs.declared.opening.Opening.{Opening}
use Rattle.jopenings.specs.After.{output_to_all}
use Rattle.jopenings.specs.Stretches.{longer}
use Rattle.jupdate.specs.Rows.{IsOpen, ends_of}
use Rattle.jupdate.proofs.Parts.{PutBy}
use Rattle.jupdate.proofs.PutLemmas.{put_none, next_fits, one_more, one_begun, only_begun, some_out, still, nothing, at_sink, at_begun, at_unbegun, grows_unbegun}
use Rattle.jupdate.proofs.RowLemmas.{all_stay_open}
use Rattle.jupdate.proofs.StretchLemmas.{added, left_is_upwards, longer_next, none_longer}
use Rattle.jupdate.proofs.TurnLemmas.{all_fit_blocks, all_forms, can_next, form_is, made_next}
use Rattle.jupdate.proofs.writing.put_steps.Goals as goal

pub loop-i-init : goal.loop-i-init
loop-i-init g c = record {
  within = omega arith;
  stretches = c.requires.stretches;
  begins = refl;
  longer_by = sym (none_longer g.E.Order.order c.args.flash.size (drop c.args.log.now.passed (ends_of c.args.log.now.stretches.items)) c.args.log.now.stretches.items);
  wrote = put_none g.E.Order.order c.args.flash.size (drop c.args.log.now.passed (ends_of c.args.log.now.stretches.items)) c.args.log.now.index (g.S.Sink.taken c.args.log.now.sink) c.args.places.now.items;
  none_failed = refl;
  room = search rules;
}

pub bounds-streams-i : goal.bounds-streams-i
bounds-streams-i g c =
    let e = g.E.Order.order in
    let a = c.args in
    let x : Indexed = a.log.now.index in
    let below : c.loop-i.i < length a.steps.now = search rules in
    omega (arith, below, made_many e (nodes_of x a.steps.now) a.streams.now c.requires.made, many_nodes x a.steps.now)

pub put_step-requires-clause-openings : goal.put_step-requires-clause-openings
put_step-requires-clause-openings g c =
    let e = g.E.Order.order in
    let a = c.args in
    let x : Indexed = a.log.now.index in
    let forms : List (List ℕ) = step_forms e x a.steps.now a.streams.now in
    let ok : AllByRecursion (FitsBlock a.flash.size) forms = all_fit_blocks a.flash.size e x a.steps.now a.streams.now c.requires.steps c.requires.made in
    subst (AllByRecursion (IsOpen a.flash.size a.flash.count)) (sym c.loop-i.invariant.wrote.row)
    (all_stay_open a.flash.size a.flash.count (drop a.log.now.passed (ends_of a.log.now.stretches.items)) (take c.loop-i.i forms) (size_words a.flash.size a.flash.count c.requires.flash)
    (all_first (FitsBlock a.flash.size) c.loop-i.i forms ok) c.requires.openings)

pub put_step-requires-clause-step : goal.put_step-requires-clause-step
put_step-requires-clause-step g c =
    let e = g.E.Order.order in
    let a = c.args in
    let r = c.requires in
    let s : Step = c.index-steps-i.result in
    let can = can_next a.flash.size e a.log.now.index c.loop-i.log.index a.steps.now c.loop-i.i s r.steps (search rules) (search rules) c.loop-i.invariant.wrote.index in
    record { page = r.steps.page; is_page = r.steps.is_page; fits = r.steps.fits; can = (can, tt {0}) }

pub put_step-requires-clause-made : goal.put_step-requires-clause-made
put_step-requires-clause-made g c =
    let a = c.args in
    made_next g.E.Order.order a.log.now.index c.loop-i.log.index a.steps.now a.streams.now c.loop-i.i c.index-steps-i.result c.as_slice-stream.result.now c.requires.made (search rules) (search rules) (search rules)
    c.loop-i.invariant.wrote.index

pub put_step-requires-clause-space : goal.put_step-requires-clause-space
put_step-requires-clause-space g c =
    let e = g.E.Order.order in
    let a = c.args in
    let x : Indexed = a.log.now.index in
    let i : ℕ = c.loop-i.i in
    let s : Step = c.index-steps-i.result in
    let t : List ℕ = c.as_slice-stream.result.now in
    let forms : List (List ℕ) = step_forms e x a.steps.now a.streams.now in
    let below : i < length a.steps.now = search rules in
    let under : i < length forms = omega (arith, below, all_forms e x a.steps.now a.streams.now c.requires.made) in
    let f : List ℕ = form_with e (node_of c.loop-i.log.index s) t in
    let has : f ≡ get_or forms i f = form_is e x c.loop-i.log.index a.steps.now a.streams.now i s t f c.requires.made below (search rules) (search rules) c.loop-i.invariant.wrote.index in
    next_fits a.flash.size (drop a.log.now.passed (ends_of a.log.now.stretches.items)) forms i f f (drop c.loop-i.log.passed (ends_of c.loop-i.log.stretches.items)) under has c.requires.space c.loop-i.invariant.wrote.row

pub loop-i-preserved : goal.loop-i-preserved
loop-i-preserved g c =
    let e = g.E.Order.order in
    let a = c.args in
    let x : Indexed = a.log.now.index in
    let i : ℕ = c.loop-i.i in
    let before = c.loop-i.invariant in
    let row : List Opening = drop a.log.now.passed (ends_of a.log.now.stretches.items) in
    let s : Step = c.index-steps-i.result in
    let t : List ℕ = c.as_slice-stream.result.now in
    let is : s ≡ get_or a.steps.now i s = search rules in
    let forms : List (List ℕ) = step_forms e x a.steps.now a.streams.now in
    let below : i < length a.steps.now = search rules in
    let under : i < length forms = omega (arith, below, all_forms e x a.steps.now a.streams.now c.requires.made) in
    let f : List ℕ = form_with e (node_of c.loop-i.log.index s) t in
    let has : f ≡ get_or forms i f = form_is e x c.loop-i.log.index a.steps.now a.streams.now i s t f c.requires.made below is (search rules) before.wrote.index in
    let did = c.in-Ok.ensures.puts in
    let next : suc i ≡ i + 1 = omega arith in
    record {
      within = omega arith;
      stretches = c.put_step.ensures.within;
      begins = c.put_step.ensures.begins ∙ before.begins;
      longer_by = subst (λ (n : ℕ). c.put_step.new.log.stretches.items ≡ longer (added e a.flash.size row (take n forms)) a.log.now.stretches.items) next
          (longer_next e a.flash.size a.flash.count row forms i f f (drop c.loop-i.log.passed (ends_of c.loop-i.log.stretches.items)) a.log.now.stretches.items c.loop-i.log.stretches.items c.put_step.new.log.stretches.items
          (left_is_upwards a.flash.size a.flash.count a.log.now.passed a.log.now.stretches.items c.requires.stretches) under has before.wrote.row before.longer_by c.in-Ok.ensures.stretches);
      wrote = subst (λ (n : ℕ). PutBy e a.flash.size row x (take n a.steps.now) (take n forms) (drop c.put_step.new.log.passed (ends_of c.put_step.new.log.stretches.items)) c.put_step.new.log.index
          (g.S.Sink.taken a.log.now.sink) (g.S.Sink.taken c.put_step.new.log.sink) a.places.now.items c.put_step.new.places.items) next
          (one_more e a.flash.size row x a.steps.now forms i s s f f (drop c.loop-i.log.passed (ends_of c.loop-i.log.stretches.items)) (drop c.put_step.new.log.passed (ends_of c.put_step.new.log.stretches.items)) c.loop-i.log.index c.put_step.new.log.index
          (g.S.Sink.taken a.log.now.sink) (g.S.Sink.taken c.loop-i.log.sink) (g.S.Sink.taken c.put_step.new.log.sink) a.places.now.items c.loop-i.places.items c.put_step.new.places.items
          below under is has before.wrote did.0);
      none_failed = did.1 ∙ before.none_failed;
      room = omega (arith, before.room, c.put_step.ensures.len, c.put_step.ensures.capacity);
    }

pub returns-in-Err-Sink-clause-puts : goal.returns-in-Err-Sink-clause-puts
returns-in-Err-Sink-clause-puts g c =
    let e = g.E.Order.order in
    let a = c.args in
    let x : Indexed = a.log.now.index in
    let i : ℕ = c.loop-i.i in
    let before = c.loop-i.invariant in
    let s : Step = c.index-steps-i.result in
    let t : List ℕ = c.as_slice-stream.result.now in
    let forms : List (List ℕ) = step_forms e x a.steps.now a.streams.now in
    let below : i < length a.steps.now = search rules in
    let under : i < length forms = omega (arith, below, all_forms e x a.steps.now a.streams.now c.requires.made) in
    let f : List ℕ = form_with e (node_of c.loop-i.log.index s) t in
    let has : f ≡ get_or forms i f = form_is e x c.loop-i.log.index a.steps.now a.streams.now i s t f c.requires.made below (search rules) (search rules) before.wrote.index in
    let ok : AllByRecursion (FitsBlock a.flash.size) forms = all_fit_blocks a.flash.size e x a.steps.now a.streams.now c.requires.steps c.requires.made in
    let at : c.put_step.result ≡ Err stop.Sink = search rules in
    let did = at_sink _ _ _ _ _ _ _ _ _ _ _ _ _ _ c.put_step.result at c.put_step.ensures.puts in (
      (
        _,
        one_begun e a.flash.size (drop a.log.now.passed (ends_of a.log.now.stretches.items)) x a.steps.now forms i f f (drop c.loop-i.log.passed (ends_of c.loop-i.log.stretches.items)) did.0.0 c.loop-i.log.index
            (g.S.Sink.taken a.log.now.sink) (g.S.Sink.taken c.loop-i.log.sink) (g.S.Sink.taken c.put_step.new.log.sink) a.places.now.items c.loop-i.places.items c.put_step.new.places.items
            (size_words a.flash.size a.flash.count c.requires.flash) ok under has before.wrote did.0.1,
      ),
      did.1 ∙ ap next_count before.none_failed,
    )

pub returns-in-Err-Begun-clause-puts : goal.returns-in-Err-Begun-clause-puts
returns-in-Err-Begun-clause-puts g c =
    let e = g.E.Order.order in
    let a = c.args in
    let x : Indexed = a.log.now.index in
    let i : ℕ = c.loop-i.i in
    let before = c.loop-i.invariant in
    let row : List Opening = drop a.log.now.passed (ends_of a.log.now.stretches.items) in
    let s : Step = c.index-steps-i.result in
    let t : List ℕ = c.as_slice-stream.result.now in
    let forms : List (List ℕ) = step_forms e x a.steps.now a.streams.now in
    let below : i < length a.steps.now = search rules in
    let under : i < length forms = omega (arith, below, all_forms e x a.steps.now a.streams.now c.requires.made) in
    let f : List ℕ = form_with e (node_of c.loop-i.log.index s) t in
    let has : f ≡ get_or forms i f = form_is e x c.loop-i.log.index a.steps.now a.streams.now i s t f c.requires.made below (search rules) (search rules) before.wrote.index in
    let ok : AllByRecursion (FitsBlock a.flash.size) forms = all_fit_blocks a.flash.size e x a.steps.now a.streams.now c.requires.steps c.requires.made in
    let at : c.put_step.result ≡ Err stop.Begun = search rules in
    let did = at_begun _ _ _ _ _ _ _ _ _ _ _ _ _ _ c.put_step.result at c.put_step.ensures.puts in
    let some : 0 < did.0.0 = did.0.1 in (
      (
        length (output_to_all e a.flash.size (shares a.flash.size row (take i forms))) + did.0.0,
        omega arith,
        one_begun e a.flash.size row x a.steps.now forms i f f (drop c.loop-i.log.passed (ends_of c.loop-i.log.stretches.items)) did.0.0 c.loop-i.log.index
            (g.S.Sink.taken a.log.now.sink) (g.S.Sink.taken c.loop-i.log.sink) (g.S.Sink.taken c.put_step.new.log.sink) a.places.now.items c.loop-i.places.items c.put_step.new.places.items
            (size_words a.flash.size a.flash.count c.requires.flash) ok under has before.wrote did.0.2,
      ),
      did.1 ∙ before.none_failed,
    )

pub returns-then-i-eq0-clause-puts : goal.returns-then-i-eq0-clause-puts
returns-then-i-eq0-clause-puts g c =
    let e = g.E.Order.order in
    let a = c.args in
    let x : Indexed = a.log.now.index in
    let i : ℕ = c.loop-i.i in
    let before = c.loop-i.invariant in
    let forms : List (List ℕ) = step_forms e x a.steps.now a.streams.now in
    let at : c.put_step.result ≡ Err stop.Unbegun = search rules in
    let did = at_unbegun _ _ _ _ _ _ _ _ _ _ _ _ _ _ c.put_step.result at c.put_step.ensures.puts in
    let first : i ≡ 0 = search rules in
    let none = nothing e a.flash.size (drop a.log.now.passed (ends_of a.log.now.stretches.items)) x a.steps.now forms i (drop c.loop-i.log.passed (ends_of c.loop-i.log.stretches.items)) (drop c.put_step.new.log.passed (ends_of c.put_step.new.log.stretches.items))
    c.loop-i.log.index c.put_step.new.log.index
    (g.S.Sink.taken a.log.now.sink) (g.S.Sink.taken c.loop-i.log.sink) (g.S.Sink.taken c.put_step.new.log.sink) a.places.now.items c.loop-i.places.items c.put_step.new.places.items first before.wrote did.0 did.1 did.2 did.3 in
    (none.0, none.1, none.2, none.3, did.4 ∙ before.none_failed)

pub returns-in-Err-Unbegun-clause-puts : goal.returns-in-Err-Unbegun-clause-puts
returns-in-Err-Unbegun-clause-puts g c =
    let e = g.E.Order.order in
    let a = c.args in
    let x : Indexed = a.log.now.index in
    let i : ℕ = c.loop-i.i in
    let before = c.loop-i.invariant in
    let row : List Opening = drop a.log.now.passed (ends_of a.log.now.stretches.items) in
    let forms : List (List ℕ) = step_forms e x a.steps.now a.streams.now in
    let below : i < length a.steps.now = search rules in
    let under : i < length forms = omega (arith, below, all_forms e x a.steps.now a.streams.now c.requires.made) in
    let ok : AllByRecursion (FitsBlock a.flash.size) forms = all_fit_blocks a.flash.size e x a.steps.now a.streams.now c.requires.steps c.requires.made in
    let at : c.put_step.result ≡ Err stop.Unbegun = search rules in
    let did = at_unbegun _ _ _ _ _ _ _ _ _ _ _ _ _ _ c.put_step.result at c.put_step.ensures.puts in
    let later : 0 < i = search rules in
    let out : ℕ = length (output_to_all e a.flash.size (shares a.flash.size row (take i forms))) in
    let some : 0 < out = some_out e a.flash.size row forms i ok c.requires.space later under in
    let begun = only_begun e a.flash.size row x a.steps.now forms i (drop c.loop-i.log.passed (ends_of c.loop-i.log.stretches.items)) c.loop-i.log.index
    (g.S.Sink.taken a.log.now.sink) (g.S.Sink.taken c.loop-i.log.sink) a.places.now.items c.loop-i.places.items (size_words a.flash.size a.flash.count c.requires.flash) ok before.wrote in (
      (
        out,
        some,
        still e a.flash.size row x forms out (g.S.Sink.taken a.log.now.sink) (g.S.Sink.taken c.loop-i.log.sink) (g.S.Sink.taken c.put_step.new.log.sink) a.places.now.items c.loop-i.places.items c.put_step.new.places.items
            begun did.2 did.3,
      ),
      did.4 ∙ before.none_failed,
    )

pub returns-clause-puts : goal.returns-clause-puts
returns-clause-puts g c =
    let e = g.E.Order.order in
    let a = c.args in
    let x : Indexed = a.log.now.index in
    let row : List Opening = drop a.log.now.passed (ends_of a.log.now.stretches.items) in
    let now : List Opening = drop c.loop-i.log.passed (ends_of c.loop-i.log.stretches.items) in
    let forms : List (List ℕ) = step_forms e x a.steps.now a.streams.now in
    let all : length a.steps.now ≤ c.loop-i.i = search rules in
    let whole : take c.loop-i.i a.steps.now ≡ a.steps.now = take_all c.loop-i.i a.steps.now all in
    let also : take c.loop-i.i forms ≡ forms = take_all c.loop-i.i forms (omega (arith, all, all_forms e x a.steps.now a.streams.now c.requires.made)) in
    let wrote : PutBy e a.flash.size row x a.steps.now forms now c.loop-i.log.index (g.S.Sink.taken a.log.now.sink) (g.S.Sink.taken c.loop-i.log.sink) a.places.now.items c.loop-i.places.items =
    subst (λ (l : List Step). PutBy e a.flash.size row x l forms now c.loop-i.log.index (g.S.Sink.taken a.log.now.sink) (g.S.Sink.taken c.loop-i.log.sink) a.places.now.items c.loop-i.places.items) whole
    (subst (λ (l : List (List ℕ)). PutBy e a.flash.size row x (take c.loop-i.i a.steps.now) l now c.loop-i.log.index (g.S.Sink.taken a.log.now.sink) (g.S.Sink.taken c.loop-i.log.sink) a.places.now.items c.loop-i.places.items) also
    c.loop-i.invariant.wrote) in
    (wrote, c.loop-i.invariant.none_failed)

pub returns-clause-stretches : goal.returns-clause-stretches
returns-clause-stretches g c =
    let e = g.E.Order.order in
    let a = c.args in
    let x : Indexed = a.log.now.index in
    let row : List Opening = drop a.log.now.passed (ends_of a.log.now.stretches.items) in
    let forms : List (List ℕ) = step_forms e x a.steps.now a.streams.now in
    let all : length a.steps.now ≤ c.loop-i.i = search rules in
    let also : take c.loop-i.i forms ≡ forms = take_all c.loop-i.i forms (omega (arith, all, all_forms e x a.steps.now a.streams.now c.requires.made)) in
    c.loop-i.invariant.longer_by ∙ ap (λ (fs : List (List ℕ)). longer (added e a.flash.size row fs) a.log.now.stretches.items) also

pub returns-then-i-eq0-clause-stretches : goal.returns-then-i-eq0-clause-stretches
returns-then-i-eq0-clause-stretches g c =
    let e = g.E.Order.order in
    let a = c.args in
    let row : List Opening = drop a.log.now.passed (ends_of a.log.now.stretches.items) in
    let forms : List (List ℕ) = step_forms e a.log.now.index a.steps.now a.streams.now in
    let at : c.put_step.result ≡ Err stop.Unbegun = search rules in
    let first : c.loop-i.i ≡ 0 = search rules in
    grows_unbegun _ _ _ _ c.loop-i.log.stretches.items c.put_step.new.log.stretches.items c.put_step.result at c.put_step.ensures.stretches
    ∙ (c.loop-i.invariant.longer_by
    ∙ (ap (λ (n : ℕ). longer (added e a.flash.size row (take n forms)) a.log.now.stretches.items) first ∙ none_longer e a.flash.size row a.log.now.stretches.items))
