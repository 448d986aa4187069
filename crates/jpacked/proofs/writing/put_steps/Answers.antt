use Rattle.std.proofs.Common.{rules, ◌≡◌, ◌≤◌, ◌+◌, ◌*◌, ◌%◌, ◌<◌, List, length, ℕ, take, take_all, get_or, suc, arith, subst, sym, ap, ◌∙◌, refl, Err}
use Rattle.std.specs.List.{AllByRecursion}
use Rattle.flashbase.specs.Device.{next_count}
use Rattle.jsteps.specs.Nodes.{Indexed, node_of, nodes_of, advanced_all}
use Rattle.jsteps.specs.declared.step.Step.{Step}
use Rattle.jlog.specs.Laws.{FitsBlock}
use Rattle.jlog.specs.Output.{output}
use Rattle.jlog.specs.Running.{CanWrite}
use Rattle.jlog.specs.declared.writing.Stop.TheVariants as stop
use Rattle.jlog.proofs.RunningLemmas.{can_at}
use Rattle.jlog.proofs.StepLemmas.{size_words}
use Rattle.jpacked.specs.Forms.{form_with, step_forms, IsMadeOf}
use Rattle.jpacked.proofs.MadeLemmas.{made_at, made_forms, made_many, many_forms, many_nodes, form_at, forms_fit_blocks}
use Rattle.jpacked.proofs.Parts.{PutBy}
use Rattle.jpacked.proofs.PutLemmas.{put_none, within_at, one_more, one_begun, only_begun, some_out, still, nothing, at_sink, at_begun, at_unbegun}
use Rattle.jpacked.proofs.writing.put_steps.Goals as goal

pub loop-i-init : goal.loop-i-init
loop-i-init g c = record {
  within = omega arith;
  wrote = put_none g.E.Order.order c.args.flash.size c.args.log.now.cursor c.args.log.now.index (g.S.Sink.taken c.args.log.now.sink) c.args.places.now.items;
  none_failed = refl;
  room = search rules;
}

pub put_step-requires-clause-within : goal.put_step-requires-clause-within
put_step-requires-clause-within g c =
    let e = g.E.Order.order in
    let a = c.args in
    let r = c.requires in
    let x : Indexed = a.log.now.index in
    let from : ℕ = a.log.now.cursor in
    let i : ℕ = c.loop-i.i in
    let before = c.loop-i.invariant in
    let words : a.flash.size % 4 ≡ 0 = size_words a.flash.size a.flash.count r.flash in
    let forms : List (List ℕ) = step_forms e x a.steps.now a.streams.now in
    let ok : AllByRecursion (FitsBlock a.flash.size) forms =
    forms_fit_blocks r.steps.page e a.flash.size x a.steps.now forms r.steps.is_page r.steps.fits r.steps.can (made_forms e (nodes_of x a.steps.now) a.streams.now r.made) in
    let ends = within_at a.flash.size a.flash.count from forms i words ok r.within r.word r.space in
    subst (λ (n : ℕ). n ≤ a.flash.count * a.flash.size) (sym before.wrote.cursor) ends.0

pub put_step-requires-clause-word : goal.put_step-requires-clause-word
put_step-requires-clause-word g c =
    let e = g.E.Order.order in
    let a = c.args in
    let r = c.requires in
    let x : Indexed = a.log.now.index in
    let from : ℕ = a.log.now.cursor in
    let i : ℕ = c.loop-i.i in
    let before = c.loop-i.invariant in
    let words : a.flash.size % 4 ≡ 0 = size_words a.flash.size a.flash.count r.flash in
    let forms : List (List ℕ) = step_forms e x a.steps.now a.streams.now in
    let ok : AllByRecursion (FitsBlock a.flash.size) forms =
    forms_fit_blocks r.steps.page e a.flash.size x a.steps.now forms r.steps.is_page r.steps.fits r.steps.can (made_forms e (nodes_of x a.steps.now) a.streams.now r.made) in
    let ends = within_at a.flash.size a.flash.count from forms i words ok r.within r.word r.space in
    subst (λ (n : ℕ). n % 4 ≡ 0) (sym before.wrote.cursor) ends.1

pub put_step-requires-clause-step : goal.put_step-requires-clause-step
put_step-requires-clause-step g c =
    let e = g.E.Order.order in
    let a = c.args in
    let r = c.requires in
    let x : Indexed = a.log.now.index in
    let from : ℕ = a.log.now.cursor in
    let i : ℕ = c.loop-i.i in
    let before = c.loop-i.invariant in
    let words : a.flash.size % 4 ≡ 0 = size_words a.flash.size a.flash.count r.flash in
    let forms : List (List ℕ) = step_forms e x a.steps.now a.streams.now in
    let ok : AllByRecursion (FitsBlock a.flash.size) forms =
    forms_fit_blocks r.steps.page e a.flash.size x a.steps.now forms r.steps.is_page r.steps.fits r.steps.can (made_forms e (nodes_of x a.steps.now) a.streams.now r.made) in
    let below : i < length a.steps.now = search rules in
    let under : i < length forms = omega (arith, below, many_forms e (nodes_of x a.steps.now) a.streams.now r.made, many_nodes x a.steps.now) in
    let s : Step = c.index-steps-i.result in
    let t : List ℕ = c.as_slice-stream.result.now in
    let is : s ≡ get_or a.steps.now i s = search rules in
    let given : t ≡ get_or a.streams.now i t = search rules in
    let f : List ℕ = form_with e (node_of c.loop-i.log.index s) t in
    let has : f ≡ get_or forms i f =
    ap (λ (w : Indexed). form_with e (node_of w s) t) before.wrote.index
    ∙ (ap (λ (w : Step). form_with e (node_of (advanced_all x (take i a.steps.now)) w) t) is
    ∙ (ap (form_with e (node_of (advanced_all x (take i a.steps.now)) (get_or a.steps.now i s))) given
    ∙ sym (form_at e x a.steps.now a.streams.now i s t f r.made below))) in
    let can : CanWrite r.steps.page e c.loop-i.log.index s =
    subst (λ (w : Step). CanWrite r.steps.page e c.loop-i.log.index w) (sym is)
    (subst (λ (w : Indexed). CanWrite r.steps.page e w (get_or a.steps.now i s)) (sym before.wrote.index)
    (can_at r.steps.page e x a.steps.now i s r.steps.can below)) in
    record { page = r.steps.page; is_page = r.steps.is_page; fits = r.steps.fits; can = (can, tt {0}) }

pub put_step-requires-clause-made : goal.put_step-requires-clause-made
put_step-requires-clause-made g c =
    let e = g.E.Order.order in
    let a = c.args in
    let r = c.requires in
    let x : Indexed = a.log.now.index in
    let from : ℕ = a.log.now.cursor in
    let i : ℕ = c.loop-i.i in
    let before = c.loop-i.invariant in
    let words : a.flash.size % 4 ≡ 0 = size_words a.flash.size a.flash.count r.flash in
    let forms : List (List ℕ) = step_forms e x a.steps.now a.streams.now in
    let ok : AllByRecursion (FitsBlock a.flash.size) forms =
    forms_fit_blocks r.steps.page e a.flash.size x a.steps.now forms r.steps.is_page r.steps.fits r.steps.can (made_forms e (nodes_of x a.steps.now) a.streams.now r.made) in
    let below : i < length a.steps.now = search rules in
    let under : i < length forms = omega (arith, below, many_forms e (nodes_of x a.steps.now) a.streams.now r.made, many_nodes x a.steps.now) in
    let s : Step = c.index-steps-i.result in
    let t : List ℕ = c.as_slice-stream.result.now in
    let is : s ≡ get_or a.steps.now i s = search rules in
    let given : t ≡ get_or a.streams.now i t = search rules in
    let f : List ℕ = form_with e (node_of c.loop-i.log.index s) t in
    let has : f ≡ get_or forms i f =
    ap (λ (w : Indexed). form_with e (node_of w s) t) before.wrote.index
    ∙ (ap (λ (w : Step). form_with e (node_of (advanced_all x (take i a.steps.now)) w) t) is
    ∙ (ap (form_with e (node_of (advanced_all x (take i a.steps.now)) (get_or a.steps.now i s))) given
    ∙ sym (form_at e x a.steps.now a.streams.now i s t f r.made below))) in
    subst (λ (w : Indexed). IsMadeOf e (node_of w s) t) (sym before.wrote.index)
    (subst (λ (w : Step). IsMadeOf e (node_of (advanced_all x (take i a.steps.now)) w) t) (sym is)
    (subst (IsMadeOf e (node_of (advanced_all x (take i a.steps.now)) (get_or a.steps.now i s))) (sym given)
    (made_at e x a.steps.now a.streams.now i s t r.made below)))

pub returns-in-Err-Sink : goal.returns-in-Err-Sink
returns-in-Err-Sink g c =
    let e = g.E.Order.order in
    let a = c.args in
    let r = c.requires in
    let x : Indexed = a.log.now.index in
    let from : ℕ = a.log.now.cursor in
    let i : ℕ = c.loop-i.i in
    let before = c.loop-i.invariant in
    let words : a.flash.size % 4 ≡ 0 = size_words a.flash.size a.flash.count r.flash in
    let forms : List (List ℕ) = step_forms e x a.steps.now a.streams.now in
    let ok : AllByRecursion (FitsBlock a.flash.size) forms =
    forms_fit_blocks r.steps.page e a.flash.size x a.steps.now forms r.steps.is_page r.steps.fits r.steps.can (made_forms e (nodes_of x a.steps.now) a.streams.now r.made) in
    let below : i < length a.steps.now = search rules in
    let under : i < length forms = omega (arith, below, many_forms e (nodes_of x a.steps.now) a.streams.now r.made, many_nodes x a.steps.now) in
    let s : Step = c.index-steps-i.result in
    let t : List ℕ = c.as_slice-stream.result.now in
    let is : s ≡ get_or a.steps.now i s = search rules in
    let given : t ≡ get_or a.streams.now i t = search rules in
    let f : List ℕ = form_with e (node_of c.loop-i.log.index s) t in
    let has : f ≡ get_or forms i f =
    ap (λ (w : Indexed). form_with e (node_of w s) t) before.wrote.index
    ∙ (ap (λ (w : Step). form_with e (node_of (advanced_all x (take i a.steps.now)) w) t) is
    ∙ (ap (form_with e (node_of (advanced_all x (take i a.steps.now)) (get_or a.steps.now i s))) given
    ∙ sym (form_at e x a.steps.now a.streams.now i s t f r.made below))) in
    let at : c.put_step.result ≡ Err stop.Sink = search rules in
    let did = at_sink _ _ _ _ _ _ _ _ _ _ _ _ _ _ c.put_step.result at c.put_step.ensures.puts in (
      (
        _,
        one_begun e a.flash.size from x a.steps.now forms i f f c.loop-i.log.cursor did.0.0 c.loop-i.log.index
            (g.S.Sink.taken a.log.now.sink) (g.S.Sink.taken c.loop-i.log.sink) (g.S.Sink.taken c.put_step.new.log.sink) a.places.now.items c.loop-i.places.items c.put_step.new.places.items
            words ok under has before.wrote did.0.1,
      ),
      did.1 ∙ ap next_count before.none_failed,
    )

pub returns-in-Err-Begun : goal.returns-in-Err-Begun
returns-in-Err-Begun g c =
    let e = g.E.Order.order in
    let a = c.args in
    let r = c.requires in
    let x : Indexed = a.log.now.index in
    let from : ℕ = a.log.now.cursor in
    let i : ℕ = c.loop-i.i in
    let before = c.loop-i.invariant in
    let words : a.flash.size % 4 ≡ 0 = size_words a.flash.size a.flash.count r.flash in
    let forms : List (List ℕ) = step_forms e x a.steps.now a.streams.now in
    let ok : AllByRecursion (FitsBlock a.flash.size) forms =
    forms_fit_blocks r.steps.page e a.flash.size x a.steps.now forms r.steps.is_page r.steps.fits r.steps.can (made_forms e (nodes_of x a.steps.now) a.streams.now r.made) in
    let below : i < length a.steps.now = search rules in
    let under : i < length forms = omega (arith, below, many_forms e (nodes_of x a.steps.now) a.streams.now r.made, many_nodes x a.steps.now) in
    let s : Step = c.index-steps-i.result in
    let t : List ℕ = c.as_slice-stream.result.now in
    let is : s ≡ get_or a.steps.now i s = search rules in
    let given : t ≡ get_or a.streams.now i t = search rules in
    let f : List ℕ = form_with e (node_of c.loop-i.log.index s) t in
    let has : f ≡ get_or forms i f =
    ap (λ (w : Indexed). form_with e (node_of w s) t) before.wrote.index
    ∙ (ap (λ (w : Step). form_with e (node_of (advanced_all x (take i a.steps.now)) w) t) is
    ∙ (ap (form_with e (node_of (advanced_all x (take i a.steps.now)) (get_or a.steps.now i s))) given
    ∙ sym (form_at e x a.steps.now a.streams.now i s t f r.made below))) in
    let at : c.put_step.result ≡ Err stop.Begun = search rules in
    let did = at_begun _ _ _ _ _ _ _ _ _ _ _ _ _ _ c.put_step.result at c.put_step.ensures.puts in
    let some : 0 < did.0.0 = did.0.1 in (
      (
        length (output e a.flash.size from (take i forms)) + did.0.0,
        omega arith,
        one_begun e a.flash.size from x a.steps.now forms i f f c.loop-i.log.cursor did.0.0 c.loop-i.log.index
            (g.S.Sink.taken a.log.now.sink) (g.S.Sink.taken c.loop-i.log.sink) (g.S.Sink.taken c.put_step.new.log.sink) a.places.now.items c.loop-i.places.items c.put_step.new.places.items
            words ok under has before.wrote did.0.2,
      ),
      did.1 ∙ before.none_failed,
    )

pub returns-then-i-eq0 : goal.returns-then-i-eq0
returns-then-i-eq0 g c =
    let e = g.E.Order.order in
    let a = c.args in
    let r = c.requires in
    let x : Indexed = a.log.now.index in
    let from : ℕ = a.log.now.cursor in
    let i : ℕ = c.loop-i.i in
    let before = c.loop-i.invariant in
    let words : a.flash.size % 4 ≡ 0 = size_words a.flash.size a.flash.count r.flash in
    let forms : List (List ℕ) = step_forms e x a.steps.now a.streams.now in
    let ok : AllByRecursion (FitsBlock a.flash.size) forms =
    forms_fit_blocks r.steps.page e a.flash.size x a.steps.now forms r.steps.is_page r.steps.fits r.steps.can (made_forms e (nodes_of x a.steps.now) a.streams.now r.made) in
    let below : i < length a.steps.now = search rules in
    let under : i < length forms = omega (arith, below, many_forms e (nodes_of x a.steps.now) a.streams.now r.made, many_nodes x a.steps.now) in
    let s : Step = c.index-steps-i.result in
    let t : List ℕ = c.as_slice-stream.result.now in
    let is : s ≡ get_or a.steps.now i s = search rules in
    let given : t ≡ get_or a.streams.now i t = search rules in
    let f : List ℕ = form_with e (node_of c.loop-i.log.index s) t in
    let has : f ≡ get_or forms i f =
    ap (λ (w : Indexed). form_with e (node_of w s) t) before.wrote.index
    ∙ (ap (λ (w : Step). form_with e (node_of (advanced_all x (take i a.steps.now)) w) t) is
    ∙ (ap (form_with e (node_of (advanced_all x (take i a.steps.now)) (get_or a.steps.now i s))) given
    ∙ sym (form_at e x a.steps.now a.streams.now i s t f r.made below))) in
    let at : c.put_step.result ≡ Err stop.Unbegun = search rules in
    let did = at_unbegun _ _ _ _ _ _ _ _ _ _ _ _ _ _ c.put_step.result at c.put_step.ensures.puts in
    let first : i ≡ 0 = search rules in
    let none = nothing e a.flash.size from x a.steps.now forms i c.loop-i.log.cursor c.put_step.new.log.cursor c.loop-i.log.index c.put_step.new.log.index
    (g.S.Sink.taken a.log.now.sink) (g.S.Sink.taken c.loop-i.log.sink) (g.S.Sink.taken c.put_step.new.log.sink) a.places.now.items c.loop-i.places.items c.put_step.new.places.items first before.wrote did.0 did.1 did.2 did.3 in
    (none.0, none.1, none.2, none.3, did.4 ∙ before.none_failed)

pub returns-in-Err-Unbegun : goal.returns-in-Err-Unbegun
returns-in-Err-Unbegun g c =
    let e = g.E.Order.order in
    let a = c.args in
    let r = c.requires in
    let x : Indexed = a.log.now.index in
    let from : ℕ = a.log.now.cursor in
    let i : ℕ = c.loop-i.i in
    let before = c.loop-i.invariant in
    let words : a.flash.size % 4 ≡ 0 = size_words a.flash.size a.flash.count r.flash in
    let forms : List (List ℕ) = step_forms e x a.steps.now a.streams.now in
    let ok : AllByRecursion (FitsBlock a.flash.size) forms =
    forms_fit_blocks r.steps.page e a.flash.size x a.steps.now forms r.steps.is_page r.steps.fits r.steps.can (made_forms e (nodes_of x a.steps.now) a.streams.now r.made) in
    let below : i < length a.steps.now = search rules in
    let under : i < length forms = omega (arith, below, many_forms e (nodes_of x a.steps.now) a.streams.now r.made, many_nodes x a.steps.now) in
    let s : Step = c.index-steps-i.result in
    let t : List ℕ = c.as_slice-stream.result.now in
    let is : s ≡ get_or a.steps.now i s = search rules in
    let given : t ≡ get_or a.streams.now i t = search rules in
    let f : List ℕ = form_with e (node_of c.loop-i.log.index s) t in
    let has : f ≡ get_or forms i f =
    ap (λ (w : Indexed). form_with e (node_of w s) t) before.wrote.index
    ∙ (ap (λ (w : Step). form_with e (node_of (advanced_all x (take i a.steps.now)) w) t) is
    ∙ (ap (form_with e (node_of (advanced_all x (take i a.steps.now)) (get_or a.steps.now i s))) given
    ∙ sym (form_at e x a.steps.now a.streams.now i s t f r.made below))) in
    let at : c.put_step.result ≡ Err stop.Unbegun = search rules in
    let did = at_unbegun _ _ _ _ _ _ _ _ _ _ _ _ _ _ c.put_step.result at c.put_step.ensures.puts in
    let later : 0 < i = search rules in
    let out : ℕ = length (output e a.flash.size from (take i forms)) in
    let some : 0 < out = some_out e a.flash.size from forms i ok later under in
    let begun = only_begun e a.flash.size from x a.steps.now forms i c.loop-i.log.cursor c.loop-i.log.index
    (g.S.Sink.taken a.log.now.sink) (g.S.Sink.taken c.loop-i.log.sink) a.places.now.items c.loop-i.places.items words ok before.wrote in (
      (
        out,
        some,
        still e a.flash.size from x forms out (g.S.Sink.taken a.log.now.sink) (g.S.Sink.taken c.loop-i.log.sink) (g.S.Sink.taken c.put_step.new.log.sink) a.places.now.items c.loop-i.places.items c.put_step.new.places.items
            begun did.2 did.3,
      ),
      did.4 ∙ before.none_failed,
    )

pub loop-i-preserved : goal.loop-i-preserved
loop-i-preserved g c =
    let e = g.E.Order.order in
    let a = c.args in
    let r = c.requires in
    let x : Indexed = a.log.now.index in
    let from : ℕ = a.log.now.cursor in
    let i : ℕ = c.loop-i.i in
    let before = c.loop-i.invariant in
    let words : a.flash.size % 4 ≡ 0 = size_words a.flash.size a.flash.count r.flash in
    let forms : List (List ℕ) = step_forms e x a.steps.now a.streams.now in
    let ok : AllByRecursion (FitsBlock a.flash.size) forms =
    forms_fit_blocks r.steps.page e a.flash.size x a.steps.now forms r.steps.is_page r.steps.fits r.steps.can (made_forms e (nodes_of x a.steps.now) a.streams.now r.made) in
    let below : i < length a.steps.now = search rules in
    let under : i < length forms = omega (arith, below, many_forms e (nodes_of x a.steps.now) a.streams.now r.made, many_nodes x a.steps.now) in
    let s : Step = c.index-steps-i.result in
    let t : List ℕ = c.as_slice-stream.result.now in
    let is : s ≡ get_or a.steps.now i s = search rules in
    let given : t ≡ get_or a.streams.now i t = search rules in
    let f : List ℕ = form_with e (node_of c.loop-i.log.index s) t in
    let has : f ≡ get_or forms i f =
    ap (λ (w : Indexed). form_with e (node_of w s) t) before.wrote.index
    ∙ (ap (λ (w : Step). form_with e (node_of (advanced_all x (take i a.steps.now)) w) t) is
    ∙ (ap (form_with e (node_of (advanced_all x (take i a.steps.now)) (get_or a.steps.now i s))) given
    ∙ sym (form_at e x a.steps.now a.streams.now i s t f r.made below))) in
    let did = c.in-Ok.ensures.puts in
    let next : suc i ≡ i + 1 = omega arith in
    record {
      within = omega arith;
      wrote = subst (λ (n : ℕ). PutBy e a.flash.size from x (take n a.steps.now) (take n forms) c.put_step.new.log.cursor c.put_step.new.log.index (g.S.Sink.taken a.log.now.sink) (g.S.Sink.taken c.put_step.new.log.sink)
          a.places.now.items c.put_step.new.places.items) next
          (one_more e a.flash.size from x a.steps.now forms i s s f f c.loop-i.log.cursor c.put_step.new.log.cursor c.loop-i.log.index c.put_step.new.log.index
          (g.S.Sink.taken a.log.now.sink) (g.S.Sink.taken c.loop-i.log.sink) (g.S.Sink.taken c.put_step.new.log.sink) a.places.now.items c.loop-i.places.items c.put_step.new.places.items
          below under is has before.wrote did.0);
      none_failed = did.1 ∙ before.none_failed;
      room = omega (arith, before.room, c.put_step.ensures.len, c.put_step.ensures.capacity);
    }

pub bounds-streams-i : goal.bounds-streams-i
bounds-streams-i g c =
    let e = g.E.Order.order in
    let a = c.args in
    let x : Indexed = a.log.now.index in
    let below : c.loop-i.i < length a.steps.now = search rules in
    omega (arith, below, made_many e (nodes_of x a.steps.now) a.streams.now c.requires.made, many_nodes x a.steps.now)

pub returns : goal.returns
returns g c =
    let e = g.E.Order.order in
    let a = c.args in
    let x : Indexed = a.log.now.index in
    let forms : List (List ℕ) = step_forms e x a.steps.now a.streams.now in
    let all : length a.steps.now ≤ c.loop-i.i = search rules in
    let whole : take c.loop-i.i a.steps.now ≡ a.steps.now = take_all c.loop-i.i a.steps.now all in
    let also : take c.loop-i.i forms ≡ forms = take_all c.loop-i.i forms (omega (arith, all, many_forms e (nodes_of x a.steps.now) a.streams.now c.requires.made, many_nodes x a.steps.now)) in
    let wrote : PutBy e a.flash.size a.log.now.cursor x a.steps.now forms c.loop-i.log.cursor c.loop-i.log.index (g.S.Sink.taken a.log.now.sink) (g.S.Sink.taken c.loop-i.log.sink) a.places.now.items c.loop-i.places.items =
    subst (λ (l : List Step). PutBy e a.flash.size a.log.now.cursor x l forms c.loop-i.log.cursor c.loop-i.log.index (g.S.Sink.taken a.log.now.sink) (g.S.Sink.taken c.loop-i.log.sink) a.places.now.items c.loop-i.places.items) whole
    (subst (λ (l : List (List ℕ)). PutBy e a.flash.size a.log.now.cursor x (take c.loop-i.i a.steps.now) l c.loop-i.log.cursor c.loop-i.log.index (g.S.Sink.taken a.log.now.sink) (g.S.Sink.taken c.loop-i.log.sink) a.places.now.items c.loop-i.places.items) also
    c.loop-i.invariant.wrote) in
    (wrote, c.loop-i.invariant.none_failed)
