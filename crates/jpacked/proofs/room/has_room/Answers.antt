use Rattle.std.proofs.Common.{rules, ◌≡◌, ◌≤◌, ◌+◌, ◌*◌, ◌%◌, ◌<◌, List, length, ℕ, take, take_all, get_or, suc, arith, subst, sym, ap, ◌∙◌, Some, IsTrue}
use Rattle.std.specs.List.{AllByRecursion}
use Rattle.jsteps.specs.Nodes.{Indexed, nodes_of}
use Rattle.jsteps.specs.declared.step.Step.{Step}
use Rattle.jlog.specs.Laws.{FitsBlock}
use Rattle.jlog.specs.Places.{fit, end_of_all, place_within}
use Rattle.jlog.proofs.CodeLemmas.{flash_limits}
use Rattle.jlog.proofs.RoomCode.{len_at}
use Rattle.jlog.proofs.StepLemmas.{pad4_small, size_words}
use Rattle.jlog.specs.Running.{node_len}
use Rattle.jpacked.specs.Forms.{form_len, step_forms}
use Rattle.jpacked.proofs.MadeLemmas.{made_forms, made_many, many_forms, many_nodes, long_at, short_at, forms_fit_blocks}
use Rattle.jpacked.proofs.RoomLemmas.{stream_short, Room, more_room, no_room, first_within}
use Rattle.jpacked.proofs.room.has_room.Goals as goal

pub form_len-len-requires-clause-step : goal.form_len-len-requires-clause-step
form_len-len-requires-clause-step g c =
    let e = g.E.Order.order in
    let a = c.args in
    let r = c.requires in
    let x : Indexed = a._index.now in
    let i : ℕ = c.loop-i.i in
    let below : i < length a.steps.now = search rules in
    let forms : List (List ℕ) = step_forms e x a.steps.now a.streams.now in
    let under : i < length forms = omega (arith, below, many_forms e (nodes_of x a.steps.now) a.streams.now r.made, many_nodes x a.steps.now) in
    let s : Step = c.index-steps-i.result in
    let t : List ℕ = c.as_slice.result.now in
    let is : s ≡ get_or a.steps.now i s = search rules in
    let given : t ≡ get_or a.streams.now i t = search rules in
    let same : form_len s t ≡ form_len (get_or a.steps.now i s) (get_or a.streams.now i t) = ap (λ (w : Step). form_len w t) is ∙ ap (form_len (get_or a.steps.now i s)) given in
    let small : form_len s t ≤ 16452 = omega (arith, same, short_at r.steps.page e x a.steps.now a.streams.now i s t r.steps.is_page r.steps.can r.made below) in
    let own : node_len s ≤ 16452 = subst (λ (w : Step). node_len w ≤ 16452) (sym is) (len_at r.steps.page e x a.steps.now i s r.steps.is_page r.steps.can below) in
    omega (arith, own)

pub form_len-len-requires-clause-stream : goal.form_len-len-requires-clause-stream
form_len-len-requires-clause-stream g c =
    let e = g.E.Order.order in
    let a = c.args in
    let r = c.requires in
    let x : Indexed = a._index.now in
    let i : ℕ = c.loop-i.i in
    let below : i < length a.steps.now = search rules in
    let forms : List (List ℕ) = step_forms e x a.steps.now a.streams.now in
    let under : i < length forms = omega (arith, below, many_forms e (nodes_of x a.steps.now) a.streams.now r.made, many_nodes x a.steps.now) in
    let s : Step = c.index-steps-i.result in
    let t : List ℕ = c.as_slice.result.now in
    let is : s ≡ get_or a.steps.now i s = search rules in
    let given : t ≡ get_or a.streams.now i t = search rules in
    let same : form_len s t ≡ form_len (get_or a.steps.now i s) (get_or a.streams.now i t) = ap (λ (w : Step). form_len w t) is ∙ ap (form_len (get_or a.steps.now i s)) given in
    let small : form_len s t ≤ 16452 = omega (arith, same, short_at r.steps.page e x a.steps.now a.streams.now i s t r.steps.is_page r.steps.can r.made below) in
    omega (arith, stream_short s t 16452 small)

pub overflow_cast-len : goal.overflow_cast-len
overflow_cast-len g c =
    let e = g.E.Order.order in
    let a = c.args in
    let r = c.requires in
    let x : Indexed = a._index.now in
    let i : ℕ = c.loop-i.i in
    let below : i < length a.steps.now = search rules in
    let forms : List (List ℕ) = step_forms e x a.steps.now a.streams.now in
    let under : i < length forms = omega (arith, below, many_forms e (nodes_of x a.steps.now) a.streams.now r.made, many_nodes x a.steps.now) in
    let s : Step = c.index-steps-i.result in
    let t : List ℕ = c.as_slice.result.now in
    let is : s ≡ get_or a.steps.now i s = search rules in
    let given : t ≡ get_or a.streams.now i t = search rules in
    let same : form_len s t ≡ form_len (get_or a.steps.now i s) (get_or a.streams.now i t) = ap (λ (w : Step). form_len w t) is ∙ ap (form_len (get_or a.steps.now i s)) given in
    let small : form_len s t ≤ 16452 = omega (arith, same, short_at r.steps.page e x a.steps.now a.streams.now i s t r.steps.is_page r.steps.can r.made below) in
    let long : c.form_len-len.result ≤ 16452 = omega (arith, small, c.form_len-len.ensures) in
    search (rules, long)

pub place_of-requires-clause-from : goal.place_of-requires-clause-from
place_of-requires-clause-from g c =
    let e = g.E.Order.order in
    let a = c.args in
    let r = c.requires in
    let x : Indexed = a._index.now in
    let i : ℕ = c.loop-i.i in
    let below : i < length a.steps.now = search rules in
    let forms : List (List ℕ) = step_forms e x a.steps.now a.streams.now in
    let under : i < length forms = omega (arith, below, many_forms e (nodes_of x a.steps.now) a.streams.now r.made, many_nodes x a.steps.now) in
    let s : Step = c.index-steps-i.result in
    let t : List ℕ = c.as_slice.result.now in
    let is : s ≡ get_or a.steps.now i s = search rules in
    let given : t ≡ get_or a.streams.now i t = search rules in
    let same : form_len s t ≡ form_len (get_or a.steps.now i s) (get_or a.streams.now i t) = ap (λ (w : Step). form_len w t) is ∙ ap (form_len (get_or a.steps.now i s)) given in
    let small : form_len s t ≤ 16452 = omega (arith, same, short_at r.steps.page e x a.steps.now a.streams.now i s t r.steps.is_page r.steps.can r.made below) in
    let words : a.flash.size % 4 ≡ 0 = size_words a.flash.size a.flash.count r.flash in
    let ok : AllByRecursion (FitsBlock a.flash.size) forms =
    forms_fit_blocks r.steps.page e a.flash.size x a.steps.now forms r.steps.is_page r.steps.fits r.steps.can (made_forms e (nodes_of x a.steps.now) a.streams.now r.made) in
    let ends = first_within a.flash.size a.flash.count a.cursor forms i words ok r.within r.word c.loop-i.invariant.fits in
    omega (arith, ends.0, c.loop-i.invariant.end_is)

pub place_of-requires-clause-word : goal.place_of-requires-clause-word
place_of-requires-clause-word g c =
    let e = g.E.Order.order in
    let a = c.args in
    let r = c.requires in
    let x : Indexed = a._index.now in
    let i : ℕ = c.loop-i.i in
    let below : i < length a.steps.now = search rules in
    let forms : List (List ℕ) = step_forms e x a.steps.now a.streams.now in
    let under : i < length forms = omega (arith, below, many_forms e (nodes_of x a.steps.now) a.streams.now r.made, many_nodes x a.steps.now) in
    let s : Step = c.index-steps-i.result in
    let t : List ℕ = c.as_slice.result.now in
    let is : s ≡ get_or a.steps.now i s = search rules in
    let given : t ≡ get_or a.streams.now i t = search rules in
    let same : form_len s t ≡ form_len (get_or a.steps.now i s) (get_or a.streams.now i t) = ap (λ (w : Step). form_len w t) is ∙ ap (form_len (get_or a.steps.now i s)) given in
    let small : form_len s t ≤ 16452 = omega (arith, same, short_at r.steps.page e x a.steps.now a.streams.now i s t r.steps.is_page r.steps.can r.made below) in
    let words : a.flash.size % 4 ≡ 0 = size_words a.flash.size a.flash.count r.flash in
    let ok : AllByRecursion (FitsBlock a.flash.size) forms =
    forms_fit_blocks r.steps.page e a.flash.size x a.steps.now forms r.steps.is_page r.steps.fits r.steps.can (made_forms e (nodes_of x a.steps.now) a.streams.now r.made) in
    let ends = first_within a.flash.size a.flash.count a.cursor forms i words ok r.within r.word c.loop-i.invariant.fits in
    omega (arith, ends.1, c.loop-i.invariant.end_is)

pub place_of-requires-clause-len : goal.place_of-requires-clause-len
place_of-requires-clause-len g c =
    let e = g.E.Order.order in
    let a = c.args in
    let r = c.requires in
    let x : Indexed = a._index.now in
    let i : ℕ = c.loop-i.i in
    let below : i < length a.steps.now = search rules in
    let forms : List (List ℕ) = step_forms e x a.steps.now a.streams.now in
    let under : i < length forms = omega (arith, below, many_forms e (nodes_of x a.steps.now) a.streams.now r.made, many_nodes x a.steps.now) in
    let s : Step = c.index-steps-i.result in
    let t : List ℕ = c.as_slice.result.now in
    let is : s ≡ get_or a.steps.now i s = search rules in
    let given : t ≡ get_or a.streams.now i t = search rules in
    let same : form_len s t ≡ form_len (get_or a.steps.now i s) (get_or a.streams.now i t) = ap (λ (w : Step). form_len w t) is ∙ ap (form_len (get_or a.steps.now i s)) given in
    let small : form_len s t ≤ 16452 = omega (arith, same, short_at r.steps.page e x a.steps.now a.streams.now i s t r.steps.is_page r.steps.can r.made below) in
    omega (arith, small, c.form_len-len.ensures)

pub overflow_cast-end : goal.overflow_cast-end
overflow_cast-end g c =
    let e = g.E.Order.order in
    let a = c.args in
    let r = c.requires in
    let x : Indexed = a._index.now in
    let i : ℕ = c.loop-i.i in
    let below : i < length a.steps.now = search rules in
    let forms : List (List ℕ) = step_forms e x a.steps.now a.streams.now in
    let under : i < length forms = omega (arith, below, many_forms e (nodes_of x a.steps.now) a.streams.now r.made, many_nodes x a.steps.now) in
    let s : Step = c.index-steps-i.result in
    let t : List ℕ = c.as_slice.result.now in
    let is : s ≡ get_or a.steps.now i s = search rules in
    let given : t ≡ get_or a.streams.now i t = search rules in
    let same : form_len s t ≡ form_len (get_or a.steps.now i s) (get_or a.streams.now i t) = ap (λ (w : Step). form_len w t) is ∙ ap (form_len (get_or a.steps.now i s)) given in
    let small : form_len s t ≤ 16452 = omega (arith, same, short_at r.steps.page e x a.steps.now a.streams.now i s t r.steps.is_page r.steps.can r.made below) in
    let long : c.pad4.result ≤ 16455 = omega (arith, small, c.form_len-len.ensures, c.pad4.ensures, pad4_small c.form_len-len.result) in
    search (rules, long)

pub overflow_add-end : goal.overflow_add-end
overflow_add-end g c =
    let e = g.E.Order.order in
    let a = c.args in
    let r = c.requires in
    let x : Indexed = a._index.now in
    let i : ℕ = c.loop-i.i in
    let below : i < length a.steps.now = search rules in
    let forms : List (List ℕ) = step_forms e x a.steps.now a.streams.now in
    let under : i < length forms = omega (arith, below, many_forms e (nodes_of x a.steps.now) a.streams.now r.made, many_nodes x a.steps.now) in
    let s : Step = c.index-steps-i.result in
    let t : List ℕ = c.as_slice.result.now in
    let is : s ≡ get_or a.steps.now i s = search rules in
    let given : t ≡ get_or a.streams.now i t = search rules in
    let same : form_len s t ≡ form_len (get_or a.steps.now i s) (get_or a.streams.now i t) = ap (λ (w : Step). form_len w t) is ∙ ap (form_len (get_or a.steps.now i s)) given in
    let small : form_len s t ≤ 16452 = omega (arith, same, short_at r.steps.page e x a.steps.now a.streams.now i s t r.steps.is_page r.steps.can r.made below) in
    let long : c.form_len-len.result ≡ length (get_or forms i t) = c.form_len-len.ensures ∙ (same ∙ sym (long_at e x a.steps.now a.streams.now i s t t r.made below)) in
    let found : place_within a.flash.size a.flash.count c.loop-i.end c.form_len-len.result ≡ Some c.in-Some.at = sym c.place_of.ensures ∙ c.in-Some.is in
    let room : Room a.flash.size a.flash.count a.cursor forms i c.in-Some.at c.form_len-len.result =
    more_room a.flash.size a.flash.count a.cursor forms i t c.loop-i.end c.in-Some.at c.form_len-len.result under c.loop-i.invariant.end_is c.loop-i.invariant.fits long found in
    let limit : a.flash.count * a.flash.size ≤ 268435456 = (flash_limits a.flash.size a.flash.count r.flash).small in
    let far : c.in-Some.at + c.pad4.result ≤ 300000000 = omega (arith, room.within, limit, c.pad4.ensures, pad4_small c.form_len-len.result) in
    search (rules, far)

pub returns-in-None : goal.returns-in-None
returns-in-None g c =
    let e = g.E.Order.order in
    let a = c.args in
    let r = c.requires in
    let x : Indexed = a._index.now in
    let i : ℕ = c.loop-i.i in
    let below : i < length a.steps.now = search rules in
    let forms : List (List ℕ) = step_forms e x a.steps.now a.streams.now in
    let under : i < length forms = omega (arith, below, many_forms e (nodes_of x a.steps.now) a.streams.now r.made, many_nodes x a.steps.now) in
    let s : Step = c.index-steps-i.result in
    let t : List ℕ = c.as_slice.result.now in
    let is : s ≡ get_or a.steps.now i s = search rules in
    let given : t ≡ get_or a.streams.now i t = search rules in
    let same : form_len s t ≡ form_len (get_or a.steps.now i s) (get_or a.streams.now i t) = ap (λ (w : Step). form_len w t) is ∙ ap (form_len (get_or a.steps.now i s)) given in
    let small : form_len s t ≤ 16452 = omega (arith, same, short_at r.steps.page e x a.steps.now a.streams.now i s t r.steps.is_page r.steps.can r.made below) in
    let long : c.form_len-len.result ≡ length (get_or forms i t) = c.form_len-len.ensures ∙ (same ∙ sym (long_at e x a.steps.now a.streams.now i s t t r.made below)) in
    no_room a.flash.size a.flash.count a.cursor forms i t c.loop-i.end c.form_len-len.result under c.loop-i.invariant.end_is long (sym c.place_of.ensures ∙ c.in-None.is)

pub loop-i-preserved : goal.loop-i-preserved
loop-i-preserved g c =
    let e = g.E.Order.order in
    let a = c.args in
    let r = c.requires in
    let x : Indexed = a._index.now in
    let i : ℕ = c.loop-i.i in
    let below : i < length a.steps.now = search rules in
    let forms : List (List ℕ) = step_forms e x a.steps.now a.streams.now in
    let under : i < length forms = omega (arith, below, many_forms e (nodes_of x a.steps.now) a.streams.now r.made, many_nodes x a.steps.now) in
    let s : Step = c.index-steps-i.result in
    let t : List ℕ = c.as_slice.result.now in
    let is : s ≡ get_or a.steps.now i s = search rules in
    let given : t ≡ get_or a.streams.now i t = search rules in
    let same : form_len s t ≡ form_len (get_or a.steps.now i s) (get_or a.streams.now i t) = ap (λ (w : Step). form_len w t) is ∙ ap (form_len (get_or a.steps.now i s)) given in
    let small : form_len s t ≤ 16452 = omega (arith, same, short_at r.steps.page e x a.steps.now a.streams.now i s t r.steps.is_page r.steps.can r.made below) in
    let long : c.form_len-len.result ≡ length (get_or forms i t) = c.form_len-len.ensures ∙ (same ∙ sym (long_at e x a.steps.now a.streams.now i s t t r.made below)) in
    let found : place_within a.flash.size a.flash.count c.loop-i.end c.form_len-len.result ≡ Some c.in-Some.at = sym c.place_of.ensures ∙ c.in-Some.is in
    let room : Room a.flash.size a.flash.count a.cursor forms i c.in-Some.at c.form_len-len.result =
    more_room a.flash.size a.flash.count a.cursor forms i t c.loop-i.end c.in-Some.at c.form_len-len.result under c.loop-i.invariant.end_is c.loop-i.invariant.fits long found in
    let next : suc i ≡ i + 1 = omega arith in
    record {
      within = omega arith;
      end_is = ap (λ (n : ℕ). c.in-Some.at + n) c.pad4.ensures ∙ (room.end ∙ ap (λ (n : ℕ). end_of_all a.flash.size a.cursor (take n forms)) next);
      fits = subst (λ (n : ℕ). IsTrue (fit a.flash.size a.flash.count a.cursor (take n forms))) next room.fits;
    }

pub returns : goal.returns
returns g c =
    let e = g.E.Order.order in
    let a = c.args in
    let x : Indexed = a._index.now in
    let forms : List (List ℕ) = step_forms e x a.steps.now a.streams.now in
    let all : length forms ≤ c.loop-i.i = omega (arith, many_forms e (nodes_of x a.steps.now) a.streams.now c.requires.made, many_nodes x a.steps.now) in
    sym (subst (λ (l : List (List ℕ)). IsTrue (fit a.flash.size a.flash.count a.cursor l)) (take_all c.loop-i.i forms all) c.loop-i.invariant.fits)

pub bounds-streams-i : goal.bounds-streams-i
bounds-streams-i g c =
    let e = g.E.Order.order in
    let a = c.args in
    let x : Indexed = a._index.now in
    let below : c.loop-i.i < length a.steps.now = search rules in
    omega (arith, below, made_many e (nodes_of x a.steps.now) a.streams.now c.requires.made, many_nodes x a.steps.now)
