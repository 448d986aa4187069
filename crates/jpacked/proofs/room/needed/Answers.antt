use Rattle.std.proofs.Common.{rules, ◌≡◌, ◌≤◌, ◌+◌, ◌<◌, List, length, ℕ, take, take_all, get_or, suc, arith, subst, sym, ap, ◌∙◌}
use Rattle.jsteps.specs.Nodes.{Indexed, nodes_of}
use Rattle.jsteps.specs.declared.step.Step.{Step}
use Rattle.jlog.specs.Places.{needed}
use Rattle.jlog.proofs.RoomCode.{len_at}
use Rattle.jlog.proofs.StepLemmas.{pad4_small}
use Rattle.jlog.specs.Running.{node_len}
use Rattle.jpacked.specs.Forms.{form_len, step_forms}
use Rattle.jpacked.proofs.MadeLemmas.{made_many, many_forms, many_nodes, long_at, short_at}
use Rattle.jpacked.proofs.RoomLemmas.{stream_short, needed_more}
use Rattle.jpacked.proofs.room.needed.Goals as goal

pub form_len-requires-clause-step : goal.form_len-requires-clause-step
form_len-requires-clause-step g c =
    let e = g.E.Order.order in
    let a = c.args in
    let r = c.requires in
    let x : Indexed = a._index.now in
    let i : ℕ = c.loop-i.i in
    let below : i < length a.steps.now = search rules in
    let forms : List (List ℕ) = step_forms e x a.steps.now a.streams.now in
    let under : i < length forms = omega (arith, below, many_forms e (nodes_of x a.steps.now) a.streams.now r.made, many_nodes x a.steps.now) in
    let s : Step = c.index-steps-i.result in
    let t : List ℕ = c.as_slice.result.now in
    let is : s ≡ get_or a.steps.now i s = search rules in
    let given : t ≡ get_or a.streams.now i t = search rules in
    let same : form_len s t ≡ form_len (get_or a.steps.now i s) (get_or a.streams.now i t) = ap (λ (w : Step). form_len w t) is ∙ ap (form_len (get_or a.steps.now i s)) given in
    let small : form_len s t ≤ 16452 = omega (arith, same, short_at r.steps.0 e x a.steps.now a.streams.now i s t r.steps.1 r.steps.2 r.made below) in
    let own : node_len s ≤ 16452 = subst (λ (w : Step). node_len w ≤ 16452) (sym is) (len_at r.steps.0 e x a.steps.now i s r.steps.1 r.steps.2 below) in
    omega (arith, own)

pub form_len-requires-clause-stream : goal.form_len-requires-clause-stream
form_len-requires-clause-stream g c =
    let e = g.E.Order.order in
    let a = c.args in
    let r = c.requires in
    let x : Indexed = a._index.now in
    let i : ℕ = c.loop-i.i in
    let below : i < length a.steps.now = search rules in
    let forms : List (List ℕ) = step_forms e x a.steps.now a.streams.now in
    let under : i < length forms = omega (arith, below, many_forms e (nodes_of x a.steps.now) a.streams.now r.made, many_nodes x a.steps.now) in
    let s : Step = c.index-steps-i.result in
    let t : List ℕ = c.as_slice.result.now in
    let is : s ≡ get_or a.steps.now i s = search rules in
    let given : t ≡ get_or a.streams.now i t = search rules in
    let same : form_len s t ≡ form_len (get_or a.steps.now i s) (get_or a.streams.now i t) = ap (λ (w : Step). form_len w t) is ∙ ap (form_len (get_or a.steps.now i s)) given in
    let small : form_len s t ≤ 16452 = omega (arith, same, short_at r.steps.0 e x a.steps.now a.streams.now i s t r.steps.1 r.steps.2 r.made below) in
    omega (arith, stream_short s t 16452 small)

pub overflow_cast-form_len : goal.overflow_cast-form_len
overflow_cast-form_len g c =
    let e = g.E.Order.order in
    let a = c.args in
    let r = c.requires in
    let x : Indexed = a._index.now in
    let i : ℕ = c.loop-i.i in
    let below : i < length a.steps.now = search rules in
    let forms : List (List ℕ) = step_forms e x a.steps.now a.streams.now in
    let under : i < length forms = omega (arith, below, many_forms e (nodes_of x a.steps.now) a.streams.now r.made, many_nodes x a.steps.now) in
    let s : Step = c.index-steps-i.result in
    let t : List ℕ = c.as_slice.result.now in
    let is : s ≡ get_or a.steps.now i s = search rules in
    let given : t ≡ get_or a.streams.now i t = search rules in
    let same : form_len s t ≡ form_len (get_or a.steps.now i s) (get_or a.streams.now i t) = ap (λ (w : Step). form_len w t) is ∙ ap (form_len (get_or a.steps.now i s)) given in
    let small : form_len s t ≤ 16452 = omega (arith, same, short_at r.steps.0 e x a.steps.now a.streams.now i s t r.steps.1 r.steps.2 r.made below) in
    let long : c.form_len.result ≤ 16452 = omega (arith, small, c.form_len.ensures) in
    search (rules, long)

pub overflow_add-sum : goal.overflow_add-sum
overflow_add-sum g c =
    let e = g.E.Order.order in
    let a = c.args in
    let r = c.requires in
    let x : Indexed = a._index.now in
    let i : ℕ = c.loop-i.i in
    let below : i < length a.steps.now = search rules in
    let forms : List (List ℕ) = step_forms e x a.steps.now a.streams.now in
    let under : i < length forms = omega (arith, below, many_forms e (nodes_of x a.steps.now) a.streams.now r.made, many_nodes x a.steps.now) in
    let s : Step = c.index-steps-i.result in
    let t : List ℕ = c.as_slice.result.now in
    let is : s ≡ get_or a.steps.now i s = search rules in
    let given : t ≡ get_or a.streams.now i t = search rules in
    let same : form_len s t ≡ form_len (get_or a.steps.now i s) (get_or a.streams.now i t) = ap (λ (w : Step). form_len w t) is ∙ ap (form_len (get_or a.steps.now i s)) given in
    let small : form_len s t ≤ 16452 = omega (arith, same, short_at r.steps.0 e x a.steps.now a.streams.now i s t r.steps.1 r.steps.2 r.made below) in
    let few : length a.steps.now ≤ 1048577 = r.few in
    let most : c.pad4-sum.result ≤ 16456 = omega (arith, small, c.form_len.ensures, c.pad4-sum.ensures, pad4_small c.form_len.result) in
    let far : c.loop-i.sum + c.pad4-sum.result ≤ 17300000000 = omega (arith, most, few, below, c.loop-i.invariant.small) in
    search (rules, far)

pub loop-i-preserved : goal.loop-i-preserved
loop-i-preserved g c =
    let e = g.E.Order.order in
    let a = c.args in
    let r = c.requires in
    let x : Indexed = a._index.now in
    let i : ℕ = c.loop-i.i in
    let below : i < length a.steps.now = search rules in
    let forms : List (List ℕ) = step_forms e x a.steps.now a.streams.now in
    let under : i < length forms = omega (arith, below, many_forms e (nodes_of x a.steps.now) a.streams.now r.made, many_nodes x a.steps.now) in
    let s : Step = c.index-steps-i.result in
    let t : List ℕ = c.as_slice.result.now in
    let is : s ≡ get_or a.steps.now i s = search rules in
    let given : t ≡ get_or a.streams.now i t = search rules in
    let same : form_len s t ≡ form_len (get_or a.steps.now i s) (get_or a.streams.now i t) = ap (λ (w : Step). form_len w t) is ∙ ap (form_len (get_or a.steps.now i s)) given in
    let small : form_len s t ≤ 16452 = omega (arith, same, short_at r.steps.0 e x a.steps.now a.streams.now i s t r.steps.1 r.steps.2 r.made below) in
    let long : c.form_len.result ≡ length (get_or forms i t) = c.form_len.ensures ∙ (same ∙ sym (long_at e x a.steps.now a.streams.now i s t t r.made below)) in
    let next : suc i ≡ i + 1 = omega arith in
    record {
      within = omega arith;
      sum_is = ap (λ (n : ℕ). c.loop-i.sum + n) c.pad4-sum.ensures ∙ (needed_more forms i t c.loop-i.sum c.form_len.result under c.loop-i.invariant.sum_is long ∙ ap (λ (n : ℕ). needed (take n forms)) next);
      small = omega (arith, small, c.form_len.ensures, c.pad4-sum.ensures, pad4_small c.form_len.result, c.loop-i.invariant.small);
    }

pub returns : goal.returns
returns g c =
    let e = g.E.Order.order in
    let a = c.args in
    let x : Indexed = a._index.now in
    let forms : List (List ℕ) = step_forms e x a.steps.now a.streams.now in
    let all : length forms ≤ c.loop-i.i = omega (arith, many_forms e (nodes_of x a.steps.now) a.streams.now c.requires.made, many_nodes x a.steps.now) in
    c.loop-i.invariant.sum_is ∙ ap needed (take_all c.loop-i.i forms all)

pub bounds-streams-i : goal.bounds-streams-i
bounds-streams-i g c =
    let e = g.E.Order.order in
    let a = c.args in
    let x : Indexed = a._index.now in
    let below : c.loop-i.i < length a.steps.now = search rules in
    omega (arith, below, made_many e (nodes_of x a.steps.now) a.streams.now c.requires.made, many_nodes x a.steps.now)
