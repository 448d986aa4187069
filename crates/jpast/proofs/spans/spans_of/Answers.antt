use Rattle.std.proofs.Common.{rules, ℕ, ◌≤◌, List, [], ◌∷◌, ◌++◌, length, take, sym, subst}
use Rattle.std.proofs.lemmas.List.{take_all, take_more}
use Rattle.jnode.specs.declared.node.NodeRef.{NodeRef}
use Rattle.jpast.specs.Spans.{HasSpans}
use Rattle.jpast.proofs.SpanLemmas.{nothing_noted}
use Rattle.jpast.proofs.spans.spans_of.Goals as goal

pub loop-node-init : goal.loop-node-init
loop-node-init c = nothing_noted c.new-spans.result (λ q. search rules)

pub loop-node-preserved : goal.loop-node-preserved
loop-node-preserved c =
    let ns = c.args.nodes.now in
    let i = c.loop-node.node-index in
    let x : ℕ × NodeRef = c.node-item.result in
    let more : HasSpans (take i ns ++ x ∷ []) c.note.new.spans = c.in_ok-note.ensures (take i ns) x.0 c.loop-node.invariant in
    subst (λ (xs : List (ℕ × NodeRef)). HasSpans xs c.note.new.spans) (sym (take_more ns i x c.loop-node-test.true))
    (subst (λ (y : ℕ × NodeRef). HasSpans (take i ns ++ y ∷ []) c.note.new.spans) c.node-item.is more)

pub returns : goal.returns
returns c =
    let all : length c.args.nodes.now ≤ c.loop-node.node-index = c.loop-node-test.false in
    subst (λ (xs : List (ℕ × NodeRef)). HasSpans xs c.loop-node.spans) (take_all c.loop-node.node-index c.args.nodes.now all) c.loop-node.invariant
