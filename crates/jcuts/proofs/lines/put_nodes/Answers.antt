use Rattle.std.proofs.Common.{◌≡◌, ℕ, ◌+◌, ◌<◌, List, take, length, get_or, ◌∙◌, sym, subst, arith, ap, take_all, None}
use Rattle.std.specs.Io.KnownBytes.{Appends}
use Rattle.std.proofs.KnownBytes.{Appends-trans}
use Rattle.flashbase.specs.Device.{PutsPart}
use Rattle.jcuts.specs.Lines.{step_nodes, text_of_node, text_of_nodes}
use Rattle.jcuts.specs.declared.standing.Standing.{Standing}
use Rattle.jcuts.specs.declared.lines.StepNode.{StepNode}
use Rattle.jcuts.proofs.StepLemmas.{step_nodes_at, step_nodes_long}
use Rattle.jline.proofs.TurnLemmas.{flat_map-next, item_failed}
use Rattle.jcuts.proofs.lines.put_nodes.Goals as goal

-- a node of the loop is that of its step
abbrev node_at : ℕ → List Standing → ℕ → StepNode
node_at line nodes i = record { line = line; step = i + 1; steps = length nodes; standing = get_or nodes i (record { addr = 0; totlen = 0; stands_from = 0; weak = None }) }

node_at_is : (line : ℕ) (nodes : List Standing) (i : ℕ) → i < length nodes → node_at line nodes i ≡ get_or (step_nodes line (length nodes) 1 nodes) i (node_at line nodes i)
node_at_is line nodes i below =
    let same : 1 + i ≡ i + 1 = omega arith in
    let told : ℕ → StepNode = λ n. record { line = line; step = n; steps = length nodes; standing = get_or nodes i (record { addr = 0; totlen = 0; stands_from = 0; weak = None }) } in
    sym (step_nodes_at line (length nodes) 1 nodes i (node_at line nodes i) (record { addr = 0; totlen = 0; stands_from = 0; weak = None }) below ∙ ap told same)

pub loop-i-preserved : goal.loop-i-preserved
loop-i-preserved g c =
    let line = c.args.line in
    let nodes = c.args.nodes.now in
    let i = c.loop-i.i in
    let inv = c.loop-i.invariant in
    let all = step_nodes line (length nodes) 1 nodes in
    let node = node_at line nodes i in
    let below : i < length all = omega (arith, step_nodes_long line (length nodes) 1 nodes, c.loop-i-test.true) in
    let text = c.as_slice.ensures ∙ c.write_told.ensures in
    let put = c.in_ok-put_text.ensures.puts in
    record {
      within = omega arith;
      put = subst (Appends (g.T.Sink.taken c.args.sink.now) (g.T.Sink.taken c.put_text.new.sink)) (flat_map-next (text_of_node c.args.telling) all i node node below (node_at_is line nodes i c.loop-i-test.true))
          (Appends-trans (g.T.Sink.taken c.args.sink.now) (g.T.Sink.taken c.loop-i.sink) (g.T.Sink.taken c.put_text.new.sink)
          (text_of_nodes c.args.telling (take i all)) (text_of_node c.args.telling node) inv.put
          (subst (λ (l : List ℕ). Appends (g.T.Sink.taken c.loop-i.sink) (g.T.Sink.taken c.put_text.new.sink) l) text put.0));
      failed = put.1 ∙ inv.failed;
    }

pub returns-in_err-put_text : goal.returns-in_err-put_text
returns-in_err-put_text g c =
    let line = c.args.line in
    let nodes = c.args.nodes.now in
    let i = c.loop-i.i in
    let inv = c.loop-i.invariant in
    let all = step_nodes line (length nodes) 1 nodes in
    let node = node_at line nodes i in
    let below : i < length all = omega (arith, step_nodes_long line (length nodes) 1 nodes, c.loop-i-test.true) in
    let text = c.as_slice.ensures ∙ c.write_told.ensures in
    let put = c.in_err-put_text.ensures.puts in
    item_failed (text_of_node c.args.telling) all i node node _ (g.T.Sink.taken c.loop-i.sink) _ _ _ _ _ c.from_residual.ensures.0 below (node_at_is line nodes i c.loop-i-test.true) inv.put inv.failed
    (subst (λ (l : List ℕ). PutsPart (g.T.Sink.taken c.loop-i.sink) (g.T.Sink.taken c.put_text.new.sink) l) text put.0) put.1

pub returns : goal.returns
returns g c =
    let nodes = step_nodes c.args.line (length c.args.nodes.now) 1 c.args.nodes.now in
    let inv = c.loop-i.invariant in
    let all : take c.loop-i.i nodes ≡ nodes = take_all c.loop-i.i nodes (omega (arith, step_nodes_long c.args.line (length c.args.nodes.now) 1 c.args.nodes.now)) in
    (subst (λ (l : List StepNode). Appends (g.T.Sink.taken c.args.sink.now) (g.T.Sink.taken c.loop-i.sink) (text_of_nodes c.args.telling l)) all inv.put, inv.failed)
