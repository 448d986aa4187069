use Rattle.std.proofs.Common.{rules, ◌≡◌, ◌≤◌, List, [], ◌∷◌, ◌++◌, length, take, sym, subst}
use Rattle.std.proofs.lemmas.List.{take_all, take_more}
use Rattle.jcompact.specs.Matters.{Placed}
use Rattle.jhistory.specs.NewestEntries.{HasNewest}
use Rattle.jhistory.proofs.NewestLemmas.{nothing_noted}
use Rattle.jhistory.proofs.newest.newest_of.Goals as goal

pub loop-node-init : goal.loop-node-init
loop-node-init c = nothing_noted c.new-newest.result (λ q. search rules)

pub loop-node-preserved : goal.loop-node-preserved
loop-node-preserved c =
    let ns = c.args.nodes.now in
    let i = c.loop-node.node-index in
    let x : Placed = c.node-item.result in
    let more : HasNewest (take i ns ++ x ∷ []) c.note.new.newest = c.in_ok-note.ensures (take i ns) c.loop-node.invariant in
    subst (λ (xs : List Placed). HasNewest xs c.note.new.newest) (sym (take_more ns i x c.loop-node-test.true))
    (subst (λ (y : Placed). HasNewest (take i ns ++ y ∷ []) c.note.new.newest) c.node-item.is more)

pub returns : goal.returns
returns c =
    let all : length c.args.nodes.now ≤ c.loop-node.node-index = c.loop-node-test.false in
    subst (λ (xs : List Placed). HasNewest xs c.loop-node.newest) (take_all c.loop-node.node-index c.args.nodes.now all) c.loop-node.invariant
