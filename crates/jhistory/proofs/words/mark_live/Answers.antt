use Rattle.std.proofs.Common.{◌≡◌, ◌≤◌, List, [], ◌∷◌, ◌++◌, length, take, sym, subst}
use Rattle.std.proofs.lemmas.List.{take_all, take_more}
use Rattle.jcompact.specs.Matters.{Placed}
use Rattle.jhistory.specs.NodeWords.{MarksLive}
use Rattle.jhistory.proofs.WordsLemmas.{mark_more, none_marked}
use Rattle.jhistory.proofs.words.mark_live.Goals as goal

pub loop-node-init : goal.loop-node-init
loop-node-init c = none_marked c.args.words.now

pub loop-node-preserved : goal.loop-node-preserved
loop-node-preserved c =
    let ns = c.args.kept.now in
    let k = c.loop-node.node-index in
    let x : Placed = c.node-item.result in
    subst (λ (xs : List Placed). MarksLive xs c.args.words.now c.insert.new.self) (sym (take_more ns k x c.loop-node-test.true))
    (subst (λ (y : Placed). MarksLive (take k ns ++ y ∷ []) c.args.words.now c.insert.new.self) c.node-item.is
    (mark_more (take k ns) x c.args.words.now c.loop-node.words c.insert.new.self c.loop-node.invariant c.in_ok-insert.ensures.updates.0))

pub returns : goal.returns
returns c =
    let ns = c.args.kept.now in
    let all : length ns ≤ c.loop-node.node-index = c.loop-node-test.false in
    subst (λ (xs : List Placed). MarksLive xs c.args.words.now c.loop-node.words) (take_all c.loop-node.node-index ns all) c.loop-node.invariant
