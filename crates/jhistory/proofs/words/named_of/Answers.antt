use Rattle.std.proofs.Common.{◌≡◌, ℕ, ◌≤◌, List, [], ◌∷◌, ◌++◌, length, take, sym, ap, subst}
use Rattle.std.specs.Prelude.{◌&&◌, Contains}
use Rattle.std.specs.BTreeSet.{contains}
use Rattle.std.specs.List.{list_any}
use Rattle.std.specs.Ordering.{nat_cmp}
use Rattle.std.proofs.lemmas.List.{take_all, take_more}
use Rattle.jcompact.specs.Matters.{Placed, is_newest}
use Rattle.jcompact.proofs.KeptLemmas.{none_in}
use Rattle.jhistory.specs.NodeWords.{stands_for}
use Rattle.jhistory.proofs.WordsLemmas.{named_more}
use Rattle.jhistory.proofs.words.named_of.Goals as goal

pub loop-node-init : goal.loop-node-init
loop-node-init c = λ i. none_in nat_cmp c.new-named.result i c.new-named.ensures.empty

pub loop-node-preserved : goal.loop-node-preserved
loop-node-preserved c =
    let ns = c.args.nodes.now in
    let k = c.loop-node.node-index in
    let x : Placed = c.node-item.result in
    let there : Contains ns x = (k, c.loop-node-test.true, sym c.node-item.is) in
    subst (λ (xs : List Placed). (i : ℕ) → contains nat_cmp c.add_named.new.named i ≡ list_any (λ m. is_newest ns m && stands_for i m.1) xs) (sym (take_more ns k x c.loop-node-test.true))
    (subst (λ (y : Placed). (i : ℕ) → contains nat_cmp c.add_named.new.named i ≡ list_any (λ m. is_newest ns m && stands_for i m.1) (take k ns ++ y ∷ [])) c.node-item.is
    (named_more ns (take k ns) x c.loop-node.named c.add_named.new.named (c.in_ok-add_named.ensures ns c.requires there) c.loop-node.invariant))

pub returns : goal.returns
returns c =
    let ns = c.args.nodes.now in
    let all : length ns ≤ c.loop-node.node-index = c.loop-node-test.false in
    subst (λ (xs : List Placed). (i : ℕ) → contains nat_cmp c.loop-node.named i ≡ list_any (λ m. is_newest ns m && stands_for i m.1) xs) (take_all c.loop-node.node-index ns all) c.loop-node.invariant
