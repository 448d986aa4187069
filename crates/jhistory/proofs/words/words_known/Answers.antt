use Rattle.std.proofs.Common.{rules, ◌≡◌, ℕ, ◌<◌, ◌≤◌, List, [], ◌∷◌, ◌++◌, length, take, get_or, sym, ap, subst}
use Rattle.std.specs.Prelude.{Contains}
use Rattle.std.proofs.lemmas.List.{take_all, take_more}
use Rattle.jcompact.specs.Matters.{Placed}
use Rattle.jcompact.specs.Taking.{reached_by}
use Rattle.jhistory.specs.NodeWords.{AreWordsBy, other_word}
use Rattle.jhistory.proofs.WordsLemmas.{before_it, no_words, word_more}
use Rattle.jhistory.proofs.words.words_known.Goals as goal

pub loop-node-init : goal.loop-node-init
loop-node-init c =
    let reached = reached_by c.args.known.now.mounted.now.state c.args.known.now.unreached.now in
    no_words (other_word c.args.nodes.now reached) c.new-words.result (λ a. search rules)

pub loop-node-preserved : goal.loop-node-preserved
loop-node-preserved c =
    let ns = c.args.nodes.now in
    let word = other_word ns (reached_by c.args.known.now.mounted.now.state c.args.known.now.unreached.now) in
    let k = c.loop-node.node-index in
    let x : Placed = c.node-item.result in
    let there : Contains ns x = (k, c.loop-node-test.true, sym c.node-item.is) in
    let lower : (m : Placed) → Contains (take k ns) m → m.0 < x.0 =
    λ m in_it. subst (λ (y : Placed). m.0 < y.0) (sym c.node-item.is) (before_it ns k x c.requires.by_address c.loop-node-test.true m in_it) in
    subst (λ (xs : List Placed). AreWordsBy xs word c.insert.new.self) (sym (take_more ns k x c.loop-node-test.true))
    (subst (λ (y : Placed). AreWordsBy (take k ns ++ y ∷ []) word c.insert.new.self) c.node-item.is
    (word_more word (take k ns) x c.loop-node.words c.insert.new.self _ (c.in_ok-word.ensures ns c.requires.newest c.requires.by_address c.requires.named there)
    c.in_ok-insert.ensures.updates.0 lower c.loop-node.invariant))

pub returns : goal.returns
returns c =
    let ns = c.args.nodes.now in
    let word = other_word ns (reached_by c.args.known.now.mounted.now.state c.args.known.now.unreached.now) in
    let all : length ns ≤ c.loop-node.node-index = c.loop-node-test.false in
    subst (λ (xs : List Placed). AreWordsBy xs word c.loop-node.words) (take_all c.loop-node.node-index ns all) c.loop-node.invariant
