use Rattle.std.proofs.Common.{◌≡◌, List, subst}
use Rattle.jcompact.specs.Matters.{Placed}
use Rattle.jcompact.specs.Taking.{reached_by}
use Rattle.jhistory.specs.NodeWords.{AreWordsBy, MarksLive, other_word}
use Rattle.jhistory.proofs.WordsLemmas.{words_found}
use Rattle.jhistory.proofs.words.words_of.Goals as goal

pub returns : goal.returns
returns c =
    let s = c.args.mounted.now.state in
    let ns = c.args.nodes.items in
    let unreached = c.in_ok-unreached.unreached in
    let old = c.in_ok-words.words in
    let new = c.mark_live.new.words in
    words_found s ns c.in_ok-kept.kept.items old new unreached c.requires.made c.requires.by_address c.in_ok-unreached.ensures.unreached c.in_ok-unreached.ensures.reached c.in_ok-kept.ensures
    (subst (λ (xs : List Placed). AreWordsBy xs (other_word xs (reached_by s unreached)) old) c.deref.ensures.value c.in_ok-words.ensures)
    (subst (λ (xs : List Placed). MarksLive xs old new) c.deref-2.ensures.value c.in_ok-mark_live.ensures)
