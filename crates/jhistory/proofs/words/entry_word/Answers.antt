use Rattle.std.proofs.Common.{◌≡◌, ◌∙◌, subst}
use Rattle.jhistory.specs.NewestEntries.{IsNewestIf}
use Rattle.jhistory.proofs.NewestLemmas.{never_none, word_found}
use Rattle.jhistory.proofs.words.entry_word.Goals as goal

pub returns-in-Some : goal.returns-in-Some
returns-in-Some c = λ ns has ascending here.
    let is = subst (IsNewestIf ns c.args.entry.now) c.in-Some.is (c.in_ok-top.ensures ns has) in
    c.word_beside.ensures ∙ word_found ns c.args.newest.now c.args.addr c.args.entry.now c.rank.result c.in-Some.top has ascending is here c.rank.ensures

pub returns-in-None : goal.returns-in-None
returns-in-None c = λ ns has ascending here.
    absurd (never_none ns c.args.addr c.args.entry.now (subst (IsNewestIf ns c.args.entry.now) c.in-None.is (c.in_ok-top.ensures ns has)) here)
