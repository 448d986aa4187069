use Rattle.std.proofs.Common.{◌≡◌, ℕ, ap, ◌∙◌, subst}
use Rattle.std.specs.Prelude.{◌==◌}
use Rattle.jhistory.specs.NewestEntries.{IsNewestIf}
use Rattle.jhistory.proofs.NewestLemmas.{never_none, newest_told}
use Rattle.jhistory.proofs.newest.is_newest.Goals as goal

pub returns-in-Some : goal.returns-in-Some
returns-in-Some c = λ ns has here.
    let is = subst (IsNewestIf ns c.args.entry.now) c.in-Some.is (c.in_ok-top.ensures ns has) in
    ap (λ (k : ℕ). c.in-Some.top.0 == k) c.rank.ensures ∙ newest_told ns has.small c.args.entry.now c.in-Some.top is c.args.addr here

pub returns-in-None : goal.returns-in-None
returns-in-None c = λ ns has here.
    absurd (never_none ns c.args.addr c.args.entry.now (subst (IsNewestIf ns c.args.entry.now) c.in-None.is (c.in_ok-top.ensures ns has)) here)
