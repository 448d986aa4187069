use Rattle.std.proofs.Common.{◌-◌, ◌<◌, ◌≤◌, ⊎_elim, ℕ, rules, arith}
use Rattle.std.proofs.lemmas.Bool.{cases_lt}
use Rattle.jspare.proofs.PagingLemmas.{ended, given, kept_consumed, kept_only, without_pages}
use Rattle.jspare.proofs.source.fill_page.Goals as goal

pub returns-then-not-branch-clause-bytes : goal.returns-then-not-branch-clause-bytes
returns-then-not-branch-clause-bytes g c = (
  kept_only _ _ c.in_ok-reach_page.ensures.kept,
  λ _ _. ended _ _ _ (c.in_ok-reach_page.ensures.end (search rules)),
)

pub returns-clause-bytes : goal.returns-clause-bytes
returns-clause-bytes g c =
    let l = c.args.layout in
    let left : ℕ = c.reach_page.new.left in
    let old = g.S.Source.rest c.reach_page.new.source in
    let new = g.S.Source.rest c.fill.new.self in (
      kept_consumed _ _ _ _ c.in_ok-reach_page.ensures.kept
          (given l left c.in_ok-n.n old new c.fill.new.buf _ (search rules) (search rules) c.in_ok-n.ensures.bytes.0),
      λ none room. ⊎_elim
          (λ (few : left - l.spare < 1).
          without_pages l _ new (c.in_ok-reach_page.ensures.none_left (search rules) (search rules)) (omega arith))
          (λ (some : 1 ≤ left - l.spare). ended l _ new (c.in_ok-n.ensures.bytes.1 none (search rules)))
          (cases_lt (left - l.spare) 1),
    )
