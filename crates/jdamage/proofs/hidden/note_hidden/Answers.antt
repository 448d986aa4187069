use Rattle.std.proofs.Common.{◌≡◌, ℕ, List, sym, ap, ◌∙◌}
use Rattle.jdamage.specs.Damage.{changes_nothing}
use Rattle.jgaps.specs.Fields.{stretch_at}
use Rattle.jdamage.proofs.HiddenLemmas.{judged, noted_yes, noted_no}
use Rattle.jdamage.proofs.hidden.note_hidden.Goals as goal

pub returns-in_ok-insert : goal.returns-in_ok-insert
returns-in_ok-insert g c = λ all spots left t low ends there.
    let lost = stretch_at g.E.Order.order c.args.mounted.now.image c.args.addr in
    let same : c.stretch_at-node.result ≡ lost = c.stretch_at-node.ensures ∙ ap (λ (im : List ℕ). stretch_at g.E.Order.order im c.args.addr) c.image.ensures in
    let is = judged c.args.mounted.now.state c.stretch_at-node.result lost c.size_at.result all left spots c.args.bare.now c.args.numbers.now c.hides_nothing.result same c.size_at.ensures
    (c.hides_nothing.ensures all spots left) t low ends there in
    noted_yes c.args.hidden.now c.insert.new.self c.args.addr (changes_nothing c.args.mounted.now.state all lost) (sym is ∙ c.if-hides_nothing.true) c.in_ok-insert.ensures.updates.0

pub returns-else-hides_nothing : goal.returns-else-hides_nothing
returns-else-hides_nothing g c = λ all spots left t low ends there.
    let lost = stretch_at g.E.Order.order c.args.mounted.now.image c.args.addr in
    let same : c.stretch_at-node.result ≡ lost = c.stretch_at-node.ensures ∙ ap (λ (im : List ℕ). stretch_at g.E.Order.order im c.args.addr) c.image.ensures in
    let is = judged c.args.mounted.now.state c.stretch_at-node.result lost c.size_at.result all left spots c.args.bare.now c.args.numbers.now c.hides_nothing.result same c.size_at.ensures
    (c.hides_nothing.ensures all spots left) t low ends there in
    noted_no c.args.hidden.now c.args.addr (changes_nothing c.args.mounted.now.state all lost) (sym is ∙ c.if-hides_nothing.false)
