use Rattle.std.proofs.Common.{◌≡◌, ℕ, List, ◌++◌, ap, ◌∙◌, append_assoc}
use Rattle.std.specs.Prelude.{codes}
use Rattle.jhistory.specs.HistoryText.{field_text, inode_version}
use Rattle.jhistory.proofs.fields.push_version.Goals as goal

pub returns-clause-text : goal.returns-clause-text
unfolding inode_version
returns-clause-text c =
    let old : List ℕ = c.args.line.now in
    let a : List ℕ = field_text (codes " inode ino ") c.args.node.now.ino in
    let b : List ℕ = field_text (codes " version ") c.args.node.now.version in
    let first : c.push_field.new.line ≡ old ++ a = c.push_field.ensures.text ∙ ap (λ (n : ℕ). old ++ field_text (codes " inode ino ") n) c.from.ensures in
    let then : c.push_field-2.new.line ≡ c.push_field.new.line ++ b = c.push_field-2.ensures.text ∙ ap (λ (n : ℕ). c.push_field.new.line ++ field_text (codes " version ") n) c.from-2.ensures in
    then ∙ ap (λ (l : List ℕ). l ++ b) first ∙ append_assoc old a b
