use Rattle.std.proofs.Common.{◌≡◌, ℕ, List, ◌++◌, ap, ◌∙◌, append_assoc}
use Rattle.std.specs.Prelude.{codes}
use Rattle.jhistory.specs.HistoryText.{entry_owner, field_text}
use Rattle.jhistory.proofs.fields.push_entry_owner.Goals as goal

pub returns-clause-text : goal.returns-clause-text
unfolding entry_owner
returns-clause-text c =
    let old : List ℕ = c.args.line.now in
    let a : List ℕ = field_text (codes " entry pino ") c.args.entry.now.pino in
    let b : List ℕ = field_text (codes " version ") c.args.entry.now.version in
    let d : List ℕ = field_text (codes " ino ") c.args.entry.now.ino in
    let first : c.push_field.new.line ≡ old ++ a = c.push_field.ensures.text ∙ ap (λ (n : ℕ). old ++ field_text (codes " entry pino ") n) c.from.ensures in
    let then : c.push_field-2.new.line ≡ c.push_field.new.line ++ b = c.push_field-2.ensures.text ∙ ap (λ (n : ℕ). c.push_field.new.line ++ field_text (codes " version ") n) c.from-2.ensures in
    let last : c.push_field-3.new.line ≡ c.push_field-2.new.line ++ d = c.push_field-3.ensures.text ∙ ap (λ (n : ℕ). c.push_field-2.new.line ++ field_text (codes " ino ") n) c.from-3.ensures in
    last ∙ ap (λ (l : List ℕ). l ++ d) (then ∙ ap (λ (l : List ℕ). l ++ b) first)
    ∙ ap (λ (l : List ℕ). l ++ d) (append_assoc old a b)
    ∙ append_assoc old (a ++ b) d
