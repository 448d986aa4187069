use Rattle.std.proofs.Common.{ℕ, List, ◌++◌, ap, ◌∙◌, append_assoc}
use Rattle.std.specs.Prelude.{codes, decimal}
use Rattle.jmap.specs.NodeTexts.{entry_numbers, version_text}
use Rattle.jmap.proofs.texts.push_numbers.Goals as goal

pub returns : goal.returns
unfolding entry_numbers
returns c =
    let old : List ℕ = c.args.line.now in
    let d = c.args.entry.now in
    let first : List ℕ = codes " in directory " in
    let number : List ℕ = decimal d.pino in
    let last : List ℕ = version_text d.ino d.version in
    c.push_version.ensures.text
    ∙ ap (λ (l : List ℕ). l ++ last) (c.push_text-2.ensures ∙ ap (λ (l : List ℕ). l ++ codes ", ")
    (c.push_decimal.ensures.text ∙ ap (λ (n : ℕ). c.push_text.new.self ++ decimal n) c.from.ensures ∙ ap (λ (l : List ℕ). l ++ number) c.push_text.ensures))
    ∙ ap (λ (l : List ℕ). (l ++ codes ", ") ++ last) (append_assoc old first number)
    ∙ ap (λ (l : List ℕ). l ++ last) (append_assoc old (first ++ number) (codes ", "))
    ∙ append_assoc old ((first ++ number) ++ codes ", ") last
