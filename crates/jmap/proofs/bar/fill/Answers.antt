use Rattle.std.proofs.Common.{◌≡◌, ◌-◌, ℕ, List, ◌++◌, length, replicate, take, ap, ◌∙◌, arith}
use Rattle.std.proofs.lemmas.List.{take-replicate}
use Rattle.jmap.specs.MapText.{kind_mark}
use Rattle.jmap.proofs.bar.fill.Goals as goal

pub returns : goal.returns
returns c =
    let old : List ℕ = c.args.bar.now in
    let upto : ℕ = c.args.upto in
    let mark : ℕ = kind_mark c.args.kind in
    let more : c.saturating_sub-more.result ≡ upto - length old =
    c.saturating_sub-more.ensures ∙ ap (λ (l : List ℕ). upto - length l) c.as_slice.ensures in
    let short = take-replicate (upto - length old) 50 mark (omega (arith, c.requires.upto)) in
    c.push_text.ensures
    ∙ ap (λ (n : ℕ). old ++ take c.saturating_sub-more.result (replicate 50 n)) c.mark-marks.ensures
    ∙ ap (λ (n : ℕ). old ++ take n (replicate 50 mark)) more
    ∙ ap (λ (l : List ℕ). old ++ l) short
