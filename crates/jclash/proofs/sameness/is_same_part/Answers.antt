use Rattle.std.proofs.Common.{◌≡◌, ℕ, ◌-◌, ◌++◌, length, List, Bool, take, ap, sym, subst, ◌∙◌, IsTrue, ◌↔◌}
use Rattle.std.specs.Str.{bytes_eq}
use Rattle.std.proofs.Math.Seq.{take-append_seam}
use Rattle.std.proofs.lemmas.Slice.Eq.{bytes_eq-Decides}
use Rattle.flashbase.specs.Bytes.{erased}
use Rattle.jclash.proofs.sameness.is_same_part.Goals as goal

-- of parts as long as each other, those whose bytes that are there are as long as each other
tested : (a b here there : List ℕ) → length a ≡ length b → length here ≡ length there → a ≡ here ++ erased (length a - length here) → b ≡ there ++ erased (length b - length there)
    → IsTrue (bytes_eq here there) ↔ (a ≡ b)
tested a b here there len present_len is_a is_b = (
  λ h. is_a ∙ (λ i. (bytes_eq-Decides here there).0 h i ++ erased (len i - present_len i)) ∙ sym is_b,
  λ (same : a ≡ b). (bytes_eq-Decides here there).1
      (sym (take-append_seam here (erased (length a - length here))) ∙ ap (take (length here)) (sym is_a ∙ same ∙ is_b)
      ∙ ap (λ n. take n (there ++ erased (length b - length there))) present_len ∙ take-append_seam there (erased (length b - length there))),
)

pub returns-then-here-there : goal.returns-then-here-there
returns-then-here-there c =
    let same_len : length c.args.a.now ≡ length c.args.b.now = sym c.len.ensures ∙ c.if-len.false ∙ c.len-2.ensures in
    subst (λ (b : Bool). IsTrue b ↔ (c.args.a.now ≡ c.args.b.now)) (sym c.eq.ensures)
    (tested c.args.a.now c.args.b.now c.present-here.result.now c.present-there.result.now same_len c.if-here-there.true c.present-here.ensures c.present-there.ensures)
