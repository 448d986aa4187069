use Rattle.std.proofs.Common.{◌≡◌, ◌-◌, ℕ, length, take, drop, inl, inr, sym, ap, ◌∙◌, arith, length-drop}
use Rattle.std.proofs.lemmas.Bool.{cases_Bool, both_ways}
use Rattle.std.proofs.lemmas.List.{length-take-le, take_all}
use Rattle.flashbase.specs.Bytes.{erased}
use Rattle.jscan.proofs.BlankCalls.{marked_parts, marked_front, marked_rest}
use Rattle.jscan.proofs.blank.is_marked.Goals as goal

pub returns-then-begins_with : goal.returns-then-begins_with
returns-then-begins_with c =
    let n = c.args.len in
    let block = c.args.block.now in
    let front = take n c.args.marker.now in
    let long : length front ≡ n = length-take-le n c.args.marker.now c.requires.short in
    let first : take n block ≡ front = sym (ap (λ (k : ℕ). take k block) long) ∙ c.begins_with.ensures.0 c.if-begins_with.true in
    let rest : c.slice.result ≡ drop n block =
    c.slice.ensures ∙ take_all _ (drop n block) (omega (arith, length-drop n block, c.len.ensures)) in
    let size : length c.slice.result ≡ length block - n = ap length rest ∙ length-drop n block in
    elim (cases_Bool c.is_erased.result) [
      | inl t ↦ t ∙ sym (marked_parts block front n long first (sym rest ∙ c.is_erased.ensures.0 t ∙ ap erased size))
      | inr f ↦ f ∙ sym (marked_rest block front n long (λ same. both_ways _ f (c.is_erased.ensures.1 (rest ∙ same ∙ sym (ap erased size)))))
    ]

pub returns-else-begins_with : goal.returns-else-begins_with
returns-else-begins_with c =
    let n = c.args.len in
    let block = c.args.block.now in
    let front = take n c.args.marker.now in
    let long : length front ≡ n = length-take-le n c.args.marker.now c.requires.short in
    c.if-begins_with.false
    ∙ sym (marked_front block front n long (λ same. both_ways _ c.if-begins_with.false (c.begins_with.ensures.1 (ap (λ (k : ℕ). take k block) long ∙ same))))
