use Rattle.std.proofs.Common.{◌≡◌, ◌≤◌, ◌∙◌, ◌++◌, ◌∷◌, [], ℕ, List, sym, ap, subst, arith}
use Rattle.jscan.specs.Image.{greatest_image}
use Rattle.jscan.proofs.StreamCounts.{readable_some}
use Rattle.jrow.specs.Row.{blank_blocks, IsRowOf}
use Rattle.jrow.proofs.RowCodeLemmas.{one_more, none_more, block_within, blank_blocks_are_row}
use Rattle.jrow.proofs.row.Row.of.Goals as goal
use Rattle.jrow.proofs.row.Row.of.Goals.{then-is_blank_block+in_ok-push, else-is_blank_block}

pub is_blank_block-requires-clause-small : goal.is_blank_block-requires-clause-small
is_blank_block-requires-clause-small g c =
    let size : ℕ = c.args.geometry.block in
    let some : 4096 ≤ size = readable_some size c.requires.readable in
    omega (arith, some, block_within size c.args.blocks c.loop-block.block greatest_image c.loop-block-test.true c.requires.small)

pub loop-block-preserved : goal.loop-block-preserved
loop-block-preserved g c =
    let e = g.E.Order.order in
    let size : ℕ = c.args.geometry.block in
    let image : List ℕ = c.args.image.now in
    let b : ℕ = c.loop-block.block in
    elim c.if-is_blank_block.branch [
      | then-is_blank_block+in_ok-push w ↦
          ap (λ v. v.items) w.row-is
          ∙ (w.in_ok-push.ensures.items
          ∙ (ap (λ (l : List ℕ). l ++ b ∷ []) c.loop-block.invariant
          ∙ sym (one_more e size b image (sym c.is_blank_block.ensures ∙ w.if-is_blank_block.true))))
      | else-is_blank_block w ↦
          ap (λ v. v.items) w.row-is
          ∙ (c.loop-block.invariant ∙ sym (none_more e size b image (sym c.is_blank_block.ensures ∙ w.if-is_blank_block.false)))
    ]

pub returns-clause-row : goal.returns-clause-row
returns-clause-row g c =
    let e = g.E.Order.order in
    let size : ℕ = c.args.geometry.block in
    let all : c.loop-block.block ≡ c.args.blocks = omega (arith, c.loop-block.auto.block-end, c.loop-block-test.false) in
    subst (IsRowOf c.args.blocks) (sym (c.loop-block.invariant ∙ ap (λ (n : ℕ). blank_blocks e size n c.args.image.now) all))
    (blank_blocks_are_row e size c.args.blocks c.args.image.now)
