use Rattle.std.proofs.Common.{◌≤◌, ◌∙◌, ◌++◌, [], ℕ, List, Option, sym, ap₂, arith}
use Rattle.std.specs.List.{cons_option}
use Rattle.jscan.specs.Image.{greatest_image, block_of}
use Rattle.jscan.proofs.StreamCounts.{readable_some}
use Rattle.jrow.proofs.RowCodeLemmas.{block_within}
use Rattle.jrests.specs.Begun.{rest_of}
use Rattle.jrests.specs.Openings.{opening_at}
use Rattle.jrests.specs.declared.opening.Opening.{Opening}
use Rattle.jrests.proofs.OpeningLemmas.{next_block}
use Rattle.jrests.proofs.opening.rests_of.Goals as goal

pub rest_in-requires-clause-small : goal.rest_in-requires-clause-small
rest_in-requires-clause-small g c =
    let size : ℕ = c.args.geometry.block in
    let some : 4096 ≤ size = readable_some size c.requires.readable in
    omega (arith, some, block_within size c.args.blocks c.loop-block.block greatest_image c.loop-block-test.true c.requires.small)

pub loop-block-preserved : goal.loop-block-preserved
loop-block-preserved g c =
    let e = g.E.Order.order in
    let size : ℕ = c.args.geometry.block in
    let image : List ℕ = c.args.image.now in
    let b : ℕ = c.loop-block.block in
    c.in_ok-note.ensures
    ∙ (ap₂ (λ (l : List Opening) (o : Option ℕ). l ++ cons_option (opening_at b o) []) c.loop-block.invariant c.rest_in.ensures
    ∙ sym (next_block (λ k. rest_of e size (block_of size image k)) b))
