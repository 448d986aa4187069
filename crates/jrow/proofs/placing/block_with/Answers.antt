use Rattle.std.proofs.Common.{◌≡◌, ◌<◌, ◌≤◌, ◌∙◌, ℕ, Some, sym, arith}
use Rattle.jscan.specs.Image.{greatest_image}
use Rattle.jscan.proofs.StreamCounts.{readable_some}
use Rattle.jrow.specs.RowLeft.{index_in}
use Rattle.jrow.proofs.RowCodeLemmas.{block_within, few_fit, index_small, row_few}
use Rattle.jrow.proofs.placing.block_with.Goals as goal

pub overflow_cast-index : goal.overflow_cast-index
overflow_cast-index c =
    let flash = c.args.flash.now in
    let there : index_in flash.row.now c.args.block ≡ Some c.in-Some.index = sym c.index_of.ensures ∙ c.in-Some.is in
    let some : 4096 ≤ flash.geometry.block = readable_some flash.geometry.block c.requires.readable in
    omega (
      arith,
      index_small flash.row.now c.args.block c.in-Some.index there,
      row_few flash.blocks flash.row.now c.requires.row,
      few_fit flash.geometry.block flash.blocks greatest_image (omega (arith, some)) c.requires.small,
    )

pub block_part-requires-clause-small : goal.block_part-requires-clause-small
block_part-requires-clause-small c =
    let flash = c.args.flash.now in
    let size : ℕ = flash.geometry.block in
    let j : ℕ = c.in-Some.index in
    let there : index_in flash.row.now c.args.block ≡ Some j = sym c.index_of.ensures ∙ c.in-Some.is in
    let few : j < flash.blocks = omega (arith, index_small flash.row.now c.args.block j there, row_few flash.blocks flash.row.now c.requires.row) in
    let some : 4096 ≤ size = readable_some size c.requires.readable in
    omega (arith, some, block_within size flash.blocks j greatest_image few c.requires.small)
