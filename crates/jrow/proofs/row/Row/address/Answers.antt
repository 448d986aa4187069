use Rattle.std.proofs.Common.{arith, length}
use Rattle.jrow.proofs.RowCodeLemmas.{row_few, behind_start}
use Rattle.jrow.proofs.row.Row.address.Goals as goal

pub address_in-requires-clause-inside : goal.address_in-requires-clause-inside
address_in-requires-clause-inside c =
    omega (
      arith,
      c.start-start.ensures,
      c.if-start-at.true,
      c.if-at-blocks.true,
      behind_start c.args.geometry.block c.args.blocks (length c.args.self.now) c.args.at (row_few c.args.blocks c.args.self.now c.requires.row)
          (omega (arith, c.start-start.ensures, c.if-start-at.true)) c.if-at-blocks.true,
    )
