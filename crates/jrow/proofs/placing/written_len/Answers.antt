use Rattle.std.proofs.Common.{◌-◌, ◌*◌, ◌<◌, ◌∙◌, ℕ, length, sym, arith}
use Rattle.jscan.specs.Image.{greatest_image}
use Rattle.jrow.proofs.RowCodeLemmas.{address_small, length_small, row_few, some_of}
use Rattle.jrow.proofs.placing.written_len.Goals as goal

pub overflow_cast-last : goal.overflow_cast-last
overflow_cast-last c =
    let flash = c.args.flash.now in
    let few = length_small flash.geometry.block flash.blocks (length flash.row.now) (row_few flash.blocks flash.row.now c.requires.row) in
    omega (arith, few, c.requires.fits, c.requires.small)

pub overflow_add-end : goal.overflow_add-end
overflow_add-end c =
    let flash = c.args.flash.now in
    let last : ℕ = length c.args.written.now - 1 in
    let some : 0 < length c.args.written.now = some_of (length c.args.written.now) (sym c.is_empty.ensures ∙ c.if-is_empty.false) in
    let inside : last < length flash.row.now * flash.geometry.block = omega (arith, some, c.requires.fits) in
    omega (arith, c.address_in-end.ensures, address_small flash.blocks flash.geometry.block last greatest_image flash.row.now c.requires.row inside c.requires.small)
