use Rattle.std.proofs.Common.{◌≡◌, ◌==◌, false, sym, ◌∙◌, refl, arith}
use Rattle.std.proofs.lemmas.Bool.{ne_eqb}
use Rattle.jnode.specs.Header.{nodetype_of}
use Rattle.jnode.specs.Weak.{stored_at}
use Rattle.jnode.proofs.WholeLemmas.{whole_size, whole_stored_cuts, written_is_whole}
use Rattle.jnode.proofs.weak.stored_at.Goals as goal

pub u16_at-requires : goal.u16_at-requires
u16_at-requires g c =
    let size = whole_size g.E.Order.order c.args.bytes.now (written_is_whole g.E.Order.order c.args.bytes.now c.requires) in
    let least = size.least in
    omega arith

pub returns-then-u16_at-eq-INODE-clause-within : goal.returns-then-u16_at-eq-INODE-clause-within
returns-then-u16_at-eq-INODE-clause-within g c =
    let e = g.E.Order.order in
    let xs = c.args.bytes.now in
    let kind : nodetype_of e xs ≡ 0xE002 = sym c.u16_at.ensures ∙ c.if-u16_at-eq-INODE.true in
    let at : stored_at e xs ≡ 68 = rw kind refl in
    let within = (whole_stored_cuts e xs (written_is_whole e xs c.requires)).within in
    omega arith

pub returns-else-u16_at-eq-INODE-clause-within : goal.returns-else-u16_at-eq-INODE-clause-within
returns-else-u16_at-eq-INODE-clause-within g c =
    let e = g.E.Order.order in
    let xs = c.args.bytes.now in
    let kind : (nodetype_of e xs == 0xE002) ≡ false = ne_eqb _ _ (λ is. c.if-u16_at-eq-INODE.false (c.u16_at.ensures ∙ is)) in
    let at : stored_at e xs ≡ 40 = rw kind refl in
    let within = (whole_stored_cuts e xs (written_is_whole e xs c.requires)).within in
    omega arith
