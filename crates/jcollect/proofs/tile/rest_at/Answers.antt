use Rattle.std.proofs.Common.{◌≡◌, ℕ, ◌-◌, ◌/◌, ◌%◌, ◌≤◌, List, length, take, drop, refl, ap, ◌∙◌, arith}
use Rattle.jscan.specs.Image.{block_of}
use Rattle.jscan.proofs.PartLemmas.{block_length}
use Rattle.jexpand.proofs.SightedLemmas.{size_some, block_begins, rest_is}
use Rattle.jcollect.proofs.NodeLemmas.{node_here}
use Rattle.jcollect.proofs.tile.rest_at.Goals as goal

pub block_at-block-requires-clause-within : goal.block_at-block-requires-clause-within
block_at-block-requires-clause-within g c =
    let size : ℕ = c.args.geometry.block in
    let image : List ℕ = c.args.image.now in
    let least = size_some size c.requires.readable in
    let at = node_here g.E.Order.order size image c.args.addr c.requires.readable c.requires.sighted in
    block_begins size (c.args.addr / size) image (omega arith) at.begins

pub overflow_sub-len : goal.overflow_sub-len
overflow_sub-len g c =
    let size : ℕ = c.args.geometry.block in
    let image : List ℕ = c.args.image.now in
    let at = node_here g.E.Order.order size image c.args.addr c.requires.readable c.requires.sighted in
    let block : c.block_at-block.result ≡ block_of size image (c.args.addr / size) = c.block_at-block.ensures (c.args.addr / size) refl in
    let long : length c.block_at-block.result ≡ size = ap (λ (xs : List ℕ). length xs) block ∙ block_length size image (c.args.addr / size) in
    let within : c.args.addr % size ≤ size = at.within in
    omega (arith, c.len.ensures)

pub slice-requires : goal.slice-requires
slice-requires g c =
    let size : ℕ = c.args.geometry.block in
    let image : List ℕ = c.args.image.now in
    let at = node_here g.E.Order.order size image c.args.addr c.requires.readable c.requires.sighted in
    let block : c.block_at-block.result ≡ block_of size image (c.args.addr / size) = c.block_at-block.ensures (c.args.addr / size) refl in
    let long : length c.block_at-block.result ≡ size = ap (λ (xs : List ℕ). length xs) block ∙ block_length size image (c.args.addr / size) in
    let within : c.args.addr % size ≤ size = at.within in
    omega (arith, c.len.ensures)

pub returns : goal.returns
returns g c =
    let size : ℕ = c.args.geometry.block in
    let image : List ℕ = c.args.image.now in
    let block : c.block_at-block.result ≡ block_of size image (c.args.addr / size) = c.block_at-block.ensures (c.args.addr / size) refl in
    c.slice.ensures ∙ (ap (λ (n : ℕ). take (n - c.args.addr % size) (drop (c.args.addr % size) c.block_at-block.result)) c.len.ensures
    ∙ rest_is size image c.block_at-block.result c.args.addr (c.args.addr % size) block refl)
