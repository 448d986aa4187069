use Rattle.std.proofs.Common.{◌≡◌, ℕ, ◌-◌, ◌/◌, ◌%◌, ◌≤◌, List, length, take, drop, refl, sym, ap, subst, ◌∙◌, arith}
use Rattle.jnode.specs.Header.{IsGood}
use Rattle.jnode.specs.Reading.{seen_of, tile_of}
use Rattle.jnode.specs.Compressed.{compressed_of}
use Rattle.jnode.specs.declared.node.Seen.TheVariants.{Compressed}
use Rattle.jscan.specs.Image.{block_of}
use Rattle.jscan.proofs.PartLemmas.{block_length}
use Rattle.jexpand.specs.Expanded.{rest_at}
use Rattle.jexpand.proofs.SightedLemmas.{sighted_at, size_words, size_some, block_begins, rest_is}
use Rattle.jversions.proofs.packed.packed_at.Goals as goal

pub block_at-block-requires-clause-within : goal.block_at-block-requires-clause-within
block_at-block-requires-clause-within g c =
    let size : ℕ = c.args.geometry.block in
    let image : List ℕ = c.args.image.now in
    let least = size_some size c.requires.readable in
    let at = sighted_at g.E.Order.order size image c.args.addr (Compressed c.requires.sighted.0) (size_words size c.requires.readable) c.requires.sighted.1 in
    block_begins size (c.args.addr / size) image (omega arith) at.begins

pub overflow_sub-len : goal.overflow_sub-len
overflow_sub-len g c =
    let size : ℕ = c.args.geometry.block in
    let image : List ℕ = c.args.image.now in
    let at = sighted_at g.E.Order.order size image c.args.addr (Compressed c.requires.sighted.0) (size_words size c.requires.readable) c.requires.sighted.1 in
    let block : c.block_at-block.result ≡ block_of size image (c.args.addr / size) = c.block_at-block.ensures (c.args.addr / size) refl in
    let long : length c.block_at-block.result ≡ size = ap (λ (xs : List ℕ). length xs) block ∙ block_length size image (c.args.addr / size) in
    let within : c.args.addr % size ≤ size = at.within in
    omega (arith, c.len.ensures)

pub slice-requires : goal.slice-requires
slice-requires g c =
    let size : ℕ = c.args.geometry.block in
    let image : List ℕ = c.args.image.now in
    let at = sighted_at g.E.Order.order size image c.args.addr (Compressed c.requires.sighted.0) (size_words size c.requires.readable) c.requires.sighted.1 in
    let block : c.block_at-block.result ≡ block_of size image (c.args.addr / size) = c.block_at-block.ensures (c.args.addr / size) refl in
    let long : length c.block_at-block.result ≡ size = ap (λ (xs : List ℕ). length xs) block ∙ block_length size image (c.args.addr / size) in
    let within : c.args.addr % size ≤ size = at.within in
    omega (arith, c.len.ensures)

pub compressed_fields-requires-clause-good : goal.compressed_fields-requires-clause-good
compressed_fields-requires-clause-good g c =
    let size : ℕ = c.args.geometry.block in
    let image : List ℕ = c.args.image.now in
    let at = sighted_at g.E.Order.order size image c.args.addr (Compressed c.requires.sighted.0) (size_words size c.requires.readable) c.requires.sighted.1 in
    let block : c.block_at-block.result ≡ block_of size image (c.args.addr / size) = c.block_at-block.ensures (c.args.addr / size) refl in
    let rest : c.slice.result ≡ rest_at size image c.args.addr =
    c.slice.ensures ∙ (ap (λ (n : ℕ). take (n - c.args.addr % size) (drop (c.args.addr % size) c.block_at-block.result)) c.len.ensures
    ∙ rest_is size image c.block_at-block.result c.args.addr (c.args.addr % size) block refl) in
    subst (IsGood g.E.Order.order) (sym rest) at.good

pub compressed_fields-requires-clause-words : goal.compressed_fields-requires-clause-words
compressed_fields-requires-clause-words g c =
    let size : ℕ = c.args.geometry.block in
    let image : List ℕ = c.args.image.now in
    let at = sighted_at g.E.Order.order size image c.args.addr (Compressed c.requires.sighted.0) (size_words size c.requires.readable) c.requires.sighted.1 in
    let block : c.block_at-block.result ≡ block_of size image (c.args.addr / size) = c.block_at-block.ensures (c.args.addr / size) refl in
    let rest : c.slice.result ≡ rest_at size image c.args.addr =
    c.slice.ensures ∙ (ap (λ (n : ℕ). take (n - c.args.addr % size) (drop (c.args.addr % size) c.block_at-block.result)) c.len.ensures
    ∙ rest_is size image c.block_at-block.result c.args.addr (c.args.addr % size) block refl) in
    subst (λ (xs : List ℕ). length xs % 4 ≡ 0) (sym rest) at.words

pub compressed_fields-requires-clause-seen : goal.compressed_fields-requires-clause-seen
compressed_fields-requires-clause-seen g c =
    let size : ℕ = c.args.geometry.block in
    let image : List ℕ = c.args.image.now in
    let e = g.E.Order.order in
    let at = sighted_at e size image c.args.addr (Compressed c.requires.sighted.0) (size_words size c.requires.readable) c.requires.sighted.1 in
    let block : c.block_at-block.result ≡ block_of size image (c.args.addr / size) = c.block_at-block.ensures (c.args.addr / size) refl in
    let rest : c.slice.result ≡ rest_at size image c.args.addr =
    c.slice.ensures ∙ (ap (λ (n : ℕ). take (n - c.args.addr % size) (drop (c.args.addr % size) c.block_at-block.result)) c.len.ensures
    ∙ rest_is size image c.block_at-block.result c.args.addr (c.args.addr % size) block refl) in
    (c.requires.sighted.0, ap (λ (xs : List ℕ). seen_of e (tile_of e xs)) rest ∙ sym at.seen)

pub returns : goal.returns
returns g c =
    let size : ℕ = c.args.geometry.block in
    let image : List ℕ = c.args.image.now in
    let e = g.E.Order.order in
    let block : c.block_at-block.result ≡ block_of size image (c.args.addr / size) = c.block_at-block.ensures (c.args.addr / size) refl in
    let rest : c.slice.result ≡ rest_at size image c.args.addr =
    c.slice.ensures ∙ (ap (λ (n : ℕ). take (n - c.args.addr % size) (drop (c.args.addr % size) c.block_at-block.result)) c.len.ensures
    ∙ rest_is size image c.block_at-block.result c.args.addr (c.args.addr % size) block refl) in
    c.compressed_fields.ensures ∙ ap (λ (xs : List ℕ). compressed_of e (tile_of e xs)) rest
