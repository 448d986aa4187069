use Rattle.std.proofs.Common.{◌≡◌, ◌+◌, ◌≤◌, ℕ, List, length, take, arith, sym, subst, ap, ◌∙◌}
use Rattle.flashbase.specs.Bytes.{pad4_of}
use Rattle.flashbase.proofs.BytesLemmas.{pad4_least}
use Rattle.jnode.specs.Reading.{inode_len, csize_of, tile_of}
use Rattle.jnode.specs.Compressed.{compressed_of}
use Rattle.jnode.proofs.CompressedLemmas.{seen_room}
use Rattle.jnode.proofs.compressed.compressed_fields.Goals as goal

pub slice-requires : goal.slice-requires
slice-requires g c =
    let most = pad4_least c.u32_in.result (length c.args.rest.now) (omega arith) c.requires.words in
    omega arith

pub compressed-requires : goal.compressed-requires
compressed-requires g c =
    let e = g.E.Order.order in
    let rest : List ℕ = c.args.rest.now in
    let same : c.slice.result ≡ tile_of e rest = c.slice.ensures ∙ ap (λ (n : ℕ). take n rest) (c.pad4-end.ensures ∙ ap pad4_of c.u32_in.ensures) in
    subst (λ (tile : List ℕ). inode_len + csize_of e tile ≤ length tile) (sym same)
    (seen_room e rest c.requires.seen.0 c.requires.good c.requires.words c.requires.seen.1)

pub returns : goal.returns
returns g c =
    let e = g.E.Order.order in
    let rest : List ℕ = c.args.rest.now in
    let same : c.slice.result ≡ tile_of e rest = c.slice.ensures ∙ ap (λ (n : ℕ). take n rest) (c.pad4-end.ensures ∙ ap pad4_of c.u32_in.ensures) in
    c.compressed.ensures ∙ ap (compressed_of e) same
