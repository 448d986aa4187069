use Rattle.std.proofs.Common.{◌≡◌, ℕ, ◌+◌, ◌≤◌, List, length, sym, ap, subst, ◌∙◌, arith}
use Rattle.std.proofs.lemmas.Bool.{false≢true}
use Rattle.flashbase.specs.Bytes.{pad4_of}
use Rattle.flashbase.proofs.BytesLemmas.{pad4_least}
use Rattle.jnode.specs.Header.{IsGood, totlen_of}
use Rattle.jnode.specs.declared.header.Header.{Header}
use Rattle.jexpand.specs.Expanded.{rest_at}
use Rattle.jcollect.proofs.NodeLemmas.{node_here}
use Rattle.jcollect.proofs.tile.tile_at.Goals as goal

pub slice-requires : goal.slice-requires
slice-requires g c =
    let e = g.E.Order.order in
    let size : ℕ = c.args.geometry.block in
    let rest : List ℕ = rest_at size c.args.image.now c.args.addr in
    let at = node_here e size c.args.image.now c.args.addr c.requires.readable c.requires.sighted in
    let same : c.rest_at-rest.result ≡ rest = c.rest_at-rest.ensures in
    let totlen : c.in-Some.header.totlen ≡ totlen_of e rest = ap (λ (h : Header). h.totlen) c.in-Some.ensures.fields ∙ ap (totlen_of e) same in
    let padded : c.pad4.result ≡ pad4_of (totlen_of e rest) = c.pad4.ensures ∙ ap pad4_of totlen in
    let within : pad4_of (totlen_of e rest) ≤ length rest = pad4_least (totlen_of e rest) (length rest) at.good.within at.words in
    subst (λ (xs : List ℕ). 0 + c.pad4.result ≤ length xs) (sym same) (omega (arith, padded, within))

pub returns-in-None-clause-tile : goal.returns-in-None-clause-tile
returns-in-None-clause-tile g c =
    let e = g.E.Order.order in
    let size : ℕ = c.args.geometry.block in
    let at = node_here e size c.args.image.now c.args.addr c.requires.readable c.requires.sighted in
    let good : IsGood e c.rest_at-rest.result = subst (IsGood e) (sym c.rest_at-rest.ensures) at.good in
    absurd (false≢true (c.in-None.ensures.good.1 good))
