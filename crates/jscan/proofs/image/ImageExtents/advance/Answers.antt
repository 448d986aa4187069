use Rattle.std.proofs.Common.{◌*◌, ◌+◌, ◌++◌, List, ap, sym, refl, ◌∙◌, arith}
use Rattle.jscan.specs.ImageLeft.{extents_on}
use Rattle.jscan.specs.Extents.{extents}
use Rattle.jscan.specs.declared.extent.Extent.{Extent}
use Rattle.jscan.proofs.StreamCounts.{readable_some}
use Rattle.jscan.proofs.ImageLemmas.{on_step, on_end, begins_within, ends_within}
use Rattle.jscan.proofs.image.ImageExtents.advance.Goals as goal

pub returns-then-self-start-clause-ends : goal.returns-then-self-start-clause-ends
returns-then-self-start-clause-ends g c = λ no.
    let self = c.args.self.now in
    let past = ends_within self.size self.next self.image.now (omega (arith, readable_some self.size self.readable)) (omega arith) in
    ap (λ (l : List Extent). l ++ extents_on g.E.Order.order self.size self.image.now self.next) c.requires.done
    ∙ on_end g.E.Order.order self.size self.image.now self.next past

pub returns-clause-left : goal.returns-clause-left
returns-clause-left g c =
    let self = c.args.self.now in
    let e = g.E.Order.order in
    let begins = begins_within self.size self.next self.image.now (omega (arith, readable_some self.size self.readable)) (omega arith) in
    ap (λ (l : List Extent). l ++ extents_on e self.size self.image.now (self.next + 1))
    (c.of_part-self.ensures ∙ ap (extents e (self.next * self.size)) (c.block_at.ensures self.next refl))
    ∙ sym (on_step e self.size self.image.now self.next begins)
    ∙ sym (ap (λ (l : List Extent). l ++ extents_on e self.size self.image.now self.next) c.requires.done)
