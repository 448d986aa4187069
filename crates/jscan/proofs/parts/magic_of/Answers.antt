use Rattle.std.proofs.Common.{rules, ◌≡◌, ◌∙◌, ap}
use Rattle.jnode.specs.Header.{magic_of}
use Rattle.jscan.proofs.PartLemmas.{magic_front}
use Rattle.jscan.proofs.parts.magic_of.Goals as goal

pub returns : goal.returns
returns g c =
    let is : c.read_u16-2.result ≡ magic_of g.E.Order.order c.copy_to.new.out = search rules in
    is ∙ ap (magic_of g.E.Order.order) (c.copy_to.ensures ∙ c.slice.ensures) ∙ magic_front g.E.Order.order c.args.part.now c.requires
