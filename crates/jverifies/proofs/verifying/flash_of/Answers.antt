use Rattle.std.proofs.Common.{ap, ◌∙◌, List, ℕ}
use Rattle.jnode.specs.declared.order.Endian.TheVariants.{Little}
use Rattle.jcommand.specs.declared.parsed.Packing.{Packing}
use Rattle.jmakes.specs.Writing.{ImageWanted}
use Rattle.jpacks.specs.Packing.{flash_of_packing}
use Rattle.jverifies.proofs.verifying.flash_of.Goals as goal

pub returns : goal.returns
returns c = ap (λ (wanted : ImageWanted). wanted.flash) (c.image_of.ensures Little)
    ∙ ap (λ (packing : Packing (List ℕ)). flash_of_packing packing) c.packing_of.ensures
