use Rattle.std.proofs.Common.{sym, ◌∙◌}
use Rattle.jmount.specs.Collected.{without_addresses}
use Rattle.jmount.proofs.NumbersLemmas.{object-state_of}
use Rattle.jcompact.proofs.ObjectLemmas.{object_kept}
use Rattle.jcompact.proofs.laws.objects_are_kept.Goals as goal

pub returns : goal.returns
returns c ns kept apart (reached, says, is) i leads =
    object-state_of (without_addresses kept) i ∙ object_kept ns kept reached apart is i ((says i).1 leads) ∙ sym (object-state_of (without_addresses ns) i)
