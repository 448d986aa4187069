-- What the damage of a mount costs, as a call puts it into a sink.
use Rattle.std.proofs.Common.{◌≡◌, ℕ, List, [], Option, None, Some, Ok, Err, ap, refl, sym, ◌∙◌}
use Rattle.std.specs.Io.KnownBytes.{Appends}
use Rattle.std.specs.Prelude.{Result, take}
use Rattle.std.proofs.lemmas.List.{append-nil}
use Rattle.flashbase.specs.Sinks.{SinkChange}
use Rattle.jdamage.specs.Damage.{PutsDamage, damage_text}
use Rattle.jdamage.specs.declared.fault.DamageFault.{DamageFault}
use Rattle.jdamage.specs.declared.fault.DamageFault.TheVariants as cost
use Rattle.jdamage.specs.declared.totals.Totals.{Totals}
use Rattle.jmount.specs.Mount.{Mount}
use Rattle.jnode.specs.declared.order.Endian.{Endian}
use Rattle.jedge.specs.Acts.{PutsBy}
use Rattle.jedge.specs.Commands.{Costs, costs_found, examined}

pub none_put : (old new : Option (List ℕ)) → new ≡ old → Appends old new []
none_put None new same = tt
none_put (Some bytes) None same = cc
none_put (Some bytes) (Some all) same = let alike : all ≡ bytes = cc in alike ∙ sym (append-nil bytes)

pub costs_put : (e : Endian) (size : ℕ) (m : Mount) (s : SinkChange) (put : Result Totals DamageFault)
    → PutsDamage e size m s.old s.new s.before s.now put → PutsBy (Costs e size m) s (costs_found e size m put)
costs_put e size m s (Ok totals) is = record {
  text = damage_text e size m;
  says = (refl, ap (λ (t : Totals). examined e size t m) is.0);
  put = is.1;
  counts = is.2;
}
costs_put e size m s (Err cost.Output) is = record {
  text = take is.0.0 (damage_text e size m);
  says = (is.0.0, refl);
  put = is.0.1;
  counts = is.1;
}
costs_put e size m s (Err cost.OutOfMemory) is = record {
  text = [];
  says = refl;
  put = none_put s.old s.new is.0;
  counts = is.1;
}
