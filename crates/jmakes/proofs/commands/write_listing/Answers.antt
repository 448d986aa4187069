use Rattle.std.proofs.Common.{refl}
use Rattle.jedge.proofs.Steps.{answered, then_ok}
use Rattle.jmakes.proofs.commands.write_listing.Goals as goal

pub returns : goal.returns
returns g c =
    then_ok (answered (c.new-none.result, refl, c.new-none.ensures)) c.write_text.ensures
