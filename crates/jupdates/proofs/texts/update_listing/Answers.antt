use Rattle.std.proofs.Common.{refl}
use Rattle.jedge.proofs.Steps.{answered, then_ok}
use Rattle.jupdates.proofs.texts.update_listing.Goals as goal

pub returns : goal.returns
returns g c = then_ok (answered (c.new-none.result, refl, c.new-none.ensures)) c.update_text.ensures
