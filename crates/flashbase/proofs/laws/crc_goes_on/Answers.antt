use Rattle.flashbase.proofs.CrcLemmas.{crc_goes_on}
use Rattle.flashbase.proofs.laws.crc_goes_on.Goals as goal

pub returns : goal.returns
returns c = crc_goes_on
