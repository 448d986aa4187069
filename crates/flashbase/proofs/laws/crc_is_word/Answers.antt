use Rattle.flashbase.proofs.CrcLemmas.{crc_after-lt}
use Rattle.flashbase.proofs.laws.crc_is_word.Goals as goal

pub returns : goal.returns
returns c = crc_after-lt
