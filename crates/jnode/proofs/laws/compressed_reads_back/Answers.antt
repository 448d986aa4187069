use Rattle.jnode.proofs.CompressedLemmas.{compressed_reads_back, compressed_is_tile, compressed_fits}
use Rattle.jnode.proofs.laws.compressed_reads_back.Goals as goal

pub returns-clause-reads : goal.returns-clause-reads
returns-clause-reads c = compressed_reads_back

pub returns-clause-tile : goal.returns-clause-tile
returns-clause-tile c = compressed_is_tile

pub returns-clause-fits : goal.returns-clause-fits
returns-clause-fits c = compressed_fits
