use Rattle.std.proofs.Common.{◌≡◌, ◌<◌, ◌-◌, length, vec_len}
use Rattle.jbuild.proofs.ReadLemmas.{IsReadOn}
use Rattle.jbuild.proofs.reading.read_more.Given as goal

abbrev pub invariant-loop-n : goal.invariant-loop-n
invariant-loop-n g l = record {
  piece : 0 < length l.piece;
  from : l.from ≡ vec_len l.initial.bytes;
  read : IsReadOn l.limit l.initial.bytes.items l.bytes.items (g.S.Source.rest l.initial.source) (g.S.Source.rest l.source);
  none_failed : g.S.Source.failures l.source ≡ g.S.Source.failures l.initial.source;
}

abbrev pub decreases-loop-n : goal.decreases-loop-n
decreases-loop-n g l = l.limit - (vec_len l.bytes - l.from)
