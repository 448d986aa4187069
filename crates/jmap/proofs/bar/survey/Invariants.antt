use Rattle.std.proofs.Common.{◌≡◌, length}
use Rattle.jmap.specs.ByteKinds.{byte_kinds, tally_of}
use Rattle.jmap.proofs.BarLemmas.{bar_upto}
use Rattle.jmap.proofs.bar.survey.Given as goal

abbrev pub invariant-loop-extent : goal.invariant-loop-extent
invariant-loop-extent g l = record {
  tally : l.tally ≡ tally_of (byte_kinds l.kept l.yielded);
  done : l.done ≡ length (byte_kinds l.kept l.yielded);
  bar : l.bar ≡ bar_upto l.size (byte_kinds l.kept l.yielded);
}
