use Rattle.std.proofs.Common.{◌++◌, drop, map, take}
use Rattle.std.specs.List.{All}
use Rattle.std.specs.Prelude.{IsPermutation}
use Rattle.std.specs.String.{string_bytes}
use Rattle.jfolder.specs.Complete.{child, left_paths}
use Rattle.jfolder.specs.Reasons.{IsWrongChild}
use Rattle.jfolder.specs.Walking.{IsChild}
use Rattle.jfolder.proofs.NoteLemmas.{Told}
use Rattle.jfolder.proofs.WalkOrderLemmas.{InOrderUpTo}
use Rattle.jfolder.proofs.reading.paths_of.Given as goal

abbrev pub invariant-loop-name : goal.invariant-loop-name
invariant-loop-name g l = record {
  paths : All (λ path. IsChild l.directory (string_bytes path)) l.paths.items;
  order : InOrderUpTo l.directory (drop l.name-index l.names) (map string_bytes l.paths.items);
  told : Told (λ lefts. IsPermutation (map (λ name. child l.directory (string_bytes name)) (take l.name-index l.names)) (map string_bytes l.paths.items ++ left_paths lefts)
      × All (IsWrongChild l.directory (map string_bytes l.names)) lefts)
      (g.N.Sink.taken l.fn.notes) (g.N.Sink.taken l.notes) (g.N.Sink.failures l.fn.notes) (g.N.Sink.failures l.notes) l.fn.left_out l.left_out;
}
