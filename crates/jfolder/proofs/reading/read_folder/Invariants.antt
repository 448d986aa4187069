use Rattle.std.proofs.Common.{◌≡◌, ◌++◌, map}
use Rattle.std.specs.List.{All}
use Rattle.std.specs.String.{string_bytes}
use Rattle.jfolder.specs.Complete.{Covers, item_paths, left_paths}
use Rattle.jfolder.specs.Links.{WalkLinks}
use Rattle.jfolder.specs.Reasons.{IsRight}
use Rattle.jfolder.specs.WalkOrder.{InOrder}
use Rattle.jfolder.specs.Walking.{WalkFits}
use Rattle.jfolder.proofs.NoteLemmas.{Told}
use Rattle.jfolder.proofs.reading.read_folder.Given as goal

abbrev pub invariant-loop : goal.invariant-loop
invariant-loop g l = record {
  kept : g.F.HostFolder.known l.folder ≡ g.F.HostFolder.known l.fn.folder;
  fits : WalkFits (g.F.HostFolder.known l.fn.folder) l.options l.walk.items.items l.walk.pending.items;
  links : WalkLinks (g.F.HostFolder.known l.fn.folder) l.walk.items.items l.walk.firsts;
  order : InOrder l.walk.items.items (map string_bytes l.walk.pending.items);
  told : Told (λ lefts. Covers (g.F.HostFolder.known l.fn.folder) l.walk.items.items (item_paths l.walk.items.items ++ (map string_bytes l.walk.pending.items ++ left_paths lefts))
      × All (IsRight (g.F.HostFolder.known l.fn.folder) l.options l.walk.items.items) lefts)
      (g.N.Sink.taken l.fn.notes) (g.N.Sink.taken l.notes) (g.N.Sink.failures l.fn.notes) (g.N.Sink.failures l.notes) 0 l.walk.left_out;
}
