use Rattle.std.proofs.Common.{rules, ◌≡◌, List, [], Option, Result, Err, refl, subst}
use Rattle.jextract.specs.Folders.{AddsOne, Made, ReportsMore}
use Rattle.jextract.specs.PartsOf.{part_of}
use Rattle.jextract.specs.declared.folder.FolderFault.{FolderFault}
use Rattle.jextract.specs.declared.folder.FolderFault.TheVariants.{NoSpace, OutOfMemory}
use Rattle.jextract.proofs.FillLemmas.{extracts, not_made}
use Rattle.jextract.proofs.MakingLemmas.{adds_none}
use Rattle.jextract.proofs.extracting.extract_part.Goals as goal

-- at a fault nothing is made
adds_at : (S : Type 0) (old new : Option (List Made)) (made : Made) (e : FolderFault) (r : Result S FolderFault) → r ≡ Err e → AddsOne old new made r → ReportsMore old new []
adds_at S old new made e r is adds = adds_none S old new made e (subst (λ (x : Result S FolderFault). AddsOne old new made x) is adds)

pub returns-in-Ok : goal.returns-in-Ok
returns-in-Ok g c =
    extracts (part_of c.args.part.now c.args.mounted.now.state) c.args.owners
    (record { old = g.F.Folder.made c.args.folder.now; new = g.F.Folder.made c.fill_part.new.folder; before = g.F.Folder.failures c.args.folder.now; now = g.F.Folder.failures c.fill_part.new.folder })
    (record { old = g.N.Sink.taken c.args.notes.now; new = g.N.Sink.taken c.fill_part.new.notes; before = g.N.Sink.failures c.args.notes.now; now = g.N.Sink.failures c.fill_part.new.notes })
    (g.F.Folder.made c.make_directory.new.self) (g.F.Folder.failures c.make_directory.new.self) c.fill_part.result c.in-Ok.ensures.adds c.in-Ok.ensures.counts c.fill_part.ensures

pub returns-in-Err-NoSpace : goal.returns-in-Err-NoSpace
returns-in-Err-NoSpace g c =
    let is : c.make_directory.result ≡ Err NoSpace = cc in
    (not_made (part_of c.args.part.now c.args.mounted.now.state) c.args.owners (record { old = g.F.Folder.made c.args.folder.now; new = g.F.Folder.made c.make_directory.new.self; before = g.F.Folder.failures c.args.folder.now; now = g.F.Folder.failures c.make_directory.new.self }) (g.N.Sink.taken c.args.notes.now) (g.N.Sink.failures c.args.notes.now) (adds_at (Unit {0}) _ _ _ NoSpace c.make_directory.result is c.make_directory.ensures.adds), refl, search rules)

pub returns-in-Err-OutOfMemory : goal.returns-in-Err-OutOfMemory
returns-in-Err-OutOfMemory g c =
    let is : c.make_directory.result ≡ Err OutOfMemory = cc in
    (not_made (part_of c.args.part.now c.args.mounted.now.state) c.args.owners (record { old = g.F.Folder.made c.args.folder.now; new = g.F.Folder.made c.make_directory.new.self; before = g.F.Folder.failures c.args.folder.now; now = g.F.Folder.failures c.make_directory.new.self }) (g.N.Sink.taken c.args.notes.now) (g.N.Sink.failures c.args.notes.now) (adds_at (Unit {0}) _ _ _ OutOfMemory c.make_directory.result is c.make_directory.ensures.adds), refl, search rules)
