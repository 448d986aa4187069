use Rattle.std.proofs.Common.{ℕ, List, Bor, sym, subst}
use Rattle.jextract.specs.Parts.{keys_of, part_along}
use Rattle.jextract.specs.PartsOf.{part_of}
use Rattle.jextract.specs.Walking.{Fills, Sight, no_totals}
use Rattle.jextract.specs.declared.parts.Part.{Part}
use Rattle.jextract.proofs.extracting.fill_part.Goals as goal

pub returns-in-Along : goal.returns-in-Along
returns-in-Along g c =
    let s = c.args.mounted.now.state in
    let old : Sight = record { made = g.F.Folder.made c.args.folder.now; failures = g.F.Folder.failures c.args.folder.now; told = g.N.Sink.taken c.args.notes.now; told_failures = g.N.Sink.failures c.args.notes.now; totals = no_totals } in
    let new : Sight = record { made = g.F.Folder.made c.fill.new.folder; failures = g.F.Folder.failures c.fill.new.folder; told = g.N.Sink.taken c.fill.new.notes; told_failures = g.N.Sink.failures c.fill.new.notes; totals = no_totals } in
    subst (λ (p : Part). Fills (part_of p s) c.args.owners old new c.fill.result) (sym c.in-Along.is)
    (subst (λ (way : List (ℕ × Bor (List ℕ))). Fills (part_along (keys_of way) s) c.args.owners old new c.fill.result) c.deref.ensures.value c.fill.ensures)
