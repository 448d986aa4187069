-- What a host reads of files, and how it prints, from an act on.
use Rattle.std.specs.Prelude.{◌≡◌, ℕ, List, [], ◌∷◌, Ok, Err}
use Rattle.jjson.specs.declared.lines.Lines.{Lines}
use Rattle.jspare.specs.declared.region.Region.{Region}
use Rattle.jedge.specs.Acts.{Act}
use Rattle.jedge.specs.Calls.{Did, PrintJson, ReadRegion}
use Rattle.jedge.specs.declared.fault.Fault.TheVariants as fault

-- of the files of these names this part is read; or there is no memory for their names
abbrev pub reads_region : Region → List (List ℕ) → Act Unit
reads_region region names events (Ok _) = events ≡ Did (ReadRegion region names) ∷ []
reads_region region names events (Err (fault.File file)) = ⊥
reads_region region names events (Err (fault.NotRead file)) = ⊥
reads_region region names events (Err (fault.NoNodes of others)) = ⊥
reads_region region names events (Err (fault.NoSpace folder)) = ⊥
reads_region region names events (Err (fault.Findings of findings)) = ⊥
reads_region region names events (Err (fault.Refused why)) = ⊥
reads_region region names events (Err fault.Output) = ⊥
reads_region region names events (Err fault.OutOfMemory) = events ≡ []

-- what is printed goes out as JSON, by what its lines are
abbrev pub prints_json : Lines → Act Unit
prints_json lines events (Ok _) = events ≡ Did (PrintJson lines) ∷ []
prints_json lines events (Err f) = ⊥
