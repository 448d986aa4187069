-- Folders of a host that tells nothing.
use Rattle.std.proofs.Common.{◌≡◌, ◌++◌, ℕ, Bool, List, [], ◌∷◌, Option, Some, None, Result, Ok, Err, inl, inr, refl}
use Rattle.std.specs.Prelude.{IfErr, IfOk}
use Rattle.jextract.specs.Folders.{Failures, Made}
use Rattle.jextract.specs.declared.fault.ExtractFault.{ExtractFault}
use Rattle.jextract.specs.declared.fault.ExtractFault.TheVariants as extract
use Rattle.jfolder.specs.Known.{Known}
use Rattle.jfolder.specs.declared.fault.ReadFault.{ReadFault}
use Rattle.jreport.specs.declared.reason.Reason.{Reason}
use Rattle.jedge.specs.Acts.{DoesFrom, seen_as}
use Rattle.jedge.specs.Calls.{Did, Event, Failed, Fill, FillFolder, Keep, ReadFolder}
use Rattle.jedge.specs.declared.fault.Fault.{Fault}
use Rattle.jedge.specs.declared.fault.Fault.TheVariants as fault
use Rattle.jfolders.specs.Filling.{IsEndOf, asks_to_fill, closes_filled, fillings, none_failed, the_folder}
use Rattle.jfolders.specs.Keeping.{closes_whole, files_kept}
use Rattle.jfolders.specs.Reading.{asks_to_read, closes_read, looked_through}
use Rattle.jfolders.specs.declared.host.Closed.{Closed}
use Rattle.jsystem.proofs.UntoldLemmas.{untold}

-- ---- a folder that is filled

pub fill_asked : {F : Type 0} (name : List ℕ) (quiet : Bool) (failures : F → Failures) (r : Result F Fault) → IfOk r (λ folder. failures folder ≡ none_failed) → IfErr r (λ f. f ≡ fault.OutOfMemory)
    → DoesFrom None None (asks_to_fill name quiet) (seen_as failures r)
fill_asked name quiet failures (Ok folder) none memory = rw none (untold (Did (FillFolder name quiet) ∷ []) (inl (refl, refl)))
fill_asked name quiet failures (Err f) none memory = rw memory (untold [] (inr (refl, refl)))

end_of : (name : List ℕ) (why : Option ExtractFault) (reason : Reason) → (events : List Event) × IsEndOf name why reason events
end_of name None reason = ([], refl)
end_of name (Some extract.Folder) reason = (Failed (Fill name the_folder) reason ∷ [], refl)
end_of name (Some extract.Notes) reason = ([], refl)
end_of name (Some extract.NoSpace) reason = (Failed (Fill name the_folder) reason ∷ [], (the_folder, refl))
end_of name (Some extract.OutOfMemory) reason = ([], refl)

pub filled_closed : (name : List ℕ) (made : List Made) (why : Option ExtractFault) (reason : Reason) → DoesFrom None None (closes_filled name made why) (Ok reason)
filled_closed name made why reason =
    let last = end_of name why reason in
    untold (fillings name made ++ last.0) (record { reason = reason; last = last.0; ends = last.1; happened = refl; is = refl })

-- ---- one that is read

pub asked_to_read : (name : List ℕ) (quiet : Bool) (known : Known) → DoesFrom None None (asks_to_read name quiet) (Ok known)
asked_to_read name quiet known = untold (Did (ReadFolder name quiet known) ∷ []) (inl (known, refl, refl))

pub no_memory_to_read : (name : List ℕ) (quiet : Bool) → DoesFrom None None (asks_to_read name quiet) (Err fault.OutOfMemory)
no_memory_to_read name quiet = untold [] (inr (refl, refl))

pub read_asked : {F : Type 0} (name : List ℕ) (quiet : Bool) (known : F → Known) (r : Result F Fault) → IfErr r (λ f. f ≡ fault.OutOfMemory) → DoesFrom None None (asks_to_read name quiet) (seen_as known r)
read_asked name quiet known (Ok folder) memory = asked_to_read name quiet (known folder)
read_asked name quiet known (Err f) memory = rw memory (no_memory_to_read name quiet)

pub read_closed : (name : List ℕ) (why : Option ReadFault) (reason : Reason) → DoesFrom None None (closes_read name why) (Ok reason)
read_closed name why reason = untold (looked_through name why reason) (reason, refl, refl)

pub whole_closed : (name : List ℕ) (why : Option ReadFault) (closed : Closed) → DoesFrom None None (closes_whole name why) (Ok closed)
whole_closed name why closed =
    untold (Did (Keep name (files_kept closed.files)) ∷ looked_through name why closed.reason) (closed, files_kept closed.files, refl, (λ file. refl), refl)
