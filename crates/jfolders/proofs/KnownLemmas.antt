-- What is known of a folder and of standard error, if it is told what happened: they were fresh.
use Rattle.std.proofs.Common.{◌≡◌, ℕ, Bool, List, [], ◌++◌, Option, None, Some, Ok, Err, refl, sym, ap, subst, ◌∙◌, inl, inr}
use Rattle.std.specs.Io.KnownBytes.{Appends}
use Rattle.std.specs.Prelude.{IfSome, Result, take}
use Rattle.flashbase.specs.Device.{next_count}
use Rattle.flashbase.specs.Sinks.{SinkChange}
use Rattle.jmount.specs.Tree.{State}
use Rattle.jextract.specs.Extracts.{Extracts}
use Rattle.jextract.specs.Folders.{Failures, FolderChange, Made, ReportsMore, refused_once}
use Rattle.jextract.specs.Outcomes.{all_lines, all_made, failures_after}
use Rattle.jextract.specs.declared.fault.ExtractFault.{ExtractFault}
use Rattle.jextract.specs.declared.fault.ExtractFault.TheVariants as extract
use Rattle.jextract.specs.declared.totals.Totals.{Totals}
use Rattle.jfolder.specs.Known.{Known}
use Rattle.jfolder.specs.Notes.{Tells, left_out_text, not_listed_line}
use Rattle.jfolder.specs.declared.fault.ReadFault.{ReadFault}
use Rattle.jfolder.specs.declared.fault.ReadFault.TheVariants as read
use Rattle.jfolder.specs.declared.found.Options.{Options}
use Rattle.jfolder.specs.declared.reading.FolderTree.{FolderTree}
use Rattle.jedge.specs.Acts.{Act, DoesFrom}
use Rattle.jedge.specs.Calls.{Event}
use Rattle.jedge.specs.declared.fault.Fault.{Fault}
use Rattle.jfolders.specs.Filling.{none_failed}

abbrev pub History : Type 0
History = Option (List Event)

-- what holds where it is told what happened, holds after an act too
pub still_known : {A : Type 0} (old : History) {new : History} {act : Act A} {r : Result A Fault} (P : Type 0) → DoesFrom old new act r → IfSome old (λ _. P) → IfSome new (λ _. P)
still_known None P done is = subst (λ (h : History). IfSome h (λ _. P)) (sym done.told) tt
still_known (Some told) P done is = subst (λ (h : History). IfSome h (λ _. P)) (sym done.told) is

taken_known : (h : History) (old new : Option (List ℕ)) (text : List ℕ) → IfSome h (λ _. old ≡ Some []) → Appends old new text → IfSome h (λ _. new ≡ Some text)
taken_known None old new text fresh puts = tt
taken_known (Some told) None new text fresh puts = cc
taken_known (Some told) (Some taken) None text fresh puts = absurd puts
taken_known (Some told) (Some taken) (Some all) text fresh puts = let none : taken ≡ [] = cc in ap (λ (l : List ℕ). Some l) (puts ∙ ap (λ (l : List ℕ). l ++ text) none)

made_known : (h : History) (old new : Option (List Made)) (made : List Made) → IfSome h (λ _. old ≡ Some []) → ReportsMore old new made → IfSome h (λ _. new ≡ Some made)
made_known None old new made fresh more = tt
made_known (Some told) None new made fresh more = cc
made_known (Some told) (Some before) None made fresh more = absurd more
made_known (Some told) (Some before) (Some all) made fresh more = let none : before ≡ [] = cc in ap (λ (l : List Made). Some l) (more ∙ ap (λ (l : List Made). l ++ made) none)

-- ---- the notes of a reading

abbrev pub Noted : History → Known → Options → ℕ → Option (List ℕ) → Result FolderTree ReadFault → Type 0
Noted h known options lost new answer =
    (text : List ℕ) × Tells known options (record { old = Some []; new = Some text; before = 0; now = lost }) answer × IfSome h (λ _. new ≡ Some text)

pub notes_known : (h : History) (known : Known) (options : Options) (s : SinkChange) (answer : Result FolderTree ReadFault) → s.before ≡ 0 → IfSome h (λ _. s.old ≡ Some [])
    → Tells known options s answer → Noted h known options s.now s.new answer
notes_known h known options s (Ok tree) none fresh tells = (
  left_out_text tells.0,
  (tells.0, refl, tells.2 ∙ none, tells.3, tells.4, tells.5),
  taken_known h s.old s.new (left_out_text tells.0) fresh tells.1,
)
notes_known h known options s (Err (read.Folder why)) none fresh tells = (
  not_listed_line why,
  (refl, tells.1 ∙ none, tells.2),
  taken_known h s.old s.new (not_listed_line why) fresh tells.0,
)
notes_known h known options s (Err read.Notes) none fresh tells = elim tells.0 [
  | inl w ↦ (
    take w.1.0 (left_out_text w.0),
    (inl (w.0, (w.1.0, refl), w.2), tells.1 ∙ ap next_count none),
    taken_known h s.old s.new (take w.1.0 (left_out_text w.0)) fresh w.1.1,
  )
  | inr w ↦ (
    take w.1.0 (not_listed_line w.0),
    (inr (w.0, (w.1.0, refl), w.2), tells.1 ∙ ap next_count none),
    taken_known h s.old s.new (take w.1.0 (not_listed_line w.0)) fresh w.1.1,
  )
]
notes_known h known options s (Err read.OutOfMemory) none fresh tells = (
  left_out_text tells.0.0,
  ((tells.0.0, refl, tells.0.2), tells.1 ∙ none),
  taken_known h s.old s.new (left_out_text tells.0.0) fresh tells.0.1,
)

-- ---- a folder that is filled, and the notes

abbrev pub FilledKnown : History → State → Bool → FolderChange → SinkChange → Result Totals ExtractFault → Type 0
FilledKnown h s owners folder notes answer = (made : List Made) × (text : List ℕ)
    × Extracts s owners (record { old = Some []; new = Some made; before = none_failed; now = folder.now }) (record { old = Some []; new = Some text; before = 0; now = notes.now }) answer
    × IfSome h (λ _. folder.new ≡ Some made) × IfSome h (λ _. notes.new ≡ Some text)

pub filling_known : (h : History) (s : State) (owners : Bool) (folder : FolderChange) (notes : SinkChange) (answer : Result Totals ExtractFault)
    → IfSome h (λ _. folder.old ≡ Some []) → IfSome h (λ _. notes.old ≡ Some []) → folder.before ≡ none_failed → notes.before ≡ 0
    → Extracts s owners folder notes answer → FilledKnown h s owners folder notes answer
filling_known h s owners folder notes (Ok n) unmade unsaid sound none e = (
  all_made e.0,
  all_lines e.0,
  (e.0, e.1, refl, e.3 ∙ ap (λ (f : Failures). failures_after f e.0) sound, refl, e.5 ∙ none, e.6),
  made_known h folder.old folder.new (all_made e.0) unmade e.2,
  taken_known h notes.old notes.new (all_lines e.0) unsaid e.4,
)
filling_known h s owners folder notes (Err extract.Folder) unmade unsaid sound none e = (
  [],
  [],
  (refl, e.1 ∙ ap refused_once sound, refl, e.3 ∙ none),
  made_known h folder.old folder.new [] unmade e.0,
  taken_known h notes.old notes.new [] unsaid e.2,
)
filling_known h s owners folder notes (Err extract.Notes) unmade unsaid sound none e = (
  take e.0.2.0 (all_made e.0.0),
  take e.0.3.0 (all_lines e.0.0),
  ((e.0.0, e.0.1, (e.0.2.0, refl), (e.0.3.0, refl)), e.1 ∙ ap next_count none, e.2 ∙ ap (λ (f : Failures). f.full) sound),
  made_known h folder.old folder.new (take e.0.2.0 (all_made e.0.0)) unmade e.0.2.1,
  taken_known h notes.old notes.new (take e.0.3.0 (all_lines e.0.0)) unsaid e.0.3.1,
)
filling_known h s owners folder notes (Err extract.NoSpace) unmade unsaid sound none e = (
  take e.0.2.0 (all_made e.0.0),
  take e.0.3.0 (all_lines e.0.0),
  ((e.0.0, e.0.1, (e.0.2.0, refl), (e.0.3.0, refl)), e.1 ∙ none, e.2 ∙ ap (λ (f : Failures). next_count f.full) sound),
  made_known h folder.old folder.new (take e.0.2.0 (all_made e.0.0)) unmade e.0.2.1,
  taken_known h notes.old notes.new (take e.0.3.0 (all_lines e.0.0)) unsaid e.0.3.1,
)
filling_known h s owners folder notes (Err extract.OutOfMemory) unmade unsaid sound none e = (
  take e.0.2.0 (all_made e.0.0),
  take e.0.3.0 (all_lines e.0.0),
  ((e.0.0, e.0.1, (e.0.2.0, refl), (e.0.3.0, refl)), e.1 ∙ none, e.2 ∙ ap (λ (f : Failures). f.full) sound),
  made_known h folder.old folder.new (take e.0.2.0 (all_made e.0.0)) unmade e.0.2.1,
  taken_known h notes.old notes.new (take e.0.3.0 (all_lines e.0.0)) unsaid e.0.3.1,
)
