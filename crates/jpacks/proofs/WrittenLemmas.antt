-- What is written by the acts that make an image.
use Rattle.std.proofs.Common.{◌≡◌, ◌∙◌, ℕ, Bool, true, false, List, [], ◌∷◌, ◌++◌, Option, Ok, ap, inl, inr, refl}
use Rattle.std.specs.Prelude.{is_none}
use Rattle.std.specs.List.{flat_map}
use Rattle.std.proofs.lemmas.Grind.{flat_map-append}
use Rattle.std.proofs.lemmas.List.{append-nil}
use Rattle.jedge.specs.Acts.{Act, Then, answers}
use Rattle.jedge.specs.Calls.{Call, Close, Compare, Create, Did, Event, Failed, Fill, FillFolder, Find, Keep, Kind, LookThrough, Meaning, Measure, Nothing, Open, OpenToWrite, Print, Read, ReadFolder, ReadPart, ReadRegion, PrintJson, Regular, Remove, Rename, Special, Sync, SyncFolder, Write}
use Rattle.jedge.specs.Laws.{IsLooking, Looks, LooksOnly}
use Rattle.jedge.specs.declared.fault.Fault.{Fault}
use Rattle.jreads.proofs.KeptLemmas.{both_done}
use Rattle.jmakes.specs.Making.{AreTaken, Beside, FilePlace, GetsName, InPlace, IsFolderSynced, MakesBeside, WantedFile, closes_file, creates, creates_by, filled_to, opens_anew, opens_by, opens_over, written_out}
use Rattle.jmakes.specs.declared.wanted.Filling.{Filling}
use Rattle.jpacks.specs.Held.{all_written, bytes_done, bytes_put}

-- ---- what only looks

looking_puts : (call : Call) → IsLooking call → bytes_put call ≡ []
looking_puts (Measure name n) is = refl
looking_puts (Open name) is = refl
looking_puts (Read name bytes) is = refl
looking_puts (ReadPart name bytes) is = refl
looking_puts (ReadRegion region names) is = refl
looking_puts (PrintJson lines) is = refl
looking_puts (Find name meaning) is = refl
looking_puts (Compare name other same) is = refl
looking_puts (Print stream text) is = refl
looking_puts (Create name how) is = refl
looking_puts (OpenToWrite name) is = refl
looking_puts (Write name bytes) is = absurd is
looking_puts (Sync name) is = refl
looking_puts (SyncFolder name) is = refl
looking_puts (Rename name other) is = refl
looking_puts (Remove name) is = refl
looking_puts (Close name) is = refl
looking_puts (FillFolder name quiet) is = refl
looking_puts (Fill name made) is = refl
looking_puts (ReadFolder name quiet known) is = refl
looking_puts (LookThrough name) is = refl
looking_puts (Keep name files) is = refl

looks_done : (event : Event) → Looks event → bytes_done event ≡ []
looks_done (Did call) is = looking_puts call is
looks_done (Failed call reason) is = refl

pub looks_written : (events : List Event) → LooksOnly events → all_written events ≡ []
looks_written [] is = refl
looks_written (event ∷ events) is = ap (λ (l : List ℕ). l ++ all_written events) (looks_done event is.0) ∙ looks_written events is.1

written_both : (xs ys : List Event) → all_written (xs ++ ys) ≡ all_written xs ++ all_written ys
written_both xs ys = flat_map-append bytes_done xs ys

pub written_later : {events : List Event} (before after : List Event) → events ≡ before ++ after → all_written before ≡ [] → all_written events ≡ all_written after
written_later before after is none = ap all_written is ∙ (written_both before after ∙ ap (λ (l : List ℕ). l ++ all_written after) none)

pub written_first : {events : List Event} (before after : List Event) → events ≡ before ++ after → all_written after ≡ [] → all_written events ≡ all_written before
written_first before after is none = ap all_written is ∙ (written_both before after ∙ (ap (λ (l : List ℕ). all_written before ++ l) none ∙ append-nil (all_written before)))

-- ---- a file is opened

taken_written : (kind : Kind) (events : List Event) → AreTaken kind events → all_written events ≡ []
taken_written kind [] is = refl
taken_written kind (event ∷ events) is = ap (λ (l : List ℕ). l ++ all_written events) (ap bytes_done is.0.1) ∙ taken_written kind events is.1

anew_written : (name : List ℕ) (kind : Kind) (target : List ℕ) (place : FilePlace) (events : List Event) → opens_anew name kind target events (Ok place) → all_written events ≡ []
anew_written name kind target place events is = written_later is.tried is.last is.all (taken_written kind is.tried is.taken) ∙ ap all_written is.made.3

opened_written : (name target : List ℕ) (kind : Kind) (place : FilePlace) (events : List Event) → opens_by name target kind events (Ok place) → all_written events ≡ []
opened_written name target Nothing place events is = anew_written name Nothing target place events is
opened_written name target Regular place events is = anew_written name Regular target place events is
opened_written name target Special place events is = ap all_written is.1

pub created_written : (file : WantedFile) (place : FilePlace) (events : List Event) → creates file events (Ok place) → all_written events ≡ []
created_written file place events is = by file.atomic is
  where
    by : (atomic : Bool) → creates_by atomic file.name events (Ok place) → all_written events ≡ []
    by true is =
        let both = both_done is in
        written_later both.before both.after both.all (ap all_written both.one) ∙ opened_written file.name both.x.target both.x.kind place both.after both.two
    by false is = ap all_written is.1

-- ---- it ends

out_written : (name bytes : List ℕ) → all_written (written_out name bytes) ≡ bytes
out_written name [] = refl
out_written name (b ∷ bytes) = append-nil (b ∷ bytes)

synced_written : (target : List ℕ) (events : List Event) → IsFolderSynced target events → all_written events ≡ []
synced_written target events (inl is) = ap all_written is
synced_written target events (inr is) = ap all_written is.1

named_written : (other target : List ℕ) (events : List Event) → GetsName other target events → all_written events ≡ []
named_written other target events is = ap all_written is.happened ∙ synced_written target is.last is.synced

pub closed_written : (place : FilePlace) (to : Option Filling) (failures : ℕ) (text : List ℕ) (events : List Event) {u : Unit {0}} → closes_file place to true failures text events (Ok (Ok u))
    → all_written events ≡ filled_to to text
closed_written (InPlace name) to failures text events is = ap all_written is.1 ∙ out_written name (filled_to to text)
closed_written (Beside other target) to failures text events is =
    written_first (written_out other (filled_to to text)) is.1.0 is.1.2 (named_written other target is.1.0 is.1.1) ∙ out_written other (filled_to to text)
