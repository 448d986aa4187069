-- How the work on a folder ends: the folder is given back, standard error has its text, and that is answered.
use Rattle.std.proofs.Common.{◌≡◌, ℕ, List, ◌++◌, Option, Ok, Err, refl, ap, ◌∙◌}
use Rattle.std.specs.Prelude.{IsOk, Result}
use Rattle.std.proofs.lemmas.List.{append-nil}
use Rattle.jextract.specs.Folders.{Made}
use Rattle.jextract.specs.declared.fault.ExtractFault.{ExtractFault}
use Rattle.jfolder.specs.declared.fault.ReadFault.{ReadFault}
use Rattle.jedge.specs.Acts.{Act, Then, Ends, GoesOn, answers, closes_errors}
use Rattle.jedge.specs.Calls.{Event}
use Rattle.jedge.specs.declared.fault.Fault.{Fault}
use Rattle.jfolders.specs.Filling.{closes_filled, closes_notes}
use Rattle.jfolders.specs.Keeping.{closes_whole}
use Rattle.jfolders.specs.Reading.{closes_read}

-- a call that always answers
abbrev pub NeverFails : {A : Type 0} → Act A → Type 0
NeverFails act = (events : List Event) (f : Fault) → act events (Err f) → ⊥

pub record Ended {A B : Type 0} (closes : Act A) (lost : ℕ) (text : List ℕ) (Is : A → Result B Fault → Type 0) (events : List Event) (result : Result B Fault) : Type 0 where
  pub answer : A
  pub work : List Event
  pub said : List Event
  pub rest : Result Unit Fault
  pub closed : closes work (Ok answer)
  pub told : closes_errors lost text said rest
  pub is : Is answer result
  pub happened : events ≡ work ++ said

-- where it goes on in any case, it does not end
not_failed : (f : Fault) (r : Result Unit Fault) → r ≡ Err f → IsOk r → ⊥
not_failed f r is ok = cc

ended_said : {A B : Type 0} (closes : Act A) (lost : ℕ) (text : List ℕ) (Is : A → Result B Fault → Type 0) (events before after : List Event) (result : Result B Fault) (a : A)
    → closes before (Ok a) → Then (closes_notes lost text) (λ _. answers (Is a)) after result → events ≡ before ++ after → Ended closes lost text Is events result
ended_said closes lost text Is events before after result a did (Ends f told same) is = absurd (not_failed f (Err f) refl told.0)
ended_said closes lost text Is events before after result a did (GoesOn x said none told more same) is = record {
  answer = a;
  work = before;
  said = said;
  rest = Ok x;
  closed = did;
  told = told.1;
  is = more.1;
  happened = is ∙ ap (λ (l : List Event). before ++ l) (same ∙ ap (λ (l : List Event). said ++ l) more.0 ∙ append-nil said);
}

pub ended : {A B : Type 0} (closes : Act A) (lost : ℕ) (text : List ℕ) (Is : A → Result B Fault → Type 0) (events : List Event) (result : Result B Fault) → NeverFails closes
    → Then closes (λ a. Then (closes_notes lost text) (λ _. answers (Is a))) events result → Ended closes lost text Is events result
ended closes lost text Is events result never (Ends f did is) = absurd (never events f did)
ended closes lost text Is events result never (GoesOn a before after did more is) = ended_said closes lost text Is events before after result a did more is

pub read_never : (name : List ℕ) (why : Option ReadFault) → NeverFails (closes_read name why)
read_never name why events f is = let no : ⊥ = cc in absurd no

pub whole_never : (name : List ℕ) (why : Option ReadFault) → NeverFails (closes_whole name why)
whole_never name why events f is = let no : ⊥ = cc in absurd no

pub filled_never : (name : List ℕ) (made : List Made) (why : Option ExtractFault) → NeverFails (closes_filled name made why)
filled_never name made why events f is = let no : ⊥ = cc in absurd no
