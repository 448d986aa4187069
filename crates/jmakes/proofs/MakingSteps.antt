-- How the steps of making a file go together.
use Rattle.std.proofs.Common.{◌≡◌, ◌++◌, ℕ, Bool, List, [], Option, None, Some, Result, Ok, refl, sym, subst}
use Rattle.std.specs.Io.KnownBytes.{Appends}
use Rattle.std.specs.Prelude.{IfSome, option_map}
use Rattle.flashbase.specs.Sinks.{SinkChange}
use Rattle.jedge.proofs.Steps.{History, all_told}
use Rattle.jedge.specs.Acts.{Act, CountsOutput, DoesFrom, PutsBy, Saying, and_closed, closes, prints_put}
use Rattle.jedge.specs.Calls.{Answers, Event}
use Rattle.jedge.specs.declared.fault.Fault.{Fault}
use Rattle.jmakes.specs.Making.{FileMade, FilePlace, FileSaying, closes_file, puts_out}
use Rattle.jmakes.specs.declared.wanted.CloseFault.{CloseFault}
use Rattle.jmakes.specs.declared.wanted.Filling.{Filling}

-- a call put a text into a file, and that was given out to it
pub put_out : {A : Type 0} {h new : History} {Puts : FileSaying A} {IsWell : A → Bool} {to : Option Filling} {place : FilePlace} {answer : A} {closed : Result Unit CloseFault} (text : List ℕ) (failures : ℕ)
    → Puts text failures answer
    → DoesFrom h new (closes_file place to (IsWell answer) failures text) (Ok closed)
    → DoesFrom h new (puts_out Puts IsWell to place) (Ok (record { answer = answer; closed = closed }))
put_out {answer} {closed} text failures puts done = record {
  events = done.events;
  acts = record {
    text = text;
    failures = failures;
    made = record { answer = answer; closed = closed };
    puts = puts;
    ends = done.acts;
    is = refl;
  };
  told = done.told;
}

-- the same by what the sink of the file tells, which took nothing before
pub made_put : {A : Type 0} {h new : History} {Puts : FileSaying A} {IsWell : A → Bool} {to : Option Filling} {place : FilePlace} {answer : A} {closed : Result Unit CloseFault} (s : SinkChange) (text : List ℕ)
    → IfSome h (λ _. s.old ≡ Some []) → Appends s.old s.new text → Puts text s.now answer
    → ((t : List ℕ) → IfSome h (λ _. s.new ≡ Some t) → DoesFrom h new (closes_file place to (IsWell answer) s.now t) (Ok closed))
    → DoesFrom h new (puts_out Puts IsWell to place) (Ok (record { answer = answer; closed = closed }))
made_put {h} s text fresh put puts ends = put_out text s.now puts (ends text (all_told h s.old s.new text fresh put))

told_later : (X : Type 0) (old : History) (events : List Event) → IfSome old (λ _. X) → IfSome (option_map (λ told. told ++ events) old) (λ _. X)
told_later X None events is = tt
told_later X (Some told) events is = is

-- what holds where it is told what happened holds after an act too
pub some_later : {A : Type 0} (X : Type 0) {old mid : History} {act : Act A} {r : Result A Fault} → DoesFrom old mid act r → IfSome old (λ _. X) → IfSome mid (λ _. X)
some_later X {old} done is = subst (λ (h : History). IfSome h (λ _. X)) (sym done.told) (told_later X old done.events is)

-- a sink that took nothing yet, a call that puts a text into it, and the end of it, where the memory
-- for it was taken before
pub put_printed : {A : Type 0} {h new : History} {Says : Saying A} (s : SinkChange) {answer result : Result A Fault} {closed : Result Unit Fault}
    → s.before ≡ 0 → IfSome h (λ _. s.old ≡ Some []) → PutsBy Says s answer
    → ((text : List ℕ) → IfSome h (λ _. s.new ≡ Some text) → DoesFrom h new (closes Answers s.now text) closed)
    → result ≡ and_closed answer closed
    → DoesFrom h new (prints_put Says) result
put_printed {h} s {answer} {result} {closed} none fresh puts ends is =
    let done = ends puts.text (all_told h s.old s.new puts.text fresh puts.put) in record {
      events = done.events;
      acts = record {
        text = puts.text;
        answer = answer;
        failures = s.now;
        closed = closed;
        says = puts.says;
        counts = subst (λ (n : ℕ). CountsOutput n s.now answer) none puts.counts;
        out = done.acts;
        comes_to = is;
      };
      told = done.told;
    }
