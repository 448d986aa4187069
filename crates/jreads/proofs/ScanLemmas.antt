-- How the steps of `check --scan` go together.
use Rattle.std.proofs.Common.{◌≡◌, ◌++◌, ℕ, List, [], None, Some, Err, refl, subst, sym}
use Rattle.std.specs.Prelude.{IfSome, Result, option_map}
use Rattle.flashbase.specs.Sinks.{SinkChange}
use Rattle.jnode.specs.declared.order.Endian.{Endian}
use Rattle.jedge.specs.Acts.{CountsOutput, DoesFrom, and_closed, closes}
use Rattle.jedge.specs.Calls.{Answers, Event}
use Rattle.jedge.specs.Told.{Told}
use Rattle.jedge.specs.declared.fault.Fault.{Fault}
use Rattle.jedge.specs.declared.fault.Fault.TheVariants as fault
use Rattle.jedge.proofs.Steps.{History, all_told, nothing_done, then_err, then_ok}
use Rattle.jreads.specs.Scanning.{scans_open}
use Rattle.jreads.specs.Streaming.{PutsScan}
use Rattle.jreads.proofs.CutsLemmas.{lacks_memory, with_memory}

-- there is no memory for the output
pub scan_unprinted : (e : Endian) (size : ℕ) (name : List ℕ) {h new : History} {f : Fault} → new ≡ h → f ≡ fault.OutOfMemory
    → DoesFrom h new (scans_open e size name) (Err f)
scan_unprinted e size name {h} {new} {f} same is = then_err (nothing_done same (refl, lacks_memory f is))

-- what is known where it is told what happened stays known when more has happened
still_told : (h new : History) (more : List Event) (P : Type 0) → new ≡ option_map (λ told. told ++ more) h → IfSome h (λ _. P) → IfSome new (λ _. P)
still_told None None more P is known = tt
still_told None (Some events) more P is known = let no : ⊥ = cc in absurd no
still_told (Some told) None more P is known = let no : ⊥ = cc in absurd no
still_told (Some told) (Some events) more P is known = known

-- a sink that took nothing yet, the report of a file that goes into it as the file is read, and the
-- end of it
pub scan_printed : (e : Endian) (size : ℕ) (name : List ℕ) {h begun mid new : History} (s : SinkChange) {answer result : Result Told Fault} {closed : Result Unit Fault}
    → begun ≡ h → s.before ≡ 0 → IfSome h (λ _. s.old ≡ Some []) → PutsScan e size name begun mid s answer
    → ((text : List ℕ) → IfSome mid (λ _. s.new ≡ Some text) → DoesFrom mid new (closes Answers s.now text) closed)
    → result ≡ and_closed answer closed
    → DoesFrom h new (scans_open e size name) result
scan_printed e size name {h} {begun} {mid} {new} s {answer} {result} {closed} same none fresh puts ends is =
    let fresh_then : IfSome mid (λ _. s.old ≡ Some []) =
    still_told begun mid puts.reads.events (s.old ≡ Some []) puts.reads.told (subst (λ (k : History). IfSome k (λ _. s.old ≡ Some [])) (sym same) fresh) in
    let done = ends puts.puts.text (all_told mid s.old s.new puts.puts.text fresh_then puts.puts.put) in
    subst (λ (k : History). DoesFrom k new (scans_open e size name) result) same
    (with_memory (then_ok puts.reads (record {
      events = done.events;
      acts = record {
        text = puts.puts.text;
        answer = answer;
        failures = s.now;
        closed = closed;
        says = puts.puts.says;
        counts = subst (λ (n : ℕ). CountsOutput n s.now answer) none puts.puts.counts;
        out = done.acts;
        comes_to = is;
      };
      told = done.told;
    })))
