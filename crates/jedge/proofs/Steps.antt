-- How the steps of a command go together: one after another, an end by a fault, a text that is
-- printed.
use Rattle.std.proofs.Common.{◌≡◌, ℕ, List, [], ◌++◌, Option, None, Some, Ok, Err, refl, sym, ap, arith, subst, ◌∙◌, inl, inr, append_assoc}
use Rattle.std.specs.Io.KnownBytes.{Appends}
use Rattle.std.specs.Prelude.{IfSome, Result, drop, option_map, take}
use Rattle.std.proofs.lemmas.List.{append-nil, take-append-drop}
use Rattle.flashbase.specs.Device.{Puts, next_count}
use Rattle.flashbase.specs.Sinks.{SinkChange}
use Rattle.flashbase.specs.declared.source.DeviceFault.{DeviceFault}
use Rattle.jedge.specs.Acts.{Act, Then, Ends, GoesOn, DoesFrom, CountsOutput, PutsBy, Saying, answers, and_closed, IsPrintedInPart, closes, closes_errors, prints, says, seen_as}
use Rattle.jedge.specs.Calls.{Answers, Errors, Event}
use Rattle.jcommand.specs.declared.outcome.Outcome.{Outcome}
use Rattle.jedge.specs.Commands.{ends, reported}
use Rattle.jedge.specs.Told.{Told}
use Rattle.jedge.specs.declared.fault.Fault.{Fault}
use Rattle.jedge.specs.declared.fault.Fault.TheVariants as fault

abbrev pub History : Type 0
History = Option (List Event)

-- the first step ends it
pub then_err : {A B : Type 0} {old new : History} {first : Act A} {next : A → Act B} {f : Fault}
    → DoesFrom old new first (Err f) → DoesFrom old new (Then first next) (Err f)
then_err {f} done = record { events = done.events; acts = Ends f done.acts refl; told = done.told }

pub joined : (old : History) (one two : List Event) → option_map (λ told. told ++ two) (option_map (λ told. told ++ one) old) ≡ option_map (λ told. told ++ (one ++ two)) old
joined None one two = refl
joined (Some told) one two = ap (λ (l : List Event). Some l) (append_assoc told one two)

-- the first step, and what comes after it
pub then_ok : {A B : Type 0} {old mid new : History} {first : Act A} {next : A → Act B} {x : A} {r : Result B Fault}
    → DoesFrom old mid first (Ok x) → DoesFrom mid new (next x) r → DoesFrom old new (Then first next) r
then_ok {old} {x} done more = record {
  events = done.events ++ more.events;
  acts = GoesOn x done.events more.events done.acts more.acts refl;
  told = more.told ∙ ap (option_map (λ told. told ++ more.events)) done.told ∙ joined old done.events more.events;
}

pub none_more : (old : History) → old ≡ option_map (λ told. told ++ []) old
none_more None = refl
none_more (Some told) = ap (λ (l : List Event). Some l) (sym (append-nil told))

-- nothing happens
pub nothing_done : {A : Type 0} {old new : History} {act : Act A} {r : Result A Fault} → new ≡ old → act [] r → DoesFrom old new act r
nothing_done {old} same is = record { events = []; acts = is; told = same ∙ none_more old }

-- a call of a library that touches no device
pub answered : {A : Type 0} {old : History} {Is : Result A Fault → Type 0} {r : Result A Fault} → Is r → DoesFrom old old (answers Is) r
answered is = nothing_done refl (refl, is)

-- there is no memory for the output
pub not_printed : {A : Type 0} {old new : History} {Says : Saying A} {f : Fault} → new ≡ old → f ≡ fault.OutOfMemory → DoesFrom old new (prints Says) (Err f)
not_printed {A} same is = nothing_done same (inr (refl, ap (λ (g : Fault). Err g) is))

pub all_told : (h : History) (old new : Option (List ℕ)) (text : List ℕ) → IfSome h (λ _. old ≡ Some []) → Appends old new text → IfSome h (λ _. new ≡ Some text)
all_told None old new text fresh puts = tt
all_told (Some told) None new text fresh puts = cc
all_told (Some told) (Some taken) None text fresh puts = absurd puts
all_told (Some told) (Some taken) (Some all) text fresh puts = let none : taken ≡ [] = cc in ap (λ (l : List ℕ). Some l) (puts ∙ ap (λ (l : List ℕ). l ++ text) none)

-- a sink that took nothing yet, a call that puts a text into it, and the end of it
pub printed_put : {A : Type 0} {h mid new : History} {Says : Saying A} (s : SinkChange) {answer result : Result A Fault} {closed : Result Unit Fault}
    → mid ≡ h → s.before ≡ 0 → IfSome h (λ _. s.old ≡ Some []) → PutsBy Says s answer
    → ((text : List ℕ) → IfSome mid (λ _. s.new ≡ Some text) → DoesFrom mid new (closes Answers s.now text) closed)
    → result ≡ and_closed answer closed
    → DoesFrom h new (prints Says) result
printed_put {h} {mid} {new} s {answer} {result} {closed} same none fresh puts ends is =
    let told = subst (λ (k : History). IfSome k (λ _. s.new ≡ Some puts.text)) (sym same) (all_told h s.old s.new puts.text fresh puts.put) in
    let done = subst (λ (k : History). DoesFrom k new (closes Answers s.now puts.text) closed) same (ends puts.text told) in record {
      events = done.events;
      acts = inl (record {
        text = puts.text;
        answer = answer;
        failures = s.now;
        closed = closed;
        says = puts.says;
        counts = subst (λ (n : ℕ). CountsOutput n s.now answer) none puts.counts;
        out = done.acts;
        comes_to = is;
      });
      told = done.told;
    }

-- the answer of a call whose output was closed, as contracts see it
pub seen_closed : {A B : Type 0} (view : A → B) (answer : Result A Fault) (closed : Result Unit Fault) → seen_as view (and_closed answer closed) ≡ and_closed (seen_as view answer) closed
seen_closed view (Ok x) (Ok _) = refl
seen_closed view (Ok x) (Err f) = refl
seen_closed view (Err f) closed = refl

-- the same of another act, which the events and the answer make too
pub mapped : {A B : Type 0} {old new : History} {act : Act A} {other : Act B} {r : Result A Fault} {q : Result B Fault}
    → ((events : List Event) → act events r → other events q) → DoesFrom old new act r → DoesFrom old new other q
mapped to done = record { events = done.events; acts = to done.events done.acts; told = done.told }

-- a beginning of a beginning is printed
pub cut_again : (text begun left : List ℕ) (events : List Event) → text ≡ begun ++ left → IsPrintedInPart Errors begun events → IsPrintedInPart Errors text events
cut_again text begun left events is cut = record {
  begun = cut.begun;
  left = cut.left ++ left;
  rest = cut.rest;
  reason = cut.reason;
  of = is ∙ ap (λ (l : List ℕ). l ++ left) cut.of ∙ append_assoc cut.begun cut.left left;
  happened = cut.happened;
}

pub one_is_none : {n : ℕ} → next_count n ≡ 0 → n ≡ 0 → ⊥
one_is_none is none = let no : 1 ≡ 0 = sym (ap next_count none) ∙ is in omega (arith, no)

pub all_said : {h new : History} (old taken : Option (List ℕ)) (before now : ℕ) (text : List ℕ) {x : Unit}
    → before ≡ 0 → IfSome h (λ _. old ≡ Some []) → (r : Result Unit DeviceFault) → Puts old taken before now text r
    → ((t : List ℕ) → IfSome h (λ _. taken ≡ Some t) → DoesFrom h new (closes_errors now t) (Ok x))
    → DoesFrom h new (says (Some text)) (Ok x)
all_said {h} old taken before now text none fresh (Ok _) puts ends =
    mapped (λ (events : List Event) done. elim done [ inl w ↦ inl w.1 | inr w ↦ inr w ]) (ends text (all_told h old taken text fresh puts.0))
all_said {h} old taken before now text none fresh (Err _) puts ends =
    let n : ℕ = puts.0.0 in
    mapped (λ (events : List Event) done. elim done [ inl w ↦ absurd (one_is_none (sym puts.1 ∙ w.0) none) | inr w ↦ inr (cut_again text (take n text) (drop n text) events (sym (take-append-drop n text)) w) ])
    (ends (take n text) (all_told h old taken (take n text) fresh puts.0.1))

-- what a call puts into a sink that took nothing yet is said
pub said_put : {h mid new : History} (old taken : Option (List ℕ)) (before now : ℕ) {text : List ℕ} (r : Result Unit DeviceFault) {x : Unit}
    → mid ≡ h → before ≡ 0 → IfSome h (λ _. old ≡ Some []) → Puts old taken before now text r
    → ((t : List ℕ) → IfSome mid (λ _. taken ≡ Some t) → DoesFrom mid new (closes_errors now t) (Ok x))
    → DoesFrom h new (says (Some text)) (Ok x)
said_put {h} {mid} {new} old taken before now {text} r {x} same none fresh puts ends =
    all_said old taken before now text none fresh r puts
    (subst (λ (k : History). (t : List ℕ) → IfSome k (λ _. taken ≡ Some t) → DoesFrom k new (closes_errors now t) (Ok x)) same ends)

-- the same call seen to put another text, which is the same one
pub puts_at : {X A : Type 0} {s : SinkChange} {r : Result A Fault} (Says : X → Saying A) {x y : X} → x ≡ y → PutsBy (Says x) s r → PutsBy (Says y) s r
puts_at {X} {s} {r} Says is puts = subst (λ (z : X). PutsBy (Says z) s r) is puts

-- a command is gone through, and its answer told
pub then_reported : {old mid new : History} {act : Act Told} {answer : Result Told Fault} {r : Result Outcome Fault}
    → DoesFrom old mid act answer → DoesFrom mid new (ends answer) r → DoesFrom old new (reported act) r
then_reported {old} {answer} done more = record {
  events = done.events ++ more.events;
  acts = record {
    answer = answer;
    work = done.events;
    last = more.events;
    worked = done.acts;
    ended = more.acts;
    all = refl;
  };
  told = more.told ∙ ap (option_map (λ told. told ++ more.events)) done.told ∙ joined old done.events more.events;
}

-- the first step was done, and the next one was done and reported
pub step_reported : {A : Type 0} {old mid new : History} {first : Act A} {next : A → Act Told} {x : A} {r : Result Outcome Fault}
    → DoesFrom old mid first (Ok x) → DoesFrom mid new (reported (next x)) r → DoesFrom old new (reported (Then first next)) r
step_reported {old} {x} begun done = record {
  events = begun.events ++ done.events;
  acts = record {
    answer = done.acts.answer;
    work = begun.events ++ done.acts.work;
    last = done.acts.last;
    worked = GoesOn x begun.events done.acts.work begun.acts done.acts.worked refl;
    ended = done.acts.ended;
    all = ap (λ (l : List Event). begun.events ++ l) done.acts.all ∙ sym (append_assoc begun.events done.acts.work done.acts.last);
  };
  told = done.told ∙ ap (option_map (λ told. told ++ done.events)) begun.told ∙ joined old begun.events done.events;
}

-- the same where what is answered, or done, is seen of an equal thing
pub answered_at : {X A : Type 0} {old : History} (Is : X → Result A Fault → Type 0) {x y : X} {r : Result A Fault} → x ≡ y → Is x r → DoesFrom old old (answers (Is y)) r
answered_at {X} Is {x} {y} {r} same is = answered (subst (λ (z : X). Is z r) same is)

pub does_at : {X A : Type 0} {old new : History} (act : X → Act A) {x y : X} {r : Result A Fault} → x ≡ y → DoesFrom old new (act x) r → DoesFrom old new (act y) r
does_at {X} {A} {old} {new} act {x} {y} {r} same done = subst (λ (z : X). DoesFrom old new (act z) r) same done
