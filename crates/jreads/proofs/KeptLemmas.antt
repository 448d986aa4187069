-- Each file that lines name is measured, and kept.
use Rattle.std.proofs.Common.{◌≡◌, ◌⊎◌, ◌∙◌, ◌++◌, ◌+◌, ◌≤◌, ℕ, Bool, true, false, List, [], ◌∷◌, Option, Some, None, Ok, ap, arith, inl, inr, refl, subst, sym}
use Rattle.std.specs.Prelude.{◌||◌, Contains, Result, bytes_eq, if◌then◌else◌, is_some}
use Rattle.std.proofs.lemmas.Bool.{true≢false}
use Rattle.std.proofs.lemmas.List.Elements.{Contains-append_left, Contains-push, Contains-push_cases}
use Rattle.std.proofs.lemmas.List.Sums.{sum_by_push}
use Rattle.std.proofs.lemmas.Slice.Eq.{bytes_eq-Decides}
use Rattle.flashbase.proofs.MemberLemmas.{Contains-cases, Contains-here, Contains-none, Contains-there}
use Rattle.jscan.specs.Image.{greatest_image}
use Rattle.jbuild.specs.HostFiles.{read_of}
use Rattle.jbuild.specs.declared.host_files.HostFiles.{HostFiles}
use Rattle.jedge.specs.Acts.{Then, Ends, GoesOn, answers, opens}
use Rattle.jedge.specs.Calls.{Event, Did, Measure, Read}
use Rattle.jedge.specs.Laws.{Happened}
use Rattle.jedge.specs.declared.fault.Fault.{Fault}
use Rattle.jedge.proofs.BlamingLemmas.{after_more, before_more}
use Rattle.jreads.specs.Named.{CountsMeasured, KeepsFile, Measured, each, files_named, loads_if, loads_one, measures, measures_if, measures_one, reads_with, total, was_measured}
use Rattle.jreads.specs.ReadLaws.{AreAllKept, AreAllMeasured, IsFileKept}

-- ---- two steps

-- where both answer, the events of both
pub record Both {A B : Type 0} (first : List Event → Result A Fault → Type 0) (next : A → List Event → Result B Fault → Type 0) (events : List Event) (y : B) : Type 0 where
  pub x : A
  pub before : List Event
  pub after : List Event
  pub one : first before (Ok x)
  pub two : next x after (Ok y)
  pub all : events ≡ before ++ after

pub both_done : {A B : Type 0} {first : List Event → Result A Fault → Type 0} {next : A → List Event → Result B Fault → Type 0} {events : List Event} {y : B}
    → Then first next events (Ok y) → Both first next events y
both_done (Ends f did is) = let no : ⊥ = cc in absurd no
both_done (GoesOn x before after did more is) = record {
  x = x;
  before = before;
  after = after;
  one = did;
  two = more;
  all = is;
}

happened_in : (event : Event) {events other : List Event} → events ≡ other → Happened event other → Happened event events
happened_in event is did = subst (λ (l : List Event). Happened event l) (sym is) did

-- ---- files that are kept

-- these bytes of a file were read, or it had them before
abbrev pub AreFrom : HostFiles → List Event → List ℕ → List ℕ → Type 0
AreFrom old events name bytes = (read_of old name ≡ Some bytes) ⊎ Happened (Did (Read name bytes)) events

-- The files of these names are kept, and those that were kept before still are; no other bytes are
-- kept than those that were read.
pub record Keeps (names : List (List ℕ)) (old new : HostFiles) (events : List Event) : Type 0 where
  pub there : (name : List ℕ) → Contains names name → (bytes : List ℕ) × (read_of new name ≡ Some bytes)
  pub stays : (other bytes : List ℕ) → read_of old other ≡ Some bytes → read_of new other ≡ Some bytes
  pub from : (other bytes : List ℕ) → read_of new other ≡ Some bytes → AreFrom old events other bytes

is_kept : (names : List (List ℕ)) (old new : HostFiles) (events : List Event) → Keeps names old new events → (name : List ℕ) → Contains names name → IsFileKept old new events name
is_kept names old new events keeps name within =
    let there = keeps.there name within in (there.0, there.1, keeps.from name there.0 there.1)

-- none of them has to be read
kept_same : (names : List (List ℕ)) (old new : HostFiles) (events : List Event) → new ≡ old
    → ((name : List ℕ) → Contains names name → (bytes : List ℕ) × (read_of old name ≡ Some bytes)) → Keeps names old new events
kept_same names old new events same there = record {
  there = λ name within. let had = there name within in (had.0, ap (λ (files : HostFiles). read_of files name) same ∙ had.1);
  stays = λ other bytes was. ap (λ (files : HostFiles). read_of files other) same ∙ was;
  from = λ other bytes is. inl (ap (λ (files : HostFiles). read_of files other) (sym same) ∙ is);
}

-- ---- one file

some_bytes : (o : Option (List ℕ)) → is_some o ≡ true → (bytes : List ℕ) × (o ≡ Some bytes)
some_bytes None is = absurd (true≢false (sym is))
some_bytes (Some bytes) is = (bytes, refl)

first_within : (first name : List ℕ) → first ≡ name → Contains (first ∷ []) name
first_within first name is = subst (λ (n : List ℕ). Contains (first ∷ []) n) is (Contains-here first [])

only : (first name : List ℕ) → Contains (first ∷ []) name → first ≡ name
only first name within = elim (Contains-cases first [] name within) [ inl is ↦ is | inr none ↦ absurd (Contains-none name none) ]

if_this : (b : Bool) (bytes : List ℕ) (seen : Option (List ℕ)) → b ≡ true → (if b then Some bytes else seen) ≡ Some bytes
if_this true bytes seen is = refl
if_this false bytes seen is = absurd (true≢false (sym is))

-- a file that was kept before has another name than one that was not, and stays
stays_by : (b : Bool) (name other bytes more : List ℕ) (old : HostFiles) → is_some (read_of old name) ≡ false → b ≡ bytes_eq name other → read_of old other ≡ Some more
    → (if b then Some bytes else read_of old other) ≡ Some more
stays_by false name other bytes more old absent is was = was
stays_by true name other bytes more old absent is was =
    let same : name ≡ other = (bytes_eq-Decides name other).0 (sym is) in
    absurd (true≢false (sym (ap is_some (ap (read_of old) same ∙ was)) ∙ absent))

from_by : (b : Bool) (name other bytes more : List ℕ) (old : HostFiles) (events : List Event) → b ≡ bytes_eq name other → Happened (Did (Read name bytes)) events
    → (if b then Some bytes else read_of old other) ≡ Some more → AreFrom old events other more
from_by false name other bytes more old events is did has = inl has
from_by true name other bytes more old events is did has =
    let same : name ≡ other = (bytes_eq-Decides name other).0 (sym is) in
    let alike : bytes ≡ more = cc in
    inr (subst (λ (l : List ℕ). Happened (Did (Read other l)) events) alike (subst (λ (n : List ℕ). Happened (Did (Read n bytes)) events) same did))

kept_now : (name bytes : List ℕ) (old new : HostFiles) (events : List Event) → is_some (read_of old name) ≡ false → KeepsFile name bytes old (Ok new)
    → Happened (Did (Read name bytes)) events → Keeps (name ∷ []) old new events
kept_now name bytes old new events absent keeps did = record {
  there = λ other within. let same : name ≡ other = only name other within in (
    bytes,
    keeps other ∙ if_this (bytes_eq name other) bytes (read_of old other) ((bytes_eq-Decides name other).1 same),
  );
  stays = λ other more was. keeps other ∙ stays_by (bytes_eq name other) name other bytes more old absent refl was;
  from = λ other more has. from_by (bytes_eq name other) name other bytes more old events refl did (sym (keeps other) ∙ has);
}

-- it is opened, and read to its end
kept_read : (name : List ℕ) (old new : HostFiles) (events : List Event) → is_some (read_of old name) ≡ false → Then (opens name) (reads_with old) events (Ok new) → Keeps (name ∷ []) old new events
kept_read name old new events absent did =
    let opened = both_done did in
    let read = both_done opened.two in
    let named : opened.x ≡ name = opened.one.0 in
    let event = Did (Read opened.x read.x) in
    let first : Happened event read.before = happened_in event read.one.0 (inl refl) in
    let later : Happened event opened.after = happened_in event read.all (before_more event read.before read.after first) in
    let all : Happened event events = happened_in event opened.all (after_more event opened.before opened.after later) in
    kept_now name read.x old new events absent (subst (λ (n : List ℕ). KeepsFile n read.x old (Ok new)) named read.two.1)
    (subst (λ (n : List ℕ). Happened (Did (Read n read.x)) events) named all)

kept_by : (b : Bool) (name : List ℕ) (old new : HostFiles) (events : List Event) → is_some (read_of old name) ≡ b → loads_if b name old events (Ok new) → Keeps (name ∷ []) old new events
kept_by true name old new events there did =
    let same : new ≡ old = cc in
    kept_same (name ∷ []) old new events same (λ other within. some_bytes (read_of old other) (ap (λ (n : List ℕ). is_some (read_of old n)) (sym (only name other within)) ∙ there))
kept_by false name old new events absent did = kept_read name old new events absent did

-- ---- one after the other

kept_both : (name : List ℕ) (names : List (List ℕ)) (old mid new : HostFiles) (events before after : List Event) → events ≡ before ++ after
    → Keeps (name ∷ []) old mid before → Keeps names mid new after → Keeps (name ∷ names) old new events
kept_both name names old mid new events before after all one others = record {
  there = λ other within. elim (Contains-cases name names other within) [
    | inl is ↦ (let had = one.there other (first_within name other is) in (had.0, others.stays other had.0 had.1))
    | inr more ↦ others.there other more
  ];
  stays = λ other bytes was. others.stays other bytes (one.stays other bytes was);
  from = λ other bytes has. elim (others.from other bytes has) [
    | inl mid_has ↦ elim (one.from other bytes mid_has) [ inl was ↦ inl was | inr did ↦ inr (happened_in _ all (before_more _ before after did)) ]
    | inr did ↦ inr (happened_in _ all (after_more _ before after did))
  ];
}

each_kept : (names : List (List ℕ)) (old new : HostFiles) (events : List Event) → each loads_one names old events (Ok new) → Keeps names old new events
each_kept [] old new events did =
    let same : new ≡ old = cc in kept_same [] old new events same (λ name within. absurd (Contains-none name within))
each_kept (name ∷ names) old new events did =
    let both = both_done did in
    kept_both name names old both.x new events both.before both.after both.all
    (kept_by (is_some (read_of old name)) name old both.x both.before refl both.one)
    (each_kept names both.x new both.after both.two)

pub all_are_kept : AreAllKept
all_are_kept lines before files events did name within =
    let both = both_done did in
    let keeps = each_kept (files_named lines) before files both.after both.two in
    let kept = is_kept (files_named lines) before files both.after keeps name within in (
      kept.0,
      kept.1,
      elim kept.2 [ inl was ↦ inl was | inr read ↦ inr (happened_in _ both.all (after_more _ both.before both.after read)) ],
    )

-- ---- how long they are

-- Those of these names are among them, each measured now or before; and they are together no longer
-- than the greatest image.
pub record Measures (names : List (List ℕ)) (old new : List Measured) (events : List Event) : Type 0 where
  pub there : (name : List ℕ) → Contains names name → (n : ℕ) × Contains new (record { name = name; bytes = n })
  pub stays : (file : Measured) → Contains old file → Contains new file
  pub from : (file : Measured) → Contains new file → Contains old file ⊎ Happened (Did (Measure file.name file.bytes)) events
  pub fits : total old ≤ greatest_image → total new ≤ greatest_image

measured_among : (name : List ℕ) (files : List Measured) → was_measured name files ≡ true → (n : ℕ) × Contains files (record { name = name; bytes = n })
measured_among name [] is = absurd (true≢false (sym is))
measured_among name (file ∷ files) is = by (bytes_eq file.name name) refl (λ later. measured_among name files later) is
  where
    by : (b : Bool) → b ≡ bytes_eq file.name name → (was_measured name files ≡ true → (n : ℕ) × Contains files (record { name = name; bytes = n }))
        → (b || was_measured name files) ≡ true → (n : ℕ) × Contains (file ∷ files) (record { name = name; bytes = n })
    by true same others is =
        let is_named : file.name ≡ name = (bytes_eq-Decides file.name name).0 (sym same) in
        let alike : file ≡ record { name = name; bytes = file.bytes } = ap (λ (l : List ℕ). record { name = l; bytes = file.bytes }) is_named in
        (file.bytes, subst (λ (f : Measured). Contains (file ∷ files) f) alike (Contains-here file files))
    by false same others is = let more = others is in (more.0, Contains-there file files _ more.1)

measured_same : (name : List ℕ) (old new : List Measured) (events : List Event) → new ≡ old → was_measured name old ≡ true → Measures (name ∷ []) old new events
measured_same name old new events same there = record {
  there = λ other within. let had = measured_among other old (ap (λ (l : List ℕ). was_measured l old) (sym (only name other within)) ∙ there) in (
    had.0,
    subst (λ (l : List Measured). Contains l (record { name = other; bytes = had.0 })) (sym same) had.1,
  );
  stays = λ file had. subst (λ (l : List Measured). Contains l file) (sym same) had;
  from = λ file has. inl (subst (λ (l : List Measured). Contains l file) same has);
  fits = λ upto. subst (λ (l : List Measured). total l ≤ greatest_image) (sym same) upto;
}

measured_now : (name : List ℕ) (n : ℕ) (old new : List Measured) (events : List Event) → new ≡ old ++ record { name = name; bytes = n } ∷ []
    → total old + n ≤ greatest_image → Happened (Did (Measure name n)) events → Measures (name ∷ []) old new events
measured_now name n old new events all upto did =
    let file : Measured = record { name = name; bytes = n } in record {
      there = λ other within. (
        n,
        subst (λ (l : List Measured). Contains l (record { name = other; bytes = n })) (sym all)
            (subst (λ (o : List ℕ). Contains (old ++ file ∷ []) (record { name = o; bytes = n })) (only name other within) (Contains-push old file)),
      );
      stays = λ other had. subst (λ (l : List Measured). Contains l other) (sym all) (Contains-append_left old (file ∷ []) other had);
      from = λ other has. elim (Contains-push_cases old file other (subst (λ (l : List Measured). Contains l other) all has)) [
        | inl had ↦ inl had
        | inr is ↦ inr (subst (λ (f : Measured). Happened (Did (Measure f.name f.bytes)) events) is did)
      ];
      fits = λ was. let more : total (old ++ file ∷ []) ≡ total old + n = sum_by_push (λ (f : Measured). f.bytes) old file in
          subst (λ (l : List Measured). total l ≤ greatest_image) (sym all) (omega (arith, more, upto));
    }

measured_fresh : (name : List ℕ) (old new : List Measured) (events : List Event)
    → Then (measures name) (λ n. answers (CountsMeasured old (record { name = name; bytes = n }))) events (Ok new) → Measures (name ∷ []) old new events
measured_fresh name old new events did =
    let both = both_done did in
    let n : ℕ = both.one.0 in
    let alike : both.x ≡ n = cc in
    let event : Happened (Did (Measure name n)) both.before = happened_in (Did (Measure name n)) both.one.2 (inl refl) in
    let counted : CountsMeasured old (record { name = name; bytes = n }) (Ok new) =
    subst (λ (m : ℕ). CountsMeasured old (record { name = name; bytes = m }) (Ok new)) alike both.two.1 in
    measured_now name n old new events counted.0 counted.1 (happened_in (Did (Measure name n)) both.all (before_more (Did (Measure name n)) both.before both.after event))

measured_by : (b : Bool) (name : List ℕ) (old new : List Measured) (events : List Event) → was_measured name old ≡ b → measures_if b name old events (Ok new) → Measures (name ∷ []) old new events
measured_by true name old new events there did = let same : new ≡ old = cc in measured_same name old new events same there
measured_by false name old new events there did = measured_fresh name old new events did

measured_both : (name : List ℕ) (names : List (List ℕ)) (old mid new : List Measured) (events before after : List Event) → events ≡ before ++ after
    → Measures (name ∷ []) old mid before → Measures names mid new after → Measures (name ∷ names) old new events
measured_both name names old mid new events before after all one others = record {
  there = λ other within. elim (Contains-cases name names other within) [
    | inl is ↦ (let had = one.there other (first_within name other is) in (had.0, others.stays (record { name = other; bytes = had.0 }) had.1))
    | inr more ↦ others.there other more
  ];
  stays = λ file was. others.stays file (one.stays file was);
  from = λ file has. elim (others.from file has) [
    | inl mid_has ↦ elim (one.from file mid_has) [ inl was ↦ inl was | inr did ↦ inr (happened_in _ all (before_more _ before after did)) ]
    | inr did ↦ inr (happened_in _ all (after_more _ before after did))
  ];
  fits = λ upto. others.fits (one.fits upto);
}

each_measured : (names : List (List ℕ)) (old new : List Measured) (events : List Event) → each measures_one names old events (Ok new) → Measures names old new events
each_measured [] old new events did =
    let same : new ≡ old = cc in record {
      there = λ name within. absurd (Contains-none name within);
      stays = λ file had. subst (λ (l : List Measured). Contains l file) (sym same) had;
      from = λ file has. inl (subst (λ (l : List Measured). Contains l file) same has);
      fits = λ upto. subst (λ (l : List Measured). total l ≤ greatest_image) (sym same) upto;
    }
each_measured (name ∷ names) old new events did =
    let both = both_done did in
    measured_both name names old both.x new events both.before both.after both.all
    (measured_by (was_measured name old) name old both.x both.before refl both.one)
    (each_measured names both.x new both.after both.two)

pub all_are_measured : AreAllMeasured
all_are_measured lines before files events did =
    let both = both_done did in
    let measured = each_measured (files_named lines) [] both.x both.before both.one in (
      both.x,
      measured.fits (omega arith),
      λ name within.
          let there = measured.there name within in
          let file : Measured = record { name = name; bytes = there.0 } in
          let event : Happened (Did (Measure name there.0)) both.before = elim (measured.from file there.1) [ inl none ↦ absurd (Contains-none file none) | inr happened ↦ happened ] in
          (there.0, there.1, happened_in _ both.all (before_more _ both.before both.after event)),
    )
