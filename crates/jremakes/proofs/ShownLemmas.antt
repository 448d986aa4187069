-- What `compact` writes shows the tree that it read.
use Rattle.std.proofs.Common.{◌≡◌, ℕ, true, List, [], ◌++◌, Option, Result, Ok, Err, refl, sym, ap, subst, ◌∙◌, append_assoc}
use Rattle.std.specs.Prelude.{is_ok}
use Rattle.std.proofs.lemmas.List.{append-nil}
use Rattle.jnode.specs.declared.order.Endian.{Endian}
use Rattle.jmount.specs.Mount.{Mount}
use Rattle.jexpand.specs.Expanded.{unpacked_bytes}
use Rattle.jclash.specs.declared.parting.LeftOut.{LeftOut}
use Rattle.jcollect.proofs.ApartLemmas.{planned_apart_shows}
use Rattle.jcollect.proofs.CompactThroughLemmas.{planned_shows}
use Rattle.jcollect.specs.PlanningApart.{ShowsApart}
use Rattle.jcollect.specs.PlanningThrough.{ShowsCompact}
use Rattle.jcollect.specs.Tiles.{copied_image}
use Rattle.jreport.specs.FoundIn.{found_in}
use Rattle.jedge.proofs.BlamingLemmas.{before_more}
use Rattle.jedge.specs.Acts.{Act, Then, Ends, GoesOn, and_closed, answers, prints_put}
use Rattle.jedge.specs.Calls.{Event, Did, Read}
use Rattle.jedge.specs.Laws.{Happened}
use Rattle.jedge.specs.Told.{Told}
use Rattle.jedge.specs.declared.fault.Fault.{Fault}
use Rattle.jmakes.specs.Making.{Beside, FileMade, FilePlace, InPlace, WantedFile, closes_file, filled_to, makes, puts_out, written_out}
use Rattle.jmakes.specs.declared.wanted.CloseFault.{CloseFault}
use Rattle.jmakes.specs.declared.wanted.Filling.{Filling}
use Rattle.jremakes.proofs.JudgedLemmas.{IsTakenIn, takes_taken}
use Rattle.jremakes.specs.Asked.{AskedRemaking}
use Rattle.jremakes.specs.Commands.{compacts, compacts_apart}
use Rattle.jremakes.specs.Compacting.{CompactPlan, IsCompactPlan, IsCompactable, compact_blocks}
use Rattle.jremakes.specs.Laws.{CompactedApartShows, CompactedShowsTree, ShowsWhatStays, ShowsWhatWasRead, WentOut}
use Rattle.jremakes.specs.Leaving.{left_out_told}
use Rattle.jremakes.specs.Putting.{ComesTo, PutsAll, TakesMemory, TellsLine, remakes}
use Rattle.jremakes.specs.declared.remaking.Unput.{Unput}
use Rattle.jremakes.specs.declared.remaking.Unput.TheVariants as unput

-- ---- bytes that went out

went_at : (bytes : List ℕ) {events other : List Event} → events ≡ other → WentOut bytes other → WentOut bytes events
went_at bytes is went = subst (λ (l : List Event). WentOut bytes l) (sym is) went

went_after : (bytes : List ℕ) (xs ys : List Event) → WentOut bytes ys → WentOut bytes (xs ++ ys)
went_after bytes xs ys is = (
  is.0,
  xs ++ is.1,
  is.2,
  ap (λ (l : List Event). xs ++ l) is.3 ∙ sym (append_assoc xs is.1 (written_out is.0 bytes ++ is.2)),
)

went_before : (bytes : List ℕ) (xs ys : List Event) → WentOut bytes xs → WentOut bytes (xs ++ ys)
went_before bytes xs ys is = (
  is.0,
  is.1,
  is.2 ++ ys,
  ap (λ (l : List Event). l ++ ys) is.3 ∙ (append_assoc is.1 (written_out is.0 bytes ++ is.2) ys
      ∙ ap (λ (l : List Event). is.1 ++ l) (append_assoc (written_out is.0 bytes) is.2 ys)),
)

-- ---- the file gets all

closed_went : (place : FilePlace) (to : Option Filling) (failures : ℕ) (text : List ℕ) (events : List Event) (x : Unit) → closes_file place to true failures text events (Ok (Ok x))
    → WentOut (filled_to to text) events
closed_went (InPlace name) to failures text events x is = (name, [], [], is.1 ∙ sym (append-nil (written_out name (filled_to to text))))
closed_went (Beside other target) to failures text events x is = (other, [], is.1.0, is.1.2)

record IsWell (answer : Result Unit Unput) (closed : Result Unit CloseFault) : Type 0 where
  x : Unit {0}
  answered : answer ≡ Ok x
  y : Unit {0}
  ended : closed ≡ Ok y

comes_well : (name : List ℕ) (answer : Result Unit Unput) (closed : Result Unit CloseFault) (x : Unit) → ComesTo name answer closed (Ok x) → IsWell answer closed
comes_well name (Ok a) (Ok b) x is = record { x = a; answered = refl; y = b; ended = refl }
comes_well name (Ok a) (Err why) x is = absurd is
comes_well name (Err unput.File) closed x is = let no : ⊥ = cc in absurd no
comes_well name (Err unput.OutOfMemory) closed x is = let no : ⊥ = cc in absurd no

put_went : (whole : List ℕ) (to : Option Filling) (place : FilePlace) (events : List Event) (made : FileMade (Result Unit Unput)) → IsWell made.answer made.closed
    → puts_out (PutsAll whole (tt {0})) is_ok to place events (Ok made) → WentOut (filled_to to whole) events
put_went whole to place events made well is =
    let same : made ≡ is.made = cc in
    let answered : is.made.answer ≡ Ok well.x = ap (λ (m : FileMade (Result Unit Unput)). m.answer) (sym same) ∙ well.answered in
    let ended : is.made.closed ≡ Ok well.y = ap (λ (m : FileMade (Result Unit Unput)). m.closed) (sym same) ∙ well.ended in
    let puts = subst (λ (r : Result Unit Unput). PutsAll whole (tt {0}) is.text is.failures r) answered is.puts in
    let ends = subst (λ (r : Result Unit Unput). closes_file place to (is_ok r) is.failures is.text events (Ok is.made.closed)) answered is.ends in
    subst (λ (text : List ℕ). WentOut (filled_to to text) events) puts.0
    (closed_went place to is.failures is.text events well.y (subst (λ (r : Result Unit CloseFault). closes_file place to true is.failures is.text events (Ok r)) ended ends))

makes_went : (whole : List ℕ) (file : WantedFile) (events : List Event) (made : FileMade (Result Unit Unput)) → IsWell made.answer made.closed → makes file (PutsAll whole (tt {0})) is_ok events (Ok made)
    → WentOut (filled_to file.filling whole) events
makes_went whole file events made well (Ends f did is) = let no : ⊥ = cc in absurd no
makes_went whole file events made well (GoesOn place before after did more is) =
    went_at _ is (went_after _ before after (put_went whole file.filling place after made well more))

remakes_went : (whole : List ℕ) (file : WantedFile) (events : List Event) (x : Unit) → remakes file (PutsAll whole (tt {0})) events (Ok x) → WentOut (filled_to file.filling whole) events
remakes_went whole file events x (Ends f did is) = let no : ⊥ = cc in absurd no
remakes_went whole file events x (GoesOn made before after did more is) =
    went_at _ is (went_before _ before after (makes_went whole file before made (comes_well file.name made.answer made.closed x more.1) did))

-- ---- the tree is the same

plan_shows : (e : Endian) (size blocks : ℕ) (image : List ℕ) (plan : CompactPlan) → IsCompactPlan e size blocks image plan → ShowsCompact e size image (copied_image e size image plan.addresses)
plan_shows e size blocks image plan is =
    let m : Mount = is.0 in
    let held : List ℕ = unpacked_bytes e size m.image in
    subst (λ (l : List ℕ). ShowsCompact e size l (copied_image e size l plan.addresses)) is.1.0
    (planned_shows e size blocks held m plan.addresses plan.nodes plan.bytes (record { mount = is.1.1; contents = ([], sym (append-nil held)) }) is.2)

-- a file is made of which this holds
record MakesOf (Shows : List ℕ → Type 0) (file : WantedFile) (events : List Event) : Type 0 where
  out : List ℕ
  shows : Shows out
  put : WentOut (filled_to file.filling out) events

made_after : (Shows : List ℕ → Type 0) (file : WantedFile) {events : List Event} (xs ys : List Event) → events ≡ xs ++ ys → MakesOf Shows file ys → MakesOf Shows file events
made_after Shows file xs ys is made = record {
  out = made.out;
  shows = made.shows;
  put = went_at _ is (went_after _ xs ys made.put);
}

-- where the image goes out whole, and then the line
abbrev lines_on : WantedFile → List ℕ → (Unit {0} → Act Told) → Act Told
lines_on file out next = Then (remakes file (PutsAll out (tt {0}))) next

put_made : (Shows : List ℕ → Type 0) (file : WantedFile) (out : List ℕ) (next : Unit {0} → Act Told) (events : List Event) (told : Told) → Shows out
    → lines_on file out next events (Ok told) → MakesOf Shows file events
put_made Shows file out next events told shows (Ends f did is) = let no : ⊥ = cc in absurd no
put_made Shows file out next events told shows (GoesOn x before after did more is) = record {
  out = out;
  shows = shows;
  put = went_at _ is (went_before _ before after (remakes_went _ file before x did));
}

memory_made : (Shows : List ℕ → Type 0) (file : WantedFile) (out : List ℕ) (next : Unit {0} → Act Told) (events : List Event) (told : Told) → Shows out
    → Then (answers TakesMemory) (λ _. lines_on file out next) events (Ok told) → MakesOf Shows file events
memory_made Shows file out next events told shows (Ends f did is) = let no : ⊥ = cc in absurd no
memory_made Shows file out next events told shows (GoesOn x before after did more is) = made_after Shows file before after is (put_made Shows file out next after told shows more)

compacts_shown : (e : Endian) (size blocks : ℕ) (file : WantedFile) (image : List ℕ) (events : List Event) (told : Told) → compacts e size blocks file image events (Ok told)
    → MakesOf (ShowsCompact e size image) file events
compacts_shown e size blocks file image events told (Ends f did is) = let no : ⊥ = cc in absurd no
compacts_shown e size blocks file image events told (GoesOn plan before after did more is) = made_after (ShowsCompact e size image) file before after is
    (memory_made (ShowsCompact e size image) file (copied_image e size image plan.addresses) _ after told (plan_shows e size blocks image plan did.1) more)

pub compacted_shows_tree : CompactedShowsTree
compacted_shows_tree asked blocks events told (Ends f did is) = let no : ⊥ = cc in absurd no
compacted_shows_tree asked blocks events told (GoesOn image before after did more is) =
    let e = asked.options.endian in
    let size : ℕ = asked.options.geometry.block in
    let taken = takes_taken e asked before image did in
    let shown = compacts_shown e size (compact_blocks size blocks) asked.output image after told more in record {
      image = image;
      out = shown.out;
      read = subst (λ (l : List Event). Happened (Did (Read asked.image image)) l) (sym is) (before_more _ before after taken.read);
      shows = shown.shows;
      put = went_at _ is (went_after _ before after shown.put);
    }

-- ---- without nodes that clash

-- what is told of an act that answers is told behind each of its steps
line_told : {A : Type 0} (line : List ℕ) (x y : A) (events : List Event) → prints_put (TellsLine line x) events (Ok y) → y ≡ x
line_told line x y events is = put_told line x y is.text is.failures is.answer is.closed is.says is.comes_to
  where
    put_told : {A : Type 0} (line : List ℕ) (x y : A) (text : List ℕ) (failures : ℕ) (answer : Result A Fault) (closed : Result Unit Fault) → TellsLine line x text answer
        → Ok y ≡ and_closed answer closed → y ≡ x
    put_told line x y text failures (Ok z) (Ok _) says is = let alike : y ≡ z = cc in alike ∙ says.1
    put_told line x y text failures (Ok z) (Err g) says is = let no : ⊥ = cc in absurd no
    put_told line x y text failures (Err g) closed says is = let no : ⊥ = cc in absurd no

then_told : {A : Type 0} (first : Act A) (next : A → Act Told) (told : Told) → ((x : A) (events : List Event) (y : Told) → next x events (Ok y) → y ≡ told)
    → (events : List Event) (y : Told) → Then first next events (Ok y) → y ≡ told
then_told first next told one events y (Ends f did is) = let no : ⊥ = cc in absurd no
then_told first next told one events y (GoesOn x before after did more is) = one x after y more

record ShowsStaying (e : Endian) (size : ℕ) (file : WantedFile) (image : List ℕ) (events : List Event) (told : Told) : Type 0 where
  left : List LeftOut
  made : MakesOf (ShowsApart e size image left) file events
  told_is : told ≡ left_out_told left (found_in e size image)

apart_shown : (e : Endian) (size blocks : ℕ) (file : WantedFile) (image : List ℕ) (events : List Event) (told : Told) → compacts_apart e size blocks file image events (Ok told)
    → ShowsStaying e size file image events told
apart_shown e size blocks file image events told (Ends f did is) = let no : ⊥ = cc in absurd no
apart_shown e size blocks file image events told (GoesOn plan before after did more is) =
    let Shows : List ℕ → Type 0 = ShowsApart e size image plan.left in
    let says : Told = left_out_told plan.left (found_in e size image) in record {
      left = plan.left;
      made = made_after Shows file before after is
          (memory_made Shows file (copied_image e size image plan.addresses) _ after told
          (planned_apart_shows e size blocks image plan.left plan.addresses plan.nodes plan.bytes did.1) more);
      told_is = then_told _ _ says (λ _ events y did. then_told _ _ says (λ _ events y did. line_told _ says y events did) events y did) after told more;
    }

pub compacted_apart_shows : CompactedApartShows
compacted_apart_shows asked blocks events told (Ends f did is) = let no : ⊥ = cc in absurd no
compacted_apart_shows asked blocks events told (GoesOn image before after did more is) =
    let e = asked.options.endian in
    let size : ℕ = asked.options.geometry.block in
    let taken = takes_taken e asked before image did in
    let shown = apart_shown e size (compact_blocks size blocks) asked.output image after told more in record {
      image = image;
      left = shown.left;
      out = shown.made.out;
      read = subst (λ (l : List Event). Happened (Did (Read asked.image image)) l) (sym is) (before_more _ before after taken.read);
      shows = shown.made.shows;
      put = went_at _ is (went_after _ before after shown.made.put);
      told_is = shown.told_is;
    }
