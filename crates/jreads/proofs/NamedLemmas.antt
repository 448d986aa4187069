-- The files that lines name, one after the other.
use Rattle.std.proofs.Common.{◌≡◌, ◌∙◌, ◌+◌, ◌≤◌, ◌<◌, ℕ, Bool, true, false, List, [], ◌∷◌, Option, Some, None, Ok, Err, arith, refl, sym, ap, length, get_or}
use Rattle.std.specs.Prelude.{Result, drop, is_some}
use Rattle.std.proofs.lemmas.List.{drop_more, drop_all}
use Rattle.jscan.specs.Image.{greatest_image}
use Rattle.jlisting.specs.Listing.{file_of}
use Rattle.jlisting.specs.declared.line.Line.{Line}
use Rattle.jedge.specs.Acts.{Act, DoesFrom}
use Rattle.jedge.specs.declared.fault.Fault.{Fault}
use Rattle.jedge.proofs.Steps.{History, answered, does_at, then_err, then_ok}
use Rattle.jreads.specs.Counting.{CountsTo, IsCountOf}
use Rattle.jreads.specs.Named.{CountsMeasured, Measured, each, files_named, measures, measures_if, measures_one, total}

-- ---- one file

-- it was measured
pub measured_before : {old : History} (seen : List ℕ → Option (List ℕ)) (left : ℕ) (name : List ℕ) {u : Unit} → is_some (seen name) ≡ true
    → (files : List Measured) → IsCountOf seen left files → CountsTo old old (measures_one name files) seen left (Ok u)
measured_before {old} seen left name there files count = (
  files,
  does_at (λ (b : Bool). measures_if b name files) (sym there ∙ count.known name) (answered refl),
  count,
)

-- it is measured, and counted
pub measured_now : {old new : History} (seen : List ℕ → Option (List ℕ)) (left : ℕ) (name : List ℕ) (n : ℕ) {r : Result (List Measured) Fault} → is_some (seen name) ≡ false
    → (files : List Measured) → IsCountOf seen left files → DoesFrom old new (measures name) (Ok n) → CountsMeasured files (record { name = name; bytes = n }) r
    → DoesFrom old new (measures_one name files) r
measured_now seen left name n absent files count done is =
    does_at (λ (b : Bool). measures_if b name files) (sym absent ∙ count.known name) (then_ok done (answered is))

pub has_room : (seen : List ℕ → Option (List ℕ)) (left n : ℕ) (files : List Measured) → IsCountOf seen left files → n ≤ left → total files + n ≤ greatest_image
has_room seen left n files count fits = omega (arith, count.room, fits)

pub lacks_room : (seen : List ℕ → Option (List ℕ)) (left n : ℕ) (files : List Measured) → IsCountOf seen left files → left < n → greatest_image < total files + n
lacks_room seen left n files count over = omega (arith, count.room, over)

-- ---- one line after the other

next_named : (o : Option (List ℕ)) (name : List ℕ) (lines : List Line) (line : Line) → file_of line.action ≡ o → Some name ≡ o → files_named (line ∷ lines) ≡ name ∷ files_named lines
next_named None name lines line is some = let no : ⊥ = cc in absurd no
next_named (Some other) name lines line is some = let same : file_of line.action ≡ Some name = is ∙ sym some in rw same refl

-- the first of the lines that are left names a file
pub file_next : (lines : List Line) (i : ℕ) (line : Line) (name : List ℕ) → Some name ≡ file_of line.action → i < length lines → get_or lines i line ≡ line
    → files_named (drop i lines) ≡ name ∷ files_named (drop (i + 1) lines)
file_next lines i line name is below at =
    ap files_named (drop_more lines i line below) ∙ ap (λ (l : Line). files_named (l ∷ drop (i + 1) lines)) at
    ∙ next_named (file_of line.action) name (drop (i + 1) lines) line refl is

skip_named : (lines : List Line) (line : Line) → None ≡ file_of line.action → files_named (line ∷ lines) ≡ files_named lines
skip_named lines line is = rw (sym is) refl

-- it names none
pub none_next : (lines : List Line) (i : ℕ) (line : Line) → None ≡ file_of line.action → i < length lines → get_or lines i line ≡ line
    → files_named (drop i lines) ≡ files_named (drop (i + 1) lines)
none_next lines i line is below at =
    ap files_named (drop_more lines i line below) ∙ ap (λ (l : Line). files_named (l ∷ drop (i + 1) lines)) at
    ∙ skip_named (drop (i + 1) lines) line is

-- none is left
pub none_left : (lines : List Line) (i : ℕ) → length lines ≤ i → files_named (drop i lines) ≡ []
none_left lines i all = ap files_named (drop_all i lines all)

-- An act for each name came to a line: with what it does from there on it does all.
abbrev pub GoesOn : {S : Type 0} → (List ℕ → S → Act S) → History → History → List Line → ℕ → S → S → Type 0
GoesOn {S} one old now lines i first s = (new : History) (r : Result S Fault)
    → DoesFrom now new (each one (files_named (drop i lines)) s) r → DoesFrom old new (each one (files_named lines) first) r

pub goes_first : {S : Type 0} (one : List ℕ → S → Act S) (old : History) (lines : List Line) (s : S) → GoesOn one old old lines 0 s s
goes_first one old lines s new r done = done

-- past a line of a file
pub goes_file : {S : Type 0} (one : List ℕ → S → Act S) (old now next : History) (lines : List Line) (i : ℕ) (line : Line) (name : List ℕ) (first s t : S)
    → Some name ≡ file_of line.action → i < length lines → get_or lines i line ≡ line
    → DoesFrom now next (one name s) (Ok t) → GoesOn one old now lines i first s → GoesOn one old next lines (i + 1) first t
goes_file one old now next lines i line name first s t is below at done was new r more =
    was new r (does_at (λ (names : List (List ℕ)). each one names s) (sym (file_next lines i line name is below at)) (then_ok done more))

-- past a line of none
pub goes_none : {S : Type 0} (one : List ℕ → S → Act S) (old now : History) (lines : List Line) (i : ℕ) (line : Line) (first s : S)
    → None ≡ file_of line.action → i < length lines → get_or lines i line ≡ line
    → GoesOn one old now lines i first s → GoesOn one old now lines (i + 1) first s
goes_none one old now lines i line first s is below at was new r more =
    was new r (does_at (λ (names : List (List ℕ)). each one names s) (sym (none_next lines i line is below at)) more)

-- a fault ends it
pub goes_wrong : {S : Type 0} (one : List ℕ → S → Act S) (old now next : History) (lines : List Line) (i : ℕ) (line : Line) (name : List ℕ) (first s : S) (f : Fault)
    → Some name ≡ file_of line.action → i < length lines → get_or lines i line ≡ line
    → DoesFrom now next (one name s) (Err f) → GoesOn one old now lines i first s → DoesFrom old next (each one (files_named lines) first) (Err f)
goes_wrong one old now next lines i line name first s f is below at done was =
    was next (Err f) (does_at (λ (names : List (List ℕ)). each one names s) (sym (file_next lines i line name is below at)) (then_err done))

-- it came to the end
pub goes_last : {S : Type 0} (one : List ℕ → S → Act S) (old now : History) (lines : List Line) (i : ℕ) (first s : S)
    → length lines ≤ i → GoesOn one old now lines i first s → DoesFrom old now (each one (files_named lines) first) (Ok s)
goes_last one old now lines i first s all was =
    was now (Ok s) (does_at (λ (names : List (List ℕ)). each one names s) (sym (none_left lines i all)) (answered refl))

-- ---- counting

-- the files of the first lines were measured, and these are they
pub record Measuring (old now : History) (lines : List Line) (i : ℕ) (seen : List ℕ → Option (List ℕ)) (left : ℕ) : Type 0 where
  pub files : List Measured
  pub count : IsCountOf seen left files
  pub goes : GoesOn measures_one old now lines i [] files

pub measuring_first : (old : History) (lines : List Line) (seen : List ℕ → Option (List ℕ)) (left : ℕ) → IsCountOf seen left [] → Measuring old old lines 0 seen left
measuring_first old lines seen left count = record { files = []; count = count; goes = goes_first measures_one old lines [] }

pub measuring_file : (old now next : History) (lines : List Line) (i : ℕ) (line : Line) (name : List ℕ) (seen more : List ℕ → Option (List ℕ)) (left rest : ℕ) {u : Unit}
    → Some name ≡ file_of line.action → i < length lines → get_or lines i line ≡ line
    → ((files : List Measured) → IsCountOf seen left files → CountsTo now next (measures_one name files) more rest (Ok u))
    → Measuring old now lines i seen left → Measuring old next lines (i + 1) more rest
measuring_file old now next lines i line name seen more left rest is below at counts was =
    let counted = counts was.files was.count in record {
      files = counted.0;
      count = counted.2;
      goes = goes_file measures_one old now next lines i line name [] was.files counted.0 is below at counted.1 was.goes;
    }

pub measuring_none : (old now : History) (lines : List Line) (i : ℕ) (line : Line) (seen : List ℕ → Option (List ℕ)) (left : ℕ)
    → None ≡ file_of line.action → i < length lines → get_or lines i line ≡ line → Measuring old now lines i seen left → Measuring old now lines (i + 1) seen left
measuring_none old now lines i line seen left is below at was = record {
  files = was.files;
  count = was.count;
  goes = goes_none measures_one old now lines i line [] was.files is below at was.goes;
}
