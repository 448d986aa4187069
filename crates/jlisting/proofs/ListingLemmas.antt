-- Lines, one after the other.
use Rattle.std.proofs.Common.{◌≡◌, ℕ, ◌+◌, ◌-◌, ◌<◌, List, [], ◌∷◌, ◌++◌, length, get_or, refl, ap, sym, ◌∙◌, append_assoc, append-nil, Option, Some, None, Result, Ok, Err, arith}
use Rattle.std.proofs.lemmas.Grind.{common_steps}
use Rattle.jlisting.specs.Listing.{statement_of_words, prepend, or_err, action_lines, settings_after, lines_from, lines_in, lines_of, statement_of}
use Rattle.jlisting.specs.Broken.{first_broken, line_after, line_at, IsFaultOfLine, IsListingFault}
use Rattle.jlisting.specs.declared.fault.ListingFault.{ListingFault}
use Rattle.jlisting.specs.declared.fault.ListingFault.TheVariants as fault
use Rattle.jlisting.specs.declared.line.Line.{Line}
use Rattle.jlisting.specs.declared.statement.Settings.{Settings}
use Rattle.jlisting.specs.declared.statement.Statement.{Statement}

-- more than seven words mean nothing
pub statement_of_words_many : (s : Settings) (name a b c d e f : List ℕ) (more : List (List ℕ)) → 0 < length more → statement_of_words s (name ∷ a ∷ b ∷ c ∷ d ∷ e ∷ f ∷ more) ≡ None
statement_of_words_many s name a b c d e f [] some = absurd (omega arith)
statement_of_words_many s name a b c d e f (g ∷ more) some = refl

pub prepend-nil : (r : Result (List Line) ℕ) → prepend [] r ≡ r
prepend-nil (Ok lines) = refl
prepend-nil (Err n) = refl

pub prepend-prepend : (first then : List Line) (r : Result (List Line) ℕ) → prepend first (prepend then r) ≡ prepend (first ++ then) r
prepend-prepend first then (Ok lines) = ap (λ (l : List Line). Ok l) (sym (append_assoc first then lines))
prepend-prepend first then (Err n) = refl

-- what follows the last line feed may be empty
pub lines_from_end : (n : ℕ) (s : Settings) (line : List ℕ) → lines_from n s (line ∷ []) ≡ lines_from n s (line ∷ [] ∷ [])
unfolding statement_of
lines_from_end n s line = refl

-- one line more is read
pub lines_more : (lines : List Line) (n : ℕ) (s : Settings) (line : List ℕ) (rest : List (List ℕ)) (m : Statement) → statement_of s line ≡ Some m
    → prepend lines (lines_from n s (line ∷ rest)) ≡ prepend (lines ++ action_lines n m) (lines_from (n + 1) (settings_after s m) rest)
lines_more lines n s line rest m is =
    ap (λ (o : Option Statement). prepend lines (or_err n o (λ m. prepend (action_lines n m) (lines_from (n + 1) (settings_after s m) rest)))) is
    ∙ prepend-prepend lines (action_lines n m) (lines_from (n + 1) (settings_after s m) rest)

-- a line that means nothing
pub lines_wrong : (lines : List Line) (n : ℕ) (s : Settings) (line : List ℕ) (rest : List (List ℕ)) → statement_of s line ≡ None
    → prepend lines (lines_from n s (line ∷ rest)) ≡ Err n
lines_wrong lines n s line rest is =
    ap (λ (o : Option Statement). prepend lines (or_err n o (λ m. prepend (action_lines n m) (lines_from (n + 1) (settings_after s m) rest)))) is

-- nothing is left
pub lines_end : (lines : List Line) (n : ℕ) (s : Settings) (text : List ℕ) → length text ≡ 0 → prepend lines (lines_in n s text) ≡ Ok lines
unfolding statement_of
lines_end lines n s [] none = ap (λ (l : List Line). Ok l) (append-nil lines)
lines_end lines n s (b ∷ text) none = absurd (omega arith)

-- ---- the line that is wrong

pub nothing_behind : (k : ℕ) → get_or {A = List ℕ} ([] ∷ []) k [] ≡ []
nothing_behind k = grind (arith, common_steps)

pub line_is : (n : ℕ) (text line : List ℕ) → line_after n text ≡ line → line_at (n + 1) text ≡ line
line_is n text line is =
    let same : n + 1 - 1 ≡ n = omega arith in
    ap (λ (k : ℕ). line_after k text) same ∙ is

pub fault_is : (text line : List ℕ) (n : ℕ) (f : ListingFault) → lines_of text ≡ Err n → line_at n text ≡ line → IsFaultOfLine n line f → IsListingFault text f
fault_is text line n (fault.Line bad) wrong at is = (
  wrong ∙ ap (λ (k : ℕ). Err k) (sym is.0),
  ap (λ (k : ℕ). first_broken (line_at k text)) is.0 ∙ ap first_broken at ∙ is.1,
)
fault_is text line n fault.OutOfMemory wrong at is = tt
