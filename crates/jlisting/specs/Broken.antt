-- Which rule a line of a listing breaks, the first one from the left.
use Rattle.std.specs.Prelude.{◌≡◌, ℕ, ◌+◌, ◌-◌, ◌==◌, Bool, not, nat_le, nat_lt, List, [], ◌∷◌, length, slice_index, slice_index_or, codes, Option, Some, None, Err, is_some, option_map, if◌then◌else◌}
use Rattle.std.specs.List.{list_all, slice_split}
use Rattle.std.specs.Option.{option_or}
use Rattle.std.specs.Str.{bytes_eq, is_utf8}
use Rattle.std.specs.Str.Parse.{digits_value}
use Rattle.jline.specs.Read.{pairs_of, unescaped}
use Rattle.jlisting.specs.Words.{is_digit, device_kind_of, escaped_name_of}
use Rattle.jlisting.specs.Listing.{is_skipped, lines_of}
use Rattle.jlisting.specs.declared.fault.BadLine.{BadLine}
use Rattle.jlisting.specs.declared.fault.ListingFault.{ListingFault}
use Rattle.jlisting.specs.declared.fault.ListingFault.TheVariants as fault
use Rattle.jlisting.specs.declared.rule.Operand.{Operand}
use Rattle.jlisting.specs.declared.rule.Operand.TheVariants as kind
use Rattle.jlisting.specs.declared.rule.WordRule.{WordRule}
use Rattle.jlisting.specs.declared.rule.WordRule.TheVariants as word
use Rattle.jlisting.specs.declared.rule.Rule.{Rule}
use Rattle.jlisting.specs.declared.rule.Rule.TheVariants as rule

-- ---- the shape of each operation

abbrev pub a_number : Operand
a_number = kind.Number 4294967295

abbrev pub an_owner : Operand
an_owner = kind.Number 65535

-- a new object of a mode, and two paths or a path and a target
abbrev pub new_object : List Operand
new_object = kind.Mode ∷ kind.Text ∷ []

abbrev pub two_texts : List Operand
two_texts = kind.Text ∷ kind.Text ∷ []

-- the words after the name of an operation, if it is the name of one
unfoldable pub operation_operands : List ℕ → Option (List Operand)
operation_operands name =
    if bytes_eq name (codes "mkdir") then Some new_object
    else if bytes_eq name (codes "create") then Some new_object
    else if bytes_eq name (codes "fifo") then Some new_object
    else if bytes_eq name (codes "socket") then Some new_object
    else if bytes_eq name (codes "file") then Some (kind.Mode ∷ kind.Text ∷ kind.EscapedName ∷ [])
    else if bytes_eq name (codes "put") then Some (kind.Mode ∷ kind.Text ∷ kind.EscapedName ∷ [])
    else if bytes_eq name (codes "device") then Some
    (kind.DeviceKind ∷ kind.Mode ∷ kind.Number 4095 ∷ kind.Number 1048575 ∷ kind.Text ∷ [])
    else if bytes_eq name (codes "symlink") then Some two_texts
    else if bytes_eq name (codes "link") then Some two_texts
    else if bytes_eq name (codes "rename") then Some two_texts
    else if bytes_eq name (codes "replace") then Some two_texts
    else if bytes_eq name (codes "write") then Some (kind.Text ∷ a_number ∷ kind.Data ∷ [])
    else if bytes_eq name (codes "part") then Some (kind.Text ∷ a_number ∷ kind.FileName ∷ [])
    else if bytes_eq name (codes "truncate") then Some (kind.Text ∷ a_number ∷ [])
    else if bytes_eq name (codes "remove") then Some (kind.Text ∷ [])
    else if bytes_eq name (codes "remove-if") then Some (kind.Text ∷ [])
    else if bytes_eq name (codes "attr") then Some
    (kind.Mode ∷ an_owner ∷ an_owner ∷ a_number ∷ a_number ∷ kind.Text ∷ [])
    else None

-- and of a setting
unfoldable pub operands_of : List ℕ → Option (List Operand)
operands_of name =
    if bytes_eq name (codes "time") then Some (a_number ∷ [])
    else if bytes_eq name (codes "owner") then Some (an_owner ∷ an_owner ∷ [])
    else operation_operands name

-- ---- a word

abbrev pub unless : {R : Type 0} → Bool → R → Option R
unless holds broken = if holds then None else Some broken

-- digits of a base, so many at most, that make a number up to a limit
unfoldable pub number_rule : ℕ → ℕ → ℕ → List ℕ → Option WordRule
number_rule base most limit bytes =
    if not (list_all (is_digit base) bytes) then Some (word.NoDigit (base - 1))
    else if nat_lt most (length bytes) then Some (word.TooLong most)
    else unless (nat_le (digits_value base bytes) limit) (word.Above limit)

unfoldable pub escape_rule : List ℕ → Option WordRule
escape_rule bytes = unless (is_some (unescaped bytes)) word.Escape

-- a dash is no bytes
unfoldable pub data_rule : List ℕ → Option WordRule
data_rule bytes =
    if bytes_eq bytes (codes "-") then None
    else unless (is_some (pairs_of bytes)) word.NoPairs

unfoldable pub kind_rule : List ℕ → Option WordRule
kind_rule bytes = unless (is_some (device_kind_of bytes)) word.Kind

unfoldable pub text_rule : List ℕ → Option WordRule
text_rule bytes = unless (is_utf8 bytes) word.NoText

unfoldable pub name_rule : List ℕ → Option WordRule
name_rule bytes =
    option_or (escape_rule bytes) (unless (is_some (escaped_name_of bytes)) word.NoText)

-- the rule that a word breaks as an operand of a kind
unfoldable pub operand_rule : Operand → List ℕ → Option WordRule
operand_rule kind.Mode bytes = number_rule 8 6 0o777777 bytes
operand_rule (kind.Number limit) bytes = number_rule 10 10 limit bytes
operand_rule kind.DeviceKind bytes = kind_rule bytes
operand_rule kind.Text bytes = escape_rule bytes
operand_rule kind.Data bytes = data_rule bytes
operand_rule kind.FileName bytes = text_rule bytes
operand_rule kind.EscapedName bytes = name_rule bytes

unfoldable pub word_rule : Operand → List ℕ → Option WordRule
word_rule operand bytes = if length bytes == 0 then Some word.Empty else operand_rule operand bytes

-- ---- a line

-- the words of a text, where there is one
abbrev pub words_in : Option (List ℕ) → List (List ℕ)
words_in None = []
words_in (Some text) = slice_split (λ b. b == 32) text

-- An empty word is a space too many: after a word and before another, or at the end.
abbrev pub later_space : List (List ℕ) → Option Rule
later_space [] = None
later_space ([] ∷ []) = Some rule.SpaceAtEnd
later_space ([] ∷ _ ∷ _) = Some rule.TwoSpaces
later_space ((_ ∷ _) ∷ words) = later_space words

abbrev pub space_rule : List (List ℕ) → Option Rule
space_rule [] = None
space_rule ([] ∷ _) = Some rule.SpaceAtStart
space_rule ((_ ∷ _) ∷ words) = later_space words

-- the first rule that words break as these operands, where the first of them is the n-th word
abbrev pub operands_rule : ℕ → List Operand → List (List ℕ) → Option Rule
operands_rule n [] words = None
operands_rule n (operand ∷ operands) [] = None
operands_rule n (operand ∷ operands) (bytes ∷ words) = option_or
    (option_map (λ broken. rule.Word n broken) (word_rule operand bytes))
    (operands_rule (n + 1) operands words)

-- too few or too many words, or one of them
unfoldable pub shape_rule : List Operand → List (List ℕ) → Option Rule
shape_rule operands words =
    if nat_lt (length words) (length operands) then Some (rule.TooFew (length operands))
    else if nat_lt (length operands) (length words) then Some (rule.TooMany (length operands))
    else operands_rule 2 operands words

abbrev pub form_rule : Option (List Operand) → List (List ℕ) → Option Rule
form_rule None words = Some rule.NoOperation
form_rule (Some operands) words = shape_rule operands words

abbrev pub words_rule : List (List ℕ) → Option Rule
words_rule [] = Some rule.NoOperation
words_rule (name ∷ words) = form_rule (operands_of name) words

-- Of a line that ends with a carriage return, as lines made on Windows do, that is told.
abbrev pub or_return : List ℕ → Option Rule → Option Rule
or_return line None = None
or_return line (Some broken) = Some
    (if slice_index line (length line - 1) == 13 then rule.CarriageReturn else broken)

-- rule: Listings: The first rule that a line breaks, and its note.
--   definitions: jlisting.Broken.first_broken, jlisting.Broken.IsBadLine, jreport.Advice.rule_note
--   code: jlisting::broken::first_broken, jreport::advice::put_fault_and_note
--   laws: jlisting::laws::broken_lines_mean_nothing, jlisting::examples::shapes_are_judged,
--   jlisting::examples::words_are_judged
-- the first rule that a line breaks, if it breaks one
unfoldable pub first_broken : List ℕ → Option Rule
first_broken line = if is_skipped line then None else
    (let words = slice_split (λ b. b == 32) line in
    option_or (space_rule words) (or_return line (words_rule words)))

-- ---- a listing

-- the line after so many others; there is nothing behind the last one
abbrev pub line_after : ℕ → List ℕ → List ℕ
line_after n text = slice_index_or (slice_split (λ b. b == 10) text) n []

-- the line of a number, counted from 1
abbrev pub line_at : ℕ → List ℕ → List ℕ
line_at n text = line_after (n - 1) text

-- the fault of this line of a listing: the first rule that it breaks
abbrev pub IsFaultOfLine : ℕ → List ℕ → ListingFault → Type 0
IsFaultOfLine n line (fault.Line bad) = (bad.line ≡ n) × (first_broken line ≡ Some bad.rule)
IsFaultOfLine n line fault.OutOfMemory = Unit {0}

-- the first line that means nothing, and the first rule that it breaks
abbrev pub IsBadLine : List ℕ → BadLine → Type 0
IsBadLine text bad = (lines_of text ≡ Err bad.line)
    × (first_broken (line_at bad.line text) ≡ Some bad.rule)

-- why a listing is not read: that, or memory runs out
abbrev pub IsListingFault : List ℕ → ListingFault → Type 0
IsListingFault text (fault.Line bad) = IsBadLine text bad
IsListingFault text fault.OutOfMemory = Unit {0}
