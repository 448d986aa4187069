-- What holds of the numbers and lines of a listing.
use Rattle.std.specs.Prelude.{◌≡◌, ◌↔◌, ◌≤◌, ◌<◌, ◌^◌, ℕ, List, length, Some, None, IsSome}
use Rattle.std.specs.Str.Parse.{IsNumeral, digits_value}
use Rattle.std.specs.Fmt.{decimal}
use Rattle.jlisting.specs.Words.{decimal_of, number_of}
use Rattle.jlisting.specs.Listing.{statement_of}
use Rattle.jlisting.specs.Broken.{first_broken}
use Rattle.jlisting.specs.declared.statement.Settings.{Settings}

-- A word is a number where it is a numeral of its base with so many digits at most, and the
-- numeral's value is within the limit.
abbrev pub NumbersAreNumerals : Type 0
NumbersAreNumerals = (base most limit n : ℕ) (word : List ℕ) → base ≤ 10
    → (number_of base most limit word ≡ Some n)
    ↔ (IsNumeral base word × (length word ≤ most) × (digits_value base word ≡ n) × (n ≤ limit))

-- A number as it is printed is read back.
abbrev pub DecimalsAreReadBack : Type 0
DecimalsAreReadBack =
    (limit n : ℕ) → n ≤ limit → n < 10 ^ 10 → decimal_of limit (decimal n) ≡ Some n

-- A line breaks no rule exactly where it means something.
abbrev pub BrokenLinesMeanNothing : Type 0
BrokenLinesMeanNothing =
    (s : Settings) (line : List ℕ) → (first_broken line ≡ None) ↔ IsSome (statement_of s line)
