-- The lines `was`.
use Rattle.std.specs.Prelude.{ℕ, List, [], ◌++◌, codes, decimal, Option, Some, None}
use Rattle.std.specs.List.{flat_map}
use Rattle.jline.specs.Words.{hex}
use Rattle.jpast.specs.declared.past.Content.{Content}
use Rattle.jpast.specs.declared.past.Past.{Past}
use Rattle.jpast.specs.declared.past.Span.{Span}

abbrev pub span_text : Option Span → List ℕ
span_text None = []
span_text (Some span) =
    codes " versions " ++ decimal span.lowest ++ codes " to " ++ decimal span.highest

-- the bytes of a digest, each as two hexadecimal digits
abbrev pub digest_text : List ℕ → List ℕ
digest_text digest = flat_map (hex 2) digest

abbrev pub content_text : Option Content → List ℕ
content_text None = []
content_text (Some content) =
    codes " size " ++ decimal content.size ++ codes " sha256 " ++ digest_text content.digest

-- rule: What is printed: What is left of the objects that a path ever named.
--   definitions: jpast.PastText.pasts_text
--   code: jpast::lines::put_pasts
--   laws: jpast::examples::pasts_are_lines
unfoldable pub past_line : Past → List ℕ
past_line past =
    codes "was ino " ++ decimal past.ino ++ span_text past.span ++ content_text past.content
    ++ codes "\n"

-- a line of each
abbrev pub pasts_text : List Past → List ℕ
pasts_text pasts = flat_map past_line pasts
