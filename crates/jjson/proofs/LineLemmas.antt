-- The JSON of a line is one line.
use Rattle.std.proofs.Common.{◌≡◌, ℕ, zero, suc, ◌+◌, ◌/◌, ◌%◌, ◌≤◌, Bool, true, false, List, [], ◌∷◌, ◌++◌, ap, sym, refl, ◌∙◌, subst, append_assoc, codes, arith, Option, Some, None, cond, ◌⊎◌, inl, inr}
use Rattle.std.specs.Prelude.{◌==◌, ◌&&◌, ◌||◌, not, nat_lt, nat_le, decimal, filter, find, if◌then◌else◌}
use Rattle.std.specs.List.{list_all, flat_map, slice_split, onto_first}
use Rattle.std.specs.Fmt.{digits, digits_onto, digit_glyph}
use Rattle.std.specs.Str.{is_utf8}
use Rattle.std.proofs.lemmas.List.Folds.{list_all-append}
use Rattle.std.proofs.lemmas.Option.{same_Some}
use Rattle.std.proofs.lemmas.Bool.Decides.{nat_tests}
use Rattle.jline.specs.Words.{hex_digit}
use Rattle.jjson.specs.Json.{hex_pair, member, json_object, string_spelled, string_spelled_byte, string_byte, string_of, text_member}
use Rattle.jjson.specs.Numbers.{address_number, is_decimal_digit, is_number}
use Rattle.jjson.specs.Shapes.{Shape, fits, part_gives, has_shape, kind_gives, part_kind, kind_takes, members, shaped_line, part_takes}
use Rattle.jjson.specs.Tables.{cuts_shapes, damage_shapes, differences_shapes, history_shapes, map_shapes, parameters_shapes, report_shapes, shapes, tree_shapes}
use Rattle.jjson.specs.Texts.{is_feed, json_line, json_line_by}
use Rattle.jjson.specs.Words.{has_bytes, is_space, meant, words_of}
use Rattle.jjson.specs.declared.lines.Lines.{Lines}
use Rattle.jjson.specs.declared.lines.Lines.TheVariants as lines
use Rattle.jjson.specs.declared.part.PartKind.{PartKind}
use Rattle.jjson.specs.declared.part.PartKind.TheVariants as part
use Rattle.jjson.specs.declared.spelling.Spelling.{Spelling}
use Rattle.jjson.specs.declared.spelling.Spelling.TheVariants as spelling

-- a byte that is no line feed, and bytes that are none
abbrev pub is_inside : ℕ → Bool
is_inside b = not (is_feed b)

abbrev pub lie_inside : List ℕ → Bool
lie_inside bytes = list_all is_inside bytes

-- ---- tests

both : (a b : Bool) → a ≡ true → b ≡ true → (a && b) ≡ true
both true b x y = y
both false b x y = x

first_of_both : (a b : Bool) → (a && b) ≡ true → a ≡ true
first_of_both true b x = refl
first_of_both false b x = x

second_of_both : (a b : Bool) → (a && b) ≡ true → b ≡ true
second_of_both true b x = x
second_of_both false true x = refl
second_of_both false false x = x

-- ---- bytes

inside-append : (xs ys : List ℕ) → lie_inside xs ≡ true → lie_inside ys ≡ true → lie_inside (xs ++ ys) ≡ true
inside-append xs ys x y = list_all-append is_inside xs ys ∙ both _ _ x y

inside-flat_map : (f : ℕ → List ℕ) → ((b : ℕ) → lie_inside (f b) ≡ true) → (bs : List ℕ) → lie_inside (flat_map f bs) ≡ true
inside-flat_map f each [] = refl
inside-flat_map f each (b ∷ bs) = inside-append (f b) (flat_map f bs) (each b) (inside-flat_map f each bs)

large_is_inside : (b : ℕ) → 48 ≤ b → is_inside b ≡ true
large_is_inside b large = grind (arith, nat_tests)

hex_digit-inside : (d : ℕ) → is_inside (hex_digit d) ≡ true
hex_digit-inside d = by (nat_lt d 10)
  where
    by : (t : Bool) → is_inside (if t then 48 + d else 87 + d) ≡ true
    by true = large_is_inside (48 + d) (omega arith)
    by false = large_is_inside (87 + d) (omega arith)

hex_pair-inside : (b : ℕ) → lie_inside (hex_pair b) ≡ true
hex_pair-inside b = both _ _ (hex_digit-inside (b / 16)) (both _ _ (hex_digit-inside (b % 16)) refl)

-- a byte that is a line feed is escaped
string_byte-inside : (b : ℕ) → lie_inside (string_byte b) ≡ true
string_byte-inside b = by (is_feed b) refl
  where
    other : (inside : is_inside b ≡ true) (plain control : Bool)
        → lie_inside (if plain then 92 ∷ b ∷ [] else if control then 92 ∷ codes "u00" ++ hex_pair b else b ∷ []) ≡ true
    other inside true control = both _ _ inside refl
    other inside false true = hex_pair-inside b
    other inside false false = both _ _ inside refl

    by : (t : Bool) → is_feed b ≡ t → lie_inside (string_byte b) ≡ true
    by true is =
        let ten : 10 ≡ b = grind (arith, nat_tests) in
        subst (λ (c : ℕ). lie_inside (string_byte c) ≡ true) ten refl
    by false is = other (ap not is) (b == 34 || b == 92) (nat_lt b 0x20)

spelled_byte-inside : (way : Spelling) (b : ℕ) → lie_inside (string_spelled_byte way b) ≡ true
spelled_byte-inside spelling.Text b = string_byte-inside b
spelled_byte-inside spelling.Hex b = hex_pair-inside b

string_of-inside : (way : Spelling) (bytes : List ℕ) → lie_inside (string_of way bytes) ≡ true
string_of-inside way bytes = inside-append (string_spelled way bytes) (codes "\"") (inside-flat_map (string_spelled_byte way) (spelled_byte-inside way) bytes) refl

-- ---- numbers

digits-inside : (ds : List ℕ) → list_all is_decimal_digit ds ≡ true → lie_inside ds ≡ true
digits-inside [] are = refl
digits-inside (d ∷ ds) are =
    let digit = first_of_both (is_decimal_digit d) (list_all is_decimal_digit ds) are in
    both _ _ (grind (arith, nat_tests)) (digits-inside ds (second_of_both (is_decimal_digit d) (list_all is_decimal_digit ds) are))

number-inside : (word : List ℕ) → is_number word ≡ true → lie_inside word ≡ true
number-inside [] is = refl
number-inside (b ∷ []) is = digits-inside (b ∷ []) (both _ _ is refl)
number-inside (b ∷ c ∷ bs) is =
    let rest = second_of_both (nat_le 49 b && nat_le b 57) (list_all is_decimal_digit (c ∷ bs)) is in
    let first = first_of_both (nat_le 49 b && nat_le b 57) (list_all is_decimal_digit (c ∷ bs)) is in
    let large : 48 ≤ b = grind (arith, nat_tests) in
    both _ _ (large_is_inside b large) (digits-inside (c ∷ bs) rest)

glyph-inside : (d : ℕ) → is_inside (digit_glyph false d) ≡ true
glyph-inside d = hex_digit-inside d

digits_onto-inside : (k n : ℕ) (acc : List ℕ) → lie_inside acc ≡ true → lie_inside (digits_onto k 10 false n acc) ≡ true
digits_onto-inside zero n acc inside = inside
digits_onto-inside (suc k) n acc inside = by (n / 10 == 0) (both _ _ (glyph-inside (n % 10)) inside) (digits_onto-inside k (n / 10) (digit_glyph false (n % 10) ∷ acc) (both _ _ (glyph-inside (n % 10)) inside))
  where
    by : (t : Bool) → lie_inside (digit_glyph false (n % 10) ∷ acc) ≡ true → lie_inside (digits_onto k 10 false (n / 10) (digit_glyph false (n % 10) ∷ acc)) ≡ true
        → lie_inside (if t then digit_glyph false (n % 10) ∷ acc else digits_onto k 10 false (n / 10) (digit_glyph false (n % 10) ∷ acc)) ≡ true
    by true last more = last
    by false last more = more

decimal-inside : (n : ℕ) → lie_inside (decimal n) ≡ true
unfolding digits
decimal-inside n = digits_onto-inside 64 n [] refl

-- ---- members

member-inside : (name value : List ℕ) → lie_inside name ≡ true → lie_inside value ≡ true → lie_inside (member name value) ≡ true
member-inside name value n v = inside-append name (codes "\":" ++ value) n v

text_member-inside : (name bytes : List ℕ) → lie_inside name ≡ true → lie_inside (text_member name bytes) ≡ true
text_member-inside name bytes n = by (is_utf8 bytes)
  where
    by : (t : Bool) → lie_inside (if t then member name (string_of spelling.Text bytes) else member (name ++ codes "_bytes") (string_of spelling.Hex bytes)) ≡ true
    by true = member-inside name (string_of spelling.Text bytes) n (string_of-inside spelling.Text bytes)
    by false = member-inside (name ++ codes "_bytes") (string_of spelling.Hex bytes) (inside-append name (codes "_bytes") n refl) (string_of-inside spelling.Hex bytes)

kind_gives-inside : (kind : PartKind) (mark : ℕ) (name word : List ℕ) → kind_takes kind mark name word ≡ true → lie_inside name ≡ true → lie_inside (kind_gives kind name word) ≡ true
kind_gives-inside part.Number mark name word is n = member-inside name word n (number-inside word is)
kind_gives-inside part.Large mark name word is n = member-inside name word n (number-inside word (first_of_both _ _ is))
kind_gives-inside part.Address mark name word is n = member-inside name (decimal (address_number word)) n (decimal-inside (address_number word))
kind_gives-inside part.Text mark name word is n = text_member-inside name word n
kind_gives-inside part.Name mark name word is n = text_member-inside name (meant word) n
kind_gives-inside part.Path mark name word is n = text_member-inside name (meant word) n
kind_gives-inside part.Flag mark name word is n = member-inside name (codes "true") n refl
kind_gives-inside part.Empty mark name word is n = text_member-inside name [] n
kind_gives-inside part.Word mark name word is n = refl

gives-inside : (part word : List ℕ) → part_takes part word ≡ true → lie_inside part ≡ true → lie_inside (part_gives part word) ≡ true
gives-inside [] word is p = refl
gives-inside (mark ∷ name) word is p = kind_gives-inside (part_kind mark) mark name word is (second_of_both _ _ p)

members-inside : (parts words : List (List ℕ)) → fits parts words ≡ true → list_all lie_inside parts ≡ true → lie_inside (members parts words) ≡ true
members-inside [] words is p = refl
members-inside (part ∷ parts) [] is p = refl
members-inside (part ∷ parts) (word ∷ words) is p =
    inside-append (part_gives part word) (members parts words)
    (gives-inside part word (first_of_both _ _ is) (first_of_both (lie_inside part) (list_all lie_inside parts) p))
    (members-inside parts words (second_of_both (part_takes part word) (fits parts words) is) (second_of_both (lie_inside part) (list_all lie_inside parts) p))

-- ---- words

onto_first-inside : (b : ℕ) (parts : List (List ℕ)) → is_inside b ≡ true → list_all lie_inside parts ≡ true → list_all lie_inside (onto_first b parts) ≡ true
onto_first-inside b [] is p = both _ _ (both _ _ is refl) refl
onto_first-inside b (part ∷ parts) is p =
    both _ _ (both _ _ is (first_of_both (lie_inside part) (list_all lie_inside parts) p)) (second_of_both (lie_inside part) (list_all lie_inside parts) p)

split-inside : (text : List ℕ) → lie_inside text ≡ true → list_all lie_inside (slice_split is_space text) ≡ true
split-inside [] is = refl
split-inside (b ∷ text) is = by (is_space b) (split-inside text (second_of_both (is_inside b) (lie_inside text) is))
  where
    by : (t : Bool) → list_all lie_inside (slice_split is_space text) ≡ true → list_all lie_inside (cond t ([] ∷ slice_split is_space text) (onto_first b (slice_split is_space text))) ≡ true
    by true rest = rest
    by false rest = onto_first-inside b (slice_split is_space text) (first_of_both (is_inside b) (lie_inside text) is) rest

filter-inside : (parts : List (List ℕ)) → list_all lie_inside parts ≡ true → list_all lie_inside (filter has_bytes parts) ≡ true
filter-inside [] is = refl
filter-inside (part ∷ parts) is = by (has_bytes part) (filter-inside parts (second_of_both (lie_inside part) (list_all lie_inside parts) is))
  where
    by : (t : Bool) → list_all lie_inside (filter has_bytes parts) ≡ true → list_all lie_inside (cond t (part ∷ filter has_bytes parts) (filter has_bytes parts)) ≡ true
    by true rest = both _ _ (first_of_both (lie_inside part) (list_all lie_inside parts) is) rest
    by false rest = rest

words-inside : (text : List ℕ) → lie_inside text ≡ true → list_all lie_inside (words_of text) ≡ true
words-inside text is = filter-inside (slice_split is_space text) (split-inside text is)

-- ---- shapes

abbrev shape_inside : Shape → Bool
shape_inside shape = lie_inside shape.0 && lie_inside shape.1

shapes-inside : (l : Lines) → list_all shape_inside (shapes l) ≡ true
unfolding tree_shapes report_shapes parameters_shapes differences_shapes damage_shapes history_shapes map_shapes cuts_shapes
shapes-inside lines.Tree = refl
shapes-inside lines.Report = refl
shapes-inside lines.Parameters = refl
shapes-inside lines.Differences = refl
shapes-inside lines.Damage = refl
shapes-inside lines.History = refl
shapes-inside lines.Map = refl
shapes-inside lines.Cuts = refl

-- what is found passes, and so does what all pass
found : {Y : Type 0} (p q : Y → Bool) (ys : List Y) (y : Y) → list_all q ys ≡ true → find p ys ≡ Some y → (p y ≡ true) × (q y ≡ true)
found p q [] y all is = let no : None ≡ Some y = is in cc
found p q (x ∷ ys) y all is = by (p x) refl is (λ later. found p q ys y (second_of_both (q x) (list_all q ys) all) later)
  where
    by : (t : Bool) → p x ≡ t → cond t (Some x) (find p ys) ≡ Some y → (find p ys ≡ Some y → (p y ≡ true) × (q y ≡ true)) → (p y ≡ true) × (q y ≡ true)
    by true passes here rest =
        let same = same_Some x y here in
        (sym (ap p same) ∙ passes, sym (ap q same) ∙ first_of_both (q x) (list_all q ys) all)
    by false fails later rest = rest later

-- ---- lines

-- an object without its line feed
abbrev pub object_of : List ℕ → List ℕ → List ℕ
object_of kind members = codes "{\"line\":\"" ++ (kind ++ (codes "\"" ++ (members ++ codes "}")))

object_line-feed : (kind members : List ℕ) → json_object kind members ≡ object_of kind members ++ 10 ∷ []
object_line-feed kind members = simp append_assoc

object_of-inside : (kind members : List ℕ) → lie_inside kind ≡ true → lie_inside members ≡ true → lie_inside (object_of kind members) ≡ true
object_of-inside kind members k m = inside-append kind (codes "\"" ++ (members ++ codes "}")) k (inside-append members (codes "}") m refl)

-- nothing, or bytes that are no line feed and a line feed
abbrev pub IsLineAtMost : List ℕ → Type 0
IsLineAtMost bytes = (bytes ≡ []) ⊎ ((line : List ℕ) × (bytes ≡ line ++ 10 ∷ []) × (lie_inside line ≡ true))

shaped_line-one : (kind parts line : List ℕ) → fits (words_of parts) (words_of line) ≡ true → lie_inside kind ≡ true → lie_inside parts ≡ true → IsLineAtMost (shaped_line (kind, parts) line)
shaped_line-one [] parts line is k p = inl refl
shaped_line-one (b ∷ kind) parts line is k p =
    inr (
      object_of (b ∷ kind) (members (words_of parts) (words_of line)),
      object_line-feed (b ∷ kind) (members (words_of parts) (words_of line)),
      object_of-inside (b ∷ kind) (members (words_of parts) (words_of line)) k (members-inside (words_of parts) (words_of line) is (words-inside parts p)),
    )

pub json_line-one : (l : Lines) (line : List ℕ) → IsLineAtMost (json_line l line)
json_line-one l line = by (find (has_shape line) (shapes l)) refl
  where
    by : (o : Option Shape) → find (has_shape line) (shapes l) ≡ o → IsLineAtMost (json_line_by o line)
    by (Some shape) is =
        let both_pass = found (has_shape line) shape_inside (shapes l) shape (shapes-inside l) is in
        shaped_line-one shape.0 shape.1 line both_pass.0 (first_of_both (lie_inside shape.0) (lie_inside shape.1) both_pass.1) (second_of_both (lie_inside shape.0) (lie_inside shape.1) both_pass.1)
    by None is =
        inr (
          object_of (codes "text") (text_member (codes "text") line),
          object_line-feed (codes "text") (text_member (codes "text") line),
          object_of-inside (codes "text") (text_member (codes "text") line) refl (text_member-inside (codes "text") line refl),
        )
