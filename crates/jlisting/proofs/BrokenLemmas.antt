-- A line breaks no rule exactly where it means something.
use Rattle.std.proofs.Common.{◌≡◌, ◌≢◌, ℕ, ◌+◌, ◌<◌, Bool, true, false, cond, List, [], ◌∷◌, length, refl, sym, ap, ◌∙◌, subst, Option, Some, None, option_map, Bor, arith}
use Rattle.std.specs.Prelude.{◌==◌, ◌&&◌, nat_lt, codes, is_some, is_none, IsSome, IfSome}
use Rattle.std.specs.List.{slice_split}
use Rattle.std.specs.Option.{option_or}
use Rattle.std.specs.Str.{bytes_eq}
use Rattle.std.proofs.lemmas.Bool.{false≢true}
use Rattle.std.proofs.lemmas.Bool.Decides.{nat_tests}
use Rattle.std.proofs.lemmas.Slice.Eq.{bytes_eq-Decides}
use Rattle.jline.specs.Read.{◌>>=◌}
use Rattle.jlisting.specs.Words.{device_kind_of, mode_of, text_of, hex_data_of, file_name_of, escaped_name_of}
use Rattle.jlisting.specs.Listing.{is_skipped, number, owner_word, major_word, minor_word, one_operand, two_operands, three_operands, five_operands, six_operands, statement_of, statement_of_words}
use Rattle.jlisting.specs.Broken.{words_in, operands_of, operation_operands, later_space, space_rule, operands_rule, shape_rule, form_rule, words_rule, or_return, first_broken, new_object, two_texts, a_number, an_owner, word_rule}
use Rattle.jlisting.specs.Laws.{BrokenLinesMeanNothing}
use Rattle.jlisting.specs.declared.rule.Operand.{Operand}
use Rattle.jlisting.specs.declared.rule.Operand.TheVariants as kind
use Rattle.jlisting.specs.declared.rule.Rule.{Rule}
use Rattle.jlisting.specs.declared.rule.Rule.TheVariants as rule
use Rattle.jlisting.specs.declared.statement.Settings.{Settings}
use Rattle.jlisting.specs.declared.statement.Statement.{Statement}
use Rattle.jlisting.specs.declared.statement.Statement.TheVariants as statement
use Rattle.jlisting.proofs.RuleLemmas.{and_false, none_or, reads, word_agrees}

-- ---- operands

abbrev all_read : List Operand → List (List ℕ) → Bool
all_read [] words = true
all_read (operand ∷ operands) [] = true
all_read (operand ∷ operands) (bytes ∷ words) = reads operand bytes && all_read operands words

none_map : {A B : Type 0} (f : A → B) (o : Option A) → is_none (option_map f o) ≡ is_none o
none_map f None = refl
none_map f (Some x) = refl

operands_agree : (n : ℕ) (operands : List Operand) (words : List (List ℕ)) → is_none (operands_rule n operands words) ≡ all_read operands words
operands_agree n [] words = refl
operands_agree n (operand ∷ operands) [] = refl
operands_agree n (operand ∷ operands) (bytes ∷ words) =
    none_or _ _
    ∙ ap (λ (b : Bool). b && is_none (operands_rule (n + 1) operands words)) (none_map _ (word_rule operand bytes) ∙ word_agrees operand bytes)
    ∙ ap (λ (b : Bool). reads operand bytes && b) (operands_agree (n + 1) operands words)

wrong_count : (operands : List Operand) (words : List (List ℕ)) → length words ≢ length operands → is_none (shape_rule operands words) ≡ false
unfolding shape_rule
wrong_count operands words other = by (nat_lt (length words) (length operands)) (nat_lt (length operands) (length words)) refl refl
  where
    by : (few many : Bool) → nat_lt (length words) (length operands) ≡ few → nat_lt (length operands) (length words) ≡ many
        → is_none (cond few (Some (rule.TooFew (length operands))) (cond many (Some (rule.TooMany (length operands))) (operands_rule 2 operands words))) ≡ false
    by true many is above = refl
    by false true is above = refl
    by false false is above = absurd (other (grind (arith, nat_tests)))

right_count : (operands : List Operand) (words : List (List ℕ)) → length words ≡ length operands → shape_rule operands words ≡ operands_rule 2 operands words
unfolding shape_rule
right_count operands words same =
    let few : nat_lt (length words) (length operands) ≡ false = grind (arith, nat_tests) in
    let many : nat_lt (length operands) (length words) ≡ false = grind (arith, nat_tests) in
    rw (few, many) refl

-- ---- the forms, by their number of words

-- words of another number mean nothing
others : (s : Settings) (name : List ℕ) (n : ℕ)
    → (n ≢ 1 → (a : List ℕ) → one_operand s name a ≡ None)
    → (n ≢ 2 → (a b : List ℕ) → two_operands s name a b ≡ None)
    → (n ≢ 3 → (a b c : List ℕ) → three_operands s name a b c ≡ None)
    → (n ≢ 5 → (a b c d e : List ℕ) → five_operands s name a b c d e ≡ None)
    → (n ≢ 6 → (a b c d e f : List ℕ) → six_operands s name a b c d e f ≡ None)
    → (words : List (List ℕ)) → length words ≢ n → statement_of_words s (name ∷ words) ≡ None
others s name n one two three five six [] other = refl
others s name n one two three five six (a ∷ []) other = one (λ is. other (sym is)) a
others s name n one two three five six (a ∷ b ∷ []) other = two (λ is. other (sym is)) a b
others s name n one two three five six (a ∷ b ∷ c ∷ []) other = three (λ is. other (sym is)) a b c
others s name n one two three five six (a ∷ b ∷ c ∷ d ∷ []) other = refl
others s name n one two three five six (a ∷ b ∷ c ∷ d ∷ e ∷ []) other = five (λ is. other (sym is)) a b c d e
others s name n one two three five six (a ∷ b ∷ c ∷ d ∷ e ∷ f ∷ []) other = six (λ is. other (sym is)) a b c d e f
others s name n one two three five six (a ∷ b ∷ c ∷ d ∷ e ∷ f ∷ g ∷ words) other = refl

exactly_one : (P : List (List ℕ) → Type 0) → ((a : List ℕ) → P (a ∷ [])) → (words : List (List ℕ)) → length words ≡ 1 → P words
exactly_one P p [] is = absurd (omega arith)
exactly_one P p (a ∷ []) is = p a
exactly_one P p (a ∷ b ∷ words) is = absurd (omega arith)

exactly_two : (P : List (List ℕ) → Type 0) → ((a b : List ℕ) → P (a ∷ b ∷ [])) → (words : List (List ℕ)) → length words ≡ 2 → P words
exactly_two P p [] is = absurd (omega arith)
exactly_two P p (a ∷ words) is = exactly_one (λ (more : List (List ℕ)). P (a ∷ more)) (p a) words (omega arith)

exactly_three : (P : List (List ℕ) → Type 0) → ((a b c : List ℕ) → P (a ∷ b ∷ c ∷ [])) → (words : List (List ℕ)) → length words ≡ 3 → P words
exactly_three P p [] is = absurd (omega arith)
exactly_three P p (a ∷ words) is = exactly_two (λ (more : List (List ℕ)). P (a ∷ more)) (p a) words (omega arith)

exactly_four : (P : List (List ℕ) → Type 0) → ((a b c d : List ℕ) → P (a ∷ b ∷ c ∷ d ∷ [])) → (words : List (List ℕ)) → length words ≡ 4 → P words
exactly_four P p [] is = absurd (omega arith)
exactly_four P p (a ∷ words) is = exactly_three (λ (more : List (List ℕ)). P (a ∷ more)) (p a) words (omega arith)

exactly_five : (P : List (List ℕ) → Type 0) → ((a b c d e : List ℕ) → P (a ∷ b ∷ c ∷ d ∷ e ∷ [])) → (words : List (List ℕ)) → length words ≡ 5 → P words
exactly_five P p [] is = absurd (omega arith)
exactly_five P p (a ∷ words) is = exactly_four (λ (more : List (List ℕ)). P (a ∷ more)) (p a) words (omega arith)

exactly_six : (P : List (List ℕ) → Type 0) → ((a b c d e f : List ℕ) → P (a ∷ b ∷ c ∷ d ∷ e ∷ f ∷ [])) → (words : List (List ℕ)) → length words ≡ 6 → P words
exactly_six P p [] is = absurd (omega arith)
exactly_six P p (a ∷ words) is = exactly_five (λ (more : List (List ℕ)). P (a ∷ more)) (p a) words (omega arith)

-- ---- a line that begins with a name

-- words break no rule exactly where they mean something
abbrev Agree : Settings → List (List ℕ) → Type 0
Agree s words = is_none (words_rule words) ≡ is_some (statement_of_words s words)

-- each operand of the form is read
abbrev Form : Settings → List ℕ → List Operand → List (List ℕ) → Type 0
Form s name operands words = is_some (statement_of_words s (name ∷ words)) ≡ all_read operands words

by_count : (s : Settings) (name : List ℕ) (operands : List Operand) (words : List (List ℕ)) → operands_of name ≡ Some operands
    → (length words ≢ length operands → statement_of_words s (name ∷ words) ≡ None)
    → (length words ≡ length operands → Form s name operands words)
    → Agree s (name ∷ words)
by_count s name operands words named other same = by (length words == length operands) refl
  where
    rule : is_none (words_rule (name ∷ words)) ≡ is_none (shape_rule operands words)
    rule = ap (λ (o : Option (List Operand)). is_none (form_rule o words)) named

    by : (b : Bool) → (length words == length operands) ≡ b → Agree s (name ∷ words)
    by true is =
        let count : length words ≡ length operands = grind (arith, nat_tests) in
        rule ∙ ap (λ (o : Option Rule). is_none o) (right_count operands words count) ∙ operands_agree 2 operands words ∙ sym (same count)
    by false is =
        let count : length words ≢ length operands = λ e. grind (arith, nat_tests) in
        rule ∙ wrong_count operands words count ∙ sym (ap (λ (o : Option Statement). is_some o) (other count))

-- forms of several words
form_one : {A : Type 0} (o : Option A) (f : A → Statement) → is_some (o >>= λ a. Some (f a)) ≡ (is_some o && true)
form_one None f = refl
form_one (Some a) f = refl

form_two : {A B : Type 0} (o : Option A) (r : Option B) (f : A → B → Statement)
    → is_some (o >>= λ a. r >>= λ b. Some (f a b)) ≡ (is_some o && (is_some r && true))
form_two None r f = refl
form_two (Some a) r f = form_one r (f a)

form_three : {A B C : Type 0} (o : Option A) (r : Option B) (t : Option C) (f : A → B → C → Statement)
    → is_some (o >>= λ a. r >>= λ b. t >>= λ c. Some (f a b c)) ≡ (is_some o && (is_some r && (is_some t && true)))
form_three None r t f = refl
form_three (Some a) r t f = form_two r t (f a)

form_four : {A B C D : Type 0} (o : Option A) (r : Option B) (t : Option C) (u : Option D) (f : A → B → C → D → Statement)
    → is_some (o >>= λ a. r >>= λ b. t >>= λ c. u >>= λ d. Some (f a b c d)) ≡ (is_some o && (is_some r && (is_some t && (is_some u && true))))
form_four None r t u f = refl
form_four (Some a) r t u f = form_three r t u (f a)

form_five : {A B C D E : Type 0} (o : Option A) (r : Option B) (t : Option C) (u : Option D) (v : Option E) (f : A → B → C → D → E → Statement)
    → is_some (o >>= λ a. r >>= λ b. t >>= λ c. u >>= λ d. v >>= λ e. Some (f a b c d e))
    ≡ (is_some o && (is_some r && (is_some t && (is_some u && (is_some v && true)))))
form_five None r t u v f = refl
form_five (Some a) r t u v f = form_four r t u v (f a)

form_six : {A B C D E F : Type 0} (o : Option A) (r : Option B) (t : Option C) (u : Option D) (v : Option E) (w : Option F) (f : A → B → C → D → E → F → Statement)
    → is_some (o >>= λ a. r >>= λ b. t >>= λ c. u >>= λ d. v >>= λ e. w >>= λ x. Some (f a b c d e x))
    ≡ (is_some o && (is_some r && (is_some t && (is_some u && (is_some v && (is_some w && true))))))
form_six None r t u v w f = refl
form_six (Some a) r t u v w f = form_five r t u v w (f a)

-- ---- each operation

time_agrees : (s : Settings) (words : List (List ℕ)) → Agree s (codes "time" ∷ words)
unfolding operands_of operation_operands one_operand two_operands three_operands five_operands six_operands
time_agrees s words =
    by_count s (codes "time") (a_number ∷ []) words refl
    (others s (codes "time") 1 (λ is a. absurd (is refl)) (λ is a b. refl) (λ is a b c. refl) (λ is a b c d e. refl) (λ is a b c d e f. refl) words)
    (exactly_one (Form s (codes "time") (a_number ∷ [])) (λ a. form_one (number a) _) words)

owner_agrees : (s : Settings) (words : List (List ℕ)) → Agree s (codes "owner" ∷ words)
unfolding operands_of operation_operands one_operand two_operands three_operands five_operands six_operands
owner_agrees s words =
    by_count s (codes "owner") (an_owner ∷ an_owner ∷ []) words refl
    (others s (codes "owner") 2 (λ is a. refl) (λ is a b. absurd (is refl)) (λ is a b c. refl) (λ is a b c d e. refl) (λ is a b c d e f. refl) words)
    (exactly_two (Form s (codes "owner") (an_owner ∷ an_owner ∷ [])) (λ a b. form_two (owner_word a) (owner_word b) _) words)

mkdir_agrees : (s : Settings) (words : List (List ℕ)) → Agree s (codes "mkdir" ∷ words)
unfolding operands_of operation_operands one_operand two_operands three_operands five_operands six_operands
mkdir_agrees s words =
    by_count s (codes "mkdir") (new_object) words refl
    (others s (codes "mkdir") 2 (λ is a. refl) (λ is a b. absurd (is refl)) (λ is a b c. refl) (λ is a b c d e. refl) (λ is a b c d e f. refl) words)
    (exactly_two (Form s (codes "mkdir") (new_object)) (λ a b. form_two (mode_of a) (text_of b) _) words)

create_agrees : (s : Settings) (words : List (List ℕ)) → Agree s (codes "create" ∷ words)
unfolding operands_of operation_operands one_operand two_operands three_operands five_operands six_operands
create_agrees s words =
    by_count s (codes "create") (new_object) words refl
    (others s (codes "create") 2 (λ is a. refl) (λ is a b. absurd (is refl)) (λ is a b c. refl) (λ is a b c d e. refl) (λ is a b c d e f. refl) words)
    (exactly_two (Form s (codes "create") (new_object)) (λ a b. form_two (mode_of a) (text_of b) _) words)

fifo_agrees : (s : Settings) (words : List (List ℕ)) → Agree s (codes "fifo" ∷ words)
unfolding operands_of operation_operands one_operand two_operands three_operands five_operands six_operands
fifo_agrees s words =
    by_count s (codes "fifo") (new_object) words refl
    (others s (codes "fifo") 2 (λ is a. refl) (λ is a b. absurd (is refl)) (λ is a b c. refl) (λ is a b c d e. refl) (λ is a b c d e f. refl) words)
    (exactly_two (Form s (codes "fifo") (new_object)) (λ a b. form_two (mode_of a) (text_of b) _) words)

socket_agrees : (s : Settings) (words : List (List ℕ)) → Agree s (codes "socket" ∷ words)
unfolding operands_of operation_operands one_operand two_operands three_operands five_operands six_operands
socket_agrees s words =
    by_count s (codes "socket") (new_object) words refl
    (others s (codes "socket") 2 (λ is a. refl) (λ is a b. absurd (is refl)) (λ is a b c. refl) (λ is a b c d e. refl) (λ is a b c d e f. refl) words)
    (exactly_two (Form s (codes "socket") (new_object)) (λ a b. form_two (mode_of a) (text_of b) _) words)

file_agrees : (s : Settings) (words : List (List ℕ)) → Agree s (codes "file" ∷ words)
unfolding operands_of operation_operands one_operand two_operands three_operands five_operands six_operands
file_agrees s words =
    by_count s (codes "file") (kind.Mode ∷ kind.Text ∷ kind.EscapedName ∷ []) words refl
    (others s (codes "file") 3 (λ is a. refl) (λ is a b. refl) (λ is a b c. absurd (is refl)) (λ is a b c d e. refl) (λ is a b c d e f. refl) words)
    (exactly_three (Form s (codes "file") (kind.Mode ∷ kind.Text ∷ kind.EscapedName ∷ [])) (λ a b c. form_three (mode_of a) (text_of b) (escaped_name_of c) _) words)

put_agrees : (s : Settings) (words : List (List ℕ)) → Agree s (codes "put" ∷ words)
unfolding operands_of operation_operands one_operand two_operands three_operands five_operands six_operands
put_agrees s words =
    by_count s (codes "put") (kind.Mode ∷ kind.Text ∷ kind.EscapedName ∷ []) words refl
    (others s (codes "put") 3 (λ is a. refl) (λ is a b. refl) (λ is a b c. absurd (is refl)) (λ is a b c d e. refl) (λ is a b c d e f. refl) words)
    (exactly_three (Form s (codes "put") (kind.Mode ∷ kind.Text ∷ kind.EscapedName ∷ [])) (λ a b c. form_three (mode_of a) (text_of b) (escaped_name_of c) _) words)

device_agrees : (s : Settings) (words : List (List ℕ)) → Agree s (codes "device" ∷ words)
unfolding operands_of operation_operands one_operand two_operands three_operands five_operands six_operands
device_agrees s words =
    by_count s (codes "device") (kind.DeviceKind ∷ kind.Mode ∷ kind.Number 4095 ∷ kind.Number 1048575 ∷ kind.Text ∷ []) words refl
    (others s (codes "device") 5 (λ is a. refl) (λ is a b. refl) (λ is a b c. refl) (λ is a b c d e. absurd (is refl)) (λ is a b c d e f. refl) words)
    (exactly_five (Form s (codes "device") (kind.DeviceKind ∷ kind.Mode ∷ kind.Number 4095 ∷ kind.Number 1048575 ∷ kind.Text ∷ [])) (λ a b c d e. form_five (device_kind_of a) (mode_of b) (major_word c) (minor_word d) (text_of e) _) words)

symlink_agrees : (s : Settings) (words : List (List ℕ)) → Agree s (codes "symlink" ∷ words)
unfolding operands_of operation_operands one_operand two_operands three_operands five_operands six_operands
symlink_agrees s words =
    by_count s (codes "symlink") (two_texts) words refl
    (others s (codes "symlink") 2 (λ is a. refl) (λ is a b. absurd (is refl)) (λ is a b c. refl) (λ is a b c d e. refl) (λ is a b c d e f. refl) words)
    (exactly_two (Form s (codes "symlink") (two_texts)) (λ a b. form_two (text_of a) (text_of b) _) words)

link_agrees : (s : Settings) (words : List (List ℕ)) → Agree s (codes "link" ∷ words)
unfolding operands_of operation_operands one_operand two_operands three_operands five_operands six_operands
link_agrees s words =
    by_count s (codes "link") (two_texts) words refl
    (others s (codes "link") 2 (λ is a. refl) (λ is a b. absurd (is refl)) (λ is a b c. refl) (λ is a b c d e. refl) (λ is a b c d e f. refl) words)
    (exactly_two (Form s (codes "link") (two_texts)) (λ a b. form_two (text_of a) (text_of b) _) words)

rename_agrees : (s : Settings) (words : List (List ℕ)) → Agree s (codes "rename" ∷ words)
unfolding operands_of operation_operands one_operand two_operands three_operands five_operands six_operands
rename_agrees s words =
    by_count s (codes "rename") (two_texts) words refl
    (others s (codes "rename") 2 (λ is a. refl) (λ is a b. absurd (is refl)) (λ is a b c. refl) (λ is a b c d e. refl) (λ is a b c d e f. refl) words)
    (exactly_two (Form s (codes "rename") (two_texts)) (λ a b. form_two (text_of a) (text_of b) _) words)

replace_agrees : (s : Settings) (words : List (List ℕ)) → Agree s (codes "replace" ∷ words)
unfolding operands_of operation_operands one_operand two_operands three_operands five_operands six_operands
replace_agrees s words =
    by_count s (codes "replace") (two_texts) words refl
    (others s (codes "replace") 2 (λ is a. refl) (λ is a b. absurd (is refl)) (λ is a b c. refl) (λ is a b c d e. refl) (λ is a b c d e f. refl) words)
    (exactly_two (Form s (codes "replace") (two_texts)) (λ a b. form_two (text_of a) (text_of b) _) words)

write_agrees : (s : Settings) (words : List (List ℕ)) → Agree s (codes "write" ∷ words)
unfolding operands_of operation_operands one_operand two_operands three_operands five_operands six_operands
write_agrees s words =
    by_count s (codes "write") (kind.Text ∷ a_number ∷ kind.Data ∷ []) words refl
    (others s (codes "write") 3 (λ is a. refl) (λ is a b. refl) (λ is a b c. absurd (is refl)) (λ is a b c d e. refl) (λ is a b c d e f. refl) words)
    (exactly_three (Form s (codes "write") (kind.Text ∷ a_number ∷ kind.Data ∷ [])) (λ a b c. form_three (text_of a) (number b) (hex_data_of c) _) words)

part_agrees : (s : Settings) (words : List (List ℕ)) → Agree s (codes "part" ∷ words)
unfolding operands_of operation_operands one_operand two_operands three_operands five_operands six_operands
part_agrees s words =
    by_count s (codes "part") (kind.Text ∷ a_number ∷ kind.FileName ∷ []) words refl
    (others s (codes "part") 3 (λ is a. refl) (λ is a b. refl) (λ is a b c. absurd (is refl)) (λ is a b c d e. refl) (λ is a b c d e f. refl) words)
    (exactly_three (Form s (codes "part") (kind.Text ∷ a_number ∷ kind.FileName ∷ [])) (λ a b c. form_three (text_of a) (number b) (file_name_of c) _) words)

truncate_agrees : (s : Settings) (words : List (List ℕ)) → Agree s (codes "truncate" ∷ words)
unfolding operands_of operation_operands one_operand two_operands three_operands five_operands six_operands
truncate_agrees s words =
    by_count s (codes "truncate") (kind.Text ∷ a_number ∷ []) words refl
    (others s (codes "truncate") 2 (λ is a. refl) (λ is a b. absurd (is refl)) (λ is a b c. refl) (λ is a b c d e. refl) (λ is a b c d e f. refl) words)
    (exactly_two (Form s (codes "truncate") (kind.Text ∷ a_number ∷ [])) (λ a b. form_two (text_of a) (number b) _) words)

remove_agrees : (s : Settings) (words : List (List ℕ)) → Agree s (codes "remove" ∷ words)
unfolding operands_of operation_operands one_operand two_operands three_operands five_operands six_operands
remove_agrees s words =
    by_count s (codes "remove") (kind.Text ∷ []) words refl
    (others s (codes "remove") 1 (λ is a. absurd (is refl)) (λ is a b. refl) (λ is a b c. refl) (λ is a b c d e. refl) (λ is a b c d e f. refl) words)
    (exactly_one (Form s (codes "remove") (kind.Text ∷ [])) (λ a. form_one (text_of a) _) words)

remove_if_agrees : (s : Settings) (words : List (List ℕ)) → Agree s (codes "remove-if" ∷ words)
unfolding operands_of operation_operands one_operand two_operands three_operands five_operands six_operands
remove_if_agrees s words =
    by_count s (codes "remove-if") (kind.Text ∷ []) words refl
    (others s (codes "remove-if") 1 (λ is a. absurd (is refl)) (λ is a b. refl) (λ is a b c. refl) (λ is a b c d e. refl) (λ is a b c d e f. refl) words)
    (exactly_one (Form s (codes "remove-if") (kind.Text ∷ [])) (λ a. form_one (text_of a) _) words)

attr_agrees : (s : Settings) (words : List (List ℕ)) → Agree s (codes "attr" ∷ words)
unfolding operands_of operation_operands one_operand two_operands three_operands five_operands six_operands
attr_agrees s words =
    by_count s (codes "attr") (kind.Mode ∷ an_owner ∷ an_owner ∷ a_number ∷ a_number ∷ kind.Text ∷ []) words refl
    (others s (codes "attr") 6 (λ is a. refl) (λ is a b. refl) (λ is a b c. refl) (λ is a b c d e. refl) (λ is a b c d e f. absurd (is refl)) words)
    (exactly_six (Form s (codes "attr") (kind.Mode ∷ an_owner ∷ an_owner ∷ a_number ∷ a_number ∷ kind.Text ∷ [])) (λ a b c d e f. form_six (mode_of a) (owner_word b) (owner_word c) (number d) (number e) (text_of f) _) words)

-- ---- any line

-- a name is this one, or another
if_named : (P : List ℕ → Type 0) (name known : List ℕ) → P known → (bytes_eq name known ≡ false → P name) → P name
if_named P name known is other = by (bytes_eq name known) refl
  where
    by : (b : Bool) → bytes_eq name known ≡ b → P name
    by true e = subst P (sym ((bytes_eq-Decides name known).0 e)) is
    by false e = other e

nothing : (s : Settings) (name : List ℕ) (words : List (List ℕ))
    → bytes_eq name (codes "time") ≡ false
    → bytes_eq name (codes "owner") ≡ false
    → bytes_eq name (codes "mkdir") ≡ false
    → bytes_eq name (codes "create") ≡ false
    → bytes_eq name (codes "fifo") ≡ false
    → bytes_eq name (codes "socket") ≡ false
    → bytes_eq name (codes "file") ≡ false
    → bytes_eq name (codes "put") ≡ false
    → bytes_eq name (codes "device") ≡ false
    → bytes_eq name (codes "symlink") ≡ false
    → bytes_eq name (codes "link") ≡ false
    → bytes_eq name (codes "rename") ≡ false
    → bytes_eq name (codes "replace") ≡ false
    → bytes_eq name (codes "write") ≡ false
    → bytes_eq name (codes "part") ≡ false
    → bytes_eq name (codes "truncate") ≡ false
    → bytes_eq name (codes "remove") ≡ false
    → bytes_eq name (codes "remove-if") ≡ false
    → bytes_eq name (codes "attr") ≡ false
    → statement_of_words s (name ∷ words) ≡ None
unfolding operands_of operation_operands one_operand two_operands three_operands five_operands six_operands
nothing s name [] t_time t_owner t_mkdir t_create t_fifo t_socket t_file t_put t_device t_symlink t_link t_rename t_replace t_write t_part t_truncate t_remove t_remove_if t_attr = refl
nothing s name (a ∷ words) t_time t_owner t_mkdir t_create t_fifo t_socket t_file t_put t_device t_symlink t_link t_rename t_replace t_write t_part t_truncate t_remove t_remove_if t_attr =
    others s name 0
    (λ is a. simp (t_time, t_remove, t_remove_if))
    (λ is a b. simp (t_owner, t_mkdir, t_create, t_fifo, t_socket, t_symlink, t_link, t_rename, t_replace, t_truncate))
    (λ is a b c. simp (t_file, t_put, t_write, t_part))
    (λ is a b c d e. simp t_device)
    (λ is a b c d e f. simp t_attr)
    (a ∷ words) (λ is. absurd (omega arith))

unnamed : (s : Settings) (name : List ℕ) (words : List (List ℕ))
    → bytes_eq name (codes "time") ≡ false
    → bytes_eq name (codes "owner") ≡ false
    → bytes_eq name (codes "mkdir") ≡ false
    → bytes_eq name (codes "create") ≡ false
    → bytes_eq name (codes "fifo") ≡ false
    → bytes_eq name (codes "socket") ≡ false
    → bytes_eq name (codes "file") ≡ false
    → bytes_eq name (codes "put") ≡ false
    → bytes_eq name (codes "device") ≡ false
    → bytes_eq name (codes "symlink") ≡ false
    → bytes_eq name (codes "link") ≡ false
    → bytes_eq name (codes "rename") ≡ false
    → bytes_eq name (codes "replace") ≡ false
    → bytes_eq name (codes "write") ≡ false
    → bytes_eq name (codes "part") ≡ false
    → bytes_eq name (codes "truncate") ≡ false
    → bytes_eq name (codes "remove") ≡ false
    → bytes_eq name (codes "remove-if") ≡ false
    → bytes_eq name (codes "attr") ≡ false
    → Agree s (name ∷ words)
unfolding operands_of operation_operands one_operand two_operands three_operands five_operands six_operands
unnamed s name words t_time t_owner t_mkdir t_create t_fifo t_socket t_file t_put t_device t_symlink t_link t_rename t_replace t_write t_part t_truncate t_remove t_remove_if t_attr =
    let none : operands_of name ≡ None = simp (t_time, t_owner, t_mkdir, t_create, t_fifo, t_socket, t_file, t_put, t_device, t_symlink, t_link, t_rename, t_replace, t_write, t_part, t_truncate, t_remove, t_remove_if, t_attr) in
    ap (λ (o : Option (List Operand)). is_none (form_rule o words)) none
    ∙ sym (ap (λ (o : Option Statement). is_some o) (nothing s name words t_time t_owner t_mkdir t_create t_fifo t_socket t_file t_put t_device t_symlink t_link t_rename t_replace t_write t_part t_truncate t_remove t_remove_if t_attr))

named_agree : (s : Settings) (name : List ℕ) (words : List (List ℕ)) → Agree s (name ∷ words)
named_agree s name words =
    let P : List ℕ → Type 0 = λ (known : List ℕ). Agree s (known ∷ words) in
    if_named P name (codes "time") (time_agrees s words) (λ t_time.
    if_named P name (codes "owner") (owner_agrees s words) (λ t_owner.
    if_named P name (codes "mkdir") (mkdir_agrees s words) (λ t_mkdir.
    if_named P name (codes "create") (create_agrees s words) (λ t_create.
    if_named P name (codes "fifo") (fifo_agrees s words) (λ t_fifo.
    if_named P name (codes "socket") (socket_agrees s words) (λ t_socket.
    if_named P name (codes "file") (file_agrees s words) (λ t_file.
    if_named P name (codes "put") (put_agrees s words) (λ t_put.
    if_named P name (codes "device") (device_agrees s words) (λ t_device.
    if_named P name (codes "symlink") (symlink_agrees s words) (λ t_symlink.
    if_named P name (codes "link") (link_agrees s words) (λ t_link.
    if_named P name (codes "rename") (rename_agrees s words) (λ t_rename.
    if_named P name (codes "replace") (replace_agrees s words) (λ t_replace.
    if_named P name (codes "write") (write_agrees s words) (λ t_write.
    if_named P name (codes "part") (part_agrees s words) (λ t_part.
    if_named P name (codes "truncate") (truncate_agrees s words) (λ t_truncate.
    if_named P name (codes "remove") (remove_agrees s words) (λ t_remove.
    if_named P name (codes "remove-if") (remove_if_agrees s words) (λ t_remove_if.
    if_named P name (codes "attr") (attr_agrees s words) (λ t_attr.
    unnamed s name words t_time t_owner t_mkdir t_create t_fifo t_socket t_file t_put t_device t_symlink t_link t_rename t_replace t_write t_part t_truncate t_remove t_remove_if t_attr)))))))))))))))))))

words_agree : (s : Settings) (words : List (List ℕ)) → Agree s words
words_agree s [] = refl
words_agree s (name ∷ words) = named_agree s name words

-- ---- spaces

-- an empty word is no operand
spaced_operands : (n : ℕ) (operands : List Operand) (words : List (List ℕ)) → length words ≡ length operands → is_none (later_space words) ≡ false
    → is_none (operands_rule n operands words) ≡ false
unfolding word_rule
spaced_operands n [] [] count spaced = spaced
spaced_operands n [] (bytes ∷ words) count spaced = absurd (omega arith)
spaced_operands n (operand ∷ operands) [] count spaced = absurd (omega arith)
spaced_operands n (operand ∷ operands) ([] ∷ words) count spaced = refl
spaced_operands n (operand ∷ operands) ((b ∷ bs) ∷ words) count spaced =
    none_or _ _
    ∙ ap (λ (t : Bool). is_none (option_map (λ broken. rule.Word n broken) (word_rule operand (b ∷ bs))) && t)
    (spaced_operands (n + 1) operands words (omega arith) spaced) ∙ and_false _

spaced_shape : (operands : List Operand) (words : List (List ℕ)) → is_none (later_space words) ≡ false → is_none (shape_rule operands words) ≡ false
spaced_shape operands words spaced = by (length words == length operands) refl
  where
    by : (b : Bool) → (length words == length operands) ≡ b → is_none (shape_rule operands words) ≡ false
    by true is =
        let count : length words ≡ length operands = grind (arith, nat_tests) in
        ap (λ (o : Option Rule). is_none o) (right_count operands words count) ∙ spaced_operands 2 operands words count spaced
    by false is =
        let count : length words ≢ length operands = λ e. grind (arith, nat_tests) in
        wrong_count operands words count

spaced_form : (o : Option (List Operand)) (words : List (List ℕ)) → is_none (later_space words) ≡ false → is_none (form_rule o words) ≡ false
spaced_form None words spaced = refl
spaced_form (Some operands) words spaced = spaced_shape operands words spaced

spaced_words : (words : List (List ℕ)) → is_none (space_rule words) ≡ false → is_none (words_rule words) ≡ false
unfolding operands_of operation_operands
spaced_words [] spaced = refl
spaced_words ([] ∷ words) spaced = refl
spaced_words ((b ∷ bs) ∷ words) spaced = spaced_form (operands_of (b ∷ bs)) words spaced

-- ---- a line

none_return : (line : List ℕ) (o : Option Rule) → is_none (or_return line o) ≡ is_none o
none_return line None = refl
none_return line (Some broken) = refl

both_none : (a b : Bool) → (a ≡ false → b ≡ false) → (a && b) ≡ b
both_none true b other = refl
both_none false b other = sym (other refl)

unskipped : (s : Settings) (line : List ℕ) (words : List (List ℕ))
    → is_none (option_or (space_rule words) (or_return line (words_rule words))) ≡ is_some (statement_of_words s words)
unskipped s line words =
    none_or (space_rule words) (or_return line (words_rule words))
    ∙ ap (λ (t : Bool). is_none (space_rule words) && t) (none_return line (words_rule words))
    ∙ both_none (is_none (space_rule words)) (is_none (words_rule words)) (spaced_words words)
    ∙ words_agree s words

pub broken_agrees : (s : Settings) (line : List ℕ) → is_none (first_broken line) ≡ is_some (statement_of s line)
unfolding first_broken statement_of
broken_agrees s line = by (is_skipped line)
  where
    words : List (List ℕ)
    words = slice_split (λ b. b == 32) line

    by : (b : Bool) → is_none (cond b None (option_or (space_rule words) (or_return line (words_rule words))))
        ≡ is_some (cond b (Some statement.Blank) (statement_of_words s words))
    by true = refl
    by false = unskipped s line words

none_is : {R : Type 0} (o : Option R) → is_none o ≡ true → o ≡ None
none_is None is = refl
none_is (Some x) is = absurd (false≢true is)

pub broken_lines_mean_nothing : BrokenLinesMeanNothing
broken_lines_mean_nothing s line = (means, unbroken)
  where
    means : first_broken line ≡ None → IsSome (statement_of s line)
    means is = sym (broken_agrees s line) ∙ ap (λ (o : Option Rule). is_none o) is

    unbroken : IsSome (statement_of s line) → first_broken line ≡ None
    unbroken is = none_is (first_broken line) (broken_agrees s line ∙ is)

-- of a line that means nothing there is a rule that it breaks
pub nothing_breaks : (s : Settings) (line : List ℕ) → statement_of s line ≡ None → first_broken line ≡ None → ⊥
nothing_breaks s line nothing unbroken =
    false≢true (sym (broken_agrees s line ∙ ap (λ (o : Option Statement). is_some o) nothing) ∙ ap (λ (o : Option Rule). is_none o) unbroken)

-- ---- the walk over the words that are left

abbrev pub left_words : Option (Bor (List ℕ)) → List (List ℕ)
left_words left = words_in (option_map (λ (text : Bor (List ℕ)). text.now) left)

abbrev pub left_len : Option (Bor (List ℕ)) → ℕ
left_len None = 0
left_len (Some text) = length text.now + 1

pub left_is_shorter : (left : Option (Bor (List ℕ))) (n : ℕ) → IfSome left (λ rest. length rest.now < n) → left_len left < n + 1
left_is_shorter None n shorter = omega arith
left_is_shorter (Some rest) n shorter = omega (arith, shorter)

pub no_words_left : (n : ℕ) (operands : List Operand) → operands_rule n operands [] ≡ None
no_words_left n [] = refl
no_words_left n (operand ∷ operands) = refl

pub space_at_end : (bytes : List ℕ) → length bytes ≡ 0 → later_space (bytes ∷ []) ≡ Some rule.SpaceAtEnd
space_at_end [] none = refl
space_at_end (b ∷ bs) none = absurd (omega arith)

pub space_between : (bytes : List ℕ) (words : List (List ℕ)) → length bytes ≡ 0 → 0 < length words → later_space (bytes ∷ words) ≡ Some rule.TwoSpaces
space_between [] [] none some = absurd (omega arith)
space_between [] (next ∷ words) none some = refl
space_between (b ∷ bs) words none some = absurd (omega arith)

pub space_later : (bytes : List ℕ) (words : List (List ℕ)) → 0 < length bytes → later_space (bytes ∷ words) ≡ later_space words
space_later [] words some = absurd (omega arith)
space_later (b ∷ bs) words some = refl
