-- A line by its words, and how it is read.
use Rattle.std.proofs.Common.{◌≡◌, ℕ, ◌+◌, ◌==◌, Bool, false, cond, List, [], ◌∷◌, ◌++◌, map, sym, ap, ◌∙◌, refl, arith, append_assoc, Option, Some, Ok}
use Rattle.std.specs.List.{All, slice_split}
use Rattle.std.proofs.lemmas.List.Elements.{All-cons, All-append, All-head, All-tail}
use Rattle.std.proofs.lemmas.List.Splits.{slice_split_at, slice_split_none}
use Rattle.std.proofs.lemmas.Bool.Decides.{nat_tests}
use Rattle.jlisting.specs.Listing.{action_lines, is_skipped, lines_from, lines_in, or_err, prepend, settings_after, statement_of, statement_of_words}
use Rattle.jlisting.specs.declared.line.Action.{Action}
use Rattle.jlisting.specs.declared.line.Line.{Line}
use Rattle.jlisting.specs.declared.statement.Settings.{Settings}
use Rattle.jlisting.specs.declared.statement.Statement.{Statement}
use Rattle.jlisting.specs.declared.statement.Statement.TheVariants as kind
use Rattle.jfolder.specs.Text.{words_line}
use Rattle.jfolder.proofs.SeenLemmas.{IsPlain}

-- ---- words between single spaces

abbrev joined : List (List ℕ) → List ℕ
joined [] = []
joined (w ∷ []) = w
joined (w ∷ v ∷ ws) = w ++ 32 ∷ joined (v ∷ ws)

line_joined : (w : List ℕ) (ws : List (List ℕ)) → words_line (w ∷ ws) ≡ joined (w ∷ ws) ++ 10 ∷ []
line_joined w [] = refl
line_joined w (v ∷ ws) = ap (λ (l : List ℕ). w ++ 32 ∷ l) (line_joined v ws) ∙ sym (append_assoc w (32 ∷ joined (v ∷ ws)) (10 ∷ []))

words_split : (w : List ℕ) (ws : List (List ℕ)) → All IsPlain (w ∷ ws) → slice_split (λ b. b == 32) (joined (w ∷ ws)) ≡ w ∷ ws
words_split w [] all = slice_split_none (λ b. b == 32) w (All-head IsPlain w [] all).spaces
words_split w (v ∷ ws) all =
    slice_split_at (λ b. b == 32) w 32 (joined (v ∷ ws)) (All-head IsPlain w (v ∷ ws) all).spaces refl
    ∙ ap (λ (l : List (List ℕ)). w ∷ l) (words_split v ws (All-tail IsPlain w (v ∷ ws) all))

joined_feeds : (w : List ℕ) (ws : List (List ℕ)) → All IsPlain (w ∷ ws) → All (λ b. (b == 10) ≡ false) (joined (w ∷ ws))
joined_feeds w [] all = (All-head IsPlain w [] all).feeds
joined_feeds w (v ∷ ws) all =
    All-append (λ b. (b == 10) ≡ false) w (32 ∷ joined (v ∷ ws)) (All-head IsPlain w (v ∷ ws) all).feeds
    (All-cons (λ b. (b == 10) ≡ false) 32 (joined (v ∷ ws)) refl (joined_feeds v ws (All-tail IsPlain w (v ∷ ws) all)))

-- ---- a line is read

not_skipped : (b : ℕ) (rest : List ℕ) → (b == 35) ≡ false → is_skipped (b ∷ rest) ≡ false
not_skipped b rest is = grind (arith, nat_tests)

line_not_skipped : (b : ℕ) (w : List ℕ) (ws : List (List ℕ)) → (b == 35) ≡ false → is_skipped (joined ((b ∷ w) ∷ ws)) ≡ false
line_not_skipped b w [] is = not_skipped b w is
line_not_skipped b w (v ∷ ws) is = not_skipped b (w ++ 32 ∷ joined (v ∷ ws)) is

statement_joined : (s : Settings) (b : ℕ) (w : List ℕ) (ws : List (List ℕ)) → (b == 35) ≡ false → All IsPlain ((b ∷ w) ∷ ws)
    → statement_of s (joined ((b ∷ w) ∷ ws)) ≡ statement_of_words s ((b ∷ w) ∷ ws)
unfolding statement_of
statement_joined s b w ws is all =
    ap (λ (t : Bool). cond t (Some kind.Blank) (statement_of_words s (slice_split (λ b. b == 32) (joined ((b ∷ w) ∷ ws))))) (line_not_skipped b w ws is)
    ∙ ap (statement_of_words s) (words_split (b ∷ w) ws all)

line_read : (n : ℕ) (s : Settings) (b : ℕ) (w : List ℕ) (ws : List (List ℕ)) (rest : List ℕ) (m : Statement) → (b == 35) ≡ false
    → All IsPlain ((b ∷ w) ∷ ws) → statement_of_words s ((b ∷ w) ∷ ws) ≡ Some m
    → lines_in n s (words_line ((b ∷ w) ∷ ws) ++ rest) ≡ prepend (action_lines n m) (lines_in (n + 1) (settings_after s m) rest)
line_read n s b w ws rest m is all means =
    let line = joined ((b ∷ w) ∷ ws) in
    ap (λ (l : List ℕ). lines_in n s (l ++ rest)) (line_joined (b ∷ w) ws)
    ∙ ap (lines_in n s) (append_assoc line (10 ∷ []) rest)
    ∙ ap (lines_from n s) (slice_split_at (λ b. b == 10) line 10 rest (joined_feeds (b ∷ w) ws all) refl)
    ∙ ap (λ (o : Option Statement). or_err n o (λ m. prepend (action_lines n m) (lines_in (n + 1) (settings_after s m) rest))) (statement_joined s b w ws is all ∙ means)

-- ---- a text is read as some actions

abbrev pub Reads : Settings → List ℕ → List Action → Type 0
Reads s text actions = (n : ℕ) → (lines : List Line) × (lines_in n s text ≡ Ok lines) × (map (λ (line : Line). line.action) lines ≡ actions)

pub reads_nothing : (s : Settings) → Reads s [] []
unfolding statement_of
reads_nothing s = λ n. ([], refl, refl)

pub reads_action : (s : Settings) (b : ℕ) (w : List ℕ) (ws : List (List ℕ)) (rest : List ℕ) (a : Action) (actions : List Action)
    → (b == 35) ≡ false → All IsPlain ((b ∷ w) ∷ ws) → statement_of_words s ((b ∷ w) ∷ ws) ≡ Some (kind.Action a)
    → Reads s rest actions → Reads s (words_line ((b ∷ w) ∷ ws) ++ rest) (a ∷ actions)
reads_action s b w ws rest a actions is all means next = λ n.
    let more = next (n + 1) in
    let here : Line = record { number = n; action = a } in
    (here ∷ more.0, line_read n s b w ws rest (kind.Action a) is all means ∙ ap (prepend (here ∷ [])) more.1, ap (λ (l : List Action). a ∷ l) more.2)

pub reads_settings : (s then : Settings) (b : ℕ) (w : List ℕ) (ws : List (List ℕ)) (rest : List ℕ) (actions : List Action)
    → (b == 35) ≡ false → All IsPlain ((b ∷ w) ∷ ws) → statement_of_words s ((b ∷ w) ∷ ws) ≡ Some (kind.Settings then)
    → Reads then rest actions → Reads s (words_line ((b ∷ w) ∷ ws) ++ rest) actions
reads_settings s then b w ws rest actions is all means next = λ n.
    let more = next (n + 1) in
    (more.0, line_read n s b w ws rest (kind.Settings then) is all means ∙ ap (prepend []) more.1, more.2)
