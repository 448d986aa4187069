-- The JSON of a text, byte by byte and line by line.
use Rattle.std.proofs.Common.{◌≡◌, ℕ, ◌+◌, ◌<◌, Bool, true, false, List, [], ◌∷◌, ◌++◌, length, take, drop, get_or, ap, sym, refl, ◌∙◌, subst, append_assoc, append-nil, arith, Some, None}
use Rattle.std.specs.Prelude.{position, if◌then◌else◌}
use Rattle.std.specs.List.{All, flat_map, position_or_len, before_first}
use Rattle.std.proofs.lemmas.List.{take_more}
use Rattle.std.proofs.lemmas.List.Elements.{All-head, All-tail}
use Rattle.std.proofs.lemmas.List.Sums.{fails_before_first, passes_at_first, split_at_first}
use Rattle.std.proofs.lemmas.Grind.{common_steps}
use Rattle.jjson.specs.Texts.{after_beginning, ended_lines, is_feed, json_after, json_line, json_of, unfinished}
use Rattle.jjson.specs.declared.lines.Lines.{Lines}
use Rattle.jjson.proofs.SplitLemmas.{position_some, position_none}

after_nothing : (ls : List (List ℕ)) → after_beginning [] ls ≡ ls
after_nothing [] = refl
after_nothing (l ∷ ls) = refl

-- the whole text is what comes after nothing
pub json_from_start : (lines : Lines) (text : List ℕ) → json_after lines [] text ≡ json_of lines text
json_from_start lines text = ap (flat_map (json_line lines)) (after_nothing (ended_lines text))

after_byte : (begun : List ℕ) (b : ℕ) (ls : List (List ℕ)) → after_beginning begun (after_beginning (b ∷ []) ls) ≡ after_beginning (begun ++ b ∷ []) ls
after_byte begun b [] = refl
after_byte begun b (l ∷ ls) = ap (λ (x : List ℕ). x ∷ ls) (sym (append_assoc begun (b ∷ []) l))

-- ---- a byte

pub json_after-feed : (lines : Lines) (begun : List ℕ) (b : ℕ) (text : List ℕ) → is_feed b ≡ true
    → json_after lines begun (b ∷ text) ≡ json_line lines begun ++ json_after lines [] text
json_after-feed lines begun b text is =
    ap (λ (t : Bool). flat_map (json_line lines) (after_beginning begun (if t then [] ∷ ended_lines text else after_beginning (b ∷ []) (ended_lines text)))) is
    ∙ ap (λ (l : List ℕ). json_line lines l ++ json_of lines text) (append-nil begun)
    ∙ ap (λ (l : List ℕ). json_line lines begun ++ l) (sym (json_from_start lines text))

pub json_after-other : (lines : Lines) (begun : List ℕ) (b : ℕ) (text : List ℕ) → is_feed b ≡ false
    → json_after lines begun (b ∷ text) ≡ json_after lines (begun ++ b ∷ []) text
json_after-other lines begun b text is =
    ap (λ (t : Bool). flat_map (json_line lines) (after_beginning begun (if t then [] ∷ ended_lines text else after_beginning (b ∷ []) (ended_lines text)))) is
    ∙ ap (flat_map (json_line lines)) (after_byte begun b (ended_lines text))

unfinished-feed : (begun : List ℕ) (b : ℕ) (text : List ℕ) → is_feed b ≡ true → unfinished begun (b ∷ text) ≡ unfinished [] text
unfinished-feed begun b text is = ap (λ (t : Bool). if t then unfinished [] text else unfinished (begun ++ b ∷ []) text) is

unfinished-other : (begun : List ℕ) (b : ℕ) (text : List ℕ) → is_feed b ≡ false → unfinished begun (b ∷ text) ≡ unfinished (begun ++ b ∷ []) text
unfinished-other begun b text is = ap (λ (t : Bool). if t then unfinished [] text else unfinished (begun ++ b ∷ []) text) is

-- ---- a text that goes on

pub json_after-append : (lines : Lines) (begun front text : List ℕ) → json_after lines begun (front ++ text) ≡ json_after lines begun front ++ json_after lines (unfinished begun front) text
json_after-append lines begun [] text = refl
json_after-append lines begun (b ∷ front) text = by (is_feed b) refl (λ (start : List ℕ). json_after-append lines start front text)
  where
    by : (t : Bool) → is_feed b ≡ t
        → ((start : List ℕ) → json_after lines start (front ++ text) ≡ json_after lines start front ++ json_after lines (unfinished start front) text)
        → json_after lines begun (b ∷ (front ++ text)) ≡ json_after lines begun (b ∷ front) ++ json_after lines (unfinished begun (b ∷ front)) text
    by true is rest =
        json_after-feed lines begun b (front ++ text) is
        ∙ ap (λ (l : List ℕ). json_line lines begun ++ l) (rest [])
        ∙ sym (append_assoc (json_line lines begun) (json_after lines [] front) (json_after lines (unfinished [] front) text))
        ∙ ap (λ (l : List ℕ). l ++ json_after lines (unfinished [] front) text) (sym (json_after-feed lines begun b front is))
        ∙ ap (λ (l : List ℕ). json_after lines begun (b ∷ front) ++ json_after lines l text) (sym (unfinished-feed begun b front is))
    by false is rest =
        json_after-other lines begun b (front ++ text) is
        ∙ rest (begun ++ b ∷ [])
        ∙ ap (λ (l : List ℕ). l ++ json_after lines (unfinished (begun ++ b ∷ []) front) text) (sym (json_after-other lines begun b front is))
        ∙ ap (λ (l : List ℕ). json_after lines begun (b ∷ front) ++ json_after lines l text) (sym (unfinished-other begun b front is))

pub unfinished-append : (begun front text : List ℕ) → unfinished begun (front ++ text) ≡ unfinished (unfinished begun front) text
unfinished-append begun [] text = refl
unfinished-append begun (b ∷ front) text = by (is_feed b) refl (λ (start : List ℕ). unfinished-append start front text)
  where
    by : (t : Bool) → is_feed b ≡ t
        → ((start : List ℕ) → unfinished start (front ++ text) ≡ unfinished (unfinished start front) text)
        → unfinished begun (b ∷ (front ++ text)) ≡ unfinished (unfinished begun (b ∷ front)) text
    by true is rest =
        unfinished-feed begun b (front ++ text) is ∙ rest []
        ∙ ap (λ (l : List ℕ). unfinished l text) (sym (unfinished-feed begun b front is))
    by false is rest =
        unfinished-other begun b (front ++ text) is ∙ rest (begun ++ b ∷ [])
        ∙ ap (λ (l : List ℕ). unfinished l text) (sym (unfinished-other begun b front is))

-- ---- a text without a line feed

abbrev pub HasNoFeed : List ℕ → Type 0
HasNoFeed text = All (λ b. is_feed b ≡ false) text

pub no_feed-json : (lines : Lines) (begun text : List ℕ) → HasNoFeed text → json_after lines begun text ≡ []
no_feed-json lines begun [] none = refl
no_feed-json lines begun (b ∷ text) none =
    json_after-other lines begun b text (All-head (λ c. is_feed c ≡ false) b text none)
    ∙ no_feed-json lines (begun ++ b ∷ []) text (All-tail (λ c. is_feed c ≡ false) b text none)

pub no_feed-unfinished : (begun text : List ℕ) → HasNoFeed text → unfinished begun text ≡ begun ++ text
no_feed-unfinished begun [] none = sym (append-nil begun)
no_feed-unfinished begun (b ∷ text) none =
    unfinished-other begun b text (All-head (λ c. is_feed c ≡ false) b text none)
    ∙ no_feed-unfinished (begun ++ b ∷ []) text (All-tail (λ c. is_feed c ≡ false) b text none)
    ∙ append_assoc begun (b ∷ []) text

pub no_place : (text : List ℕ) → position is_feed text ≡ None → HasNoFeed text
no_place text is = let past = position_none is_feed text is in λ k d below. fails_before_first is_feed text k d (omega arith)

-- ---- a line that ends

-- a line, its line feed, and a text
pub json_after-line : (lines : Lines) (begun line : List ℕ) (b : ℕ) (text : List ℕ) → HasNoFeed line → is_feed b ≡ true
    → json_after lines begun (line ++ b ∷ text) ≡ json_line lines (begun ++ line) ++ json_after lines [] text
json_after-line lines begun line b text none is =
    json_after-append lines begun line (b ∷ text)
    ∙ ap (λ (l : List ℕ). l ++ json_after lines (unfinished begun line) (b ∷ text)) (no_feed-json lines begun line none)
    ∙ ap (λ (l : List ℕ). json_after lines l (b ∷ text)) (no_feed-unfinished begun line none)
    ∙ json_after-feed lines (begun ++ line) b text is

pub unfinished-line : (begun line : List ℕ) (b : ℕ) → is_feed b ≡ true → unfinished begun (line ++ b ∷ []) ≡ []
unfinished-line begun line b is = unfinished-append begun line (b ∷ []) ∙ unfinished-feed (unfinished begun line) b [] is

-- at the place of the first line feed
pub record EndsAt (text : List ℕ) (k : ℕ) : Type 0 where
  pub within : k < length text
  pub none : HasNoFeed (take k text)
  pub feed : is_feed (get_or text k 0) ≡ true
  pub upto : take (k + 1) text ≡ take k text ++ get_or text k 0 ∷ []
  pub whole : text ≡ take k text ++ (get_or text k 0 ∷ drop (k + 1) text)

pub ends_at : (text : List ℕ) (k : ℕ) → position is_feed text ≡ Some k → EndsAt text k
ends_at text k is =
    let at = position_some is_feed text k is in
    let here : position_or_len is_feed text < length text = omega arith in
    let front : HasNoFeed (before_first is_feed text) = λ j d below. let before : j < position_or_len is_feed text = grind (arith, common_steps) in let fails = fails_before_first is_feed text j d before in grind (arith, common_steps) in
    subst (λ (i : ℕ). EndsAt text i) at.0 (record {
      within = here;
      none = front;
      feed = passes_at_first is_feed text 0 here;
      upto = take_more text (position_or_len is_feed text) 0 here;
      whole = split_at_first is_feed text 0 here;
    })

pub line_ends-json : (lines : Lines) (begun text : List ℕ) (k : ℕ) → EndsAt text k → json_after lines begun (take (k + 1) text) ≡ json_line lines (begun ++ take k text)
line_ends-json lines begun text k at =
    ap (json_after lines begun) at.upto ∙ json_after-line lines begun (take k text) (get_or text k 0) [] at.none at.feed
    ∙ append-nil (json_line lines (begun ++ take k text))

pub line_ends-unfinished : (begun text : List ℕ) (k : ℕ) → EndsAt text k → unfinished begun (take (k + 1) text) ≡ []
line_ends-unfinished begun text k at = ap (unfinished begun) at.upto ∙ unfinished-line begun (take k text) (get_or text k 0) at.feed

pub line_ends-first : (lines : Lines) (begun text : List ℕ) (k : ℕ) → EndsAt text k
    → json_line lines (begun ++ take k text) ++ json_after lines [] (drop (k + 1) text) ≡ json_after lines begun text
line_ends-first lines begun text k at =
    sym (ap (json_after lines begun) at.whole ∙ json_after-line lines begun (take k text) (get_or text k 0) (drop (k + 1) text) at.none at.feed)
