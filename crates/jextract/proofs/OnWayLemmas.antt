-- A walk is on its way from name to name.
use Rattle.std.proofs.Common.{◌≡◌, ℕ, ◌+◌, ◌≤◌, Bool, true, false, List, [], ◌∷◌, ◌++◌, length, refl, sym, ap, ◌∙◌, subst, arith, ◌⊎◌, ⊎_elim, Option, Some, None, Ok, Bor, if◌then◌else◌}
use Rattle.std.specs.Prelude.{reverse, sum_by, MatchOption}
use Rattle.std.proofs.lemmas.Bool.{false≢true}
use Rattle.std.proofs.lemmas.List.Sums.{sum_by_push}
use Rattle.std.proofs.lemmas.List.{reverse-append}
use Rattle.jmount.specs.Tree.{State, entries_in}
use Rattle.jmount.specs.Shape.{HasOneName}
use Rattle.jextract.specs.Making.{firsts_of}
use Rattle.jextract.specs.Outcomes.{FirstPaths, firsts_with}
use Rattle.jextract.specs.Walking.{IsOnWay, Knows, Open, NotesVisit, open_of, unmade}
use Rattle.jextract.specs.declared.extracting.Walk.{Walk}
use Rattle.jextract.proofs.SpentLemmas.{KnowsThen, Reading, forgotten, knows_inside, knows_now, next_known, passed, remembered}
use Rattle.jextract.proofs.StepLemmas.{Name}

abbrev Entry : Type 0
Entry = List ℕ × ℕ

taken : {A : Type 0} (f : A → Name) (before after : List Name) (r : Option A) → MatchOption r ((before ≡ []) × (after ≡ [])) (λ x. before ≡ f x ∷ after) → 1 ≤ length before → (y : Name) × (before ≡ y ∷ after)
taken f before after None steps enough = let none : length before ≡ 0 = ap (λ l. length l) steps.0 in absurd (omega arith)
taken f before after (Some x) steps enough = (f x, steps)

-- the walk reads the next name of a directory
module _ (s : State) (made : FirstPaths) (w : Walk) (x : Entry) (rest : List Entry) (read : w.left ≡ x ∷ rest) (on_way : IsOnWay s made w) where
  reading : Knows s made (firsts_of w.firsts) (Reading w.ino x rest (reverse w.above.items))
  reading = subst (λ (l : List Entry). Knows s made (firsts_of w.firsts) ((w.ino, l) ∷ reverse w.above.items)) read on_way.knows

  pub known_here : firsts_of w.firsts x.1 ≡ made x.1
  known_here = next_known s made (firsts_of w.firsts) w.ino x rest (reverse w.above.items) reading

  -- one name less may be read
  pub one_unread : (after : List Name) (r : Option (ℕ × Bor (List ℕ) × ℕ)) → MatchOption r ((w.unread ≡ []) × (after ≡ [])) (λ x. w.unread ≡ (x.0, x.1.now, x.2) ∷ after) → (y : Name) × (w.unread ≡ y ∷ after)
  one_unread after r steps =
      let one : length w.left ≡ length rest + 1 = ap (λ l. length l) read ∙ omega arith in
      let enough = on_way.enough in
      taken (λ (x : ℕ × Bor (List ℕ) × ℕ). (x.0, x.1.now, x.2)) w.unread after r steps (omega arith)

  abbrev now : List Open
  now = (w.ino, rest) ∷ reverse w.above.items

  -- what is known after it, where something was made
  known_then : (known_then : FirstPaths) (text : List ℕ) → (known_then ≡ firsts_with (firsts_of w.firsts) (Ok text) x.1) ⊎ ((known_then ≡ firsts_of w.firsts) × HasOneName s x.1)
      → KnowsThen s made (firsts_of w.firsts) w.ino x rest (reverse w.above.items) reading known_then text
  known_then known text which =
      ⊎_elim
      (λ (added : known ≡ firsts_with (firsts_of w.firsts) (Ok text) x.1).
      subst (λ (f : FirstPaths). KnowsThen s made (firsts_of w.firsts) w.ino x rest (reverse w.above.items) reading f text) (sym added)
      (remembered s made (firsts_of w.firsts) w.ino x rest (reverse w.above.items) reading text))
      (λ (one : (known ≡ firsts_of w.firsts) × HasOneName s x.1).
      subst (λ (f : FirstPaths). KnowsThen s made (firsts_of w.firsts) w.ino x rest (reverse w.above.items) reading f text) (sym one.0)
      (forgotten s made (firsts_of w.firsts) w.ino x rest (reverse w.above.items) reading text one.1))
      which

  -- it stays in the directory
  module _ (n : Walk) (y : Name) (ino : n.ino ≡ w.ino) (left : n.left ≡ rest) (above : n.above.items ≡ w.above.items) (unread : w.unread ≡ y ∷ n.unread) where
    same_dirs : now ≡ open_of n
    same_dirs =
        ap (λ (d : ℕ). (d, rest) ∷ reverse w.above.items) (sym ino)
        ∙ ap (λ (l : List Entry). (n.ino, l) ∷ reverse w.above.items) (sym left)
        ∙ ap (λ (l : List Open). (n.ino, n.left) ∷ reverse l) (sym above)

    nearer : (made_then : FirstPaths) → unmade s made_then ≤ unmade s made → Knows s made_then (firsts_of n.firsts) now → IsOnWay s made_then n
    nearer made_then fewer knows =
        let one : length w.left ≡ length n.left + 1 = ap (λ l. length l) read ∙ ap (λ (l : List Entry). length (x ∷ l)) (sym left) ∙ omega arith in
        let sum : sum_by (λ (d : Open). length d.1) n.above.items ≡ sum_by (λ (d : Open). length d.1) w.above.items = ap (sum_by (λ d. length d.1)) above in
        let less : length w.unread ≡ length n.unread + 1 = ap (λ l. length l) unread ∙ omega arith in
        let enough = on_way.enough in
        record { knows = subst (Knows s made_then (firsts_of n.firsts)) same_dirs knows; enough = omega arith }

    pub skips_on : n.firsts ≡ w.firsts → IsOnWay s made n
    skips_on firsts = nearer made (omega arith) (subst (λ (f : FirstPaths). Knows s made f now) (sym (ap firsts_of firsts)) (passed s made (firsts_of w.firsts) w.ino x rest (reverse w.above.items) reading))

    pub stays_on : (made_then : FirstPaths) (entered : Bool) → unmade s made_then + (if entered then length (entries_in s x.1) else 0) ≤ unmade s made
        → NotesVisit s made made_then (firsts_of w.firsts, firsts_of n.firsts) x.1 entered → IsOnWay s made_then n
    stays_on made_then entered count remembers =
        nearer made_then (omega (arith, count))
        (⊎_elim
        (λ (out : (entered ≡ false) × (made_then ≡ made) × (firsts_of n.firsts ≡ firsts_of w.firsts)).
        subst (λ (m : FirstPaths). Knows s m (firsts_of n.firsts) now) (sym out.1)
        (subst (λ (f : FirstPaths). Knows s made f now) (sym out.2) (passed s made (firsts_of w.firsts) w.ino x rest (reverse w.above.items) reading)))
        (λ done.
        subst (λ (m : FirstPaths). Knows s m (firsts_of n.firsts) now) (sym done.1)
        (knows_now s made (firsts_of w.firsts) w.ino x rest (reverse w.above.items) reading (firsts_of n.firsts) done.0 (known_then (firsts_of n.firsts) done.0 done.3)))
        remembers)

  -- it enters the directory that was made
  pub enters_on : (n : Walk) (y : Name) (made_then : FirstPaths) → n.ino ≡ x.1 → n.left ≡ entries_in s x.1 → n.above.items ≡ w.above.items ++ (w.ino, rest) ∷ [] → w.unread ≡ y ∷ n.unread
      → unmade s made_then + length (entries_in s x.1) ≤ unmade s made → NotesVisit s made made_then (firsts_of w.firsts, firsts_of n.firsts) x.1 true → IsOnWay s made_then n
  enters_on n y made_then ino left above unread count remembers =
      let one : length w.left ≡ length rest + 1 = ap (λ l. length l) read ∙ omega arith in
      let own : length n.left ≡ length (entries_in s x.1) = ap (λ l. length l) left in
      let sum : sum_by (λ (d : Open). length d.1) n.above.items ≡ sum_by (λ (d : Open). length d.1) w.above.items + length rest =
      ap (sum_by (λ d. length d.1)) above ∙ sum_by_push (λ (d : Open). length d.1) w.above.items (w.ino, rest) in
      let less : length w.unread ≡ length n.unread + 1 = ap (λ l. length l) unread ∙ omega arith in
      let enough = on_way.enough in
      let dirs : (x.1, entries_in s x.1) ∷ now ≡ open_of n =
      ap (λ (d : ℕ). (d, entries_in s x.1) ∷ now) (sym ino)
      ∙ ap (λ (l : List Entry). (n.ino, l) ∷ now) (sym left)
      ∙ ap (λ (l : List Open). (n.ino, n.left) ∷ l) (sym (ap reverse above ∙ reverse-append w.above.items ((w.ino, rest) ∷ []))) in
      record {
        knows = subst (Knows s made_then (firsts_of n.firsts)) dirs
            (⊎_elim
            (λ (out : (true ≡ false) × (made_then ≡ made) × (firsts_of n.firsts ≡ firsts_of w.firsts)). absurd (false≢true (sym out.0)))
            (λ done.
            subst (λ (m : FirstPaths). Knows s m (firsts_of n.firsts) ((x.1, entries_in s x.1) ∷ now)) (sym done.1)
            (knows_inside s made (firsts_of w.firsts) w.ino x rest (reverse w.above.items) reading (firsts_of n.firsts) done.0 (done.2 refl) (known_then (firsts_of n.firsts) done.0 done.3)))
            remembers);
        enough = omega arith;
      }
