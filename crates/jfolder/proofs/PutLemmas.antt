-- Lines that go out one after another.
use Rattle.std.proofs.Common.{◌≡◌, ℕ, suc, ◌+◌, ◌<◌, ◌≤◌, List, ◌∷◌, ◌++◌, length, drop, sym, ap, ◌∙◌, subst, arith, append_assoc, append-nil, get_or, Option}
use Rattle.std.proofs.lemmas.List.{drop_all}
use Rattle.std.proofs.Math.Seq.{drop-cons}
use Rattle.std.specs.Prelude.{Result, IsErr}
use Rattle.std.proofs.lemmas.Grind.{flat_map-append}
use Rattle.std.proofs.KnownBytes.{Appends-trans}
use Rattle.std.specs.Io.KnownBytes.{Appends}
use Rattle.flashbase.specs.Device.{Puts, PutsPart, next_count}
use Rattle.flashbase.proofs.DeviceLemmas.{part_behind}
use Rattle.flashbase.proofs.DeviceLemmas.{first_failed, then_puts}
use Rattle.jfolder.specs.Text.{item_words, items_words, words_line, lines_text, settings_with}
use Rattle.jfolder.specs.declared.settings.Settings.{Settings}
use Rattle.jfolder.specs.declared.tree.Item.{Item}

-- the first of two groups of lines failed
pub lines_first_failed : {T E : Type 0} (old new : Option (List ℕ)) (before now : ℕ) (xs ys : List (List (List ℕ))) (r : Result T E) → IsErr r
    → PutsPart old new (lines_text xs) → now ≡ next_count before → Puts old new before now (lines_text (xs ++ ys)) r
lines_first_failed old new before now xs ys r err part failed =
    subst (λ (l : List ℕ). Puts old new before now l r) (sym (flat_map-append words_line xs ys)) (first_failed old new before now (lines_text xs) (lines_text ys) r err part failed)

-- the first went out, and then the other as far as it did
pub lines_then_put : {T E : Type 0} (a b c : Option (List ℕ)) (before mid now : ℕ) (xs ys : List (List (List ℕ))) (r : Result T E)
    → Appends a b (lines_text xs) → mid ≡ before → Puts b c mid now (lines_text ys) r → Puts a c before now (lines_text (xs ++ ys)) r
lines_then_put a b c before mid now xs ys r put same next =
    subst (λ (l : List ℕ). Puts a c before now l r) (sym (flat_map-append words_line xs ys)) (then_puts a b c before mid now (lines_text xs) (lines_text ys) r put same next)

-- ---- the items of a tree

-- the lines that went out, those of an item, and those that are left
pub record Upto (s : Settings) (items : List Item) (i : ℕ) (all : List (List (List ℕ))) (a b : Option (List ℕ)) : Type 0 where
  pub done : List (List (List ℕ))
  pub put : Appends a b (lines_text done)
  pub left : done ++ items_words s (drop i items) ≡ all

item_left : (s : Settings) (items : List Item) (i : ℕ) (x : Item) → i < length items → x ≡ get_or items i x
    → items_words s (drop i items) ≡ item_words s x ++ items_words (settings_with s x) (drop (i + 1) items)
item_left s items i x within here =
    ap (items_words s) (drop-cons items i x within)
    ∙ ap (λ (y : Item). items_words s (y ∷ drop (suc i) items)) (sym here)
    ∙ ap (λ (n : ℕ). item_words s x ++ items_words (settings_with s x) (drop n items)) {x = suc i} {y = i + 1} (omega arith)

pub item_put : (s next : Settings) (items : List Item) (i : ℕ) (x : Item) (all : List (List (List ℕ))) (a b c : Option (List ℕ)) → i < length items → x ≡ get_or items i x
    → next ≡ settings_with s x → Upto s items i all a b → Appends b c (lines_text (item_words s x)) → Upto next items (i + 1) all a c
item_put s next items i x all a b c within here is before put =
    let words = item_words s x in
    record {
      done = before.done ++ words;
      put = subst (Appends a c) (sym (flat_map-append words_line before.done words)) (Appends-trans a b c (lines_text before.done) (lines_text words) before.put put);
      left = ap (λ (n : Settings). (before.done ++ words) ++ items_words n (drop (i + 1) items)) is
          ∙ append_assoc before.done words (items_words (settings_with s x) (drop (i + 1) items))
          ∙ ap (λ (l : List (List (List ℕ))). before.done ++ l) (sym (item_left s items i x within here)) ∙ before.left;
    }

pub item_failed : {T E : Type 0} (s : Settings) (items : List Item) (i : ℕ) (x : Item) (all : List (List (List ℕ))) (a b c : Option (List ℕ)) (before mid now : ℕ) (r : Result T E)
    → IsErr r → i < length items → x ≡ get_or items i x → Upto s items i all a b → mid ≡ before → PutsPart b c (lines_text (item_words s x)) → now ≡ next_count mid
    → Puts a c before now (lines_text all) r
item_failed s items i x all a b c before mid now r err within here upto same part failed =
    let words = item_words s x in
    let rest = items_words (settings_with s x) (drop (i + 1) items) in
    let whole : lines_text upto.done ++ (lines_text words ++ lines_text rest) ≡ lines_text all =
    ap (λ (l : List ℕ). lines_text upto.done ++ l) (sym (flat_map-append words_line words rest)) ∙ sym (flat_map-append words_line upto.done (words ++ rest))
    ∙ ap lines_text (ap (λ (l : List (List (List ℕ))). upto.done ++ l) (sym (item_left s items i x within here)) ∙ upto.left) in
    subst (λ (l : List ℕ). Puts a c before now l r) (append_assoc (lines_text upto.done) (lines_text words) (lines_text rest) ∙ whole)
    (first_failed a c before now (lines_text upto.done ++ lines_text words) (lines_text rest) r err
    (part_behind a b c (lines_text upto.done) (lines_text words) upto.put part) (failed ∙ ap next_count same))

pub items_put : (s : Settings) (items : List Item) (i : ℕ) (all : List (List (List ℕ))) (a b : Option (List ℕ)) → length items ≤ i → Upto s items i all a b
    → Appends a b (lines_text all)
items_put s items i all a b past upto =
    subst (Appends a b) (ap lines_text (sym (append-nil upto.done) ∙ ap (λ (l : List Item). upto.done ++ items_words s l) (sym (drop_all i items past)) ∙ upto.left)) upto.put
