-- What is told of extents, one after another.
use Rattle.std.proofs.Common.{◌≡◌, ℕ, suc, ◌+◌, ◌*◌, ◌<◌, ◌≤◌, ◌^◌, IsTrue, List, [], ◌∷◌, ◌++◌, length, sym, ap, arith, refl, ◌∙◌, subst, take, drop, get_or, append-nil, Option, Some, None, length-append}
use Rattle.std.specs.Prelude.{◌%◌, filter_map, Contains, option_to_list, Result, Ok, Err, IsErrAnd, OnOk}
use Rattle.std.specs.Io.KnownBytes.{Appends}
use Rattle.std.proofs.KnownBytes.{Appends-trans}
use Rattle.std.specs.List.{flat_map, cons_option}
use Rattle.std.specs.Iterator.{Yields, YieldsFirst}
use Rattle.std.proofs.lemmas.Bool.{and_parts, eqb-true}
use Rattle.std.proofs.lemmas.Grind.{flat_map-append}
use Rattle.std.proofs.lemmas.List.{take-append-drop, map-id}
use Rattle.std.proofs.lemmas.List.Elements.{Contains-append_right}
use Rattle.std.proofs.lemmas.Iterator.Consumers.{YieldsList-from_first, YieldsList-so_far, YieldsList-turn, YieldsList-end}
use Rattle.std.proofs.Math.Seq.{drop-cons}
use Rattle.flashbase.specs.Device.{PutsPart, next_count}
use Rattle.flashbase.specs.Lists.{below}
use Rattle.flashbase.specs.Sinks.{SinkChange}
use Rattle.flashbase.proofs.ListLemmas.{length-below}
use Rattle.flashbase.proofs.MemberLemmas.{Contains-filter_map, Contains-here}
use Rattle.jnode.specs.declared.order.Endian.{Endian}
use Rattle.jnode.specs.declared.node.Dirent.{Dirent}
use Rattle.jnode.specs.declared.node.NodeRef.TheVariants.{Entry}
use Rattle.jnode.specs.declared.node.Seen.{Seen}
use Rattle.jnode.specs.declared.node.Seen.TheVariants as seen
use Rattle.jscan.specs.Counts.{extents_of_block}
use Rattle.jscan.specs.Extents.{sighted, sighted_by}
use Rattle.jscan.specs.Image.{block_count, block_of, is_block_size, node_sighted, sightings}
use Rattle.jscan.specs.Scans.{IsScannable, image_extents}
use Rattle.jscan.specs.declared.extent.Extent.{Extent}
use Rattle.jscan.specs.declared.extent.ExtentKind.TheVariants.{Tiled}
use Rattle.jscan.proofs.ExtentLaws.{extents_are_few}
use Rattle.jscan.proofs.FitLaws.{nodes_writable}
use Rattle.jscan.proofs.ImageLemmas.{image_sighted, starts_small}
use Rattle.jscan.proofs.PartLemmas.{block_length}
use Rattle.jhistory.specs.HistoryText.{PutsHistory, Selection, WordLine, extent_told, word_line_if, word_told, words_told}
use Rattle.jhistory.specs.NodeWords.{Words}
use Rattle.jhistory.specs.declared.fault.HistoryFault.{HistoryFault}
use Rattle.jhistory.specs.declared.fault.HistoryFault.TheVariants.{Output}
use Rattle.jhistory.specs.declared.word.NodeWord.{NodeWord}

-- ---- what is known of an extent of an image

pub sighted_from : (e : Endian) (size : ℕ) (image : List ℕ) (s : Extent) (what : Seen) → Contains (image_extents e size image) s → s.kind ≡ Tiled what
    → Contains (sightings e size image) (s.addr, what)
sighted_from e size image s what c is =
    subst (λ (ss : List (ℕ × Seen)). Contains ss (s.addr, what)) (image_sighted e size image)
    (Contains-filter_map sighted (image_extents e size image) s (s.addr, what) c (ap (sighted_by s.addr) is))

pub short_name : (e : Endian) (size : ℕ) (image : List ℕ) (s : Extent) (d : Dirent) → IsTrue (is_block_size size) → Contains (image_extents e size image) s
    → s.kind ≡ Tiled (seen.Entry d) → length d.name ≤ 254
short_name e size image s d readable c is =
    let there = Contains-filter_map node_sighted (sightings e size image) (s.addr, seen.Entry d) (s.addr, Entry d) (sighted_from e size image s (seen.Entry d) c is) refl in
    let writable = nodes_writable e size image (s.addr, Entry d) readable there in
    omega (arith, writable.name)

-- ---- an iterator that began with `all` has given xs, and now gives x

pub record TurnOf (all xs : List Extent) (x : Extent) : Type 0 where
  pub far : xs ≡ take (length xs) all
  pub within : length xs < length all
  pub here : x ≡ get_or all (length xs) x
  pub there : Contains all x

split_at : (all xs : List Extent) (x : Extent) → xs ≡ take (length xs) all → length xs < length all → x ≡ get_or all (length xs) x
    → all ≡ xs ++ x ∷ drop (suc (length xs)) all
split_at all xs x so_far within here =
    sym (take-append-drop (length xs) all)
    ∙ ap (λ (l : List Extent). take (length xs) all ++ l) (drop-cons all (length xs) x within)
    ∙ ap (λ (l : List Extent). l ++ get_or all (length xs) x ∷ drop (suc (length xs)) all) (sym so_far)
    ∙ ap (λ (y : Extent). xs ++ y ∷ drop (suc (length xs)) all) (sym here)

pub turn_of : {S : Type 0} (left : S → List Extent) (first now next : S) (all xs : List Extent) (r : Option Extent) (x : Extent)
    → left first ≡ all → Yields (YieldsFirst left) first xs now → r ≡ Some x → YieldsFirst left now r next → TurnOf all xs x
turn_of left first now next all xs r x start given is step =
    let road = YieldsList-from_first (λ (s : Extent). s) left {s = first} all start in
    let place = YieldsList-turn road xs now given r next x is step in
    let far = sym (map-id xs) ∙ YieldsList-so_far road xs now given in
    let rest = drop (suc (length xs)) all in
    record {
      far = far;
      within = place.0;
      here = place.1;
      there = subst (λ (l : List Extent). Contains l x) (sym (split_at all xs x far place.0 place.1)) (Contains-append_right xs (x ∷ rest) x (Contains-here x rest));
    }

pub all_given : {S : Type 0} (left : S → List Extent) (first now next : S) (all xs : List Extent) (r : Option Extent)
    → left first ≡ all → Yields (YieldsFirst left) first xs now → r ≡ None → YieldsFirst left now r next → xs ≡ all
all_given left first now next all xs r start given is step =
    let road = YieldsList-from_first (λ (s : Extent). s) left {s = first} all start in
    sym (map-id xs) ∙ (YieldsList-end road xs now given r next is step).0

-- one text more went out
pub line_put : (f : Extent → List ℕ) (xs : List Extent) (x : Extent) (a b c : Option (List ℕ)) → Appends a b (flat_map f xs) → Appends b c (f x)
    → Appends a c (flat_map f (xs ++ x ∷ []))
line_put f xs x a b c put next =
    subst (Appends a c) (ap (λ (l : List ℕ). flat_map f xs ++ l) (sym (append-nil (f x))) ∙ sym (flat_map-append f xs (x ∷ [])))
    (Appends-trans a b c (flat_map f xs) (f x) put next)

-- ---- extents are few

few_in : (e : Endian) (size : ℕ) (image ks : List ℕ) → size % 4 ≡ 0 → length (flat_map (extents_of_block e size image) ks) ≤ length ks * size
few_in e size image [] words = omega arith
few_in e size image (k ∷ ks) words =
    let whole : length (block_of size image k) ≡ size = block_length size image k in
    let few = extents_are_few e (k * size) (block_of size image k) (ap (λ n. n % 4) whole ∙ words) in
    omega (arith, length-append (extents_of_block e size image k) (flat_map (extents_of_block e size image) ks), few, whole, few_in e size image ks words)

pub extents_few : (e : Endian) (size : ℕ) (image : List ℕ) → IsScannable size image → length (image_extents e size image) ≤ 272629760
extents_few e size image scannable =
    let n : ℕ = block_count size image in
    let few : length (image_extents e size image) ≤ length (below n) * size = few_in e size image (below n) (eqb-true _ _ (and_parts _ _ scannable.0).1) in
    let small : n * size ≤ 272629760 = starts_small size n image scannable.0 scannable.1 (omega arith) in
    let same : length (below n) * size ≡ n * size = ap (λ m. m * size) (length-below n) in
    omega (arith, few, small, same)

length_filter_map : {A B : Type 0} (f : A → Option B) (xs : List A) → length (filter_map f xs) ≤ length xs
length_filter_map f [] = omega arith
length_filter_map {B = B} f (x ∷ xs) = by (f x) refl (length_filter_map f xs)
  where
    by : (o : Option B) → f x ≡ o → length (filter_map f xs) ≤ length xs → length (filter_map f (x ∷ xs)) ≤ length (x ∷ xs)
    by None is rest = rw is (omega (arith, rest))
    by (Some y) is rest = rw is (omega (arith, rest))

pub words_few : (e : Endian) (size : ℕ) (image : List ℕ) (words : Words) (selected : Selection) (ss : List Extent) → length (words_told e size image words selected ss) ≤ length ss
words_few e size image words selected ss = length_filter_map (λ s. word_told (extent_told e size image words selected s)) ss

-- ---- the words of extents

filter_map_more : {A B : Type 0} (f : A → Option B) (xs : List A) (x : A) → filter_map f (xs ++ x ∷ []) ≡ filter_map f xs ++ option_to_list (f x)
filter_map_more {A} {B} f [] x = by (f x)
  where
    by : (o : Option B) → cons_option o [] ≡ option_to_list o
    by None = refl
    by (Some y) = refl
filter_map_more {A} {B} f (y ∷ ys) x = by (f y) (filter_map_more f ys x)
  where
    by : (o : Option B) → filter_map f (ys ++ x ∷ []) ≡ filter_map f ys ++ option_to_list (f x)
        → cons_option o (filter_map f (ys ++ x ∷ [])) ≡ cons_option o (filter_map f ys) ++ option_to_list (f x)
    by None rest = rest
    by (Some z) rest = ap (λ (l : List B). z ∷ l) rest

-- an extent of which nothing is told, and one that has a word
pub word_none : (e : Endian) (size : ℕ) (image : List ℕ) (words : Words) (selected : Selection) (ss : List Extent) (s : Extent) → extent_told e size image words selected s ≡ None
    → words_told e size image words selected (ss ++ s ∷ []) ≡ words_told e size image words selected ss
word_none e size image words selected ss s is =
    filter_map_more (λ s. word_told (extent_told e size image words selected s)) ss s
    ∙ ap (λ (o : Option WordLine). words_told e size image words selected ss ++ option_to_list (word_told o)) is
    ∙ append-nil (words_told e size image words selected ss)

pub word_some : (e : Endian) (size : ℕ) (image : List ℕ) (words : Words) (selected : Selection) (ss : List Extent) (s : Extent) (t : WordLine)
    → extent_told e size image words selected s ≡ Some t
    → words_told e size image words selected (ss ++ s ∷ []) ≡ words_told e size image words selected ss ++ t.0 ∷ []
word_some e size image words selected ss s t is =
    filter_map_more (λ s. word_told (extent_told e size image words selected s)) ss s
    ∙ ap (λ (o : Option WordLine). words_told e size image words selected ss ++ option_to_list (word_told o)) is

-- ---- a whole history

pub history_failed : {T : Type 0} (size : ℕ) (image text : List ℕ) (sink : SinkChange) (r : Result T HistoryFault) → IsErrAnd r (λ x. x ≡ Output) → IsScannable size image
    → PutsPart sink.old sink.new text → sink.now ≡ next_count sink.before → PutsHistory size image text sink r
history_failed {T} size image text sink (Ok x) is scannable part failed = absurd is
history_failed {T} size image text sink (Err x) is scannable part failed =
    subst (λ (y : HistoryFault). PutsHistory {T = T} size image text sink (Err y)) (sym is) (scannable, part, failed)

pub on_ok : {X Y : Type 0} (r : Result X Y) (A B : Type 0) → (A → B) → OnOk r A → OnOk r B
on_ok (Ok x) A B f a = f a
on_ok (Err y) A B f a = a
