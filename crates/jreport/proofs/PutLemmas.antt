-- Lines that go out one after another, and what they count.
use Rattle.std.proofs.Common.{◌≡◌, ℕ, suc, ◌+◌, ◌<◌, Bool, List, [], ◌∷◌, ◌++◌, length, sym, ap, arith, ◌∙◌, subst, count_by, take, drop, get_or, append_assoc, append-nil, Option, Some, None}
use Rattle.std.proofs.lemmas.List.{take-append-drop, map-id}
use Rattle.std.proofs.lemmas.Iterator.Consumers.{YieldsList-from_first, YieldsList-so_far, YieldsList-turn, YieldsList-end}
use Rattle.std.specs.Iterator.{Yields, YieldsFirst}
use Rattle.std.proofs.Math.Seq.{drop-cons}
use Rattle.std.specs.List.{flat_map}
use Rattle.std.specs.Io.KnownBytes.{Appends}
use Rattle.std.proofs.lemmas.Grind.{flat_map-append, common_steps}
use Rattle.std.proofs.lemmas.List.Sums.{sum_by-cons}
use Rattle.std.specs.Prelude.{Result, Ok, Err, IsErr}
use Rattle.flashbase.specs.Device.{PutsPart, Puts, next_count}
use Rattle.flashbase.proofs.DeviceLemmas.{part_before, part_behind}
use Rattle.jscan.specs.declared.extent.Extent.{Extent}
use Rattle.jscan.specs.Counts.{is_entry_tile, is_inode_tile, is_found, count_in, one_if, counted, block_counted}
use Rattle.jscan.specs.declared.counts.Counts.{Counts}
use Rattle.jscan.specs.declared.extent.ExtentKind.{ExtentKind}
use Rattle.jreport.specs.Forms.{block_line, extent_line}
use Rattle.jreport.specs.Report.{lines_of_block, CountsHaveRoom}
use Rattle.jreport.proofs.ExtentLemmas.{count_in-le}

pub count_by-append : {X : Type 0} (test : X → Bool) (xs ys : List X) → count_by test (xs ++ ys) ≡ count_by test xs + count_by test ys
count_by-append test xs ys = grind (arith, common_steps)

number_more : (test : ExtentKind → Bool) (xs : List Extent) (x : Extent) → count_in test (xs ++ x ∷ []) ≡ count_in test xs + one_if (test x.kind)
number_more test xs x =
    omega (arith, count_by-append (λ (s : Extent). test s.kind) xs (x ∷ []), sum_by-cons (λ (s : Extent). one_if (test s.kind)) x [])

-- one extent more of a block
pub block_counted_more : (c : Counts) (xs : List Extent) (x : Extent) → counted (block_counted c xs) x.kind ≡ block_counted c (xs ++ x ∷ [])
block_counted_more c xs x =
    let entries : (c.entries + count_in is_entry_tile xs) + one_if (is_entry_tile x.kind) ≡ c.entries + count_in is_entry_tile (xs ++ x ∷ []) =
    omega (arith, number_more is_entry_tile xs x) in
    let inodes : (c.inodes + count_in is_inode_tile xs) + one_if (is_inode_tile x.kind) ≡ c.inodes + count_in is_inode_tile (xs ++ x ∷ []) =
    omega (arith, number_more is_inode_tile xs x) in
    let findings : (c.findings + count_in is_found xs) + one_if (is_found x.kind) ≡ c.findings + count_in is_found (xs ++ x ∷ []) =
    omega (arith, number_more is_found xs x) in
    λ i. record { blocks = c.blocks + 1; entries = entries i; inodes = inodes i; findings = findings i }

-- a list, split after the item that follows a beginning of it
pub split_behind : {X : Type 0} (all xs : List X) (x : X) → xs ≡ take (length xs) all → length xs < length all → x ≡ get_or all (length xs) x
    → all ≡ (xs ++ x ∷ []) ++ drop (length xs + 1) all
split_behind {X} all xs x so_far within here =
    sym (take-append-drop (length xs) all)
    ∙ ap (λ (l : List X). take (length xs) all ++ l) (drop-cons all (length xs) x within)
    ∙ ap (λ (l : List X). l ++ get_or all (length xs) x ∷ drop (suc (length xs)) all) (sym so_far)
    ∙ ap (λ (y : X). xs ++ y ∷ drop (suc (length xs)) all) (sym here)
    ∙ ap (λ (n : ℕ). xs ++ x ∷ drop n all) {x = suc (length xs)} {y = length xs + 1} (omega arith)
    ∙ sym (append_assoc xs (x ∷ []) (drop (length xs + 1) all))

-- an iterator that began with `all` has given xs, and now gives x
pub record Turn (all xs : List Extent) (x : Extent) : Type 0 where
  pub far : xs ≡ take (length xs) all
  pub within : length xs < length all
  pub here : x ≡ get_or all (length xs) x

pub turn : {S : Type 0} (left : S → List Extent) (first now next : S) (all xs : List Extent) (r : Option Extent) (x : Extent)
    → left first ≡ all → Yields (YieldsFirst left) first xs now → r ≡ Some x → YieldsFirst left now r next → Turn all xs x
turn left first now next all xs r x start given is step =
    let road = YieldsList-from_first (λ (s : Extent). s) left {s = first} all start in
    let place = YieldsList-turn road xs now given r next x is step in
    record { far = sym (map-id xs) ∙ YieldsList-so_far road xs now given; within = place.0; here = place.1 }

pub all_given : {S : Type 0} (left : S → List Extent) (first now next : S) (all xs : List Extent) (r : Option Extent)
    → left first ≡ all → Yields (YieldsFirst left) first xs now → r ≡ None → YieldsFirst left now r next → xs ≡ all
all_given left first now next all xs r start given is step =
    let road = YieldsList-from_first (λ (s : Extent). s) left {s = first} all start in
    sym (map-id xs) ∙ (YieldsList-end road xs now given r next is step).0

-- ---- a block's lines

-- a call that fails before it has put all of a text
pub puts_err : {T E : Type 0} (old new : Option (List ℕ)) (before now : ℕ) (text : List ℕ) (r : Result T E) → IsErr r
    → PutsPart old new text → now ≡ next_count before → Puts old new before now text r
puts_err old new before now text (Ok x) err part failed = cc
puts_err old new before now text (Err e) err part failed = (part, failed)

-- one line more
pub lines_more : (k : ℕ) (xs : List Extent) (x : Extent)
    → (block_line k ++ flat_map extent_line xs) ++ extent_line x ≡ block_line k ++ flat_map extent_line (xs ++ x ∷ [])
lines_more k xs x =
    append_assoc (block_line k) (flat_map extent_line xs) (extent_line x)
    ∙ ap (λ (l : List ℕ). block_line k ++ (flat_map extent_line xs ++ l)) (sym (append-nil (extent_line x)))
    ∙ ap (λ (l : List ℕ). block_line k ++ l) (sym (flat_map-append extent_line xs (x ∷ [])))

-- a fault at the line of an extent
pub part_of_lines : (k : ℕ) (all xs rest : List Extent) (x : Extent) (a b c : Option (List ℕ)) → all ≡ (xs ++ x ∷ []) ++ rest
    → Appends a b (block_line k ++ flat_map extent_line xs) → PutsPart b c (extent_line x) → PutsPart a c (lines_of_block k all)
part_of_lines k all xs rest x a b c split put part =
    let upto = part_behind a b c (block_line k ++ flat_map extent_line xs) (extent_line x) put part in
    let whole : ((block_line k ++ flat_map extent_line xs) ++ extent_line x) ++ flat_map extent_line rest ≡ lines_of_block k all =
    ap (λ (l : List ℕ). l ++ flat_map extent_line rest) (lines_more k xs x)
    ∙ append_assoc (block_line k) (flat_map extent_line (xs ++ x ∷ [])) (flat_map extent_line rest)
    ∙ ap (λ (l : List ℕ). block_line k ++ l) (sym (flat_map-append extent_line (xs ++ x ∷ []) rest))
    ∙ ap (lines_of_block k) (sym split) in
    subst (PutsPart a c) whole (part_before a c _ (flat_map extent_line rest) upto)

-- ---- counts

pub counted_has_room : (c d : Counts) (ss : List Extent) (n : ℕ) → d ≡ block_counted c ss → length ss < n → CountsHaveRoom c (n + 1) → CountsHaveRoom d 1
counted_has_room c d ss n is few room = subst (λ (x : Counts). CountsHaveRoom x 1) (sym is) (record {
  blocks = omega (arith, few, room.blocks);
  entries = omega (arith, room.entries, count_in-le is_entry_tile ss);
  inodes = omega (arith, room.inodes, count_in-le is_inode_tile ss);
  findings = omega (arith, room.findings, count_in-le is_found ss);
})
