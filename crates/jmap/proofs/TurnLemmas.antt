-- The extents of a block, one after another.
use Rattle.std.proofs.Common.{◌≡◌, ℕ, suc, ◌<◌, ◌≤◌, List, [], ◌∷◌, ◌++◌, length, sym, ap, arith, refl, ◌∙◌, subst, take, drop, get_or, append-nil, Option, Some, None}
use Rattle.std.specs.Io.KnownBytes.{Appends}
use Rattle.std.proofs.KnownBytes.{Appends-trans}
use Rattle.std.specs.List.{flat_map}
use Rattle.std.proofs.lemmas.Grind.{flat_map-append}
use Rattle.std.proofs.lemmas.List.{take-append-drop, map-id}
use Rattle.std.proofs.lemmas.Iterator.Consumers.{YieldsList-from_first, YieldsList-so_far, YieldsList-turn, YieldsList-end}
use Rattle.std.specs.Iterator.{Yields, YieldsFirst}
use Rattle.std.proofs.Math.Seq.{drop-cons}
use Rattle.std.specs.Prelude.{◌%◌}
use Rattle.jnode.specs.declared.order.Endian.{Endian}
use Rattle.jnode.specs.declared.node.Seen.TheVariants as seen
use Rattle.jscan.specs.Extents.{extents}
use Rattle.jscan.specs.declared.extent.ExtentKind.{ExtentKind}
use Rattle.jscan.specs.declared.extent.ExtentKind.TheVariants.{Tiled, Erased, OtherOrder, Dirt}
use Rattle.jscan.specs.declared.extent.Extent.{Extent}
use Rattle.jscan.proofs.ExtentLaws.{extents_make_up, names_are_short}
use Rattle.jmap.specs.NodeTexts.{titled_name}

-- an iterator that began with `all` has given xs, and now gives x
pub record Turn (all xs : List Extent) (x : Extent) : Type 0 where
  pub far : xs ≡ take (length xs) all
  pub within : length xs < length all
  pub here : x ≡ get_or all (length xs) x
  pub rest : List Extent
  pub split : all ≡ xs ++ x ∷ rest

split_at : (all xs : List Extent) (x : Extent) → xs ≡ take (length xs) all → length xs < length all → x ≡ get_or all (length xs) x
    → all ≡ xs ++ x ∷ drop (suc (length xs)) all
split_at all xs x so_far within here =
    sym (take-append-drop (length xs) all)
    ∙ ap (λ (l : List Extent). take (length xs) all ++ l) (drop-cons all (length xs) x within)
    ∙ ap (λ (l : List Extent). l ++ get_or all (length xs) x ∷ drop (suc (length xs)) all) (sym so_far)
    ∙ ap (λ (y : Extent). xs ++ y ∷ drop (suc (length xs)) all) (sym here)

pub turn : {S : Type 0} (left : S → List Extent) (first now next : S) (all xs : List Extent) (r : Option Extent) (x : Extent)
    → left first ≡ all → Yields (YieldsFirst left) first xs now → r ≡ Some x → YieldsFirst left now r next → Turn all xs x
turn left first now next all xs r x start given is step =
    let road = YieldsList-from_first (λ (s : Extent). s) left {s = first} all start in
    let place = YieldsList-turn road xs now given r next x is step in
    let far = sym (map-id xs) ∙ YieldsList-so_far road xs now given in
    record { far = far; within = place.0; here = place.1; rest = drop (suc (length xs)) all; split = split_at all xs x far place.0 place.1 }

pub all_given : {S : Type 0} (left : S → List Extent) (first now next : S) (all xs : List Extent) (r : Option Extent)
    → left first ≡ all → Yields (YieldsFirst left) first xs now → r ≡ None → YieldsFirst left now r next → xs ≡ all
all_given left first now next all xs r start given is step =
    let road = YieldsList-from_first (λ (s : Extent). s) left {s = first} all start in
    sym (map-id xs) ∙ (YieldsList-end road xs now given r next is step).0

-- ---- what is known of each

pub short_title : (e : Endian) (start : ℕ) (block : List ℕ) (before after : List Extent) (s : Extent) → length block % 4 ≡ 0
    → extents e start block ≡ before ++ s ∷ after → length (titled_name s.kind) ≤ 255
short_title e start block before after s words split = by s.kind refl
  where
    by : (k : ExtentKind) → s.kind ≡ k → length (titled_name k) ≤ 255
    by (Tiled (seen.Entry d)) is = omega (arith, names_are_short e start block before after s d words split is)
    by (Tiled (seen.Inode i)) is = omega arith
    by (Tiled seen.Marker) is = omega arith
    by (Tiled seen.Padding) is = omega arith
    by (Tiled seen.Obsolete) is = omega arith
    by (Tiled seen.Attribute) is = omega arith
    by (Tiled (seen.Skippable nodetype)) is = omega arith
    by (Tiled (seen.ReadOnly nodetype)) is = omega arith
    by (Tiled (seen.Incompatible nodetype)) is = omega arith
    by (Tiled (seen.Compressed compr)) is = omega arith
    by (Tiled (seen.Damaged which)) is = omega arith
    by Erased is = omega arith
    by OtherOrder is = omega arith
    by Dirt is = omega arith

pub starts_inside : (e : Endian) (start : ℕ) (block : List ℕ) (before after : List Extent) (s : Extent)
    → extents e start block ≡ before ++ s ∷ after → start ≤ s.addr
starts_inside e start block before after s split = omega (arith, ((extents_make_up e start block).each before after s split).0)

-- one text more went out
pub extents_put : (f : Extent → List ℕ) (xs : List Extent) (x : Extent) (a b c : Option (List ℕ)) → Appends a b (flat_map f xs) → Appends b c (f x)
    → Appends a c (flat_map f (xs ++ x ∷ []))
extents_put f xs x a b c put next =
    subst (Appends a c) (ap (λ (l : List ℕ). flat_map f xs ++ l) (sym (append-nil (f x))) ∙ sym (flat_map-append f xs (x ∷ [])))
    (Appends-trans a b c (flat_map f xs) (f x) put next)
