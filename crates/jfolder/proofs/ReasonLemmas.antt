-- What is left out for a reason that is right.
use Rattle.std.proofs.Common.{◌≡◌, inl, inr, ℕ, ◌<◌, ◌≢◌, drop, false, List, get_or, length, [], ◌∷◌, ◌++◌, refl, sym, ap, ◌∙◌, subst, append-nil, Option, None, Some, Result, Ok, Err}
use Rattle.std.specs.Prelude.{Contains, IfNone, IfOk, IfSome, IsPermutation, String}
use Rattle.std.specs.List.{All, slice_get}
use Rattle.std.specs.Option.{MatchOption}
use Rattle.std.specs.String.{string_bytes}
use Rattle.std.specs.declared.alloc.Global.{Global}
use Rattle.std.proofs.lemmas.List.Elements.{All-append, All-contains, All-nil, All-push, All-same, All-weaker, Contains-append_left, Contains-get_or}
use Rattle.std.proofs.lemmas.Bool.{true≢false}
use Rattle.std.proofs.lemmas.List.{get_or-map, length-map, map-append}
use Rattle.std.proofs.lemmas.List.Sorted.{Contains-permutation, IsPermutation-map, IsPermutation-refl, IsPermutation-sym}
use Rattle.jfolder.proofs.CompleteLemmas.{texts}
use Rattle.jfolder.specs.Complete.{LeftOut, NamesFit, children_of, item_paths, left_paths}
use Rattle.jfolder.specs.Known.{Known, inside, named_of}
use Rattle.jfolder.specs.Reasons.{ComesAgain, IsRight, IsUnlisted, IsUnlistedIn, IsUnnamed, IsWrongChild}
use Rattle.jfolder.specs.WalkOrder.{IsInTurn}
use Rattle.jfolder.specs.Walking.{IsMore, comes_next}
use Rattle.jfolder.specs.declared.found.Options.{Options}
use Rattle.jfolder.specs.declared.host.Names.{Names}
use Rattle.jfolder.specs.declared.reason.Reason.{Reason}
use Rattle.jfolder.specs.declared.reason.Reason.TheVariants as reason
use Rattle.jfolder.specs.declared.tree.Item.{Item}
use Rattle.jfolder.specs.declared.tree.What.{What}
use Rattle.jfolder.specs.declared.tree.What.TheVariants as what

pub one_left : (P : LeftOut → Type 0) (left : LeftOut) (lefts : List LeftOut) → lefts ≡ left ∷ [] → P left → All P lefts
one_left P left lefts is here = All-same P lefts (left ∷ []) is (All-push P [] left (All-nil P) here)

-- a path that is not the next one
pub comes_again : (items : List Item) (path : List ℕ) → IsInTurn items path → comes_next items path ≡ false → ComesAgain items (path, reason.Repeated)
comes_again items path (inl next) is = absurd (true≢false (sym next ∙ is))
comes_again items path (inr among) is = (refl, among)

-- more items
pub still_right : (known : Known) (options : Options) (items more : List Item) (left : LeftOut) → IsRight known options items left → IsRight known options (items ++ more) left
still_right known options items more left (inl name) = inl name
still_right known options items more left (inr (inl again)) =
    inr (inl (
      again.0,
      subst (λ (l : List (List ℕ)). Contains l left.0) (sym (map-append (λ (i : Item). string_bytes i.path) items more))
          (Contains-append_left (item_paths items) (item_paths more) left.0 again.1),
    ))
still_right known options items more left (inr (inr object)) = inr (inr object)

pub grown : {E : Type 0} (r : Result (Unit {0}) E) (items new : List Item) (i : Item) → IfOk r (λ _. new ≡ items ++ i ∷ []) → IfOk r (λ _. IsMore items new)
grown (Ok x) items new i more = (i ∷ [], more)
grown (Err e) items new i more = tt

pub not_grown : {E : Type 0} (r : Result (Unit {0}) E) (items : List Item) → IfOk r (λ _. IsMore items items)
not_grown (Ok x) items = ([], sym (append-nil items))
not_grown (Err e) items = tt

pub all_still_right : (known : Known) (options : Options) (items new : List Item) (lefts : List LeftOut) → IsMore items new → All (IsRight known options items) lefts
    → All (IsRight known options new) lefts
all_still_right known options items new lefts more right =
    subst (λ (l : List Item). All (IsRight known options l) lefts) (sym more.1)
    (All-weaker (IsRight known options items) (IsRight known options (items ++ more.0)) (λ left h. still_right known options items more.0 left h) lefts right)

pub left_as : (known : Known) (options : Options) (items : List Item) (path told : List ℕ) (why other : Reason) (lefts : List LeftOut) → lefts ≡ (told, other) ∷ [] → told ≡ path → other ≡ why
    → IsRight known options items (path, why) → All (IsRight known options items) lefts
left_as known options items path told why other lefts these is same right =
    one_left (IsRight known options items) (path, why) lefts (these ∙ ap (λ (l : List ℕ). (l, other) ∷ []) is ∙ ap (λ (w : Reason). (path, w) ∷ []) same) right

-- ---- the names in a directory

-- among more names
pub wrong_among : (directory : List ℕ) (some all : List (List ℕ)) (lefts : List LeftOut) → ((name : List ℕ) → Contains some name → Contains all name)
    → All (IsWrongChild directory some) lefts → All (IsWrongChild directory all) lefts
wrong_among directory some all lefts within wrong =
    All-weaker (IsWrongChild directory some) (IsWrongChild directory all) (λ left h. (h.0, within h.0 h.1, h.2, h.3)) lefts wrong

pub wrong_in_order : (directory : List ℕ) (names sorted : List (String Global)) (lefts : List LeftOut) → IsPermutation names sorted
    → All (IsWrongChild directory (texts sorted)) lefts → All (IsWrongChild directory (texts names)) lefts
wrong_in_order directory names sorted lefts order wrong =
    wrong_among directory (texts sorted) (texts names) lefts
    (λ name within. Contains-permutation (texts sorted) (texts names) name
    (IsPermutation-sym (texts names) (texts sorted) (IsPermutation-map (λ (n : String Global). string_bytes n) names sorted order)) within) wrong

pub wrong_of_one : (directory : List ℕ) (names : List (String Global)) (i : ℕ) (n : String Global) (lefts : List LeftOut) → i < length names → n ≡ get_or names i n
    → All (IsWrongChild directory (string_bytes n ∷ [])) lefts → All (IsWrongChild directory (texts names)) lefts
wrong_of_one directory names i n lefts within is wrong =
    let same : get_or (texts names) i [] ≡ string_bytes n = get_or-map (λ (m : String Global). string_bytes m) names i n [] within ∙ ap (λ (m : String Global). string_bytes m) (sym is) in
    let there : Contains (texts names) (string_bytes n) =
    subst (Contains (texts names)) same (Contains-get_or (texts names) i [] (subst (λ (l : ℕ). i < l) (sym (length-map names (λ (m : String Global). string_bytes m))) within)) in
    wrong_among directory (string_bytes n ∷ []) (texts names) lefts
    (λ name one. All-contains (Contains (texts names)) (string_bytes n ∷ []) name (All-push (Contains (texts names)) [] (string_bytes n) (All-nil (Contains (texts names))) there) one) wrong

-- no names were asked for
pub none_unlisted : (path : List ℕ) (names : Option Names) (paths : List (String Global)) → names ≡ None → paths ≡ []
    → IsPermutation (children_of path names) (texts paths ++ left_paths []) × All (IsUnlistedIn path names) []
none_unlisted path names paths none is = (
  subst (λ (l : List (String Global)). IsPermutation (children_of path names) (texts l ++ [])) (sym is)
      (subst (λ (n : Option Names). IsPermutation {X = List ℕ} (children_of path n) []) (sym none) (IsPermutation-refl [])),
  All-nil (IsUnlistedIn path names),
)

pub unlisted_both : (directory : List ℕ) (names : Names) (first then : List LeftOut) → All (IsUnnamed directory names.others) first
    → All (IsWrongChild directory (named_of names).texts) then → All (IsUnlisted directory (named_of names)) (first ++ then)
unlisted_both directory names first then unnamed wrong =
    All-append (IsUnlisted directory (named_of names)) first then
    (All-weaker (IsUnnamed directory names.others) (IsUnlisted directory (named_of names)) (λ left h. inr h) first unnamed)
    (All-weaker (IsWrongChild directory (named_of names).texts) (IsUnlisted directory (named_of names)) (λ left h. inl h) then wrong)

-- a name that is told in the directory that was read
unlisted_right : (known : Known) (options : Options) (items : List Item) (path : List ℕ) (w : What) (names : Option Names) (left : LeftOut)
    → NamesFit (known.names (inside path)) w names → IsUnlistedIn path names left → IsRight known options items left
unlisted_right known options items path w None left fit unlisted = absurd unlisted
unlisted_right known options items path what.Directory (Some names) left fit unlisted = inl (path, named_of names, fit, unlisted)
unlisted_right known options items path (what.Regular file) (Some names) left fit unlisted = absurd fit
unlisted_right known options items path (what.Device device major minor) (Some names) left fit unlisted = absurd fit
unlisted_right known options items path what.Fifo (Some names) left fit unlisted = absurd fit
unlisted_right known options items path what.Socket (Some names) left fit unlisted = absurd fit
unlisted_right known options items path (what.Symlink target) (Some names) left fit unlisted = absurd fit
unlisted_right known options items path (what.Link first) (Some names) left fit unlisted = absurd fit

pub all_unlisted_right : (known : Known) (options : Options) (items : List Item) (path : List ℕ) (w : What) (names : Option Names) (lefts : List LeftOut)
    → NamesFit (known.names (inside path)) w names → All (IsUnlistedIn path names) lefts → All (IsRight known options items) lefts
all_unlisted_right known options items path w names lefts fit unlisted =
    All-weaker (IsUnlistedIn path names) (IsRight known options items) (λ left h. unlisted_right known options items path w names left fit h) lefts unlisted

pub root_unlisted_right : (known : Known) (options : Options) (items : List Item) (names : Names) (lefts : List LeftOut)
    → IfSome (known.names []) (λ told. named_of names ≡ told) → All (IsUnlisted [] (named_of names)) lefts → All (IsRight known options items) lefts
root_unlisted_right known options items names lefts told unlisted =
    All-weaker (IsUnlisted [] (named_of names)) (IsRight known options items) (λ left h. inl ([], named_of names, told, h)) lefts unlisted

-- ---- a path that begins with a slash

rooted_text : (path : List ℕ) → slice_get path 0 ≡ Some 47 → (rest : List ℕ) × (path ≡ 47 ∷ rest)
rooted_text [] is = cc
rooted_text (b ∷ path) is = (path, cc)

pub no_slash : {X : Type 0} (path : List ℕ) (r : Option X) (Q : X → Type 0) → MatchOption r ((rest : List ℕ) → drop 0 path ≢ (47 ∷ []) ++ rest) Q → IfNone r (slice_get path 0 ≡ Some 47 → ⊥)
no_slash path None Q lacks = λ is. let rest = rooted_text path is in lacks rest.0 rest.1
no_slash path (Some x) Q has = tt
