-- How far a reading came.
use Rattle.std.proofs.Common.{◌≡◌, ℕ, ◌<◌, eqb, ne_eqb, arith, lt-suc_self, ◌∙◌, ◌+◌, List, [], ◌∷◌, ◌++◌, ap, drop, get_or, length, map, refl, reverse, subst, sym, take, append_assoc, append-nil, take-append-drop, inl, inr, Option, Some, None}
use Rattle.std.specs.Prelude.{IfSome, IsPermutation, String}
use Rattle.std.specs.List.{All}
use Rattle.std.specs.String.{string_bytes}
use Rattle.std.specs.declared.alloc.Global.{Global}
use Rattle.std.proofs.lemmas.Bool.{cond-false}
use Rattle.std.proofs.lemmas.List.{map-append, map_more}
use Rattle.std.proofs.lemmas.List.Elements.{All-append, All-nil, All-push, All-weaker}
use Rattle.std.proofs.lemmas.List.Sorted.{Contains-permutation, IsPermutation-append_comm, IsPermutation-append_left, IsPermutation-append_right, IsPermutation-map, IsPermutation-refl, IsPermutation-sym, IsPermutation-trans}
use Rattle.jfolder.specs.Complete.{Covers, IsNamed, LeftOut, NamesFit, child, children, children_of, item_paths, left_paths, unnamed_paths}
use Rattle.jfolder.specs.Known.{Known, inside, named_of}
use Rattle.jfolder.specs.Objects.{IsObjectTold}
use Rattle.jfolder.specs.Reasons.{IsRight, IsUnlisted, IsUnlistedIn, IsUnnamed, IsWrongChild, IsWrongText}
use Rattle.jfolder.specs.SoFar.{AreAmong, IsBeginning, HasReached, LeadsOn, SomeUnlisted, SomeUnlistedIn, SomeUnnamed, SomeWrong}
use Rattle.jfolder.specs.Walking.{IsItemTold, IsToldAt, WalkFits, item_of}
use Rattle.jfolder.specs.declared.found.Found.{Found}
use Rattle.jfolder.specs.declared.found.Options.{Options}
use Rattle.jfolder.specs.declared.host.Names.{Names}
use Rattle.jfolder.specs.declared.reason.Reason.{Reason}
use Rattle.jfolder.specs.declared.reason.Reason.TheVariants as reason
use Rattle.jfolder.specs.declared.tree.Item.{Item}
use Rattle.jfolder.proofs.CompleteLemmas.{goes_on, leaves_out, map_twice, same_order, texts}
use Rattle.jfolder.proofs.ReasonLemmas.{all_still_right, all_unlisted_right, one_left, root_unlisted_right, unlisted_both, wrong_of_one}

abbrev Paths : Type 0
Paths = List (List ℕ)

-- ---- some of the paths

pub among_none : (paths : Paths) → AreAmong paths []
among_none paths = (paths, same_order paths (paths ++ []) (sym (append-nil paths)))

pub among_same : (paths others : Paths) (lefts : List LeftOut) → paths ≡ others → AreAmong paths lefts → AreAmong others lefts
among_same paths others lefts is some = subst (λ (l : Paths). AreAmong l lefts) is some

pub among_order : (paths others : Paths) (lefts : List LeftOut) → IsPermutation paths others → AreAmong others lefts → AreAmong paths lefts
among_order paths others lefts order some = (some.0, IsPermutation-trans paths others (some.0 ++ left_paths lefts) order some.1)

-- some of these, and some of those
pub among_both : (A B : Paths) (xs ys : List LeftOut) → AreAmong A xs → AreAmong B ys → AreAmong (A ++ B) (xs ++ ys)
among_both A B xs ys these those =
    let P = these.0 in
    let O = those.0 in
    let X = left_paths xs in
    let Y = left_paths ys in
    let first : IsPermutation (A ++ B) ((P ++ X) ++ B) = IsPermutation-append_left B A (P ++ X) these.1 in
    let second : IsPermutation ((P ++ X) ++ B) ((P ++ X) ++ (O ++ Y)) = IsPermutation-append_right (P ++ X) B (O ++ Y) those.1 in
    let turned : IsPermutation ((X ++ O) ++ Y) ((O ++ X) ++ Y) = IsPermutation-append_left Y (X ++ O) (O ++ X) (IsPermutation-append_comm X O) in
    let inner : IsPermutation (X ++ (O ++ Y)) (O ++ (X ++ Y)) =
    subst (λ (l : Paths). IsPermutation l (O ++ (X ++ Y))) (append_assoc X O Y) (subst (IsPermutation ((X ++ O) ++ Y)) (append_assoc O X Y) turned) in
    let third : IsPermutation (P ++ (X ++ (O ++ Y))) (P ++ (O ++ (X ++ Y))) = IsPermutation-append_right P (X ++ (O ++ Y)) (O ++ (X ++ Y)) inner in
    let moved : IsPermutation ((P ++ X) ++ (O ++ Y)) ((P ++ O) ++ (X ++ Y)) =
    subst (λ (l : Paths). IsPermutation l ((P ++ O) ++ (X ++ Y))) (sym (append_assoc P X (O ++ Y))) (subst (IsPermutation (P ++ (X ++ (O ++ Y)))) (sym (append_assoc P O (X ++ Y))) third) in
    let last : IsPermutation ((P ++ X) ++ B) ((P ++ O) ++ (X ++ Y)) = IsPermutation-trans ((P ++ X) ++ B) ((P ++ X) ++ (O ++ Y)) ((P ++ O) ++ (X ++ Y)) second moved in (
      P ++ O,
      subst (λ (l : Paths). IsPermutation (A ++ B) ((P ++ O) ++ l)) (sym (map-append (λ (left : LeftOut). left.0) xs ys))
          (IsPermutation-trans (A ++ B) ((P ++ X) ++ B) ((P ++ O) ++ (X ++ Y)) first last),
    )

-- among more paths
pub among_more : (A B : Paths) (xs : List LeftOut) → AreAmong A xs → AreAmong (A ++ B) xs
among_more A B xs these = subst (AreAmong (A ++ B)) (append-nil xs) (among_both A B xs [] these (among_none B))

-- the path itself
pub among_one : (path : List ℕ) (why : Reason) → AreAmong (path ∷ []) ((path, why) ∷ [])
among_one path why = ([], IsPermutation-refl (path ∷ []))

-- ---- the names in a directory

pub none_wrong : (directory : List ℕ) (names : Paths) → SomeWrong directory names []
none_wrong directory names = (among_none (map (child directory) names), All-nil (IsWrongChild directory names))

-- a name that is left out
pub left_wrong : (directory name path : List ℕ) (why : Reason) (lefts : List LeftOut) → lefts ≡ (path, why) ∷ [] → path ≡ child directory name
    → IsWrongText name why → SomeWrong directory (name ∷ []) lefts
left_wrong directory name path why lefts these is wrong =
    let same : lefts ≡ (child directory name, why) ∷ [] = these ∙ ap (λ (l : List ℕ). (l, why) ∷ []) is in (
      subst (AreAmong (child directory name ∷ [])) (sym same) (among_one (child directory name) why),
      one_left (IsWrongChild directory (name ∷ [])) (child directory name, why) lefts same (name, (0, lt-suc_self 0, refl), refl, wrong),
    )

-- those of the names up to here, and of the next one
pub wrong_more : (directory : List ℕ) (names : List (String Global)) (i : ℕ) (n : String Global) (paths : List (String Global)) (xs ys : List LeftOut) → i < length names → n ≡ get_or names i n
    → IsPermutation (map (λ (m : String Global). child directory (string_bytes m)) (take i names)) (texts paths ++ left_paths xs) → All (IsWrongChild directory (texts names)) xs
    → SomeWrong directory (string_bytes n ∷ []) ys → SomeWrong directory (texts names) (xs ++ ys)
wrong_more directory names i n paths xs ys within is given wrong more =
    let path_of : String Global → List ℕ = λ m. child directory (string_bytes m) in
    let upto : map path_of (take (i + 1) names) ≡ map path_of (take i names) ++ path_of n ∷ [] =
    map_more path_of names i n within ∙ ap (λ (m : String Global). map path_of (take i names) ++ path_of m ∷ []) (sym is) in
    let some : AreAmong (map path_of (take (i + 1) names)) (xs ++ ys) =
    among_same (map path_of (take i names) ++ path_of n ∷ []) (map path_of (take (i + 1) names)) (xs ++ ys) (sym upto)
    (among_both (map path_of (take i names)) (path_of n ∷ []) xs ys (texts paths, given) more.0) in
    let all : map path_of (take (i + 1) names) ++ map path_of (drop (i + 1) names) ≡ map (child directory) (texts names) =
    sym (map-append path_of (take (i + 1) names) (drop (i + 1) names)) ∙ ap (map path_of) (take-append-drop (i + 1) names) ∙ sym (map_twice (child directory) names) in (
      among_same (map path_of (take (i + 1) names) ++ map path_of (drop (i + 1) names)) (map (child directory) (texts names)) (xs ++ ys) all
          (among_more (map path_of (take (i + 1) names)) (map path_of (drop (i + 1) names)) (xs ++ ys) some),
      All-append (IsWrongChild directory (texts names)) xs ys wrong (wrong_of_one directory names i n ys within is more.1),
    )

pub one_unnamed : (directory : List ℕ) (n : ℕ) → 0 < n → child directory [] ∷ [] ≡ unnamed_paths directory n
one_unnamed directory n more = sym (cond-false (eqb n 0) [] (child directory [] ∷ []) (ne_eqb n 0 (λ (is : n ≡ 0). omega (arith, more, is))))

pub left_unnamed : (directory path : List ℕ) (others : ℕ) (lefts : List LeftOut) → lefts ≡ (path, reason.Unnamed others) ∷ [] → path ≡ child directory []
    → 0 < others → SomeUnnamed directory others lefts
left_unnamed directory path others lefts these is some =
    let same : lefts ≡ (child directory [], reason.Unnamed others) ∷ [] = these ∙ ap (λ (l : List ℕ). (l, reason.Unnamed others) ∷ []) is in
    let one : child directory [] ∷ [] ≡ unnamed_paths directory others = one_unnamed directory others some in (
      among_same (child directory [] ∷ []) (unnamed_paths directory others) lefts one
          (subst (AreAmong (child directory [] ∷ [])) (sym same) (among_one (child directory []) (reason.Unnamed others))),
      one_left (IsUnnamed directory others) (child directory [], reason.Unnamed others) lefts same (refl, some, refl),
    )

-- of the names that are no text at first
pub unnamed_first : (directory : List ℕ) (names : Names) (lefts : List LeftOut) → SomeUnnamed directory names.others lefts → SomeUnlisted directory (named_of names) lefts
unnamed_first directory names lefts unnamed =
    let M = map (child directory) (texts names.texts.items) in
    let U = unnamed_paths directory names.others in (
      among_order (M ++ U) (U ++ M) lefts (IsPermutation-append_comm M U) (among_more U M lefts unnamed.0),
      All-weaker (IsUnnamed directory names.others) (IsUnlisted directory (named_of names)) (λ left h. inr h) lefts unnamed.1,
    )

pub unnamed_then : (directory : List ℕ) (names : Names) (xs ys : List LeftOut) → (left_paths xs ≡ unnamed_paths directory names.others) → All (IsUnnamed directory names.others) xs
    → SomeWrong directory (texts names.texts.items) ys → SomeUnlisted directory (named_of names) (xs ++ ys)
unnamed_then directory names xs ys is unnamed wrong =
    let M = map (child directory) (texts names.texts.items) in
    let U = unnamed_paths directory names.others in
    let first : AreAmong U xs = ([], same_order U (left_paths xs) (sym is)) in (
      among_order (M ++ U) (U ++ M) (xs ++ ys) (IsPermutation-append_comm M U) (among_both U M xs ys first wrong.0),
      unlisted_both directory names xs ys unnamed wrong.1,
    )

-- the names in another order
pub children_order : (directory : List ℕ) (names sorted : Names) → IsPermutation names.texts.items sorted.texts.items → sorted.others ≡ names.others
    → IsPermutation (children directory (named_of names)) (children directory (named_of sorted))
children_order directory names sorted order same =
    let M = map (child directory) (texts names.texts.items) in
    let N = map (child directory) (texts sorted.texts.items) in
    subst (λ (k : ℕ). IsPermutation (children directory (named_of names)) (N ++ unnamed_paths directory k)) (sym same)
    (IsPermutation-append_left (unnamed_paths directory names.others) M N
    (IsPermutation-map (child directory) (texts names.texts.items) (texts sorted.texts.items) (IsPermutation-map (λ (n : String Global). string_bytes n) names.texts.items sorted.texts.items order)))

pub unlisted_order : (directory : List ℕ) (names sorted : Names) (lefts : List LeftOut) → IsPermutation names.texts.items sorted.texts.items → sorted.others ≡ names.others
    → All (IsUnlisted directory (named_of sorted)) lefts → All (IsUnlisted directory (named_of names)) lefts
unlisted_order directory names sorted lefts order same unlisted =
    All-weaker (IsUnlisted directory (named_of sorted)) (IsUnlisted directory (named_of names)) (λ left h. one left h) lefts unlisted
  where
    back : IsPermutation (texts sorted.texts.items) (texts names.texts.items)
    back = IsPermutation-sym (texts names.texts.items) (texts sorted.texts.items) (IsPermutation-map (λ (n : String Global). string_bytes n) names.texts.items sorted.texts.items order)

    one : (left : LeftOut) → IsUnlisted directory (named_of sorted) left → IsUnlisted directory (named_of names) left
    one left (inl wrong) = inl (wrong.0, Contains-permutation (texts sorted.texts.items) (texts names.texts.items) wrong.0 back wrong.1, wrong.2, wrong.3)
    one left (inr unnamed) = inr (subst (λ (k : ℕ). IsUnnamed directory k left) same unnamed)

pub some_order : (directory : List ℕ) (names sorted : Names) (lefts : List LeftOut) → IsPermutation names.texts.items sorted.texts.items → sorted.others ≡ names.others
    → SomeUnlisted directory (named_of sorted) lefts → SomeUnlisted directory (named_of names) lefts
some_order directory names sorted lefts order same some = (
  among_order (children directory (named_of names)) (children directory (named_of sorted)) lefts (children_order directory names sorted order same) some.0,
  unlisted_order directory names sorted lefts order same some.1,
)

-- ---- a visit

-- nothing more is left out
pub stays : (known : Known) (options : Options) (items : List Item) (pending : Paths) → LeadsOn known options items pending []
stays known options items pending before reached =
    (items, pending, subst (HasReached known options items pending) (sym (append-nil before)) reached)

-- the path is left out
pub leads_past : (known : Known) (options : Options) (items : List Item) (pending : Paths) (path told : List ℕ) (why : Reason) (lefts : List LeftOut) → told ≡ path → lefts ≡ (told, why) ∷ []
    → IsRight known options items (path, why) → LeadsOn known options items (pending ++ path ∷ []) lefts
leads_past known options items pending path told why lefts is these right before reached = (
  items,
  pending,
  record {
    told = reached.told;
    objects = reached.objects;
    covers = leaves_out known items pending path told why lefts is these before reached.covers;
    right = All-append (IsRight known options items) before lefts reached.right
        (one_left (IsRight known options items) (path, why) lefts (these ∙ ap (λ (l : List ℕ). (l, why) ∷ []) is) right);
  },
)

-- the same where the reason is given in other words
pub leads_past_as : (known : Known) (options : Options) (items : List Item) (pending : Paths) (path told : List ℕ) (why other : Reason) (lefts : List LeftOut) → told ≡ path → lefts ≡ (told, other) ∷ []
    → other ≡ why → IsRight known options items (path, why) → LeadsOn known options items (pending ++ path ∷ []) lefts
leads_past_as known options items pending path told why other lefts is these same right =
    leads_past known options items pending path told why lefts is (these ∙ ap (λ (w : Reason). (told, w) ∷ []) same) right

-- what lies there is added, with some of the names in it
pub leads_into : (known : Known) (options : Options) (items : List Item) (path : String Global) (found : Found) (pending : Paths) (lefts : List LeftOut)
    → NamesFit (known.names (inside (string_bytes path))) found.what found.names → IsToldAt known.looked options (inside (string_bytes path)) found.attributes
    → IsObjectTold known (item_of path found) → SomeUnlistedIn (string_bytes path) found.names lefts → LeadsOn known options items (pending ++ string_bytes path ∷ []) lefts
leads_into known options items path found pending lefts names told object some before reached =
    let i = item_of path found in
    let C = children_of (string_bytes path) found.names in
    let L = left_paths lefts in
    let O = some.0.0 in
    let moved : IsPermutation (C ++ pending) ((O ++ pending) ++ L) =
    IsPermutation-trans (C ++ pending) ((O ++ L) ++ pending) ((O ++ pending) ++ L) (IsPermutation-append_left pending C (O ++ L) some.0.1)
    (subst (λ (l : Paths). IsPermutation l ((O ++ pending) ++ L)) (sym (append_assoc O L pending))
    (subst (IsPermutation (O ++ (L ++ pending))) (sym (append_assoc O pending L)) (IsPermutation-append_right O (L ++ pending) (pending ++ L) (IsPermutation-append_comm L pending)))) in (
      items ++ i ∷ [],
      O ++ pending,
      record {
        told = All-push (IsItemTold known.looked options) items i reached.told told;
        objects = All-push (IsObjectTold known) items i reached.objects object;
        covers = goes_on known items (items ++ i ∷ []) path found pending (O ++ pending) lefts refl names moved before reached.covers;
        right = All-append (IsRight known options (items ++ i ∷ [])) before lefts
            (all_still_right known options items (items ++ i ∷ []) before (i ∷ [], refl) reached.right)
            (all_unlisted_right known options (items ++ i ∷ []) (string_bytes path) found.what found.names lefts names some.1);
      },
    )

-- ---- the whole

-- some of the names in the folder itself
pub begins_in : (known : Known) (options : Options) (names : Names) (lefts : List LeftOut) → IfSome (known.names []) (λ told. named_of names ≡ told)
    → SomeUnlisted [] (named_of names) lefts → IsBeginning known options lefts
begins_in known options names lefts told some =
    inr (
      [],
      some.0.0,
      record {
        told = All-nil (IsItemTold known.looked options);
        objects = All-nil (IsObjectTold known);
        covers = record {
          opened = ([], named_of names) ∷ [];
          each = refl;
          told = All-push (IsNamed known) [] ([], named_of names) (All-nil (IsNamed known)) told;
          paths_are = subst (λ (l : Paths). IsPermutation l (some.0.0 ++ left_paths lefts)) (sym (append-nil (children [] (named_of names)))) some.0.1;
        };
        right = root_unlisted_right known options [] names lefts told some.1;
      },
    )

-- what a walk has reached
pub walk_reached : (known : Known) (options : Options) (items : List Item) (pending : List (String Global)) (lefts : List LeftOut) → WalkFits known options items pending
    → Covers known items (item_paths items ++ (texts pending ++ left_paths lefts)) → All (IsRight known options items) lefts → HasReached known options items (texts pending) lefts
walk_reached known options items pending lefts fits covers right = record { told = fits.told; objects = fits.objects; covers = covers; right = right }

-- and is led on to
pub begins_on : (known here : Known) (options : Options) (items : List Item) (pending : Paths) (before lefts : List LeftOut) → here ≡ known → HasReached known options items pending before
    → LeadsOn here options items pending lefts → IsBeginning known options (before ++ lefts)
begins_on known here options items pending before lefts same reached leads =
    let on : LeadsOn known options items pending lefts = subst (λ (k : Known). LeadsOn k options items pending lefts) same leads in
    inr (on before reached)
