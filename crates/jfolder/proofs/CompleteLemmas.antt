-- A walk that leaves no name out silently.
use Rattle.std.proofs.Common.{◌≡◌, ℕ, ◌+◌, ◌<◌, get_or, take, List, [], ◌∷◌, ◌++◌, length, refl, sym, ap, ◌∙◌, subst, append_assoc, append-nil, map, reverse, Option, None, Some}
use Rattle.std.specs.Prelude.{IfSome, IsPermutation, String}
use Rattle.std.specs.List.{All, flat_map}
use Rattle.std.specs.String.{string_bytes}
use Rattle.std.specs.declared.alloc.Global.{Global}
use Rattle.std.proofs.lemmas.Grind.{flat_map-append}
use Rattle.std.proofs.lemmas.List.{map-append, map_more}
use Rattle.std.proofs.lemmas.List.Elements.{All-append, All-nil, All-push}
use Rattle.std.proofs.lemmas.List.Sorted.{IsPermutation-append_comm, IsPermutation-append_left, IsPermutation-append_right, IsPermutation-map, IsPermutation-refl, IsPermutation-reverse, IsPermutation-sym, IsPermutation-to_front, IsPermutation-trans}
use Rattle.jfolder.specs.Complete.{Covers, StaysCovered, IsComplete, IsNamed, LeftOut, NamesFit, Opened, child, children, children_of, listed_directories, item_paths, left_paths, path_if_directory, unnamed_paths}
use Rattle.jfolder.specs.Known.{Known, inside, named_of}
use Rattle.jfolder.specs.Walking.{item_of}
use Rattle.jfolder.specs.declared.found.Found.{Found}
use Rattle.jfolder.specs.declared.host.Names.{Names}
use Rattle.jfolder.specs.declared.reason.Reason.{Reason}
use Rattle.jfolder.specs.declared.tree.Item.{Item}
use Rattle.jfolder.specs.declared.tree.What.{What}
use Rattle.jfolder.specs.declared.tree.What.TheVariants as what

abbrev pub Paths : Type 0
Paths = List (List ℕ)

abbrev pub texts : List (String Global) → Paths
texts paths = map string_bytes paths

-- ---- orders

pub same_order : {X : Type 0} (xs ys : List X) → xs ≡ ys → IsPermutation xs ys
same_order xs ys e = subst (IsPermutation xs) e (IsPermutation-refl xs)

abbrev children_given : List Opened → Paths
children_given opened = flat_map (λ (o : Opened). children o.0 o.1) opened

-- a path was visited: it is read, and what it gives is still to visit or left out
visited : (P Q L C R M : Paths) (p : List ℕ) → IsPermutation (C ++ Q) (R ++ M)
    → IsPermutation ((P ++ ((Q ++ p ∷ []) ++ L)) ++ C) ((P ++ p ∷ []) ++ (R ++ (L ++ M)))
visited P Q L C R M p moved =
    let front : IsPermutation (P ++ ((Q ++ p ∷ []) ++ L)) (P ++ (p ∷ (Q ++ L))) =
    IsPermutation-append_right P ((Q ++ p ∷ []) ++ L) (p ∷ (Q ++ L)) (IsPermutation-append_left L (Q ++ p ∷ []) (p ∷ Q) (IsPermutation-to_front Q p)) in
    let with : IsPermutation ((P ++ ((Q ++ p ∷ []) ++ L)) ++ C) ((P ++ (p ∷ (Q ++ L))) ++ C) = IsPermutation-append_left C (P ++ ((Q ++ p ∷ []) ++ L)) (P ++ (p ∷ (Q ++ L))) front in
    let apart : (P ++ (p ∷ (Q ++ L))) ++ C ≡ (P ++ p ∷ []) ++ ((Q ++ L) ++ C) =
    append_assoc P (p ∷ (Q ++ L)) C ∙ sym (append_assoc P (p ∷ []) ((Q ++ L) ++ C)) in
    let turned : IsPermutation ((Q ++ L) ++ C) ((C ++ Q) ++ L) =
    subst (IsPermutation ((Q ++ L) ++ C)) (sym (append_assoc C Q L)) (IsPermutation-append_comm (Q ++ L) C) in
    let later : IsPermutation ((C ++ Q) ++ L) ((R ++ M) ++ L) = IsPermutation-append_left L (C ++ Q) (R ++ M) moved in
    let last : IsPermutation ((R ++ M) ++ L) (R ++ (L ++ M)) =
    subst (λ (xs : Paths). IsPermutation xs (R ++ (L ++ M))) (sym (append_assoc R M L)) (IsPermutation-append_right R (M ++ L) (L ++ M) (IsPermutation-append_comm M L)) in
    let tail : IsPermutation ((Q ++ L) ++ C) (R ++ (L ++ M)) =
    IsPermutation-trans ((Q ++ L) ++ C) ((C ++ Q) ++ L) (R ++ (L ++ M)) turned (IsPermutation-trans ((C ++ Q) ++ L) ((R ++ M) ++ L) (R ++ (L ++ M)) later last) in
    IsPermutation-trans ((P ++ ((Q ++ p ∷ []) ++ L)) ++ C) ((P ++ (p ∷ (Q ++ L))) ++ C) ((P ++ p ∷ []) ++ (R ++ (L ++ M))) with
    (subst (λ (xs : Paths). IsPermutation xs ((P ++ p ∷ []) ++ (R ++ (L ++ M)))) (sym apart)
    (IsPermutation-append_right (P ++ p ∷ []) ((Q ++ L) ++ C) (R ++ (L ++ M)) tail))

-- a path is left out
passed_by : (P Q L : Paths) (p : List ℕ) → IsPermutation (P ++ ((Q ++ p ∷ []) ++ L)) (P ++ (Q ++ (L ++ p ∷ [])))
passed_by P Q L p =
    let turned : IsPermutation (Q ++ (p ∷ L)) (Q ++ (L ++ p ∷ [])) =
    IsPermutation-append_right Q (p ∷ L) (L ++ p ∷ []) (IsPermutation-sym (L ++ p ∷ []) (p ∷ L) (IsPermutation-to_front L p)) in
    IsPermutation-append_right P ((Q ++ p ∷ []) ++ L) (Q ++ (L ++ p ∷ []))
    (subst (λ (xs : Paths). IsPermutation xs (Q ++ (L ++ p ∷ []))) (sym (append_assoc Q (p ∷ []) L)) turned)

-- ---- the names in a directory

pub map_twice : (f : List ℕ → List ℕ) (names : List (String Global)) → map f (texts names) ≡ map (λ (n : String Global). f (string_bytes n)) names
map_twice f [] = refl
map_twice f (n ∷ names) = ap (λ (l : Paths). f (string_bytes n) ∷ l) (map_twice f names)

pub child_pushed : (old new : List (String Global)) (p : String Global) (path : List ℕ) → new ≡ old ++ p ∷ [] → string_bytes p ≡ path → texts old ++ path ∷ [] ≡ texts new ++ []
child_pushed old new p path more is =
    ap (λ (l : List ℕ). texts old ++ l ∷ []) (sym is) ∙ sym (map-append (λ (q : String Global). string_bytes q) old (p ∷ [])) ∙ ap texts (sym more) ∙ sym (append-nil (texts new))

-- the names up to here, and the next one
pub paths_more : (path_of : String Global → List ℕ) (names : List (String Global)) (i : ℕ) (n : String Global) (old new : List (String Global)) (before more : List LeftOut) → i < length names
    → n ≡ get_or names i n → IsPermutation (map path_of (take i names)) (texts old ++ left_paths before) → texts old ++ path_of n ∷ [] ≡ texts new ++ left_paths more
    → IsPermutation (map path_of (take (i + 1) names)) (texts new ++ left_paths (before ++ more))
paths_more path_of names i n old new before more within is given same =
    let A = map path_of (take i names) in
    let O = texts old in
    let N = texts new in
    let X = left_paths before in
    let Y = left_paths more in
    let c : Paths = path_of n ∷ [] in
    let longer : map path_of (take (i + 1) names) ≡ A ++ c =
    map_more path_of names i n within ∙ ap (λ (m : String Global). A ++ path_of m ∷ []) (sym is) in
    let first : IsPermutation (A ++ c) ((O ++ X) ++ c) = IsPermutation-append_left c A (O ++ X) given in
    let apart : (O ++ X) ++ c ≡ O ++ (X ++ c) = append_assoc O X c in
    let second : IsPermutation (O ++ (X ++ c)) (O ++ (c ++ X)) = IsPermutation-append_right O (X ++ c) (c ++ X) (IsPermutation-append_comm X c) in
    let other : O ++ (c ++ X) ≡ N ++ (Y ++ X) = sym (append_assoc O c X) ∙ ap (λ (l : Paths). l ++ X) same ∙ append_assoc N Y X in
    let third : IsPermutation (N ++ (Y ++ X)) (N ++ (X ++ Y)) = IsPermutation-append_right N (Y ++ X) (X ++ Y) (IsPermutation-append_comm Y X) in
    let last : N ++ (X ++ Y) ≡ N ++ left_paths (before ++ more) = ap (λ (l : Paths). N ++ l) (sym (map-append (λ (left : LeftOut). left.0) before more)) in
    subst (IsPermutation (map path_of (take (i + 1) names))) last
    (subst (λ (l : Paths). IsPermutation l (N ++ (X ++ Y))) (sym longer)
    (IsPermutation-trans (A ++ c) (O ++ (X ++ c)) (N ++ (X ++ Y)) (subst (IsPermutation (A ++ c)) apart first)
    (IsPermutation-trans (O ++ (X ++ c)) (N ++ (Y ++ X)) (N ++ (X ++ Y)) (subst (IsPermutation (O ++ (X ++ c))) other second) third)))

-- names in another order, and how many others there are
pub children_told : (directory : List ℕ) (names sorted : List (String Global)) (others : ℕ) (paths : Paths) (first then : List LeftOut) → IsPermutation names sorted
    → left_paths first ≡ unnamed_paths directory others → IsPermutation (map (λ (n : String Global). child directory (string_bytes n)) sorted) (paths ++ left_paths then)
    → IsPermutation (map (child directory) (texts names) ++ unnamed_paths directory others) (paths ++ left_paths (first ++ then))
children_told directory names sorted others paths first then order unnamed named =
    let X = map (child directory) (texts names) in
    let R = unnamed_paths directory others in
    let T = left_paths then in
    let sorts : IsPermutation X (paths ++ T) =
    subst (λ (xs : Paths). IsPermutation xs (paths ++ T)) (sym (map_twice (child directory) names))
    (IsPermutation-trans (map (λ (n : String Global). child directory (string_bytes n)) names) (map (λ (n : String Global). child directory (string_bytes n)) sorted) (paths ++ T)
    (IsPermutation-map (λ (n : String Global). child directory (string_bytes n)) names sorted order) named) in
    let with : IsPermutation (X ++ R) ((paths ++ T) ++ R) = IsPermutation-append_left R X (paths ++ T) sorts in
    let turned : IsPermutation ((paths ++ T) ++ R) (paths ++ (R ++ T)) =
    subst (λ (xs : Paths). IsPermutation xs (paths ++ (R ++ T))) (sym (append_assoc paths T R)) (IsPermutation-append_right paths (T ++ R) (R ++ T) (IsPermutation-append_comm T R)) in
    let same : R ++ T ≡ left_paths (first ++ then) = ap (λ (xs : Paths). xs ++ T) (sym unnamed) ∙ sym (map-append (λ (left : LeftOut). left.0) first then) in
    subst (λ (xs : Paths). IsPermutation (X ++ R) (paths ++ xs)) same (IsPermutation-trans (X ++ R) ((paths ++ T) ++ R) (paths ++ (R ++ T)) with turned)

-- ---- the walk

-- what a visit opens: the directory that is read, with its names
record Opens (known : Known) (path : List ℕ) (w : What) (names : Option Names) : Type 0 where
  opened : List Opened
  each : map (λ (o : Opened). o.0) opened ≡ path_if_directory path w
  told : All (IsNamed known) opened
  gives : children_given opened ≡ children_of path names

opens : (known : Known) (path : List ℕ) (w : What) (names : Option Names) → NamesFit (known.names (inside path)) w names → Opens known path w names
opens known path what.Directory (Some names) fit = record {
  opened = (path, named_of names) ∷ [];
  each = refl;
  told = All-push (IsNamed known) [] (path, named_of names) (All-nil (IsNamed known)) fit;
  gives = append-nil (children path (named_of names));
}
opens known path what.Directory None fit = absurd fit
opens known path (what.Regular file) (Some names) fit = absurd fit
opens known path (what.Regular file) None fit = record { opened = []; each = refl; told = All-nil (IsNamed known); gives = refl }
opens known path (what.Device device major minor) (Some names) fit = absurd fit
opens known path (what.Device device major minor) None fit = record { opened = []; each = refl; told = All-nil (IsNamed known); gives = refl }
opens known path what.Fifo (Some names) fit = absurd fit
opens known path what.Fifo None fit = record { opened = []; each = refl; told = All-nil (IsNamed known); gives = refl }
opens known path what.Socket (Some names) fit = absurd fit
opens known path what.Socket None fit = record { opened = []; each = refl; told = All-nil (IsNamed known); gives = refl }
opens known path (what.Symlink target) (Some names) fit = absurd fit
opens known path (what.Symlink target) None fit = record { opened = []; each = refl; told = All-nil (IsNamed known); gives = refl }
opens known path (what.Link first) (Some names) fit = absurd fit
opens known path (what.Link first) None fit = record { opened = []; each = refl; told = All-nil (IsNamed known); gives = refl }

directories_more : (items : List Item) (i : Item) → listed_directories (items ++ i ∷ []) ≡ listed_directories items ++ path_if_directory (string_bytes i.path) i.what
directories_more items i =
    ap (λ (l : Paths). [] ∷ l) (flat_map-append (λ (j : Item). path_if_directory (string_bytes j.path) j.what) items (i ∷ [])
    ∙ ap (λ (l : Paths). flat_map (λ (j : Item). path_if_directory (string_bytes j.path) j.what) items ++ l) (append-nil (path_if_directory (string_bytes i.path) i.what)))

walk_covers : (known : Known) (items : List Item) (i : Item) (names : Option Names) (pending later : Paths) (lefts before : List LeftOut)
    → NamesFit (known.names (inside (string_bytes i.path))) i.what names → IsPermutation (children_of (string_bytes i.path) names ++ pending) (later ++ left_paths lefts)
    → Covers known items (item_paths items ++ ((pending ++ string_bytes i.path ∷ []) ++ left_paths before))
    → Covers known (items ++ i ∷ []) (item_paths (items ++ i ∷ []) ++ (later ++ left_paths (before ++ lefts)))
walk_covers known items i names pending later lefts before fit moved covers =
    let path = string_bytes i.path in
    let here = opens known path i.what names fit in
    let from = item_paths items ++ ((pending ++ path ∷ []) ++ left_paths before) in
    let to = (item_paths items ++ path ∷ []) ++ (later ++ (left_paths before ++ left_paths lefts)) in
    let given : children_given (covers.opened ++ here.opened) ≡ children_given covers.opened ++ children_of path names =
    flat_map-append (λ (o : Opened). children o.0 o.1) covers.opened here.opened ∙ ap (λ (l : Paths). children_given covers.opened ++ l) here.gives in
    let moves : IsPermutation (children_given covers.opened ++ children_of path names) to =
    IsPermutation-trans (children_given covers.opened ++ children_of path names) (from ++ children_of path names) to
    (IsPermutation-append_left (children_of path names) (children_given covers.opened) from covers.paths_are)
    (visited (item_paths items) pending (left_paths before) (children_of path names) later (left_paths lefts) path moved) in
    let same : to ≡ item_paths (items ++ i ∷ []) ++ (later ++ left_paths (before ++ lefts)) =
    ap (λ (l : Paths). l ++ (later ++ (left_paths before ++ left_paths lefts))) (sym (map-append (λ (j : Item). string_bytes j.path) items (i ∷ [])))
    ∙ ap (λ (l : Paths). item_paths (items ++ i ∷ []) ++ (later ++ l)) (sym (map-append (λ (left : LeftOut). left.0) before lefts)) in
    record {
      opened = covers.opened ++ here.opened;
      each = map-append (λ (o : Opened). o.0) covers.opened here.opened ∙ ap (λ (l : Paths). l ++ map (λ (o : Opened). o.0) here.opened) covers.each
          ∙ ap (λ (l : Paths). listed_directories items ++ l) here.each ∙ sym (directories_more items i);
      told = All-append (IsNamed known) covers.opened here.opened covers.told here.told;
      paths_are = subst (λ (l : Paths). IsPermutation l (item_paths (items ++ i ∷ []) ++ (later ++ left_paths (before ++ lefts)))) (sym given)
          (subst (IsPermutation (children_given covers.opened ++ children_of path names)) same moves);
    }

pub goes_on : (known : Known) (items new : List Item) (path : String Global) (found : Found) (pending later : Paths) (lefts : List LeftOut) → new ≡ items ++ item_of path found ∷ []
    → NamesFit (known.names (inside (string_bytes path))) found.what found.names → IsPermutation (children_of (string_bytes path) found.names ++ pending) (later ++ left_paths lefts)
    → StaysCovered known items (pending ++ string_bytes path ∷ []) new later lefts
goes_on known items new path found pending later lefts more names moved before covers =
    subst (λ (l : List Item). Covers known l (item_paths l ++ (later ++ left_paths (before ++ lefts)))) (sym more) (walk_covers known items (item_of path found) found.names pending later lefts before names moved covers)

leaves_one_out : (known : Known) (items : List Item) (pending : Paths) (path : List ℕ) (why : Reason) → StaysCovered known items (pending ++ path ∷ []) items pending ((path, why) ∷ [])
leaves_one_out known items pending path why before covers = record {
  opened = covers.opened;
  each = covers.each;
  told = covers.told;
  paths_are = IsPermutation-trans (children_given covers.opened) (item_paths items ++ ((pending ++ path ∷ []) ++ left_paths before))
      (item_paths items ++ (pending ++ left_paths (before ++ (path, why) ∷ []))) covers.paths_are
      (subst (λ (l : Paths). IsPermutation (item_paths items ++ ((pending ++ path ∷ []) ++ left_paths before)) (item_paths items ++ (pending ++ l)))
      (sym (map-append (λ (left : LeftOut). left.0) before ((path, why) ∷ []))) (passed_by (item_paths items) pending (left_paths before) path));
}

pub leaves_out : (known : Known) (items : List Item) (pending : Paths) (path told : List ℕ) (why : Reason) (lefts : List LeftOut) → told ≡ path → lefts ≡ (told, why) ∷ []
    → StaysCovered known items (pending ++ path ∷ []) items pending lefts
leaves_out known items pending path told why lefts is these =
    subst (λ (l : List LeftOut). StaysCovered known items (pending ++ path ∷ []) items pending l) (sym (these ∙ ap (λ (p : List ℕ). (p, why) ∷ []) is)) (leaves_one_out known items pending path why)

-- ---- the folder itself

-- what was read and what is still to visit, with what was left out
abbrev pub Reaches : Known → List Item → List (String Global) → List LeftOut → Type 0
Reaches known items pending lefts = Covers known items (item_paths items ++ (texts pending ++ left_paths lefts))

pub reaches_on : (known here : Known) (items new : List Item) (old rest later : List (String Global)) (path : String Global) (before lefts : List LeftOut) → here ≡ known → old ≡ rest ++ path ∷ []
    → Reaches known items old before → StaysCovered here items (texts rest ++ string_bytes path ∷ []) new (texts later) lefts → Reaches known new later (before ++ lefts)
reaches_on known here items new old rest later path before lefts same is covers goes =
    let on : StaysCovered known items (texts rest ++ string_bytes path ∷ []) new (texts later) lefts =
    subst (λ (k : Known). StaysCovered k items (texts rest ++ string_bytes path ∷ []) new (texts later) lefts) same goes in
    on before (subst (λ (l : Paths). Covers known items (item_paths items ++ (l ++ left_paths before))) (ap texts is ∙ map-append (λ (p : String Global). string_bytes p) rest (path ∷ [])) covers)

-- nothing is still to visit
pub reaches_all : (known : Known) (items : List Item) (pending : List (String Global)) (lefts : List LeftOut) → length pending ≡ 0 → Reaches known items pending lefts → IsComplete known items lefts
reaches_all known items [] lefts none covers = covers
reaches_all known items (p ∷ pending) lefts none covers = cc

-- the paths that are still to visit, the next one last
pub pending_order : (paths old new : List (String Global)) (lefts : List LeftOut) (C : Paths) → new ≡ old ++ reverse paths → IsPermutation C (texts paths ++ left_paths lefts)
    → IsPermutation (C ++ texts old) (texts new ++ left_paths lefts)
pending_order paths old new lefts C is given =
    let L = left_paths lefts in
    let O = texts old in
    let turned : IsPermutation (texts paths) (texts (reverse paths)) = IsPermutation-map (λ (p : String Global). string_bytes p) paths (reverse paths) (IsPermutation-reverse paths) in
    let first : IsPermutation (C ++ O) (O ++ C) = IsPermutation-append_comm C O in
    let then : IsPermutation C (texts (reverse paths) ++ L) =
    IsPermutation-trans C (texts paths ++ L) (texts (reverse paths) ++ L) given (IsPermutation-append_left L (texts paths) (texts (reverse paths)) turned) in
    let both : IsPermutation (C ++ O) (O ++ (texts (reverse paths) ++ L)) =
    IsPermutation-trans (C ++ O) (O ++ C) (O ++ (texts (reverse paths) ++ L)) first (IsPermutation-append_right O C (texts (reverse paths) ++ L) then) in
    let same : O ++ (texts (reverse paths) ++ L) ≡ texts new ++ L =
    sym (append_assoc O (texts (reverse paths)) L) ∙ ap (λ (l : Paths). l ++ L) (sym (ap texts is ∙ map-append (λ (p : String Global). string_bytes p) old (reverse paths))) in
    subst (IsPermutation (C ++ O)) same both

pub covers_root : (known : Known) (items : List Item) (names : Names) (paths pending : List (String Global)) (lefts : List LeftOut) → items ≡ [] → pending ≡ reverse paths
    → IfSome (known.names []) (λ told. named_of names ≡ told) → IsPermutation (children [] (named_of names)) (texts paths ++ left_paths lefts)
    → Covers known items (item_paths items ++ (texts pending ++ left_paths lefts))
covers_root known items names paths pending lefts none is told given =
    let C = children [] (named_of names) in
    subst (λ (l : List Item). Covers known l (item_paths l ++ (texts pending ++ left_paths lefts))) (sym none) (record {
      opened = ([], named_of names) ∷ [];
      each = refl;
      told = All-push (IsNamed known) [] ([], named_of names) (All-nil (IsNamed known)) told;
      paths_are = pending_order paths [] pending lefts C is given;
    })
