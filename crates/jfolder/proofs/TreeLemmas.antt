-- Trees that grow by an item, and the paths that lie in them.
use Rattle.std.proofs.Common.{◌≡◌, ◌≢◌, ℕ, true, List, [], ◌∷◌, ◌++◌, length, refl, sym, ap, ◌∙◌, subst, arith, inl, inr, append_assoc, append-nil, reverse, ◌-◌, suc, Some, None}
use Rattle.std.specs.Prelude.{IsTrue}
use Rattle.std.specs.List.{All, Contains, flat_map}
use Rattle.std.specs.String.{string_bytes}
use Rattle.std.proofs.Math.Logic.{⊎_elim}
use Rattle.std.proofs.lemmas.Grind.{flat_map-append}
use Rattle.std.proofs.lemmas.Bool.{true≢false}
use Rattle.std.proofs.lemmas.List.{reverse-append}
use Rattle.std.proofs.lemmas.Option.{none-some, same_Some, slice_get-get_or}
use Rattle.std.specs.List.{slice_get}
use Rattle.std.proofs.lemmas.List.Elements.{All-contains, All-cons, All-head, All-nil, All-push, All-tail, Contains-append_left, Contains-push}
use Rattle.jmount.specs.Find.{IsPath, is_name, path_text}
use Rattle.jfolder.specs.Order.{is_before}
use Rattle.jfolder.specs.Trees.{HasDirectory, IsTree, IsTreeAfter, LinksBack, MayFollow, Rise}
use Rattle.jfolder.specs.Walking.{IsChild, IsPending, comes_next}
use Rattle.jfolder.specs.declared.tree.Item.{Item}
use Rattle.jfolder.specs.declared.tree.What.{What}
use Rattle.jfolder.specs.declared.tree.What.TheVariants as what
use Rattle.jfolder.proofs.OrderLemmas.{before_itself, before_trans}

abbrev pub path_of : Item → List ℕ
path_of i = string_bytes i.path

-- ---- paths in their order

-- each item is before what comes after the last
pub comes_after_all : (items : List Item) (text : List ℕ) → Rise items → comes_next items text ≡ true → All (λ i. is_before (path_of i) text ≡ true) items
comes_after_all [] text rise next = All-nil (λ i. is_before (path_of i) text ≡ true)
comes_after_all (i ∷ []) text rise next = All-cons (λ i. is_before (path_of i) text ≡ true) i [] next (All-nil (λ i. is_before (path_of i) text ≡ true))
comes_after_all (i ∷ j ∷ items) text rise next =
    let more = comes_after_all (j ∷ items) text rise.1 next in
    All-cons (λ i. is_before (path_of i) text ≡ true) i (j ∷ items)
    (before_trans (path_of i) (path_of j) text rise.0 (All-head (λ i. is_before (path_of i) text ≡ true) j items more)) more

pub rise_more : (items : List Item) (i : Item) → Rise items → comes_next items (path_of i) ≡ true → Rise (items ++ i ∷ [])
rise_more [] i rise next = tt
rise_more (j ∷ []) i rise next = (next, tt)
rise_more (j ∷ k ∷ items) i rise next = (rise.0, rise_more (k ∷ items) i rise.1 next)

-- it is the path of none of them
pub is_new : (items : List Item) (text : List ℕ) → Rise items → comes_next items text ≡ true → (other : Item) → Contains items other → path_of other ≢ text
is_new items text rise next other in' same =
    let before = All-contains (λ i. is_before (path_of i) text ≡ true) items other (comes_after_all items text rise next) in' in
    true≢false (sym before ∙ ap (λ (l : List ℕ). is_before l text) same ∙ before_itself text)

pub next_after_last : (items : List Item) (i : Item) (text : List ℕ) → Some i ≡ slice_get items (length items - 1) → is_before (path_of i) text ≡ comes_next items text
next_after_last [] i text e = cc
next_after_last (j ∷ []) i text e = ap (λ (k : Item). is_before (path_of k) text) (same_Some i j e)
next_after_last (j ∷ k ∷ items) i text e =
    let at : length (j ∷ k ∷ items) - 1 ≡ suc (length (k ∷ items) - 1) = omega arith in
    next_after_last (k ∷ items) i text (e ∙ ap (slice_get (j ∷ k ∷ items)) at)

pub next_of_none : (items : List Item) (text : List ℕ) → None ≡ slice_get items (length items - 1) → true ≡ comes_next items text
next_of_none [] text e = refl
next_of_none (i ∷ items) text e = absurd (none-some _ (e ∙ slice_get-get_or (i ∷ items) (length (i ∷ items) - 1) i (omega arith)))

-- ---- one item more

tree_after_more : (before items : List Item) (i : Item) → IsTreeAfter before items → MayFollow (before ++ items) i → IsTreeAfter before (items ++ i ∷ [])
tree_after_more before [] i tree may = (subst (λ (l : List Item). MayFollow l i) (append-nil before) may, tt)
tree_after_more before (j ∷ items) i tree may =
    (tree.0, tree_after_more (before ++ j ∷ []) items i tree.1 (subst (λ (l : List Item). MayFollow l i) (sym (append_assoc before (j ∷ []) items)) may))

pub tree_more : (items : List Item) (i : Item) → IsTree items → MayFollow items i → IsTree (items ++ i ∷ [])
tree_more items i tree may = tree_after_more [] items i tree may

directory_more : (before more : List Item) (way : List (List ℕ)) → HasDirectory before way → HasDirectory (before ++ more) way
directory_more before more way has = ⊎_elim (λ root. inl root) (λ there. inr (there.0, Contains-append_left before more there.0 there.1, there.2, there.3)) has

pub links_more : (before more : List Item) (w : What) → LinksBack before w → LinksBack (before ++ more) w
links_more before more what.Directory back = tt
links_more before more (what.Regular file) back = tt
links_more before more (what.Device device major minor) back = tt
links_more before more what.Fifo back = tt
links_more before more what.Socket back = tt
links_more before more (what.Symlink target) back = tt
links_more before more (what.Link first) back = (back.0, Contains-append_left before more back.0 back.1, back.2, back.3)

-- ---- paths that are still to visit

pub pending_more : (before more : List Item) (text : List ℕ) → IsPending before text → IsPending (before ++ more) text
pending_more before more text is =
    record { way = is.way; name = is.name; path = is.path; short = is.short; directory = directory_more before more is.way is.directory }

abbrev slashed : List (List ℕ) → List ℕ
slashed names = flat_map (λ n. 47 ∷ n) names

text_slashed : (way : List (List ℕ)) (name : List ℕ) → path_text (way ++ name ∷ []) ≡ slashed (way ++ name ∷ [])
text_slashed [] name = refl
text_slashed (n ∷ way) name = refl

abbrev IsName : List ℕ → Type 0
IsName name = IsTrue (is_name name)

path_more : (text : List ℕ) (way : List (List ℕ)) (name child : List ℕ) → IsPath text (way ++ name ∷ []) → IsTrue (is_name child)
    → IsPath (text ++ 47 ∷ child) ((way ++ name ∷ []) ++ child ∷ [])
path_more text way name child is named =
    let whole = way ++ name ∷ [] in (
      ap (λ (l : List ℕ). l ++ 47 ∷ child) (is.0 ∙ text_slashed way name)
          ∙ ap (λ (l : List ℕ). slashed whole ++ 47 ∷ l) (sym (append-nil child))
          ∙ sym (flat_map-append (λ n. 47 ∷ n) whole (child ∷ []))
          ∙ sym (text_slashed whole child),
      All-push IsName whole child is.1 named,
    )

-- a name in the root
pub root_child : (items : List Item) (text : List ℕ) → IsChild [] text → IsPending items text
root_child items text is =
    record {
      way = [];
      name = is.name;
      path = (is.text ∙ ap (λ (l : List ℕ). 47 ∷ l) (sym (append-nil is.name)), All-cons IsName is.name [] is.fits.0 (All-nil IsName));
      short = is.fits.1;
      directory = inl refl;
    }

-- a name in a directory that is an item
pub directory_child : (items : List Item) (i : Item) (text : List ℕ) → IsPending items (path_of i) → i.what ≡ what.Directory → IsChild (path_of i) text
    → IsPending (items ++ i ∷ []) text
directory_child items i text at kind is =
    record {
      way = at.way ++ at.name ∷ [];
      name = is.name;
      path = subst (λ (l : List ℕ). IsPath l ((at.way ++ at.name ∷ []) ++ is.name ∷ [])) (sym is.text) (path_more (path_of i) at.way at.name is.name at.path is.fits.0);
      short = is.fits.1;
      directory = inr (i, Contains-push items i, at.path.0, kind);
    }

pub All-reverse : {X : Type 0} (P : X → Type 0) (xs : List X) → All P xs → All P (reverse xs)
All-reverse P [] all = All-nil P
All-reverse P (x ∷ xs) all =
    subst (All P) (sym (reverse-append (x ∷ []) xs)) (All-push P (reverse xs) x (All-reverse P xs (All-tail P x xs all)) (All-head P x xs all))
