-- A walk that goes on by an item.
use Rattle.std.proofs.Common.{◌≡◌, ℕ, ◌<◌, true, List, [], ◌∷◌, ◌++◌, length, sym, ap, ◌∙◌, subst, reverse, Option, None, Some, Result, Ok, Err, get_or, map}
use Rattle.std.specs.Prelude.{IfOk, IfSome, IsSome, String}
use Rattle.std.specs.List.{All}
use Rattle.std.specs.Option.{option_to_list}
use Rattle.std.specs.String.{string_bytes}
use Rattle.std.specs.declared.alloc.Global.{Global}
use Rattle.std.proofs.lemmas.Bool.{false≢true}
use Rattle.std.proofs.lemmas.List.Elements.{All-append, All-cons, All-contains, All-map, All-nil, All-pop, All-push, All-same, All-weaker}
use Rattle.jfolder.specs.Actions.{AttributesFit, IsRooted, ItemFits, WhatFits}
use Rattle.jfolder.specs.Known.{Known, MayAnswer, inside}
use Rattle.jfolder.specs.Objects.{AreOne, HasObject, IsObjectTold, IsOfKind, LinkLeadsTo, kind_bits}
use Rattle.jfolder.specs.Trees.{HasTarget, IsRegular, IsTree, LinksBack, MayFollow, Rise}
use Rattle.jfolder.specs.Walking.{FoundFits, HasOptions, IsChild, IsFileOf, IsItemTold, IsPending, IsTold, IsToldAt, WalkFits, comes_next, item_of}
use Rattle.jfolder.specs.declared.found.Found.{Found}
use Rattle.jfolder.specs.declared.found.Options.{Options}
use Rattle.jfolder.specs.declared.found.Skip.{Skip}
use Rattle.jfolder.specs.declared.host.Looked.{Looked}
use Rattle.jfolder.specs.declared.tree.Attributes.{Attributes}
use Rattle.jfolder.specs.declared.tree.Item.{Item}
use Rattle.jfolder.specs.declared.tree.What.{What}
use Rattle.jfolder.specs.declared.tree.What.TheVariants as what
use Rattle.jfolder.proofs.TreeLemmas.{All-reverse, directory_child, is_new, path_of, pending_more, rise_more, root_child, tree_more}

-- ---- what is found

-- what is known is what was told
pub told_at : (known : Option Looked) (options : Options) (it : Looked) (a : Attributes) → IfSome known (λ k. it ≡ k) → IsTold options it a
    → IfSome known (λ k. IsTold options k a)
told_at None options it a same told = tt
told_at (Some k) options it a same told = subst (λ (l : Looked). IsTold options l a) same told

pub told_if : (known : Option Looked) (options : Options) (it : Looked) (r : Result Found Skip) → IfSome known (λ k. it ≡ k)
    → IfOk r (λ found. IsTold options it found.attributes) → IfOk r (λ found. IfSome known (λ k. IsTold options k found.attributes))
told_if known options it (Ok found) same told = told_at known options it found.attributes same told
told_if known options it (Err e) same told = tt

-- a further name is that of a regular file
pub link_kind : (known : Option Looked) (it : Looked) (r : Result Found Skip) (first : String Global) → IfSome known (λ k. it ≡ k) → kind_bits it.mode ≡ 8
    → IfOk r (λ found. found.what ≡ what.Link first) → IfOk r (λ found. IfSome known (λ told. IsOfKind told found.what))
link_kind known it (Err e) first same kind link = tt
link_kind None it (Ok found) first same kind link = tt
link_kind (Some k) it (Ok found) first same kind link =
    subst (λ (w : What). IsOfKind k w) (sym link) (subst (λ (l : Looked). kind_bits l.mode ≡ 8) same kind)

leads_at : (here there : Option Looked) (it : Looked) → IfSome here (λ k. it ≡ k) → IfSome there (λ told. AreOne told it) → IfSome here (λ told. IfSome there (λ other. AreOne other told))
leads_at None there it same one = tt
leads_at (Some k) None it same one = tt
leads_at (Some k) (Some other) it same one = subst (λ (l : Looked). AreOne other l) same one

-- it leads to the object that is told at its first path
pub link_object : (known : Known) (path : List ℕ) (it : Looked) (r : Result Found Skip) (first : String Global) (text : List ℕ) → IfSome (known.looked path) (λ k. it ≡ k)
    → IfSome (known.looked (inside text)) (λ told. AreOne told it) → MayAnswer (known.is_told (inside text)) true
    → string_bytes first ≡ text → IfOk r (λ found. found.what ≡ what.Link first) → IfOk r (λ found. HasObject known path found.what)
link_object known path it (Err e) first text same one seen is link = tt
link_object known path it (Ok found) first text same one seen is link =
    subst (HasObject known path) (sym link) (subst (LinkLeadsTo known path) (sym is) (leads_at (known.looked path) (known.looked (inside text)) it same one, seen))

pub file_of : (items given : List Item) (k : ℕ) (i : Item) (file : String Global) (text : List ℕ) → given ≡ items → k < length given → i ≡ get_or given k i
    → i.what ≡ what.Regular file → text ≡ path_of i → IsFileOf items text
file_of items given k i file text same within at kind is =
    (i, (k, subst (λ (l : List Item). k < length l) same within, sym (at ∙ ap (λ (l : List Item). get_or l k i) same)), sym is, subst IsRegular (sym kind) tt)

pub link_found : (options : Options) (before : List Item) (r : Result Found Skip) (first : String Global) → All ItemFits before
    → IfOk r (λ found. AttributesFit found.attributes) → IfOk r (λ found. HasOptions options found.attributes)
    → IfOk r (λ found. found.what ≡ what.Link first) → IfOk r (λ found. found.names ≡ None) → IsFileOf before (string_bytes first)
    → IfOk r (FoundFits options before)
link_found options before (Err e) first fit attributes given link none file = tt
link_found options before (Ok found) first fit attributes given link none file =
    let rooted : IsRooted (string_bytes first) = subst IsRooted file.2 (All-contains ItemFits before file.0 fit file.1).path in
    record {
      attributes_fit = attributes;
      options_hold = given;
      what_fits = subst WhatFits (sym link) rooted;
      link = subst (LinksBack before) (sym link) file;
      target = subst HasTarget (sym link) tt;
      directory = λ some. absurd (false≢true (subst IsSome none some));
    }

-- ---- the paths that are still to visit

abbrev pub IsIn : List Item → String Global → Type 0
IsIn items path = IsPending items (string_bytes path)

pub pending_after : (before items : List Item) (path : String Global) (found : Found) (old new paths : List (String Global)) → items ≡ before ++ item_of path found ∷ []
    → new ≡ old ++ reverse paths → (IsSome found.names → found.what ≡ what.Directory) → IsPending before (string_bytes path) → All (IsIn before) old
    → All (λ child. IsSome found.names × IsChild (string_bytes path) (string_bytes child)) paths → All (IsIn items) new
pending_after before items path found old new paths more is directory at all children =
    let i = item_of path found in
    let those = All-weaker (λ child. IsSome found.names × IsChild (string_bytes path) (string_bytes child)) (IsIn (before ++ i ∷ []))
    (λ child h. directory_child before i (string_bytes child) at (directory h.0) h.1) paths children in
    let these = All-weaker (IsIn before) (IsIn (before ++ i ∷ [])) (λ p h. pending_more before (i ∷ []) (string_bytes p) h) old all in
    let both = All-append (IsIn (before ++ i ∷ [])) old (reverse paths) these (All-reverse (IsIn (before ++ i ∷ [])) paths those) in
    All-same (IsIn items) new (old ++ reverse paths) is (subst (λ (l : List Item). All (IsIn l) (old ++ reverse paths)) (sym more) both)

pub popped : (known : Known) (options : Options) (items : List Item) (old new : List (String Global)) (r : Option (String Global)) → old ≡ new ++ option_to_list r
    → WalkFits known options items old → WalkFits known options items new × IfSome r (IsIn items)
popped known options items old new r is fits =
    let both = All-pop (IsIn items) old new r is fits.pending_fit in
    (record { items_fit = fits.items_fit; tree = fits.tree; rise = fits.rise; options_hold = fits.options_hold; told = fits.told; objects = fits.objects; pending_fit = both.0 }, both.1)

-- ---- the walk

pub walk_starts : (known : Known) (options : Options) (items : List Item) (pending paths : List (String Global)) → items ≡ [] → pending ≡ reverse paths
    → All (λ path. IsChild [] (string_bytes path)) paths → WalkFits known options items pending
walk_starts known options items pending paths none is children =
    subst (λ (l : List Item). WalkFits known options l pending) (sym none) (record {
      items_fit = All-nil ItemFits;
      tree = tt;
      rise = tt;
      options_hold = All-nil (λ i. HasOptions options i.attributes);
      told = All-nil (IsItemTold known.looked options);
      objects = All-nil (IsObjectTold known);
      pending_fit = All-same (IsIn []) pending (reverse paths) is
          (All-reverse (IsIn []) paths (All-weaker (λ path. IsChild [] (string_bytes path)) (IsIn []) (λ p h. root_child [] (string_bytes p) h) paths children));
    })

pub walk_more : (known : Known) (options : Options) (items new : List Item) (path : String Global) (found : Found) (old pending : List (String Global)) → WalkFits known options items old
    → FoundFits options items found → IsRooted (string_bytes path) → comes_next items (string_bytes path) ≡ true → IsPending items (string_bytes path)
    → IsToldAt known.looked options (inside (string_bytes path)) found.attributes → IsObjectTold known (item_of path found) → new ≡ items ++ item_of path found ∷ [] → All (IsIn new) pending → WalkFits known options new pending
walk_more known options items new path found old pending fits is rooted next at told object more all =
    let i = item_of path found in
    let may : MayFollow items i = record {
      way = at.way;
      name = at.name;
      path = at.path;
      short = at.short;
      directory = at.directory;
      new = is_new items (string_bytes path) fits.rise next;
      link = is.link;
      target = is.target;
    } in
    let fit : ItemFits i = record { path = rooted; attributes = is.attributes_fit; what = is.what_fits } in
    record {
      items_fit = All-same ItemFits new (items ++ i ∷ []) more (All-push ItemFits items i fits.items_fit fit);
      tree = subst IsTree (sym more) (tree_more items i fits.tree may);
      rise = subst Rise (sym more) (rise_more items i fits.rise next);
      options_hold = All-same (λ j. HasOptions options j.attributes) new (items ++ i ∷ []) more
          (All-push (λ j. HasOptions options j.attributes) items i fits.options_hold is.options_hold);
      told = All-same (IsItemTold known.looked options) new (items ++ i ∷ []) more (All-push (IsItemTold known.looked options) items i fits.told told);
      objects = All-same (IsObjectTold known) new (items ++ i ∷ []) more (All-push (IsObjectTold known) items i fits.objects object);
      pending_fit = all;
    }

-- the item was added, or memory ran out
pub walk_goes_on : {E : Type 0} (known : Known) (options : Options) (items new : List Item) (path : String Global) (found : Found) (old pending : List (String Global)) (r : Result Unit E)
    → WalkFits known options items old → FoundFits options items found → IsRooted (string_bytes path) → comes_next items (string_bytes path) ≡ true
    → IsPending items (string_bytes path) → IsToldAt known.looked options (inside (string_bytes path)) found.attributes → IsObjectTold known (item_of path found) → IfOk r (λ _. new ≡ items ++ item_of path found ∷ []) → IfOk r (λ _. All (IsIn new) pending)
    → IfOk r (λ _. WalkFits known options new pending)
walk_goes_on known options items new path found old pending (Ok x) fits is rooted next at told object more all =
    walk_more known options items new path found old pending fits is rooted next at told object more all
walk_goes_on known options items new path found old pending (Err e) fits is rooted next at told object more all = tt

-- ---- what was read

pub all_have_options : (options : Options) (root : Attributes) (items : List Item) → HasOptions options root → All (λ i. HasOptions options i.attributes) items
    → All (HasOptions options) (root ∷ map (λ (i : Item). i.attributes) items)
all_have_options options root items here there =
    All-cons (HasOptions options) root (map (λ (i : Item). i.attributes) items) here (All-map (HasOptions options) (λ (i : Item). i.attributes) items there)
