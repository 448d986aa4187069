-- Names of one file in a walk: a further name is found as a link, and the first is remembered.
use Rattle.std.proofs.Common.{◌≡◌, ℕ, Bool, false, List, [], ◌∷◌, ◌++◌, length, get_or, sym, ap, ◌∙◌, subst, arith, length-append, Option, None, Some, Result, Ok, Err}
use Rattle.std.specs.Prelude.{Contains, IfOk, IfSome, IsSomeAnd, IsTrue, String}
use Rattle.std.specs.BTreeMap.{Updates, get}
use Rattle.std.specs.Cmp.{Equal-is}
use Rattle.std.specs.List.{All}
use Rattle.std.specs.Ordering.{is_eq, nat_cmp}
use Rattle.std.specs.String.{string_bytes}
use Rattle.std.specs.declared.alloc.Global.{Global}
use Rattle.std.proofs.Math.Logic.{⊎_elim}
use Rattle.std.proofs.Math.Seq.{get_or-append_seam}
use Rattle.std.proofs.lemmas.Bool.{cases_lt, false_from_ne_true, true≢false}
use Rattle.std.proofs.lemmas.List.{get_or_append_left}
use Rattle.std.proofs.lemmas.List.Elements.{All-contains, Contains-get_or}
use Rattle.std.proofs.lemmas.List.Quantifiers.{all_pairs_push}
use Rattle.std.proofs.lemmas.Map.Lookups.{exact_pairs, exact_unsigned}
use Rattle.std.proofs.lemmas.Option.{none-some, same_Some}
use Rattle.jfolder.specs.Actions.{IsRooted, ItemFits}
use Rattle.jfolder.specs.Known.{Known, inside}
use Rattle.jfolder.specs.Links.{AreLinked, FileId, Firsts, FirstsFit, HasOtherNames, IsFirst, IsIdentity, IsLinkTo, IsLinked, IsMet, IsNameOf, LinksFit, Remembers, WalkLinks, file_cmp, id_of}
use Rattle.jfolder.specs.Objects.{AreOne}
use Rattle.jfolder.specs.Trees.{IsRegular}
use Rattle.jfolder.specs.Walking.{item_of}
use Rattle.jfolder.specs.declared.found.Found.{Found}
use Rattle.jfolder.specs.declared.found.Skip.{Skip}
use Rattle.jfolder.specs.declared.host.Looked.{Looked}
use Rattle.jfolder.specs.declared.tree.Item.{Item}
use Rattle.jfolder.specs.declared.tree.What.TheVariants as what
use Rattle.jfolder.proofs.TreeLemmas.{path_of}

-- ---- the first names that are remembered

-- another file keeps its first name
other_stays : (old new : Firsts) (file other : FileId) (at : ℕ) → Updates file_cmp old new file (Some at) → (file ≡ other → ⊥) → get file_cmp new other ≡ get file_cmp old other
other_stays old new file other at updates apart =
    updates.2 other (false_from_ne_true (is_eq (file_cmp file other))
    (λ same. apart (exact_pairs nat_cmp nat_cmp exact_unsigned exact_unsigned file other ((Equal-is (file_cmp file other)).0 same))))

first_stays : (identity : Option FileId) (at k : ℕ) (old new : Firsts) (file : FileId) → Remembers identity at old new → (identity ≡ Some file → ⊥) → get file_cmp old file ≡ Some k
    → get file_cmp new file ≡ Some k
first_stays None at k old new file is apart there = ap (λ (m : Firsts). get file_cmp m file) is ∙ there
first_stays (Some other) at k old new file is apart there = other_stays old new other file at is (λ same. apart (ap (λ (f : FileId). Some f) same)) ∙ there

first_comes : (identity : Option FileId) (at : ℕ) (old new : Firsts) (file : FileId) → Remembers identity at old new → identity ≡ Some file → get file_cmp new file ≡ Some at
first_comes None at old new file is named = absurd (none-some file named)
first_comes (Some other) at old new file is named =
    subst (λ (f : FileId). get file_cmp new f ≡ Some at) (same_Some other file named) is.1

not_new : (known : Known) (items : List Item) (identity : Option FileId) (file : FileId) → IfSome identity (λ f. IsMet known items f → ⊥) → IsMet known items file → identity ≡ Some file → ⊥
not_new known items identity file new met is = subst (λ (o : Option FileId). IfSome o (λ f. IsMet known items f → ⊥)) is new met

-- an item more, which is remembered if it is the first name of a file
firsts_more : (known : Known) (items : List Item) (path : String Global) (found : Found) (old new : Firsts) → FirstsFit known items old → LinksFit known items (string_bytes path) found
    → Remembers found.identity (length items) old new → FirstsFit known (items ++ item_of path found ∷ []) new
firsts_more known items path found old new fits is remembers k i file within at regular name =
    let added = item_of path found in
    ⊎_elim
    (λ before.
    let there : get_or items k i ≡ i = sym (get_or_append_left items (added ∷ []) i k before) ∙ at in
    first_stays found.identity (length items) k old new file remembers
    (λ same. not_new known items found.identity file is.new (i, (k, before, there), regular, name) same)
    (fits k i file before there regular name))
    (λ behind.
    let last : k ≡ length items = omega (arith, length-append items (added ∷ [])) in
    let same : added ≡ i = sym (get_or-append_seam items added [] i) ∙ ap (λ (n : ℕ). get_or (items ++ added ∷ []) n i) (sym last) ∙ at in
    first_comes found.identity (length items) old new file remembers
    (is.named (subst (λ (j : Item). IsRegular j.what) (sym same) regular) file (subst (λ (j : Item). IsNameOf known file (path_of j)) (sym same) name))
    ∙ ap (λ (n : ℕ). Some n) (sym last))
    (cases_lt k (length items))

linked_more : (known : Known) (items : List Item) (path : String Global) (found : Found) → AreLinked known items → LinksFit known items (string_bytes path) found
    → AreLinked known (items ++ item_of path found ∷ [])
linked_more known items path found linked is =
    all_pairs_push (λ (i j : Item). IsLinked known i (string_bytes j.path) j.what) items (item_of path found) linked
    (λ k d within. is.linked (get_or items k d) (Contains-get_or items k d within))

links_more : (known : Known) (items new : List Item) (path : String Global) (found : Found) (firsts later : Firsts) → WalkLinks known items firsts
    → LinksFit known items (string_bytes path) found → new ≡ items ++ item_of path found ∷ [] → Remembers found.identity (length items) firsts later → WalkLinks known new later
links_more known items new path found firsts later links is more remembers =
    subst (λ (l : List Item). WalkLinks known l later) (sym more) (record {
      linked = linked_more known items path found links.linked is;
      firsts_fit = firsts_more known items path found firsts later links.firsts_fit is remembers;
    })

-- the item was added, or memory ran out
pub links_go_on : {E : Type 0} (known : Known) (items new : List Item) (path : String Global) (found : Found) (firsts later : Firsts) (r : Result (Unit {0}) E) → WalkLinks known items firsts
    → LinksFit known items (string_bytes path) found → IfOk r (λ _. new ≡ items ++ item_of path found ∷ []) → IfOk r (λ _. Remembers found.identity (length items) firsts later)
    → IfOk r (λ _. WalkLinks known new later)
links_go_on known items new path found firsts later (Ok x) links is more remembers = links_more known items new path found firsts later links is more remembers
links_go_on known items new path found firsts later (Err e) links is more remembers = tt

pub links_stay : {E : Type 0} (known : Known) (items : List Item) (firsts : Firsts) (r : Result (Unit {0}) E) → WalkLinks known items firsts → IfOk r (λ _. WalkLinks known items firsts)
links_stay known items firsts (Ok x) links = links
links_stay known items firsts (Err e) links = tt

pub links_start : (known : Known) (items : List Item) (firsts : Firsts) → items ≡ [] → WalkLinks known items firsts
links_start known items firsts none =
    subst (λ (l : List Item). WalkLinks known l firsts) (sym none) (record {
      linked = λ i j d order within. absurd (omega arith);
      firsts_fit = λ k i file within at regular name. absurd (omega arith);
    })

-- ---- what is found

-- the host tells what it is known to tell
told_known : (known : Option Looked) (it told : Looked) → IfSome known (λ k. it ≡ k) → known ≡ Some told → it ≡ told
told_known known it told same is = subst (λ (o : Option Looked). IfSome o (λ k. it ≡ k)) is same

-- the first name of a file that is known is remembered
first_of : (known : Known) (items : List Item) (firsts : Firsts) (file : FileId) (i : Item) → FirstsFit known items firsts → Contains items i → IsRegular i.what
    → IsNameOf known file (path_of i) → IsFirst items firsts file i
first_of known items firsts file i fits here regular name = (here.0, here.1, here.2, fits here.0 i file here.1 here.2 regular name)

-- the item that a map of first names leads to
pub first_index : (firsts : Firsts) (identity file : FileId) (index k : ℕ) → Some index ≡ get file_cmp firsts identity → identity ≡ file → get file_cmp firsts file ≡ Some k → index ≡ k
first_index firsts identity file index k at same there = same_Some index k (at ∙ ap (λ (f : FileId). get file_cmp firsts f) same ∙ there)

-- no first name is remembered
pub unmet_none : {T : Type 0} (known : Known) (items : List Item) (firsts : Firsts) (it : Looked) (first : Option T) (text : T → List ℕ) → FirstsFit known items firsts → first ≡ None
    → ((i : Item) → HasOtherNames it → IsFirst items firsts (id_of it) i → IsRegular i.what → IsSomeAnd first (λ f. text f ≡ path_of i))
    → HasOtherNames it → IsMet known items (id_of it) → ⊥
unmet_none known items firsts it first text fits none every has met =
    subst (λ o. IsSomeAnd o (λ f. text f ≡ path_of met.0)) none (every met.0 has (first_of known items firsts (id_of it) met.0 fits met.1 met.2 met.3) met.2)

-- one is remembered, but the host is not known to tell the same file there
pub unmet_other : (known here : Known) (items : List Item) (firsts : Firsts) (it : Looked) (text : List ℕ) (one : Bool) → FirstsFit known items firsts → All ItemFits items
    → ((i : Item) → HasOtherNames it → IsFirst items firsts (id_of it) i → IsRegular i.what → text ≡ path_of i) → here ≡ known
    → (IsRooted text → IfSome (here.looked (inside text)) (λ told. AreOne told it → IsTrue one)) → one ≡ false → HasOtherNames it → IsMet known items (id_of it) → ⊥
unmet_other known here items firsts it text one fits fit every same asked other has met =
    let is : text ≡ path_of met.0 = every met.0 has (first_of known items firsts (id_of it) met.0 fits met.1 met.2 met.3) met.2 in
    let rooted : IsRooted text = subst IsRooted (sym is) (All-contains ItemFits items met.0 fit met.1).path in
    let name = met.3 in
    let there : here.looked (inside text) ≡ Some name.0 = ap (λ (k : Known). k.looked (inside text)) same ∙ ap (λ (l : List ℕ). known.looked (inside l)) is ∙ name.1 in
    let answer : AreOne name.0 it → IsTrue one = subst (λ (o : Option Looked). IfSome o (λ told. AreOne told it → IsTrue one)) there (asked rooted) in
    true≢false (sym (answer (sym (ap (λ (f : FileId). f.0) name.3), sym (ap (λ (f : FileId). f.1) name.3))) ∙ other)

-- an identity that no item has
identity_new : (known : Known) (items : List Item) (it : Looked) (identity : Option FileId) → IfSome identity (λ file. HasOtherNames it × (file ≡ id_of it))
    → (HasOtherNames it → IsMet known items (id_of it) → ⊥) → IfSome identity (λ file. IsMet known items file → ⊥)
identity_new known items it None only unmet = tt
identity_new known items it (Some file) only unmet = λ met. unmet only.0 (subst (IsMet known items) only.1 met)

-- what is found by its first name
pub first_links : (known : Known) (items : List Item) (path : List ℕ) (it : Looked) (r : Result Found Skip) → IfSome (known.looked (inside path)) (λ k. it ≡ k)
    → IfOk r (λ found. IsIdentity it found.identity) → (HasOtherNames it → IsMet known items (id_of it) → ⊥) → IfOk r (LinksFit known items path)
first_links known items path it (Err e) same is unmet = tt
first_links known items path it (Ok found) same is unmet =
    let told = λ (file : FileId) (name : IsNameOf known file path). told_known (known.looked (inside path)) it name.0 same name.1 in
    let others = λ (file : FileId) (name : IsNameOf known file path). subst HasOtherNames (sym (told file name)) name.2 in
    let its = λ (file : FileId) (name : IsNameOf known file path). name.3 ∙ ap id_of (sym (told file name)) in
    record {
      linked = λ i here regular file there name.
          absurd (unmet (others file name) (i, here, regular, subst (λ (f : FileId). IsNameOf known f (path_of i)) (its file name) there));
      named = λ regular file name. is.every (others file name) ∙ ap (λ (f : FileId). Some f) (sym (its file name));
      new = identity_new known items it found.identity is.only unmet;
    }

-- what is found by a further name
pub further_links : (known : Known) (items : List Item) (firsts : Firsts) (path : List ℕ) (it : Looked) (r : Result Found Skip) (first : String Global) (text : List ℕ) → FirstsFit known items firsts
    → IfSome (known.looked (inside path)) (λ k. it ≡ k) → ((i : Item) → HasOtherNames it → IsFirst items firsts (id_of it) i → IsRegular i.what → text ≡ path_of i)
    → string_bytes first ≡ text → IfOk r (λ found. found.what ≡ what.Link first) → IfOk r (λ found. found.identity ≡ None) → IfOk r (LinksFit known items path)
further_links known items firsts path it (Err e) first text fits same every is link none = tt
further_links known items firsts path it (Ok found) first text fits same every is link none = record {
  linked = λ i here regular file there name.
      let told = told_known (known.looked (inside path)) it name.0 same name.1 in
      let has = subst HasOtherNames (sym told) name.2 in
      let met = subst (λ (f : FileId). IsNameOf known f (path_of i)) (name.3 ∙ ap id_of (sym told)) there in
      subst (IsLinkTo (path_of i)) (sym link) (is ∙ every i has (first_of known items firsts (id_of it) i fits here regular met) regular);
  named = λ regular file name. absurd (subst IsRegular link regular);
  new = subst (λ (o : Option FileId). IfSome o (λ file. IsMet known items file → ⊥)) (sym none) tt;
}
