-- The list of nodes that are stored, and what one more changes.
use Rattle.std.proofs.Common.{◌≡◌, ℕ, Bool, true, false, ◌&&◌, List, [], map, Option, Some, None, refl, ap, sym, ◌∙◌, subst, ⊎_elim, inl, inr}
use Rattle.std.specs.Prelude.{◌⊎◌, Contains, if◌then◌else◌, ◌==◌}
use Rattle.std.specs.List.{flat_map}
use Rattle.std.specs.Option.{option_and_then}
use Rattle.std.specs.Ordering.{nat_cmp}
use Rattle.std.specs.BTreeMap.{Updates, get, IsOrdered}
use Rattle.std.specs.Cmp.{unsigned_tied}
use Rattle.std.proofs.lemmas.Bool.{eq-eqb, eqb-true}
use Rattle.std.proofs.lemmas.List.Folds.{flat_map-map}
use Rattle.std.proofs.lemmas.Map.Lookups.{exact_unsigned}
use Rattle.std.proofs.lemmas.Map.Views.{Contains-from_lookup, tells_apart}
use Rattle.std.proofs.lemmas.Option.{same_Some}
use Rattle.jnode.specs.declared.node.InodeNode.{InodeNode}
use Rattle.jname.proofs.ContentsByNameLemmas.{by_test}
use Rattle.jname.proofs.EntriesLemmas.{nat_found}
use Rattle.flashbase.proofs.MemberLemmas.{Contains-flat_map, Contains-flat_map_from}
use Rattle.jmount.specs.declared.versions.Versions.{Versions}
use Rattle.jmount.specs.Clash.{SomeInodeClashesWith, NoInodeClashesWith}
use Rattle.jmount.specs.Inodes.{GainsInode, InodeAgrees, InodeDiffers, inode_of_version, NodesByNumber, inode_at, IsKeyed, nodes_in, nodes_of_numbers}
use Rattle.jmount.proofs.NewestLemmas.{version_found, version_from}

-- ---- the list

-- the nodes of a number and its versions
abbrev nodes_at : ℕ × Versions → List InodeNode
nodes_at e = nodes_in e.1

-- what a step gives comes from a value
pub and_then_from : {A B : Type 0} (f : A → Option B) (o : Option A) (b : B) → option_and_then f o ≡ Some b → (a : A) × (o ≡ Some a) × (f a ≡ Some b)
and_then_from f None b h = let no : None ≡ Some b = h in cc
and_then_from f (Some a) b h = (a, refl, h)

pub nodes_of_numbers-none : (numbers : NodesByNumber) → numbers.entries ≡ [] → nodes_of_numbers numbers ≡ []
unfolding nodes_of_numbers
nodes_of_numbers-none numbers e = ap (λ (es : List (ℕ × Versions)). flat_map nodes_at es) e

pub nodes_of_numbers-same : (old new : NodesByNumber) → map nodes_at new.entries ≡ map nodes_at old.entries → nodes_of_numbers new ≡ nodes_of_numbers old
unfolding nodes_of_numbers
nodes_of_numbers-same old new same =
    sym (flat_map-map (λ (ns : List InodeNode). ns) nodes_at new.entries)
    ∙ ap (λ (ss : List (List InodeNode)). flat_map (λ (ns : List InodeNode). ns) ss) same
    ∙ flat_map-map (λ (ns : List InodeNode). ns) nodes_at old.entries

pub nodes_of_numbers-unchanged : (old new : NodesByNumber) → new.entries ≡ old.entries → nodes_of_numbers new ≡ nodes_of_numbers old
nodes_of_numbers-unchanged old new same = nodes_of_numbers-same old new (ap (λ (es : List (ℕ × Versions)). map nodes_at es) same)

-- a node that is stored is in the list
pub Contains-from_inode_at : (numbers : NodesByNumber) (i v : ℕ) (node : InodeNode) → inode_at numbers i v ≡ Some node → Contains (nodes_of_numbers numbers) node
unfolding nodes_of_numbers
Contains-from_inode_at numbers i v node h =
    let vs = and_then_from (λ (vs : Versions). inode_of_version vs v) (get nat_cmp numbers i) node h in
    let at_number : Contains numbers.entries (i, vs.0) = Contains-from_lookup (tells_apart exact_unsigned) i vs.0 numbers.entries vs.1 in
    Contains-flat_map nodes_at numbers.entries (i, vs.0) node at_number (version_from vs.0 v node vs.2).0

-- and a node of the list is stored, for its own number and version
pub inode_at-from_Contains : (numbers : NodesByNumber) → IsOrdered nat_cmp numbers → IsKeyed numbers → (node : InodeNode) → Contains (nodes_of_numbers numbers) node → inode_at numbers node.ino node.version ≡ Some node
unfolding nodes_of_numbers
inode_at-from_Contains numbers ordered keyed node h =
    let a = Contains-flat_map_from nodes_at numbers.entries node h in
    let number : get nat_cmp numbers a.0.0 ≡ Some a.0.1 = nat_found numbers.entries a.0.0 a.0.1 ordered a.1 in
    let there : inode_at numbers a.0.0 node.version ≡ Some node =
    ap (λ (o : Option Versions). option_and_then (λ vs. inode_of_version vs node.version) o) number ∙ version_found a.0.1 node a.2 in
    ap (λ (i : ℕ). inode_at numbers i node.version) (keyed a.0.0 node.version node there).0 ∙ there

-- ---- one node more

-- one node more is stored
abbrev pub HoldsOneMore : NodesByNumber → NodesByNumber → InodeNode → Type 0
HoldsOneMore old new node = (i v : ℕ) → inode_at new i v ≡ (if node.ino == i && node.version == v then Some node else inode_at old i v)

both_true : (b c : Bool) → (b && c) ≡ true → (b ≡ true) × (c ≡ true)
both_true true c e = (refl, e)
both_true false c e = let no : false ≡ true = e in cc

same_key : (node : InodeNode) (i v : ℕ) → (node.ino == i && node.version == v) ≡ true → (node.ino ≡ i) × (node.version ≡ v)
same_key node i v e =
    let both = both_true (node.ino == i) (node.version == v) e in
    (eqb-true node.ino i both.0, eqb-true node.version v both.1)

own_key : (node : InodeNode) → (node.ino == node.ino && node.version == node.version) ≡ true
own_key node = ap (λ (b : Bool). b && node.version == node.version) (eq-eqb node.ino node.ino refl) ∙ eq-eqb node.version node.version refl

inode_at_same : (numbers : NodesByNumber) (a b c d : ℕ) → a ≡ b → c ≡ d → inode_at numbers a c ≡ inode_at numbers b d
inode_at_same numbers a b c d p q = λ i. inode_at numbers (p i) (q i)

-- the node or what was there
one_of : (old : Option InodeNode) (node x : InodeNode) (b : Bool) → (if b then Some node else old) ≡ Some x → ((b ≡ true) × (node ≡ x)) ⊎ (old ≡ Some x)
one_of old node x true h = inl (refl, same_Some node x h)
one_of old node x false h = inr h

pub keyed_with_one_more : (old new : NodesByNumber) (node : InodeNode) → HoldsOneMore old new node → IsKeyed old → IsKeyed new
keyed_with_one_more old new node more keyed i v x h =
    ⊎_elim
    (λ (here : ((node.ino == i && node.version == v) ≡ true) × (node ≡ x)).
    let key = same_key node i v here.0 in (ap (λ (y : InodeNode). y.ino) (sym here.1) ∙ key.0, ap (λ (y : InodeNode). y.version) (sym here.1) ∙ key.1))
    (λ (before : inode_at old i v ≡ Some x). keyed i v x before)
    (one_of (inode_at old i v) node x (node.ino == i && node.version == v) (sym (more i v) ∙ h))

pub keyed_the_same : (old new : NodesByNumber) → ((i v : ℕ) → inode_at new i v ≡ inode_at old i v) → IsKeyed old → IsKeyed new
keyed_the_same old new same keyed i v x h = keyed i v x (sym (same i v) ∙ h)

-- no other node is stored: what is stored is this one
agreed : (o : Option InodeNode) (there node : InodeNode) → InodeAgrees o node → o ≡ Some there → there ≡ node
agreed None there node h e = let no : None ≡ Some there = e in cc
agreed (Some x) there node h e = sym (same_Some x there e) ∙ h

still_there : (old : NodesByNumber) (node x : InodeNode) (b : Bool) → (node.ino == x.ino && node.version == x.version) ≡ b → InodeAgrees (inode_at old node.ino node.version) node → inode_at old x.ino x.version ≡ Some x
    → (if b then Some node else inode_at old x.ino x.version) ≡ Some x
still_there old node x true e agrees h =
    let key = same_key node x.ino x.version e in
    ap Some (sym (agreed (inode_at old node.ino node.version) x node agrees (inode_at_same old node.ino x.ino node.version x.version key.0 key.1 ∙ h)))
still_there old node x false e agrees h = h

pub gains_one : (old new : NodesByNumber) → IsOrdered nat_cmp old → IsOrdered nat_cmp new → IsKeyed old → (node : InodeNode) → HoldsOneMore old new node
    → InodeAgrees (inode_at old node.ino node.version) node → GainsInode (nodes_of_numbers old) (nodes_of_numbers new) node
gains_one old new old_ordered new_ordered keyed node more agrees x = (
  λ h.
      ⊎_elim
      (λ (here : ((node.ino == x.ino && node.version == x.version) ≡ true) × (node ≡ x)). inr (sym here.1))
      (λ (before : inode_at old x.ino x.version ≡ Some x). inl (Contains-from_inode_at old x.ino x.version x before))
      (one_of (inode_at old x.ino x.version) node x (node.ino == x.ino && node.version == x.version)
      (sym (more x.ino x.version) ∙ inode_at-from_Contains new new_ordered (keyed_with_one_more old new node more keyed) x h)),
  λ h. Contains-from_inode_at new x.ino x.version x (more x.ino x.version ∙ ⊎_elim
      (λ before. still_there old node x (node.ino == x.ino && node.version == x.version) refl agrees (inode_at-from_Contains old old_ordered keyed x before))
      (λ (is : x ≡ node). subst (λ (y : InodeNode). (if node.ino == y.ino && node.version == y.version then Some node else inode_at old y.ino y.version) ≡ Some y) (sym is)
      (ap (λ (b : Bool). if b then Some node else inode_at old node.ino node.version) (own_key node)))
      h),
)

-- a number that had none has one node
pub first_of_number : (old mid new : NodesByNumber) (one : Versions) (node : InodeNode) → mid ≡ old → get nat_cmp old node.ino ≡ None → Updates nat_cmp mid new node.ino (Some one)
    → ((v : ℕ) → inode_of_version one v ≡ (if node.version == v then Some node else None)) → HoldsOneMore old new node
first_of_number old mid new one node same none updates is i v =
    let there : get nat_cmp new i ≡ (if node.ino == i then Some one else get nat_cmp old i) =
    updates.0 i ∙ ap (λ (b : Bool). if b then Some one else get nat_cmp mid i) (unsigned_tied node.ino i) ∙ ap (λ (m : NodesByNumber). if node.ino == i then Some one else get nat_cmp m i) same in
    ap (option_and_then (λ (vs : Versions). inode_of_version vs v)) there
    ∙ by_test (node.ino == i)
    (λ e.
    let here : get nat_cmp old i ≡ None = ap (get nat_cmp old) (sym (eqb-true node.ino i e)) ∙ none in
    ap (λ (b : Bool). option_and_then (λ (vs : Versions). inode_of_version vs v) (if b then Some one else get nat_cmp old i)) e
    ∙ is v
    ∙ ap (λ (o : Option Versions). if node.version == v then Some node else option_and_then (λ (vs : Versions). inode_of_version vs v) o) (sym here)
    ∙ sym (ap (λ (b : Bool). if b && node.version == v then Some node else inode_at old i v) e))
    (λ e.
    ap (λ (b : Bool). option_and_then (λ (vs : Versions). inode_of_version vs v) (if b then Some one else get nat_cmp old i)) e
    ∙ sym (ap (λ (b : Bool). if b && node.version == v then Some node else inode_at old i v) e))

-- other versions that answer the same
pub same_of_number : (old new : NodesByNumber) (k : ℕ) (before after : Versions) → get nat_cmp old k ≡ Some before → Updates nat_cmp old new k (Some after)
    → ((v : ℕ) → inode_of_version after v ≡ inode_of_version before v) → (i v : ℕ) → inode_at new i v ≡ inode_at old i v
same_of_number old new k before after there updates same i v =
    let found : get nat_cmp new i ≡ (if k == i then Some after else get nat_cmp old i) = updates.0 i ∙ ap (λ (b : Bool). if b then Some after else get nat_cmp old i) (unsigned_tied k i) in
    ap (option_and_then (λ (vs : Versions). inode_of_version vs v)) found
    ∙ by_test (k == i)
    (λ e.
    ap (λ (b : Bool). option_and_then (λ (vs : Versions). inode_of_version vs v) (if b then Some after else get nat_cmp old i)) e
    ∙ same v
    ∙ ap (option_and_then (λ (vs : Versions). inode_of_version vs v)) (sym there ∙ ap (get nat_cmp old) (eqb-true k i e)))
    (λ e. ap (λ (b : Bool). option_and_then (λ (vs : Versions). inode_of_version vs v) (if b then Some after else get nat_cmp old i)) e)

-- ---- clashes

pub none_clashes : (old : NodesByNumber) → IsOrdered nat_cmp old → IsKeyed old → (node : InodeNode) → InodeAgrees (inode_at old node.ino node.version) node → NoInodeClashesWith (nodes_of_numbers old) node
none_clashes old ordered keyed node agrees other there clash =
    clash.contents (agreed (inode_at old node.ino node.version) other node agrees
    (inode_at_same old node.ino other.ino node.version other.version (sym clash.ino) (sym clash.version) ∙ inode_at-from_Contains old ordered keyed other there))

differing : (old : NodesByNumber) → IsKeyed old → (node : InodeNode) (o : Option InodeNode) → inode_at old node.ino node.version ≡ o → InodeDiffers o node → SomeInodeClashesWith (nodes_of_numbers old) node
differing old keyed node None e h = absurd h
differing old keyed node (Some other) e h =
    let key = keyed node.ino node.version other e in
    (other, Contains-from_inode_at old node.ino node.version other e, record { ino = key.0; version = key.1; contents = h })

pub some_clashes : (old : NodesByNumber) → IsKeyed old → (node : InodeNode) → InodeDiffers (inode_at old node.ino node.version) node → SomeInodeClashesWith (nodes_of_numbers old) node
some_clashes old keyed node h = differing old keyed node (inode_at old node.ino node.version) refl h
