-- Nodes by version, and where they stand.
use Rattle.std.proofs.Common.{◌≡◌, ℕ, slice_index_or, Bool, false, ◌+◌, ◌<◌, List, [], ◌∷◌, ◌++◌, suc, length, take, get_or, Option, Some, None, refl, ap, sym, subst, ◌∙◌, ⊎_elim, inl, inr, arith}
use Rattle.std.specs.Prelude.{if◌then◌else◌, ◌==◌, ◌⊎◌, Contains}
use Rattle.std.specs.Cmp.{unsigned_tied}
use Rattle.std.specs.Ordering.{nat_cmp}
use Rattle.std.specs.BTreeMap.{BTreeMap, Updates, get}
use Rattle.std.proofs.lemmas.Bool.{eq-eqb, eqb-true}
use Rattle.std.proofs.lemmas.List.{length-take-le, take_more}
use Rattle.std.proofs.lemmas.List.Elements.{Contains-push_cases, Contains-get_or}
use Rattle.std.proofs.lemmas.Map.Lookups.{exact_unsigned}
use Rattle.std.proofs.lemmas.Map.Views.{Contains-from_lookup, tells_apart}
use Rattle.jnode.specs.declared.node.InodeNode.{InodeNode}
use Rattle.jname.proofs.ContentsByNameLemmas.{by_test}
use Rattle.flashbase.proofs.MemberLemmas.{Contains-none, Contains-here, Contains-there, Contains-map_from}
use Rattle.jmount.specs.ByVersion.{by_version, node_of_version, last_place_from, place_of_version}
use Rattle.jmount.proofs.NumbersLemmas.{eqb_symm}

unfoldable pub choose : Bool → InodeNode → Option InodeNode → Option InodeNode
choose b node rest = if b then Some node else rest

-- ---- the node of a version

pub node_of_first : (node : InodeNode) (nodes : List InodeNode) (v : ℕ) → node_of_version (node ∷ nodes) v ≡ choose (v == node.version) node (node_of_version nodes v)
unfolding choose
node_of_first node nodes v = ap (λ (b : Bool). choose b node (node_of_version nodes v)) (unsigned_tied v node.version)

pub node_at : (nodes : List InodeNode) (v : ℕ) (node : InodeNode) → node_of_version nodes v ≡ Some node → Contains nodes node × (node.version ≡ v)
node_at nodes v node h =
    let at : Contains (by_version nodes) (v, node) = Contains-from_lookup (tells_apart exact_unsigned) v node (by_version nodes) h in
    let from = Contains-map_from (λ (n : InodeNode). (n.version, n)) nodes (v, node) at in
    let is : from.0 ≡ node = ap (λ (e : ℕ × InodeNode). e.1) from.2 in
    (subst (Contains nodes) is from.1, ap (λ (n : InodeNode). n.version) (sym is) ∙ ap (λ (e : ℕ × InodeNode). e.0) from.2)

-- one whose version no other has
pub node_of_pushed : (nodes : List InodeNode) (node : InodeNode) (v : ℕ) → node_of_version nodes node.version ≡ None
    → node_of_version (nodes ++ node ∷ []) v ≡ choose (node.version == v) node (node_of_version nodes v)
unfolding choose
node_of_pushed [] node v none = node_of_first node [] v ∙ ap (λ (b : Bool). choose b node None) (eqb_symm v node.version)
node_of_pushed (first ∷ nodes) node v none =
    by_test (node.version == first.version)
    (λ e.
    let no : Some first ≡ None = sym (node_of_first first nodes node.version ∙ ap (λ (b : Bool). choose b first (node_of_version nodes node.version)) e) ∙ none in cc)
    (λ e.
    let rest : node_of_version nodes node.version ≡ None = sym (node_of_first first nodes node.version ∙ ap (λ (b : Bool). choose b first (node_of_version nodes node.version)) e) ∙ none in
    let later = node_of_pushed nodes node v rest in
    node_of_first first (nodes ++ node ∷ []) v
    ∙ by_test (v == first.version)
    (λ f.
    let other : (node.version == v) ≡ false = ap (λ (n : ℕ). node.version == n) (eqb-true v first.version f) ∙ e in
    ap (λ (b : Bool). choose b first (node_of_version (nodes ++ node ∷ []) v)) f
    ∙ sym (ap (λ (b : Bool). choose b node (node_of_version (first ∷ nodes) v)) other ∙ node_of_first first nodes v ∙ ap (λ (b : Bool). choose b first (node_of_version nodes v)) f))
    (λ f.
    ap (λ (b : Bool). choose b first (node_of_version (nodes ++ node ∷ []) v)) f ∙ later
    ∙ ap (choose (node.version == v) node) (sym (node_of_first first nodes v ∙ ap (λ (b : Bool). choose b first (node_of_version nodes v)) f))))

-- each of these is the only one of its version
abbrev pub AreApart : List InodeNode → Type 0
AreApart nodes = (node : InodeNode) → Contains nodes node → node_of_version nodes node.version ≡ Some node

pub none_is_apart : AreApart []
none_is_apart node h = absurd (Contains-none node h)

pub pushed_are_apart : (nodes : List InodeNode) (node : InodeNode) → node_of_version nodes node.version ≡ None → AreApart nodes → AreApart (nodes ++ node ∷ [])
unfolding choose
pushed_are_apart nodes node none apart x h =
    node_of_pushed nodes node x.version none
    ∙ ⊎_elim
    (λ (was : Contains nodes x).
    let there = apart x was in
    by_test (node.version == x.version)
    (λ e. let no : None ≡ Some x = sym none ∙ ap (node_of_version nodes) (eqb-true node.version x.version e) ∙ there in cc)
    (λ e. ap (λ (b : Bool). choose b node (node_of_version nodes x.version)) e ∙ there))
    (λ (is : node ≡ x).
    ap (λ (b : Bool). choose b node (node_of_version nodes x.version)) (eq-eqb node.version x.version (ap (λ (n : InodeNode). n.version) is)) ∙ ap Some is)
    (Contains-push_cases nodes node x h)

-- ---- the place of a version

pub place_of_pushed : (place v : ℕ) (found : Option ℕ) (nodes : List InodeNode) (node : InodeNode)
    → last_place_from place v found (nodes ++ node ∷ []) ≡ (if node.version == v then Some (place + length nodes) else last_place_from place v found nodes)
place_of_pushed place v found [] node = ap (λ (n : ℕ). if node.version == v then Some n else found) (omega arith)
place_of_pushed place v found (first ∷ nodes) node =
    place_of_pushed (suc place) v (if first.version == v then Some place else found) nodes node
    ∙ ap (λ (n : ℕ). if node.version == v then Some n else last_place_from (suc place) v (if first.version == v then Some place else found) nodes) (omega arith)

some_place : (place v at : ℕ) (nodes : List InodeNode) → last_place_from place v (Some at) nodes ≡ None → ⊥
some_place place v at [] h = let no : Some at ≡ None = h in cc
some_place place v at (node ∷ nodes) h =
    by_test (node.version == v)
    (λ e. some_place (suc place) v place nodes (sym (ap (λ (b : Bool). last_place_from (suc place) v (if b then Some place else Some at) nodes) e) ∙ h))
    (λ e. some_place (suc place) v at nodes (sym (ap (λ (b : Bool). last_place_from (suc place) v (if b then Some place else Some at) nodes) e) ∙ h))

-- a version that has no place has no node
pub no_place : (place v : ℕ) (nodes : List InodeNode) → last_place_from place v None nodes ≡ None → node_of_version nodes v ≡ None
unfolding choose
no_place place v [] h = refl
no_place place v (node ∷ nodes) h =
    by_test (node.version == v)
    (λ e. absurd (some_place (suc place) v place nodes (sym (ap (λ (b : Bool). last_place_from (suc place) v (if b then Some place else None) nodes) e) ∙ h)))
    (λ e.
    node_of_first node nodes v ∙ ap (λ (b : Bool). choose b node (node_of_version nodes v)) (eqb_symm v node.version ∙ e)
    ∙ no_place (suc place) v nodes (sym (ap (λ (b : Bool). last_place_from (suc place) v (if b then Some place else None) nodes) e) ∙ h))

-- a node of the version stands at this place, the first of these at another
abbrev pub StandsAt : ℕ → ℕ → List InodeNode → ℕ → Type 0
StandsAt place v nodes at = (i : ℕ) × (at ≡ place + i) × (i < length nodes) × ((d : InodeNode) → (get_or nodes i d).version ≡ v)

place_is : (place v : ℕ) (found : Option ℕ) (nodes : List InodeNode) (at : ℕ) → last_place_from place v found nodes ≡ Some at → (found ≡ Some at) ⊎ StandsAt place v nodes at
place_is place v found [] at h = inl h
place_is place v found (node ∷ nodes) at h =
    ⊎_elim
    (λ (is : (if node.version == v then Some place else found) ≡ Some at).
    by_test (node.version == v)
    (λ e.
    let here : Some place ≡ Some at = sym (ap (λ (b : Bool). if b then Some place else found) e) ∙ is in
    inr (0, (let same : place ≡ at = cc in omega arith), omega arith, λ d. eqb-true node.version v e))
    (λ e. inl (sym (ap (λ (b : Bool). if b then Some place else found) e) ∙ is)))
    (λ (later : StandsAt (suc place) v nodes at). inr (suc later.0, (let at_is = later.1 in omega arith), (let within = later.2 in omega arith), λ d. later.3 d))
    (place_is (suc place) v (if node.version == v then Some place else found) nodes at h)

pub place_holds : (nodes : List InodeNode) (v at : ℕ) → place_of_version nodes v ≡ Some at → (at < length nodes) × ((d : InodeNode) → (get_or nodes at d).version ≡ v)
place_holds nodes v at h =
    ⊎_elim
    (λ (no : None ≡ Some at). cc)
    (λ (is : StandsAt 0 v nodes at).
    let same : is.0 ≡ at = (let at_is = is.1 in omega arith) in
    (subst (λ (n : ℕ). n < length nodes) same is.2, λ d. subst (λ (n : ℕ). (get_or nodes n d).version ≡ v) same (is.3 d)))
    (place_is 0 v None nodes at h)

-- the node that stands there
pub node_of_place : (nodes : List InodeNode) (v at : ℕ) (d : InodeNode) → AreApart nodes → place_of_version nodes v ≡ Some at → node_of_version nodes v ≡ Some (get_or nodes at d)
node_of_place nodes v at d apart h =
    let holds = place_holds nodes v at h in
    sym (ap (node_of_version nodes) (holds.1 d)) ∙ apart (get_or nodes at d) (Contains-get_or nodes at d holds.0)

-- one more place
pub place_more : (nodes : List InodeNode) (old new : BTreeMap ℕ ℕ) (listed : ℕ) (node : InodeNode) → listed < length nodes → node ≡ get_or nodes listed node
    → ((v : ℕ) → get nat_cmp old v ≡ place_of_version (take listed nodes) v) → Updates nat_cmp old new node.version (Some listed)
    → (v : ℕ) → get nat_cmp new v ≡ place_of_version (take (listed + 1) nodes) v
place_more nodes old new listed node less there before updates v =
    let long : length (take listed nodes) ≡ listed = length-take-le listed nodes (omega arith) in
    let more : take (listed + 1) nodes ≡ take listed nodes ++ node ∷ [] =
    take_more nodes listed node less ∙ ap (λ (n : InodeNode). take listed nodes ++ n ∷ []) (sym there) in
    updates.0 v
    ∙ ap (λ (b : Bool). if b then Some listed else get nat_cmp old v) (unsigned_tied node.version v)
    ∙ ap (λ (o : Option ℕ). if node.version == v then Some listed else o) (before v)
    ∙ ap (λ (n : ℕ). if node.version == v then Some n else place_of_version (take listed nodes) v) (omega (arith, long))
    ∙ sym (place_of_pushed 0 v None (take listed nodes) node)
    ∙ ap (λ (ns : List InodeNode). place_of_version ns v) (sym more)

-- ---- what a node's version answers, as it is looked up

pub found_at : (nodes now : List InodeNode) (v : ℕ) (found : Option ℕ) (place : ℕ) (node : InodeNode) → AreApart nodes → now ≡ nodes → found ≡ place_of_version nodes v
    → found ≡ Some place → node ≡ slice_index_or now place node → node_of_version nodes v ≡ Some node
found_at nodes now v found place node apart same is there at =
    node_of_place nodes v place node apart (sym is ∙ there) ∙ ap Some (sym (at ∙ ap (λ (ns : List InodeNode). slice_index_or ns place node) same))

pub within_found : (nodes now : List InodeNode) (v : ℕ) (found : Option ℕ) (place : ℕ) → now ≡ nodes → found ≡ place_of_version nodes v → found ≡ Some place → place < length now
within_found nodes now v found place same is there = subst (λ (ns : List InodeNode). place < length ns) (sym same) (place_holds nodes v place (sym is ∙ there)).0

pub not_found : (nodes now : List InodeNode) (v : ℕ) (found : Option ℕ) → now ≡ nodes → found ≡ place_of_version nodes v → found ≡ None → node_of_version now v ≡ None
not_found nodes now v found same is none = ap (λ (ns : List InodeNode). node_of_version ns v) same ∙ no_place 0 v nodes (sym is ∙ none)

-- the same node is no change
pub same_node_more : (nodes now : List InodeNode) (there node : InodeNode) → now ≡ nodes → node_of_version nodes node.version ≡ Some there → there ≡ node
    → (v : ℕ) → node_of_version now v ≡ (if node.version == v then Some node else node_of_version nodes v)
same_node_more nodes now there node same at is v =
    ap (λ (ns : List InodeNode). node_of_version ns v) same
    ∙ by_test (node.version == v)
    (λ e. ap (node_of_version nodes) (sym (eqb-true node.version v e)) ∙ at ∙ ap Some is ∙ sym (ap (λ (b : Bool). if b then Some node else node_of_version nodes v) e))
    (λ e. sym (ap (λ (b : Bool). if b then Some node else node_of_version nodes v) e))

pub pushed_more : (nodes now new : List InodeNode) (node : InodeNode) → now ≡ nodes → node_of_version now node.version ≡ None → new ≡ now ++ node ∷ []
    → (v : ℕ) → node_of_version new v ≡ (if node.version == v then Some node else node_of_version nodes v)
unfolding choose
pushed_more nodes now new node same none is v =
    ap (λ (ns : List InodeNode). node_of_version ns v) is ∙ node_of_pushed now node v none
    ∙ ap (λ (ns : List InodeNode). if node.version == v then Some node else node_of_version ns v) same

pub Contains-pushed : (nodes now new : List InodeNode) (node : InodeNode) → now ≡ nodes → new ≡ now ++ node ∷ [] → (x : InodeNode) → Contains new x → Contains (node ∷ nodes) x
Contains-pushed nodes now new node same is x h =
    ⊎_elim
    (λ (was : Contains nodes x). Contains-there node nodes x was)
    (λ (here : node ≡ x). subst (Contains (node ∷ nodes)) here (Contains-here node nodes))
    (Contains-push_cases nodes node x (subst (λ (ns : List InodeNode). Contains ns x) (is ∙ ap (λ (ns : List InodeNode). ns ++ node ∷ []) same) h))

pub Contains-same : (nodes now : List InodeNode) (node : InodeNode) → now ≡ nodes → (x : InodeNode) → Contains now x → Contains (node ∷ nodes) x
Contains-same nodes now node same x h = Contains-there node nodes x (subst (λ (ns : List InodeNode). Contains ns x) same h)
