-- What is left has no fault where the base has none and each new node has a version of its own.
use Rattle.std.proofs.Common.{◌≡◌, ℕ, ◌*◌, ◌<◌, drop, take-append-drop, ◌≤◌, List, [], ◌∷◌, ◌++◌, length, map, take, refl, sym, ap, subst, ◌∙◌, arith, inl, inr, append_assoc}
use Rattle.std.specs.Prelude.{Contains}
use Rattle.std.proofs.lemmas.Bool.{cases_lt}
use Rattle.std.proofs.lemmas.List.{map-append, take-map}
use Rattle.std.proofs.lemmas.List.Elements.{Contains-append_cases, Contains-append_left, Contains-append_right, Contains-push}
use Rattle.jnode.specs.Writing.{canonical}
use Rattle.jnode.specs.declared.node.NodeRef.{NodeRef}
use Rattle.jnode.specs.declared.node.NodeRef.TheVariants.{Entry, Inode}
use Rattle.jnode.specs.declared.node.Seen.TheVariants as seen
use Rattle.jnode.specs.declared.order.Endian.{Endian}
use Rattle.jscan.specs.Image.{nodes}
use Rattle.jmount.specs.Clash.{NodesClash, NoneClash}
use Rattle.jmount.specs.Mounts.{IsSound, IsFaultAt, plain_nodes}
use Rattle.jmount.specs.declared.fault.MountFault.{MountFault}
use Rattle.jmount.specs.declared.fault.MountFault.TheVariants as fault
use Rattle.jscan.proofs.AddressLaws.{nodes_ascend}
use Rattle.jlog.specs.Places.{places}
use Rattle.jlog.specs.Output.{output}
use Rattle.jlog.specs.Left.{count_whole, intact}
use Rattle.jlog.specs.LeftLaws.{RefusesAs, IsLeftOf, placed, intact_of}
use Rattle.jlog.specs.MountLaws.{SoundNodesAreApart, GoesOnSoundly, IsSoundWith, LeftIsSound, WholeIsSound}
use Rattle.jlog.proofs.ImageLemmas.{block_size}
use Rattle.jlog.proofs.TellLemmas.{cons_cases}
use Rattle.jlog.proofs.IntactLemmas.{intact_is_counted, has_room}
use Rattle.jlog.proofs.HereLemmas.{Sure}
use Rattle.jlog.proofs.LeftLemmas.{none_weak_nodes, placed_are_new, sure_nodes, sure_refuses, stored, whole_nodes, whole_refuses}

-- ---- clashes go both ways, and no node clashes with itself

clash_back : (a b : NodeRef) → NodesClash a b → NodesClash b a
clash_back (Entry a) (Entry b) clash = record { directory = sym clash.directory; name = sym clash.name; version = sym clash.version; contents = λ same. clash.contents (sym same) }
clash_back (Inode a) (Inode b) clash = record { ino = sym clash.ino; version = sym clash.version; contents = λ same. clash.contents (sym same) }
clash_back (Entry a) (Inode b) clash = clash
clash_back (Inode a) (Entry b) clash = clash

no_clash_alone : (a : NodeRef) → NodesClash a a → ⊥
no_clash_alone (Entry a) clash = clash.contents refl
no_clash_alone (Inode a) clash = clash.contents refl

-- ---- nodes with their addresses

plain_has : (ns : List (ℕ × NodeRef)) (n : ℕ × NodeRef) → Contains ns n → Contains (map (λ m. m.1) ns) n.1
plain_has [] n has = absurd (omega (arith, has.1))
plain_has (m ∷ ns) n has = elim (cons_cases m ns n has) [
  | inl same ↦ subst (λ (x : NodeRef). Contains (m.1 ∷ map (λ m. m.1) ns) x) (ap (λ (p : ℕ × NodeRef). p.1) same) (Contains-append_left (m.1 ∷ []) (map (λ m. m.1) ns) m.1 (Contains-push [] m.1))
  | inr later ↦ Contains-append_right (m.1 ∷ []) (map (λ m. m.1) ns) n.1 (plain_has ns n later)
]

pub with_address : (ns : List (ℕ × NodeRef)) (x : NodeRef) → Contains (map (λ m. m.1) ns) x → (addr : ℕ) × Contains ns (addr, x)
with_address [] x has = absurd (omega (arith, has.1))
with_address (m ∷ ns) x has = elim (cons_cases m.1 (map (λ m. m.1) ns) x has) [
  | inl same ↦ (m.0, subst (λ (y : NodeRef). Contains (m ∷ ns) (m.0, y)) same (Contains-append_left (m ∷ []) ns m (Contains-push [] m)))
  | inr later ↦ let it = with_address ns x later in (it.0, Contains-append_right (m ∷ []) ns (it.0, x) it.1)
]

-- a list falls into what is before and after one of it
record Split {X : Type 0} (xs : List X) (x : X) : Type 0 where
  before : List X
  after : List X
  is : xs ≡ before ++ x ∷ after

split_at : {X : Type 0} (xs : List X) (x : X) → Contains xs x → Split xs x
split_at [] x has = absurd (omega (arith, has.1))
split_at {X} (y ∷ ys) x has = elim (cons_cases y ys x has) [
  | inl same ↦ record { before = []; after = ys; is = ap (λ (z : X). z ∷ ys) same }
  | inr later ↦ let it = split_at ys x later in record { before = y ∷ it.before; after = it.after; is = ap (λ (l : List X). y ∷ l) it.is }
]

-- two nodes that clash do not are at one address
same_address : (e : Endian) (size : ℕ) (image : List ℕ) (addr other : ℕ) (a b : NodeRef) → Contains (nodes e size image) (addr, a) → Contains (nodes e size image) (other, b)
    → addr ≡ other → NodesClash a b → ⊥
same_address e size image addr other a b has_a has_b same clash =
    let first = split_at (nodes e size image) (addr, a) has_a in
    elim (Contains-append_cases first.before ((addr, a) ∷ first.after) (other, b) (subst (λ (ns : List (ℕ × NodeRef)). Contains ns (other, b)) first.is has_b)) [
      | inl before ↦
          let second = split_at first.before (other, b) before in
          let is : nodes e size image ≡ second.before ++ (other, b) ∷ (second.after ++ (addr, a) ∷ first.after) =
          first.is ∙ (ap (λ (l : List (ℕ × NodeRef)). l ++ (addr, a) ∷ first.after) second.is ∙ append_assoc second.before ((other, b) ∷ second.after) ((addr, a) ∷ first.after)) in
          let there : Contains (second.after ++ (addr, a) ∷ first.after) (addr, a) =
          Contains-append_right second.after ((addr, a) ∷ first.after) (addr, a) (Contains-append_left ((addr, a) ∷ []) first.after (addr, a) (Contains-push [] (addr, a))) in
          let less : other < addr = nodes_ascend e size image second.before (second.after ++ (addr, a) ∷ first.after) (other, b) (addr, a) is there in
          omega (arith, less, same)
      | inr here_on ↦ elim (cons_cases (addr, a) first.after (other, b) here_on) [
        | inl one ↦ no_clash_alone a (subst (λ (n : NodeRef). NodesClash a n) (sym (ap (λ (n : ℕ × NodeRef). n.1) one)) clash)
        | inr behind ↦ let less : addr < other = nodes_ascend e size image first.before first.after (addr, a) (other, b) first.is behind in omega (arith, less, same)
      ]
    ]

pub sound_nodes_are_apart : SoundNodesAreApart
sound_nodes_are_apart e size image sound a b has_a has_b clash =
    let one = with_address (nodes e size image) a has_a in
    let two = with_address (nodes e size image) b has_b in
    elim (cases_lt one.0 two.0) [
      | inl below ↦ sound.1 two.0 (fault.Clash two.0) (refl, (b, one.0, a, two.1, one.1, below, clash_back a b clash))
      | inr not ↦ elim (cases_lt two.0 one.0) [
        | inl above ↦ sound.1 one.0 (fault.Clash one.0) (refl, (a, two.0, b, one.1, two.1, above, clash))
        | inr at ↦ same_address e size image one.0 two.0 a b one.1 two.1 (omega arith) clash
      ]
    ]

-- none of a beginning of these clash either
first_apart : (ns new : List NodeRef) (n : ℕ) → NoneClash (ns ++ new) → NoneClash (ns ++ take n new)
first_apart ns new n apart a b has_a has_b clash =
    let in_all : (x : NodeRef) → Contains (ns ++ take n new) x → Contains (ns ++ new) x = λ x has. elim (Contains-append_cases ns (take n new) x has) [
      | inl old ↦ Contains-append_left ns new x old
      | inr first ↦
          Contains-append_right ns new x
          (subst (λ (l : List NodeRef). Contains l x) (take-append-drop n new) (Contains-append_left (take n new) (drop n new) x first))
    ] in
    apart a b (in_all a has_a) (in_all b has_b) clash

-- ---- no fault

pub sound_from : (e : Endian) (size : ℕ) (base image : List ℕ) → IsSound e size base → RefusesAs e size base image → NoneClash (plain_nodes e size image)
    → length image ≤ 268435456 → IsSound e size image
sound_from e size base image sound refuses apart small = ((sound.0.0, small), none)
  where
    none : (at : ℕ) (f : MountFault) → IsFaultAt e size image at f → ⊥
    none at (fault.Incompatible addr nodetype) stands =
        sound.1 at (fault.Incompatible addr nodetype) (stands.0, refuses.each (addr, seen.Incompatible nodetype) refl stands.1)
    none at (fault.Compressed addr compr) stands =
        sound.1 at (fault.Compressed addr compr) (stands.0, refuses.each (addr, seen.Compressed compr) refl stands.1)
    none at (fault.Clash addr) (same, (node, below, other, there, under, less, clash)) =
        apart node other (plain_has (nodes e size image) (addr, node) there) (plain_has (nodes e size image) (below, other) under) clash
    none at fault.BlockSize stands = stands
    none at fault.TooLarge stands = stands
    none at fault.RootKind stands = stands
    none at fault.OutOfMemory stands = stands

plain_from : (e : Endian) (size : ℕ) (base image : List ℕ) (new : List (ℕ × NodeRef)) → nodes e size image ≡ nodes e size base ++ new
    → plain_nodes e size image ≡ plain_nodes e size base ++ map (λ n. n.1) new
plain_from e size base image new are = ap (map (λ n. n.1)) are ∙ map-append (λ n. n.1) (nodes e size base) new

-- those that are kept, without their addresses
intact_nodes : (e : Endian) (size block k : ℕ) (new : List NodeRef) → map (λ n. n.1) (intact_of e size block new k) ≡ take (intact size (block * size) k (map (canonical e) new)) new
intact_nodes e size block k new =
    let n : ℕ = intact size (block * size) k (map (canonical e) new) in
    sym (take-map (λ n. n.1) n (placed e size (block * size) new)) ∙ ap (take n) (placed_are_new e size (block * size) new).nodes

-- where none of the first nodes is cut, and none of the others is weak
pub sure_is_sound : (e : Endian) (size blocks block k : ℕ) (base image : List ℕ) (new : List NodeRef) → GoesOnSoundly e size blocks base block new → Sure e size (block * size) k (map (canonical e) new)
    → IsLeftOf e size blocks base block new k image
    → let bytes = map (canonical e) new in
    let out = output e size (block * size) bytes in
    IsSoundWith e size image (plain_nodes e size base ++ take (count_whole (block * size) out k (places size (block * size) bytes)) new)
sure_is_sound e size blocks block k base image new on sure left =
    let bytes : List (List ℕ) = map (canonical e) new in
    let from : ℕ = block * size in
    let out : List ℕ = output e size from bytes in
    let n : ℕ = count_whole from out k (places size from bytes) in
    let count : n ≡ intact size from k bytes = intact_is_counted e size from k bytes (block_size size on.logged.size_is).words (has_room e size new on.logged.nodes) in
    let are : plain_nodes e size image ≡ plain_nodes e size base ++ take n new =
    plain_from e size base image (intact_of e size block new k) (sure_nodes e size blocks block k base image new (stored e size blocks base block new on.logged) sure left)
    ∙ (ap (λ (ns : List NodeRef). plain_nodes e size base ++ ns) (intact_nodes e size block k new) ∙ ap (λ (i : ℕ). plain_nodes e size base ++ take i new) (sym count)) in
    record {
      sound = sound_from e size base image on.sound (sure_refuses e size blocks block k base image new (stored e size blocks base block new on.logged) sure left)
          (subst NoneClash (sym are) (first_apart (plain_nodes e size base) new n on.apart)) (omega (arith, left.no_longer, on.small));
      nodes = are;
    }

pub left_is_sound : LeftIsSound
left_is_sound e size blocks block k base image new on none left =
    sure_is_sound e size blocks block k base image new on (none_weak_nodes e size (block * size) k new on.logged.size_is on.logged.nodes none) left

pub whole_is_sound : WholeIsSound
whole_is_sound e size blocks block k base image new on all left =
    let are : plain_nodes e size image ≡ plain_nodes e size base ++ new =
    plain_from e size base image (placed e size (block * size) new) (whole_nodes e size blocks block k base image new (stored e size blocks base block new on.logged) all left)
    ∙ ap (λ (ns : List NodeRef). plain_nodes e size base ++ ns) (placed_are_new e size (block * size) new).nodes in
    record {
      sound = sound_from e size base image on.sound (whole_refuses e size blocks block k base image new (stored e size blocks base block new on.logged) all left)
          (subst NoneClash (sym are) on.apart) (omega (arith, left.no_longer, on.small));
      nodes = are;
    }
