-- What is reported of an image gives its nodes, and what refuses it.
use Rattle.std.proofs.Common.{◌≡◌, ℕ, Bool, true, false, List, [], ◌∷◌, ◌++◌, map, refl, sym, ap, ap₂, subst, ◌∙◌, arith, inl, inr, Option, None, Some}
use Rattle.std.specs.Prelude.{◌⊎◌, filter, filter_map, Contains, ◌||◌}
use Rattle.std.specs.List.{list_any, cons_option}
use Rattle.std.specs.Option.{is_some, option_or}
use Rattle.std.proofs.lemmas.Bool.{cases_Bool, true≢false, false≢true}
use Rattle.std.proofs.lemmas.List.Elements.{filter_map-append, Contains-append_cases, Contains-append_left, Contains-append_right, Contains-push_cases, Contains-push}
use Rattle.std.proofs.lemmas.List.Folds.{list_any-append}
use Rattle.jnode.specs.declared.node.NodeRef.{NodeRef}
use Rattle.jnode.specs.declared.node.NodeRef.TheVariants as node
use Rattle.jnode.specs.declared.node.Seen.{Seen}
use Rattle.jnode.specs.declared.node.Seen.TheVariants as seen
use Rattle.jnode.specs.declared.order.Endian.{Endian}
use Rattle.jscan.specs.Image.{sightings, nodes, node_sighted}
use Rattle.jscan.specs.Scans.{refusal_by, refusal_among, first_refused, forbids_writing, is_read_only}
use Rattle.jscan.specs.declared.geometry.ScanFault.{ScanFault}
use Rattle.jlog.specs.LeftLaws.{tells, sighting_of, RefusesAs}

-- ---- what is not told is no node, and refuses nothing

no_node : (s : ℕ × Seen) → tells s ≡ false → node_sighted s ≡ None
no_node (addr, seen.Marker) none = refl
no_node (addr, seen.Damaged which) none = refl
no_node (addr, _) none = absurd (true≢false none)

no_refusal : (s : ℕ × Seen) → tells s ≡ false → refusal_by s ≡ None
no_refusal (addr, seen.Marker) none = refl
no_refusal (addr, seen.Damaged which) none = refl
no_refusal (addr, _) none = absurd (true≢false none)

no_ban : (s : ℕ × Seen) → tells s ≡ false → forbids_writing s.1 ≡ false
no_ban (addr, seen.Marker) none = refl
no_ban (addr, seen.Damaged which) none = refl
no_ban (addr, _) none = absurd (true≢false none)

told_nodes : (ss : List (ℕ × Seen)) → filter_map node_sighted (filter tells ss) ≡ filter_map node_sighted ss
told_nodes [] = refl
told_nodes (s ∷ ss) = elim (cases_Bool (tells s)) [
  | inl told ↦ rw told (ap (cons_option (node_sighted s)) (told_nodes ss))
  | inr none ↦ rw (none, no_node s none) (told_nodes ss)
]

told_refusal : (ss : List (ℕ × Seen)) → refusal_among (filter tells ss) ≡ refusal_among ss
told_refusal [] = refl
told_refusal (s ∷ ss) = elim (cases_Bool (tells s)) [
  | inl told ↦ rw told (ap (option_or (refusal_by s)) (told_refusal ss))
  | inr none ↦ rw (none, no_refusal s none) (told_refusal ss)
]

told_bans : (ss : List (ℕ × Seen)) → list_any (λ s. forbids_writing s.1) (filter tells ss) ≡ list_any (λ s. forbids_writing s.1) ss
told_bans [] = refl
told_bans (s ∷ ss) = elim (cases_Bool (tells s)) [
  | inl told ↦ rw told (ap (λ (b : Bool). forbids_writing s.1 || b) (told_bans ss))
  | inr none ↦ rw (none, no_ban s none) (told_bans ss)
]

-- ---- new nodes are nodes, and refuse nothing

new_node : (n : ℕ × NodeRef) → node_sighted (sighting_of n) ≡ Some n
new_node (addr, node.Entry entry) = refl
new_node (addr, node.Inode inode) = refl

new_refusal : (n : ℕ × NodeRef) → refusal_by (sighting_of n) ≡ None
new_refusal (addr, node.Entry entry) = refl
new_refusal (addr, node.Inode inode) = refl

new_ban : (n : ℕ × NodeRef) → forbids_writing (sighting_of n).1 ≡ false
new_ban (addr, node.Entry entry) = refl
new_ban (addr, node.Inode inode) = refl

new_nodes : (ns : List (ℕ × NodeRef)) → filter_map node_sighted (map sighting_of ns) ≡ ns
new_nodes [] = refl
new_nodes (n ∷ ns) = ap₂ (λ (o : Option (ℕ × NodeRef)) (l : List (ℕ × NodeRef)). cons_option o l) (new_node n) (new_nodes ns)

new_refusals : (ns : List (ℕ × NodeRef)) → refusal_among (map sighting_of ns) ≡ None
new_refusals [] = refl
new_refusals (n ∷ ns) = ap₂ (λ (o p : Option ScanFault). option_or o p) (new_refusal n) (new_refusals ns)

new_bans : (ns : List (ℕ × NodeRef)) → list_any (λ s. forbids_writing s.1) (map sighting_of ns) ≡ false
new_bans [] = refl
new_bans (n ∷ ns) = ap₂ (λ (a b : Bool). a || b) (new_ban n) (new_bans ns)

-- ---- a refusal among two lists

or_none : (o : Option ScanFault) → option_or o None ≡ o
or_none None = refl
or_none (Some f) = refl

or_assoc : (a b c : Option ScanFault) → option_or (option_or a b) c ≡ option_or a (option_or b c)
or_assoc None b c = refl
or_assoc (Some f) b c = refl

refusal-append : (xs ys : List (ℕ × Seen)) → refusal_among (xs ++ ys) ≡ option_or (refusal_among xs) (refusal_among ys)
refusal-append [] ys = refl
refusal-append (x ∷ xs) ys =
    ap (option_or (refusal_by x)) (refusal-append xs ys) ∙ sym (or_assoc (refusal_by x) (refusal_among xs) (refusal_among ys))

-- ---- members

pub cons_cases : {X : Type 0} (y : X) (ys : List X) (x : X) → Contains (y ∷ ys) x → (y ≡ x) ⊎ Contains ys x
cons_cases y ys x has = elim (Contains-append_cases (y ∷ []) ys x has) [
  | inl first ↦ elim (Contains-push_cases [] y x first) [ inl none ↦ absurd (omega (arith, none.1)) | inr same ↦ inl same ]
  | inr later ↦ inr later
]

kept_member : {X : Type 0} (p : X → Bool) (xs : List X) (x : X) → p x ≡ true → Contains xs x → Contains (filter p xs) x
kept_member p [] x passes has = has
kept_member p (y ∷ ys) x passes has = elim (cons_cases y ys x has) [
  | inl same ↦ rw (ap p same ∙ passes) (subst (Contains (y ∷ filter p ys)) same (Contains-append_left (y ∷ []) (filter p ys) y (Contains-push [] y)))
  | inr later ↦ elim (cases_Bool (p y)) [
    | inl stays ↦ rw stays (Contains-append_right (y ∷ []) (filter p ys) x (kept_member p ys x passes later))
    | inr goes ↦ rw goes (kept_member p ys x passes later)
  ]
]

was_member : {X : Type 0} (p : X → Bool) (xs : List X) (x : X) → Contains (filter p xs) x → Contains xs x
was_member p [] x has = has
was_member p (y ∷ ys) x has = elim (cases_Bool (p y)) [
  | inl stays ↦
      let there : Contains (y ∷ filter p ys) x = rw stays at has in
      elim (cons_cases y (filter p ys) x there) [
        | inl same ↦ subst (Contains (y ∷ ys)) same (Contains-append_left (y ∷ []) ys y (Contains-push [] y))
        | inr later ↦ Contains-append_right (y ∷ []) ys x (was_member p ys x later)
      ]
  | inr goes ↦ let there : Contains (filter p ys) x = rw goes at has in Contains-append_right (y ∷ []) ys x (was_member p ys x there)
]

new_member : (ns : List (ℕ × NodeRef)) (s : ℕ × Seen) → Contains (map sighting_of ns) s → refusal_by s ≡ None
new_member [] s has = absurd (omega (arith, has.1))
new_member (n ∷ ns) s has = elim (cons_cases (sighting_of n) (map sighting_of ns) s has) [
  | inl same ↦ ap refusal_by (sym same) ∙ new_refusal n
  | inr later ↦ new_member ns s later
]

-- ---- the whole

-- Of two images of which the same is told but for new nodes, the one's nodes are the other's and those,
pub nodes_told : (e : Endian) (size : ℕ) (base image : List ℕ) (new : List (ℕ × NodeRef)) → filter tells (sightings e size image) ≡ filter tells (sightings e size base) ++ map sighting_of new
    → nodes e size image ≡ nodes e size base ++ new
nodes_told e size base image new same =
    sym (told_nodes (sightings e size image))
    ∙ (ap (filter_map node_sighted) same
    ∙ (filter_map-append node_sighted (filter tells (sightings e size base)) (map sighting_of new)
    ∙ ap₂ (λ (xs ys : List (ℕ × NodeRef)). xs ++ ys) (told_nodes (sightings e size base)) (new_nodes new)))

refusals_told : (e : Endian) (size : ℕ) (base image : List ℕ) (new : List (ℕ × NodeRef)) → filter tells (sightings e size image) ≡ filter tells (sightings e size base) ++ map sighting_of new
    → first_refused e size image ≡ first_refused e size base
refusals_told e size base image new same =
    sym (told_refusal (sightings e size image))
    ∙ (ap refusal_among same
    ∙ (refusal-append (filter tells (sightings e size base)) (map sighting_of new)
    ∙ (ap₂ (λ (o p : Option ScanFault). option_or o p) (told_refusal (sightings e size base)) (new_refusals new) ∙ or_none (first_refused e size base))))

or_false : (b : Bool) → (b || false) ≡ b
or_false true = refl
or_false false = refl

bans_told : (e : Endian) (size : ℕ) (base image : List ℕ) (new : List (ℕ × NodeRef)) → filter tells (sightings e size image) ≡ filter tells (sightings e size base) ++ map sighting_of new
    → is_read_only e size image ≡ is_read_only e size base
bans_told e size base image new same =
    sym (told_bans (sightings e size image))
    ∙ (ap (list_any (λ s. forbids_writing s.1)) same
    ∙ (list_any-append (λ s. forbids_writing s.1) (filter tells (sightings e size base)) (map sighting_of new)
    ∙ (ap₂ (λ (a b : Bool). a || b) (told_bans (sightings e size base)) (new_bans new) ∙ or_false (is_read_only e size base))))

refuses_told : (s : ℕ × Seen) → is_some (refusal_by s) ≡ true → tells s ≡ true
refuses_told s refuses = elim (cases_Bool (tells s)) [
  | inl told ↦ told
  | inr none ↦ absurd (false≢true (sym (ap is_some (no_refusal s none)) ∙ refuses))
]

-- and the same refuses them.
pub refuses_as : (e : Endian) (size : ℕ) (base image : List ℕ) (new : List (ℕ × NodeRef)) → filter tells (sightings e size image) ≡ filter tells (sightings e size base) ++ map sighting_of new
    → RefusesAs e size base image
refuses_as e size base image new same = record {
  first = refusals_told e size base image new same;
  each = λ s refuses has.
      elim (Contains-append_cases (filter tells (sightings e size base)) (map sighting_of new) s
      (subst (λ (ss : List (ℕ × Seen)). Contains ss s) same (kept_member tells (sightings e size image) s (refuses_told s refuses) has))) [
        | inl old ↦ was_member tells (sightings e size base) s old
        | inr added ↦ absurd (false≢true (sym (ap is_some (new_member new s added)) ∙ refuses))
      ];
  read_only = bans_told e size base image new same;
}
