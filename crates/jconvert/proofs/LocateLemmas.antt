-- The expanded nodes of an image with their addresses, tile by tile.
use Rattle.std.proofs.Common.{◌≡◌, ℕ, List, [], ◌∷◌, ◌++◌, filter_map, refl, sym, ap, subst, ◌∙◌, Option, None, Some, option_map, Contains, append_assoc}
use Rattle.std.specs.List.{cons_option}
use Rattle.std.proofs.lemmas.List.{append-nil}
use Rattle.flashbase.proofs.MemberLemmas.{Contains-here, Contains-there}
use Rattle.jnode.specs.declared.node.NodeRef.{NodeRef}
use Rattle.jnode.specs.declared.node.Seen.{Seen}
use Rattle.jnode.specs.declared.order.Endian.{Endian}
use Rattle.jscan.specs.Image.{sightings}
use Rattle.jexpand.specs.Expanded.{expanded_node, tile_content}
use Rattle.jexpand.specs.Refused.{node_fault, fault_among}
use Rattle.jconvert.specs.Apart.{located_node, located_nodes}
use Rattle.jconvert.specs.Holding.{BeginsAs, held_after, IsHeldOf}
use Rattle.jconvert.proofs.HoldingLemmas.{GoesOn, held_begins, held_next}
use Rattle.jconvert.proofs.JudgeLemmas.{both_none}

-- the nodes so far, and the tiles that are left
pub record Locating (e : Endian) (size : ℕ) (image : List ℕ) (left : List (ℕ × Seen)) (held : List ℕ) (nodes : List (ℕ × NodeRef)) : Type 0 where
  pub among : (s : ℕ × Seen) → Contains left s → Contains (sightings e size image) s
  pub none : fault_among e size image left ≡ None
  pub goes_on : GoesOn e size image left held
  pub whole : located_nodes e size image ≡ nodes ++ filter_map (located_node e size image) left

pub locating_start : (e : Endian) (size : ℕ) (image : List ℕ) (left : List (ℕ × Seen)) (held : List ℕ) (nodes : List (ℕ × NodeRef)) → left ≡ sightings e size image → nodes ≡ []
    → fault_among e size image (sightings e size image) ≡ None → IsHeldOf e size image held → Locating e size image left held nodes
locating_start e size image left held nodes all empty none is_held = record {
  among = λ s has. subst (λ (ss : List (ℕ × Seen)). Contains ss s) all has;
  none = ap (fault_among e size image) all ∙ none;
  goes_on = subst (λ (ss : List (ℕ × Seen)). GoesOn e size image ss held) (sym all) is_held;
  whole = ap (filter_map (located_node e size image)) (sym all) ∙ ap (λ (ns : List (ℕ × NodeRef)). ns ++ filter_map (located_node e size image) left) (sym empty);
}

pub locating_head : (e : Endian) (size : ℕ) (image : List ℕ) (left rest : List (ℕ × Seen)) (addr : ℕ) (seen : Seen) (held : List ℕ) (nodes : List (ℕ × NodeRef))
    → Locating e size image left held nodes → left ≡ (addr, seen) ∷ rest → Contains (sightings e size image) (addr, seen)
locating_head e size image left rest addr seen held nodes at is =
    at.among (addr, seen) (subst (λ (l : List (ℕ × Seen)). Contains l (addr, seen)) (sym is) (Contains-here (addr, seen) rest))

pub locating_sound : (e : Endian) (size : ℕ) (image : List ℕ) (left rest : List (ℕ × Seen)) (addr : ℕ) (seen : Seen) (held : List ℕ) (nodes : List (ℕ × NodeRef))
    → Locating e size image left held nodes → left ≡ (addr, seen) ∷ rest → node_fault e size image (addr, seen) ≡ None
locating_sound e size image left rest addr seen held nodes at is =
    (both_none (node_fault e size image (addr, seen)) (fault_among e size image rest) (sym (ap (fault_among e size image) is) ∙ at.none)).0

pub locating_begins : (e : Endian) (size : ℕ) (image : List ℕ) (left rest : List (ℕ × Seen)) (addr : ℕ) (seen : Seen) (held : List ℕ) (nodes : List (ℕ × NodeRef))
    → Locating e size image left held nodes → left ≡ (addr, seen) ∷ rest → BeginsAs (tile_content e size image (addr, seen)) held
locating_begins e size image left rest addr seen held nodes at is = held_begins e size image left rest addr seen held at.goes_on is

one_more : {X : Type 0} (o : Option X) (xs ys : List X) → xs ++ cons_option o ys ≡ (xs ++ cons_option o []) ++ ys
one_more None xs ys = ap (λ zs. zs ++ ys) (sym (append-nil xs))
one_more (Some x) xs ys = sym (append_assoc xs (x ∷ []) ys)

pub locating_next : (e : Endian) (size : ℕ) (image : List ℕ) (left rest : List (ℕ × Seen)) (addr : ℕ) (seen : Seen) (held now : List ℕ) (nodes more : List (ℕ × NodeRef)) (node : Option NodeRef)
    → Locating e size image left held nodes → left ≡ (addr, seen) ∷ rest → now ≡ held_after (tile_content e size image (addr, seen)) held
    → node ≡ expanded_node e size image (addr, seen) → more ≡ nodes ++ cons_option (option_map (λ n. (addr, n)) node) []
    → Locating e size image rest now more
locating_next e size image left rest addr seen held now nodes more node at is held_is node_is more_is =
    let s : ℕ × Seen = (addr, seen) in
    let f : ℕ × Seen → Option (ℕ × NodeRef) = located_node e size image in
    let gives : option_map (λ (n : NodeRef). (addr, n)) node ≡ f s = ap (option_map (λ (n : NodeRef). (addr, n))) node_is in
    record {
      among = λ t has. at.among t (subst (λ (l : List (ℕ × Seen)). Contains l t) (sym is) (Contains-there s rest t has));
      none = (both_none (node_fault e size image s) (fault_among e size image rest) (sym (ap (fault_among e size image) is) ∙ at.none)).1;
      goes_on = held_next e size image left rest addr seen held now at.goes_on is held_is;
      whole = at.whole
          ∙ ap (λ (l : List (ℕ × Seen)). nodes ++ filter_map f l) is
          ∙ one_more (f s) nodes (filter_map f rest)
          ∙ ap (λ (o : Option (ℕ × NodeRef)). (nodes ++ cons_option o []) ++ filter_map f rest) (sym gives)
          ∙ ap (λ (ns : List (ℕ × NodeRef)). ns ++ filter_map f rest) (sym more_is);
    }

pub locating_end : (e : Endian) (size : ℕ) (image : List ℕ) (left : List (ℕ × Seen)) (held : List ℕ) (nodes : List (ℕ × NodeRef)) → Locating e size image left held nodes → left ≡ []
    → nodes ≡ located_nodes e size image
locating_end e size image left held nodes at is =
    sym (at.whole ∙ ap (λ (l : List (ℕ × Seen)). nodes ++ filter_map (located_node e size image) l) is ∙ append-nil nodes)
