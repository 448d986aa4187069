-- Counting the nodes of an image, tile by tile.
use Rattle.std.proofs.Common.{◌≡◌, ℕ, ◌+◌, ◌*◌, ◌/◌, ◌%◌, ◌<◌, ◌≤◌, ◌||◌, ◌&&◌, Bool, true, false, cond, List, [], ◌∷◌, length, map, filter_map, count_by, sum_by, refl, sym, ap, subst, ◌∙◌, arith, Option, None, Some, option_map, nat_le, IsTrue, IfSome, Contains, inl, inr, ⊎_elim}
use Rattle.std.specs.List.{cons_option, list_any}
use Rattle.std.specs.Option.{option_or}
use Rattle.std.proofs.lemmas.Bool.{leb-true, le-leb, lt-leb, leb-false, cases_Bool, and_from}
use Rattle.std.proofs.lemmas.List.Sums.{sum_by-cons}
use Rattle.flashbase.specs.Bytes.{pad4_of}
use Rattle.flashbase.proofs.MemberLemmas.{Contains-there}
use Rattle.jnode.specs.Header.{header_len}
use Rattle.jnode.specs.Writing.{canonical}
use Rattle.jnode.specs.declared.node.NodeRef.{NodeRef}
use Rattle.jnode.specs.declared.node.NodeRef.TheVariants as node
use Rattle.jnode.specs.declared.node.Seen.{Seen}
use Rattle.jnode.specs.declared.order.Endian.{Endian}
use Rattle.jnode.proofs.WritingLemmas.{length-canonical_entry, length-canonical_inode}
use Rattle.jscan.specs.Image.{is_block_size, sightings}
use Rattle.jscan.specs.Scans.{IsScannable, forbids_writing, is_read_only}
use Rattle.jlog.specs.Places.{place_after, end_after, end_of_all, fit, needed}
use Rattle.jexpand.specs.Expanded.{expanded_node, expanded_nodes, node_length}
use Rattle.jexpand.specs.Refused.{node_fault, fault_among, nodes_fault}
use Rattle.jexpand.specs.declared.fault.ConvertFault.{ConvertFault}
use Rattle.jconvert.specs.Converting.{least_written, greatest_blocks, is_changed, expanded_forms}
use Rattle.jconvert.specs.Tallying.{IsCursor, EndsWithin, IsRoomAfter, Lengthens, IsOneMore, IsRoomOf, IsTallyOf}
use Rattle.jconvert.specs.declared.judging.Tally.{Tally}

-- ---- what is left

-- the nodes that tiles give, and their written forms
abbrev pub nodes_of_tiles : Endian → ℕ → List ℕ → List (ℕ × Seen) → List NodeRef
nodes_of_tiles e size image ss = filter_map (expanded_node e size image) ss

abbrev pub forms_of_tiles : Endian → ℕ → List ℕ → List (ℕ × Seen) → List (List ℕ)
forms_of_tiles e size image ss = map (canonical e) (nodes_of_tiles e size image ss)

-- how the room stands before these nodes, of all of them
abbrev pub RoomBefore : ℕ → List (List ℕ) → Option ℕ → List (List ℕ) → Type 0
RoomBefore size all (Some from) left =
    (fit size (greatest_blocks size) 0 all ≡ fit size (greatest_blocks size) from left) × (end_of_all size 0 all ≡ end_of_all size from left)
    × IsCursor size from
RoomBefore size all None left = least_written ≤ size → fit size (greatest_blocks size) 0 all ≡ false

-- the counts so far, and the tiles that are left
pub record Counting (e : Endian) (size : ℕ) (image : List ℕ) (left : List (ℕ × Seen)) (t : Tally) : Type 0 where
  pub scannable : IsScannable size image
  pub among : (s : ℕ × Seen) → Contains left s → Contains (sightings e size image) s
  pub fault : nodes_fault e size image ≡ fault_among e size image left
  pub changed : count_by (λ s. is_changed s.1) (sightings e size image) ≡ t.changed + count_by (λ s. is_changed s.1) left
  pub nodes : length (expanded_nodes e size image) ≡ t.nodes + length (nodes_of_tiles e size image left)
  pub needs : needed (expanded_forms e size image) ≡ t.needed + needed (forms_of_tiles e size image left)
  pub read_only : is_read_only e size image ≡ (t.read_only || list_any (λ s. forbids_writing s.1) left)
  pub room : RoomBefore size (expanded_forms e size image) t.room (forms_of_tiles e size image left)

abbrev pub no_tally : Tally
no_tally = record { changed = 0; nodes = 0; needed = 0; room = Some 0; read_only = false }

pub counting_start : (e : Endian) (size : ℕ) (image : List ℕ) → IsScannable size image → Counting e size image (sightings e size image) no_tally
counting_start e size image scannable = record {
  scannable = scannable;
  among = λ s has. has;
  fault = refl;
  changed = omega arith;
  nodes = omega arith;
  needs = omega arith;
  read_only = refl;
  room = (refl, refl, (omega arith, refl));
}

-- ---- one more

pub length_form : (e : Endian) (n : NodeRef) → length (canonical e n) ≡ node_length n
length_form e (node.Entry entry) = length-canonical_entry e entry
length_form e (node.Inode inode) = length-canonical_inode e inode

first_fault : (o p : Option ConvertFault) → o ≡ None → option_or o p ≡ p
first_fault o p none = ap (λ (q : Option ConvertFault). option_or q p) none

or_assoc : (a b c : Bool) → (a || (b || c)) ≡ ((a || b) || c)
or_assoc true b c = refl
or_assoc false b c = refl

or_false : (a : Bool) → a ≡ (a || false)
or_false true = refl
or_false false = refl

not_within : (size from len : ℕ) (rest : Bool) → (EndsWithin size from len → ⊥)
    → (nat_le (place_after size from len + len) (greatest_blocks size * size) && rest) ≡ false
not_within size from len rest outside =
    ⊎_elim (λ inside. absurd (outside (leb-true _ _ inside))) (λ out. ap (λ (b : Bool). b && rest) out)
    (cases_Bool (nat_le (place_after size from len + len) (greatest_blocks size * size)))

is_within : (size from len : ℕ) (rest : Bool) → EndsWithin size from len
    → (nat_le (place_after size from len + len) (greatest_blocks size * size) && rest) ≡ rest
is_within size from len rest inside = ap (λ (b : Bool). b && rest) (le-leb _ _ inside)

room_next : (size : ℕ) (all : List (List ℕ)) (room after : Option ℕ) (form : List ℕ) (rest : List (List ℕ)) → RoomBefore size all room (form ∷ rest)
    → IsRoomAfter size room (length form) after → RoomBefore size all after rest
room_next size all None after form rest before is = subst (λ (o : Option ℕ). RoomBefore size all o rest) (sym is) before
room_next size all (Some from) (Some after) form rest before is =
    let on : end_after size from (length form) ≡ after = sym is.1 in (
      before.0 ∙ (is_within size from (length form) _ is.0 ∙ ap (λ (n : ℕ). fit size (greatest_blocks size) n rest) on),
      before.1 ∙ ap (λ (n : ℕ). end_of_all size n rest) on,
      is.2,
    )
room_next size all (Some from) None form rest before is = λ written. before.0 ∙ not_within size from (length form) _ (is written)

mapped_none : {A B : Type 0} (f : A → B) (o : Option A) → None ≡ option_map f o → o ≡ None
mapped_none f None h = refl
mapped_none f (Some x) h = absurd (cc)

mapped_to : {A B : Type 0} (f : A → B) (o : Option A) (y : B) → Some y ≡ option_map f o → (x : A) × (o ≡ Some x) × (y ≡ f x)
mapped_to f None y h = absurd (cc)
mapped_to f (Some x) y h = (x, refl, cc)

among_rest : {X : Type 0} (P : X → Type 0) (s : X) (rest : List X) → ((t : X) → Contains (s ∷ rest) t → P t) → (t : X) → Contains rest t → P t
among_rest P s rest all t has = all t (Contains-there s rest t has)

counts : {X : Type 0} (p : X → Bool) (x : X) (xs : List X) → count_by p (x ∷ xs) ≡ cond (p x) 1 0 + count_by p xs
counts p x xs = sum_by-cons (λ y. cond (p y) 1 0) x xs

-- a tile that gives no node leaves the room as it is, and one that does takes some
lengthened : (e : Endian) (size : ℕ) (image : List ℕ) (s : ℕ × Seen) (rest : List (ℕ × Seen)) (t u : Tally) (len : Option ℕ)
    → len ≡ option_map node_length (expanded_node e size image s) → Lengthens size t len u
    → (length (expanded_nodes e size image) ≡ t.nodes + length (nodes_of_tiles e size image (s ∷ rest)))
    → (needed (expanded_forms e size image) ≡ t.needed + needed (forms_of_tiles e size image (s ∷ rest)))
    → RoomBefore size (expanded_forms e size image) t.room (forms_of_tiles e size image (s ∷ rest))
    → (length (expanded_nodes e size image) ≡ u.nodes + length (nodes_of_tiles e size image rest))
    × (needed (expanded_forms e size image) ≡ u.needed + needed (forms_of_tiles e size image rest))
    × RoomBefore size (expanded_forms e size image) u.room (forms_of_tiles e size image rest)
lengthened e size image s rest t u None is longer nodes needs room =
    let none : expanded_node e size image s ≡ None = mapped_none node_length (expanded_node e size image s) is in
    let same : nodes_of_tiles e size image (s ∷ rest) ≡ nodes_of_tiles e size image rest =
    ap (λ (o : Option NodeRef). cons_option o (nodes_of_tiles e size image rest)) none in
    let forms : forms_of_tiles e size image (s ∷ rest) ≡ forms_of_tiles e size image rest = ap (map (canonical e)) same in (
      nodes ∙ (ap (λ (n : ℕ). n + length (nodes_of_tiles e size image (s ∷ rest))) (sym longer.0) ∙ ap (λ (ns : List NodeRef). u.nodes + length ns) same),
      needs ∙ (ap (λ (n : ℕ). n + needed (forms_of_tiles e size image (s ∷ rest))) (sym longer.1) ∙ ap (λ (fs : List (List ℕ)). u.needed + needed fs) forms),
      subst (λ (fs : List (List ℕ)). RoomBefore size (expanded_forms e size image) u.room fs) forms
          (subst (λ (o : Option ℕ). RoomBefore size (expanded_forms e size image) o (forms_of_tiles e size image (s ∷ rest))) (sym longer.2) room),
    )
lengthened e size image s rest t u (Some len) is longer nodes needs room =
    let some = mapped_to node_length (expanded_node e size image s) len is in
    let n : NodeRef = some.0 in
    let form : List ℕ = canonical e n in
    let others : List (List ℕ) = forms_of_tiles e size image rest in
    let same : nodes_of_tiles e size image (s ∷ rest) ≡ n ∷ nodes_of_tiles e size image rest =
    ap (λ (o : Option NodeRef). cons_option o (nodes_of_tiles e size image rest)) some.1 in
    let forms : forms_of_tiles e size image (s ∷ rest) ≡ form ∷ others = ap (map (canonical e)) same in
    let long : len ≡ length form = some.2 ∙ sym (length_form e n) in
    let one : length (nodes_of_tiles e size image (s ∷ rest)) ≡ 1 + length (nodes_of_tiles e size image rest) = ap (λ (ns : List NodeRef). length ns) same ∙ omega arith in
    let more : needed (forms_of_tiles e size image (s ∷ rest)) ≡ pad4_of len + needed others =
    ap needed forms ∙ (sum_by-cons (λ (f : List ℕ). pad4_of (length f)) form others ∙ ap (λ (k : ℕ). pad4_of k + needed others) (sym long)) in
    let more_nodes = longer.0 in
    let more_needed = longer.1 in (
      omega (arith, nodes, one, more_nodes),
      omega (arith, needs, more, more_needed),
      room_next size (expanded_forms e size image) t.room u.room form others
          (subst (λ (fs : List (List ℕ)). RoomBefore size (expanded_forms e size image) t.room fs) forms room)
          (subst (λ (k : ℕ). IsRoomAfter size t.room k u.room) long longer.2),
    )

pub counting_next : (e : Endian) (size : ℕ) (image : List ℕ) (left rest : List (ℕ × Seen)) (addr : ℕ) (seen : Seen) (t u : Tally) (len : Option ℕ)
    → Counting e size image left t → left ≡ (addr, seen) ∷ rest → node_fault e size image (addr, seen) ≡ None
    → len ≡ option_map node_length (expanded_node e size image (addr, seen)) → IsOneMore size t seen len u → Counting e size image rest u
counting_next e size image left rest addr seen t u len before is none long more =
    let s : ℕ × Seen = (addr, seen) in
    let now : Counting e size image (s ∷ rest) t = subst (λ (l : List (ℕ × Seen)). Counting e size image l t) is before in
    let stays = lengthened e size image s rest t u len long more.longer now.nodes now.needs now.room in
    let seen_changed = counts (λ (x : ℕ × Seen). is_changed x.1) s rest in
    let all_changed = now.changed in
    let one_changed = more.changed in
    record {
      scannable = now.scannable;
      among = among_rest (λ (x : ℕ × Seen). Contains (sightings e size image) x) s rest now.among;
      fault = now.fault ∙ first_fault (node_fault e size image s) (fault_among e size image rest) none;
      changed = omega (arith, all_changed, seen_changed, one_changed);
      nodes = stays.0;
      needs = stays.1;
      read_only = now.read_only ∙ (or_assoc t.read_only (forbids_writing seen) (list_any (λ (x : ℕ × Seen). forbids_writing x.1) rest)
          ∙ ap (λ (b : Bool). b || list_any (λ (x : ℕ × Seen). forbids_writing x.1) rest) (sym more.read_only));
      room = stays.2;
    }

-- the first of the tiles that are left refuses the image
pub counting_refused : (e : Endian) (size : ℕ) (image : List ℕ) (left rest : List (ℕ × Seen)) (addr : ℕ) (seen : Seen) (t : Tally) (f : ConvertFault)
    → Counting e size image left t → left ≡ (addr, seen) ∷ rest → node_fault e size image (addr, seen) ≡ Some f → nodes_fault e size image ≡ Some f
counting_refused e size image left rest addr seen t f before is some =
    before.fault ∙ (ap (fault_among e size image) is ∙ ap (λ (o : Option ConvertFault). option_or o (fault_among e size image rest)) some)

room_end : (size : ℕ) (forms : List (List ℕ)) (room : Option ℕ) → RoomBefore size forms room [] → IsRoomOf size forms room
room_end size forms (Some end) before = (before.0, sym before.1)
room_end size forms None before = before

pub counting_end : (e : Endian) (size : ℕ) (image : List ℕ) (left : List (ℕ × Seen)) (t : Tally) → Counting e size image left t → left ≡ [] → IsTallyOf e size image t
counting_end e size image left t before is =
    let now : Counting e size image [] t = subst (λ (l : List (ℕ × Seen)). Counting e size image l t) is before in
    let changed = now.changed in
    let nodes = now.nodes in
    let needs = now.needs in
    record {
      scannable = now.scannable;
      none = now.fault;
      changed = omega (arith, changed);
      nodes = omega (arith, nodes);
      needed = omega (arith, needs);
      read_only = or_false t.read_only ∙ sym now.read_only;
      room = room_end size (expanded_forms e size image) t.room now.room;
    }
