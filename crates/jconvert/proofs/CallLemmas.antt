-- What the calls need of one another.
use Rattle.std.proofs.Common.{◌≡◌, ◌≢◌, ℕ, zero, suc, ◌+◌, ◌-◌, ◌*◌, ◌/◌, ◌%◌, ◌<◌, ◌≤◌, Bool, true, false, cond, List, [], length, map, count_by, min, refl, sym, ap, subst, ◌∙◌, arith, Option, None, Some, Ok, Err, option_map, IsTrue, IfSome, IfOk, IfErr, Contains, ◌∷◌}
use Rattle.std.specs.Prelude.{Result, IsErrAnd}
use Rattle.std.specs.Int.{div_ceil}
use Rattle.std.specs.Option.{is_none, option_or}
use Rattle.std.proofs.lemmas.Bool.{leb-true, and_parts}
use Rattle.std.proofs.lemmas.Nat.{div_below, div-add-mod'}
use Rattle.flashbase.proofs.MemberLemmas.{Contains-here}
use Rattle.jnode.specs.Header.{header_len}
use Rattle.jnode.specs.Reading.{inode_len}
use Rattle.jnode.specs.Writing.{canonical, totlen_most}
use Rattle.jnode.specs.declared.node.CompressedNode.{CompressedNode}
use Rattle.jnode.specs.declared.node.NodeRef.{NodeRef}
use Rattle.jnode.specs.declared.node.Seen.{Seen}
use Rattle.jnode.specs.declared.node.Seen.TheVariants as seen
use Rattle.jnode.specs.declared.order.Endian.{Endian}
use Rattle.jcompr.specs.Content.{method_of}
use Rattle.jscan.specs.Image.{is_block_size, greatest_image, sightings}
use Rattle.jscan.specs.Scans.{IsScannable, is_read_only}
use Rattle.jlog.specs.Places.{fit, needed, free, end_of_all}
use Rattle.jlog.specs.Output.{output}
use Rattle.jlog.proofs.IntactLemmas.{output_is_long}
use Rattle.jexpand.specs.Answers.{IsTileFault, AnswersLength}
use Rattle.jexpand.specs.Expanded.{compressed_node_at, node_content, expanded_node, expanded_nodes, node_length}
use Rattle.jexpand.specs.Refused.{too_long, compressed_fault, node_fault, nodes_fault}
use Rattle.jexpand.proofs.NodeLemmas.{accepted_long}
use Rattle.jexpand.proofs.SightedLemmas.{size_words}
use Rattle.jexpand.specs.declared.fault.ConvertFault.{ConvertFault}
use Rattle.jexpand.specs.declared.fault.ConvertFault.TheVariants as fault
use Rattle.jconvert.specs.Converting.{least_written, greatest_blocks, is_changed, expanded_forms, converted_image, converted_of, convert_fault}
use Rattle.jconvert.specs.Tallying.{IsCursor, IsRoomOf, CountsTile, IsTallyOf}
use Rattle.jconvert.specs.declared.converted.Converted.{Converted}
use Rattle.jconvert.specs.declared.judging.Tally.{Tally}
use Rattle.jconvert.proofs.TallyLemmas.{RoomBefore, Counting, counting_next, counting_refused}
use Rattle.jconvert.proofs.JudgeLemmas.{node_refused}
use Rattle.jconvert.proofs.WriteLemmas.{forms_fit}

-- ---- lengths

pub size_most : (size : ℕ) → IsTrue (is_block_size size) → size ≤ 4194304
size_most size is = leb-true _ _ (and_parts _ _ (and_parts _ _ is).0).1

to_some : {A B : Type 0} (f : A → B) (o : Option A) (y : B) → Some y ≡ option_map f o → (x : A) × (o ≡ Some x) × (y ≡ f x)
to_some f None y h = absurd (cc)
to_some f (Some x) y h = (x, refl, cc)

-- a node that is not refused may be written
pub len_small : (e : Endian) (size : ℕ) (image : List ℕ) (addr : ℕ) (s : Seen) (len : Option ℕ) → IsTrue (is_block_size size) → node_fault e size image (addr, s) ≡ None
    → len ≡ option_map node_length (expanded_node e size image (addr, s)) → IfSome len (λ n. n ≤ totlen_most)
len_small e size image addr s None size_is none is = tt
len_small e size image addr s (Some n) size_is none is =
    let node = to_some node_length (expanded_node e size image (addr, s)) n is in
    let fits : header_len + node_length node.0 ≤ size = accepted_long e size image addr s node.0 none node.1 in
    let most : size ≤ 4194304 = size_most size size_is in
    let long : n ≡ node_length node.0 = node.2 in
    omega arith

-- ---- faults

pub tile_fault : (has : Option ConvertFault) (f : ConvertFault) → IsTileFault has f → f ≢ fault.OutOfMemory → has ≡ Some f
tile_fault has fault.OutOfMemory is other = absurd (other refl)
tile_fault has fault.BlockSize is other = is
tile_fault has fault.TooLarge is other = is
tile_fault has (fault.Incompatible a t) is other = is
tile_fault has (fault.Compressed a t) is other = is
tile_fault has (fault.Data a) is other = is
tile_fault has (fault.TooLong a) is other = is
tile_fault has fault.ReadOnly is other = is
tile_fault has fault.Geometry is other = is
tile_fault has (fault.Full n f) is other = is
tile_fault has fault.Sink is other = is

long_no_sink : (b : Bool) (addr : ℕ) → cond b None (Some (fault.TooLong addr)) ≡ Some fault.Sink → ⊥
long_no_sink true addr h = absurd (cc)
long_no_sink false addr h = absurd (cc)

packed_no_sink : (a b c : Bool) (addr compr : ℕ)
    → cond a (Some (fault.Compressed addr compr)) (option_or (cond b None (Some (fault.TooLong addr))) (cond c (Some (fault.Data addr)) None)) ≡ Some fault.Sink → ⊥
packed_no_sink true b c addr compr h = absurd (cc)
packed_no_sink false true true addr compr h = absurd (cc)
packed_no_sink false true false addr compr h = absurd (cc)
packed_no_sink false false c addr compr h = absurd (cc)

-- a node is not refused since a sink failed
pub no_sink : (e : Endian) (size : ℕ) (image : List ℕ) (addr : ℕ) (s : Seen) → node_fault e size image (addr, s) ≡ Some fault.Sink → ⊥
no_sink e size image addr (seen.Entry entry) h = long_no_sink _ addr h
no_sink e size image addr (seen.Inode inode) h = long_no_sink _ addr h
no_sink e size image addr (seen.Compressed compr) h = packed_no_sink _ _ _ addr _ h
no_sink e size image addr (seen.Incompatible t) h = absurd (cc)
no_sink e size image addr seen.Marker h = absurd (cc)
no_sink e size image addr seen.Padding h = absurd (cc)
no_sink e size image addr seen.Obsolete h = absurd (cc)
no_sink e size image addr seen.Attribute h = absurd (cc)
no_sink e size image addr (seen.Skippable t) h = absurd (cc)
no_sink e size image addr (seen.ReadOnly t) h = absurd (cc)
no_sink e size image addr (seen.Damaged q) h = absurd (cc)

pub tile_no_sink : (e : Endian) (size : ℕ) (image : List ℕ) (addr : ℕ) (s : Seen) (f : ConvertFault) → IsTileFault (node_fault e size image (addr, s)) f → f ≢ fault.Sink
tile_no_sink e size image addr s f is same =
    no_sink e size image addr s (subst (λ (g : ConvertFault). IsTileFault (node_fault e size image (addr, s)) g) same is)

-- ---- the room

pub room_cursor : (size : ℕ) (all left : List (List ℕ)) (room : Option ℕ) → RoomBefore size all room left → IfSome room (IsCursor size)
room_cursor size all left None before = tt
room_cursor size all left (Some from) before = before.2

-- an empty flash has its bytes, less a marker for each block
pub free_empty : (size : ℕ) → 0 < size → greatest_blocks size * size - 12 * greatest_blocks size ≡ free size (greatest_blocks size) 0
free_empty size some =
    let blocks : ℕ = greatest_blocks size in
    let q : 0 / size < 1 = div_below 0 size 1 some (omega arith) in
    let d : 0 / size * size + 0 % size ≡ 0 = div-add-mod' 0 size in
    let none : 0 ≡ div_ceil 0 size = omega arith in
    let at_0 : blocks * size - 12 * blocks ≡ blocks * size - 0 - 12 * (blocks - 0) = omega arith in
    at_0 ∙ ap (λ (k : ℕ). blocks * size - 0 - 12 * (blocks - k)) none

pub told : (e : Endian) (size : ℕ) (image : List ℕ) (t : Tally) (end : ℕ) → IsTallyOf e size image t → t.room ≡ Some end
    → (IsTrue (fit size (greatest_blocks size) 0 (expanded_forms e size image))) × (end ≡ length (converted_image e size image))
told e size image t end is room =
    let at : IsRoomOf size (expanded_forms e size image) (Some end) = subst (IsRoomOf size (expanded_forms e size image)) room is.room in
    let long = output_is_long e size 0 (expanded_forms e size image) (size_words size is.scannable.0) (forms_fit e size image (sightings e size image) is.none) in
    (at.0, at.1 ∙ omega (arith, long))

pub converted_is : (e : Endian) (size : ℕ) (image : List ℕ) (t : Tally) (end : ℕ) (c : Converted) → IsTallyOf e size image t → t.room ≡ Some end
    → c.changed ≡ t.changed → c.nodes ≡ t.nodes → c.bytes ≡ end → c ≡ converted_of e size image
converted_is e size image t end c is room changed nodes bytes =
    let one : c.changed ≡ count_by (λ s. is_changed s.1) (sightings e size image) = changed ∙ is.changed in
    let two : c.nodes ≡ length (expanded_nodes e size image) = nodes ∙ is.nodes in
    let three : c.bytes ≡ length (converted_image e size image) = bytes ∙ (told e size image t end is room).1 in
    rw (one, two, three) refl

-- ---- handing on

-- a fault that is handed on as it is
pub handed_on : {T : Type 0} (r : Result T ConvertFault) (f : ConvertFault) (Q : ConvertFault → Type 0) → IsErrAnd r (λ (given : ConvertFault). given ≡ f) → Q f → IfErr r Q
handed_on (Ok x) f Q is holds = absurd is
handed_on (Err y) f Q is holds = subst Q (sym is) holds

-- the tile at hand is one of the image
pub head_among : (e : Endian) (size : ℕ) (image : List ℕ) (left rest : List (ℕ × Seen)) (addr : ℕ) (seen : Seen) (t : Tally) → Counting e size image left t → left ≡ (addr, seen) ∷ rest
    → Contains (sightings e size image) (addr, seen)
head_among e size image left rest addr seen t before is =
    before.among (addr, seen) (subst (λ (l : List (ℕ × Seen)). Contains l (addr, seen)) (sym is) (Contains-here (addr, seen) rest))

-- what a fault of it is for the image
pub tile_refused : (e : Endian) (size : ℕ) (image : List ℕ) (left rest : List (ℕ × Seen)) (addr : ℕ) (seen : Seen) (t : Tally) (f : ConvertFault) → Counting e size image left t
    → left ≡ (addr, seen) ∷ rest → IsTileFault (node_fault e size image (addr, seen)) f → f ≢ fault.OutOfMemory → convert_fault e size image ≡ Some f
tile_refused e size image left rest addr seen t f before is has other =
    node_refused e size image f before.scannable
    (counting_refused e size image left rest addr seen t f before is (tile_fault (node_fault e size image (addr, seen)) f has other))

pub tile_counted : (e : Endian) (size : ℕ) (image : List ℕ) (left rest : List (ℕ × Seen)) (addr : ℕ) (seen : Seen) (t u : Tally) → Counting e size image left t
    → left ≡ (addr, seen) ∷ rest → CountsTile e size image t addr seen u → Counting e size image rest u
tile_counted e size image left rest addr seen t u before is one =
    counting_next e size image left rest addr seen t u one.len before is one.none one.length_is one.more
