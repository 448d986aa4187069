-- Putting one tile, and what it is for the image that goes out.
use Rattle.std.proofs.Common.{◌≡◌, ℕ, ◌+◌, ◌≤◌, List, [], ◌∷◌, ◌++◌, length, refl, sym, ap, subst, ◌∙◌, arith, Option, None, Some, Ok, Err, MatchOption, Contains}
use Rattle.std.specs.Prelude.{Result, IsTrue}
use Rattle.std.specs.Io.KnownBytes.{Appends}
use Rattle.std.proofs.KnownBytes.{Appends-nil}
use Rattle.flashbase.specs.Device.{PutsPart, next_count}
use Rattle.flashbase.proofs.MemberLemmas.{Contains-here}
use Rattle.jnode.specs.Header.{header_len}
use Rattle.jnode.specs.Writing.{canonical, totlen_most}
use Rattle.jnode.specs.declared.node.NodeRef.{NodeRef}
use Rattle.jnode.specs.declared.node.Seen.{Seen}
use Rattle.jnode.specs.declared.order.Endian.{Endian}
use Rattle.jscan.specs.Image.{is_block_size, sightings}
use Rattle.jlog.specs.Places.{end_after}
use Rattle.jexpand.specs.Expanded.{expanded_node}
use Rattle.jexpand.specs.Refused.{node_fault, fault_among}
use Rattle.jexpand.specs.declared.fault.ConvertFault.{ConvertFault}
use Rattle.jexpand.specs.declared.fault.ConvertFault.TheVariants as fault
use Rattle.jconvert.specs.Converting.{converted_image, WritesConverted}
use Rattle.jconvert.specs.Tallying.{IsCursor}
use Rattle.jconvert.specs.Putting.{form_piece, PutsForm, PutsTile}
use Rattle.jconvert.proofs.CallLemmas.{size_most}
use Rattle.jconvert.proofs.WriteLemmas.{Writing, form_long, writing_past, writing_next, writing_begun, writing_failed, writing_end}

pub form_small : (e : Endian) (size : ℕ) (image : List ℕ) (addr : ℕ) (s : Seen) (form : List ℕ) (n : NodeRef) → IsTrue (is_block_size size)
    → node_fault e size image (addr, s) ≡ None → expanded_node e size image (addr, s) ≡ Some n → form ≡ canonical e n → length form ≤ totlen_most
form_small e size image addr s form n size_is none gives is =
    let within = form_long e size image addr s form n none gives is in
    let most = size_most size size_is in
    omega (arith, within, most)

-- a tile whose form went out
pub tile_put : (e : Endian) (size : ℕ) (image : List ℕ) (s : ℕ × Seen) (from : ℕ) (old new : Option (List ℕ)) (before now : ℕ) (r : Result ℕ ConvertFault) (form : List ℕ) (n : NodeRef)
    → expanded_node e size image s ≡ Some n → form ≡ canonical e n → PutsForm e size from form (record { old = old; new = new; before = before; now = now }) r → PutsTile e size image s from (record { old = old; new = new; before = before; now = now }) r
tile_put e size image s from old new before now (Ok next) form n gives is put =
    let P : List ℕ → Type 0 = λ xs. Appends old new (form_piece e size from xs) × (next ≡ end_after size from (length xs)) × IsCursor size next in
    let all : P form = (put.0, put.2, put.3) in (
      subst (λ (o : Option NodeRef). MatchOption o ((new ≡ old) × (next ≡ from)) (λ m. P (canonical e m))) (sym gives) (subst P is all),
      put.1,
    )
tile_put e size image s from old new before now (Err fault.Sink) form n gives is put =
    ((n, gives, subst (λ (xs : List ℕ). PutsPart old new (form_piece e size from xs)) is put.0), put.1)
tile_put e size image s from old new before now (Err fault.OutOfMemory) form n gives is put = put
tile_put e size image s from old new before now (Err fault.BlockSize) form n gives is put = put
tile_put e size image s from old new before now (Err fault.TooLarge) form n gives is put = put
tile_put e size image s from old new before now (Err (fault.Incompatible a t)) form n gives is put = put
tile_put e size image s from old new before now (Err (fault.Compressed a t)) form n gives is put = put
tile_put e size image s from old new before now (Err (fault.Data a)) form n gives is put = put
tile_put e size image s from old new before now (Err (fault.TooLong a)) form n gives is put = put
tile_put e size image s from old new before now (Err fault.ReadOnly) form n gives is put = put
tile_put e size image s from old new before now (Err fault.Geometry) form n gives is put = put
tile_put e size image s from old new before now (Err (fault.Full a b)) form n gives is put = put

-- a tile that gives no node
pub tile_past : (e : Endian) (size : ℕ) (image : List ℕ) (s : ℕ × Seen) (from : ℕ) (old : Option (List ℕ)) (before : ℕ)
    → expanded_node e size image s ≡ None → PutsTile e size image s from (record { old = old; new = old; before = before; now = before }) (Ok from)
tile_past e size image s from old before none = (
  subst (λ (o : Option NodeRef). MatchOption o ((old ≡ old) × (from ≡ from)) (λ n. Appends old old (form_piece e size from (canonical e n)) × (from ≡ end_after size from (length (canonical e n))) × IsCursor size from))
      (sym none) (refl, refl),
  refl,
)

-- ---- the image with one tile more

next_by : (e : Endian) (size : ℕ) (image : List ℕ) (left rest : List (ℕ × Seen)) (addr : ℕ) (seen : Seen) (from next : ℕ) (old mid now : Option (List ℕ)) (o : Option NodeRef)
    → Writing e size image left from old mid → left ≡ (addr, seen) ∷ rest → expanded_node e size image (addr, seen) ≡ o
    → MatchOption o ((now ≡ mid) × (next ≡ from)) (λ n. Appends mid now (form_piece e size from (canonical e n)) × (next ≡ end_after size from (length (canonical e n))) × IsCursor size next)
    → Writing e size image rest next old now
next_by e size image left rest addr seen from next old mid now None before is gives put =
    let at : Writing e size image rest from old mid = writing_past e size image left rest addr seen from old mid before is gives in
    subst (λ (k : ℕ). Writing e size image rest k old now) (sym put.1) (subst (Writing e size image rest from old) (sym put.0) at)
next_by e size image left rest addr seen from next old mid now (Some n) before is gives put =
    writing_next e size image left rest addr seen from next old mid now (canonical e n) n before is gives refl put.0 put.1 put.2

pub tile_next : (e : Endian) (size : ℕ) (image : List ℕ) (left rest : List (ℕ × Seen)) (addr : ℕ) (seen : Seen) (from next : ℕ) (old mid now : Option (List ℕ)) (before after : ℕ)
    → Writing e size image left from old mid → left ≡ (addr, seen) ∷ rest → PutsTile e size image (addr, seen) from (record { old = mid; new = now; before = before; now = after }) (Ok next)
    → Writing e size image rest next old now
tile_next e size image left rest addr seen from next old mid now before after at is put =
    next_by e size image left rest addr seen from next old mid now (expanded_node e size image (addr, seen)) at is refl put.0

-- a fault at a tile leaves a beginning
pub tile_failed : (e : Endian) (size : ℕ) (image : List ℕ) (left rest : List (ℕ × Seen)) (addr : ℕ) (seen : Seen) (from : ℕ) (old mid now : Option (List ℕ)) (start before after : ℕ) (f : ConvertFault)
    → Writing e size image left from old mid → left ≡ (addr, seen) ∷ rest → before ≡ start
    → PutsTile e size image (addr, seen) from (record { old = mid; new = now; before = before; now = after }) (Err f) → WritesConverted {T = Unit {0}} e size image (record { old = old; new = now; before = start; now = after }) (Err f)
tile_failed e size image left rest addr seen from old mid now start before after fault.Sink at is same put = (
  writing_failed e size image left rest addr seen from old mid now (canonical e put.0.0) put.0.0 at is put.0.1 refl put.0.2,
  put.1 ∙ ap next_count same,
)
tile_failed e size image left rest addr seen from old mid now start before after fault.OutOfMemory at is same put = (
  writing_begun e size image left from old now (subst (Writing e size image left from old) (sym put.0) at),
  put.1 ∙ same,
)
tile_failed e size image left rest addr seen from old mid now start before after fault.BlockSize at is same put = put
tile_failed e size image left rest addr seen from old mid now start before after fault.TooLarge at is same put = put
tile_failed e size image left rest addr seen from old mid now start before after (fault.Incompatible a t) at is same put = put
tile_failed e size image left rest addr seen from old mid now start before after (fault.Compressed a t) at is same put = put
tile_failed e size image left rest addr seen from old mid now start before after (fault.Data a) at is same put = put
tile_failed e size image left rest addr seen from old mid now start before after (fault.TooLong a) at is same put = put
tile_failed e size image left rest addr seen from old mid now start before after fault.ReadOnly at is same put = put
tile_failed e size image left rest addr seen from old mid now start before after fault.Geometry at is same put = put
tile_failed e size image left rest addr seen from old mid now start before after (fault.Full a b) at is same put = put

-- before the first tile
pub writing_start : (e : Endian) (size : ℕ) (image : List ℕ) (old : Option (List ℕ)) → fault_among e size image (sightings e size image) ≡ None
    → Writing e size image (sightings e size image) 0 old old
writing_start e size image old none = record {
  among = λ s has. has;
  none = none;
  done = [];
  appended = Appends-nil old;
  whole = refl;
  cursor = (omega arith, refl);
}

-- the tile at hand is one of the image
pub head_written : (e : Endian) (size : ℕ) (image : List ℕ) (left rest : List (ℕ × Seen)) (addr : ℕ) (seen : Seen) (from : ℕ) (old now : Option (List ℕ))
    → Writing e size image left from old now → left ≡ (addr, seen) ∷ rest → Contains (sightings e size image) (addr, seen)
head_written e size image left rest addr seen from old now before is =
    before.among (addr, seen) (subst (λ (l : List (ℕ × Seen)). Contains l (addr, seen)) (sym is) (Contains-here (addr, seen) rest))
