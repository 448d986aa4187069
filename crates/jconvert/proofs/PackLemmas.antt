-- What stands for a node, and the forms that go out for all of them.
use Rattle.std.proofs.Common.{◌≡◌, ℕ, zero, suc, ◌+◌, ◌*◌, ◌%◌, ◌<◌, ◌≤◌, ◌==◌, ◌≢◌, Bool, true, false, cond, List, [], ◌∷◌, ◌++◌, length, map, take, length-append, slice_index, refl, sym, ap, subst, ◌∙◌, arith, Option, None, Some, Ok, Err, Contains, inl, inr, ◌⊎◌, ⊎_elim, append_assoc, IsTrue}
use Rattle.std.specs.Prelude.{Result, IsErrAnd, IsFalse, option_and_then, not, nat_lt}
use Rattle.std.specs.List.{cons_option, AllByRecursion}
use Rattle.std.specs.Option.{option_or}
use Rattle.std.specs.Io.KnownBytes.{Appends}
use Rattle.std.proofs.KnownBytes.{Appends-nil, Appends-trans}
use Rattle.std.proofs.Math.Seq.{take-append_seam}
use Rattle.std.proofs.lemmas.Bool.{eqb-true, eq-eqb, cases_Bool, cases_lt, cond-true, cond-false}
use Rattle.std.proofs.lemmas.List.{append-nil}
use Rattle.flashbase.specs.Bytes.{pad4_of}
use Rattle.flashbase.specs.Device.{PutsPart, next_count}
use Rattle.flashbase.proofs.BytesLemmas.{le_pad4, pad4_words, pad4_least}
use Rattle.flashbase.proofs.MemberLemmas.{Contains-here, Contains-there}
use Rattle.flashbase.proofs.DeviceLemmas.{part_before, part_behind}
use Rattle.jnode.specs.Compressed.{canonical_compressed, FitsCompressed, IsWritableCompressed}
use Rattle.jnode.specs.Header.{header_len}
use Rattle.jnode.specs.Reading.{inode_len}
use Rattle.jnode.specs.Writing.{canonical, filled, totlen_most}
use Rattle.jnode.specs.declared.node.CompressedNode.{CompressedNode}
use Rattle.jnode.specs.declared.node.Fill.{Fill}
use Rattle.jnode.specs.declared.node.Fill.TheVariants.{Data}
use Rattle.jnode.specs.declared.node.InodeNode.{InodeNode}
use Rattle.jnode.specs.declared.node.NodeRef.{NodeRef}
use Rattle.jnode.specs.declared.node.NodeRef.TheVariants as node
use Rattle.jnode.specs.declared.node.Seen.{Seen}
use Rattle.jnode.specs.declared.node.Seen.TheVariants as seen
use Rattle.jnode.specs.declared.order.Endian.{Endian}
use Rattle.jcompr.specs.Answer.{of_length}
use Rattle.jcompr.specs.Content.{method_of}
use Rattle.jcompr.specs.Zlib.{zlib_of}
use Rattle.jcompr.specs.declared.method.Method.TheVariants.{Zlib}
use Rattle.jmount.specs.Tree.{type_bits, regular_bits}
use Rattle.jexpand.specs.Expanded.{unpacked, node_content, with_content, expanded_node, expanded_nodes}
use Rattle.jexpand.specs.Answers.{IsTileFault}
use Rattle.jexpand.specs.Refused.{node_fault, nodes_fault, fault_among}
use Rattle.jexpand.specs.declared.fault.ConvertFault.{ConvertFault}
use Rattle.jexpand.specs.declared.fault.ConvertFault.TheVariants as fault
use Rattle.jnode.specs.Compressed.{compressed_front}
use Rattle.jnode.specs.Order.{bytes_in}
use Rattle.jnode.specs.Writing.{header_bytes}
use Rattle.jnode.specs.declared.order.Endian.TheVariants.{Little, Big}
use Rattle.jnode.proofs.CompressedLemmas.{length-canonical_compressed}
use Rattle.jnode.proofs.WritingLemmas.{canonical_long, canonical_is_not_erased}
use Rattle.jscan.specs.Image.{is_block_size, greatest_image, sightings}
use Rattle.jscan.specs.Scans.{IsScannable}
use Rattle.jlog.specs.Places.{end_after}
use Rattle.jlog.specs.Output.{output}
use Rattle.jlog.specs.Laws.{FitsBlock}
use Rattle.jlog.proofs.IntactLemmas.{output_is_long}
use Rattle.jexpand.specs.Expanded.{node_length}
use Rattle.jexpand.proofs.NodeLemmas.{accepted_long}
use Rattle.jconvert.specs.Converting.{convert_fault, flash_fault}
use Rattle.jconvert.specs.Putting.{PutsForm, form_piece}
use Rattle.jconvert.specs.PuttingPacked.{IsFormFor, IsMadeFor, PutsMade, PutsPacked, WritesPacked}
use Rattle.jconvert.specs.Tallying.{IsCursor}
use Rattle.jconvert.proofs.CallLemmas.{size_most, tile_fault}
use Rattle.jconvert.proofs.JudgeLemmas.{both_none, flash_decides, if_false, no_less}
use Rattle.jconvert.proofs.TallyLemmas.{nodes_of_tiles, length_form}
use Rattle.jlog.specs.Packed.{StandsFor, IsPackedForm}
use Rattle.jconvert.specs.Compressing.{packed_as, AreFormsFor, PutsPackedPart, packed_number, pack_fault, pack_fault_among, compress_fault, Compresses}

-- ---- one node

none_long : (bytes : List ℕ) → length bytes ≡ 0 → [] ≡ bytes
none_long [] is = refl
none_long (b ∷ bytes) is = absurd (omega arith)

content_of_length : (bytes stream : List ℕ) → zlib_of (length bytes) stream ≡ Some bytes → unpacked (length bytes) stream Zlib ≡ Some bytes
content_of_length bytes stream gives =
    ap (option_and_then (of_length (length bytes))) gives ∙ cond-true (length bytes == length bytes) (Some bytes) None (eq-eqb (length bytes) (length bytes) refl)

-- data that give the bytes of a node are its content
packed_content : (inode : InodeNode) (stream bytes : List ℕ) → inode.dsize ≡ length bytes → zlib_of (length bytes) stream ≡ Some bytes
    → node_content (packed_as inode stream) ≡ Some bytes
packed_content inode stream bytes size gives =
    let rest : Option (List ℕ) = unpacked inode.dsize stream Zlib in
    let is : node_content (packed_as inode stream) ≡ cond (inode.dsize == 0) (Some []) rest = refl in
    ⊎_elim
    (λ none. is ∙ (cond-true (inode.dsize == 0) (Some []) rest none ∙ ap (λ (xs : List ℕ). Some xs) (none_long bytes (sym size ∙ eqb-true _ _ none))))
    (λ some. is ∙ (cond-false (inode.dsize == 0) (Some []) rest some ∙ (ap (λ (n : ℕ). unpacked n stream Zlib) size ∙ content_of_length bytes stream gives)))
    (cases_Bool (inode.dsize == 0))

expanded_back : (inode : InodeNode) (stream bytes : List ℕ) → inode.fill ≡ Data bytes → with_content (packed_as inode stream) bytes ≡ node.Inode inode
expanded_back inode stream bytes fill =
    let P : Fill → NodeRef = λ f. node.Inode (record { ino = inode.ino; version = inode.version; mode = inode.mode; uid = inode.uid; gid = inode.gid; isize = inode.isize; atime = inode.atime; mtime = inode.mtime; ctime = inode.ctime; offset = inode.offset; dsize = inode.dsize; fill = f }) in
    ap P (sym fill)

pub packed_form : (e : Endian) (inode : InodeNode) (stream bytes form : List ℕ) → inode.fill ≡ Data bytes → inode.dsize ≡ length bytes
    → type_bits inode.mode ≡ regular_bits → zlib_of (length bytes) stream ≡ Some bytes → pad4_of (inode_len + length stream) < pad4_of (inode_len + length bytes)
    → FitsCompressed (packed_as inode stream) → IsWritableCompressed (packed_as inode stream) → form ≡ canonical_compressed e (packed_as inode stream)
    → IsPackedForm e (node.Inode inode) form
packed_form e inode stream bytes form fill size regular gives shorter fits writable is = (
  packed_as inode stream,
  record {
    bytes = bytes;
    content = packed_content inode stream bytes size gives;
    expanded = expanded_back inode stream bytes fill;
    method = refl;
    regular = regular;
    shorter = shorter;
    fits = fits;
    writable = writable;
  },
  is,
)

-- ---- one tile

pub plain_fault : (e : Endian) (size : ℕ) (image : List ℕ) (addr : ℕ) (s : Seen) → packed_number s ≡ None → pack_fault e size image (addr, s) ≡ node_fault e size image (addr, s)
plain_fault e size image addr (seen.Compressed compr) is = absurd (cc)
plain_fault e size image addr (seen.Entry entry) is = refl
plain_fault e size image addr (seen.Inode inode) is = refl
plain_fault e size image addr seen.Marker is = refl
plain_fault e size image addr seen.Padding is = refl
plain_fault e size image addr seen.Obsolete is = refl
plain_fault e size image addr seen.Attribute is = refl
plain_fault e size image addr (seen.Skippable t) is = refl
plain_fault e size image addr (seen.ReadOnly t) is = refl
plain_fault e size image addr (seen.Incompatible t) is = refl
plain_fault e size image addr (seen.Damaged q) is = refl

pub packed_fault : (e : Endian) (size : ℕ) (image : List ℕ) (addr compr : ℕ) (s : Seen) → packed_number s ≡ Some compr
    → pack_fault e size image (addr, s) ≡ Some (fault.Compressed addr compr)
packed_fault e size image addr compr (seen.Compressed c) is = let same : c ≡ compr = cc in ap (λ (n : ℕ). Some (fault.Compressed addr n)) same
packed_fault e size image addr compr (seen.Entry entry) is = absurd (cc)
packed_fault e size image addr compr (seen.Inode inode) is = absurd (cc)
packed_fault e size image addr compr seen.Marker is = absurd (cc)
packed_fault e size image addr compr seen.Padding is = absurd (cc)
packed_fault e size image addr compr seen.Obsolete is = absurd (cc)
packed_fault e size image addr compr seen.Attribute is = absurd (cc)
packed_fault e size image addr compr (seen.Skippable t) is = absurd (cc)
packed_fault e size image addr compr (seen.ReadOnly t) is = absurd (cc)
packed_fault e size image addr compr (seen.Incompatible t) is = absurd (cc)
packed_fault e size image addr compr (seen.Damaged q) is = absurd (cc)

-- ---- the forms of all nodes

-- each node's own form is one for it
pub own_forms : (e : Endian) (ns : List NodeRef) → AreFormsFor e ns (map (canonical e) ns) 0
own_forms e [] = refl
own_forms e (n ∷ ns) = inl (refl, own_forms e ns)

-- ---- while they are put

-- what went out so far, and the tiles that are left
pub record Packed (e : Endian) (size : ℕ) (image : List ℕ) (left : List (ℕ × Seen)) (from changed : ℕ) (old now : Option (List ℕ)) : Type 0 where
  pub among : (s : ℕ × Seen) → Contains left s → Contains (sightings e size image) s
  pub none : fault_among e size image left ≡ None
  pub forms : List (List ℕ)
  pub done : List ℕ
  pub appended : Appends old now done
  pub fills : (rest : List (List ℕ)) (k : ℕ) → AreFormsFor e (nodes_of_tiles e size image left) rest k
      → AreFormsFor e (expanded_nodes e size image) (forms ++ rest) (changed + k)
  pub whole : (rest : List (List ℕ)) → output e size 0 (forms ++ rest) ≡ done ++ output e size from rest
  pub long : from ≡ length done
  pub cursor : IsCursor size from

pub packed_start : (e : Endian) (size : ℕ) (image : List ℕ) (left : List (ℕ × Seen)) (old : Option (List ℕ)) → left ≡ sightings e size image
    → fault_among e size image (sightings e size image) ≡ None → Packed e size image left 0 0 old old
packed_start e size image left old is none =
    record {
      among = λ s has. subst (λ (l : List (ℕ × Seen)). Contains l s) is has;
      none = ap (fault_among e size image) is ∙ none;
      forms = [];
      done = [];
      appended = Appends-nil old;
      fills = λ rest k filled.
          let same : k ≡ 0 + k = omega arith in
          subst (AreFormsFor e (expanded_nodes e size image) rest) same
          (subst (λ (l : List (ℕ × Seen)). AreFormsFor e (nodes_of_tiles e size image l) rest k) is filled);
      whole = λ rest. refl;
      long = refl;
      cursor = (omega arith, refl);
    }

-- a packed form fits a block, as the node's own does
packed_not_erased : (e : Endian) (packed : CompressedNode) → slice_index (canonical_compressed e packed) 0 ≢ 0xFF
unfolding canonical_compressed compressed_front header_bytes bytes_in
packed_not_erased Little packed same = omega arith
packed_not_erased Big packed same = omega arith

-- fewer words are fewer bytes
pub fewer_words : (a b : ℕ) → pad4_of a < pad4_of b → a ≤ b
fewer_words a b less = elim (cases_lt b a) [
  | inl over ↦
      let up : pad4_of b ≤ pad4_of a = pad4_least b (pad4_of a) (omega (arith, over, le_pad4 a)) (pad4_words a) in
      absurd (omega (arith, up, less))
  | inr not ↦ omega (arith, not)
]

pub packed_fits : (e : Endian) (size : ℕ) (n : NodeRef) (form : List ℕ) → header_len + node_length n ≤ size → IsPackedForm e n form → FitsBlock size form
packed_fits e size n form within is =
    let packed : CompressedNode = is.0 in
    let stands : StandsFor packed n = is.1 in
    let long : length form ≡ inode_len + length packed.data = ap (λ (xs : List ℕ). length xs) is.2 ∙ length-canonical_compressed e packed in
    let plain : node_length n ≡ inode_len + length stands.bytes = sym (ap node_length stands.expanded) in
    let fewer : inode_len + length packed.data ≤ inode_len + length stands.bytes = fewer_words (inode_len + length packed.data) (inode_len + length stands.bytes) stands.shorter in
    record {
      some = omega (arith, long);
      written = subst (λ (xs : List ℕ). slice_index xs 0 ≢ 0xFF) (sym is.2) (packed_not_erased e packed);
      within = omega (arith, long, plain, fewer, within);
    }

own_fits : (e : Endian) (size : ℕ) (n : NodeRef) (form : List ℕ) → header_len + node_length n ≤ size → form ≡ canonical e n → FitsBlock size form
own_fits e size n form within is =
    let long : length form ≡ node_length n = ap (λ (xs : List ℕ). length xs) is ∙ length_form e n in
    let least = canonical_long e n in
    record {
      some = omega (arith, long, least, length_form e n);
      written = subst (λ (xs : List ℕ). slice_index xs 0 ≢ 0xFF) (sym is) (canonical_is_not_erased e n);
      within = omega (arith, long, within);
    }

pub form_fits : (e : Endian) (size : ℕ) (n : NodeRef) (form : List ℕ) (is_packed : Bool) → header_len + node_length n ≤ size → IsFormFor e n form is_packed → FitsBlock size form
form_fits e size n form is_packed within (inl packed) = packed_fits e size n form within packed.1
form_fits e size n form is_packed within (inr own) = own_fits e size n form within own.1

piece_long : (e : Endian) (size from : ℕ) (form : List ℕ) → size % 4 ≡ 0 → FitsBlock size form
    → from + length (form_piece e size from form) ≡ end_after size from (length form)
piece_long e size from form words fits =
    let all = output_is_long e size from (form ∷ []) words (fits, tt) in
    ap (λ (xs : List ℕ). from + length xs) (sym (append-nil (form_piece e size from form))) ∙ all

-- one form more
one_more : (e : Endian) (n : NodeRef) (ns : List NodeRef) (form : List ℕ) (rest : List (List ℕ)) (is_packed : Bool) (k : ℕ) → IsFormFor e n form is_packed
    → AreFormsFor e ns rest k → AreFormsFor e (n ∷ ns) (form ∷ rest) (cond is_packed 1 0 + k)
one_more e n ns form rest true k (inl packed) filled = inr (packed.1, (k, omega arith, filled))
one_more e n ns form rest true k (inr own) filled = absurd (cc)
one_more e n ns form rest false k (inl packed) filled = absurd (cc)
one_more e n ns form rest false k (inr own) filled =
    let same : k ≡ 0 + k = omega arith in
    inl (own.1, subst (AreFormsFor e ns rest) same filled)

nodes_next : (e : Endian) (size : ℕ) (image : List ℕ) (left rest : List (ℕ × Seen)) (s : ℕ × Seen) (o : Option NodeRef) → left ≡ s ∷ rest → expanded_node e size image s ≡ o
    → nodes_of_tiles e size image left ≡ cons_option o (nodes_of_tiles e size image rest)
nodes_next e size image left rest s o is gives =
    ap (nodes_of_tiles e size image) is ∙ ap (λ (p : Option NodeRef). cons_option p (nodes_of_tiles e size image rest)) gives

rest_of : (e : Endian) (size : ℕ) (image : List ℕ) (left rest : List (ℕ × Seen)) (s : ℕ × Seen) → left ≡ s ∷ rest → fault_among e size image left ≡ None
    → (node_fault e size image s ≡ None) × (fault_among e size image rest ≡ None)
rest_of e size image left rest s is none = both_none (node_fault e size image s) (fault_among e size image rest) (sym (ap (fault_among e size image) is) ∙ none)

among_rest : (e : Endian) (size : ℕ) (image : List ℕ) (left rest : List (ℕ × Seen)) (s : ℕ × Seen) → left ≡ s ∷ rest
    → ((t : ℕ × Seen) → Contains left t → Contains (sightings e size image) t) → (t : ℕ × Seen) → Contains rest t → Contains (sightings e size image) t
among_rest e size image left rest s is all t has =
    all t (subst (λ (l : List (ℕ × Seen)). Contains l t) (sym is) (Contains-there s rest t has))

packed_past : (e : Endian) (size : ℕ) (image : List ℕ) (left rest : List (ℕ × Seen)) (s : ℕ × Seen) (from changed : ℕ) (old now : Option (List ℕ))
    → Packed e size image left from changed old now → left ≡ s ∷ rest → expanded_node e size image s ≡ None → Packed e size image rest from changed old now
packed_past e size image left rest s from changed old now at is gives =
    let same : nodes_of_tiles e size image left ≡ nodes_of_tiles e size image rest = nodes_next e size image left rest s None is gives in
    record {
      among = among_rest e size image left rest s is at.among;
      none = (rest_of e size image left rest s is at.none).1;
      forms = at.forms;
      done = at.done;
      appended = at.appended;
      fills = λ more k filled. at.fills more k (subst (λ (ns : List NodeRef). AreFormsFor e ns more k) (sym same) filled);
      whole = at.whole;
      long = at.long;
      cursor = at.cursor;
    }

packed_more : (e : Endian) (size : ℕ) (image : List ℕ) (left rest : List (ℕ × Seen)) (s : ℕ × Seen) (from changed next : ℕ) (old mid now : Option (List ℕ)) (n : NodeRef) (form : List ℕ) (is_packed : Bool)
    → size % 4 ≡ 0 → Packed e size image left from changed old mid → left ≡ s ∷ rest → expanded_node e size image s ≡ Some n → IsFormFor e n form is_packed
    → Appends mid now (form_piece e size from form) → next ≡ end_after size from (length form) → IsCursor size next
    → Packed e size image rest next (changed + cond is_packed 1 0) old now
packed_more e size image left rest s from changed next old mid now n form is_packed words at is gives made put next_is cursor =
    let same : nodes_of_tiles e size image left ≡ n ∷ nodes_of_tiles e size image rest = nodes_next e size image left rest s (Some n) is gives in
    let piece : List ℕ = form_piece e size from form in
    let none = rest_of e size image left rest s is at.none in
    let within : header_len + node_length n ≤ size = accepted_long e size image s.0 s.1 n none.0 gives in
    let fits : FitsBlock size form = form_fits e size n form is_packed within made in
    let longer : from + length piece ≡ end_after size from (length form) = piece_long e size from form words fits in
    let size_of : length (at.done ++ piece) ≡ length at.done + length piece = length-append at.done piece in
    let was = at.long in
    let one : ℕ = cond is_packed 1 0 in
    record {
      among = among_rest e size image left rest s is at.among;
      none = none.1;
      forms = at.forms ++ form ∷ [];
      done = at.done ++ piece;
      appended = Appends-trans old mid now at.done piece at.appended put;
      fills = λ more k filled.
          let all = at.fills (form ∷ more) (one + k) (subst (λ (ns : List NodeRef). AreFormsFor e ns (form ∷ more) (one + k)) (sym same)
          (one_more e n (nodes_of_tiles e size image rest) form more is_packed k made filled)) in
          let count : changed + (one + k) ≡ (changed + one) + k = omega arith in
          subst (λ (fs : List (List ℕ)). AreFormsFor e (expanded_nodes e size image) fs ((changed + one) + k)) (sym (append_assoc at.forms (form ∷ []) more))
          (subst (AreFormsFor e (expanded_nodes e size image) (at.forms ++ form ∷ more)) count all);
      whole = λ more. ap (output e size 0) (append_assoc at.forms (form ∷ []) more) ∙ (at.whole (form ∷ more)
          ∙ (sym (append_assoc at.done piece (output e size (end_after size from (length form)) more))
          ∙ ap (λ (k : ℕ). (at.done ++ piece) ++ output e size k more) (sym next_is)));
      long = omega (arith, longer, size_of, was, next_is);
      cursor = cursor;
    }

made_next : (e : Endian) (size : ℕ) (image : List ℕ) (left rest : List (ℕ × Seen)) (s : ℕ × Seen) (from changed : ℕ) (old mid now : Option (List ℕ)) (o : Option NodeRef) (done : ℕ × Bool)
    → size % 4 ≡ 0 → Packed e size image left from changed old mid → left ≡ s ∷ rest → expanded_node e size image s ≡ o → PutsMade e size o from mid now done
    → Packed e size image rest done.0 (changed + cond done.1 1 0) old now
made_next e size image left rest s from changed old mid now None done words at is gives put =
    let past : Packed e size image rest from changed old mid = packed_past e size image left rest s from changed old mid at is gives in
    let count : changed ≡ changed + cond done.1 1 0 = omega arith ∙ ap (λ (b : Bool). changed + cond b 1 0) (sym put.2) in
    subst (λ (k : ℕ). Packed e size image rest done.0 k old now) count
    (subst (λ (k : ℕ). Packed e size image rest k changed old now) (sym put.1) (subst (Packed e size image rest from changed old) (sym put.0) past))
made_next e size image left rest s from changed old mid now (Some n) done words at is gives put =
    packed_more e size image left rest s from changed done.0 old mid now n put.0 done.1 words at is gives put.1 put.2 put.3 put.4

pub packed_next : (e : Endian) (size : ℕ) (image : List ℕ) (left rest : List (ℕ × Seen)) (s : ℕ × Seen) (from changed : ℕ) (old mid now : Option (List ℕ)) (before after : ℕ) (done : ℕ × Bool)
    → size % 4 ≡ 0 → Packed e size image left from changed old mid → left ≡ s ∷ rest → PutsPacked e size (expanded_node e size image s) from (record { old = mid; new = now; before = before; now = after }) (Ok done)
    → Packed e size image rest done.0 (changed + cond done.1 1 0) old now
packed_next e size image left rest s from changed old mid now before after done words at is put =
    made_next e size image left rest s from changed old mid now (expanded_node e size image s) done words at is refl put.0

-- the tile at hand is one of the image, of which no fault is known
pub packed_head : (e : Endian) (size : ℕ) (image : List ℕ) (left rest : List (ℕ × Seen)) (s : ℕ × Seen) (from changed : ℕ) (old now : Option (List ℕ))
    → Packed e size image left from changed old now → left ≡ s ∷ rest → Contains (sightings e size image) s
packed_head e size image left rest s from changed old now at is =
    at.among s (subst (λ (l : List (ℕ × Seen)). Contains l s) (sym is) (Contains-here s rest))

pub packed_sound : (e : Endian) (size : ℕ) (image : List ℕ) (left rest : List (ℕ × Seen)) (s : ℕ × Seen) (from changed : ℕ) (old now : Option (List ℕ))
    → Packed e size image left from changed old now → left ≡ s ∷ rest → node_fault e size image s ≡ None
packed_sound e size image left rest s from changed old now at is = (rest_of e size image left rest s is at.none).0

-- ---- at the end

beginning : (a b : Option (List ℕ)) (done rest whole : List ℕ) → whole ≡ done ++ rest → Appends a b done → PutsPart a b whole
beginning a b done rest whole is put =
    (length done, subst (λ (l : List ℕ). Appends a b l) (sym (ap (take (length done)) is ∙ take-append_seam done rest)) put)

part_of_more : (a b : Option (List ℕ)) (xs rest whole : List ℕ) → whole ≡ xs ++ rest → PutsPart a b xs → PutsPart a b whole
part_of_more a b xs rest whole is part = subst (PutsPart a b) (sym is) (part_before a b xs rest part)

pub packed_begun : (e : Endian) (size : ℕ) (image : List ℕ) (left : List (ℕ × Seen)) (from changed : ℕ) (old now : Option (List ℕ))
    → Packed e size image left from changed old now → PutsPackedPart e size image old now
packed_begun e size image left from changed old now at =
    let rest : List (List ℕ) = map (canonical e) (nodes_of_tiles e size image left) in (
      output e size 0 (at.forms ++ rest),
      changed + 0,
      (at.forms ++ rest, at.fills rest 0 (own_forms e (nodes_of_tiles e size image left)), refl),
      beginning old now at.done (output e size from rest) (output e size 0 (at.forms ++ rest)) (at.whole rest) at.appended,
    )

pub packed_end : (e : Endian) (size : ℕ) (image : List ℕ) (left : List (ℕ × Seen)) (from changed : ℕ) (old now : Option (List ℕ)) (before after : ℕ)
    → (bytes : ℕ) → Packed e size image left from changed old now → left ≡ [] → after ≡ before → bytes ≡ from → WritesPacked e size image (record { old = old; new = now; before = before; now = after }) (Ok (changed, bytes))
packed_end e size image left from changed old now before after bytes at is same all_out =
    let nothing : nodes_of_tiles e size image left ≡ [] = ap (nodes_of_tiles e size image) is in
    let all = at.fills [] 0 (subst (λ (ns : List NodeRef). AreFormsFor e ns [] 0) (sym nothing) refl) in
    let forms_is : at.forms ++ [] ≡ at.forms = append-nil at.forms in
    let count : changed + 0 ≡ changed = omega arith in
    let out : output e size 0 at.forms ≡ at.done =
    ap (output e size 0) (sym forms_is) ∙ (at.whole [] ∙ append-nil at.done) in (
      (
        output e size 0 at.forms,
        (
          at.forms,
          subst (AreFormsFor e (expanded_nodes e size image) at.forms) count
              (subst (λ (fs : List (List ℕ)). AreFormsFor e (expanded_nodes e size image) fs (changed + 0)) forms_is all),
          refl,
        ),
        subst (Appends old now) (sym out) at.appended,
        all_out ∙ (at.long ∙ ap (λ (xs : List ℕ). length xs) (sym out)),
      ),
      same,
    )

-- a fault at a tile leaves a beginning
sunk : (e : Endian) (size : ℕ) (image : List ℕ) (left rest : List (ℕ × Seen)) (s : ℕ × Seen) (from changed : ℕ) (old mid now : Option (List ℕ)) (n : NodeRef) (form : List ℕ) (is_packed : Bool)
    → Packed e size image left from changed old mid → left ≡ s ∷ rest → expanded_node e size image s ≡ Some n → IsFormFor e n form is_packed
    → PutsPart mid now (form_piece e size from form) → PutsPackedPart e size image old now
sunk e size image left rest s from changed old mid now n form is_packed at is gives made part =
    let own : List (List ℕ) = map (canonical e) (nodes_of_tiles e size image rest) in
    let same : nodes_of_tiles e size image left ≡ n ∷ nodes_of_tiles e size image rest = nodes_next e size image left rest s (Some n) is gives in
    let k : ℕ = cond is_packed 1 0 + 0 in
    let piece : List ℕ = form_piece e size from form in
    let behind : List ℕ = output e size (end_after size from (length form)) own in
    let out : output e size 0 (at.forms ++ form ∷ own) ≡ (at.done ++ piece) ++ behind =
    at.whole (form ∷ own) ∙ sym (append_assoc at.done piece behind) in (
      output e size 0 (at.forms ++ form ∷ own),
      changed + k,
      (
        at.forms ++ form ∷ own,
        at.fills (form ∷ own) k (subst (λ (ns : List NodeRef). AreFormsFor e ns (form ∷ own) k) (sym same)
            (one_more e n (nodes_of_tiles e size image rest) form own is_packed 0 made (own_forms e (nodes_of_tiles e size image rest)))),
        refl,
      ),
      part_of_more old now (at.done ++ piece) behind (output e size 0 (at.forms ++ form ∷ own)) out
          (part_behind old mid now at.done piece at.appended part),
    )

pub packed_failed : (e : Endian) (size : ℕ) (image : List ℕ) (left rest : List (ℕ × Seen)) (s : ℕ × Seen) (from changed : ℕ) (old mid now : Option (List ℕ)) (start before after : ℕ) (f : ConvertFault)
    → Packed e size image left from changed old mid → left ≡ s ∷ rest → before ≡ start → PutsPacked e size (expanded_node e size image s) from (record { old = mid; new = now; before = before; now = after }) (Err f)
    → WritesPacked e size image (record { old = old; new = now; before = start; now = after }) (Err f)
packed_failed e size image left rest s from changed old mid now start before after fault.Sink at is same put = (
  sunk e size image left rest s from changed old mid now put.0.0 put.0.2.0 put.0.2.1 at is put.0.1 put.0.2.2 put.0.2.3,
  put.1 ∙ ap next_count same,
)
packed_failed e size image left rest s from changed old mid now start before after fault.OutOfMemory at is same put = (
  packed_begun e size image left from changed old now (subst (Packed e size image left from changed old) (sym put.0) at),
  put.1 ∙ same,
)
packed_failed e size image left rest s from changed old mid now start before after fault.BlockSize at is same put = put
packed_failed e size image left rest s from changed old mid now start before after fault.TooLarge at is same put = put
packed_failed e size image left rest s from changed old mid now start before after (fault.Incompatible a t) at is same put = put
packed_failed e size image left rest s from changed old mid now start before after (fault.Compressed a t) at is same put = put
packed_failed e size image left rest s from changed old mid now start before after (fault.Data a) at is same put = put
packed_failed e size image left rest s from changed old mid now start before after (fault.TooLong a) at is same put = put
packed_failed e size image left rest s from changed old mid now start before after fault.ReadOnly at is same put = put
packed_failed e size image left rest s from changed old mid now start before after fault.Geometry at is same put = put
packed_failed e size image left rest s from changed old mid now start before after (fault.Full a b) at is same put = put

-- ---- while tiles are accepted

-- the tiles that are left, whose fault is that of all of them
pub record Accepting (e : Endian) (size : ℕ) (image : List ℕ) (left : List (ℕ × Seen)) : Type 0 where
  pub scannable : IsScannable size image
  pub among : (s : ℕ × Seen) → Contains left s → Contains (sightings e size image) s
  pub plain : pack_fault_among e size image (sightings e size image) ≡ pack_fault_among e size image left
  pub none : fault_among e size image (sightings e size image) ≡ fault_among e size image left

pub accepting_start : (e : Endian) (size : ℕ) (image : List ℕ) (left : List (ℕ × Seen)) → IsScannable size image → left ≡ sightings e size image → Accepting e size image left
accepting_start e size image left is all = record {
  scannable = is;
  among = λ s has. subst (λ (l : List (ℕ × Seen)). Contains l s) all has;
  plain = ap (pack_fault_among e size image) (sym all);
  none = ap (fault_among e size image) (sym all);
}

pub accepting_head : (e : Endian) (size : ℕ) (image : List ℕ) (left rest : List (ℕ × Seen)) (addr : ℕ) (seen : Seen) → Accepting e size image left → left ≡ (addr, seen) ∷ rest
    → Contains (sightings e size image) (addr, seen)
accepting_head e size image left rest addr seen at is =
    at.among (addr, seen) (subst (λ (l : List (ℕ × Seen)). Contains l (addr, seen)) (sym is) (Contains-here (addr, seen) rest))

pub accepting_next : (e : Endian) (size : ℕ) (image : List ℕ) (left rest : List (ℕ × Seen)) (s : ℕ × Seen) → Accepting e size image left → left ≡ s ∷ rest
    → pack_fault e size image s ≡ None → node_fault e size image s ≡ None → Accepting e size image rest
accepting_next e size image left rest s at is plain none = record {
  scannable = at.scannable;
  among = among_rest e size image left rest s is at.among;
  plain = at.plain ∙ (ap (pack_fault_among e size image) is ∙ ap (λ (o : Option ConvertFault). option_or o (pack_fault_among e size image rest)) plain);
  none = at.none ∙ (ap (fault_among e size image) is ∙ ap (λ (o : Option ConvertFault). option_or o (fault_among e size image rest)) none);
}

-- of an image that can be scanned its nodes decide, and then the flash
scanned_pack : (e : Endian) (size : ℕ) (image : List ℕ) → IsScannable size image
    → compress_fault e size image ≡ option_or (pack_fault_among e size image (sightings e size image)) (flash_fault e size image)
scanned_pack e size image is =
    if_false (not (is_block_size size)) (Some fault.BlockSize) _ (ap not is.0)
    ∙ if_false (nat_lt greatest_image (length image)) (Some fault.TooLarge) _ (no_less greatest_image (length image) is.1)

-- the first of the tiles that are left refuses the image
pub accepting_refused : (e : Endian) (size : ℕ) (image : List ℕ) (left rest : List (ℕ × Seen)) (s : ℕ × Seen) (f : ConvertFault) → Accepting e size image left → left ≡ s ∷ rest
    → IsTileFault (pack_fault e size image s) f → f ≢ fault.OutOfMemory → compress_fault e size image ≡ Some f
accepting_refused e size image left rest s f at is has other =
    let first : pack_fault e size image s ≡ Some f = tile_fault (pack_fault e size image s) f has other in
    scanned_pack e size image at.scannable
    ∙ ap (λ (o : Option ConvertFault). option_or o (flash_fault e size image))
    (at.plain ∙ (ap (pack_fault_among e size image) is ∙ ap (λ (o : Option ConvertFault). option_or o (pack_fault_among e size image rest)) first))

pub accepting_end : (e : Endian) (size : ℕ) (image : List ℕ) (left : List (ℕ × Seen)) → Accepting e size image left → left ≡ []
    → (pack_fault_among e size image (sightings e size image) ≡ None) × (fault_among e size image (sightings e size image) ≡ None)
accepting_end e size image left at is = (at.plain ∙ ap (pack_fault_among e size image) is, at.none ∙ ap (fault_among e size image) is)

-- where its nodes do not refuse an image, the same does that refuses to decompress it
pub refused_as : (e : Endian) (size : ℕ) (image : List ℕ) (o : Option ConvertFault) → IsScannable size image → pack_fault_among e size image (sightings e size image) ≡ None
    → nodes_fault e size image ≡ None → convert_fault e size image ≡ o → compress_fault e size image ≡ o
refused_as e size image o is plain none h =
    scanned_pack e size image is
    ∙ (ap (λ (p : Option ConvertFault). option_or p (flash_fault e size image)) plain
    ∙ (sym (flash_decides e size image is none) ∙ h))

-- ---- putting one tile

pub made_form : (e : Endian) (o : Option NodeRef) (form : List ℕ) (is_one is_packed : Bool) → IsMadeFor e o form is_one is_packed → IsTrue is_one
    → (n : NodeRef) × (o ≡ Some n) × IsFormFor e n form is_packed
made_form e (Some n) form is_one is_packed is one = (n, refl, is.1)
made_form e None form is_one is_packed is one = let clash : true ≡ false = sym one ∙ is in absurd (cc)

pub made_small : (e : Endian) (size : ℕ) (image : List ℕ) (s : ℕ × Seen) (form : List ℕ) (is_one is_packed : Bool) → IsTrue (is_block_size size) → node_fault e size image s ≡ None
    → IsMadeFor e (expanded_node e size image s) form is_one is_packed → IsTrue is_one → length form ≤ totlen_most
made_small e size image s form is_one is_packed size_is none made one =
    let it = made_form e (expanded_node e size image s) form is_one is_packed made one in
    let within = accepted_long e size image s.0 s.1 it.0 none it.1 in
    let fits : FitsBlock size form = form_fits e size it.0 form is_packed within it.2 in
    let most = size_most size size_is in
    omega (arith, fits.within, most)

-- a fault of putting the form is one of the tile
pub made_failed : (e : Endian) (size : ℕ) (image : List ℕ) (s : ℕ × Seen) (from : ℕ) (old new : Option (List ℕ)) (before now : ℕ) (f : ConvertFault) (form : List ℕ) (is_one is_packed : Bool)
    → IsMadeFor e (expanded_node e size image s) form is_one is_packed → IsTrue is_one → PutsForm e size from form (record { old = old; new = new; before = before; now = now }) (Err f)
    → PutsPacked e size (expanded_node e size image s) from (record { old = old; new = new; before = before; now = now }) (Err f)
made_failed e size image s from old new before now fault.Sink form is_one is_packed made one put =
    let it = made_form e (expanded_node e size image s) form is_one is_packed made one in
    ((it.0, it.1, (form, is_packed, it.2, put.0)), put.1)
made_failed e size image s from old new before now fault.OutOfMemory form is_one is_packed made one put = put
made_failed e size image s from old new before now fault.BlockSize form is_one is_packed made one put = put
made_failed e size image s from old new before now fault.TooLarge form is_one is_packed made one put = put
made_failed e size image s from old new before now (fault.Incompatible a t) form is_one is_packed made one put = put
made_failed e size image s from old new before now (fault.Compressed a t) form is_one is_packed made one put = put
made_failed e size image s from old new before now (fault.Data a) form is_one is_packed made one put = put
made_failed e size image s from old new before now (fault.TooLong a) form is_one is_packed made one put = put
made_failed e size image s from old new before now fault.ReadOnly form is_one is_packed made one put = put
made_failed e size image s from old new before now fault.Geometry form is_one is_packed made one put = put
made_failed e size image s from old new before now (fault.Full a b) form is_one is_packed made one put = put

-- a call that put nothing for want of memory
pub nothing_written : (e : Endian) (size : ℕ) (image : List ℕ) (old : Option (List ℕ)) (n : ℕ) (r : Result (ℕ × ℕ) ConvertFault) (f : ConvertFault) → nodes_fault e size image ≡ None
    → IsErrAnd r (λ (given : ConvertFault). given ≡ f) → f ≡ fault.OutOfMemory → WritesPacked e size image (record { old = old; new = old; before = n; now = n }) r
nothing_written e size image old n (Ok done) f none is out = absurd is
nothing_written e size image old n (Err given) f none is out =
    let same : given ≡ fault.OutOfMemory = is ∙ out in
    subst (λ (g : ConvertFault). WritesPacked e size image (record { old = old; new = old; before = n; now = n }) (Err g)) (sym same)
    (packed_begun e size image (sightings e size image) 0 0 old old (packed_start e size image (sightings e size image) old refl none), refl)

-- a count that is too great is blamed on memory, after its node went out
pub count_failed : (e : Endian) (size : ℕ) (image : List ℕ) (left rest : List (ℕ × Seen)) (s : ℕ × Seen) (from changed : ℕ) (old mid now : Option (List ℕ)) (start before after : ℕ) (done : ℕ × Bool)
    (r : Result (ℕ × ℕ) ConvertFault) (f : ConvertFault) → size % 4 ≡ 0 → Packed e size image left from changed old mid → left ≡ s ∷ rest → before ≡ start
    → PutsPacked e size (expanded_node e size image s) from (record { old = mid; new = now; before = before; now = after }) (Ok done) → IsErrAnd r (λ (given : ConvertFault). given ≡ f) → f ≡ fault.OutOfMemory → WritesPacked e size image (record { old = old; new = now; before = start; now = after }) r
count_failed e size image left rest s from changed old mid now start before after done (Ok x) f words at is same put fails out = absurd fails
count_failed e size image left rest s from changed old mid now start before after done (Err given) f words at is same put fails out =
    let memory : given ≡ fault.OutOfMemory = fails ∙ out in
    subst (λ (g : ConvertFault). WritesPacked e size image (record { old = old; new = now; before = start; now = after }) (Err g)) (sym memory) (
      packed_begun e size image rest done.0 (changed + cond done.1 1 0) old now (packed_next e size image left rest s from changed old mid now before after done words at is put),
      put.1 ∙ same,
    )

-- ---- the call

pub nothing_put : (e : Endian) (size : ℕ) (image : List ℕ) (old : Option (List ℕ)) → PutsPackedPart e size image old old
nothing_put e size image old =
    let own : List (List ℕ) = map (canonical e) (expanded_nodes e size image) in
    (output e size 0 own, 0, (own, own_forms e (expanded_nodes e size image), refl), (0, Appends-nil old))

-- an image that is refused
pub not_compressed : (e : Endian) (size : ℕ) (image : List ℕ) (old : Option (List ℕ)) (n : ℕ) (f : ConvertFault) → (f ≢ fault.OutOfMemory → compress_fault e size image ≡ Some f)
    → f ≢ fault.Sink → Compresses e size image (record { old = old; new = old; before = n; now = n }) (Err f)
not_compressed e size image old n fault.Sink is other = absurd (other refl)
not_compressed e size image old n fault.OutOfMemory is other = (nothing_put e size image old, refl)
not_compressed e size image old n fault.BlockSize is other = (is (λ h. cc), refl, refl)
not_compressed e size image old n fault.TooLarge is other = (is (λ h. cc), refl, refl)
not_compressed e size image old n (fault.Incompatible a t) is other = (is (λ h. cc), refl, refl)
not_compressed e size image old n (fault.Compressed a t) is other = (is (λ h. cc), refl, refl)
not_compressed e size image old n (fault.Data a) is other = (is (λ h. cc), refl, refl)
not_compressed e size image old n (fault.TooLong a) is other = (is (λ h. cc), refl, refl)
not_compressed e size image old n fault.ReadOnly is other = (is (λ h. cc), refl, refl)
not_compressed e size image old n fault.Geometry is other = (is (λ h. cc), refl, refl)
not_compressed e size image old n (fault.Full a b) is other = (is (λ h. cc), refl, refl)

-- one of which a beginning went out
pub compressed_in_part : (e : Endian) (size : ℕ) (image : List ℕ) (old new : Option (List ℕ)) (before now : ℕ) (f : ConvertFault) → compress_fault e size image ≡ None
    → WritesPacked e size image (record { old = old; new = new; before = before; now = now }) (Err f) → Compresses e size image (record { old = old; new = new; before = before; now = now }) (Err f)
compressed_in_part e size image old new before now fault.Sink none put = (none, put.0, put.1)
compressed_in_part e size image old new before now fault.OutOfMemory none put = put
compressed_in_part e size image old new before now fault.BlockSize none put = absurd put
compressed_in_part e size image old new before now fault.TooLarge none put = absurd put
compressed_in_part e size image old new before now (fault.Incompatible a t) none put = absurd put
compressed_in_part e size image old new before now (fault.Compressed a t) none put = absurd put
compressed_in_part e size image old new before now (fault.Data a) none put = absurd put
compressed_in_part e size image old new before now (fault.TooLong a) none put = absurd put
compressed_in_part e size image old new before now fault.ReadOnly none put = absurd put
compressed_in_part e size image old new before now fault.Geometry none put = absurd put
compressed_in_part e size image old new before now (fault.Full a b) none put = absurd put
