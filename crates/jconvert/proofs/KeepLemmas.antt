-- Writing an image of nodes, one after another.
use Rattle.std.proofs.Common.{◌≡◌, ℕ, ◌+◌, ◌*◌, ◌<◌, ◌≤◌, drop, slice_index_or, List, [], ◌∷◌, ◌++◌, length, map, take, refl, sym, ap, subst, ◌∙◌, arith, Option, None, Some, Ok, Err, append_assoc, nat_le, inl, inr, ◌⊎◌}
use Rattle.std.specs.Prelude.{Result, IsTrue}
use Rattle.std.specs.Io.KnownBytes.{Appends}
use Rattle.std.proofs.KnownBytes.{Appends-nil, Appends-trans}
use Rattle.std.proofs.Math.ListN.{drop_of_length-le}
use Rattle.std.proofs.Math.Seq.{take-append_seam}
use Rattle.std.proofs.lemmas.Bool.{and_from, le-leb}
use Rattle.std.proofs.lemmas.List.{append-nil, drop_more}
use Rattle.flashbase.specs.Bytes.{pad4_of}
use Rattle.flashbase.specs.Device.{PutsPart, next_count}
use Rattle.flashbase.proofs.BytesLemmas.{le_pad4}
use Rattle.flashbase.proofs.DeviceLemmas.{part_before, part_behind}
use Rattle.jnode.specs.Reading.{entry_len, inode_len}
use Rattle.jnode.specs.Writing.{canonical, stored_bytes, totlen_most, HasNameLength, IsWritable, IsWritableInode}
use Rattle.jnode.specs.declared.node.Dirent.{Dirent}
use Rattle.jnode.specs.declared.node.InodeNode.{InodeNode}
use Rattle.jnode.specs.declared.node.NodeRef.{NodeRef}
use Rattle.jnode.specs.declared.node.NodeRef.TheVariants as node
use Rattle.jnode.specs.declared.writing.WriteFault.{WriteFault}
use Rattle.jnode.specs.declared.writing.WriteFault.TheVariants as write
use Rattle.jnode.proofs.WritingLemmas.{length-canonical_entry, length-canonical_inode}
use Rattle.jnode.specs.declared.order.Endian.{Endian}
use Rattle.jlog.specs.Places.{place_after, end_after, end_of_all, fit}
use Rattle.jlog.specs.Output.{output}
use Rattle.jexpand.specs.declared.fault.ConvertFault.{ConvertFault}
use Rattle.jexpand.specs.declared.fault.ConvertFault.TheVariants as fault
use Rattle.jconvert.specs.Apart.{image_of_nodes, HaveRoom, WritesNodes}
use Rattle.jconvert.specs.Converting.{greatest_blocks}
use Rattle.jconvert.specs.Putting.{form_piece, PutsForm}
use Rattle.jconvert.specs.Tallying.{IsCursor}

-- ---- the written form of a node

pub writable_few : (e : Endian) (node : NodeRef) → IsWritable node → length (canonical e node) ≤ totlen_most
writable_few e (node.Entry d) w = omega (arith, length-canonical_entry e d, w.name.1)
writable_few e (node.Inode n) w = omega (arith, length-canonical_inode e n, w.long)

-- why an entry is not written
pub entry_unwritten : (e : Endian) (d : Dirent) (f : WriteFault) (capacity : ℕ) → (f ≡ write.Name → ¬ HasNameLength d) → (f ≡ write.Data → d.pino ≡ 0)
    → (f ≡ write.OutOfMemory → capacity < entry_len + length d.name) → ¬ IsWritable (node.Entry d) ⊎ (capacity < length (canonical e (node.Entry d)))
entry_unwritten e d write.Name capacity name parent memory = inl (λ w. name refl w.name)
entry_unwritten e d write.Data capacity name parent memory = inl (λ w. let none = parent refl in let some = w.parent in omega arith)
entry_unwritten e d write.OutOfMemory capacity name parent memory = inr (let few = memory refl in omega (arith, few, length-canonical_entry e d))

-- why an inode node is not
pub inode_unwritten : (e : Endian) (n : InodeNode) (f : WriteFault) (capacity : ℕ) → (f ≡ write.Name → ⊥) → (f ≡ write.Data → ¬ IsWritableInode n)
    → (f ≡ write.OutOfMemory → capacity < inode_len + length (stored_bytes n.fill)) → ¬ IsWritable (node.Inode n) ⊎ (capacity < length (canonical e (node.Inode n)))
inode_unwritten e n write.Name capacity name bad memory = absurd (name refl)
inode_unwritten e n write.Data capacity name bad memory = inl (bad refl)
inode_unwritten e n write.OutOfMemory capacity name bad memory = inr (let few = memory refl in omega (arith, few, length-canonical_inode e n))

-- ---- one after another

-- what went out so far, and the nodes that are left
pub record Keeping (e : Endian) (size : ℕ) (all left : List NodeRef) (from : ℕ) (old now : Option (List ℕ)) : Type 0 where
  pub done : List ℕ
  pub appended : Appends old now done
  pub whole : image_of_nodes e size all ≡ done ++ output e size from (map (canonical e) left)
  pub cursor : IsCursor size from
  pub room : IsTrue (fit size (greatest_blocks size) from (map (canonical e) left)) → HaveRoom e size all
  pub ends : end_of_all size 0 (map (canonical e) all) ≡ end_of_all size from (map (canonical e) left)

pub keeping_start : (e : Endian) (size : ℕ) (all left : List NodeRef) (old : Option (List ℕ)) → left ≡ all → Keeping e size all left 0 old old
keeping_start e size all left old is = record {
  done = [];
  appended = Appends-nil old;
  whole = ap (λ (ns : List NodeRef). output e size 0 (map (canonical e) ns)) (sym is);
  cursor = (omega arith, refl);
  room = λ fits. subst (λ (ns : List NodeRef). HaveRoom e size ns) is fits;
  ends = ap (λ (ns : List NodeRef). end_of_all size 0 (map (canonical e) ns)) (sym is);
}

-- what goes out with one node more
piece_more : (e : Endian) (size : ℕ) (all rest : List NodeRef) (n : NodeRef) (from : ℕ) (done : List ℕ)
    → image_of_nodes e size all ≡ done ++ output e size from (map (canonical e) (n ∷ rest))
    → image_of_nodes e size all ≡ (done ++ form_piece e size from (canonical e n)) ++ output e size (end_after size from (length (canonical e n))) (map (canonical e) rest)
piece_more e size all rest n from done whole =
    whole ∙ sym (append_assoc done (form_piece e size from (canonical e n)) (output e size (end_after size from (length (canonical e n))) (map (canonical e) rest)))

pub keeping_next : (e : Endian) (size : ℕ) (all left rest : List NodeRef) (n : NodeRef) (from next : ℕ) (old mid now : Option (List ℕ)) (before after : ℕ)
    → Keeping e size all left from old mid → left ≡ n ∷ rest → PutsForm e size from (canonical e n) (record { old = mid; new = now; before = before; now = after }) (Ok next)
    → Keeping e size all rest next old now
keeping_next e size all left rest n from next old mid now before after was is put =
    let form : List ℕ = canonical e n in
    let len : ℕ = length form in
    let at : Keeping e size all (n ∷ rest) from old mid = subst (λ (l : List NodeRef). Keeping e size all l from old mid) is was in
    let piece : List ℕ = form_piece e size from form in
    let next_is : next ≡ end_after size from len = put.2 in
    let within : place_after size from len + len ≤ greatest_blocks size * size =
    omega (arith, next_is, put.3.0, le_pad4 len) in
    record {
      done = at.done ++ piece;
      appended = Appends-trans old mid now at.done piece at.appended put.0;
      whole = piece_more e size all rest n from at.done at.whole ∙ ap (λ (k : ℕ). (at.done ++ piece) ++ output e size k (map (canonical e) rest)) (sym next_is);
      cursor = put.3;
      room = λ fits. at.room (and_from (nat_le (place_after size from len + len) (greatest_blocks size * size)) (fit size (greatest_blocks size) (end_after size from len) (map (canonical e) rest))
          (le-leb _ _ within) (subst (λ (k : ℕ). IsTrue (fit size (greatest_blocks size) k (map (canonical e) rest))) next_is fits));
      ends = at.ends ∙ ap (λ (k : ℕ). end_of_all size k (map (canonical e) rest)) (sym next_is);
    }

beginning : (a b : Option (List ℕ)) (done rest whole : List ℕ) → whole ≡ done ++ rest → Appends a b done → PutsPart a b whole
beginning a b done rest whole is put =
    (length done, subst (λ (l : List ℕ). Appends a b l) (sym (ap (take (length done)) is ∙ take-append_seam done rest)) put)

keeping_begun : (e : Endian) (size : ℕ) (all left : List NodeRef) (from : ℕ) (old now : Option (List ℕ)) → Keeping e size all left from old now
    → PutsPart old now (image_of_nodes e size all)
keeping_begun e size all left from old now at = beginning old now at.done (output e size from (map (canonical e) left)) (image_of_nodes e size all) at.whole at.appended

keeping_part : (e : Endian) (size : ℕ) (all left rest : List NodeRef) (n : NodeRef) (from : ℕ) (old mid now : Option (List ℕ))
    → Keeping e size all left from old mid → left ≡ n ∷ rest → PutsPart mid now (form_piece e size from (canonical e n)) → PutsPart old now (image_of_nodes e size all)
keeping_part e size all left rest n from old mid now was is part =
    let at : Keeping e size all (n ∷ rest) from old mid = subst (λ (l : List NodeRef). Keeping e size all l from old mid) is was in
    let piece : List ℕ = form_piece e size from (canonical e n) in
    let others : List ℕ = output e size (end_after size from (length (canonical e n))) (map (canonical e) rest) in
    subst (PutsPart old now) (sym (piece_more e size all rest n from at.done at.whole))
    (part_before old now (at.done ++ piece) others (part_behind old mid now at.done piece at.appended part))

-- a fault at a node leaves a beginning
pub keeping_failed : (e : Endian) (size : ℕ) (all left rest : List NodeRef) (n : NodeRef) (from : ℕ) (old mid now : Option (List ℕ)) (start before after : ℕ) (f : ConvertFault)
    → Keeping e size all left from old mid → left ≡ n ∷ rest → before ≡ start → PutsForm e size from (canonical e n) (record { old = mid; new = now; before = before; now = after }) (Err f)
    → WritesNodes e size all (record { old = old; new = now; before = start; now = after }) (Err f)
keeping_failed e size all left rest n from old mid now start before after fault.Sink at is same put =
    (keeping_part e size all left rest n from old mid now at is put.0, put.1 ∙ ap next_count same)
keeping_failed e size all left rest n from old mid now start before after fault.OutOfMemory at is same put =
    (keeping_begun e size all left from old now (subst (Keeping e size all left from old) (sym put.0) at), put.1 ∙ same)
keeping_failed e size all left rest n from old mid now start before after fault.BlockSize at is same put = put
keeping_failed e size all left rest n from old mid now start before after fault.TooLarge at is same put = put
keeping_failed e size all left rest n from old mid now start before after (fault.Incompatible a t) at is same put = put
keeping_failed e size all left rest n from old mid now start before after (fault.Compressed a t) at is same put = put
keeping_failed e size all left rest n from old mid now start before after (fault.Data a) at is same put = put
keeping_failed e size all left rest n from old mid now start before after (fault.TooLong a) at is same put = put
keeping_failed e size all left rest n from old mid now start before after fault.ReadOnly at is same put = put
keeping_failed e size all left rest n from old mid now start before after fault.Geometry at is same put = put
keeping_failed e size all left rest n from old mid now start before after (fault.Full a b) at is same put = put

pub keeping_end : (e : Endian) (size : ℕ) (all left : List NodeRef) (from : ℕ) (old now : Option (List ℕ)) → Keeping e size all left from old now → left ≡ []
    → HaveRoom e size all × Appends old now (image_of_nodes e size all) × (from ≡ end_of_all size 0 (map (canonical e) all))
keeping_end e size all left from old now was is =
    let at : Keeping e size all [] from old now = subst (λ (l : List NodeRef). Keeping e size all l from old now) is was in
    (at.room refl, subst (Appends old now) (sym (at.whole ∙ append-nil at.done)) at.appended, sym at.ends)

-- ---- the nodes of a slice

-- the nodes that are left, and the one at hand
pub slice_left : (ns : List NodeRef) (i : ℕ) (n : NodeRef) → i < length ns → n ≡ slice_index_or ns i n → drop i ns ≡ n ∷ drop (i + 1) ns
slice_left ns i n less is = drop_more ns i n less ∙ ap (λ (m : NodeRef). m ∷ drop (i + 1) ns) (sym is)

pub slice_end : (ns : List NodeRef) (i : ℕ) → length ns ≤ i → drop i ns ≡ []
slice_end ns i past = drop_of_length-le ns past
