-- A form of a node may be written where the node may, and gives the node.
use Rattle.std.proofs.Common.{◌≡◌, ◌≢◌, ℕ, zero, suc, ◌+◌, ◌%◌, ◌^◌, ◌<◌, ◌≤◌, false, List, [], ◌∷◌, ◌++◌, length, filter_map, take, refl, sym, ap, ap₂, subst, ◌∙◌, arith, Option, None, Some, option_map, inl, inr, length-append, map}
use Rattle.std.specs.List.{AllByRecursion, cons_option, flat_map}
use Rattle.std.specs.Option.{is_none}
use Rattle.std.proofs.lemmas.Bool.{cases_lt}
use Rattle.flashbase.specs.Bytes.{pad4_of}
use Rattle.flashbase.proofs.BytesLemmas.{le_pad4, pad4_words, pad4_least}
use Rattle.jnode.specs.Compressed.{canonical_compressed, compressed_of, ReadsCompressedNode}
use Rattle.jnode.specs.Header.{header_len}
use Rattle.jnode.specs.Reading.{inode_len, seen_of, ReadsCompressed}
use Rattle.jnode.specs.Weak.{is_sound}
use Rattle.jnode.specs.Writing.{canonical, filled}
use Rattle.jnode.specs.declared.node.CompressedNode.{CompressedNode}
use Rattle.jnode.specs.declared.node.NodeRef.{NodeRef}
use Rattle.jnode.specs.declared.node.NodeRef.TheVariants as node
use Rattle.jnode.specs.declared.node.Seen.{Seen}
use Rattle.jnode.specs.declared.node.Seen.TheVariants as seen
use Rattle.jnode.specs.declared.order.Endian.{Endian}
use Rattle.jnode.proofs.CompressedLemmas.{compressed_is_tile, compressed_reads_back, length-canonical_compressed}
use Rattle.jnode.proofs.HeaderLemmas.{good_found}
use Rattle.jnode.proofs.ReadingLemmas.{seen_compressed}
use Rattle.jnode.proofs.TileLemmas.{IsHeaded, tile_headed}
use Rattle.jnode.proofs.WritingLemmas.{length-filled, length-canonical_entry, length-canonical_inode}
use Rattle.jcompr.specs.Content.{method_of}
use Rattle.jexpand.specs.Expanded.{node_content, with_content, node_length}
use Rattle.jexpand.specs.Refused.{too_long, compressed_fault}
use Rattle.jexpand.proofs.NodeLemmas.{content_long, compressed_ok}
use Rattle.jlog.specs.LeftLaws.{IsStorable, IsLoggable, sighting_of}
use Rattle.jlog.specs.Forms.{IsLoggableForm}
use Rattle.jlog.specs.Packed.{StandsFor, IsNodeForm, AreNodeForms}
use Rattle.jview.specs.Through.{content_by, node_by, fault_by}
use Rattle.jlog.specs.Through.{form_content, form_node, IsReadForm}
use Rattle.jnode.proofs.FormLemmas.{tile_is_form}
use Rattle.jlog.proofs.SightLemmas.{node_is_form, whole_seen}

-- what a form of a node has that goes out for it
pub record Carries (e : Endian) (size : ℕ) (n : NodeRef) (form : List ℕ) : Type 0 where
  pub loggable : IsLoggableForm e size form
  pub read : IsReadForm e size form
  pub gives : form_node e form ≡ Some n

-- ---- a node's own

by_sighting : (size addr : ℕ) (packed : CompressedNode) (x : NodeRef) → (node_by packed (sighting_of (addr, x)).1 ≡ Some x) × (fault_by size addr packed (sighting_of (addr, x)).1 ≡ None)
by_sighting size addr packed (node.Entry entry) = (refl, refl)
by_sighting size addr packed (node.Inode inode) = (refl, refl)

own_carries : (e : Endian) (size : ℕ) (x : NodeRef) → IsLoggable e size x → Carries e size x (canonical e x)
own_carries e size x ok =
    let form : List ℕ = canonical e x in
    let packed : CompressedNode = compressed_of e (filled form) in
    let small : length form < 2 ^ 32 = omega (arith, ok.plain.0) in
    let stored : IsStorable e size x = record { fits = ok.fits; writable = ok.writable; room = ok.room } in
    let is = λ (addr : ℕ). ap (λ (s : ℕ × Seen). s.1) (whole_seen e addr x size stored small) in
    record {
      loggable = record { is = node_is_form e size x stored small; plain = ok.plain; room = ok.room };
      read = λ addr. ap (fault_by size addr packed) (is addr) ∙ (by_sighting size addr packed x).1;
      gives = ap (node_by packed) (is 0) ∙ (by_sighting size 0 packed x).0;
    }

-- ---- that of a compressed node that stands for it

packed_seen : (e : Endian) (packed : CompressedNode) (n : NodeRef) → StandsFor packed n → length (canonical_compressed e packed) < 2 ^ 32
    → seen_of e (filled (canonical_compressed e packed)) ≡ seen.Compressed packed.compr
packed_seen e packed n stands small =
    let bytes : List ℕ = filled (canonical_compressed e packed) in
    let is = compressed_is_tile e packed [] small in
    let words : length (bytes ++ []) % 4 ≡ 0 = omega (arith, length-append bytes [], length-filled (canonical_compressed e packed), pad4_words (length (canonical_compressed e packed))) in
    let headed : IsHeaded e bytes = subst (IsHeaded e) is.tile (tile_headed e (bytes ++ []) (good_found e (bytes ++ []) is.good) words) in
    let reads : ReadsCompressedNode e bytes packed = compressed_reads_back e packed stands.fits stands.writable in
    let it : ReadsCompressed e bytes packed.compr = record {
      sound = reads.sound;
      compression = ap (λ (c : CompressedNode). c.compr) reads.fields;
      not_none = reads.not_none;
      not_zero = reads.not_zero;
    } in
    (seen_compressed e bytes packed.compr headed).1 it

pub fewer_words : (a b : ℕ) → pad4_of a < pad4_of b → a ≤ b
fewer_words a b less = elim (cases_lt b a) [
  | inl over ↦
      let up : pad4_of b ≤ pad4_of a = pad4_least b (pad4_of a) (omega (arith, over, le_pad4 a)) (pad4_words a) in
      absurd (omega (arith, up, less))
  | inr not ↦ omega (arith, not)
]

short : (size addr len : ℕ) → header_len + len ≤ size → too_long size addr len ≡ None
short size addr len within = search (arith, within)

pub canonical_length : (e : Endian) (n : NodeRef) → length (canonical e n) ≡ node_length n
canonical_length e (node.Entry entry) = length-canonical_entry e entry
canonical_length e (node.Inode inode) = length-canonical_inode e inode

packed_carries : (e : Endian) (size : ℕ) (n : NodeRef) (packed : CompressedNode) → IsLoggable e size n → StandsFor packed n → length (canonical_compressed e packed) ≢ 6533
    → Carries e size n (canonical_compressed e packed)
packed_carries e size n packed ok stands plain =
    let form : List ℕ = canonical_compressed e packed in
    let long : length form ≡ inode_len + length packed.data = length-canonical_compressed e packed in
    let own : length (canonical e n) ≡ inode_len + length stands.bytes = canonical_length e n ∙ sym (ap node_length stands.expanded) in
    let fewer : inode_len + length packed.data ≤ inode_len + length stands.bytes = fewer_words (inode_len + length packed.data) (inode_len + length stands.bytes) stands.shorter in
    let few : length form < 65536 = omega (arith, long, own, fewer, ok.plain.0) in
    let room : header_len + length form ≤ size = omega (arith, long, own, fewer, ok.room) in
    let is : seen_of e (filled form) ≡ seen.Compressed packed.compr = packed_seen e packed n stands (omega (arith, few)) in
    let fields : compressed_of e (filled form) ≡ packed = sym (compressed_reads_back e packed stands.fits stands.writable).fields in
    let ranged : length stands.bytes ≡ packed.dsize = content_long packed stands.bytes stands.content in
    let within : header_len + (inode_len + packed.dsize) ≤ size = omega (arith, own, ok.room, ranged) in
    let method : is_none (method_of packed.compr) ≡ false = ap (λ (k : ℕ). is_none (method_of k)) stands.method in
    let accepted : (addr : ℕ) → compressed_fault size addr packed ≡ None = λ addr.
    (compressed_ok size addr packed stands.bytes (Some (inode_len + packed.dsize)) method (short size addr (inode_len + packed.dsize) within) refl stands.content).0 in
    let given : option_map (with_content packed) (node_content packed) ≡ Some n =
    ap (option_map (with_content packed)) stands.content ∙ ap (λ (m : NodeRef). Some m) stands.expanded in
    record {
      loggable = record {
        is = tile_is_form e form (omega (arith, long)) (compressed_is_tile e packed [] (omega (arith, few))) (ap is_sound is);
        plain = (few, plain);
        room = room;
      };
      read = λ addr. ap₂ (λ (c : CompressedNode) (s : Seen). fault_by size addr c s) fields is ∙ accepted addr;
      gives = ap₂ (λ (c : CompressedNode) (s : Seen). node_by c s) fields is ∙ given;
    }

-- ---- either

pub form_carries : (e : Endian) (size : ℕ) (n : NodeRef) (form : List ℕ) → IsLoggable e size n → IsNodeForm e n form → Carries e size n form
form_carries e size n form ok (inl own) = subst (Carries e size n) (sym own) (own_carries e size n ok)
form_carries e size n form ok (inr (is, plain)) =
    subst (Carries e size n) (sym is.2) (packed_carries e size n is.0 ok is.1 (subst (λ (f : List ℕ). length f ≢ 6533) is.2 plain))

-- ---- all of them

pub record AllCarry (e : Endian) (size : ℕ) (ns : List NodeRef) (forms : List (List ℕ)) : Type 0 where
  pub loggable : AllByRecursion (IsLoggableForm e size) forms
  pub read : AllByRecursion (IsReadForm e size) forms
  pub gives : (m : ℕ) → filter_map (form_node e) (take m forms) ≡ take m ns

carry_first : (e : Endian) (n : NodeRef) (ns : List NodeRef) (form : List ℕ) (forms : List (List ℕ)) → form_node e form ≡ Some n → ((m : ℕ) → filter_map (form_node e) (take m forms) ≡ take m ns)
    → (m : ℕ) → filter_map (form_node e) (take m (form ∷ forms)) ≡ take m (n ∷ ns)
carry_first e n ns form forms one rest zero = refl
carry_first e n ns form forms one rest (suc m) = ap₂ (λ (o : Option NodeRef) (l : List NodeRef). cons_option o l) one (rest m)

carry_none : (e : Endian) (m : ℕ) → filter_map (form_node e) (take m []) ≡ take m []
carry_none e zero = refl
carry_none e (suc m) = refl

pub forms_carry : (e : Endian) (size : ℕ) (ns : List NodeRef) (forms : List (List ℕ)) → AllByRecursion (IsLoggable e size) ns → AreNodeForms e ns forms → AllCarry e size ns forms
forms_carry e size [] [] ok are = record { loggable = tt; read = tt; gives = carry_none e }
forms_carry e size [] (form ∷ forms) ok are = absurd are
forms_carry e size (n ∷ ns) [] ok are = absurd are
forms_carry e size (n ∷ ns) (form ∷ forms) ok are =
    let one = form_carries e size n form ok.0 are.0 in
    let rest = forms_carry e size ns forms ok.1 are.1 in
    record { loggable = (one.loggable, rest.loggable); read = (one.read, rest.read); gives = carry_first e n ns form forms one.gives rest.gives }

-- ---- a node's own form has no content

no_content : (addr : ℕ) (packed : CompressedNode) (x : NodeRef) → content_by packed (sighting_of (addr, x)).1 ≡ []
no_content addr packed (node.Entry entry) = refl
no_content addr packed (node.Inode inode) = refl

pub own_contents : (e : Endian) (size : ℕ) (ns : List NodeRef) → AllByRecursion (IsLoggable e size) ns → flat_map (form_content e) (map (canonical e) ns) ≡ []
own_contents e size [] ok = refl
own_contents e size (x ∷ xs) ok =
    let form : List ℕ = canonical e x in
    let packed : CompressedNode = compressed_of e (filled form) in
    let small : length form < 2 ^ 32 = omega (arith, ok.0.plain.0) in
    let stored : IsStorable e size x = record { fits = ok.0.fits; writable = ok.0.writable; room = ok.0.room } in
    let one : form_content e form ≡ [] = ap (λ (s : ℕ × Seen). content_by packed s.1) (whole_seen e 0 x size stored small) ∙ no_content 0 packed x in
    ap₂ (λ (a b : List ℕ). a ++ b) one (own_contents e size xs ok.1)
