-- What is chosen for a node makes a form of it.
use Rattle.std.proofs.Common.{◌≡◌, ℕ, ◌+◌, ◌%◌, ◌^◌, ◌<◌, ◌≤◌, cond, List, [], ◌∷◌, ◌++◌, length, length-append, refl, sym, ap, ap₂, subst, ◌∙◌, arith, Option, None, Some, inr, ⊎_elim}
use Rattle.std.specs.Prelude.{◌==◌, IfOk, Result, Ok, Err, option_and_then, unwrap_or}
use Rattle.std.proofs.lemmas.Bool.{eqb-true, eq-eqb, cases_Bool, cond-true, cond-false}
use Rattle.std.proofs.lemmas.List.{append-nil}
use Rattle.flashbase.proofs.BytesLemmas.{pad4_words}
use Rattle.jcompr.specs.Answer.{of_length}
use Rattle.jcompr.specs.Zlib.{zlib_of}
use Rattle.jcompr.specs.declared.method.Method.TheVariants.{Zlib}
use Rattle.jnode.specs.Compressed.{canonical_compressed, compressed_of, FitsCompressed, IsWritableCompressed, ReadsCompressedNode}
use Rattle.jnode.specs.Reading.{inode_len, seen_of, ReadsCompressed}
use Rattle.jnode.specs.Writing.{canonical, filled, stored_bytes, FitsInode}
use Rattle.jnode.specs.declared.node.CompressedNode.{CompressedNode}
use Rattle.jnode.specs.declared.node.Fill.{Fill}
use Rattle.jnode.specs.declared.node.Fill.TheVariants.{Data}
use Rattle.jnode.specs.declared.node.InodeNode.{InodeNode}
use Rattle.jnode.specs.declared.node.NodeRef.{NodeRef}
use Rattle.jnode.specs.declared.node.NodeRef.TheVariants as node
use Rattle.jnode.specs.declared.node.Seen.{Seen}
use Rattle.jnode.specs.declared.node.Seen.TheVariants as seen
use Rattle.jnode.specs.declared.order.Endian.{Endian}
use Rattle.jnode.proofs.CompressedLemmas.{compressed_is_tile, compressed_reads_back, length-canonical_compressed}
use Rattle.jnode.proofs.HeaderLemmas.{good_found}
use Rattle.jnode.proofs.ReadingLemmas.{seen_compressed}
use Rattle.jnode.proofs.TileLemmas.{IsHeaded, tile_headed}
use Rattle.jnode.proofs.WritingLemmas.{length-filled, length-canonical_inode, writable_is_computed}
use Rattle.jscan.specs.Pages.{IsPage}
use Rattle.jsteps.specs.Laws.{IsPlanned}
use Rattle.jsteps.specs.Nodes.{Indexed, node_of}
use Rattle.jsteps.specs.declared.step.Step.{Step}
use Rattle.jexpand.specs.Expanded.{unpacked, node_content, with_content}
use Rattle.jview.specs.Through.{greatest_contents, content_by}
use Rattle.jlog.specs.Packed.{StandsFor}
use Rattle.jlog.specs.Running.{node_len}
use Rattle.jlog.specs.SessionAs.{content_len}
use Rattle.jlog.specs.Through.{form_content}
use Rattle.jlog.proofs.HeadlineLemmas.{planned_loggable}
use Rattle.jlog.proofs.PackedLemmas.{own_contents, fewer_words}
use Rattle.jlog.proofs.RoomCode.{node_len_is}
use Rattle.jpacked.specs.Forms.{IsStreamOf, IsFileNode, IsOfFile, IsChosen, node_with_stream, form_with, IsMadeOf, content_chosen}

-- ---- the compressed node stands for the node

none_long : (bytes : List ℕ) → length bytes ≡ 0 → [] ≡ bytes
none_long [] is = refl
none_long (b ∷ bytes) is = absurd (omega arith)

content_of_length : (bytes stream : List ℕ) → zlib_of (length bytes) stream ≡ Some bytes → unpacked (length bytes) stream Zlib ≡ Some bytes
content_of_length bytes stream gives =
    ap (option_and_then (of_length (length bytes))) gives ∙ cond-true (length bytes == length bytes) (Some bytes) None (eq-eqb (length bytes) (length bytes) refl)

packed_content : (inode : InodeNode) (stream bytes : List ℕ) → inode.dsize ≡ length bytes → zlib_of (length bytes) stream ≡ Some bytes
    → node_content (node_with_stream inode stream) ≡ Some bytes
packed_content inode stream bytes size gives =
    let rest : Option (List ℕ) = unpacked inode.dsize stream Zlib in
    let is : node_content (node_with_stream inode stream) ≡ cond (inode.dsize == 0) (Some []) rest = refl in
    ⊎_elim
    (λ none. is ∙ (cond-true (inode.dsize == 0) (Some []) rest none ∙ ap (λ (xs : List ℕ). Some xs) (none_long bytes (sym size ∙ eqb-true _ _ none))))
    (λ some. is ∙ (cond-false (inode.dsize == 0) (Some []) rest some ∙ (ap (λ (n : ℕ). unpacked n stream Zlib) size ∙ content_of_length bytes stream gives)))
    (cases_Bool (inode.dsize == 0))

expanded_back : (inode : InodeNode) (stream bytes : List ℕ) → inode.fill ≡ Data bytes → with_content (node_with_stream inode stream) bytes ≡ node.Inode inode
expanded_back inode stream bytes fill =
    let P : Fill → NodeRef = λ f. node.Inode (record { ino = inode.ino; version = inode.version; mode = inode.mode; uid = inode.uid; gid = inode.gid; isize = inode.isize; atime = inode.atime; mtime = inode.mtime; ctime = inode.ctime; offset = inode.offset; dsize = inode.dsize; fill = f }) in
    ap P (sym fill)

stream_fits : (inode : InodeNode) (stream : List ℕ) → FitsInode inode → FitsCompressed (node_with_stream inode stream)
stream_fits inode stream fits = record {
  inode = record {
    ino = fits.ino;
    version = fits.version;
    mode = fits.mode;
    uid = fits.uid;
    gid = fits.gid;
    isize = fits.isize;
    atime = fits.atime;
    mtime = fits.mtime;
    ctime = fits.ctime;
    offset = fits.offset;
    dsize = fits.dsize;
  };
  compr = omega arith;
}

stands : (page : ℕ) (e : Endian) (inode : InodeNode) (bytes stream : List ℕ) → IsPage page → IsPlanned page e (node.Inode inode) → IsFileNode inode bytes → IsStreamOf bytes stream
    → StandsFor (node_with_stream inode stream) (node.Inode inode)
stands page e inode bytes stream is_page planned file packs =
    let own = (writable_is_computed (node.Inode inode)).0 planned.writable in
    let long : length (canonical e (node.Inode inode)) ≡ inode_len + length (stored_bytes inode.fill) = length-canonical_inode e inode in
    let stored : length (stored_bytes inode.fill) ≡ length bytes = ap (λ (f : Fill). length (stored_bytes f)) file.fill in
    let less : inode_len + length stream ≤ inode_len + length bytes = fewer_words _ _ packs.shorter in
    record {
      bytes = bytes;
      content = packed_content inode stream bytes file.long packs.gives;
      expanded = expanded_back inode stream bytes file.fill;
      method = refl;
      regular = file.regular;
      shorter = packs.shorter;
      fits = stream_fits inode stream planned.fits;
      writable = record {
        object = own.object;
        end = own.end;
        long = omega (arith, planned.within, is_page.most, long, stored, less);
        not_none = λ h. omega (arith, h);
        not_zero = λ h. omega (arith, h);
      };
    }

packed_long : (e : Endian) (inode : InodeNode) (stream : List ℕ) → length (canonical_compressed e (node_with_stream inode stream)) ≡ inode_len + length stream
packed_long e inode stream = length-canonical_compressed e (node_with_stream inode stream)

-- what was chosen makes a form
pub chosen_made : (page : ℕ) (e : Endian) (n : NodeRef) (held : ℕ) (stream : List ℕ) → IsPage page → IsPlanned page e n → IsChosen n held stream → IsMadeOf e n stream
chosen_made page e n held [] is_page planned chosen = tt
chosen_made page e n held (b ∷ stream) is_page planned (bytes, (inode, is, file), packs, room) =
    subst (λ (m : NodeRef). IsMadeOf e m (b ∷ stream)) (sym is)
    (inr (
      (node_with_stream inode (b ∷ stream), stands page e inode bytes (b ∷ stream) is_page (subst (IsPlanned page e) is planned) file packs, refl),
      λ h. packs.plain (sym (packed_long e inode (b ∷ stream)) ∙ h),
    ))

pub made_choice : (n : NodeRef) (held : ℕ) (bytes stream : List ℕ) → IsOfFile n bytes → IsStreamOf bytes stream → held + length bytes ≤ greatest_contents → IsChosen n held stream
made_choice n held bytes [] file packs room = tt
made_choice n held bytes (b ∷ stream) file packs room = (bytes, file, packs, room)

-- ---- the content of a form

packed_seen : (e : Endian) (packed : CompressedNode) → FitsCompressed packed → IsWritableCompressed packed → length (canonical_compressed e packed) < 2 ^ 32
    → seen_of e (filled (canonical_compressed e packed)) ≡ seen.Compressed packed.compr
packed_seen e packed fits writable small =
    let bytes : List ℕ = filled (canonical_compressed e packed) in
    let is = compressed_is_tile e packed [] small in
    let words : length (bytes ++ []) % 4 ≡ 0 = omega (arith, length-append bytes [], length-filled (canonical_compressed e packed), pad4_words (length (canonical_compressed e packed))) in
    let headed : IsHeaded e bytes = subst (IsHeaded e) is.tile (tile_headed e (bytes ++ []) (good_found e (bytes ++ []) is.good) words) in
    let reads : ReadsCompressedNode e bytes packed = compressed_reads_back e packed fits writable in
    let it : ReadsCompressed e bytes packed.compr = record {
      sound = reads.sound;
      compression = ap (λ (c : CompressedNode). c.compr) reads.fields;
      not_none = reads.not_none;
      not_zero = reads.not_zero;
    } in
    (seen_compressed e bytes packed.compr headed).1 it

packed_gives : (e : Endian) (packed : CompressedNode) (bytes : List ℕ) → FitsCompressed packed → IsWritableCompressed packed → length (canonical_compressed e packed) < 2 ^ 32 → node_content packed ≡ Some bytes
    → form_content e (canonical_compressed e packed) ≡ bytes
packed_gives e packed bytes fits writable small content =
    let fields : compressed_of e (filled (canonical_compressed e packed)) ≡ packed = sym (compressed_reads_back e packed fits writable).fields in
    ap₂ (λ (c : CompressedNode) (s : Seen). content_by c s) fields (packed_seen e packed fits writable small)
    ∙ ap (λ (o : Option (List ℕ)). unwrap_or o []) content

-- that of what was chosen for a step
pub chosen_content : (page : ℕ) (e : Endian) (x : Indexed) (s : Step) (held : ℕ) (stream : List ℕ) → IsPage page → IsPlanned page e (node_of x s) → IsChosen (node_of x s) held stream
    → content_len e (form_with e (node_of x s) stream ∷ []) ≡ content_chosen s stream
unfolding stands
chosen_content page e x s held [] is_page planned chosen =
    ap length (own_contents e (page + 80) (node_of x s ∷ []) (planned_loggable page e (page + 80) (node_of x s ∷ []) is_page (omega arith) (planned, tt)))
chosen_content page e x s held (b ∷ stream) is_page planned (bytes, (inode, is, file), packs, room) =
    let fine : IsPlanned page e (node.Inode inode) = subst (IsPlanned page e) is planned in
    let it : StandsFor (node_with_stream inode (b ∷ stream)) (node.Inode inode) = stands page e inode bytes (b ∷ stream) is_page fine file packs in
    let long : length (canonical e (node_of x s)) ≡ node_len s = node_len_is e x s in
    let own : length (canonical e (node.Inode inode)) ≡ inode_len + length (stored_bytes inode.fill) = length-canonical_inode e inode in
    let same : length (canonical e (node_of x s)) ≡ length (canonical e (node.Inode inode)) = ap (λ (m : NodeRef). length (canonical e m)) is in
    let stored : length (stored_bytes inode.fill) ≡ length bytes = ap (λ (f : Fill). length (stored_bytes f)) file.fill in
    let less : inode_len + length (b ∷ stream) ≤ inode_len + length bytes = fewer_words _ _ packs.shorter in
    let small : length (canonical_compressed e (node_with_stream inode (b ∷ stream))) < 2 ^ 32 =
    omega (arith, packed_long e inode (b ∷ stream), fine.within, is_page.most, own, stored, less) in
    let gives : form_content e (canonical_compressed e (node_with_stream inode (b ∷ stream))) ≡ bytes = packed_gives e (node_with_stream inode (b ∷ stream)) bytes it.fits it.writable small it.content in
    let form : form_with e (node_of x s) (b ∷ stream) ≡ canonical_compressed e (node_with_stream inode (b ∷ stream)) = ap (λ (m : NodeRef). form_with e m (b ∷ stream)) is in
    let all : content_len e (form_with e (node_of x s) (b ∷ stream) ∷ []) ≡ length bytes =
    ap length (append-nil (form_content e (form_with e (node_of x s) (b ∷ stream)))) ∙ (ap (λ (f : List ℕ). length (form_content e f)) form ∙ ap length gives) in
    omega (arith, all, long, own, same, stored)

-- it fits beside what is held
pub chosen_room : (page : ℕ) (e : Endian) (x : Indexed) (s : Step) (held : ℕ) (stream : List ℕ) → IsPage page → IsPlanned page e (node_of x s) → IsChosen (node_of x s) held stream
    → held ≤ greatest_contents → held + content_chosen s stream ≤ greatest_contents
chosen_room page e x s held [] is_page planned chosen within = omega (arith, within)
chosen_room page e x s held (b ∷ stream) is_page planned (bytes, (inode, is, file), packs, room) within =
    let long : length (canonical e (node_of x s)) ≡ node_len s = node_len_is e x s in
    let own : length (canonical e (node.Inode inode)) ≡ inode_len + length (stored_bytes inode.fill) = length-canonical_inode e inode in
    let same : length (canonical e (node_of x s)) ≡ length (canonical e (node.Inode inode)) = ap (λ (m : NodeRef). length (canonical e m)) is in
    let stored : length (stored_bytes inode.fill) ≡ length bytes = ap (λ (f : Fill). length (stored_bytes f)) file.fill in
    omega (arith, long, own, same, stored, room)

pub none_chosen : (n : NodeRef) (held : ℕ) (t : List ℕ) → t ≡ [] → IsChosen n held t
none_chosen n held t is = subst (IsChosen n held) (sym is) tt

-- a copy of what was packed
pub copy_chosen : {E : Type 0} (n : NodeRef) (held : ℕ) (t : List ℕ) (r : Result (List ℕ) E) → IsChosen n held t → IfOk r (λ copy. copy ≡ t) → IfOk r (IsChosen n held)
copy_chosen n held t (Ok copy) chosen is = subst (IsChosen n held) (sym is) chosen
copy_chosen n held t (Err f) chosen is = tt
