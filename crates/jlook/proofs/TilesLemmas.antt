-- Which of some tiles refuses an image first, and at which address.
use Rattle.std.proofs.Common.{◌≡◌, ℕ, ◌+◌, ◌<◌, ◌≤◌, Bool, true, false, cond, List, [], ◌∷◌, ◌++◌, None, Some, Option, refl, sym, ap, ap₂, subst, ◌∙◌, arith, inl, inr, ⊎_elim, Contains, nat_le, Err}
use Rattle.std.specs.Option.{is_none, option_or}
use Rattle.std.proofs.lemmas.Bool.{cases_lt}
use Rattle.std.proofs.lemmas.List.Elements.{Contains-append_right}
use Rattle.std.proofs.lemmas.Option.{same_Some, none-some}
use Rattle.flashbase.proofs.MemberLemmas.{Contains-here}
use Rattle.jnode.specs.Reading.{inode_len}
use Rattle.jnode.specs.Header.{header_len}
use Rattle.jnode.specs.declared.node.CompressedNode.{CompressedNode}
use Rattle.jnode.specs.declared.node.Seen.{Seen}
use Rattle.jnode.specs.declared.node.Seen.TheVariants as seen
use Rattle.jnode.specs.declared.order.Endian.{Endian}
use Rattle.jscan.specs.Scans.{IsScannable}
use Rattle.jcompr.specs.Content.{method_of}
use Rattle.jexpand.specs.Expanded.{node_content, compressed_node_at}
use Rattle.jexpand.specs.Refused.{compressed_fault}
use Rattle.jexpand.specs.declared.fault.ConvertFault.{ConvertFault}
use Rattle.jexpand.specs.declared.fault.ConvertFault.TheVariants as convert
use Rattle.jmount.proofs.FaultLemmas.{Rises}
use Rattle.jview.specs.Through.{through_fault}
use Rattle.jthrough.specs.Refusals.{IsRefusedBy}
use Rattle.jthrough.specs.declared.fault.ViewFault.{ViewFault}
use Rattle.jthrough.specs.declared.fault.ViewFault.TheVariants as fault
use Rattle.jthrough.proofs.RefusalLemmas.{AreHeld, none_of_held}
use Rattle.jlook.specs.Looks.{IsTilesFaultAt, IsFirstTilesFaultAt, AnswersTiles}

-- ---- a fault of a tile has its address

fault_address : ConvertFault → Option ℕ
fault_address (convert.Incompatible addr nodetype) = Some addr
fault_address (convert.Compressed addr compr) = Some addr
fault_address (convert.Data addr) = Some addr
fault_address (convert.TooLong addr) = Some addr
fault_address _ = None

judged : ℕ → ℕ → Bool → Bool → Bool → Option ConvertFault
judged addr compr unread fits empty =
    cond unread (Some (convert.Compressed addr compr))
    (option_or (cond fits None (Some (convert.TooLong addr))) (cond empty (Some (convert.Data addr)) None))

judged_at : (addr compr : ℕ) (unread fits empty : Bool) (f : ConvertFault) → judged addr compr unread fits empty ≡ Some f → fault_address f ≡ Some addr
unfolding judged fault_address
judged_at addr compr true fits empty f is = ap fault_address (sym (same_Some (convert.Compressed addr compr) f is))
judged_at addr compr false false empty f is = ap fault_address (sym (same_Some (convert.TooLong addr) f is))
judged_at addr compr false true true f is = ap fault_address (sym (same_Some (convert.Data addr) f is))
judged_at addr compr false true false f is = absurd (none-some f is)

compressed_at : (size addr : ℕ) (node : CompressedNode) (f : ConvertFault) → compressed_fault size addr node ≡ Some f → fault_address f ≡ Some addr
unfolding judged
compressed_at size addr node f is =
    judged_at addr node.compr (is_none (method_of node.compr)) (nat_le (header_len + (inode_len + node.dsize)) size) (is_none (node_content node)) f is

fault_at : (e : Endian) (size : ℕ) (image : List ℕ) (s : ℕ × Seen) (f : ConvertFault) → through_fault e size image s ≡ Some f → fault_address f ≡ Some s.0
unfolding fault_address
fault_at e size image (addr, seen.Incompatible nodetype) f is = ap fault_address (sym (same_Some (convert.Incompatible addr nodetype) f is))
fault_at e size image (addr, seen.Compressed compr) f is = compressed_at size addr (compressed_node_at e size image addr) f is
fault_at e size image (addr, seen.Entry entry) f is = absurd (none-some f is)
fault_at e size image (addr, seen.Inode inode) f is = absurd (none-some f is)
fault_at e size image (addr, seen.Marker) f is = absurd (none-some f is)
fault_at e size image (addr, seen.Padding) f is = absurd (none-some f is)
fault_at e size image (addr, seen.Obsolete) f is = absurd (none-some f is)
fault_at e size image (addr, seen.Attribute) f is = absurd (none-some f is)
fault_at e size image (addr, seen.Skippable nodetype) f is = absurd (none-some f is)
fault_at e size image (addr, seen.ReadOnly nodetype) f is = absurd (none-some f is)
fault_at e size image (addr, seen.Damaged which) f is = absurd (none-some f is)

same_address : (f : ConvertFault) (addr at : ℕ) → fault_address f ≡ Some addr → fault_address f ≡ Some at → addr ≡ at
same_address f addr at one other = same_Some addr at (sym one ∙ other)

-- ---- two splits of a list whose addresses ascend

-- what is below the one behind some is among these
split_inside : (before after front behind : List (ℕ × Seen)) (s t : ℕ × Seen) → Rises (before ++ s ∷ after) → before ++ s ∷ after ≡ front ++ t ∷ behind → t.0 < s.0
    → (middle : List (ℕ × Seen)) × (before ≡ front ++ t ∷ middle)
split_inside [] after [] behind s t up is lt =
    let same : s ≡ t = cc in
    let here : s.0 ≡ t.0 = ap (λ (u : ℕ × Seen). u.0) same in
    absurd (omega (arith, here, lt))
split_inside [] after (y ∷ front) behind s t up is lt =
    let tail : after ≡ front ++ t ∷ behind = cc in
    let above : s.0 < t.0 = up.0 t (subst (λ (l : List (ℕ × Seen)). Contains l t) (sym tail) (Contains-append_right front (t ∷ behind) t (Contains-here t behind))) in
    absurd (omega (arith, above, lt))
split_inside (x ∷ before) after [] behind s t up is lt =
    let head : x ≡ t = cc in
    (before, ap (λ (u : ℕ × Seen). u ∷ before) head)
split_inside (x ∷ before) after (y ∷ front) behind s t up is lt =
    let head : x ≡ y = cc in
    let tail : before ++ s ∷ after ≡ front ++ t ∷ behind = cc in
    let deep = split_inside before after front behind s t up.1 tail lt in
    (deep.0, ap₂ (λ (u : ℕ × Seen) (l : List (ℕ × Seen)). u ∷ l) head deep.1)

module _ (e : Endian) (size : ℕ) (image : List ℕ) (tiles : List (ℕ × Seen)) (up : Rises tiles) where
  -- the first tile that refuses the image has the least address
  first_fault_at : (before after : List (ℕ × Seen)) (s : ℕ × Seen) (why : ViewFault) → IsScannable size image → tiles ≡ before ++ s ∷ after → AreHeld e size image before
      → IsRefusedBy e size image before s why → IsFirstTilesFaultAt e size image tiles s.0 why
  first_fault_at before after s why scannable all held refused = (scannable, (before, s, after, all, refl, refused), least)
    where
      least : (at : ℕ) (other : ViewFault) → IsTilesFaultAt e size image tiles at other → s.0 ≤ at
      least at other (front, t, behind, split, is, here) =
          ⊎_elim
          (λ lt.
          let inside = split_inside before after front behind s t (subst Rises all up) (sym all ∙ split) lt in
          absurd (none_of_held e size image front inside.0 t other (subst (AreHeld e size image) inside.1 held) here))
          (λ le. omega (arith, le, is))
          (cases_lt t.0 s.0)

  pub refused_answers : (before after : List (ℕ × Seen)) (s : ℕ × Seen) (why : ViewFault) → IsScannable size image → tiles ≡ before ++ s ∷ after → AreHeld e size image before
      → IsRefusedBy e size image before s why → AnswersTiles e size image tiles (Err why)
  unfolding fault_address
  refused_answers before after s why scannable all held refused = by_fault why refused (first_fault_at before after s why scannable all held refused)
    where
      moved : (addr : ℕ) (f : ViewFault) → addr ≡ s.0 → IsFirstTilesFaultAt e size image tiles s.0 f → IsFirstTilesFaultAt e size image tiles addr f
      moved addr f is first = subst (λ (a : ℕ). IsFirstTilesFaultAt e size image tiles a f) (sym is) first

      own : (f : ConvertFault) (addr : ℕ) → fault_address f ≡ Some addr → through_fault e size image s ≡ Some f → addr ≡ s.0
      own f addr here is = same_address f addr s.0 here (fault_at e size image s f is)

      by_fault : (f : ViewFault) → IsRefusedBy e size image before s f → IsFirstTilesFaultAt e size image tiles s.0 f → AnswersTiles e size image tiles (Err f)
      by_fault (fault.Incompatible addr nodetype) is first = moved addr (fault.Incompatible addr nodetype) (own (convert.Incompatible addr nodetype) addr refl is) first
      by_fault (fault.Compressed addr compr) is first = moved addr (fault.Compressed addr compr) (own (convert.Compressed addr compr) addr refl is) first
      by_fault (fault.Data addr) is first = moved addr (fault.Data addr) (own (convert.Data addr) addr refl is) first
      by_fault (fault.TooLong addr) is first = elim is [
        | inl long ↦ moved addr (fault.TooLong addr) (own (convert.TooLong addr) addr refl long) first
        | inr passes ↦ moved addr (fault.TooLong addr) passes.0 first
      ]
      by_fault (fault.Clash addr) is first = moved addr (fault.Clash addr) is.0 first
      by_fault fault.BlockSize is first = absurd is
      by_fault fault.TooLarge is first = absurd is
      by_fault fault.RootKind is first = absurd is
      by_fault fault.OutOfMemory is first = absurd is
