-- Which tile refuses an image first, and at which address.
use Rattle.std.proofs.Common.{◌≡◌, ℕ, ◌+◌, ◌<◌, ◌≤◌, Bool, true, false, cond, List, [], ◌∷◌, ◌++◌, length, None, Some, Option, refl, sym, ap, ap₂, subst, ◌∙◌, arith, append_assoc, length-append, inl, inr, ⊎_elim, Contains, nat_le, Err}
use Rattle.std.specs.Option.{is_none, option_or}
use Rattle.std.proofs.lemmas.Bool.{cases_lt}
use Rattle.std.proofs.lemmas.List.Elements.{Contains-append_left, Contains-append_right, filter_map-append}
use Rattle.std.proofs.lemmas.Option.{same_Some, none-some}
use Rattle.std.proofs.lemmas.Grind.{flat_map-append}
use Rattle.flashbase.proofs.MemberLemmas.{Contains-here, Contains-filter_map}
use Rattle.jnode.specs.Reading.{inode_len}
use Rattle.jnode.specs.Header.{header_len}
use Rattle.jnode.specs.declared.node.CompressedNode.{CompressedNode}
use Rattle.jnode.specs.declared.node.NodeRef.{NodeRef}
use Rattle.jnode.specs.declared.node.Seen.{Seen}
use Rattle.jnode.specs.declared.node.Seen.TheVariants as seen
use Rattle.jnode.specs.declared.order.Endian.{Endian}
use Rattle.jscan.specs.Image.{sightings}
use Rattle.jscan.specs.Scans.{IsScannable}
use Rattle.jscan.proofs.AddressLaws.{sightings_ascend}
use Rattle.jcompr.specs.Content.{method_of}
use Rattle.jexpand.specs.Expanded.{expanded_node, node_content, tile_content, contents_of_tiles, compressed_node_at}
use Rattle.jexpand.specs.Refused.{compressed_fault}
use Rattle.jexpand.specs.declared.fault.ConvertFault.{ConvertFault}
use Rattle.jexpand.specs.declared.fault.ConvertFault.TheVariants as convert
use Rattle.jmount.specs.Clash.{NoneClash}
use Rattle.jmount.proofs.FaultLemmas.{Rises, rises, ascends_from_splits}
use Rattle.jview.specs.Through.{greatest_contents, through_fault}
use Rattle.jthrough.specs.MountsThrough.{IsViewFaultAt, IsFirstViewFaultAt, AnswersThrough, IsNoClash, IsFirstAlone, AnswersAlone}
use Rattle.jthrough.specs.Refusals.{IsRefusedBy, nodes_of_tiles}
use Rattle.jthrough.specs.declared.fault.ViewFault.{ViewFault}
use Rattle.jthrough.specs.declared.fault.ViewFault.TheVariants as fault

-- ---- a fault of a tile has its address

fault_address : ConvertFault → Option ℕ
fault_address (convert.Incompatible addr nodetype) = Some addr
fault_address (convert.Compressed addr compr) = Some addr
fault_address (convert.Data addr) = Some addr
fault_address (convert.TooLong addr) = Some addr
fault_address _ = None

judged : ℕ → ℕ → Bool → Bool → Bool → Option ConvertFault
judged addr compr unread fits empty =
    cond unread (Some (convert.Compressed addr compr))
    (option_or (cond fits None (Some (convert.TooLong addr))) (cond empty (Some (convert.Data addr)) None))

judged_at : (addr compr : ℕ) (unread fits empty : Bool) (f : ConvertFault) → judged addr compr unread fits empty ≡ Some f → fault_address f ≡ Some addr
unfolding judged fault_address
judged_at addr compr true fits empty f is = ap fault_address (sym (same_Some (convert.Compressed addr compr) f is))
judged_at addr compr false false empty f is = ap fault_address (sym (same_Some (convert.TooLong addr) f is))
judged_at addr compr false true true f is = ap fault_address (sym (same_Some (convert.Data addr) f is))
judged_at addr compr false true false f is = absurd (none-some f is)

compressed_at : (size addr : ℕ) (node : CompressedNode) (f : ConvertFault) → compressed_fault size addr node ≡ Some f → fault_address f ≡ Some addr
unfolding judged
compressed_at size addr node f is =
    judged_at addr node.compr (is_none (method_of node.compr)) (nat_le (header_len + (inode_len + node.dsize)) size) (is_none (node_content node)) f is

fault_at : (e : Endian) (size : ℕ) (image : List ℕ) (s : ℕ × Seen) (f : ConvertFault) → through_fault e size image s ≡ Some f → fault_address f ≡ Some s.0
unfolding fault_address
fault_at e size image (addr, seen.Incompatible nodetype) f is = ap fault_address (sym (same_Some (convert.Incompatible addr nodetype) f is))
fault_at e size image (addr, seen.Compressed compr) f is = compressed_at size addr (compressed_node_at e size image addr) f is
fault_at e size image (addr, seen.Entry entry) f is = absurd (none-some f is)
fault_at e size image (addr, seen.Inode inode) f is = absurd (none-some f is)
fault_at e size image (addr, seen.Marker) f is = absurd (none-some f is)
fault_at e size image (addr, seen.Padding) f is = absurd (none-some f is)
fault_at e size image (addr, seen.Obsolete) f is = absurd (none-some f is)
fault_at e size image (addr, seen.Attribute) f is = absurd (none-some f is)
fault_at e size image (addr, seen.Skippable nodetype) f is = absurd (none-some f is)
fault_at e size image (addr, seen.ReadOnly nodetype) f is = absurd (none-some f is)
fault_at e size image (addr, seen.Damaged which) f is = absurd (none-some f is)

same_address : (f : ConvertFault) (addr at : ℕ) → fault_address f ≡ Some addr → fault_address f ≡ Some at → addr ≡ at
same_address f addr at one other = same_Some addr at (sym one ∙ other)

-- ---- two splits of a list whose addresses ascend

-- what is below the one behind some is among these
split_inside : (before after front behind : List (ℕ × Seen)) (s t : ℕ × Seen) → Rises (before ++ s ∷ after) → before ++ s ∷ after ≡ front ++ t ∷ behind → t.0 < s.0
    → (middle : List (ℕ × Seen)) × (before ≡ front ++ t ∷ middle)
split_inside [] after [] behind s t up is lt =
    let same : s ≡ t = cc in
    let here : s.0 ≡ t.0 = ap (λ (u : ℕ × Seen). u.0) same in
    absurd (omega (arith, here, lt))
split_inside [] after (y ∷ front) behind s t up is lt =
    let tail : after ≡ front ++ t ∷ behind = cc in
    let above : s.0 < t.0 = up.0 t (subst (λ (l : List (ℕ × Seen)). Contains l t) (sym tail) (Contains-append_right front (t ∷ behind) t (Contains-here t behind))) in
    absurd (omega (arith, above, lt))
split_inside (x ∷ before) after [] behind s t up is lt =
    let head : x ≡ t = cc in
    (before, ap (λ (u : ℕ × Seen). u ∷ before) head)
split_inside (x ∷ before) after (y ∷ front) behind s t up is lt =
    let head : x ≡ y = cc in
    let tail : before ++ s ∷ after ≡ front ++ t ∷ behind = cc in
    let deep = split_inside before after front behind s t up.1 tail lt in
    (deep.0, ap₂ (λ (u : ℕ × Seen) (l : List (ℕ × Seen)). u ∷ l) head deep.1)

module _ (e : Endian) (size : ℕ) (image : List ℕ) where
  -- tiles of which none refuses the image
  pub record AreHeld (tiles : List (ℕ × Seen)) : Type 0 where
    pub none : (t : ℕ × Seen) → Contains tiles t → through_fault e size image t ≡ None
    pub few : length (contents_of_tiles e size image tiles) ≤ greatest_contents
    pub apart : NoneClash (nodes_of_tiles e size image tiles)

  contents_up_to : (front behind : List (ℕ × Seen)) (t : ℕ × Seen) → length (contents_of_tiles e size image (front ++ t ∷ [])) ≤ length (contents_of_tiles e size image (front ++ t ∷ behind))
  contents_up_to front behind t =
      let split : front ++ t ∷ behind ≡ (front ++ t ∷ []) ++ behind = sym (append_assoc front (t ∷ []) behind) in
      let whole : contents_of_tiles e size image (front ++ t ∷ behind) ≡ contents_of_tiles e size image (front ++ t ∷ []) ++ contents_of_tiles e size image behind =
      ap (contents_of_tiles e size image) split ∙ flat_map-append (tile_content e size image) (front ++ t ∷ []) behind in
      let long = ap length whole ∙ length-append (contents_of_tiles e size image (front ++ t ∷ [])) (contents_of_tiles e size image behind) in
      omega (arith, long)

  pub none_of_held : (front behind : List (ℕ × Seen)) (t : ℕ × Seen) (why : ViewFault) → AreHeld (front ++ t ∷ behind) → IsRefusedBy e size image front t why → ⊥
  none_of_held front behind t why held refused = by_fault why refused
    where
      there : Contains (front ++ t ∷ behind) t
      there = Contains-append_right front (t ∷ behind) t (Contains-here t behind)

      itself : (f : ConvertFault) → through_fault e size image t ≡ Some f → ⊥
      itself f is = none-some f (sym (held.none t there) ∙ is)

      by_fault : (why : ViewFault) → IsRefusedBy e size image front t why → ⊥
      by_fault (fault.Incompatible addr nodetype) is = itself (convert.Incompatible addr nodetype) is
      by_fault (fault.Compressed addr compr) is = itself (convert.Compressed addr compr) is
      by_fault (fault.Data addr) is = itself (convert.Data addr) is
      by_fault (fault.TooLong addr) is = elim is [
        | inl long ↦ itself (convert.TooLong addr) long
        | inr passes ↦ let over = passes.1.1 in omega (arith, over, contents_up_to front behind t, held.few)
      ]
      by_fault (fault.Clash addr) (at, rest) =
          let (can, node, other, is, has, clash) = rest in
          let nodes : NoneClash (nodes_of_tiles e size image (front ++ t ∷ behind)) = held.apart in
          nodes node other
          (Contains-filter_map (expanded_node e size image) (front ++ t ∷ behind) t node there is)
          (subst (λ (l : List NodeRef). Contains l other) (sym (filter_map-append (expanded_node e size image) front (t ∷ behind)))
          (Contains-append_left (nodes_of_tiles e size image front) (nodes_of_tiles e size image (t ∷ behind)) other has))
          clash
      by_fault fault.BlockSize is = is
      by_fault fault.TooLarge is = is
      by_fault fault.RootKind is = is
      by_fault fault.OutOfMemory is = is

  up : Rises (sightings e size image)
  up = rises (sightings e size image) (ascends_from_splits (sightings e size image) (sightings_ascend e size image))

  -- the first tile that refuses the image has the least address
  first_fault_at : (before after : List (ℕ × Seen)) (s : ℕ × Seen) (why : ViewFault) → IsScannable size image → sightings e size image ≡ before ++ s ∷ after → AreHeld before
      → IsRefusedBy e size image before s why → IsFirstViewFaultAt e size image s.0 why
  first_fault_at before after s why scannable all held refused = (scannable, (before, s, after, all, refl, refused), least)
    where
      least : (at : ℕ) (other : ViewFault) → IsViewFaultAt e size image at other → s.0 ≤ at
      least at other (front, t, behind, split, is, here) =
          ⊎_elim
          (λ lt.
          let inside = split_inside before after front behind s t (subst Rises all up) (sym all ∙ split) lt in
          absurd (none_of_held front inside.0 t other (subst AreHeld inside.1 held) here))
          (λ le. omega (arith, le, is))
          (cases_lt t.0 s.0)

  pub refused_answers : (before after : List (ℕ × Seen)) (s : ℕ × Seen) (why : ViewFault) → IsScannable size image → sightings e size image ≡ before ++ s ∷ after → AreHeld before
      → IsRefusedBy e size image before s why → AnswersThrough e size image (Err why)
  unfolding fault_address
  refused_answers before after s why scannable all held refused = by_fault why refused (first_fault_at before after s why scannable all held refused)
    where
      moved : (addr : ℕ) (f : ViewFault) → addr ≡ s.0 → IsFirstViewFaultAt e size image s.0 f → IsFirstViewFaultAt e size image addr f
      moved addr f is first = subst (λ (a : ℕ). IsFirstViewFaultAt e size image a f) (sym is) first

      own : (f : ConvertFault) (addr : ℕ) → fault_address f ≡ Some addr → through_fault e size image s ≡ Some f → addr ≡ s.0
      own f addr here is = same_address f addr s.0 here (fault_at e size image s f is)

      by_fault : (f : ViewFault) → IsRefusedBy e size image before s f → IsFirstViewFaultAt e size image s.0 f → AnswersThrough e size image (Err f)
      by_fault (fault.Incompatible addr nodetype) is first = moved addr (fault.Incompatible addr nodetype) (own (convert.Incompatible addr nodetype) addr refl is) first
      by_fault (fault.Compressed addr compr) is first = moved addr (fault.Compressed addr compr) (own (convert.Compressed addr compr) addr refl is) first
      by_fault (fault.Data addr) is first = moved addr (fault.Data addr) (own (convert.Data addr) addr refl is) first
      by_fault (fault.TooLong addr) is first = elim is [
        | inl long ↦ moved addr (fault.TooLong addr) (own (convert.TooLong addr) addr refl long) first
        | inr passes ↦ moved addr (fault.TooLong addr) passes.0 first
      ]
      by_fault (fault.Clash addr) is first = moved addr (fault.Clash addr) is.0 first
      by_fault fault.BlockSize is first = absurd is
      by_fault fault.TooLarge is first = absurd is
      by_fault fault.RootKind is first = absurd is
      by_fault fault.OutOfMemory is first = absurd is

  -- ---- whatever clashes

  -- tiles of which none refuses the image by itself
  pub record AreHeldAlone (tiles : List (ℕ × Seen)) : Type 0 where
    pub none : (t : ℕ × Seen) → Contains tiles t → through_fault e size image t ≡ None
    pub few : length (contents_of_tiles e size image tiles) ≤ greatest_contents

  none_alone : (front behind : List (ℕ × Seen)) (t : ℕ × Seen) (why : ViewFault) → AreHeldAlone (front ++ t ∷ behind) → IsRefusedBy e size image front t why → IsNoClash why → ⊥
  none_alone front behind t why held refused = by_fault why refused
    where
      itself : (f : ConvertFault) → through_fault e size image t ≡ Some f → ⊥
      itself f is = none-some f (sym (held.none t (Contains-append_right front (t ∷ behind) t (Contains-here t behind))) ∙ is)

      by_fault : (why : ViewFault) → IsRefusedBy e size image front t why → IsNoClash why → ⊥
      by_fault (fault.Incompatible addr nodetype) is alone = itself (convert.Incompatible addr nodetype) is
      by_fault (fault.Compressed addr compr) is alone = itself (convert.Compressed addr compr) is
      by_fault (fault.Data addr) is alone = itself (convert.Data addr) is
      by_fault (fault.TooLong addr) is alone = elim is [
        | inl long ↦ itself (convert.TooLong addr) long
        | inr passes ↦ let over = passes.1.1 in omega (arith, over, contents_up_to front behind t, held.few)
      ]
      by_fault (fault.Clash addr) is alone = alone addr refl
      by_fault fault.BlockSize is alone = is
      by_fault fault.TooLarge is alone = is
      by_fault fault.RootKind is alone = is
      by_fault fault.OutOfMemory is alone = is

  first_alone : (before after : List (ℕ × Seen)) (s : ℕ × Seen) (why : ViewFault) (addr : ℕ) → IsScannable size image → sightings e size image ≡ before ++ s ∷ after → AreHeldAlone before
      → IsRefusedBy e size image before s why → addr ≡ s.0 → IsFirstAlone e size image addr why
  first_alone before after s why addr scannable all held refused here = record {
    scannable = scannable;
    refuses = (before, s, after, all, here, refused);
    least = λ at other (front, t, behind, split, is, there) alone.
        ⊎_elim
        (λ lt.
        let inside = split_inside before after front behind s t (subst Rises all up) (sym all ∙ split) lt in
        absurd (none_alone front inside.0 t other (subst AreHeldAlone inside.1 held) there alone))
        (λ le. omega (arith, le, is, here))
        (cases_lt t.0 s.0);
  }

  pub alone_answers : (before after : List (ℕ × Seen)) (s : ℕ × Seen) (why : ViewFault) → IsScannable size image → sightings e size image ≡ before ++ s ∷ after → AreHeldAlone before
      → IsRefusedBy e size image before s why → IsNoClash why → AnswersAlone e size image why
  unfolding fault_address
  alone_answers before after s why scannable all held refused alone = by_fault why refused alone
    where
      first : (f : ViewFault) (addr : ℕ) → IsRefusedBy e size image before s f → addr ≡ s.0 → IsFirstAlone e size image addr f
      first f addr is here = first_alone before after s f addr scannable all held is here

      own : (f : ConvertFault) (addr : ℕ) → fault_address f ≡ Some addr → through_fault e size image s ≡ Some f → addr ≡ s.0
      own f addr here is = same_address f addr s.0 here (fault_at e size image s f is)

      by_fault : (f : ViewFault) → IsRefusedBy e size image before s f → IsNoClash f → AnswersAlone e size image f
      by_fault (fault.Incompatible addr nodetype) is none = first (fault.Incompatible addr nodetype) addr is (own (convert.Incompatible addr nodetype) addr refl is)
      by_fault (fault.Compressed addr compr) is none = first (fault.Compressed addr compr) addr is (own (convert.Compressed addr compr) addr refl is)
      by_fault (fault.Data addr) is none = first (fault.Data addr) addr is (own (convert.Data addr) addr refl is)
      by_fault (fault.TooLong addr) is none = elim is [
        | inl long ↦ first (fault.TooLong addr) addr (inl long) (own (convert.TooLong addr) addr refl long)
        | inr passes ↦ first (fault.TooLong addr) addr (inr passes) passes.0
      ]
      by_fault (fault.Clash addr) is none = absurd (none addr refl)
      by_fault fault.BlockSize is none = absurd is
      by_fault fault.TooLarge is none = absurd is
      by_fault fault.RootKind is none = absurd is
      by_fault fault.OutOfMemory is none = absurd is
