-- If compressed data refuse an image that is looked at, then they are wanted.
use Rattle.std.proofs.Common.{◌≡◌, ℕ, ◌<◌, Bool, true, false, cond, List, [], ◌∷◌, ◌++◌, length, Some, refl, sym, ap, subst, ◌∙◌, arith, append_assoc, length-append, inl, inr, Err, Contains}
use Rattle.std.proofs.lemmas.Bool.{false≢true}
use Rattle.std.proofs.lemmas.List.Elements.{Contains-append_right}
use Rattle.std.proofs.lemmas.Option.{same_Some, none-some}
use Rattle.std.proofs.lemmas.Grind.{flat_map-append}
use Rattle.flashbase.proofs.MemberLemmas.{Contains-here, Contains-map_from}
use Rattle.jnode.specs.Compressed.{inode_with}
use Rattle.jnode.specs.declared.node.Fill.TheVariants.{Zero}
use Rattle.jnode.specs.declared.node.Seen.{Seen}
use Rattle.jnode.specs.declared.node.Seen.TheVariants as seen
use Rattle.jnode.specs.declared.order.Endian.{Endian}
use Rattle.jscan.specs.Image.{sightings}
use Rattle.jexpand.specs.Expanded.{compressed_node_at, tile_content, contents_of_tiles}
use Rattle.jexpand.specs.declared.fault.ConvertFault.{ConvertFault}
use Rattle.jexpand.specs.declared.fault.ConvertFault.TheVariants as convert
use Rattle.jview.specs.Through.{through_fault}
use Rattle.jthrough.specs.declared.fault.ViewFault.{ViewFault}
use Rattle.jthrough.specs.declared.fault.ViewFault.TheVariants as fault
use Rattle.jlook.specs.Laws.{IsOfWanted, BlamesWanted, OnlyTheWantedRefuse}
use Rattle.jlook.specs.Looked.{Wants, looked_tile, looked_tiles}
use Rattle.jlook.specs.Looks.{AnswersLook}

-- a fault of compressed data
abbrev is_of_data : ConvertFault → Bool
is_of_data (convert.Compressed addr compr) = true
is_of_data (convert.Data addr) = true
is_of_data (convert.TooLong addr) = true
is_of_data _ = false

module _ (wants : Wants) (e : Endian) (size : ℕ) (image : List ℕ) where
  -- a tile
  blamed : (s : ℕ × Seen) (f : ConvertFault) → is_of_data f ≡ true → through_fault e size image (looked_tile wants e size image s) ≡ Some f → IsOfWanted wants e size image s.0
  blamed (addr, seen.Compressed compr) f of_data is = by (wants (compressed_node_at e size image addr).ino) is
    where
      by : (b : Bool) → through_fault e size image (addr, cond b (seen.Compressed compr) (seen.Inode (inode_with (compressed_node_at e size image addr) Zero))) ≡ Some f → b ≡ true
      by true is = refl
      by false is = absurd (none-some f is)
  blamed (addr, seen.Incompatible nodetype) f of_data is = absurd (false≢true (ap is_of_data (same_Some (convert.Incompatible addr nodetype) f is) ∙ of_data))
  blamed (addr, seen.Entry entry) f of_data is = absurd (none-some f is)
  blamed (addr, seen.Inode inode) f of_data is = absurd (none-some f is)
  blamed (addr, seen.Marker) f of_data is = absurd (none-some f is)
  blamed (addr, seen.Padding) f of_data is = absurd (none-some f is)
  blamed (addr, seen.Obsolete) f of_data is = absurd (none-some f is)
  blamed (addr, seen.Attribute) f of_data is = absurd (none-some f is)
  blamed (addr, seen.Skippable nodetype) f of_data is = absurd (none-some f is)
  blamed (addr, seen.ReadOnly nodetype) f of_data is = absurd (none-some f is)
  blamed (addr, seen.Damaged which) f of_data is = absurd (none-some f is)

  -- one of those of the image
  one_blamed : (before after : List (ℕ × Seen)) (s : ℕ × Seen) (f : ConvertFault) → looked_tiles wants e size image ≡ before ++ s ∷ after → is_of_data f ≡ true
      → through_fault e size image s ≡ Some f → IsOfWanted wants e size image s.0
  one_blamed before after s f split of_data is =
      let here : Contains (looked_tiles wants e size image) s =
      subst (λ (l : List (ℕ × Seen)). Contains l s) (sym split) (Contains-append_right before (s ∷ after) s (Contains-here s after)) in
      let sighted = Contains-map_from (looked_tile wants e size image) (sightings e size image) s here in
      subst (λ (t : ℕ × Seen). IsOfWanted wants e size image t.0) sighted.2
      (blamed sighted.0 f of_data (ap (through_fault e size image) sighted.2 ∙ is))

  all_too_many : (before after : List (ℕ × Seen)) (s : ℕ × Seen) (most : ℕ) → looked_tiles wants e size image ≡ before ++ s ∷ after
      → most < length (contents_of_tiles e size image (before ++ s ∷ []))
      → most < length (contents_of_tiles e size image (looked_tiles wants e size image))
  all_too_many before after s most split over =
      let parts : looked_tiles wants e size image ≡ (before ++ s ∷ []) ++ after = split ∙ sym (append_assoc before (s ∷ []) after) in
      let long = ap length (ap (contents_of_tiles e size image) parts ∙ flat_map-append (tile_content e size image) (before ++ s ∷ []) after)
      ∙ length-append (contents_of_tiles e size image (before ++ s ∷ [])) (contents_of_tiles e size image after) in
      omega (arith, long, over)

  of_wanted : (addr : ℕ) (s : ℕ × Seen) → addr ≡ s.0 → IsOfWanted wants e size image s.0 → IsOfWanted wants e size image addr
  of_wanted addr s at wanted = subst (IsOfWanted wants e size image) (sym at) wanted

  blames : (why : ViewFault) → AnswersLook wants e size image (Err why) → BlamesWanted wants e size image why
  blames (fault.Compressed addr compr) (scannable, (before, s, after, split, at, refused), least) =
      of_wanted addr s at (one_blamed before after s (convert.Compressed addr compr) split refl refused)
  blames (fault.Data addr) (scannable, (before, s, after, split, at, refused), least) =
      of_wanted addr s at (one_blamed before after s (convert.Data addr) split refl refused)
  blames (fault.TooLong addr) (scannable, (before, s, after, split, at, refused), least) =
      elim refused [
        | inl long ↦ inl (of_wanted addr s at (one_blamed before after s (convert.TooLong addr) split refl long))
        | inr passes ↦ inr (all_too_many before after s _ split passes.1.1)
      ]
  blames (fault.Incompatible addr nodetype) look = tt
  blames (fault.Clash addr) look = tt
  blames fault.BlockSize look = tt
  blames fault.TooLarge look = tt
  blames fault.RootKind look = tt
  blames fault.OutOfMemory look = tt

pub only_the_wanted_refuse : OnlyTheWantedRefuse
only_the_wanted_refuse wants e size image why look = blames wants e size image why look
