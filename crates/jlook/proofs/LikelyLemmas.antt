-- A look that wants what its own tree chooses is the look at what is chosen.
use Rattle.std.proofs.Common.{◌≡◌, ℕ, Bool, true, false, cond, List, [], ◌∷◌, map, None, refl, sym, ap, ap₂, subst, ◌∙◌, arith, Contains}
use Rattle.std.specs.Prelude.{Ok}
use Rattle.jnode.specs.Compressed.{inode_with}
use Rattle.jnode.specs.declared.node.Fill.TheVariants.{Zero}
use Rattle.jnode.specs.declared.node.NodeRef.{NodeRef}
use Rattle.jnode.specs.declared.node.Seen.{Seen}
use Rattle.jnode.specs.declared.node.Seen.TheVariants as seen
use Rattle.jnode.specs.declared.order.Endian.{Endian}
use Rattle.jscan.specs.Image.{sightings}
use Rattle.jexpand.specs.Expanded.{compressed_node_at}
use Rattle.jmount.specs.Clash.{NoneClash}
use Rattle.jmount.specs.Mount.{Mount}
use Rattle.jmount.specs.StateOf.{state_of}
use Rattle.jmount.specs.Tree.{State, outline, is_directory}
use Rattle.jmount.proofs.OutlineLemmas.{is_directory-outline}
use Rattle.jthrough.specs.Refusals.{nodes_of_tiles}
use Rattle.jthrough.proofs.AddressedLemmas.{none_among}
use Rattle.jview.specs.Through.{through_fault}
use Rattle.jlook.specs.Chosen.{Choice, nothing_wanted, AnswersChosen}
use Rattle.jlook.specs.Looked.{Wants, zeroed, looked_node, looked_tile, looked_tiles}
use Rattle.jlook.specs.Looks.{AreSoundTiles, TilesMountAs, AnswersLook, LooksAs}
use Rattle.jlook.proofs.ChosenLemmas.{IsOfOutline, look_same}
use Rattle.jlook.proofs.ShowLemmas.{nodes_looked, among_looked, contents_looked}
use Rattle.jlook.proofs.TreeLemmas.{outline_looked, apart_looked}

-- ---- tiles that are looked at once more, without contents

module _ (wants : Wants) (e : Endian) (size : ℕ) (image : List ℕ) where
  tile_twice : (s : ℕ × Seen) → looked_tile nothing_wanted e size image (looked_tile wants e size image s) ≡ looked_tile nothing_wanted e size image s
  tile_twice (addr, seen.Inode inode) = by (wants inode.ino)
    where
      by : (b : Bool) → looked_tile nothing_wanted e size image (addr, seen.Inode (cond b inode (zeroed inode))) ≡ looked_tile nothing_wanted e size image (addr, seen.Inode inode)
      by true = refl
      by false = refl
  tile_twice (addr, seen.Compressed compr) = by (wants (compressed_node_at e size image addr).ino)
    where
      by : (b : Bool) → looked_tile nothing_wanted e size image (addr, cond b (seen.Compressed compr) (seen.Inode (inode_with (compressed_node_at e size image addr) Zero)))
          ≡ looked_tile nothing_wanted e size image (addr, seen.Compressed compr)
      by true = refl
      by false = refl
  tile_twice (addr, _) = refl

  tiles_twice : (ss : List (ℕ × Seen)) → map (looked_tile nothing_wanted e size image) (map (looked_tile wants e size image) ss) ≡ map (looked_tile nothing_wanted e size image) ss
  tiles_twice [] = refl
  tiles_twice (s ∷ ss) = ap₂ (λ (t : ℕ × Seen) (ts : List (ℕ × Seen)). t ∷ ts) (tile_twice s) (tiles_twice ss)

-- ---- they mount, with the same outline

module _ (e : Endian) (size : ℕ) (image : List ℕ) (tiles : List (ℕ × Seen)) (sound : AreSoundTiles e size image tiles) where
  abbrev without : List (ℕ × Seen)
  without = map (looked_tile nothing_wanted e size image) tiles

  abbrev state_without : State
  state_without = state_of (nodes_of_tiles e size image without)

  none : (s : ℕ × Seen) → Contains tiles s → through_fault e size image s ≡ None
  none s has = none_among e size image tiles s sound.none has

  nodes_without : nodes_of_tiles e size image without ≡ map (looked_node nothing_wanted) (nodes_of_tiles e size image tiles)
  nodes_without = nodes_looked nothing_wanted e size image tiles none

  sound_without : AreSoundTiles e size image without
  sound_without = record {
    scannable = sound.scannable;
    none = among_looked nothing_wanted e size image tiles none;
    contents = omega (arith, contents_looked nothing_wanted e size image tiles, sound.contents);
    apart = subst NoneClash (sym nodes_without) (apart_looked nothing_wanted (nodes_of_tiles e size image tiles) sound.apart);
  }

  outline_without : outline state_without ≡ outline (state_of (nodes_of_tiles e size image tiles))
  outline_without = ap (λ (ns : List NodeRef). outline (state_of ns)) nodes_without ∙ outline_looked nothing_wanted (nodes_of_tiles e size image tiles)

  root_without : is_directory (state_of (nodes_of_tiles e size image tiles)) 1 ≡ true → is_directory state_without 1 ≡ true
  root_without root =
      sym (is_directory-outline state_without 1)
      ∙ ap (λ o. is_directory o 1) outline_without
      ∙ is_directory-outline (state_of (nodes_of_tiles e size image tiles)) 1
      ∙ root

-- ---- the look at what is chosen

pub likely_is_chosen : (choice : Choice) → IsOfOutline choice → (wants : Wants) (e : Endian) (size : ℕ) (image : List ℕ) (mount : Mount)
    → AnswersLook wants e size image (Ok mount) → ((i : ℕ) → choice mount.state i ≡ wants i) → AnswersChosen choice e size image (Ok mount)
likely_is_chosen choice of_outline wants e size image mount look chosen =
    let tiles : List (ℕ × Seen) = looked_tiles wants e size image in
    let sound : AreSoundTiles e size image tiles = look.mounts.sound in
    let s : State = state_without e size image tiles sound in
    let outlines : outline s ≡ outline mount.state = outline_without e size image tiles sound ∙ ap outline look.mounts.same in
    let first : LooksAs nothing_wanted e size image s =
    subst (λ (ts : List (ℕ × Seen)). TilesMountAs e size image ts s) (tiles_twice wants e size image (sightings e size image))
    (record { sound = sound_without e size image tiles sound; root = root_without e size image tiles sound look.mounts.root; same = refl }) in
    (s, first, look_same wants (choice s) (λ i. sym (chosen i) ∙ of_outline mount.state s (sym outlines) i) e size image (Ok mount) look)
