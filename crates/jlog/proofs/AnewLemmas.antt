-- An image of nodes alone: what goes out from the start of an erased flash on.
use Rattle.std.proofs.Common.{◌≡◌, ℕ, ◌+◌, ◌*◌, ◌<◌, ◌≤◌, List, [], ◌++◌, length, map, refl, sym, ap, subst, ◌∙◌, arith}
use Rattle.std.specs.Prelude.{IsTrue, Contains, flat_map, filter_map}
use Rattle.std.specs.List.{list_any}
use Rattle.std.proofs.lemmas.List.{take_all}
use Rattle.flashbase.specs.Lists.{below}
use Rattle.jnode.specs.Writing.{canonical}
use Rattle.jnode.specs.declared.node.NodeRef.{NodeRef}
use Rattle.jnode.specs.declared.node.Seen.{Seen}
use Rattle.jnode.specs.declared.order.Endian.{Endian}
use Rattle.jscan.specs.Image.{is_block_size, block_of, block_count, sightings, sightings_in, nodes, node_sighted}
use Rattle.jscan.specs.Scans.{forbids_writing, refusal_among}
use Rattle.jscan.specs.Blank.{AreBlankFrom}
use Rattle.jscan.proofs.BlankCalls.{blank_past}
use Rattle.jscan.proofs.BlockLemmas.{count_within}
use Rattle.jmount.specs.Mounts.{IsSound, IsFaultAt, plain_nodes}
use Rattle.jmount.specs.StateOf.{state_of}
use Rattle.jmount.specs.declared.fault.MountFault.{MountFault}
use Rattle.jmount.specs.declared.fault.MountFault.TheVariants as fault
use Rattle.jmount.specs.Clash.{NoneClash}
use Rattle.jlog.specs.Places.{end_of_all, fit}
use Rattle.jlog.specs.Output.{output}
use Rattle.jlog.specs.Left.{IsLeft}
use Rattle.jlog.specs.LeftLaws.{AreStorable, AreStored, IsLeftOf, IsUncut, OutputIsImage, RefusesAs, placed}
use Rattle.jlog.specs.MountLaws.{OutputIsSound, OutputMounts}
use Rattle.jlog.proofs.ExistLemmas.{written_is_left}
use Rattle.jlog.proofs.HeadlineLemmas.{mounts_as}
use Rattle.jlog.proofs.ImageLemmas.{block_size}
use Rattle.jlog.proofs.IntactLemmas.{output_is_long, storable_has_room}
use Rattle.jlog.proofs.LeftLemmas.{placed_are_new, whole_nodes, whole_refuses}
use Rattle.jlog.proofs.RoomLemmas.{end_is_within}
use Rattle.jlog.proofs.SoundLemmas.{sound_from}

-- ---- no bytes

no_blocks : (size : ℕ) → 0 < size → block_count size [] ≡ 0
no_blocks size some =
    let most : block_count size [] ≤ 0 = count_within size 0 [] some (omega arith) in
    omega (arith, most)

none_sighted : (e : Endian) (size : ℕ) → 0 < size → sightings e size [] ≡ []
none_sighted e size some = ap (λ (n : ℕ). flat_map (λ k. sightings_in e (k * size) (block_of size [] k)) (below n)) (no_blocks size some)

no_nodes : (e : Endian) (size : ℕ) → 0 < size → nodes e size [] ≡ []
no_nodes e size some = ap (filter_map node_sighted) (none_sighted e size some)

none_in : {X : Type 0} (x : X) → Contains [] x → ⊥
none_in x has = omega (arith, has.1)

no_bytes_sound : (e : Endian) (size : ℕ) → IsTrue (is_block_size size) → 0 < size → IsSound e size []
no_bytes_sound e size size_is some = ((size_is, omega arith), none)
  where
    none_seen : (s : ℕ × Seen) → Contains (sightings e size []) s → ⊥
    none_seen s has = none_in s (subst (λ (ss : List (ℕ × Seen)). Contains ss s) (none_sighted e size some) has)

    none : (at : ℕ) (f : MountFault) → IsFaultAt e size [] at f → ⊥
    none at (fault.Incompatible addr nodetype) stands = none_seen _ stands.1
    none at (fault.Compressed addr compr) stands = none_seen _ stands.1
    none at (fault.Clash addr) (same, (node, below, other, there, under, less, clash)) =
        none_in (addr, node) (subst (λ (ns : List (ℕ × NodeRef)). Contains ns (addr, node)) (no_nodes e size some) there)
    none at fault.BlockSize stands = stands
    none at fault.TooLarge stands = stands
    none at fault.RootKind stands = stands
    none at fault.OutOfMemory stands = stands

-- ---- what goes out on them

record Anew (e : Endian) (size blocks : ℕ) (new : List NodeRef) (image : List ℕ) : Type 0 where
  some : 0 < size
  within : length image ≤ blocks * size
  stored : AreStored e size blocks [] 0 new
  uncut : IsUncut e size 0 new (length image)
  left : IsLeftOf e size blocks [] 0 new (length image) image

anew : (e : Endian) (size blocks : ℕ) (new : List NodeRef) → AreStorable e size blocks new → Anew e size blocks new (output e size 0 (map (canonical e) new))
anew e size blocks new is =
    let limits = block_size size is.size_is in
    let some : 0 < size = omega (arith, limits.least) in
    let bytes : List (List ℕ) = map (canonical e) new in
    let image : List ℕ = output e size 0 bytes in
    let start : 0 ≡ 0 * size = omega arith in
    let roomy = storable_has_room e size new is.nodes in
    let long : 0 + length image ≡ end_of_all size 0 bytes = output_is_long e size 0 bytes limits.words roomy in
    let ends : end_of_all size 0 bytes ≤ blocks * size = (end_is_within size blocks 0 bytes limits.words roomy refl (omega arith) is.room).0 in
    let within : length image ≤ blocks * size = omega (arith, long, ends) in
    let whole : IsLeft e size blocks [] 0 image (length image) image =
    subst (λ (i : List ℕ). IsLeft e size blocks [] 0 image (length image) i) (take_all (length image) image (omega arith))
    (written_is_left e size blocks 0 (length image) [] image (omega (arith, within))) in
    record {
      some = some;
      within = within;
      stored = record {
        size_is = is.size_is;
        no_longer = omega arith;
        blank = subst (λ (b : ℕ). AreBlankFrom e size [] blocks b) (no_blocks size some) (blank_past e size [] blocks some (omega arith));
        nodes = is.nodes;
        room = subst (λ (from : ℕ). IsTrue (fit size blocks from bytes)) start is.room;
      };
      uncut = subst (λ (from : ℕ). length (output e size from bytes) ≤ length image) start (omega arith);
      left = subst (λ (from : ℕ). IsLeft e size blocks [] from (output e size from bytes) (length image) image) start whole;
    }

anew_nodes : (e : Endian) (size blocks : ℕ) (new : List NodeRef) (image : List ℕ) → Anew e size blocks new image → nodes e size image ≡ placed e size 0 new
anew_nodes e size blocks new image it =
    let start : 0 * size ≡ 0 = omega arith in
    whole_nodes e size blocks 0 (length image) [] image new it.stored it.uncut it.left
    ∙ (ap (λ (ns : List (ℕ × NodeRef)). ns ++ placed e size (0 * size) new) (no_nodes e size it.some) ∙ ap (λ (from : ℕ). placed e size from new) start)

anew_refuses : (e : Endian) (size blocks : ℕ) (new : List NodeRef) (image : List ℕ) → Anew e size blocks new image → RefusesAs e size [] image
anew_refuses e size blocks new image it = whole_refuses e size blocks 0 (length image) [] image new it.stored it.uncut it.left

pub output_is_image : OutputIsImage
output_is_image e size blocks new is =
    let image : List ℕ = output e size 0 (map (canonical e) new) in
    let it : Anew e size blocks new image = anew e size blocks new is in
    let refuses : RefusesAs e size [] image = anew_refuses e size blocks new image it in
    record {
      within = it.within;
      has = anew_nodes e size blocks new image it;
      none_refused = refuses.first ∙ ap refusal_among (none_sighted e size it.some);
      writable = refuses.read_only ∙ ap (list_any (λ s. forbids_writing s.1)) (none_sighted e size it.some);
    }

-- ---- it mounts

pub output_is_sound : OutputIsSound
output_is_sound e size blocks new is small apart =
    let image : List ℕ = output e size 0 (map (canonical e) new) in
    let it : Anew e size blocks new image = anew e size blocks new is in
    let are : plain_nodes e size image ≡ new = ap (map (λ n. n.1)) (anew_nodes e size blocks new image it) ∙ (placed_are_new e size 0 new).nodes in
    record {
      sound = sound_from e size [] image (no_bytes_sound e size is.size_is it.some) (anew_refuses e size blocks new image it) (subst NoneClash (sym are) apart)
          (omega (arith, it.within, small));
      nodes = are;
    }

pub output_mounts : OutputMounts
output_mounts e size blocks new is small apart root =
    mounts_as e size (output e size 0 (map (canonical e) new)) new (state_of new) (output_is_sound e size blocks new is small apart) refl root
