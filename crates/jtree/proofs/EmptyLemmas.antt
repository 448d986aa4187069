-- The empty image is a base without nodes.
use Rattle.std.proofs.Common.{◌≡◌, ℕ, ◌*◌, ◌%◌, ◌<◌, ◌≤◌, Bool, true, false, List, [], map, refl, ap, sym, subst, arith}
use Rattle.std.specs.Prelude.{Contains, IsTrue, ◌&&◌, ◌==◌, flat_map, filter_map, nat_le, nat_lt}
use Rattle.std.proofs.lemmas.Bool.{false≢true, leb-true}
use Rattle.flashbase.specs.Lists.{below}
use Rattle.jnode.specs.declared.order.Endian.{Endian}
use Rattle.jscan.specs.Image.{block_count, block_of, greatest_image, is_block_size, node_sighted, nodes, sightings, sightings_in}
use Rattle.jmount.specs.Mounts.{IsFaultAt, plain_nodes}
use Rattle.jmount.specs.StateOf.{state_of}
use Rattle.jmount.specs.Tree.{has_bits, directory_bits, is_directory}
use Rattle.jmount.specs.declared.fault.MountFault.{MountFault}
use Rattle.jmount.specs.declared.fault.MountFault.TheVariants as fault
use Rattle.jmount.proofs.NumbersLemmas.{object-state_of}
use Rattle.jlog.specs.Headline.{is_flash_of}
use Rattle.jlog.specs.Places.{is_writable_flash}
use Rattle.jtree.specs.Image.{EmptyIsBare}

front : (a b : Bool) → (a && b) ≡ true → a ≡ true
front true b e = refl
front false b e = absurd (false≢true e)

block_size : (size blocks : ℕ) → IsTrue (is_flash_of size blocks []) → IsTrue (is_block_size size)
block_size size blocks flash =
    front (is_block_size size) (nat_le 8192 size)
    (front (is_block_size size && nat_le 8192 size) (nat_lt 0 blocks)
    (front (is_block_size size && nat_le 8192 size && nat_lt 0 blocks) (nat_le (blocks * size) greatest_image)
    (front (is_writable_flash size blocks) (nat_le 0 (blocks * size)) flash)))

some_size : (size : ℕ) → IsTrue (is_block_size size) → 0 < size
some_size size h =
    let least : 4096 ≤ size = leb-true 4096 size (front (nat_le 4096 size) (nat_le size 4194304)
    (front (nat_le 4096 size && nat_le size 4194304) (size % 4 == 0) h)) in
    omega arith

no_blocks : (size : ℕ) → 0 < size → block_count size [] ≡ 0
no_blocks size some = omega arith

no_sightings : (e : Endian) (size : ℕ) → 0 < size → sightings e size [] ≡ []
no_sightings e size some = ap (λ n. flat_map (λ k. sightings_in e (k * size) (block_of size [] k)) (below n)) (no_blocks size some)

no_nodes : (e : Endian) (size : ℕ) → 0 < size → nodes e size [] ≡ []
no_nodes e size some = ap (filter_map node_sighted) (no_sightings e size some)

none_among : {X : Type 0} (xs : List X) (x : X) → xs ≡ [] → Contains xs x → ⊥
none_among xs x e among = let has : Contains [] x = subst (λ xs. Contains xs x) e among in let less = has.1 in absurd (omega arith)

no_fault : (e : Endian) (size at : ℕ) (f : MountFault) → 0 < size → IsFaultAt e size [] at f → ⊥
no_fault e size at (fault.Incompatible addr nodetype) some h = none_among (sightings e size []) _ (no_sightings e size some) h.1
no_fault e size at (fault.Compressed addr compr) some h = none_among (sightings e size []) _ (no_sightings e size some) h.1
no_fault e size at (fault.Clash addr) some h = none_among (nodes e size []) _ (no_nodes e size some) h.1.3
no_fault e size at fault.BlockSize some h = h
no_fault e size at fault.TooLarge some h = h
no_fault e size at fault.RootKind some h = h
no_fault e size at fault.OutOfMemory some h = h

pub empty_is_bare : EmptyIsBare
empty_is_bare e size blocks flash =
    let is_size = block_size size blocks flash in
    let some = some_size size is_size in
    let bare : plain_nodes e size [] ≡ [] = ap (map (λ n. n.1)) (no_nodes e size some) in
    record {
      base_is = record {
        flash = flash;
        mounts = record {
          sound = ((is_size, omega arith), λ at f h. no_fault e size at f some h);
          root = subst (λ ns. IsTrue (is_directory (state_of ns) 1)) (sym bare) (ap (has_bits directory_bits) (object-state_of [] 1));
          same = refl;
        };
      };
      are_bytes = λ k. omega arith;
      bare = bare;
    }
