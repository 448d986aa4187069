-- A node that may be written is refused for want of room alone.
use Rattle.std.proofs.Common.{◌≡◌, ◌≤◌, Result, Ok, Err, refl, arith}
use Rattle.std.specs.Prelude.{◌↔◌, ◌≢◌, IfErr, IsTrue}
use Rattle.jnode.specs.Writing.{HasNameLength, IsWritableInode, is_writable}
use Rattle.jnode.specs.declared.node.Dirent.{Dirent}
use Rattle.jnode.specs.declared.node.InodeNode.{InodeNode}
use Rattle.jnode.specs.declared.node.NodeRef.TheVariants as node
use Rattle.jnode.proofs.WritingLemmas.{writable_is_computed}
use Rattle.jnode.specs.declared.writing.WriteFault.{WriteFault}
use Rattle.jnode.specs.declared.writing.WriteFault.TheVariants as fault

pub entry_memory : {T : Type 0} (x : Dirent) (r : Result T WriteFault) → IsTrue (is_writable (node.Entry x)) → ((r ≡ Err fault.Name) ↔ (HasNameLength x → ⊥)) → ((r ≡ Err fault.Data) ↔ (HasNameLength x × (x.pino ≡ 0)))
    → IfErr r (λ f. f ≡ fault.OutOfMemory)
entry_memory x (Ok y) w name other = tt
entry_memory x (Err fault.Name) w name other = absurd (name.0 refl ((writable_is_computed (node.Entry x)).0 w).name)
entry_memory x (Err fault.Data) w name other =
    let none : x.pino ≡ 0 = (other.0 refl).1 in
    let some : 1 ≤ x.pino = ((writable_is_computed (node.Entry x)).0 w).parent in
    absurd (omega arith)
entry_memory x (Err fault.OutOfMemory) w name other = refl

pub inode_memory : {T : Type 0} (x : InodeNode) (r : Result T WriteFault) → IsTrue (is_writable (node.Inode x)) → (r ≢ Err fault.Name) → ((r ≡ Err fault.Data) ↔ (IsWritableInode x → ⊥))
    → IfErr r (λ f. f ≡ fault.OutOfMemory)
inode_memory x (Ok y) w name other = tt
inode_memory x (Err fault.Name) w name other = absurd (name refl)
inode_memory x (Err fault.Data) w name other = absurd (other.0 refl ((writable_is_computed (node.Inode x)).0 w))
inode_memory x (Err fault.OutOfMemory) w name other = refl
