-- Faults of a conversion.
use Rattle.std.proofs.Common.{◌≡◌, refl}
use Rattle.jconvert.specs.Converting.{FaultOwes, WriteFaultOwes}
use Rattle.jexpand.specs.declared.fault.ConvertFault.{ConvertFault}
use Rattle.jexpand.specs.declared.fault.ConvertFault.TheVariants as convert
use Rattle.jremakes.specs.Putting.{unput_of}
use Rattle.jremakes.specs.declared.remaking.Unput.{Unput}
use Rattle.jremakes.specs.declared.remaking.Unput.TheVariants as unput

-- a fault of judging is no sink's
pub refused_by : (Refuses : ConvertFault → Type 0) (f : ConvertFault) → ((f ≡ convert.OutOfMemory → ⊥) → Refuses f) → (f ≡ convert.Sink → ⊥) → FaultOwes ⊥ (Unit {0}) Refuses f
refused_by Refuses convert.BlockSize is other = is (λ same. cc)
refused_by Refuses convert.TooLarge is other = is (λ same. cc)
refused_by Refuses (convert.Incompatible addr nodetype) is other = is (λ same. cc)
refused_by Refuses (convert.Compressed addr compr) is other = is (λ same. cc)
refused_by Refuses (convert.Data addr) is other = is (λ same. cc)
refused_by Refuses (convert.TooLong addr) is other = is (λ same. cc)
refused_by Refuses convert.ReadOnly is other = is (λ same. cc)
refused_by Refuses convert.Geometry is other = is (λ same. cc)
refused_by Refuses (convert.Full needed free) is other = is (λ same. cc)
refused_by Refuses convert.Sink is other = absurd (other refl)
refused_by Refuses convert.OutOfMemory is other = tt

-- what is owed of a call that puts an image, by why it was not put
pub owed : (sink memory : Type 0) (Owes : Unput → Type 0) (f : ConvertFault) → WriteFaultOwes sink memory f → (sink → Owes unput.File) → (memory → Owes unput.OutOfMemory) → Owes (unput_of f)
owed sink memory Owes convert.BlockSize is one two = absurd is
owed sink memory Owes convert.TooLarge is one two = absurd is
owed sink memory Owes (convert.Incompatible addr nodetype) is one two = absurd is
owed sink memory Owes (convert.Compressed addr compr) is one two = absurd is
owed sink memory Owes (convert.Data addr) is one two = absurd is
owed sink memory Owes (convert.TooLong addr) is one two = absurd is
owed sink memory Owes convert.ReadOnly is one two = absurd is
owed sink memory Owes convert.Geometry is one two = absurd is
owed sink memory Owes (convert.Full needed free) is one two = absurd is
owed sink memory Owes convert.Sink is one two = one is
owed sink memory Owes convert.OutOfMemory is one two = two is
