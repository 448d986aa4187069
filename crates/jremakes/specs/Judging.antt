-- What is judged of an image before a file is made of it.
use Rattle.std.specs.Prelude.{◌≡◌, ℕ, List, Some, None, Result, Ok, Err, length}
use Rattle.jnode.specs.declared.node.NodeRef.{NodeRef}
use Rattle.jnode.specs.declared.order.Endian.{Endian}
use Rattle.jclash.specs.Parting.{Parts}
use Rattle.jclash.specs.declared.parting.LeftOut.{LeftOut}
use Rattle.jclash.specs.declared.parting.Parted.{Parted}
use Rattle.jexpand.specs.Expanded.{expanded_nodes}
use Rattle.jexpand.specs.declared.fault.ConvertFault.{ConvertFault}
use Rattle.jexpand.specs.declared.fault.ConvertFault.TheVariants as convert
use Rattle.jconvert.specs.Apart.{located_nodes}
use Rattle.jconvert.specs.Compressing.{compress_fault}
use Rattle.jconvert.specs.Converting.{FaultOwes, convert_fault, converted_of}
use Rattle.jconvert.specs.declared.converted.Converted.{Converted}
use Rattle.jreport.specs.declared.faults.ProgramFault.{ProgramFault}
use Rattle.jedge.specs.Views.{IsUnmade, conversion_refusal}
use Rattle.jedge.specs.declared.fault.Fault.{Fault}
use Rattle.jedge.specs.declared.fault.Fault.TheVariants as fault

-- it can be decompressed, and this is told of it; or this is why not
abbrev pub IsConvertible : Endian → ℕ → List ℕ → Result Converted Fault → Type 0
IsConvertible e size image (Ok told) =
    (convert_fault e size image ≡ None) × (told ≡ converted_of e size image)
IsConvertible e size image (Err (fault.File file)) = ⊥
IsConvertible e size image (Err (fault.NotRead file)) = ⊥
IsConvertible e size image (Err (fault.NoNodes of others)) = ⊥
IsConvertible e size image (Err (fault.NoSpace folder)) = ⊥
IsConvertible e size image (Err (fault.Findings of findings)) = ⊥
IsConvertible e size image (Err (fault.Refused why)) = IsUnmade e size image why
IsConvertible e size image (Err fault.Output) = ⊥
IsConvertible e size image (Err fault.OutOfMemory) = ⊥

-- why none is compressed: the image is refused, or there is no memory
abbrev pub IsUncompressed : Endian → ℕ → List ℕ → ProgramFault → Type 0
IsUncompressed e size image why = (refused : ConvertFault) × (why ≡ conversion_refusal refused)
    × FaultOwes ⊥ (Unit {0}) (λ f. compress_fault e size image ≡ Some f) refused

-- it can be compressed, and has so many nodes; or this is why not
abbrev pub IsCompressible : Endian → ℕ → List ℕ → Result ℕ Fault → Type 0
IsCompressible e size image (Ok nodes) =
    (compress_fault e size image ≡ None) × (nodes ≡ length (expanded_nodes e size image))
IsCompressible e size image (Err (fault.File file)) = ⊥
IsCompressible e size image (Err (fault.NotRead file)) = ⊥
IsCompressible e size image (Err (fault.NoNodes of others)) = ⊥
IsCompressible e size image (Err (fault.NoSpace folder)) = ⊥
IsCompressible e size image (Err (fault.Findings of findings)) = ⊥
IsCompressible e size image (Err (fault.Refused why)) = IsUncompressed e size image why
IsCompressible e size image (Err fault.Output) = ⊥
IsCompressible e size image (Err fault.OutOfMemory) = ⊥

-- the nodes of an image that stay, and those that are left out
pub record PartedNodes : Type 0 where
  pub stay : List NodeRef
  pub left : List LeftOut

abbrev pub parted_nodes : Parted → PartedNodes
parted_nodes parted = record { stay = parted.stay.items; left = parted.left.items }

-- its nodes are parted; or there is no memory
abbrev pub ArePartedOf : Endian → ℕ → List ℕ → Result PartedNodes Fault → Type 0
ArePartedOf e size image (Ok parted) = Parts (located_nodes e size image) parted.stay parted.left
ArePartedOf e size image (Err (fault.File file)) = ⊥
ArePartedOf e size image (Err (fault.NotRead file)) = ⊥
ArePartedOf e size image (Err (fault.NoNodes of others)) = ⊥
ArePartedOf e size image (Err (fault.NoSpace folder)) = ⊥
ArePartedOf e size image (Err (fault.Findings of findings)) = ⊥
ArePartedOf e size image (Err (fault.Refused why)) = why ≡ conversion_refusal convert.OutOfMemory
ArePartedOf e size image (Err fault.Output) = ⊥
ArePartedOf e size image (Err fault.OutOfMemory) = ⊥
