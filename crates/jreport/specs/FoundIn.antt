-- How many findings an image has of which a person is told, also an image that does not mount.
use Rattle.std.specs.Prelude.{◌≡◌, ◌==◌, ◌<◌, ℕ, List, count_by, filter_map, if◌then◌else◌}
use Rattle.jnode.specs.declared.order.Endian.{Endian}
use Rattle.jscan.specs.Findings.{finding_of}
use Rattle.jscan.specs.Scans.{IsScannable, image_extents}
use Rattle.jscan.specs.declared.extent.Extent.{Extent}
use Rattle.jreport.specs.ExtractionNotes.{is_attribute_node}
use Rattle.jreport.specs.Notes.{is_noted}
use Rattle.jreport.specs.declared.faults.ProgramFault.{ProgramFault}
use Rattle.jreport.specs.declared.faults.ProgramFault.TheVariants as program
use Rattle.jreport.specs.declared.findings.Found.{Found}
use Rattle.jreport.specs.declared.image_fault.ImageFault.{ImageFault}
use Rattle.jreport.specs.declared.image_fault.ImageFault.TheVariants as image

-- those of these extents: of damage, dirt or the other byte order, and of extended attributes
abbrev pub found_among : List Extent → Found
found_among ss =
    let found = filter_map finding_of ss in
    record {
      noted = count_by (λ f. is_noted f.kind) found;
      attributes = count_by (λ f. is_attribute_node f.kind) found;
    }

-- rule: What is printed: Findings of an image that does not mount.
--   definitions: jreport.FoundIn.found_in
--   code: jreport::findings::found_in
-- those of an image
abbrev pub found_in : Endian → ℕ → List ℕ → Found
found_in e size image = found_among (image_extents e size image)

-- how many are counted: those of damage, dirt or the other byte order, or else the nodes of
-- extended attributes
abbrev pub found_count : Found → ℕ
found_count found = if found.noted == 0 then found.attributes else found.noted

-- rule: What is printed: An image with findings is not replaced by an image made of it, unless that
--   is forced.
--   definitions: jreport.FoundIn.HasFindings, jreport.FoundIn.IsFindings,
--   jremakes.Asked.WouldReplace, jcommand.Parsed.is_forced
--   code: jreport::findings::refuse_findings, jremakes::original::judge_replaced
-- an image that can be read has damage, dirt or extended attributes, which none has that is made
-- of it
pub record HasFindings (e : Endian) (size : ℕ) (image : List ℕ) : Type 0 where
  pub scannable : IsScannable size image
  pub some : 0 < found_count (found_in e size image)

-- so many of the file of this name
abbrev pub TellsFindings : List ℕ → ℕ → ImageFault → Type 0
TellsFindings name n (image.Findings told findings) = (told.now ≡ name) × (findings ≡ n)
TellsFindings name n (image.NoNodes told others) = ⊥
TellsFindings name n image.Part = ⊥
TellsFindings name n (image.NoInode ino) = ⊥
TellsFindings name n (image.NoContent ino) = ⊥

-- That is the fault.
pub record IsFindings (e : Endian) (size : ℕ) (bytes name : List ℕ) (fault : ProgramFault) : Type
    0 where
  pub has : HasFindings e size bytes
  pub why : ImageFault
  pub is : fault ≡ program.Image why
  pub told : TellsFindings name (found_count (found_in e size bytes)) why
