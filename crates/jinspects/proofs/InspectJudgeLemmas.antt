-- What is refused is refused before anything is printed.
use Rattle.std.proofs.Common.{ℕ, Bool, List, Option, Err, ap, inl, inr, refl}
use Rattle.jnode.specs.declared.order.Endian.{Endian}
use Rattle.jcommand.specs.declared.parsed.Options.{Options}
use Rattle.jhistory.specs.declared.period.Period.{Period}
use Rattle.jversions.specs.declared.revision.Revision.{Revision}
use Rattle.jreport.specs.declared.faults.ProgramFault.{ProgramFault}
use Rattle.jedge.specs.Acts.{loads, opens, reads_whole}
use Rattle.jedge.specs.Laws.{JudgesFirst, JudgesFirstBut}
use Rattle.jedge.specs.declared.fault.Fault.{Fault}
use Rattle.jedge.specs.declared.fault.Fault.TheVariants as fault
use Rattle.jedge.proofs.JudgingLemmas.{IsUnput, IsWanting, answers_silent, loads_silent, opens_silent, prints_first, prints_first_but, reads_silent, then_first, then_first_but, whole_first}
use Rattle.jinspects.specs.Inspecting.{cat_inode_act, check_through_act, history_act, map_act}
use Rattle.jinspects.specs.InspectLaws.{CatInode, CheckThrough, History, InspectedJudgedFirst, MapNodes}
use Rattle.jinspects.specs.Recalling.{recalled_told}
use Rattle.jinspects.specs.Surveying.{Surveyed}
use Rattle.jinspects.specs.Tracing.{Traced}
use Rattle.jinspects.specs.ThroughVerdict.{ChecksThrough}
use Rattle.jinspects.proofs.RecallLemmas.{recalls_unput}

checks_unput : (e : Endian) (size : ℕ) (asked : Bool) (image text : List ℕ) (f : Fault) → (IsWanting f → ⊥) → ChecksThrough e size asked image text (Err f) → IsUnput f text
checks_unput e size asked image text (fault.File file) not is = absurd is
checks_unput e size asked image text (fault.NotRead file) not is = absurd is
checks_unput e size asked image text (fault.NoNodes of others) not is = absurd is
checks_unput e size asked image text (fault.NoSpace folder) not is = absurd is
checks_unput e size asked image text (fault.Findings of findings) not is = absurd is
checks_unput e size asked image text (fault.Refused why) not is = absurd (not (inr (ap (λ (w : ProgramFault). fault.Refused w) is.0)))
checks_unput e size asked image text fault.Output not is = tt
checks_unput e size asked image text fault.OutOfMemory not is = absurd (not (inl refl))

check_first : (options : Options) (shape : Bool) (name : List ℕ) → JudgesFirstBut IsWanting (check_through_act options shape name)
check_first options shape name = then_first_but IsWanting (opens name) _ (opens_silent name) (λ (opened : List ℕ).
    then_first_but IsWanting _ _ (answers_silent _) (λ _.
    then_first_but IsWanting (reads_whole opened) _ (reads_silent opened) (λ (image : List ℕ).
    prints_first_but IsWanting _ (checks_unput options.endian options.geometry.block shape image))))

map_first : (options : Options) (svg : Bool) (name : List ℕ) → JudgesFirst (map_act options svg name)
map_first options svg name = then_first (loads name) _ (loads_silent name) (λ (image : List ℕ).
    then_first _ _ (answers_silent _) (λ (others : Option ℕ). then_first _ _ (answers_silent _) (λ (s : Surveyed). whole_first _ _)))

history_first : (options : Options) (period : Period) (name : List ℕ) (word : Option (List ℕ)) → JudgesFirst (history_act options period name word)
history_first options period name word = then_first _ _ (answers_silent _) (λ (path : Option (List ℕ)).
    then_first (loads name) _ (loads_silent name) (λ (image : List ℕ). then_first _ _ (answers_silent _) (λ (others : Option ℕ).
    then_first _ _ (answers_silent _) (λ (t : Traced). whole_first _ _))))

inode_first : (options : Options) (r : Revision) (name : List ℕ) → JudgesFirst (cat_inode_act options r name)
inode_first options r name = then_first (loads name) _ (loads_silent name) (λ (image : List ℕ).
    prints_first _ (recalls_unput r options.endian options.geometry.block (recalled_told options.endian options.geometry.block image) image))

pub inspected_judged_first : InspectedJudgedFirst
inspected_judged_first (CheckThrough options shape name) = check_first options shape name
inspected_judged_first (MapNodes options svg name) = λ events f not is. map_first options svg name events f is
inspected_judged_first (History options period name word) = λ events f not is. history_first options period name word events f is
inspected_judged_first (CatInode options r name) = λ events f not is. inode_first options r name events f is
