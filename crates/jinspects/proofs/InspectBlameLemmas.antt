-- A fault is an event.
use Rattle.std.proofs.Common.{ℕ, Bool, List, Option, inl, inr}
use Rattle.jnode.specs.declared.order.Endian.{Endian}
use Rattle.jcommand.specs.declared.parsed.Options.{Options}
use Rattle.jhistory.specs.declared.period.Period.{Period}
use Rattle.jversions.specs.declared.revision.Revision.{Revision}
use Rattle.jedge.specs.Acts.{answers, loads, opens, reads_whole}
use Rattle.jedge.specs.Laws.{BlamesFailed}
use Rattle.jedge.specs.declared.fault.Fault.TheVariants as fault
use Rattle.jedge.proofs.BlamingLemmas.{Unnamed, loads_blames, notes_blame, of_bytes, opens_blames, part_blames, prints_blames, reads_blames, size_blames, then_blames, view_of, whole_blames}
use Rattle.jinspects.specs.Inspecting.{cat_inode_act, check_through_act, history_act, map_act}
use Rattle.jinspects.specs.InspectLaws.{CatInode, CheckThrough, History, InspectedBlamesFailed, MapNodes}
use Rattle.jinspects.specs.Recalling.{recalled_told}
use Rattle.jinspects.specs.Surveying.{Surveyed, Surveys}
use Rattle.jinspects.specs.Tracing.{Traced, Traces}
use Rattle.jinspects.specs.ThroughVerdict.{ChecksThrough}
use Rattle.jinspects.proofs.RecallLemmas.{recalls_unnamed}

checks_unnamed : (e : Endian) (size : ℕ) (asked : Bool) (image : List ℕ) → Unnamed (ChecksThrough e size asked image)
checks_unnamed e size asked image text (fault.File file) is = absurd is
checks_unnamed e size asked image text (fault.NotRead file) is = absurd is
checks_unnamed e size asked image text (fault.NoNodes of others) is = absurd is
checks_unnamed e size asked image text (fault.NoSpace folder) is = absurd is
checks_unnamed e size asked image text (fault.Findings of findings) is = absurd is
checks_unnamed e size asked image text (fault.Refused why) is = of_bytes why is.0 tt
checks_unnamed e size asked image text fault.Output is = tt
checks_unnamed e size asked image text fault.OutOfMemory is = tt

survey_blames : (svg : Bool) (e : Endian) (size : ℕ) (image : List ℕ) (others : Option ℕ) → BlamesFailed (answers (Surveys svg e size image others))
survey_blames svg e size image others events (fault.File file) is = absurd is.1
survey_blames svg e size image others events (fault.NotRead file) is = absurd is.1
survey_blames svg e size image others events (fault.NoNodes of count) is = absurd is.1
survey_blames svg e size image others events (fault.NoSpace folder) is = absurd is.1
survey_blames svg e size image others events (fault.Findings of findings) is = absurd is.1
survey_blames svg e size image others events (fault.Refused why) is = of_bytes why is.1.1 (view_of is.1.0)
survey_blames svg e size image others events fault.Output is = absurd is.1
survey_blames svg e size image others events fault.OutOfMemory is = tt

check_blames : (options : Options) (shape : Bool) (name : List ℕ) → BlamesFailed (check_through_act options shape name)
check_blames options shape name = then_blames (opens name) _ (opens_blames name) (λ (opened : List ℕ).
    then_blames _ _ (size_blames options.geometry.block) (λ _.
    then_blames (reads_whole opened) _ (reads_blames opened) (λ (image : List ℕ).
    prints_blames _ (checks_unnamed options.endian options.geometry.block shape image))))

map_blames : (options : Options) (svg : Bool) (name : List ℕ) → BlamesFailed (map_act options svg name)
map_blames options svg name = then_blames (loads name) _ (loads_blames name) (λ (image : List ℕ).
    then_blames _ _ (notes_blame options.endian options.geometry.block image) (λ (others : Option ℕ).
    then_blames _ _ (survey_blames svg options.endian options.geometry.block image others) (λ (s : Surveyed). whole_blames _ _)))

trace_blames : (path : Option (List ℕ)) (e : Endian) (size : ℕ) (image : List ℕ) (others : Option ℕ) → BlamesFailed (answers (Traces path e size image others))
trace_blames path e size image others events (fault.File file) is = absurd is.1
trace_blames path e size image others events (fault.NotRead file) is = absurd is.1
trace_blames path e size image others events (fault.NoNodes of count) is = absurd is.1
trace_blames path e size image others events (fault.NoSpace folder) is = absurd is.1
trace_blames path e size image others events (fault.Findings of findings) is = absurd is.1
trace_blames path e size image others events (fault.Refused why) (none, inl refused) = of_bytes why refused.1 (view_of refused.0)
trace_blames path e size image others events (fault.Refused why) (none, inr (m, through, (f, is, never))) = of_bytes why is tt
trace_blames path e size image others events fault.Output is = absurd is.1
trace_blames path e size image others events fault.OutOfMemory is = tt

history_blames : (options : Options) (period : Period) (name : List ℕ) (word : Option (List ℕ)) → BlamesFailed (history_act options period name word)
history_blames options period name word = then_blames _ _ (part_blames word) (λ (path : Option (List ℕ)).
    then_blames (loads name) _ (loads_blames name) (λ (image : List ℕ).
    then_blames _ _ (notes_blame options.endian options.geometry.block image) (λ (others : Option ℕ).
    then_blames _ _ (trace_blames path options.endian options.geometry.block image others) (λ (t : Traced). whole_blames _ _))))

inode_blames : (options : Options) (r : Revision) (name : List ℕ) → BlamesFailed (cat_inode_act options r name)
inode_blames options r name = then_blames (loads name) _ (loads_blames name) (λ (image : List ℕ).
    prints_blames _ (recalls_unnamed r options.endian options.geometry.block (recalled_told options.endian options.geometry.block image) image))

pub inspected_blames_failed : InspectedBlamesFailed
inspected_blames_failed (CheckThrough options shape name) = check_blames options shape name
inspected_blames_failed (MapNodes options svg name) = map_blames options svg name
inspected_blames_failed (History options period name word) = history_blames options period name word
inspected_blames_failed (CatInode options r name) = inode_blames options r name
