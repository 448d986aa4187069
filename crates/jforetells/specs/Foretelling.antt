-- What `cuts` does with `--decompress`, `--compress` and `--update`: read it as the manual page.
-- The order is that of the steps.
use Rattle.std.specs.Prelude.{ℕ, Bool, true, false, List, map}
use Rattle.jnode.specs.declared.order.Endian.{Endian}
use Rattle.jmount.specs.Mount.{Mount}
use Rattle.jcommand.specs.Blocks.{blocks_asked}
use Rattle.jcommand.specs.declared.parsed.CutsThrough.{CutsThrough}
use Rattle.jcommand.specs.declared.parsed.UpdateCuts.{UpdateCuts}
use Rattle.jlisting.specs.declared.line.Line.{Line}
use Rattle.jlog.specs.declared.start.Flash.{Flash}
use Rattle.jbuild.specs.HostFiles.{part_contents}
use Rattle.jbuild.specs.Operations.{ops_in}
use Rattle.jbuild.specs.declared.host_files.HostFiles.{HostFiles}
use Rattle.jcuts.specs.Cuts.{Asked}
use Rattle.jcuts.specs.declared.lines.Telling.{Telling}
use Rattle.jcuts.specs.declared.lines.Telling.TheVariants.{Nodes}
use Rattle.jpacked.specs.declared.choice.NodeForms.{NodeForms}
use Rattle.jpacked.specs.declared.choice.NodeForms.TheVariants as forms_in
use Rattle.jstops.specs.declared.planned.StopsPlan.{StopsPlan}
use Rattle.jdevice.specs.declared.running.DevicePlan.{DevicePlan}
use Rattle.jedge.specs.Acts.{Act, Saying, Then, answers, loads, prints}
use Rattle.jedge.specs.Images.{MountsWith}
use Rattle.jedge.specs.Told.{Told}
use Rattle.jreads.specs.CutTexts.{HasMemory, ReadsLines, StartsOn}
use Rattle.jreads.specs.Cutting.{loads_base}
use Rattle.jreads.specs.Named.{loads_listed}
use Rattle.jforetells.specs.ForetoldTexts.{TellsForms}
use Rattle.jforetells.specs.UpdateTexts.{TellsRowForms}
use Rattle.jforetells.specs.declared.plan.ForetoldPlan.{ForetoldPlan}
use Rattle.jforetells.specs.declared.plan.ForetoldPlan.TheVariants as plan

-- ---- what is asked for

-- the forms in which nodes are told: compressed if that is shorter, if it is asked for
abbrev pub forms_foretold : Bool → NodeForms
forms_foretold true = forms_in.Packed
forms_foretold false = forms_in.Own

abbrev pub plan_foretold : CutsThrough (List ℕ) → StopsPlan
plan_foretold c = record {
  flash = record { geometry = c.options.geometry; blocks = c.blocks; page = c.page };
  forms = forms_foretold c.compress;
  telling = Nodes;
}

-- as many blocks as are asked for, or as the image has or begins
abbrev pub device_foretold : UpdateCuts (List ℕ) → List ℕ → DevicePlan
device_foretold c image = record {
  flash = record {
    geometry = c.options.geometry;
    blocks = blocks_asked c.blocks c.options.geometry.block image;
    page = c.page;
  };
  plain = c.plain;
  tail = c.tail;
}

-- ---- what is told

-- the flash that would be written
abbrev pub flash_foretold : ForetoldPlan → Flash
flash_foretold (plan.Stops on) = on.flash
flash_foretold (plan.Halts on) = on.flash

-- what is told of nodes
abbrev pub telling_foretold : ForetoldPlan → Telling
telling_foretold (plan.Stops on) = on.telling
telling_foretold (plan.Halts on) = Nodes

-- what is told of operations on an image
abbrev pub TellsPlanned : Endian → ForetoldPlan → List ℕ → Asked → Saying Told
TellsPlanned e (plan.Stops on) image asked = TellsForms e on image asked
TellsPlanned e (plan.Halts on) image asked = TellsRowForms e on image asked

-- the operations of lines, with the bytes of the files that they name, and the numbers of the lines
abbrev pub foretold_asked : Endian → ForetoldPlan → HostFiles → List Line → Asked
foretold_asked e on files lines = record {
  telling = telling_foretold on;
  ops = ops_in e (part_contents files) lines;
  lines = map (λ line. line.number) lines;
}

-- ---- what is done

-- It is judged whether writing goes on in a mounted image, and what stands after a stop is told of
-- operations.
abbrev pub foretells_mounted : Endian → ForetoldPlan → Asked → Mount → Act Told
foretells_mounted e on asked m =
    Then (answers (StartsOn {A = Unit} e (flash_foretold on) m)) (λ _.
    prints (TellsPlanned e on m.image asked))

-- there is memory for the operations; the image that they go on from is mounted through its
-- compression, and they are told
abbrev pub foretells_base : Endian → ForetoldPlan → List ℕ → Asked → Act Told
foretells_base e on base asked = Then (answers (HasMemory {A = Unit})) (λ _.
    Then (answers (MountsWith true e (flash_foretold on).geometry.block base))
    (foretells_mounted e on asked))

-- the lines of a text are read, and the files that they name; their operations are told
abbrev pub foretells_text : Endian → ForetoldPlan → List ℕ → List ℕ → Act Told
foretells_text e on base text = Then (answers (ReadsLines text)) (λ lines.
    Then (loads_listed lines) (λ files.
    foretells_base e on base (foretold_asked e on files lines)))

-- rule: The log: `cuts` of an image mounted through its compression, or of compressed nodes, as an
--   act.
--   definitions: jforetells.Foretelling.cuts_through_act, jforetells.ForetoldTexts.TellsForms
--   code: jforetells::foretelling::cuts_through
--   laws: jforetells::laws::cuts_through_reads_only,
--   jforetells::laws::cuts_through_blames_failed, jforetells::laws::cuts_through_judged_first
-- The image that is gone on from is read, if one is given, and then the listing; what stands after
-- a stop of writing is told of the forms of the nodes of the listing's operations.
abbrev pub cuts_through_act : Endian → CutsThrough (List ℕ) → Act Told
cuts_through_act e c = Then (loads_base c.on) (λ base.
    Then (loads c.listing) (λ text. foretells_text e (plan.Stops (plan_foretold c)) base text))

-- rule: The log: `cuts --update`, as an act.
--   definitions: jforetells.Foretelling.cuts_update_act, jforetells.UpdateTexts.TellsRowForms
--   code: jforetells::foretelling::cuts_update
--   laws: jforetells::laws::cuts_update_reads_only,
--   jforetells::laws::cuts_update_blames_failed, jforetells::laws::cuts_update_judged_first
-- The device's image is read, and then the listing; what stands after a stop of `update` is told of
-- the forms of the nodes of the listing's operations.
abbrev pub cuts_update_act : Endian → UpdateCuts (List ℕ) → Act Told
cuts_update_act e c = Then (loads c.image) (λ image.
    Then (loads c.listing) (λ text.
    foretells_text e (plan.Halts (device_foretold c image)) image text))
