-- What is asked for and what comes of it, as acts see them.
use Rattle.std.specs.Prelude.{Option, Some, None, Result, Ok, Err}
use Rattle.jnode.specs.declared.order.Endian.{Endian}
use Rattle.jbuild.specs.declared.emitting.EmitFault.{EmitFault}
use Rattle.jbuild.specs.declared.emitting.Emitted.{Emitted}
use Rattle.jedge.specs.Told.{Told}
use Rattle.jmakes.specs.Making.{FileMade, wanted_file}
use Rattle.jmakes.specs.Notes.{WeakNotes, base_told, none_told, written_told}
use Rattle.jmakes.specs.Writing.{Done, Emission, ImageWanted, NotRun, Numbered, Ran, Run}
use Rattle.jmakes.specs.declared.asked.ImageToWrite.{ImageToWrite}
use Rattle.jmakes.specs.declared.base_note.BaseNote.{BaseNote}
use Rattle.jmakes.specs.declared.emitting.ImageMade.{ImageMade}
use Rattle.jmakes.specs.declared.ending.DoneOps.{DoneOps}
use Rattle.jmakes.specs.declared.notes.Notes.{Notes}
use Rattle.jmakes.specs.declared.numbered.NumberedOps.{NumberedOps}
use Rattle.jmakes.specs.declared.written.Written.{Written}

-- ---- what is asked for

abbrev pub image_to_write : Endian → ImageToWrite → ImageWanted
image_to_write e image = record {
  order = e;
  flash = image.flash;
  file = wanted_file image.file;
  weak = image.weak;
}

-- ---- what comes of it

abbrev pub numbered_seen : NumberedOps → Numbered
numbered_seen of = record { ops = of.ops.items; numbers = of.numbers.items }

abbrev pub notes_seen : Notes → WeakNotes
notes_seen notes = record { text = notes.text.items; weak = notes.weak }

abbrev pub run_seen : Emitted → Run
run_seen done = record {
  accepted = done.report.accepted;
  places = done.report.places.items;
  stopped = done.report.stopped;
  blocks = done.blocks;
}

abbrev pub emission_seen : Result Emitted EmitFault → Emission
emission_seen (Ok done) = Ran (run_seen done)
emission_seen (Err why) = NotRun why

abbrev pub image_seen : ImageMade → FileMade Emission
image_seen made = record { answer = emission_seen made.emitted; closed = made.closed }

abbrev pub done_seen : DoneOps → Done
done_seen done = record { accepted = done.accepted; places = done.places.items }

abbrev pub base_seen : BaseNote → Told
base_seen note = base_told note.findings note.attributes note.others

abbrev pub note_seen : Option BaseNote → Told
note_seen None = none_told
note_seen (Some note) = base_seen note

abbrev pub told_seen : Written → Told
told_seen written = written_told (note_seen written.note) (notes_seen written.weak)
