use Rattle.std.proofs.Common.{refl, sym}
use Rattle.std.specs.Prelude.{Option, option_map}
use Rattle.jedge.specs.Acts.{says}
use Rattle.jedge.specs.Told.{note_text}
use Rattle.jedge.specs.declared.found.Note.{Note}
use Rattle.jedge.proofs.Steps.{does_at, nothing_done}
use Rattle.jedge.proofs.reporting.say_noted.Goals as goal

pub returns-in-Some : goal.returns-in-Some
returns-in-Some g c = does_at (λ (note : Option Note). says (option_map note_text note))
    (sym c.in-Some.is) c.say_note.ensures

pub returns-in-None : goal.returns-in-None
returns-in-None g c = does_at (λ (note : Option Note). says (option_map note_text note))
    (sym c.in-None.is) (nothing_done refl refl)
