use Rattle.std.proofs.Common.{List, ℕ, refl, sym}
use Rattle.jcommand.specs.declared.command_line.RequestFault.{RequestFault}
use Rattle.jedge.specs.Acts.{Whole, prints}
use Rattle.jedge.proofs.Steps.{answered, does_at, then_reported}
use Rattle.jffs2_image.specs.Running.{nothing_told, refused_act, refuses}
use Rattle.jffs2_image.proofs.words.answer_refused.Goals as goal

pub returns-in-Help : goal.returns-in-Help
returns-in-Help g c = does_at (λ (why : RequestFault). refused_act why) (sym c.in-Help.is)
    (then_reported (does_at (λ (text : List ℕ). prints (Whole text nothing_told)) c.as_str.ensures.value
    c.print_answer-answer.ensures) c.report.ensures)

pub returns-in-Usage : goal.returns-in-Usage
returns-in-Usage g c = does_at (λ (why : RequestFault). refused_act why) (sym c.in-Usage.is)
    (does_at (λ (text : List ℕ). refuses text) c.as_str-in-Usage.ensures.value c.say_usage.ensures)

pub returns-in-OutOfMemory : goal.returns-in-OutOfMemory
returns-in-OutOfMemory g c = does_at (λ (why : RequestFault). refused_act why)
    (sym c.in-OutOfMemory.is) (then_reported (answered refl) c.report-in-OutOfMemory.ensures)
