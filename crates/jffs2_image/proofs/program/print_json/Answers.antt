use Rattle.std.proofs.Common.{Option, refl, sym}
use Rattle.jjson.specs.declared.lines.Lines.{Lines}
use Rattle.jedge.proofs.Steps.{answered, does_at}
use Rattle.jffs2_image.specs.Running.{json_act}
use Rattle.jffs2_image.proofs.program.print_json.Goals as goal

pub returns-in-Some : goal.returns-in-Some
returns-in-Some g c = does_at (λ (lines : Option Lines). json_act lines) (sym c.in-Some.is) c.print_json.ensures

pub returns-in-None : goal.returns-in-None
returns-in-None g c = does_at (λ (lines : Option Lines). json_act lines) (sym c.in-None.is) (answered refl)
