use Rattle.std.proofs.Common.{Option}
use Rattle.jjson.specs.declared.lines.Lines.{Lines}
use Rattle.jedge.proofs.Steps.{does_at, step_reported}
use Rattle.jffs2_image.specs.Running.{json_act}
use Rattle.jffs2_image.proofs.program.run_request.Goals as goal

pub returns : goal.returns
returns g c = step_reported (does_at (λ (lines : Option Lines). json_act lines) c.lines_asked.ensures c.print_json.ensures) c.run_read.ensures
