use Rattle.std.proofs.Common.{sym, ◌∙◌}
use Rattle.jlisting.proofs.BrokenLemmas.{nothing_breaks}
use Rattle.jlisting.proofs.lines.fault_of_line.Goals as goal

pub unreachable-requires : goal.unreachable-requires
unreachable-requires c = nothing_breaks c.args.settings c.args.line.now c.requires (sym c.in-Ok-None.ensures ∙ c.in-Ok-None.field-0-is)
