use Rattle.jdamage.specs.Ways.{LeadNowhere, first_name}
use Rattle.jdamage.proofs.nowhere.nowhere_of.Given as goal

abbrev pub invariant-loop-dir : goal.invariant-loop-dir
invariant-loop-dir l = LeadNowhere l.mounted.state (first_name l.mounted.state) l.nowhere
