-- The worked examples of what is told.
use Rattle.std.specs.Prelude.{ℕ, Option}
use Rattle.jcuts.specs.declared.lines.StepNode.{StepNode}

-- a step of an operation of the line, and its node: the address, the length, the address that it
-- stands from, a weak cut
abbrev pub told_of : ℕ → ℕ → ℕ → ℕ → ℕ → ℕ → Option ℕ → StepNode
told_of line step steps addr totlen from weak =
    record {
      line = line;
      step = step;
      steps = steps;
      standing = record { addr = addr; totlen = totlen; stands_from = from; weak = weak };
    }
