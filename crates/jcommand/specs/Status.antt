-- How the program ends, and its exit status.
use Rattle.std.specs.Prelude.{ℕ, ◌==◌, if◌then◌else◌}
use Rattle.jcommand.specs.declared.outcome.Outcome.{Outcome}
use Rattle.jcommand.specs.declared.outcome.Outcome.TheVariants as outcome

-- rule: What is printed: Exit statuses.
--   definitions: jcommand.Status.status_of
--   code: jcommand::outcome::status
abbrev pub status_of : Outcome → ℕ
status_of outcome.Done = 0
status_of outcome.Fault = 1
status_of outcome.Usage = 2
status_of outcome.Found = 3

-- what it comes to where nothing failed, by the number of findings
abbrev pub outcome_of : ℕ → Outcome
outcome_of findings = if findings == 0 then outcome.Done else outcome.Found
