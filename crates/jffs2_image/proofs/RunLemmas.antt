-- A run: what the words ask for, and that the host did it.
use Rattle.std.proofs.Common.{◌≡◌, List, Some, Ok, Err}
use Rattle.std.specs.Prelude.{◌⊎◌, Result}
use Rattle.clap.specs.Words.{Text}
use Rattle.jcommand.specs.Parsed.{IsFaultless, IsHelpRequested, IsRefusedByClap}
use Rattle.jcommand.specs.Requests.{IsUnreadable, request_from}
use Rattle.jcommand.specs.Refused.{IsHelp, IsUsage}
use Rattle.jcommand.specs.declared.command_line.RequestFault.{RequestFault}
use Rattle.jcommand.specs.declared.command_line.RequestFault.TheVariants as refused
use Rattle.jcommand.specs.declared.outcome.Outcome.{Outcome}
use Rattle.jcommand.specs.declared.request.Request.{Request}
use Rattle.jedge.specs.Acts.{DoesFrom}
use Rattle.jedge.specs.Commands.{reported}
use Rattle.jedge.specs.declared.fault.Fault.{Fault}
use Rattle.jedge.proofs.Steps.{History, mapped}
use Rattle.jffs2_image.specs.Running.{AsksFor, refused_act, request_act, run_act}

-- they ask for a command, and it was done
pub ran_command : {old new : History} {words : List Text} {asked : Request Text} {r : Result Outcome Fault}
    → request_from words ≡ Some asked → IsFaultless words
    → DoesFrom old new (reported (request_act asked)) r → DoesFrom old new (run_act words) r
ran_command {asked} parsed faultless done =
    mapped (λ events did. record { asked = Ok asked; asks = (parsed, faultless); does = did }) done

-- they ask for none, since it is due
pub refusal : (words : List Text) (why : RequestFault) → (IsHelp why → IsHelpRequested words) → (IsUsage why → IsRefusedByClap words ⊎ IsUnreadable words) → AsksFor words (Err why)
refusal words (refused.Help text) help usage = help tt
refusal words (refused.Usage text) help usage = usage tt
refusal words refused.OutOfMemory help usage = tt

pub ran_refused : {old new : History} {words : List Text} {r : Result Outcome Fault} (why : RequestFault)
    → AsksFor words (Err why) → DoesFrom old new (refused_act why) r → DoesFrom old new (run_act words) r
ran_refused why asks done = mapped (λ events did. record { asked = Err why; asks = asks; does = did }) done
