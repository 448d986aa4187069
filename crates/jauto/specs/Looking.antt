-- What a command with `--auto` does.
use Rattle.std.specs.Prelude.{◌≡◌, ℕ, Bool, List, Option, Some, None, option_map, Ok, Err}
use Rattle.jmount.specs.declared.fault.MountFault.TheVariants as mount
use Rattle.jinfo.specs.Containers.{container_line, container_of}
use Rattle.jinfo.specs.Infos.{info_of}
use Rattle.jreport.specs.declared.faults.ProgramFault.TheVariants as program
use Rattle.jcommand.specs.declared.parsed.Options.{Options}
use Rattle.jedge.specs.Acts.{Act, Then, answers, loads, says}
use Rattle.jedge.specs.Told.{Told}
use Rattle.jedge.specs.declared.fault.Fault.TheVariants as fault
use Rattle.jauto.specs.Taking.{taking_of}
use Rattle.jauto.specs.TakingText.{taken_line, unclear_line}
use Rattle.jauto.specs.declared.taking.Taking.{Taking}
use Rattle.jauto.specs.declared.taking.Taking.TheVariants as taking

-- It is said what is taken. An image in which no node is found is refused, and so is one in which
-- blocks of several sizes fit where one has to; before it is said what the file begins as, or which
-- sizes fit.
abbrev pub takes_options : List ℕ → Taking → Act Options
takes_options image taking.Nothing =
    Then (says (option_map container_line (container_of image))) (λ _.
    answers (λ result. result ≡ Err (fault.NoNodes None 0)))
takes_options image (taking.Unclear order sizes) =
    Then (says (Some (unclear_line order sizes))) (λ _.
    answers (λ result. result ≡ Err (fault.Refused (program.Mount mount.BlockSize))))
takes_options image (taking.Taken options) =
    Then (says (Some (taken_line options))) (λ _. answers (λ result. result ≡ Ok options))

-- the file of a name is read, and options are taken of it, for a command that writes an image or
-- does not
abbrev pub options_act : Bool → List ℕ → Act Options
options_act writes name =
    Then (loads name) (λ image. takes_options image (taking_of writes (info_of image)))

-- and then the command does what it does with these options, in which the image is read again
abbrev pub auto_act : Bool → List ℕ → (Options → Act Told) → Act Told
auto_act writes name act = Then (options_act writes name) act
