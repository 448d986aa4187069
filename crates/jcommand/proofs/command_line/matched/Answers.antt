use Rattle.std.proofs.Common.{◌≡◌, ◌≢◌, ap, ◌∙◌, refl, subst, sym, true, map, inl, inr}
use Rattle.clap.specs.Words.{App, HasKind, IsAmong, Kinds, fault_of, is_simple, kind_of, subcommand_of, takes}
use Rattle.clap.specs.Faults.{is_simple_and_free}
use Rattle.clap.specs.declared.error.Error.{Error}
use Rattle.clap.specs.declared.error.ErrorKind.{ErrorKind}
use Rattle.clap.specs.declared.error.ErrorKind.TheVariants.{OutOfMemory}
use Rattle.clap.proofs.OnLiterals.{clap_on_literals}
use Rattle.jcommand.specs.Parsed.{IsHelpRequested, IsHelpKind, IsRefusedByClap}
use Rattle.jcommand.specs.Commands.{program}
use Rattle.jcommand.proofs.command_line.matched.Goals as goal

is_simple_program : is_simple program ≡ true
unfolding clap_on_literals program
is_simple_program = refl

is_free_program : is_simple_and_free program ≡ true
unfolding clap_on_literals program
is_free_program = refl

-- an error that is not out of memory is among the kinds
kind_among : (kinds : Kinds) (e : Error) → HasKind kinds e → kind_of e ≢ OutOfMemory → IsAmong (kind_of e) kinds
kind_among kinds e (inl memory) other = absurd (other memory)
kind_among kinds e (inr among) other = among

help_is_no_memory : {kind : ErrorKind} → IsHelpKind kind → kind ≢ OutOfMemory
help_is_no_memory (inl is) = λ memory. cc
help_is_no_memory (inr is) = λ memory. cc

pub returns-in-Ok-clause-ok : goal.returns-in-Ok-clause-ok
returns-in-Ok-clause-ok c =
    let app = c.in_ok-command.ensures.app in
    (c.in-Ok.ensures.matches (ap is_simple app ∙ is_simple_program)).1
    ∙ ap (λ (a : App). subcommand_of a (map (λ w. w.now) c.args.args.now)) app

pub returns-in-Ok-clause-not_refused : goal.returns-in-Ok-clause-not_refused
returns-in-Ok-clause-not_refused c =
    let app = c.in_ok-command.ensures.app in
    ap (λ (a : App). fault_of a (map (λ w. w.now) c.args.args.now)) (sym app)
    ∙ c.in-Ok.ensures.kinds (ap is_simple_and_free app ∙ is_free_program)

pub returns-in-Err-clause-taken : goal.returns-in-Err-clause-taken
returns-in-Err-clause-taken c = λ taken.
    let app = c.in_ok-command.ensures.app in
    c.fault_of_error.ensures.memory (c.in-Err.ensures.passes (ap (λ (a : App). takes a (map (λ w. w.now) c.args.args.now)) app ∙ taken))

pub returns-in-Err-clause-help : goal.returns-in-Err-clause-help
unfolding IsHelpRequested
returns-in-Err-clause-help c = λ help.
    let app = c.in_ok-command.ensures.app in
    let kinds = c.in-Err.ensures.kinds (ap is_simple_and_free app ∙ is_free_program) in
    let args = map (λ w. w.now) c.args.args.now in
    let is = c.fault_of_error.ensures.help help in (
      kind_of c.in-Err.error,
      is,
      subst (λ (a : App). IsAmong (kind_of c.in-Err.error) (fault_of a args)) app
          (kind_among _ c.in-Err.error kinds (help_is_no_memory is)),
    )

pub returns-in-Err-clause-usage : goal.returns-in-Err-clause-usage
unfolding IsRefusedByClap
returns-in-Err-clause-usage c = λ usage.
    let app = c.in_ok-command.ensures.app in
    let kinds = c.in-Err.ensures.kinds (ap is_simple_and_free app ∙ is_free_program) in
    let args = map (λ w. w.now) c.args.args.now in
    let other = c.fault_of_error.ensures.usage usage in (
      kind_of c.in-Err.error,
      other.0,
      other.1,
      subst (λ (a : App). IsAmong (kind_of c.in-Err.error) (fault_of a args)) app
          (kind_among _ c.in-Err.error kinds other.2),
    )
