-- What is true of the act of `verify`.
use Rattle.std.specs.Prelude.{ℕ, List}
use Rattle.jnode.specs.declared.order.Endian.{Endian}
use Rattle.jedge.specs.Commands.{reported}
use Rattle.jedge.specs.Laws.{MakesNothing}
use Rattle.jfolders.specs.Laws.{BlamesOnlyFailed}
use Rattle.jverifies.specs.Verifying.{verify_act}
use Rattle.jcommand.specs.declared.parsed.Verification.{Verification}

abbrev pub VerifyMakesNothing : Type 0
VerifyMakesNothing =
    (e : Endian) (asked : Verification (List ℕ)) → MakesNothing (reported (verify_act e asked))

abbrev pub VerifyBlamed : Type 0
VerifyBlamed = (e : Endian) (asked : Verification (List ℕ)) → BlamesOnlyFailed (verify_act e asked)
