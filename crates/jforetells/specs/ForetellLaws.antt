-- What is true of the acts. Each is a statement: it holds since a public function's contract names
-- it.
use Rattle.std.specs.Prelude.{ℕ, List}
use Rattle.jnode.specs.declared.order.Endian.{Endian}
use Rattle.jcommand.specs.declared.parsed.CutsThrough.{CutsThrough}
use Rattle.jcommand.specs.declared.parsed.UpdateCuts.{UpdateCuts}
use Rattle.jedge.specs.Commands.{reported}
use Rattle.jedge.specs.Laws.{BlamesFailed, JudgesFirstBut, MakesNothing}
use Rattle.jreads.specs.ReadLaws.{IsRefusedAtLine}
use Rattle.jforetells.specs.Foretelling.{cuts_through_act, cuts_update_act}

-- it makes no file, and changes none, whatever it answers
abbrev pub CutsThroughReadsOnly : Type 0
CutsThroughReadsOnly = (e : Endian) (c : CutsThrough (List ℕ))
    → MakesNothing (reported (cuts_through_act e c))

-- a fault of it that names a file comes with that file's failed call, and that of the output with a
-- print that failed
abbrev pub CutsThroughBlamesFailed : Type 0
CutsThroughBlamesFailed = (e : Endian) (c : CutsThrough (List ℕ))
    → BlamesFailed (cuts_through_act e c)

-- all but the operation of a line is refused before anything is printed
abbrev pub CutsThroughJudgedFirst : Type 0
CutsThroughJudgedFirst = (e : Endian) (c : CutsThrough (List ℕ))
    → JudgesFirstBut IsRefusedAtLine (cuts_through_act e c)

-- ---- the same of `cuts --update`

abbrev pub CutsUpdateReadsOnly : Type 0
CutsUpdateReadsOnly = (e : Endian) (c : UpdateCuts (List ℕ))
    → MakesNothing (reported (cuts_update_act e c))

abbrev pub CutsUpdateBlamesFailed : Type 0
CutsUpdateBlamesFailed = (e : Endian) (c : UpdateCuts (List ℕ))
    → BlamesFailed (cuts_update_act e c)

abbrev pub CutsUpdateJudgedFirst : Type 0
CutsUpdateJudgedFirst = (e : Endian) (c : UpdateCuts (List ℕ))
    → JudgesFirstBut IsRefusedAtLine (cuts_update_act e c)
