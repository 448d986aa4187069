use Rattle.jcalls.proofs.ManyLemmas.{AnsweredSoFar}
use Rattle.jcalls.proofs.many.answer_all.Given as goal

abbrev pub invariant-loop-i : goal.invariant-loop-i
invariant-loop-i l =
    AnsweredSoFar l.mounted.state l.fn.requests l.fn.out l.i l.requests l.out l.at
