use Rattle.std.proofs.Common.{Err, subst, sym}
use Rattle.jedge.specs.Views.{NamesPath}
use Rattle.jedge.specs.declared.fault.Fault.{Fault}
use Rattle.jedge.proofs.ViewLemmas.{word_refused}
use Rattle.jedge.proofs.subject.path_named.Goals as goal

pub returns-in-Err : goal.returns-in-Err
returns-in-Err c = subst (λ (f : Fault). NamesPath c.args.word.now (Err f)) (sym c.of.ensures)
    (word_refused c.args.word.now c.in-Err.fault (rw c.as_bytes.ensures.value at c.in-Err.ensures.err))
