use Rattle.jbuild.specs.HostFiles.{read_of}
use Rattle.jreads.proofs.NamedLemmas.{Measuring}
use Rattle.jreads.proofs.named.measure_named.Given as goal

abbrev pub invariant-loop-line : goal.invariant-loop-line
invariant-loop-line g l = Measuring (g.H.Host.history l.fn.host) (g.H.Host.history l.host)
    l.fn.lines l.line-index (read_of l.count.files) l.count.left
