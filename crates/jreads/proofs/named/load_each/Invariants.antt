use Rattle.jreads.proofs.NamedLemmas.{GoesOn}
use Rattle.jreads.specs.Named.{loads_one}
use Rattle.jreads.proofs.named.load_each.Given as goal

abbrev pub invariant-loop-line : goal.invariant-loop-line
invariant-loop-line g l = GoesOn loads_one (g.H.Host.history l.fn.host) (g.H.Host.history l.host)
    l.fn.lines l.line-index l.fn.before l.files
