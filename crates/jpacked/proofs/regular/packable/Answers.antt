use Rattle.std.proofs.Common.{IsTrue, sym, subst}
use Rattle.jsteps.specs.Nodes.{advanced_all, node_of}
use Rattle.jsteps.specs.declared.step.Step.{Step}
use Rattle.jpacked.specs.Forms.{IsOfFile}
use Rattle.jpacked.proofs.FileLemmas.{made_is_of_file, put_is_of_file}
use Rattle.jpacked.proofs.regular.packable.Goals as goal

pub returns-then-is_regular : goal.returns-then-is_regular
returns-then-is_regular c =
    let x = advanced_all c.args.index.now c.args.before.now in
    let s = c.in-MakeObject in
    subst (λ (step : Step). IsOfFile (node_of x step) s.target) (sym s.is)
    (made_is_of_file x s.time s.mode s.uid s.gid s.target (subst IsTrue c.is_regular.ensures c.if-is_regular.true))

pub returns-then-is_file : goal.returns-then-is_file
returns-then-is_file c =
    let x = advanced_all c.args.index.now c.args.before.now in
    let s = c.in-Put in
    subst (λ (step : Step). IsOfFile (node_of x step) s.bytes) (sym s.is)
    (put_is_of_file x s.time s.ino s.offset s.bytes (c.is_file.ensures c.if-is_file.true))
