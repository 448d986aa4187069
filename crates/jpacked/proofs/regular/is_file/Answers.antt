use Rattle.std.proofs.Common.{rules, ◌≡◌, ◌<◌, IsTrue, Some, sym, subst, ◌∙◌}
use Rattle.std.specs.Prelude.{slice_get}
use Rattle.jsteps.specs.declared.step.Step.TheVariants as step
use Rattle.jpacked.proofs.FileLemmas.{files_stay, known_file, new_file}
use Rattle.jpacked.proofs.regular.is_file.Goals as goal

pub returns-in-Some : goal.returns-in-Some
returns-in-Some c =
    let x = c.args.index.now in
    let taken : c.args.ino < x.tree.next = search rules in
    λ yes. files_stay x c.args.before.now c.args.ino
    (known_file x c.args.ino c.in-Some.object (sym c.object.ensures ∙ c.in-Some.is) (subst IsTrue c.is_regular.ensures yes) taken)

pub returns-then-from-next-2 : goal.returns-then-from-next-2
returns-then-from-next-2 c =
    let x = c.args.index.now in
    let s = c.in-Some-MakeObject in
    let same : c.args.ino ≡ x.tree.next = search rules in
    let first : slice_get c.args.before.now 0 ≡ Some (step.MakeObject s.field-0-0 s.mode s.field-0-2 s.field-0-3 s.field-0-4) = search rules in
    λ yes. new_file x c.args.before.now s.field-0-0 s.mode s.field-0-2 s.field-0-3 c.args.ino s.field-0-4 first same (subst IsTrue c.is_regular-then-from-next-2.ensures yes)
