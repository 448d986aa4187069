use Rattle.std.proofs.Common.{◌≡◌, ◌∙◌, ap, sym, List, ℕ}
use Rattle.jsteps.specs.Refusals.{planned_by}
use Rattle.jsteps.specs.Tests.{made_plan, new_of}
use Rattle.jsteps.specs.declared.op.Op.TheVariants as op
use Rattle.jsteps.proofs.PlannedLemmas.{symlink_made, given_as}
use Rattle.jsteps.proofs.planning.symlink.Goals as goal

pub returns : goal.returns
returns c = λ page.
    let path : c.as_slice-path.result.now ≡ c.args.path.now = c.as_slice-path.ensures in
    let target : c.as_slice-target.result.now ≡ c.args.target.now = c.as_slice-target.ensures in
    given_as _ _ _ c.make.ensures
    (ap (λ (path : List ℕ). planned_by page c.args.index.now (op.Symlink c.args.time path c.args.target.now c.args.uid c.args.gid)) (sym path)
    ∙ ap (λ (target : List ℕ). planned_by page c.args.index.now (op.Symlink c.args.time c.as_slice-path.result.now target c.args.uid c.args.gid)) (sym target)
    ∙ symlink_made page c.args.index.now c.args.time c.as_slice-path.result.now c.as_slice-target.result.now c.args.uid c.args.gid
    ∙ ap (made_plan c.args.index.now c.args.time c.as_slice-path.result.now (new_of 0o120000 0o777 c.args.uid c.args.gid c.as_slice-target.result.now)) (sym c.is_bad_target-is_bad.ensures))
