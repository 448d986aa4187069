use Rattle.std.proofs.Common.{◌∙◌, ap}
use Rattle.jsteps.specs.Refusals.{planned_by}
use Rattle.jsteps.proofs.PlannedLemmas.{create_made, fifo_made, given_by, mkdir_made, socket_made}
use Rattle.jsteps.proofs.planning.plan_empty.Goals as goal
use Rattle.jsteps.proofs.planning.plan_empty.Goals.{in-Mkdir, in-Create, in-Fifo, in-Socket}

pub returns : goal.returns
returns c = λ page.
    elim c.match-op.branch [
      | in-Mkdir w ↦ let o = w.in-Mkdir in
          given_by c.make.result _ c.args.index.now c.match-op.kind.0 _ c.as_slice.result.now o.path c.as_slice-target.result.now c.match-op.kind.2 _ c.make.ensures
          (ap (λ k. k.0) w.kind-is) (c.as_slice.ensures ∙ ap (λ k. k.1.now) w.kind-is) c.as_slice-target.ensures (ap (λ k. k.2) w.kind-is ∙ w.of.ensures)
          (ap (planned_by page c.args.index.now) o.is ∙ mkdir_made page c.args.index.now o.time o.path o.mode o.uid o.gid)
      | in-Create w ↦ let o = w.in-Create in
          given_by c.make.result _ c.args.index.now c.match-op.kind.0 _ c.as_slice.result.now o.path c.as_slice-target.result.now c.match-op.kind.2 _ c.make.ensures
          (ap (λ k. k.0) w.kind-is) (c.as_slice.ensures ∙ ap (λ k. k.1.now) w.kind-is) c.as_slice-target.ensures (ap (λ k. k.2) w.kind-is ∙ w.of-in-Create.ensures)
          (ap (planned_by page c.args.index.now) o.is ∙ create_made page c.args.index.now o.time o.path o.mode o.uid o.gid)
      | in-Fifo w ↦ let o = w.in-Fifo in
          given_by c.make.result _ c.args.index.now c.match-op.kind.0 _ c.as_slice.result.now o.path c.as_slice-target.result.now c.match-op.kind.2 _ c.make.ensures
          (ap (λ k. k.0) w.kind-is) (c.as_slice.ensures ∙ ap (λ k. k.1.now) w.kind-is) c.as_slice-target.ensures (ap (λ k. k.2) w.kind-is ∙ w.of-in-Fifo.ensures)
          (ap (planned_by page c.args.index.now) o.is ∙ fifo_made page c.args.index.now o.time o.path o.mode o.uid o.gid)
      | in-Socket w ↦ let o = w.in-Socket in
          given_by c.make.result _ c.args.index.now c.match-op.kind.0 _ c.as_slice.result.now o.path c.as_slice-target.result.now c.match-op.kind.2 _ c.make.ensures
          (ap (λ k. k.0) w.kind-is) (c.as_slice.ensures ∙ ap (λ k. k.1.now) w.kind-is) c.as_slice-target.ensures (ap (λ k. k.2) w.kind-is ∙ w.of-in-Socket.ensures)
          (ap (planned_by page c.args.index.now) o.is ∙ socket_made page c.args.index.now o.time o.path o.mode o.uid o.gid)
    ]
