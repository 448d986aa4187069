use Rattle.std.proofs.Common.{ℕ, List, inl, inr, subst, sym}
use Rattle.jscan.specs.Scans.{IsScannable}
use Rattle.jexpand.specs.Expanded.{unpacked_bytes}
use Rattle.jthrough.specs.View.{BeginWith, IsViewOf}
use Rattle.jthrough.proofs.AddressedLemmas.{view_holds_contents}
use Rattle.jthrough.proofs.MountLemmas.{unviewed_answers}
use Rattle.jremakes.proofs.CompactingLemmas.{may_compact}
use Rattle.jremakes.proofs.planning.plan.Goals as goal

pub returns-in-Err-clause-planned : goal.returns-in-Err-clause-planned
returns-in-Err-clause-planned g c =
    let e = g.E.Order.order in
    let size : ℕ = c.args.geometry.block in
    inl (
      c.in-Err.why,
      c.view_refusal.ensures,
      unviewed_answers e size c.args.image.now c.in-Err.why c.in-Err.ensures.err,
    )

pub returns-in-Err-mount_view-clause-planned : goal.returns-in-Err-mount_view-clause-planned
returns-in-Err-mount_view-clause-planned g c =
    inl (c.in-Err-mount_view.why, c.view_refusal-in-Err-mount_view.ensures, c.in-Err-mount_view.ensures)

pub plan_through-requires : goal.plan_through-requires
plan_through-requires g c =
    let e = g.E.Order.order in
    let size : ℕ = c.args.geometry.block in
    let is = c.in-Ok-mount_view.ensures in
    let image : List ℕ = c.in-Ok-mount_view.mounted.image in
    let held : List ℕ = c.view_image.new.contents.items in
    record {
      mount = is.1;
      contents = subst (BeginWith (unpacked_bytes e size image)) (sym c.deref-2.ensures.value)
          (view_holds_contents e size image held c.in-Ok.view (subst (λ (l : List ℕ). IsViewOf e size l held c.in-Ok.view) (sym is.0) c.in-Ok.ensures.view) is.1.mounts.sound);
    }

pub returns-in-Ok-plan_through-clause-planned : goal.returns-in-Ok-plan_through-clause-planned
returns-in-Ok-plan_through-clause-planned g c =
    (c.in-Ok-mount_view.mounted, c.in-Ok-mount_view.ensures, c.in-Ok-plan_through.ensures.planned)

pub returns-in-Ok-plan_through-clause-scannable : goal.returns-in-Ok-plan_through-clause-scannable
returns-in-Ok-plan_through-clause-scannable g c =
    let is = c.in-Ok-mount_view.ensures in
    subst (IsScannable c.args.geometry.block) is.0 is.1.mounts.sound.scannable

pub returns-in-Ok-plan_through-clause-may : goal.returns-in-Ok-plan_through-clause-may
returns-in-Ok-plan_through-clause-may g c =
    let is = c.in-Ok-mount_view.ensures in
    may_compact g.E.Order.order c.args.geometry.block c.args.blocks c.args.image.now
    c.in-Ok-mount_view.mounted _ _ _ is.0 c.in-Ok-plan_through.ensures.planned

pub returns-clause-planned : goal.returns-clause-planned
returns-clause-planned g c =
    inr (
      c.in-Ok-mount_view.mounted,
      c.in-Err-plan_through.fault,
      c.collect_refusal.ensures,
      c.in-Ok-mount_view.ensures,
      c.in-Err-plan_through.ensures.refused,
    )
