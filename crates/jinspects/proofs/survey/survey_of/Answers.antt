use Rattle.std.proofs.Common.{ℕ, List, ◌∙◌, ap, subst, sym}
use Rattle.jnode.specs.declared.order.Endian.{Endian}
use Rattle.jscan.specs.Scans.{IsScannable}
use Rattle.jexpand.specs.Expanded.{unpacked_bytes}
use Rattle.jthrough.specs.View.{BeginWith, IsViewOf}
use Rattle.jthrough.proofs.AddressedLemmas.{view_holds_contents}
use Rattle.jthrough.proofs.MountLemmas.{unviewed_answers}
use Rattle.jedge.specs.Commands.{read_told}
use Rattle.jinspects.specs.Live.{AreLive}
use Rattle.jinspects.proofs.SurveyLemmas.{live_ascend}
use Rattle.jinspects.proofs.survey.survey_of.Goals as goal

pub returns-in-Err-clause-survey : goal.returns-in-Err-clause-survey
returns-in-Err-clause-survey g c = (
  c.in-Err.why,
  c.view_refusal.ensures,
  unviewed_answers g.E.Order.order c.args.options.geometry.block c.args.image.now c.in-Err.why c.in-Err.ensures.err,
)

pub returns-in-Err-mount_view-clause-survey : goal.returns-in-Err-mount_view-clause-survey
returns-in-Err-mount_view-clause-survey g c =
    (c.in-Err-mount_view.why, c.view_refusal-in-Err-mount_view.ensures, c.in-Err-mount_view.ensures)

pub survey_mounted-requires-clause-mount : goal.survey_mounted-requires-clause-mount
survey_mounted-requires-clause-mount g c = c.in-Ok-mount_view.ensures.1

pub survey_mounted-requires-clause-held : goal.survey_mounted-requires-clause-held
survey_mounted-requires-clause-held g c =
    let e = g.E.Order.order in
    let size : ℕ = c.args.options.geometry.block in
    let is = c.in-Ok-mount_view.ensures in
    let image : List ℕ = c.in-Ok-mount_view.mounted.image in
    let held : List ℕ = c.view_image.new.contents.items in
    subst (BeginWith (unpacked_bytes e size image)) (sym c.deref-2.ensures.value)
    (view_holds_contents e size image held c.in-Ok.view (subst (λ (l : List ℕ). IsViewOf e size l held c.in-Ok.view) (sym is.0) c.in-Ok.ensures.view) is.1.mounts.sound)

pub returns-in-Ok-survey_mounted-clause-survey : goal.returns-in-Ok-survey_mounted-clause-survey
returns-in-Ok-survey_mounted-clause-survey g c =
    let is = c.in-Ok-mount_view.ensures in
    record {
      mount = c.in-Ok-mount_view.mounted;
      mounts = is;
      live = subst (λ (image : List ℕ). AreLive g.E.Order.order c.args.options.geometry.block image c.in-Ok-survey_mounted.live.items) is.0 c.in-Ok-survey_mounted.ensures.live;
      paths = c.in-Ok-survey_mounted.ensures.paths;
      told = c.read_found.ensures
          ∙ ap (λ (e : Endian). read_told e c.args.options.geometry.block c.args.others c.in-Ok-mount_view.mounted) c.requires;
    }

pub returns-in-Ok-survey_mounted-clause-scannable : goal.returns-in-Ok-survey_mounted-clause-scannable
returns-in-Ok-survey_mounted-clause-scannable g c =
    let is = c.in-Ok-mount_view.ensures in
    subst (IsScannable c.args.options.geometry.block) is.0 is.1.mounts.sound.scannable

pub returns-in-Ok-survey_mounted-clause-ordered : goal.returns-in-Ok-survey_mounted-clause-ordered
returns-in-Ok-survey_mounted-clause-ordered g c =
    live_ascend g.E.Order.order c.args.options.geometry.block c.in-Ok-mount_view.mounted.image c.in-Ok-survey_mounted.live.items c.in-Ok-survey_mounted.ensures.live

pub returns-clause-survey : goal.returns-clause-survey
returns-clause-survey g c = (c.in-Ok-mount_view.mounted, c.in-Ok-mount_view.ensures)
