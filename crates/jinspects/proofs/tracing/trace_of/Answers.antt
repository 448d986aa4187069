use Rattle.std.proofs.Common.{ℕ, List, Option, ◌∙◌, ap, inl, subst, sym}
use Rattle.std.specs.Prelude.{option_map}
use Rattle.jnode.specs.declared.order.Endian.{Endian}
use Rattle.jscan.specs.Scans.{IsScannable}
use Rattle.jexpand.specs.Expanded.{unpacked_bytes}
use Rattle.jthrough.specs.Addressed.{addressed_nodes}
use Rattle.jthrough.specs.View.{BeginWith, IsViewOf}
use Rattle.jthrough.proofs.AddressedLemmas.{view_holds_contents}
use Rattle.jthrough.proofs.MountLemmas.{unviewed_answers}
use Rattle.jhistory.specs.NodeWords.{AreWordsOf}
use Rattle.jedge.specs.Commands.{read_told}
use Rattle.jinspects.specs.Former.{AreFormerIf}
use Rattle.jinspects.specs.Tracing.{ArePastsIf}
use Rattle.jinspects.proofs.TraceLemmas.{stopped}
use Rattle.jinspects.proofs.tracing.trace_of.Goals as goal

pub returns-in-Err-clause-trace : goal.returns-in-Err-clause-trace
returns-in-Err-clause-trace g c = inl (
  c.in-Err.why,
  c.view_refusal.ensures,
  unviewed_answers g.E.Order.order c.args.options.geometry.block c.args.image.now c.in-Err.why c.in-Err.ensures.err,
)

pub returns-in-Err-mount_view-clause-trace : goal.returns-in-Err-mount_view-clause-trace
returns-in-Err-mount_view-clause-trace g c =
    inl (c.in-Err-mount_view.why, c.view_refusal-in-Err-mount_view.ensures, c.in-Err-mount_view.ensures)

pub trace_mounted-requires-clause-mount : goal.trace_mounted-requires-clause-mount
trace_mounted-requires-clause-mount g c = c.in-Ok-mount_view.ensures.1

pub trace_mounted-requires-clause-held : goal.trace_mounted-requires-clause-held
trace_mounted-requires-clause-held g c =
    let e = g.E.Order.order in
    let size : ℕ = c.args.options.geometry.block in
    let is = c.in-Ok-mount_view.ensures in
    let image : List ℕ = c.in-Ok-mount_view.mounted.image in
    let held : List ℕ = c.view_image.new.contents.items in
    subst (BeginWith (unpacked_bytes e size image)) (sym c.deref-2.ensures.value)
    (view_holds_contents e size image held c.in-Ok.view (subst (λ (l : List ℕ). IsViewOf e size l held c.in-Ok.view) (sym is.0) c.in-Ok.ensures.view) is.1.mounts.sound)

pub returns-in-Ok-trace_mounted-clause-trace : goal.returns-in-Ok-trace_mounted-clause-trace
returns-in-Ok-trace_mounted-clause-trace g c =
    let e = g.E.Order.order in
    let size : ℕ = c.args.options.geometry.block in
    let path = option_map (λ p. p.items) c.args.path.now in
    let is = c.in-Ok-mount_view.ensures in
    let m = c.in-Ok-mount_view.mounted in
    record {
      mount = m;
      mounts = is;
      words = subst (λ (image : List ℕ). AreWordsOf (addressed_nodes e size image) c.in-Ok-trace_mounted.words) is.0 c.in-Ok-trace_mounted.ensures.words;
      numbers = subst (λ (image : List ℕ). AreFormerIf (addressed_nodes e size image) m.state path c.in-Ok-trace_mounted.numbers) is.0 c.in-Ok-trace_mounted.ensures.numbers;
      pasts = subst (λ (image : List ℕ). ArePastsIf (addressed_nodes e size image) m.state c.in-Ok-trace_mounted.numbers c.in-Ok-trace_mounted.pasts.items) is.0 c.in-Ok-trace_mounted.ensures.pasts;
      told = c.read_found.ensures ∙ ap (λ (e : Endian). read_told e size c.args.others m) c.requires;
    }

pub returns-in-Ok-trace_mounted-clause-scannable : goal.returns-in-Ok-trace_mounted-clause-scannable
returns-in-Ok-trace_mounted-clause-scannable g c =
    let is = c.in-Ok-mount_view.ensures in
    subst (IsScannable c.args.options.geometry.block) is.0 is.1.mounts.sound.scannable

pub returns-clause-trace : goal.returns-clause-trace
returns-clause-trace g c =
    stopped g.E.Order.order c.args.options.geometry.block c.args.image.now c.args.others (option_map (λ p. p.items) c.args.path.now)
    c.in-Ok-mount_view.mounted c.in-Err-trace_mounted.fault c.in-Ok-mount_view.ensures c.in-Err-trace_mounted.ensures.err
