use Rattle.std.proofs.Common.{◌≡◌, ◌∙◌, ℕ, List, Err, rules, sym, subst}
use Rattle.jnode.specs.declared.node.NodeRef.{NodeRef}
use Rattle.jexpand.specs.Expanded.{unpacked_bytes}
use Rattle.jmount.specs.Collected.{without_addresses}
use Rattle.jmount.specs.MountsNodes.{AnswersNodes}
use Rattle.jmount.specs.Tree.{State}
use Rattle.jview.specs.Through.{IsSoundThrough}
use Rattle.jthrough.specs.View.{BeginWith}
use Rattle.jthrough.proofs.AddressedLemmas.{view_holds_contents}
use Rattle.jdeleted.specs.Deleted.{AreFilesOf}
use Rattle.jdeleted.specs.declared.files.DeletedFile.{DeletedFile}
use Rattle.jdeleted.specs.FlatMounts.{AnswersDeleted}
use Rattle.jdeleted.proofs.FlatLemmas.{deleted_mountable, deleted_mounted, deleted_unmounted}
use Rattle.jdeleted.proofs.mounting.mount_deleted.Goals as goal

pub nodes_through-requires-clause-contents : goal.nodes_through-requires-clause-contents
nodes_through-requires-clause-contents g c =
    let e = g.E.Order.order in
    let size : ℕ = c.args.geometry.block in
    let image : List ℕ = c.args.image.now in
    let held : List ℕ = c.view_image.new.contents.items in
    let is = c.in_ok-mounted.ensures in
    subst (BeginWith (unpacked_bytes e size image)) (sym c.as_slice-held.ensures.value)
    (view_holds_contents e size image held c.in_ok-view.view c.in_ok-view.ensures.view (subst (IsSoundThrough e size) is.0 is.1.mounts.sound))

-- the files, of the nodes and as the slice that is lent
found_of : (s : State) (nodes lent : List (ℕ × NodeRef)) (files slice : List DeletedFile) → lent ≡ nodes → slice ≡ files → AreFilesOf s (without_addresses lent) files → AreFilesOf s (without_addresses nodes) slice
found_of s nodes lent files slice of is found =
    subst (λ (l : List DeletedFile). AreFilesOf s (without_addresses nodes) l) (sym is) (subst (λ (l : List (ℕ × NodeRef)). AreFilesOf s (without_addresses l) files) of found)

pub mount_nodes-requires : goal.mount_nodes-requires
mount_nodes-requires g c = record {
  mountable = deleted_mountable g.E.Order.order c.args.geometry.block c.args.image.now c.in_ok-mounted.mounted c.in_ok-mounted.ensures c.in_ok-nodes.nodes.items c.in_ok-flat.flat.items
      c.as_slice.result.now c.in_ok-nodes.ensures
      (found_of c.in_ok-mounted.mounted.state c.in_ok-nodes.nodes.items c.deref.result.now c.in_ok-files.field-0.items c.as_slice.result.now c.deref.ensures.value c.as_slice.ensures.value c.in_ok-files.ensures)
      c.in_ok-flat.ensures;
}

pub returns-in-Ok : goal.returns-in-Ok
returns-in-Ok g c =
    deleted_mounted g.E.Order.order c.args.geometry.block c.args.image.now c.in_ok-mounted.mounted c.in_ok-mounted.ensures c.in_ok-nodes.nodes.items c.in_ok-flat.flat.items
    c.as_slice.result.now c.in_ok-nodes.ensures
    (found_of c.in_ok-mounted.mounted.state c.in_ok-nodes.nodes.items c.deref.result.now c.in_ok-files.field-0.items c.as_slice.result.now c.deref.ensures.value c.as_slice.ensures.value c.in_ok-files.ensures)
    c.in_ok-flat.ensures c.in_ok-findings.findings.items c.read_only.result c.in-Ok.flat
    (c.in_ok-findings.ensures.items_if_clones_equal (λ x y h. search rules) ∙ c.findings.ensures) c.read_only.ensures c.in-Ok.ensures

pub returns : goal.returns
returns g c =
    subst (λ f. AnswersDeleted g.E.Order.order c.args.geometry.block c.args.image.now (Err f)) (sym c.from.ensures)
    (deleted_unmounted g.E.Order.order c.args.geometry.block c.args.image.now c.in_ok-mounted.mounted c.in_ok-mounted.ensures c.in_ok-nodes.nodes.items c.in_ok-flat.flat.items
    c.as_slice.result.now c.in_ok-nodes.ensures
    (found_of c.in_ok-mounted.mounted.state c.in_ok-nodes.nodes.items c.deref.result.now c.in_ok-files.field-0.items c.as_slice.result.now c.deref.ensures.value c.as_slice.ensures.value c.in_ok-files.ensures)
    c.in_ok-flat.ensures c.in_ok-findings.findings.items c.read_only.result c.in-Err.why
    (subst (λ r. AnswersNodes c.args.image.now c.in_ok-flat.flat.items c.in_ok-findings.findings.items c.read_only.result r) c.in-Err.is c.mount_nodes.ensures))
