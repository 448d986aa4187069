use Rattle.std.proofs.Common.{rules, ◌≡◌, ℕ, List, None, Err, sym, subst, ap, ◌∙◌}
use Rattle.jnode.specs.declared.node.NodeRef.{NodeRef}
use Rattle.jscan.specs.Scans.{first_refused}
use Rattle.jmount.specs.Collected.{HasNoClash, StopsCollecting}
use Rattle.jmount.specs.Mounts.{Answers}
use Rattle.jmount.specs.MountsNodes.{AreMountable}
use Rattle.jmount.proofs.ClashLemmas.{no_clash_at}
use Rattle.jmount.proofs.FaultLemmas.{nodes_are_all}
use Rattle.jmount.proofs.MountLemmas.{stop_answers, refused_answers, nodes_mountable, image_answers}
use Rattle.jmount.proofs.mounting.mount_scanned.Goals as goal

pub returns-in_err-refuse_clashes : goal.returns-in_err-refuse_clashes
returns-in_err-refuse_clashes c = λ e size scan.
    let same : c.from_residual.result ≡ Err c.in_err-refuse_clashes.field-0.0 = search rules in
    subst (λ r. Answers e size c.args.image.now r) (sym same)
    (stop_answers e size c.args.image.now c.in_err-refuse_clashes.field-0.0 scan.scannable
    (subst (λ (ns : List (ℕ × NodeRef)). StopsCollecting ns c.in_err-refuse_clashes.field-0.0) scan.nodes c.in_err-refuse_clashes.ensures.err))

pub returns-in-Some : goal.returns-in-Some
returns-in-Some c = λ e size scan.
    refused_answers e size c.args.image.now c.in-Some.refusal c.from.result scan.scannable
    (subst HasNoClash scan.nodes (no_clash_at c.args.partial.nodes.items c.in_ok-refuse_clashes.ensures.ok))
    (sym scan.refused ∙ c.in-Some.is) c.from.ensures

pub mount_nodes-requires : goal.mount_nodes-requires
mount_nodes-requires c =
    let (e, size, scan) = c.requires.scanned in
    let none : first_refused e size c.args.image.now ≡ None = sym scan.refused ∙ c.in_default.is in
    record {
      mountable = subst AreMountable (sym (scan.nodes ∙ nodes_are_all e size c.args.image.now none)) (nodes_mountable e size c.args.image.now scan.scannable);
    }

pub returns : goal.returns
returns c = λ e size scan.
    let none : first_refused e size c.args.image.now ≡ None = sym scan.refused ∙ c.in_default.is in
    image_answers e size c.args.image.now c.args.partial.nodes.items c.args.partial.findings.items c.args.partial.read_only scan.scannable
    none scan.nodes (scan.findings c.in_default.is) (scan.read_only c.in_default.is) c.mount_nodes.result c.mount_nodes.ensures
