use Rattle.std.proofs.Common.{rules, ◌≡◌, ◌+◌, ℕ, List, Err, sym, subst, ap, ◌∙◌}
use Rattle.jnode.specs.declared.node.NodeRef.{NodeRef}
use Rattle.jmount.specs.MountsNodes.{AnswersNodes}
use Rattle.jmount.proofs.MountLemmas.{Keeps, stop_answers_nodes, collected_ends, collected_parents, not_a_directory, mounted}
use Rattle.jmount.proofs.mounting.mount_nodes.Goals as goal

pub returns-in_err-names : goal.returns-in_err-names
returns-in_err-names c =
    let same : c.from_residual.result ≡ Err c.in_err-names.field-0.0 = search rules in
    subst (λ r. AnswersNodes c.args.image.now c.args.nodes.items c.args.findings.items c.args.read_only r) (sym same)
    (stop_answers_nodes c.args.image.now c.args.nodes.items c.args.findings.items c.args.read_only c.in_err-names.field-0.0 c.in_err-names.ensures.err)

pub into_objects-requires : goal.into_objects-requires
into_objects-requires c =
    record { ends = collected_ends c.in_ok-names.field-0.names c.in_ok-names.field-0.inodes c.args.nodes.items c.requires.mountable c.in_ok-names.ensures.ok }

pub keep_directories-requires-clause-parents : goal.keep_directories-requires-clause-parents
keep_directories-requires-clause-parents c =
    collected_parents c.in_ok-names.field-0.names c.in_ok-names.field-0.inodes c.args.nodes.items c.requires.mountable c.in_ok-names.ensures.ok

pub returns-then-not-is_directory : goal.returns-then-not-is_directory
returns-then-not-is_directory c =
    let keeps : Keeps c.args.nodes.items c.in_ok-names.field-0.names c.in_ok-names.field-0.inodes c.in_ok-named.named.objects (c.from-next.result + 1) = record {
      collected = c.in_ok-names.ensures.ok;
      ordered = c.in_ok-named.ensures.ordered;
      each = λ i. c.in_ok-named.ensures.same i ∙ c.in_ok-into_objects.ensures.each i;
      number = ap (λ (n : ℕ). n + 1) (c.from-next.ensures ∙ c.in_ok-names.ensures.greatest);
    } in
    not_a_directory c.args.nodes.items c.in_ok-names.field-0.names c.in_ok-names.field-0.inodes c.in_ok-named.named.objects (c.from-next.result + 1) keeps
    c.args.image.now c.in_ok-mounted.mounted c.args.findings.items c.args.read_only c.is_directory.result c.in_ok-mounted.ensures c.is_directory.ensures c.if-not-is_directory.true

pub returns : goal.returns
returns c =
    let keeps : Keeps c.args.nodes.items c.in_ok-names.field-0.names c.in_ok-names.field-0.inodes c.in_ok-named.named.objects (c.from-next.result + 1) = record {
      collected = c.in_ok-names.ensures.ok;
      ordered = c.in_ok-named.ensures.ordered;
      each = λ i. c.in_ok-named.ensures.same i ∙ c.in_ok-into_objects.ensures.each i;
      number = ap (λ (n : ℕ). n + 1) (c.from-next.ensures ∙ c.in_ok-names.ensures.greatest);
    } in
    mounted c.args.nodes.items c.in_ok-names.field-0.names c.in_ok-names.field-0.inodes c.in_ok-named.named.objects (c.from-next.result + 1) keeps
    c.args.image.now c.in_ok-mounted.mounted c.args.findings.items c.args.read_only c.is_directory.result c.in_ok-mounted.ensures c.is_directory.ensures c.if-not-is_directory.false
