use Rattle.std.proofs.Common.{rules, ◌≡◌, None, length, arith, ap, sym, ◌∙◌}
use Rattle.jscan.specs.Counts.{one_if}
use Rattle.jscan.specs.Extents.{extents}
use Rattle.jscan.specs.ExtentsLeft.{extents_left}
use Rattle.jscan.specs.Findings.{finding_of}
use Rattle.jreport.specs.ExtractionNotes.{is_attribute_node}
use Rattle.jreport.specs.Notes.{is_noted}
use Rattle.jreport.specs.declared.findings.Found.{Found}
use Rattle.jreport.proofs.ExtentLemmas.{length_extents}
use Rattle.jreport.proofs.FoundLemmas.{at_most_one, attributes_few, found_as_before, found_more, noted_few}
use Rattle.jreport.proofs.PutLemmas.{all_given, turn}
use Rattle.jreport.proofs.findings.found_in_block.Goals as goal

pub overflow_add-found : goal.overflow_add-found
overflow_add-found g c =
    let all = extents g.E.Order.order c.args.start c.args.block in
    let here = turn extents_left _ _ c.next.new.self all c.loop-extent.yielded _ c.in-Some.extent
    (ap extents_left c.into_iter-extent-iterator.ensures.into_iter_gives ∙ c.of_part-extent-items.ensures) c.loop-extent.yielded_by c.in-Some.is c.next.ensures.steps in
    let few = length_extents g.E.Order.order c.args.start c.args.block in
    let is : c.from.result ≡ one_if (is_noted c.in-Some-finding.finding.kind) = search rules in
    let one = at_most_one _ c.from.result is in
    omega (arith, ap (λ (r : Found). r.noted) c.loop-extent.invariant, noted_few c.loop-extent.yielded, here.within, few, one, c.requires.addressed)

pub overflow_add-found-in-Some-finding : goal.overflow_add-found-in-Some-finding
overflow_add-found-in-Some-finding g c =
    let all = extents g.E.Order.order c.args.start c.args.block in
    let here = turn extents_left _ _ c.next.new.self all c.loop-extent.yielded _ c.in-Some.extent
    (ap extents_left c.into_iter-extent-iterator.ensures.into_iter_gives ∙ c.of_part-extent-items.ensures) c.loop-extent.yielded_by c.in-Some.is c.next.ensures.steps in
    let few = length_extents g.E.Order.order c.args.start c.args.block in
    let is : c.from-in-Some-finding.result ≡ one_if (is_attribute_node c.in-Some-finding.finding.kind) = search rules in
    let one = at_most_one _ c.from-in-Some-finding.result is in
    omega (arith, ap (λ (r : Found). r.attributes) c.loop-extent.invariant, attributes_few c.loop-extent.yielded, here.within, few, one, c.requires.addressed)

pub loop-extent-preserved-in-Some-finding : goal.loop-extent-preserved-in-Some-finding
loop-extent-preserved-in-Some-finding g c =
    let noted : c.from.result ≡ one_if (is_noted c.in-Some-finding.finding.kind) = search rules in
    let attributes : c.from-in-Some-finding.result ≡ one_if (is_attribute_node c.in-Some-finding.finding.kind) = search rules in
    found_more c.loop-extent.yielded c.in-Some.extent c.in-Some-finding.finding c.loop-extent.found _ _ c.loop-extent.invariant
    (sym c.finding.ensures ∙ c.in-Some-finding.is) noted attributes

pub loop-extent-preserved : goal.loop-extent-preserved
loop-extent-preserved g c =
    let is : finding_of c.in-Some.extent ≡ None = search rules in
    found_as_before c.loop-extent.yielded c.in-Some.extent c.loop-extent.found c.loop-extent.invariant is

pub returns-clause-noted : goal.returns-clause-noted
returns-clause-noted g c =
    let all = extents g.E.Order.order c.args.start c.args.block in
    let given = all_given extents_left _ _ c.next.new.self all c.loop-extent.yielded _
    (ap extents_left c.into_iter-extent-iterator.ensures.into_iter_gives ∙ c.of_part-extent-items.ensures) c.loop-extent.yielded_by c.in-None.is c.next.ensures.steps in
    let few = length_extents g.E.Order.order c.args.start c.args.block in
    omega (arith, ap (λ (r : Found). r.noted) c.loop-extent.invariant, noted_few c.loop-extent.yielded, ap length given, few)

pub returns-clause-attributes : goal.returns-clause-attributes
returns-clause-attributes g c =
    let all = extents g.E.Order.order c.args.start c.args.block in
    let given = all_given extents_left _ _ c.next.new.self all c.loop-extent.yielded _
    (ap extents_left c.into_iter-extent-iterator.ensures.into_iter_gives ∙ c.of_part-extent-items.ensures) c.loop-extent.yielded_by c.in-None.is c.next.ensures.steps in
    let few = length_extents g.E.Order.order c.args.start c.args.block in
    omega (arith, ap (λ (r : Found). r.attributes) c.loop-extent.invariant, attributes_few c.loop-extent.yielded, ap length given, few)
