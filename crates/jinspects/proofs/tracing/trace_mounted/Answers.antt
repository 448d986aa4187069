use Rattle.std.proofs.Common.{◌≡◌, ℕ, ◌<◌, List, Option, Some, None, Ok, Err, ap, sym, subst, ◌∙◌}
use Rattle.std.specs.Prelude.{option_map}
use Rattle.std.specs.List.{AllPairs}
use Rattle.jexpand.specs.Expanded.{unpacked_bytes}
use Rattle.jmount.specs.Collected.{without_addresses}
use Rattle.jmount.specs.MountsNodes.{AreMountable}
use Rattle.jmount.specs.StateOf.{state_of}
use Rattle.jmount.specs.declared.fault.FindFault.{FindFault}
use Rattle.jview.specs.Through.{IsSoundThrough}
use Rattle.jthrough.specs.Addressed.{addressed_nodes}
use Rattle.jthrough.specs.View.{BeginWith}
use Rattle.jthrough.proofs.AddressedLemmas.{addressed_are_expanded, addressed_are_by_address, addressed_are_mountable}
use Rattle.jcompact.specs.Matters.{Placed}
use Rattle.jhistory.specs.NodeWords.{AreWordsOf}
use Rattle.jinspects.specs.Former.{AreFormerIf, IsNoFormerIf, TellsPath}
use Rattle.jinspects.specs.Tracing.{ArePastsIf}
use Rattle.jinspects.proofs.tracing.trace_mounted.Goals as goal

pub nodes_through-requires-clause-sound : goal.nodes_through-requires-clause-sound
nodes_through-requires-clause-sound g c = subst (IsSoundThrough g.E.Order.order c.args.geometry.block) (sym c.image.ensures) c.requires.mount.mounts.sound

pub nodes_through-requires-clause-contents : goal.nodes_through-requires-clause-contents
nodes_through-requires-clause-contents g c =
    subst (λ (image : List ℕ). BeginWith (unpacked_bytes g.E.Order.order c.args.geometry.block image) c.args.contents.now) (sym c.image.ensures) c.requires.held

pub words_of-requires-clause-mountable : goal.words_of-requires-clause-mountable
words_of-requires-clause-mountable g c =
    let e = g.E.Order.order in
    let size : ℕ = c.args.geometry.block in
    subst AreMountable (sym (c.in-Ok.ensures ∙ ap (addressed_nodes e size) c.image.ensures))
    (addressed_are_mountable e size c.args.mounted.now.image c.requires.mount.mounts.sound.scannable)

pub words_of-requires-clause-by_address : goal.words_of-requires-clause-by_address
words_of-requires-clause-by_address g c =
    let e = g.E.Order.order in
    let size : ℕ = c.args.geometry.block in
    subst (AllPairs (λ (m n : Placed). m.0 < n.0)) (sym (c.in-Ok.ensures ∙ ap (addressed_nodes e size) c.image.ensures)) (addressed_are_by_address e size c.args.mounted.now.image)

pub words_of-requires-clause-made : goal.words_of-requires-clause-made
words_of-requires-clause-made g c =
    let e = g.E.Order.order in
    let size : ℕ = c.args.geometry.block in
    sym c.requires.mount.mounts.same ∙ ap state_of (sym (addressed_are_expanded e size c.args.mounted.now.image))
    ∙ ap (λ (ns : List Placed). state_of (without_addresses ns)) (sym (c.in-Ok.ensures ∙ ap (addressed_nodes e size) c.image.ensures))

pub returns-in-Ok-words_of-clause-words : goal.returns-in-Ok-words_of-clause-words
returns-in-Ok-words_of-clause-words g c =
    let e = g.E.Order.order in
    let size : ℕ = c.args.geometry.block in
    subst (λ (ns : List Placed). AreWordsOf ns c.in-Ok-words_of.words) (c.in-Ok.ensures ∙ ap (addressed_nodes e size) c.image.ensures) c.in-Ok-words_of.ensures

pub returns-in-Ok-words_of-clause-numbers : goal.returns-in-Ok-words_of-clause-numbers
returns-in-Ok-words_of-clause-numbers g c =
    let e = g.E.Order.order in
    let size : ℕ = c.args.geometry.block in
    let path = option_map (λ p. p.items) c.args.path.now in
    subst (λ (ns : List Placed). AreFormerIf ns c.args.mounted.now.state path c.in-Ok-numbers_for.numbers)
    (c.as_slice.ensures.value ∙ c.in-Ok.ensures ∙ ap (addressed_nodes e size) c.image.ensures) c.in-Ok-numbers_for.ensures.ok

pub returns-in-Err-numbers_for-clause-err : goal.returns-in-Err-numbers_for-clause-err
returns-in-Err-numbers_for-clause-err g c =
    let e = g.E.Order.order in
    let size : ℕ = c.args.geometry.block in
    let path = option_map (λ p. p.items) c.args.path.now in
    subst (λ (ns : List Placed). TellsPath (IsNoFormerIf ns c.args.mounted.now.state path) c.in-Err-numbers_for.fault)
    (c.as_slice.ensures.value ∙ c.in-Ok.ensures ∙ ap (addressed_nodes e size) c.image.ensures) c.in-Err-numbers_for.ensures.err

pub returns-in-Ok-words_of-clause-pasts : goal.returns-in-Ok-words_of-clause-pasts
returns-in-Ok-words_of-clause-pasts g c =
    let e = g.E.Order.order in
    let size : ℕ = c.args.geometry.block in
    subst (λ (ns : List Placed). ArePastsIf ns c.args.mounted.now.state c.in-Ok-numbers_for.numbers c.in-Ok-pasts_for.pasts.items)
    (c.as_slice-2.ensures.value ∙ c.in-Ok.ensures ∙ ap (addressed_nodes e size) c.image.ensures) c.in-Ok-pasts_for.ensures
