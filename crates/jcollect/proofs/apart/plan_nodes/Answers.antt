use Rattle.std.proofs.Common.{◌≡◌, ℕ, List, sym, ap₂, subst, ◌∙◌}
use Rattle.std.specs.List.{AllByRecursion}
use Rattle.jcollect.specs.Planning.{IsSoundNodeAt, tiles_fault}
use Rattle.jcollect.proofs.CollectLemmas.{found_at}
use Rattle.jcollect.proofs.RoomLemmas.{unplanned}
use Rattle.jcollect.proofs.apart.plan_nodes.Goals as goal

pub bytes_needed-requires-clause-nodes : goal.bytes_needed-requires-clause-nodes
bytes_needed-requires-clause-nodes g c =
    let e = g.E.Order.order in
    let size : ℕ = c.args.geometry.block in
    subst (λ (image : List ℕ). AllByRecursion (IsSoundNodeAt e size image) c.deref.result.now) (sym c.image.ensures)
    (subst (AllByRecursion (IsSoundNodeAt e size c.args.mounted.now.image)) (sym c.deref.ensures.value)
    (found_at c.args.nodes.items e size c.args.mounted.now.image _ _ c.in-Ok.ensures c.requires.sighted))

pub returns-in-Err-bytes_needed-clause-refused : goal.returns-in-Err-bytes_needed-clause-refused
returns-in-Err-bytes_needed-clause-refused g c =
    let e = g.E.Order.order in
    let size : ℕ = c.args.geometry.block in
    let same : tiles_fault e size c.args.blocks c.image.result.now c.deref.result.now ≡ tiles_fault e size c.args.blocks c.args.mounted.now.image c.in-Ok.found.0.items =
    ap₂ (λ (image addresses : List ℕ). tiles_fault e size c.args.blocks image addresses) c.image.ensures c.deref.ensures.value in
    unplanned c.args.nodes.items e size c.args.blocks c.args.mounted.now _ _ c.in-Err-bytes_needed.fault c.in-Ok.ensures (sym c.read_only.ensures ∙ c.if-read_only.false)
    (sym c.is_written.ensures ∙ c.if-not-is_written.false) (λ other. sym same ∙ c.in-Err-bytes_needed.ensures.refused other)
