use Rattle.std.proofs.Common.{◌++◌, ◌-◌, ℕ, List, length, take, sym, ap, ◌∙◌, arith}
use Rattle.std.specs.Prelude.{bytes_eq}
use Rattle.flashbase.specs.Bytes.{erased}
use Rattle.jscan.proofs.BlankCalls.{blank_found, blank_none}
use Rattle.jscan.proofs.blank.is_blank.Goals as goal

pub returns-then-is_marked : goal.returns-then-is_marked
returns-then-is_marked g c =
    let block = c.args.block.now in
    sym (blank_found g.E.Order.order (length block) block c.loop-len.len (omega arith)
    (sym (ap (λ (m : List ℕ). bytes_eq block (take c.loop-len.len m ++ erased (length block - c.loop-len.len))) c.marker_bytes-marker.ensures) ∙ sym c.is_marked.ensures ∙ c.if-is_marked.true))

pub returns : goal.returns
returns g c =
    let block = c.args.block.now in
    sym (blank_none g.E.Order.order (length block) block (λ j less. c.loop-len.invariant j (omega (arith, c.loop-len.auto.len-end))))
