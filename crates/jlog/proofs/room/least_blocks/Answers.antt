use Rattle.std.proofs.Common.{◌<◌, ◌≤◌, List, ℕ, Some, ap, sym, ◌∙◌, arith}
use Rattle.std.specs.Int.{div_ceil}
use Rattle.std.specs.Prelude.{option_map}
use Rattle.jlog.specs.Running.{written}
use Rattle.jlog.proofs.CodeLemmas.{flash_limits}
use Rattle.jlog.proofs.LeastLemmas.{least_by_most}
use Rattle.jlog.proofs.room.least_blocks.Goals as goal

pub returns-in-Some : goal.returns-in-Some
returns-in-Some g c =
    let a = c.args in
    let nodes : List (List ℕ) = written g.E.Order.order a.index.now a.steps.now in
    let least : 8192 ≤ a.block = (flash_limits a.block a.blocks c.requires.flash).least in
    let some : 0 < a.block = omega (arith, least) in
    ap Some c.div_ceil.ensures
    ∙ (ap (option_map (λ (end : ℕ). div_ceil end a.block)) (sym c.in-Some.is ∙ c.last_end.ensures) ∙ least_by_most a.block a.cursor nodes some)

pub returns-in-None : goal.returns-in-None
returns-in-None g c =
    let a = c.args in
    let nodes : List (List ℕ) = written g.E.Order.order a.index.now a.steps.now in
    let least : 8192 ≤ a.block = (flash_limits a.block a.blocks c.requires.flash).least in
    let some : 0 < a.block = omega (arith, least) in
    ap (option_map (λ (end : ℕ). div_ceil end a.block)) (sym c.in-None.is ∙ c.last_end.ensures) ∙ least_by_most a.block a.cursor nodes some
