use Rattle.std.proofs.Common.{ℕ, List, subst}
use Rattle.jscan.proofs.FrontLemmas.{IsFront}
use Rattle.jscan.proofs.tiles.front_of.Goals as goal

pub returns-clause-tile : goal.returns-clause-tile
returns-clause-tile g c = subst (λ (l : List ℕ). IsFront g.E.Order.order l c.front.result.0 c.front.result.1) c.whole.ensures c.front.ensures.tile
