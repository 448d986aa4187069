use Rattle.std.proofs.Common.{◌≡◌, ◌^◌, ◌<◌, ℕ, List, sym, subst, refl, rules}
use Rattle.std.specs.List.Sorted.{IsPermutation, IsNonDecreasingBy}
use Rattle.std.proofs.lemmas.List.Sorted.{All-permutation, IsNonDecreasingBy-from_sort_by_key}
use Rattle.jfrag.specs.declared.piece.Piece.{Piece}
use Rattle.jfrag.specs.Pieces.{end_of}
use Rattle.jfrag.specs.Overlays.{IsHighestAt}
use Rattle.jfrag.proofs.OverlaysLemmas.{highest_permuted, if_ok}
use Rattle.jfrag.proofs.all.overlay.Goals as goal

moved : (ps copies sorted given : List Piece) → copies ≡ ps → IsPermutation copies sorted → given ≡ sorted → IsPermutation ps given
moved ps copies sorted given e h f = subst (λ (xs : List Piece). IsPermutation xs given) e (subst (IsPermutation copies) (sym f) h)

pub overlay_in_turn-requires : goal.overlay_in_turn-requires
overlay_in_turn-requires g c κs = (
  (refl, tt),
  (
    All-permutation (λ p. end_of p < 2 ^ 32) c.args.pieces.now c.deref.result.now
        (moved c.args.pieces.now c.in_ok-by_version.by_version.items c.sort_unstable_by_key.new.self.items c.deref.result.now
        c.in_ok-by_version.ensures c.sort_unstable_by_key.ensures.permutation c.deref.ensures.value)
        c.requires,
    subst (λ (xs : List Piece). IsNonDecreasingBy (λ p. p.version) xs) (sym c.deref.ensures.value)
        (IsNonDecreasingBy-from_sort_by_key (λ p. p.version) _ c.sort_unstable_by_key.ensures.sorted (λ a r q k. search rules)),
  ),
)

pub returns-clause-highest : goal.returns-clause-highest
returns-clause-highest g c =
    if_ok c.overlay_in_turn.result (λ o. (place : ℕ) → IsHighestAt c.deref.result.now place (g.O.Overlay.visible_at o place)) (λ o. (place : ℕ) → IsHighestAt c.args.pieces.now place (g.O.Overlay.visible_at o place))
    (λ o h place. highest_permuted c.args.pieces.now c.deref.result.now (moved c.args.pieces.now c.in_ok-by_version.by_version.items c.sort_unstable_by_key.new.self.items c.deref.result.now c.in_ok-by_version.ensures c.sort_unstable_by_key.ensures.permutation c.deref.ensures.value) place (g.O.Overlay.visible_at o place) (h place))
    c.overlay_in_turn.ensures.highest
