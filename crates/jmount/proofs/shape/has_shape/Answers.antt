use Rattle.std.proofs.Common.{rules, ◌≡◌, not, List, [], ◌∷◌, sym, ap, ◌∙◌, ℕ, subst}
use Rattle.std.proofs.lemmas.Bool.{false≢true}
use Rattle.jmount.specs.Shape.{IsSingle}
use Rattle.jmount.specs.Shaping.{IsPeeledUpTo}
use Rattle.jmount.proofs.ShapingLemmas.{the_root, nothing_else, none_taken_out, held_root_is_loop, root_is_next, nothing_left, shape_leaves_nothing}
use Rattle.jmount.proofs.shape.has_shape.Goals as goal

pub returns-then-is_root_held : goal.returns-then-is_root_held
returns-then-is_root_held c =
    let s = c.args.tree.now in
    let left = c.in_ok-left.left in
    let single : IsSingle s = c.has_second_name.ensures.0 (ap not c.if-has_second_name.false) in
    let begun = subst (λ (above : List ℕ). IsPeeledUpTo s the_root above left) (sym c.in_ok-others.ensures) (none_taken_out s left single c.in_ok-left.ensures) in
    let first = c.in_ok-remove_below.ensures the_root begun in
    (λ h. absurd (false≢true h), λ has. absurd (held_root_is_loop s c.remove_below.new.left first (sym c.is_root_held.ensures ∙ c.if-is_root_held.true) has))

pub returns : goal.returns
returns c =
    let s = c.args.tree.now in
    let left = c.in_ok-left.left in
    let single : IsSingle s = c.has_second_name.ensures.0 (ap not c.if-has_second_name.false) in
    let begun = subst (λ (above : List ℕ). IsPeeledUpTo s the_root above left) (sym c.in_ok-others.ensures) (none_taken_out s left single c.in_ok-left.ensures) in
    let first = c.in_ok-remove_below.ensures the_root begun in
    let next = root_is_next s c.remove_below.new.left first (sym c.is_root_held.ensures ∙ c.if-is_root_held.false) in
    let one : c.push.new.self.items ≡ 1 ∷ [] = search rules in
    let second = c.in_ok-remove_below-2.ensures nothing_else (subst (λ (above : List ℕ). IsPeeledUpTo s nothing_else above c.remove_below.new.left) (sym one) next) in (
      λ h. nothing_left s c.remove_below-2.new.left second (c.is_empty.ensures.0 h),
      λ has. c.is_empty.ensures.1 (shape_leaves_nothing s c.remove_below-2.new.left second has),
    )
