use Rattle.std.proofs.Common.{◌≡◌, ◌++◌, ◌∙◌, ℕ, List, IsPermutation, ap, sym, subst, rules}
use Rattle.std.specs.Prelude.{Option}
use Rattle.std.specs.List.Sorted.{IsNonDecreasingBy}
use Rattle.std.proofs.lemmas.List.Sorted.{IsNonDecreasingBy-from_sort_by_key}
use Rattle.jmount.specs.declared.object.Object.{Object}
use Rattle.jgaps.specs.Fields.{stretches}
use Rattle.jgaps.specs.Gaps.{gaps_if_there, gaps_of_file, gaps_of_object}
use Rattle.jgaps.specs.Sweeping.{start_of}
use Rattle.jgaps.specs.declared.fields.Stretch.{Stretch}
use Rattle.jgaps.specs.declared.gap.Gap.{Gap}
use Rattle.jgaps.proofs.finding.gaps_of_file.Goals as goal

pub returns-in_default : goal.returns-in_default
unfolding gaps_of_file
returns-in_default g c =
    let sound : List Stretch = stretches g.E.Order.order c.args.geometry.block c.args.mounted.now.image in
    c.new-gaps.ensures.items ∙ sym (ap (gaps_if_there sound c.args.ino) (sym c.object.ensures ∙ c.in_default.is))

pub push_object-requires : goal.push_object-requires
push_object-requires g c =
    subst (λ (l : List Stretch). IsNonDecreasingBy start_of l) (sym c.deref.ensures.value)
    (IsNonDecreasingBy-from_sort_by_key start_of _ c.sort_unstable_by_key.ensures.sorted (λ a r q k. search rules))

pub returns : goal.returns
unfolding gaps_of_file
returns g c =
    let e = g.E.Order.order in
    let ino : ℕ = c.args.ino in
    let object : Object = c.in-Some.object in
    let sound : c.in_ok-sound.sound.items ≡ stretches e c.args.geometry.block c.args.mounted.now.image =
    c.in_ok-sound.ensures ∙ ap (λ (im : List ℕ). stretches e c.args.geometry.block im) c.image.ensures in
    let all : List Stretch = stretches e c.args.geometry.block c.args.mounted.now.image in
    c.in_ok-push_object.ensures c.in_ok-sound.sound.items
    (subst (λ (l : List Stretch). IsPermutation c.in_ok-sound.sound.items l) (sym c.deref.ensures.value) c.sort_unstable_by_key.ensures.permutation)
    ∙ ap (λ (l : List Gap). l ++ gaps_of_object c.in_ok-sound.sound.items (ino, object)) c.new-gaps.ensures.items
    ∙ ap (λ (l : List Stretch). gaps_of_object l (ino, object)) sound
    ∙ sym (ap (gaps_if_there all ino) (sym c.object.ensures ∙ c.in-Some.is))
