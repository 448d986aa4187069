use Rattle.std.proofs.Common.{◌≡◌, ◌++◌, ◌∷◌, ◌∙◌, ℕ, List, IsPermutation, flat_map, ap, sym, subst, rules, append_assoc, append-nil}
use Rattle.std.specs.List.Sorted.{IsNonDecreasingBy}
use Rattle.std.proofs.lemmas.List.Sorted.{IsNonDecreasingBy-from_sort_by_key}
use Rattle.jmount.specs.Shown.{objects_in}
use Rattle.jmount.specs.declared.object.Object.{Object}
use Rattle.jgaps.specs.Fields.{stretches}
use Rattle.jgaps.specs.Gaps.{gaps_of, gaps_of_object}
use Rattle.jgaps.specs.Sweeping.{start_of}
use Rattle.jgaps.specs.declared.fields.Stretch.{Stretch}
use Rattle.jgaps.specs.declared.gap.Gap.{Gap}
use Rattle.jgaps.proofs.finding.gaps_of.Goals as goal

pub loop-ino-init : goal.loop-ino-init
loop-ino-init g c = record {
  can = tt;
  finite = tt;
  so_far = λ all same.
      ap (λ (l : List Gap). l ++ flat_map (gaps_of_object all) c.into_iter-ino-iterator.result) c.new-gaps.ensures.items
      ∙ ap (λ (l : List (ℕ × Object)). flat_map (gaps_of_object all) l) (c.into_iter-ino-iterator.ensures.into_iter_gives ∙ c.objects-ino-items.ensures);
}

pub push_object-requires : goal.push_object-requires
push_object-requires g c =
    subst (λ (l : List Stretch). IsNonDecreasingBy start_of l) (sym c.deref.ensures.value)
    (IsNonDecreasingBy-from_sort_by_key start_of _ c.sort_unstable_by_key.ensures.sorted (λ a r q k. search rules))

pub loop-ino-preserved : goal.loop-ino-preserved
loop-ino-preserved g c =
    let x : ℕ × Object = (c.in-Some.ino, c.in-Some.object) in
    let is : c.loop-ino.ino-iterator ≡ x ∷ c.next.new.self = search rules in
    record {
      can = tt;
      finite = tt;
      so_far = λ all same.
          ap (λ (l : List Gap). l ++ flat_map (gaps_of_object all) c.next.new.self)
          (c.in_ok-push_object.ensures all (subst (λ (l : List Stretch). IsPermutation all l) (sym c.deref.ensures.value) same))
          ∙ append_assoc c.loop-ino.gaps.items (gaps_of_object all x) (flat_map (gaps_of_object all) c.next.new.self)
          ∙ ap (λ (l : List (ℕ × Object)). c.loop-ino.gaps.items ++ flat_map (gaps_of_object all) l) (sym is)
          ∙ c.loop-ino.invariant.so_far all same;
    }

pub returns : goal.returns
unfolding gaps_of
returns g c =
    let e = g.E.Order.order in
    let sound : c.in_ok-sound.sound.items ≡ stretches e c.args.geometry.block c.args.mounted.now.image =
    c.in_ok-sound.ensures ∙ ap (λ (im : List ℕ). stretches e c.args.geometry.block im) c.image.ensures in
    sym (append-nil c.loop-ino.gaps.items)
    ∙ ap (λ (l : List (ℕ × Object)). c.loop-ino.gaps.items ++ flat_map (gaps_of_object c.in_ok-sound.sound.items) l) (sym c.in-None.ensures.steps.0)
    ∙ c.loop-ino.invariant.so_far c.in_ok-sound.sound.items c.sort_unstable_by_key.ensures.permutation
    ∙ ap (λ (l : List Stretch). flat_map (gaps_of_object l) (objects_in c.args.mounted.now.state)) sound
