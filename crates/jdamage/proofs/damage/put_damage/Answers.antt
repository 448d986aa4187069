use Rattle.std.proofs.Common.{◌≡◌, ℕ, List, [], refl, ap, sym, subst, ◌∙◌}
use Rattle.std.specs.Prelude.{filter, filter_map, map}
use Rattle.std.specs.BTreeSet.{BTreeSet}
use Rattle.jnode.specs.declared.node.Damage.{Damage}
use Rattle.jmount.specs.Mount.{Mount}
use Rattle.jmount.specs.Tree.{dangling}
use Rattle.jgaps.specs.Fields.{stretches}
use Rattle.jgaps.specs.Gaps.{gaps_of}
use Rattle.jgaps.specs.declared.gap.Gap.{Gap}
use Rattle.jdamage.specs.Fields.{damaged_nodes}
use Rattle.jdamage.specs.Hidden.{AreHidden}
use Rattle.jdamage.specs.Ranges.{KeepsWhatMatters, range_if}
use Rattle.jdamage.specs.Lines.{no_damage, totals_shown}
use Rattle.jdamage.specs.Telling.{HaveFiles, HaveNumbers, is_kept, own_totals, own_whole}
use Rattle.jdamage.specs.Ways.{HeldName, name_held}
use Rattle.jdamage.proofs.DamageLemmas.{all_told, all_whole, counted, have_numbers, puts_told, right_of}
use Rattle.jdamage.proofs.LawLemmas.{sound_has_no_lines, sound_totals}
use Rattle.jdamage.proofs.RangeLemmas.{all_found}
use Rattle.jdamage.proofs.damage.put_damage.Goals as goal

pub returns-then-is_nothing : goal.returns-then-is_nothing
returns-then-is_nothing g c =
    let e = g.E.Order.order in
    let size = c.args.geometry.block in
    let m = c.args.mounted.now in
    let none : damaged_nodes e size m.image ≡ [] =
    sym ((c.found_of-found.ensures.damaged ∙ c.deref.ensures.value) ∙ c.in_ok-damaged.ensures ∙ ap (damaged_nodes e size) c.image-image.ensures) ∙ c.is_nothing.ensures.damaged c.if-is_nothing.true in
    let gone : dangling m.state ≡ [] =
    sym (ap (map name_held) (c.found_of-found.ensures.missing ∙ c.deref-2.ensures.value) ∙ c.in_ok-missing.ensures) ∙ ap (map name_held) (c.is_nothing.ensures.missing c.if-is_nothing.true) in
    let whole : gaps_of e size m ≡ [] = sym ((c.found_of-found.ensures.gaps ∙ c.deref-3.ensures.value) ∙ c.in_ok-gaps.ensures) ∙ c.is_nothing.ensures.gaps c.if-is_nothing.true in
    puts_told e size m _ _ _ _ (totals_shown no_damage) no_damage c.put_none.result _ c.told.ensures (sym (sound_has_no_lines e size m none gone whole)) (sym (sound_totals e size m none gone whole))
    c.put_none.ensures.puts c.put_none.ensures.totals

pub room_for-requires-clause-numbers : goal.room_for-requires-clause-numbers
room_for-requires-clause-numbers g c =
    have_numbers g.E.Order.order c.image-image.result.now c.in_ok-ways.ways.up.mounted.now.image c.in_ok-numbers.numbers c.in_ok-ways.ways.numbers.now c.found_of-found.result.damaged.now c.found_of-found.result.damaged.now
    (c.image-image.ensures ∙ ap (λ (m : Mount). m.image) (sym c.in_ok-ways.ensures.image)) (sym c.in_ok-ways.ensures.numbers) refl c.in_ok-numbers.ensures.damaged

pub room_for-requires-clause-files : goal.room_for-requires-clause-files
room_for-requires-clause-files g c = subst (λ (n : BTreeSet ℕ). HaveFiles n c.found_of-found.result.gaps.now) (sym c.in_ok-ways.ensures.numbers) c.in_ok-numbers.ensures.files

pub put_all-requires-clause-numbers : goal.put_all-requires-clause-numbers
put_all-requires-clause-numbers g c =
    have_numbers g.E.Order.order c.image-image.result.now c.in_ok-ways.ways.up.mounted.now.image c.in_ok-numbers.numbers c.in_ok-ways.ways.numbers.now c.found_of-found.result.damaged.now c.found_of-found.result.damaged.now
    (c.image-image.ensures ∙ ap (λ (m : Mount). m.image) (sym c.in_ok-ways.ensures.image)) (sym c.in_ok-ways.ensures.numbers) refl c.in_ok-numbers.ensures.damaged

pub put_all-requires-clause-files : goal.put_all-requires-clause-files
put_all-requires-clause-files g c = subst (λ (n : BTreeSet ℕ). HaveFiles n c.found_of-found.result.gaps.now) (sym c.in_ok-ways.ensures.numbers) c.in_ok-numbers.ensures.files

pub returns : goal.returns
returns g c =
    let e = g.E.Order.order in
    let size = c.args.geometry.block in
    let m = c.args.mounted.now in
    let w = c.in_ok-ways.ways.up.mounted.now in
    let numbers = c.in_ok-numbers.numbers in
    let hidden = c.in_ok-hidden.hidden in
    let damaged = c.found_of-found.result.damaged.now in
    let missing = c.found_of-found.result.missing.now in
    let gaps = c.found_of-found.result.gaps.now in
    let are : damaged ≡ damaged_nodes e size m.image = (c.found_of-found.ensures.damaged ∙ c.deref.ensures.value) ∙ c.in_ok-damaged.ensures ∙ ap (damaged_nodes e size) c.image-image.ensures in
    let gone : map name_held missing ≡ dangling m.state = ap (map name_held) (c.found_of-found.ensures.missing ∙ c.deref-2.ensures.value) ∙ c.in_ok-missing.ensures in
    let gapped : gaps ≡ gaps_of e size m = (c.found_of-found.ensures.gaps ∙ c.deref-3.ensures.value) ∙ c.in_ok-gaps.ensures in
    let numbered : HaveNumbers e m.image numbers damaged = have_numbers e c.image-image.result.now m.image numbers numbers damaged damaged c.image-image.ensures refl refl c.in_ok-numbers.ensures.damaged in
    let all = filter (is_kept numbers) (stretches e size m.image) in
    let keeps : KeepsWhatMatters (filter_map (range_if e m.image) damaged) all c.in_ok-sound.sound.items =
    subst (λ (im : List ℕ). KeepsWhatMatters (filter_map (range_if e im) damaged) (filter (is_kept numbers) (stretches e size im)) c.in_ok-sound.sound.items) c.image-image.ensures c.in_ok-sound.ensures in
    let right : AreHidden e m (stretches e size m.image) hidden damaged =
    all_whole e m numbers hidden (stretches e size m.image) damaged numbered
    (all_found e m hidden all c.in_ok-sound.sound.items damaged keeps c.in_ok-hidden.ensures) in
    let so = counted e size m numbers hidden damaged missing gaps are right gone gapped in
    let text = ap (λ (x : Mount). own_whole e x hidden damaged missing gaps) c.in_ok-ways.ensures.image ∙ all_told e size m numbers hidden damaged missing gaps are right gone gapped so in
    let totals = ap (λ (x : Mount). own_totals e x hidden damaged missing gaps) c.in_ok-ways.ensures.image ∙ so in
    puts_told e size m _ _ _ _ (own_whole e w hidden damaged missing gaps) (own_totals e w hidden damaged missing gaps) c.put_all.result _ c.told-2.ensures text totals
    c.put_all.ensures.puts c.put_all.ensures.totals
