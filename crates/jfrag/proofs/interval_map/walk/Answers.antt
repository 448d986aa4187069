use Rattle.std.proofs.Common.{◌≡◌, ◌∙◌, ◌+◌, ◌≤◌, ◌<◌, ◌-◌, List, [], ℕ, ap, sym, subst, arith, add-zero, length, None}
use Rattle.jfrag.specs.IntervalMap.{Interval, interval_at, interval_from}
use Rattle.jfrag.proofs.Walk.{Ascends, ascends, walk, part_fits, visible_until, goes_on, visible_on, read_on}
use Rattle.jfrag.proofs.interval_map.walk.Goals as goal

pub loop-key-init : goal.loop-key-init
loop-key-init c =
    let items : c.into_iter-key-iterator.result ≡ c.range-key-items.result = c.into_iter-key-iterator.ensures.into_iter_gives in
    let between = items ∙ c.range-key-items.ensures.between tt in
    let from : c.args.from + 0 ≡ c.args.from = add-zero c.args.from in
    record {
      within = c.requires.some;
      read_to = omega (arith, c.last_place-last.ensures.from);
      so_far = λ j l. absurd (omega arith);
      ahead = λ j l m.
          walk c.args.from c.last_place-last.result j None c.args.intervals.now.entries c.interval_at-interval.ensures.ordered (omega arith) m
          ∙ ap (λ (xs : List (ℕ × Interval)). interval_from (interval_at c.args.intervals.now.entries c.args.from) xs j) (sym between)
          ∙ ap (λ (r : Interval). interval_from r c.into_iter-key-iterator.result j) (sym c.interval_at-interval.ensures.interval);
      up = subst (λ (k : ℕ). Ascends k c.last_place-last.result c.into_iter-key-iterator.result) (sym from) (subst (Ascends c.args.from c.last_place-last.result) (sym between) (ascends c.args.from c.last_place-last.result c.args.intervals.now.entries c.interval_at-interval.ensures.ordered));
    }

pub show_part-requires-clause-fits : goal.show_part-requires-clause-fits
show_part-requires-clause-fits c =
    let inv = c.loop-key.invariant in
    let up = subst (Ascends (c.args.from + c.loop-key.done) c.last_place-last.result) c.in-Some.ensures.steps inv.up in
    let past : c.args.from + c.loop-key.done < c.in-Some.key.now = up.0 in
    let end : c.args.from + (c.in-Some.key.now - c.args.from) ≡ c.in-Some.key.now = omega arith in
    part_fits c.args.intervals.now.entries c.requires.covered c.loop-key.interval (c.args.from + c.loop-key.done) (c.args.from + (c.in-Some.key.now - c.args.from)) (omega arith)
    (λ j l m. visible_until c.args.intervals.now.entries c.loop-key.key-iterator c.next.new.self c.loop-key.interval c.in-Some.key.now c.last_place-last.result c.in-Some.next.now (c.args.from + c.loop-key.done) c.in-Some.ensures.steps inv.up inv.ahead j l (omega arith))

pub loop-key-preserved : goal.loop-key-preserved
loop-key-preserved c =
    let inv = c.loop-key.invariant in
    let steps = c.in-Some.ensures.steps in
    let up = subst (Ascends (c.args.from + c.loop-key.done) c.last_place-last.result) steps inv.up in
    let past : c.args.from + c.loop-key.done < c.in-Some.key.now = up.0 in
    let at_most : c.in-Some.key.now ≤ c.last_place-last.result = up.1 in
    let end : c.args.from + (c.in-Some.key.now - c.args.from) ≡ c.in-Some.key.now = omega arith in
    record {
      within = omega (arith, c.last_place-last.ensures.to);
      read_to = omega arith;
      so_far =
          read_on c.args.intervals.now.entries c.args.from c.loop-key.done (c.in-Some.key.now - c.args.from) c.loop-key.out c.show_part.new.out c.loop-key.interval inv.so_far c.show_part.ensures.before c.show_part.ensures.shown
          (λ j l m. visible_until c.args.intervals.now.entries c.loop-key.key-iterator c.next.new.self c.loop-key.interval c.in-Some.key.now c.last_place-last.result c.in-Some.next.now (c.args.from + c.loop-key.done) steps inv.up inv.ahead j l (omega arith));
      ahead = λ j l m.
          goes_on c.args.intervals.now.entries c.loop-key.key-iterator c.next.new.self c.loop-key.interval c.in-Some.key.now c.last_place-last.result c.in-Some.next.now (c.args.from + c.loop-key.done) steps inv.up inv.ahead j (omega arith) m
          ∙ ap (λ (r : Interval). interval_from r c.next.new.self j) (sym c.copied-interval.ensures);
      up = subst (λ (k : ℕ). Ascends k c.last_place-last.result c.next.new.self) (sym end) up.2;
    }

pub show_part-requires-2-clause-fits : goal.show_part-requires-2-clause-fits
show_part-requires-2-clause-fits c =
    let inv = c.loop-key.invariant in
    let none : c.loop-key.key-iterator ≡ [] = c.in-None.ensures.steps.0 in
    part_fits c.args.intervals.now.entries c.requires.covered c.loop-key.interval (c.args.from + c.loop-key.done) (c.args.from + length c.loop-key.out) (omega (arith, inv.within))
    (λ j l m. visible_on c.args.intervals.now.entries c.requires.covered c.loop-key.interval (c.args.from + c.loop-key.done) c.last_place-last.result (λ i a b. inv.ahead i a b ∙ ap (λ (xs : List (ℕ × Interval)). interval_from c.loop-key.interval xs i) none) inv.read_to j (c.args.from + length c.loop-key.out) l m (λ u. c.last_place-last.ensures.reaches (omega arith)))

pub returns : goal.returns
returns c =
    let inv = c.loop-key.invariant in
    let none : c.loop-key.key-iterator ≡ [] = c.in-None.ensures.steps.0 in
    λ i l. read_on c.args.intervals.now.entries c.args.from c.loop-key.done (length c.loop-key.out) c.loop-key.out c.show_part-2.new.out c.loop-key.interval inv.so_far c.show_part-2.ensures.before c.show_part-2.ensures.shown
    (λ j a b. visible_on c.args.intervals.now.entries c.requires.covered c.loop-key.interval (c.args.from + c.loop-key.done) c.last_place-last.result (λ i x y. inv.ahead i x y ∙ ap (λ (xs : List (ℕ × Interval)). interval_from c.loop-key.interval xs i) none) inv.read_to j (c.args.from + length c.loop-key.out) a b (λ u. c.last_place-last.ensures.reaches (omega arith)))
    i (omega arith)
