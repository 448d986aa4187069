use Rattle.std.proofs.Common.{rules, ◌≤◌, ℕ, get_or, arith, refl, subst, sym}
use Rattle.std.proofs.lemmas.Bool.{le-leb}
use Rattle.std.proofs.lemmas.List.Sorted.{IsPartitionPoint-from_clause, IsPartitionedBy-leb}
use Rattle.std.specs.Prelude.{nat_le}
use Rattle.jdamage.proofs.RangeLemmas.{touched, touched_one}
use Rattle.jdamage.proofs.ranges.touches.Goals as goal

pub returns-in-Some-clause-yes : goal.returns-in-Some-clause-yes
returns-in-Some-clause-yes c = λ lost f t.
    let is = touched lost c.args.ranges.now c.args.stretch.now c.spot.result c.spot-to.result c.from.result c.partition_point-count.result f
    (λ ascends. IsPartitionPoint-from_clause (λ (r : ℕ × ℕ). nat_le r.0 c.spot-to.result) c.args.ranges.now c.partition_point-count.result c.partition_point-count.ensures.partitioned
    (IsPartitionedBy-leb (λ (r : ℕ × ℕ). r.0) c.args.ranges.now c.spot-to.result ascends) (λ a r q k. search rules))
    c.partition_point-count.ensures.bound c.spot-to.ensures c.spot.ensures c.from.ensures t in
    le-leb _ _ (subst (λ (n : ℕ). c.spot.result ≤ (get_or c.args.ranges.now n (0, 0)).1) (sym c.in-Some.ensures.1) is.1)

pub returns-in-Some-clause-no : goal.returns-in-Some-clause-no
returns-in-Some-clause-no c = λ lost f high.
    touched_one lost c.args.ranges.now c.args.stretch.now c.spot.result c.spot-to.result c.from.result c.partition_point-count.result c.in-Some.last f
    (λ ascends. IsPartitionPoint-from_clause (λ (r : ℕ × ℕ). nat_le r.0 c.spot-to.result) c.args.ranges.now c.partition_point-count.result c.partition_point-count.ensures.partitioned
    (IsPartitionedBy-leb (λ (r : ℕ × ℕ). r.0) c.args.ranges.now c.spot-to.result ascends) (λ a r q k. search rules))
    c.partition_point-count.ensures.bound c.spot-to.ensures c.spot.ensures c.from.ensures (omega (arith, c.in-Some.ensures.0)) c.in-Some.ensures.1 high

pub returns-in-None-clause-yes : goal.returns-in-None-clause-yes
returns-in-None-clause-yes c = λ lost f t.
    let is = touched lost c.args.ranges.now c.args.stretch.now _ c.spot-to.result c.args.stretch.now.from c.partition_point-count.result f
    (λ ascends. IsPartitionPoint-from_clause (λ (r : ℕ × ℕ). nat_le r.0 c.spot-to.result) c.args.ranges.now c.partition_point-count.result c.partition_point-count.ensures.partitioned
    (IsPartitionedBy-leb (λ (r : ℕ × ℕ). r.0) c.args.ranges.now c.spot-to.result ascends) (λ a r q k. search rules))
    c.partition_point-count.ensures.bound c.spot-to.ensures refl refl t in
    absurd (c.in-None.ensures (omega (arith, is.0)))
