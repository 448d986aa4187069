use Rattle.std.proofs.Common.{◌≡◌, ◌-◌, ◌≤◌, true, false, List, length, take, drop, ap, sym, ◌∙◌, subst, rules}
use Rattle.std.specs.Prelude.{nat_lt, nat_le}
use Rattle.std.specs.List.{list_any}
use Rattle.std.specs.List.Sorted.{IsPartitionPoint}
use Rattle.std.proofs.lemmas.List.Sorted.{IsNonDecreasingBy-drop, IsNonDecreasingBy-take, IsPartitionPoint-from_clause, IsPartitionedBy-leb, IsPartitionedBy-ltb}
use Rattle.jgaps.specs.Gaps.{has_place}
use Rattle.jgaps.specs.Sweeping.{Begin, start_of}
use Rattle.jgaps.specs.declared.fields.Stretch.{Stretch}
use Rattle.jgaps.proofs.SortedLemmas.{by_number, covered_by_own, own_begin, rest_is}
use Rattle.jgaps.proofs.sorted.of_object.Goals as goal

low : (c : goal.After-partition_point-count) → IsPartitionPoint (λ (s : Stretch). nat_lt s.ino c.args.ino ≡ true) (λ (s : Stretch). nat_lt s.ino c.args.ino ≡ false) c.args.sound.now c.partition_point-first.result
low c =
    IsPartitionPoint-from_clause (λ (s : Stretch). nat_lt s.ino c.args.ino) c.args.sound.now c.partition_point-first.result c.partition_point-first.ensures.partitioned
    (IsPartitionedBy-ltb (λ (s : Stretch). s.ino) c.args.sound.now c.args.ino (by_number c.args.sound.now c.requires)) (λ a r q k. search rules)

high : (c : goal.After-partition_point-count)
    → IsPartitionPoint (λ (s : Stretch). nat_le s.ino c.args.ino ≡ true) (λ (s : Stretch). nat_le s.ino c.args.ino ≡ false) (drop c.partition_point-first.result c.args.sound.now) c.partition_point-count.result
high c =
    let rest : List Stretch = take (length c.args.sound.now - c.partition_point-first.result) (drop c.partition_point-first.result c.args.sound.now) in
    subst (λ (l : List Stretch). IsPartitionPoint (λ (s : Stretch). nat_le s.ino c.args.ino ≡ true) (λ (s : Stretch). nat_le s.ino c.args.ino ≡ false) l c.partition_point-count.result)
    (rest_is c.args.sound.now c.partition_point-first.result)
    (IsPartitionPoint-from_clause (λ (s : Stretch). nat_le s.ino c.args.ino) rest c.partition_point-count.result c.partition_point-count.ensures.partitioned
    (IsPartitionedBy-leb (λ (s : Stretch). s.ino) rest c.args.ino
    (by_number rest
    (IsNonDecreasingBy-take start_of (length c.args.sound.now - c.partition_point-first.result) (drop c.partition_point-first.result c.args.sound.now)
    (IsNonDecreasingBy-drop start_of c.partition_point-first.result c.args.sound.now c.requires)))) (λ a r q k. search rules))

fits : (c : goal.After-partition_point-count) → c.partition_point-count.result ≤ length (drop c.partition_point-first.result c.args.sound.now)
fits c = subst (λ (l : List Stretch). c.partition_point-count.result ≤ length l) (rest_is c.args.sound.now c.partition_point-first.result) c.partition_point-count.ensures.bound

pub returns-clause-begin : goal.returns-clause-begin
returns-clause-begin c =
    subst (λ (l : List Stretch). Begin (take c.partition_point-count.result l)) (sym (rest_is c.args.sound.now c.partition_point-first.result))
    (own_begin c.args.sound.now c.args.ino c.partition_point-first.result c.partition_point-count.result c.partition_point-first.ensures.bound (fits c) (low c) (high c) c.requires)

pub returns-clause-cover : goal.returns-clause-cover
returns-clause-cover c = λ place.
    covered_by_own c.args.sound.now c.args.ino c.partition_point-first.result c.partition_point-count.result c.partition_point-first.ensures.bound (fits c) (low c) (high c) place
    ∙ ap (λ (l : List Stretch). list_any (has_place place) (take c.partition_point-count.result l)) (sym (rest_is c.args.sound.now c.partition_point-first.result))
