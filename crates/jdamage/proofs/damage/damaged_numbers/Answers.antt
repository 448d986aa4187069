use Rattle.std.proofs.Common.{◌≡◌, ℕ, true, arith}
use Rattle.std.specs.BTreeSet.{contains}
use Rattle.std.specs.Ordering.{nat_cmp}
use Rattle.jnode.specs.declared.node.Damage.{Damage}
use Rattle.jnode.specs.declared.node.Damage.TheVariants.{NodeCrc, DataCrc}
use Rattle.jgaps.specs.Fields.{stretch_at}
use Rattle.jdamage.proofs.DamageLemmas.{each_more}
use Rattle.jdamage.proofs.damage.damaged_numbers.Goals as goal

pub loop-addr-preserved : goal.loop-addr-preserved
loop-addr-preserved g c =
    let d : ℕ × Damage = (0, NodeCrc) in
    each_more (λ (d : ℕ × Damage). d.1 ≡ DataCrc → contains nat_cmp c.note_number.new.numbers (stretch_at g.E.Order.order c.args.image.now d.0).ino ≡ true) c.args.damaged.now c.loop-addr.addr-index d c.loop-addr-test.true
    (λ k e below is. c.in_ok-note_number.ensures.keeps _ (c.loop-addr.invariant k e below is))
    c.in_ok-note_number.ensures.notes

pub returns : goal.returns
returns g c = λ k d less. c.loop-addr.invariant k d (omega (arith, less, c.loop-addr-test.false))
