use Rattle.std.proofs.Common.{◌≡◌, ◌+◌, ◌-◌, arith, subst, drop}
use Rattle.jcalls.specs.Files.{HoldsFiles}
use Rattle.jcalls.proofs.FileLemmas.{holds_more}
use Rattle.jcalls.proofs.named.ByName.of.Goals as goal

pub loop-i-preserved : goal.loop-i-preserved
loop-i-preserved c =
    let next : c.loop-i.i ≡ c.loop-i.i - 1 + 1 = omega arith in
    holds_more c.args.files.bytes.now c.args.files.rows.now (c.loop-i.i - 1) c.name_in.result c.bytes_in_row.result c.loop-i.held c.insert.new.self (omega arith) (grind arith) (grind arith) c.in_ok-insert.ensures.updates
    (subst (λ i. HoldsFiles c.args.files.bytes.now (drop i c.args.files.rows.now) c.loop-i.held) next c.loop-i.invariant)
