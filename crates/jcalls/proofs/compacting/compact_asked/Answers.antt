use Rattle.std.proofs.Common.{◌∙◌, sym, subst}
use Rattle.std.specs.Prelude.{IfOk}
use Rattle.jnode.specs.declared.order.Endian.{Endian}
use Rattle.jcalls.specs.Compacting.{IsCompacted}
use Rattle.jcalls.proofs.ShownLemmas.{asked_big, asked_little}
use Rattle.jcalls.proofs.compacting.compact_asked.Goals as goal

pub returns-then-is_big-clause-ok : goal.returns-then-is_big-clause-ok
returns-then-is_big-clause-ok c =
    subst (λ (e : Endian). IfOk c.compact_in.result (λ bytes. IsCompacted e c.args.how.block c.args.blocks c.args.image.now bytes.items))
    (sym (asked_big c.args.how (sym c.is_big.ensures ∙ c.if-is_big.true))) c.compact_in.ensures.ok

pub returns-else-is_big-clause-ok : goal.returns-else-is_big-clause-ok
returns-else-is_big-clause-ok c =
    subst (λ (e : Endian). IfOk c.compact_in-else-is_big.result (λ bytes. IsCompacted e c.args.how.block c.args.blocks c.args.image.now bytes.items))
    (sym (asked_little c.args.how (sym c.is_big.ensures ∙ c.if-is_big.false))) c.compact_in-else-is_big.ensures.ok
