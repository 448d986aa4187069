use Rattle.std.proofs.Common.{◌∙◌, sym}
use Rattle.jnode.specs.declared.order.Endian.TheVariants.{Little, Big}
use Rattle.jcalls.specs.Appending.{AppendRefusedBy, IsAppendedBy}
use Rattle.jcalls.specs.Works.{listed_in}
use Rattle.jcalls.proofs.AskedLemmas.{asked_by, refused_by_asked}
use Rattle.jcalls.proofs.ShownLemmas.{asked_big, asked_little}
use Rattle.jcalls.proofs.appending.append_asked.Goals as goal

pub returns-then-is_big-clause-ok : goal.returns-then-is_big-clause-ok
returns-then-is_big-clause-ok c =
    asked_by c.args.how c.args.work.target c.in-Ok.flash Big c.append_in.result (λ e flash made. IsAppendedBy e flash c.args.image.now (listed_in c.args.work) made.bytes.items made.row)
    (asked_big c.args.how (sym c.is_big.ensures ∙ c.if-is_big.true)) c.in-Ok.ensures.ok c.append_in.ensures.ok

pub returns-else-is_big-clause-ok : goal.returns-else-is_big-clause-ok
returns-else-is_big-clause-ok c =
    asked_by c.args.how c.args.work.target c.in-Ok.flash Little c.append_in-else-is_big.result
    (λ e flash made. IsAppendedBy e flash c.args.image.now (listed_in c.args.work) made.bytes.items made.row)
    (asked_little c.args.how (sym c.is_big.ensures ∙ c.if-is_big.false)) c.in-Ok.ensures.ok c.append_in-else-is_big.ensures.ok

pub returns-then-is_big-clause-err : goal.returns-then-is_big-clause-err
returns-then-is_big-clause-err c =
    refused_by_asked c.args.how c.args.work.target c.in-Ok.flash Big c.append_in.result (λ e flash told. AppendRefusedBy e flash c.args.image.now (listed_in c.args.work) told)
    (asked_big c.args.how (sym c.is_big.ensures ∙ c.if-is_big.true)) c.in-Ok.ensures.ok c.append_in.ensures.err

pub returns-else-is_big-clause-err : goal.returns-else-is_big-clause-err
returns-else-is_big-clause-err c =
    refused_by_asked c.args.how c.args.work.target c.in-Ok.flash Little c.append_in-else-is_big.result
    (λ e flash told. AppendRefusedBy e flash c.args.image.now (listed_in c.args.work) told)
    (asked_little c.args.how (sym c.is_big.ensures ∙ c.if-is_big.false)) c.in-Ok.ensures.ok c.append_in-else-is_big.ensures.err
