use Rattle.std.proofs.Common.{inl}
use Rattle.jcuts.specs.Cuts.{AreCutsTold, base_point}
use Rattle.jlog.specs.View.{address_of, flash_of_start, mount_of}
use Rattle.std.specs.Prelude.{ℕ}
use Rattle.jcalls.specs.Cutting.{IsDeclinedAt, asked_nodes}
use Rattle.jcalls.specs.Works.{sink_with}
use Rattle.jcalls.proofs.BaseLemmas.{made_on, refused_on, start_refuses}
use Rattle.jcalls.proofs.WritingLemmas.{cuts_of}
use Rattle.jcalls.proofs.cutting.cuts_on.Goals as goal

pub returns-in-Ok-of-clause-ok : goal.returns-in-Ok-of-clause-ok
returns-in-Ok-of-clause-ok g c =
    let e = g.E.Order.order in let ops = c.args.planned.now.ops.items in let numbers = c.args.planned.now.numbers.items in
    cuts_of e c.args.flash c.args.image.now ops numbers c.cuts_from.result (λ text. text.items)
    (made_on e c.args.flash (flash_of_start c.in-Ok-of.start) c.args.image.now c.in-Ok.mounted (mount_of c.in-Ok-of.start) (address_of c.in-Ok-of.start) c.cuts_from.result
    (λ flash image text. (weak : ℕ) × AreCutsTold e flash (asked_nodes ops numbers) (base_point e flash image) (sink_with text.items 0) weak) c.in-Ok.ensures c.in-Ok-of.ensures.mount
    c.in-Ok-of.ensures.flash c.in-Ok-of.ensures.address c.cuts_from.ensures.ok)

pub returns-in-Ok-of-clause-err : goal.returns-in-Ok-of-clause-err
returns-in-Ok-of-clause-err g c =
    refused_on g.E.Order.order c.args.flash (flash_of_start c.in-Ok-of.start) c.args.image.now c.in-Ok.mounted (mount_of c.in-Ok-of.start) c.cuts_from.result
    (λ flash image told. IsDeclinedAt g.E.Order.order flash image c.args.planned.now.ops.items c.args.planned.now.numbers.items told) c.in-Ok.ensures c.in-Ok-of.ensures.mount
    c.in-Ok-of.ensures.flash c.cuts_from.ensures.err

pub returns-clause-err : goal.returns-clause-err
returns-clause-err g c = record {
  is = c.session_told.ensures.is;
  other = c.session_told.ensures.other;
  due =
      inl (start_refuses g.E.Order.order c.args.flash c.args.image.now c.in-Ok.mounted c.in-Err-of.why c.session_told.result c.in-Ok.ensures c.in-Err-of.ensures.fault c.session_told.ensures.told);
}
