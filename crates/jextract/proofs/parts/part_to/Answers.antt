use Rattle.std.proofs.Common.{sym, ◌∙◌}
use Rattle.jextract.proofs.WayLemmas.{alone_is}
use Rattle.jextract.proofs.parts.part_to.Goals as goal

pub returns-clause-part : goal.returns-clause-part
returns-clause-part c =
    alone_is c.args.mounted.now.state c.args.way.items c.in-Some.field-0-1.now c.in-Some.last.now c.args.ino (sym c.as_slice.ensures.value ∙ c.in-Some.ensures.cases.0)
    (sym c.is_directory.ensures ∙ c.if-is_directory.false)
