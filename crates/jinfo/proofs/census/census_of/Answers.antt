use Rattle.std.proofs.Common.{◌∙◌, ap, length, arith}
use Rattle.flashbase.specs.Bytes.{pad4_of}
use Rattle.jnode.proofs.WritingLemmas.{length-filled}
use Rattle.jinfo.proofs.CensusLemmas.{census_by}
use Rattle.jinfo.proofs.census.census_of.Goals as goal

pub tally_of-tally-requires-clause-whole_words : goal.tally_of-tally-requires-clause-whole_words
unfolding pad4_of
tally_of-tally-requires-clause-whole_words g c =
    let long = ap length c.filled.ensures ∙ length-filled c.args.image.now in
    omega (arith, long)

pub tally_of-tally-requires-clause-addressed : goal.tally_of-tally-requires-clause-addressed
unfolding pad4_of
tally_of-tally-requires-clause-addressed g c =
    let long = ap length c.filled.ensures ∙ length-filled c.args.image.now in
    omega (arith, long, c.requires)

pub returns : goal.returns
returns g c =
    census_by g.E.Order.order c.args.image.now c.filled.result c.tally_of-tally.result c.range.result c.filled.ensures
    c.tally_of-tally.ensures c.range.ensures
