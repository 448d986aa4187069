use Rattle.std.proofs.Common.{subst, sym, Bool}
use Rattle.flashbase.specs.Sinks.{PutsTo}
use Rattle.jregions.specs.RegionText.{more_regions_line}
use Rattle.jregions.proofs.lines.put_more.Goals as goal

pub returns-then-more : goal.returns-then-more
returns-then-more g c =
    subst (λ (more : Bool). PutsTo g.T.Sink c.args.sink.now c.put_text.new.sink (more_regions_line more) c.put_text.result) (sym c.if-more.true)
    c.put_text.ensures.puts
