use Rattle.std.proofs.Common.{length, rules}
use Rattle.jspare.specs.declared.part.Place.{Place}
use Rattle.jspare.proofs.PagingLemmas.{kept_consumed}
use Rattle.jspare.proofs.PartLemmas.{IsBehind, asked_fits, ended_part, read_part, skipped_keeps}
use Rattle.jspare.proofs.part.fill_image.Goals as goal

pub returns-in_err-reach_image-clause-bytes : goal.returns-in_err-reach_image-clause-bytes
returns-in_err-reach_image-clause-bytes g c =
    let kept = skipped_keeps (g.P.Source.rest c.args.source.now) (g.P.Source.rest c.reach_image.new.source)
    c.args.place.now.before c.reach_image.new.before c.args.place.now.left c.in_err-reach_image.ensures.skipped in
    search rules

pub returns-clause-bytes : goal.returns-clause-bytes
returns-clause-bytes g c =
    let p : Place = record { before = c.reach_image.new.before; left = c.args.place.now.left; least = c.args.place.now.least } in
    let kept = skipped_keeps (g.P.Source.rest c.args.source.now) (g.P.Source.rest c.reach_image.new.source)
    c.args.place.now.before c.reach_image.new.before c.args.place.now.left c.in_ok-reach_image.ensures.skipped in
    let at : IsBehind p c.behind.result c.in_ok-n.n = record {
      reached = search rules;
      before = c.behind.ensures.before;
      left = c.behind.ensures.left;
      fits = asked_fits c.args.place.now.left c.in_ok-n.n (length c.args.buf.now) (search rules);
    } in (
      kept_consumed _ _ _ _ kept
          (read_part p c.behind.result c.in_ok-n.n (g.P.Source.rest c.reach_image.new.source) (g.P.Source.rest c.fill.new.self)
          c.fill.new.buf _ (search rules) at c.in_ok-n.ensures.bytes.0),
      λ none room. ended_part c.behind.result _ (c.in_ok-n.ensures.bytes.1 none (search rules)),
    )
