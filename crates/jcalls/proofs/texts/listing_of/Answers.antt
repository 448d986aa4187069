use Rattle.jcalls.specs.Texts.{IsListing}
use Rattle.jcalls.proofs.TextLemmas.{shown_text, unlisted_by}
use Rattle.jcalls.proofs.texts.listing_of.Goals as goal

pub returns-in-Ok-clause-ok : goal.returns-in-Ok-clause-ok
returns-in-Ok-clause-ok c =
    shown_text c.args.how c.args.image.now c.in-Ok.mounted.state (λ s text. IsListing s c.args.path.now text.items) c.lines_at.result c.in-Ok.ensures.ok c.lines_at.ensures.ok

pub returns-in-Ok-clause-err : goal.returns-in-Ok-clause-err
returns-in-Ok-clause-err c =
    unlisted_by c.args.how c.args.image.now c.args.path.now c.in-Ok.mounted.state c.lines_at.result c.in-Ok.ensures.ok c.lines_at.ensures.err
