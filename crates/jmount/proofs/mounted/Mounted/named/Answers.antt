use Rattle.std.proofs.Common.{sym, ap, ◌∙◌}
use Rattle.jmount.specs.Mount.{Mount}
use Rattle.jmount.proofs.StoredLemmas.{named-is}
use Rattle.jmount.proofs.mounted.Mounted.named.Goals as goal

pub returns : goal.returns
returns c =
    let m = c.self.inside in
    c.get.ensures ∙ sym (named-is c.args.self.now.state m.objects m.names m.next (ap (λ (v : Mount). v.state) c.self.view_is) c.args.dir c.args.name.now)
