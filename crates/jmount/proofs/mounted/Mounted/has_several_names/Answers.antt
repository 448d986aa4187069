use Rattle.std.proofs.Common.{Bool, not, Decides, sym, subst}
use Rattle.jmount.specs.Mount.{Mount}
use Rattle.jmount.specs.Shape.{HasOneName}
use Rattle.jmount.specs.Kept.{HasSeveral}
use Rattle.jmount.proofs.mounted.Mounted.has_several_names.Goals as goal

pub returns : goal.returns
returns c = λ there.
    let m = c.self.inside in
    let known = subst (λ (v : Mount). HasSeveral v.state m.several) c.self.view_is c.self.invariant.several in
    subst (λ (b : Bool). Decides (not b) (HasOneName c.args.self.now.state c.args.ino)) (sym c.contains.ensures) (known c.args.ino there)
