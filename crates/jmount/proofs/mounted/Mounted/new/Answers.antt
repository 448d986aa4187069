use Rattle.std.proofs.Common.{Decides, sym, subst}
use Rattle.jmount.specs.Tree.{State}
use Rattle.jmount.specs.Shape.{HasShape}
use Rattle.jmount.specs.Kept.{HasSeveral}
use Rattle.jmount.proofs.SeveralLemmas.{several-is}
use Rattle.jmount.proofs.mounted.Mounted.new.Goals as goal

pub has_shape-requires : goal.has_shape-requires
has_shape-requires c = subst (λ (s : State). HasSeveral s c.args.named.several) (sym c.new.ensures) (several-is c.args.named.objects c.args.names c.args.next c.args.named.several c.requires.several)

pub invariant_of-result : goal.invariant_of-result
invariant_of-result c = record {
  ordered = c.requires.ordered;
  directories = c.requires.directories;
  several = several-is c.args.named.objects c.args.names c.args.next c.args.named.several c.requires.several;
  shape = subst (λ (s : State). Decides c.in_ok-has_shape.has_shape (HasShape s)) c.new.ensures c.in_ok-has_shape.ensures;
}
