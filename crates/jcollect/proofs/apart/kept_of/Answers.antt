use Rattle.std.proofs.Common.{ap, ◌∙◌, arith}
use Rattle.jcollect.specs.Collecting.{addresses_of}
use Rattle.jcollect.proofs.apart.kept_of.Goals as goal

pub returns : goal.returns
returns c = record {
  kept = c.in_ok-kept.kept.items;
  matter = c.in_ok-kept.ensures;
  addresses_are = c.in_ok-addresses_of.ensures ∙ ap addresses_of c.deref.ensures.value;
  count_is = omega (arith, c.len-count.ensures, c.args.nodes.ok.0);
}
