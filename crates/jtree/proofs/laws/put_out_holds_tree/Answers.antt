use Rattle.jtree.proofs.WrittenLemmas.{put_out_holds_tree}
use Rattle.jtree.proofs.laws.put_out_holds_tree.Goals as goal

pub returns : goal.returns
returns c = put_out_holds_tree
