use Rattle.std.proofs.Common.{sym, subst}
use Rattle.jnode.specs.declared.node.NodeRef.{NodeRef}
use Rattle.jhistory.specs.NewestEntries.{AddsNamed}
use Rattle.jhistory.proofs.WordsLemmas.{adds_no_inode}
use Rattle.jhistory.proofs.words.add_named.Goals as goal

pub returns-in-Inode : goal.returns-in-Inode
returns-in-Inode c = λ ns has here.
    subst (λ (r : NodeRef). AddsNamed ns (c.args.node.now.0, r) c.args.named.now c.args.named.now) (sym c.in-Inode.is) (adds_no_inode ns c.args.node.now.0 c.in-Inode.field-0 c.args.named.now)
