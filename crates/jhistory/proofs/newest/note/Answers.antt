use Rattle.std.proofs.Common.{◌≡◌, ℕ, ◌<◌, [], ◌∷◌, ◌++◌, sym, subst, arith}
use Rattle.jnode.specs.declared.node.NodeRef.{NodeRef}
use Rattle.jhistory.specs.NewestEntries.{HasNewest}
use Rattle.jhistory.proofs.NewestLemmas.{inode_noted}
use Rattle.jhistory.proofs.newest.note.Goals as goal

pub returns-in-Inode : goal.returns-in-Inode
returns-in-Inode c = λ ns has.
    let less : c.args.addr < 4294967296 = omega arith in
    subst (λ (r : NodeRef). HasNewest (ns ++ (c.args.addr, r) ∷ []) c.args.newest.now) (sym c.in-Inode.is) (inode_noted ns c.args.newest.now has c.args.addr c.in-Inode.field-0 less)
