use Rattle.std.proofs.Common.{rules, ◌≡◌, subst}
use Rattle.std.specs.Prelude.{IsTrue}
use Rattle.jnode.specs.Writing.{is_writable}
use Rattle.jnode.specs.declared.node.NodeRef.{NodeRef}
use Rattle.jnode.specs.declared.node.NodeRef.TheVariants as node
use Rattle.jlog.proofs.WriteLemmas.{entry_memory, inode_memory}
use Rattle.jlog.proofs.node.write_node.Goals as goal

pub returns-in-Entry-clause-memory : goal.returns-in-Entry-clause-memory
returns-in-Entry-clause-memory g c =
    let is : c.args.node.now ≡ node.Entry c.in-Entry.entry = search rules in
    let w : IsTrue (is_writable (node.Entry c.in-Entry.entry)) = subst (λ (n : NodeRef). IsTrue (is_writable n)) is c.requires in
    entry_memory c.in-Entry.entry c.write_entry.result w c.write_entry.ensures.name c.write_entry.ensures.data

pub returns-in-Inode-clause-memory : goal.returns-in-Inode-clause-memory
returns-in-Inode-clause-memory g c =
    let is : c.args.node.now ≡ node.Inode c.in-Inode.inode = search rules in
    let w : IsTrue (is_writable (node.Inode c.in-Inode.inode)) = subst (λ (n : NodeRef). IsTrue (is_writable n)) is c.requires in
    inode_memory c.in-Inode.inode c.write_inode.result w c.write_inode.ensures.name c.write_inode.ensures.data
