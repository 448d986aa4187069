use Rattle.std.proofs.Common.{ap, sym, ◌∙◌, filter}
use Rattle.std.proofs.lemmas.List.{append-nil}
use Rattle.jmount.specs.Collected.{without_addresses}
use Rattle.jdeleted.proofs.FlatLemmas.{is_inode, without_kept}
use Rattle.jdeleted.proofs.entries.flat_nodes.Goals as goal

pub loop-file-init : goal.loop-file-init
loop-file-init c =
    ap without_addresses c.inodes_of-flat.ensures ∙ without_kept c.args.nodes.items ∙ sym (append-nil (filter is_inode (without_addresses c.args.nodes.items)))
