use Rattle.jmount.proofs.OneMoreLemmas.{top_of_one_more, next_of_one_more, new_entry_is_visible, new_inode_is_visible, new_bytes_are_visible, entry_keeps_objects, inode_keeps_names}
use Rattle.jmount.proofs.laws.one_more_node.Goals as goal

pub returns : goal.returns
returns c = record {
  top = top_of_one_more;
  next = next_of_one_more;
  entry = new_entry_is_visible;
  inode = new_inode_is_visible;
  bytes = new_bytes_are_visible;
  objects = entry_keeps_objects;
  names = inode_keeps_names;
}
