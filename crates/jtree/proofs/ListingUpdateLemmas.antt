-- The operations of a tree's listing are updates.
use Rattle.std.proofs.Common.{List, [], ◌∷◌, ◌++◌, ℕ, sym, subst}
use Rattle.std.specs.List.{AllByRecursion, flat_map}
use Rattle.std.specs.String.{string_bytes}
use Rattle.jnode.specs.declared.order.Endian.{Endian}
use Rattle.jsteps.specs.declared.op.Op.{Op}
use Rattle.jfolder.specs.Actions.{actions_of, item_actions, object_actions}
use Rattle.jfolder.specs.declared.tree.Attributes.{Attributes}
use Rattle.jfolder.specs.declared.tree.Item.{Item}
use Rattle.jfolder.specs.declared.tree.What.{What}
use Rattle.jfolder.specs.declared.tree.What.TheVariants as what
use Rattle.jtree.specs.Making.{Files, ops_with}
use Rattle.jtree.specs.Updates as law
use Rattle.jtree.specs.Updates.{IsUpdate}
use Rattle.jtree.proofs.TreeLemmas.{lines_ops}
use Rattle.jtree.proofs.WholeLemmas.{ops_append}

updates_append : (xs ys : List Op) → AllByRecursion IsUpdate xs → AllByRecursion IsUpdate ys → AllByRecursion IsUpdate (xs ++ ys)
updates_append [] ys front back = back
updates_append (x ∷ xs) ys front back = (front.0, updates_append xs ys front.1 back)

object_updates : (e : Endian) (files : Files) (path : List ℕ) (a : Attributes) (w : What) → AllByRecursion IsUpdate (ops_with e files (object_actions path a w))
object_updates e files path a what.Directory = (tt, tt)
object_updates e files path a (what.Regular file) = (tt, tt)
object_updates e files path a (what.Device device major minor) = (tt, tt)
object_updates e files path a what.Fifo = (tt, tt)
object_updates e files path a what.Socket = (tt, tt)
object_updates e files path a (what.Symlink target) = (tt, tt)
object_updates e files path a (what.Link first) = (tt, tt)

items_updates : (e : Endian) (files : Files) (items : List Item) → AllByRecursion IsUpdate (ops_with e files (flat_map item_actions items))
items_updates e files [] = tt
items_updates e files (i ∷ items) =
    subst (AllByRecursion IsUpdate) (sym (ops_append e files (item_actions i) (flat_map item_actions items)))
    (updates_append (ops_with e files (item_actions i)) (ops_with e files (flat_map item_actions items))
    (object_updates e files (string_bytes i.path) i.attributes i.what) (items_updates e files items))

all_updates : (e : Endian) (files : Files) (root : Attributes) (items : List Item) → AllByRecursion IsUpdate (ops_with e files (actions_of root items))
unfolding actions_of
all_updates e files root items = (tt, items_updates e files items)

pub listing_is_update : law.ListingIsUpdate
listing_is_update e files root items lines fits is =
    subst (AllByRecursion IsUpdate) (sym (lines_ops e files root items lines fits is)) (all_updates e files root items)
