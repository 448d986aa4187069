-- The actions that make a tree, and what of a tree a listing can say.
use Rattle.std.specs.Prelude.{◌≡◌, ◌≤◌, ◌<◌, ◌^◌, ℕ, List, [], ◌∷◌, length, Some, All}
use Rattle.std.specs.List.{flat_map, slice_get}
use Rattle.std.specs.String.{string_bytes}
use Rattle.jsteps.specs.declared.op.Op.TheVariants as op
use Rattle.jlisting.specs.declared.line.Action.{Action}
use Rattle.jlisting.specs.declared.line.Action.TheVariants as action
use Rattle.jfolder.specs.declared.tree.Attributes.{Attributes}
use Rattle.jfolder.specs.declared.tree.Item.{Item}
use Rattle.jfolder.specs.declared.tree.What.{What}
use Rattle.jfolder.specs.declared.tree.What.TheVariants as what

-- ---- the actions

abbrev pub object_actions : List ℕ → Attributes → What → List Action
object_actions path a what.Directory = action.Op (op.Mkdir a.time path a.mode a.uid a.gid) ∷ []
object_actions path a (what.Regular file) =
    action.File a.time path a.mode a.uid a.gid (string_bytes file) ∷ []
object_actions path a (what.Device device major minor) =
    action.Device a.time path device a.mode a.uid a.gid major minor ∷ []
object_actions path a what.Fifo = action.Op (op.Fifo a.time path a.mode a.uid a.gid) ∷ []
object_actions path a what.Socket = action.Op (op.Socket a.time path a.mode a.uid a.gid) ∷ []
object_actions path a (what.Symlink target) =
    action.Op (op.Symlink a.time path (string_bytes target) a.uid a.gid) ∷ []
object_actions path a (what.Link first) = action.Op (op.Link a.time (string_bytes first) path) ∷ []

abbrev pub item_actions : Item → List Action
item_actions i = object_actions (string_bytes i.path) i.attributes i.what

-- the root gets its attributes, and then each item is made
unfoldable pub actions_of : Attributes → List Item → List Action
actions_of root items = action.Op (op.SetAttributes root.time (47 ∷ [])
    (record {
      mode = root.mode;
      uid = root.uid;
      gid = root.gid;
      atime = root.time;
      mtime = root.time;
    })) ∷ flat_map item_actions items

-- ---- what fits

pub record AttributesFit (a : Attributes) : Type 0 where
  pub mode : a.mode ≤ 0o7777
  pub uid : a.uid < 2 ^ 16
  pub gid : a.gid < 2 ^ 16
  pub time : a.time < 2 ^ 32

-- it begins with a slash
abbrev pub IsRooted : List ℕ → Type 0
IsRooted path = slice_get path 0 ≡ Some 47

-- the name of a file of the host and the target of a symlink are words, which are not empty, and a
-- device has numbers of 12 and of 20 bits
abbrev pub WhatFits : What → Type 0
WhatFits what.Directory = Unit {0}
WhatFits (what.Regular file) = 0 < length (string_bytes file)
WhatFits (what.Device device major minor) = (major ≤ 4095) × (minor ≤ 1048575)
WhatFits what.Fifo = Unit {0}
WhatFits what.Socket = Unit {0}
WhatFits (what.Symlink target) = 0 < length (string_bytes target)
WhatFits (what.Link first) = IsRooted (string_bytes first)

pub record ItemFits (i : Item) : Type 0 where
  pub path : IsRooted (string_bytes i.path)
  pub attributes : AttributesFit i.attributes
  pub what : WhatFits i.what

-- rule: Listings: What of a folder a listing can say.
--   definitions: jfolder.Actions.FitsListing
--   code: jfolder::reading::read_folder
pub record FitsListing (root : Attributes) (items : List Item) : Type 0 where
  pub root_fits : AttributesFit root
  pub items_fit : All ItemFits items
