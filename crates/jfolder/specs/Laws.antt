-- The law of a tree's listing.
use Rattle.std.specs.Prelude.{◌≡◌, List, map, Ok}
use Rattle.jlisting.specs.Listing.{lines_of}
use Rattle.jlisting.specs.declared.line.Line.{Line}
use Rattle.jfolder.specs.Actions.{actions_of, FitsListing}
use Rattle.jfolder.specs.Text.{listing_text}
use Rattle.jfolder.specs.declared.tree.Attributes.{Attributes}
use Rattle.jfolder.specs.declared.tree.Item.{Item}

-- The text of a tree is read as the actions that make it, in their order.
abbrev pub ListingIsReadBack : Type 0
ListingIsReadBack = (root : Attributes) (items : List Item) → FitsListing root items
    → (lines : List Line) × (lines_of (listing_text root items) ≡ Ok lines)
    × (map (λ line. line.action) lines ≡ actions_of root items)
