-- What the image holds that `pack` makes of a folder, compressed or not.
use Rattle.std.specs.Prelude.{◌≡◌, ◌⊎◌, ℕ, List, [], Contains, Option, Some, Ok}
use Rattle.std.specs.List.{flat_map}
use Rattle.jnode.specs.declared.order.Endian.{Endian}
use Rattle.jmount.specs.Mounts.{MountsAs, plain_nodes}
use Rattle.jmount.specs.Tree.{State}
use Rattle.jview.specs.Through.{MountsThroughAs}
use Rattle.jlisting.specs.Listing.{lines_of}
use Rattle.jlisting.specs.declared.line.Line.{Line}
use Rattle.jcommand.specs.declared.parsed.Packing.{Packing}
use Rattle.jedge.specs.Calls.{Call, Event, Did, Failed, Keep, Read, ReadFolder, Write}
use Rattle.jedge.specs.Laws.{Happened}
use Rattle.jedge.specs.Told.{Told}
use Rattle.jfolder.specs.Known.{Known}
use Rattle.jfolder.specs.Text.{listing_text}
use Rattle.jfolder.specs.declared.reading.FolderTree.{FolderTree}
use Rattle.jtree.specs.Holding.{HoldsTree}
use Rattle.jtree.specs.Making.{Files}
use Rattle.jtree.specs.Numbers.{HaveDeviceNumbers}
use Rattle.jreads.specs.Named.{files_named}
use Rattle.jfolders.specs.Reading.{IsListableTree, listing_settings}
use Rattle.jpacks.specs.Packing.{pack_act, pack_compressed_act}

-- what a call writes
abbrev pub bytes_put : Call → List ℕ
bytes_put (Write name bytes) = bytes
bytes_put _ = []

abbrev pub bytes_done : Event → List ℕ
bytes_done (Did call) = bytes_put call
bytes_done (Failed call reason) = []

-- all that was written, in the order of the writes
abbrev pub all_written : List Event → List ℕ
all_written events = flat_map bytes_done events

-- these bytes of a file were read, when it was found in a folder or by its name
abbrev pub WasRead : List Event → List ℕ → List ℕ → Type 0
WasRead events name bytes = Happened (Did (Read name bytes)) events
    ⊎ ((folder : List ℕ) × (kept : List ℕ → Option (List ℕ))
    × Happened (Did (Keep folder kept)) events × (kept name ≡ Some bytes))

-- A folder was read, and a file system holds the tree that was found there, and nothing else. Its
-- files have the bytes that were read of them.
pub record ShowsFolder (e : Endian) (asked : Packing (List ℕ)) (events : List Event)
    (state : State) : Type 0 where
  pub known : Known
  pub folder : FolderTree
  pub lines : List Line
  pub files : Files
  pub looked : Happened (Did (ReadFolder asked.folder asked.quiet known)) events
  pub tree : IsListableTree known (listing_settings asked.owner asked.time) folder
  pub listed : lines_of (listing_text folder.root folder.items.items) ≡ Ok lines
  pub read : (name : List ℕ) → Contains (files_named lines) name
      → WasRead events name (files name)
  pub holds : HoldsTree e files folder.root folder.items.items state

-- rule: Listings: The image that `pack` makes holds the tree of the folder.
--   definitions: jpacks.Held.HoldsFolder, jpacks.Held.HoldsFolderPacked, jpacks.Held.ShowsFolder
--   code: jpacks::packing::pack, jpacks::compressed::pack_compressed
--   laws: jpacks::laws::pack_holds_folder, jpacks::laws::pack_compressed_holds_folder
-- All that was written mounts as such a file system, and its nodes have the numbers of the tree's
-- devices.
pub record HoldsFolder (e : Endian) (asked : Packing (List ℕ)) (events : List Event) : Type
    0 where
  pub state : State
  pub shows : ShowsFolder e asked events state
  pub mounts : MountsAs e asked.options.geometry.block (all_written events) state
  pub numbered : HaveDeviceNumbers e
      (plain_nodes e asked.options.geometry.block (all_written events)) state
      shows.folder.items.items

-- `pack` that ends without a fault has written such an image.
abbrev pub PackHoldsFolder : Type 0
PackHoldsFolder = (e : Endian) (asked : Packing (List ℕ)) (events : List Event) (told : Told)
    → pack_act e asked events (Ok told) → HoldsFolder e asked events

-- All that was written mounts through its compression as such a file system.
pub record HoldsFolderPacked (e : Endian) (asked : Packing (List ℕ)) (events : List Event) : Type
    0 where
  pub state : State
  pub shows : ShowsFolder e asked events state
  pub mounts : MountsThroughAs e asked.options.geometry.block (all_written events) state

-- `pack --compress` that ends without a fault has written such an image.
abbrev pub PackCompressedHoldsFolder : Type 0
PackCompressedHoldsFolder = (e : Endian) (asked : Packing (List ℕ)) (events : List Event)
    (told : Told) → pack_compressed_act e asked events (Ok told) → HoldsFolderPacked e asked events
