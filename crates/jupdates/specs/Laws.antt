-- What is true of `update` and `build --compress`.
use Rattle.std.specs.Prelude.{◌≡◌, ◌⊎◌, ◌++◌, ℕ, true, List, [], Contains, None, length, Ok, Err}
use Rattle.jnode.specs.declared.order.Endian.{Endian}
use Rattle.jscan.specs.Pages.{page_size}
use Rattle.jscan.specs.declared.page.Page.{Page}
use Rattle.jmount.specs.StateOf.{state_of}
use Rattle.jmount.specs.Tree.{State}
use Rattle.jsteps.specs.Nodes.{index_of}
use Rattle.jsteps.specs.Refusals.{steps_of_first}
use Rattle.jsteps.specs.Steps.{bytes, after}
use Rattle.jsteps.specs.declared.op.Op.{Op}
use Rattle.jview.specs.Through.{MountsThroughAs}
use Rattle.jlog.specs.HeadlineThrough.{state_through}
use Rattle.jlisting.specs.Listing.{lines_of}
use Rattle.jlisting.specs.declared.line.Line.{Line}
use Rattle.jdevice.specs.Laws.{StaysOutside}
use Rattle.jdevice.specs.Run.{openings_planned, steps_on_device}
use Rattle.jcommand.specs.declared.parsed.Building.{Building}
use Rattle.jcommand.specs.declared.parsed.Updating.{Updating}
use Rattle.jreads.specs.Named.{files_named}
use Rattle.jedge.specs.Calls.{Event, Did, Read}
use Rattle.jedge.specs.Laws.{BlamesEvent, Happened, LooksOnly}
use Rattle.jedge.specs.Told.{Told}
use Rattle.jedge.specs.declared.fault.Fault.{Fault}
use Rattle.jedge.specs.declared.fault.Fault.TheVariants as fault
use Rattle.jmakes.specs.Blaming.{IsFileBlamed}
use Rattle.jmakes.specs.Laws.{ComesLate, IsWriteBlamed, JudgesBeforeMaking, LeavesAtFault}
use Rattle.jmakes.specs.Leaving.{LeavesFiles}
use Rattle.jmakes.specs.Making.{filled_to, written_out}
use Rattle.jmakes.specs.Writing.{HasOps, Numbered}
use Rattle.jupdates.specs.Asked.{device_built, device_wanted}
use Rattle.jupdates.specs.Commands.{build_compressed_act, update_act}

-- ---- with `--atomic`, a fault leaves the files as they were

-- any fault but that of the output, which comes when the file has its name
abbrev pub UpdateLeavesFiles : Type 0
UpdateLeavesFiles = (e : Endian) (u : Updating (List ℕ)) (events : List Event) (f : Fault)
    → u.placing.atomic ≡ true → (f ≡ fault.Output → ⊥) → update_act e u events (Err f)
    → LeavesFiles events

-- ---- all is judged before a file is made

-- at any fault but those of writing that goes on, nothing was made, and no file was changed
abbrev pub UpdateIsJudged : Type 0
UpdateIsJudged = (e : Endian) (u : Updating (List ℕ)) (events : List Event) (f : Fault)
    → update_act e u events (Err f) → LooksOnly events ⊎ ComesLate u.output f events

-- ---- what is written

-- these bytes went to a file, by one call; or there are none
abbrev pub WentToFile : List ℕ → List Event → Type 0
WentToFile bytes events = (name : List ℕ) × (before : List Event) × (after : List Event)
    × (events ≡ before ++ (written_out name bytes ++ after))

-- An image was read, and a listing. Another image went out, up to where it is to be filled: it has
-- each block of the first one that is not taken, and each taken one in front of where it is
-- written; and it mounts through its compression as what the operations of the listing's lines make
-- of the file system that the first one shows through its compression.
pub record ShowsUpdated (e : Endian) (u : Updating (List ℕ)) (events : List Event) : Type 0 where
  pub image : List ℕ
  pub text : List ℕ
  pub lines : List Line
  pub files : List ℕ → List ℕ
  pub of : Numbered
  pub out : List ℕ
  pub read : Happened (Did (Read u.image image)) events
  pub listed : Happened (Did (Read u.listing text)) events
  pub lines_are : lines_of text ≡ Ok lines
  pub ops_are : HasOps e files lines (Ok of)
  pub stays : StaysOutside u.options.geometry.block image
      (openings_planned e (device_wanted u image).on image) out
  pub shows : MountsThroughAs e u.options.geometry.block out
      (after bytes (state_through e u.options.geometry.block image)
      (steps_on_device e (device_wanted u image).on image of.ops))
  pub put : WentToFile (filled_to (device_wanted u image).file.filling out) events

-- So it is where `update` ends well.
abbrev pub UpdateShowsOps : Type 0
UpdateShowsOps = (e : Endian) (u : Updating (List ℕ)) (events : List Event) (told : Told)
    → update_act e u events (Ok told) → ShowsUpdated e u events

-- ---- `build --compress`

-- with `--atomic`, any fault but that of the output leaves the files as they were
abbrev pub BuildCompressedLeavesFiles : Type 0
BuildCompressedLeavesFiles = (e : Endian) (b : Building (List ℕ))
    → LeavesAtFault (device_built b.target).file (build_compressed_act e b)

-- all that can be refused is refused before a file is made
abbrev pub BuildCompressedIsJudged : Type 0
BuildCompressedIsJudged = (e : Endian) (b : Building (List ℕ))
    → JudgesBeforeMaking (device_built b.target).file (build_compressed_act e b)

-- what operations make of an empty file system
abbrev pub made_of_nothing : Page → List Op → State
made_of_nothing page ops = after bytes (state_of [])
    (steps_of_first (page_size page) (index_of []) ops (length ops))

-- A listing was read, and the files that its lines name. The image that went to the file mounts
-- through its compression, as what the operations of the lines make of an empty file system.
pub record ShowsBuilt (e : Endian) (b : Building (List ℕ)) (events : List Event) : Type 0 where
  pub text : List ℕ
  pub lines : List Line
  pub files : List ℕ → List ℕ
  pub of : Numbered
  pub image : List ℕ
  pub listed : Happened (Did (Read b.listing text)) events
  pub lines_are : lines_of text ≡ Ok lines
  pub read : (name : List ℕ) → Contains (files_named lines) name
      → Happened (Did (Read name (files name))) events
  pub ops_are : HasOps e files lines (Ok of)
  pub shows : MountsThroughAs e b.target.options.geometry.block image
      (made_of_nothing b.target.page of.ops)
  pub put : WentToFile image events

-- So it is where `build --compress` ends well.
abbrev pub BuildCompressedShowsOps : Type 0
BuildCompressedShowsOps = (e : Endian) (b : Building (List ℕ)) (events : List Event) (told : Told)
    → build_compressed_act e b events (Ok told) → ShowsBuilt e b events

-- Then nothing is found, and nothing noted.
abbrev pub BuildCompressedNotesNothing : Type 0
BuildCompressedNotesNothing = (e : Endian) (b : Building (List ℕ)) (events : List Event)
    (told : Told) → build_compressed_act e b events (Ok told)
    → told ≡ record { counted = 0; noted = None }
