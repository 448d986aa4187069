-- What `verify` tells of an image and a folder.
use Rattle.std.specs.Prelude.{◌≡◌, ◌-◌, ◌^◌, ℕ, List, length, min, Ok}
use Rattle.jnode.specs.declared.order.Endian.{Endian}
use Rattle.jmount.specs.Mount.{Mount}
use Rattle.jmount.specs.Tree.{State}
use Rattle.jview.specs.Through.{IsMountThroughOf, MountsThroughAs}
use Rattle.jdiff.specs.Differing.{AreDifferences}
use Rattle.jdiff.specs.Entries.{AreEntries, Entry}
use Rattle.jdiff.specs.Laws.{AreSameEntries}
use Rattle.jreport.specs.Notes.{noted as findings}
use Rattle.jedge.specs.Calls.{Event, Did, Read}
use Rattle.jedge.specs.Laws.{Happened}
use Rattle.jedge.specs.Told.{Told, either}
use Rattle.jpacks.specs.Held.{ShowsFolder}
use Rattle.jverifies.specs.Verifying.{packing_verified, comparing_verified, verify_act}
use Rattle.jcommand.specs.declared.parsed.Verification.{Verification}

-- A folder was read, and `held` holds its tree, as the image that `pack` makes of it does. The
-- image was read, and mounts through its compression. These are the lines on both trees; and
-- something is found if there is a line, if something was left out of the folder, or at a finding.
pub record AreToldApart (e : Endian) (asked : Verification (List ℕ)) (events : List Event)
    (told : Told) : Type 0 where
  pub image : Mount
  pub held : State
  pub lines : List (List ℕ)
  pub read : Happened (Did (Read asked.image image.image)) events
  pub mounts : IsMountThroughOf e asked.options.geometry.block image
  pub folder : ShowsFolder e (packing_verified asked) events held
  pub differ : AreDifferences (comparing_verified e asked) held image.state lines
  pub counted : told.counted ≡ either folder.folder.left_out
      (either (min (length lines) (2 ^ 64 - 1)) (findings image))

abbrev pub VerifyTellsDifferences : Type 0
VerifyTellsDifferences = (e : Endian) (asked : Verification (List ℕ)) (events : List Event)
    (told : Told) → verify_act e asked events (Ok told) → AreToldApart e asked events told

-- The image that was read mounts through its compression as a file system with the same entries as
-- one that holds the whole tree of the folder.
pub record IsVerified (e : Endian) (asked : Verification (List ℕ)) (events : List Event) : Type
    0 where
  pub image : List ℕ
  pub shown : State
  pub held : State
  pub read : Happened (Did (Read asked.image image)) events
  pub mounts : MountsThroughAs e asked.options.geometry.block image shown
  pub folder : ShowsFolder e (packing_verified asked) events held
  pub all : folder.folder.left_out ≡ 0
  pub same : (left right : List Entry) → AreEntries held left → AreEntries shown right
      → AreSameEntries (comparing_verified e asked) left right

-- `verify` that ends without a fault, and finds nothing
abbrev pub VerifiedIsSame : Type 0
VerifiedIsSame = (e : Endian) (asked : Verification (List ℕ)) (events : List Event) (told : Told)
    → verify_act e asked events (Ok told) → told.counted ≡ 0 → IsVerified e asked events
