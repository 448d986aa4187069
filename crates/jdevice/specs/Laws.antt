-- What stays of a device's image, and what it shows. Each is a statement: it holds since a public
-- function's contract names it.
use Rattle.std.specs.Prelude.{◌≡◌, ℕ, ◌*◌, ◌<◌, ◌≤◌, IsTrue, List, Contains, length, map, take}
use Rattle.std.specs.List.{AllByRecursion}
use Rattle.jnode.specs.declared.order.Endian.{Endian}
use Rattle.jscan.specs.Image.{block_of, is_block_size}
use Rattle.jsteps.specs.Steps.{bytes, after}
use Rattle.jsteps.specs.declared.op.Op.{Op}
use Rattle.jview.specs.Through.{MountsThroughAs}
use Rattle.jlog.specs.HeadlineThrough.{state_through}
use Rattle.jlog.specs.Left.{flash_byte}
use Rattle.jrests.specs.declared.opening.Opening.{Opening}
use Rattle.jdevice.specs.Run.{DeviceDone, IsDeviceRun, device_image, openings_planned, steps_on_device}
use Rattle.jdevice.specs.declared.running.DevicePlan.{DevicePlan}

-- none of these openings is in a block
abbrev pub IsNotTaken : List Opening → ℕ → Type 0
IsNotTaken row b = Contains (map (λ o. o.block) row) b → ⊥

-- in the block of an opening an image has the bytes of another one in front of it
abbrev pub HasFrontOf : ℕ → List ℕ → List ℕ → Opening → Type 0
HasFrontOf size image base o = (at : ℕ) → at < o.place
    → flash_byte (block_of size image o.block) at ≡ flash_byte (block_of size base o.block) at

-- The image has each block of another one that is not taken, and each taken one in front of where
-- it is written.
pub record StaysOutside (size : ℕ) (base : List ℕ) (row : List Opening) (image : List ℕ) : Type 0
  where
    pub others : (b : ℕ) → IsNotTaken row b → block_of size image b ≡ block_of size base b
    pub fronts : AllByRecursion (HasFrontOf size image base) row

-- So has the image with what a run did.
abbrev pub DeviceStaysOutside : Type 0
DeviceStaysOutside = (e : Endian) (on : DevicePlan) (image : List ℕ) (ops : List Op)
    (run : DeviceDone) → IsTrue (is_block_size on.flash.geometry.block)
    → length image ≤ on.flash.blocks * on.flash.geometry.block → IsDeviceRun e on image ops run
    → StaysOutside on.flash.geometry.block image (openings_planned e on image)
    (device_image on image run)

-- It mounts through its compression as the file system after the operations that were accepted.
abbrev pub DeviceShowsAccepted : Type 0
DeviceShowsAccepted = (e : Endian) (on : DevicePlan) (image : List ℕ) (ops : List Op)
    (run : DeviceDone) → IsDeviceRun e on image ops run
    → MountsThroughAs e on.flash.geometry.block (device_image on image run)
    (after bytes (state_through e on.flash.geometry.block image)
    (steps_on_device e on image (take run.accepted ops)))
