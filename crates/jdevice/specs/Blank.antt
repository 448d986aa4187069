-- How many blank blocks a run leaves on a device's flash.
use Rattle.std.specs.Prelude.{ℕ, List}
use Rattle.jreserve.specs.Erased.{erased_blocks}
use Rattle.jreserve.specs.Reserve.{linux_reserve}
use Rattle.jdevice.specs.Run.{DeviceDone, device_image}
use Rattle.jdevice.specs.declared.running.DevicePlan.{DevicePlan}

-- rule: Building and extending: How many blank blocks a run leaves on a device's flash.
--   definitions: jdevice.Blank.blank_left, jreserve.Erased.erased_blocks
--   code: jdevice::blank::blank_left, jopenings::erased::erased_with_stretches
-- The blocks that are erased in the image with what a run did. It has no other blank ones: each
-- blank block is an opening that is taken, and is erased where nothing goes.
abbrev pub blank_left : DevicePlan → List ℕ → DeviceDone → ℕ
blank_left on image run =
    erased_blocks on.flash.geometry.block on.flash.blocks (device_image on image run)

-- those that Linux keeps in reserve there
abbrev pub reserve_on : DevicePlan → ℕ
reserve_on on = linux_reserve on.flash.geometry.block on.flash.blocks
