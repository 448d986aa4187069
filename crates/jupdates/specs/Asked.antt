-- What is asked of `update` and `build --compress`.
use Rattle.std.specs.Prelude.{◌*◌, ℕ, Bool, true, false, List, Option, Some, None, if◌then◌else◌}
use Rattle.jlog.specs.declared.start.Flash.{Flash}
use Rattle.jcommand.specs.Blocks.{blocks_asked}
use Rattle.jcommand.specs.declared.parsed.Target.{Target}
use Rattle.jcommand.specs.declared.parsed.Updating.{Updating}
use Rattle.jdevice.specs.declared.running.DevicePlan.{DevicePlan}
use Rattle.jmakes.specs.Making.{WantedFile, wanted_file}
use Rattle.jmakes.specs.Writing.{file_asked, flash_of_asked}
use Rattle.jmakes.specs.declared.wanted.Filling.{Filling}
use Rattle.jmakes.specs.declared.wanted.Filling.TheVariants as filling
use Rattle.jupdates.specs.declared.asked.DeviceToWrite.{DeviceToWrite}

-- how the flash is written, the file that is made, and whether it is noted that few blank blocks
-- are left
pub record DeviceWanted : Type 0 where
  pub on : DevicePlan
  pub file : WantedFile
  pub notes_left : Bool

-- ---- of an image that is read

abbrev pub flash_updated : Updating (List ℕ) → List ℕ → Flash
flash_updated u image = record {
  geometry = u.options.geometry;
  blocks = blocks_asked u.blocks u.options.geometry.block image;
  page = u.page;
}

-- with `--pad`, up to the end of the flash
abbrev pub filling_updated : Bool → Flash → Option Filling
filling_updated pad flash =
    if pad then Some (filling.Length (flash.blocks * flash.geometry.block)) else None

-- what is asked for, of this image
abbrev pub device_wanted : Updating (List ℕ) → List ℕ → DeviceWanted
device_wanted u image = record {
  on = record { flash = flash_updated u image; plain = u.plain; tail = u.tail };
  file = record {
    name = u.output;
    atomic = u.placing.atomic;
    filling = filling_updated u.placing.pad (flash_updated u image);
  };
  notes_left = true;
}

-- ---- of a new image

-- a flash that is blank, which new nodes go to compressed where that is shorter, and this file
abbrev pub device_packed : Flash → WantedFile → DeviceWanted
device_packed flash file = record {
  on = record { flash = flash; plain = false; tail = false };
  file = file;
  notes_left = false;
}

-- those that `build` is asked for
abbrev pub device_built : Target (List ℕ) → DeviceWanted
device_built target = device_packed (flash_of_asked target) (file_asked target)

-- ---- as the code has it

abbrev pub device_to_write : DeviceToWrite → DeviceWanted
device_to_write device =
    record { on = device.on; file = wanted_file device.file; notes_left = device.notes_left }
