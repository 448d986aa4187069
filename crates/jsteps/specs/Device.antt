-- The number of a device, as its node has it.
use Rattle.std.specs.Prelude.{ℕ, ◌+◌, ◌*◌, ◌/◌, ◌%◌, ◌&&◌, nat_le, List, if◌then◌else◌}
use Rattle.jnode.specs.Order.{bytes_in}
use Rattle.jnode.specs.declared.order.Endian.{Endian}
use Rattle.jsteps.specs.declared.device.Bytes.{Bytes}
use Rattle.jsteps.specs.declared.device.Bytes.TheVariants.{Two, Four}
use Rattle.jsteps.specs.declared.device.DeviceKind.{DeviceKind}
use Rattle.jsteps.specs.declared.device.DeviceKind.TheVariants.{Character, Block}

-- the mode of a kind without permissions (Linux, include/uapi/linux/stat.h)
abbrev pub device_mode : DeviceKind → ℕ
device_mode Character = 0o020000
device_mode Block = 0o060000

-- The two forms of a number (Linux, include/linux/kdev_t.h): old_encode_dev, where major and minor
-- are of 8 bits, and new_encode_dev, for a major of 12 and a minor of 20, of which the low 8 stand
-- below the major and the others above it.
abbrev pub old_number : ℕ → ℕ → ℕ
old_number major minor = major * 256 + minor

abbrev pub new_number : ℕ → ℕ → ℕ
new_number major minor = minor % 256 + major % 4096 * 256 + minor / 256 % 4096 * 1048576

-- rule: Operations as steps: Devices, whose nodes have a number, and which have no bytes.
--   definitions: jsteps.Device.device_number, jsteps.Steps.own_bytes, jlisting.Listing.device_line,
--   jlisting.Listing.op_of
--   code: jsteps::device::new, jsteps::step::own_len, jsteps::planning::device, jlisting::line::op
--   laws: jsteps::examples::device_numbers, jsteps::examples::known_nodes,
--   jlisting::examples::devices_are_listed
-- its bytes: two of the old form where it serves, else four of the new one (Linux,
-- fs/jffs2/nodelist.h, jffs2_encode_dev)
unfoldable pub device_number : Endian → ℕ → ℕ → List ℕ
device_number e major minor =
    if nat_le major 255 && nat_le minor 255 then bytes_in e 2 (old_number major minor)
    else bytes_in e 4 (new_number major minor)

-- they, as they lie
abbrev pub number_bytes : Bytes → List ℕ
number_bytes (Two bytes) = bytes
number_bytes (Four bytes) = bytes
