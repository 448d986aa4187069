-- The number of a device, as its node has it.
use Rattle.std.specs.Prelude.{ℕ, ◌+◌, ◌*◌, ◌/◌, ◌%◌, ◌==◌, List, length, replicate, Option, Some, None, if◌then◌else◌}
use Rattle.jnode.specs.Order.{number_in}
use Rattle.jnode.specs.declared.order.Endian.{Endian}
use Rattle.jnode.specs.declared.node.Fill.{Fill}
use Rattle.jnode.specs.declared.node.Fill.TheVariants.{Zero, Data}
use Rattle.jmount.specs.Tree.{is_device}
use Rattle.jmount.specs.declared.object.DeviceBytes.{DeviceBytes}
use Rattle.jmount.specs.declared.object.DeviceBytes.TheVariants.{Two, Four}

-- the bytes that a node gives for its range
abbrev pub given_bytes : ℕ → Fill → List ℕ
given_bytes dsize Zero = replicate dsize 0
given_bytes dsize (Data bytes) = bytes

-- the number that some bytes are: two of the old form, or four of the new one (Linux,
-- fs/jffs2/nodelist.h, union jffs2_device_node)
abbrev pub number_held : List ℕ → Option DeviceBytes
number_held bytes =
    if length bytes == 2 then Some (Two bytes)
    else if length bytes == 4 then Some (Four bytes) else None

-- rule: The file system that nodes make: A device's number is what its node of highest version has.
--   definitions: jmount.Device.device_held, jmount.Device.number_held, jmount.StateOf.with_bytes
--   code: jmount::device::device_of
--   laws: jmount::laws::objects_are_of_highest, jmount::examples::numbers_of_devices
-- the number of an object of this mode, whose newest node gives these bytes: none, where it is no
-- device, or they are neither two nor four (of these Linux reads no device: fs/jffs2/fs.c,
-- jffs2_iget)
unfoldable pub device_held : ℕ → List ℕ → Option DeviceBytes
device_held mode bytes = if is_device mode then number_held bytes else None

-- its major and its minor number (Linux, include/linux/kdev_t.h: old_decode_dev, new_decode_dev)
abbrev pub major_and_minor : Endian → DeviceBytes → ℕ × ℕ
major_and_minor e (Two bytes) = (number_in e 2 bytes / 256, number_in e 2 bytes % 256)
major_and_minor e (Four bytes) = (
  number_in e 4 bytes / 256 % 4096,
  number_in e 4 bytes % 256 + number_in e 4 bytes / 1048576 * 256,
)
