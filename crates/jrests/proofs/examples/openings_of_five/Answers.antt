use Rattle.std.proofs.Common.{refl}
use Rattle.flashbase.specs.Bytes.{pad4_of}
use Rattle.flashbase.specs.Crc.{crc_after, push_byte, push_bits, push_bit}
use Rattle.jnode.specs.Order.{number_in, bytes_in}
use Rattle.jnode.specs.Header.{is_good, is_good_front, has_header, header_crc_of}
use Rattle.jnode.specs.Reading.{seen_of, entry_seen, inode_seen, passed_seen, plain_seen, is_entry_long, is_crc_right, is_size_right, is_entry_in_range, is_inode_long, is_inode_in_range, is_data_crc_right}
use Rattle.jnode.specs.Writing.{header_bytes, inode_front, object_bytes, time_bytes, range_bytes}
use Rattle.jscan.specs.Tiling.{tile_at}
use Rattle.jscan.specs.Blank.{is_blank}
use Rattle.jscan.specs.Extents.{class_of, extents_from}
use Rattle.jrests.proofs.examples.openings_of_five.Goals as goal

pub returns-clause-all : goal.returns-clause-all
unfolding pad4_of crc_after push_byte push_bits push_bit number_in bytes_in is_good is_good_front has_header header_crc_of seen_of entry_seen inode_seen passed_seen plain_seen is_entry_long is_crc_right is_size_right is_entry_in_range is_inode_long is_inode_in_range is_data_crc_right header_bytes inode_front object_bytes time_bytes range_bytes tile_at is_blank class_of extents_from
returns-clause-all c = refl

pub returns-clause-rests : goal.returns-clause-rests
unfolding pad4_of crc_after push_byte push_bits push_bit number_in bytes_in is_good is_good_front has_header header_crc_of seen_of entry_seen inode_seen passed_seen plain_seen is_entry_long is_crc_right is_size_right is_entry_in_range is_inode_long is_inode_in_range is_data_crc_right header_bytes inode_front object_bytes time_bytes range_bytes tile_at is_blank class_of extents_from
returns-clause-rests c = refl
