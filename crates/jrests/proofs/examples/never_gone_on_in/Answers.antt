use Rattle.std.proofs.Common.{refl}
use Rattle.flashbase.specs.Bytes.{pad4_of}
use Rattle.flashbase.specs.Crc.{crc_after, push_byte, push_bits, push_bit}
use Rattle.jnode.specs.Order.{number_in, bytes_in}
use Rattle.jnode.specs.Header.{is_good, is_good_front, has_header, header_crc_of}
use Rattle.jnode.specs.Reading.{seen_of, entry_seen, inode_seen, passed_seen, plain_seen, is_entry_long, is_crc_right, is_size_right, is_entry_in_range, is_inode_long, is_inode_in_range, is_data_crc_right}
use Rattle.jnode.specs.Writing.{header_bytes, inode_front, object_bytes, time_bytes, range_bytes}
use Rattle.jscan.specs.Tiling.{tile_at}
use Rattle.jscan.specs.Blank.{is_blank}
use Rattle.jscan.specs.Extents.{class_of, extents_from}
use Rattle.jrests.proofs.examples.never_gone_on_in.Goals as goal

pub returns-clause-torn : goal.returns-clause-torn
unfolding pad4_of crc_after push_byte push_bits push_bit number_in bytes_in is_good is_good_front has_header header_crc_of seen_of entry_seen inode_seen passed_seen plain_seen is_entry_long is_crc_right is_size_right is_entry_in_range is_inode_long is_inode_in_range is_data_crc_right header_bytes inode_front object_bytes time_bytes range_bytes tile_at is_blank class_of extents_from
returns-clause-torn c = refl

pub returns-clause-cut : goal.returns-clause-cut
unfolding pad4_of crc_after push_byte push_bits push_bit number_in bytes_in is_good is_good_front has_header header_crc_of seen_of entry_seen inode_seen passed_seen plain_seen is_entry_long is_crc_right is_size_right is_entry_in_range is_inode_long is_inode_in_range is_data_crc_right header_bytes inode_front object_bytes time_bytes range_bytes tile_at is_blank class_of extents_from
returns-clause-cut c = refl

pub returns-clause-dirty : goal.returns-clause-dirty
unfolding pad4_of crc_after push_byte push_bits push_bit number_in bytes_in is_good is_good_front has_header header_crc_of seen_of entry_seen inode_seen passed_seen plain_seen is_entry_long is_crc_right is_size_right is_entry_in_range is_inode_long is_inode_in_range is_data_crc_right header_bytes inode_front object_bytes time_bytes range_bytes tile_at is_blank class_of extents_from
returns-clause-dirty c = refl

pub returns-clause-damaged : goal.returns-clause-damaged
unfolding pad4_of crc_after push_byte push_bits push_bit number_in bytes_in is_good is_good_front has_header header_crc_of seen_of entry_seen inode_seen passed_seen plain_seen is_entry_long is_crc_right is_size_right is_entry_in_range is_inode_long is_inode_in_range is_data_crc_right header_bytes inode_front object_bytes time_bytes range_bytes tile_at is_blank class_of extents_from
returns-clause-damaged c = refl
