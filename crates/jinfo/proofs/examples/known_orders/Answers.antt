use Rattle.std.proofs.Common.{refl}
use Rattle.flashbase.specs.Bytes.{pad4_of}
use Rattle.flashbase.specs.Crc.{crc_after, push_byte, push_bits, push_bit}
use Rattle.jnode.specs.Order.{number_in, bytes_in}
use Rattle.jnode.specs.Header.{is_good, is_good_front, has_header, header_crc_of}
use Rattle.jnode.specs.Reading.{seen_of, entry_seen, plain_seen, is_entry_long, is_crc_right, is_size_right, is_entry_in_range}
use Rattle.jscan.specs.Tiling.{tile_at}
use Rattle.jscan.specs.Extents.{class_of, extents_from}
use Rattle.jinfo.proofs.examples.known_orders.Goals as goal

pub returns-clause-nothing : goal.returns-clause-nothing
unfolding pad4_of extents_from
returns-clause-nothing c = refl

pub returns-clause-marker : goal.returns-clause-marker
unfolding pad4_of crc_after push_byte push_bits push_bit number_in bytes_in is_good is_good_front has_header header_crc_of seen_of entry_seen plain_seen is_entry_long is_crc_right is_size_right is_entry_in_range tile_at class_of extents_from
returns-clause-marker c = refl

pub returns-clause-more_in_big_order : goal.returns-clause-more_in_big_order
unfolding pad4_of crc_after push_byte push_bits push_bit number_in bytes_in is_good is_good_front has_header header_crc_of seen_of entry_seen plain_seen is_entry_long is_crc_right is_size_right is_entry_in_range tile_at class_of extents_from
returns-clause-more_in_big_order c = refl
