use Rattle.std.proofs.Common.{refl}
use Rattle.std.specs.Fmt.{digits}
use Rattle.flashbase.specs.Bytes.{pad4_of}
use Rattle.flashbase.specs.Crc.{crc_after, push_byte, push_bits, push_bit}
use Rattle.jnode.specs.Order.{number_in, bytes_in}
use Rattle.jnode.specs.Header.{is_good, is_good_front, has_header, header_crc_of}
use Rattle.jnode.specs.Reading.{seen_of, entry_seen, inode_seen, passed_seen, plain_seen, is_entry_long, is_crc_right, is_size_right, is_entry_in_range, is_inode_long, is_inode_in_range, is_data_crc_right}
use Rattle.jscan.specs.Tiling.{tile_at}
use Rattle.jscan.specs.Extents.{class_of, extents_from}
use Rattle.jline.specs.Words.{hex}
use Rattle.jhistory.specs.HistoryText.{entry_owner, entry_rest, history_line, history_text, word_totals_line}
use Rattle.jhistory.proofs.examples.entry_is_earlier.Goals as goal

pub returns : goal.returns
unfolding digits pad4_of crc_after push_byte push_bits push_bit number_in bytes_in is_good is_good_front has_header header_crc_of seen_of entry_seen inode_seen passed_seen plain_seen is_entry_long is_crc_right is_size_right is_entry_in_range is_inode_long is_inode_in_range is_data_crc_right tile_at class_of extents_from hex entry_owner entry_rest history_line history_text word_totals_line
returns c = λ words. refl
