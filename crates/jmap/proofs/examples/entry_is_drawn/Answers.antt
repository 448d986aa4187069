use Rattle.std.proofs.Common.{ℕ, List, [], ◌∷◌, ◌++◌, Option, ap}
use Rattle.std.specs.Prelude.{codes}
use Rattle.std.specs.Fmt.{digits}
use Rattle.flashbase.specs.Bytes.{pad4_of}
use Rattle.flashbase.specs.Crc.{crc_after, push_byte, push_bits, push_bit}
use Rattle.jnode.specs.Order.{number_in, bytes_in}
use Rattle.jnode.specs.Header.{is_good, is_good_front, has_header, header_crc_of}
use Rattle.jnode.specs.Reading.{seen_of, entry_seen, inode_seen, passed_seen, plain_seen, is_entry_long, is_crc_right, is_size_right, is_entry_in_range, is_inode_long, is_inode_in_range, is_data_crc_right}
use Rattle.jscan.specs.Tiling.{tile_at}
use Rattle.jscan.specs.Extents.{class_of, extents_from}
use Rattle.jline.specs.Words.{hex}
use Rattle.jmap.specs.NodeTexts.{entry_numbers, entry_text, version_text}
use Rattle.jmap.specs.Picture.{block_row, rect_start, rect_text, svg_row_start}
use Rattle.jmap.specs.Places.{name_place}
use Rattle.jmap.proofs.examples.entry_is_drawn.Goals as goal

-- the row, by what is known of the root
row_with : Option (List ℕ) → List ℕ
row_with known =
    codes "<text x='8' y='74'>00000000</text><svg x='80' y='64' width='1000' height='12' "
    ++ (codes "viewBox='0 0 200 1' preserveAspectRatio='none'>\n"
    ++ (codes "<rect class='free' x='0' width='12' height='1'>"
    ++ (codes "<title>free at 00000000, 12 bytes: clean marker</title></rect>\n"
    ++ (codes "<rect class='live' x='12' width='44' height='1'>"
    ++ (codes "<title>live at 0000000c, 44 bytes: "
    ++ (codes "entry a in directory 1, inode 2, version 1"
    ++ (((name_place known (97 ∷ []) ++ codes "</title></rect>\n")
    ++ (codes "<rect class='free' x='56' width='144' height='1'>"
    ++ codes "<title>free at 00000038, 144 bytes: erased</title></rect>\n")) ++ codes "</svg>\n")))))))

pub returns : goal.returns
unfolding digits pad4_of crc_after push_byte push_bits push_bit number_in bytes_in is_good is_good_front has_header header_crc_of seen_of entry_seen inode_seen passed_seen plain_seen is_entry_long is_crc_right is_size_right is_entry_in_range is_inode_long is_inode_in_range is_data_crc_right tile_at class_of extents_from hex entry_numbers entry_text version_text block_row rect_start rect_text svg_row_start name_place row_with
returns c = λ paths known. ap row_with known
