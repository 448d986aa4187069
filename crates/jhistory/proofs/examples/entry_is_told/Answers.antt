use Rattle.std.proofs.Common.{◌≡◌, ℕ, List, [], ◌∷◌, ◌++◌, Option, Some, None, ap}
use Rattle.std.specs.Prelude.{codes, option_map}
use Rattle.std.specs.Fmt.{digits}
use Rattle.std.specs.List.{cons_option}
use Rattle.flashbase.specs.Bytes.{pad4_of}
use Rattle.flashbase.specs.Crc.{crc_after, push_byte, push_bits, push_bit}
use Rattle.jnode.specs.Order.{number_in, bytes_in}
use Rattle.jnode.specs.Header.{is_good, is_good_front, has_header, header_crc_of}
use Rattle.jnode.specs.Reading.{seen_of, entry_seen, inode_seen, passed_seen, plain_seen, is_entry_long, is_crc_right, is_size_right, is_entry_in_range, is_inode_long, is_inode_in_range, is_data_crc_right}
use Rattle.jscan.specs.Tiling.{tile_at}
use Rattle.jscan.specs.Extents.{class_of, extents_from}
use Rattle.jline.specs.Words.{hex}
use Rattle.jhistory.specs.HistoryText.{WordLine, entry_owner, entry_rest, history_line, history_text, obsolete_fields, word_line_if, word_told, word_totals, word_totals_line}
use Rattle.jhistory.specs.declared.word.NodeWord.{NodeWord}
use Rattle.jhistory.specs.declared.word.NodeWord.TheVariants.{Obsolete}
use Rattle.jhistory.proofs.examples.entry_is_told.Goals as goal

-- the text, by what is known of the entry
fields : List ℕ
fields = codes " entry pino 1 version 1 ino 2 mctime 0 type 8 name a"

text_with : Option NodeWord → List ℕ
text_with known =
    let line : Option WordLine = option_map (λ w. (w, history_line 12 w fields)) known in
    (word_line_if line ++ (history_line 56 Obsolete (obsolete_fields 44) ++ []))
    ++ word_totals_line (word_totals (cons_option (word_told line) (Obsolete ∷ [])))

pub returns : goal.returns
unfolding digits pad4_of crc_after push_byte push_bits push_bit number_in bytes_in is_good is_good_front has_header header_crc_of seen_of entry_seen inode_seen passed_seen plain_seen is_entry_long is_crc_right is_size_right is_entry_in_range is_inode_long is_inode_in_range is_data_crc_right tile_at class_of extents_from hex entry_owner entry_rest history_line history_text word_totals_line fields text_with
returns c = λ words known. ap text_with known
