-- The text of pieces of a line.
use Rattle.std.specs.Prelude.{ℕ, List, [], ◌∷◌, codes, decimal, if◌then◌else◌}
use Rattle.std.specs.List.{flat_map}
use Rattle.jline.specs.Words.{octal, word_of}
use Rattle.jsteps.specs.declared.device.DeviceKind.{DeviceKind}
use Rattle.jfolder.specs.Text.{device_letter, is_link, words_line, lines_text, owner_words}
use Rattle.jfolder.specs.declared.settings.Settings.{Settings}
use Rattle.jfolder.specs.declared.tree.Item.{Item}
use Rattle.jfolder.specs.declared.words.Piece.{Piece}
use Rattle.jfolder.specs.declared.words.Piece.TheVariants.{Plain, Decimal, Octal, Escaped}

abbrev pub piece_text : Piece → List ℕ
piece_text (Plain text) = text.now
piece_text (Decimal n) = decimal n
piece_text (Octal n) = octal n
piece_text (Escaped bytes) = word_of bytes.now

abbrev pub pieces_text : List Piece → List ℕ
pieces_text pieces = flat_map piece_text pieces

-- ---- lines by their pieces, as the words of `Text` are put

abbrev pub moded_line : List ℕ → ℕ → List ℕ → List ℕ
moded_line verb mode path = words_line (verb ∷ octal mode ∷ word_of path ∷ [])

abbrev pub paths_line : List ℕ → List ℕ → List ℕ → List ℕ
paths_line verb first second = words_line (verb ∷ word_of first ∷ word_of second ∷ [])

abbrev pub file_text : ℕ → List ℕ → List ℕ → List ℕ
file_text mode path file =
    words_line (codes "file" ∷ octal mode ∷ word_of path ∷ word_of file ∷ [])

abbrev pub device_text : DeviceKind → ℕ → ℕ → ℕ → List ℕ → List ℕ
device_text device mode major minor path =
    words_line (codes "device" ∷ device_letter device ∷ octal mode ∷ decimal major ∷ decimal minor
    ∷ word_of path ∷ [])

-- the owner of an item, which a link has already
abbrev pub own_owner_text : Settings → Item → List ℕ
own_owner_text s i = lines_text (if is_link i.what then [] else owner_words s i.attributes)
