-- The listing of a tree, as text.
use Rattle.std.specs.Prelude.{ℕ, ◌==◌, ◌&&◌, Bool, true, false, List, [], ◌∷◌, ◌++◌, codes, decimal, if◌then◌else◌}
use Rattle.std.specs.List.{flat_map}
use Rattle.std.specs.String.{string_bytes}
use Rattle.jline.specs.Words.{octal, word_of}
use Rattle.jsteps.specs.declared.device.DeviceKind.{DeviceKind}
use Rattle.jsteps.specs.declared.device.DeviceKind.TheVariants.{Character, Block}
use Rattle.jfolder.specs.declared.settings.Settings.{Settings}
use Rattle.jfolder.specs.declared.tree.Attributes.{Attributes}
use Rattle.jfolder.specs.declared.tree.Item.{Item}
use Rattle.jfolder.specs.declared.tree.What.{What}
use Rattle.jfolder.specs.declared.tree.What.TheVariants as what

-- ---- lines, each by its words

-- single spaces between the words, and a line feed
abbrev pub words_line : List (List ℕ) → List ℕ
words_line [] = 10 ∷ []
words_line (word ∷ []) = word ++ 10 ∷ []
words_line (word ∷ words) = word ++ 32 ∷ words_line words

-- The time and the owner of what follows are set where they are others than before.
abbrev pub time_words : ℕ → ℕ → List (List (List ℕ))
time_words before time = if time == before then [] else (codes "time" ∷ decimal time ∷ []) ∷ []

abbrev pub owner_words : Settings → Attributes → List (List (List ℕ))
owner_words s a = if (a.uid == s.uid)
    && (a.gid == s.gid) then [] else (codes "owner" ∷ decimal a.uid ∷ decimal a.gid ∷ []) ∷ []

abbrev pub device_letter : DeviceKind → List ℕ
device_letter Character = codes "c"
device_letter Block = codes "b"

-- what makes an object, after its settings
abbrev pub object_words : List ℕ → Attributes → What → List (List (List ℕ))
object_words path a what.Directory = (codes "mkdir" ∷ octal a.mode ∷ word_of path ∷ []) ∷ []
object_words path a (what.Regular file) =
    (codes "file" ∷ octal a.mode ∷ word_of path ∷ word_of (string_bytes file) ∷ []) ∷ []
object_words path a (what.Device device major minor) =
    (codes "device" ∷ device_letter device ∷ octal a.mode ∷ decimal major ∷ decimal minor
    ∷ word_of path ∷ []) ∷ []
object_words path a what.Fifo = (codes "fifo" ∷ octal a.mode ∷ word_of path ∷ []) ∷ []
object_words path a what.Socket = (codes "socket" ∷ octal a.mode ∷ word_of path ∷ []) ∷ []
object_words path a (what.Symlink target) =
    (codes "symlink" ∷ word_of path ∷ word_of (string_bytes target) ∷ []) ∷ []
object_words path a (what.Link first) =
    (codes "link" ∷ word_of (string_bytes first) ∷ word_of path ∷ []) ∷ []

abbrev pub is_link : What → Bool
is_link (what.Link first) = true
is_link _ = false

-- A link has the owner of its object, and needs none of its own.
abbrev pub setting_words : Settings → Item → List (List (List ℕ))
setting_words s i = time_words s.time i.attributes.time
    ++ (if is_link i.what then [] else owner_words s i.attributes)

abbrev pub item_words : Settings → Item → List (List (List ℕ))
item_words s i = setting_words s i ++ object_words (string_bytes i.path) i.attributes i.what

-- what is set after an item
abbrev pub settings_with : Settings → Item → Settings
settings_with s i = record {
  time = i.attributes.time;
  uid = if is_link i.what then s.uid else i.attributes.uid;
  gid = if is_link i.what then s.gid else i.attributes.gid;
}

abbrev pub items_words : Settings → List Item → List (List (List ℕ))
items_words s [] = []
items_words s (i ∷ is) = item_words s i ++ items_words (settings_with s i) is

-- the root's attributes, under its time
abbrev pub attr_words : Attributes → List (List (List ℕ))
attr_words a = (codes "attr" ∷ octal a.mode ∷ decimal a.uid ∷ decimal a.gid ∷ decimal a.time
    ∷ decimal a.time ∷ codes "/" ∷ []) ∷ []

abbrev pub root_words : Attributes → List (List (List ℕ))
root_words a = time_words 0 a.time ++ attr_words a

abbrev pub settings_of_root : Attributes → Settings
settings_of_root a = record { time = a.time; uid = 0; gid = 0 }

-- ---- the text

abbrev pub lines_text : List (List (List ℕ)) → List ℕ
lines_text lines = flat_map words_line lines

-- rule: Listings: The listing of a tree.
--   definitions: jfolder.Text.listing_text, jfolder.Actions.actions_of
--   code: jfolder::text::put_listing
--   laws: jfolder::laws::listing_is_read_back
unfoldable pub listing_text : Attributes → List Item → List ℕ
listing_text root items = lines_text (root_words root ++ items_words (settings_of_root root) items)
