-- What a command line asks for, by clap's matches of its words.
use Rattle.std.specs.Prelude.{◌≡◌, ◌≢◌, ◌⊎◌, ◌+◌, ◌-◌, ◌*◌, ◌^◌, ◌&&◌, ◌||◌, ℕ, Bool, true, false, List, [], ◌∷◌, Option, Some, None, if◌then◌else◌, nat_lt, codes, is_none, is_some, not, option_and_then, option_map}
use Rattle.std.specs.Borrow.{Bor}
use Rattle.std.specs.Char.{is_ascii_digit}
use Rattle.std.specs.Str.{bytes_eq}
use Rattle.clap.specs.Words.{Row, Text, IsAmong, all_of, fault_of, first_of, subcommand_of, takes}
use Rattle.clap.specs.declared.error.ErrorKind.{ErrorKind}
use Rattle.clap.specs.declared.error.ErrorKind.TheVariants.{DisplayHelp, DisplayVersion}
use Rattle.jnode.specs.declared.order.Endian.{Endian}
use Rattle.jnode.specs.declared.order.Endian.TheVariants.{Little, Big}
use Rattle.jscan.specs.declared.page.Page.{Page}
use Rattle.jscan.specs.declared.page.Page.TheVariants.{P4096, P8192, P16384}
use Rattle.jline.specs.Read.{◌>>=◌}
use Rattle.jcommand.specs.Commands.{program}
use Rattle.jcommand.specs.Sizes.{size_number}
use Rattle.jcommand.specs.declared.parsed.Appending.{Appending}
use Rattle.jcommand.specs.declared.parsed.Building.{Building}
use Rattle.jcommand.specs.declared.parsed.Check.{Check}
use Rattle.jcommand.specs.declared.parsed.Command.{Command}
use Rattle.jcommand.specs.declared.parsed.Command.TheVariants as command
use Rattle.jcommand.specs.declared.parsed.Compaction.{Compaction}
use Rattle.jcommand.specs.declared.parsed.Comparison.{Comparison}
use Rattle.jcommand.specs.declared.parsed.Conversion.{Conversion}
use Rattle.jcommand.specs.declared.parsed.Cuts.{Cuts}
use Rattle.jcommand.specs.declared.parsed.CutsThrough.{CutsThrough}
use Rattle.jcommand.specs.declared.parsed.Extraction.{Extraction}
use Rattle.jcommand.specs.declared.parsed.FolderListing.{FolderListing}
use Rattle.jcommand.specs.declared.parsed.Image.{Image}
use Rattle.jcommand.specs.declared.parsed.Mapping.{Mapping}
use Rattle.jcommand.specs.declared.parsed.InodeContent.{InodeContent}
use Rattle.jcommand.specs.declared.parsed.NodeHistory.{NodeHistory}
use Rattle.jcommand.specs.declared.parsed.Options.{Options}
use Rattle.jcommand.specs.declared.parsed.Owner.{Owner}
use Rattle.jcommand.specs.declared.parsed.Packing.{Packing}
use Rattle.jcommand.specs.declared.parsed.Placing.{Placing}
use Rattle.jcommand.specs.declared.parsed.Target.{Target}
use Rattle.jcommand.specs.declared.parsed.UpdateCuts.{UpdateCuts}
use Rattle.jcommand.specs.declared.parsed.Updating.{Updating}
use Rattle.jcommand.specs.declared.parsed.Verification.{Verification}

-- ---- values

-- a number below 2 ^ 32 in decimal digits, of which n stands for those before
abbrev pub decimal_from : ℕ → Text → Option ℕ
decimal_from n [] = Some n
decimal_from n (b ∷ bs) = if is_ascii_digit b
    && nat_lt (10 * n + (b - 48)) (2 ^ 32) then decimal_from (10 * n + (b - 48)) bs else None

abbrev pub decimal_number : Text → Option ℕ
decimal_number [] = None
decimal_number (b ∷ bs) = decimal_from 0 (b ∷ bs)

abbrev pub endian_of : Text → Option Endian
endian_of text = if bytes_eq text (codes "little") then Some Little else
    (if bytes_eq text (codes "big") then Some Big else None)

abbrev pub page_of : Text → Option Page
page_of text =
    if bytes_eq text (codes "4096") then Some P4096
    else if bytes_eq text (codes "8192") then Some P8192
    else if bytes_eq text (codes "16384") then Some P16384
    else None

-- the number of a user or a group, which has 16 bits
abbrev pub owner_number : Text → Option ℕ
owner_number text =
    option_and_then (λ n. if nat_lt 65535 n then None else Some n) (decimal_number text)

abbrev pub owner_of : List Text → Option Owner
owner_of (uid ∷ gid ∷ []) = option_and_then (λ u. option_and_then
    (λ g. Some (record { uid = u; gid = g })) (owner_number gid)) (owner_number uid)
owner_of _ = None

-- what is read of what may be left out, where it is given
abbrev pub if_given : {A B : Type 0} → Option A → (A → Option B) → Option (Option B)
if_given None read = Some None
if_given (Some value) read = option_and_then (λ x. Some (Some x)) (read value)

abbrev pub number_option : Text → List Row → Option ℕ
number_option id rows = option_and_then decimal_number (first_of id rows)

-- ---- a command, without where its texts lie

abbrev pub image_view : Image (Bor Text) → Image Text
image_view i = record { options = i.options; image = i.image.now }

abbrev pub comparison_view : Comparison (Bor Text) → Comparison Text
comparison_view d = record {
  options = d.options;
  decompress = d.decompress;
  times = d.times;
  first = d.first.now;
  second = d.second.now;
}

abbrev pub target_view : Target (Bor Text) → Target Text
target_view t = record {
  options = t.options;
  blocks = t.blocks;
  page = t.page;
  weak = t.weak;
  placing = t.placing;
  output = t.output.now;
}

abbrev pub building_view : Building (Bor Text) → Building Text
building_view b = record { target = target_view b.target; listing = b.listing.now }

abbrev pub appending_view : Appending (Bor Text) → Appending Text
appending_view a = record {
  target = target_view a.target;
  decompress = a.decompress;
  force = a.force;
  image = a.image.now;
  listing = a.listing.now;
}

abbrev pub cuts_through_view : CutsThrough (Bor Text) → CutsThrough Text
cuts_through_view c = record {
  options = c.options;
  blocks = c.blocks;
  page = c.page;
  compress = c.compress;
  on = option_map (λ name. name.now) c.on;
  listing = c.listing.now;
}

abbrev pub update_cuts_view : UpdateCuts (Bor Text) → UpdateCuts Text
update_cuts_view c = record {
  options = c.options;
  blocks = c.blocks;
  page = c.page;
  plain = c.plain;
  tail = c.tail;
  image = c.image.now;
  listing = c.listing.now;
}

abbrev pub conversion_view : Conversion (Bor Text) → Conversion Text
conversion_view c = record {
  options = c.options;
  force = c.force;
  placing = c.placing;
  image = c.image.now;
  output = c.output.now;
}

abbrev pub compaction_view : Compaction (Bor Text) → Compaction Text
compaction_view c = record { conversion = conversion_view c.conversion; blocks = c.blocks }

abbrev pub updating_view : Updating (Bor Text) → Updating Text
updating_view u = record {
  options = u.options;
  blocks = u.blocks;
  page = u.page;
  plain = u.plain;
  tail = u.tail;
  placing = u.placing;
  image = u.image.now;
  listing = u.listing.now;
  output = u.output.now;
}

abbrev pub mapping_view : Mapping (Bor Text) → Mapping Text
mapping_view m = record { options = m.options; svg = m.svg; image = m.image.now }

abbrev pub inode_view : InodeContent (Bor Text) → InodeContent Text
inode_view c = record {
  options = c.options;
  image = c.image.now;
  ino = c.ino;
  version = c.version;
}

abbrev pub history_view : NodeHistory (Bor Text) → NodeHistory Text
history_view h = record {
  options = h.options;
  since = h.since;
  until = h.until;
  image = h.image.now;
  path = option_map (λ p. p.now) h.path;
}

abbrev pub extraction_view : Extraction (Bor Text) → Extraction Text
extraction_view x = record {
  options = x.options;
  decompress = x.decompress;
  deleted = x.deleted;
  owners = x.owners;
  quiet = x.quiet;
  image = x.image.now;
  folder = x.folder.now;
  path = option_map (λ p. p.now) x.path;
}

abbrev pub folder_view : FolderListing (Bor Text) → FolderListing Text
folder_view l =
    record { owner = l.owner; time = l.time; quiet = l.quiet; folder = l.folder.now }

abbrev pub packing_view : Packing (Bor Text) → Packing Text
packing_view p = record {
  options = p.options;
  blocks = p.blocks;
  page = p.page;
  weak = p.weak;
  placing = p.placing;
  owner = p.owner;
  time = p.time;
  quiet = p.quiet;
  folder = p.folder.now;
  output = p.output.now;
}

abbrev pub verification_view : Verification (Bor Text) → Verification Text
verification_view v = record {
  options = v.options;
  times = v.times;
  owner = v.owner;
  time = v.time;
  quiet = v.quiet;
  image = v.image.now;
  folder = v.folder.now;
}

abbrev pub command_view : Command (Bor Text) → Command Text
command_view (command.Scan i) = command.Scan (image_view i)
command_view (command.Check c) =
    command.Check (record { options = c.options; shape = c.shape; image = c.image.now })
command_view (command.CheckThrough c) =
    command.CheckThrough (record { options = c.options; shape = c.shape; image = c.image.now })
command_view (command.List l) = command.List (record {
  options = l.options;
  decompress = l.decompress;
  image = l.image.now;
  path = option_map (λ p. p.now) l.path;
})
command_view (command.Cat c) = command.Cat (record {
  options = c.options;
  decompress = c.decompress;
  strict = c.strict;
  image = c.image.now;
  path = c.path.now;
})
command_view (command.CatInode c) = command.CatInode (inode_view c)
command_view (command.Info image) = command.Info image.now
command_view (command.Diff d) = command.Diff (comparison_view d)
command_view (command.Damage x) = command.Damage
    (record { options = x.options; decompress = x.decompress; image = x.image.now })
command_view (command.Map m) = command.Map (mapping_view m)
command_view (command.History h) = command.History (history_view h)
command_view (command.Build b) = command.Build (building_view b)
command_view (command.BuildCompressed b) = command.BuildCompressed (building_view b)
command_view (command.Append a) = command.Append (appending_view a)
command_view (command.Update u) = command.Update (updating_view u)
command_view (command.Cuts c) = command.Cuts (record {
  options = c.options;
  blocks = c.blocks;
  page = c.page;
  on = option_map (λ name. name.now) c.on;
  listing = c.listing.now;
})
command_view (command.CutsThrough c) = command.CutsThrough (cuts_through_view c)
command_view (command.CutsUpdate c) = command.CutsUpdate (update_cuts_view c)
command_view (command.Decompress c) = command.Decompress (conversion_view c)
command_view (command.Apart c) = command.Apart (conversion_view c)
command_view (command.Compress c) = command.Compress (conversion_view c)
command_view (command.Compact c) = command.Compact (compaction_view c)
command_view (command.CompactApart c) = command.CompactApart (compaction_view c)
command_view (command.Extract x) = command.Extract (extraction_view x)
command_view (command.Listing l) = command.Listing (folder_view l)
command_view (command.Pack p) = command.Pack (packing_view p)
command_view (command.PackCompressed p) = command.PackCompressed (packing_view p)
command_view (command.Verify v) = command.Verify (verification_view v)

-- The byte order that a command is given, if it is given one. `info` finds out its own, and
-- `listing` reads no image.
abbrev pub order_asked : {T : Type 0} → Command T → Endian
order_asked (command.Scan i) = i.options.endian
order_asked (command.Check c) = c.options.endian
order_asked (command.CheckThrough c) = c.options.endian
order_asked (command.List l) = l.options.endian
order_asked (command.Cat c) = c.options.endian
order_asked (command.CatInode c) = c.options.endian
order_asked (command.Info image) = Little
order_asked (command.Diff d) = d.options.endian
order_asked (command.Damage x) = x.options.endian
order_asked (command.Map m) = m.options.endian
order_asked (command.History h) = h.options.endian
order_asked (command.Build b) = b.target.options.endian
order_asked (command.BuildCompressed b) = b.target.options.endian
order_asked (command.Append a) = a.target.options.endian
order_asked (command.Update u) = u.options.endian
order_asked (command.Cuts c) = c.options.endian
order_asked (command.CutsThrough c) = c.options.endian
order_asked (command.CutsUpdate c) = c.options.endian
order_asked (command.Decompress c) = c.options.endian
order_asked (command.Apart c) = c.options.endian
order_asked (command.Compress c) = c.options.endian
order_asked (command.Compact c) = c.conversion.options.endian
order_asked (command.CompactApart c) = c.conversion.options.endian
order_asked (command.Extract x) = x.options.endian
order_asked (command.Listing l) = Little
order_asked (command.Pack p) = p.options.endian
order_asked (command.PackCompressed p) = p.options.endian
order_asked (command.Verify v) = v.options.endian

-- ---- by the rows of the subcommand's matches

abbrev pub options_of : ℕ → Endian → Options
options_of block endian = record { geometry = record { block = block }; endian = endian }

-- a flag that is given
abbrev pub is_true : Option Text → Bool
is_true (Some text) = bytes_eq text (codes "true")
is_true None = false

abbrev pub is_given : Text → List Row → Bool
is_given id rows = is_true (first_of id rows)

-- little if no order is named
abbrev pub order_named : Option Text → Option Endian
order_named None = Some Little
order_named (Some text) = endian_of text

-- by its name, or by a flag for little or one for big, of which two say nothing
abbrev pub order_from : Option Text → Bool → Bool → Option Endian
order_from named little big =
    if little then (if big || is_some named then None else Some Little)
    else if big then (if is_some named then None else Some Big)
    else order_named named

abbrev pub order_in : List Row → Option Endian
order_in rows = order_from (first_of (codes "endian") rows) (is_given (codes "little-endian") rows)
    (is_given (codes "big-endian") rows)

-- 65536 if no size is given
abbrev pub size_or_default : Option Text → Option ℕ
size_or_default None = Some 65536
size_or_default (Some text) = size_number text

abbrev pub block_size_in : List Row → Option ℕ
block_size_in rows = size_or_default (first_of (codes "block") rows)

abbrev pub options_in : List Row → Option Options
options_in rows = block_size_in rows >>= λ block.
    order_in rows >>= λ endian.
    Some (options_of block endian)

-- it is filled up to the end of the flash, and takes its name only when all is written, where each
-- of these is asked for
abbrev pub placing_in : List Row → Placing
placing_in rows =
    record { pad = is_given (codes "pad") rows; atomic = is_given (codes "atomic") rows }

-- the one of two that is given
abbrev pub one_of_both : Option Text → Option Text → Option Text
one_of_both None named = named
one_of_both (Some placed) None = Some placed
one_of_both (Some placed) (Some named) = None

-- the file that is written, which is named in its place, or by `-o`
abbrev pub output_in : List Row → Option Text
output_in rows = one_of_both (first_of (codes "OUT") rows) (first_of (codes "output") rows)

-- the options and the image that a subcommand reads
abbrev pub image_in : List Row → Option (Image Text)
image_in rows = options_in rows >>= λ options. first_of (codes "IMAGE") rows >>= λ image.
    Some (record { options = options; image = image })

-- what is mounted, and whether its tree has its shape too, where that is asked for
abbrev pub check_of : List Row → Image Text → Check Text
check_of rows i =
    record { options = i.options; shape = is_given (codes "shape") rows; image = i.image }

-- `--shape` and `--decompress` say nothing beside `--scan`, which mounts nothing
abbrev pub check_in : List Row → Option (Command Text)
check_in rows = image_in rows >>= λ i. Some (if is_given (codes "scan") rows then command.Scan i
    else if is_given (codes "decompress") rows then command.CheckThrough (check_of rows i)
    else command.Check (check_of rows i))

abbrev pub ls_in : List Row → Option (Command Text)
ls_in rows = image_in rows >>= λ i. Some (command.List (record {
  options = i.options;
  decompress = is_given (codes "decompress") rows;
  image = i.image;
  path = first_of (codes "PATH") rows;
}))

abbrev pub path_content_in : List Row → Option (Command Text)
path_content_in rows = image_in rows >>= λ i. first_of (codes "PATH") rows >>= λ path.
    Some (command.Cat (record {
      options = i.options;
      decompress = is_given (codes "decompress") rows;
      strict = is_given (codes "strict") rows;
      image = i.image;
      path = path;
    }))

-- without `--upto` all versions count
abbrev pub version_by : Option Text → Option ℕ
version_by None = Some 4294967295
version_by (Some text) = decimal_number text

abbrev pub inode_content_in : List Row → Option (Command Text)
inode_content_in rows = image_in rows >>= λ i. number_option (codes "ino") rows >>= λ ino.
    version_by (first_of (codes "upto") rows) >>= λ version.
    Some (command.CatInode (record {
      options = i.options;
      image = i.image;
      ino = ino;
      version = version;
    }))

-- the words are on a path alone, or on an inode alone
abbrev pub is_on_path : List Row → Bool
is_on_path rows = is_none (first_of (codes "ino") rows) && is_none (first_of (codes "upto") rows)

abbrev pub is_on_inode : List Row → Bool
is_on_inode rows = is_none (first_of (codes "PATH") rows)
    && (not (is_given (codes "decompress") rows) && not (is_given (codes "strict") rows))

abbrev pub cat_in : List Row → Option (Command Text)
cat_in rows = if is_on_path rows then path_content_in rows
    else if is_on_inode rows then inode_content_in rows
    else None

-- neither a block size nor a byte order is given
abbrev pub info_in : List Row → Option (Command Text)
info_in rows = first_of (codes "IMAGE") rows >>= λ image. Some (command.Info image)

abbrev pub diff_in : List Row → Option (Command Text)
diff_in rows = options_in rows >>= λ options. first_of (codes "A") rows >>= λ first.
    first_of (codes "B") rows >>= λ second.
    Some (command.Diff (record {
      options = options;
      decompress = is_given (codes "decompress") rows;
      times = is_given (codes "times") rows;
      first = first;
      second = second;
    }))

abbrev pub damage_in : List Row → Option (Command Text)
damage_in rows = image_in rows >>= λ i. Some (command.Damage (record {
  options = i.options;
  decompress = is_given (codes "decompress") rows;
  image = i.image;
}))

-- a picture, where that is asked for
abbrev pub map_in : List Row → Option (Command Text)
map_in rows = image_in rows >>= λ i. Some (command.Map
    (record { options = i.options; svg = is_given (codes "svg") rows; image = i.image }))

-- of the objects that a path ever named, and of the nodes since a time or until one, where these
-- are given
abbrev pub history_in : List Row → Option (Command Text)
history_in rows = image_in rows >>= λ i.
    if_given (first_of (codes "since") rows) decimal_number >>= λ since.
    if_given (first_of (codes "until") rows) decimal_number >>= λ until.
    Some (command.History (record {
      options = i.options;
      since = since;
      until = until;
      image = i.image;
      path = first_of (codes "PATH") rows;
    }))

-- the image that a subcommand writes
abbrev pub target_in : List Row → Option (Target Text)
target_in rows = options_in rows >>= λ options. number_option (codes "blocks") rows >>= λ blocks.
    (first_of (codes "page") rows >>= page_of) >>= λ page.
    output_in rows >>= λ output.
    Some (record {
      options = options;
      blocks = blocks;
      page = page;
      weak = is_given (codes "weak") rows;
      placing = placing_in rows;
      output = output;
    })

-- whether nodes are compressed that are written
abbrev pub is_compressed : List Row → Bool
is_compressed = is_given (codes "compress")

-- weak nodes are noted only where nodes are not compressed
abbrev pub build_by : Bool → Building Text → Option (Command Text)
build_by false b = Some (command.Build b)
build_by true b = if b.target.weak then None else Some (command.BuildCompressed b)

abbrev pub build_in : List Row → Option (Command Text)
build_in rows = target_in rows >>= λ target. first_of (codes "LISTING") rows >>= λ listing.
    build_by (is_compressed rows) (record { target = target; listing = listing })

-- whether an image with findings may be written over
abbrev pub is_forced : List Row → Bool
is_forced = is_given (codes "force")

abbrev pub append_in : List Row → Option (Command Text)
append_in rows = target_in rows >>= λ target. first_of (codes "IMAGE") rows >>= λ image.
    first_of (codes "LISTING") rows >>= λ listing.
    Some (command.Append (record {
      target = target;
      decompress = is_given (codes "decompress") rows;
      force = is_forced rows;
      image = image;
      listing = listing;
    }))

-- the number of blocks may be left out
abbrev pub update_in : List Row → Option (Command Text)
update_in rows = options_in rows >>= λ options.
    if_given (first_of (codes "blocks") rows) decimal_number >>= λ blocks.
    (first_of (codes "page") rows >>= page_of) >>= λ page.
    first_of (codes "IMAGE") rows >>= λ image. first_of (codes "LISTING") rows >>= λ listing.
    output_in rows >>= λ output.
    Some (command.Update (record {
      options = options;
      blocks = blocks;
      page = page;
      plain = is_given (codes "plain") rows;
      tail = is_given (codes "tail") rows;
      placing = placing_in rows;
      image = image;
      listing = listing;
      output = output;
    }))

-- through compression, where that is asked for or new nodes are compressed
abbrev pub cuts_by : List Row → Cuts Text → Command Text
cuts_by rows c = if is_compressed rows || is_given (codes "decompress") rows
    then command.CutsThrough (record {
      options = c.options;
      blocks = c.blocks;
      page = c.page;
      compress = is_compressed rows;
      on = c.on;
      listing = c.listing;
    })
    else command.Cuts c

-- the image that is gone on from may be left out
abbrev pub log_cuts_in : List Row → Option (Command Text)
log_cuts_in rows = options_in rows >>= λ options. number_option (codes "blocks") rows >>= λ blocks.
    (first_of (codes "page") rows >>= page_of) >>= λ page.
    first_of (codes "LISTING") rows >>= λ listing.
    Some (cuts_by rows (record {
      options = options;
      blocks = blocks;
      page = page;
      on = first_of (codes "on") rows;
      listing = listing;
    }))

-- of what `update` would write, where the number of blocks may be left out
abbrev pub update_cuts_in : List Row → Option (Command Text)
update_cuts_in rows = options_in rows >>= λ options.
    if_given (first_of (codes "blocks") rows) decimal_number >>= λ blocks.
    (first_of (codes "page") rows >>= page_of) >>= λ page.
    first_of (codes "on") rows >>= λ image. first_of (codes "LISTING") rows >>= λ listing.
    Some (command.CutsUpdate (record {
      options = options;
      blocks = blocks;
      page = page;
      plain = is_given (codes "plain") rows;
      tail = is_given (codes "tail") rows;
      image = image;
      listing = listing;
    }))

-- `update` decompresses and compresses without being asked, and only it has `--plain` and `--tail`
abbrev pub cuts_in : List Row → Option (Command Text)
cuts_in rows = if is_given (codes "update") rows
    then (if is_compressed rows || is_given (codes "decompress") rows then None
    else update_cuts_in rows)
    else (if is_given (codes "plain") rows || is_given (codes "tail") rows then None
    else log_cuts_in rows)

-- an image, and the one that is made of it
abbrev pub conversion_in : List Row → Option (Conversion Text)
conversion_in rows = image_in rows >>= λ i. output_in rows >>= λ output.
    Some (record {
      options = i.options;
      force = is_forced rows;
      placing = placing_in rows;
      image = i.image;
      output = output;
    })

-- whether nodes that clash are left out; `higher` is the only rule
abbrev pub is_apart : Option Text → Option Bool
is_apart None = Some false
is_apart (Some rule) = if bytes_eq rule (codes "higher") then Some true else None

abbrev pub decompress_in : List Row → Option (Command Text)
decompress_in rows = conversion_in rows >>= λ c.
    is_apart (first_of (codes "clashes") rows) >>= λ apart.
    Some (if apart then command.Apart c else command.Decompress c)

abbrev pub compact_by : Bool → Compaction Text → Command Text
compact_by false c = command.Compact c
compact_by true c = command.CompactApart c

-- the number of blocks may be left out
abbrev pub compact_in : List Row → Option (Command Text)
compact_in rows = conversion_in rows >>= λ c.
    if_given (first_of (codes "blocks") rows) decimal_number >>= λ blocks.
    is_apart (first_of (codes "clashes") rows) >>= λ apart.
    Some (compact_by apart (record { conversion = c; blocks = blocks }))

-- the files that no path leads to are asked for
abbrev pub is_deleted_asked : List Row → Bool
is_deleted_asked = is_given (codes "deleted")

-- beside which a path says nothing
abbrev pub is_path_beside_deleted : List Row → Bool
is_path_beside_deleted rows = is_deleted_asked rows && is_some (first_of (codes "PATH") rows)

abbrev pub tree_in : List Row → Option (Command Text)
tree_in rows = image_in rows >>= λ i. first_of (codes "DIR") rows >>= λ folder.
    Some (command.Extract (record {
      options = i.options;
      decompress = is_given (codes "decompress") rows;
      deleted = is_deleted_asked rows;
      owners = is_given (codes "owners") rows;
      quiet = is_given (codes "quiet") rows;
      image = i.image;
      folder = folder;
      path = first_of (codes "PATH") rows;
    }))

abbrev pub extract_in : List Row → Option (Command Text)
extract_in rows = if is_path_beside_deleted rows then None else tree_in rows

-- a folder, and the owner and the time of all that it holds, where they are given
abbrev pub folder_in : List Row → Option (FolderListing Text)
folder_in rows = if_given (all_of (codes "owner") rows) owner_of >>= λ owner.
    if_given (first_of (codes "time") rows) decimal_number >>= λ time.
    first_of (codes "DIR") rows >>= λ folder.
    Some (record {
      owner = owner;
      time = time;
      quiet = is_given (codes "quiet") rows;
      folder = folder;
    })

-- as `build`
abbrev pub pack_by : Bool → Packing Text → Option (Command Text)
pack_by false p = Some (command.Pack p)
pack_by true p = if p.weak then None else Some (command.PackCompressed p)

-- the number of blocks may be left out
abbrev pub pack_in : List Row → Option (Command Text)
pack_in rows = folder_in rows >>= λ l. options_in rows >>= λ options.
    if_given (first_of (codes "blocks") rows) decimal_number >>= λ blocks.
    (first_of (codes "page") rows >>= page_of) >>= λ page.
    output_in rows >>= λ output.
    pack_by (is_compressed rows) (record {
      options = options;
      blocks = blocks;
      page = page;
      weak = is_given (codes "weak") rows;
      placing = placing_in rows;
      owner = l.owner;
      time = l.time;
      quiet = l.quiet;
      folder = l.folder;
      output = output;
    })

abbrev pub verify_in : List Row → Option (Command Text)
verify_in rows = folder_in rows >>= λ l. image_in rows >>= λ i.
    Some (command.Verify (record {
      options = i.options;
      times = is_given (codes "times") rows;
      owner = l.owner;
      time = l.time;
      quiet = l.quiet;
      image = i.image;
      folder = l.folder;
    }))

-- what the subcommand of this name asks for, with these rows; None where it is no subcommand or a
-- value can't be read
unfoldable pub parsed : Text → List Row → Option (Command Text)
parsed name rows =
    if bytes_eq name (codes "check") then check_in rows
    else if bytes_eq name (codes "ls") then ls_in rows
    else if bytes_eq name (codes "cat") then cat_in rows
    else if bytes_eq name (codes "build") then build_in rows
    else if bytes_eq name (codes "append") then append_in rows
    else if bytes_eq name (codes "update") then update_in rows
    else if bytes_eq name (codes "decompress") then decompress_in rows
    else if bytes_eq name (codes "extract") then extract_in rows
    else if bytes_eq name (codes "listing") then option_map command.Listing (folder_in rows)
    else if bytes_eq name (codes "info") then info_in rows
    else if bytes_eq name (codes "cuts") then cuts_in rows
    else if bytes_eq name (codes "compress") then option_map command.Compress (conversion_in rows)
    else if bytes_eq name (codes "compact") then compact_in rows
    else if bytes_eq name (codes "diff") then diff_in rows
    else if bytes_eq name (codes "damage") then damage_in rows
    else if bytes_eq name (codes "map") then map_in rows
    else if bytes_eq name (codes "history") then history_in rows
    else if bytes_eq name (codes "pack") then pack_in rows
    else if bytes_eq name (codes "verify") then verify_in rows
    else None

abbrev pub parsed_by : Option (Text × List Row) → Option (Command Text)
parsed_by (Some p) = parsed p.0 p.1
parsed_by None = None

-- the command that the words ask for, by clap's matches of them
unfoldable pub parsed_from : List Text → Option (Command Text)
parsed_from args = parsed_by (subcommand_of program args)

-- ---- words that ask for nothing

-- clap takes the words
unfoldable pub are_words_taken : List Text → Bool
are_words_taken args = takes program args

-- clap has nothing against the words, and does not answer them by help
unfoldable pub IsFaultless : List Text → Type 0
IsFaultless args = fault_of program args ≡ []

-- clap answers by what it knows of the program
abbrev pub IsHelpKind : ErrorKind → Type 0
IsHelpKind kind = (kind ≡ DisplayHelp) ⊎ (kind ≡ DisplayVersion)

-- clap answers the words by help, or by the version
unfoldable pub IsHelpRequested : List Text → Type 0
IsHelpRequested args = (kind : ErrorKind) × IsHelpKind kind × IsAmong kind (fault_of program args)

-- clap refuses the words for another reason
unfoldable pub IsRefusedByClap : List Text → Type 0
IsRefusedByClap args = (kind : ErrorKind) × (kind ≢ DisplayHelp) × (kind ≢ DisplayVersion)
    × IsAmong kind (fault_of program args)
