-- What a command line asks for: a command, whether its byte order, its block size and whether it
-- decompresses are found in the image that it reads, which part of a file that image is, and
-- whether lines are printed as JSON.
use Rattle.std.specs.Prelude.{◌≡◌, ◌&&◌, ◌||◌, not, Bool, true, false, List, [], ◌∷◌, Option, Some, None, if◌then◌else◌, codes, is_none, is_some, option_map}
use Rattle.std.specs.Borrow.{Bor}
use Rattle.std.specs.Str.{bytes_eq}
use Rattle.clap.specs.Words.{Row, Text, fault_of, first_of, subcommand_of}
use Rattle.jline.specs.Read.{◌>>=◌}
use Rattle.jspare.specs.declared.region.Region.{Region}
use Rattle.jcommand.specs.Commands.{program}
use Rattle.jcommand.specs.Parsed.{command_view, is_given, parsed}
use Rattle.jcommand.specs.Regions.{region_by}
use Rattle.jcommand.specs.declared.parsed.Command.{Command}
use Rattle.jcommand.specs.declared.parsed.Command.TheVariants as command
use Rattle.jcommand.specs.declared.parsed.Options.{Options}
use Rattle.jcommand.specs.declared.request.Request.{Request}

abbrev pub request_view : Request (Bor Text) → Request Text
request_view r = record {
  auto = r.auto;
  region = r.region;
  json = r.json;
  command = command_view r.command;
}

abbrev pub as_list : {T : Type 0} → Option T → List T
as_list None = []
as_list (Some x) = x ∷ []

-- ---- of a command

-- the image that options are found in: the one that it reads, and of two the first
abbrev pub image_read : {T : Type 0} → Command T → Option T
image_read (command.Scan i) = Some i.image
image_read (command.Check c) = Some c.image
image_read (command.CheckThrough c) = Some c.image
image_read (command.List l) = Some l.image
image_read (command.Cat c) = Some c.image
image_read (command.CatInode c) = Some c.image
image_read (command.Info image) = None
image_read (command.Diff d) = Some d.first
image_read (command.Damage x) = Some x.image
image_read (command.Map m) = Some m.image
image_read (command.History h) = Some h.image
image_read (command.Build b) = None
image_read (command.BuildCompressed b) = None
image_read (command.Append a) = Some a.image
image_read (command.Update u) = Some u.image
image_read (command.Cuts c) = c.on
image_read (command.CutsThrough c) = c.on
image_read (command.CutsUpdate c) = Some c.image
image_read (command.Decompress c) = Some c.image
image_read (command.Apart c) = Some c.image
image_read (command.Compress c) = Some c.image
image_read (command.Compact c) = Some c.conversion.image
image_read (command.CompactApart c) = Some c.conversion.image
image_read (command.Extract x) = Some x.image
image_read (command.Listing l) = None
image_read (command.Pack p) = None
image_read (command.PackCompressed p) = None
image_read (command.Verify v) = Some v.image

-- all images that it reads
abbrev pub images_read : {T : Type 0} → Command T → List T
images_read (command.Info image) = image ∷ []
images_read (command.Diff d) = d.first ∷ d.second ∷ []
images_read asked = as_list (image_read asked)

abbrev pub reads_image : {T : Type 0} → Command T → Bool
reads_image (command.Info image) = true
reads_image asked = is_some (image_read asked)

-- it writes an image, or foretells how one is written
abbrev pub writes_image : {T : Type 0} → Command T → Bool
writes_image (command.Scan i) = false
writes_image (command.Check c) = false
writes_image (command.CheckThrough c) = false
writes_image (command.List l) = false
writes_image (command.Cat c) = false
writes_image (command.CatInode c) = false
writes_image (command.Info image) = false
writes_image (command.Diff d) = false
writes_image (command.Damage x) = false
writes_image (command.Map m) = false
writes_image (command.History h) = false
writes_image (command.Build b) = true
writes_image (command.BuildCompressed b) = true
writes_image (command.Append a) = true
writes_image (command.Update u) = true
writes_image (command.Cuts c) = true
writes_image (command.CutsThrough c) = true
writes_image (command.CutsUpdate c) = true
writes_image (command.Decompress c) = true
writes_image (command.Apart c) = true
writes_image (command.Compress c) = true
writes_image (command.Compact c) = true
writes_image (command.CompactApart c) = true
writes_image (command.Extract x) = false
writes_image (command.Listing l) = false
writes_image (command.Pack p) = true
writes_image (command.PackCompressed p) = true
writes_image (command.Verify v) = false

-- the file that it makes
abbrev pub file_made : {T : Type 0} → Command T → Option T
file_made (command.Scan i) = None
file_made (command.Check c) = None
file_made (command.CheckThrough c) = None
file_made (command.List l) = None
file_made (command.Cat c) = None
file_made (command.CatInode c) = None
file_made (command.Info image) = None
file_made (command.Diff d) = None
file_made (command.Damage x) = None
file_made (command.Map m) = None
file_made (command.History h) = None
file_made (command.Build b) = Some b.target.output
file_made (command.BuildCompressed b) = Some b.target.output
file_made (command.Append a) = Some a.target.output
file_made (command.Update u) = Some u.output
file_made (command.Cuts c) = None
file_made (command.CutsThrough c) = None
file_made (command.CutsUpdate c) = None
file_made (command.Decompress c) = Some c.output
file_made (command.Apart c) = Some c.output
file_made (command.Compress c) = Some c.output
file_made (command.Compact c) = Some c.conversion.output
file_made (command.CompactApart c) = Some c.conversion.output
file_made (command.Extract x) = None
file_made (command.Listing l) = None
file_made (command.Pack p) = Some p.output
file_made (command.PackCompressed p) = Some p.output
file_made (command.Verify v) = None

-- The command with these options and with `--decompress`, where it has that word; one that reads no
-- image stays as it is.
abbrev pub with_options : {T : Type 0} → Options → Command T → Command T
with_options o (command.Scan i) = command.Scan (record i { options = o })
with_options o (command.Check c) = command.CheckThrough (record c { options = o })
with_options o (command.CheckThrough c) = command.CheckThrough (record c { options = o })
with_options o (command.List l) = command.List (record l { options = o; decompress = true })
with_options o (command.Cat c) = command.Cat (record c { options = o; decompress = true })
with_options o (command.CatInode c) = command.CatInode (record c { options = o })
with_options o (command.Info image) = command.Info image
with_options o (command.Diff d) = command.Diff (record d { options = o; decompress = true })
with_options o (command.Damage x) = command.Damage (record x { options = o; decompress = true })
with_options o (command.Map m) = command.Map (record m { options = o })
with_options o (command.History h) = command.History (record h { options = o })
with_options o (command.Build b) = command.Build b
with_options o (command.BuildCompressed b) = command.BuildCompressed b
with_options o (command.Append a) =
    command.Append (record a { target = record a.target { options = o }; decompress = true })
with_options o (command.Update u) = command.Update (record u { options = o })
with_options o (command.Cuts c) = command.CutsThrough (record {
  options = o;
  blocks = c.blocks;
  page = c.page;
  compress = false;
  on = c.on;
  listing = c.listing;
})
with_options o (command.CutsThrough c) = command.CutsThrough (record c { options = o })
with_options o (command.CutsUpdate c) = command.CutsUpdate (record c { options = o })
with_options o (command.Decompress c) = command.Decompress (record c { options = o })
with_options o (command.Apart c) = command.Apart (record c { options = o })
with_options o (command.Compress c) = command.Compress (record c { options = o })
with_options o (command.Compact c) =
    command.Compact (record c { conversion = record c.conversion { options = o } })
with_options o (command.CompactApart c) =
    command.CompactApart (record c { conversion = record c.conversion { options = o } })
with_options o (command.Extract x) = command.Extract (record x { options = o; decompress = true })
with_options o (command.Listing l) = command.Listing l
with_options o (command.Pack p) = command.Pack p
with_options o (command.PackCompressed p) = command.PackCompressed p
with_options o (command.Verify v) = command.Verify (record v { options = o })

-- ---- by the rows of the subcommand's matches

-- something is given that `--auto` finds, or implies
abbrev pub are_options_given : List Row → Bool
are_options_given rows = is_some (first_of (codes "block") rows)
    || is_some (first_of (codes "endian") rows)
    || is_given (codes "little-endian") rows || is_given (codes "big-endian") rows
    || is_given (codes "decompress") rows

abbrev pub is_auto : List Row → Bool
is_auto = is_given (codes "auto")

-- `-` is standard input, which can be read once
abbrev pub is_read_once : Option Text → Bool
is_read_once None = false
is_read_once (Some name) = bytes_eq name (codes "-")

-- nothing is found in an image where none is read, or where it can be read only once
abbrev pub has_no_second_read : Command Text → Bool
has_no_second_read asked = is_none (image_read asked) || is_read_once (image_read asked)

-- a part of a file is given as the image
abbrev pub is_region_given : List Row → Bool
is_region_given rows = is_some (first_of (codes "oob") rows)
    || is_some (first_of (codes "offset") rows) || is_some (first_of (codes "length") rows)

-- which one
abbrev pub region_told : List Row → Option Region
region_told rows = region_by (first_of (codes "oob") rows) (first_of (codes "offset") rows)
    (first_of (codes "length") rows)

-- the part of its images' files, where one is given; it says nothing where no image is read
abbrev pub region_in : List Row → Command Text → Option (Option Region)
region_in rows asked = if not (is_region_given rows) then Some None
    else if reads_image asked then option_map (λ region. Some region) (region_told rows)
    else None

-- lines are printed as JSON
abbrev pub is_json : List Row → Bool
is_json = is_given (codes "json")

-- `--auto` says nothing beside options, or where the image is not read twice; a picture is no JSON
abbrev pub is_contrary : List Row → Command Text → Bool
is_contrary rows asked = (is_auto rows && (are_options_given rows || has_no_second_read asked))
    || (is_json rows && is_given (codes "svg") rows)

abbrev pub request_of : List Row → Command Text → Option (Request Text)
request_of rows asked = if is_contrary rows asked then None else
    region_in rows asked >>= λ region. Some (record {
      auto = is_auto rows;
      region = region;
      json = is_json rows;
      command = asked;
    })

abbrev pub request_by : Option (Text × List Row) → Option (Request Text)
request_by (Some p) = parsed p.0 p.1 >>= request_of p.1
request_by None = None

abbrev pub auto_by : Option (Text × List Row) → Bool
auto_by (Some p) = is_auto p.1
auto_by None = false

abbrev pub json_by : Option (Text × List Row) → Bool
json_by (Some p) = is_json p.1
json_by None = false

abbrev pub has_region_by : Option (Text × List Row) → Bool
has_region_by (Some p) = is_region_given p.1
has_region_by None = false

abbrev pub region_from_rows : Option (Text × List Row) → Option Region
region_from_rows (Some p) = if is_region_given p.1 then region_told p.1 else None
region_from_rows None = None

-- ---- by the words

-- `--auto` is among them
unfoldable pub auto_from : List Text → Bool
auto_from args = auto_by (subcommand_of program args)

-- `--json` is among them
unfoldable pub json_from : List Text → Bool
json_from args = json_by (subcommand_of program args)

-- `--oob`, `--offset` or `--length` is among them
unfoldable pub has_region_from : List Text → Bool
has_region_from args = has_region_by (subcommand_of program args)

-- the part of a file that they give
unfoldable pub region_from : List Text → Option Region
region_from args = region_from_rows (subcommand_of program args)

-- rule: What is printed: What the words of a command line ask for.
--   definitions: jcommand.Parsed.parsed_from, jcommand.Requests.request_from
--   code: jcommand::command_line::asked
--   laws: jcommand::laws::known_requests, jcommand::laws::known_placings,
--   jcommand::laws::known_refusals, jcommand::laws::known_autos,
--   jcommand::laws::known_regions, jcommand::laws::requests_are_parsed
-- what the words ask for, by clap's matches of them
unfoldable pub request_from : List Text → Option (Request Text)
request_from args = request_by (subcommand_of program args)

-- clap has nothing against the words, but a value can't be read, or `--auto` says nothing there
unfoldable pub IsUnreadable : List Text → Type 0
IsUnreadable args = (fault_of program args ≡ []) × (request_from args ≡ None)
