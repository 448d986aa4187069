-- What the program does: its words ask for something, and the host does it. Each command's act is
-- in the crate that has the command.
use Rattle.std.specs.Prelude.{◌≡◌, ◌⊎◌, ℕ, Bool, true, false, if◌then◌else◌, List, Option, Some, None, Result, Ok, Err, string_bytes}
use Rattle.clap.specs.Words.{Text}
use Rattle.jcommand.specs.Parsed.{IsFaultless, IsHelpRequested, IsRefusedByClap}
use Rattle.jcommand.specs.Requests.{IsUnreadable, file_made, image_read, images_read, request_from, with_options, writes_image}
use Rattle.jcommand.specs.declared.command_line.RequestFault.{RequestFault}
use Rattle.jcommand.specs.declared.command_line.RequestFault.TheVariants as refused
use Rattle.jcommand.specs.declared.outcome.Outcome.{Outcome}
use Rattle.jcommand.specs.declared.outcome.Outcome.TheVariants as outcome
use Rattle.jcommand.specs.declared.parsed.Command.{Command}
use Rattle.jcommand.specs.declared.parsed.Command.TheVariants as command
use Rattle.jcommand.specs.declared.parsed.Conversion.{Conversion}
use Rattle.jcommand.specs.declared.request.Request.{Request}
use Rattle.jauto.specs.Leaving.{leaving_act}
use Rattle.jauto.specs.Looking.{auto_act}
use Rattle.jedge.specs.Acts.{Act, Then, Whole, answers, prints, says}
use Rattle.jedge.specs.Calls.{Event}
use Rattle.jedge.specs.Commands.{cat_act, check_act, damage_act, diff_act, info_act, list_act, reported}
use Rattle.jedge.specs.Streams.{prints_json, reads_region}
use Rattle.jedge.specs.Told.{Told}
use Rattle.jedge.specs.declared.fault.Fault.{Fault}
use Rattle.jedge.specs.declared.fault.Fault.TheVariants as fault
use Rattle.jjson.specs.declared.lines.Lines.{Lines}
use Rattle.jjson.specs.declared.lines.Lines.TheVariants as lines
use Rattle.jreport.specs.declared.faults.ProgramFault.TheVariants as program
use Rattle.jreport.specs.declared.image_fault.ImageFault.TheVariants as image
use Rattle.jspare.specs.declared.region.Region.{Region}
use Rattle.jinspects.specs.Inspecting.{cat_inode_act, check_through_act, history_act, map_act, period_asked}
use Rattle.jreads.specs.Cutting.{cuts_act}
use Rattle.jreads.specs.Scanning.{scan_act}
use Rattle.jmakes.specs.Commands.{append_act, build_act}
use Rattle.jmakes.specs.Keeping.{base_of}
use Rattle.jmakes.specs.Making.{compares_names}
use Rattle.jmakes.specs.Writing.{image_asked}
use Rattle.jremakes.specs.Asked.{AskedRemaking}
use Rattle.jremakes.specs.Commands.{apart_act, compact_act, compact_apart_act, compress_act, decompress_act}
use Rattle.jfolders.specs.Commands.{extract_act, listing_act}
use Rattle.jfolders.specs.Reading.{listing_settings}
use Rattle.jforetells.specs.Foretelling.{cuts_through_act, cuts_update_act}
use Rattle.jpacks.specs.Packing.{filling_packed, pack_act, pack_compressed_act}
use Rattle.jupdates.specs.Commands.{build_compressed_act, update_act}
use Rattle.jverifies.specs.Verifying.{verify_act}

-- ---- the act of each command, by what it is given

-- An image that is made of another one, of so many blocks where they are given. With `--atomic` its
-- file takes its name only when all is written, and with `--pad` it is filled up to the end of the
-- flash, or else of its last block.
abbrev pub remaking_asked : Option ℕ → Conversion Text → AskedRemaking
remaking_asked blocks c = record {
  options = c.options;
  force = c.force;
  image = c.image;
  output = record {
    name = c.output;
    atomic = c.placing.atomic;
    filling = filling_packed c.placing.pad c.options.geometry.block blocks;
  };
}

abbrev pub command_act : Command Text → Act Told
command_act (command.Scan i) = scan_act i.options i.image
command_act (command.Check c) = check_act c.options c.shape c.image
command_act (command.CheckThrough c) = check_through_act c.options c.shape c.image
command_act (command.List l) = list_act l.options l.decompress l.image l.path
command_act (command.Cat c) = cat_act c.options c.decompress c.strict c.image c.path
command_act (command.CatInode c) =
    cat_inode_act c.options (record { ino = c.ino; version = c.version }) c.image
command_act (command.Info image) = info_act image
command_act (command.Diff d) = diff_act d
command_act (command.Damage x) = damage_act x.options x.decompress x.image
command_act (command.Map m) = map_act m.options m.svg m.image
command_act (command.History h) = history_act h.options (period_asked h) h.image h.path
command_act (command.Build b) =
    build_act (image_asked b.target.options.endian b.target) b.listing
command_act (command.BuildCompressed b) =
    build_compressed_act b.target.options.endian b
command_act (command.Append a) =
    append_act (image_asked a.target.options.endian a.target) (base_of a) a.listing
command_act (command.Update u) = update_act u.options.endian u
command_act (command.Cuts c) = cuts_act c.options c.blocks c.page c.on c.listing
command_act (command.CutsThrough c) = cuts_through_act c.options.endian c
command_act (command.CutsUpdate c) = cuts_update_act c.options.endian c
command_act (command.Decompress c) = decompress_act (remaking_asked None c)
command_act (command.Apart c) = apart_act (remaking_asked None c)
command_act (command.Compress c) = compress_act (remaking_asked None c)
command_act (command.Compact c) =
    compact_act (remaking_asked c.blocks c.conversion) c.blocks
command_act (command.CompactApart c) =
    compact_apart_act (remaking_asked c.blocks c.conversion) c.blocks
command_act (command.Extract x) = extract_act x
command_act (command.Listing l) = listing_act (listing_settings l.owner l.time) l.quiet l.folder
command_act (command.Pack p) = pack_act p.options.endian p
command_act (command.PackCompressed p) = pack_compressed_act p.options.endian p
command_act (command.Verify v) = verify_act v.options.endian v

-- ---- with `--auto`

-- The image is read, what is taken of it is said, and the command does what it does with these
-- options and `--decompress`, where it has that word. A command that reads no image has no
-- `--auto`.
abbrev pub found_act : Option Text → Command Text → Act Told
found_act None asked = command_act asked
found_act (Some image) asked = auto_act (writes_image asked) image
    (λ options. command_act (with_options options asked))

-- ---- a part of a file

-- the file that is read in part would be replaced by what is made
abbrev pub MayReplace : Bool → Result Unit Fault → Type 0
MayReplace over (Ok _) = over ≡ false
MayReplace over (Err f) = (over ≡ true) × (f ≡ fault.Refused (program.Image image.Part))

-- the host is asked whether both are one file
abbrev pub keeps_named : Text → Text → Act Unit
keeps_named read made = Then (compares_names read made) (λ over. answers (MayReplace over))

-- A file of which only a part is read is not replaced by the one that is made.
abbrev pub keeps_file : Option Text → Option Text → Act Unit
keeps_file (Some read) (Some made) = keeps_named read made
keeps_file (Some read) None = answers (λ result. result ≡ Ok (tt {0}))
keeps_file None made = answers (λ result. result ≡ Ok (tt {0}))

-- With `--oob`, `--offset` or `--length` a part of each file that the command reads is the image:
-- of that alone it is read. With `--auto` and none of them the pages of a dump, if the image shows
-- that it is one and none is written.
abbrev pub region_act : Option Region → Option Text → Command Text → Act Unit
region_act (Some region) looked asked =
    Then (keeps_file (image_read asked) (file_made asked)) (λ _.
    reads_region region (images_read asked))
region_act None (Some image) asked = leaving_act image
region_act None None asked = answers (λ result. result ≡ Ok (tt {0}))

-- ---- lines as JSON

-- what the lines are that a command prints, if they have a form in JSON
abbrev pub printed_lines : Command Text → Option Lines
printed_lines (command.Scan i) = Some lines.Report
printed_lines (command.Check c) = Some lines.Report
printed_lines (command.CheckThrough c) = Some lines.Report
printed_lines (command.List l) = Some lines.Tree
printed_lines (command.Cat c) = None
printed_lines (command.CatInode c) = None
printed_lines (command.Info image) = Some lines.Parameters
printed_lines (command.Diff d) = Some lines.Differences
printed_lines (command.Damage x) = Some lines.Damage
printed_lines (command.Map m) = Some lines.Map
printed_lines (command.History h) = Some lines.History
printed_lines (command.Build b) = None
printed_lines (command.BuildCompressed b) = None
printed_lines (command.Append a) = None
printed_lines (command.Update u) = None
printed_lines (command.Cuts c) = Some lines.Cuts
printed_lines (command.CutsThrough c) = Some lines.Cuts
printed_lines (command.CutsUpdate c) = Some lines.Cuts
printed_lines (command.Decompress c) = None
printed_lines (command.Apart c) = None
printed_lines (command.Compress c) = None
printed_lines (command.Compact c) = None
printed_lines (command.CompactApart c) = None
printed_lines (command.Extract x) = None
printed_lines (command.Listing l) = None
printed_lines (command.Pack p) = None
printed_lines (command.PackCompressed p) = None
printed_lines (command.Verify v) = Some lines.Differences

abbrev pub lines_asked : Request Text → Option Lines
lines_asked request = if request.json then printed_lines request.command else None

-- with `--json` they go out in that form
abbrev pub json_act : Option Lines → Act Unit
json_act None = answers (λ result. result ≡ Ok (tt {0}))
json_act (Some lines) = prints_json lines

-- ---- what is asked for

-- the image that options are found in, with `--auto`
abbrev pub image_looked : Request Text → Option Text
image_looked request = if request.auto then image_read request.command else None

-- the image whose spare bytes are looked for, unless one is written, which may be the same file
abbrev pub image_left : Request Text → Option Text
image_left request = if writes_image request.command then None else image_looked request

-- a part of its images' files is read, if that is asked for, and the command does what it does
abbrev pub read_act : Request Text → Act Told
read_act request =
    Then (region_act request.region (image_left request) request.command) (λ _.
    found_act (image_looked request) request.command)

abbrev pub request_act : Request Text → Act Told
request_act request = Then (json_act (lines_asked request)) (λ _. read_act request)

-- ---- the words

-- nothing is found, and nothing noted
abbrev pub nothing_told : Told
nothing_told = record { counted = 0; noted = None }

-- standard error is told what is wrong with the words
abbrev pub refuses : Text → Act Outcome
refuses text = Then (says (Some text)) (λ _. answers (λ result. result ≡ Ok outcome.Usage))

-- Of words that ask for no command: a text on the program, which answers them, is printed; or
-- standard error is told what is wrong, or that memory ran out.
abbrev pub refused_act : RequestFault → Act Outcome
refused_act (refused.Help text) = reported (prints (Whole (string_bytes text) nothing_told))
refused_act (refused.Usage text) = refuses (string_bytes text)
refused_act refused.OutOfMemory = reported (answers (λ result. result ≡ Err fault.OutOfMemory))

-- what is asked for is done, and its answer told
abbrev pub asked_act : Result (Request Text) RequestFault → Act Outcome
asked_act (Ok asked) = reported (request_act asked)
asked_act (Err why) = refused_act why

-- The words ask for this request, which is that of clap's matches; or for none. They are answered
-- by a text on the program only if clap does so, and are wrong only if clap refuses them, or a
-- value can't be read.
abbrev pub AsksFor : List Text → Result (Request Text) RequestFault → Type 0
AsksFor words (Ok asked) = (request_from words ≡ Some asked) × IsFaultless words
AsksFor words (Err (refused.Help text)) = IsHelpRequested words
AsksFor words (Err (refused.Usage text)) = IsRefusedByClap words ⊎ IsUnreadable words
AsksFor words (Err refused.OutOfMemory) = Unit {0}

-- rule: What is printed: What a run of the program does.
--   definitions: jffs2_image.Running.run_act, jffs2_image.Running.AsksFor,
--   jffs2_image.Running.asked_act, jffs2_image.Running.request_act,
--   jffs2_image.Running.region_act,
--   jffs2_image.Running.json_act,
--   jffs2_image.Running.command_act
--   code: jffs2_image::program::run, jffs2_image::commands::run_command
-- The words ask for something, and the host does it.
pub record run_act (words : List Text) (events : List Event) (result : Result Outcome Fault)
    : Type 0 where
  pub asked : Result (Request Text) RequestFault
  pub asks : AsksFor words asked
  pub does : asked_act asked events result
