-- The command line, as clap sees it: the program, its subcommands, and the words that each one
-- takes.
use Rattle.std.specs.Prelude.{◌≡◌, ℕ, true, false, [], ◌∷◌, Some, Result, IfOk, codes}
use Rattle.clap.specs.Words.{App, Rule, Text, app_of, new_app, new_rule, rule_of, with_rule, with_subcommand}
use Rattle.clap.specs.declared.builder.Arg.{Arg}
use Rattle.clap.specs.declared.builder.Command.{Command}
use Rattle.clap.specs.declared.builder.Command.TheViews.{out-Command as fields_of}
use Rattle.clap.specs.declared.builder.action.ArgAction.TheVariants.{SetTrue}

-- a word that has to be there
abbrev pub word : Text → Rule
word id = record (new_rule id) { required = true }

-- a word that may be left out
abbrev pub optional_word : Text → Rule
optional_word id = new_rule id

-- an option with a value, and the value that stands for it where it is not given
abbrev pub option_or : Text → Text → Rule
option_or id default =
    record (new_rule id) { long = Some id; value_names = 1; defaults = default ∷ [] }

-- an option with a value that has to be there
abbrev pub required_option : Text → Rule
required_option id = record (new_rule id) { long = Some id; value_names = 1; required = true }

-- an option with a value that may be left out, and one with two
abbrev pub option_of : Text → Rule
option_of id = record (new_rule id) { long = Some id; value_names = 1 }

abbrev pub option_of_two : Text → Rule
option_of_two id = record (new_rule id) { long = Some id; value_names = 2 }

-- an option that has a letter too
abbrev pub lettered_option : Text → ℕ → Rule
lettered_option id letter = record (option_of id) { short = Some letter }

-- a flag that may be left out
abbrev pub flag : Text → Rule
flag id = record (new_rule id) { long = Some id; action = Some SetTrue }

-- a flag that has a letter too
abbrev pub lettered_flag : Text → ℕ → Rule
lettered_flag id letter = record (flag id) { short = Some letter }

-- `--block N`, which may be spelled `--eraseblock N` and `-e N` too
abbrev pub block_option : Rule
block_option = record (option_of (codes "block"))
    { aliases = codes "eraseblock" ∷ []; short = Some 101 }

-- a subcommand with the options that each one has: `-l` and `-b` are for the byte order
abbrev pub plain_command : Text → App
plain_command name = with_rule
    (with_rule (with_rule (with_rule (new_app name) block_option) (option_of (codes "endian")))
    (lettered_flag (codes "little-endian") 108))
    (lettered_flag (codes "big-endian") 98)

-- a subcommand that reads a part of a file as the image, where that is given: without spare bytes,
-- from an offset on, and of a length; in the comments below REGION is
-- `[--oob P+S] [--offset A] [--length N]`
abbrev pub regional : App → App
regional app = with_rule
    (with_rule (with_rule app (option_of (codes "oob"))) (option_of (codes "offset")))
    (option_of (codes "length"))

-- the same, which finds these options in the image, where `--auto` or `-a` is given
abbrev pub automatic : App → App
automatic app = regional (with_rule app (lettered_flag (codes "auto") 97))

abbrev pub reader : Text → App
reader name = automatic (plain_command name)

-- one that prints its lines as JSON, where that is asked for
abbrev pub printing : App → App
printing app = with_rule app (flag (codes "json"))

abbrev pub printer : Text → App
printer name = printing (reader name)

-- a subcommand that decompresses the images that it reads, where that is asked for
abbrev pub decompressing : App → App
decompressing app = with_rule app (flag (codes "decompress"))

-- `check [--scan] [--shape] [--decompress] [--auto] [REGION] [--block N] [--endian ORDER] IMAGE`
abbrev pub check_app : App
check_app = with_rule
    (decompressing (with_rule (with_rule (printer (codes "check")) (flag (codes "scan")))
    (flag (codes "shape"))))
    (word (codes "IMAGE"))

-- `ls [--decompress] [--auto] [REGION] [--block N] [--endian ORDER] IMAGE [PATH]`
abbrev pub ls_app : App
ls_app = with_rule (with_rule (decompressing (printer (codes "ls"))) (word (codes "IMAGE")))
    (optional_word (codes "PATH"))

-- `cat [--decompress] [--strict] [--ino I [--upto V]] [--auto] [REGION] [--block N] [--endian
-- ORDER] IMAGE [PATH]`
abbrev pub cat_app : App
cat_app = with_rule
    (with_rule
    (with_rule
    (with_rule (with_rule (decompressing (reader (codes "cat"))) (flag (codes "strict")))
    (option_of (codes "ino"))) (option_of (codes "upto")))
    (word (codes "IMAGE")))
    (optional_word (codes "PATH"))

-- a subcommand that writes to flash of so many blocks, by pages
abbrev pub writer : Text → App
writer name = with_rule (with_rule (plain_command name) (required_option (codes "blocks")))
    (option_or (codes "page") (codes "4096"))

-- the same, with notes on weak nodes where they are asked for
abbrev pub noting : Text → App
noting name = with_rule (writer name) (flag (codes "weak"))

-- a subcommand whose output takes its name only when all is written, where that is asked for
abbrev pub atomic : App → App
atomic app = with_rule app (flag (codes "atomic"))

-- the same, and the output is filled up to the end of the flash where that is asked for
abbrev pub placing : App → App
placing app = atomic (with_rule app (lettered_flag (codes "pad") 112))

-- a subcommand that writes a file, which is named in its place, or by `-o FILE`
abbrev pub writing : App → App
writing app = with_rule (with_rule app (lettered_option (codes "output") 111))
    (optional_word (codes "OUT"))

-- a subcommand that compresses the nodes that it writes, where that is asked for
abbrev pub compressing : App → App
compressing app = with_rule app (flag (codes "compress"))

-- `build --blocks N [--page N] [--weak] [--compress] [--pad] [--atomic] [--block N]
-- [--endian ORDER] LISTING OUT`
abbrev pub build_app : App
build_app =
    writing (with_rule (placing (compressing (noting (codes "build")))) (word (codes "LISTING")))

-- `append --blocks N [--page N] [--weak] [--pad] [--atomic] [--decompress] [--force] [--auto]
-- [REGION] [--block N] [--endian ORDER] IMAGE LISTING OUT`
abbrev pub append_app : App
append_app = writing
    (with_rule
    (with_rule
    (with_rule (decompressing (placing (automatic (noting (codes "append")))))
    (flag (codes "force"))) (word (codes "IMAGE")))
    (word (codes "LISTING")))

-- the way in which `update` writes: uncompressed, and into the rests of begun blocks
abbrev pub updating : App → App
updating app = with_rule (with_rule app (flag (codes "plain"))) (flag (codes "tail"))

-- `update [--blocks N] [--page N] [--plain] [--tail] [--pad] [--atomic] [--auto] [REGION]
-- [--block N] [--endian ORDER] IMAGE LISTING OUT`
abbrev pub update_app : App
update_app = writing
    (with_rule
    (with_rule
    (placing
    (updating
    (with_rule (with_rule (reader (codes "update")) (option_of (codes "blocks")))
    (option_or (codes "page") (codes "4096")))))
    (word (codes "IMAGE")))
    (word (codes "LISTING")))

-- the output may be the image, also where that has findings
abbrev pub replacing : App → App
replacing app = with_rule (atomic app) (flag (codes "force"))

-- `decompress [--clashes RULE] [--atomic] [--force] [--auto] [REGION] [--block N] [--endian
-- ORDER] IMAGE OUT`
abbrev pub decompress_app : App
decompress_app = writing
    (with_rule
    (replacing (with_rule (reader (codes "decompress")) (option_of (codes "clashes"))))
    (word (codes "IMAGE")))

-- `compress [--atomic] [--force] [--auto] [REGION] [--block N] [--endian ORDER] IMAGE OUT`
abbrev pub compress_app : App
compress_app =
    writing (with_rule (replacing (reader (codes "compress"))) (word (codes "IMAGE")))

-- `compact [--blocks N] [--clashes RULE] [--pad] [--atomic] [--force] [--auto] [REGION] [--block
-- N] [--endian ORDER] IMAGE OUT`
abbrev pub compact_app : App
compact_app = writing
    (with_rule
    (with_rule
    (placing
    (with_rule (with_rule (reader (codes "compact")) (option_of (codes "blocks")))
    (option_of (codes "clashes"))))
    (flag (codes "force")))
    (word (codes "IMAGE")))

-- an owner and a time for all that a folder holds, and whether its reading tells no progress
abbrev pub folder_settings : App → App
folder_settings app = with_rule
    (with_rule (with_rule app (option_of_two (codes "owner"))) (option_of (codes "time")))
    (flag (codes "quiet"))

-- `pack [--owner UID GID] [--time T] [--quiet] [--blocks N] [--page N] [--weak] [--compress]
-- [--pad] [--atomic] [--block N] [--endian ORDER] DIR OUT`
abbrev pub pack_app : App
pack_app = writing
    (with_rule
    (folder_settings
    (placing
    (compressing
    (with_rule
    (with_rule (with_rule (plain_command (codes "pack")) (option_of (codes "blocks")))
    (option_or (codes "page") (codes "4096")))
    (flag (codes "weak"))))))
    (word (codes "DIR")))

-- `extract [--decompress] [--deleted] [--auto] [REGION] [--block N] [--endian ORDER] [--owners]
-- [--quiet] IMAGE DIR [PATH]`
abbrev pub extract_app : App
extract_app = with_rule
    (with_rule
    (with_rule
    (with_rule
    (with_rule (with_rule (decompressing (reader (codes "extract"))) (flag (codes "deleted")))
    (flag (codes "owners"))) (flag (codes "quiet"))) (word (codes "IMAGE")))
    (word (codes "DIR")))
    (optional_word (codes "PATH"))

-- `listing [--owner UID GID] [--time T] [--quiet] DIR`
abbrev pub listing_app : App
listing_app = with_rule
    (with_rule (with_rule (with_rule (new_app (codes "listing")) (option_of_two (codes "owner")))
    (option_of (codes "time"))) (flag (codes "quiet"))) (word (codes "DIR"))

-- `info [REGION] IMAGE`
abbrev pub info_app : App
info_app = with_rule (printing (regional (new_app (codes "info")))) (word (codes "IMAGE"))

-- `cuts [--blocks N] [--page N] [--on IMAGE] [--compress] [--decompress] [--update [--plain]
-- [--tail]] [--auto] [REGION] [--block N] [--endian ORDER] LISTING`
abbrev pub cuts_app : App
cuts_app = with_rule
    (updating
    (with_rule
    (decompressing
    (compressing
    (with_rule
    (with_rule (with_rule (printer (codes "cuts")) (option_of (codes "blocks")))
    (option_or (codes "page") (codes "4096")))
    (option_of (codes "on")))))
    (flag (codes "update"))))
    (word (codes "LISTING"))

-- `diff [--decompress] [--times] [--auto] [REGION] [--block N] [--endian ORDER] A B`
abbrev pub diff_app : App
diff_app = with_rule
    (with_rule (with_rule (decompressing (printer (codes "diff"))) (flag (codes "times")))
    (word (codes "A")))
    (word (codes "B"))

-- `damage [--decompress] [--auto] [REGION] [--block N] [--endian ORDER] IMAGE`
abbrev pub damage_app : App
damage_app = with_rule (decompressing (printer (codes "damage"))) (word (codes "IMAGE"))

-- `map [--svg] [--auto] [REGION] [--block N] [--endian ORDER] IMAGE`
abbrev pub map_app : App
map_app = with_rule (with_rule (printer (codes "map")) (flag (codes "svg")))
    (word (codes "IMAGE"))

-- `history [--since T] [--until T] [--auto] [REGION] [--block N] [--endian ORDER] IMAGE [PATH]`
abbrev pub history_app : App
history_app = with_rule
    (with_rule
    (with_rule (with_rule (printer (codes "history")) (option_of (codes "since")))
    (option_of (codes "until"))) (word (codes "IMAGE")))
    (optional_word (codes "PATH"))

-- `verify [--times] [--owner UID GID] [--time T] [--quiet] [--auto] [REGION] [--block N]
-- [--endian ORDER] IMAGE DIR`
abbrev pub verify_app : App
verify_app = with_rule
    (with_rule (folder_settings (with_rule (printer (codes "verify")) (flag (codes "times"))))
    (word (codes "IMAGE")))
    (word (codes "DIR"))

-- the program without its subcommands, of which one has to be named; it tells its version
abbrev pub bare : App
bare = let app = new_app (codes "jffs2_image") in record app
    { top = record app.top { has_version = true; subcommand_required = true } }

unfoldable pub program : App
program = with_subcommand
    (with_subcommand
    (with_subcommand
    (with_subcommand
    (with_subcommand
    (with_subcommand
    (with_subcommand
    (with_subcommand
    (with_subcommand
    (with_subcommand
    (with_subcommand
    (with_subcommand
    (with_subcommand
    (with_subcommand
    (with_subcommand
    (with_subcommand (with_subcommand (with_subcommand (with_subcommand bare
    check_app.top) ls_app.top) cat_app.top) build_app.top) append_app.top) update_app.top)
    decompress_app.top) compress_app.top) compact_app.top) extract_app.top) listing_app.top)
    info_app.top) cuts_app.top) diff_app.top) damage_app.top) map_app.top) history_app.top)
    pack_app.top) verify_app.top

-- ---- what is made

-- the word or option is to clap this rule, of its command alone
pub record IsRule (arg : Arg) (wanted : Rule) : Type 0 where
  pub rule : rule_of arg ≡ wanted
  pub local : arg.global ≡ false

-- the command is to clap this one, and no word is shared with its subcommands
pub record IsApp (command : Command) (wanted : App) : Type 0 where
  pub app : app_of command ≡ wanted
  pub local : (fields_of command).has_globals ≡ false

-- where there is memory, that command is made
abbrev pub MakesApp : {E : Type 0} → Result Command E → App → Type 0
MakesApp made wanted = IfOk made (λ command. IsApp command wanted)
