-- What each command does: read it as the manual page. The order is that of the steps.
use Rattle.std.specs.Prelude.{◌≡◌, ◌++◌, ◌==◌, ◌+◌, ◌-◌, ◌^◌, ℕ, nat_lt, Bool, is_some, min, if◌then◌else◌, List, Option, Some, None, option_map, Result, Ok, Err}
use Rattle.jcommand.specs.Status.{outcome_of}
use Rattle.jcommand.specs.declared.outcome.Outcome.{Outcome}
use Rattle.jcommand.specs.declared.outcome.Outcome.TheVariants as outcome
use Rattle.jcommand.specs.declared.parsed.Comparison.{Comparison}
use Rattle.jcommand.specs.declared.parsed.Options.{Options}
use Rattle.jdamage.specs.Damage.{damage_text, damage_totals}
use Rattle.jdamage.specs.declared.fault.DamageFault.{DamageFault}
use Rattle.jdamage.specs.declared.fault.DamageFault.TheVariants as cost
use Rattle.jdamage.specs.declared.totals.Totals.{Totals}
use Rattle.jhint.specs.Hints.{hint_lines, hint_of}
use Rattle.jhint.specs.declared.hint.Hint.{Hint}
use Rattle.jinfo.specs.Containers.{container_line, container_of}
use Rattle.jinfo.specs.Infos.{order_of}
use Rattle.jinfo.specs.InfoText.{info_text}
use Rattle.jlook.specs.Chosen.{Choice, object_by_path, symlinks_in}
use Rattle.jmount.specs.Mount.{Mount}
use Rattle.jnode.specs.declared.order.Endian.{Endian}
use Rattle.jreport.specs.Content.{content_of}
use Rattle.jreport.specs.NoNodes.{none_notes_of}
use Rattle.jreport.specs.Notes.{note_line_of, noted as findings}
use Rattle.jreserve.specs.Note.{reserve_line}
use Rattle.jdiff.specs.declared.comparing.Comparing.{Comparing}
use Rattle.jedge.specs.Acts.{Act, IsSaidBy, Saying, Then, Whole, answers, loads, opens, prints, reads_whole}
use Rattle.jedge.specs.Calls.{Event}
use Rattle.jedge.specs.Comparing.{Compares, compared}
use Rattle.jedge.specs.Faults.{TellsFault}
use Rattle.jedge.specs.Images.{HasNodes, MountsBoth, MountsFor, MountsWith, NotesNone}
use Rattle.jedge.specs.Missing.{missing_bytes, missing_noted}
use Rattle.jedge.specs.Showing.{Checks, Contains, Lists}
use Rattle.jspare.specs.Showing.{spare_lines}
use Rattle.jregions.specs.RegionText.{region_lines}
use Rattle.jedge.specs.Parting.{FindsRegions}
use Rattle.jedge.specs.Sparing.{FindsSpare}
use Rattle.jedge.specs.Told.{Told, either, shown_notes}
use Rattle.jedge.specs.Views.{HasBlockSize, NamesPart, NamesPath}
use Rattle.jedge.specs.declared.fault.Fault.{Fault}
use Rattle.jedge.specs.declared.fault.Fault.TheVariants as fault

-- ---- how a command ends

-- what standard error is told: the note on what was found, or the fault
abbrev pub TellsEnd : Result Told Fault → Option (List ℕ) → Type 0
TellsEnd (Ok told) text = text ≡ told.noted
TellsEnd (Err f) text = (lines : List ℕ) × (text ≡ Some lines) × TellsFault f lines

abbrev pub outcome_by : Result Told Fault → Outcome
outcome_by (Ok told) = outcome_of told.counted
outcome_by (Err f) = outcome.Fault

-- an answer is told on standard error, and says how the program ends
pub record ends (answer : Result Told Fault) (events : List Event) (result : Result Outcome Fault)
    : Type 0 where
  pub text : Option (List ℕ)
  pub tells : TellsEnd answer text
  pub said : IsSaidBy text events
  pub is : result ≡ Ok (outcome_by answer)

-- a command is gone through, and its answer told
pub record reported (act : Act Told) (events : List Event) (result : Result Outcome Fault) : Type 0
  where
    pub answer : Result Told Fault
    pub work : List Event
    pub last : List Event
    pub worked : act work answer
    pub ended : ends answer last result
    pub all : events ≡ work ++ last

-- ---- `info`

-- an image with no byte order is none, which is found; a file that begins as something else is
-- noted
abbrev pub informed : List ℕ → Told
informed image = record {
  counted = if is_some (order_of image) then 0 else 1;
  noted = option_map container_line (container_of image);
}

-- The file is read, and what it tells of itself is printed, the layout that it has if it is a dump
-- with spare bytes, and the regions of a dump of a whole flash.
abbrev pub info_act : List ℕ → Act Told
info_act name = Then (loads name) (λ image. Then (answers (FindsSpare image)) (λ spare.
    Then (answers (FindsRegions image)) (λ regions.
    prints (Whole (info_text image ++ (spare_lines spare ++ region_lines regions))
    (informed image)))))

-- ---- `damage`

-- the note on so many findings
abbrev pub findings_noted : ℕ → Option (List ℕ)
findings_noted n = if n == 0 then None else Some (note_line_of n)

-- the notes on an image that is read: on its findings, on nodes of the other byte order if it has
-- no node, and on the byte order and the block size that it shows if it was read with others
abbrev pub read_noted : Option Hint → ℕ → Option ℕ → Option (List ℕ)
read_noted hint n None = if n == 0 then None else Some (shown_notes n None ++ hint_lines hint)
read_noted hint n (Some others) = Some (shown_notes n (Some others) ++ hint_lines hint)

-- what an image with findings shows, if it was read with other options
abbrev pub hint_if_found : Endian → ℕ → Mount → Option Hint
hint_if_found e size m = if findings m == 0 then None else hint_of e size m.image

-- damage that was told is found, or else the findings of the image, which are noted
abbrev pub examined : Endian → ℕ → Totals → Mount → Told
examined e size totals m = record {
  counted = either (min (totals.damaged + totals.missing + totals.gaps) (2 ^ 64 - 1)) (findings m);
  noted = read_noted (hint_of e size m.image) (findings m) None;
}

-- by what was put of it: no other fault than the sink's and want of memory
abbrev pub costs_found : Endian → ℕ → Mount → Result Totals DamageFault → Result Told Fault
costs_found e size m (Ok totals) = Ok (examined e size totals m)
costs_found e size m (Err cost.Output) = Err fault.Output
costs_found e size m (Err cost.OutOfMemory) = Err fault.OutOfMemory

-- what the damage of a mount costs, in blocks of this size
abbrev pub Costs : Endian → ℕ → Mount → Saying Told
Costs e size m = Whole (damage_text e size m) (examined e size (damage_totals e size m) m)

-- an image in which a node is found is mounted, with `--decompress` through its compression, and
-- what its damage costs is printed
abbrev pub examines : Options → Bool → List ℕ → Act Told
examines options decompress image =
    Then (answers (HasNodes options.endian options.geometry.block None image)) (λ _.
    Then (answers (MountsWith decompress options.endian options.geometry.block image)) (λ m.
    prints (Costs options.endian options.geometry.block m)))

-- the file is read, and its image examined
abbrev pub damage_act : Options → Bool → List ℕ → Act Told
damage_act options decompress name = Then (loads name) (examines options decompress)

-- ---- `check`

-- The file is opened, and then the size of a block is judged; the file is read, and the report of
-- its image and the verdict on its mount are printed.
abbrev pub checks : Endian → ℕ → Bool → List ℕ → Act Told
checks e size shape name =
    Then (opens name) (λ opened.
    Then (answers (HasBlockSize size)) (λ _.
    Then (reads_whole opened) (λ image.
    prints (Checks e size shape image))))

abbrev pub check_act : Options → Bool → List ℕ → Act Told
check_act options = checks options.endian options.geometry.block

-- ---- `ls` and `cat`

-- the note on an image that is shown: on its findings, and on nodes of the other byte order where
-- it has none
abbrev pub shown_noted : ℕ → Option ℕ → Option (List ℕ)
shown_noted n None = findings_noted n
shown_noted n (Some others) = Some (none_notes_of n others)

-- the note on one that was written to: that too if fewer blank blocks are left than Linux keeps in
-- reserve
abbrev pub left_noted : ℕ → Option ℕ → ℕ → ℕ → Option (List ℕ)
left_noted n others left reserve = if nat_lt left reserve
    then Some (shown_notes n others ++ reserve_line left reserve) else shown_noted n others

-- nothing of an image that is shown is found
abbrev pub shown_told : Option ℕ → Mount → Told
shown_told others m = record { counted = 0; noted = shown_noted (findings m) others }

abbrev pub read_told : Endian → ℕ → Option ℕ → Mount → Told
read_told e size others m =
    record { counted = 0; noted = read_noted (hint_of e size m.image) (findings m) others }

abbrev pub left_told : Option ℕ → ℕ → ℕ → Mount → Told
left_told others left reserve m =
    record { counted = 0; noted = left_noted (findings m) others left reserve }

-- An image is mounted, and what there is to tell of it is printed. With `--decompress` it mounts
-- through its compression, and only the data of what is chosen in its tree are decompressed.
abbrev pub shows_mount : Choice → Bool → Endian → ℕ → (Option ℕ → Mount → Saying Told) → List ℕ
    → Act Told
shows_mount choice decompress e size says image =
    Then (answers (NotesNone e size image)) (λ others.
    Then (answers (MountsFor choice decompress e size image)) (λ m.
    prints (says others m)))

-- the lines of a tree, or of a part of it, with that note
abbrev pub ls_says : Endian → ℕ → Option (List ℕ) → Option ℕ → Mount → Saying Told
ls_says e size part others m = Lists m.state part (read_told e size others m)

-- The word of a path is judged, where one is given; the file is read and its image mounted, and the
-- lines of its tree are printed. Of compressed data the targets of symlinks alone are chosen.
abbrev pub lists : Endian → ℕ → Bool → List ℕ → Option (List ℕ) → Act Told
lists e size decompress name word =
    Then (answers (NamesPart word)) (λ part.
    Then (loads name) (shows_mount symlinks_in decompress e size (ls_says e size part)))

abbrev pub list_act : Options → Bool → List ℕ → Option (List ℕ) → Act Told
list_act options = lists options.endian options.geometry.block

-- what is told of a file of which no node has so many bytes: these are found if that is strict
abbrev pub content_told : Bool → ℕ → Told → Told
content_told strict missing told = record {
  counted = if strict then missing else told.counted;
  noted = missing_noted missing told.noted;
}

-- the bytes of the file that a path names, with that note
abbrev pub cat_says : Endian → ℕ → Bool → List ℕ → Option ℕ → Mount → Saying Told
cat_says e size strict path others m = Contains (content_of m.state path)
    (content_told strict (missing_bytes e size path m) (read_told e size others m))

-- the same of those bytes; their data alone are chosen
abbrev pub cats : Endian → ℕ → Bool → Bool → List ℕ → List ℕ → Act Told
cats e size decompress strict name word =
    Then (answers (NamesPath word)) (λ path.
    Then (loads name)
    (shows_mount (object_by_path path) decompress e size (cat_says e size strict path)))

abbrev pub cat_act : Options → Bool → Bool → List ℕ → List ℕ → Act Told
cat_act options = cats options.endian options.geometry.block

-- ---- `diff`

abbrev pub comparing : Comparison (List ℕ) → Comparing
comparing x = record { times = x.times; order = x.options.endian }

-- of two images in which nodes are found both are mounted, and the lines on their trees are printed
abbrev pub compares : Comparison (List ℕ) → List ℕ → List ℕ → Act Told
compares x image other =
    Then (answers (HasNodes x.options.endian x.options.geometry.block (Some x.first) image)) (λ _.
    Then (answers (HasNodes x.options.endian x.options.geometry.block (Some x.second) other)) (λ _.
    Then (answers (MountsBoth x.decompress x.options.endian x.options.geometry.block image other))
    (λ both. prints (Compares (comparing x) both.0 both.1
    (compared x.first x.second both.0 both.1)))))

-- the files of two names are read, and their images compared
abbrev pub diff_act : Comparison (List ℕ) → Act Told
diff_act x =
    Then (loads x.first) (λ image.
    Then (loads x.second) (λ other.
    compares x image other))

-- ---- all commands

-- a command, and what it is given
pub data Command : Type 0 where
  Check : Options → Bool → List ℕ → Command
  Ls : Options → Bool → List ℕ → Option (List ℕ) → Command
  Cat : Options → Bool → Bool → List ℕ → List ℕ → Command
  Info : List ℕ → Command
  Damage : Options → Bool → List ℕ → Command
  Diff : Comparison (List ℕ) → Command

abbrev pub act_of : Command → Act Told
act_of (Check options shape name) = check_act options shape name
act_of (Ls options decompress name word) = list_act options decompress name word
act_of (Cat options decompress strict name word) = cat_act options decompress strict name word
act_of (Info name) = info_act name
act_of (Damage options decompress name) = damage_act options decompress name
act_of (Diff asked) = diff_act asked
