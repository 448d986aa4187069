-- What a person may do about a fault: a note after its line.
use Rattle.std.specs.Prelude.{ℕ, ◌==◌, ◌||◌, Bool, List, [], ◌∷◌, ◌++◌, length, codes, decimal, if◌then◌else◌}
use Rattle.jlisting.specs.declared.rule.Rule.{Rule}
use Rattle.jlisting.specs.declared.rule.Rule.TheVariants as rule
use Rattle.jlisting.specs.declared.rule.WordRule.{WordRule}
use Rattle.jlisting.specs.declared.rule.WordRule.TheVariants as word
use Rattle.jmount.specs.declared.fault.MountFault.{MountFault}
use Rattle.jmount.specs.declared.fault.MountFault.TheVariants as mount
use Rattle.jscan.specs.declared.geometry.ScanFault.{ScanFault}
use Rattle.jscan.specs.declared.geometry.ScanFault.TheVariants as scan
use Rattle.jline.specs.Words.{hex, in_line}
use Rattle.jreport.specs.Faults.{fault_line_of}
use Rattle.jreport.specs.ImageFaults.{image_named, image_note}
use Rattle.jreport.specs.Reasons.{file_note, unread_note}
use Rattle.jreport.specs.Sentences.{data_note, incompatible_note, length_note, load_note, memory_note, no_space_note, node_length_note, not_regular_note, output_note, path_note, root_note, session_note}
use Rattle.jreport.specs.declared.faults.ProgramFault.{ProgramFault}
use Rattle.jreport.specs.declared.faults.ProgramFault.TheVariants as program

-- ---- a line of a listing

-- the rule that a word breaks
unfoldable pub word_note : WordRule → List ℕ
word_note word.Empty = codes " is empty"
word_note (word.NoDigit greatest) =
    codes " has a character that is no digit from 0 to " ++ decimal greatest
word_note (word.TooLong most) = codes " has more than " ++ decimal most ++ codes " digits"
word_note (word.Above limit) = codes " is above " ++ decimal limit
word_note word.Kind = codes " is neither c nor b"
word_note word.Escape = codes " has a backslash that does not begin \\x and two hexadecimal digits"
word_note word.NoPairs = codes " is not pairs of hexadecimal digits"
word_note word.NoText = codes " is not UTF-8"

-- the rule that a line breaks
unfoldable pub rule_note : Rule → List ℕ
rule_note rule.SpaceAtStart = codes "a space at the start"
rule_note rule.TwoSpaces = codes "two spaces side by side"
rule_note rule.SpaceAtEnd = codes "a space at the end"
rule_note rule.CarriageReturn = codes "a carriage return at the end, as of a file made on Windows"
rule_note rule.NoOperation = codes "no operation has this name"
rule_note (rule.TooFew n) =
    codes "too few words, this operation takes " ++ decimal n ++ codes " after its name"
rule_note (rule.TooMany n) =
    codes "too many words, this operation takes " ++ decimal n ++ codes " after its name"
rule_note (rule.Word n broken) = codes "word " ++ decimal n ++ word_note broken

-- ---- an image

-- a method of compression that `decompress` reads: RTIME, ZLIB, LZO (Linux,
-- include/uapi/linux/jffs2.h), and LZMA of OpenWrt
abbrev pub is_read_method : ℕ → Bool
is_read_method compr = (compr == 2) || (compr == 6) || (compr == 7) || (compr == 8)

-- the name of one of these
abbrev pub read_method_name : ℕ → List ℕ
read_method_name compr =
    if compr == 2 then codes "rtime" else
    if compr == 6 then codes "zlib" else
    if compr == 7 then codes "lzo" else codes "lzma"

-- that an image has data that `decompress` reads
unfoldable pub compressed_note : ℕ → List ℕ
compressed_note compr = codes "the image is compressed (" ++ read_method_name compr
    ++ codes "); decompress writes one that is not, without damaged nodes; "
    ++ codes "ls, cat, check, extract, diff, damage, cuts and append take --decompress"

-- what is said of a method that is not read
abbrev pub unread_method : ℕ → List ℕ
unread_method compr =
    if compr == 3 then codes " is RUBINMIPS, which is not read" else
    if compr == 4 then codes " is COPY, which is not read" else
    if compr == 5 then codes " is DYNRUBIN, which is not read" else codes " is not known"

-- that an image has data of such a method
unfoldable pub unread_method_note : ℕ → List ℕ
unread_method_note compr = codes "method " ++ decimal compr ++ unread_method compr

-- that an image has data of a method of compression
abbrev pub method_note : ℕ → List ℕ
method_note compr =
    if is_read_method compr then compressed_note compr else unread_method_note compr

-- that two nodes of an image clash
unfoldable pub clash_note : List ℕ
clash_note = codes "two nodes differ; "
    ++ codes "decompress --clashes higher keeps that of the higher address"

-- that the nodes at these two addresses clash
unfoldable pub pair_note : ℕ → ℕ → List ℕ
pair_note lower higher = codes "the nodes at " ++ hex 8 lower ++ codes " and " ++ hex 8 higher
    ++ codes " differ; " ++ codes "decompress --clashes higher keeps that of the highest address"

-- that no erase block has this size
unfoldable pub block_note : List ℕ
block_note = codes "--block takes a multiple of 4 from 4096 to 4194304"

-- what is said of an image that does not mount
unfoldable pub mount_note : MountFault → List ℕ
mount_note mount.BlockSize = block_note
mount_note mount.TooLarge = length_note
mount_note (mount.Incompatible addr nodetype) = incompatible_note
mount_note (mount.Compressed addr compr) = method_note compr
mount_note (mount.Clash addr) = clash_note
mount_note mount.RootKind = root_note
mount_note mount.OutOfMemory = memory_note

-- what is said of an image that is not scanned
unfoldable pub scan_note : ScanFault → List ℕ
scan_note scan.BlockSize = block_note
scan_note scan.TooLarge = length_note
scan_note (scan.Incompatible addr nodetype) = incompatible_note
scan_note (scan.Compressed addr compr) = method_note compr
scan_note scan.OutOfMemory = memory_note

-- ---- a fault

-- the file that a note is on, if it is on one
unfoldable pub named_in : ProgramFault → List ℕ
named_in (program.Load fault) = []
named_in (program.NotRead file) = file.name.now
named_in (program.Scan fault) = []
named_in (program.Mount fault) = []
named_in (program.Clash addr other) = []
named_in (program.File file) = file.name.now
named_in (program.Listing bad) = []
named_in (program.Session fault line cause) = []
named_in (program.Path fault) = []
named_in program.NotRegular = []
named_in program.Output = []
named_in program.OutOfMemory = []
named_in (program.NoSpace name) = []
named_in (program.Data addr) = []
named_in (program.TooLong addr) = []
named_in (program.Image fault) = image_named fault

-- what is said of a fault beside its line, if anything is
unfoldable pub note_of : ProgramFault → List ℕ
note_of (program.Load fault) = load_note fault
note_of (program.NotRead file) = unread_note file.reason
note_of (program.Scan fault) = scan_note fault
note_of (program.Mount fault) = mount_note fault
note_of (program.Clash addr other) = pair_note other addr
note_of (program.File file) = file_note file.reason
note_of (program.Listing bad) = rule_note bad.rule
note_of (program.Session fault line cause) = session_note fault cause
note_of (program.Path fault) = path_note fault
note_of program.NotRegular = not_regular_note
note_of program.Output = output_note
note_of program.OutOfMemory = memory_note
note_of (program.NoSpace name) = no_space_note
note_of (program.Data addr) = data_note
note_of (program.TooLong addr) = node_length_note
note_of (program.Image fault) = image_note fault

-- as a line, where there is something to say
abbrev pub noted_line : List ℕ → List ℕ → List ℕ
noted_line name note =
    if length note == 0 then [] else
    codes "jffs2_image: note: " ++ (in_line name ++ (note ++ 10 ∷ []))

-- rule: What is printed: The note after a fault.
--   definitions: jreport.Advice.advice_of, jreport.Reasons.unread_note
--   code: jreport::advice::put_fault_and_note
-- the line after that of a fault, if there is one
unfoldable pub advice_of : ProgramFault → List ℕ
advice_of fault = noted_line (named_in fault) (note_of fault)

-- all that standard error is told of a fault
unfoldable pub fault_lines_of : ProgramFault → List ℕ
fault_lines_of fault = fault_line_of fault ++ advice_of fault
