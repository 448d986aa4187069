-- What a command that shows an image goes on with: a path that a word names, and an image that may
-- have to be decompressed.
use Rattle.std.specs.Prelude.{◌≡◌, ℕ, Bool, true, false, IsFalse, IsTrue, List, Option, Some, None, Result, Ok, Err}
use Rattle.jnode.specs.declared.order.Endian.{Endian}
use Rattle.jscan.specs.Image.{is_block_size}
use Rattle.jscan.specs.declared.geometry.ScanFault.TheVariants as scan
use Rattle.jmount.specs.declared.fault.FindFault.TheVariants as find
use Rattle.jmount.specs.declared.fault.MountFault.TheVariants as mount
use Rattle.jlog.specs.declared.fault.SessionFault.TheVariants as session
use Rattle.jexpand.specs.declared.fault.ConvertFault.{ConvertFault}
use Rattle.jexpand.specs.declared.fault.ConvertFault.TheVariants as convert
use Rattle.jconvert.specs.Converting.{Converts}
use Rattle.jreport.specs.FoundIn.{found_in}
use Rattle.jreport.specs.NoNodes.{TellsNone}
use Rattle.jreport.specs.Paths.{path_of}
use Rattle.jreport.specs.declared.cause.Cause.TheVariants as causes
use Rattle.jreport.specs.declared.cause.Limit.TheVariants as limits
use Rattle.jreport.specs.declared.faults.ProgramFault.{ProgramFault}
use Rattle.jreport.specs.declared.faults.ProgramFault.TheVariants as program
use Rattle.jreport.specs.declared.findings.Found.{Found}
use Rattle.jedge.specs.Acts.{Act, Then, answers, loads}
use Rattle.jedge.specs.declared.fault.Fault.{Fault}
use Rattle.jedge.specs.declared.fault.Fault.TheVariants as fault
use Rattle.jedge.specs.declared.subject.Subject.{Subject}

-- ---- what is judged before a file is read

-- blocks have this size, or no block has it
abbrev pub HasBlockSize : ℕ → Result Unit Fault → Type 0
HasBlockSize size (Ok _) = IsTrue (is_block_size size)
HasBlockSize size (Err (fault.File file)) = ⊥
HasBlockSize size (Err (fault.NotRead file)) = ⊥
HasBlockSize size (Err (fault.NoNodes told others)) = ⊥
HasBlockSize size (Err (fault.NoSpace folder)) = ⊥
HasBlockSize size (Err (fault.Findings told findings)) = ⊥
HasBlockSize size (Err (fault.Refused why)) =
    (why ≡ program.Scan scan.BlockSize) × IsFalse (is_block_size size)
HasBlockSize size (Err fault.Output) = ⊥
HasBlockSize size (Err fault.OutOfMemory) = ⊥

-- the path that a word stands for; it may stand for none, or memory may run out
abbrev pub NamesPath : List ℕ → Result (List ℕ) Fault → Type 0
NamesPath word (Ok path) = path_of word ≡ Some path
NamesPath word (Err (fault.File file)) = ⊥
NamesPath word (Err (fault.NotRead file)) = ⊥
NamesPath word (Err (fault.NoNodes told others)) = ⊥
NamesPath word (Err (fault.NoSpace folder)) = ⊥
NamesPath word (Err (fault.Findings told findings)) = ⊥
NamesPath word (Err (fault.Refused why)) =
    (why ≡ program.Path find.BadPath) × (path_of word ≡ None)
NamesPath word (Err fault.Output) = ⊥
NamesPath word (Err fault.OutOfMemory) = Unit {0}

-- the same where a word is given; where none is, all of the tree is meant
abbrev pub NamesPart : Option (List ℕ) → Result (Option (List ℕ)) Fault → Type 0
NamesPart None (Ok part) = part ≡ None
NamesPart None (Err f) = ⊥
NamesPart (Some word) (Ok None) = ⊥
NamesPart (Some word) (Ok (Some path)) = NamesPath word (Ok path)
NamesPart (Some word) (Err f) = NamesPath word (Err f)

-- ---- the image that is shown

-- an image that is shown, and what is noted of the one that was read: what is found in it, where
-- this one is made of it; and how many nodes of the other byte order, where it has none
pub record Viewed : Type 0 where
  pub image : List ℕ
  pub found : Option Found
  pub others : Option ℕ

abbrev pub viewed : Subject → Viewed
viewed subject = record {
  image = subject.image.items;
  found = subject.found;
  others = subject.others;
}

-- the image, or what `decompress` makes of it where that is asked for
abbrev pub IsShownOf : Bool → Endian → ℕ → List ℕ → Viewed → Type 0
IsShownOf false e size image view = (view.image ≡ image) × (view.found ≡ None)
IsShownOf true e size image view = Converts e size image (Ok view.image)
    × (view.found ≡ Some (found_in e size image))

-- why nothing is made of an image, as the program tells it
abbrev pub conversion_refusal : ConvertFault → ProgramFault
conversion_refusal convert.BlockSize = program.Mount mount.BlockSize
conversion_refusal convert.TooLarge = program.Mount mount.TooLarge
conversion_refusal (convert.Incompatible addr nodetype) =
    program.Mount (mount.Incompatible addr nodetype)
conversion_refusal (convert.Compressed addr compr) = program.Mount (mount.Compressed addr compr)
conversion_refusal (convert.Data addr) = program.Data addr
conversion_refusal (convert.TooLong addr) = program.TooLong addr
conversion_refusal convert.ReadOnly = program.Session session.ReadOnly None causes.Unknown
conversion_refusal convert.Geometry =
    program.Session session.Geometry None (causes.Limit limits.SmallBlock)
conversion_refusal (convert.Full needed free) =
    program.Session (session.Full needed free) None causes.Unknown
conversion_refusal convert.Sink = program.Session session.Sink None causes.Unknown
conversion_refusal convert.OutOfMemory = program.Session session.OutOfMemory None causes.Unknown

abbrev pub IsUnmade : Endian → ℕ → List ℕ → ProgramFault → Type 0
IsUnmade e size image why = (refused : ConvertFault) × (why ≡ conversion_refusal refused)
    × Converts e size image (Err refused)

-- An image is shown, and it is told of it where no node is found in it; or nothing is made of it,
-- where that is asked for.
abbrev pub IsViewed : Endian → ℕ → Bool → List ℕ → Result Viewed Fault → Type 0
IsViewed e size decompress image (Ok view) =
    IsShownOf decompress e size image view × TellsNone e size image view.others
IsViewed e size decompress image (Err (fault.File file)) = ⊥
IsViewed e size decompress image (Err (fault.NotRead file)) = ⊥
IsViewed e size decompress image (Err (fault.NoNodes told others)) = ⊥
IsViewed e size decompress image (Err (fault.NoSpace folder)) = ⊥
IsViewed e size decompress image (Err (fault.Findings told findings)) = ⊥
IsViewed e size decompress image (Err (fault.Refused why)) =
    IsTrue decompress × IsUnmade e size image why
IsViewed e size decompress image (Err fault.Output) = ⊥
IsViewed e size decompress image (Err fault.OutOfMemory) = ⊥

-- the file of a name is read, and its image is shown
abbrev pub views : Endian → ℕ → Bool → List ℕ → Act Viewed
views e size decompress name =
    Then (loads name) (λ image. answers (IsViewed e size decompress image))
