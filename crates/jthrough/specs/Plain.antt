-- An image without compressed nodes, mounted through its compression and as it is.
use Rattle.std.specs.Prelude.{◌↔◌, ℕ, List, Contains, Result, Ok, Err}
use Rattle.jnode.specs.declared.node.Seen.TheVariants as seen
use Rattle.jnode.specs.declared.order.Endian.{Endian}
use Rattle.jscan.specs.Image.{sightings}
use Rattle.jmount.specs.Mount.{Mount}
use Rattle.jmount.specs.Mounts.{Answers}
use Rattle.jmount.specs.declared.fault.MountFault.{MountFault}
use Rattle.jmount.specs.declared.fault.MountFault.TheVariants as mount
use Rattle.jthrough.specs.MountsThrough.{AnswersThrough}
use Rattle.jthrough.specs.View.{mount_fault_viewed}
use Rattle.jthrough.specs.declared.fault.ViewFault.{ViewFault}
use Rattle.jthrough.specs.declared.fault.ViewFault.TheVariants as fault

-- none of its nodes is compressed
abbrev pub HasNoCompressed : Endian → ℕ → List ℕ → Type 0
HasNoCompressed e size image =
    (addr compr : ℕ) → Contains (sightings e size image) (addr, seen.Compressed compr) → ⊥

-- the answer of a mount of the image as it is, in the words of a mount through
abbrev pub AnswersPlain : Endian → ℕ → List ℕ → Result Mount ViewFault → Type 0
AnswersPlain e size image (Ok mounted) = Answers e size image (Ok mounted)
AnswersPlain e size image (Err fault.BlockSize) = Answers e size image (Err mount.BlockSize)
AnswersPlain e size image (Err fault.TooLarge) = Answers e size image (Err mount.TooLarge)
AnswersPlain e size image (Err (fault.Incompatible addr nodetype)) =
    Answers e size image (Err (mount.Incompatible addr nodetype))
AnswersPlain e size image (Err (fault.Compressed addr compr)) = ⊥
AnswersPlain e size image (Err (fault.Data addr)) = ⊥
AnswersPlain e size image (Err (fault.TooLong addr)) = ⊥
AnswersPlain e size image (Err (fault.Clash addr)) =
    Answers e size image (Err (mount.Clash addr))
AnswersPlain e size image (Err fault.RootKind) = Answers e size image (Err mount.RootKind)
AnswersPlain e size image (Err fault.OutOfMemory) =
    Answers e size image (Err mount.OutOfMemory)

-- the answer of a mount, in those words
abbrev pub answer_viewed : Result Mount MountFault → Result Mount ViewFault
answer_viewed (Ok mounted) = Ok mounted
answer_viewed (Err why) = Err (mount_fault_viewed why)

-- rule: Compressed data: An image without compressed nodes mounts through as it mounts: as the same
--   file system, or with the same fault.
--   definitions: jthrough.Plain.AnswersPlain, jthrough.Plain.PlainIsMounted,
--   jthrough.Plain.MountIsPlain
--   code: jthrough::mounting::mount_through, jmount::mounting::mount
--   laws: jthrough::laws::plain_is_mounted
-- What a mount through answers, a mount answers, and the other way round,
abbrev pub PlainIsMounted : Type 0
PlainIsMounted = (e : Endian) (size : ℕ) (image : List ℕ) (answer : Result Mount ViewFault)
    → HasNoCompressed e size image
    → AnswersThrough e size image answer ↔ AnswersPlain e size image answer

-- whichever of the two is asked.
abbrev pub MountIsPlain : Type 0
MountIsPlain = (e : Endian) (size : ℕ) (image : List ℕ) (answer : Result Mount MountFault)
    → HasNoCompressed e size image
    → Answers e size image answer ↔ AnswersThrough e size image (answer_viewed answer)
