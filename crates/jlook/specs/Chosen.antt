-- A look whose wanted objects are chosen by the file system itself: it is looked at first without
-- contents, which shows all but these.
use Rattle.std.specs.Prelude.{◌≡◌, ◌⊎◌, ◌==◌, ℕ, false, List, Result, Ok, Err}
use Rattle.jnode.specs.declared.order.Endian.{Endian}
use Rattle.jmount.specs.Find.{find}
use Rattle.jmount.specs.Mount.{Mount}
use Rattle.jmount.specs.Tree.{State, object, has_bits, symlink_bits}
use Rattle.jmount.specs.declared.fault.FindFault.{FindFault}
use Rattle.jthrough.specs.MountsThrough.{AnswersThrough}
use Rattle.jthrough.specs.declared.fault.ViewFault.{ViewFault}
use Rattle.jlook.specs.Laws.{ShowsSameOr}
use Rattle.jlook.specs.Looked.{Wants}
use Rattle.jlook.specs.Looks.{AnswersLook, LooksAs}

-- ---- choices

-- what is wanted of a file system
abbrev pub Choice : Type 0
Choice = State → Wants

-- the targets of its symlinks
abbrev pub symlinks_in : Choice
symlinks_in s i = has_bits symlink_bits (object s i)

abbrev pub is_that_object : Result ℕ FindFault → Wants
is_that_object (Ok ino) i = ino == i
is_that_object (Err why) i = false

-- the object that a path names
abbrev pub object_by_path : List ℕ → Choice
object_by_path path s = is_that_object (find s path)

-- ---- what an image shows of them

-- no contents
abbrev pub nothing_wanted : Wants
nothing_wanted i = false

-- these are the numbers of what is chosen in the file system that a look without contents shows
abbrev pub AreChosen : Choice → Endian → ℕ → List ℕ → Wants → Type 0
AreChosen choice e size image numbers = (s : State) × LooksAs nothing_wanted e size image s
    × ((i : ℕ) → numbers i ≡ choice s i)

-- the answer of a mount of which just these are wanted
abbrev pub AnswersWith : Choice → Endian → ℕ → List ℕ → Result Mount ViewFault → Type 0
AnswersWith choice e size image answer = (s : State) × LooksAs nothing_wanted e size image s
    × AnswersLook (choice s) e size image answer

-- why there is no look without contents
abbrev pub IsNoLook : Endian → ℕ → List ℕ → ViewFault → Type 0
IsNoLook e size image why = AnswersLook nothing_wanted e size image (Err why)

-- rule: Compressed data: The mount of an image that shows its tree, with the targets of symlinks or
--   the bytes of the object that a path names, and no other contents.
--   definitions: jlook.Chosen.AnswersChosen, jlook.Chosen.AnswersWith, jlook.Chosen.symlinks_in,
--   jlook.Chosen.object_by_path
--   code: jlook::chosen::mount_tree, jlook::chosen::mount_object
--   laws: jlook::laws::chosen_is_the_same, jlook::laws::only_the_wanted_refuse
-- The image mounts so; or it says why there is no look without contents, and else why there is none
-- with those that are chosen.
abbrev pub AnswersChosen : Choice → Endian → ℕ → List ℕ → Result Mount ViewFault → Type 0
AnswersChosen choice e size image (Ok mount) = AnswersWith choice e size image (Ok mount)
AnswersChosen choice e size image (Err why) =
    IsNoLook e size image why ⊎ AnswersWith choice e size image (Err why)

-- ---- laws

-- If an image mounts through its compression, then that shows the same tree, and the same of what
-- is chosen in it:
abbrev pub IsTheSameBy : Choice → Type 0
IsTheSameBy choice = (e : Endian) (size : ℕ) (image : List ℕ) (full : Mount)
    (answer : Result Mount ViewFault)
    → AnswersThrough e size image (Ok full) → AnswersChosen choice e size image answer
    → ShowsSameOr (choice full.state) full answer

-- of the targets of symlinks,
abbrev pub TreeIsTheSame : Type 0
TreeIsTheSame = IsTheSameBy symlinks_in

-- and of the object that a path names.
abbrev pub ObjectIsTheSame : Type 0
ObjectIsTheSame = (path : List ℕ) → IsTheSameBy (object_by_path path)
