-- Laws of what is left, seen through its compression.
use Rattle.std.specs.Prelude.{ℕ, ◌*◌, ◌≤◌, IsTrue, List, [], length, take, Contains}
use Rattle.std.specs.List.{AllByRecursion}
use Rattle.jnode.specs.declared.node.Seen.TheVariants as seen
use Rattle.jnode.specs.declared.order.Endian.{Endian}
use Rattle.jscan.specs.Image.{is_block_size, sightings}
use Rattle.jmount.specs.Mounts.{MountsAs}
use Rattle.jmount.specs.Tree.{State}
use Rattle.jlog.specs.Places.{fit}
use Rattle.jlog.specs.Output.{output}
use Rattle.jlog.specs.Left.{IsLeft, intact}
use Rattle.jlog.specs.Forms.{IsStorableForm, AreLoggedForms, AreStoredForms, NoFormWeak}
use Rattle.jview.specs.Through.{MountsThroughAs}
use Rattle.jlog.specs.Through.{IsReadForm, Expands}

-- After a cut the nodes are the base's, and those of the forms that are kept.
abbrev pub LeftExpands : Type 0
LeftExpands = (e : Endian) (size blocks block k : ℕ) (base image : List ℕ) (forms : List (List ℕ))
    → AreLoggedForms e size blocks base block forms → AllByRecursion (IsReadForm e size) forms
    → NoFormWeak e forms
    → IsLeft e size blocks base (block * size) (output e size (block * size) forms) k image
    → Expands e size base image (take (intact size (block * size) k forms) forms)

-- Without a cut they are the base's, and those of all forms, of any length, and whether a cut of
-- them would be seen or not.
abbrev pub WholeExpands : Type 0
WholeExpands = (e : Endian) (size blocks block k : ℕ) (base image : List ℕ) (forms : List (List ℕ))
    → AreStoredForms e size blocks base block forms → AllByRecursion (IsReadForm e size) forms
    → length (output e size (block * size) forms) ≤ k
    → IsLeft e size blocks base (block * size) (output e size (block * size) forms) k image
    → Expands e size base image forms

-- ---- an image without compressed nodes

abbrev pub NoneCompressed : Endian → ℕ → List ℕ → Type 0
NoneCompressed e size image =
    (addr compr : ℕ) → Contains (sightings e size image) (addr, seen.Compressed compr) → ⊥

-- An image that mounts also mounts through, as the same file system,
abbrev pub PlainMountsThrough : Type 0
PlainMountsThrough = (e : Endian) (size : ℕ) (image : List ℕ) (s : State)
    → MountsAs e size image s → MountsThroughAs e size image s

-- and one that mounts through mounts, where no node of it is compressed.
abbrev pub ThroughMountsPlain : Type 0
ThroughMountsPlain = (e : Endian) (size : ℕ) (image : List ℕ) (s : State)
    → MountsThroughAs e size image s → NoneCompressed e size image → MountsAs e size image s

-- ---- an image of forms alone

-- What goes out for forms from the start of the flash on has their nodes and their contents, and
-- nothing refuses it.
abbrev pub OutputExpands : Type 0
OutputExpands = (e : Endian) (size blocks : ℕ) (forms : List (List ℕ)) → IsTrue (is_block_size size)
    → AllByRecursion (IsStorableForm e size) forms → AllByRecursion (IsReadForm e size) forms
    → IsTrue (fit size blocks 0 forms) → Expands e size [] (output e size 0 forms) forms
