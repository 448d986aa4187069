-- Names of one regular file: each name after the first is a link to the first.
use Rattle.std.specs.Prelude.{◌≡◌, ◌<◌, ℕ, List, length, AllPairs, Contains, IfSome, Option, Some, None, slice_index_or}
use Rattle.std.specs.BTreeMap.{BTreeMap, Updates, get}
use Rattle.std.specs.Ordering.{nat_cmp, ordering_then}
use Rattle.std.specs.String.{string_bytes}
use Rattle.std.specs.declared.cmp.Ordering.{Ordering}
use Rattle.jfolder.specs.Known.{Known, inside}
use Rattle.jfolder.specs.Objects.{kind_bits}
use Rattle.jfolder.specs.Trees.{IsRegular}
use Rattle.jfolder.specs.declared.found.Found.{Found}
use Rattle.jfolder.specs.declared.host.Looked.{Looked}
use Rattle.jfolder.specs.declared.tree.Item.{Item}
use Rattle.jfolder.specs.declared.tree.What.{What}
use Rattle.jfolder.specs.declared.tree.What.TheVariants as what

-- a regular file that has other names
abbrev pub HasOtherNames : Looked → Type 0
HasOtherNames told = (kind_bits told.mode ≡ 8) × (1 < told.links)

-- a file by its device and its number there
abbrev pub FileId : Type 0
FileId = ℕ × ℕ

abbrev pub id_of : Looked → FileId
id_of told = (told.device, told.number)

-- this path is known to be a name of this file, a regular one that has other names
abbrev pub IsNameOf : Known → FileId → List ℕ → Type 0
IsNameOf known file path = (told : Looked) × (known.looked (inside path) ≡ Some told)
    × HasOtherNames told × (file ≡ id_of told)

abbrev pub IsLinkTo : List ℕ → What → Type 0
IsLinkTo path (what.Link first) = string_bytes first ≡ path
IsLinkTo path _ = ⊥

-- what lies at a path is a link to an earlier regular file, where both are known to be names of one
-- file
abbrev pub IsLinked : Known → Item → List ℕ → What → Type 0
IsLinked known i path w = IsRegular i.what → (file : FileId)
    → IsNameOf known file (string_bytes i.path) → IsNameOf known file path
    → IsLinkTo (string_bytes i.path) w

-- rule: Listings: Each further name of a regular file is a link to its first.
--   definitions: jfolder.Links.AreLinked, jfolder.Links.IsLinked, jfolder.Links.IsNameOf
--   code: jfolder::reading::read_folder
-- each further name of a regular file is a link to its first
abbrev pub AreLinked : Known → List Item → Type 0
AreLinked known items = AllPairs (λ i j. IsLinked known i (string_bytes j.path) j.what) items

-- ---- the first names that a walk remembers

-- the item of the first name of each file, by its index
abbrev pub Firsts : Type 0
Firsts = BTreeMap FileId ℕ

abbrev pub file_cmp : FileId → FileId → Ordering
file_cmp a b = ordering_then (nat_cmp a.0 b.0) (nat_cmp a.1 b.1)

-- this item is remembered as the first name of a file
abbrev pub IsFirst : List Item → Firsts → FileId → Item → Type 0
IsFirst items firsts file i = (k : ℕ) × (k < length items) × (slice_index_or items k i ≡ i)
    × (get file_cmp firsts file ≡ Some k)

-- each regular file among the items is remembered, if it is known to have other names
abbrev pub FirstsFit : Known → List Item → Firsts → Type 0
FirstsFit known items firsts = (k : ℕ) (i : Item) (file : FileId) → k < length items
    → slice_index_or items k i ≡ i → IsRegular i.what → IsNameOf known file (string_bytes i.path)
    → get file_cmp firsts file ≡ Some k

pub record WalkLinks (known : Known) (items : List Item) (firsts : Firsts) : Type 0 where
  pub linked : AreLinked known items
  pub firsts_fit : FirstsFit known items firsts

-- this is what other names of a file are known by, if it has any
pub record IsIdentity (told : Looked) (identity : Option FileId) : Type 0 where
  pub every : HasOtherNames told → identity ≡ Some (id_of told)
  pub only : IfSome identity (λ file. HasOtherNames told × (file ≡ id_of told))

-- a file is among the items
abbrev pub IsMet : Known → List Item → FileId → Type 0
IsMet known items file =
    (i : Item) × Contains items i × IsRegular i.what × IsNameOf known file (string_bytes i.path)

-- what is found at a path after these items is a link if it is a further name of a file, and has
-- the identity of a file only if it is the first
pub record LinksFit (known : Known) (items : List Item) (path : List ℕ) (found : Found) : Type
    0 where
  pub linked : (i : Item) → Contains items i → IsLinked known i path found.what
  pub named : IsRegular found.what → (file : FileId) → IsNameOf known file path
      → found.identity ≡ Some file
  pub new : IfSome found.identity (λ file. IsMet known items file → ⊥)

-- the item at an index is remembered, if it is the first name of a file
abbrev pub Remembers : Option FileId → ℕ → Firsts → Firsts → Type 0
Remembers None at old new = new ≡ old
Remembers (Some file) at old new = Updates file_cmp old new file (Some at)
