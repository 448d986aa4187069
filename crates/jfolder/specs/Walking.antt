-- A walk through a folder: what is found at a path, and which paths are still to visit.
use Rattle.std.specs.Prelude.{◌≡◌, ◌≤◌, ◌++◌, ◌∷◌, [], ℕ, Bool, true, List, length, All, Contains, IsTrue, IsSome, IfSome, IfNone, Option, String, bit_and, pos}
use Rattle.std.specs.declared.alloc.Global.{Global}
use Rattle.std.specs.String.{string_bytes}
use Rattle.jmount.specs.Find.{IsPath, is_name}
use Rattle.jfolder.specs.Actions.{AttributesFit, ItemFits, WhatFits}
use Rattle.jfolder.specs.Known.{Known, inside}
use Rattle.jfolder.specs.Objects.{IsObjectTold}
use Rattle.jfolder.specs.Order.{is_before}
use Rattle.jfolder.specs.Trees.{HasDirectory, HasTarget, IsRegular, IsTree, LinksBack, Rise}
use Rattle.jfolder.specs.declared.found.Found.{Found}
use Rattle.jfolder.specs.declared.found.Options.{Options}
use Rattle.jfolder.specs.declared.host.Looked.{Looked}
use Rattle.jfolder.specs.declared.tree.Attributes.{Attributes}
use Rattle.jfolder.specs.declared.tree.Item.{Item}
use Rattle.jfolder.specs.declared.tree.What.TheVariants as what

-- rule: Listings: The owner and the time that take the place of the host's.
--   definitions: jfolder.Walking.HasOptions
--   code: jfolder::reading::read_folder
-- the owner and the time that the options give take the place of what the host tells
pub record HasOptions (options : Options) (a : Attributes) : Type 0 where
  pub owner : IfSome options.owner (λ o. (a.uid ≡ o.uid) × (a.gid ≡ o.gid))
  pub time : IfSome options.time (λ t. a.time ≡ t)

-- rule: Listings: An object is read as the host reports it.
--   definitions: jfolder.Walking.IsTold, jfolder.Walking.IsItemTold, jfolder.Objects.IsObjectTold
--   code: jfolder::reading::read_folder, jfolder::found::attributes_of, jfolder::found::first_found
-- what an object gets else: its permission bits, its owner and its time
pub record IsTold (options : Options) (told : Looked) (a : Attributes) : Type 0 where
  pub mode : a.mode ≡ bit_and told.mode 0o7777
  pub owner : IfNone options.owner ((a.uid ≡ told.uid) × (a.gid ≡ told.gid))
  pub time : IfNone options.time (pos a.time ≡ told.time)

-- that of the object at a path, where it is known what the host tells there
abbrev pub IsToldAt : (List ℕ → Option Looked) → Options → List ℕ → Attributes → Type 0
IsToldAt host options path a = IfSome (host path) (λ told. IsTold options told a)

abbrev pub IsItemTold : (List ℕ → Option Looked) → Options → Item → Type 0
IsItemTold host options i = IsToldAt host options (inside (string_bytes i.path)) i.attributes

-- ---- names and paths

abbrev pub IsShortName : List ℕ → Type 0
IsShortName name = IsTrue (is_name name) × (length name ≤ 254)

-- the path of a name in the directory of this path
pub record IsChild (directory : List ℕ) (child : List ℕ) : Type 0 where
  pub name : List ℕ
  pub fits : IsShortName name
  pub text : child ≡ directory ++ 47 ∷ name

-- the path of a name in the root, or in an earlier directory
pub record IsPending (before : List Item) (text : List ℕ) : Type 0 where
  pub way : List (List ℕ)
  pub name : List ℕ
  pub path : IsPath text (way ++ name ∷ [])
  pub short : length name ≤ 254
  pub directory : HasDirectory before way

-- whether a path comes after that of the last item
abbrev pub comes_next : List Item → List ℕ → Bool
comes_next [] text = true
comes_next (i ∷ []) text = is_before (string_bytes i.path) text
comes_next (i ∷ j ∷ items) text = comes_next (j ∷ items) text

-- the path of an earlier regular file
abbrev pub IsFileOf : List Item → List ℕ → Type 0
IsFileOf before text =
    (i : Item) × Contains before i × (string_bytes i.path ≡ text) × IsRegular i.what

-- ---- what is found at a path, after these items

pub record FoundFits (options : Options) (before : List Item) (found : Found) : Type 0 where
  pub attributes_fit : AttributesFit found.attributes
  pub options_hold : HasOptions options found.attributes
  pub what_fits : WhatFits found.what
  pub link : LinksBack before found.what
  pub target : HasTarget found.what
  pub directory : IsSome found.names → found.what ≡ what.Directory

abbrev pub item_of : String Global → Found → Item
item_of path found = record { path = path; attributes = found.attributes; what = found.what }

-- ---- the walk so far

-- what was read is a tree in its order, and each path that is still to visit lies in it
pub record WalkFits (known : Known) (options : Options) (items : List Item)
    (pending : List (String Global)) : Type 0 where
  pub items_fit : All ItemFits items
  pub tree : IsTree items
  pub rise : Rise items
  pub options_hold : All (λ i. HasOptions options i.attributes) items
  pub told : All (IsItemTold known.looked options) items
  pub objects : All (IsObjectTold known) items
  pub pending_fit : All (λ p. IsPending items (string_bytes p)) pending

-- items were added behind these
abbrev pub IsMore : List Item → List Item → Type 0
IsMore items new = (more : List Item) × (new ≡ items ++ more)
