-- Laws of what is made in a folder. Each is a statement: it holds since a public function's
-- contract names it.
use Rattle.std.specs.Prelude.{◌≡◌, ◌≤◌, Bool, true, false, ℕ, List, [], ◌∷◌, ◌++◌, length, map, filter, take, Contains, ⊤}
use Rattle.std.specs.List.{list_all}
use Rattle.std.specs.Str.{bytes_eq, is_utf8}
use Rattle.jmount.specs.Tree.{State, is_directory}
use Rattle.jmount.specs.Find.{is_name}
use Rattle.jextract.specs.Extracts.{AreTreeOutcomes, AreFirstTreeOutcomes}
use Rattle.jextract.specs.Cells.{bytes_read, cells_of}
use Rattle.jextract.specs.Folders.{Made, Deed, Directory, File, Content, Symlink, Link, Attributed}
use Rattle.jextract.specs.Outcomes.{Outcome, all_made}
use Rattle.jextract.specs.Paths.{greatest_path, relative_path}

-- what comes of a whole tree is also a first part of it, so that the laws on such parts hold of it
abbrev pub WholeIsFirst : Type 0
WholeIsFirst = (s : State) (owners : Bool) (outcomes : List Outcome)
    → AreTreeOutcomes s owners outcomes → AreFirstTreeOutcomes s owners outcomes

-- a path of the host with these names, none of which is empty, `.` or `..`, or has a slash; no
-- names are the folder itself
abbrev pub HasNames : List ℕ → List (List ℕ) → Type 0
HasNames path names = (path ≡ relative_path names) × (list_all is_name names ≡ true)
    × (length path ≤ greatest_path) × (is_utf8 path ≡ true)

-- whatever a file system says, each path at which something is made has names that lead into the
-- folder, and is UTF-8 of at most 4,095 bytes
abbrev pub MakesInside : Type 0
MakesInside = (s : State) (owners : Bool) (outcomes : List Outcome) (made : Made)
    → AreFirstTreeOutcomes s owners outcomes
    → Contains (all_made outcomes) made → (names : List (List ℕ)) × HasNames made.path names

-- the directory with these names, as it is made
abbrev pub directory_at : List (List ℕ) → Made
directory_at names = record { path = relative_path names; deed = Directory }

-- each directory on the way to a path with these names is among what was made
abbrev pub HasWay : List Made → List (List ℕ) → Type 0
HasWay before names = (way : List (List ℕ)) (name : List ℕ) (rest : List (List ℕ))
    → names ≡ way ++ name ∷ rest → Contains before (directory_at way)

abbrev pub AreMadeBelow : List Made → List Made → Type 0
AreMadeBelow before [] = ⊤
AreMadeBelow before (made ∷ more) = ((names : List (List ℕ)) × HasNames made.path names
    × HasWay before names) × AreMadeBelow (before ++ made ∷ []) more

-- whatever a file system says, the directories on the way to what is made were made before it, the
-- folder itself first
abbrev pub MakesBelow : Type 0
MakesBelow = (s : State) (owners : Bool) (outcomes : List Outcome)
    → AreFirstTreeOutcomes s owners outcomes → AreMadeBelow [] (all_made outcomes)

-- what was done at a path, first to last
abbrev pub deeds_at : List ℕ → List Made → List Deed
deeds_at path all = map (λ made. made.deed) (filter (λ made. bytes_eq made.path path) all)

-- one object was made, if any, and it was completed once at most
abbrev pub is_one : List Deed → Bool
is_one [] = true
is_one (Directory ∷ []) = true
is_one (Directory ∷ Attributed attributes ∷ []) = true
is_one (File ∷ []) = true
is_one (File ∷ Content cells attributes ∷ []) = true
is_one (Symlink target attributes ∷ []) = true
is_one (Link first ∷ []) = true
is_one _ = false

-- rule: Listings: Each object of a folder is made once, and through no symlink.
--   definitions: jextract.Laws.MakesOnce, jextract.Laws.MakesThroughDirectories,
--   jextract.Laws.LinksLeadBack
--   code: jextract::extracting::extract
--   laws: jextract::laws::makes_once, jextract::laws::makes_through_directories,
--   jextract::laws::links_back
-- whatever a file system says, and wherever it ends, at no path was a second object made, and
-- nothing was completed twice or at a path where it was not made
abbrev pub MakesOnce : Type 0
MakesOnce = (s : State) (owners : Bool) (outcomes : List Outcome) (k : ℕ) (path : List ℕ)
    → AreFirstTreeOutcomes s owners outcomes
    → is_one (deeds_at path (take k (all_made outcomes))) ≡ true

-- a directory is made, or completed
abbrev pub is_of_directory : Deed → Bool
is_of_directory Directory = true
is_of_directory (Attributed attributes) = true
is_of_directory _ = false

-- Whatever a file system says, all that is done on the way to a path where something is made,
-- before or after, is done to directories: none of these names is that of a symlink or of a file.
abbrev pub MakesThroughDirectories : Type 0
MakesThroughDirectories = (s : State) (owners : Bool) (outcomes : List Outcome) (made other : Made)
    (way : List (List ℕ)) (name : List ℕ) (rest : List (List ℕ))
    → AreFirstTreeOutcomes s owners outcomes → Contains (all_made outcomes) made
    → HasNames made.path (way ++ name ∷ rest)
    → Contains (all_made outcomes) other → other.path ≡ relative_path way
    → is_of_directory other.deed ≡ true

-- whatever bytes a file has, it reads as them, the holes of it too
abbrev pub HolesReadBack : Type 0
HolesReadBack = (bytes : List ℕ) → bytes_read (cells_of bytes) ≡ bytes

-- a file or a symlink is made, which may have further names
abbrev pub is_linkable : Deed → Bool
is_linkable File = true
is_linkable (Symlink target attributes) = true
is_linkable _ = false

abbrev pub HasFile : List Made → List ℕ → Type 0
HasFile before path =
    (made : Made) × Contains before made × (made.path ≡ path) × (is_linkable made.deed ≡ true)

-- each further name is of what was made before
abbrev pub AreLinkedBack : List Made → List Made → Type 0
AreLinkedBack before [] = ⊤
AreLinkedBack before (made ∷ more) = ((first : List ℕ) → made.deed ≡ Link first
    → HasFile before first) × AreLinkedBack (before ++ made ∷ []) more

-- Where the root is a directory, as in each image that mounts: whatever else a file system says, a
-- further name is of a file or a symlink that was made in the folder before.
abbrev pub LinksLeadBack : Type 0
LinksLeadBack = (s : State) (owners : Bool) (outcomes : List Outcome) → is_directory s 1 ≡ true
    → AreFirstTreeOutcomes s owners outcomes
    → AreLinkedBack [] (all_made outcomes)
