-- What is stored of one name.
use Rattle.std.specs.Prelude.{◌≡◌, ◌≢◌, ℕ, ◌≤◌, List, [], ◌∷◌, Option, Some, None, IsSome, MatchOption, ⊤}
use Rattle.std.specs.Map.{lookup}
use Rattle.std.specs.Ordering.{nat_cmp, eq_by_cmp}
use Rattle.jname.specs.declared.versions.Content.{Content}
use Rattle.jname.specs.declared.sorted.Sorted.{Sorted}
use Rattle.jname.specs.declared.versions.Versions.{Versions}
use Rattle.jname.specs.declared.versions.Versions.TheVariants.{One, Several}

-- several contents, each with its version: that of the greatest, and the older ones in order
abbrev pub contents_in_order : Sorted → List (ℕ × Content)
contents_in_order sorted = (sorted.greatest, sorted.newest) ∷ sorted.older.entries

-- the one that is stored at a version
abbrev pub sorted_at : Sorted → ℕ → Option Content
sorted_at sorted v = lookup (eq_by_cmp nat_cmp v) (contents_in_order sorted)

-- the contents that are stored, each with its version
abbrev pub contents_of : Versions → List (ℕ × Content)
contents_of (One version content) = (version, content) ∷ []
contents_of (Several sorted) = contents_in_order sorted.value

-- the content that is stored at a version
abbrev pub version_at : Versions → ℕ → Option Content
version_at versions v = lookup (eq_by_cmp nat_cmp v) (contents_of versions)

-- the content of the greatest version
abbrev pub newest_of : Versions → Content
newest_of (One version content) = content
newest_of (Several sorted) = sorted.value.newest

-- something else is stored
abbrev pub Differs : Option Content → Content → Type 0
Differs None content = ⊥
Differs (Some there) content = there ≢ content

-- nothing else is stored
abbrev pub Agrees : Option Content → Content → Type 0
Agrees None content = ⊤
Agrees (Some there) content = there ≡ content

-- of what is stored at each version: this content is stored at this version, and none at a higher
-- one
abbrev pub IsTop : (ℕ → Option Content) → ℕ → Content → Type 0
IsTop at v content = (at v ≡ Some content) × ((w : ℕ) → IsSome (at w) → w ≤ v)

-- r is the inode number at the highest version, where that is not 0
abbrev pub IsLiveIn : (ℕ → Option Content) → Option ℕ → Type 0
IsLiveIn at r = MatchOption r
    ((v : ℕ) (content : Content) → IsTop at v content → content.ino ≡ 0)
    (λ ino. (ino ≢ 0) × ((v : ℕ) × (content : Content) × IsTop at v content × (content.ino ≡ ino)))
