-- What a source over a region of a file still gives, and what the file still must have.
use Rattle.std.specs.Prelude.{◌≡◌, ℕ, ◌+◌, ◌-◌, Bool, List, length, nat_le, Option, IfSome, option_map, unwrap_or, Result, Ok, Err}
use Rattle.std.specs.Io.KnownBytes.{Consumes}
use Rattle.flashbase.specs.Device.{next_count}
use Rattle.jspare.specs.Paging.{left_by, source_below}
use Rattle.jspare.specs.Regions.{cut_out}
use Rattle.jspare.specs.declared.part.Place.{Place}
use Rattle.jspare.specs.declared.part.RegionFault.{RegionFault}
use Rattle.jspare.specs.declared.part.RegionFault.TheVariants.{Device, EndsEarly}
use Rattle.jspare.specs.declared.part.RegionSource.{RegionSource}

-- the bytes of the image that are left at a place
abbrev pub region_left : Place → List ℕ → List ℕ
region_left place bytes = cut_out place.before place.left bytes

-- how many bytes must still come of the file, those before the image included
abbrev pub bytes_due : Place → ℕ
bytes_due place = place.before + unwrap_or place.left place.least

-- known bytes lack as many of those that are due as before
abbrev pub KeepsMissing : Option (List ℕ) → ℕ → Option (List ℕ) → ℕ → Type 0
KeepsMissing old due_before new due = IfSome old (λ xs. IfSome new (λ ys.
    due - length ys ≡ due_before - length xs))

-- Some bytes were skipped, and as many fewer are left before the image.
abbrev pub Skips : Option (List ℕ) → Option (List ℕ) → ℕ → ℕ → Type 0
Skips old new before_old before_new = (bs : List ℕ) × Consumes old new bs
    × (before_old ≡ length bs + before_new)

-- The source of the file failed exactly where it is blamed.
abbrev pub CountsRegion : {T : Type 0} → ℕ → ℕ → Result T RegionFault → Type 0
CountsRegion before now (Ok _) = now ≡ before
CountsRegion before now (Err Device) = now ≡ next_count before
CountsRegion before now (Err EndsEarly) = now ≡ before

-- the source of the file
abbrev pub file_below : {S : Type 0} → RegionSource S → S
file_below part = source_below part.pages

-- it failed because the file ends before the region does
abbrev pub ends_early : {S : Type 0} → RegionSource S → Bool
ends_early part = part.ends_early

-- The file has all bytes of the region that must still come, if its bytes are known.
abbrev pub has_rest : {S : Type 0} → (S → Option (List ℕ)) → RegionSource S → Option Bool
has_rest rest part = option_map (λ bytes. nat_le (bytes_due part.place)
    (length (left_by part.pages.layout part.pages.left bytes))) (rest part.pages.source)

-- if both are known, they are the same
abbrev pub SameIfKnown : Option Bool → Option Bool → Type 0
SameIfKnown old new = IfSome old (λ before. IfSome new (λ now. now ≡ before))
