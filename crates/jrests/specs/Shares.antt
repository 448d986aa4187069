-- A log that is written to a row of openings: what goes to each, and where it lies.
use Rattle.std.specs.Prelude.{ℕ, suc, ◌+◌, ◌*◌, ◌==◌, nat_le, Bool, List, [], ◌∷◌, length, map, take, drop, flat_map, if◌then◌else◌}
use Rattle.jnode.specs.declared.order.Endian.{Endian}
use Rattle.jlog.specs.Places.{place_after, end_after, places}
use Rattle.jlog.specs.Output.{output}
use Rattle.jrests.specs.declared.opening.Opening.{Opening}

-- how many of some forms a block takes from a place on: the first ones, up to one that would cross
-- its end
abbrev pub taken_from : ℕ → ℕ → List (List ℕ) → ℕ
taken_from size place [] = 0
taken_from size place (form ∷ forms) =
    if nat_le (place_after size place (length form) + length form) size then suc
    (taken_from size (end_after size place (length form)) forms) else 0

-- what goes to an opening
abbrev pub Share : Type 0
Share = Opening × List (List ℕ)

-- rule: The log: Where nodes go in blank blocks and the rests of begun ones.
--   definitions: jrests.Shares.shares, jrests.Shares.places_in
--   laws: jrests::laws::shares_hold_all, jrests::examples::three_pages_and_an_entry,
--   jrests::examples::begun_before_and_between
-- Each form goes to the first opening, from that of the one before it on, whose block it does not
-- cross.
abbrev pub shares : ℕ → List Opening → List (List ℕ) → List Share
shares size [] forms = []
shares size (o ∷ row) forms =
    let n =
    taken_from size o.place forms in (o, take n forms) ∷ shares size row (drop n forms)

-- those for which no opening is left
abbrev pub left_out : ℕ → List Opening → List (List ℕ) → List (List ℕ)
left_out size [] forms = forms
left_out size (o ∷ row) forms = left_out size row (drop (taken_from size o.place forms) forms)

-- all have their places
abbrev pub fit_in : ℕ → List Opening → List (List ℕ) → Bool
fit_in size row forms = length (left_out size row forms) == 0

-- ---- places and bytes

-- where the forms of a share lie on the flash, each with its length
abbrev pub share_places : ℕ → Share → List (ℕ × ℕ)
share_places size share = map (λ place. (share.0.block * size + place.0, place.1))
    (places size share.0.place share.1)

abbrev pub places_in : ℕ → List Share → List (ℕ × ℕ)
places_in size shares = flat_map (share_places size) shares

-- what goes out to an opening: a blank block gets its marker, a begun one no second
abbrev pub output_to : Endian → ℕ → Share → List ℕ
output_to e size share = output e size share.0.place share.1
