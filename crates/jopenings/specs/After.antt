-- A row of openings after forms were put to it: what is left of it, and what went out.
use Rattle.std.specs.Prelude.{ℕ, ◌+◌, nat_le, Bool, List, [], ◌∷◌, length, map, flat_map, if◌then◌else◌}
use Rattle.jnode.specs.declared.order.Endian.{Endian}
use Rattle.jlog.specs.Places.{place_after, end_after}
use Rattle.jrests.specs.Shares.{Share, output_to}
use Rattle.jrests.specs.declared.opening.Opening.{Opening}

-- the block of an opening takes a form
abbrev pub takes : ℕ → Opening → List ℕ → Bool
takes size o form = nat_le (place_after size o.place (length form) + length form) size

-- an opening behind a form that it took
abbrev pub moved_opening : ℕ → Opening → List ℕ → Opening
moved_opening size o form = record { block = o.block; place = end_after size o.place (length form) }

-- rule: The log: What is left of a row of openings after nodes.
--   definitions: jopenings.After.row_after_all
--   laws: jopenings::laws::row_goes_on, jopenings::laws::fronts_are_row
-- What is left of a row after a form: the openings from the first one that takes it on, that one
-- behind it. Where none takes it, none is left.
abbrev pub row_after : ℕ → List Opening → List ℕ → List Opening
row_after size [] form = []
row_after size (o ∷ row) form =
    if takes size o form then moved_opening size o form ∷ row else row_after size row form

-- the same after all of some forms, each after the one before it
abbrev pub row_after_all : ℕ → List Opening → List (List ℕ) → List Opening
row_after_all size row [] = row
row_after_all size row (form ∷ forms) = row_after_all size (row_after size row form) forms

-- what goes out to some shares, one after the other
abbrev pub output_to_all : Endian → ℕ → List Share → List ℕ
output_to_all e size shares = flat_map (output_to e size) shares

-- the openings of blank blocks: each begins with its block
abbrev pub fronts : List ℕ → List Opening
fronts blocks = map (λ b. record { block = b; place = 0 }) blocks
