-- What is told of operations that were all accepted.
use Rattle.std.specs.Prelude.{ℕ, ◌+◌, ◌-◌, List, [], ◌∷◌, ◌++◌, length, slice_get, codes, decimal}
use Rattle.std.specs.Option.{option_map_or}
use Rattle.flashbase.specs.Bytes.{pad4_of}
use Rattle.jlog.specs.declared.report.Place.{Place}

-- where what was written from an address on ends: after the last node, and its padding
abbrev pub end_of_places : ℕ → List Place → ℕ
end_of_places from places = option_map_or (λ place. pad4_of (place.addr + place.totlen))
    (slice_get places (length places - 1)) from

-- rule: Building and extending: The line on it.
--   definitions: jbuild.Accepted.accepted_line, jbuild.Length.TellsLength
--   code: jbuild::accepted::put_accepted
--   laws: jbuild::laws::line_tells_length
-- so many operations were accepted, their nodes have these places, and so many bytes went out for
-- them
abbrev pub accepted_line : ℕ → ℕ → List Place → List ℕ
accepted_line from ops places =
    codes "accepted " ++ decimal ops ++ codes " nodes " ++ decimal (length places)
    ++ codes " bytes " ++ decimal (end_of_places from places - from) ++ 10 ∷ []
