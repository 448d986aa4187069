-- What is put for the forms of steps into a row of openings.
use Rattle.std.specs.Prelude.{◌≡◌, ℕ, ◌+◌, ◌-◌, ◌*◌, ◌<◌, ◌≤◌, nat_le, List, [], ◌∷◌, ◌++◌, length, map, filter, take, Option, Result, Ok, Err}
use Rattle.std.specs.Io.KnownBytes.{Appends}
use Rattle.flashbase.specs.Device.{next_count}
use Rattle.flashbase.specs.Sinks.{SinkChange}
use Rattle.flashbase.specs.declared.sink.PutFault.{PutFault}
use Rattle.jnode.specs.declared.order.Endian.{Endian}
use Rattle.jsteps.specs.Nodes.{Indexed, advanced_all}
use Rattle.jsteps.specs.declared.step.Step.{Step}
use Rattle.jlog.specs.Running.{shown_place}
use Rattle.jlog.specs.declared.report.Place.{Place}
use Rattle.jlog.specs.declared.writing.Stop.{Stop}
use Rattle.jlog.specs.declared.writing.Stop.TheVariants as stop
use Rattle.jrests.specs.Shares.{Share, shares, share_places, places_in, output_to}
use Rattle.jrests.specs.declared.opening.Opening.{Opening}
use Rattle.jopenings.specs.After.{row_after_all, output_to_all}
use Rattle.jopenings.specs.Stretches.{longer, stretches_of}
use Rattle.jopenings.specs.declared.placing.Stretch.{Stretch}

-- a log in a row of openings: the row that is left, what operations are planned on, and the places
-- told of its nodes
pub record LogIn : Type 0 where
  pub row : List Opening
  pub index : Indexed
  pub places : List Place

abbrev pub log_in : List Opening → Indexed → List Place → LogIn
log_in row index places = record { row = row; index = index; places = places }

-- ---- which places are told

-- of the places of a share those of the forms whose bytes are all among the first t that go out to
-- its opening
abbrev pub share_places_out : ℕ → Share → ℕ → List (ℕ × ℕ)
share_places_out size share t =
    filter (λ place. nat_le (place.0 + place.1) (share.0.block * size + share.0.place + t))
    (share_places size share)

-- the same of several shares, to which bytes go out one share after the other
abbrev pub places_out : Endian → ℕ → List Share → ℕ → List (ℕ × ℕ)
places_out e size [] t = []
places_out e size (share ∷ shares) t =
    share_places_out size share t
    ++ places_out e size shares (t - length (output_to e size share))

-- ---- one form

-- The sink took exactly the first t bytes of what goes out for a form to an opening, and its place
-- is told if its bytes all went out.
pub record IsFormPart (e : Endian) (size : ℕ) (share : Share) (t : ℕ) (before after : List Place)
    (old new : Option (List ℕ)) : Type 0 where
  pub within : t ≤ length (output_to e size share)
  pub bytes : Appends old new (take t (output_to e size share))
  pub places : after ≡ before ++ map shown_place (share_places_out size share t)

-- Putting a form into the block of an opening: all that goes out for it; or, where the sink failed,
-- a beginning.
abbrev pub PutsOneForm : Endian → ℕ → Opening → List ℕ → List Place → List Place → SinkChange
    → Result (Unit {0}) PutFault → Type 0
PutsOneForm e size o form before after sink (Ok _) =
    Appends sink.old sink.new (output_to e size (o, form ∷ []))
    × (after ≡ before ++ map shown_place (share_places size (o, form ∷ [])))
    × (sink.now ≡ sink.before)
PutsOneForm e size o form before after sink (Err _) =
    ((t : ℕ) × IsFormPart e size (o, form ∷ []) t before after sink.old sink.new)
    × (sink.now ≡ next_count sink.before)

-- ---- the forms of steps

-- rule: The log: What goes out for nodes in blank blocks and the rests of begun ones.
--   definitions: jupdate.Writing.IsPutIn, jupdate.Writing.IsPutPartIn
--   code: jupdate::writing::put_steps
-- The sink took exactly what goes out for the forms, one a step, each at its place in the row, and
-- the log goes on in the row that is then left.
pub record IsPutIn (e : Endian) (size : ℕ) (from : LogIn) (steps : List Step)
    (forms : List (List ℕ)) (to : LogIn) (old new : Option (List ℕ)) : Type 0 where
  pub row : to.row ≡ row_after_all size from.row forms
  pub index : to.index ≡ advanced_all from.index steps
  pub bytes : Appends old new (output_to_all e size (shares size from.row forms))
  pub places : to.places
      ≡ from.places ++ map shown_place (places_in size (shares size from.row forms))

-- The sink took exactly the first t bytes of it, and the places are those of the forms whose bytes
-- all went out.
pub record IsPutPartIn (e : Endian) (size : ℕ) (from : LogIn) (forms : List (List ℕ)) (t : ℕ)
    (told : List Place) (old new : Option (List ℕ)) : Type 0 where
  pub within : t ≤ length (output_to_all e size (shares size from.row forms))
  pub bytes : Appends old new (take t (output_to_all e size (shares size from.row forms)))
  pub places : told
      ≡ from.places ++ map shown_place (places_out e size (shares size from.row forms) t)

-- Putting the forms of steps: all of them; or a beginning, where the sink failed, or where memory
-- ran out; or, out of memory, nothing.
abbrev pub PutsIn : Endian → ℕ → LogIn → List Step → List (List ℕ) → LogIn → SinkChange
    → Result (Unit {0}) Stop → Type 0
PutsIn e size from steps forms to sink (Ok _) =
    IsPutIn e size from steps forms to sink.old sink.new × (sink.now ≡ sink.before)
PutsIn e size from steps forms to sink (Err stop.Sink) =
    ((t : ℕ) × IsPutPartIn e size from forms t to.places sink.old sink.new)
    × (sink.now ≡ next_count sink.before)
PutsIn e size from steps forms to sink (Err stop.Begun) =
    ((t : ℕ) × (0 < t) × IsPutPartIn e size from forms t to.places sink.old sink.new)
    × (sink.now ≡ sink.before)
PutsIn e size from steps forms to sink (Err stop.Unbegun) =
    (to.row ≡ from.row) × (to.index ≡ from.index) × Appends sink.old sink.new []
    × (to.places ≡ from.places) × (sink.now ≡ sink.before)

-- What that leaves of what went out to each opening, where all went out, or nothing.
abbrev pub GrowsBy : Endian → ℕ → List Opening → List (List ℕ) → List Stretch → List Stretch
    → Result (Unit {0}) Stop → Type 0
GrowsBy e size row forms old new (Ok _) =
    new ≡ longer (stretches_of e size (shares size row forms)) old
GrowsBy e size row forms old new (Err stop.Sink) = Unit {0}
GrowsBy e size row forms old new (Err stop.Begun) = Unit {0}
GrowsBy e size row forms old new (Err stop.Unbegun) = new ≡ old
