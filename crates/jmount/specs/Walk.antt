-- The objects that are stored, one by one.
use Rattle.std.specs.Prelude.{ℕ, List, map}
use Rattle.jmount.specs.declared.stored.Stored.{Stored}
use Rattle.jmount.specs.declared.object.Object.{Object}
use Rattle.jmount.specs.Shown.{shown}
use Rattle.jmount.specs.Stored.{stored_object}

-- an object as callers see it, with its number
abbrev pub shown_entry : ℕ × Stored → ℕ × Object
shown_entry e = (e.0, shown (stored_object e.1))

abbrev pub shown_entries : List (ℕ × Stored) → List (ℕ × Object)
shown_entries es = map shown_entry es
