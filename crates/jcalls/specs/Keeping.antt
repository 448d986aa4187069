-- A mount that is kept from call to call.
use Rattle.std.specs.Prelude.{◌≡◌, ℕ, true, Some, None}
use Rattle.jheld.specs.declared.held.Handle.{Handle}
use Rattle.jmount.specs.Tree.{State}
use Rattle.jmount.specs.declared.object.Object.{Object}
use Rattle.jcalls.specs.Rows.{object_seen, stat_row}
use Rattle.jcalls.specs.declared.rows.Stat.{Stat}

-- a handle has the mount that it had, or none as before
abbrev pub StaysAs : Handle → Handle → Type 0
StaysAs old new = (new.is_open ≡ old.is_open) × (old.is_open ≡ true → new.value ≡ old.value)

-- the row shows the object of this number
abbrev pub IsObjectOf : State → ℕ → Stat → Type 0
IsObjectOf s number row =
    (o : Object) × (object_seen s number ≡ Some o) × (row ≡ stat_row number o)

-- there is none
abbrev pub LacksObject : State → ℕ → Type 0
LacksObject s number = object_seen s number ≡ None
