-- What a handle owns.
use Rattle.std.specs.Prelude.{Bool, true, false, []}
use mir.Syntax.{static}
use base.Fml.{Fml, ftrue}
use denote.RattleType.{RattleType}
use denote.RawPtr.{Ptr}
use Rattle.std.specs.contracts.impls.GlobalAllocator.TheImpl.{ghosts}
use Rattle.std.specs.declared.alloc.Global.{Global}
use Rattle.std_alloc.specs.Box.Ownership.{box_owns}
use Rattle.jmount.specs.Mount.{Mount}
use Rattle.jmount.specs.contracts.mounted.Mounted as mounted

-- a mount of an image that stays for ever, as the logic describes its type
abbrev pub kept_row : RattleType
kept_row = mounted.the_row (record { mir = static; lft = [] })

-- the allocator of the C heap, whose values are all alike
abbrev pub heap : Global
heap = record { memory = record { seal = tt } }

-- the box at its address, if it is open
abbrev pub held_owns : Ptr → Bool → Mount → Fml
held_owns at true value = box_owns (ghosts.dealloc_token heap) kept_row at value
held_owns at false value = ftrue
