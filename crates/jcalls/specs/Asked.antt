-- What a caller asks for.
use Rattle.std.specs.Prelude.{◌==◌, ℕ, Bool, not, if◌then◌else◌}
use Rattle.jnode.specs.declared.order.Endian.{Endian}
use Rattle.jnode.specs.declared.order.Endian.TheVariants.{Little, Big}
use Rattle.jcalls.specs.declared.how.How.{How}

-- a number that asks for something unless it is 0
abbrev pub is_asked : ℕ → Bool
is_asked number = not (number == 0)

abbrev pub is_big : How → Bool
is_big how = not (how.big == 0)

-- whether compressed data are read through
abbrev pub is_through : How → Bool
is_through how = not (how.through == 0)

abbrev pub asked_order : How → Endian
asked_order how = if is_big how then Big else Little
