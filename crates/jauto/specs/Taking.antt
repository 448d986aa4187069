-- What is taken of what an image tells of itself.
use Rattle.std.specs.Prelude.{ℕ, ◌==◌, ◌&&◌, not, Bool, false, Option, Some, None, if◌then◌else◌}
use Rattle.jnode.specs.declared.order.Endian.{Endian}
use Rattle.jhint.specs.Hints.{size_to_read}
use Rattle.jinfo.specs.declared.info.Info.{Info}
use Rattle.jinfo.specs.declared.sizes.SizeRange.{SizeRange}
use Rattle.jcommand.specs.Parsed.{options_of}
use Rattle.jauto.specs.declared.taking.Taking.{Taking}
use Rattle.jauto.specs.declared.taking.Taking.TheVariants as taking

-- one size alone fits
abbrev pub is_one_size : Option SizeRange → Bool
is_one_size None = false
is_one_size (Some range) = range.least == range.greatest

-- For a command that writes an image one size alone has to fit; for any other the greatest serves,
-- since no node passes the end of a block of it.
abbrev pub taking_by : Bool → Option SizeRange → Option Endian → Taking
taking_by writes sizes None = taking.Nothing
taking_by writes sizes (Some order) =
    if writes && not (is_one_size sizes) then taking.Unclear order sizes
    else taking.Taken (options_of (size_to_read sizes) order)

-- rule: What is printed: What `--auto` takes of an image.
--   definitions: jauto.Taking.taking_of, jauto.Looking.auto_act
--   code: jauto::taking::taking_of, jauto::looking::look
--   laws: jauto::laws::options_are_found, jauto::laws::known_takings
abbrev pub taking_of : Bool → Info → Taking
taking_of writes info = taking_by writes info.census.sizes info.order
