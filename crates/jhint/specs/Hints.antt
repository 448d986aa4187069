-- The byte order and the block size that an image shows, where it was read with others.
use Rattle.std.specs.Prelude.{ℕ, ◌&&◌, Bool, true, false, nat_le, nat_lt, List, [], ◌++◌, length, codes, decimal, Option, Some, None, if◌then◌else◌}
use Rattle.jnode.specs.declared.order.Endian.{Endian}
use Rattle.jnode.specs.declared.order.Endian.TheVariants.{Little, Big}
use Rattle.jscan.specs.Image.{greatest_image}
use Rattle.jinfo.specs.Infos.{info_of}
use Rattle.jinfo.specs.InfoText.{order_name}
use Rattle.jinfo.specs.declared.info.Info.{Info}
use Rattle.jinfo.specs.declared.sizes.SizeRange.{SizeRange}
use Rattle.jhint.specs.declared.hint.Hint.{Hint}

-- The size of blocks that serves to read: the greatest that fits, or that blocks have where nothing
-- tells. No node passes the end of a block of it.
abbrev pub size_to_read : Option SizeRange → ℕ
size_to_read None = 4194304
size_to_read (Some range) = range.greatest

-- blocks of this size fit, as far as anything tells
abbrev pub may_have : Option SizeRange → ℕ → Bool
may_have None block = true
may_have (Some range) block = nat_le range.least block && nat_le block range.greatest

abbrev pub is_same_order : Endian → Endian → Bool
is_same_order Little Little = true
is_same_order Big Big = true
is_same_order Little Big = false
is_same_order Big Little = false

-- nothing is hinted at if no node is found, or if the order is the image's and the size may be
abbrev pub hint_by : Endian → ℕ → Option Endian → Option SizeRange → Option Hint
hint_by order block None sizes = None
hint_by order block (Some found) sizes =
    if is_same_order found order && may_have sizes block then None
    else Some (record { order = found; block = size_to_read sizes })

abbrev pub hint_in : Endian → ℕ → Info → Option Hint
hint_in order block info = hint_by order block info.order info.census.sizes

-- rule: What is printed: The byte order and the block size that an image shows, if it was read with
--   others.
--   definitions: jhint.Hints.hint_of, jhint.Hints.hint_line
--   code: jhint::hint::hint_of, jhint::line::put_hint
--   laws: jhint::examples::known_hints
-- what an image shows that was read in this order and in blocks of this size; nothing if it is
-- longer than an image can be
unfoldable pub hint_of : Endian → ℕ → List ℕ → Option Hint
hint_of order block image = if nat_lt greatest_image (length image) then None
    else hint_in order block (info_of image)

-- ---- what standard error is told of it

unfoldable pub hint_line : Hint → List ℕ
hint_line hint = codes "jffs2_image: note: this looks like --endian " ++ order_name hint.order
    ++ codes " --block " ++ decimal hint.block ++ codes " (or --auto)\n"

abbrev pub hint_lines : Option Hint → List ℕ
hint_lines None = []
hint_lines (Some hint) = hint_line hint
