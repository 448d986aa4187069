-- The blocks that Linux keeps free for its garbage collector.
use Rattle.std.specs.Prelude.{ℕ, ◌+◌, ◌*◌, ◌/◌}
use Rattle.std.specs.Int.{div_ceil}

-- rule: Building and extending: The blocks that Linux keeps in reserve.
--   definitions: jreserve.Reserve.linux_reserve
--   code: jreserve::reserve::linux_reserve
--   laws: jreserve::examples::known_reserves
-- Two blocks for deletion, and those that hold a fiftieth of the flash and 100 bytes for each of
-- its blocks: Linux fs/jffs2/build.c, jffs2_calc_trigger_levels, resv_blocks_write.
abbrev pub linux_reserve : ℕ → ℕ → ℕ
linux_reserve block blocks = 2 + div_ceil (block * blocks / 50 + 100 * blocks) block
