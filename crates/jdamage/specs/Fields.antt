-- What the fields of a damaged entry node say whose node_crc is right (Linux,
-- include/uapi/linux/jffs2.h: `struct jffs2_raw_dirent`).
use Rattle.std.specs.Prelude.{ℕ, List, filter_map, Option, Some, None}
use Rattle.jnode.specs.declared.order.Endian.{Endian}
use Rattle.jnode.specs.declared.node.Damage.{Damage}
use Rattle.jnode.specs.declared.node.Seen.{Seen}
use Rattle.jnode.specs.declared.node.Seen.TheVariants as seen
use Rattle.jscan.specs.Image.{sightings}
use Rattle.jgaps.specs.Fields.{field_at}
use Rattle.jdamage.specs.declared.fields.Loss.{Loss}

-- rule: What is printed: What the fields of a damaged node say.
--   definitions: jgaps.Fields.stretch_at, jdamage.Fields.loss_at
--   code: jgaps::fields::stretch_at, jdamage::fields::loss_at
-- its directory, version and object
abbrev pub loss_at : Endian → List ℕ → ℕ → Loss
loss_at e image addr = record {
  pino = field_at e image addr 12;
  version = field_at e image addr 16;
  ino = field_at e image addr 20;
}

-- ---- the nodes of an image

-- the damaged entry and inode nodes, each with its address and the check that it fails first
abbrev pub damaged_if : ℕ → Seen → Option (ℕ × Damage)
damaged_if addr (seen.Damaged which) = Some (addr, which)
damaged_if addr _ = None

abbrev pub damaged_nodes : Endian → ℕ → List ℕ → List (ℕ × Damage)
damaged_nodes e size image = filter_map (λ s. damaged_if s.0 s.1) (sightings e size image)
