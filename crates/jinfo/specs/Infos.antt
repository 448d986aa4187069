-- What an image of unknown byte order and block size tells of itself.
use Rattle.std.specs.Prelude.{ℕ, ◌==◌, nat_lt, List, length, Option, Some, None, if◌then◌else◌}
use Rattle.jnode.specs.Writing.{filled}
use Rattle.jnode.specs.declared.order.Endian.{Endian}
use Rattle.jnode.specs.declared.order.Endian.TheVariants.{Little, Big}
use Rattle.jinfo.specs.Census.{walk_of, node_counts_of, data_counts_of, highest_of}
use Rattle.jinfo.specs.BlockSizes.{marker_count, size_range_of}
use Rattle.jinfo.specs.declared.census.Census.{Census}
use Rattle.jinfo.specs.declared.info.Info.{Info}

-- what the nodes are in one byte order
abbrev pub census_of : Endian → List ℕ → Census
census_of e image =
    let walk = walk_of e image in
    record {
      nodes = node_counts_of walk;
      storage = data_counts_of walk;
      markers = marker_count walk;
      sizes = size_range_of walk;
      highest = highest_of e (filled image) walk;
    }

-- The image's order is the one in which more headers are good, the little one where they are as
-- many; it has none where no header is good.
abbrev pub order_by : Census → Census → Option Endian
order_by little big =
    if nat_lt little.nodes.all big.nodes.all then Some Big
    else if little.nodes.all == 0 then None
    else Some Little

-- rule: What is printed: The byte order of an unknown image.
--   definitions: jinfo.Infos.order_of
--   code: jinfo::info::info_of
--   laws: jinfo::examples::known_orders
abbrev pub order_of : List ℕ → Option Endian
order_of image = order_by (census_of Little image) (census_of Big image)

-- what is told: the nodes in the image's order, and how many there are in the other one
abbrev pub info_by : ℕ → Census → Census → Info
info_by bytes little big =
    if nat_lt little.nodes.all big.nodes.all
    then record {
      bytes = bytes;
      order = order_by little big;
      census = big;
      other = little.nodes.all;
    }
    else record {
      bytes = bytes;
      order = order_by little big;
      census = little;
      other = big.nodes.all;
    }

unfoldable pub info_of : List ℕ → Info
info_of image = info_by (length image) (census_of Little image) (census_of Big image)
