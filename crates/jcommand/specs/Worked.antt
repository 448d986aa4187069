-- What worked command lines ask for where they give no options.
use Rattle.std.specs.Prelude.{false, None, codes}
use Rattle.clap.specs.Words.{Text}
use Rattle.jnode.specs.declared.order.Endian.TheVariants.{Little}
use Rattle.jscan.specs.declared.page.Page.TheVariants.{P4096}
use Rattle.jcommand.specs.Parsed.{options_of}
use Rattle.jcommand.specs.declared.parsed.Conversion.{Conversion}
use Rattle.jcommand.specs.declared.parsed.Cuts.{Cuts}
use Rattle.jcommand.specs.declared.parsed.CutsThrough.{CutsThrough}
use Rattle.jcommand.specs.declared.parsed.Extraction.{Extraction}
use Rattle.jcommand.specs.declared.parsed.Options.{Options}
use Rattle.jcommand.specs.declared.parsed.Packing.{Packing}
use Rattle.jcommand.specs.declared.parsed.Placing.{Placing}
use Rattle.jcommand.specs.declared.parsed.Target.{Target}
use Rattle.jcommand.specs.declared.parsed.Updating.{Updating}

abbrev pub no_options : Options
no_options = options_of 65536 Little

abbrev pub unplaced : Placing
unplaced = record { pad = false; atomic = false }

-- a flash of two blocks in the file `b`
abbrev pub two_blocks : Target Text
two_blocks = record {
  options = no_options;
  blocks = 2;
  page = P4096;
  weak = false;
  placing = unplaced;
  output = codes "b";
}

abbrev pub cuts_of_a : Cuts Text
cuts_of_a = record {
  options = no_options;
  blocks = 2;
  page = P4096;
  on = None;
  listing = codes "a";
}

abbrev pub through_of_a : CutsThrough Text
through_of_a = record {
  options = no_options;
  blocks = 2;
  page = P4096;
  compress = false;
  on = None;
  listing = codes "a";
}

-- of the image `a` the image `b`
abbrev pub b_of_a : Conversion Text
b_of_a = record {
  options = no_options;
  force = false;
  placing = unplaced;
  image = codes "a";
  output = codes "b";
}

-- the image `a` with what the listing `b` makes of it, in the image `c`
abbrev pub c_of_a : Updating Text
c_of_a = record {
  options = no_options;
  blocks = None;
  page = P4096;
  plain = false;
  tail = false;
  placing = unplaced;
  image = codes "a";
  listing = codes "b";
  output = codes "c";
}

-- the tree of the image `a` in the folder `b`
abbrev pub tree_of_a : Extraction Text
tree_of_a = record {
  options = no_options;
  decompress = false;
  deleted = false;
  owners = false;
  quiet = false;
  image = codes "a";
  folder = codes "b";
  path = None;
}

-- the folder `a` in the image `b`
abbrev pub folder_a : Packing Text
folder_a = record {
  options = no_options;
  blocks = None;
  page = P4096;
  weak = false;
  placing = unplaced;
  owner = None;
  time = None;
  quiet = false;
  folder = codes "a";
  output = codes "b";
}
