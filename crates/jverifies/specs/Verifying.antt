-- What `verify` does: read it as the manual page. The order is that of the steps.
use Rattle.std.specs.Prelude.{ℕ, Bool, true, false, List, [], Some, None}
use Rattle.jnode.specs.declared.order.Endian.{Endian}
use Rattle.jscan.specs.declared.page.Page.TheVariants.{P4096}
use Rattle.jmount.specs.Mount.{Mount}
use Rattle.jlisting.specs.declared.line.Line.{Line}
use Rattle.jlog.specs.declared.start.Flash.{Flash}
use Rattle.jbuild.specs.HostFiles.{part_contents}
use Rattle.jbuild.specs.declared.host_files.HostFiles.{HostFiles}
use Rattle.jcommand.specs.declared.parsed.Packing.{Packing}
use Rattle.jreport.specs.Notes.{noted as findings}
use Rattle.jreads.specs.Named.{loads_named}
use Rattle.jdiff.specs.declared.comparing.Comparing.{Comparing}
use Rattle.jedge.specs.Acts.{Act, Then, answers, loads, prints}
use Rattle.jedge.specs.Commands.{findings_noted}
use Rattle.jedge.specs.Comparing.{Compares}
use Rattle.jedge.specs.Images.{HasNodes, MountsOrRefuses, MountsWith}
use Rattle.jedge.specs.Told.{Told, either}
use Rattle.jmakes.specs.Writing.{HasOps, ReadsListingLines}
use Rattle.jpacks.specs.Packing.{flash_of_packing, packs_folder}
use Rattle.jverifies.specs.Making.{makes_in_memory}
use Rattle.jcommand.specs.declared.parsed.Verification.{Verification}

-- ---- what is asked for

-- `pack` of the folder with these words, on the largest flash; its file has no name, since none is
-- made
abbrev pub packing_verified : Verification (List ℕ) → Packing (List ℕ)
packing_verified asked = record {
  options = asked.options;
  blocks = None;
  page = P4096;
  weak = false;
  placing = record { pad = false; atomic = false };
  owner = asked.owner;
  time = asked.time;
  quiet = asked.quiet;
  folder = asked.folder;
  output = [];
}

abbrev pub flash_verified : Verification (List ℕ) → Flash
flash_verified asked = flash_of_packing (packing_verified asked)

-- ---- what is found

-- lines are found, or else the findings of the image, which are noted
abbrev pub lines_verified : Mount → ℕ → Told
lines_verified m lines = record {
  counted = either lines (findings m);
  noted = findings_noted (findings m);
}

-- ---- the act

-- what a folder is compared with, and how; and the flash that its image is made for
pub record Sought : Type 0 where
  pub image : Mount
  pub how : Comparing
  pub flash : Flash

-- an image that was made is mounted, and the lines on its tree and that of another mount are
-- printed
abbrev pub compares_made : Endian → Sought → List ℕ → Act Told
compares_made e sought made =
    Then (answers (MountsOrRefuses e sought.flash.geometry.block made)) (λ left.
    prints (Compares sought.how left sought.image (lines_verified sought.image)))

-- What lines make, with the bytes of the files that they name, is made in memory, and compared
-- with a mount.
abbrev pub compares_lines : Endian → Sought → (List ℕ → List ℕ) → List Line → Act Told
compares_lines e sought files lines =
    Then (answers (HasOps e files lines)) (λ of.
    Then (makes_in_memory e sought.flash of) (compares_made e sought))

-- The lines of a listing are read, and the files that they name, but those that were read before.
abbrev pub compares_text : Endian → Sought → HostFiles → List ℕ → Act Told
compares_text e sought before text =
    Then (answers (ReadsListingLines text)) (λ lines.
    Then (loads_named lines before) (λ files.
    compares_lines e sought (part_contents files) lines))

-- times of change are compared if that is asked for
abbrev pub comparing_verified : Endian → Verification (List ℕ) → Comparing
comparing_verified e asked = record { times = asked.times; order = e }

abbrev pub sought_with : Endian → Verification (List ℕ) → Mount → Sought
sought_with e asked m =
    record { image = m; how = comparing_verified e asked; flash = flash_verified asked }

-- A folder is read whole, as `pack` reads it, and its image compared with a mount.
abbrev pub compares_folder : Endian → Verification (List ℕ) → Mount → Act Told
compares_folder e asked m =
    packs_folder (packing_verified asked) (compares_text e (sought_with e asked m))

-- An image in which a node is found is mounted through its compression, and the folder compared
-- with it.
abbrev pub compares_image : Endian → Verification (List ℕ) → List ℕ → Act Told
compares_image e asked image =
    Then (answers (HasNodes e asked.options.geometry.block (Some asked.image) image)) (λ _.
    Then (answers (MountsWith true e asked.options.geometry.block image))
    (compares_folder e asked))

-- rule: Listings: `verify`, as an act.
--   definitions: jverifies.Verifying.verify_act
--   code: jverifies::verifying::verify
--   laws: jverifies::laws::verify_tells_differences, jverifies::laws::verified_is_same
-- `verify`: the image's file is read, and then the folder, and both are compared
abbrev pub verify_act : Endian → Verification (List ℕ) → Act Told
verify_act e asked = Then (loads asked.image) (compares_image e asked)
