-- What each command does that writes an image: read it as the manual page. The order is that of the
-- steps.
use Rattle.std.specs.Prelude.{ℕ, List, Option, Some, None}
use Rattle.jbuild.specs.HostFiles.{part_contents}
use Rattle.jbuild.specs.declared.host_files.HostFiles.{HostFiles}
use Rattle.jreads.specs.Named.{NoneRead, loads_named}
use Rattle.jedge.specs.Acts.{Act, Then, answers, loads}
use Rattle.jedge.specs.Told.{Told}
use Rattle.jedge.specs.Views.{Viewed, views}
use Rattle.jmakes.specs.Keeping.{AskedBase, keeps_base}
use Rattle.jmakes.specs.Making.{WantedFile}
use Rattle.jmakes.specs.Writing.{ImageWanted, ReadsListingLines, writes_lines}

-- A listing's lines are read, and the files that they name, but those that were read before; the
-- lines are written on a base, or on an empty one.
abbrev pub writes_text : ImageWanted → Option Viewed → HostFiles → List ℕ → Act Told
writes_text wanted base before text =
    Then (answers (ReadsListingLines text)) (λ lines.
    Then (loads_named lines before) (λ files.
    writes_lines wanted base (part_contents files) lines))

-- the same where no file was read before
abbrev pub writes_listing : ImageWanted → Option Viewed → List ℕ → Act Told
writes_listing wanted base text =
    Then (answers NoneRead) (λ none. writes_text wanted base none text)

-- `build`: the listing's file is read, and its lines are written on an empty base
abbrev pub build_act : ImageWanted → List ℕ → Act Told
build_act wanted listing = Then (loads listing) (writes_listing wanted None)

-- `append`: The image's file is read, and with `--decompress` its image decompressed, which
-- replaces none with findings unless that is forced; the listing's file is read, and its lines are
-- written on that base.
abbrev pub append_act : ImageWanted → AskedBase → List ℕ → Act Told
append_act wanted base listing =
    Then (views wanted.order wanted.flash.geometry.block base.decompress base.image) (λ view.
    Then (keeps_base base wanted.file.name view) (λ _.
    Then (loads listing) (writes_listing wanted (Some view))))

-- a command, and what it is given
pub data ImageCommand : Type 0 where
  Build : ImageWanted → List ℕ → ImageCommand
  Append : ImageWanted → AskedBase → List ℕ → ImageCommand

abbrev pub image_act : ImageCommand → Act Told
image_act (Build wanted listing) = build_act wanted listing
image_act (Append wanted base listing) = append_act wanted base listing

-- the file that it makes
abbrev pub file_by : ImageCommand → WantedFile
file_by (Build wanted listing) = wanted.file
file_by (Append wanted base listing) = wanted.file
