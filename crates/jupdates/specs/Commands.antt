-- What `update` and `build --compress` do: read it as the manual page. The order is that of the
-- steps.
use Rattle.std.specs.Prelude.{ℕ, true, List, []}
use Rattle.jnode.specs.declared.order.Endian.{Endian}
use Rattle.jlisting.specs.declared.line.Line.{Line}
use Rattle.jbuild.specs.HostFiles.{part_contents}
use Rattle.jbuild.specs.declared.host_files.HostFiles.{HostFiles}
use Rattle.jcommand.specs.declared.parsed.Building.{Building}
use Rattle.jcommand.specs.declared.parsed.Updating.{Updating}
use Rattle.jreads.specs.Named.{NoneRead, loads_named}
use Rattle.jedge.specs.Acts.{Act, Then, answers, loads}
use Rattle.jedge.specs.Images.{MountsWith, NotesNone}
use Rattle.jedge.specs.Told.{Told}
use Rattle.jmakes.specs.Writing.{HasOps, ReadsListingLines}
use Rattle.jupdates.specs.Asked.{DeviceWanted, device_built, device_wanted}
use Rattle.jupdates.specs.Updating.{updates_mounted}

-- The lines of a listing, with the bytes of the files that they name, are run on an image that
-- mounts through its compression, and it goes to the file. Its findings are noted, nodes of the
-- other byte order where it has none, and for `update` that few blank blocks are left.
abbrev pub updates_lines : Endian → DeviceWanted → List ℕ → (List ℕ → List ℕ) → List Line
    → Act Told
updates_lines e wanted image files lines =
    Then (answers (HasOps e files lines)) (λ of.
    Then (answers (NotesNone e wanted.on.flash.geometry.block image)) (λ others.
    Then (answers (MountsWith true e wanted.on.flash.geometry.block image)) (λ m.
    updates_mounted e wanted m of others)))

-- A listing's lines are read, and the files that they name, but those that were read before; the
-- lines are run on an image.
abbrev pub updates_text : Endian → DeviceWanted → List ℕ → HostFiles → List ℕ → Act Told
updates_text e wanted image before text =
    Then (answers (ReadsListingLines text)) (λ lines.
    Then (loads_named lines before) (λ files.
    updates_lines e wanted image (part_contents files) lines))

-- the same where no file was read before
abbrev pub updates_listing : Endian → DeviceWanted → List ℕ → List ℕ → Act Told
updates_listing e wanted image text =
    Then (answers NoneRead) (λ none. updates_text e wanted image none text)

-- rule: Building and extending: `update`, as an act.
--   definitions: jupdates.Commands.update_act
--   code: jupdates::commands::update
-- `update`: the image's file is read, and the listing's; all that can be refused is judged, and
-- what the lines make goes with the image to the file that is made.
abbrev pub update_act : Endian → Updating (List ℕ) → Act Told
update_act e u =
    Then (loads u.image) (λ image.
    Then (loads u.listing) (updates_listing e (device_wanted u image) image))

-- rule: Building and extending: `build --compress`, as an act.
--   definitions: jupdates.Commands.build_compressed_act
--   code: jupdates::commands::build_compressed
-- `build --compress`: the listing's file is read, and its lines are run as those of `update` are,
-- on an image without a byte.
abbrev pub build_compressed_act : Endian → Building (List ℕ) → Act Told
build_compressed_act e b =
    Then (loads b.listing) (updates_listing e (device_built b.target) [])
