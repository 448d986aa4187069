-- What `pack` and `pack --compress` do: read it as the manual page. The order is that of the steps.
use Rattle.std.specs.Prelude.{◌≡◌, ◌==◌, ◌*◌, ◌/◌, ℕ, Bool, true, false, if◌then◌else◌, max, List, [], Option, Some, None, Result, Ok, Err}
use Rattle.jnode.specs.declared.order.Endian.{Endian}
use Rattle.jscan.specs.Image.{greatest_image}
use Rattle.jbuild.specs.HostFiles.{read_of}
use Rattle.jbuild.specs.declared.host_files.HostFiles.{HostFiles}
use Rattle.jcommand.specs.declared.parsed.Packing.{Packing}
use Rattle.jedge.specs.Acts.{Act, Then, answers}
use Rattle.jedge.specs.Told.{Told, either}
use Rattle.jedge.specs.declared.fault.Fault.{Fault}
use Rattle.jfolders.specs.Keeping.{files_kept, reads_folder}
use Rattle.jfolders.specs.Reading.{listing_settings}
use Rattle.jfolders.specs.declared.kept.KeptFiles.{KeptFiles}
use Rattle.jfolders.specs.declared.keeping.Listed.{Listed}
use Rattle.jlog.specs.declared.start.Flash.{Flash}
use Rattle.jmakes.specs.Commands.{writes_text}
use Rattle.jmakes.specs.Making.{WantedFile}
use Rattle.jmakes.specs.Writing.{ImageWanted}
use Rattle.jmakes.specs.declared.wanted.Filling.{Filling}
use Rattle.jmakes.specs.declared.wanted.Filling.TheVariants as filling
use Rattle.jupdates.specs.Asked.{DeviceWanted, device_packed}
use Rattle.jupdates.specs.Commands.{updates_text}

-- ---- what is asked for

-- as many blocks of a size as a flash may have, and one where no flash has blocks of this size
abbrev pub most_packed : ℕ → ℕ
most_packed size = if size == 0 then 1 else max (greatest_image / size) 1

-- the number that is given, or else the greatest
abbrev pub blocks_packed : ℕ → Option ℕ → ℕ
blocks_packed size None = most_packed size
blocks_packed size (Some given) = given

-- with `--pad`, up to the end of the flash; or where the number of its blocks is left out, of the
-- last one that has a byte
abbrev pub filling_packed : Bool → ℕ → Option ℕ → Option Filling
filling_packed false size given = None
filling_packed true size None = Some (filling.Block size)
filling_packed true size (Some given) = Some (filling.Length (given * size))

abbrev pub flash_of_packing : Packing (List ℕ) → Flash
flash_of_packing asked = record {
  geometry = asked.options.geometry;
  blocks = blocks_packed asked.options.geometry.block asked.blocks;
  page = asked.page;
}

abbrev pub file_of_packing : Packing (List ℕ) → WantedFile
file_of_packing asked = record {
  name = asked.output;
  atomic = asked.placing.atomic;
  filling = filling_packed asked.placing.pad asked.options.geometry.block asked.blocks;
}

abbrev pub image_packed : Endian → Packing (List ℕ) → ImageWanted
image_packed e asked = record {
  order = e;
  flash = flash_of_packing asked;
  file = file_of_packing asked;
  weak = asked.weak;
}

-- the same flash and file, where nodes go out compressed
abbrev pub device_of_packing : Packing (List ℕ) → DeviceWanted
device_of_packing asked = device_packed (flash_of_packing asked) (file_of_packing asked)

-- ---- the acts

-- these were kept when they were found in the folder
abbrev pub WereKept : KeptFiles → Result HostFiles Fault → Type 0
WereKept files result = (before : HostFiles) × (result ≡ Ok before)
    × ((name : List ℕ) → read_of before name ≡ files_kept files name)

-- what was left out is found, or else what is found where the image is written
abbrev pub packed_told : ℕ → Told → Told
packed_told left_out told =
    record { counted = either left_out told.counted; noted = told.noted }

-- The text of a folder's listing is written by an act, which reads those of the files that it names
-- that were not kept.
abbrev pub writes_listed : (HostFiles → List ℕ → Act Told) → Listed → Act Told
writes_listed writes listed =
    Then (answers (WereKept listed.files)) (λ before.
    Then (writes before listed.text.items) (λ told.
    answers (λ result. result ≡ Ok (packed_told listed.left_out told))))

-- The folder is read whole, and standard error is told what is left out; its listing is written by
-- an act.
abbrev pub packs_folder : Packing (List ℕ) → (HostFiles → List ℕ → Act Told) → Act Told
packs_folder asked writes =
    Then (reads_folder asked.folder asked.quiet (listing_settings asked.owner asked.time))
    (writes_listed writes)

-- `pack`: on an empty base
abbrev pub pack_act : Endian → Packing (List ℕ) → Act Told
pack_act e asked = packs_folder asked (writes_text (image_packed e asked) None)

-- rule: Listings: `pack --compress`, as an act.
--   definitions: jpacks.Packing.pack_compressed_act
--   code: jpacks::compressed::pack_compressed
-- `pack --compress`: as `build --compress`, on an image without a byte
abbrev pub pack_compressed_act : Endian → Packing (List ℕ) → Act Told
pack_compressed_act e asked = packs_folder asked (updates_text e (device_of_packing asked) [])
