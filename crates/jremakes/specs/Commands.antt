-- What each command does that makes an image of another one. The order is that of the steps.
use Rattle.std.specs.Prelude.{ℕ, List, Option, length}
use Rattle.jnode.specs.declared.order.Endian.{Endian}
use Rattle.jcollect.specs.Tiles.{copied_image}
use Rattle.jconvert.specs.Converting.{converted_image}
use Rattle.jreport.specs.ConvertedLine.{compression_line, decompressed_line}
use Rattle.jreport.specs.FoundIn.{found_in}
use Rattle.jedge.specs.Acts.{Act, Then, answers, prints_put}
use Rattle.jedge.specs.Told.{Told}
use Rattle.jmakes.specs.Making.{WantedFile}
use Rattle.jremakes.specs.Asked.{AskedRemaking, takes_original}
use Rattle.jremakes.specs.Compacting.{IsCompactable, compact_blocks, compacted_line}
use Rattle.jremakes.specs.CompactingApart.{IsCompactableApart}
use Rattle.jremakes.specs.Judging.{ArePartedOf, IsCompressible, IsConvertible}
use Rattle.jremakes.specs.Leaving.{left_out_told, remade_told}
use Rattle.jremakes.specs.Putting.{PutsAll, PutsCompressed, PutsNodes, TakesMemory, TellsLine, remakes}

-- ---- `decompress`

-- An image is judged; it goes decompressed to the file that is wanted, which is told in a line.
abbrev pub converts : Endian → ℕ → WantedFile → List ℕ → Act Told
converts e size file image =
    Then (answers (IsConvertible e size image)) (λ told.
    Then (answers TakesMemory) (λ _.
    Then (remakes file (PutsAll (converted_image e size image) (tt {0}))) (λ _.
    prints_put (TellsLine (decompressed_line told.changed told.nodes told.bytes)
    (remade_told (found_in e size image))))))

-- rule: Building and extending: `decompress`, as an act.
--   definitions: jremakes.Commands.decompress_act
--   code: jremakes::decompress::decompress
-- the same of the image of a file, which may be the one that is made
abbrev pub decompresses : Endian → AskedRemaking → Act Told
decompresses e asked =
    Then (takes_original e asked) (converts e asked.options.geometry.block asked.output)

abbrev pub decompress_act : AskedRemaking → Act Told
decompress_act asked = decompresses asked.options.endian asked

-- ---- `compress`

-- The same of one that goes out compressed.
abbrev pub packs : Endian → ℕ → WantedFile → List ℕ → Act Told
packs e size file image =
    Then (answers (IsCompressible e size image)) (λ nodes.
    Then (answers TakesMemory) (λ _.
    Then (remakes file (PutsCompressed e size image)) (λ done.
    prints_put (TellsLine (compression_line done.0 nodes done.1)
    (remade_told (found_in e size image))))))

-- rule: Building and extending: `compress`, as an act.
--   definitions: jremakes.Commands.compress_act
--   code: jremakes::compress::compress
abbrev pub compresses : Endian → AskedRemaking → Act Told
compresses e asked =
    Then (takes_original e asked) (packs e asked.options.geometry.block asked.output)

abbrev pub compress_act : AskedRemaking → Act Told
compress_act asked = compresses asked.options.endian asked

-- ---- `decompress --clashes higher`

-- The same of one that goes out without the nodes that one of a higher address clashes with, of
-- which standard error is told.
abbrev pub leaves_out : Endian → ℕ → WantedFile → List ℕ → Act Told
leaves_out e size file image =
    Then (answers (IsConvertible e size image)) (λ told.
    Then (answers (ArePartedOf e size image)) (λ parted.
    Then (answers TakesMemory) (λ _.
    Then (remakes file (PutsNodes e size parted.stay)) (λ bytes.
    prints_put (TellsLine (decompressed_line told.changed (length parted.stay) bytes)
    (left_out_told parted.left (found_in e size image)))))))

-- rule: Building and extending: `decompress --clashes higher`, as an act.
--   definitions: jremakes.Commands.apart_act
--   code: jremakes::apart::apart
abbrev pub parts_out : Endian → AskedRemaking → Act Told
parts_out e asked =
    Then (takes_original e asked) (leaves_out e asked.options.geometry.block asked.output)

abbrev pub apart_act : AskedRemaking → Act Told
apart_act asked = parts_out asked.options.endian asked

-- ---- `compact`

-- An image is judged: it mounts through its compression, and a flash of so many blocks takes the
-- nodes of it that matter. These go out as they are, which is told in a line.
abbrev pub compacts : Endian → ℕ → ℕ → WantedFile → List ℕ → Act Told
compacts e size blocks file image =
    Then (answers (IsCompactable e size blocks image)) (λ plan.
    Then (answers TakesMemory) (λ _.
    Then (remakes file (PutsAll (copied_image e size image plan.addresses) (tt {0}))) (λ _.
    prints_put (TellsLine (compacted_line (length plan.addresses) plan.nodes plan.bytes)
    (remade_told (found_in e size image))))))

-- rule: Building and extending: `compact`, as an act.
--   definitions: jremakes.Commands.compact_act
--   code: jremakes::compact::compact
-- the same of the image of a file, which may be the one that is made
abbrev pub compacts_file : Endian → AskedRemaking → Option ℕ → Act Told
compacts_file e asked blocks = Then (takes_original e asked)
    (compacts e asked.options.geometry.block
    (compact_blocks asked.options.geometry.block blocks) asked.output)

abbrev pub compact_act : AskedRemaking → Option ℕ → Act Told
compact_act asked blocks = compacts_file asked.options.endian asked blocks

-- ---- `compact --clashes higher`

-- The same of one of which nodes may clash: those that matter go out of the nodes that stay, and of
-- each that is left out standard error is told.
abbrev pub compacts_apart : Endian → ℕ → ℕ → WantedFile → List ℕ → Act Told
compacts_apart e size blocks file image =
    Then (answers (IsCompactableApart e size blocks image)) (λ plan.
    Then (answers TakesMemory) (λ _.
    Then (remakes file (PutsAll (copied_image e size image plan.addresses) (tt {0}))) (λ _.
    prints_put (TellsLine (compacted_line (length plan.addresses) plan.nodes plan.bytes)
    (left_out_told plan.left (found_in e size image))))))

-- rule: Building and extending: `compact --clashes higher`, as an act.
--   definitions: jremakes.Commands.compact_apart_act
--   code: jremakes::compact_apart::compact_apart
abbrev pub compacts_file_apart : Endian → AskedRemaking → Option ℕ → Act Told
compacts_file_apart e asked blocks = Then (takes_original e asked)
    (compacts_apart e asked.options.geometry.block
    (compact_blocks asked.options.geometry.block blocks) asked.output)

abbrev pub compact_apart_act : AskedRemaking → Option ℕ → Act Told
compact_apart_act asked blocks = compacts_file_apart asked.options.endian asked blocks
