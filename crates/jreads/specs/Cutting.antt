-- What `cuts` does: read it as the manual page. The order is that of the steps.
use Rattle.std.specs.Prelude.{◌≡◌, ℕ, List, [], Option, Some, None, Ok}
use Rattle.jnode.specs.declared.order.Endian.{Endian}
use Rattle.jmount.specs.Mount.{Mount}
use Rattle.jscan.specs.declared.page.Page.{Page}
use Rattle.jlog.specs.declared.start.Flash.{Flash}
use Rattle.jcuts.specs.Cuts.{Asked}
use Rattle.jcommand.specs.declared.parsed.Options.{Options}
use Rattle.jedge.specs.Acts.{Act, Then, answers, loads, prints}
use Rattle.jedge.specs.Images.{MountsOrRefuses}
use Rattle.jedge.specs.Told.{Told}
use Rattle.jreads.specs.CutTexts.{HasMemory, ReadsLines, StartsOn, TellsCuts, cuts_asked}
use Rattle.jreads.specs.Named.{loads_listed}

-- Writing goes on in a mounted image, and what stands after a stop is told of operations.
abbrev pub cuts_mounted : Endian → Flash → Asked → Mount → Act Told
cuts_mounted e flash asked m = Then (answers (StartsOn {A = Unit} e flash m)) (λ _.
    prints (TellsCuts e flash m.image asked))

-- there is memory for the operations; the image that they go on from is mounted, and they are told
abbrev pub cuts_base : Endian → Flash → List ℕ → Asked → Act Told
cuts_base e flash base asked = Then (answers (HasMemory {A = Unit})) (λ _.
    Then (answers (MountsOrRefuses e flash.geometry.block base)) (cuts_mounted e flash asked))

-- the lines of a text are read, and the files that they name; their operations are told
abbrev pub cuts_text : Endian → Flash → List ℕ → List ℕ → Act Told
cuts_text e flash base text = Then (answers (ReadsLines text)) (λ lines.
    Then (loads_listed lines) (λ files. cuts_base e flash base (cuts_asked e files lines)))

-- the image of a name, if one is given
abbrev pub loads_base : Option (List ℕ) → Act (List ℕ)
loads_base None = answers (λ result. result ≡ Ok [])
loads_base (Some name) = loads name

-- The image that is gone on from is read, if one is given, and then the listing; what stands after
-- a stop of writing is told of the listing's operations.
abbrev pub cuts_on : Endian → Flash → Option (List ℕ) → List ℕ → Act Told
cuts_on e flash on listing = Then (loads_base on) (λ base.
    Then (loads listing) (λ text. cuts_text e flash base text))

abbrev pub cuts_act : Options → ℕ → Page → Option (List ℕ) → List ℕ → Act Told
cuts_act options blocks page = cuts_on options.endian
    (record { geometry = options.geometry; blocks = blocks; page = page })
