-- What a command goes on with that shows an image.
use Rattle.std.proofs.Common.{◌≡◌, ℕ, Bool, true, false, List, Option, None, Some, Ok, Err, refl, sym, subst}
use Rattle.std.specs.Prelude.{Result}
use Rattle.jnode.specs.declared.order.Endian.{Endian}
use Rattle.jmount.specs.declared.fault.FindFault.TheVariants as find
use Rattle.jreport.specs.NoNodes.{TellsNone}
use Rattle.jreport.specs.Paths.{IsWordFault, path_of}
use Rattle.jreport.specs.declared.faults.ProgramFault.{ProgramFault}
use Rattle.jreport.specs.declared.faults.ProgramFault.TheVariants as program
use Rattle.jedge.specs.Faults.{command_fault}
use Rattle.jedge.specs.Views.{IsViewed, NamesPart, NamesPath, Viewed}
use Rattle.jedge.specs.declared.fault.Fault.{Fault}
use Rattle.jedge.specs.declared.fault.Fault.TheVariants as fault

-- another fault than the output's or that of memory refuses something
pub refused_of : (why : ProgramFault) → (why ≡ program.Output → ⊥) → (why ≡ program.OutOfMemory → ⊥) → fault.Refused why ≡ command_fault why
refused_of program.Output output memory = absurd (output refl)
refused_of program.OutOfMemory output memory = absurd (memory refl)
refused_of why output memory = refl

-- the part of a tree that a word names, where one is given
pub part_found : (word : Option (List ℕ)) (given path : List ℕ) → word ≡ Some given → NamesPath given (Ok path) → NamesPart word (Ok (Some path))
part_found None given path is names = let no : ⊥ = cc in absurd no
part_found (Some word) given path is names = let same : word ≡ given = cc in subst (λ (w : List ℕ). NamesPath w (Ok path)) (sym same) names

pub part_refused : (word : Option (List ℕ)) (given : List ℕ) (f : Fault) → word ≡ Some given → NamesPath given (Err f) → NamesPart word (Err f)
part_refused None given f is names = let no : ⊥ = cc in absurd no
part_refused (Some word) given f is names = let same : word ≡ given = cc in subst (λ (w : List ℕ). NamesPath w (Err f)) (sym same) names

pub part_whole : (word : Option (List ℕ)) → word ≡ None → NamesPart word (Ok None)
part_whole None is = refl
part_whole (Some word) is = let no : ⊥ = cc in absurd no

-- the word names no path
pub word_refused : (word : List ℕ) (why : ProgramFault) → IsWordFault (path_of word) why → NamesPath word (Err (command_fault why))
word_refused word (program.Path find.BadPath) is = (refl, is)
word_refused word program.OutOfMemory is = tt
word_refused word why is = absurd is

-- the image itself is shown
pub plain_viewed : (e : Endian) (size : ℕ) (decompress : Bool) (image : List ℕ) (others : Option ℕ) → decompress ≡ false
    → TellsNone e size image others → IsViewed e size decompress image (Ok (record { image = image; found = None; others = others }))
plain_viewed e size true image others not tells = let no : ⊥ = cc in absurd no
plain_viewed e size false image others not tells = ((refl, refl), tells)

-- the same of an image that is seen in another way
pub viewed_at : (e : Endian) (size : ℕ) (decompress : Bool) (image present : List ℕ) (r : Result Viewed Fault) → present ≡ image → decompress ≡ true
    → IsViewed e size true present r → IsViewed e size decompress image r
viewed_at e size decompress image present r same asked is =
    subst (λ (d : Bool). IsViewed e size d image r) (sym asked) (subst (λ (b : List ℕ). IsViewed e size true b r) same is)
