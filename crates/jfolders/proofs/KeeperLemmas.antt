-- Files that are kept.
use Rattle.std.proofs.Common.{◌≡◌, ℕ, ◌≤◌, ◌<◌, ◌^◌, ◌-◌, Bool, true, false, List, [], ◌∷◌, Option, None, Some, Result, Ok, Err, refl, ap, ◌∙◌, zero, suc, length, take, arith, subst}
use Rattle.std.specs.Prelude.{IfSome, is_ok, option_map, if◌then◌else◌, ◌==◌}
use Rattle.flashbase.specs.declared.source.LoadFault.{LoadFault}
use Rattle.flashbase.specs.declared.source.LoadFault.TheVariants.{Device, TooLarge, OutOfMemory}
use Rattle.jbuild.specs.HostFiles.{AreSame, ReadsPart, read_of}
use Rattle.jbuild.specs.declared.host_files.HostFiles.{HostFiles}
use Rattle.jscan.specs.Image.{greatest_image}
use Rattle.jfolders.specs.Keepers.{Keeps, bytes_up_to}

pub none_is_kept : {T : Type 0} (r : Result T LoadFault) (rest : Option (List ℕ)) (limit : ℕ) (name : List ℕ) (old new : HostFiles) → ReadsPart rest limit name old new r
    → is_ok r ≡ false → AreSame old new
none_is_kept (Ok x) rest limit name old new reads failed = cc
none_is_kept (Err Device) rest limit name old new reads failed = reads
none_is_kept (Err TooLarge) rest limit name old new reads failed = reads.0
none_is_kept (Err OutOfMemory) rest limit name old new reads failed = reads

-- a list that has fewer than so many at its front has no more
take_short : (n : ℕ) (xs : List ℕ) → length (take n xs) < n → take n xs ≡ xs
take_short zero xs short = let no : ⊥ = omega (arith, short) in absurd no
take_short (suc n) [] short = refl
take_short (suc n) (x ∷ xs) short = ap (λ (l : List ℕ). x ∷ l) (take_short n xs (omega (arith, short)))

-- how many are asked for, where a size was told or none
abbrev pub most : ℕ → ℕ
most size = if size == 0 then 2 ^ 64 - 1 else size

read_by : (none : Bool) (size : ℕ) (all bytes : List ℕ) → bytes ≡ take (if none then 2 ^ 64 - 1 else size) all → length bytes ≤ greatest_image → bytes ≡ (if none then all else take size all)
read_by true size all bytes is fits = let short : length (take (2 ^ 64 - 1) all) < 2 ^ 64 - 1 = subst (λ (l : List ℕ). length l < 2 ^ 64 - 1) is (omega (arith, fits)) in is ∙ take_short (2 ^ 64 - 1) all short
read_by false size all bytes is fits = is

known_up_to : (size : ℕ) (has : Option (List ℕ)) (bytes : List ℕ) → IfSome (option_map (take (most size)) has) (λ known. bytes ≡ known) → length bytes ≤ greatest_image
    → IfSome has (λ all. bytes ≡ bytes_up_to size all)
known_up_to size None bytes is fits = tt
known_up_to size (Some all) bytes is fits = read_by (size == 0) size all bytes is fits

pub one_is_kept : {T : Type 0} (r : Result T LoadFault) (has : List ℕ → Option (List ℕ)) (size : ℕ) (name : List ℕ) (old new : HostFiles)
    → ReadsPart (option_map (take (most size)) (has name)) greatest_image name old new r → is_ok r ≡ true → Keeps has size name (read_of old) (read_of new)
one_is_kept (Ok x) has size name old new reads done = (reads.0, known_up_to size (has name) reads.0 reads.1 reads.2, reads.3)
one_is_kept (Err Device) has size name old new reads done = cc
one_is_kept (Err TooLarge) has size name old new reads done = cc
one_is_kept (Err OutOfMemory) has size name old new reads done = cc

-- the same of a file that was opened, of which so many bytes are asked for
pub kept_of_file : {T : Type 0} (r : Result T LoadFault) (rest file : Option (List ℕ)) (has : List ℕ → Option (List ℕ)) (count size : ℕ) (word name : List ℕ) (old new : HostFiles)
    → ReadsPart rest greatest_image name old new r → rest ≡ option_map (take count) file → file ≡ has word → word ≡ name → count ≡ most size → is_ok r ≡ true
    → Keeps has size name (read_of old) (read_of new)
kept_of_file r rest file has count size word name old new reads first opened same many done =
    let is : rest ≡ option_map (take (most size)) (has name) =
    first ∙ ap (λ (n : ℕ). option_map (take n) file) many ∙ ap (option_map (take (most size))) (opened ∙ ap has same) in
    one_is_kept r has size name old new (subst (λ (l : Option (List ℕ)). ReadsPart l greatest_image name old new r) is reads) done
