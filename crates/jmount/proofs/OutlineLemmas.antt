-- What an outline keeps of a file system.
use Rattle.std.proofs.Common.{◌≡◌, ℕ, Bool, false, cond, List, [], ◌∷◌, Option, Some, None, Result, Ok, Err, refl, ap, ◌∙◌}
use Rattle.std.specs.Prelude.{option_map, is_some}
use Rattle.std.specs.Ordering.{nat_cmp}
use Rattle.std.specs.Cmp.{nat_cmp_total}
use Rattle.std.specs.FinMap.{get, keys, contains_key-keys, nat_cmp-IsAntisymmetric}
use Rattle.std.proofs.lemmas.Bool.{true≢false}
use Rattle.flashbase.proofs.ListLemmas.{get-tabled_all}
use Rattle.jmount.specs.declared.fault.FindFault.{FindFault}
use Rattle.jmount.specs.declared.fault.FindFault.TheVariants as fault
use Rattle.jmount.specs.Tree.{ObjectOf, State, sized, outline, object, is_there, named, has_bits, is_directory, directory_bits}
use Rattle.jmount.specs.Find.{path_names, step_to, step, walk, find_names}
use Rattle.jmount.specs.Laws as law

none_there : {X : Type 0} (o : Option X) → is_some o ≡ false → o ≡ None
none_there None h = refl
none_there (Some x) h = absurd (true≢false h)

pub object-outline : law.OutlineHasObjects
object-outline s i =
    get-tabled_all nat_cmp nat_cmp_total nat_cmp-IsAntisymmetric (keys s.objects) (λ k. option_map sized (get s.objects k)) i
    (λ none. ap (option_map sized) (none_there (get s.objects i) (contains_key-keys s.objects i ∙ none)))

bits_sized : (bits : ℕ) (o : Option (ObjectOf (List ℕ))) → has_bits bits (option_map sized o) ≡ has_bits bits o
bits_sized bits None = refl
bits_sized bits (Some o) = refl

some_sized : (o : Option (ObjectOf (List ℕ))) → is_some (option_map sized o) ≡ is_some o
some_sized None = refl
some_sized (Some o) = refl

pub is_directory-outline : (s : State) (i : ℕ) → is_directory (outline s) i ≡ is_directory s i
is_directory-outline s i = ap (has_bits directory_bits) (object-outline s i) ∙ bits_sized directory_bits (object s i)

pub is_there-outline : (s : State) (i : ℕ) → is_there (outline s) i ≡ is_there s i
is_there-outline s i = ap is_some (object-outline s i) ∙ some_sized (object s i)

step_to-outline : (s : State) (o : Option ℕ) → step_to (outline s) o ≡ step_to s o
step_to-outline s None = refl
step_to-outline s (Some i) = ap (λ (b : Bool). cond b (Ok i) (Err fault.NotFound)) (is_there-outline s i)

step-outline : (s : State) (here : ℕ) (name : List ℕ) → step (outline s) here name ≡ step s here name
step-outline s here name =
    ap (λ (b : Bool). cond b (step_to (outline s) (named s here name)) (Err fault.NotDirectory)) (is_directory-outline s here)
    ∙ ap (λ (r : Result ℕ FindFault). cond (is_directory s here) r (Err fault.NotDirectory)) (step_to-outline s (named s here name))

pub walk-outline : (s : State) (names : List (List ℕ)) (here : Result ℕ FindFault) → walk (outline s) names here ≡ walk s names here
walk-outline s [] here = refl
walk-outline s (name ∷ names) (Err f) = refl
walk-outline s (name ∷ names) (Ok here) = ap (walk (outline s) names) (step-outline s here name) ∙ walk-outline s names (step s here name)

find_names-outline : (s : State) (names : Option (List (List ℕ))) → find_names (outline s) names ≡ find_names s names
find_names-outline s None = refl
find_names-outline s (Some names) = walk-outline s names (Ok 1)

pub find-outline : law.FindIsOfOutline
find-outline s text = find_names-outline s (path_names text)
