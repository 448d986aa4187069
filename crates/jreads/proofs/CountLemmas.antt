-- Files that are counted as they are measured.
use Rattle.std.proofs.Common.{◌≡◌, ◌∙◌, ◌++◌, ◌-◌, ◌≤◌, ℕ, Bool, true, false, List, [], ◌∷◌, Option, Some, None, arith, refl, sym, ap}
use Rattle.std.specs.Prelude.{◌||◌, bytes_eq, if◌then◌else◌, is_some}
use Rattle.std.proofs.lemmas.List.Sums.{sum_by_push}
use Rattle.jscan.specs.Image.{greatest_image}
use Rattle.jreads.specs.Counting.{IsCountOf}
use Rattle.jreads.specs.Named.{Measured, was_measured}

pub none_counted : (seen : List ℕ → Option (List ℕ)) (left : ℕ) → ((name : List ℕ) → seen name ≡ None) → left ≡ greatest_image → IsCountOf seen left []
none_counted seen left none all = record {
  known = λ name. ap is_some (none name);
  room = omega (arith, all);
}

or_assoc : (a b c : Bool) → (a || (b || c)) ≡ ((a || b) || c)
or_assoc true b c = refl
or_assoc false b c = refl

or_false : (a : Bool) → (a || false) ≡ a
or_false true = refl
or_false false = refl

or_true : (a : Bool) → (a || true) ≡ true
or_true true = refl
or_true false = refl

among_push : (other : List ℕ) (files : List Measured) (file : Measured) → was_measured other (files ++ file ∷ []) ≡ (was_measured other files || bytes_eq file.name other)
among_push other [] file = or_false (bytes_eq file.name other)
among_push other (first ∷ files) file =
    ap (λ (b : Bool). bytes_eq first.name other || b) (among_push other files file)
    ∙ or_assoc (bytes_eq first.name other) (was_measured other files) (bytes_eq file.name other)

put_known : (b : Bool) (bytes : List ℕ) (seen : Option (List ℕ)) (among : Bool) → is_some seen ≡ among → is_some (if b then Some bytes else seen) ≡ (among || b)
put_known true bytes seen among is = sym (or_true among)
put_known false bytes seen among is = is ∙ sym (or_false among)

-- one more
pub one_counted : (old new : List ℕ → Option (List ℕ)) (left rest : ℕ) (files : List Measured) (name bytes : List ℕ) (n : ℕ)
    → ((other : List ℕ) → new other ≡ (if bytes_eq name other then Some bytes else old other)) → n ≤ left → rest ≡ left - n
    → IsCountOf old left files → IsCountOf new rest (files ++ record { name = name; bytes = n } ∷ [])
one_counted old new left rest files name bytes n put fits goes was =
    let file : Measured = record { name = name; bytes = n } in record {
      known = λ other. ap is_some (put other) ∙ put_known (bytes_eq name other) bytes (old other) (was_measured other files) (was.known other)
          ∙ sym (among_push other files file);
      room = omega (arith, was.room, sum_by_push (λ (f : Measured). f.bytes) files file, fits, goes);
    }
