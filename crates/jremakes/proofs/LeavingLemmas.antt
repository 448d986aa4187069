-- What is told of nodes that are left out.
use Rattle.std.proofs.Common.{◌≡◌, ◌≢◌, ℕ, Bool, true, false, List, [], ◌∷◌, ◌++◌, Option, Some, None, arith, length, ap, refl, sym, if◌then◌else◌}
use Rattle.jclash.specs.declared.parting.LeftOut.{LeftOut}
use Rattle.jreport.specs.declared.findings.Found.{Found}
use Rattle.jremakes.specs.Leaving.{clashing_lines, leaves_none, left_out_noted, remade_noted, remade_notes}

-- what is noted, by whether an image has nothing that does not go out
abbrev noted_by : Bool → Found → Option (List ℕ)
noted_by none found = if none then None else Some (remade_notes found)

pub none_found : (found : Found) → leaves_none found ≡ true → None ≡ remade_noted found
none_found found is = ap (λ (none : Bool). noted_by none found) (sym is)

pub some_found : (found : Found) → leaves_none found ≡ false → Some (remade_notes found) ≡ remade_noted found
some_found found is = ap (λ (none : Bool). noted_by none found) (sym is)

-- the same behind the lines of nodes that are left out
pub none_left_found : (left : List LeftOut) (found : Found) → length left ≡ 0 → remade_noted found ≡ left_out_noted left found
none_left_found [] found is = refl
none_left_found (l ∷ left) found is = absurd (omega (arith, is))

pub some_left_found : (left : List LeftOut) (found : Found) → length left ≢ 0 → Some (clashing_lines left ++ remade_notes found) ≡ left_out_noted left found
some_left_found [] found not = absurd (not refl)
some_left_found (l ∷ left) found not = refl
