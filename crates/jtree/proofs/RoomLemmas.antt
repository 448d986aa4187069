-- Operations that have room: they are few, or it is known that they are accepted.
use Rattle.std.proofs.Common.{◌≡◌, ℕ, suc, ◌+◌, ◌≤◌, Bool, true, false, cond, List, [], ◌∷◌, ◌++◌, length, Result, Ok, Err, ◌⊎◌, inl, inr, refl, ap, sym, ◌∙◌, subst, ⊎_elim, arith}
use Rattle.std.specs.Prelude.{nat_lt}
use Rattle.std.specs.List.{AllByRecursion}
use Rattle.std.proofs.lemmas.Bool.{ltb-false}
use Rattle.jsteps.specs.Nodes.{Indexed, advanced_all}
use Rattle.jsteps.specs.Refusals.{is_exhausted, is_too_large, planned_by, plans_of, refusals, unless_refused}
use Rattle.jsteps.specs.Planning.{steps_of}
use Rattle.jsteps.specs.declared.fault.OpFault.{OpFault}
use Rattle.jsteps.specs.declared.op.Op.{Op}
use Rattle.jsteps.specs.declared.step.Step.{Step}
use Rattle.jsteps.proofs.TakenLemmas.{advanced_all-append}
use Rattle.jtree.proofs.RunLemmas.{Runs}

-- all of them are accepted, one after the other
abbrev pub AreAllAccepted : ℕ → Indexed → List Op → Type 0
AreAllAccepted page x ops = length (plans_of page x ops) ≡ length ops

-- ---- what is known of an operation that is accepted

pub record Passes (page : ℕ) (x : Indexed) (o : Op) : Type 0 where
  pub large : is_too_large o ≡ false
  pub room : is_exhausted page x o ≡ false

none_applies : {X : Type 0} (rs : List (Bool × OpFault)) (answer got : X) → unless_refused rs answer ≡ Ok got → AllByRecursion (λ r. r.0 ≡ false) rs
none_applies [] answer got e = tt
none_applies {X} (r ∷ rs) answer got e = by r.0 refl (λ rest. none_applies rs answer got rest) e
  where
    by : (b : Bool) → r.0 ≡ b → (unless_refused rs answer ≡ Ok got → AllByRecursion (λ r. r.0 ≡ false) rs) → cond b (Err r.1) (unless_refused rs answer) ≡ Ok got
        → AllByRecursion (λ r. r.0 ≡ false) (r ∷ rs)
    by true is rest e = cc
    by false is rest e = (is, rest e)

passes : (page : ℕ) (x : Indexed) (o : Op) (steps : List Step) → planned_by page x o ≡ Ok steps → Passes page x o
unfolding planned_by
passes page x o steps e =
    let none = none_applies (refusals page x o) (steps_of page x.tree o) steps e in
    record { large = none.1.1.1.1.1.1.1.1.0; room = none.1.1.1.1.1.1.1.1.1.1.1.0 }

-- what follows from one result of a plan
abbrev plans_behind : ℕ → Indexed → List Op → Result (List Step) OpFault → List (List Step)
plans_behind page x ops (Ok steps) = steps ∷ plans_of page (advanced_all x steps) ops
plans_behind page x ops (Err f) = []

suc_same : (a b : ℕ) → suc a ≡ suc b → a ≡ b
suc_same a b e = omega arith

pub one_passes : (page : ℕ) (x : Indexed) (o : Op) → AreAllAccepted page x (o ∷ []) → Passes page x o
one_passes page x o all = by (planned_by page x o) refl all
  where
    by : (r : Result (List Step) OpFault) → planned_by page x o ≡ r → length (plans_behind page x [] r) ≡ 1 → Passes page x o
    by (Ok steps) is e = passes page x o steps is
    by (Err f) is e = absurd (omega arith)

-- ---- those in front, and those behind

pub accepted_front : (page : ℕ) (x : Indexed) (xs ys : List Op) → AreAllAccepted page x (xs ++ ys) → AreAllAccepted page x xs
accepted_front page x [] ys all = refl
accepted_front page x (o ∷ xs) ys all = by (planned_by page x o) (λ steps rest. accepted_front page (advanced_all x steps) xs ys rest) all
  where
    by : (r : Result (List Step) OpFault) → ((steps : List Step) → AreAllAccepted page (advanced_all x steps) (xs ++ ys) → AreAllAccepted page (advanced_all x steps) xs)
        → length (plans_behind page x (xs ++ ys) r) ≡ suc (length (xs ++ ys)) → length (plans_behind page x xs r) ≡ suc (length xs)
    by (Ok steps) rest e = ap (λ n. suc n) (rest steps (suc_same (length (plans_of page (advanced_all x steps) (xs ++ ys))) (length (xs ++ ys)) e))
    by (Err f) rest e = absurd (omega arith)

pub accepted_back : (page : ℕ) (x : Indexed) (xs ys : List Op) (steps : List Step) → Runs page x xs steps → AreAllAccepted page x (xs ++ ys)
    → AreAllAccepted page (advanced_all x steps) ys
accepted_back page x [] ys steps none all = subst (λ steps. AreAllAccepted page (advanced_all x steps) ys) (sym none) all
accepted_back page x (o ∷ xs) ys steps run all =
    let y = advanced_all x run.0 in
    let both : suc (length (plans_of page y (xs ++ ys))) ≡ suc (length (xs ++ ys)) =
    sym (ap (λ r. length (plans_behind page x (xs ++ ys) r)) run.2) ∙ all in
    let rest = accepted_back page y xs ys run.1 run.4 (suc_same (length (plans_of page y (xs ++ ys))) (length (xs ++ ys)) both) in
    subst (λ z. AreAllAccepted page z ys) (sym (advanced_all-append x run.0 run.1) ∙ ap (advanced_all x) (sym run.3)) rest

-- no more are planned than there are
pub planned_at_most : (page : ℕ) (x : Indexed) (ops : List Op) → length (plans_of page x ops) ≤ length ops
planned_at_most page x [] = omega arith
planned_at_most page x (o ∷ ops) = by (planned_by page x o) (λ steps. planned_at_most page (advanced_all x steps) ops)
  where
    by : (r : Result (List Step) OpFault) → ((steps : List Step) → length (plans_of page (advanced_all x steps) ops) ≤ length ops) → length (plans_behind page x ops r) ≤ length (o ∷ ops)
    by (Ok steps) rest = let few : length (plans_of page (advanced_all x steps) ops) ≤ length ops = rest steps in omega arith
    by (Err f) rest = omega arith

-- ---- room

-- so many steps are no more than numbers and versions have room for, or the operation passes
abbrev pub HasRoom : ℕ → ℕ → Indexed → Op → Type 0
HasRoom count page x o = (count + 4 ≤ 0xFFFFFFFF) ⊎ Passes page x o

pub room_of : {P : Type 0} (count page : ℕ) (x : Indexed) (o : Op) → (P → count + 4 ≤ 0xFFFFFFFF) → P ⊎ AreAllAccepted page x (o ∷ []) → HasRoom count page x o
room_of count page x o few room = ⊎_elim (λ p. inl (few p)) (λ all. inr (one_passes page x o all)) room

pub not_large : (most n : ℕ) → nat_lt most n ≡ false → n ≤ most
not_large most n e = ltb-false most n e
