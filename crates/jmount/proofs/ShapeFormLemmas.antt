-- The shape in forms that are computed and decided.
use Rattle.std.proofs.Common.{◌≡◌, ℕ, suc, zero, ◌<◌, ◌≤◌, Bool, true, false, List, [], ◌∷◌, ◌++◌, length, length-append, filter, Ok, refl, ap, sym, ◌∙◌, subst, inl, inr, ◌⊎◌, ⊎_elim, arith}
use Rattle.std.specs.Prelude.{Contains, not, ◌==◌}
use Rattle.std.proofs.lemmas.Bool.{cond_both, eqb-true, eq-eqb, not_from_true, not_from_false, true≢false}
use Rattle.flashbase.proofs.MemberLemmas.{Contains-none, Contains-cases, Contains-filter}
use Rattle.jmount.specs.Tree.{Tree, is_directory}
use Rattle.jmount.specs.Find.{walk}
use Rattle.jmount.specs.Shape.{IsSingle, HasShape}
use Rattle.jmount.specs.ShapeForm.{IsOnLoop, HasNoLoop, Holds, HeldByEachOther}
use Rattle.jmount.proofs.ShapeLemmas.{Leads, leads_none, leads_more, leads_on, last_step, first_is_directory, walk_leads, leads_walk}

-- ---- loops

led_round : {B : Type 0} (t : Tree B) (i : ℕ) → IsOnLoop t i → (n : List ℕ) × (ns : List (List ℕ)) × Leads t i (n ∷ ns) i
led_round t i loop =
    let led = walk_leads t (loop.0 ∷ loop.1) i i loop.2 in
    some led.0 led.1 led.2
  where
    some : (ns : List (List ℕ)) → length ns ≡ length (loop.0 ∷ loop.1) → Leads t i ns i → (n : List ℕ) × (ns : List (List ℕ)) × Leads t i (n ∷ ns) i
    some [] long h = absurd (omega arith)
    some (n ∷ ns) long h = (n, ns, h)

walked_round : {B : Type 0} (t : Tree B) (i : ℕ) (ns : List (List ℕ)) → 0 < length ns → is_directory t i ≡ true → Leads t i ns i → IsOnLoop t i
walked_round t i ns long there h =
    let walked = leads_walk t ns i i h there in
    some walked.0 walked.1 walked.2
  where
    some : (names : List (List ℕ)) → length names ≡ length ns → walk t names (Ok i) ≡ Ok i → IsOnLoop t i
    some [] same e = absurd (omega arith)
    some (name ∷ names) same e = (name, names, e)

pub loops_are_of_directories : {B : Type 0} (t : Tree B) (i : ℕ) → IsOnLoop t i → is_directory t i ≡ true
loops_are_of_directories t i loop = let led = led_round t i loop in first_is_directory t i i led.0 led.1 led.2

pub shape_has_no_loop : {B : Type 0} (t : Tree B) → HasShape t → HasNoLoop t
shape_has_no_loop t has i loop = cons_is_none loop.0 loop.1 (has.no_loop i (loop.0 ∷ loop.1) loop.2)
  where
    cons_is_none : (name : List ℕ) (names : List (List ℕ)) → (name ∷ names) ≡ [] → ⊥
    cons_is_none name names e = cc

-- what holds a number that is on a loop, on that loop
pub held_on_loop : {B : Type 0} (t : Tree B) (i : ℕ) → IsOnLoop t i → (dir : ℕ) × IsOnLoop t dir × Holds t dir i
held_on_loop t i loop =
    let led = led_round t i loop in
    let last = last_step t i i led.0 led.1 led.2 in
    let one = leads_more t last.0 last.0 i led.0 [] (leads_none t last.0) last.1 last.2 in
    let round = leads_on t last.0 i last.0 (led.0 ∷ []) led.1 one last.3 in
    (last.0, walked_round t last.0 (led.1 ++ led.0 ∷ []) (simp length-append (omega arith)) last.1 round, (led.0, last.1, last.2))

-- a tree without loops in which no directory but the root has two names has the shape
pub no_loop_is_shape : {B : Type 0} (t : Tree B) → IsSingle t → HasNoLoop t → HasShape t
no_loop_is_shape t single none = record { single = single; no_loop = λ i names e. by_names i names e }
  where
    by_names : (i : ℕ) (names : List (List ℕ)) → walk t names (Ok i) ≡ Ok i → names ≡ []
    by_names i [] e = refl
    by_names i (name ∷ names) e = absurd (none i (name, names, e))

-- ---- numbers that hold each other

pub filter_short : {X : Type 0} (p : X → Bool) (xs : List X) → length (filter p xs) ≤ length xs
filter_short p [] = omega arith
filter_short p (x ∷ xs) =
    let rest : length (filter p xs) ≤ length xs = filter_short p xs in
    cond_both (p x) (x ∷ filter p xs) (filter p xs) (λ ys. length ys ≤ length (x ∷ xs)) (λ yes. omega arith) (λ no. omega arith)

pub filter_less : {X : Type 0} (p : X → Bool) (xs : List X) (y : X) → Contains xs y → p y ≡ false → length (filter p xs) < length xs
filter_less p [] y there gone = absurd (Contains-none y there)
filter_less p (x ∷ xs) y there gone =
    let rest : length (filter p xs) ≤ length xs = filter_short p xs in
    ⊎_elim
    (λ (same : x ≡ y).
    cond_both (p x) (x ∷ filter p xs) (filter p xs) (λ ys. length ys < length (x ∷ xs)) (λ yes. absurd (true≢false (sym yes ∙ ap p same ∙ gone))) (λ no. omega arith))
    (λ later.
    let less : length (filter p xs) < length xs = filter_less p xs y later gone in
    cond_both (p x) (x ∷ filter p xs) (filter p xs) (λ ys. length ys < length (x ∷ xs)) (λ yes. omega arith) (λ no. omega arith))
    (Contains-cases x xs y there)

-- names that lead back are a loop
no_round : {B : Type 0} (t : Tree B) → HasNoLoop t → (i : ℕ) (n : List ℕ) (ns : List (List ℕ)) → Leads t i (n ∷ ns) i → ⊥
no_round t none i n ns h = none i (walked_round t i (n ∷ ns) (omega arith) (first_is_directory t i i n ns h) h)

-- Behind each number stands another, and none that was met: those that were not met become fewer.
goes_back : {B : Type 0} (t : Tree B) (xs : List ℕ) → HasNoLoop t → HeldByEachOther t xs → (k : ℕ) (rest : List ℕ) (c : ℕ) → length rest ≤ k → Contains xs c
    → ((y : ℕ) → Contains xs y → Contains rest y ⊎ ((ns : List (List ℕ)) × Leads t c ns y)) → ⊥
goes_back t xs none held zero rest c short there met =
    let up = held c there in
    ⊎_elim
    (λ (left : Contains rest up.0). let less : length (filter (λ y. not (y == up.0)) rest) < length rest = filter_less (λ y. not (y == up.0)) rest up.0 left (not_from_true (up.0 == up.0) (eq-eqb up.0 up.0 refl)) in omega arith)
    (λ (led : (ns : List (List ℕ)) × Leads t c ns up.0). no_round t none c up.2.0 led.0 (leads_more t c up.0 c up.2.0 led.0 led.1 up.2.1 up.2.2))
    (met up.0 up.1)
goes_back t xs none held (suc k) rest c short there met =
    let up = held c there in
    let test = λ (y : ℕ). not (y == up.0) in
    let one = leads_more t up.0 up.0 c up.2.0 [] (leads_none t up.0) up.2.1 up.2.2 in
    ⊎_elim
    (λ (left : Contains rest up.0).
    let less : length (filter test rest) < length rest = filter_less test rest up.0 left (not_from_true (up.0 == up.0) (eq-eqb up.0 up.0 refl)) in
    goes_back t xs none held k (filter test rest) up.0 (omega arith) up.1
    (λ y among.
    ⊎_elim
    (λ (before : Contains rest y). by_number t test rest up.0 y before (y == up.0) refl)
    (λ (led : (ns : List (List ℕ)) × Leads t c ns y). inr (led.0 ++ up.2.0 ∷ [], leads_on t up.0 c y (up.2.0 ∷ []) led.0 one led.1))
    (met y among)))
    (λ (led : (ns : List (List ℕ)) × Leads t c ns up.0). no_round t none c up.2.0 led.0 (leads_more t c up.0 c up.2.0 led.0 led.1 up.2.1 up.2.2))
    (met up.0 up.1)
  where
    by_number : {B : Type 0} (t : Tree B) (test : ℕ → Bool) (rest : List ℕ) (d y : ℕ) → Contains rest y → (b : Bool) → (y == d) ≡ b → Contains (filter (λ y. not (y == d)) rest) y ⊎ ((ns : List (List ℕ)) × Leads t d ns y)
    by_number t test rest d y before true e = inr ([], subst (Leads t d []) (sym (eqb-true y d e)) (leads_none t d))
    by_number t test rest d y before false e = inl (Contains-filter (λ y. not (y == d)) rest y (not_from_false (y == d) e) before)

-- so where each of some numbers is held by one of them, there is a loop
pub held_is_loop : {B : Type 0} (t : Tree B) (xs : List ℕ) (x : ℕ) → Contains xs x → HeldByEachOther t xs → HasNoLoop t → ⊥
held_is_loop t xs x there held none = goes_back t xs none held (length xs) xs x (omega arith) there (λ y among. inl among)
