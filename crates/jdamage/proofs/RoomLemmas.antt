-- How long the paths are that are told.
use Rattle.std.proofs.Common.{◌≡◌, ℕ, zero, suc, ◌+◌, ◌<◌, ◌≤◌, Bool, true, false, cond, List, [], ◌∷◌, length, take, get_or, refl, sym, subst, ap, ◌∙◌, arith, Option, Some, None}
use Rattle.std.specs.Prelude.{◌==◌, map, option_and_then, is_err, is_ok, is_some, reverse, Err, Ok, OnErr, Result, if◌then◌else◌}
use Rattle.std.specs.Borrow.{Bor}
use Rattle.std.specs.BTreeSet.{BTreeSet}
use Rattle.std.proofs.lemmas.Bool.{false≢true}
use Rattle.std.proofs.lemmas.List.{get_or-map, get_or-take, length-map, length-reverse, length-take}
use Rattle.jnode.specs.declared.order.Endian.{Endian}
use Rattle.jnode.specs.declared.node.Damage.{Damage}
use Rattle.jnode.specs.declared.node.Damage.TheVariants.{NodeCrc, NameCrc, DataCrc, Length, Range}
use Rattle.jmount.specs.Mount.{Mount}
use Rattle.jmount.specs.Tree.{State, is_directory}
use Rattle.jdamage.specs.Entered.{entry_name}
use Rattle.jdamage.specs.Room.{HeldPathsFit, NodePathsFit, PathsFit, names_told}
use Rattle.jdamage.specs.Ways.{HeldName, NameOf, climbed, depth, name_held, names_led, path_below, path_length, steps_at_most}

-- names that are put in front go on with the path
longer : (s : State) (up : ℕ → Option NameOf) (steps dir : ℕ) (names more : List (List ℕ)) (n : ℕ) → length more ≡ length names + n
    → path_length (climbed s up steps dir more) ≤ path_length (climbed s up steps dir names) + n
unfolding climbed
longer s up zero dir names more n is = omega arith
longer s up (suc steps) dir names more n is =
    by (is_directory s dir) (dir == 1) (up dir) (λ x. longer s up steps x.0 (x.1 ∷ names) (x.1 ∷ more) n (omega (arith, is)))
  where
    by : (d r : Bool) (o : Option NameOf) → ((x : NameOf) → path_length (climbed s up steps x.0 (x.1 ∷ more)) ≤ path_length (climbed s up steps x.0 (x.1 ∷ names)) + n)
        → path_length (cond d (cond r (Some more) (option_and_then (λ (x : NameOf). climbed s up steps x.0 (x.1 ∷ more)) o)) None)
        ≤ path_length (cond d (cond r (Some names) (option_and_then (λ (x : NameOf). climbed s up steps x.0 (x.1 ∷ names)) o)) None) + n
    by false r o above = omega arith
    by true true o above = omega (arith, is)
    by true false None above = omega arith
    by true false (Some x) above = above x

-- the path of a name in a directory is one name longer than that of the directory
pub name_fits : (s : State) (dir room : ℕ) (name : List ℕ) → depth s dir < room → path_length (path_below s dir (name ∷ [])) ≤ room
name_fits s dir room name below =
    let more = longer s (entry_name s) (steps_at_most s) dir [] (name ∷ []) 1 (omega arith) in
    omega (arith, more, below)

-- no path has fewer names than it begins with
names_within : (s : State) (up : ℕ → Option NameOf) (steps dir : ℕ) (names path : List (List ℕ)) → climbed s up steps dir names ≡ Some path → length names ≤ length path
unfolding climbed
names_within s up zero dir names path is = absurd (false≢true (ap is_some is))
names_within s up (suc steps) dir names path is =
    by (is_directory s dir) (dir == 1) (up dir) (λ x. names_within s up steps x.0 (x.1 ∷ names) path) is
  where
    by : (d r : Bool) (o : Option NameOf) → ((x : NameOf) → climbed s up steps x.0 (x.1 ∷ names) ≡ Some path → length (x.1 ∷ names) ≤ length path)
        → cond d (cond r (Some names) (option_and_then (λ (x : NameOf). climbed s up steps x.0 (x.1 ∷ names)) o)) None ≡ Some path → length names ≤ length path
    by false r o above found = absurd (false≢true (ap is_some found))
    by true true o above found = omega (arith, ap path_length found)
    by true false None above found = absurd (false≢true (ap is_some found))
    by true false (Some x) above found = omega (arith, above x found)

-- where there is no room for one more name no way leads on
pub no_room : (s : State) (up : ℕ → Option NameOf) (steps dir : ℕ) (name : List ℕ) (names : List (List ℕ)) → path_length (climbed s up steps dir (name ∷ names)) ≤ length names
    → climbed s up steps dir (name ∷ names) ≡ None
no_room s up steps dir name names few = by (climbed s up steps dir (name ∷ names)) refl few
  where
    by : (o : Option (List (List ℕ))) → climbed s up steps dir (name ∷ names) ≡ o → path_length o ≤ length names → o ≡ None
    by None is most = refl
    by (Some path) is most = absurd (omega (arith, names_within s up steps dir (name ∷ names) path is, most))

-- ---- names as they are held

pub held_length : (items : List (Bor (List ℕ))) → length (reverse (map (λ n. n.now) items)) ≡ length items
held_length items = length-reverse (map (λ n. n.now) items) ∙ length-map items (λ n. n.now)

pub was_full : {T E : Type 0} (r : Result T E) (P : Type 0) → is_err r ≡ true → OnErr r P → P
was_full (Ok x) P err full = absurd (false≢true err)
was_full (Err e) P err full = full

pub pushed : {X T E : Type 0} (r : Result T E) (new old more : List X) → is_err r ≡ false → new ≡ (if is_ok r then more else old) → new ≡ more
pushed (Ok x) new old more ok is = is
pushed (Err e) new old more ok is = absurd (false≢true (sym ok))

-- ---- more room

pub fits_more : (e : Endian) (m : Mount) (hidden : BTreeSet ℕ) (room more : ℕ) (d : ℕ × Damage) → room ≤ more → NodePathsFit e m hidden room d → NodePathsFit e m hidden more d
fits_more e m hidden room more (addr, DataCrc) most fit = λ seen. λ k d less. omega (arith, fit seen k d less, most)
fits_more e m hidden room more (addr, NameCrc) most fit = omega (arith, fit, most)
fits_more e m hidden room more (addr, NodeCrc) most fit = fit
fits_more e m hidden room more (addr, Length) most fit = fit
fits_more e m hidden room more (addr, Range) most fit = fit

pub paths_fit_more : (s : State) (room more : ℕ) (names : List NameOf) → room ≤ more → PathsFit s room names → PathsFit s more names
paths_fit_more s room more names most fit = λ k d less. omega (arith, fit k d less, most)

pub held_fits : (s : State) (room : ℕ) (names : List HeldName) (i : ℕ) (d : HeldName) → i < length names → HeldPathsFit s room names → depth s (get_or names i d).0 < room
held_fits s room names i d less fit =
    subst (λ (n : NameOf). depth s n.0 < room) (get_or-map name_held names i d (name_held d) less) (fit i (name_held d) (omega (arith, less, length-map names name_held)))

-- ---- fewer names

pub fits_first : (s : State) (room k n : ℕ) (names : List NameOf) → k ≤ n → PathsFit s room (take n names) → PathsFit s room (take k names)
fits_first s room k n names few fit j d less =
    subst (λ (x : NameOf). depth s x.0 < room) (get_or-take n names j d (omega (arith, less, length-take k names)) ∙ sym (get_or-take k names j d (omega (arith, less, length-take k names))))
    (fit j d (omega (arith, less, few, length-take k names, length-take n names)))

pub held_first_fit : (s : State) (room k i : ℕ) (held : List HeldName) → k ≤ 16 → map name_held held ≡ take k (names_led s i) → PathsFit s room (names_told s i) → HeldPathsFit s room held
unfolding names_told
held_first_fit s room k i held few is fit = subst (PathsFit s room) (sym is) (fits_first s room k 16 (names_led s i) few fit)

pub told_are : (s : State) (i : ℕ) (names : List NameOf) → names ≡ take 16 (names_led s i) → names ≡ names_told s i
unfolding names_told
told_are s i names is = is
