-- What is stored, by look-up.
use Rattle.std.proofs.Common.{◌≡◌, ℕ, Bool, true, false, ◌||◌, List, [], ◌∷◌, map, cond, Option, Some, None, refl, ap, sym, ◌∙◌}
use Rattle.std.specs.Prelude.{◌==◌, option_map, unwrap_or, is_some, MatchOption}
use Rattle.std.specs.Option.{option_copied}
use Rattle.std.specs.Borrow.{Bor}
use Rattle.std.specs.List.{list_any}
use Rattle.std.specs.Map.{lookup}
use Rattle.std.specs.Ordering.{nat_cmp, eq_by_cmp}
use Rattle.std.specs.Cmp.{nat_cmp_total}
use Rattle.std.specs.BTreeMap.{get}
use Rattle.std.specs.FinMap as finite
use Rattle.std.specs.FinMap.{nat_cmp-IsAntisymmetric}
use Rattle.std.proofs.lemmas.Bool.{true≢false}
use Rattle.flashbase.proofs.ListLemmas.{get-tabled_all}
use Rattle.jname.proofs.NamingLemmas.{get-live_names}
use Rattle.jnode.specs.declared.node.Dirent.{Dirent}
use Rattle.jname.specs.Live.{live}
use Rattle.jmount.specs.Tree.{State, object, named, type_bits, directory_bits, has_bits}
use Rattle.jmount.specs.Shown.{shown}
use Rattle.jmount.specs.declared.stored.Stored.{Stored}
use Rattle.jmount.specs.Stored.{ObjectsByNumber, stored_object, stored_objects, stored_state}

no_key : {X : Type 0} (b c : Bool) (x : X) (o : Option X) → (b || c) ≡ false → (c ≡ false → o ≡ None) → cond b (Some x) o ≡ None
no_key true c x o h later = absurd (true≢false h)
no_key false c x o h later = later h

pub lookup-no_key : {X : Type 0} (q : ℕ) (es : List (ℕ × X)) → list_any (eq_by_cmp nat_cmp q) (map (λ e. e.0) es) ≡ false → lookup (eq_by_cmp nat_cmp q) es ≡ None
lookup-no_key q [] h = refl
lookup-no_key q (e ∷ es) h =
    no_key (eq_by_cmp nat_cmp q e.0) (list_any (eq_by_cmp nat_cmp q) (map (λ e. e.0) es)) e.1 (lookup (eq_by_cmp nat_cmp q) es) h (lookup-no_key q es)

pub get-stored_objects : (objects : ObjectsByNumber) (i : ℕ) → finite.get (stored_objects objects) i ≡ option_map stored_object (get nat_cmp objects i)
get-stored_objects objects i =
    get-tabled_all nat_cmp nat_cmp_total nat_cmp-IsAntisymmetric (map (λ e. e.0) objects.entries) (λ j. option_map stored_object (get nat_cmp objects j)) i
    (λ none. ap (option_map stored_object) (lookup-no_key i objects.entries none))

-- at a state that is as it is stored
module _ (s : State) (objects : ObjectsByNumber) (names : List Dirent) (next : ℕ) (is_stored : stored_state objects names next ≡ s) where
  pub object-is : (i : ℕ) → object s i ≡ option_map stored_object (get nat_cmp objects i)
  object-is i = ap (λ (t : State). object t i) (sym is_stored) ∙ get-stored_objects objects i

  pub object-found : (i : ℕ) (o : Option Stored) → get nat_cmp objects i ≡ o → object s i ≡ option_map stored_object o
  object-found i o found = object-is i ∙ ap (option_map stored_object) found

  pub named-is : (dir : ℕ) (name : List ℕ) → named s dir name ≡ live names (dir, name)
  named-is dir name = ap (λ (t : State). named t dir name) (sym is_stored) ∙ get-live_names names (dir, name)

pub is_some-map : {X Y : Type 0} (f : X → Y) (o : Option X) → is_some o ≡ is_some (option_map f o)
is_some-map f None = refl
is_some-map f (Some x) = refl

-- ---- what a function gives of what a look-up finds, and else a default

pub by-found : {X Y : Type 0} (o : Option (Bor X)) (k : Option X) (d r : Y) (f : X → Y) (Q : Bor X → Type 0) → option_copied o ≡ k → MatchOption o (r ≡ d) Q → ((x : Bor X) → Q x → r ≡ f x.now)
    → r ≡ unwrap_or (option_map f k) d
by-found None k d r f Q found none some = none ∙ ap (λ j. unwrap_or (option_map f j) d) found
by-found (Some x) k d r f Q found q some = some x q ∙ ap (λ j. unwrap_or (option_map f j) d) found

pub shown-found : (k : Option Stored) → unwrap_or (option_map (λ stored. Some (shown (stored_object stored))) k) None ≡ option_map shown (option_map stored_object k)
shown-found None = refl
shown-found (Some stored) = refl

pub directory-found : (k : Option Stored) → unwrap_or (option_map (λ stored. type_bits stored.mode == directory_bits) k) false ≡ has_bits directory_bits (option_map stored_object k)
directory-found None = refl
directory-found (Some stored) = refl
