-- The shape of a tree: no directory has two names, and none lies below itself.
use Rattle.std.specs.Prelude.{◌≡◌, ◌≢◌, ℕ, true, List, [], Some, Ok}
use Rattle.jmount.specs.Tree.{Tree, named, is_directory}
use Rattle.jmount.specs.Find.{walk}

-- rule: The file system that nodes make: Which objects have several names.
--   definitions: jmount.Shape.HasOneName
--   code: jmount::directories::keep_directories, jmount::mounted::has_several_names
-- at most one name stands for a number, in whatever directory it is looked up
abbrev pub HasOneName : {B : Type 0} → Tree B → ℕ → Type 0
HasOneName t i = (a b : ℕ) (m n : List ℕ) → named t a m ≡ Some i → named t b n ≡ Some i
    → (a ≡ b) × (m ≡ n)

-- two names of one directory other than the root are one name, in whatever directory they are
-- looked up
abbrev pub IsSingle : {B : Type 0} → Tree B → Type 0
IsSingle t = (a b : ℕ) (m n : List ℕ) (i : ℕ) → named t a m ≡ Some i → named t b n ≡ Some i
    → is_directory t i ≡ true → i ≢ 1 → (a ≡ b) × (m ≡ n)

-- rule: The file system that nodes make: The shape of a tree: no directory has two names, none lies
--   below itself.
--   definitions: jmount.Shape.HasShape, jmount.ShapeForm.shape_of
--   code: jmount::shape::has_shape, jmount::mounted::has_shape
--   laws: jmount::laws::shape_is_decided, jsteps::laws::shape_is_kept
-- No directory but the root has two names, and a walk that comes back to where it began had no
-- names to go.
pub record HasShape {B : Type 0} (t : Tree B) : Type 0 where
  pub single : IsSingle t
  pub no_loop : (i : ℕ) (names : List (List ℕ)) → walk t names (Ok i) ≡ Ok i → names ≡ []
