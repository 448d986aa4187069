-- Where the next item goes: its directory is there, and its name is free.
use Rattle.std.proofs.Common.{◌≡◌, ℕ, ◌+◌, ◌/◌, ◌%◌, ◌<◌, ◌≤◌, true, false, List, [], ◌∷◌, ◌++◌, length, map, Option, Some, None, Ok, refl, ap, sym, ◌∙◌, subst, ⊎_elim, length-append, arith}
use Rattle.std.specs.Prelude.{All, Contains, IsTrue, unwrap_or, get_or, ◌==◌}
use Rattle.std.specs.String.{string_bytes}
use Rattle.std.proofs.lemmas.Bool.{eq-eqb}
use Rattle.std.proofs.lemmas.List.{get_or_append_left, get_or-map, length-map}
use Rattle.std.proofs.lemmas.List.Elements.{Contains-get_or}
use Rattle.jnode.specs.declared.order.Endian.{Endian}
use Rattle.jmount.specs.Tree.{ObjectOf, State, named, is_directory, has_bits, directory_bits, type_bits}
use Rattle.jmount.specs.Find.{IsPath, path_text, is_name, walk}
use Rattle.jmount.proofs.ShapePathLemmas.{one_path_to_each}
use Rattle.jsteps.specs.Nodes.{Indexed}
use Rattle.jsteps.specs.Where.{names_on_path}
use Rattle.jfolder.specs.Actions.{ItemFits}
use Rattle.jfolder.specs.Trees.{HasDirectory, MayFollow}
use Rattle.jfolder.specs.declared.tree.Item.{Item}
use Rattle.jfolder.specs.declared.tree.What.TheVariants as what
use Rattle.jtree.specs.Making.{Files}
use Rattle.jtree.specs.Holding.{first_path, first_path_of, object_of_what}
use Rattle.jtree.proofs.CountLemmas.{not_above}
use Rattle.jtree.proofs.WayLemmas.{IsPlaced, has_long, long_push, path_is, placed}
use Rattle.jtree.proofs.StandLemmas.{Made, Stands}
use Rattle.jtree.proofs.RunLemmas.{IsAt, at_walk, at_directory}

abbrev pub names_of : Item → List (List ℕ)
names_of i = names_on_path (string_bytes i.path)

abbrev pub made_of : Endian → Files → Item → Made
made_of e files i = record { names = names_of i; origin = names_on_path (first_path_of i); object_is = object_of_what e files i.attributes i.what }

-- what is known of an item that stands
pub record IsKnown (j : Item) : Type 0 where
  pub fits : ItemFits j
  pub way : List (List ℕ)
  pub name : List ℕ
  pub last : names_of j ≡ way ++ name ∷ []
  pub path : IsPath (string_bytes j.path) (names_of j)
  pub origin : IsPath (first_path_of j) (names_on_path (first_path_of j))

pub record IsBuilt (e : Endian) (files : Files) (root : ObjectOf (List ℕ)) (before : List Item) (n : ℕ) (x : Indexed) (s : State) : Type 0 where
  pub is_at : IsAt n x s
  pub stands : Stands root (map (made_of e files) before) s
  pub known : (j : Item) → Contains before j → IsKnown j

-- ---- lists

pub names_are : (path : List ℕ) (names : List (List ℕ)) → IsPath path names → names_on_path path ≡ names
names_are path names is = ap (λ (o : Option (List (List ℕ))). unwrap_or o []) (path_is path names is)

pub Contains-mapped : {X Y : Type 0} (f : X → Y) (xs : List X) (x : X) → Contains xs x → Contains (map f xs) (f x)
Contains-mapped f xs x (k, less, e) = (k, subst (λ n. k < n) (sym (length-map xs f)) less, get_or-map f xs k x (f x) less ∙ ap f e)

pub Contains-from_map : {X Y : Type 0} (f : X → Y) (xs : List X) (y : Y) → Contains (map f xs) y → (x : X) × Contains xs x × (f x ≡ y)
Contains-from_map f [] y (k, less, e) = absurd (omega arith)
Contains-from_map f (x ∷ xs) y (k, less, e) =
    let inside : k < length (x ∷ xs) = subst (λ n. k < n) (length-map (x ∷ xs) f) less in
    let at = get_or (x ∷ xs) k x in
    (at, Contains-get_or (x ∷ xs) k x inside, sym (get_or-map f (x ∷ xs) k x y inside) ∙ e)

All-front : {X : Type 0} (P : X → Type 0) (xs ys : List X) → All P (xs ++ ys) → All P xs
All-front P xs ys all = λ k d less.
    subst P (get_or_append_left xs ys d k less) (all k d (let long = length-append xs ys in omega arith))

-- ---- its directory

pub record HasWay (s : State) (way : List (List ℕ)) : Type 0 where
  pub dir : ℕ
  pub leads : walk s way (Ok 1) ≡ Ok dir
  pub directory : is_directory s dir ≡ true
  pub short : has_long way ≡ false

directory_mode : (mode : ℕ) → mode ≤ 0o7777 → (type_bits (0o040000 + mode) == directory_bits) ≡ true
directory_mode mode fits = eq-eqb ((0o040000 + mode) / 4096 % 16) 4 (omega arith)

way_of : (e : Endian) (files : Files) (root : ObjectOf (List ℕ)) (before : List Item) (n : ℕ) (x : Indexed) (s : State) (way : List (List ℕ))
    → IsBuilt e files root before n x s
    → All (λ name. IsTrue (is_name name)) way → HasDirectory before way → HasWay s way
way_of e files root before n x s way built all has =
    ⊎_elim
    (λ (empty : way ≡ []). record {
      dir = 1;
      leads = ap (λ ns. walk s ns (Ok 1)) empty;
      directory = sym (at_directory n x s built.is_at 1) ∙ built.is_at.same.root;
      short = ap has_long empty;
    })
    (λ (p : (i : Item) × Contains before i × (string_bytes i.path ≡ path_text way) × (i.what ≡ what.Directory)).
    let i = p.0 in
    let m = made_of e files i in
    let h = built.stands.held m (Contains-mapped (made_of e files) before i p.1) in
    let names : names_of i ≡ way = names_are (string_bytes i.path) way (p.2, all) in
    let origin : m.names ≡ m.origin = ap (λ w. names_on_path (first_path (string_bytes i.path) w)) (sym p.3) in
    let mode : i.attributes.mode ≤ 0o7777 = (built.known i p.1).fits.attributes.mode in
    record {
      dir = h.number;
      leads = ap (λ ns. walk s ns (Ok 1)) (sym names) ∙ h.leads;
      directory = ap (has_bits directory_bits) (h.there origin ∙ ap (λ w. Some (object_of_what e files i.attributes w)) p.3) ∙ directory_mode i.attributes.mode mode;
      short = ap has_long (sym names) ∙ h.short;
    })
    has

-- ---- and its name

pub record IsAhead (path : List ℕ) (s : State) : Type 0 where
  pub way : List (List ℕ)
  pub name : List ℕ
  pub path_is : IsPath path (way ++ name ∷ [])
  pub dir : ℕ
  pub leads : walk s way (Ok 1) ≡ Ok dir
  pub directory : is_directory s dir ≡ true
  pub free : named s dir name ≡ None
  pub short : has_long (way ++ name ∷ []) ≡ false

none_of : (o : Option ℕ) → ((k : ℕ) → o ≡ Some k → ⊥) → o ≡ None
none_of None h = refl
none_of (Some k) h = absurd (h k refl)

pub ahead : (e : Endian) (files : Files) (root : ObjectOf (List ℕ)) (before : List Item) (n : ℕ) (x : Indexed) (s : State) (i : Item) → IsBuilt e files root before n x s
    → MayFollow before i → IsAhead (string_bytes i.path) s
ahead e files root before n x s i built may =
    let way = may.way in
    let name = may.name in
    let at = way_of e files root before n x s way built (All-front (λ name. IsTrue (is_name name)) way (name ∷ []) may.path.1) may.directory in
    record {
      way = way;
      name = name;
      path_is = may.path;
      dir = at.dir;
      leads = at.leads;
      directory = at.directory;
      free = none_of (named s at.dir name)
          (λ k stood.
          let is = built.stands.names_are at.dir name k stood in
          let one : is.way ≡ way = one_path_to_each s is.way way at.dir built.is_at.shape is.leads at.leads at.directory in
          let from = Contains-from_map (made_of e files) before is.m is.among in
          let j = from.0 in
          let names : names_of j ≡ way ++ name ∷ [] = ap (λ (m : Made). m.names) from.2 ∙ is.names ∙ ap (λ ns. ns ++ name ∷ []) one in
          may.new j from.1 ((built.known j from.1).path.0 ∙ ap path_text names ∙ sym may.path.0));
      short = long_push way name at.short (not_above 254 (length name) may.short);
    }

-- the same of an index
pub ahead_placed : (n : ℕ) (x : Indexed) (s : State) (path : List ℕ) → IsAt n x s → (a : IsAhead path s) → IsPlaced x.tree path a.dir a.name
ahead_placed n x s path at a = placed x.tree path a.way a.name a.dir a.path_is a.short (at_walk n x s at a.way ∙ a.leads)
    (at_directory n x s at a.dir ∙ a.directory)
