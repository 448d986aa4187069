-- A look whose wanted objects are chosen by the tree.
use Rattle.std.proofs.Common.{◌≡◌, ◌++◌, ℕ, Bool, true, false, cond, List, [], ◌∷◌, map, None, Some, Option, refl, sym, ap, ap₂, subst, ◌∙◌, Err, inl, inr}
use Rattle.std.specs.Prelude.{Ok, Result, option_map}
use Rattle.std.specs.BTreeSet.{BTreeSet, contains}
use Rattle.std.specs.Cmp.{unsigned_tied}
use Rattle.std.specs.Ordering.{eq_by_cmp, nat_cmp}
use Rattle.std.proofs.lemmas.Grind.{flat_map-append}
use Rattle.jnode.specs.declared.node.Seen.{Seen}
use Rattle.jnode.specs.declared.node.Seen.TheVariants as seen
use Rattle.jnode.specs.declared.node.Fill.TheVariants.{Zero}
use Rattle.jnode.specs.Compressed.{inode_with}
use Rattle.jnode.specs.declared.order.Endian.{Endian}
use Rattle.jscan.specs.Image.{sightings}
use Rattle.jexpand.specs.Expanded.{compressed_node_at, tile_content, contents_of_tiles}
use Rattle.jmount.specs.Mount.{Mount}
use Rattle.jmount.specs.Find.{find}
use Rattle.jmount.specs.Tree.{ObjectOf, State, Outline, sized, object, outline, has_bits, symlink_bits}
use Rattle.jmount.specs.declared.fault.FindFault.{FindFault}
use Rattle.jmount.proofs.OutlineLemmas.{object-outline, find-outline}
use Rattle.jview.specs.Through.{MountsThroughAs}
use Rattle.jthrough.specs.declared.fault.ViewFault.{ViewFault}
use Rattle.jthrough.specs.declared.fault.ViewFault.TheVariants.{OutOfMemory}
use Rattle.jlook.specs.Laws.{ShowsSame}
use Rattle.jlook.specs.Looked.{Wants, zeroed, looked_tile}
use Rattle.jlook.specs.Look.{IsLookAt}
use Rattle.jlook.specs.Looks.{AnswersTiles, AnswersLook}
use Rattle.jlook.specs.declared.look.Look.{Look}
use Rattle.jlook.specs.Chosen.{Choice, symlinks_in, is_that_object, object_by_path, nothing_wanted, AreChosen, IsNoLook, AnswersChosen, IsTheSameBy, TreeIsTheSame, ObjectIsTheSame}
use Rattle.jlook.proofs.FoundLemmas.{none_is}
use Rattle.jlook.proofs.ShowLemmas.{outline_is, looking_shows_the_tree}

-- ---- the same numbers are wanted

module _ (v w : Wants) (same : (i : ℕ) → v i ≡ w i) (e : Endian) (size : ℕ) (image : List ℕ) where
  tile_same : (s : ℕ × Seen) → looked_tile v e size image s ≡ looked_tile w e size image s
  tile_same (addr, seen.Inode inode) = ap (λ (b : Bool). (addr, seen.Inode (cond b inode (zeroed inode)))) (same inode.ino)
  tile_same (addr, seen.Compressed compr) =
      ap (λ (b : Bool). (addr, cond b (seen.Compressed compr) (seen.Inode (inode_with (compressed_node_at e size image addr) Zero)))) (same (compressed_node_at e size image addr).ino)
  tile_same (addr, _) = refl

  tiles_same : (ss : List (ℕ × Seen)) → map (looked_tile v e size image) ss ≡ map (looked_tile w e size image) ss
  tiles_same [] = refl
  tiles_same (s ∷ ss) = ap₂ (λ (t : ℕ × Seen) (ts : List (ℕ × Seen)). t ∷ ts) (tile_same s) (tiles_same ss)

  pub look_same : (answer : Result Mount ViewFault) → AnswersLook v e size image answer → AnswersLook w e size image answer
  look_same answer look = subst (λ (ts : List (ℕ × Seen)). AnswersTiles e size image ts answer) (tiles_same (sightings e size image)) look

-- ---- what is chosen is a matter of the outline

abbrev pub IsOfOutline : Choice → Type 0
IsOfOutline choice = (s t : State) → outline s ≡ outline t → (i : ℕ) → choice s i ≡ choice t i

bits_sized : (o : Option (ObjectOf (List ℕ))) → has_bits symlink_bits (option_map sized o) ≡ has_bits symlink_bits o
bits_sized None = refl
bits_sized (Some o) = refl

symlinks_outline : (s : State) (i : ℕ) → has_bits symlink_bits (object (outline s) i) ≡ symlinks_in s i
symlinks_outline s i = ap (has_bits symlink_bits) (object-outline s i) ∙ bits_sized (object s i)

pub symlinks_are_of_outline : IsOfOutline symlinks_in
symlinks_are_of_outline s t is i = sym (symlinks_outline s i) ∙ ap (λ (o : Outline). has_bits symlink_bits (object o i)) is ∙ symlinks_outline t i

pub object_is_of_outline : (path : List ℕ) → IsOfOutline (object_by_path path)
object_is_of_outline path s t is i =
    ap (λ (found : Result ℕ FindFault). is_that_object found i) (sym (find-outline s path) ∙ ap (λ (o : Outline). find o path) is ∙ find-outline t path)

-- ---- the laws

is_the_same : (choice : Choice) → IsOfOutline choice → IsTheSameBy choice
is_the_same choice of_outline e size image full (Ok looked) through (s, first, look) =
    let shows : ShowsSame (choice s) full looked = looking_shows_the_tree (choice s) e size image full (Ok looked) through look in
    let mounts : MountsThroughAs e size image full.state = subst (λ (l : List ℕ). MountsThroughAs e size l full.state) through.0 through.1.mounts in
    let outlines : outline s ≡ outline full.state = ap outline (sym first.same) ∙ outline_is nothing_wanted e size image mounts.sound ∙ ap outline mounts.same in
    record {
      image = shows.image;
      outline_is = shows.outline_is;
      wanted = λ i wanted. shows.wanted i (of_outline s full.state outlines i ∙ wanted);
      tops = shows.tops;
      findings = shows.findings;
      read_only = shows.read_only;
    }
is_the_same choice of_outline e size image full (Err why) through look =
    elim look [
      | inl first ↦ looking_shows_the_tree nothing_wanted e size image full (Err why) through first
      | inr second ↦ looking_shows_the_tree (choice second.0) e size image full (Err why) through second.2
    ]

pub tree_is_the_same : TreeIsTheSame
tree_is_the_same = is_the_same symlinks_in symlinks_are_of_outline

pub object_is_the_same : ObjectIsTheSame
object_is_the_same path = is_the_same (object_by_path path) (object_is_of_outline path)

-- ---- the second look

pub second_answers : (choice : Choice) (e : Endian) (size : ℕ) (image : List ℕ) (numbers : BTreeSet ℕ) (answer : Result Mount ViewFault)
    → AreChosen choice e size image (contains nat_cmp numbers) → AnswersLook (contains nat_cmp numbers) e size image answer → AnswersChosen choice e size image answer
second_answers choice e size image numbers answer (s, first, same) look = by answer (look_same (contains nat_cmp numbers) (choice s) same e size image answer look)
  where
    by : (answer : Result Mount ViewFault) → AnswersLook (choice s) e size image answer → AnswersChosen choice e size image answer
    by (Ok mount) second = (s, first, second)
    by (Err why) second = inr (s, first, second)

-- ---- the first look

-- it wants nothing
nothing_in : (numbers : BTreeSet ℕ) → numbers.keys ≡ [] → (i : ℕ) → contains nat_cmp numbers i ≡ nothing_wanted i
nothing_in numbers empty i = none_is numbers i empty

pub first_answers : (e : Endian) (size : ℕ) (image : List ℕ) (nothing : BTreeSet ℕ) (answer : Result Mount ViewFault) → nothing.keys ≡ []
    → AnswersLook (contains nat_cmp nothing) e size image answer → AnswersLook nothing_wanted e size image answer
first_answers e size image nothing answer empty look = look_same (contains nat_cmp nothing) nothing_wanted (nothing_in nothing empty) e size image answer look

pub first_chosen : (choice : Choice) (e : Endian) (size : ℕ) (image : List ℕ) (numbers : BTreeSet ℕ) (mount : Mount)
    → AnswersLook nothing_wanted e size image (Ok mount) → ((i : ℕ) → contains nat_cmp numbers i ≡ choice mount.state i)
    → AreChosen choice e size image (contains nat_cmp numbers)
first_chosen choice e size image numbers mount look chosen = (mount.state, look.mounts, chosen)

pub first_without : (e : Endian) (size : ℕ) (image : List ℕ) (mount : Mount) → AnswersLook nothing_wanted e size image (Ok mount) → IsNoLook e size image OutOfMemory
first_without e size image mount look = look.mounts.sound.scannable

-- its contents are none

module _ (wants : Wants) (none : (i : ℕ) → wants i ≡ false) (e : Endian) (size : ℕ) (image : List ℕ) where
  tile_none : (s : ℕ × Seen) → tile_content e size image (looked_tile wants e size image s) ≡ []
  tile_none (addr, seen.Compressed compr) =
      ap (λ (b : Bool). tile_content e size image (addr, cond b (seen.Compressed compr) (seen.Inode (inode_with (compressed_node_at e size image addr) Zero)))) (none (compressed_node_at e size image addr).ino)
  tile_none (addr, _) = refl

  tiles_none : (ss : List (ℕ × Seen)) → contents_of_tiles e size image (map (looked_tile wants e size image) ss) ≡ []
  tiles_none [] = refl
  tiles_none (s ∷ ss) = ap₂ (λ (xs ys : List ℕ). xs ++ ys) (tile_none s) (tiles_none ss)

  front_none : (xs ys : List ℕ) → xs ++ ys ≡ [] → xs ≡ []
  front_none [] ys is = refl
  front_none (x ∷ xs) ys is = absurd (cc)

  pub without_contents : (held : List ℕ) (look : Look) → IsLookAt wants e size image held look → IsLookAt wants e size image [] look
  without_contents held look v =
      let all : contents_of_tiles e size image v.done ++ contents_of_tiles e size image v.rest ≡ [] =
      sym (flat_map-append (tile_content e size image) v.done v.rest) ∙ ap (contents_of_tiles e size image) (sym v.all) ∙ tiles_none (sightings e size image) in
      let done : contents_of_tiles e size image v.done ≡ [] = front_none (contents_of_tiles e size image v.done) (contents_of_tiles e size image v.rest) all in
      record {
        scannable = v.scannable;
        done = v.done;
        rest = v.rest;
        all = v.all;
        has = record {
          none = v.has.none;
          among = v.has.among;
          nodes = v.has.nodes;
          tiles = v.has.tiles;
          contents = ([], ap (λ (l : List ℕ). l ++ []) (sym done));
          few = v.has.few;
        };
        ends = v.ends;
      }

pub nothing_is : (numbers : BTreeSet ℕ) → numbers.keys ≡ [] → (i : ℕ) → contains nat_cmp numbers i ≡ false
nothing_is numbers empty i = none_is numbers i empty

-- ---- the object that a path names

alone : (b : Bool) → cond b true false ≡ b
alone true = refl
alone false = refl

pub one_object : (path : List ℕ) (s : State) (ino : ℕ) (old new : BTreeSet ℕ) → old.keys ≡ []
    → ((q : ℕ) → contains nat_cmp new q ≡ cond (eq_by_cmp nat_cmp ino q) true (contains nat_cmp old q)) → find s path ≡ Ok ino
    → (i : ℕ) → contains nat_cmp new i ≡ object_by_path path s i
one_object path s ino old new empty gains found i =
    gains i
    ∙ ap (λ (b : Bool). cond (eq_by_cmp nat_cmp ino i) true b) (none_is old i empty)
    ∙ alone (eq_by_cmp nat_cmp ino i)
    ∙ unsigned_tied ino i
    ∙ ap (λ (r : Result ℕ FindFault). is_that_object r i) (sym found)

pub no_object : (path : List ℕ) (s : State) (why : FindFault) (numbers : BTreeSet ℕ) → numbers.keys ≡ [] → find s path ≡ Err why
    → (i : ℕ) → contains nat_cmp numbers i ≡ object_by_path path s i
no_object path s why numbers empty found i = none_is numbers i empty ∙ ap (λ (r : Result ℕ FindFault). is_that_object r i) (sym found)
