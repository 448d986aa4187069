-- All items of a tree, one after the other.
use Rattle.std.proofs.Common.{◌≡◌, ℕ, zero, suc, ◌+◌, ◌/◌, ◌<◌, ◌≤◌, ◌^◌, List, [], ◌∷◌, ◌++◌, length, map, ◌⊎◌, inl, inr, refl, ap, sym, subst, ⊎_elim, append_assoc, arith}
use Rattle.std.specs.Prelude.{All, Contains}
use Rattle.std.specs.List.{flat_map}
use Rattle.std.specs.String.{string_bytes}
use Rattle.std.proofs.lemmas.List.{append-nil}
use Rattle.std.proofs.lemmas.List.Elements.{All-head, All-tail, Contains-push_cases}
use Rattle.jnode.specs.declared.order.Endian.{Endian}
use Rattle.jmount.specs.Find.{IsPath}
use Rattle.jmount.specs.Tree.{ObjectOf, State}
use Rattle.jsteps.specs.Nodes.{Indexed, advanced_all}
use Rattle.jscan.specs.Pages.{IsPage}
use Rattle.jsteps.specs.Steps.{bytes, after}
use Rattle.jsteps.specs.Device.{device_number}
use Rattle.jsteps.specs.Where.{names_on_path}
use Rattle.jsteps.specs.declared.op.Op.{Op}
use Rattle.jsteps.specs.declared.step.Step.{Step}
use Rattle.jlisting.specs.declared.line.Action.{Action}
use Rattle.jfolder.specs.Actions.{ItemFits, item_actions}
use Rattle.jfolder.specs.Trees.{IsTreeAfter, LinksBack, MayFollow}
use Rattle.jfolder.specs.declared.tree.Item.{Item}
use Rattle.jfolder.specs.declared.tree.What.{What}
use Rattle.jfolder.specs.declared.tree.What.TheVariants as what
use Rattle.jtree.specs.Making.{Files, FilesFit, bytes_of_what, op_with, ops_with, weight}
use Rattle.jtree.specs.Holding.{first_path}
use Rattle.jtree.proofs.AppendLemmas.{after-append}
use Rattle.jtree.proofs.ItemLemmas.{IsBuilt, IsKnown, ahead, made_of, names_are, names_of}
use Rattle.jtree.proofs.NodesLemmas.{Writes, numbered_first, numbered_later}
use Rattle.jtree.proofs.ObjectLemmas.{AreFewOf, Does, IsNumbered, object_reaches}
use Rattle.jtree.proofs.RoomLemmas.{AreAllAccepted, accepted_back, accepted_front}
use Rattle.jtree.proofs.RunLemmas.{Reaches, reaches_none, reaches_then, reaches_weaker}
use Rattle.jtree.proofs.StandLemmas.{Made, Stands}

map_push : {X Y : Type 0} (f : X → Y) (xs : List X) (x : X) → map f (xs ++ x ∷ []) ≡ map f xs ++ f x ∷ []
map_push f [] x = refl
map_push f (y ∷ xs) x = ap (λ ys. f y ∷ ys) (map_push f xs x)

pub ops_append : (e : Endian) (files : Files) (xs ys : List Action) → ops_with e files (xs ++ ys) ≡ ops_with e files xs ++ ops_with e files ys
ops_append e files [] ys = refl
ops_append e files (x ∷ xs) ys = ap (λ ops. op_with e files x ∷ ops) (ops_append e files xs ys)

-- the first path of an item is a path
origin_of : (before : List Item) (path : List ℕ) (w : What) → ((j : Item) → Contains before j → IsKnown j) → LinksBack before w → IsPath path (names_on_path path)
    → IsPath (first_path path w) (names_on_path (first_path path w))
origin_of before path what.Directory known links is = is
origin_of before path (what.Regular file) known links is = is
origin_of before path (what.Device device major minor) known links is = is
origin_of before path what.Fifo known links is = is
origin_of before path what.Socket known links is = is
origin_of before path (what.Symlink target) known links is = is
origin_of before path (what.Link first) known links is = subst (λ text. IsPath text (names_on_path text)) links.2 (known links.0 links.1).path

known_of : (before : List Item) (i : Item) → ((j : Item) → Contains before j → IsKnown j) → MayFollow before i → ItemFits i → IsKnown i
known_of before i known may fits =
    let names : names_of i ≡ may.way ++ may.name ∷ [] = names_are (string_bytes i.path) (may.way ++ may.name ∷ []) may.path in
    let path : IsPath (string_bytes i.path) (names_of i) = subst (IsPath (string_bytes i.path)) (sym names) may.path in
    record {
      fits = fits;
      way = may.way;
      name = may.name;
      last = names;
      path = path;
      origin = origin_of before (string_bytes i.path) i.what known may.link
          path;
    }

-- the operations of items, and the numbers of their devices
pub record DoesAll (page n : ℕ) (e : Endian) (x : Indexed) (s : State) (ops : List Op) (root : ObjectOf (List ℕ)) (made : List Made) (most : ℕ) (items : List Item) : Type 0 where
  pub reached : Reaches page n x s ops root made most
  pub numbered : (j : Item) → Contains items j → IsNumbered e x s (after bytes s reached.steps) reached.steps (names_of j) j.what

-- steps that follow keep the number of a device, and those that are new change none
numbered_on : (e : Endian) (x : Indexed) (s t u : State) (xs ys : List Step) (names : List (List ℕ)) (w : What) → Writes (advanced_all x xs) t u ys → IsNumbered e x s t xs names w → IsNumbered e x s u (xs ++ ys) names w
numbered_on e x s t u xs ys names (what.Device device major minor) then is = numbered_first x s t u xs ys names (device_number e major minor) is then
numbered_on e x s t u xs ys names what.Directory then is = tt
numbered_on e x s t u xs ys names (what.Regular file) then is = tt
numbered_on e x s t u xs ys names what.Fifo then is = tt
numbered_on e x s t u xs ys names what.Socket then is = tt
numbered_on e x s t u xs ys names (what.Symlink target) then is = tt
numbered_on e x s t u xs ys names (what.Link first) then is = tt

pub numbered_after : (e : Endian) (x : Indexed) (s t u : State) (xs ys : List Step) (names : List (List ℕ)) (w : What) → Writes x s t xs → IsNumbered e (advanced_all x xs) t u ys names w → IsNumbered e x s u (xs ++ ys) names w
numbered_after e x s t u xs ys names (what.Device device major minor) first is = numbered_later x s t u xs ys names (device_number e major minor) first is
numbered_after e x s t u xs ys names what.Directory first is = tt
numbered_after e x s t u xs ys names (what.Regular file) first is = tt
numbered_after e x s t u xs ys names what.Fifo first is = tt
numbered_after e x s t u xs ys names what.Socket first is = tt
numbered_after e x s t u xs ys names (what.Symlink target) first is = tt
numbered_after e x s t u xs ys names (what.Link first_path) first is = tt

-- the first of a list, or one behind it
cons_cases : {X : Type 0} (x : X) (xs : List X) (y : X) → Contains (x ∷ xs) y → (x ≡ y) ⊎ Contains xs y
cons_cases x xs y (zero, less, e) = inl e
cons_cases x xs y (suc k, less, e) = let more : suc k < length (x ∷ xs) = less in inr (k, omega arith, e)

-- the first item's operations, and then those of the others
does_then : (page n : ℕ) (e : Endian) (x : Indexed) (s : State) (xs ys : List Op) (root : ObjectOf (List ℕ)) (made more : List Made) (a b most : ℕ) (i : Item) (items : List Item) → a + b ≤ most
    → (d : Does page n e x s xs root made a (names_of i) i.what)
    → DoesAll page (n + length d.reached.steps) e (advanced_all x d.reached.steps) (after bytes s d.reached.steps) ys root more b items → DoesAll page n e x s (xs ++ ys) root more most (i ∷ items)
does_then page n e x s xs ys root made more a b most i items le d all =
    let r = d.reached in
    let q = all.reached in
    let state : after bytes (after bytes s r.steps) q.steps ≡ after bytes s (r.steps ++ q.steps) = sym (after-append s r.steps q.steps) in
    let in_all : (u : State) → after bytes (after bytes s r.steps) q.steps ≡ u → (j : Item) → Contains (i ∷ items) j → IsNumbered e x s u (r.steps ++ q.steps) (names_of j) j.what =
    λ u is j among. subst (λ (v : State). IsNumbered e x s v (r.steps ++ q.steps) (names_of j) j.what) is
    (⊎_elim
    (λ (here : i ≡ j). subst (λ (k : Item). IsNumbered e x s (after bytes (after bytes s r.steps) q.steps) (r.steps ++ q.steps) (names_of k) k.what) here
    (numbered_on e x s (after bytes s r.steps) (after bytes (after bytes s r.steps) q.steps) r.steps q.steps (names_of i) i.what q.writes d.numbered))
    (λ (behind : Contains items j). numbered_after e x s (after bytes s r.steps) (after bytes (after bytes s r.steps) q.steps) r.steps q.steps (names_of j) j.what r.writes (all.numbered j behind))
    (cons_cases i items j among)) in
    record {
      reached = reaches_weaker page n x s (xs ++ ys) root more (a + b) most le (reaches_then page n x s xs ys root made more a b r q);
      numbered = in_all (after bytes s (r.steps ++ q.steps)) state;
    }

pub record IsDone (page n : ℕ) (e : Endian) (x : Indexed) (s : State) (files : Files) (root : ObjectOf (List ℕ)) (before items : List Item) : Type 0 where
  pub does : DoesAll page n e x s (ops_with e files (flat_map item_actions items)) root (map (made_of e files) (before ++ items)) (weight files items) items
  pub known : (j : Item) → Contains (before ++ items) j → IsKnown j

-- the items and their bytes are few
pub record AreFewFrom (n : ℕ) (files : Files) (items : List Item) : Type 0 where
  pub short : FilesFit files items
  pub few : n + weight files items + 4 ≤ 0xFFFFFFFF

pub items_done : (page n : ℕ) (e : Endian) (x : Indexed) (s : State) (files : Files) (root : ObjectOf (List ℕ)) (before items : List Item) → IsPage page
    → IsBuilt e files root before n x s
    → IsTreeAfter before items → All ItemFits items → AreFewFrom n files items ⊎ AreAllAccepted page x (ops_with e files (flat_map item_actions items)) → IsDone page n e x s files root before items
items_done page n e x s files root before [] is_page built tree fits has =
    record {
      does = subst (λ all. DoesAll page n e x s [] root (map (made_of e files) all) 0 []) (sym (append-nil before))
          (record {
            reached = reaches_none page n x s root (map (made_of e files) before) built.is_at built.stands;
            numbered = λ j among. absurd (let less = among.1 in omega arith);
          });
      known = subst (λ all. (j : Item) → Contains all j → IsKnown j) (sym (append-nil before)) built.known;
    }
items_done page n e x s files root before (i ∷ items) is_page built tree fits has =
    let may = tree.0 in
    let i_fits = All-head ItemFits i items fits in
    let size = length (bytes_of_what files i.what) in
    let these = ops_with e files (item_actions i) in
    let others = ops_with e files (flat_map item_actions items) in
    let split : AreFewFrom n files (i ∷ items) ⊎ AreAllAccepted page x (these ++ others) =
    ⊎_elim (λ few. inl few) (λ all. inr (subst (AreAllAccepted page x) (ops_append e files (item_actions i) (flat_map item_actions items)) all)) has in
    let first : AreFewOf n files i.what ⊎ AreAllAccepted page x these =
    ⊎_elim
    (λ (few : AreFewFrom n files (i ∷ items)).
    let i_short : size < 2 ^ 31 = All-head (λ i. length (bytes_of_what files i.what) < 2 ^ 31) i items few.short in
    let some : n + weight files (i ∷ items) + 4 ≤ 0xFFFFFFFF = few.few in
    inl (record { short = omega arith; few = omega arith }))
    (λ all. inr (accepted_front page x these others all)) split in
    let does = object_reaches page n e x s files (string_bytes i.path) i.attributes i.what root before is_page built
    (ahead e files root before n x s i built may) may.new may.link may.target i_fits.attributes first in
    let one = does.reached in
    let used : length one.steps ≤ 8 + size / 512 = one.few in
    let more = before ++ i ∷ [] in
    let next : IsBuilt e files root more (n + length one.steps) _ (after bytes s one.steps) = record {
      is_at = one.is_at;
      stands = subst (λ made. Stands root made (after bytes s one.steps)) (sym (map_push (made_of e files) before i)) one.stands;
      known = λ j among. ⊎_elim (λ old. built.known j old) (λ is. subst IsKnown is (known_of before i built.known may i_fits))
          (Contains-push_cases before i j among);
    } in
    let last : AreFewFrom (n + length one.steps) files items ⊎ AreAllAccepted page (advanced_all x one.steps) others =
    ⊎_elim
    (λ (few : AreFewFrom n files (i ∷ items)).
    let some : n + weight files (i ∷ items) + 4 ≤ 0xFFFFFFFF = few.few in
    inl (record { short = All-tail (λ i. length (bytes_of_what files i.what) < 2 ^ 31) i items few.short; few = omega arith }))
    (λ all. inr (accepted_back page x these others one.steps one.runs all)) split in
    let rest = items_done page (n + length one.steps) e _ (after bytes s one.steps) files root more items is_page next tree.1
    (All-tail ItemFits i items fits) last in
    let list : more ++ items ≡ before ++ i ∷ items = append_assoc before (i ∷ []) items in
    record {
      does = subst (λ ops. DoesAll page n e x s ops root (map (made_of e files) (before ++ i ∷ items)) (weight files (i ∷ items)) (i ∷ items))
          (sym (ops_append e files (item_actions i) (flat_map item_actions items)))
          (subst (λ all. DoesAll page n e x s (ops_with e files (item_actions i) ++ ops_with e files (flat_map item_actions items)) root
          (map (made_of e files) all) (weight files (i ∷ items)) (i ∷ items)) list
          (does_then page n e x s (ops_with e files (item_actions i)) (ops_with e files (flat_map item_actions items)) root
          (map (made_of e files) before ++ made_of e files i ∷ []) (map (made_of e files) (more ++ items))
          (8 + size / 512) (weight files items) (weight files (i ∷ items)) i items (omega arith) does rest.does));
      known = subst (λ all. (j : Item) → Contains all j → IsKnown j) list rest.known;
    }
