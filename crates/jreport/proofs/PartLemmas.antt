-- The lines of a part of a tree that has the shape are a stretch of the lines of the whole.
use Rattle.std.proofs.Common.{◌≡◌, ℕ, ◌&&◌, not, cond, Bool, true, false, List, [], ◌∷◌, ◌++◌, map, refl, sym, ap, ◌∙◌, subst, Option, Some, None, Ok, Err, append_assoc, append-nil, arith, ◌==◌}
use Rattle.std.specs.Prelude.{Contains, filter, is_ok, option_map}
use Rattle.std.specs.FinMap.{entries}
use Rattle.std.specs.List.{flat_map}
use Rattle.std.proofs.lemmas.Bool.{false≢true}
use Rattle.std.proofs.lemmas.Bool.Decides.{nat_tests}
use Rattle.std.proofs.lemmas.Grind.{flat_map-append}
use Rattle.std.proofs.lemmas.List.{map-append}
use Rattle.std.proofs.lemmas.List.Elements.{filter-append}
use Rattle.flashbase.proofs.MemberLemmas.{Contains-filter, Contains-map, split_around}
use Rattle.jmount.specs.Tree.{State, object, named, is_there, is_directory, entries_in}
use Rattle.jmount.specs.Find.{find_names, step, step_to, walk}
use Rattle.jmount.specs.declared.fault.FindFault.TheVariants as find
use Rattle.jmount.specs.Shown.{shown}
use Rattle.jmount.proofs.ShapeLemmas.{IsShaped, leads_none, same_ok, shaped, step_leads, walk_begins}
use Rattle.jmount.proofs.ShapeOfLemmas.{listed}
use Rattle.jreport.specs.TreeParts.{PartIsStretch}
use Rattle.jreport.specs.TreeText.{Item, Met, none_met, items_of, line_if, met_after, todo_after, is_entered, AreLinesOf}
use Rattle.jreport.proofs.ListedOnceLemmas.{AreFresh, IsFresh, fresh_after, no_mark}
use Rattle.jreport.proofs.ListingLemmas.{text_is_one}

-- ---- lines of several items

todo_append : (s : State) (met : Met) (item : Item) (xs ys : List Item) → todo_after s met item (xs ++ ys) ≡ todo_after s met item xs ++ ys
todo_append s met item xs ys = by (is_entered s met item.1)
  where
    by : (b : Bool) → cond b (items_of s item.0 (entries_in s item.1) ++ (xs ++ ys)) (xs ++ ys) ≡ cond b (items_of s item.0 (entries_in s item.1) ++ xs) xs ++ ys
    by true = sym (append_assoc (items_of s item.0 (entries_in s item.1)) xs ys)
    by false = refl

-- the lines of some items, and then those of others, with what was met between
record AreSplit (s : State) (met : Met) (xs ys : List Item) (lines : List (List ℕ)) : Type 0 where
  front : List (List ℕ)
  rest : List (List ℕ)
  between : Met
  is : lines ≡ front ++ rest
  of_front : AreLinesOf s met xs front
  fresh : AreFresh s between ys
  of_rest : AreLinesOf s between ys rest

are_split : (s : State) (met : Met) (xs ys : List Item) (lines : List (List ℕ)) → IsShaped s → AreFresh s met (xs ++ ys) → AreLinesOf s met (xs ++ ys) lines
    → AreSplit s met xs ys lines
are_split s met [] ys lines shape fresh are = record { front = []; rest = lines; between = met; is = refl; of_front = refl; fresh = fresh; of_rest = are }
are_split s met (x ∷ xs) ys [] shape fresh are = absurd are
are_split s met (x ∷ xs) ys (line ∷ lines) shape fresh are =
    let e = todo_append s met x xs ys in
    let more = are_split s (met_after s met x.1) (todo_after s met x xs) ys lines shape
    (subst (λ (todo : List Item). AreFresh s (met_after s met x.1) todo) e (fresh_after s met x (xs ++ ys) shape fresh))
    (subst (λ (todo : List Item). AreLinesOf s (met_after s met x.1) todo lines) e are.1) in
    record {
      front = line ∷ more.front;
      rest = more.rest;
      between = more.between;
      is = ap (λ (ls : List (List ℕ)). line ∷ ls) more.is;
      of_front = (are.0, more.of_front);
      fresh = more.fresh;
      of_rest = more.of_rest;
    }

-- ---- what was met does not matter

pub same_entered : (d m n : Bool) → (d && m) ≡ false → (d && n) ≡ false → (d && not m) ≡ (d && not n)
same_entered true m n one other = ap not (one ∙ sym other)
same_entered false m n one other = refl

pub same_lines : (s : State) (met other : Met) (todo : List Item) (lines : List (List ℕ)) → IsShaped s → AreFresh s met todo → AreFresh s other todo
    → AreLinesOf s met todo lines → AreLinesOf s other todo lines
same_lines s met other [] lines shape fresh too are = are
same_lines s met other (item ∷ todo) [] shape fresh too are = absurd are
same_lines s met other (item ∷ todo) (line ∷ lines) shape fresh too are =
    let one = no_mark s met item.1 fresh.0 in
    let two = no_mark s other item.1 too.0 in
    let e : todo_after s met item todo ≡ todo_after s other item todo =
    ap (λ (b : Bool). cond b (items_of s item.0 (entries_in s item.1) ++ todo) todo) (same_entered (is_directory s item.1) (met item.1) (other item.1) one two) in (
      are.0 ∙ ap (λ (b : Bool). line_if s item.0 item.1 (option_map shown (object s item.1)) b) (one ∙ sym two),
      same_lines s (met_after s met item.1) (met_after s other item.1) (todo_after s other item todo) lines shape
          (subst (λ (t : List Item). AreFresh s (met_after s met item.1) t) e (fresh_after s met item todo shape fresh)) (fresh_after s other item todo shape too)
          (subst (λ (t : List Item). AreLinesOf s (met_after s met item.1) t lines) e are.1),
    )

-- what is fresh is so where nothing was met
fresh_alone : (s : State) (met : Met) (item : Item) → IsFresh s met item.1 → AreFresh s none_met (item ∷ [])
fresh_alone s met item fresh = (λ d. ((fresh d).0, λ k is below. false≢true is), tt, tt)

-- ---- the names of a directory, with one among them

items_append : (s : State) (path : List (List ℕ)) (xs ys : List (List ℕ × ℕ)) → items_of s path (xs ++ ys) ≡ items_of s path xs ++ items_of s path ys
items_append s path xs ys =
    ap (map (λ e. (path ++ e.0 ∷ [], e.1))) (filter-append (λ e. is_there s e.1) xs ys)
    ∙ map-append (λ e. (path ++ e.0 ∷ [], e.1)) (filter (λ e. is_there s e.1) xs) (filter (λ e. is_there s e.1) ys)

items_there : (s : State) (path : List (List ℕ)) (name : List ℕ) (i : ℕ) (names : List (List ℕ × ℕ)) → is_there s i ≡ true
    → items_of s path ((name, i) ∷ names) ≡ (path ++ name ∷ [], i) ∷ items_of s path names
items_there s path name i names there =
    ap (λ b. map (λ e. (path ++ e.0 ∷ [], e.1)) (cond b ((name, i) ∷ filter (λ e. is_there s e.1) names) (filter (λ e. is_there s e.1) names))) there

same_number : (n : ℕ) → (n == n) ≡ true
same_number n = grind (arith, nat_tests)

among : (s : State) (dir i : ℕ) (name : List ℕ) → named s dir name ≡ Some i → Contains (entries_in s dir) (name, i)
among s dir i name e =
    Contains-map (λ e. (e.0.1, e.1)) (filter (λ e. e.0.0 == dir) (entries s.names)) ((dir, name), i)
    (Contains-filter (λ e. e.0.0 == dir) (entries s.names) ((dir, name), i) (same_number dir) (listed s dir name i e))

record IsAmong (s : State) (path : List (List ℕ)) (dir : ℕ) (item : Item) : Type 0 where
  front : List Item
  after : List Item
  is : items_of s path (entries_in s dir) ≡ front ++ item ∷ after

is_among : (s : State) (path : List (List ℕ)) (dir i : ℕ) (name : List ℕ) → named s dir name ≡ Some i → is_there s i ≡ true → IsAmong s path dir (path ++ name ∷ [], i)
is_among s path dir i name e there =
    let around = split_around (entries_in s dir) (name, i) (among s dir i name e) in
    record {
      front = items_of s path around.0;
      after = items_of s path around.1;
      is =
          ap (items_of s path) around.2 ∙ items_append s path around.0 ((name, i) ∷ around.1)
          ∙ ap (λ (rest : List Item). items_of s path around.0 ++ rest) (items_there s path name i around.1 there);
    }

-- ---- the lines of what lies below

record IsInside (s : State) (item : Item) (lines : List (List ℕ)) : Type 0 where
  front : List (List ℕ)
  part : List (List ℕ)
  after : List (List ℕ)
  met : Met
  is : lines ≡ front ++ (part ++ after)
  fresh : AreFresh s met (item ∷ [])
  of_part : AreLinesOf s met (item ∷ []) part

step_reaches : (s : State) (d : Bool) (o : Option ℕ) (c : ℕ) → cond d (step_to s o) (Err find.NotDirectory) ≡ Ok c → is_there s c ≡ true
step_reaches s true None c e = absurd (false≢true (ap is_ok e))
step_reaches s true (Some i) c e = by (is_there s i) refl e
  where
    by : (b : Bool) → is_there s i ≡ b → cond b (Ok i) (Err find.NotFound) ≡ Ok c → is_there s c ≡ true
    by true there e = subst (λ (k : ℕ). is_there s k ≡ true) (same_ok i c e) there
    by false there e = absurd (false≢true (ap is_ok e))
step_reaches s false o c e = absurd (false≢true (ap is_ok e))

entered_by : (d m : Bool) → d ≡ true → (d && m) ≡ false → (d && not m) ≡ true
entered_by true m is one = ap not one
entered_by false m is one = absurd (false≢true is)

regroup : (a b c d e : List (List ℕ)) → a ++ ((b ++ (c ++ d)) ++ e) ≡ (a ++ b) ++ (c ++ (d ++ e))
regroup a b c d e = simp append_assoc

inside : (s : State) (names : List (List ℕ)) (met : Met) (path : List (List ℕ)) (i to : ℕ) (lines : List (List ℕ)) → IsShaped s
    → AreFresh s met ((path, i) ∷ []) → AreLinesOf s met ((path, i) ∷ []) lines → walk s names (Ok i) ≡ Ok to → IsInside s (path ++ names, to) lines
inside s [] met path i to lines shape fresh are at =
    let way : path ≡ path ++ [] = sym (append-nil path) in
    let number : i ≡ to = same_ok i to at in
    let e : ◌≡◌ {A = Item} (path, i) (path ++ [], to) = (λ t. (way t, number t)) in
    record {
      front = [];
      part = lines;
      after = [];
      met = met;
      is = sym (append-nil lines);
      fresh = subst (λ (item : Item). AreFresh s met (item ∷ [])) e fresh;
      of_part = subst (λ (item : Item). AreLinesOf s met (item ∷ []) lines) e are;
    }
inside s (name ∷ names) met path i to [] shape fresh are at = absurd are
inside s (name ∷ names) met path i to (line ∷ lines) shape fresh are at =
    let begins = walk_begins s names (step s i name) to at in
    let led = step_leads s (is_directory s i) (named s i name) begins.0 begins.1 in
    let there = step_reaches s (is_directory s i) (named s i name) begins.0 begins.1 in
    let child : Item = (path ++ name ∷ [], begins.0) in
    let near = is_among s path i begins.0 name led.1 there in
    let entered : is_entered s met i ≡ true = entered_by (is_directory s i) (met i) led.0 (no_mark s met i fresh.0) in
    let todo : todo_after s met (path, i) [] ≡ near.front ++ (child ∷ (near.after ++ [])) =
    ap (λ (b : Bool). cond b (items_of s path (entries_in s i) ++ []) []) entered
    ∙ ap (λ (l : List Item). l ++ []) near.is ∙ append_assoc near.front (child ∷ near.after) [] in
    let here = are_split s (met_after s met i) near.front (child ∷ (near.after ++ [])) lines shape
    (subst (λ (t : List Item). AreFresh s (met_after s met i) t) todo (fresh_after s met (path, i) [] shape fresh))
    (subst (λ (t : List Item). AreLinesOf s (met_after s met i) t lines) todo are.1) in
    let own = are_split s here.between (child ∷ []) (near.after ++ []) here.rest shape here.fresh here.of_rest in
    let below = inside s names here.between (path ++ name ∷ []) begins.0 to own.front shape (here.fresh.0, tt, tt) own.of_front begins.2 in
    let e : ◌≡◌ {A = Item} ((path ++ name ∷ []) ++ names, to) (path ++ name ∷ names, to) = ap (λ (p : List (List ℕ)). (p, to)) (append_assoc path (name ∷ []) names) in
    record {
      front = line ∷ (here.front ++ below.front);
      part = below.part;
      after = below.after ++ own.rest;
      met = below.met;
      is =
          ap (λ (ls : List (List ℕ)). line ∷ ls)
          (here.is ∙ ap (λ (ls : List (List ℕ)). here.front ++ ls) (own.is ∙ ap (λ (ls : List (List ℕ)). ls ++ own.rest) below.is)
          ∙ regroup here.front below.front below.part below.after own.rest);
      fresh = subst (λ (item : Item). AreFresh s below.met (item ∷ [])) e below.fresh;
      of_part = subst (λ (item : Item). AreLinesOf s below.met (item ∷ []) below.part) e below.of_part;
    }

-- ---- the law

pub part_is_stretch : PartIsStretch
part_is_stretch s path item whole part has at is is_part =
    let shape = shaped s has in
    let start : AreFresh s none_met (([], 1) ∷ []) = (λ d. (([], leads_none s 1), λ k m below. false≢true m), tt, tt) in
    let walked : walk s item.0 (Ok 1) ≡ Ok item.1 = sym (ap (find_names s) at.0) ∙ at.1 in
    let found = inside s item.0 none_met [] 1 item.1 is.0 shape start is.1 walked in
    let own : AreLinesOf s none_met (item ∷ []) found.part =
    same_lines s found.met none_met (item ∷ []) found.part shape found.fresh (fresh_alone s found.met item found.fresh.0) found.of_part in
    let one : flat_map (λ line. line) found.part ≡ part = text_is_one s none_met (item ∷ []) (flat_map (λ line. line) found.part) part (found.part, own, refl) is_part in (
      flat_map (λ line. line) found.front,
      flat_map (λ line. line) found.after,
      is.2 ∙ ap (flat_map (λ line. line)) found.is
          ∙ flat_map-append (λ line. line) found.front (found.part ++ found.after)
          ∙ ap (λ (t : List ℕ). flat_map (λ line. line) found.front ++ t)
          (flat_map-append (λ line. line) found.part found.after ∙ ap (λ (t : List ℕ). t ++ flat_map (λ line. line) found.after) one),
    )
