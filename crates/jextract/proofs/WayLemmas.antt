-- The way to an object, and the part at its end.
use Rattle.std.proofs.Common.{◌≡◌, ℕ, ◌+◌, ◌<◌, Bool, true, false, cond, List, [], ◌∷◌, ◌++◌, length, map, get_or, drop, append_assoc, refl, sym, ap, ◌∙◌, subst, Option, Some, None, Ok, Err, Bor, ◌⊎◌, inl, inr}
use Rattle.std.specs.Prelude.{Contains, bytes_eq, filter, option_map, ◌==◌}
use Rattle.std.proofs.lemmas.Option.{same_Some}
use Rattle.std.proofs.lemmas.Slice.Eq.{bytes_eq-Decides}
use Rattle.std.specs.FinMap.{entries}
use Rattle.std.proofs.lemmas.Bool.{eqb-true, eq-eqb}
use Rattle.std.proofs.lemmas.List.{at_drop_more}
use Rattle.flashbase.proofs.MemberLemmas.{Contains-none, Contains-here, Contains-there, Contains-cases, Contains-map, Contains-map_from, Contains-filter, Contains-filter_from}
use Rattle.jname.specs.Live.{Key}
use Rattle.jmount.specs.Find.{find, find_names, path_names, parts, step_to, walk}
use Rattle.jmount.specs.Paths.{names_after}
use Rattle.jmount.specs.declared.fault.FindFault.TheVariants as fault
use Rattle.jmount.specs.Tree.{State, entries_in, is_directory, is_there, named}
use Rattle.jmount.proofs.PathLemmas.{walk-stops}
use Rattle.jmount.proofs.ShapeOfLemmas.{listed, named_by}
use Rattle.jextract.specs.Parts.{IsPartAt, end_name, keys_of, part_along, part_alone, part_at, way_from}
use Rattle.jextract.specs.PartsOf.{IsWayTo, part_to}
use Rattle.jextract.proofs.AloneLemmas.{whole_is_part}

-- ---- a name among the names of a directory

in_entries : (s : State) (dir : ℕ) (name : List ℕ) (i : ℕ) → named s dir name ≡ Some i → Contains (entries_in s dir) (name, i)
in_entries s dir name i e =
    Contains-map (λ (e : Key × ℕ). (e.0.1, e.1)) (filter (λ (e : Key × ℕ). e.0.0 == dir) (entries s.names)) ((dir, name), i)
    (Contains-filter (λ (e : Key × ℕ). e.0.0 == dir) (entries s.names) ((dir, name), i) (eq-eqb dir dir refl) (listed s dir name i e))

of_entries : (s : State) (dir : ℕ) (e : List ℕ × ℕ) → Contains (entries_in s dir) e → named s dir e.0 ≡ Some e.1
of_entries s dir e there =
    let found = Contains-map_from (λ (e : Key × ℕ). (e.0.1, e.1)) (filter (λ (e : Key × ℕ). e.0.0 == dir) (entries s.names)) e there in
    let entry = Contains-filter_from (λ (e : Key × ℕ). e.0.0 == dir) (entries s.names) found.0 found.1 in
    let is : found.0.0.0 ≡ dir = eqb-true found.0.0.0 dir entry.1 in
    subst (λ (e : List ℕ × ℕ). named s dir e.0 ≡ Some e.1) found.2 (subst (λ (d : ℕ). named s d found.0.0.1 ≡ Some found.0.1) is (named_by s found.0.0 found.0.1 entry.0))

-- what is left of a directory's names, where a name is looked for among them
pub record AreLeftOf (s : State) (dir : ℕ) (name : List ℕ) (rest : List (List ℕ × ℕ)) : Type 0 where
  pub are : (e : List ℕ × ℕ) → Contains rest e → named s dir e.0 ≡ Some e.1
  pub has : (i : ℕ) → named s dir name ≡ Some i → Contains rest (name, i)

pub all_left : (s : State) (dir : ℕ) (name : List ℕ) → AreLeftOf s dir name (entries_in s dir)
all_left s dir name = record { are = of_entries s dir; has = in_entries s dir name }

abbrev Named : Type 0
Named = List ℕ × ℕ

not_first : (rest : List Named) (first e : Named) → (first.0 ≡ e.0 → ⊥) → (first ≡ e) ⊎ Contains rest e → Contains rest e
not_first rest first e differs (inl same) = absurd (differs (ap (λ (x : Named). x.0) same))
not_first rest first e differs (inr there) = there

apart : (a b : List ℕ) → bytes_eq a b ≡ false → a ≡ b → ⊥
apart a b differs same =
    let wrong : true ≡ false = sym ((bytes_eq-Decides a b).1 same) ∙ differs in absurd (cc)

pub less_left : (s : State) (dir : ℕ) (name other : List ℕ) (i : ℕ) (rest : List Named) → bytes_eq other name ≡ false → AreLeftOf s dir name ((other, i) ∷ rest)
    → AreLeftOf s dir name rest
less_left s dir name other i rest differs left = record {
  are = λ e there. left.are e (Contains-there (other, i) rest e there);
  has = λ j is. not_first rest (other, i) (name, j) (apart other name differs) (Contains-cases (other, i) rest (name, j) (left.has j is));
}

pub found_among : (s : State) (dir : ℕ) (name other : List ℕ) (i : ℕ) (rest : List Named) → bytes_eq other name ≡ true → AreLeftOf s dir name ((other, i) ∷ rest)
    → Some i ≡ named s dir name
found_among s dir name other i rest same left =
    sym (left.are (other, i) (Contains-here (other, i) rest)) ∙ ap (named s dir) ((bytes_eq-Decides other name).0 same)

pub none_among : (s : State) (dir : ℕ) (name : List ℕ) → AreLeftOf s dir name [] → None ≡ named s dir name
none_among s dir name left = by (named s dir name) refl
  where
    by : (o : Option ℕ) → named s dir name ≡ o → None ≡ o
    by None is = refl
    by (Some i) is = absurd (Contains-none (name, i) (left.has i is))

-- ---- the way

pub way_turn : (s : State) (way : List Key) (names : List (List ℕ)) (n dir : ℕ) (name : List ℕ) → n < length names → name ≡ get_or names n name
    → way ++ way_from s (Some dir) (drop n names) ≡ (way ++ (dir, name) ∷ []) ++ way_from s (named s dir name) (drop (n + 1) names)
way_turn s way names n dir name within is =
    at_drop_more (λ ns. way ++ way_from s (Some dir) ns) names n name within
    ∙ ap (λ (x : List ℕ). way ++ (dir, x) ∷ way_from s (named s dir x) (drop (n + 1) names)) (sym is)
    ∙ sym (append_assoc way ((dir, name) ∷ []) (way_from s (named s dir name) (drop (n + 1) names)))

pub way_stops : (s : State) (names : List (List ℕ)) → way_from s None names ≡ []
way_stops s [] = refl
way_stops s (name ∷ names) = refl

pub way_end : (s : State) (here : Option ℕ) → way_from s here [] ≡ []
way_end s None = refl
way_end s (Some dir) = refl

pub keys_push : (way : List (ℕ × Bor (List ℕ))) (dir : ℕ) (name : Bor (List ℕ)) → keys_of (way ++ (dir, name) ∷ []) ≡ keys_of way ++ (dir, name.now) ∷ []
keys_push [] dir name = refl
keys_push (key ∷ way) dir name = ap (λ (ks : List Key). (key.0, key.1.now) ∷ ks) (keys_push way dir name)

-- the way of a path, by what it has after its first slash
pub way_after : (s : State) (path names : List ℕ) (after : Option (List ℕ)) (way : List Key) → option_map names_after after ≡ path_names path → after ≡ Some names → (names ≡ [] → ⊥)
    → way ≡ way_from s (Some 1) (parts names) → IsWayTo s path way
way_after s path [] after way are is some along ns at = absurd (some refl)
way_after s path (b ∷ bytes) after way are is some along ns at =
    let same : Some (parts (b ∷ bytes)) ≡ Some ns = sym (ap (option_map names_after) is) ∙ are ∙ at in
    along ∙ ap (way_from s (Some 1)) (same_Some (parts (b ∷ bytes)) ns same)

pub no_way_after : (s : State) (path names : List ℕ) (after : Option (List ℕ)) → option_map names_after after ≡ path_names path → after ≡ Some names → names ≡ [] → IsWayTo s path []
no_way_after s path names after are is none ns at =
    let same : Some [] ≡ Some ns = sym (ap (option_map names_after) (is ∙ ap Some none)) ∙ are ∙ at in
    ap (way_from s (Some 1)) (same_Some [] ns same)

pub no_path : (s : State) (path : List ℕ) (after : Option (List ℕ)) (way : List Key) → option_map names_after after ≡ path_names path → after ≡ None → IsWayTo s path way
no_path s path after way are is ns at =
    let wrong : None ≡ Some ns = sym (ap (option_map names_after) is) ∙ are ∙ at in absurd (cc)

-- ---- the names of the way to an object are those of its path

names_stop : (s : State) (names : List (List ℕ)) (here : Option ℕ) (i : ℕ) → walk s names (step_to s here) ≡ Ok i
    → ((j : ℕ) → walk s names (Ok j) ≡ Ok i → map (λ k. k.1) (way_from s (Some j) names) ≡ names) → map (λ k. k.1) (way_from s here names) ≡ names
names_stop s names None i leads more =
    let none : Err fault.NotFound ≡ Ok i = sym (walk-stops s names fault.NotFound) ∙ leads in absurd (cc)
names_stop s names (Some j) i leads more = by (is_there s j) refl
  where
    by : (b : Bool) → is_there s j ≡ b → map (λ k. k.1) (way_from s (Some j) names) ≡ names
    by true is = more j (ap (λ (b : Bool). walk s names (cond b (Ok j) (Err fault.NotFound))) (sym is) ∙ leads)
    by false is =
        let none : Err fault.NotFound ≡ Ok i = sym (walk-stops s names fault.NotFound) ∙ ap (λ (b : Bool). walk s names (cond b (Ok j) (Err fault.NotFound))) (sym is) ∙ leads in absurd (cc)

names_below : (s : State) (name : List ℕ) (names : List (List ℕ)) (here i : ℕ) → walk s (name ∷ names) (Ok here) ≡ Ok i
    → ((j : ℕ) → walk s names (Ok j) ≡ Ok i → map (λ k. k.1) (way_from s (Some j) names) ≡ names) → map (λ k. k.1) (way_from s (Some here) (name ∷ names)) ≡ name ∷ names
names_below s name names here i leads more = by (is_directory s here) refl
  where
    by : (b : Bool) → is_directory s here ≡ b → map (λ k. k.1) (way_from s (Some here) (name ∷ names)) ≡ name ∷ names
    by true is =
        ap (λ (ns : List (List ℕ)). name ∷ ns)
        (names_stop s names (named s here name) i (ap (λ (b : Bool). walk s names (cond b (step_to s (named s here name)) (Err fault.NotDirectory))) (sym is) ∙ leads) more)
    by false is =
        let none : Err fault.NotDirectory ≡ Ok i =
        sym (walk-stops s names fault.NotDirectory) ∙ ap (λ (b : Bool). walk s names (cond b (step_to s (named s here name)) (Err fault.NotDirectory))) (sym is) ∙ leads in absurd (cc)

pub names_of_way : (s : State) (names : List (List ℕ)) (here i : ℕ) → walk s names (Ok here) ≡ Ok i → map (λ k. k.1) (way_from s (Some here) names) ≡ names
names_of_way s [] here i leads = refl
names_of_way s (name ∷ names) here i leads = names_below s name names here i leads (λ j on. names_of_way s names j i on)

-- ---- the part at its end

pub part_is : (s : State) (names : List (List ℕ)) (i : ℕ) → walk s names (Ok 1) ≡ Ok i → part_to (way_from s (Some 1) names) i s ≡ part_at names i s
part_is s [] i leads = whole_is_part s
part_is s (name ∷ names) i leads =
    let same : map (λ k. k.1) (way_from s (named s 1 name) names) ≡ names = ap (λ (ns : List (List ℕ)). drop 1 ns) (names_of_way s (name ∷ names) 1 i leads) in
    ap (λ (ns : List (List ℕ)). cond (is_directory s i) (part_along (way_from s (Some 1) (name ∷ names)) s) (part_alone (end_name name ns) i s)) same

end_push : (name : List ℕ) (names : List (List ℕ)) (last : List ℕ) → end_name name (names ++ last ∷ []) ≡ last
end_push name [] last = refl
end_push name (next ∷ names) last = end_push next names last

names_push : (way : List (ℕ × Bor (List ℕ))) (last : ℕ × Bor (List ℕ)) → map (λ k. k.1) (keys_of (way ++ last ∷ [])) ≡ map (λ k. k.1) (keys_of way) ++ last.1.now ∷ []
names_push [] last = refl
names_push (key ∷ way) last = ap (λ (ns : List (List ℕ)). key.1.now ∷ ns) (names_push way last)

-- the part at the end of a way to an object that is no directory
alone_at_end : (s : State) (front : List (ℕ × Bor (List ℕ))) (last : ℕ × Bor (List ℕ)) (i : ℕ) → is_directory s i ≡ false
    → part_alone last.1.now i s ≡ part_to (keys_of (front ++ last ∷ [])) i s
alone_at_end s [] last i other = ap (λ (b : Bool). cond b (part_along (keys_of (last ∷ [])) s) (part_alone last.1.now i s)) (sym other)
alone_at_end s (key ∷ front) last i other =
    ap (λ (name : List ℕ). part_alone name i s) (sym (ap (end_name key.1.now) (names_push front last) ∙ end_push key.1.now (map (λ k. k.1) (keys_of front)) last.1.now))
    ∙ ap (λ (b : Bool). cond b (part_along (keys_of (key ∷ front ++ last ∷ [])) s) (part_alone (end_name key.1.now (map (λ k. k.1) (keys_of (front ++ last ∷ [])))) i s)) (sym other)

pub alone_is : (s : State) (way front : List (ℕ × Bor (List ℕ))) (last : ℕ × Bor (List ℕ)) (i : ℕ) → way ≡ front ++ last ∷ [] → is_directory s i ≡ false
    → part_alone last.1.now i s ≡ part_to (keys_of way) i s
alone_is s way front last i is other = alone_at_end s front last i other ∙ ap (λ (w : List (ℕ × Bor (List ℕ))). part_to (keys_of w) i s) (sym is)

pub along_is : (s : State) (way : List Key) (i : ℕ) → is_directory s i ≡ true → part_along way s ≡ part_to way i s
along_is s [] i is = refl
along_is s (key ∷ way) i is = ap (λ (b : Bool). cond b (part_along (key ∷ way) s) (part_alone (end_name key.1 (map (λ k. k.1) way)) i s)) (sym is)

-- memory runs out only where there is a part
pub some_part : (s : State) (path : List ℕ) (i : ℕ) → Ok i ≡ find s path → (part : State) × IsPartAt s path part
some_part s path i found = by (path_names path) refl
  where
    by : (o : Option (List (List ℕ))) → path_names path ≡ o → (part : State) × IsPartAt s path part
    by None none =
        let wrong : Ok i ≡ Err fault.BadPath = found ∙ ap (find_names s) none in absurd (cc)
    by (Some names) some = (part_at names i s, (names, i, some, sym found, refl))

pub part_at_path : (s : State) (path : List ℕ) (way : List Key) (i : ℕ) (part : State) → Ok i ≡ find s path → IsWayTo s path way → part ≡ part_to way i s → IsPartAt s path part
part_at_path s path way i part found is_way is = by (path_names path) refl
  where
    by : (o : Option (List (List ℕ))) → path_names path ≡ o → IsPartAt s path part
    by None none =
        let wrong : Ok i ≡ Err fault.BadPath = found ∙ ap (find_names s) none in absurd (cc)
    by (Some names) some =
        let leads : walk s names (Ok 1) ≡ Ok i = sym (found ∙ ap (find_names s) some) in (
          names,
          i,
          some,
          sym found,
          is ∙ ap (λ (w : List Key). part_to w i s) (is_way names some) ∙ part_is s names i leads,
        )
