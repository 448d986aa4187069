-- One object in a folder, by a name of its own; and a part that is the whole.
use Rattle.std.proofs.Common.{◌≡◌, ℕ, ◌==◌, Bool, true, false, List, [], ◌∷◌, ◌++◌, map, append-nil, refl, sym, ap, ◌∙◌, subst, Ok, Err}
use Rattle.std.specs.Prelude.{filter}
use Rattle.std.specs.FinMap.{entries, entries_sorted, entries-from_sorted, from_sorted, same_entries_map}
use Rattle.std.specs.FinMap.Entries.{is_sorted-where_key}
use Rattle.jname.specs.Live.{Key, key_cmp}
use Rattle.jmount.specs.Tree.{State, entries_in}
use Rattle.jextract.specs.Outcomes.{Task, Make, Complete, FirstPaths, AreOutcomes, root_alone, tasks_in, tasks_of}
use Rattle.jextract.specs.Parts.{is_in_part, part_along, part_alone, with_names}
use Rattle.jextract.specs.Walking.{Completes, Fills, Sight, StopsBy, Visits}
use Rattle.jextract.specs.declared.totals.Totals.{Totals}
use Rattle.jextract.specs.declared.fault.ExtractFault.{ExtractFault}
use Rattle.jextract.specs.declared.fault.ExtractFault.TheVariants as fault
use Rattle.jextract.proofs.FillLemmas.{advances_more, had_more, stops_later}

-- ---- one object

-- what is seen, with other counts
abbrev pub counting : Sight → Totals → Sight
counting sight n = record { made = sight.made; failures = sight.failures; told = sight.told; told_failures = sight.told_failures; totals = n }

entries_alone : (name : List ℕ) (i : ℕ) (s : State) → entries_in (part_alone name i s) 1 ≡ (name, i) ∷ []
entries_alone name i s =
    ap (λ (es : List (Key × ℕ)). map (λ (e : Key × ℕ). (e.0.1, e.1)) (filter (λ e. e.0.0 == 1) es)) (entries-from_sorted key_cmp (((1, name), i) ∷ []) tt)

todo_alone : (name : List ℕ) (i : ℕ) (s : State) → Make (name ∷ []) i ∷ Complete [] 1 ∷ [] ≡ tasks_in (part_alone name i s) [] 1
todo_alone name i s = ap (λ (l : List (List ℕ × ℕ)). tasks_of [] l ++ Complete [] 1 ∷ []) (sym (entries_alone name i s))

pub fills_alone : (s : State) (owners : Bool) (name : List ℕ) (i : ℕ) (firsts_then : FirstPaths) (old mid new : Sight) (done : Bool)
    → Visits (part_alone name i s) owners root_alone firsts_then (Make (name ∷ []) i) old mid (Ok false) → Completes (part_alone name i s) owners [] 1 mid new (Ok done)
    → Fills (part_alone name i s) owners old new (Ok new.totals)
fills_alone s owners name i firsts_then old mid new done visits completes =
    let p = part_alone name i s in
    let first = visits.2 (Complete [] 1 ∷ []) in
    let last = completes.2 firsts_then [] in
    let all = advances_more p owners root_alone firsts_then firsts_then (Make (name ∷ []) i ∷ Complete [] 1 ∷ []) (Complete [] 1 ∷ []) [] visits.0 completes.0 first last in (
      visits.0 ++ completes.0,
      subst (λ (todo : List Task). AreOutcomes p owners root_alone todo (visits.0 ++ completes.0)) (todo_alone name i s)
          (subst (AreOutcomes p owners root_alone (Make (name ∷ []) i ∷ Complete [] 1 ∷ [])) (append-nil (visits.0 ++ completes.0)) (all.0 [] refl)),
      had_more old mid new visits.0 completes.0 visits.1 completes.1,
    )

-- counts say nothing of how a walk stops
stops_uncounted : (s : State) (owners : Bool) (firsts : FirstPaths) (todo : List Task) (old new : Sight) (t u : Totals) (f : ExtractFault) → StopsBy s owners firsts todo old new f
    → StopsBy s owners firsts todo (counting old t) (counting new u) f
stops_uncounted s owners firsts todo old new t u fault.Folder stop = stop
stops_uncounted s owners firsts todo old new t u fault.Notes stop = stop
stops_uncounted s owners firsts todo old new t u fault.NoSpace stop = stop
stops_uncounted s owners firsts todo old new t u fault.OutOfMemory stop = stop

-- it stopped at the object
pub stops_alone : (s : State) (owners : Bool) (name : List ℕ) (i : ℕ) (firsts : FirstPaths) (old new : Sight) (t u : Totals) (f : ExtractFault) → firsts ≡ root_alone
    → StopsBy (part_alone name i s) owners firsts (Make (name ∷ []) i ∷ Complete [] 1 ∷ []) old new f
    → StopsBy (part_alone name i s) owners root_alone (tasks_in (part_alone name i s) [] 1) (counting old t) (counting new u) f
stops_alone s owners name i firsts old new t u f are stop =
    let p = part_alone name i s in
    stops_uncounted p owners root_alone (tasks_in p [] 1) old new t u f
    (subst (λ (x : FirstPaths). StopsBy p owners x (tasks_in p [] 1) old new f) are
    (subst (λ (todo : List Task). StopsBy p owners firsts todo old new f) (todo_alone name i s) stop))

-- it stopped behind the object
pub stops_behind : (s : State) (owners : Bool) (name : List ℕ) (i : ℕ) (firsts firsts_then : FirstPaths) (old mid new : Sight) (f : ExtractFault)
    → Visits (part_alone name i s) owners firsts firsts_then (Make (name ∷ []) i) old mid (Ok false) → Completes (part_alone name i s) owners [] 1 mid new (Err f)
    → StopsBy (part_alone name i s) owners firsts (Make (name ∷ []) i ∷ Complete [] 1 ∷ []) old new f
stops_behind s owners name i firsts firsts_then old mid new f visits completes =
    stops_later (part_alone name i s) owners firsts firsts_then (Make (name ∷ []) i ∷ Complete [] 1 ∷ []) (Complete [] 1 ∷ []) visits.0 old mid new f visits.1 (visits.2 (Complete [] 1 ∷ []))
    (completes firsts_then [])

pub not_entered : (entered directory : Bool) → directory ≡ false → (entered ≡ true → directory ≡ true) → entered ≡ false
not_entered false directory other is = refl
not_entered true directory other is =
    let wrong : true ≡ false = sym (is refl) ∙ other in absurd (cc)

-- ---- the whole

all_kept : (es : List (Key × ℕ)) → filter (λ e. is_in_part [] e.0.0 e.0.1) es ≡ es
all_kept [] = refl
all_kept (e ∷ es) = ap (λ (l : List (Key × ℕ)). e ∷ l) (all_kept es)

pub whole_is_part : (s : State) → part_along [] s ≡ s
whole_is_part s =
    ap (with_names s)
    (same_entries_map (from_sorted (filter (λ e. is_in_part [] e.0.0 e.0.1) (entries s.names))) s.names
    (entries-from_sorted key_cmp (filter (λ e. is_in_part [] e.0.0 e.0.1) (entries s.names)) (is_sorted-where_key key_cmp (λ k. is_in_part [] k.0 k.1) (entries s.names) (entries_sorted s.names))
    ∙ all_kept (entries s.names)))
