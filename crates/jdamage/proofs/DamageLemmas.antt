-- What is told of damaged nodes, one by one.
use Rattle.std.proofs.Common.{◌≡◌, ℕ, zero, suc, ◌+◌, ◌-◌, ◌^◌, ◌<◌, Bool, true, List, [], ◌∷◌, ◌++◌, length, length-append, append_assoc, take, get_or, refl, sym, ap, ◌∙◌, arith, nat_lt, false, subst, Option, Some, None}
use Rattle.std.specs.Io.KnownBytes.{Appends}
use Rattle.std.specs.Prelude.{filter, filter_map, flat_map, map, min, sum_by, is_some, Err, IfOk, IsErr, Ok, Result, ◌==◌, ◌&&◌, cond, option_and_then}
use Rattle.std.specs.BTreeSet.{BTreeSet, contains}
use Rattle.std.specs.List.{cons_option}
use Rattle.std.specs.Ordering.{nat_cmp}
use Rattle.std.proofs.Math.Seq.{take-nil}
use Rattle.std.proofs.lemmas.Grind.{flat_map-append}
use Rattle.std.proofs.lemmas.Bool.Decides.{nat_tests}
use Rattle.std.proofs.lemmas.Bool.{ltb-true, ltb-false}
use Rattle.std.proofs.lemmas.List.{take_more, get_or_default}
use Rattle.std.proofs.lemmas.List.Folds.{flat_map-map}
use Rattle.std.proofs.lemmas.List.Concat.{flat_map-cons}
use Rattle.std.proofs.lemmas.List.Elements.{All-head, All-tail}
use Rattle.std.proofs.lemmas.List.Sums.{sum_by-append}
use Rattle.flashbase.specs.Device.{Puts, PutsPart, next_count}
use Rattle.jnode.specs.declared.order.Endian.{Endian}
use Rattle.jnode.specs.declared.node.Damage.{Damage}
use Rattle.jnode.specs.declared.node.Damage.TheVariants.{NodeCrc, NameCrc, DataCrc, Length, Range}
use Rattle.jmount.specs.Mount.{Mount}
use Rattle.jmount.specs.Tree.{State, all_entries, dangling, is_directory}
use Rattle.jdamage.specs.Coverage.{is_not_older}
use Rattle.jdamage.specs.Damage.{PutsDamage, damage_text, damage_told, damage_totals, data_text, gap_text, missing_text, most_paths, node_paths, node_text, reached_once, size_at}
use Rattle.jgaps.specs.Gaps.{gaps_of}
use Rattle.jgaps.specs.declared.gap.Gap.{Gap}
use Rattle.jgaps.specs.Fields.{stretch_at, stretches}
use Rattle.jdamage.specs.Fields.{damaged_nodes}
use Rattle.jdamage.specs.Lines.{path_line, totals_shown}
use Rattle.jdamage.specs.Telling.{HasListedNumber, HaveNumbers, first_lines, is_kept, lost_paths, lost_text, missing_texts, named_text, own_paths, own_text, own_totals, own_whole, path_text_if}
use Rattle.jdamage.specs.Hidden.{AreHidden, IsHidden}
use Rattle.jdamage.specs.Entered.{entry_name}
use Rattle.jdamage.specs.Ways.{HeldName, NameOf, climbed, is_led, name_held, names_led, path_if, path_to_name, paths_to, root_paths, steps_at_most}
use Rattle.flashbase.specs.declared.source.DeviceFault.{DeviceFault}
use Rattle.jdamage.specs.declared.fault.DamageFault.{DamageFault}
use Rattle.jgaps.specs.declared.fields.Stretch.{Stretch}
use Rattle.jdamage.specs.declared.totals.Totals.{Totals}
use Rattle.jdamage.proofs.CoverageLemmas.{hidden_kept}

-- ---- one more of a list

sum_one : {X : Type 0} (g : X → ℕ) (x : X) → sum_by g (x ∷ []) ≡ g x
sum_one g x = omega arith

sum_cons : {X : Type 0} (g : X → ℕ) (x : X) (xs : List X) → sum_by g (x ∷ xs) ≡ g x + sum_by g xs
sum_cons g x xs = sum_by-append g (x ∷ []) xs ∙ ap (λ (n : ℕ). n + sum_by g xs) (sum_one g x)

sum_next : {X : Type 0} (g : X → ℕ) (xs : List X) (i : ℕ) (d : X) (x : X) → i < length xs → x ≡ get_or xs i d
    → sum_by g (take (i + 1) xs) ≡ sum_by g (take i xs) + g x
sum_next {X} g xs i d x less is =
    ap (sum_by g) (take_more xs i d less) ∙ sum_by-append g (take i xs) (get_or xs i d ∷ [])
    ∙ ap (λ (n : ℕ). sum_by g (take i xs) + n) (sum_one g (get_or xs i d) ∙ ap g (sym is))

pub sum_more : {X : Type 0} (g : X → ℕ) (xs : List X) (i : ℕ) (d : X) (x : X) (here more : ℕ) → i < length xs → x ≡ get_or xs i d
    → here ≡ sum_by g (take i xs) → more ≡ g x → here + more ≡ sum_by g (take (i + 1) xs)
sum_more g xs i d x here more less is so_far one = ap (λ (n : ℕ). n + more) so_far ∙ ap (λ (n : ℕ). sum_by g (take i xs) + n) one ∙ sym (sum_next g xs i d x less is)

capped_sum : (a b most : ℕ) → min (min a most + min b most) most ≡ min (a + b) most
capped_sum a b most = omega arith

pub count_more : {X : Type 0} (g : X → ℕ) (xs : List X) (i : ℕ) (d : X) (x : X) (most here more after : ℕ) → i < length xs → x ≡ get_or xs i d
    → here ≡ min (sum_by g (take i xs)) most → more ≡ min (g x) most → after ≡ min (here + more) most → after ≡ min (sum_by g (take (i + 1) xs)) most
count_more g xs i d x most here more after less is so_far one all =
    let added : min (here + more) most ≡ min (min (sum_by g (take i xs)) most + min (g x) most) most = ap (λ (n : ℕ). min (n + more) most) so_far ∙ ap (λ (n : ℕ). min (min (sum_by g (take i xs)) most + n) most) one in
    all ∙ added ∙ capped_sum (sum_by g (take i xs)) (g x) most ∙ ap (λ (n : ℕ). min n most) (sym (sum_next g xs i d x less is))

-- what holds of each so far
pub each_more : {X : Type 0} (P : X → Type 0) (xs : List X) (i : ℕ) (e : X) → i < length xs → ((k : ℕ) (d : X) → k < i → P (get_or xs k d)) → P (get_or xs i e)
    → (k : ℕ) (d : X) → k < i + 1 → P (get_or xs k d)
each_more {X} P xs i e less before here k d below = by (nat_lt k i) refl
  where
    by : (b : Bool) → nat_lt k i ≡ b → P (get_or xs k d)
    by true lower = before k d (ltb-true _ _ lower)
    by false last =
        let same : i ≡ k = omega (arith, ltb-false _ _ last) in
        subst (λ (n : ℕ). P (get_or xs n d)) same (subst P (get_or_default xs i e d less) here)

-- ---- the paths of an object

-- whether a way leads on does not hang on the names that come after it
same_way : (s : State) (up : ℕ → Option NameOf) (steps dir : ℕ) (xs ys : List (List ℕ)) → is_some (climbed s up steps dir xs) ≡ is_some (climbed s up steps dir ys)
unfolding climbed
same_way s up zero dir xs ys = refl
same_way s up (suc steps) dir xs ys = by (is_directory s dir) (dir == 1) (up dir) (λ x. same_way s up steps x.0 (x.1 ∷ xs) (x.1 ∷ ys))
  where
    by : (d r : Bool) (o : Option NameOf) → ((x : NameOf) → is_some (climbed s up steps x.0 (x.1 ∷ xs)) ≡ is_some (climbed s up steps x.0 (x.1 ∷ ys)))
        → is_some (cond d (cond r (Some xs) (option_and_then (λ (x : NameOf). climbed s up steps x.0 (x.1 ∷ xs)) o)) None)
        ≡ is_some (cond d (cond r (Some ys) (option_and_then (λ (x : NameOf). climbed s up steps x.0 (x.1 ∷ ys)) o)) None)
    by false r o above = refl
    by true true o above = refl
    by true false None above = refl
    by true false (Some x) above = above x

module _ (s : State) (i : ℕ) where
  is_led_by : (n : NameOf) → is_led s i n ≡ ((n.2 == i) && is_some (path_to_name s n))
  is_led_by n = ap (λ (b : Bool). (n.2 == i) && b) (same_way s (entry_name s) (steps_at_most s) n.0 [] (n.1 ∷ []))

  -- the paths of the first names that are led to are the first paths
  led_first : (xs : List NameOf) (k : ℕ) → filter_map (path_to_name s) (take k (filter (is_led s i) xs)) ≡ take k (filter_map (path_if s i) xs)
  led_first [] k = ap (filter_map (path_to_name s)) (take-nil k) ∙ sym (take-nil k)
  led_first (n ∷ xs) k =
      ap (λ (b : Bool). filter_map (path_to_name s) (take k (cond b (n ∷ filter (is_led s i) xs) (filter (is_led s i) xs)))) (is_led_by n)
      ∙ by k (n.2 == i) (path_to_name s n) refl (led_first xs)
    where
      by : (k : ℕ) (b : Bool) (o : Option (List (List ℕ))) → path_to_name s n ≡ o
          → ((j : ℕ) → filter_map (path_to_name s) (take j (filter (is_led s i) xs)) ≡ take j (filter_map (path_if s i) xs))
          → filter_map (path_to_name s) (take k (cond (b && is_some o) (n ∷ filter (is_led s i) xs) (filter (is_led s i) xs))) ≡ take k (cons_option (cond b o None) (filter_map (path_if s i) xs))
      by k false o is rest = rest k
      by k true None is rest = rest k
      by zero true (Some path) is rest = refl
      by (suc k) true (Some path) is rest =
          ap (λ (o : Option (List (List ℕ))). cons_option o (filter_map (path_to_name s) (take k (filter (is_led s i) xs)))) is ∙ ap (λ (l : List (List (List ℕ))). path ∷ l) (rest k)

  led_many : (xs : List NameOf) → length (filter (is_led s i) xs) ≡ length (filter_map (path_if s i) xs)
  led_many [] = refl
  led_many (n ∷ xs) =
      ap (λ (b : Bool). length (cond b (n ∷ filter (is_led s i) xs) (filter (is_led s i) xs))) (is_led_by n) ∙ by (n.2 == i) (path_to_name s n) (led_many xs)
    where
      by : (b : Bool) (o : Option (List (List ℕ))) → length (filter (is_led s i) xs) ≡ length (filter_map (path_if s i) xs)
          → length (cond (b && is_some o) (n ∷ filter (is_led s i) xs) (filter (is_led s i) xs)) ≡ length (cons_option (cond b o None) (filter_map (path_if s i) xs))
      by false o rest = rest
      by true None rest = rest
      by true (Some path) rest = ap suc rest

-- the paths of all names, beside the root's
abbrev pub paths_of_names : State → ℕ → List (List (List ℕ))
paths_of_names s i = filter_map (path_if s i) (all_entries s)

-- so many of them have a line at most
abbrev pub most_of_names : ℕ → ℕ
most_of_names i = most_paths - length (root_paths i)

abbrev root_if : Bool → List (List (List ℕ))
root_if b = cond b ([] ∷ []) []

first_paths_if : (b : Bool) (rest : List (List (List ℕ))) → root_if b ++ take (most_paths - length (root_if b)) rest ≡ take most_paths (root_if b ++ rest)
first_paths_if true rest = refl
first_paths_if false rest = refl

first_paths : (i : ℕ) (rest : List (List (List ℕ))) → root_paths i ++ take (most_of_names i) rest ≡ take most_paths (root_paths i ++ rest)
first_paths i rest = first_paths_if (i == 1) rest

module _ (s : State) (i : ℕ) (start : List ℕ) where
  abbrev pub told_of : List (List (List ℕ)) → List ℕ
  told_of paths = flat_map (path_line start) paths

  abbrev pub named_paths : List HeldName → List (List (List ℕ))
  named_paths names = filter_map (path_to_name s) (map name_held names)

  text_of_names : (names : List HeldName) → flat_map (named_text s start) names ≡ told_of (named_paths names)
  text_of_names [] = refl
  text_of_names (n ∷ names) =
      flat_map-cons (named_text s start) n names ∙ ap (λ (l : List ℕ). named_text s start n ++ l) (text_of_names names) ∙ one (path_to_name s (name_held n))
    where
      one : (o : Option (List (List ℕ))) → path_text_if start o ++ told_of (named_paths names) ≡ told_of (cons_option o (named_paths names))
      one None = refl
      one (Some path) = sym (flat_map-cons (path_line start) path (named_paths names))

  -- what is told of names
  abbrev pub of_names : List ℕ
  of_names = told_of (take (most_of_names i) (paths_of_names s i))

  pub names_are_told : (names : List HeldName) (most : ℕ) → most ≡ most_of_names i → map name_held names ≡ take most (names_led s i)
      → flat_map (named_text s start) names ≡ of_names
  unfolding names_led
  names_are_told names most few first =
      text_of_names names ∙ ap (λ (l : List NameOf). told_of (filter_map (path_to_name s) l)) first
      ∙ ap (λ (k : ℕ). told_of (filter_map (path_to_name s) (take k (filter (is_led s i) (all_entries s))))) few
      ∙ ap told_of (led_first s i (all_entries s) (most_of_names i))

  -- what is told of the root and of names
  all_is_told : told_of (root_paths i) ++ of_names ≡ first_lines s start i
  all_is_told = sym (flat_map-append (path_line start) (root_paths i) (take (most_of_names i) (paths_of_names s i))) ∙ ap told_of (first_paths i (paths_of_names s i))

  pub whole_is_told : {T E : Type 0} (a b : Option (List ℕ)) (before now : ℕ) (r : Result T E)
      → Puts a b before now (told_of (root_paths i) ++ of_names) r → Puts a b before now (first_lines s start i) r
  whole_is_told a b before now r puts = subst (λ (l : List ℕ). Puts a b before now l r) all_is_told puts

  pub paths_are_counted : (root named : ℕ) → root ≡ length (root_paths i) → named ≡ length (names_led s i) → root + named ≡ length (paths_to s i)
  unfolding names_led
  paths_are_counted root named of_root is_named =
      omega (arith, of_root, is_named, led_many s i (all_entries s), length-append (root_paths i) (paths_of_names s i))

pub part_failed : {T E : Type 0} (a b : Option (List ℕ)) (before now : ℕ) (text : List ℕ) (r : Result T E) → IsErr r → PutsPart a b text → now ≡ next_count before → Puts a b before now text r
part_failed a b before now text (Ok x) err part failed = cc
part_failed a b before now text (Err e) err part failed = (part, failed)

-- ---- the versions of other objects do not count

of_lost : (lost s : Stretch) → is_not_older lost s ≡ true → s.ino ≡ lost.ino
of_lost lost s newer = grind (arith, nat_tests)

module _ (e : Endian) (m : Mount) (numbers hidden : BTreeSet ℕ) (others : List Stretch) where
  one_whole : (d : ℕ × Damage) → HasListedNumber e m.image numbers d → IsHidden e m (filter (is_kept numbers) others) hidden d → IsHidden e m others hidden d
  one_whole d has right is =
      let lost = stretch_at e m.image d.0 in
      right is ∙ hidden_kept (is_kept numbers) lost (λ s newer. ap (contains nat_cmp numbers) (of_lost lost s newer) ∙ has is) others (size_at m.state lost.ino)

  pub all_whole : (ds : List (ℕ × Damage)) → HaveNumbers e m.image numbers ds → AreHidden e m (filter (is_kept numbers) others) hidden ds → AreHidden e m others hidden ds
  all_whole ds have right k d less = one_whole (get_or ds k d) (have k d less) (right k d less)

  -- ---- a node where it is known whether it hides nothing

  own_text_same : (d : ℕ × Damage) → IsHidden e m others hidden d → own_text e m hidden d ≡ node_text e m others d
  unfolding data_text
  own_text_same (addr, DataCrc) right =
      let lost = stretch_at e m.image addr in
      ap (λ (b : Bool). lost_text m.state b addr lost) (right refl)
  own_text_same (addr, NameCrc) right = refl
  own_text_same (addr, NodeCrc) right = refl
  own_text_same (addr, Length) right = refl
  own_text_same (addr, Range) right = refl

  own_paths_same : (d : ℕ × Damage) → IsHidden e m others hidden d → own_paths e m hidden d ≡ node_paths e m others d
  own_paths_same (addr, DataCrc) right =
      let lost = stretch_at e m.image addr in
      ap (λ (b : Bool). length (lost_paths m.state b lost)) (right refl)
  own_paths_same (addr, NameCrc) right = refl
  own_paths_same (addr, NodeCrc) right = refl
  own_paths_same (addr, Length) right = refl
  own_paths_same (addr, Range) right = refl

  pub texts_same : (ds : List (ℕ × Damage)) → AreHidden e m others hidden ds → flat_map (own_text e m hidden) ds ≡ flat_map (node_text e m others) ds
  texts_same [] right = refl
  texts_same (d ∷ ds) right =
      flat_map-cons (own_text e m hidden) d ds
      ∙ ap (λ (l : List ℕ). l ++ flat_map (own_text e m hidden) ds) (own_text_same d (All-head (IsHidden e m others hidden) d ds right))
      ∙ ap (λ (l : List ℕ). node_text e m others d ++ l) (texts_same ds (All-tail (IsHidden e m others hidden) d ds right))
      ∙ sym (flat_map-cons (node_text e m others) d ds)

  pub sums_same : (ds : List (ℕ × Damage)) → AreHidden e m others hidden ds → sum_by (own_paths e m hidden) ds ≡ sum_by (node_paths e m others) ds
  sums_same [] right = refl
  sums_same (d ∷ ds) right =
      sum_cons (own_paths e m hidden) d ds
      ∙ ap (λ (n : ℕ). n + sum_by (own_paths e m hidden) ds) (own_paths_same d (All-head (IsHidden e m others hidden) d ds right))
      ∙ ap (λ (n : ℕ). node_paths e m others d + n) (sums_same ds (All-tail (IsHidden e m others hidden) d ds right))
      ∙ sym (sum_cons (node_paths e m others) d ds)

-- ---- the whole

bare_long : (names : List HeldName) → length (map name_held names) ≡ length names
bare_long [] = refl
bare_long (n ∷ names) = ap suc (bare_long names)

module _ (e : Endian) (size : ℕ) (m : Mount) (numbers hidden : BTreeSet ℕ) where
  abbrev pub Right : List (ℕ × Damage) → Type 0
  Right damaged = AreHidden e m (stretches e size m.image) hidden damaged

  all_same : (damaged : List (ℕ × Damage)) → damaged ≡ damaged_nodes e size m.image → Right damaged
      → flat_map (own_text e m hidden) damaged ≡ flat_map (node_text e m (stretches e size m.image)) (damaged_nodes e size m.image)
  all_same damaged are right =
      texts_same e m numbers hidden (stretches e size m.image) damaged right ∙ ap (flat_map (node_text e m (stretches e size m.image))) are

  pub counted : (damaged : List (ℕ × Damage)) (missing : List HeldName) (gaps : List Gap) → damaged ≡ damaged_nodes e size m.image → Right damaged → map name_held missing ≡ dangling m.state
      → gaps ≡ gaps_of e size m → own_totals e m hidden damaged missing gaps ≡ damage_totals e size m
  unfolding damage_totals
  counted damaged missing gaps are right gone found =
      let ks = stretches e size m.image in
      let nodes : length damaged ≡ length (damaged_nodes e size m.image) = ap (λ (l : List (ℕ × Damage)). length l) are in
      let paths : min (sum_by (own_paths e m hidden) damaged) (2 ^ 64 - 1) ≡ min (sum_by (node_paths e m ks) (damaged_nodes e size m.image)) (2 ^ 64 - 1) =
      ap (λ (n : ℕ). min n (2 ^ 64 - 1)) (sums_same e m numbers hidden ks damaged right ∙ ap (sum_by (node_paths e m ks)) are) in
      let names : length missing ≡ length (dangling m.state) = sym (bare_long missing) ∙ ap (λ (l : List NameOf). length l) gone in
      let reached : sum_by (reached_once m.state) gaps ≡ sum_by (reached_once m.state) (gaps_of e size m) = ap (sum_by (reached_once m.state)) found in
      let made : ℕ → ℕ → ℕ → ℕ → Totals = λ d h n g. record { damaged = d; paths = h; missing = n; gaps = g } in
      ap (λ (d : ℕ). made d (min (sum_by (own_paths e m hidden) damaged) (2 ^ 64 - 1)) (length missing) (sum_by (reached_once m.state) gaps)) nodes
      ∙ ap (λ (h : ℕ). made (length (damaged_nodes e size m.image)) h (length missing) (sum_by (reached_once m.state) gaps)) paths
      ∙ ap (λ (n : ℕ). made (length (damaged_nodes e size m.image)) (min (sum_by (node_paths e m ks) (damaged_nodes e size m.image)) (2 ^ 64 - 1)) n (sum_by (reached_once m.state) gaps)) names
      ∙ ap (made (length (damaged_nodes e size m.image)) (min (sum_by (node_paths e m ks) (damaged_nodes e size m.image)) (2 ^ 64 - 1)) (length (dangling m.state))) reached

  pub all_told : (damaged : List (ℕ × Damage)) (missing : List HeldName) (gaps : List Gap) → damaged ≡ damaged_nodes e size m.image → Right damaged → map name_held missing ≡ dangling m.state
      → gaps ≡ gaps_of e size m → own_totals e m hidden damaged missing gaps ≡ damage_totals e size m → own_whole e m hidden damaged missing gaps ≡ damage_text e size m
  unfolding damage_text damage_totals
  all_told damaged missing gaps are right gone found so =
      let told = flat_map (node_text e m (stretches e size m.image)) (damaged_nodes e size m.image) in
      let named = flat_map (missing_text m.state) (dangling m.state) in
      let nodes = all_same damaged are right in
      let names : missing_texts m.state missing ≡ named =
      sym (flat_map-map (missing_text m.state) name_held missing) ∙ ap (flat_map (missing_text m.state)) gone in
      let last = totals_shown (own_totals e m hidden damaged missing gaps) in
      ap (λ (l : List ℕ). (l ++ missing_texts m.state missing) ++ (flat_map (gap_text m.state) gaps ++ last)) nodes
      ∙ ap (λ (l : List ℕ). (told ++ l) ++ (flat_map (gap_text m.state) gaps ++ last)) names
      ∙ ap (λ (l : List Gap). (told ++ named) ++ (flat_map (gap_text m.state) l ++ last)) found
      ∙ ap (λ (t : Totals). (told ++ named) ++ (flat_map (gap_text m.state) (gaps_of e size m) ++ totals_shown t)) so

-- ---- the same of what calls saw

pub right_of : (e : Endian) (m : Mount) (hidden : BTreeSet ℕ) (sound others : List Stretch) (ds damaged : List (ℕ × Damage)) → sound ≡ others → ds ≡ damaged
    → AreHidden e m sound hidden ds → AreHidden e m others hidden damaged
right_of e m hidden sound others ds damaged same those right =
    subst (AreHidden e m others hidden) those (subst (λ (ss : List Stretch). AreHidden e m ss hidden ds) same right)

pub have_numbers : (e : Endian) (image other : List ℕ) (numbers others : BTreeSet ℕ) (ds damaged : List (ℕ × Damage)) → image ≡ other → numbers ≡ others → ds ≡ damaged
    → HaveNumbers e image numbers ds → HaveNumbers e other others damaged
have_numbers e image other numbers others ds damaged same those are have =
    subst (HaveNumbers e other others) are (subst (λ (n : BTreeSet ℕ). HaveNumbers e other n ds) those (subst (λ (im : List ℕ). HaveNumbers e im numbers ds) same have))

-- ---- what a call puts

pub puts_told : (e : Endian) (size : ℕ) (m : Mount) (old new : Option (List ℕ)) (before now : ℕ) (text : List ℕ) (totals : Totals) (put : Result Totals DeviceFault) (r : Result Totals DamageFault)
    → r ≡ damage_told put → text ≡ damage_text e size m → totals ≡ damage_totals e size m → Puts old new before now text put → IfOk put (λ t. t ≡ totals) → PutsDamage e size m old new before now r
puts_told e size m old new before now text totals (Ok t) r is all same puts so =
    subst (PutsDamage e size m old new before now) (sym is) (so ∙ same, subst (Appends old new) all puts.0, puts.1)
puts_told e size m old new before now text totals (Err fault) r is all same puts so =
    subst (PutsDamage e size m old new before now) (sym is) (subst (PutsPart old new) all puts.0, puts.1)
