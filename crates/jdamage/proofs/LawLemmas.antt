-- Why nothing is told of an image that is sound.
use Rattle.std.proofs.Common.{◌≡◌, ℕ, ◌-◌, ◌^◌, List, [], ◌∷◌, ◌++◌, length, sym, ap, ◌∙◌, arith}
use Rattle.std.specs.Prelude.{flat_map, map, min, sum_by, IfOk, OnOk, Result, Ok, Err}
use Rattle.jnode.specs.declared.node.Damage.{Damage}
use Rattle.jnode.specs.declared.order.Endian.{Endian}
use Rattle.jmount.specs.Mount.{Mount}
use Rattle.jmount.specs.Tree.{dangling}
use Rattle.jgaps.specs.Gaps.{gaps_of}
use Rattle.jgaps.specs.declared.gap.Gap.{Gap}
use Rattle.jdamage.specs.Damage.{damage_text, damage_totals, gap_text, missing_text, node_paths, node_text, reached_once}
use Rattle.jgaps.specs.Fields.{stretches}
use Rattle.jdamage.specs.Fields.{damaged_nodes}
use Rattle.jdamage.specs.Laws.{SoundHasNoLines}
use Rattle.jdamage.specs.Lines.{no_damage, totals_shown}
use Rattle.jdamage.specs.Ways.{NameOf}
use Rattle.jdamage.specs.declared.totals.Totals.{Totals}

min_none : (p most : ℕ) → p ≡ 0 → min p most ≡ 0
min_none p most none = omega (arith, none)

zeros : (d p n g : ℕ) → d ≡ 0 → p ≡ 0 → n ≡ 0 → g ≡ 0
    → totals_shown (record { damaged = d; paths = p; missing = n; gaps = g }) ≡ totals_shown (record { damaged = 0; paths = 0; missing = 0; gaps = 0 })
zeros d p n g zero_damaged zero_paths zero_names zero_gaps =
    ap (λ (k : ℕ). totals_shown (record { damaged = k; paths = p; missing = n; gaps = g })) zero_damaged
    ∙ ap (λ (k : ℕ). totals_shown (record { damaged = 0; paths = k; missing = n; gaps = g })) zero_paths
    ∙ ap (λ (k : ℕ). totals_shown (record { damaged = 0; paths = 0; missing = k; gaps = g })) zero_names
    ∙ ap (λ (k : ℕ). totals_shown (record { damaged = 0; paths = 0; missing = 0; gaps = k })) zero_gaps

only_last : (a b c z : List ℕ) → a ≡ [] → b ≡ [] → c ≡ [] → (a ++ b) ++ (c ++ z) ≡ z
only_last a b c z none gone whole =
    ap (λ (l : List ℕ). (l ++ b) ++ (c ++ z)) none ∙ ap (λ (l : List ℕ). l ++ (c ++ z)) gone ∙ ap (λ (l : List ℕ). l ++ z) whole

-- the lines of lists of which none has any, for any cap of the count
nothing_told : (f : ℕ × Damage → List ℕ) (g : NameOf → List ℕ) (h : ℕ × Damage → ℕ) (j : Gap → List ℕ) (r : Gap → ℕ) (most : ℕ) (ds : List (ℕ × Damage)) (ns : List NameOf) (gs : List Gap)
    → ds ≡ [] → ns ≡ [] → gs ≡ []
    → (flat_map f ds ++ flat_map g ns)
    ++ (flat_map j gs ++ totals_shown (record { damaged = length ds; paths = min (sum_by h ds) most; missing = length ns; gaps = sum_by r gs }))
    ≡ totals_shown (record { damaged = 0; paths = 0; missing = 0; gaps = 0 })
nothing_told f g h j r most ds ns gs none gone whole =
    let count : length ds ≡ 0 = ap (λ (l : List (ℕ × Damage)). length l) none in
    let sum : sum_by h ds ≡ 0 = ap (sum_by h) none in
    let names : length ns ≡ 0 = ap (λ (l : List NameOf). length l) gone in
    let gaps : sum_by r gs ≡ 0 = ap (sum_by r) whole in
    only_last (flat_map f ds) (flat_map g ns) (flat_map j gs) _ (ap (flat_map f) none) (ap (flat_map g) gone) (ap (flat_map j) whole)
    ∙ zeros (length ds) (min (sum_by h ds) most) (length ns) (sum_by r gs) count (min_none (sum_by h ds) most sum) names gaps

pub sound_has_no_lines : SoundHasNoLines
unfolding damage_text
sound_has_no_lines e size m none gone whole =
    let others = stretches e size m.image in
    nothing_told (node_text e m others) (missing_text m.state) (node_paths e m others) (gap_text m.state) (reached_once m.state) (2 ^ 64 - 1) (damaged_nodes e size m.image) (dangling m.state) (gaps_of e size m)
    none gone whole

pub sound_totals : (e : Endian) (size : ℕ) (m : Mount) → damaged_nodes e size m.image ≡ [] → dangling m.state ≡ [] → gaps_of e size m ≡ [] → damage_totals e size m ≡ no_damage
unfolding damage_totals
sound_totals e size m none gone whole =
    let h = node_paths e m (stretches e size m.image) in
    let ds = damaged_nodes e size m.image in
    let r = reached_once m.state in
    let gs = gaps_of e size m in
    let count : length ds ≡ 0 = ap (λ (l : List (ℕ × Damage)). length l) none in
    let paths : min (sum_by h ds) (2 ^ 64 - 1) ≡ 0 = min_none (sum_by h ds) (2 ^ 64 - 1) (ap (sum_by h) none) in
    let names : length (dangling m.state) ≡ 0 = ap (λ (l : List NameOf). length l) gone in
    let gaps : sum_by r gs ≡ 0 = ap (sum_by r) whole in
    let made : ℕ → ℕ → ℕ → ℕ → Totals = λ d p n g. record { damaged = d; paths = p; missing = n; gaps = g } in
    ap (λ (d : ℕ). made d (min (sum_by h ds) (2 ^ 64 - 1)) (length (dangling m.state)) (sum_by r gs)) count
    ∙ ap (λ (p : ℕ). made 0 p (length (dangling m.state)) (sum_by r gs)) paths
    ∙ ap (λ (n : ℕ). made 0 0 n (sum_by r gs)) names ∙ ap (made 0 0 0) gaps

-- where two lists are empty
pub none_of : {X Y : Type 0} (f : X → Y) (xs : List X) (ys : List Y) → map f xs ≡ ys → length xs ≡ 0 → ys ≡ []
none_of f [] ys same none = sym same
none_of f (x ∷ xs) ys same none = absurd (omega (arith, none))

pub no_items : {X : Type 0} (xs ys : List X) → xs ≡ ys → length xs ≡ 0 → ys ≡ []
no_items [] ys same none = sym same
no_items (x ∷ xs) ys same none = absurd (omega (arith, none))

pub on_ok : {X Y : Type 0} (r : Result X Y) (A B : Type 0) → (A → B) → OnOk r A → OnOk r B
on_ok (Ok x) A B f a = f a
on_ok (Err y) A B f a = a

pub if_ok : {X Y : Type 0} (r : Result X Y) (P Q : X → Type 0) → ((x : X) → P x → Q x) → IfOk r P → IfOk r Q
if_ok (Ok x) P Q f a = f x a
if_ok (Err y) P Q f a = a
