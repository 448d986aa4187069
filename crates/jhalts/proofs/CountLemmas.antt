-- How many forms stand from the address of a stop: as many as are whole.
use Rattle.std.proofs.Common.{◌≡◌, ℕ, suc, ◌+◌, ◌-◌, ◌*◌, ◌/◌, ◌%◌, ◌<◌, ◌≤◌, Bool, true, false, List, [], ◌∷◌, ◌++◌, length, map, take, drop, get_or, refl, sym, ap, ap₂, subst, ◌∙◌, arith, inl, inr}
use Rattle.std.specs.Prelude.{IsTrue, bytes_eq, is_some, nat_le}
use Rattle.std.specs.List.{AllByRecursion}
use Rattle.std.proofs.lemmas.Bool.{cases_Bool, cases_lt, cond-true, cond-false, le-leb, lt-leb}
use Rattle.std.proofs.Math.Nat.{mul-le-mul_right}
use Rattle.std.proofs.lemmas.List.{get_or-replicate}
use Rattle.std.proofs.lemmas.Slice.Eq.{bytes_eq-Decides}
use Rattle.flashbase.specs.Bytes.{erased, pad4_of}
use Rattle.jnode.specs.Weak.{torn}
use Rattle.jnode.specs.declared.order.Endian.{Endian}
use Rattle.jlog.specs.Forms.{NoFormWeak}
use Rattle.jlog.specs.Left.{count_whole, intact}
use Rattle.jlog.specs.Laws.{FitsBlock}
use Rattle.jlog.specs.Output.{output}
use Rattle.jlog.specs.Places.{place_after, end_after, places}
use Rattle.jlog.proofs.IntactLemmas.{all_is_intact, intact_is_counted}
use Rattle.jlog.proofs.PlaceLemmas.{place_is_least}
use Rattle.jcuts.specs.Laws.{count_standing}
use Rattle.jcuts.specs.Lines.{weak_count}
use Rattle.jcuts.specs.Standing.{least_weak, standing_at, standings}
use Rattle.jcuts.specs.declared.standing.Standing.{Standing}
use Rattle.jcuts.proofs.CountLemmas.{count_yes, count_no, standing_is_counted}
use Rattle.jcuts.proofs.JoinLemmas.{count_on}
use Rattle.jcuts.proofs.ToldThroughLemmas.{none_told}
use Rattle.jrests.specs.Left.{all_bytes, whole_in_shares}
use Rattle.jrests.specs.Shares.{Share, shares, output_to, fit_in, taken_from}
use Rattle.jrests.specs.declared.opening.Opening.{Opening}
use Rattle.jrests.proofs.ShareLemmas.{all_first, all_behind}
use Rattle.jopenings.specs.After.{moved_opening}
use Rattle.jopenings.specs.Stretches.{AreStretches, stretches_of}
use Rattle.jhalts.specs.InShares.{share_standings, standing_on, standings_in_shares, stop_address}
use Rattle.jhalts.proofs.StandingLemmas.{first_form, first_standing, no_standings, standings_next}

-- ---- further up

-- those that stand from an address or below it
abbrev stands_by : ℕ → Standing → Bool
stands_by address standing = nat_le standing.stands_from address

moved_by : (b t s : ℕ) → nat_le (b + s) (b + t) ≡ nat_le s t
moved_by b t s = elim (cases_lt t s) [
  | inl above ↦ lt-leb (b + s) (b + t) (omega (arith, above)) ∙ sym (lt-leb s t above)
  | inr below ↦ le-leb (b + s) (b + t) (omega (arith, below)) ∙ sym (le-leb s t below)
]

count_moved : (b t : ℕ) (ss : List Standing) → count_standing (b + t) (map (standing_on b) ss) ≡ count_standing t ss
count_moved b t [] = refl
count_moved b t (s ∷ ss) =
    let up : Standing = standing_on b s in
    let rest : List Standing = map (standing_on b) ss in
    let same : nat_le up.stands_from (b + t) ≡ nat_le s.stands_from t = moved_by b t s.stands_from in
    elim (cases_Bool (nat_le s.stands_from t)) [
      | inl stands ↦ count_yes (stands_by (b + t)) up rest (same ∙ stands) ∙ (ap suc (count_moved b t ss) ∙ sym (count_yes (stands_by t) s ss stands))
      | inr later ↦ count_no (stands_by (b + t)) up rest (same ∙ later) ∙ (count_moved b t ss ∙ sym (count_no (stands_by t) s ss later))
    ]

-- ---- none in blocks above

-- a place lies behind a marker
behind_marker : (size from len : ℕ) → size % 4 ≡ 0 → (some : 0 < len) → 12 + len ≤ size → 12 ≤ place_after size from len
behind_marker size from len words some within =
    let at : ℕ = place_after size from len in
    let front : ℕ = at / size * size in
    let behind : front + 12 ≤ at = (place_is_least size from len words some within).place.behind_marker in
    omega (arith, behind)

none_in_share : (e : Endian) (size b from t : ℕ) (nodes : List (List ℕ)) → size % 4 ≡ 0 → AllByRecursion (FitsBlock size) nodes → t ≤ b
    → count_standing t (map (standing_on b) (standings e size from nodes)) ≡ 0
none_in_share e size b from t [] words ok low = refl
none_in_share e size b from t (node ∷ nodes) words ok low =
    let len : ℕ = length node in
    let at : ℕ = place_after size from len in
    let here : Standing = standing_on b (standing_at e at node) in
    let high : 12 ≤ at = behind_marker size from len words ok.0.some ok.0.within in
    count_no (stands_by t) here (map (standing_on b) (standings e size (end_after size from len) nodes)) (lt-leb here.stands_from t (omega (arith, high, low)))
    ∙ none_in_share e size b (end_after size from len) t nodes words ok.1 low

-- where what goes out to a row lies
abbrev pub Lie : Endian → ℕ → ℕ → ℕ → List Opening → List (List ℕ) → Type 0
Lie e size lo blocks row forms = AreStretches size lo blocks (stretches_of e size (shares size row forms))

none_above : (e : Endian) (size lo blocks t : ℕ) (row : List Opening) (forms : List (List ℕ)) → size % 4 ≡ 0 → AllByRecursion (FitsBlock size) forms → Lie e size lo blocks row forms → t ≤ lo * size
    → count_standing t (standings_in_shares e size (shares size row forms)) ≡ 0
none_above e size lo blocks t [] forms words ok lie low = refl
none_above e size lo blocks t (o ∷ row) forms words ok lie low =
    let n : ℕ = taken_from size o.place forms in
    let here : List Standing = share_standings e size (o, take n forms) in
    let rest : List Standing = standings_in_shares e size (shares size row (drop n forms)) in
    let first : lo * size ≤ o.block * size = mul-le-mul_right size lie.0 in
    let next : o.block * size ≤ (o.block + 1) * size = mul-le-mul_right size (omega arith) in
    let none : count_standing t here ≡ 0 = none_in_share e size (o.block * size) o.place t (take n forms) words (all_first (FitsBlock size) n forms ok) (omega (arith, low, first)) in
    let others : count_standing t rest ≡ 0 = none_above e size (o.block + 1) blocks t row (drop n forms) words (all_behind (FitsBlock size) n forms ok) lie.3 (omega (arith, low, first, next)) in
    omega (arith, count_on (stands_by t) here rest, none, others)

-- ---- none whole after no byte

torn_none : (size : ℕ) (x : List ℕ) → FitsBlock size x → bytes_eq (torn x 0) x ≡ false
torn_none size x fits = elim (cases_Bool (bytes_eq (torn x 0) x)) [
  | inl same ↦
      let is : erased (length x - 0) ≡ x = (bytes_eq-Decides _ _).0 same in
      let all : length x - 0 ≡ length x = omega arith in
      let first : get_or x 0 0 ≡ 0xFF =
      ap (λ (l : List ℕ). get_or l 0 0) (sym is) ∙ (ap (λ (n : ℕ). get_or (erased n) 0 0) all ∙ get_or-replicate (length x) 0 0xFF 0 fits.some) in
      absurd (fits.written first)
  | inr other ↦ other
]

none_intact : (size from : ℕ) (forms : List (List ℕ)) → AllByRecursion (FitsBlock size) forms → intact size from 0 forms ≡ 0
none_intact size from [] fits = refl
none_intact size from (x ∷ xs) fits =
    let at : ℕ = place_after size from (length x) in
    let none : 0 - (at - from) ≡ 0 = omega arith in
    let cut : bytes_eq (torn x (0 - (at - from))) x ≡ false = ap (λ (n : ℕ). bytes_eq (torn x n) x) none ∙ torn_none size x fits.0 in
    rw cut refl

none_whole : (e : Endian) (size : ℕ) (row : List Opening) (forms : List (List ℕ)) → size % 4 ≡ 0 → AllByRecursion (FitsBlock size) forms → whole_in_shares e size (shares size row forms) 0 ≡ 0
none_whole e size [] forms words ok = refl
none_whole e size (o ∷ row) forms words ok =
    let n : ℕ = taken_from size o.place forms in
    let mine : List (List ℕ) = take n forms in
    let roomy : AllByRecursion (FitsBlock size) mine = all_first (FitsBlock size) n forms ok in
    let out : List ℕ = output e size o.place mine in
    let none : 0 - length out ≡ 0 = omega arith in
    let here : count_whole o.place out 0 (places size o.place mine) ≡ 0 = intact_is_counted e size o.place 0 mine words roomy ∙ none_intact size o.place mine roomy in
    let later : whole_in_shares e size (shares size row (drop n forms)) (0 - length out) ≡ 0 =
    ap (whole_in_shares e size (shares size row (drop n forms))) none ∙ none_whole e size row (drop n forms) words (all_behind (FitsBlock size) n forms ok) in
    omega (arith, here, later)

-- ---- as many as are whole

-- a stop in a row is not below its first block
stop_above : (e : Endian) (size lo blocks k : ℕ) (row : List Opening) (forms : List (List ℕ)) → Lie e size lo blocks row forms → 0 < k → k ≤ all_bytes e size (shares size row forms)
    → lo * size ≤ stop_address e size (shares size row forms) k
stop_above e size lo blocks k [] forms lie some within = absurd (omega (arith, some, within))
stop_above e size lo blocks k (o ∷ row) forms lie some within =
    let n : ℕ = taken_from size o.place forms in
    let out : List ℕ = output e size o.place (take n forms) in
    let rest : List Share = shares size row (drop n forms) in
    let first : lo * size ≤ o.block * size = mul-le-mul_right size lie.0 in
    elim (cases_lt (length out) k) [
      | inl past ↦
          let at : stop_address e size (shares size (o ∷ row) forms) k ≡ stop_address e size rest (k - length out) =
          cond-false (nat_le k (length out)) (o.block * size + o.place + k) (stop_address e size rest (k - length out)) (lt-leb k (length out) past) in
          let next : o.block * size ≤ (o.block + 1) * size = mul-le-mul_right size (omega arith) in
          let later = stop_above e size (o.block + 1) blocks (k - length out) row (drop n forms) lie.3 (omega (arith, past)) (omega (arith, past, within)) in
          omega (arith, at, first, next, later)
      | inr here ↦
          let at : stop_address e size (shares size (o ∷ row) forms) k ≡ o.block * size + o.place + k =
          cond-true (nat_le k (length out)) (o.block * size + o.place + k) (stop_address e size rest (k - length out)) (le-leb k (length out) here) in
          omega (arith, at, first)
    ]

pub stops_are_counted : (e : Endian) (size lo blocks k : ℕ) (row : List Opening) (forms : List (List ℕ)) → size % 4 ≡ 0 → AllByRecursion (FitsBlock size) forms → Lie e size lo blocks row forms
    → k ≤ all_bytes e size (shares size row forms)
    → count_standing (stop_address e size (shares size row forms) k) (standings_in_shares e size (shares size row forms)) ≡ whole_in_shares e size (shares size row forms) k
stops_are_counted e size lo blocks k [] forms words ok lie within = refl
stops_are_counted e size lo blocks k (o ∷ row) forms words ok lie within =
    let n : ℕ = taken_from size o.place forms in
    let mine : List (List ℕ) = take n forms in
    let left : List (List ℕ) = drop n forms in
    let roomy : AllByRecursion (FitsBlock size) mine = all_first (FitsBlock size) n forms ok in
    let later_ok : AllByRecursion (FitsBlock size) left = all_behind (FitsBlock size) n forms ok in
    let out : List ℕ = output e size o.place mine in
    let rest : List Share = shares size row left in
    let b : ℕ = o.block * size in
    let a : ℕ = stop_address e size (shares size (o ∷ row) forms) k in
    let here : List Standing = share_standings e size (o, mine) in
    let others : List Standing = standings_in_shares e size rest in
    let ends : o.place + length out ≤ size = lie.2 in
    let next : (o.block + 1) * size ≡ b + size = mul_suc o.block size in
    let both : count_standing a (here ++ others) ≡ count_standing a here + count_standing a others = count_on (stands_by a) here others in
    let whole : ℕ = count_whole o.place out k (places size o.place mine) in
    elim (cases_lt (length out) k) [
      | inl past ↦
          let at : a ≡ stop_address e size rest (k - length out) =
          cond-false (nat_le k (length out)) (b + o.place + k) (stop_address e size rest (k - length out)) (lt-leb k (length out) past) in
          let most : k - length out ≤ all_bytes e size rest = omega (arith, past, within) in
          let high : (o.block + 1) * size ≤ a = omega (arith, at, stop_above e size (o.block + 1) blocks (k - length out) row left lie.3 (omega (arith, past)) most) in
          let m : ℕ = a - b - o.place in
          let split : a ≡ b + (o.place + m) = omega (arith, high, next, ends) in
          let far : length out ≤ m = omega (arith, split, high, next, ends) in
          let all : count_standing a here ≡ length mine =
          ap (λ (i : ℕ). count_standing i here) split
          ∙ (count_moved b (o.place + m) (standings e size o.place mine)
          ∙ (standing_is_counted e size o.place m mine words roomy
          ∙ (intact_is_counted e size o.place m mine words roomy ∙ all_is_intact e size o.place m mine words roomy far))) in
          let counted : whole ≡ length mine = intact_is_counted e size o.place k mine words roomy ∙ all_is_intact e size o.place k mine words roomy (omega (arith, past)) in
          let later : count_standing a others ≡ whole_in_shares e size rest (k - length out) =
          ap (λ (i : ℕ). count_standing i others) at ∙ stops_are_counted e size (o.block + 1) blocks (k - length out) row left words later_ok lie.3 most in
          omega (arith, both, all, counted, later)
      | inr cut ↦
          let at : a ≡ b + o.place + k =
          cond-true (nat_le k (length out)) (b + o.place + k) (stop_address e size rest (k - length out)) (le-leb k (length out) cut) in
          let split : a ≡ b + (o.place + k) = omega (arith, at) in
          let some : count_standing a here ≡ whole =
          ap (λ (i : ℕ). count_standing i here) split
          ∙ (count_moved b (o.place + k) (standings e size o.place mine) ∙ standing_is_counted e size o.place k mine words roomy) in
          let none : count_standing a others ≡ 0 = none_above e size (o.block + 1) blocks a row left words later_ok lie.3 (omega (arith, at, cut, ends, next)) in
          let no_bytes : k - length out ≡ 0 = omega (arith, cut) in
          let later : whole_in_shares e size rest (k - length out) ≡ 0 = ap (whole_in_shares e size rest) no_bytes ∙ none_whole e size row left words later_ok in
          omega (arith, both, some, none, later)
    ]
  where
    mul_suc : (b size : ℕ) → (b + 1) * size ≡ b * size + size
    mul_suc b size = omega arith

-- ---- weak ones

abbrev weak_one : Standing → Bool
weak_one standing = is_some standing.weak

-- whether a form is weak is seen anywhere
same_weak : (e : Endian) (size from : ℕ) (row : List Opening) (forms : List (List ℕ)) → IsTrue (fit_in size row forms) → weak_count (standings_in_shares e size (shares size row forms)) ≡ weak_count (standings e size from forms)
same_weak e size from row [] fits = ap weak_count (no_standings e size row)
same_weak e size from row (x ∷ xs) fits =
    let it = first_form e size row x xs fits in
    let here : Standing = first_standing e size it.opening x in
    let there : Standing = standing_at e (place_after size from (length x)) x in
    let rest : List Standing = standings_in_shares e size (shares size (moved_opening size it.opening x ∷ it.rest) xs) in
    let others : List Standing = standings e size (end_after size from (length x)) xs in
    let later : weak_count rest ≡ weak_count others = same_weak e size (end_after size from (length x)) (moved_opening size it.opening x ∷ it.rest) xs it.later in
    ap weak_count (standings_next e size row x xs it.opening it.rest it.is)
    ∙ elim (cases_Bool (is_some (least_weak e x))) [
      | inl weak ↦ count_yes weak_one here rest weak ∙ (ap suc later ∙ sym (count_yes weak_one there others weak))
      | inr sound ↦ count_no weak_one here rest sound ∙ (later ∙ sym (count_no weak_one there others sound))
    ]

pub none_weak : (e : Endian) (size : ℕ) (row : List Opening) (forms : List (List ℕ)) → IsTrue (fit_in size row forms) → weak_count (standings_in_shares e size (shares size row forms)) ≡ 0 → NoFormWeak e forms
none_weak e size row forms fits none = none_told e size 0 forms (sym (same_weak e size 0 row forms fits) ∙ none)
