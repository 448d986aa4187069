-- How many nodes stand from an address: as many as a stop leaves whole.
use Rattle.std.proofs.Common.{◌≡◌, ◌≢◌, ℕ, zero, suc, ◌+◌, ◌-◌, ◌%◌, ◌<◌, ◌≤◌, Bool, true, false, List, [], ◌∷◌, length, slice_index, refl, sym, ap, subst, ◌∙◌, arith, inl, inr}
use Rattle.std.specs.Prelude.{bytes_eq, nat_le, filter}
use Rattle.std.specs.List.{AllByRecursion, count_by}
use Rattle.std.proofs.lemmas.Bool.{cases_lt, cond-true, cond-false, le-leb, lt-leb, false_from_ne_true}
use Rattle.std.proofs.lemmas.List.Sums.{length-filter}
use Rattle.std.proofs.lemmas.Slice.Eq.{bytes_eq-Decides}
use Rattle.flashbase.specs.Bytes.{erased}
use Rattle.flashbase.proofs.BytesLemmas.{le_pad4}
use Rattle.jnode.specs.Weak.{torn}
use Rattle.jnode.specs.declared.order.Endian.{Endian}
use Rattle.jlog.specs.Places.{place_after, end_after}
use Rattle.jlog.specs.Left.{intact}
use Rattle.jlog.specs.Laws.{FitsBlock}
use Rattle.jlog.proofs.PlaceLemmas.{place_is_least}
use Rattle.jlog.proofs.IntactLemmas.{intact_is_counted}
use Rattle.jcuts.specs.Standing.{whole_len, standings, standing_at}
use Rattle.jcuts.specs.declared.standing.Standing.{Standing}
use Rattle.jcuts.specs.Laws.{count_standing, StandingIsCounted}
use Rattle.jcuts.proofs.WholeLemmas.{whole_len_is_least, whole_len_within, cons_torn, none_torn, cons_both}

-- more bytes keep a node whole
torn_more : (node : List ℕ) (n k : ℕ) → torn node n ≡ node → n ≤ k → torn node k ≡ node
torn_more [] n k is up = by k
  where
    by : (k : ℕ) → torn [] k ≡ []
    by zero = refl
    by (suc k) = let none : 0 - suc k ≡ 0 = omega arith in ap erased none
torn_more (byte ∷ bytes) zero zero is up = is
torn_more (byte ∷ bytes) zero (suc k) is up =
    let both = cons_both 0xFF byte (torn bytes 0) bytes (sym (none_torn byte bytes) ∙ is) in
    cons_torn byte bytes k ∙ ap (λ (l : List ℕ). byte ∷ l) (torn_more bytes 0 k both.1 (omega arith))
torn_more (byte ∷ bytes) (suc n) zero is up = absurd (omega arith)
torn_more (byte ∷ bytes) (suc n) (suc k) is up =
    let both = cons_both byte byte (torn bytes n) bytes (sym (cons_torn byte bytes n) ∙ is) in
    cons_torn byte bytes k ∙ ap (λ (l : List ℕ). byte ∷ l) (torn_more bytes n k both.1 (omega arith))

-- a node that does not begin as erased flash needs a byte
whole_len_some : (node : List ℕ) → 0 < length node → slice_index node 0 ≢ 0xFF → 0 < whole_len node
whole_len_some [] some written = absurd (omega arith)
whole_len_some (byte ∷ bytes) some written =
    elim (cases_lt 0 (whole_len (byte ∷ bytes))) [
      | inl more ↦ more
      | inr none ↦
          let zero_is : whole_len (byte ∷ bytes) ≡ 0 = omega arith in
          let is : torn (byte ∷ bytes) 0 ≡ byte ∷ bytes = subst (λ (n : ℕ). torn (byte ∷ bytes) n ≡ byte ∷ bytes) zero_is (whole_len_is_least (byte ∷ bytes)).whole in
          absurd (written (sym (cons_both 0xFF byte (torn bytes 0) bytes (sym (none_torn byte bytes) ∙ is)).0))
    ]

-- one more, and one that does not count
pub count_yes : {X : Type 0} (p : X → Bool) (x : X) (xs : List X) → p x ≡ true → count_by p (x ∷ xs) ≡ suc (count_by p xs)
count_yes p x xs is = sym (length-filter p (x ∷ xs)) ∙ (ap length (cond-true (p x) (x ∷ filter p xs) (filter p xs) is) ∙ ap suc (length-filter p xs))

pub count_no : {X : Type 0} (p : X → Bool) (x : X) (xs : List X) → p x ≡ false → count_by p (x ∷ xs) ≡ count_by p xs
count_no p x xs is = sym (length-filter p (x ∷ xs)) ∙ (ap length (cond-false (p x) (x ∷ filter p xs) (filter p xs) is) ∙ length-filter p xs)

-- those that stand from an address or below it
abbrev stands_by : ℕ → Standing → Bool
stands_by address standing = nat_le standing.stands_from address

-- below the first of them none stands
none_standing : (e : Endian) (size from t : ℕ) (nodes : List (List ℕ)) → size % 4 ≡ 0 → AllByRecursion (FitsBlock size) nodes → t ≤ from
    → count_standing t (standings e size from nodes) ≡ 0
none_standing e size from t [] words ok low = refl
none_standing e size from t (node ∷ nodes) words ok low =
    let len : ℕ = length node in
    let at : ℕ = place_after size from len in
    let up : from ≤ at = (place_is_least size from len words ok.0.some ok.0.within).place.upwards in
    let some : 0 < whole_len node = whole_len_some node ok.0.some ok.0.written in
    let rest : count_standing t (standings e size (end_after size from len) nodes) ≡ 0 = none_standing e size (end_after size from len) t nodes words ok.1 (omega arith) in
    count_no (stands_by t) (standing_at e at node) (standings e size (end_after size from len) nodes) (lt-leb (at + whole_len node) t (omega arith)) ∙ rest

standing_is_intact : (e : Endian) (size from k : ℕ) (nodes : List (List ℕ)) → size % 4 ≡ 0 → AllByRecursion (FitsBlock size) nodes
    → count_standing (from + k) (standings e size from nodes) ≡ intact size from k nodes
standing_is_intact e size from k [] words ok = refl
standing_is_intact e size from k (node ∷ nodes) words ok =
    let len : ℕ = length node in
    let at : ℕ = place_after size from len in
    let end : ℕ = end_after size from len in
    let j : ℕ = k - (at - from) in
    let n : ℕ = whole_len node in
    let i : ℕ = k - (end - from) in
    let up : from ≤ at = (place_is_least size from len words ok.0.some ok.0.within).place.upwards in
    let least = whole_len_is_least node in
    let some : 0 < n = whole_len_some node ok.0.some ok.0.written in
    let inside : n ≤ len = whole_len_within node in
    let rest : List Standing = standings e size end nodes in
    let later : ℕ = intact size end i nodes in
    elim (cases_lt (from + k) (at + n)) [
      | inl cut ↦
          let differs : bytes_eq (torn node j) node ≡ false =
          false_from_ne_true _ (λ same. let most : n ≤ j = least.least j ((bytes_eq-Decides _ _).0 same) in absurd (omega arith)) in
          let none : count_standing (from + k) rest ≡ 0 = none_standing e size end (from + k) nodes words ok.1 (omega (arith, le_pad4 len)) in
          count_no (stands_by (from + k)) (standing_at e at node) rest (lt-leb (at + n) (from + k) cut) ∙ none ∙ sym (cond-false (bytes_eq (torn node j) node) (suc later) 0 differs)
      | inr whole ↦
          let same : bytes_eq (torn node j) node ≡ true = (bytes_eq-Decides _ _).1 (torn_more node n j least.whole (omega arith)) in
          let here : count_standing (end + i) rest ≡ later = standing_is_intact e size end i nodes words ok.1 in
          let moved : count_standing (from + k) rest ≡ later =
          elim (cases_lt (from + k) end) [
            | inl before ↦
                let no : end + i ≡ end = omega arith in
                none_standing e size end (from + k) nodes words ok.1 (omega arith) ∙ (sym (none_standing e size end (end + i) nodes words ok.1 (omega arith)) ∙ here)
            | inr past ↦
                let sum : from + k ≡ end + i = omega arith in
                ap (λ (t : ℕ). count_standing t rest) sum ∙ here
          ] in
          count_yes (stands_by (from + k)) (standing_at e at node) rest (le-leb (at + n) (from + k) whole) ∙ ap suc moved ∙ sym (cond-true (bytes_eq (torn node j) node) (suc later) 0 same)
    ]

pub standing_is_counted : StandingIsCounted
standing_is_counted e size from k nodes words ok = standing_is_intact e size from k nodes words ok ∙ sym (intact_is_counted e size from k nodes words ok)
