-- The versions of objects, while nodes are taken.
use Rattle.std.proofs.Common.{◌≡◌, ℕ, ◌≤◌, Bool, true, false, cond, List, [], ◌∷◌, ◌++◌, Option, Some, None, refl, ap, sym, subst, ◌∙◌, arith, append-nil, ⊎_elim}
use Rattle.std.specs.Prelude.{◌⊎◌, ◌==◌, filter_map, option_to_list, Contains}
use Rattle.std.specs.BTreeMap.{BTreeMap, get}
use Rattle.std.specs.Cmp.{unsigned_tied}
use Rattle.std.specs.List.{cons_option}
use Rattle.std.specs.Ordering.{eq_by_cmp, nat_cmp}
use Rattle.std.proofs.lemmas.Bool.{eqb-true}
use Rattle.std.proofs.lemmas.List.Elements.{Contains-append_cases, Contains-append_left, Contains-append_right}
use Rattle.flashbase.proofs.MemberLemmas.{Contains-here, Contains-cases, Contains-none}
use Rattle.jnode.specs.declared.node.Dirent.{Dirent}
use Rattle.jnode.specs.declared.node.InodeNode.{InodeNode}
use Rattle.jnode.specs.declared.node.NodeRef.TheVariants.{Entry, Inode}
use Rattle.jpast.specs.Pasts.{IsSpanIf, IsSpanOf, NodesAt, version_if, object_versions}
use Rattle.jpast.specs.Spans.{AreSpansOf, HasSpans, and_version}
use Rattle.jpast.specs.declared.past.Span.{Span}

by_test : {P : Type 0} (b : Bool) → (b ≡ true → P) → (b ≡ false → P) → P
by_test true yes_case no_case = yes_case refl
by_test false yes_case no_case = no_case refl

-- ---- a version more

module _ (vs : List ℕ) (v : ℕ) where
  last_there : Contains (vs ++ v ∷ []) v
  last_there = Contains-append_right vs (v ∷ []) v (Contains-here v [])

  among : (n k : ℕ) → Contains vs k → (n ≡ k) ⊎ (n ≡ v) → Contains (vs ++ v ∷ []) n
  among n k there is =
      ⊎_elim (λ old. subst (Contains (vs ++ v ∷ [])) (sym old) (Contains-append_left vs (v ∷ []) k there)) (λ new. subst (Contains (vs ++ v ∷ [])) (sym new) last_there) is

  pub span_widened : (s : Span) (low high : ℕ) → IsSpanOf vs s → (low ≡ s.lowest) ⊎ (low ≡ v) → (high ≡ s.highest) ⊎ (high ≡ v) → low ≤ s.lowest → low ≤ v → s.highest ≤ high → v ≤ high
      → IsSpanOf (vs ++ v ∷ []) (record { lowest = low; highest = high })
  span_widened s low high is least most below under above over = record {
    least = among low s.lowest is.least least;
    most = among high s.highest is.most most;
    within = λ w c.
        ⊎_elim (λ old. let old_in = is.within w old in (omega (arith, old_in.0, below), omega (arith, old_in.1, above)))
        (λ last. ⊎_elim (λ same. (subst (λ (k : ℕ). low ≤ k) same under, subst (λ (k : ℕ). k ≤ high) same over)) (λ none. absurd (Contains-none w none)) (Contains-cases v [] w last))
        (Contains-append_cases vs (v ∷ []) w c);
  }

pub span_noted : (versions : ℕ → List ℕ) (old new : BTreeMap ℕ Span) (ino v : ℕ) (span : Span) → AreSpansOf versions old → IsSpanOf (versions ino ++ v ∷ []) span
    → ((q : ℕ) → get nat_cmp new q ≡ cond (eq_by_cmp nat_cmp ino q) (Some span) (get nat_cmp old q)) → AreSpansOf (and_version versions ino v) new
span_noted versions old new ino v span has wide puts i =
    by_test (ino == i)
    (λ same.
    let at : get nat_cmp new i ≡ Some span = puts i ∙ ap (λ (b : Bool). cond b (Some span) (get nat_cmp old i)) (unsigned_tied ino i ∙ same) in
    subst (IsSpanIf (and_version versions ino v i)) (sym at)
    (subst (λ (b : Bool). IsSpanOf (versions i ++ cond b (v ∷ []) []) span) (sym same) (subst (λ (k : ℕ). IsSpanOf (versions k ++ v ∷ []) span) (eqb-true ino i same) wide)))
    (λ other.
    let at : get nat_cmp new i ≡ get nat_cmp old i = puts i ∙ ap (λ (b : Bool). cond b (Some span) (get nat_cmp old i)) (unsigned_tied ino i ∙ other) in
    subst (IsSpanIf (and_version versions ino v i)) (sym at)
    (subst (λ (b : Bool). IsSpanIf (versions i ++ cond b (v ∷ []) []) (get nat_cmp old i)) (sym other)
    (subst (λ (l : List ℕ). IsSpanIf l (get nat_cmp old i)) (sym (append-nil (versions i))) (has i))))

-- ---- a node more

filter_map_more : {A B : Type 0} (f : A → Option B) (xs : List A) (x : A) → filter_map f (xs ++ x ∷ []) ≡ filter_map f xs ++ option_to_list (f x)
filter_map_more {A} {B} f [] x = by (f x)
  where
    by : (o : Option B) → cons_option o [] ≡ option_to_list o
    by None = refl
    by (Some y) = refl
filter_map_more {A} {B} f (y ∷ ys) x = by (f y) (filter_map_more f ys x)
  where
    by : (o : Option B) → filter_map f (ys ++ x ∷ []) ≡ filter_map f ys ++ option_to_list (f x)
        → cons_option o (filter_map f (ys ++ x ∷ [])) ≡ cons_option o (filter_map f ys) ++ option_to_list (f x)
    by None rest = rest
    by (Some z) rest = ap (λ (l : List B). z ∷ l) rest

listed : (b : Bool) (v : ℕ) → option_to_list (cond b (Some v) None) ≡ cond b (v ∷ []) []
listed true v = refl
listed false v = refl

pub inode_noted : (ns : NodesAt) (addr : ℕ) (node : InodeNode) (spans : BTreeMap ℕ Span) → AreSpansOf (and_version (object_versions ns) node.ino node.version) spans
    → HasSpans (ns ++ (addr, Inode node) ∷ []) spans
inode_noted ns addr node spans are i =
    subst (λ (l : List ℕ). IsSpanIf l (get nat_cmp spans i))
    (sym (filter_map_more (λ n. version_if i n.1) ns (addr, Inode node) ∙ ap (λ (l : List ℕ). object_versions ns i ++ l) (listed (node.ino == i) node.version))) (are i)

pub entry_noted : (ns : NodesAt) (addr : ℕ) (entry : Dirent) (spans : BTreeMap ℕ Span) → HasSpans ns spans → HasSpans (ns ++ (addr, Entry entry) ∷ []) spans
entry_noted ns addr entry spans has i =
    subst (λ (l : List ℕ). IsSpanIf l (get nat_cmp spans i)) (sym (filter_map_more (λ n. version_if i n.1) ns (addr, Entry entry) ∙ append-nil (object_versions ns i))) (has i)

pub nothing_noted : (spans : BTreeMap ℕ Span) → ((i : ℕ) → get nat_cmp spans i ≡ None) → HasSpans [] spans
nothing_noted spans none i = subst (IsSpanIf []) (sym (none i)) refl
