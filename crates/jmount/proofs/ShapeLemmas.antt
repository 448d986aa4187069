-- Names that lead from one number to another, and when one more of them makes no loop.
use Rattle.std.proofs.Common.{◌≡◌, ℕ, Bool, true, false, cond, List, [], ◌∷◌, ◌++◌, length, length-append, Option, Some, None, Result, Ok, Err, refl, ap, sym, ◌∙◌, subst, inl, inr, ◌⊎◌, ⊎_elim, arith}
use Rattle.std.specs.Prelude.{is_ok, is_some}
use Rattle.std.proofs.lemmas.Bool.{false≢true}
use Rattle.jmount.specs.Tree.{ObjectOf, Tree, named, is_directory, is_there, has_bits, object, directory_bits}
use Rattle.jmount.specs.Find.{step_to, step, walk}
use Rattle.jmount.specs.declared.fault.FindFault.{FindFault}
use Rattle.jmount.specs.declared.fault.FindFault.TheVariants as find
use Rattle.jmount.proofs.PathLemmas.{walk-stops}
use Rattle.jmount.specs.Shape.{IsSingle, HasShape}

-- ---- names that lead from a number to another, the last of them first

pub Leads : {B : Type 0} → Tree B → ℕ → List (List ℕ) → ℕ → Type 0
Leads t from [] to = from ≡ to
Leads t from (name ∷ names) to = (last : ℕ) × (is_directory t last ≡ true) × (named t last name ≡ Some to) × Leads t from names last

pub leads_nowhere : {B : Type 0} (t : Tree B) (from to : ℕ) → Leads t from [] to → from ≡ to
unfolding Leads
leads_nowhere t from to h = h

pub leads_none : {B : Type 0} (t : Tree B) (i : ℕ) → Leads t i [] i
unfolding Leads
leads_none t i = refl

pub leads_more : {B : Type 0} (t : Tree B) (from last to : ℕ) (name : List ℕ) (names : List (List ℕ)) → Leads t from names last → is_directory t last ≡ true → named t last name ≡ Some to → Leads t from (name ∷ names) to
unfolding Leads
leads_more t from last to name names h d e = (last, d, e, h)

pub leads_on : {B : Type 0} (t : Tree B) (a b c : ℕ) (xs ys : List (List ℕ)) → Leads t a xs b → Leads t b ys c → Leads t a (ys ++ xs) c
unfolding Leads
leads_on t a b c xs [] h k = subst (Leads t a xs) k h
leads_on t a b c xs (y ∷ ys) h k = (k.0, k.1, k.2, leads_on t a b k.0 xs ys h k.3)

-- what leads somewhere begins at a directory
pub first_is_directory : {B : Type 0} (t : Tree B) (a b : ℕ) (n : List ℕ) (ns : List (List ℕ)) → Leads t a (n ∷ ns) b → is_directory t a ≡ true
unfolding Leads
first_is_directory t a b n [] h = subst (λ i. is_directory t i ≡ true) (sym h.3) h.1
first_is_directory t a b n (m ∷ ns) h = first_is_directory t a h.0 m ns h.3

first_entry : {B : Type 0} (t : Tree B) (a b : ℕ) (n : List ℕ) (ns : List (List ℕ)) → Leads t a (n ∷ ns) b → (m : List ℕ) × (c : ℕ) × (named t a m ≡ Some c)
unfolding Leads
first_entry t a b n [] h = (n, b, ap (λ i. named t i n) h.3 ∙ h.2)
first_entry t a b n (m ∷ ns) h = first_entry t a h.0 m ns h.3

-- no names lead on from where none stand
pub leads_to_itself : {B : Type 0} (t : Tree B) (a b : ℕ) (ns : List (List ℕ)) → ((n : List ℕ) (i : ℕ) → named t a n ≡ Some i → ⊥) → Leads t a ns b → a ≡ b
unfolding Leads
leads_to_itself t a b [] none h = h
leads_to_itself t a b (n ∷ ns) none h = let first = first_entry t a b n ns h in absurd (none first.0 first.1 first.2)

-- the last of some names
pub last_step : {B : Type 0} (t : Tree B) (a b : ℕ) (n : List ℕ) (ns : List (List ℕ)) → Leads t a (n ∷ ns) b → (last : ℕ) × (is_directory t last ≡ true) × (named t last n ≡ Some b) × Leads t a ns last
unfolding Leads
last_step t a b n ns h = h

-- ---- walks lead

pub step_leads : {B : Type 0} (t : Tree B) (d : Bool) (o : Option ℕ) (c : ℕ) → cond d (step_to t o) (Err find.NotDirectory) ≡ Ok c → (d ≡ true) × (o ≡ Some c)
step_leads t true None c e = absurd (false≢true (ap is_ok e))
step_leads t true (Some i) c e = (refl, by_there (is_there t i) e)
  where
    by_there : (b : Bool) → cond b (Ok i) (Err find.NotFound) ≡ Ok c → Some i ≡ Some c
    by_there true e = cc
    by_there false e = absurd (false≢true (ap is_ok e))
step_leads t false o c e = absurd (false≢true (ap is_ok e))

-- a walk that ends at a number took its first step
pub walk_begins : {B : Type 0} (t : Tree B) (names : List (List ℕ)) (r : Result ℕ FindFault) (b : ℕ) → walk t names r ≡ Ok b → (c : ℕ) × (r ≡ Ok c) × (walk t names (Ok c) ≡ Ok b)
walk_begins t names (Ok c) b e = (c, refl, e)
walk_begins t names (Err f) b e = absurd (false≢true (ap is_ok (sym (walk-stops t names f) ∙ e)))

pub record IsStep {B : Type 0} (t : Tree B) (a : ℕ) (name : List ℕ) (names : List (List ℕ)) (b : ℕ) : Type 0 where
  pub to : ℕ
  pub directory : is_directory t a ≡ true
  pub entry : named t a name ≡ Some to
  pub rest : walk t names (Ok to) ≡ Ok b

pub walk_step : {B : Type 0} (t : Tree B) (a : ℕ) (name : List ℕ) (names : List (List ℕ)) (b : ℕ) → walk t (name ∷ names) (Ok a) ≡ Ok b → IsStep t a name names b
walk_step t a name names b e =
    let begins = walk_begins t names (step t a name) b e in
    let led = step_leads t (is_directory t a) (named t a name) begins.0 begins.1 in
    record { to = begins.0; directory = led.0; entry = led.1; rest = begins.2 }

pub same_ok : (a b : ℕ) → ◌≡◌ {A = Result ℕ FindFault} (Ok a) (Ok b) → a ≡ b
same_ok a b e = cc

pub walk_leads : {B : Type 0} (t : Tree B) (names : List (List ℕ)) (a b : ℕ) → walk t names (Ok a) ≡ Ok b → (ns : List (List ℕ)) × (length ns ≡ length names) × Leads t a ns b
walk_leads t [] a b e = ([], refl, subst (Leads t a []) (same_ok a b e) (leads_none t a))
walk_leads t (name ∷ names) a b e =
    let s = walk_step t a name names b e in
    let more = walk_leads t names s.to b s.rest in
    let one = leads_more t a a s.to name [] (leads_none t a) s.directory s.entry in
    let long : length more.0 ≡ length names = more.1 in
    (more.0 ++ name ∷ [], simp length-append (omega arith), leads_on t a s.to b (name ∷ []) more.0 one more.2)

-- and what leads to what is there is walked
pub there_of_directory : {B : Type 0} (t : Tree B) (i : ℕ) → is_directory t i ≡ true → is_there t i ≡ true
there_of_directory {B} t i h = by_object (object t i) h
  where
    by_object : (o : Option (ObjectOf B)) → has_bits directory_bits o ≡ true → is_some o ≡ true
    by_object None h = absurd (false≢true h)
    by_object (Some o) h = refl

step_taken : {B : Type 0} (t : Tree B) (a b : ℕ) (name : List ℕ) → is_directory t a ≡ true → named t a name ≡ Some b → is_directory t b ≡ true → step t a name ≡ Ok b
step_taken t a b name d e there =
    ap (λ (x : Bool). cond x (step_to t (named t a name)) (Err find.NotDirectory)) d
    ∙ ap (step_to t) e
    ∙ ap (λ (x : Bool). cond x (Ok b) (Err find.NotFound)) (there_of_directory t b there)

walk-append : {B : Type 0} (t : Tree B) (xs ys : List (List ℕ)) (a b : ℕ) → walk t xs (Ok a) ≡ Ok b → walk t (xs ++ ys) (Ok a) ≡ walk t ys (Ok b)
walk-append t [] ys a b e = ap (walk t ys) e
walk-append t (x ∷ xs) ys a b e =
    let begins = walk_begins t xs (step t a x) b e in
    ap (walk t (xs ++ ys)) begins.1 ∙ walk-append t xs ys begins.0 b begins.2

pub leads_walk : {B : Type 0} (t : Tree B) (ns : List (List ℕ)) (a b : ℕ) → Leads t a ns b → is_directory t b ≡ true → (names : List (List ℕ)) × (length names ≡ length ns) × (walk t names (Ok a) ≡ Ok b)
unfolding Leads
leads_walk t [] a b h d = ([], refl, ap Ok h)
leads_walk t (n ∷ ns) a b h d =
    let before = leads_walk t ns a h.0 h.3 h.1 in
    let long : length before.0 ≡ length ns = before.1 in
    (before.0 ++ n ∷ [], simp length-append (omega arith), walk-append t before.0 (n ∷ []) a h.0 before.2 ∙ step_taken t h.0 b n h.1 h.2 d)

-- ---- the shape in these words

pub record IsShaped {B : Type 0} (t : Tree B) : Type 0 where
  pub single : IsSingle t
  pub no_loop : (i : ℕ) (n : List ℕ) (ns : List (List ℕ)) → Leads t i (n ∷ ns) i → ⊥

no_names : {X : Type 0} (xs : List X) → length xs ≡ 0 → xs ≡ []
no_names [] e = refl
no_names (x ∷ xs) e = absurd (omega arith)

pub shaped : {B : Type 0} (t : Tree B) → HasShape t → IsShaped t
shaped t has = record {
  single = has.single;
  no_loop = λ i n ns h.
      let walked = leads_walk t (n ∷ ns) i i h (first_is_directory t i i n ns h) in
      let none : length walked.0 ≡ 0 = ap length (has.no_loop i walked.0 walked.2) in
      let long : length walked.0 ≡ length (n ∷ ns) = walked.1 in
      absurd (omega arith);
}

loop_free : {B : Type 0} (t : Tree B) (i : ℕ) (ns : List (List ℕ)) → IsShaped t → Leads t i ns i → length ns ≡ 0
loop_free t i [] is h = refl
loop_free t i (n ∷ ns) is h = absurd (is.no_loop i n ns h)

pub has_shape : {B : Type 0} (t : Tree B) → IsShaped t → HasShape t
has_shape t is = record {
  single = is.single;
  no_loop = λ i names e.
      let led = walk_leads t names i i e in
      let none : length led.0 ≡ 0 = loop_free t i led.0 is led.2 in
      let long : length led.0 ≡ length names = led.1 in
      no_names names (omega arith);
}

-- ---- a tree with no further names of directories

pub record Follows {B : Type 0} (t u : Tree B) : Type 0 where
  pub entries : (d : ℕ) (n : List ℕ) (i : ℕ) → named u d n ≡ Some i → is_directory u i ≡ true → (named t d n ≡ Some i) × (is_directory t i ≡ true)

followed : {B : Type 0} (t u : Tree B) (a b : ℕ) (ns : List (List ℕ)) → Follows t u → is_directory t a ≡ true → Leads u a ns b → is_directory u b ≡ true → Leads t a ns b × (is_directory t b ≡ true)
unfolding Leads
followed t u a b [] is d h there = (h, subst (λ i. is_directory t i ≡ true) h d)
followed t u a b (n ∷ ns) is d h there =
    let before = followed t u a h.0 ns is d h.3 h.1 in
    let entry = is.entries h.0 n b h.2 there in
    ((h.0, before.1, entry.0, before.0), entry.1)

last_entry : {B : Type 0} (t u : Tree B) (a b : ℕ) (n : List ℕ) (ns : List (List ℕ)) → Follows t u → Leads u a (n ∷ ns) b → is_directory u b ≡ true → is_directory t b ≡ true
unfolding Leads
last_entry t u a b n ns is h there = (is.entries h.0 n b h.2 there).1

pub follows_keeps : {B : Type 0} (t u : Tree B) → Follows t u → IsShaped t → IsShaped u
follows_keeps t u is shape = record {
  single = λ a b m n i e f d other. let first = is.entries a m i e d in let second = is.entries b n i f d in shape.single a b m n i first.0 second.0 first.1 other;
  no_loop = λ i n ns h.
      let there = first_is_directory u i i n ns h in
      let before = last_entry t u i i n ns is h there in
      shape.no_loop i n ns (followed t u i i (n ∷ ns) is before h there).0;
}

-- ---- a tree with one further name of a directory

pub record GainsName {B : Type 0} (t u : Tree B) (dir : ℕ) (name : List ℕ) (i : ℕ) : Type 0 where
  pub directories : (k : ℕ) → is_directory u k ≡ is_directory t k
  pub entries : (d : ℕ) (n : List ℕ) (k : ℕ) → named u d n ≡ Some k → (named t d n ≡ Some k) ⊎ ((d ≡ dir) × (n ≡ name) × (k ≡ i))
  pub alone : (d : ℕ) (n : List ℕ) → named u d n ≡ Some i → (d ≡ dir) × (n ≡ name)
  pub apart : (ns : List (List ℕ)) → Leads t i ns dir → ⊥

-- what leads somewhere goes by the old names alone, or up to the directory of the new one and on from what it names
Splits : {B : Type 0} → Tree B → ℕ → ℕ → ℕ → List (List ℕ) → ℕ → Type 0
Splits t dir i a ns b = Leads t a ns b ⊎ ((xs : List (List ℕ)) × (ys : List (List ℕ)) × Leads t a ys dir × Leads t i xs b)

split : {B : Type 0} (t u : Tree B) (dir : ℕ) (name : List ℕ) (i a b : ℕ) (ns : List (List ℕ)) → GainsName t u dir name i → Leads u a ns b → Splits t dir i a ns b
unfolding Leads Splits
split t u dir name i a b [] is h = inl h
split t u dir name i a b (n ∷ ns) is h =
    let last = h.0 in
    let there : is_directory t last ≡ true = sym (is.directories last) ∙ h.1 in
    ⊎_elim
    (λ (old : named t last n ≡ Some b).
    ⊎_elim
    (λ (all : Leads t a ns last). inl (last, there, old, all))
    (λ (parts : (xs : List (List ℕ)) × (ys : List (List ℕ)) × Leads t a ys dir × Leads t i xs last).
    inr (n ∷ parts.0, parts.1, parts.2, (last, there, old, parts.3)))
    (split t u dir name i a last ns is h.3))
    (λ (new : (last ≡ dir) × (n ≡ name) × (b ≡ i)).
    ⊎_elim
    (λ (all : Leads t a ns last). inr ([], ns, subst (Leads t a ns) new.0 all, sym new.2))
    (λ (parts : (xs : List (List ℕ)) × (ys : List (List ℕ)) × Leads t a ys dir × Leads t i xs last).
    inr ([], parts.1, parts.2, sym new.2))
    (split t u dir name i a last ns is h.3))
    (is.entries last n b h.2)

pub gains_keeps : {B : Type 0} (t u : Tree B) (dir : ℕ) (name : List ℕ) (i : ℕ) → GainsName t u dir name i → IsShaped t → IsShaped u
unfolding Splits
gains_keeps t u dir name i is shape = record {
  single = λ a b m n k e f d other.
      ⊎_elim
      (λ (old : named t a m ≡ Some k).
      ⊎_elim
      (λ (older : named t b n ≡ Some k). shape.single a b m n k old older (sym (is.directories k) ∙ d) other)
      (λ (new : (b ≡ dir) × (n ≡ name) × (k ≡ i)). let first = is.alone a m (subst (λ k. named u a m ≡ Some k) new.2 e) in (first.0 ∙ sym new.0, first.1 ∙ sym new.1))
      (is.entries b n k f))
      (λ (new : (a ≡ dir) × (m ≡ name) × (k ≡ i)). let second = is.alone b n (subst (λ k. named u b n ≡ Some k) new.2 f) in (new.0 ∙ sym second.0, new.1 ∙ sym second.1))
      (is.entries a m k e);
  no_loop = λ k n ns h.
      ⊎_elim
      (λ (all : Leads t k (n ∷ ns) k). shape.no_loop k n ns all)
      (λ (parts : (xs : List (List ℕ)) × (ys : List (List ℕ)) × Leads t k ys dir × Leads t i xs k).
      is.apart (parts.1 ++ parts.0) (leads_on t i k dir parts.0 parts.1 parts.3 parts.2))
      (split t u dir name i k k (n ∷ ns) is h);
}
