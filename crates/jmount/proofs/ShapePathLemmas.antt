-- The shape of a file system is that of its outline, and under it one path at most leads to each directory.
use Rattle.std.proofs.Common.{◌≡◌, ◌≢◌, ℕ, true, List, [], ◌∷◌, reverse, Ok, refl, ap, sym, ◌∙◌, subst}
use Rattle.std.proofs.lemmas.List.{reverse-append, reverse-reverse}
use Rattle.jmount.specs.Tree.{Tree, is_directory}
use Rattle.jmount.specs.Find.{walk}
use Rattle.jmount.proofs.OutlineLemmas.{is_directory-outline, walk-outline}
use Rattle.jmount.specs.Laws as law
use Rattle.jmount.proofs.ShapeLemmas.{Leads, IsShaped, walk_step, leads_nowhere, leads_none, leads_more, leads_on, last_step, same_ok, shaped}

pub shape_is_of_outline : law.ShapeIsOfOutline
shape_is_of_outline s = (
  λ has. record {
    single = λ a b m n i e f d other. has.single a b m n i e f (is_directory-outline s i ∙ d) other;
    no_loop = λ i names e. has.no_loop i names (walk-outline s names (Ok i) ∙ e);
  },
  λ has. record {
    single = λ a b m n i e f d other. has.single a b m n i e f (sym (is_directory-outline s i) ∙ d) other;
    no_loop = λ i names e. has.no_loop i names (sym (walk-outline s names (Ok i)) ∙ e);
  },
)

leads_back : {B : Type 0} (t : Tree B) (names : List (List ℕ)) (a b : ℕ) → walk t names (Ok a) ≡ Ok b → Leads t a (reverse names) b
leads_back t [] a b e = subst (Leads t a []) (same_ok a b e) (leads_none t a)
leads_back t (name ∷ names) a b e =
    let s = walk_step t a name names b e in
    subst (λ ns. Leads t a ns b) (sym (reverse-append (name ∷ []) names))
    (leads_on t a s.to b (name ∷ []) (reverse names) (leads_more t a a s.to name [] (leads_none t a) s.directory s.entry) (leads_back t names s.to b s.rest))

one_way : {B : Type 0} (t : Tree B) (i : ℕ) (xs ys : List (List ℕ)) → IsShaped t → Leads t 1 xs i → Leads t 1 ys i → is_directory t i ≡ true → xs ≡ ys
one_way t i [] [] shape h k there = refl
one_way t i [] (y ∷ ys) shape h k there = absurd (shape.no_loop 1 y ys (subst (Leads t 1 (y ∷ ys)) (sym (leads_nowhere t 1 i h)) k))
one_way t i (x ∷ xs) [] shape h k there = absurd (shape.no_loop 1 x xs (subst (Leads t 1 (x ∷ xs)) (sym (leads_nowhere t 1 i k)) h))
one_way t i (x ∷ xs) (y ∷ ys) shape h k there =
    let a = last_step t 1 i x xs h in
    let b = last_step t 1 i y ys k in
    let other : i ≢ 1 = λ is. shape.no_loop 1 x xs (subst (Leads t 1 (x ∷ xs)) is h) in
    let one = shape.single a.0 b.0 x y i a.2 b.2 there other in
    let rest = one_way t a.0 xs ys shape a.3 (subst (Leads t 1 ys) (sym one.0) b.3) a.1 in
    ap (λ n. n ∷ xs) one.1 ∙ ap (λ ns. y ∷ ns) rest

pub one_path_to_each : law.OnePathToEach
one_path_to_each s a b i has e f there =
    let back = one_way s i (reverse a) (reverse b) (shaped s has) (leads_back s a 1 i e) (leads_back s b 1 i f) there in
    sym (reverse-reverse a) ∙ ap reverse back ∙ reverse-reverse b
