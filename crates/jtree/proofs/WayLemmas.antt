-- Walks by their last step, and what a tree that grows keeps of them.
use Rattle.std.proofs.Common.{◌≡◌, ℕ, Bool, true, false, cond, List, [], ◌∷◌, ◌++◌, length, length-append, Option, Some, None, Ok, Err, refl, ap, sym, ◌∙◌, arith}
use Rattle.std.specs.Prelude.{is_ok, nat_lt, ◌||◌, ◌==◌}
use Rattle.std.specs.List.{list_any}
use Rattle.std.proofs.lemmas.Bool.{false≢true, or_parts, ne_eqb}
use Rattle.jmount.specs.Tree.{Tree, Outline, named, is_directory, is_there}
use Rattle.jmount.specs.Find.{IsPath, path_names, step_to, step, walk}
use Rattle.jmount.specs.declared.fault.FindFault.TheVariants as find
use Rattle.jmount.proofs.PathNameLemmas.{path_names_exactly}
use Rattle.jmount.proofs.ShapeLemmas.{walk_begins, step_leads, same_ok}
use Rattle.jsteps.specs.Where.{all_but_last, last_of, names_on_path, last_name, above, number_there, named_there}
use Rattle.jsteps.specs.Refusals.{is_bad_path, is_long}
use Rattle.jsteps.proofs.SiteLemmas.{all_but_last-push, last_of-push}
use Rattle.std.specs.Prelude.{unwrap_or}

-- ---- one step

pub record Steps {B : Type 0} (t : Tree B) (from : ℕ) (name : List ℕ) (to : ℕ) : Type 0 where
  pub directory : is_directory t from ≡ true
  pub entry : named t from name ≡ Some to
  pub there : is_there t to ≡ true

step_there : {B : Type 0} (t : Tree B) (d : Bool) (o : Option ℕ) (c : ℕ) → cond d (step_to t o) (Err find.NotDirectory) ≡ Ok c → is_there t c ≡ true
step_there t true None c e = absurd (false≢true (ap is_ok e))
step_there t true (Some i) c e = by_there (is_there t i) refl e
  where
    by_there : (b : Bool) → is_there t i ≡ b → cond b (Ok i) (Err find.NotFound) ≡ Ok c → is_there t c ≡ true
    by_there true is e = ap (is_there t) (sym (same_ok i c e)) ∙ is
    by_there false is e = absurd (false≢true (ap is_ok e))
step_there t false o c e = absurd (false≢true (ap is_ok e))

pub step_is : {B : Type 0} (t : Tree B) (from : ℕ) (name : List ℕ) (to : ℕ) → step t from name ≡ Ok to → Steps t from name to
step_is t from name to e =
    let led = step_leads t (is_directory t from) (named t from name) to e in
    record { directory = led.0; entry = led.1; there = step_there t (is_directory t from) (named t from name) to e }

pub step_of : {B : Type 0} (t : Tree B) (from : ℕ) (name : List ℕ) (to : ℕ) → Steps t from name to → step t from name ≡ Ok to
step_of t from name to is =
    ap (λ (b : Bool). cond b (step_to t (named t from name)) (Err find.NotDirectory)) is.directory
    ∙ ap (step_to t) is.entry
    ∙ ap (λ (b : Bool). cond b (Ok to) (Err find.NotFound)) is.there

-- ---- the last step of a walk

pub record LastStep {B : Type 0} (t : Tree B) (way : List (List ℕ)) (name : List ℕ) (from to : ℕ) : Type 0 where
  pub dir : ℕ
  pub leads : walk t way (Ok from) ≡ Ok dir
  pub steps : Steps t dir name to

pub walk_last : {B : Type 0} (t : Tree B) (way : List (List ℕ)) (name : List ℕ) (from to : ℕ) → walk t (way ++ name ∷ []) (Ok from) ≡ Ok to
    → LastStep t way name from to
walk_last t [] name from to e = record { dir = from; leads = refl; steps = step_is t from name to e }
walk_last t (first ∷ way) name from to e =
    let begins = walk_begins t (way ++ name ∷ []) (step t from first) to e in
    let rest = walk_last t way name begins.0 to begins.2 in
    record { dir = rest.dir; leads = ap (walk t way) begins.1 ∙ rest.leads; steps = rest.steps }

pub walk_push : {B : Type 0} (t : Tree B) (way : List (List ℕ)) (name : List ℕ) (from dir to : ℕ) → walk t way (Ok from) ≡ Ok dir → Steps t dir name to
    → walk t (way ++ name ∷ []) (Ok from) ≡ Ok to
walk_push t [] name from dir to e is = ap (λ i. step t i name) (same_ok from dir e) ∙ step_of t dir name to is
walk_push t (first ∷ way) name from dir to e is =
    let begins = walk_begins t way (step t from first) dir e in
    ap (walk t (way ++ name ∷ [])) begins.1 ∙ walk_push t way name begins.0 dir to begins.2 is

-- ---- a tree that grows

pub record Extends {B : Type 0} (s t : Tree B) : Type 0 where
  pub directories : (i : ℕ) → is_directory s i ≡ true → is_directory t i ≡ true
  pub there : (i : ℕ) → is_there s i ≡ true → is_there t i ≡ true
  pub names : (dir : ℕ) (name : List ℕ) (i : ℕ) → named s dir name ≡ Some i → named t dir name ≡ Some i

pub walk_extends : {B : Type 0} (s t : Tree B) (names : List (List ℕ)) (from to : ℕ) → Extends s t → walk s names (Ok from) ≡ Ok to
    → walk t names (Ok from) ≡ Ok to
walk_extends s t [] from to grows e = e
walk_extends s t (name ∷ names) from to grows e =
    let begins = walk_begins s names (step s from name) to e in
    let one = step_is s from name begins.0 begins.1 in
    ap (walk t names) (step_of t from name begins.0
    (record {
      directory = grows.directories from one.directory;
      entry = grows.names from name begins.0 one.entry;
      there = grows.there begins.0 one.there;
    }))
    ∙ walk_extends s t names begins.0 to grows begins.2

-- ---- paths

pub path_is : (path : List ℕ) (names : List (List ℕ)) → IsPath path names → path_names path ≡ Some names
path_is path names is = (path_names_exactly path names).1 is

pub same_names : (path : List ℕ) (xs ys : List (List ℕ)) → IsPath path xs → IsPath path ys → xs ≡ ys
same_names path xs ys is_x is_y = let both : Some xs ≡ Some ys = sym (path_is path xs is_x) ∙ path_is path ys is_y in cc

-- one of the names is longer than a name may be
abbrev pub has_long : List (List ℕ) → Bool
has_long names = list_any (λ name. nat_lt 254 (length name)) names

pub long_push : (way : List (List ℕ)) (name : List ℕ) → has_long way ≡ false → nat_lt 254 (length name) ≡ false → has_long (way ++ name ∷ []) ≡ false
long_push [] name none short = ap (λ b. b || false) short
long_push (first ∷ way) name none short =
    let parts = or_parts (nat_lt 254 (length first)) (has_long way) none in
    ap (λ b. b || has_long (way ++ name ∷ [])) parts.0 ∙ long_push way name parts.1 short

-- where a path leads that has a last name
pub record IsPlaced (t : Outline) (path : List ℕ) (dir : ℕ) (name : List ℕ) : Type 0 where
  pub good : is_bad_path path ≡ false
  pub short : is_long path ≡ false
  pub above_is : above t path ≡ Ok dir
  pub directory : is_directory t dir ≡ true
  pub last : last_name path ≡ name
  pub number : number_there t path ≡ named t dir name

some_push : (way : List (List ℕ)) (name : List ℕ) → (length (way ++ name ∷ []) == 0) ≡ false
some_push way name = ne_eqb (length (way ++ name ∷ [])) 0 (λ e. omega (arith, length-append way (name ∷ [])))

pub placed : (t : Outline) (path : List ℕ) (way : List (List ℕ)) (name : List ℕ) (dir : ℕ) → IsPath path (way ++ name ∷ [])
    → has_long (way ++ name ∷ []) ≡ false
    → walk t way (Ok 1) ≡ Ok dir → is_directory t dir ≡ true → IsPlaced t path dir name
placed t path way name dir is short leads there =
    let names : names_on_path path ≡ way ++ name ∷ [] = ap (λ (o : Option (List (List ℕ))). unwrap_or o []) (path_is path (way ++ name ∷ []) is) in
    let above_it : above t path ≡ Ok dir = ap (λ ns. walk t (all_but_last ns) (Ok 1)) names ∙ ap (λ ns. walk t ns (Ok 1)) (all_but_last-push way name) ∙
    leads in
    let last : last_name path ≡ name = ap last_of names ∙ last_of-push way name in
    record {
      good = ap (λ ns. length ns == 0) names ∙ some_push way name;
      short = ap has_long names ∙ short;
      above_is = above_it;
      directory = there;
      last = last;
      number = ap (λ r. named_there t r (last_name path)) above_it ∙ ap (named t dir) last;
    }
