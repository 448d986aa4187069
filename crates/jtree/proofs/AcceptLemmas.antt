-- Operations that are accepted, by where their paths lead.
use Rattle.std.proofs.Common.{◌≡◌, ◌≢◌, ℕ, ◌<◌, ◌≤◌, Bool, true, false, cond, List, [], ◌∷◌, length, Option, Some, None, Result, Ok, Err, refl, ap, ◌∙◌, arith}
use Rattle.std.specs.Prelude.{◌||◌, ◌&&◌, not, nat_lt, ◌==◌, is_some, option_and_then, All}
use Rattle.std.specs.List.{list_any, AllByRecursion}
use Rattle.std.proofs.lemmas.Bool.{ne_eqb}
use Rattle.std.proofs.lemmas.List.Elements.{All-head, All-tail}
use Rattle.jmount.specs.Tree.{ObjectOf, Outline, object, named, has_bits, directory_bits, regular_bits}
use Rattle.jmount.specs.declared.fault.FindFault.{FindFault}
use Rattle.jsteps.specs.Nodes.{Indexed}
use Rattle.jsteps.specs.Planning.{make_steps, steps_of}
use Rattle.jsteps.specs.Refusals.{paths, has_bad_path, is_bad_path, is_long, is_not_found, meets_nothing, meets_other, is_taken, is_wrong_kind, is_not_empty, is_into_itself, is_too_large, is_bad_mode, is_bad_target, is_exhausted, greatest_size, refusals, unless_refused, planned_by}
use Rattle.jsteps.specs.Where.{above, is_missing, ends_in_directory, last_name, number_there, end_or_zero}
use Rattle.jsteps.specs.declared.fault.OpFault.{OpFault}
use Rattle.jsteps.specs.declared.device.DeviceKind.{DeviceKind}
use Rattle.jsteps.specs.declared.op.Op.{Op}
use Rattle.jsteps.specs.declared.op.Op.TheVariants as op
use Rattle.jsteps.specs.declared.step.Step.{Step}
use Rattle.jsteps.specs.declared.step.Step.TheVariants as step
use Rattle.jtree.proofs.CountLemmas.{not_above}
use Rattle.jtree.proofs.WayLemmas.{IsPlaced}

none_refused : {X : Type 0} (rs : List (Bool × OpFault)) (answer : X) → AllByRecursion (λ r. r.0 ≡ false) rs → unless_refused rs answer ≡ Ok answer
none_refused [] answer none = refl
none_refused {X} (r ∷ rs) answer none = ap (λ (b : Bool). cond b (Err r.1) (unless_refused rs answer)) none.0 ∙ none_refused rs answer none.1

pub record IsFree (page : ℕ) (x : Indexed) (o : Op) : Type 0 where
  pub bad : has_bad_path o ≡ false
  pub long : list_any is_long (paths o) ≡ false
  pub found : is_not_found x.tree o ≡ false
  pub directory : list_any (λ path. meets_other x.tree (above x.tree path)) (paths o) ≡ false
  pub fresh : is_taken x.tree o ≡ false
  pub kind : is_wrong_kind x.tree o ≡ false
  pub empty : is_not_empty x.tree o ≡ false
  pub into : is_into_itself x.tree o ≡ false
  pub large : is_too_large o ≡ false
  pub mode : is_bad_mode o ≡ false
  pub link : is_bad_target o ≡ false

-- the steps of an operation that nothing refuses, given what they are
pub accept : (page : ℕ) (x : Indexed) (o : Op) (steps : List Step) → IsFree page x o → steps_of page x.tree o ≡ steps → is_exhausted page x o ≡ false
    → planned_by page x o ≡ Ok steps
unfolding planned_by
accept page x o steps f are room =
    none_refused (refusals page x o) (steps_of page x.tree o)
    (f.bad, (f.long, (f.found, (f.directory, (f.fresh, (f.kind, (f.empty, (f.into, (f.large, (f.mode, (f.link, (room, tt))))))))))))
    ∙ ap Ok are

-- ---- a new object

made_found : (t : Outline) (path : List ℕ) (dir : ℕ) (name : List ℕ) → IsPlaced t path dir name
    → ((meets_nothing (above t path) || false) || false || false) ≡ false
made_found t path dir name p = ap (λ (r : Result ℕ FindFault). (meets_nothing r || false) || false || false) p.above_is

made_directory : (t : Outline) (path : List ℕ) (dir : ℕ) (name : List ℕ) → IsPlaced t path dir name → (meets_other t (above t path) || false) ≡ false
made_directory t path dir name p = ap (λ (r : Result ℕ FindFault). meets_other t r || false) p.above_is ∙ ap (λ b. not b || false) p.directory

made_fresh : (t : Outline) (path : List ℕ) (dir : ℕ) (name : List ℕ) → IsPlaced t path dir name → named t dir name ≡ None
    → (is_some (number_there t path) || false) ≡ false
made_fresh t path dir name p none = ap (λ (o : Option ℕ). is_some o || false) (p.number ∙ none)

pub mkdir_free : (page : ℕ) (x : Indexed) (time : ℕ) (path : List ℕ) (mode uid gid dir : ℕ) (name : List ℕ) → IsPlaced x.tree path dir name
    → named x.tree dir name ≡ None
    → mode ≤ 0o7777 → IsFree page x (op.Mkdir time path mode uid gid)
mkdir_free page x time path mode uid gid dir name p none fits = record {
  bad = ap (λ b. b || false) p.good;
  long = ap (λ b. b || false) p.short;
  found = made_found x.tree path dir name p;
  directory = made_directory x.tree path dir name p;
  fresh = made_fresh x.tree path dir name p none;
  kind = refl;
  empty = refl;
  into = refl;
  large = refl;
  mode = not_above 0o7777 mode fits;
  link = refl;
}

pub file_free : (page : ℕ) (x : Indexed) (time : ℕ) (path : List ℕ) (mode uid gid : ℕ) (bytes : List ℕ) (dir : ℕ) (name : List ℕ) → IsPlaced x.tree path dir name
    → named x.tree dir name ≡ None
    → mode ≤ 0o7777 → length bytes ≤ 2147483647 → IsFree page x (op.File time path mode uid gid bytes)
file_free page x time path mode uid gid bytes dir name p none fits short = record {
  bad = ap (λ b. b || false) p.good;
  long = ap (λ b. b || false) p.short;
  found = made_found x.tree path dir name p;
  directory = made_directory x.tree path dir name p;
  fresh = made_fresh x.tree path dir name p none;
  kind = refl;
  empty = refl;
  into = refl;
  large = not_above greatest_size (length bytes) short;
  mode = not_above 0o7777 mode fits;
  link = refl;
}

pub device_free : (page : ℕ) (x : Indexed) (time : ℕ) (path : List ℕ) (kind : DeviceKind) (mode uid gid : ℕ) (number : List ℕ) (dir : ℕ) (name : List ℕ) → IsPlaced x.tree path dir name
    → named x.tree dir name ≡ None
    → mode ≤ 0o7777 → IsFree page x (op.Device time path kind mode uid gid number)
device_free page x time path kind mode uid gid number dir name p none fits = record {
  bad = ap (λ b. b || false) p.good;
  long = ap (λ b. b || false) p.short;
  found = made_found x.tree path dir name p;
  directory = made_directory x.tree path dir name p;
  fresh = made_fresh x.tree path dir name p none;
  kind = refl;
  empty = refl;
  into = refl;
  large = refl;
  mode = not_above 0o7777 mode fits;
  link = refl;
}

pub fifo_free : (page : ℕ) (x : Indexed) (time : ℕ) (path : List ℕ) (mode uid gid dir : ℕ) (name : List ℕ) → IsPlaced x.tree path dir name
    → named x.tree dir name ≡ None
    → mode ≤ 0o7777 → IsFree page x (op.Fifo time path mode uid gid)
fifo_free page x time path mode uid gid dir name p none fits = record {
  bad = ap (λ b. b || false) p.good;
  long = ap (λ b. b || false) p.short;
  found = made_found x.tree path dir name p;
  directory = made_directory x.tree path dir name p;
  fresh = made_fresh x.tree path dir name p none;
  kind = refl;
  empty = refl;
  into = refl;
  large = refl;
  mode = not_above 0o7777 mode fits;
  link = refl;
}

pub socket_free : (page : ℕ) (x : Indexed) (time : ℕ) (path : List ℕ) (mode uid gid dir : ℕ) (name : List ℕ) → IsPlaced x.tree path dir name
    → named x.tree dir name ≡ None
    → mode ≤ 0o7777 → IsFree page x (op.Socket time path mode uid gid)
socket_free page x time path mode uid gid dir name p none fits = record {
  bad = ap (λ b. b || false) p.good;
  long = ap (λ b. b || false) p.short;
  found = made_found x.tree path dir name p;
  directory = made_directory x.tree path dir name p;
  fresh = made_fresh x.tree path dir name p none;
  kind = refl;
  empty = refl;
  into = refl;
  large = refl;
  mode = not_above 0o7777 mode fits;
  link = refl;
}

no_zero : (target : List ℕ) → All (λ b. b ≢ 0) target → list_any (λ b. b == 0) target ≡ false
no_zero [] all = refl
no_zero (b ∷ target) all =
    ap (λ z. z || list_any (λ b. b == 0) target) (ne_eqb b 0 (All-head (λ b. b ≢ 0) b target all)) ∙ no_zero target (All-tail (λ b. b ≢ 0) b target all)

pub symlink_free : (page : ℕ) (x : Indexed) (time : ℕ) (path target : List ℕ) (uid gid dir : ℕ) (name : List ℕ) → IsPlaced x.tree path dir name
    → named x.tree dir name ≡ None
    → 0 < length target → length target ≤ 4095 → All (λ b. b ≢ 0) target → IsFree page x (op.Symlink time path target uid gid)
symlink_free page x time path target uid gid dir name p none some few all = record {
  bad = ap (λ b. b || false) p.good;
  long = ap (λ b. b || false) p.short;
  found = made_found x.tree path dir name p;
  directory = made_directory x.tree path dir name p;
  fresh = made_fresh x.tree path dir name p none;
  kind = refl;
  empty = refl;
  into = refl;
  large = refl;
  mode = refl;
  link = ap (λ b. b || nat_lt 4095 (length target) || list_any (λ b. b == 0) target) (ne_eqb (length target) 0 (λ e. omega arith))
      ∙ ap (λ b. b || list_any (λ b. b == 0) target) (not_above 4095 (length target) few) ∙ no_zero target all;
}

pub make_steps_are : (t : Outline) (time : ℕ) (path : List ℕ) (mode uid gid : ℕ) (bytes : List ℕ) (dir : ℕ) (name : List ℕ) → IsPlaced t path dir name
    → make_steps t time path mode uid gid bytes ≡ step.MakeObject time mode uid gid bytes ∷ step.SetName time dir name t.next ∷ []
make_steps_are t time path mode uid gid bytes dir name p =
    ap (λ (r : Result ℕ FindFault). step.MakeObject time mode uid gid bytes ∷ step.SetName time (end_or_zero r) (last_name path) t.next ∷ []) p.above_is
    ∙ ap (λ n. step.MakeObject time mode uid gid bytes ∷ step.SetName time dir n t.next ∷ []) p.last

-- ---- a further name of a regular file that is there

pub record IsFile (t : Outline) (dir : ℕ) (name : List ℕ) (ino : ℕ) (o : ObjectOf ℕ) : Type 0 where
  pub number : named t dir name ≡ Some ino
  pub there : object t ino ≡ Some o
  pub regular : has_bits regular_bits (Some o) ≡ true
  pub plain : has_bits directory_bits (Some o) ≡ false

pub named_object : (t : Outline) (path : List ℕ) (dir : ℕ) (name : List ℕ) (ino : ℕ) (o : ObjectOf ℕ) → IsPlaced t path dir name → IsFile t dir name ino o
    → option_and_then (object t) (number_there t path) ≡ Some o
named_object t path dir name ino o p f = ap (option_and_then (object t)) (p.number ∙ f.number) ∙ f.there

pub and_false : (b : Bool) → (b && false) ≡ false
and_false true = refl
and_false false = refl

not_missing : (t : Outline) (path : List ℕ) (o : ObjectOf ℕ) → option_and_then (object t) (number_there t path) ≡ Some o → is_missing t path ≡ false
not_missing t path o there = ap (λ (ob : Option (ObjectOf ℕ)). ends_in_directory t (above t path) && not (is_some ob)) there ∙ and_false
    (ends_in_directory t (above t path))

pub link_free : (page : ℕ) (x : Indexed) (time : ℕ) (old new : List ℕ) (dir : ℕ) (name : List ℕ) (ino : ℕ) (o : ObjectOf ℕ) (to : ℕ) (last : List ℕ)
    → IsPlaced x.tree old dir name → IsFile x.tree dir name ino o → IsPlaced x.tree new to last → named x.tree to last ≡ None
    → IsFree page x (op.Link time old new)
link_free page x time old new dir name ino o to last p f q none =
    let t = x.tree in
    let there = named_object t old dir name ino o p f in
    record {
      bad = ap (λ b. b || (is_bad_path new || false)) p.good ∙ ap (λ b. b || false) q.good;
      long = ap (λ b. b || (is_long new || false)) p.short ∙ ap (λ b. b || false) q.short;
      found = ap (λ (r : Result ℕ FindFault). ((meets_nothing r || (meets_nothing (above t new) || false)) || (is_missing t old || false)) || false) p.above_is
          ∙ ap (λ (r : Result ℕ FindFault). ((meets_nothing r || false) || (is_missing t old || false)) || false) q.above_is
          ∙ ap (λ b. (b || false) || false) (not_missing t old o there);
      directory = ap (λ (r : Result ℕ FindFault). meets_other t r || (meets_other t (above t new) || false)) p.above_is
          ∙ ap (λ b. not b || (meets_other t (above t new) || false)) p.directory
          ∙ made_directory t new to last q;
      fresh = made_fresh t new to last q none;
      kind = ap (has_bits directory_bits) there ∙ f.plain;
      empty = refl;
      into = refl;
      large = refl;
      mode = refl;
      link = refl;
    }
