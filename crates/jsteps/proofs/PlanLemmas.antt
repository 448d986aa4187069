-- The steps of a plan are ready one after the other, and their nodes can be written.
use Rattle.std.proofs.Common.{◌≡◌, ℕ, ◌+◌, ◌-◌, ◌<◌, ◌≤◌, Bool, true, false, cond, List, [], ◌∷◌, length, take, drop, length-take, length-drop, Some, None, Result, Ok, Err, refl, ap, sym, ◌∙◌, subst, arith}
use Rattle.std.specs.Prelude.{◌&&◌, ◌||◌, not, is_some, is_ok, unwrap_or, option_map, min, nat_lt, ◌==◌}
use Rattle.std.specs.List.{list_any, AllByRecursion}
use Rattle.std.specs.Ordering.{eq_by_cmp, nat_cmp}
use Rattle.std.specs.Cmp.{nat_cmp_total}
use Rattle.std.specs.FinMap.{get, get-insert}
use Rattle.std.proofs.lemmas.Bool.{cond-true, cond_both, eqb-true, eqb-false, or_parts, ltb-false, lt-ltb, true≢false, false≢true}
use Rattle.flashbase.specs.Ranges.{IsHalf, IsWord}
use Rattle.jmount.specs.Tree.{ObjectOf, Outline, object, is_device, has_bits, directory_bits, regular_bits}
use Rattle.jsteps.specs.Device.{device_mode}
use Rattle.jsteps.specs.Steps.{own_bytes}
use Rattle.jsteps.specs.Nodes.{Indexed, object_at, advanced, advanced_all}
use Rattle.jsteps.specs.Ready.{has_device}
use Rattle.jscan.specs.Pages.{IsPage}
use Rattle.jsteps.specs.Planning.{plain_page, spelling_len, first_len, size_named, write_steps, make_steps, bytes_steps, file_steps, move_steps, steps_of}
use Rattle.jsteps.specs.Refusals.{paths, has_bad_path, is_bad_path, is_long, is_not_found, meets_nothing, meets_other, is_wrong_kind, takes_attributes, is_into_itself, is_too_large, is_bad_mode, is_bad_target, greatest_size, is_exhausted, refusals, unless_refused, planned_by}
use Rattle.jsteps.specs.Where.{last_name, above, parent, ends_in_directory, number_there, number_or_zero, object_named, object_reached, is_missing, is_unnamed, number_reached, is_unreached, is_one_entry}
use Rattle.jsteps.specs.Laws as law
use Rattle.jsteps.specs.Laws.{IsConsistent, GivenFit, OpFits}
use Rattle.jsteps.specs.declared.fault.OpFault.{OpFault}
use Rattle.jsteps.specs.declared.op.Attributes.{Attributes}
use Rattle.jsteps.specs.declared.op.Op.{Op}
use Rattle.jsteps.specs.declared.op.Op.TheVariants as op
use Rattle.jsteps.specs.declared.step.Step.{Step}
use Rattle.jsteps.specs.declared.step.Step.TheVariants as step
use Rattle.jsteps.proofs.IndexLemmas.{with_some}
use Rattle.jsteps.proofs.OwnLemmas.{own_short, own_of, regular_is_plain, device_mode_small, is_plain, reached_plain}
use Rattle.jsteps.proofs.ConsistentLemmas.{StepFits, root_below}
use Rattle.jsteps.proofs.WhereLemmas.{HasLength, IsParent, IsTarget, last_name_length, bits_there, parent_is, target_is, not_missing, reached_is}
use Rattle.jsteps.proofs.WrittenLemmas.{IsPiece}
use Rattle.jsteps.proofs.ShapeStepLemmas.{still_some, objects_left, write_on_object, tree_advanced}
use Rattle.jsteps.proofs.TakenLemmas.{IsFine, Shaped, AllFine, AllTaken, AllFine-none, AllFine-one, AllFine-two, AllFine-more, AllFine-append, all_taken, taken_ready, taken_room, taken_written, taken_keeps_all, object_fits}
use Rattle.jsteps.proofs.PutsLemmas.{HasSize, itself, resize_fine, write_fine}

-- ---- what is not refused

one_not : {X : Type 0} (b : Bool) (f : OpFault) (rest : Result X OpFault) (steps : X) → cond b (Err f) rest ≡ Ok steps → (b ≡ false) × (rest ≡ Ok steps)
one_not true f rest steps e = absurd (false≢true (ap is_ok e))
one_not false f rest steps e = (refl, e)

same_ok : {X : Type 0} (a b : X) → ◌≡◌ {A = Result X OpFault} (Ok a) (Ok b) → a ≡ b
same_ok a b e = cc

none_applies : {X : Type 0} (rs : List (Bool × OpFault)) (answer steps : X) → unless_refused rs answer ≡ Ok steps → AllByRecursion (λ r. r.0 ≡ false) rs × (answer ≡ steps)
none_applies [] answer steps e = (tt, same_ok answer steps e)
none_applies (r ∷ rs) answer steps e =
    let here = one_not r.0 r.1 (unless_refused rs answer) steps e in
    let rest = none_applies rs answer steps here.1 in
    ((here.0, rest.0), rest.1)

-- what is known of an operation that is planned
pub record IsAccepted (page : ℕ) (x : Indexed) (o : Op) (steps : List Step) : Type 0 where
  pub bad : has_bad_path o ≡ false
  pub long : list_any is_long (paths o) ≡ false
  pub found : is_not_found x.tree o ≡ false
  pub directory : list_any (λ path. meets_other x.tree (above x.tree path)) (paths o) ≡ false
  pub kind : is_wrong_kind x.tree o ≡ false
  pub into : is_into_itself x.tree o ≡ false
  pub large : is_too_large o ≡ false
  pub mode : is_bad_mode o ≡ false
  pub link : is_bad_target o ≡ false
  pub room : is_exhausted page x o ≡ false
  pub steps_are : steps_of page x.tree o ≡ steps

pub accepted : (page : ℕ) (x : Indexed) (o : Op) (steps : List Step) → planned_by page x o ≡ Ok steps → IsAccepted page x o steps
unfolding planned_by
accepted page x o steps e =
    let all = none_applies (refusals page x o) (steps_of page x.tree o) steps e in
    let f = all.0 in
    record {
      bad = f.0;
      long = f.1.0;
      found = f.1.1.0;
      directory = f.1.1.1.0;
      kind = f.1.1.1.1.1.0;
      into = f.1.1.1.1.1.1.1.0;
      large = f.1.1.1.1.1.1.1.1.0;
      mode = f.1.1.1.1.1.1.1.1.1.0;
      link = f.1.1.1.1.1.1.1.1.1.1.0;
      room = f.1.1.1.1.1.1.1.1.1.1.1.0;
      steps_are = all.1;
    }

pub one_false : (b : Bool) → (b || false) ≡ false → b ≡ false
one_false b h = (or_parts b false h).0

pub two_false : (a b : Bool) → (a || (b || false)) ≡ false → (a ≡ false) × (b ≡ false)
two_false a b h = let parts = or_parts a (b || false) h in (parts.0, one_false b parts.1)

pub three_false : (a b c : Bool) → (a || b || c) ≡ false → (a ≡ false) × (b ≡ false) × (c ≡ false)
three_false true b c h = absurd (true≢false h)
three_false false true c h = absurd (true≢false h)
three_false false false c h = (refl, refl, h)

-- ---- paths that lead somewhere

pub record IsLed (x : Indexed) (path : List ℕ) : Type 0 where
  pub name : HasLength (last_name path)
  pub parent_there : IsParent x.tree (parent x.tree path)
  pub ends : ends_in_directory x.tree (above x.tree path) ≡ true

pub led : (x : Indexed) (path : List ℕ) → IsConsistent x → is_bad_path path ≡ false → is_long path ≡ false → meets_nothing (above x.tree path) ≡ false → meets_other x.tree (above x.tree path) ≡ false
    → IsLed x path
led x path same bad long found directory =
    let above_it = parent_is x path same found directory in
    record { name = last_name_length path bad long; parent_there = above_it.0; ends = above_it.1 }

pub targeted : (x : Indexed) (path : List ℕ) → IsConsistent x → IsLed x path → is_missing x.tree path ≡ false → IsTarget x path
targeted x path same is_led there = target_is x path same (not_missing x.tree path is_led.ends there)

-- the path that an operation has alone, and that nothing else is found to be amiss
pub led_alone : (x : Indexed) (path : List ℕ) (amiss more : Bool) → IsConsistent x → (is_bad_path path || false) ≡ false → (is_long path || false) ≡ false
    → ((meets_nothing (above x.tree path) || false) || amiss || more) ≡ false → (meets_other x.tree (above x.tree path) || false) ≡ false → IsLed x path × (amiss ≡ false)
led_alone x path amiss more same bad long found directory =
    let parts = three_false (meets_nothing (above x.tree path) || false) amiss more found in (
      led x path same (one_false (is_bad_path path) bad) (one_false (is_long path) long) (one_false (meets_nothing (above x.tree path)) parts.0)
          (one_false (meets_other x.tree (above x.tree path)) directory),
      parts.1,
    )

-- the two that it has, the first of which names something
pub led_both : (x : Indexed) (old new : List ℕ) → IsConsistent x → (is_bad_path old || (is_bad_path new || false)) ≡ false → (is_long old || (is_long new || false)) ≡ false
    → ((meets_nothing (above x.tree old) || (meets_nothing (above x.tree new) || false)) || (is_missing x.tree old || false) || false) ≡ false
    → (meets_other x.tree (above x.tree old) || (meets_other x.tree (above x.tree new) || false)) ≡ false → IsLed x old × IsLed x new × IsTarget x old
led_both x old new same is_bad is_long_one is_found directory =
    let found = three_false (meets_nothing (above x.tree old) || (meets_nothing (above x.tree new) || false)) (is_missing x.tree old || false) false is_found in
    let bad = two_false (is_bad_path old) (is_bad_path new) is_bad in
    let long = two_false (is_long old) (is_long new) is_long_one in
    let nothing = two_false (meets_nothing (above x.tree old)) (meets_nothing (above x.tree new)) found.0 in
    let other = two_false (meets_other x.tree (above x.tree old)) (meets_other x.tree (above x.tree new)) directory in
    let led_old = led x old same bad.0 long.0 nothing.0 other.0 in
    (led_old, led x new same bad.1 long.1 nothing.1 other.1, targeted x old same led_old (one_false (is_missing x.tree old) found.1))

is_not_false : (b : Bool) → not b ≡ false → b ≡ true
is_not_false true h = refl
is_not_false false h = absurd (true≢false h)

-- the size of a regular file that is named
abbrev is_wrong_kind_at : Indexed → List ℕ → Bool
is_wrong_kind_at x path = not (has_bits regular_bits (object_named x.tree path))

sized_target : (x : Indexed) (path : List ℕ) → IsTarget x path → is_wrong_kind_at x path ≡ false → HasSize x (number_or_zero x.tree path) (size_named x.tree path) (size_named x.tree path)
sized_target x path is kind =
    with_some (object_named x.tree path) is.there
    (λ o e.
    let size : size_named x.tree path ≡ o.body = ap (λ ob. unwrap_or (option_map (λ (o : ObjectOf ℕ). o.body) ob) 0) e in
    record {
      o = o;
      is = is.same ∙ e;
      least = omega arith;
      most = omega arith;
      plain = sym (ap has_device e) ∙ is_plain regular_bits refl (object_named x.tree path) (is_not_false (has_bits regular_bits (object_named x.tree path)) kind);
    })

size_is_word : (x : Indexed) (path : List ℕ) → IsConsistent x → IsTarget x path → is_wrong_kind_at x path ≡ false → size_named x.tree path ≤ 0xFFFFFFFF
size_is_word x path same is kind =
    let h = sized_target x path is kind in
    let least : size_named x.tree path ≤ h.o.body = h.least in
    let word : IsWord h.o.body = (same.fits (number_or_zero x.tree path) h.o h.is).size in
    omega arith

-- ---- steps of names and attributes

set_fine : (page : ℕ) (x : Indexed) (time directory : ℕ) (name : List ℕ) (ino : ℕ) → IsWord time → 0 < directory → HasLength name → is_some (object x.tree directory) ≡ true → 0 < ino → ino < x.tree.next
    → IsFine page x (step.SetName time directory name ino)
unfolding Shaped StepFits
set_fine page x time directory name ino now positive long there some below =
    record { ready = record { defined = there; number = (some, below); plain = tt }; fits = now; shaped = (positive, long); size = omega arith }

clear_fine : (page : ℕ) (x : Indexed) (time directory : ℕ) (name : List ℕ) → IsWord time → 0 < directory → HasLength name → is_some (object x.tree directory) ≡ true
    → IsFine page x (step.ClearName time directory name)
unfolding Shaped StepFits
clear_fine page x time directory name now positive long there =
    record { ready = record { defined = there; number = tt; plain = tt }; fits = now; shaped = (positive, long); size = omega arith }

attributes_fine : (page : ℕ) (x : Indexed) (time ino : ℕ) (attributes : Attributes) → IsConsistent x → IsWord time → GivenFit attributes → 0 < ino → is_some (object x.tree ino) ≡ true → has_device (object x.tree ino) ≡ false → IsFine page x (step.SetAttributes time ino attributes)
unfolding Shaped StepFits
attributes_fine page x time ino attributes same now given positive there plain =
    let size : IsWord (object_at x ino).body = (object_fits x ino same there).size in
    record { ready = record { defined = there; number = tt; plain = plain }; fits = (now, given); shaped = positive; size = omega arith }

parent_some : (x : Indexed) (path : List ℕ) → IsLed x path → is_some (object x.tree (parent x.tree path)) ≡ true
parent_some x path is_led = bits_there directory_bits (object x.tree (parent x.tree path)) is_led.parent_there.there

-- ---- a new object

-- the object that a step makes
made : ℕ → ℕ → ℕ → ℕ → List ℕ → ObjectOf ℕ
made time mode uid gid bytes = record { mode = mode; uid = uid; gid = gid; atime = time; mtime = time; ctime = time; device = None; body = length (own_bytes mode bytes) }

make_fine : (page : ℕ) (x : Indexed) (time mode uid gid : ℕ) (bytes : List ℕ) → IsPage page → IsWord time → IsWord mode → IsHalf uid → IsHalf gid → IsPiece page (length bytes)
    → IsFine page x (step.MakeObject time mode uid gid bytes)
unfolding Shaped StepFits
make_fine page x time mode uid gid bytes is_page now mode_fits uid_fits gid_fits piece =
    let within : length bytes ≤ page = piece.within in
    let most : page ≤ 16384 = is_page.most in
    let own : length (own_bytes mode bytes) ≤ length bytes = own_short mode bytes in
    record { ready = record { defined = tt; number = tt; plain = tt }; fits = (now, mode_fits, uid_fits, gid_fits); shaped = piece; size = omega arith }

-- its directory is there after it is made
parent_stays : (x : Indexed) (time mode uid gid : ℕ) (bytes path : List ℕ) → IsLed x path → is_some (object (advanced x (step.MakeObject time mode uid gid bytes)).tree (parent x.tree path)) ≡ true
unfolding made
parent_stays x time mode uid gid bytes path is_led =
    ap is_some (get-insert nat_cmp_total x.tree.objects x.tree.next (made time mode uid gid bytes) (parent x.tree path))
    ∙ still_some (eq_by_cmp nat_cmp (parent x.tree path) x.tree.next) (made time mode uid gid bytes) (get x.tree.objects (parent x.tree path)) (parent_some x path is_led)

-- it is named where its directory is there, and its number is below the next
name_fine : (page : ℕ) (x y : Indexed) (time : ℕ) (path : List ℕ) → IsConsistent x → IsLed x path → IsWord time → is_some (object y.tree (parent x.tree path)) ≡ true → y.tree.next ≡ x.tree.next + 1
    → IsFine page y (step.SetName time (parent x.tree path) (last_name path) x.tree.next)
name_fine page x y time path same is_led now there next =
    let root : 1 < x.tree.next = root_below x same in
    set_fine page y time (parent x.tree path) (last_name path) x.tree.next now is_led.parent_there.positive is_led.name there (omega arith) (omega arith)

new_fine : (page : ℕ) (x : Indexed) (time : ℕ) (path : List ℕ) (mode uid gid : ℕ) (bytes : List ℕ) → IsPage page → IsConsistent x → IsLed x path → IsWord time → IsWord mode → IsHalf uid → IsHalf gid → length bytes ≤ 4095
    → AllFine page x (make_steps x.tree time path mode uid gid bytes)
new_fine page x time path mode uid gid bytes is_page same is_led now mode_fits uid_fits gid_fits short =
    let make = step.MakeObject time mode uid gid bytes in
    let least : 4096 ≤ page = is_page.least in
    AllFine-two page x make (step.SetName time (parent x.tree path) (last_name path) x.tree.next)
    (make_fine page x time mode uid gid bytes is_page now mode_fits uid_fits gid_fits (record { within = omega arith; plain = λ e. omega arith }))
    (name_fine page x (advanced x make) time path same is_led now (parent_stays x time mode uid gid bytes path is_led) refl)

-- ---- a new file

pub record IsFirst (page len first : ℕ) : Type 0 where
  pub within : first ≤ len
  pub piece : IsPiece page first

pub first_is : (page len : ℕ) → IsPage page → IsFirst page len (first_len page len)
first_is page len is_page =
    let least : 4096 ≤ page = is_page.least in
    cond_both (min page len == spelling_len) plain_page (min page len) (IsFirst page len)
    (λ yes.
    let is : min page len ≡ 6465 = eqb-true (min page len) spelling_len yes in
    record { within = omega arith; piece = record { within = omega arith; plain = λ e. omega arith } })
    (λ no. record { within = omega arith; piece = record { within = omega arith; plain = eqb-false (min page len) spelling_len no } })

pub first_taken_len : (page : ℕ) (bytes : List ℕ) → IsPage page → length (take (first_len page (length bytes)) bytes) ≡ first_len page (length bytes)
first_taken_len page bytes is_page =
    let within : first_len page (length bytes) ≤ length bytes = (first_is page (length bytes) is_page).within in
    length-take (first_len page (length bytes)) bytes ∙ omega arith

-- the size of the object that a step makes
made_size : (x : Indexed) (time mode uid gid : ℕ) (bytes : List ℕ) (size : ℕ) → is_device mode ≡ false → length (own_bytes mode bytes) ≡ size → HasSize (advanced x (step.MakeObject time mode uid gid bytes)) x.tree.next size size
unfolding made
made_size x time mode uid gid bytes size plain e = record {
  o = made time mode uid gid bytes;
  is = get-insert nat_cmp_total x.tree.objects x.tree.next (made time mode uid gid bytes) x.tree.next
      ∙ cond-true (eq_by_cmp nat_cmp x.tree.next x.tree.next) (Some (made time mode uid gid bytes)) (get x.tree.objects x.tree.next) (itself x.tree.next);
  least = omega arith;
  most = omega arith;
  plain = plain;
}

bytes_fine : (page : ℕ) (x : Indexed) (time mode uid gid : ℕ) (bytes : List ℕ) → is_device mode ≡ false → IsPage page → IsConsistent x → IsWord time → IsWord mode → IsHalf uid → IsHalf gid → length bytes ≤ 2147483647
    → AllFine page x (bytes_steps page x.tree.next time mode uid gid bytes)
bytes_fine page x time mode uid gid bytes plain is_page same now mode_fits uid_fits gid_fits ends =
    let first = first_len page (length bytes) in
    let is = first_is page (length bytes) is_page in
    let within : first ≤ length bytes = is.within in
    let len : length (take first bytes) ≡ first = first_taken_len page bytes is_page in
    let rest : length (drop first bytes) ≡ length bytes - first = length-drop first bytes in
    let make = step.MakeObject time mode uid gid (take first bytes) in
    let root : 1 < x.tree.next = root_below x same in
    AllFine-more page x make (write_steps page time x.tree.next first first (drop first bytes))
    (make_fine page x time mode uid gid (take first bytes) is_page now mode_fits uid_fits gid_fits (subst (IsPiece page) (sym len) is.piece))
    (write_fine page (advanced x make) time x.tree.next first first (drop first bytes) is_page now (omega arith) (made_size x time mode uid gid (take first bytes) first plain (ap length (own_of mode (take first bytes) plain) ∙ len)) (omega arith) (λ some. omega arith))

file_fine : (page : ℕ) (x : Indexed) (time : ℕ) (path : List ℕ) (mode uid gid : ℕ) (bytes : List ℕ) → is_device mode ≡ false → IsPage page → IsConsistent x → IsLed x path → IsWord time → IsWord mode → IsHalf uid → IsHalf gid
    → length bytes ≤ 2147483647 → AllFine page x (file_steps page x.tree time path mode uid gid bytes)
file_fine page x time path mode uid gid bytes plain is_page same is_led now mode_fits uid_fits gid_fits ends =
    let first = first_len page (length bytes) in
    let make = step.MakeObject time mode uid gid (take first bytes) in
    let puts = write_steps page time x.tree.next first first (drop first bytes) in
    let set = step.SetName time (parent x.tree path) (last_name path) x.tree.next in
    let left = objects_left (advanced x make).tree puts (write_on_object page time x.tree.next first first (drop first bytes)) in
    let tree = tree_advanced (advanced x make) puts in
    AllFine-append page x (make ∷ puts) (set ∷ [])
    (bytes_fine page x time mode uid gid bytes plain is_page same now mode_fits uid_fits gid_fits ends)
    (AllFine-one page (advanced_all (advanced x make) puts) set
    (name_fine page x (advanced_all (advanced x make) puts) time path same is_led now
    (ap (λ (t : Outline). is_some (object t (parent x.tree path))) tree ∙ left.there (parent x.tree path) (parent_stays x time mode uid gid (take first bytes) path is_led))
    (ap (λ (t : Outline). t.next) tree ∙ left.next)))

-- ---- the steps of each operation

move_fine : (page : ℕ) (x : Indexed) (time : ℕ) (old new : List ℕ) → IsWord time → IsLed x old → IsLed x new → IsTarget x old → AllFine page x (move_steps x.tree time old new)
move_fine page x time old new now led_old led_new target =
    let set = step.SetName time (parent x.tree new) (last_name new) (number_or_zero x.tree old) in
    AllFine-two page x set (step.ClearName time (parent x.tree old) (last_name old))
    (set_fine page x time (parent x.tree new) (last_name new) (number_or_zero x.tree old) now led_new.parent_there.positive led_new.name (parent_some x new led_new) target.positive target.below)
    (clear_fine page (advanced x set) time (parent x.tree old) (last_name old) now led_old.parent_there.positive led_old.name (parent_some x old led_old))

all_fine : (page : ℕ) (x : Indexed) (o : Op) (steps : List Step) → IsPage page → IsConsistent x → OpFits o → IsAccepted page x o steps → AllFine page x (steps_of page x.tree o)
all_fine page x (op.Mkdir time path mode uid gid) steps is_page same fits is =
    let is_led = (led_alone x path false false same is.bad is.long is.found is.directory).0 in
    let bits : mode ≤ 0o7777 = ltb-false 0o7777 mode is.mode in
    new_fine page x time path (0o040000 + mode) uid gid [] is_page same is_led fits.0 (omega arith) fits.1 fits.2 (omega arith)
all_fine page x (op.Create time path mode uid gid) steps is_page same fits is =
    let is_led = (led_alone x path false false same is.bad is.long is.found is.directory).0 in
    let bits : mode ≤ 0o7777 = ltb-false 0o7777 mode is.mode in
    new_fine page x time path (0o100000 + mode) uid gid [] is_page same is_led fits.0 (omega arith) fits.1 fits.2 (omega arith)
all_fine page x (op.File time path mode uid gid bytes) steps is_page same fits is =
    let is_led = (led_alone x path false false same is.bad is.long is.found is.directory).0 in
    let bits : mode ≤ 0o7777 = ltb-false 0o7777 mode is.mode in
    let ends : length bytes ≤ 2147483647 = ltb-false greatest_size (length bytes) is.large in
    file_fine page x time path (0o100000 + mode) uid gid bytes (regular_is_plain mode bits) is_page same is_led fits.0 (omega arith) fits.1 fits.2 ends
all_fine page x (op.Put time path mode uid gid bytes) steps is_page same fits is =
    let is_led = (led_alone x path false false same is.bad is.long is.found is.directory).0 in
    let bits : mode ≤ 0o7777 = ltb-false 0o7777 mode is.mode in
    let ends : length bytes ≤ 2147483647 = ltb-false greatest_size (length bytes) is.large in
    file_fine page x time path (0o100000 + mode) uid gid bytes (regular_is_plain mode bits) is_page same is_led fits.0 (omega arith) fits.1 fits.2 ends
all_fine page x (op.Device time path kind mode uid gid number) steps is_page same fits is =
    let is_led = (led_alone x path false false same is.bad is.long is.found is.directory).0 in
    let bits : mode ≤ 0o7777 = ltb-false 0o7777 mode is.mode in
    let small : device_mode kind ≤ 0o060000 = device_mode_small kind in
    let few : length number ≤ 4 = fits.3 in
    new_fine page x time path (device_mode kind + mode) uid gid number is_page same is_led fits.0 (omega arith) fits.1 fits.2 (omega arith)
all_fine page x (op.Fifo time path mode uid gid) steps is_page same fits is =
    let is_led = (led_alone x path false false same is.bad is.long is.found is.directory).0 in
    let bits : mode ≤ 0o7777 = ltb-false 0o7777 mode is.mode in
    new_fine page x time path (0o010000 + mode) uid gid [] is_page same is_led fits.0 (omega arith) fits.1 fits.2 (omega arith)
all_fine page x (op.Socket time path mode uid gid) steps is_page same fits is =
    let is_led = (led_alone x path false false same is.bad is.long is.found is.directory).0 in
    let bits : mode ≤ 0o7777 = ltb-false 0o7777 mode is.mode in
    new_fine page x time path (0o140000 + mode) uid gid [] is_page same is_led fits.0 (omega arith) fits.1 fits.2 (omega arith)
all_fine page x (op.Symlink time path link uid gid) steps is_page same fits is =
    let is_led = (led_alone x path false false same is.bad is.long is.found is.directory).0 in
    let parts = three_false (length link == 0) (nat_lt 4095 (length link)) (list_any (λ b. b == 0) link) is.link in
    let short : length link ≤ 4095 = ltb-false 4095 (length link) parts.1 in
    new_fine page x time path 0o120777 uid gid link is_page same is_led fits.0 (omega arith) fits.1 fits.2 short
all_fine page x (op.Write time path offset bytes) steps is_page same fits is =
    let leads = led_alone x path (is_missing x.tree path || false) false same is.bad is.long is.found is.directory in
    let is_target = targeted x path same leads.0 (one_false (is_missing x.tree path) leads.1) in
    write_fine page x time (number_or_zero x.tree path) (size_named x.tree path) offset bytes is_page fits is_target.positive (sized_target x path is_target is.kind) (size_is_word x path same is_target is.kind)
    (λ some. ends_within (nat_lt 0 (length bytes)) (offset + length bytes) (lt-ltb 0 (length bytes) some) is.large)
  where
    ends_within : (b : Bool) (n : ℕ) → b ≡ true → (b && nat_lt greatest_size n) ≡ false → n ≤ 0xFFFFFFFF
    ends_within true n e h = let least : n ≤ 2147483647 = ltb-false greatest_size n h in omega arith
    ends_within false n e h = absurd (false≢true e)
all_fine page x (op.Truncate time path size) steps is_page same fits is =
    let leads = led_alone x path (is_missing x.tree path || false) false same is.bad is.long is.found is.directory in
    let is_target = targeted x path same leads.0 (one_false (is_missing x.tree path) leads.1) in
    let least : size ≤ 2147483647 = ltb-false greatest_size size is.large in
    resize_fine page x time (number_or_zero x.tree path) (size_named x.tree path) size fits is_target.positive (sized_target x path is_target is.kind) (size_is_word x path same is_target is.kind) (omega arith)
all_fine page x (op.Link time old new) steps is_page same fits is =
    let both = led_both x old new same is.bad is.long is.found is.directory in
    AllFine-one page x (step.SetName time (parent x.tree new) (last_name new) (number_or_zero x.tree old))
    (set_fine page x time (parent x.tree new) (last_name new) (number_or_zero x.tree old) fits both.1.parent_there.positive both.1.name (parent_some x new both.1) both.2.positive both.2.below)
all_fine page x (op.Remove time path) steps is_page same fits is =
    let is_led = (led_alone x path false (is_unnamed x.tree path || false) same is.bad is.long is.found is.directory).0 in
    AllFine-one page x (step.ClearName time (parent x.tree path) (last_name path))
    (clear_fine page x time (parent x.tree path) (last_name path) fits is_led.parent_there.positive is_led.name (parent_some x path is_led))
all_fine page x (op.RemoveIf time path) steps is_page same fits is =
    let clear = step.ClearName time (parent x.tree path) (last_name path) in
    cond_both (is_some (number_there x.tree path)) (clear ∷ []) [] (AllFine page x)
    (λ yes.
    let is_led = (led_alone x path false false same is.bad is.long is.found is.directory).0 in
    AllFine-one page x clear
    (clear_fine page x time (parent x.tree path) (last_name path) fits is_led.parent_there.positive is_led.name (parent_some x path is_led)))
    (λ no. AllFine-none page x)
all_fine page x (op.Rename time old new) steps is_page same fits is =
    let both = led_both x old new same is.bad is.long is.found is.directory in
    move_fine page x time old new fits both.0 both.1 both.2
all_fine page x (op.Replace time old new) steps is_page same fits is =
    cond_both (is_one_entry x.tree old new) [] (move_steps x.tree time old new) (AllFine page x) (λ yes. AllFine-none page x)
    (λ no.
    let both = led_both x old new same is.bad is.long is.found is.directory in
    move_fine page x time old new fits both.0 both.1 both.2)
all_fine page x (op.SetAttributes time path attributes) steps is_page same fits is =
    let found = or_parts (meets_nothing (above x.tree path)) (is_unreached x.tree path) is.found in
    let above_it = parent_is x path same found.0 (one_false (meets_other x.tree (above x.tree path)) is.directory) in
    let reached = reached_is x path same above_it.1 found.1 in
    AllFine-one page x (step.SetAttributes time (unwrap_or (number_reached x.tree path) 0) attributes)
    (attributes_fine page x time (unwrap_or (number_reached x.tree path) 0) attributes same fits.0 fits.1 reached.positive reached.there
    (reached_plain x.tree (number_reached x.tree path) (is_not_false (takes_attributes (object_reached x.tree path)) is.kind)))

pub planned_taken : (page : ℕ) (x : Indexed) (o : Op) (steps : List Step) → IsPage page → IsConsistent x → OpFits o → planned_by page x o ≡ Ok steps → AllTaken page x steps
planned_taken page x o steps is_page same fits e =
    let is = accepted page x o steps e in
    subst (λ steps. AllTaken page x steps) is.steps_are
    (all_taken page x (steps_of page x.tree o) is_page same (all_fine page x o steps is_page same fits is) is.room)

pub planned_is_ready : law.PlannedIsReady
planned_is_ready page x o steps is_page same fits e =
    let taken = planned_taken page x o steps is_page same fits e in
    record { ready = taken_ready page x steps taken; room = taken_room page x steps taken; consistent = taken_keeps_all page x steps same taken }

pub planned_is_writable : law.PlannedIsWritable
planned_is_writable page e x o steps is_page same fits is = taken_written page e x steps (planned_taken page x o steps is_page same fits is)
