-- Each name of a regular file stands for a whole one, from step to step of an update.
use Rattle.std.proofs.Common.{◌≡◌, ◌≢◌, ℕ, zero, suc, ◌+◌, ◌/◌, ◌<◌, ◌≤◌, Bool, true, false, cond, List, [], ◌∷◌, ◌++◌, length, take, drop, Option, Some, None, Result, Ok, Err, refl, ap, sym, ◌∙◌, subst, ⊎_elim, arith}
use Rattle.std.specs.Prelude.{is_some, unwrap_or, option_and_then, nat_lt, flat_map, ◌==◌}
use Rattle.std.specs.List.{AllByRecursion}
use Rattle.std.specs.Ordering.{eq_by_cmp, nat_cmp}
use Rattle.std.specs.Cmp.{nat_cmp_total}
use Rattle.std.specs.FinMap.{FinMap, get, insert, remove, get-insert, get-remove}
use Rattle.std.proofs.lemmas.Bool.{cases_eq, cond-true, cond_both, ltb-false, false≢true}
use Rattle.std.proofs.lemmas.List.{take-append-drop}
use Rattle.std.proofs.lemmas.Option.{same_Some}
use Rattle.jname.specs.Live.{key_cmp}
use Rattle.jname.proofs.NamingLemmas.{key_cmp_total}
use Rattle.jmount.specs.Device.{device_held}
use Rattle.jmount.specs.Tree.{ObjectOf, State, Outline, outline, object, named, has_bits, regular_bits, type_bits, is_device}
use Rattle.jmount.specs.declared.fault.FindFault.{FindFault}
use Rattle.jsteps.specs.Device.{device_mode}
use Rattle.jsteps.specs.Steps.{own_bytes, bytes, do_step, after, renamed, rewritten, with_body, with_attributes, reattributed}
use Rattle.jsteps.specs.Nodes.{Indexed}
use Rattle.jscan.specs.Pages.{IsPage}
use Rattle.jsteps.specs.Planning.{spelling_len, first_len, piece_puts, page_puts, puts, zeros_to, write_steps, make_steps, file_steps, move_steps, steps_of}
use Rattle.jsteps.specs.Where.{above, last_name, named_there, number_there, number_or_zero, object_named, parent, is_one_entry}
use Rattle.jsteps.specs.Laws.{IsConsistent}
use Rattle.jsteps.specs.declared.device.DeviceKind.{DeviceKind}
use Rattle.jsteps.specs.declared.device.DeviceKind.TheVariants.{Character, Block}
use Rattle.jsteps.specs.declared.op.Attributes.{Attributes}
use Rattle.jsteps.specs.declared.op.Op.{Op}
use Rattle.jsteps.specs.declared.op.Op.TheVariants as op
use Rattle.jsteps.specs.declared.step.Step.{Step}
use Rattle.jsteps.specs.declared.step.Step.TheVariants as step
use Rattle.jsteps.proofs.OwnLemmas.{own_of, regular_is_plain}
use Rattle.jsteps.proofs.ConsistentLemmas.{cond_some_cases}
use Rattle.jsteps.proofs.StepsLemmas.{kind_stays}
use Rattle.jsteps.proofs.PlanLemmas.{IsAccepted, first_taken_len, led_both}
use Rattle.jtree.specs.Updates.{IsUpdate, MakesFileWith}
use Rattle.jtree.proofs.AppendLemmas.{write_appends}
use Rattle.jtree.proofs.RewriteLemmas.{insert_other, itself, untied}

-- ---- whole files, and steps after each of which they are

abbrev pub AreWhole : (List ℕ → Type 0) → State → Type 0
AreWhole W t = (dir : ℕ) (name : List ℕ) (i : ℕ) (o : ObjectOf (List ℕ)) → named t dir name ≡ Some i → object t i ≡ Some o → has_bits regular_bits (Some o) ≡ true → W o.body

abbrev pub EachWhole : (List ℕ → Type 0) → State → List Step → Type 0
EachWhole W t [] = AreWhole W t
EachWhole W t (s ∷ steps) = AreWhole W t × EachWhole W (do_step bytes t s) steps

pub each_first : (W : List ℕ → Type 0) (t : State) (steps : List Step) (m : ℕ) → EachWhole W t steps → AreWhole W (after bytes t (take m steps))
each_first W t [] zero each = each
each_first W t [] (suc m) each = each
each_first W t (s ∷ steps) zero each = each.0
each_first W t (s ∷ steps) (suc m) each = each_first W (do_step bytes t s) steps m each.1

pub each_append : (W : List ℕ → Type 0) (t : State) (xs ys : List Step) → EachWhole W t xs → (AreWhole W (after bytes t xs) → EachWhole W (after bytes t xs) ys) → EachWhole W t (xs ++ ys)
each_append W t [] ys each then = then each
each_append W t (s ∷ xs) ys each then = (each.0, each_append W (do_step bytes t s) xs ys each.1 then)

-- ---- names

-- where this number has a regular file, it is whole
abbrev pub IsWholeAt : (List ℕ → Type 0) → State → ℕ → Type 0
IsWholeAt W t i = (o : ObjectOf (List ℕ)) → object t i ≡ Some o → has_bits regular_bits (Some o) ≡ true → W o.body

set_whole : (W : List ℕ → Type 0) (t : State) (dir : ℕ) (name : List ℕ) (i : ℕ) → AreWhole W t → IsWholeAt W t i → AreWhole W (renamed t (insert t.names (dir, name) i))
set_whole W t dir name i whole here = λ d n k o e there regular.
    ⊎_elim
    (λ (new : (eq_by_cmp key_cmp (d, n) (dir, name) ≡ true) × (i ≡ k)). here o (ap (object t) new.1 ∙ there) regular)
    (λ (old : named t d n ≡ Some k). whole d n k o old there regular)
    (cond_some_cases (eq_by_cmp key_cmp (d, n) (dir, name)) i (get t.names (d, n)) k (sym (get-insert key_cmp_total t.names (dir, name) i (d, n)) ∙ e))

still_there : {X : Type 0} (b : Bool) (o : Option X) (p : X) → cond b None o ≡ Some p → o ≡ Some p
still_there true o p e = absurd (false≢true (ap is_some e))
still_there false o p e = e

clear_whole : (W : List ℕ → Type 0) (t : State) (dir : ℕ) (name : List ℕ) → AreWhole W t → AreWhole W (renamed t (remove t.names (dir, name)))
clear_whole W t dir name whole = λ d n k o e there regular.
    whole d n k o (still_there (eq_by_cmp key_cmp (d, n) (dir, name)) (get t.names (d, n)) k (sym (get-remove key_cmp_total t.names (dir, name) (d, n)) ∙ e)) there regular

-- ---- an object that no name stands for

abbrev IsFree : State → ℕ → Type 0
IsFree t i = (dir : ℕ) (name : List ℕ) → named t dir name ≡ Some i → ⊥

-- the names stay, and the objects of all other numbers
record Touches (t u : State) (ino : ℕ) : Type 0 where
  names : u.names ≡ t.names
  others : (k : ℕ) → k ≢ ino → object u k ≡ object t k

touched_whole : (W : List ℕ → Type 0) (t u : State) (ino : ℕ) → Touches t u ino → IsFree t ino → AreWhole W t → AreWhole W u
touched_whole W t u ino is free whole = λ d n k o e there regular.
    let old : named t d n ≡ Some k = sym (ap (λ (names : FinMap key_cmp ℕ). get names (d, n)) is.names) ∙ e in
    whole d n k o old (sym (is.others k (λ same. free d n (old ∙ ap Some same))) ∙ there) regular

touched_free : (t u : State) (ino : ℕ) → Touches t u ino → IsFree t ino → IsFree u ino
touched_free t u ino is free = λ d n e. free d n (sym (ap (λ (names : FinMap key_cmp ℕ). get names (d, n)) is.names) ∙ e)

insert_touches : (t : State) (ino : ℕ) (o : ObjectOf (List ℕ)) (next : ℕ) → Touches t (record { objects = insert t.objects ino o; names = t.names; next = next }) ino
insert_touches t ino o next = record {
  names = refl;
  others = λ k other. get-insert nat_cmp_total t.objects ino o k ∙ insert_other (eq_by_cmp nat_cmp k ino) o (get t.objects k) (untied k ino other);
}

rewritten_touches : (t : State) (ino time : ℕ) (change : List ℕ → List ℕ) (o : Option (ObjectOf (List ℕ))) → Touches t (rewritten t ino time change o) ino
rewritten_touches t ino time change None = record { names = refl; others = λ k other. refl }
rewritten_touches t ino time change (Some o) = insert_touches t ino (with_body o time (change o.body)) t.next

-- steps on this number
IsOf : ℕ → Step → Type 0
IsOf ino (step.MakeObject time mode uid gid target) = ⊥
IsOf ino (step.SetName time directory name number) = ⊥
IsOf ino (step.ClearName time directory name) = ⊥
IsOf ino (step.Put time number offset new) = number ≡ ino
IsOf ino (step.Zero time number count) = number ≡ ino
IsOf ino (step.Cut time number size) = ⊥
IsOf ino (step.SetAttributes time number attributes) = ⊥

step_touches : (t : State) (ino : ℕ) (s : Step) → IsOf ino s → Touches t (do_step bytes t s) ino
unfolding IsOf
step_touches t ino (step.MakeObject time mode uid gid target) is = absurd is
step_touches t ino (step.SetName time directory name number) is = absurd is
step_touches t ino (step.ClearName time directory name) is = absurd is
step_touches t ino (step.Put time number offset new) is = subst (Touches t (do_step bytes t (step.Put time number offset new))) is (rewritten_touches t number time (λ old. bytes.put old offset new) (object t number))
step_touches t ino (step.Zero time number count) is = subst (Touches t (do_step bytes t (step.Zero time number count))) is (rewritten_touches t number time (λ old. bytes.grown old count) (object t number))
step_touches t ino (step.Cut time number size) is = absurd is
step_touches t ino (step.SetAttributes time number attributes) is = absurd is

of_whole : (W : List ℕ → Type 0) (t : State) (ino : ℕ) (steps : List Step) → AllByRecursion (IsOf ino) steps → IsFree t ino → AreWhole W t → EachWhole W t steps
of_whole W t ino [] all free whole = whole
of_whole W t ino (s ∷ steps) all free whole =
    let is = step_touches t ino s all.0 in
    (whole, of_whole W (do_step bytes t s) ino steps all.1 (touched_free t (do_step bytes t s) ino is free) (touched_whole W t (do_step bytes t s) ino is free whole))

all_append : (ino : ℕ) (xs ys : List Step) → AllByRecursion (IsOf ino) xs → AllByRecursion (IsOf ino) ys → AllByRecursion (IsOf ino) (xs ++ ys)
all_append ino [] ys h k = k
all_append ino (x ∷ xs) ys h k = (h.0, all_append ino xs ys h.1 k)

all_flat : (ino : ℕ) (f : ℕ → List Step) → ((n : ℕ) → AllByRecursion (IsOf ino) (f n)) → (ns : List ℕ) → AllByRecursion (IsOf ino) (flat_map f ns)
all_flat ino f h [] = tt
all_flat ino f h (n ∷ ns) = all_append ino (f n) (flat_map f ns) (h n) (all_flat ino f h ns)

piece_of : (time ino start : ℕ) (piece : List ℕ) → AllByRecursion (IsOf ino) (piece_puts time ino start piece)
unfolding IsOf
piece_of time ino start piece = cond_both (length piece == spelling_len) _ _ (AllByRecursion (IsOf ino)) (λ yes. (refl, (refl, tt))) (λ no. (refl, tt))

zeros_of : (time ino old new : ℕ) → AllByRecursion (IsOf ino) (zeros_to time ino old new)
unfolding IsOf
zeros_of time ino old new = cond_both (nat_lt old new) _ _ (AllByRecursion (IsOf ino)) (λ yes. (refl, tt)) (λ no. tt)

write_of : (page time ino size offset : ℕ) (new : List ℕ) → AllByRecursion (IsOf ino) (write_steps page time ino size offset new)
write_of page time ino size offset [] = tt
write_of page time ino size offset (b ∷ new) =
    all_append ino (zeros_to time ino size offset) (puts page time ino offset (b ∷ new)) (zeros_of time ino size offset)
    (all_flat ino (λ n. page_puts page time ino offset (b ∷ new) (offset / page + n)) (λ n. piece_of time ino _ _) _)

-- ---- a new object

new_object : ℕ → ℕ → ℕ → ℕ → List ℕ → ObjectOf (List ℕ)
new_object time mode uid gid held = record { mode = mode; uid = uid; gid = gid; atime = time; mtime = time; ctime = time; device = device_held mode held; body = own_bytes mode held }

made_touches : (t : State) (time mode uid gid : ℕ) (target : List ℕ) → Touches t (do_step bytes t (step.MakeObject time mode uid gid target)) t.next
unfolding new_object
made_touches t time mode uid gid target = insert_touches t t.next (new_object time mode uid gid target) (t.next + 1)

made_there : (t : State) (time mode uid gid : ℕ) (target : List ℕ) → object (do_step bytes t (step.MakeObject time mode uid gid target)) t.next ≡ Some (new_object time mode uid gid target)
unfolding new_object
made_there t time mode uid gid target =
    get-insert nat_cmp_total t.objects t.next (new_object time mode uid gid target) t.next
    ∙ cond-true (eq_by_cmp nat_cmp t.next t.next) (Some (new_object time mode uid gid target)) (get t.objects t.next) (itself t.next)

-- no name stands for the next number
next_free : (x : Indexed) (t : State) → IsConsistent x → x.tree ≡ outline t → IsFree t t.next
next_free x t same tree = λ d n e.
    let next : x.tree.next ≡ t.next = ap (λ (t : Outline). t.next) tree in
    let below : t.next < x.tree.next = (same.linked d n t.next (ap (λ (t : Outline). named t d n) tree ∙ e)).1 in
    omega arith

-- one of another kind
new_whole : (W : List ℕ → Type 0) (x : Indexed) (t : State) (time : ℕ) (path : List ℕ) (mode uid gid : ℕ) (target : List ℕ) → IsConsistent x → x.tree ≡ outline t
    → (type_bits mode == regular_bits) ≡ false → AreWhole W t → EachWhole W t (make_steps x.tree time path mode uid gid target)
unfolding new_object
new_whole W x t time path mode uid gid target same tree kind whole =
    let u = do_step bytes t (step.MakeObject time mode uid gid target) in
    let next : t.next ≡ x.tree.next = sym (ap (λ (t : Outline). t.next) tree) in
    let made = touched_whole W t u t.next (made_touches t time mode uid gid target) (next_free x t same tree) whole in (
      whole,
      (
        made,
        set_whole W u (parent x.tree path) (last_name path) x.tree.next made
            (λ o there regular.
            let is : new_object time mode uid gid target ≡ o = same_Some _ _ (sym (made_there t time mode uid gid target) ∙ ap (object u) next ∙ there) in
            absurd (false≢true (sym kind ∙ ap (λ (o : ObjectOf (List ℕ)). has_bits regular_bits (Some o)) is ∙ regular))),
      ),
    )

-- and a file with all its bytes
file_whole : (W : List ℕ → Type 0) (page : ℕ) (x : Indexed) (t : State) (time : ℕ) (path : List ℕ) (mode uid gid : ℕ) (all : List ℕ) → IsPage page → IsConsistent x → x.tree ≡ outline t
    → is_device mode ≡ false → W all → AreWhole W t → EachWhole W t (file_steps page x.tree time path mode uid gid all)
unfolding new_object
file_whole W page x t time path mode uid gid all is_page same tree plain has whole =
    let first = first_len page (length all) in
    let front = take first all in
    let u = do_step bytes t (step.MakeObject time mode uid gid front) in
    let o = new_object time mode uid gid front in
    let next : t.next ≡ x.tree.next = sym (ap (λ (t : Outline). t.next) tree) in
    let there : object u x.tree.next ≡ Some (with_body o time front) = sym (ap (object u) next) ∙ made_there t time mode uid gid front
    ∙ ap (λ body. Some (with_body o time body)) (own_of mode front plain) in
    let steps = write_steps page time x.tree.next first first (drop first all) in
    let v = after bytes u steps in
    let re = write_appends page u time x.tree.next first (drop first all) o front is_page there (sym (first_taken_len page all is_page)) in
    let free : IsFree u x.tree.next = subst (IsFree u) next (touched_free t u t.next (made_touches t time mode uid gid front) (next_free x t same tree)) in
    let made = touched_whole W t u t.next (made_touches t time mode uid gid front) (next_free x t same tree) whole in (
      whole,
      each_append W u steps (step.SetName time (parent x.tree path) (last_name path) x.tree.next ∷ [])
          (of_whole W u x.tree.next steps (write_of page time x.tree.next first first (drop first all)) free made)
          (λ put. (
            put,
            set_whole W v (parent x.tree path) (last_name path) x.tree.next put
                (λ p found regular.
                let body : front ++ drop first all ≡ p.body = ap (λ (o : ObjectOf (List ℕ)). o.body) (same_Some _ _ (sym re.now ∙ found)) in
                subst W (sym (take-append-drop first all) ∙ body) has),
          )),
    )

-- ---- what is there by a name

named_number : (t : Outline) (r : Result ℕ FindFault) (name : List ℕ) → is_some (option_and_then (object t) (named_there t r name)) ≡ true
    → (dir : ℕ) × (named t dir name ≡ Some (unwrap_or (named_there t r name) 0))
named_number t (Ok dir) name e = (dir, by_number (named t dir name) e)
  where
    by_number : (o : Option ℕ) → is_some (option_and_then (object t) o) ≡ true → o ≡ Some (unwrap_or o 0)
    by_number None e = absurd (false≢true e)
    by_number (Some i) e = refl
named_number t (Err f) name e = absurd (false≢true e)

old_whole : (W : List ℕ → Type 0) (x : Indexed) (t : State) (old : List ℕ) → x.tree ≡ outline t → is_some (object_named x.tree old) ≡ true → AreWhole W t → IsWholeAt W t (number_or_zero x.tree old)
old_whole W x t old tree there whole = λ o found regular.
    let at = named_number x.tree (above x.tree old) (last_name old) there in
    whole at.0 (last_name old) (number_or_zero x.tree old) o (sym (ap (λ (t : Outline). named t at.0 (last_name old)) tree) ∙ at.1) found regular

move_whole : (W : List ℕ → Type 0) (x : Indexed) (t : State) (time : ℕ) (old new : List ℕ) → x.tree ≡ outline t → is_some (object_named x.tree old) ≡ true → AreWhole W t
    → EachWhole W t (move_steps x.tree time old new)
move_whole W x t time old new tree there whole =
    let set = set_whole W t (parent x.tree new) (last_name new) (number_or_zero x.tree old) whole (old_whole W x t old tree there whole) in
    (whole, (set, clear_whole W (renamed t (insert t.names (parent x.tree new, last_name new) (number_or_zero x.tree old))) (parent x.tree old) (last_name old) set))

-- other attributes leave the kind and the bytes
attributes_whole : (W : List ℕ → Type 0) (t : State) (ino time : ℕ) (attributes : Attributes) (was : Option (ObjectOf (List ℕ))) → object t ino ≡ was → AreWhole W t
    → AreWhole W (reattributed t ino time attributes was)
attributes_whole W t ino time attributes None is whole = whole
attributes_whole W t ino time attributes (Some p) is whole =
    let q = with_attributes p time attributes in
    let u : State = record { objects = insert t.objects ino q; names = t.names; next = t.next } in
    λ d n k o e there regular.
    ⊎_elim
    (λ (same : k ≡ ino).
    let at : object u ino ≡ Some q = get-insert nat_cmp_total t.objects ino q ino ∙ cond-true (eq_by_cmp nat_cmp ino ino) (Some q) (get t.objects ino) (itself ino) in
    let here : q ≡ o = same_Some q o (sym at ∙ sym (ap (object u) same) ∙ there) in
    let kind : has_bits regular_bits (Some p) ≡ true =
    ap (λ (kind : ℕ). kind == regular_bits) (sym (kind_stays p.mode attributes.mode)) ∙ ap (λ (o : ObjectOf (List ℕ)). has_bits regular_bits (Some o)) here ∙ regular in
    subst W (ap (λ (o : ObjectOf (List ℕ)). o.body) here) (whole d n ino p (e ∙ ap Some same) is kind))
    (λ (other : k ≢ ino). whole d n k o e (sym ((insert_touches t ino q t.next).others k other) ∙ there) regular)
    (cases_eq k ino)

-- a device is no regular file
device_is_other : (kind : DeviceKind) (mode : ℕ) → mode ≤ 0o7777 → (type_bits (device_mode kind + mode) == regular_bits) ≡ false
device_is_other Character mode bits = let is : type_bits (0o020000 + mode) ≡ 2 = omega arith in ap (λ k. k == regular_bits) is
device_is_other Block mode bits = let is : type_bits (0o060000 + mode) ≡ 6 = omega arith in ap (λ k. k == regular_bits) is

-- ---- each operation

pub op_whole : (W : List ℕ → Type 0) (page : ℕ) (x : Indexed) (t : State) (o : Op) (steps : List Step) → IsPage page → IsConsistent x → x.tree ≡ outline t → IsUpdate o
    → ((all : List ℕ) → MakesFileWith all o → W all) → IsAccepted page x o steps → AreWhole W t → EachWhole W t (steps_of page x.tree o)
op_whole W page x t (op.Mkdir time path mode uid gid) steps is_page same tree update makes is whole =
    new_whole W x t time path (0o040000 + mode) uid gid [] same tree
    (let bits : mode ≤ 0o7777 = ltb-false 0o7777 mode is.mode in let kind : type_bits (0o040000 + mode) ≡ 4 = omega arith in ap (λ k. k == regular_bits) kind) whole
op_whole W page x t (op.Create time path mode uid gid) steps is_page same tree update makes is whole = absurd update
op_whole W page x t (op.File time path mode uid gid all) steps is_page same tree update makes is whole =
    file_whole W page x t time path (0o100000 + mode) uid gid all is_page same tree (regular_is_plain mode (ltb-false 0o7777 mode is.mode)) (makes all refl) whole
op_whole W page x t (op.Put time path mode uid gid all) steps is_page same tree update makes is whole =
    file_whole W page x t time path (0o100000 + mode) uid gid all is_page same tree (regular_is_plain mode (ltb-false 0o7777 mode is.mode)) (makes all refl) whole
op_whole W page x t (op.Device time path kind mode uid gid number) steps is_page same tree update makes is whole =
    new_whole W x t time path (device_mode kind + mode) uid gid number same tree (device_is_other kind mode (ltb-false 0o7777 mode is.mode)) whole
op_whole W page x t (op.Fifo time path mode uid gid) steps is_page same tree update makes is whole =
    new_whole W x t time path (0o010000 + mode) uid gid [] same tree
    (let bits : mode ≤ 0o7777 = ltb-false 0o7777 mode is.mode in let kind : type_bits (0o010000 + mode) ≡ 1 = omega arith in ap (λ k. k == regular_bits) kind) whole
op_whole W page x t (op.Socket time path mode uid gid) steps is_page same tree update makes is whole =
    new_whole W x t time path (0o140000 + mode) uid gid [] same tree
    (let bits : mode ≤ 0o7777 = ltb-false 0o7777 mode is.mode in let kind : type_bits (0o140000 + mode) ≡ 12 = omega arith in ap (λ k. k == regular_bits) kind) whole
op_whole W page x t (op.Symlink time path link uid gid) steps is_page same tree update makes is whole = new_whole W x t time path 0o120777 uid gid link same tree refl whole
op_whole W page x t (op.Write time path offset new) steps is_page same tree update makes is whole = absurd update
op_whole W page x t (op.Truncate time path size) steps is_page same tree update makes is whole = absurd update
op_whole W page x t (op.Link time old new) steps is_page same tree update makes is whole =
    let both = led_both x old new same is.bad is.long is.found is.directory in
    (whole, set_whole W t (parent x.tree new) (last_name new) (number_or_zero x.tree old) whole (old_whole W x t old tree both.2.there whole))
op_whole W page x t (op.Remove time path) steps is_page same tree update makes is whole = (whole, clear_whole W t (parent x.tree path) (last_name path) whole)
op_whole W page x t (op.RemoveIf time path) steps is_page same tree update makes is whole =
    cond_both (is_some (number_there x.tree path)) (step.ClearName time (parent x.tree path) (last_name path) ∷ []) [] (EachWhole W t)
    (λ yes. (whole, clear_whole W t (parent x.tree path) (last_name path) whole)) (λ no. whole)
op_whole W page x t (op.Rename time old new) steps is_page same tree update makes is whole =
    let both = led_both x old new same is.bad is.long is.found is.directory in move_whole W x t time old new tree both.2.there whole
op_whole W page x t (op.Replace time old new) steps is_page same tree update makes is whole =
    let both = led_both x old new same is.bad is.long is.found is.directory in
    cond_both (is_one_entry x.tree old new) [] (move_steps x.tree time old new) (EachWhole W t) (λ yes. whole) (λ no. move_whole W x t time old new tree both.2.there whole)
op_whole W page x t (op.SetAttributes time path attributes) steps is_page same tree update makes is whole =
    (whole, attributes_whole W t _ time attributes _ refl whole)
