-- A plan keeps the shape of the tree.
use Rattle.std.proofs.Common.{◌≡◌, ℕ, ◌+◌, ◌<◌, Bool, true, false, List, [], ◌∷◌, ◌++◌, length, take, drop, Option, Some, None, Result, Ok, Err, refl, ap, sym, ◌∙◌, subst, arith}
use Rattle.std.specs.Prelude.{is_some, unwrap_or, option_and_then, ◌&&◌, ◌==◌}
use Rattle.std.specs.List.{list_any, AllByRecursion}
use Rattle.std.specs.FinMap.{FinMap, get, insert}
use Rattle.jname.specs.Live.{key_cmp}
use Rattle.std.proofs.lemmas.Bool.{cond_both, eqb-false, or_parts, false≢true}
use Rattle.jmount.specs.Tree.{ObjectOf, Outline, object, named, is_directory, has_bits, directory_bits}
use Rattle.jmount.specs.declared.fault.FindFault.{FindFault}
use Rattle.jsteps.specs.Device.{device_mode}
use Rattle.jsteps.specs.Steps.{own_bytes, bytes, sizes, do_step, after, renamed}
use Rattle.jsteps.specs.Nodes.{Indexed}
use Rattle.jsteps.specs.Planning.{size_named, first_len, write_steps, make_steps, move_steps, steps_of}
use Rattle.jsteps.specs.Where.{names_above, last_name, above, end_or_zero, parent, ends_in_directory, named_there, number_there, number_or_zero, number_reached, object_named, is_one_entry, met}
use Rattle.jsteps.specs.Laws.{IsConsistent}
use Rattle.jmount.specs.Shape.{HasShape}
use Rattle.jsteps.specs.ShapeLaws as law
use Rattle.jsteps.specs.declared.op.Op.{Op}
use Rattle.jsteps.specs.declared.op.Op.TheVariants as op
use Rattle.jsteps.specs.declared.step.Step.{Step}
use Rattle.jsteps.specs.declared.step.Step.TheVariants as step
use Rattle.jsteps.proofs.IndexLemmas.{with_some}
use Rattle.jsteps.proofs.WhereLemmas.{bits_there}
use Rattle.jsteps.proofs.PlanLemmas.{IsAccepted, accepted, led_alone, led_both}
use Rattle.jmount.proofs.ShapeLemmas.{Leads, IsShaped, leads_none, leads_more, leads_on, leads_to_itself, walk_leads, shaped, has_shape, follows_keeps}
use Rattle.jsteps.proofs.ShapeMetLemmas.{back_to}
use Rattle.jsteps.proofs.ShapeStepLemmas.{OnObject, insert_follows, object_keeps, objects_left, after-append, write_on_object, resize_on_object, attributes_on_object, clear_follows, set_keeps, move_keeps}

-- ---- where a path leads

-- a walk that ends in a directory
record IsAbove (t : Outline) (path : List ℕ) : Type 0 where
  ends : above t path ≡ Ok (parent t path)
  directory : is_directory t (parent t path) ≡ true

above_is : (t : Outline) (path : List ℕ) → ends_in_directory t (above t path) ≡ true → IsAbove t path
above_is t path h = let both = by_result (above t path) h in record { ends = both.0; directory = both.1 }
  where
    by_result : (r : Result ℕ FindFault) → ends_in_directory t r ≡ true → (r ≡ Ok (end_or_zero r)) × (is_directory t (end_or_zero r) ≡ true)
    by_result (Ok i) h = (refl, h)
    by_result (Err f) h = absurd (false≢true h)

-- the name of what a path names
entry_is : (t : Outline) (path : List ℕ) → IsAbove t path → is_some (object_named t path) ≡ true → named t (parent t path) (last_name path) ≡ Some (number_or_zero t path)
entry_is t path is there =
    sym (ap (λ r. named_there t r (last_name path)) is.ends) ∙ by_number (number_there t path) there
  where
    by_number : (o : Option ℕ) → is_some (option_and_then (object t) o) ≡ true → o ≡ Some (unwrap_or o 0)
    by_number None h = absurd (false≢true h)
    by_number (Some i) h = refl

-- ---- a new object and its name

-- with steps between that change objects alone
make_keeps_by : (x : Indexed) (time : ℕ) (path : List ℕ) (mode uid gid : ℕ) (target : List ℕ) (puts : List Step) → AllByRecursion OnObject puts → IsConsistent x
    → is_directory x.tree (parent x.tree path) ≡ true → IsShaped x.tree
    → IsShaped (after sizes x.tree (step.MakeObject time mode uid gid target ∷ (puts ++ step.SetName time (parent x.tree path) (last_name path) x.tree.next ∷ [])))
make_keeps_by x time path mode uid gid target puts all same there shape =
    let t = x.tree in
    let v : ObjectOf ℕ = record { mode = mode; uid = uid; gid = gid; atime = time; mtime = time; ctime = time; device = None; body = length (own_bytes mode target) } in
    let u : Outline = do_step sizes t (step.MakeObject time mode uid gid target) in
    let below : parent t path < t.next = with_some (object t (parent t path)) (bits_there directory_bits (object t (parent t path)) there) (λ o e. same.numbered (parent t path) o e) in
    let kept : IsShaped u =
    follows_keeps t u
    (insert_follows t t.next v (t.next + 1) (λ d n i e is. let h : i < t.next = (same.linked d n i e).1 in absurd (omega arith)))
    shape in
    let w : Outline = after sizes u puts in
    let left = objects_left u puts all in
    let old : (d : ℕ) (n : List ℕ) (i : ℕ) → named w d n ≡ Some i → named t d n ≡ Some i = λ d n i e. sym (ap (λ (names : FinMap key_cmp ℕ). get names (d, n)) left.names) ∙ e in
    subst IsShaped (sym (after-append u puts (step.SetName time (parent t path) (last_name path) t.next ∷ [])))
    (set_keeps w (parent t path) (last_name path) t.next
    (λ directory d n e. let h : t.next < t.next = (same.linked d n t.next (old d n t.next e)).1 in omega arith)
    (λ directory ns h.
    let is : t.next ≡ parent t path = leads_to_itself w t.next (parent t path) ns (λ n i e. let h : t.next < t.next = same.directories t.next n i (old t.next n i e) in omega arith) h in
    omega arith)
    (object_keeps u puts all kept))

make_keeps : (x : Indexed) (time : ℕ) (path : List ℕ) (mode uid gid : ℕ) (target : List ℕ) → IsConsistent x → is_directory x.tree (parent x.tree path) ≡ true → IsShaped x.tree
    → IsShaped (after sizes x.tree (make_steps x.tree time path mode uid gid target))
make_keeps x time path mode uid gid target same there shape = make_keeps_by x time path mode uid gid target [] tt same there shape

-- ---- a name is moved

-- what a walk from the root meets begins with the root
meets_root : (t : Outline) (names : List (List ℕ)) (m : ℕ) → list_any (λ i. i == m) (met t names (Some 1)) ≡ false → (1 == m) ≡ false
meets_root t [] m h = (or_parts (1 == m) false h).0
meets_root t (name ∷ names) m h = (or_parts (1 == m) (list_any (λ i. i == m) (met t names (named t 1 name))) h).0

both_not : (a b : Bool) → (a && b) ≡ false → a ≡ true → b ≡ false
both_not true b h e = h
both_not false b h e = absurd (false≢true e)

not_below : (t : Outline) (old new : List ℕ) → IsShaped t → IsAbove t old → IsAbove t new → named t (parent t old) (last_name old) ≡ Some (number_or_zero t old)
    → list_any (λ i. i == number_or_zero t old) (met t (names_above new) (Some 1)) ≡ false → (ns : List (List ℕ)) → Leads t (number_or_zero t old) ns (parent t new) → ⊥
not_below t old new shape is_old is_new entry none ns h =
    let m = number_or_zero t old in
    let back = back_to t m (names_above new) 1 (parent t new) [] ns shape (leads_none t 1) is_new.ends none is_new.directory h in
    let down = walk_leads t (names_above old) 1 (parent t old) is_old.ends in
    shape.no_loop m (last_name old) (down.0 ++ back.0)
    (leads_on t m 1 m back.0 (last_name old ∷ down.0) back.1 (leads_more t 1 (parent t old) m (last_name old) down.0 down.2 is_old.directory entry))

-- ---- plans

plan_keeps : (page : ℕ) (x : Indexed) (o : Op) (steps : List Step) → IsConsistent x → IsAccepted page x o steps → IsShaped x.tree → IsShaped (after sizes x.tree (steps_of page x.tree o))
plan_keeps page x (op.Mkdir time path mode uid gid) steps same is shape =
    let is_led = (led_alone x path false false same is.bad is.long is.found is.directory).0 in
    make_keeps x time path (0o040000 + mode) uid gid [] same is_led.parent_there.there shape
plan_keeps page x (op.Create time path mode uid gid) steps same is shape =
    let is_led = (led_alone x path false false same is.bad is.long is.found is.directory).0 in
    make_keeps x time path (0o100000 + mode) uid gid [] same is_led.parent_there.there shape
plan_keeps page x (op.File time path mode uid gid bytes) steps same is shape =
    let is_led = (led_alone x path false false same is.bad is.long is.found is.directory).0 in
    let first = first_len page (length bytes) in
    make_keeps_by x time path (0o100000 + mode) uid gid (take first bytes) (write_steps page time x.tree.next first first (drop first bytes))
    (write_on_object page time x.tree.next first first (drop first bytes)) same is_led.parent_there.there shape
plan_keeps page x (op.Put time path mode uid gid bytes) steps same is shape =
    let is_led = (led_alone x path false false same is.bad is.long is.found is.directory).0 in
    let first = first_len page (length bytes) in
    make_keeps_by x time path (0o100000 + mode) uid gid (take first bytes) (write_steps page time x.tree.next first first (drop first bytes))
    (write_on_object page time x.tree.next first first (drop first bytes)) same is_led.parent_there.there shape
plan_keeps page x (op.Device time path kind mode uid gid number) steps same is shape =
    let is_led = (led_alone x path false false same is.bad is.long is.found is.directory).0 in
    make_keeps x time path (device_mode kind + mode) uid gid number same is_led.parent_there.there shape
plan_keeps page x (op.Fifo time path mode uid gid) steps same is shape =
    let is_led = (led_alone x path false false same is.bad is.long is.found is.directory).0 in
    make_keeps x time path (0o010000 + mode) uid gid [] same is_led.parent_there.there shape
plan_keeps page x (op.Socket time path mode uid gid) steps same is shape =
    let is_led = (led_alone x path false false same is.bad is.long is.found is.directory).0 in
    make_keeps x time path (0o140000 + mode) uid gid [] same is_led.parent_there.there shape
plan_keeps page x (op.Symlink time path link uid gid) steps same is shape =
    let is_led = (led_alone x path false false same is.bad is.long is.found is.directory).0 in
    make_keeps x time path 0o120777 uid gid link same is_led.parent_there.there shape
plan_keeps page x (op.Write time path offset bytes) steps same is shape =
    object_keeps x.tree (steps_of page x.tree (op.Write time path offset bytes)) (write_on_object page time (number_or_zero x.tree path) (size_named x.tree path) offset bytes) shape
plan_keeps page x (op.Truncate time path size) steps same is shape =
    object_keeps x.tree (steps_of page x.tree (op.Truncate time path size)) (resize_on_object time (number_or_zero x.tree path) (size_named x.tree path) size) shape
plan_keeps page x (op.Link time old new) steps same is shape =
    let both = led_both x old new same is.bad is.long is.found is.directory in
    let kind : is_directory x.tree (number_or_zero x.tree old) ≡ false = ap (has_bits directory_bits) both.2.same ∙ is.kind in
    set_keeps x.tree (parent x.tree new) (last_name new) (number_or_zero x.tree old)
    (λ there d n e. absurd (false≢true (sym kind ∙ there))) (λ there ns h. absurd (false≢true (sym kind ∙ there))) shape
plan_keeps page x (op.Remove time path) steps same is shape =
    follows_keeps x.tree (after sizes x.tree (steps_of page x.tree (op.Remove time path))) (clear_follows x.tree (parent x.tree path, last_name path)) shape
plan_keeps page x (op.RemoveIf time path) steps same is shape =
    let clear = step.ClearName time (parent x.tree path) (last_name path) in
    cond_both (is_some (number_there x.tree path)) (clear ∷ []) [] (λ steps. IsShaped (after sizes x.tree steps))
    (λ yes. follows_keeps x.tree (after sizes x.tree (clear ∷ [])) (clear_follows x.tree (parent x.tree path, last_name path)) shape)
    (λ no. shape)
plan_keeps page x (op.Rename time old new) steps same is shape =
    let both = led_both x old new same is.bad is.long is.found is.directory in
    let above_old = above_is x.tree old both.0.ends in
    let above_new = above_is x.tree new both.1.ends in
    let entry = entry_is x.tree old above_old both.2.there in
    let m = number_or_zero x.tree old in
    let none : is_directory x.tree m ≡ true → list_any (λ i. i == m) (met x.tree (names_above new) (Some 1)) ≡ false =
    λ there.
    both_not (has_bits directory_bits (object_named x.tree old)) (list_any (λ i. i == m) (met x.tree (names_above new) (Some 1))) is.into
    (ap (has_bits directory_bits) (sym both.2.same) ∙ there) in
    move_keeps x.tree (parent x.tree new) (last_name new) (parent x.tree old) (last_name old) m entry
    (λ there is_root. eqb-false 1 m (meets_root x.tree (names_above new) m (none there)) (sym is_root))
    (λ there. not_below x.tree old new shape above_old above_new entry (none there))
    shape
plan_keeps page x (op.Replace time old new) steps same is shape =
    cond_both (is_one_entry x.tree old new) [] (move_steps x.tree time old new) (λ steps. IsShaped (after sizes x.tree steps)) (λ yes. shape)
    (λ no.
    let both = led_both x old new same is.bad is.long is.found is.directory in
    let kind : is_directory x.tree (number_or_zero x.tree old) ≡ false = ap (has_bits directory_bits) both.2.same ∙ is.kind in
    let set = renamed x.tree (insert x.tree.names (parent x.tree new, last_name new) (number_or_zero x.tree old)) in
    follows_keeps set (after sizes x.tree (move_steps x.tree time old new)) (clear_follows set (parent x.tree old, last_name old))
    (set_keeps x.tree (parent x.tree new) (last_name new) (number_or_zero x.tree old)
    (λ there d n e. absurd (false≢true (sym kind ∙ there))) (λ there ns h. absurd (false≢true (sym kind ∙ there))) shape))
plan_keeps page x (op.SetAttributes time path attributes) steps same is shape =
    object_keeps x.tree (steps_of page x.tree (op.SetAttributes time path attributes)) (attributes_on_object time (unwrap_or (number_reached x.tree path) 0) attributes) shape

pub shape_is_kept : law.ShapeIsKept
shape_is_kept page x o steps same e has =
    let is = accepted page x o steps e in
    subst (λ steps. HasShape (after sizes x.tree steps)) is.steps_are
    (has_shape (after sizes x.tree (steps_of page x.tree o)) (plan_keeps page x o steps same is (shaped x.tree has)))
