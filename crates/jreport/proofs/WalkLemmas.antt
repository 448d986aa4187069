-- The steps of a walk through a tree.
use Rattle.std.proofs.Common.{◌≡◌, ℕ, ◌+◌, ◌*◌, ◌-◌, ◌<◌, ◌&&◌, ◌||◌, ◌==◌, not, cond, Bool, true, false, List, [], ◌∷◌, ◌++◌, length, map, take, refl, sym, ap, ◌∙◌, subst, arith, append_assoc, append-nil, Option, Some, None, Result, Ok, Err, Bor, inl, inr, ◌⊎◌, ⊎_elim}
use Rattle.std.specs.Prelude.{filter, reverse, sum_by, is_some, option_map, IsErrAnd}
use Rattle.std.specs.Io.KnownBytes.{Appends}
use Rattle.std.proofs.KnownBytes.{Appends-nil, Appends-trans}
use Rattle.std.proofs.lemmas.Grind.{common_steps}
use Rattle.std.proofs.lemmas.List.Sums.{sum_by_push}
use Rattle.std.proofs.lemmas.List.{map-append, reverse-append, length_push}
use Rattle.std.proofs.Math.Seq.{take-append_seam}
use Rattle.flashbase.specs.Device.{PutsPart, next_count}
use Rattle.flashbase.proofs.DeviceLemmas.{part_before, part_behind}
use Rattle.jmount.specs.Tree.{ObjectOf, State, object, is_there, is_directory, has_bits, directory_bits, entries_in}
use Rattle.jmount.specs.Shown.{shown}
use Rattle.jmount.specs.Find.{way_up}
use Rattle.jmount.proofs.ShapeLemmas.{there_of_directory}
use Rattle.jreport.specs.Remembering.{Becomes, remembered}
use Rattle.jreport.specs.TreeText.{Item, Met, items_of, line_if, line_of, none_met, is_entered, met_after, todo_after, IsTextFrom, PutsPartFrom, PutsFrom}
use Rattle.jreport.specs.Walking.{IsTextOf, PutsPartOf, PutsVisit, PutsStep, PassesOn, PutsNext, GoesUp, items_up, way_of, todo_of, open_left, names_entered}
use Rattle.jreport.specs.declared.met.MetDirectories.{MetDirectories}
use Rattle.jreport.specs.declared.tree_walk.Walk.{Walk}
use Rattle.jreport.specs.declared.faults.ProgramFault.{ProgramFault}
use Rattle.jreport.specs.declared.faults.ProgramFault.TheVariants as program
use Rattle.jreport.specs.declared.faults.ProgramFault.TheVariants.{Output, OutOfMemory}
use Rattle.jreport.proofs.AheadLemmas.{names_ahead, next_ahead}
use Rattle.jreport.proofs.ListedOnceLemmas.{entered_there}
use Rattle.jreport.proofs.ListingLemmas.{has_text, next_line}
use Rattle.jreport.proofs.RememberingLemmas.{NeedsNone, becomes_same, stays_as, after_text, after_ahead, after_needs}
use Rattle.jreport.proofs.SinkLemmas.{sink_change}

-- ---- an item that is there, and one that is not

items_there : (s : State) (path : List (List ℕ)) (name : List ℕ) (i : ℕ) (names : List (List ℕ × ℕ)) → is_there s i ≡ true
    → items_of s path ((name, i) ∷ names) ≡ (path ++ name ∷ [], i) ∷ items_of s path names
items_there s path name i names there =
    ap (λ b. map (λ e. (path ++ e.0 ∷ [], e.1)) (cond b ((name, i) ∷ filter (λ e. is_there s e.1) names) (filter (λ e. is_there s e.1) names))) there

items_gone : (s : State) (path : List (List ℕ)) (name : List ℕ) (i : ℕ) (names : List (List ℕ × ℕ)) → is_there s i ≡ false
    → items_of s path ((name, i) ∷ names) ≡ items_of s path names
items_gone s path name i names gone =
    ap (λ b. map (λ e. (path ++ e.0 ∷ [], e.1)) (cond b ((name, i) ∷ filter (λ e. is_there s e.1) names) (filter (λ e. is_there s e.1) names))) gone

no_object : {X : Type 0} (o : Option X) → is_some o ≡ false → o ≡ None
no_object None gone = refl
no_object (Some x) gone = absurd (cc)

line_gone : (s : State) (met : Met) (path : List (List ℕ)) (i : ℕ) → is_there s i ≡ false → line_of s met (path, i) ≡ []
line_gone s met path i gone =
    ap (λ (o : Option (ObjectOf (List ℕ))). line_if s path i (option_map shown o) (has_bits directory_bits o && met i)) (no_object (object s i) gone)

directory_gone : (s : State) (i : ℕ) → is_there s i ≡ false → is_directory s i ≡ false
directory_gone s i gone = ap (has_bits directory_bits) (no_object (object s i) gone)

or_none : (b : Bool) → b || false ≡ b
or_none true = refl
or_none false = refl

met_gone : (s : State) (met : Met) (i : ℕ) → is_there s i ≡ false → met_after s met i ≡ met
met_gone s met i gone =
    ap (λ (d : Bool). λ (j : ℕ). met j || (d && i == j)) (directory_gone s i gone) ∙ (λ t j. or_none (met j) t)

todo_gone : (s : State) (met : Met) (path : List (List ℕ)) (i : ℕ) (todo : List Item) → is_there s i ≡ false → todo_after s met (path, i) todo ≡ todo
todo_gone s met path i todo gone =
    ap (λ (d : Bool). cond (d && not (met i)) (items_of s path (entries_in s i) ++ todo) todo) (directory_gone s i gone)

-- the text of what is still to print, where it begins with a name that leads to an object or to none
pub next_text : (s : State) (met : Met) (path : List (List ℕ)) (name : List ℕ) (i : ℕ) (names : List (List ℕ × ℕ)) (more : List Item) (rest : List ℕ)
    → IsTextOf s (met_after s met i) (todo_after s met (path ++ name ∷ [], i) (items_of s path names ++ more)) rest
    → IsTextOf s met (items_of s path ((name, i) ∷ names) ++ more) (line_of s met (path ++ name ∷ [], i) ++ rest)
next_text s met path name i names more rest is = by (is_there s i) refl
  where
    by : (there : Bool) → is_there s i ≡ there → IsTextOf s met (items_of s path ((name, i) ∷ names) ++ more) (line_of s met (path ++ name ∷ [], i) ++ rest)
    by true there =
        subst (λ (todo : List Item). IsTextOf s met (todo ++ more) (line_of s met (path ++ name ∷ [], i) ++ rest)) (sym (items_there s path name i names there))
        (next_line s met (path ++ name ∷ [], i) (items_of s path names ++ more) rest is)
    by false gone =
        subst (λ (todo : List Item). IsTextOf s met (todo ++ more) (line_of s met (path ++ name ∷ [], i) ++ rest)) (sym (items_gone s path name i names gone))
        (subst (λ (line : List ℕ). IsTextOf s met (items_of s path names ++ more) (line ++ rest)) (sym (line_gone s met (path ++ name ∷ []) i gone))
        (subst (λ (m : Met). IsTextOf s m (items_of s path names ++ more) rest) (met_gone s met i gone)
        (subst (λ (todo : List Item). IsTextOf s (met_after s met i) todo rest) (todo_gone s met (path ++ name ∷ []) i (items_of s path names ++ more) gone) is)))

-- ---- where the walk ends, or goes up

pub is_at_end : (s : State) (w n : Walk) (old : Option (List ℕ)) (before : ℕ) → w.left ≡ [] → w.above.items ≡ [] → PutsStep s w n (sink_change old old before before) (Ok false)
is_at_end s w n old before none empty = (
  ap (λ (left : List (List ℕ × ℕ)). items_up s (left ∷ reverse w.above.items) (way_of w)) none
      ∙ ap (λ (above : List (List (List ℕ × ℕ))). items_up s (reverse above) (way_up (way_of w))) empty,
  Appends-nil old,
  refl,
)

up_todo : (s : State) (w n : Walk) → w.left ≡ [] → GoesUp w n true → todo_of s w ≡ todo_of s n
up_todo s w n none up =
    ap (λ (left : List (List ℕ × ℕ)). items_up s (left ∷ reverse w.above.items) (way_of w)) none
    ∙ ap (λ (above : List (List (List ℕ × ℕ))). items_up s (reverse above) (way_up (way_of w))) up.0
    ∙ ap (λ (above : List (List (List ℕ × ℕ))). items_up s above (way_up (way_of w))) (reverse-append n.above.items (n.left ∷ []))
    ∙ ap (items_up s (n.left ∷ reverse n.above.items)) (sym up.1)

up_nearer : (s : State) (w n : Walk) → w.left ≡ [] → GoesUp w n true → open_left n < open_left w
up_nearer s w n none up =
    let left : length w.left ≡ 0 = ap length none in
    let sum : sum_by (λ left. length left) w.above.items ≡ sum_by (λ left. length left) n.above.items + length n.left =
    ap (sum_by (λ left. length left)) up.0 ∙ sum_by_push (λ left. length left) n.above.items n.left in
    let deep : length w.above.items ≡ length n.above.items + 1 = ap length up.0 ∙ length_push n.above.items n.left in
    omega arith

pub went_up : (s : State) (w n : Walk) (old : Option (List ℕ)) (before : ℕ) → w.left ≡ [] → GoesUp w n true → PutsStep s w n (sink_change old old before before) (Ok true)
went_up s w n old before none up = (
  inl (record { todo = sym (up_todo s w n none up); met = becomes_same w.met n.met up.2; nearer = up_nearer s w n none up; put = Appends-nil old }),
  refl,
)

pub goes_up : (s : State) (w n : Walk) (left : List (List ℕ × ℕ)) (up : Bool) (old : Option (List ℕ)) (before : ℕ) → w.left ≡ []
    → GoesUp (record w { left = left }) n up → PutsStep s w n (sink_change old old before before) (Ok up)
goes_up s w n left true old before none is = went_up s w n old before none is
goes_up s w n left false old before none is = is_at_end s w n old before none is

-- ---- where a name was read

-- what a walk has left, beside the directory that it reads
abbrev pub more_of : State → Walk → List Item
more_of s w = items_up s (reverse w.above.items) (way_up (way_of w))

abbrev pub item_of : Walk → List ℕ → ℕ → Item
item_of w name i = (way_of w ++ name ∷ [], i)

-- the text of a walk that read a name
read_text : (s : State) (w : Walk) (name : List ℕ) (i : ℕ) (names : List (List ℕ × ℕ)) (rest : List ℕ) → w.left ≡ (name, i) ∷ names
    → IsTextOf s (met_after s (remembered w.met) i) (todo_after s (remembered w.met) (item_of w name i) (items_of s (way_of w) names ++ more_of s w)) rest
    → IsTextOf s (remembered w.met) (todo_of s w) (line_of s (remembered w.met) (item_of w name i) ++ rest)
read_text s w name i names rest read is =
    subst (λ (left : List (List ℕ × ℕ)). IsTextOf s (remembered w.met) (items_of s (way_of w) left ++ more_of s w) (line_of s (remembered w.met) (item_of w name i) ++ rest))
    (sym read) (next_text s (remembered w.met) (way_of w) name i names (more_of s w) rest is)

-- what is still to print, where the name leads to an object
read_there : (s : State) (w : Walk) (name : List ℕ) (i : ℕ) (names : List (List ℕ × ℕ)) → w.left ≡ (name, i) ∷ names → is_there s i ≡ true
    → todo_of s w ≡ item_of w name i ∷ (items_of s (way_of w) names ++ more_of s w)
read_there s w name i names read there =
    ap (λ (left : List (List ℕ × ℕ)). items_of s (way_of w) left ++ more_of s w) read
    ∙ ap (λ (items : List Item). items ++ more_of s w) (items_there s (way_of w) name i names there)

-- and where it leads to none
read_gone : (s : State) (w : Walk) (name : List ℕ) (i : ℕ) (names : List (List ℕ × ℕ)) → w.left ≡ (name, i) ∷ names → is_there s i ≡ false
    → todo_of s w ≡ items_of s (way_of w) names ++ more_of s w
read_gone s w name i names read gone =
    ap (λ (left : List (List ℕ × ℕ)). items_of s (way_of w) left ++ more_of s w) read
    ∙ ap (λ (items : List Item). items ++ more_of s w) (items_gone s (way_of w) name i names gone)

more : (a b k : ℕ) → a < b → a < b + 2 * k
more a b k less = omega (arith, less)

-- the walk goes on in the same directory
pub stays : (s : State) (w n : Walk) (name : List ℕ) (i : ℕ) (old new : Option (List ℕ)) (before now : ℕ) → w.left ≡ (name, i) ∷ n.left
    → n.above.items ≡ w.above.items → way_of n ≡ way_of w → PutsVisit s w.met n.met (item_of w name i) (sink_change old new before now) (Ok false)
    → PutsStep s w n (sink_change old new before now) (Ok true)
stays s w n name i old new before now read above way put = (by (is_there s i) refl, put.3)
  where
    rest : todo_of s n ≡ items_of s (way_of w) n.left ++ more_of s w
    rest =
        ap (items_up s (n.left ∷ reverse n.above.items)) way
        ∙ ap (λ (above : List (List (List ℕ × ℕ))). items_up s (n.left ∷ reverse above) (way_of w)) above

    after : todo_after s (remembered w.met) (item_of w name i) (items_of s (way_of w) n.left ++ more_of s w) ≡ items_of s (way_of w) n.left ++ more_of s w
    after =
        ap (λ (b : Bool). cond b (items_of s (item_of w name i).0 (entries_in s i) ++ (items_of s (way_of w) n.left ++ more_of s w)) (items_of s (way_of w) n.left ++ more_of s w)) (sym put.0)

    nearer : open_left n < open_left w
    nearer =
        let left : length w.left ≡ length n.left + 1 = ap length read ∙ omega arith in
        let sum : sum_by (λ left. length left) n.above.items ≡ sum_by (λ left. length left) w.above.items = ap (sum_by (λ left. length left)) above in
        let deep : length n.above.items ≡ length w.above.items = ap length above in
        omega arith

    by : (there : Bool) → is_there s i ≡ there → PassesOn s w n old new ⊎ PutsNext s w n old new
    by true there = inr (record {
      item = item_of w name i;
      rest = items_of s (way_of w) n.left ++ more_of s w;
      todo = read_there s w name i n.left read there;
      todo_then = rest ∙ sym after;
      met = put.1;
      nearer = more (open_left n) (open_left w) (names_entered s (remembered w.met) i) nearer;
      put = put.2;
    })
    by false gone = inl (record {
      todo = rest ∙ sym (read_gone s w name i n.left read gone);
      met = subst (λ (m : Met). Becomes w.met n.met m) (met_gone s (remembered w.met) i gone) put.1;
      nearer = nearer;
      put = subst (Appends old new) (line_gone s (remembered w.met) (way_of w ++ name ∷ []) i gone) put.2;
    })

-- the walk goes on in the directory that the name leads to
pub enters : (s : State) (w n : Walk) (name : List ℕ) (i : ℕ) (names : List (List ℕ × ℕ)) (old new : Option (List ℕ)) (before now : ℕ) → w.left ≡ (name, i) ∷ names
    → n.left ≡ entries_in s i → n.above.items ≡ w.above.items ++ names ∷ [] → way_of n ≡ way_of w ++ name ∷ []
    → PutsVisit s w.met n.met (item_of w name i) (sink_change old new before now) (Ok true) → PutsStep s w n (sink_change old new before now) (Ok true)
enters s w n name i names old new before now read left above way put =
    let there : is_there s i ≡ true = there_of_directory s i (entered_there s (remembered w.met) i (sym put.0)) in
    let back : way_up (way_of n) ≡ way_of w =
    ap way_up way
    ∙ ap (λ (k : ℕ). take k (way_of w ++ name ∷ [])) {x = length (way_of w ++ name ∷ []) - 1} {y = length (way_of w)} (omega (arith, length_push (way_of w) name))
    ∙ take-append_seam (way_of w) (name ∷ []) in
    let reversed : reverse n.above.items ≡ names ∷ reverse w.above.items = ap reverse above ∙ reverse-append w.above.items (names ∷ []) in
    let todo : todo_after s (remembered w.met) (item_of w name i) (items_of s (way_of w) names ++ more_of s w) ≡ todo_of s n =
    ap (λ (b : Bool). cond b (items_of s (item_of w name i).0 (entries_in s i) ++ (items_of s (way_of w) names ++ more_of s w)) (items_of s (way_of w) names ++ more_of s w)) (sym put.0)
    ∙ ap (λ (p : List (List ℕ)). items_of s (item_of w name i).0 (entries_in s i) ++ items_up s (names ∷ reverse w.above.items) p) (sym back)
    ∙ ap (λ (l : List (List (List ℕ × ℕ))). items_of s (item_of w name i).0 (entries_in s i) ++ items_up s l (way_up (way_of n))) (sym reversed)
    ∙ ap (λ (l : List (List ℕ × ℕ)). items_of s (item_of w name i).0 l ++ items_up s (reverse n.above.items) (way_up (way_of n))) (sym left)
    ∙ ap (λ (p : List (List ℕ)). items_of s p n.left ++ items_up s (reverse n.above.items) (way_up (way_of n))) (sym way) in
    let own : length n.left ≡ length (entries_in s i) = ap length left in
    let entered : names_entered s (remembered w.met) i ≡ length (entries_in s i) = ap (λ (b : Bool). cond b (length (entries_in s i)) 0) (sym put.0) in
    let one : length w.left ≡ length names + 1 = ap length read ∙ omega arith in
    let sum : sum_by (λ left. length left) n.above.items ≡ sum_by (λ left. length left) w.above.items + length names =
    ap (sum_by (λ left. length left)) above ∙ sum_by_push (λ left. length left) w.above.items names in
    let deep : length n.above.items ≡ length w.above.items + 1 = ap length above ∙ length_push w.above.items names in
    let near : open_left n < open_left w + 2 * length (entries_in s i) = omega arith in (
      inr (record {
        item = item_of w name i;
        rest = items_of s (way_of w) names ++ more_of s w;
        todo = read_there s w name i names read there;
        todo_then = sym todo;
        met = put.1;
        nearer = subst (λ (k : ℕ). open_left n < open_left w + 2 * k) (sym entered) near;
        put = put.2;
      }),
      put.3,
    )

-- ---- where memory runs out, or the sink fails

pub nothing_put : (s : State) (w n : Walk) (old : Option (List ℕ)) (before : ℕ) → PutsStep s w n (sink_change old old before before) (Err OutOfMemory)
nothing_put s w n old before = let whole = has_text s (remembered w.met) (todo_of s w) in ((whole.0, whole.1, (0, Appends-nil old)), refl)

-- a beginning of what a name leads to went out
line_part : (s : State) (w : Walk) (name : List ℕ) (i : ℕ) (names : List (List ℕ × ℕ)) (old new : Option (List ℕ)) → w.left ≡ (name, i) ∷ names
    → PutsPart old new (line_of s (remembered w.met) (item_of w name i)) → PutsPartOf s (remembered w.met) (todo_of s w) old new
line_part s w name i names old new read part =
    let whole = has_text s (met_after s (remembered w.met) i) (todo_after s (remembered w.met) (item_of w name i) (items_of s (way_of w) names ++ more_of s w)) in
    let line = line_of s (remembered w.met) (item_of w name i) in
    (line ++ whole.0, read_text s w name i names whole.0 read whole.1, part_before old new line whole.0 part)

whole_part : (old new : Option (List ℕ)) (line : List ℕ) → Appends old new line → PutsPart old new line
whole_part old new line put = (length line, subst (Appends old new) (sym (take_whole line)) put)
  where
    take_whole : (xs : List ℕ) → take (length xs) xs ≡ xs
    take_whole xs = grind (arith, common_steps)

pub line_put : (s : State) (w n : Walk) (name : List ℕ) (i : ℕ) (names : List (List ℕ × ℕ)) (set : MetDirectories) (entered : Bool) (old new : Option (List ℕ)) (before now : ℕ)
    → w.left ≡ (name, i) ∷ names → PutsVisit s w.met set (item_of w name i) (sink_change old new before now) (Ok entered)
    → PutsStep s w n (sink_change old new before now) (Err OutOfMemory)
line_put s w n name i names set entered old new before now read put =
    (line_part s w name i names old new read (whole_part old new _ put.2), put.3)

pub line_failed : (s : State) (w n : Walk) (name : List ℕ) (i : ℕ) (names : List (List ℕ × ℕ)) (set : MetDirectories) (fault : ProgramFault) (old new : Option (List ℕ)) (before now : ℕ)
    → w.left ≡ (name, i) ∷ names → PutsVisit s w.met set (item_of w name i) (sink_change old new before now) (Err fault)
    → PutsStep s w n (sink_change old new before now) (Err fault)
line_failed s w n name i names set Output old new before now read put = (line_part s w name i names old new read put.0, put.1)
line_failed s w n name i names set OutOfMemory old new before now read put =
    (line_part s w name i names old new read (0, put.0), put.1)
line_failed s w n name i names set (program.Load f) old new before now read put = absurd put
line_failed s w n name i names set (program.Scan f) old new before now read put = absurd put
line_failed s w n name i names set (program.Mount f) old new before now read put = absurd put
line_failed s w n name i names set (program.File f) old new before now read put = absurd put
line_failed s w n name i names set (program.NotRead f) old new before now read put = absurd put
line_failed s w n name i names set (program.Listing line) old new before now read put = absurd put
line_failed s w n name i names set (program.Session fault line cause) old new before now read put = absurd put
line_failed s w n name i names set (program.Path f) old new before now read put = absurd put
line_failed s w n name i names set program.NotRegular old new before now read put = absurd put
line_failed s w n name i names set (program.NoSpace folder) old new before now read put = absurd put
line_failed s w n name i names set (program.Data addr) old new before now read put = absurd put
line_failed s w n name i names set (program.TooLong addr) old new before now read put = absurd put
line_failed s w n name i names set (program.Image why) old new before now read put = absurd put
line_failed s w n name i names set (program.Clash addr other) old new before now read put = absurd put

pub step_failed : (s : State) (w n : Walk) (old new : Option (List ℕ)) (before now : ℕ) (r : Result Bool ProgramFault) (fault : ProgramFault)
    → IsErrAnd r (λ e. e ≡ fault) → PutsStep s w n (sink_change old new before now) (Err fault) → PutsStep s w n (sink_change old new before now) r
step_failed s w n old new before now (Ok x) fault is put = absurd is
step_failed s w n old new before now (Err e) fault is put = subst (λ (y : ProgramFault). PutsStep s w n (sink_change old new before now) (Err y)) (sym is) put

-- ---- the way to an item

pub way_on : (w : Walk) (name : Bor (List ℕ)) (path pushed : List (Bor (List ℕ))) → path ≡ pushed → pushed ≡ w.path.items ++ name ∷ [] → map (λ n. n.now) path ≡ way_of w ++ name.now ∷ []
way_on w name path pushed same is = ap (map (λ n. n.now)) (same ∙ is) ∙ map-append (λ n. n.now) w.path.items (name ∷ [])

pub way_back : (w : Walk) (name : Bor (List ℕ)) (pushed popped : List (Bor (List ℕ))) → pushed ≡ w.path.items ++ name ∷ [] → popped ≡ take (length pushed - 1) pushed
    → map (λ n. n.now) popped ≡ way_of w
way_back w name pushed popped is cut =
    let one : length pushed - 1 ≡ length w.path.items = omega (arith, ap length is ∙ length_push w.path.items name) in
    ap (map (λ n. n.now)) (cut ∙ ap (λ (k : ℕ). take k pushed) one ∙ ap (take (length w.path.items)) is ∙ take-append_seam w.path.items (name ∷ []))

pub visit_at : (s : State) (set set_after : MetDirectories) (path way : List (List ℕ)) (i : ℕ) (old new : Option (List ℕ)) (before now : ℕ) (r : Result Bool ProgramFault)
    → path ≡ way → PutsVisit s set set_after (path, i) (sink_change old new before now) r → PutsVisit s set set_after (way, i) (sink_change old new before now) r
visit_at s set set_after path way i old new before now r is put =
    subst (λ (p : List (List ℕ)). PutsVisit s set set_after (p, i) (sink_change old new before now) r) is put

-- ---- from an object on

-- what went out, and the text of what a walk has still to print, make the text from that object on
abbrev pub Reaches : State → Item → Walk → Option (List ℕ) → Option (List ℕ) → Type 0
Reaches s item w old new =
    (text : List ℕ) × Appends old new text
    × ((rest : List ℕ) → IsTextOf s (remembered w.met) (todo_of s w) rest → IsTextFrom s item (text ++ rest))

-- the object was visited, and is entered
here : (s : State) (item : Item) (w : Walk) (met : MetDirectories) → way_of w ≡ item.0 → w.left ≡ entries_in s item.1 → w.above.items ≡ [] → true ≡ is_entered s (remembered met) item.1
    → todo_of s w ≡ todo_after s (remembered met) item []
here s item w met path left above entered =
    ap (λ (p : List (List ℕ)). items_up s (w.left ∷ reverse w.above.items) p) path
    ∙ ap (λ (l : List (List ℕ × ℕ)). items_up s (l ∷ reverse w.above.items) item.0) left
    ∙ ap (λ (l : List (List (List ℕ × ℕ))). items_up s (entries_in s item.1 ∷ reverse l) item.0) above
    ∙ ap (λ (b : Bool). cond b (items_of s item.0 (entries_in s item.1) ++ []) []) entered

pub first_entered : (s : State) (item : Item) (w : Walk) (met : MetDirectories) (old new : Option (List ℕ)) (before now : ℕ) → remembered met ≡ none_met
    → NeedsNone s met (item ∷ []) → way_of w ≡ item.0 → w.left ≡ entries_in s item.1 → w.above.items ≡ []
    → PutsVisit s met w.met item (sink_change old new before now) (Ok true) → Reaches s item w old new
first_entered s item w met old new before now none needs path left above put = (
  line_of s (remembered met) item,
  put.2,
  λ rest is.
      subst (λ (m : Met). IsTextOf s m (item ∷ []) (line_of s (remembered met) item ++ rest)) none
      (next_line s (remembered met) item [] rest
      (after_text s met w.met item [] rest needs put.1
      (subst (λ (todo : List Item). IsTextOf s (remembered w.met) todo rest) (here s item w met path left above put.0) is))),
)

pub first_needs : (s : State) (item : Item) (w : Walk) (met : MetDirectories) (old new : Option (List ℕ)) (before now : ℕ) → NeedsNone s met (item ∷ [])
    → way_of w ≡ item.0 → w.left ≡ entries_in s item.1 → w.above.items ≡ [] → PutsVisit s met w.met item (sink_change old new before now) (Ok true)
    → NeedsNone s w.met (todo_of s w)
first_needs s item w met old new before now needs path left above put =
    subst (NeedsNone s w.met) (sym (here s item w met path left above put.0)) (after_needs s met w.met item [] needs put.1)

pub first_alone : {T : Type 0} (s : State) (item : Item) (met met_then : MetDirectories) (old new : Option (List ℕ)) (before now : ℕ) (x : T) → remembered met ≡ none_met
    → PutsVisit s met met_then item (sink_change old new before now) (Ok false) → PutsFrom s item (sink_change old new before now) (Ok x)
first_alone s item met met_then old new before now x none put = (
  line_of s (remembered met) item ++ [],
  subst (λ (m : Met). IsTextOf s m (item ∷ []) (line_of s (remembered met) item ++ [])) none
      (next_line s (remembered met) item [] []
      (subst (λ (b : Bool). IsTextOf s (met_after s (remembered met) item.1) (cond b (items_of s item.0 (entries_in s item.1) ++ []) []) []) put.0 ([], refl, refl))),
  subst (Appends old new) (sym (append-nil (line_of s (remembered met) item))) put.2,
  put.3,
)

-- a beginning of the first line went out
first_part : (s : State) (item : Item) (met : MetDirectories) (old new : Option (List ℕ)) → remembered met ≡ none_met → PutsPart old new (line_of s (remembered met) item)
    → PutsPartFrom s item old new
first_part s item met old new none part =
    let line = line_of s none_met item in
    let rest = has_text s (met_after s none_met item.1) (todo_after s none_met item []) in (
      line ++ rest.0,
      next_line s none_met item [] rest.0 rest.1,
      part_before old new line rest.0 (subst (λ (m : Met). PutsPart old new (line_of s m item)) none part),
    )

-- nothing went out
pub none_put : (s : State) (item : Item) (old : Option (List ℕ)) → PutsPartFrom s item old old
none_put s item old = let whole = has_text s none_met (item ∷ []) in (whole.0, whole.1, (0, Appends-nil old))

pub first_failed : (T : Type 0) (s : State) (item : Item) (empty set : MetDirectories) (fault : ProgramFault) (old new : Option (List ℕ)) (before now : ℕ) → remembered empty ≡ none_met
    → PutsVisit s empty set item (sink_change old new before now) (Err fault) → PutsFrom {T = T} s item (sink_change old new before now) (Err fault)
first_failed T s item empty set Output old new before now none put = (first_part s item empty old new none put.0, put.1)
first_failed T s item empty set OutOfMemory old new before now none put = (first_part s item empty old new none (0, put.0), put.1)
first_failed T s item empty set (program.Load f) old new before now none put = absurd put
first_failed T s item empty set (program.Scan f) old new before now none put = absurd put
first_failed T s item empty set (program.Mount f) old new before now none put = absurd put
first_failed T s item empty set (program.File f) old new before now none put = absurd put
first_failed T s item empty set (program.NotRead f) old new before now none put = absurd put
first_failed T s item empty set (program.Listing line) old new before now none put = absurd put
first_failed T s item empty set (program.Session fault line cause) old new before now none put = absurd put
first_failed T s item empty set (program.Path f) old new before now none put = absurd put
first_failed T s item empty set program.NotRegular old new before now none put = absurd put
first_failed T s item empty set (program.NoSpace folder) old new before now none put = absurd put
first_failed T s item empty set (program.Data addr) old new before now none put = absurd put
first_failed T s item empty set (program.TooLong addr) old new before now none put = absurd put
first_failed T s item empty set (program.Image why) old new before now none put = absurd put
first_failed T s item empty set (program.Clash addr other) old new before now none put = absurd put

-- the text of what is left makes that of what was left before
passed_text : (s : State) (w n : Walk) (a b : Option (List ℕ)) → PassesOn s w n a b → (rest : List ℕ) → IsTextOf s (remembered n.met) (todo_of s n) rest
    → IsTextOf s (remembered w.met) (todo_of s w) rest
passed_text s w n a b passed rest is =
    subst (λ (m : Met). IsTextOf s m (todo_of s w) rest) (stays_as w.met n.met passed.met) (subst (λ (todo : List Item). IsTextOf s (remembered n.met) todo rest) passed.todo is)

put_text : (s : State) (w n : Walk) (a b : Option (List ℕ)) → NeedsNone s w.met (todo_of s w) → (next : PutsNext s w n a b) → (rest : List ℕ) → IsTextOf s (remembered n.met) (todo_of s n) rest
    → IsTextOf s (remembered w.met) (todo_of s w) (line_of s (remembered w.met) next.item ++ rest)
put_text s w n a b needs next rest is =
    subst (λ (todo : List Item). IsTextOf s (remembered w.met) todo (line_of s (remembered w.met) next.item ++ rest)) (sym next.todo)
    (next_line s (remembered w.met) next.item next.rest rest
    (after_text s w.met n.met next.item next.rest rest (subst (NeedsNone s w.met) next.todo needs) next.met
    (subst (λ (todo : List Item). IsTextOf s (remembered n.met) todo rest) next.todo_then is)))

pub steps_on : (s : State) (item : Item) (w n : Walk) (a b c : Option (List ℕ)) (before now : ℕ) → NeedsNone s w.met (todo_of s w) → Reaches s item w a b
    → PutsStep s w n (sink_change b c before now) (Ok true) → Reaches s item n a c
steps_on s item w n a b c before now needs far put = ⊎_elim passed next put.0
  where
    on : (line : List ℕ) → Appends b c line → ((rest : List ℕ) → IsTextOf s (remembered n.met) (todo_of s n) rest → IsTextOf s (remembered w.met) (todo_of s w) (line ++ rest)) → Reaches s item n a c
    on line puts before = (
      far.0 ++ line,
      Appends-trans a b c far.0 line far.1 puts,
      λ rest is. subst (IsTextFrom s item) (sym (append_assoc far.0 line rest)) (far.2 (line ++ rest) (before rest is)),
    )

    passed : PassesOn s w n b c → Reaches s item n a c
    passed p = on [] p.put (passed_text s w n b c p)

    next : PutsNext s w n b c → Reaches s item n a c
    next p = on (line_of s (remembered w.met) p.item) p.put (put_text s w n b c needs p)

pub needs_on : (s : State) (w n : Walk) (a b : Option (List ℕ)) (before now : ℕ) → NeedsNone s w.met (todo_of s w) → PutsStep s w n (sink_change a b before now) (Ok true)
    → NeedsNone s n.met (todo_of s n)
needs_on s w n a b before now needs put = ⊎_elim passed next put.0
  where
    passed : PassesOn s w n a b → NeedsNone s n.met (todo_of s n)
    passed p = subst (NeedsNone s n.met) (sym p.todo) (λ is. needs (sym p.met.0 ∙ is))

    next : PutsNext s w n a b → NeedsNone s n.met (todo_of s n)
    next p = subst (NeedsNone s n.met) (sym p.todo_then) (after_needs s w.met n.met p.item p.rest (subst (NeedsNone s w.met) p.todo needs) p.met)

-- how far it is to the end
abbrev pub steps_left : State → Walk → ℕ
steps_left s w = 2 * names_ahead s (remembered w.met) (todo_of s w) + open_left w

as_far : (ahead was left before : ℕ) → ahead ≡ was → left < before → 2 * ahead + left < 2 * was + before
as_far ahead was left before same less = omega (arith, same, less)

less_far : (ahead entered was left before : ℕ) → was ≡ entered + ahead → left < before + 2 * entered → 2 * ahead + left < 2 * was + before
less_far ahead entered was left before same less = omega (arith, same, less)

pub comes_nearer : (s : State) (w n : Walk) (a b : Option (List ℕ)) (before now : ℕ) → NeedsNone s w.met (todo_of s w) → PutsStep s w n (sink_change a b before now) (Ok true)
    → steps_left s n < steps_left s w
comes_nearer s w n a b before now needs put = ⊎_elim passed next put.0
  where
    passed : PassesOn s w n a b → steps_left s n < steps_left s w
    passed p =
        as_far (names_ahead s (remembered n.met) (todo_of s n)) (names_ahead s (remembered w.met) (todo_of s w)) (open_left n) (open_left w)
        (ap (names_ahead s (remembered n.met)) p.todo ∙ ap (λ (m : Met). names_ahead s m (todo_of s w)) (stays_as w.met n.met p.met)) p.nearer

    next : PutsNext s w n a b → steps_left s n < steps_left s w
    next p =
        less_far (names_ahead s (remembered n.met) (todo_of s n)) (names_entered s (remembered w.met) p.item.1) (names_ahead s (remembered w.met) (todo_of s w)) (open_left n) (open_left w)
        (ap (names_ahead s (remembered w.met)) p.todo ∙ next_ahead s (remembered w.met) p.item p.rest
        ∙ ap (λ (k : ℕ). names_entered s (remembered w.met) p.item.1 + k)
        (sym (ap (names_ahead s (remembered n.met)) p.todo_then ∙ after_ahead s w.met n.met p.item p.rest (subst (NeedsNone s w.met) p.todo needs) p.met)))
        p.nearer

pub all_steps : {T : Type 0} (s : State) (item : Item) (w n : Walk) (a b c : Option (List ℕ)) (first before now : ℕ) (x : T) → Reaches s item w a b → before ≡ first
    → PutsStep s w n (sink_change b c before now) (Ok false) → PutsFrom s item (sink_change a c first now) (Ok x)
all_steps s item w n a b c first before now x far same put = (
  far.0 ++ [],
  far.2 [] (subst (λ (todo : List Item). IsTextOf s (remembered w.met) todo []) (sym put.0) ([], refl, refl)),
  Appends-trans a b c far.0 [] far.1 put.1,
  put.2 ∙ same,
)

whole_of_part : (s : State) (item : Item) (w : Walk) (a b c : Option (List ℕ)) → Reaches s item w a b → PutsPartOf s (remembered w.met) (todo_of s w) b c → PutsPartFrom s item a c
whole_of_part s item w a b c far part = (far.0 ++ part.0, far.2 part.0 part.1, part_behind a b c far.0 part.0 far.1 part.2)

pub stopped : (T : Type 0) (s : State) (item : Item) (w n : Walk) (fault : ProgramFault) (a b c : Option (List ℕ)) (first before now : ℕ) → Reaches s item w a b → before ≡ first
    → PutsStep s w n (sink_change b c before now) (Err fault) → PutsFrom {T = T} s item (sink_change a c first now) (Err fault)
stopped T s item w n Output a b c first before now far same put = (whole_of_part s item w a b c far put.0, put.1 ∙ ap next_count same)
stopped T s item w n OutOfMemory a b c first before now far same put = (whole_of_part s item w a b c far put.0, put.1 ∙ same)
stopped T s item w n (program.Load f) a b c first before now far same put = absurd put
stopped T s item w n (program.Scan f) a b c first before now far same put = absurd put
stopped T s item w n (program.Mount f) a b c first before now far same put = absurd put
stopped T s item w n (program.File f) a b c first before now far same put = absurd put
stopped T s item w n (program.NotRead f) a b c first before now far same put = absurd put
stopped T s item w n (program.Listing line) a b c first before now far same put = absurd put
stopped T s item w n (program.Session fault line cause) a b c first before now far same put = absurd put
stopped T s item w n (program.Path f) a b c first before now far same put = absurd put
stopped T s item w n program.NotRegular a b c first before now far same put = absurd put
stopped T s item w n (program.NoSpace folder) a b c first before now far same put = absurd put
stopped T s item w n (program.Data addr) a b c first before now far same put = absurd put
stopped T s item w n (program.TooLong addr) a b c first before now far same put = absurd put
stopped T s item w n (program.Image why) a b c first before now far same put = absurd put
stopped T s item w n (program.Clash addr other) a b c first before now far same put = absurd put

pub tree_failed : {T : Type 0} (s : State) (item : Item) (old new : Option (List ℕ)) (before now : ℕ) (r : Result T ProgramFault) (fault : ProgramFault)
    → IsErrAnd r (λ e. e ≡ fault) → PutsFrom {T = T} s item (sink_change old new before now) (Err fault) → PutsFrom s item (sink_change old new before now) r
tree_failed s item old new before now (Ok x) fault is put = absurd is
tree_failed {T} s item old new before now (Err e) fault is put = subst (λ (y : ProgramFault). PutsFrom {T = T} s item (sink_change old new before now) (Err y)) (sym is) put
