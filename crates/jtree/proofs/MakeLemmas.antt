-- The operation of a new object, and what it reaches.
use Rattle.std.proofs.Common.{◌≡◌, ◌≢◌, ℕ, suc, ◌+◌, ◌-◌, ◌*◌, ◌/◌, ◌<◌, ◌≤◌, Bool, true, false, cond, List, [], ◌∷◌, ◌++◌, length, take, drop, Option, Some, None, Result, Ok, refl, ap, sym, ◌∙◌, subst, ⊎_elim, length-append, length-drop, arith}
use Rattle.std.specs.Prelude.{◌==◌, flat_map, nat_lt}
use Rattle.std.specs.List.{list_any, AllByRecursion}
use Rattle.std.specs.Ordering.{eq_by_cmp, nat_cmp}
use Rattle.std.specs.Cmp.{nat_cmp_total}
use Rattle.std.specs.FinMap.{get, insert, get-insert}
use Rattle.std.proofs.lemmas.Bool.{cond-true}
use Rattle.std.proofs.lemmas.List.{take-append-drop}
use Rattle.jmount.specs.Device.{number_held, device_held}
use Rattle.jmount.specs.Tree.{ObjectOf, State, named, object, is_device, is_directory}
use Rattle.jmount.specs.Find.{walk}
use Rattle.jmount.specs.declared.fault.FindFault.{FindFault}
use Rattle.jmount.specs.declared.object.DeviceBytes.{DeviceBytes}
use Rattle.jmount.proofs.ObjectsLemmas.{held_none}
use Rattle.jmount.proofs.ShapeLemmas.{there_of_directory}
use Rattle.jsteps.specs.Nodes.{Indexed, nodes_of}
use Rattle.jscan.specs.Pages.{IsPage}
use Rattle.jsteps.specs.Planning.{bytes_steps, first_len, page_puts, piece_puts, plain_page, puts, spelling_len, steps_of, write_steps, zeros_to}
use Rattle.jsteps.specs.Refusals.{is_exhausted, is_past}
use Rattle.jsteps.specs.Laws.{OpFits}
use Rattle.jsteps.specs.Steps.{bytes, do_step, after, own_bytes}
use Rattle.jsteps.specs.Where.{last_name, end_or_zero}
use Rattle.jsteps.specs.declared.op.Op.{Op}
use Rattle.jsteps.specs.declared.op.Op.TheVariants as op
use Rattle.jsteps.specs.declared.step.Step.{Step}
use Rattle.jsteps.specs.declared.step.Step.TheVariants as step
use Rattle.jsteps.proofs.ConsistentLemmas.{root_below}
use Rattle.jsteps.proofs.OwnLemmas.{own_of, regular_is_plain}
use Rattle.jsteps.proofs.PlanLemmas.{first_taken_len}
use Rattle.jtree.proofs.AcceptLemmas.{IsFree, accept}
use Rattle.jtree.proofs.AppendLemmas.{after-append, write_appends, write_few}
use Rattle.jtree.proofs.CountLemmas.{HasOwner, none_past}
use Rattle.jtree.proofs.RewriteLemmas.{insert_other, itself, untied}
use Rattle.jtree.proofs.RoomLemmas.{HasRoom, Passes}
use Rattle.jtree.proofs.WayLemmas.{IsPlaced, has_long, walk_extends}
use Rattle.jtree.proofs.StandLemmas.{Made, Stands}
use Rattle.jtree.proofs.GainLemmas.{Makes, own, new_gains, new_stands}
use Rattle.jtree.proofs.NodesLemmas.{IsOn, inodes_at, made_elsewhere}
use Rattle.jtree.proofs.RunLemmas.{IsAt, Reaches, at_next, at_numbered, reaches_one}

pub some_numbers : (n : ℕ) (x : Indexed) (s : State) → IsAt n x s → 1 < s.next
some_numbers n x s at =
    let some : 1 < x.tree.next = root_below x at.same in
    let next : x.tree.next ≡ s.next = at_next n x s at in
    omega arith

-- numbers in use are few
pub few_numbers : (n : ℕ) (x : Indexed) (s : State) → IsAt n x s → (i : ℕ) → i < s.next → n + 2 ≤ 0xFFFFFFFF → i ≤ 0xFFFFFFFF
few_numbers n x s at i below few =
    let next : x.tree.next ≡ s.next = at_next n x s at in
    let most : x.tree.next ≤ n + 2 = at.counted.next in
    omega arith

abbrev pub new_object : ℕ → ℕ → ℕ → ℕ → Option DeviceBytes → List ℕ → ObjectOf (List ℕ)
new_object time mode uid gid device target = record { mode = mode; uid = uid; gid = gid; atime = time; mtime = time; ctime = time; device = device; body = target }

-- so few steps spend no number and no version
pub not_spent : (page n : ℕ) (x : Indexed) (s : State) (o : Op) (steps : List Step) → IsAt n x s → steps_of page x.tree o ≡ steps → AllByRecursion HasOwner steps
    → n + length steps + 2 ≤ 0xFFFFFFFF → is_exhausted page x o ≡ false
not_spent page n x s o steps at are owners few = ap (λ ss. list_any is_past (nodes_of x ss)) are ∙ none_past n x steps at.counted owners few

-- an operation that makes one object and its name, by as many steps as it takes
abbrev pub made_reaches : (page n : ℕ) (x : Indexed) (s : State) (o : Op) (steps : List Step) (new : ObjectOf (List ℕ)) (way : List (List ℕ)) (name : List ℕ)
    (dir : ℕ) (root : ObjectOf (List ℕ)) (made : List Made) (most : ℕ)
    → IsPage page → IsAt n x s → Stands root made s → OpFits o → IsFree page x o
    → steps_of page x.tree o ≡ steps → is_exhausted page x o ≡ false → Makes s (after bytes s steps) dir name new → length steps ≤ most
    → walk s way (Ok 1) ≡ Ok dir → is_directory s dir ≡ true → named s dir name ≡ None → has_long (way ++ name ∷ []) ≡ false
    → ((k : ℕ) → k ≢ s.next → inodes_at x steps k ≡ [])
    → Reaches page n x s (o ∷ []) root (made ++ own (way ++ name ∷ []) new ∷ []) most
made_reaches page n x s o steps new way name dir root made most is_page at stands fits is_free are room makes short leads there free few_names alone =
    let t = after bytes s steps in
    let gains = new_gains s t dir name new makes (at_numbered n x s at) free in
    let next : t.next ≡ s.next + 1 = makes.next in
    reaches_one page n x s o steps root (made ++ own (way ++ name ∷ []) new ∷ []) most is_page at fits
    (accept page x o steps is_free are room)
    (new_stands root made s (after bytes s steps) way name dir new stands (some_numbers n x s at) makes (at_numbered n x s at) leads there free few_names)
    short
    (record {
      next = gains.next;
      keeps = λ names k some e. walk_extends s t names 1 k gains.extends e;
      kept = λ k some less. let under : k < s.next = less in alone k (λ (e : k ≡ s.next). omega arith);
      fresh = λ k some le. let over : t.next ≤ k = le in alone k (λ (e : k ≡ s.next). omega arith);
    })

-- ---- an object whose bytes are all in its first node

-- no bytes are no bytes of any object
pub own_none : (mode : ℕ) → own_bytes mode [] ≡ []
unfolding own_bytes
own_none mode = none (is_device mode)
  where
    none : (b : Bool) → ◌≡◌ {A = List ℕ} (cond b [] []) []
    none true = refl
    none false = refl

-- and nothing is the number of no device
pub held_nothing : (mode : ℕ) → device_held mode [] ≡ None
unfolding device_held
held_nothing mode = none (is_device mode)
  where
    none : (b : Bool) → cond b (number_held []) None ≡ None
    none true = refl
    none false = refl

pub make_makes : (s : State) (time mode uid gid : ℕ) (held body : List ℕ) (device : Option DeviceBytes) (dir : ℕ) (name : List ℕ) → own_bytes mode held ≡ body → device_held mode held ≡ device
    → Makes s (after bytes s (step.MakeObject time mode uid gid held ∷ step.SetName time dir name s.next ∷ [])) dir name (new_object time mode uid gid device body)
make_makes s time mode uid gid held body device dir name same numbered =
    let o = new_object time mode uid gid (device_held mode held) (own_bytes mode held) in
    record {
      names = refl;
      next = refl;
      now = get-insert nat_cmp_total s.objects s.next o s.next
          ∙ cond-true (eq_by_cmp nat_cmp s.next s.next) (Some o) (get s.objects s.next) (itself s.next)
          ∙ (λ i. Some (new_object time mode uid gid (numbered i) (same i)));
      others = λ k other. get-insert nat_cmp_total s.objects s.next o k
          ∙ insert_other (eq_by_cmp nat_cmp k s.next) o (get s.objects k) (untied k s.next other);
    }

abbrev pub make_reaches : (page n : ℕ) (x : Indexed) (s : State) (o : Op) (time mode uid gid : ℕ) (target body : List ℕ) (same : own_bytes mode target ≡ body) (device : Option DeviceBytes) (numbered : device_held mode target ≡ device) (way : List (List ℕ)) (name : List ℕ)
    (dir : ℕ) (root : ObjectOf (List ℕ)) (made : List Made)
    → IsPage page → IsAt n x s → Stands root made s → OpFits o → IsFree page x o
    → steps_of page x.tree o ≡ step.MakeObject time mode uid gid target ∷ step.SetName time dir name x.tree.next ∷ []
    → walk s way (Ok 1) ≡ Ok dir → is_directory s dir ≡ true → named s dir name ≡ None → has_long (way ++ name ∷ []) ≡ false → HasRoom n page x o
    → Reaches page n x s (o ∷ []) root (made ++ own (way ++ name ∷ []) (new_object time mode uid gid device body) ∷ []) 2
make_reaches page n x s o time mode uid gid target body same device numbered way name dir root made is_page at stands fits is_free are leads there free short has =
    let steps = step.MakeObject time mode uid gid target ∷ step.SetName time dir name s.next ∷ [] in
    let all : steps_of page x.tree o ≡ steps = are ∙ ap (λ i. step.MakeObject time mode uid gid target ∷ step.SetName time dir name i ∷ [])
    (at_next n x s at) in
    let room : is_exhausted page x o ≡ false =
    ⊎_elim
    (λ (few : n + 4 ≤ 0xFFFFFFFF).
    let owner : dir ≤ 0xFFFFFFFF = few_numbers n x s at dir (at_numbered n x s at dir (there_of_directory s dir there)) (omega arith) in
    not_spent page n x s o steps at all (tt, (owner, tt)) (omega arith))
    (λ (pass : Passes page x o). pass.room) has in
    made_reaches page n x s o steps (new_object time mode uid gid device body) way name dir root made 2 is_page at stands fits is_free all room
    (make_makes s time mode uid gid target body device dir name same numbered) (omega arith) leads there free short
    (λ k other. made_elsewhere s.next k x time mode uid gid target (step.SetName time dir name s.next ∷ []) (at_next n x s at) (tt, tt) other)

-- ---- a file, whose further bytes are put after it

file_makes : (page : ℕ) (s : State) (time mode uid gid : ℕ) (all : List ℕ) (dir : ℕ) (name : List ℕ) → is_device mode ≡ false → IsPage page
    → Makes s (after bytes s (bytes_steps page s.next time mode uid gid all ++ step.SetName time dir name s.next ∷ [])) dir name (new_object time mode uid gid None all)
file_makes page s time mode uid gid all dir name plain is_page =
    let first = first_len page (length all) in
    let part = take first all in
    let rest = drop first all in
    let o = new_object time mode uid gid None part in
    let begun = do_step bytes s (step.MakeObject time mode uid gid part) in
    let puts = write_steps page time s.next first first rest in
    let set = step.SetName time dir name s.next in
    let p = new_object time mode uid gid (device_held mode part) (own_bytes mode part) in
    let there : object begun s.next ≡ Some o =
    get-insert nat_cmp_total s.objects s.next p s.next ∙ cond-true (eq_by_cmp nat_cmp s.next s.next) (Some p) (get s.objects s.next) (itself s.next)
    ∙ (λ i. Some (new_object time mode uid gid (held_none mode part plain i) (own_of mode part plain i))) in
    let re = write_appends page begun time s.next first rest o part is_page there (sym (first_taken_len page all is_page)) in
    let last : after bytes s (bytes_steps page s.next time mode uid gid all ++ set ∷ []) ≡ do_step bytes (after bytes begun puts) set =
    after-append begun puts (set ∷ []) in
    subst (λ t. Makes s t dir name (new_object time mode uid gid None all)) (sym last)
    (record {
      names = ap (λ names. insert names (dir, name) s.next) re.names;
      next = re.next;
      now = re.now ∙ ap (λ body. Some (new_object time mode uid gid None body)) (take-append-drop first all);
      others = λ k other. re.others k other ∙ get-insert nat_cmp_total s.objects s.next p k
          ∙ insert_other (eq_by_cmp nat_cmp k s.next) p (get s.objects k) (untied k s.next other);
    })

-- ---- the numbers that a write works on

all_cond : (P : Step → Type 0) (b : Bool) (xs ys : List Step) → AllByRecursion P xs → AllByRecursion P ys → AllByRecursion P (cond b xs ys)
all_cond P true xs ys h k = h
all_cond P false xs ys h k = k

all_append : (P : Step → Type 0) (xs ys : List Step) → AllByRecursion P xs → AllByRecursion P ys → AllByRecursion P (xs ++ ys)
all_append P [] ys h k = k
all_append P (x ∷ xs) ys h k = (h.0, all_append P xs ys h.1 k)

all_flat : (P : Step → Type 0) (f : ℕ → List Step) → ((n : ℕ) → AllByRecursion P (f n)) → (ns : List ℕ) → AllByRecursion P (flat_map f ns)
all_flat P f h [] = tt
all_flat P f h (n ∷ ns) = all_append P (f n) (flat_map f ns) (h n) (all_flat P f h ns)

piece_all : (P : Step → Type 0) (time ino start : ℕ) (piece : List ℕ) → ((offset : ℕ) (new : List ℕ) → P (step.Put time ino offset new)) → AllByRecursion P (piece_puts time ino start piece)
piece_all P time ino start piece put =
    all_cond P (length piece == spelling_len) (step.Put time ino start (take plain_page piece) ∷ step.Put time ino (start + plain_page) (drop plain_page piece) ∷ [])
    (step.Put time ino start piece ∷ []) (put start (take plain_page piece), (put (start + plain_page) (drop plain_page piece), tt)) (put start piece, tt)

-- what holds of each put and of each hole holds of a write
write_all : (P : Step → Type 0) (page time ino size offset : ℕ) (new : List ℕ) → ((offset : ℕ) (new : List ℕ) → P (step.Put time ino offset new)) → ((count : ℕ) → P (step.Zero time ino count))
    → AllByRecursion P (write_steps page time ino size offset new)
write_all P page time ino size offset [] put zero = tt
write_all P page time ino size offset (b ∷ new) put zero =
    all_append P (zeros_to time ino size offset) (puts page time ino offset (b ∷ new))
    (all_cond P (nat_lt size offset) (step.Zero time ino (offset - size) ∷ []) [] (zero (offset - size), tt) tt)
    (all_flat P (λ n. page_puts page time ino offset (b ∷ new) (offset / page + n)) (λ n. piece_all P time ino _ _ put) _)

write_owners : (page time ino size offset : ℕ) (new : List ℕ) → ino ≤ 0xFFFFFFFF → AllByRecursion HasOwner (write_steps page time ino size offset new)
write_owners page time ino size offset new le = write_all HasOwner page time ino size offset new (λ o n. le) (λ c. le)

file_few : (page ino time mode uid gid : ℕ) (all : List ℕ) (last : Step) → IsPage page
    → length (bytes_steps page ino time mode uid gid all ++ last ∷ []) ≤ 8 + length all / 512
file_few page ino time mode uid gid all last is_page =
    let first = first_len page (length all) in
    let rest = drop first all in
    let puts = write_steps page time ino first first rest in
    let left : length rest ≤ length all = omega (arith, length-drop first all) in
    let few : length puts ≤ 4 + 2 * (length rest / 4096) = write_few page time ino first rest is_page in
    let both : length (bytes_steps page ino time mode uid gid all ++ last ∷ []) ≡ length (bytes_steps page ino time mode uid gid all) + length (last ∷ []) =
    length-append (bytes_steps page ino time mode uid gid all) (last ∷ []) in
    let one : length (bytes_steps page ino time mode uid gid all) ≡ suc (length puts) = refl in
    omega arith

pub file_reaches : (page n : ℕ) (x : Indexed) (s : State) (time : ℕ) (path : List ℕ) (mode uid gid : ℕ) (all : List ℕ) (bits : mode ≤ 0o7777) (way : List (List ℕ))
    (name : List ℕ) (dir : ℕ) (root : ObjectOf (List ℕ)) (made : List Made)
    → IsPage page → IsAt n x s → Stands root made s → OpFits (op.File time path mode uid gid all) → IsFree page x (op.File time path mode uid gid all)
    → IsPlaced x.tree path dir name
    → walk s way (Ok 1) ≡ Ok dir → is_directory s dir ≡ true → named s dir name ≡ None → has_long (way ++ name ∷ []) ≡ false
    → HasRoom (n + (8 + length all / 512)) page x (op.File time path mode uid gid all)
    → Reaches page n x s (op.File time path mode uid gid all ∷ []) root
    (made ++ own (way ++ name ∷ []) (new_object time (0o100000 + mode) uid gid None all) ∷ []) (8 + length all / 512)
file_reaches page n x s time path mode uid gid all bits way name dir root made is_page at stands fits is_free p leads there free short has =
    let whole = 0o100000 + mode in
    let o = op.File time path mode uid gid all in
    let set = step.SetName time dir name s.next in
    let steps = bytes_steps page s.next time whole uid gid all ++ set ∷ [] in
    let are : steps_of page x.tree o ≡ steps =
    ap (λ (r : Result ℕ FindFault). bytes_steps page x.tree.next time whole uid gid all ++ step.SetName time (end_or_zero r) (last_name path) x.tree.next ∷ []) p.above_is
    ∙ ap (λ l. bytes_steps page x.tree.next time whole uid gid all ++ step.SetName time dir l x.tree.next ∷ []) p.last
    ∙ ap (λ i. bytes_steps page i time whole uid gid all ++ step.SetName time dir name i ∷ []) (at_next n x s at) in
    let most : x.tree.next ≤ n + 2 = at.counted.next in
    let next : x.tree.next ≡ s.next = at_next n x s at in
    let first = first_len page (length all) in
    let few_steps : length steps ≤ 8 + length all / 512 = file_few page s.next time whole uid gid all set is_page in
    let room : is_exhausted page x o ≡ false =
    ⊎_elim
    (λ (few : n + (8 + length all / 512) + 4 ≤ 0xFFFFFFFF).
    let owner : dir ≤ 0xFFFFFFFF = few_numbers n x s at dir (at_numbered n x s at dir (there_of_directory s dir there)) (omega arith) in
    let owners : AllByRecursion HasOwner steps =
    (tt, all_append HasOwner (write_steps page time s.next first first (drop first all)) (set ∷ []) (write_owners page time s.next first first (drop first all) (omega arith)) (owner, tt)) in
    not_spent page n x s o steps at are owners (omega arith))
    (λ (pass : Passes page x o). pass.room) has in
    made_reaches page n x s o steps (new_object time whole uid gid None all) way name dir root made (8 + length all / 512) is_page at stands fits is_free are room
    (file_makes page s time whole uid gid all dir name (regular_is_plain mode bits) is_page) few_steps leads there free short
    (λ k other. made_elsewhere s.next k x time whole uid gid (take first all) (write_steps page time s.next first first (drop first all) ++ set ∷ []) next
    (all_append (IsOn s.next) (write_steps page time s.next first first (drop first all)) (set ∷ [])
    (write_all (IsOn s.next) page time s.next first first (drop first all) (λ o n. refl) (λ c. refl)) (tt, tt)) other)
