-- A plan has few steps: two for each page at most, and one of zeros.
use Rattle.std.proofs.Common.{◌≡◌, ℕ, ◌+◌, ◌-◌, ◌*◌, ◌/◌, ◌≤◌, Bool, true, false, List, [], ◌∷◌, length, length-append, length-drop, ap, sym, ◌∙◌, ◌<◌, subst, ⊎_elim, arith, Result, Ok, Err, IfOk}
use Rattle.std.specs.Prelude.{Vec, is_some, min, flat_map, nat_lt, ◌&&◌, ◌==◌, take, drop}
use Rattle.std.proofs.Math.Nat.{div-mul-le_self, div_self, mul-le-mul_left}
use Rattle.std.proofs.lemmas.Bool.{cases_lt, cond_both, eqb-true, lt-ltb, ltb-false, false≢true}
use Rattle.flashbase.specs.Lists.{below}
use Rattle.flashbase.proofs.ListLemmas.{length-below}
use Rattle.jmount.specs.Tree.{Outline}
use Rattle.jsteps.specs.Nodes.{Indexed}
use Rattle.jscan.specs.Pages.{IsPage, page_size}
use Rattle.jsteps.specs.Planning.{plain_page, spelling_len, most_steps, piece_puts, page_puts, puts, zeros_to, first_len, write_steps, resize_steps, file_steps, move_steps, size_named, steps_of}
use Rattle.jsteps.specs.Refusals.{planned_by, greatest_size}
use Rattle.jsteps.specs.Where.{parent, last_name, number_there, number_or_zero, is_one_entry}
use Rattle.std.specs.declared.alloc.Global.{Global}
use Rattle.jsteps.specs.declared.fault.OpFault.{OpFault}
use Rattle.jsteps.specs.declared.op.Op.{Op}
use Rattle.jsteps.specs.declared.op.Op.TheVariants as op
use Rattle.jscan.specs.declared.page.Page.{Page}
use Rattle.jscan.specs.declared.page.Page.TheVariants.{P4096, P8192, P16384}
use Rattle.jsteps.specs.declared.step.Step.{Step}
use Rattle.jsteps.specs.declared.step.Step.TheVariants as step
use Rattle.jsteps.proofs.PlanLemmas.{accepted, first_is}

pub sizes_are_pages : (p : Page) → IsPage (page_size p)
sizes_are_pages P4096 = record { least = omega arith; most = omega arith }
sizes_are_pages P8192 = record { least = omega arith; most = omega arith }
sizes_are_pages P16384 = record { least = omega arith; most = omega arith }

-- the pages up to an end
most_pages : (page end : ℕ) → IsPage page → end ≤ 2147483647 → (end + page - 1) / page ≤ 524288
most_pages page end is_page within =
    let count = (end + page - 1) / page in
    let least : 4096 ≤ page = is_page.least in
    let all : count * page ≤ end + page - 1 = div-mul-le_self (end + page - 1) page in
    ⊎_elim
    (λ many. let less : page * 524289 ≤ page * count = mul-le-mul_left page (omega arith) in absurd (omega arith))
    (λ few. few)
    (cases_lt 524288 count)

pub flat_few : (f : ℕ → List Step) → ((n : ℕ) → length (f n) ≤ 2) → (ns : List ℕ) → length (flat_map f ns) ≤ 2 * length ns
flat_few f h [] = omega arith
flat_few f h (n ∷ ns) =
    let here : length (f n) ≤ 2 = h n in
    let rest : length (flat_map f ns) ≤ 2 * length ns = flat_few f h ns in
    omega (arith, length-append (f n) (flat_map f ns))

pub piece_few : (time ino start : ℕ) (piece : List ℕ) → length (piece_puts time ino start piece) ≤ 2
piece_few time ino start piece =
    cond_both (length piece == spelling_len) (step.Put time ino start (take plain_page piece) ∷ step.Put time ino (start + plain_page) (drop plain_page piece) ∷ []) (step.Put time ino start piece ∷ [])
    (λ steps. length steps ≤ 2) (λ yes. omega arith) (λ no. omega arith)

puts_few : (page time ino offset : ℕ) (bytes : List ℕ) → IsPage page → offset + length bytes ≤ 2147483647 → length (puts page time ino offset bytes) ≤ 1048576
puts_few page time ino offset bytes is_page within =
    let first = offset / page in
    let count = (offset + length bytes + page - 1) / page - first in
    let pages : (offset + length bytes + page - 1) / page ≤ 524288 = most_pages page (offset + length bytes) is_page within in
    let all : length (puts page time ino offset bytes) ≤ 2 * length (below count) = flat_few (λ n. page_puts page time ino offset bytes (first + n)) (λ n. piece_few time ino _ _) (below count) in
    omega (arith, length-below count)

zeros_few : (time ino old new : ℕ) → length (zeros_to time ino old new) ≤ 1
zeros_few time ino old new = cond_both (nat_lt old new) (step.Zero time ino (new - old) ∷ []) [] (λ steps. length steps ≤ 1) (λ yes. omega arith) (λ no. omega arith)

resize_few : (time ino old new : ℕ) → length (resize_steps time ino old new) ≤ 1
resize_few time ino old new =
    cond_both (nat_lt new old) (step.Cut time ino new ∷ []) (zeros_to time ino old new) (λ steps. length steps ≤ 1) (λ yes. omega arith) (λ no. zeros_few time ino old new)

ends_within : (b : Bool) (n : ℕ) → b ≡ true → (b && nat_lt greatest_size n) ≡ false → n ≤ 2147483647
ends_within true n e h = ltb-false greatest_size n h
ends_within false n e h = absurd (false≢true e)

write_few : (page time ino size offset : ℕ) (bytes : List ℕ) → IsPage page → (nat_lt 0 (length bytes) && nat_lt greatest_size (offset + length bytes)) ≡ false
    → length (write_steps page time ino size offset bytes) ≤ most_steps
write_few page time ino size offset [] is_page ends = omega arith
write_few page time ino size offset (b ∷ bytes) is_page ends =
    let within : offset + length (b ∷ bytes) ≤ 2147483647 =
    ends_within (nat_lt 0 (length (b ∷ bytes))) (offset + length (b ∷ bytes)) (lt-ltb 0 (length (b ∷ bytes)) (omega arith)) ends in
    let zeros : length (zeros_to time ino size offset) ≤ 1 = zeros_few time ino size offset in
    let rest : length (puts page time ino offset (b ∷ bytes)) ≤ 1048576 = puts_few page time ino offset (b ∷ bytes) is_page within in
    omega (arith, length-append (zeros_to time ino size offset) (puts page time ino offset (b ∷ bytes)))

-- the pages up to an end, where they are larger than the least
most_larger_pages : (page end : ℕ) → IsPage page → 6465 ≤ page → end ≤ 2147483647 → (end + page - 1) / page ≤ 524287
most_larger_pages page end is_page larger within =
    let count = (end + page - 1) / page in
    let all : count * page ≤ end + page - 1 = div-mul-le_self (end + page - 1) page in
    ⊎_elim
    (λ many. let less : page * 524288 ≤ page * count = mul-le-mul_left page (omega arith) in absurd (omega arith))
    (λ few. few)
    (cases_lt 524287 count)

-- the pages of what follows the first piece
pages_left : (page len : ℕ) → IsPage page → len ≤ 2147483647 → first_len page len < len → (len + page - 1) / page - first_len page len / page ≤ 524287
pages_left page len is_page within =
    let least : 4096 ≤ page = is_page.least in
    cond_both (min page len == spelling_len) plain_page (min page len) (λ first. first < len → (len + page - 1) / page - first / page ≤ 524287)
    (λ yes.
    let is : min page len ≡ 6465 = eqb-true (min page len) spelling_len yes in
    let pages : (len + page - 1) / page ≤ 524287 = most_larger_pages page len is_page (omega arith) within in
    λ more. less_left (4096 / page) pages)
    (λ no.
    λ more.
    let whole : min page len ≡ page = omega arith in
    let one : min page len / page ≡ 1 = ap (λ n. n / page) whole ∙ div_self (omega arith) in
    let pages : (len + page - 1) / page ≤ 524288 = most_pages page len is_page within in
    subst (λ n. (len + page - 1) / page - n ≤ 524287) (sym one) (omega arith))
  where
    less_left : {n : ℕ} (m : ℕ) → n ≤ 524287 → n - m ≤ 524287
    less_left {n} m h = omega arith

-- what follows the first piece
written_few : (page time ino first : ℕ) (rest : List ℕ) → (0 < length rest → (first + length rest + page - 1) / page - first / page ≤ 524287) → length (write_steps page time ino first first rest) ≤ 1048575
written_few page time ino first [] few = omega arith
written_few page time ino first (b ∷ rest) few =
    let count = (first + length (b ∷ rest) + page - 1) / page - first / page in
    let pages : count ≤ 524287 = few (omega arith) in
    let zeros : length (zeros_to time ino first first) ≤ 1 = zeros_few time ino first first in
    let all : length (puts page time ino first (b ∷ rest)) ≤ 2 * length (below count) =
    flat_few (λ n. page_puts page time ino first (b ∷ rest) (first / page + n)) (λ n. piece_few time ino _ _) (below count) in
    omega (arith, length-below count, length-append (zeros_to time ino first first) (puts page time ino first (b ∷ rest)))

pub rest_few : (page time ino : ℕ) (bytes : List ℕ) → IsPage page → length bytes ≤ 2147483647
    → length (write_steps page time ino (first_len page (length bytes)) (first_len page (length bytes)) (drop (first_len page (length bytes)) bytes)) ≤ 1048575
rest_few page time ino bytes is_page within =
    let first = first_len page (length bytes) in
    let le : first ≤ length bytes = (first_is page (length bytes) is_page).within in
    let rest : length (drop first bytes) ≡ length bytes - first = length-drop first bytes in
    let all : first + length (drop first bytes) ≡ length bytes = omega arith in
    written_few page time ino first (drop first bytes)
    (λ some. subst (λ n. (n + page - 1) / page - first / page ≤ 524287) (sym all) (pages_left page (length bytes) is_page within (omega arith)))

file_few : (page : ℕ) (t : Outline) (time : ℕ) (path : List ℕ) (mode uid gid : ℕ) (bytes : List ℕ) → IsPage page → length bytes ≤ 2147483647 → length (file_steps page t time path mode uid gid bytes) ≤ most_steps
file_few page t time path mode uid gid bytes is_page within =
    let first = first_len page (length bytes) in
    let puts = write_steps page time t.next first first (drop first bytes) in
    let few : length puts ≤ 1048575 = rest_few page time t.next bytes is_page within in
    omega (arith, length-append (step.MakeObject time mode uid gid (take first bytes) ∷ puts) (step.SetName time (parent t path) (last_name path) t.next ∷ []))

steps_few : (page : ℕ) (x : Indexed) (o : Op) (steps : List Step) → IsPage page → planned_by page x o ≡ Ok steps → length (steps_of page x.tree o) ≤ most_steps
steps_few page x (op.Mkdir time path mode uid gid) steps is_page e = omega arith
steps_few page x (op.Create time path mode uid gid) steps is_page e = omega arith
steps_few page x (op.File time path mode uid gid bytes) steps is_page e =
    file_few page x.tree time path (0o100000 + mode) uid gid bytes is_page (ltb-false greatest_size (length bytes) (accepted page x (op.File time path mode uid gid bytes) steps e).large)
steps_few page x (op.Put time path mode uid gid bytes) steps is_page e =
    file_few page x.tree time path (0o100000 + mode) uid gid bytes is_page (ltb-false greatest_size (length bytes) (accepted page x (op.Put time path mode uid gid bytes) steps e).large)
steps_few page x (op.Device time path kind mode uid gid number) steps is_page e = omega arith
steps_few page x (op.Fifo time path mode uid gid) steps is_page e = omega arith
steps_few page x (op.Socket time path mode uid gid) steps is_page e = omega arith
steps_few page x (op.Symlink time path link uid gid) steps is_page e = omega arith
steps_few page x (op.Write time path offset bytes) steps is_page e =
    write_few page time (number_or_zero x.tree path) (size_named x.tree path) offset bytes is_page (accepted page x (op.Write time path offset bytes) steps e).large
steps_few page x (op.Truncate time path size) steps is_page e =
    let few : length (resize_steps time (number_or_zero x.tree path) (size_named x.tree path) size) ≤ 1 = resize_few time (number_or_zero x.tree path) (size_named x.tree path) size in
    omega arith
steps_few page x (op.Link time old new) steps is_page e = omega arith
steps_few page x (op.Remove time path) steps is_page e = omega arith
steps_few page x (op.RemoveIf time path) steps is_page e =
    cond_both (is_some (number_there x.tree path)) (step.ClearName time (parent x.tree path) (last_name path) ∷ []) [] (λ steps. length steps ≤ most_steps) (λ yes. omega arith) (λ no. omega arith)
steps_few page x (op.Rename time old new) steps is_page e = omega arith
steps_few page x (op.Replace time old new) steps is_page e =
    cond_both (is_one_entry x.tree old new) [] (move_steps x.tree time old new) (λ steps. length steps ≤ most_steps) (λ yes. omega arith) (λ no. omega arith)
steps_few page x (op.SetAttributes time path attributes) steps is_page e = omega arith

pub planned_few : (page : ℕ) (x : Indexed) (o : Op) (steps : List Step) → IsPage page → planned_by page x o ≡ Ok steps → length steps ≤ most_steps
planned_few page x o steps is_page e = subst (λ steps. length steps ≤ most_steps) (accepted page x o steps e).steps_are (steps_few page x o steps is_page e)

pub few_of : (page : ℕ) (x : Indexed) (o : Op) (r : Result (Vec Step Global) OpFault) → IsPage page → IfOk r (λ steps. planned_by page x o ≡ Ok steps.items) → IfOk r (λ steps. length steps.items ≤ most_steps)
few_of page x o (Ok steps) is_page e = planned_few page x o steps.items is_page e
few_of page x o (Err f) is_page e = tt
