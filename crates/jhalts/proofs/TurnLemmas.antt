-- One turn of a walk through the openings of a row: to the form at the next place, and behind it.
use Rattle.std.proofs.Common.{◌≡◌, ℕ, suc, ◌+◌, ◌-◌, ◌*◌, ◌/◌, ◌<◌, ◌≤◌, List, [], ◌∷◌, ◌++◌, length, map, take, drop, get_or, refl, sym, ap, ap₂, subst, ◌∙◌, arith, length-drop, take_all, drop-cons, drop-drop}
use Rattle.std.specs.Prelude.{IsTrue}
use Rattle.std.specs.List.{AllByRecursion}
use Rattle.flashbase.specs.Bytes.{pad4_of}
use Rattle.jnode.specs.declared.order.Endian.{Endian}
use Rattle.jlog.specs.Places.{place_after, end_after, is_writable_flash}
use Rattle.jlog.specs.declared.report.Place.{Place}
use Rattle.jlog.specs.declared.writing.Blocks.{Blocks}
use Rattle.jcuts.specs.Standing.{IsNodeIn, standing_in}
use Rattle.jcuts.specs.declared.standing.Standing.{Standing}
use Rattle.jrests.specs.declared.opening.Opening.{Opening}
use Rattle.jopenings.specs.After.{moved_opening}
use Rattle.jopenings.specs.declared.placing.Stretch.{Stretch}
use Rattle.jupdate.specs.Rows.{IsOpen, begins_of}
use Rattle.jupdate.proofs.RowLemmas.{gone, gone_again, goes_on_at}
use Rattle.jhalts.specs.InShares.{row_address}
use Rattle.jhalts.specs.Walk.{IsRowOpen, from_block, row_of_walk}
use Rattle.jhalts.specs.declared.walking.Walk.{Walk}
use Rattle.jhalts.proofs.WalkLemmas.{NextForm, Walked, walked_on, walked_to}

-- The walk is in the opening of the form at the next place.
pub record AtForm (e : Endian) (flash : Blocks) (now : List Opening) (forms : List (List ℕ)) (out : List ℕ) (p : Place) (ps : List Place) (ss : List Stretch) (next : Walk) : Type 0 where
  pub it : NextForm e flash now forms out p ps
  pub row : row_of_walk ss next ≡ it.opening ∷ it.rest
  pub place : next.place ≡ it.opening.place
  pub same : next.flash ≡ flash
  pub is_open : IsRowOpen next.flash (row_of_walk ss next)

pub at_form : (e : Endian) (flash : Blocks) (row : List Opening) (forms : List (List ℕ)) (ss : List Stretch) (walk next : Walk) (out : List ℕ) (places : List Place) (told : List Standing) (i : ℕ) (p d : Place)
    → walk.flash ≡ flash → i < length places → p ≡ get_or places i d
    → row_of_walk ss next ≡ from_block (p.addr / walk.flash.size) (row_of_walk ss walk) → next.flash ≡ walk.flash
    → (w : Walked e flash row forms (row_of_walk ss walk) out (drop i places) told)
    → AtForm e flash (row_of_walk ss walk) w.left out p (drop (suc i) places) ss next
at_form e flash row forms ss walk next out places told i p d same below p_is row_is flash_is w =
    let it = walked_to e flash row forms (row_of_walk ss walk) out places told i p d below p_is w in
    let at : row_of_walk ss next ≡ it.opening ∷ it.rest = row_is ∙ (ap (λ (f : Blocks). from_block (p.addr / f.size) (row_of_walk ss walk)) same ∙ it.reached) in
    let here : next.flash ≡ flash = flash_is ∙ same in
    let each : AllByRecursion (IsOpen flash.size flash.count) (it.opening ∷ it.rest) = (it.is_open, it.next.each.1) in
    record {
      it = it;
      row = at;
      place = goes_on_at (drop next.passed (begins_of ss)) next.place it.opening it.rest at;
      same = here;
      is_open = record {
        writable = subst (λ (f : Blocks). IsTrue (is_writable_flash f.size f.count)) (sym here) it.next.writable;
        each = subst (λ (f : Blocks). AllByRecursion (IsOpen f.size f.count) (row_of_walk ss next)) (sym here) (subst (AllByRecursion (IsOpen flash.size flash.count)) (sym at) each);
      };
    }

-- ---- where the row goes on

pub starts_at : (e : Endian) (flash : Blocks) (now : List Opening) (forms : List (List ℕ)) (out : List ℕ) (p : Place) (ps : List Place) (ss : List Stretch) (next : Walk) (from : ℕ)
    → (at : AtForm e flash now forms out p ps ss next) → from ≡ row_address next.flash.size (row_of_walk ss next) → from ≡ at.it.opening.block * flash.size + at.it.opening.place
starts_at e flash now forms out p ps ss next from at is = is ∙ ap₂ (λ (f : Blocks) (r : List Opening). row_address f.size r) at.same at.row

-- the numbers of a turn
pub record Numbers (end at addr pad from place start long : ℕ) : Type 0 where
  pub pad_small : pad ≤ 268435456
  pub sum_small : addr + pad ≤ 268435456
  pub up : from ≤ addr + pad
  pub place_small : place + (addr + pad - from) ≤ 268435456
  pub passed : addr + pad - from ≡ end - at
  pub ends : place + (addr + pad - from) ≡ end
  pub within : start + (addr + pad - from) ≤ long

numbers_by : (b size at put wide pad addr from place start long left : ℕ) → addr ≡ b + put → pad ≡ wide → from ≡ b + at → place ≡ at → at ≤ put → put + wide ≤ size → b + size ≤ 268435456
    → (put + wide) - at ≤ left → left ≡ long - start → start ≤ long → Numbers (put + wide) at addr pad from place start long
numbers_by b size at put wide pad addr from place start long left addr_is pad_is from_is place_is up ends low passes left_is within = record {
  pad_small = omega arith;
  sum_small = omega arith;
  up = omega arith;
  place_small = omega arith;
  passed = omega arith;
  ends = omega arith;
  within = omega arith;
}

pub turn_numbers : (e : Endian) (flash : Blocks) (now : List Opening) (forms : List (List ℕ)) (out : List ℕ) (p : Place) (ps : List Place) (ss : List Stretch) (next : Walk) (from pad start long : ℕ)
    → (at : AtForm e flash now forms out p ps ss next) → from ≡ row_address next.flash.size (row_of_walk ss next) → pad ≡ pad4_of p.totlen → length out ≡ long - start → start ≤ long
    → Numbers (end_after flash.size at.it.opening.place (length at.it.x)) at.it.opening.place p.addr pad from next.place start long
turn_numbers e flash now forms out p ps ss next from pad start long at is pad_is left within =
    let it = at.it in
    let o : Opening = it.opening in
    numbers_by (o.block * flash.size) flash.size o.place (place_after flash.size o.place (length it.x)) (pad4_of (length it.x)) pad p.addr from next.place start long (length out)
    it.addr (pad_is ∙ ap pad4_of it.long) (starts_at e flash now forms out p ps ss next from at is) at.place it.up it.ends it.low it.passes left within

-- ---- the form

pub all_bytes : (out : List ℕ) (start : ℕ) → take (length out - start) (drop start out) ≡ drop start out
all_bytes out start = take_all (length out - start) (drop start out) (omega (arith, length-drop start out))

pub one_place : (places : List Place) (i : ℕ) (p d : Place) → i < length places → p ≡ get_or places i d → take (i + 1 - i) (drop i places) ≡ p ∷ []
one_place places i p d below is =
    let one : i + 1 - i ≡ 1 = omega arith in
    ap (λ (n : ℕ). take n (drop i places)) one ∙ (ap (take 1) (drop-cons places i d below) ∙ ap (λ (q : Place). q ∷ []) (sym is))

pub node_there : (e : Endian) (flash : Blocks) (now : List Opening) (forms : List (List ℕ)) (out : List ℕ) (p : Place) (ps : List Place) (ss : List Stretch) (next : Walk) (from : ℕ) (bytes : List ℕ) (one : List Place)
    → AtForm e flash now forms out p ps ss next → from ≡ row_address next.flash.size (row_of_walk ss next) → bytes ≡ out → one ≡ p ∷ [] → AllByRecursion (IsNodeIn e from bytes) one
node_there e flash now forms out p ps ss next from bytes one at is bytes_are one_is =
    let first : IsNodeIn e from bytes p =
    subst (λ (l : List ℕ). IsNodeIn e from l p) (sym bytes_are) (subst (λ (n : ℕ). IsNodeIn e n out p) (sym (starts_at e flash now forms out p ps ss next from at is)) at.it.first) in
    subst (AllByRecursion (IsNodeIn e from bytes)) (sym one_is) (first, tt)

pub one_standing : (e : Endian) (flash : Blocks) (now : List Opening) (forms : List (List ℕ)) (out : List ℕ) (p : Place) (ps : List Place) (ss : List Stretch) (next : Walk) (from : ℕ) (bytes : List ℕ) (one : List Place)
    (all : List Standing) (s : Standing) (told pushed : List Standing)
    → (at : AtForm e flash now forms out p ps ss next) → from ≡ row_address next.flash.size (row_of_walk ss next) → bytes ≡ out → one ≡ p ∷ []
    → all ≡ map (standing_in e from bytes) one → s ≡ get_or all 0 s → pushed ≡ told ++ s ∷ []
    → pushed ≡ told ++ standing_in e (at.it.opening.block * flash.size + at.it.opening.place) out p ∷ []
one_standing e flash now forms out p ps ss next from bytes one all s told pushed at is bytes_are one_is all_is s_is pushed_is =
    let first : all ≡ standing_in e from bytes p ∷ [] = all_is ∙ ap (map (standing_in e from bytes)) one_is in
    let this : s ≡ standing_in e from bytes p = s_is ∙ ap (λ (l : List Standing). get_or l 0 s) first in
    let there : standing_in e from bytes p ≡ standing_in e (at.it.opening.block * flash.size + at.it.opening.place) out p =
    ap₂ (λ (n : ℕ) (l : List ℕ). standing_in e n l p) (starts_at e flash now forms out p ps ss next from at is) bytes_are in
    pushed_is ∙ ap (λ (t : Standing). told ++ t ∷ []) (this ∙ there)

-- ---- behind it

pub turned : (e : Endian) (flash : Blocks) (row : List Opening) (forms : List (List ℕ)) (ss : List Stretch) (walk next : Walk) (out : List ℕ) (places : List Place) (told pushed : List Standing) (start i passed : ℕ) (p : Place)
    → (w : Walked e flash row forms (row_of_walk ss walk) (drop start out) (drop i places) told)
    → (at : AtForm e flash (row_of_walk ss walk) w.left (drop start out) p (drop (suc i) places) ss next)
    → passed ≡ end_after flash.size at.it.opening.place (length at.it.x) - at.it.opening.place
    → next.place + passed ≡ end_after flash.size at.it.opening.place (length at.it.x)
    → pushed ≡ told ++ standing_in e (at.it.opening.block * flash.size + at.it.opening.place) (drop start out) p ∷ []
    → Walked e flash row forms (row_of_walk ss (record { flash = next.flash; passed = next.passed; place = next.place + passed })) (drop (start + passed) out) (drop (i + 1) places) pushed
turned e flash row forms ss walk next out places told pushed start i passed p w at passes ends all_is =
    let it = at.it in
    let o : Opening = it.opening in
    let behind : List Opening = row_of_walk ss (record { flash = next.flash; passed = next.passed; place = next.place + passed }) in
    let row_is : behind ≡ moved_opening flash.size o it.x ∷ it.rest =
    gone_again (drop next.passed (begins_of ss)) next.place (next.place + passed) o it.rest at.row ∙ ap (λ (q : ℕ). gone o q ∷ it.rest) ends in
    let rest_is : drop (start + passed) out ≡ drop (end_after flash.size o.place (length it.x) - o.place) (drop start out) =
    sym (drop-drop passed start out) ∙ ap (λ (n : ℕ). drop n (drop start out)) passes in
    let count : suc i ≡ i + 1 = omega arith in
    subst (λ (n : ℕ). Walked e flash row forms behind (drop (start + passed) out) (drop n places) pushed) count
    (walked_on e flash row forms (row_of_walk ss walk) behind (drop start out) (drop (start + passed) out) p (drop (suc i) places) told pushed (drop i places) w it row_is rest_is all_is)
