-- The rest of a block: by its extents, and by its tiles.
use Rattle.std.proofs.Common.{◌≡◌, ℕ, zero, suc, ◌+◌, ◌<◌, ◌≤◌, true, false, List, [], ◌∷◌, ◌++◌, length, drop, take, refl, sym, ap, subst, ◌∙◌, arith, inl, inr, None, Some, length-append, length-drop}
use Rattle.std.specs.Prelude.{sum_by, not, ◌&&◌, ◌==◌, if◌then◌else◌}
use Rattle.std.specs.List.{AllByRecursion, list_all}
use Rattle.std.proofs.lemmas.Bool.{cases_Bool, true≢false, false≢true, and_parts, cond_both, eqb-true}
use Rattle.std.proofs.lemmas.List.{take_all, drop-drop}
use Rattle.std.proofs.lemmas.List.Sums.{sum_by-append, sum_by-cons}
use Rattle.flashbase.specs.Bytes.{erased}
use Rattle.jnode.specs.Header.{is_good, header_of, magic_of}
use Rattle.jnode.specs.Reading.{seen_of, tile_of}
use Rattle.jnode.specs.declared.node.Seen.{Seen}
use Rattle.jnode.specs.declared.order.Endian.{Endian}
use Rattle.jscan.specs.Blank.{is_blank}
use Rattle.jscan.specs.Extents.{class_of, other_magic, extent_of, is_one_run, in_front, extents_from, extents}
use Rattle.jscan.specs.Tiling.{Tile, bytes_of, tile_at, tiling_from}
use Rattle.jscan.specs.declared.extent.Extent.{Extent}
use Rattle.jscan.specs.declared.extent.ExtentKind.{ExtentKind}
use Rattle.jscan.specs.declared.extent.ExtentKind.TheVariants.{Tiled, Erased, OtherOrder, Dirt}
use Rattle.jscan.specs.declared.tiles.TileKind.TheVariants.{Node}
use Rattle.jscan.proofs.ExtentLaws.{front_then_rest, no_extents, extents_make_up}
use Rattle.jscan.proofs.ExtentLemmas.{in_front_node}
use Rattle.jscan.proofs.RunLaws.{erased_runs_are_erased}
use Rattle.jscan.proofs.TileLemmas.{tile_good, tile_cases, tile_place, tile_some, tile_then_rest}
use Rattle.jrests.specs.Begun.{is_damaged, IsWholeNode, IsRest, is_passed, is_clear, clear_last, rest_of}

-- ---- by its extents

-- the last of some extents is erased, and begins here
pub record EndsClear (es : List Extent) (at : ℕ) : Type 0 where
  pub front : List Extent
  pub last : Extent
  pub both : es ≡ front ++ last ∷ []
  pub clear : last.kind ≡ Erased
  pub here : last.addr ≡ at

clear_kind : (kind : ExtentKind) → is_clear kind ≡ true → kind ≡ Erased
clear_kind Erased is = refl
clear_kind (Tiled s) is = absurd (false≢true is)
clear_kind OtherOrder is = absurd (false≢true is)
clear_kind Dirt is = absurd (false≢true is)

some_is : (a b : ℕ) → Some a ≡ Some b → a ≡ b
some_is a b is = cc

none_left : (es : List Extent) → (length es == 0) ≡ true → es ≡ []
none_left [] is = refl
none_left (e ∷ es) is = absurd (omega (arith, eqb-true (length (e ∷ es)) 0 is))

-- where the first is not passed, it is the last
record IsLast (s : Extent) (ss : List Extent) (at : ℕ) : Type 0 where
  clear : s.kind ≡ Erased
  alone : ss ≡ []
  here : s.addr ≡ at

is_last : (s : Extent) (ss : List Extent) (at : ℕ) → is_passed s.kind ≡ false → clear_last (s ∷ ss) ≡ Some at → IsLast s ss at
is_last s ss at not is = elim (cases_Bool (is_clear s.kind && (length ss == 0))) [
  | inl end ↦
      let both = and_parts (is_clear s.kind) (length ss == 0) end in
      let here : Some s.addr ≡ Some at = rw (not, end) at is in
      record { clear = clear_kind s.kind both.0; alone = none_left ss both.1; here = some_is s.addr at here }
  | inr more ↦ let none : None ≡ Some at = rw (not, more) at is in absurd (cc)
]

pub ends_clear : (es : List Extent) (at : ℕ) → clear_last es ≡ Some at → EndsClear es at
ends_clear [] at is = absurd (cc)
ends_clear (s ∷ ss) at is = elim (cases_Bool (is_passed s.kind)) [
  | inl passed ↦
      let next : clear_last ss ≡ Some at = rw passed at is in
      let later = ends_clear ss at next in
      record {
        front = s ∷ later.front;
        last = later.last;
        both = ap (λ (l : List Extent). s ∷ l) later.both;
        clear = later.clear;
        here = later.here;
      }
  | inr not ↦
      let end = is_last s ss at not is in
      record { front = []; last = s; both = ap (λ (l : List Extent). s ∷ l) end.alone; clear = end.clear; here = end.here }
]

-- ---- by its tiles

-- the tiles up to a place are nodes that are not damaged
pub record GoesTo (e : Endian) (place : ℕ) (rest : List ℕ) (at : ℕ) : Type 0 where
  pub before : List Tile
  pub tiles : tiling_from e place 0 rest ≡ before ++ tiling_from e at 0 (drop (length (bytes_of before)) rest)
  pub begins : at ≡ place + length (bytes_of before)
  pub whole : AllByRecursion (IsWholeNode e) before

front_here : (s : Extent) (es : List Extent) (at : ℕ) → is_passed s.kind ≡ false → clear_last (in_front s es) ≡ Some at → s.addr ≡ at
front_here s [] at not is = (is_last s [] at not is).here
front_here s (t ∷ ts) at not is = elim (cases_Bool (is_one_run s.kind t.kind)) [
  | inl one ↦
      let joined : Extent = record { addr = s.addr; len = s.len + t.len; kind = s.kind } in
      let there : clear_last (joined ∷ ts) ≡ Some at = rw one at is in
      (is_last joined ts at not there).here
  | inr two ↦
      let there : clear_last (s ∷ t ∷ ts) ≡ Some at = rw two at is in
      (is_last s (t ∷ ts) at not there).here
]

class_not_passed : (e : Endian) (bytes : List ℕ) → is_passed (class_of e bytes) ≡ false
unfolding class_of
class_not_passed e bytes =
    cond_both (list_all (λ b. b == 0xFF) bytes) Erased (if magic_of e bytes == other_magic then OtherOrder else Dirt) (λ (kind : ExtentKind). is_passed kind ≡ false)
    (λ h. refl)
    (λ h. cond_both (magic_of e bytes == other_magic) OtherOrder Dirt (λ (kind : ExtentKind). is_passed kind ≡ false) (λ i. refl) (λ i. refl))

-- nothing is passed where there is no node
stays_here : (e : Endian) (place : ℕ) (rest : List ℕ) (at : ℕ) → is_passed (extent_of e 0 (tile_at e place rest)).kind ≡ false → 0 < length rest
    → clear_last (extents_from e 0 place rest) ≡ Some at → GoesTo e place rest at
stays_here e place rest at not some is =
    let tile : Tile = tile_at e place rest in
    let there : clear_last (in_front (extent_of e 0 tile) (extents_from e 0 (place + length tile.bytes) (drop (length tile.bytes) rest))) ≡ Some at =
    ap clear_last (sym (front_then_rest e 0 place rest some)) ∙ is in
    let addr : 0 + tile.place ≡ at = front_here (extent_of e 0 tile) _ at not there in
    let here : at ≡ place = omega (arith, addr, tile_place e place rest) in
    record {
      before = [];
      tiles = ap (λ (p : ℕ). tiling_from e p 0 rest) (sym here);
      begins = omega (arith, here);
      whole = tt;
    }

pub goes_to : (n : ℕ) (e : Endian) (place : ℕ) (rest : List ℕ) (at : ℕ) → length rest ≤ n → clear_last (extents_from e 0 place rest) ≡ Some at → GoesTo e place rest at
goes_to n e place [] at few is = absurd (let none : None ≡ Some at = ap clear_last (sym (no_extents e 0 place)) ∙ is in cc)
goes_to zero e place (b ∷ bs) at few is = absurd (omega arith)
goes_to (suc n) e place (b ∷ bs) at few is = elim (cases_Bool (is_good e (b ∷ bs))) [
  | inl good ↦
      let rest : List ℕ = b ∷ bs in
      let what : Seen = seen_of e (tile_of e rest) in
      let tile : Tile = record { place = place; kind = Node (header_of e rest); bytes = tile_of e rest } in
      let same : tile_at e place rest ≡ tile = tile_good e place rest good in
      let len : ℕ = length tile.bytes in
      let some : 0 < len = subst (λ (t : Tile). 0 < length t.bytes) same (tile_some e place rest (omega arith)) in
      let left : List ℕ = drop len rest in
      let es : List Extent = extents_from e 0 (place + len) left in
      let split : tiling_from e place 0 rest ≡ tile ∷ tiling_from e (place + len) 0 left =
      subst (λ (t : Tile). tiling_from e place 0 rest ≡ t ∷ tiling_from e (place + length t.bytes) 0 (drop (length t.bytes) rest)) same (tile_then_rest e place rest (omega arith)) in
      let front : extents_from e 0 place rest ≡ in_front (extent_of e 0 tile) es =
      subst (λ (t : Tile). extents_from e 0 place rest ≡ in_front (extent_of e 0 t) (extents_from e 0 (place + length t.bytes) (drop (length t.bytes) rest))) same
      (front_then_rest e 0 place rest (omega arith)) in
      let all : extents_from e 0 place rest ≡ extent_of e 0 tile ∷ es = front ∙ in_front_node what (0 + place) len es in
      elim (cases_Bool (is_damaged what)) [
        | inl bad ↦
            let not : is_passed (extent_of e 0 (tile_at e place rest)).kind ≡ false =
            ap (λ (t : Tile). is_passed (extent_of e 0 t).kind) same ∙ ap not bad in
            stays_here e place rest at not (omega arith) is
        | inr sound ↦
            let passed : is_passed (Tiled what) ≡ true = ap not sound in
            let there : clear_last (extent_of e 0 tile ∷ es) ≡ Some at = ap clear_last (sym all) ∙ is in
            let next : clear_last es ≡ Some at = rw passed at there in
            let later = goes_to n e (place + len) left at (omega (arith, length-drop len rest, some)) next in
            record {
              before = tile ∷ later.before;
              tiles = split ∙ (ap (λ (ts : List Tile). tile ∷ ts) later.tiles
                  ∙ ap (λ (l : List ℕ). tile ∷ (later.before ++ tiling_from e at 0 l))
                  (drop-drop (length (bytes_of later.before)) len rest
                  ∙ ap (λ (m : ℕ). drop m rest) (sym (length-append tile.bytes (bytes_of later.before)))));
              begins = omega (arith, later.begins, length-append tile.bytes (bytes_of later.before));
              whole = (record { header = header_of e rest; node = refl; sound = sound }, later.whole);
            }
      ]
  | inr bad ↦
      let rest : List ℕ = b ∷ bs in
      let not : is_passed (extent_of e 0 (tile_at e place rest)).kind ≡ false =
      tile_cases e place rest (λ tile. is_passed (extent_of e 0 tile).kind ≡ false)
      (λ good. absurd (true≢false (sym good ∙ bad)))
      (λ no long. class_not_passed e (take 4 rest))
      (λ no short. class_not_passed e rest) in
      stays_here e place rest at not (omega arith) is
]

-- ---- the rest

rest_by : (e : Endian) (size : ℕ) (block : List ℕ) (at : ℕ) → is_blank e size block ≡ false → clear_last (extents e 0 block) ≡ Some at → EndsClear (extents e 0 block) at
    → GoesTo e 0 block at → IsRest e size block at
rest_by e size block at begun ends_is end goes =
    let up = extents_make_up e 0 block in
    let here = up.each end.front [] end.last end.both in
    let n : ℕ = sum_by (λ (s : Extent). s.len) end.front in
    let at_is : at ≡ n = omega (arith, end.here, here.0) in
    let one : sum_by (λ (s : Extent). s.len) (end.last ∷ []) ≡ end.last.len + 0 = sum_by-cons (λ (s : Extent). s.len) end.last [] in
    let alone : end.last.len ≡ sum_by (λ (s : Extent). s.len) (end.last ∷ []) = omega (arith, one) in
    let sum : n + end.last.len ≡ length block =
    (ap (λ (m : ℕ). n + m) alone ∙ sym (sum_by-append (λ (s : Extent). s.len) end.front (end.last ∷ [])))
    ∙ (ap (sum_by (λ (s : Extent). s.len)) (sym end.both) ∙ up.whole) in
    let left : length (drop at block) ≡ end.last.len = length-drop at block ∙ omega (arith, at_is, sum) in
    let clear : take end.last.len (drop n block) ≡ erased end.last.len = erased_runs_are_erased e 0 block end.front [] end.last end.both end.clear in
    record {
      before = goes.before;
      after = tiling_from e at 0 (drop (length (bytes_of goes.before)) block);
      tiles = goes.tiles;
      begins = let sum_is : at ≡ 0 + length (bytes_of goes.before) = goes.begins in omega (arith, sum_is);
      whole = goes.whole;
      clear = sym (take_all end.last.len (drop at block) (omega (arith, left)))
          ∙ (ap (λ (m : ℕ). take end.last.len (drop m block)) at_is
          ∙ (clear ∙ ap erased (omega (arith, at_is, sum))));
      within = omega (arith, at_is, sum, here.1);
      begun = begun;
    }

pub rest_is_found : (e : Endian) (size : ℕ) (block : List ℕ) (at : ℕ) → rest_of e size block ≡ Some at → IsRest e size block at
rest_is_found e size block at is = elim (cases_Bool (is_blank e size block)) [
  | inl blank ↦ let none : None ≡ Some at = rw blank at is in absurd (cc)
  | inr begun ↦
      let ends : clear_last (extents e 0 block) ≡ Some at = rw begun at is in
      rest_by e size block at begun ends (ends_clear (extents e 0 block) at ends) (goes_to (length block) e 0 block at (omega arith) ends)
]
