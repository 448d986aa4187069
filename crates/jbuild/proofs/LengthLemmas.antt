-- How long what goes out is.
use Rattle.std.proofs.Common.{◌≡◌, ℕ, suc, ◌+◌, ◌-◌, ◌*◌, ◌/◌, ◌%◌, ◌<◌, ◌≤◌, max, leb, Bool, true, false, List, [], ◌∷◌, ◌++◌, length, map, refl, sym, ap, subst, ◌∙◌, arith, inl, inr, length-append}
use Rattle.std.proofs.lemmas.Bool.{cond-true, cond-false, le-leb, lt-leb, cases_lt, and_parts, eqb-true}
use Rattle.std.proofs.lemmas.List.{length-replicate}
use Rattle.std.specs.Prelude.{◌&&◌, ◌==◌, IsTrue, nat_le, nat_lt, slice_get, Ok}
use Rattle.std.specs.Option.{option_map_or}
use Rattle.jscan.specs.Image.{is_block_size, greatest_image}
use Rattle.jsteps.specs.Refusals.{steps_of_first}
use Rattle.flashbase.specs.Bytes.{pad4_of, erased}
use Rattle.flashbase.proofs.BytesLemmas.{le_pad4, pad4_below, pad4_words}
use Rattle.jnode.specs.Writing.{clean_marker, filled}
use Rattle.jnode.specs.declared.order.Endian.{Endian}
use Rattle.jnode.proofs.WritingLemmas.{length-filled}
use Rattle.jsteps.specs.declared.op.Op.{Op}
use Rattle.jscan.specs.declared.page.Page.{Page}
use Rattle.jlog.specs.Headline.{is_flash_of, resume_address}
use Rattle.jlog.specs.Output.{gap, output}
use Rattle.jlog.specs.Places.{place_after, end_after, end_of_all, is_writable_flash, places}
use Rattle.jmount.specs.Mount.{Mount}
use Rattle.jlog.specs.Resuming.{resumes_by}
use Rattle.jlog.specs.Running.{places_of, shown_place, written}
use Rattle.jlog.specs.Session.{Flash}
use Rattle.jlog.specs.declared.report.Place.{Place}
use Rattle.jlog.proofs.CodeLemmas.{flash_limits}
use Rattle.jlog.proofs.PlaceLemmas.{block_floor, div_at, pad4_behind, times_words}
use Rattle.jlog.proofs.ResumeLemmas.{resumed_at, resumed_paged}
use Rattle.jlog.proofs.SightLemmas.{marker_long}
use Rattle.jbuild.specs.Accepted.{end_of_places}
use Rattle.jbuild.specs.Emitting.{index_on, resume_on}
use Rattle.jbuild.specs.Length.{LineTellsLength, PlacesTellLength, TellsLength}

-- ---- one node

-- Where a node goes: to a word, behind a marker; and where what goes before it begins by its block, right behind.
record IsPlaced (size from at : ℕ) : Type 0 where
  word : at % 4 ≡ 0
  up : from ≤ at
  first : from ≤ at / size * size → at ≡ at / size * size + 12

-- in the block of the next word
placed_here : (size from at q : ℕ) → size % 4 ≡ 0 → 12 < size → q * size ≤ pad4_of from → pad4_of from < q * size + size → at ≡ max (pad4_of from) (q * size + 12) → at < q * size + size
    → IsPlaced size from at
placed_here size from at q words room low high is within =
    let whole : (q * size) % 4 ≡ 0 = times_words q size words in
    let up : from ≤ pad4_of from = le_pad4 from in
    let near : pad4_of from < from + 4 = pad4_below from in
    let next : pad4_of from % 4 ≡ 0 = pad4_words from in
    let block : at / size ≡ q = div_at at q size (omega arith) within in
    record {
      word = omega arith;
      up = omega arith;
      first = subst (λ (n : ℕ). from ≤ n * size → at ≡ n * size + 12) (sym block) (λ before. omega arith);
    }

-- at the front of the one after it
placed_next : (size from at q : ℕ) → size % 4 ≡ 0 → 12 < size → pad4_of from < q * size + size → at ≡ q * size + size + 12 → IsPlaced size from at
placed_next size from at q words room high is =
    let whole : (q * size) % 4 ≡ 0 = times_words q size words in
    let up : from ≤ pad4_of from = le_pad4 from in
    let more : suc q * size ≡ q * size + size = omega arith in
    let block : at / size ≡ suc q = div_at at (suc q) size (omega arith) (omega arith) in
    record {
      word = omega arith;
      up = omega arith;
      first = subst (λ (n : ℕ). from ≤ n * size → at ≡ n * size + 12) (sym block) (λ before. omega arith);
    }

placed : (size from len : ℕ) → size % 4 ≡ 0 → 12 < size → IsPlaced size from (place_after size from len)
placed size from len words room =
    let q : ℕ = pad4_of from / size in
    let at : ℕ = max (pad4_of from) (q * size + 12) in
    let floor : (q * size ≤ pad4_of from) × (pad4_of from < q * size + size) = block_floor (pad4_of from) size (omega arith) in
    elim (cases_lt (q * size + size) (at + len)) [
      | inl outside ↦ placed_next size from (place_after size from len) q words room floor.1 (cond-false (leb (at + len) (q * size + size)) at (q * size + size + 12) (lt-leb _ _ outside))
      | inr inside ↦
          let low : q * size ≤ pad4_of from = floor.0 in
          let high : pad4_of from < q * size + size = floor.1 in
          let here : place_after size from len ≡ at = cond-true (leb (at + len) (q * size + size)) at (q * size + size + 12) (le-leb _ _ inside) in
          placed_here size from (place_after size from len) q words room low high here (omega arith)
    ]

gap_long : (e : Endian) (size from at : ℕ) → IsPlaced size from at → from + length (gap e size from at) ≡ at
gap_long e size from at is =
    let start : ℕ = at / size * size in
    elim (cases_lt start from) [
      | inl inside ↦
          let long : length (gap e size from at) ≡ at - from =
          ap length (cond-false (leb from start) (erased (start - from) ++ clean_marker e) (erased (at - from)) (lt-leb from start inside)) ∙ length-replicate (at - from) 0xFF in
          let up : from ≤ at = is.up in
          omega arith
      | inr before ↦
          let long : length (gap e size from at) ≡ length (erased (start - from) ++ clean_marker e) =
          ap length (cond-true (leb from start) (erased (start - from) ++ clean_marker e) (erased (at - from)) (le-leb from start before)) in
          let first : at ≡ start + 12 = is.first before in
          omega (arith, length-append (erased (start - from)) (clean_marker e), length-replicate {A = ℕ} (start - from) 0xFF, marker_long e)
    ]

-- ---- all of them

output_long : (e : Endian) (size from : ℕ) (nodes : List (List ℕ)) → size % 4 ≡ 0 → 12 < size → from + length (output e size from nodes) ≡ end_of_all size from nodes
output_long e size from [] words room = omega arith
output_long e size from (node ∷ nodes) words room =
    let at : ℕ = place_after size from (length node) in
    let end : ℕ = end_after size from (length node) in
    let before : List ℕ = gap e size from at in
    let rest : end + length (output e size end nodes) ≡ end_of_all size end nodes = output_long e size end nodes words room in
    let first : from + length before ≡ at = gap_long e size from at (placed size from (length node) words room) in
    let out : length (output e size from (node ∷ nodes)) ≡ length ((before ++ filled node) ++ output e size end nodes) = refl in
    let there : end ≡ at + pad4_of (length node) = refl in
    let last : end_of_all size from (node ∷ nodes) ≡ end_of_all size end nodes = refl in
    omega (arith, out, there, last, length-append (before ++ filled node) (output e size end nodes), length-append before (filled node), length-filled node, rest, first)

-- the last one counts
end_skip : (from : ℕ) (place next : Place) (more : List Place) → end_of_places from (place ∷ next ∷ more) ≡ end_of_places from (next ∷ more)
end_skip from place next more =
    let one : length (place ∷ next ∷ more) - 1 ≡ suc (length (next ∷ more) - 1) = omega arith in
    ap (λ (i : ℕ). option_map_or (λ (p : Place). pad4_of (p.addr + p.totlen)) (slice_get (place ∷ next ∷ more) i) from) one

-- where the first of several begins has no part in it
end_same : (a b : ℕ) (place : Place) (more : List Place) → end_of_places a (place ∷ more) ≡ end_of_places b (place ∷ more)
end_same a b place [] = refl
end_same a b place (next ∷ more) = end_skip a place next more ∙ (end_same a b next more ∙ sym (end_skip b place next more))

ends : (size from : ℕ) (nodes : List (List ℕ)) → size % 4 ≡ 0 → 12 < size → end_of_places from (map shown_place (places size from nodes)) ≡ end_of_all size from nodes
ends size from [] words room = refl
ends size from (node ∷ []) words room =
    let is = placed size from (length node) words room in
    pad4_behind (place_after size from (length node)) (length node) is.word
ends size from (node ∷ next ∷ nodes) words room =
    let end : ℕ = end_after size from (length node) in
    let more : List Place = map shown_place (places size (end_after size end (length next)) nodes) in
    let first : Place = shown_place (place_after size from (length node), length node) in
    let second : Place = shown_place (place_after size end (length next), length next) in
    end_skip from first second more ∙ (end_same from end second more ∙ ends size end (next ∷ nodes) words room)

pub places_tell_length : PlacesTellLength
places_tell_length e size from nodes words room = omega (arith, ends size from nodes words room, output_long e size from nodes words room)

-- ---- what went out for operations

pub tells_length : (flash : Flash) (base : List ℕ) (ops : List Op) (accepted : ℕ) (told : List Place) → IsTrue (is_flash_of flash.size flash.blocks base)
    → told ≡ [] ++ places_of flash.order flash.size (resume_on flash base) (index_on flash base) (steps_of_first flash.page (index_on flash base) ops accepted)
    → TellsLength flash base ops accepted told
tells_length flash base ops accepted told fits is =
    let both = and_parts (is_writable_flash flash.size flash.blocks) (nat_le (length base) (flash.blocks * flash.size)) fits in
    let least : 8192 ≤ flash.size = (flash_limits flash.size flash.blocks both.0).least in
    let index = index_on flash base in
    subst (λ (places : List Place). TellsLength flash base ops accepted places) (sym is)
    (places_tell_length flash.order flash.size (resume_on flash base) (written flash.order index (steps_of_first flash.page index ops accepted)) (sized flash.size flash.blocks both.0) (omega arith))
  where
    sized : (size blocks : ℕ) → IsTrue (is_writable_flash size blocks) → size % 4 ≡ 0
    sized size blocks ok =
        let last = and_parts (is_block_size size && nat_le 8192 size && nat_lt 0 blocks) (nat_le (blocks * size) greatest_image) ok in
        let some = and_parts (is_block_size size && nat_le 8192 size) (nat_lt 0 blocks) last.0 in
        let sizes = and_parts (is_block_size size) (nat_le 8192 size) some.0 in
        let both = and_parts (nat_le 4096 size && nat_le size 4194304) (size % 4 == 0) sizes.0 in
        eqb-true _ _ both.1

pub line_tells_length : LineTellsLength
line_tells_length flash base ops accepted told sink fits emitted = tells_length flash base ops accepted told fits emitted.runs.2.wrote.places

-- an image that is gone on from fits its flash
pub goes_on_flash : (page : Page) (e : Endian) (size blocks : ℕ) (m : Mount) (at : ℕ) → resumes_by page e size blocks m ≡ Ok at → IsTrue (is_flash_of size blocks m.image)
goes_on_flash page e size blocks m at is = (resumed_at e size blocks m at (resumed_paged page e size blocks m at is).0).flash
