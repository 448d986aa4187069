-- A session that begins in openings of a mount through.
use Rattle.std.proofs.Common.{◌≡◌, ℕ, ◌+◌, ◌%◌, ◌<◌, ◌≤◌, List, [], ◌∷◌, length, refl, sym, ap, subst, ◌∙◌, arith, inl, inr, Ok, Some}
use Rattle.std.specs.Prelude.{IsTrue}
use Rattle.std.specs.List.{AllByRecursion}
use Rattle.std.proofs.lemmas.Bool.{cases_Bool}
use Rattle.flashbase.specs.Ranges.{AreBytes}
use Rattle.jnode.specs.declared.order.Endian.{Endian}
use Rattle.jmount.specs.Mount.{Mount}
use Rattle.jscan.specs.Blank.{is_blank}
use Rattle.jscan.specs.Image.{block_of}
use Rattle.jscan.specs.Pages.{page_size}
use Rattle.jscan.specs.declared.page.Page.{Page}
use Rattle.jsteps.specs.Nodes.{Indexed, indexed}
use Rattle.jview.specs.Through.{IsMountThroughOf}
use Rattle.jlog.specs.HeadlineThrough.{index_through}
use Rattle.jlog.specs.Places.{is_writable_flash}
use Rattle.jlog.specs.Resuming.{resumes_by}
use Rattle.jlog.proofs.ByteLemmas.{block_long}
use Rattle.jlog.proofs.Parts.{flash_by}
use Rattle.jlog.proofs.StepLemmas.{size_words}
use Rattle.jrests.specs.Begun.{rest_of, IsRest}
use Rattle.jrests.specs.Openings.{opening_in, AreUpwards, IsOpeningOf, AreOpeningsOf}
use Rattle.jrests.specs.declared.opening.Opening.{Opening}
use Rattle.jrests.proofs.KeepLemmas.{whole_words}
use Rattle.jrests.proofs.RestLemmas.{rest_is_found}
use Rattle.jopenings.specs.Done.{GoesOnInOpenings}
use Rattle.jopenings.proofs.DoneLemmas.{openings_begin}
use Rattle.jpacked.proofs.BeginLemmas.{begins}
use Rattle.jupdate.specs.Rows.{IsOpen}
use Rattle.jupdate.specs.SessionIn.{IsGoingIn}

-- ---- openings of an image are openings that are written

-- where a block is begun, or where it begins
record IsAt (size p : ℕ) : Type 0 where
  word : p % 4 ≡ 0
  inside : p ≤ size

rest_at : (e : Endian) (size : ℕ) (block : List ℕ) (p : ℕ) → size % 4 ≡ 0 → length block ≡ size → IsRest e size block p → IsAt size p
rest_at e size block p words long rest =
    let made = whole_words e 0 block rest.before rest.after (omega (arith, long, words)) rest.tiles rest.whole in
    record { word = subst (λ (n : ℕ). n % 4 ≡ 0) rest.begins made.0; inside = omega (arith, rest.within, long) }

opening_at : (e : Endian) (size : ℕ) (block : List ℕ) (p : ℕ) → size % 4 ≡ 0 → length block ≡ size → opening_in e size block ≡ Some p → IsAt size p
opening_at e size block p words long is = elim (cases_Bool (is_blank e size block)) [
  | inl blank ↦
      let here : Some 0 ≡ Some p = rw blank at is in
      let same : 0 ≡ p = cc in
      subst (IsAt size) same (record { word = refl; inside = omega arith })
  | inr begun ↦
      let there = rw begun at is in
      let here : rest_of e size block ≡ Some p = rw begun there in
      rest_at e size block p words long (rest_is_found e size block p here)
]

openings_open : (e : Endian) (size blocks from : ℕ) (image : List ℕ) (row : List Opening) → size % 4 ≡ 0 → AreUpwards from blocks row → AllByRecursion (IsOpeningOf e size image) row
    → AllByRecursion (IsOpen size blocks) row
openings_open e size blocks from image [] words up are = tt
openings_open e size blocks from image (o ∷ row) words up are =
    let at = opening_at e size (block_of size image o.block) o.place words (block_long size image o.block) are.0 in
    (record { within = up.1; word = at.word; inside = at.inside }, openings_open e size blocks (o.block + 1) image row words up.2 are.1)

-- no more of them than blocks
few_openings : (from blocks : ℕ) (row : List Opening) → AreUpwards from blocks row → from ≤ blocks → from + length row ≤ blocks
few_openings from blocks [] up low = omega arith
few_openings from blocks (o ∷ row) up low =
    let rest : o.block + 1 + length row ≤ blocks = few_openings (o.block + 1) blocks row up.2 (omega (arith, up.1)) in
    omega (arith, rest, up.0)

-- ---- what is known where a session begins

pub record BeginsIn (page : Page) (e : Endian) (size blocks : ℕ) (m : Mount) (row : List Opening) : Type 0 where
  pub writable : IsTrue (is_writable_flash size blocks)
  pub holds : page_size page + 80 ≤ size
  pub going : IsGoingIn size blocks row (indexed m)
  pub done : GoesOnInOpenings (flash_by (page_size page) e size blocks) m.image row [] [] row (indexed m)

pub begins_in : (page : Page) (e : Endian) (size blocks at : ℕ) (m : Mount) (row : List Opening) → IsMountThroughOf e size m → AreBytes m.image → resumes_by page e size blocks m ≡ Ok at
    → AreOpeningsOf e size blocks m.image row → BeginsIn page e size blocks m row
begins_in page e size blocks at m row through bytes goes openings =
    let known = begins page e size blocks at m through bytes goes in
    let words : size % 4 ≡ 0 = size_words size blocks known.writable in
    let index : indexed m ≡ index_through e size m.image = known.done.index_is in
    record {
      writable = known.writable;
      holds = known.holds;
      going = record { openings = openings_open e size blocks 0 m.image row words openings.upwards openings.each; few = omega (arith, few_openings 0 blocks row openings.upwards (omega arith)); consistent = known.going.consistent };
      done = subst (λ (x : Indexed). GoesOnInOpenings (flash_by (page_size page) e size blocks) m.image row [] [] row x) (sym index)
          (openings_begin (flash_by (page_size page) e size blocks) m.image row known.done.is_base openings);
    }

-- an index that is the mount's, and a row that is the one given
pub done_by : (page page' : Page) (e : Endian) (size size' blocks blocks' : ℕ) (base : List ℕ) (row left : List Opening) (x y : Indexed) → page' ≡ page → size' ≡ size → blocks' ≡ blocks → left ≡ row → y ≡ x
    → GoesOnInOpenings (flash_by (page_size page) e size blocks) base row [] [] row x → GoesOnInOpenings (flash_by (page_size page') e size' blocks') base row [] [] left y
done_by page page' e size size' blocks blocks' base row left x y page_is size_is blocks_is left_is index_is on =
    subst (λ (p : Page). GoesOnInOpenings (flash_by (page_size p) e size' blocks') base row [] [] left y) (sym page_is)
    (subst (λ (i : ℕ). GoesOnInOpenings (flash_by (page_size page) e i blocks') base row [] [] left y) (sym size_is)
    (subst (λ (i : ℕ). GoesOnInOpenings (flash_by (page_size page) e size i) base row [] [] left y) (sym blocks_is)
    (subst (λ (l : List Opening). GoesOnInOpenings (flash_by (page_size page) e size blocks) base row [] [] l y) (sym left_is)
    (subst (λ (z : Indexed). GoesOnInOpenings (flash_by (page_size page) e size blocks) base row [] [] row z) (sym index_is) on))))
