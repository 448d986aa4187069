-- A session that begins on a mount through.
use Rattle.std.proofs.Common.{◌≡◌, ℕ, ◌+◌, ◌-◌, ◌*◌, ◌≤◌, List, [], Ok, length, refl, sym, ap, subst, arith}
use Rattle.std.specs.Prelude.{IsTrue, IsOk, ◌&&◌, nat_le, nat_lt}
use Rattle.std.proofs.lemmas.Bool.{and_parts, leb-true}
use Rattle.flashbase.specs.Ranges.{AreBytes}
use Rattle.jnode.specs.declared.order.Endian.{Endian}
use Rattle.jmount.specs.Mount.{Mount}
use Rattle.jscan.specs.Image.{is_block_size, greatest_image}
use Rattle.jscan.specs.Pages.{page_size}
use Rattle.jscan.specs.declared.page.Page.{Page}
use Rattle.jsteps.specs.Nodes.{Indexed, indexed}
use Rattle.jview.specs.Through.{IsMountThroughOf}
use Rattle.jlog.specs.DoneThrough.{GoesOnAs}
use Rattle.jlog.specs.Places.{is_writable_flash}
use Rattle.jlog.specs.Resuming.{resumes_by}
use Rattle.jlog.specs.Session.{IsGoing}
use Rattle.jexpand.specs.Expanded.{unpacked_bytes}
use Rattle.jrow.specs.Arranged.{arranged, row_start}
use Rattle.jrow.specs.Row.{blank_blocks, IsRowOf}
use Rattle.jrow.proofs.ArrangedLemmas.{arranged_seen, blocks_parted}
use Rattle.jrow.proofs.RowCodeLemmas.{blank_blocks_are_row}
use Rattle.jrow.proofs.TailLemmas.{arranged_begins, base_is_arranged}
use Rattle.jlog.proofs.BeginThroughLemmas.{through_begins}
use Rattle.jlog.proofs.Parts.{flash_by}
use Rattle.jlog.proofs.ResumeLemmas.{resumed_paged, resumed_at, holds_parts}

-- what is known where an image is resumed
pub record Begins (page : Page) (e : Endian) (size blocks at : ℕ) (m : Mount) : Type 0 where
  pub writable : IsTrue (is_writable_flash size blocks)
  pub holds : page_size page + 80 ≤ size
  pub going : IsGoing size blocks at (indexed m)
  pub done : GoesOnAs (flash_by (page_size page) e size blocks) m.image [] [] at (indexed m)

pub begins : (page : Page) (e : Endian) (size blocks at : ℕ) (m : Mount) → IsMountThroughOf e size m → AreBytes m.image → resumes_by page e size blocks m ≡ Ok at → Begins page e size blocks at m
begins page e size blocks at m through bytes goes =
    let paged = resumed_paged page e size blocks m at goes in
    let begun = through_begins (flash_by (page_size page) e size blocks) at m through bytes paged.0 in
    record {
      writable = (holds_parts size blocks m.image (resumed_at e size blocks m at paged.0).flash).flash;
      holds = leb-true (page_size page + 80) size paged.1;
      going = begun.going;
      done = begun.done;
    }

writable_small : (size blocks : ℕ) → IsTrue (is_writable_flash size blocks) → blocks * size ≤ greatest_image
writable_small size blocks ok =
    leb-true (blocks * size) greatest_image (and_parts (is_block_size size && nat_le 8192 size && nat_lt 0 blocks) (nat_le (blocks * size) greatest_image) ok).1

-- the same in the row of its blank blocks
pub record BeginsInRow (page : Page) (e : Endian) (size blocks : ℕ) (m : Mount) (row : List ℕ) : Type 0 where
  pub writable : IsTrue (is_writable_flash size blocks)
  pub small : blocks * size ≤ greatest_image
  pub is_row : IsRowOf blocks row
  pub holds : page_size page + 80 ≤ size
  pub start : (blocks - length row) * size ≡ row_start e size blocks m.image
  pub going : IsGoing size blocks ((blocks - length row) * size) (indexed m)
  pub bytes : AreBytes (arranged e size blocks m.image m.image)
  pub done : GoesOnAs (flash_by (page_size page) e size blocks) (arranged e size blocks m.image m.image) [] [] ((blocks - length row) * size) (indexed m)
  pub long : length (unpacked_bytes e size (arranged e size blocks m.image m.image)) ≡ length (unpacked_bytes e size m.image)

pub begins_in_row : (page : Page) (e : Endian) (size blocks at : ℕ) (m : Mount) (row : List ℕ) → IsMountThroughOf e size m → AreBytes m.image → resumes_by page e size blocks m ≡ Ok at
    → row ≡ blank_blocks e size blocks m.image → BeginsInRow page e size blocks m row
begins_in_row page e size blocks at m row through bytes goes row_is =
    let paged = resumed_paged page e size blocks m at goes in
    let ok = (resumed_at e size blocks m at paged.0).flash in
    let holds = holds_parts size blocks m.image ok in
    let begun = arranged_begins (flash_by (page_size page) e size blocks) at m through bytes paged.0 in
    let start : (blocks - length row) * size ≡ row_start e size blocks m.image =
    ap (λ (n : ℕ). n * size) (omega (arith, blocks_parted e size blocks m.image, ap length row_is)) in
    record {
      writable = holds.flash;
      small = writable_small size blocks holds.flash;
      is_row = subst (IsRowOf blocks) (sym row_is) (blank_blocks_are_row e size blocks m.image);
      holds = leb-true (page_size page + 80) size paged.1;
      start = start;
      going = subst (λ (i : ℕ). IsGoing size blocks i (indexed m)) (sym start) begun.going;
      bytes = (base_is_arranged e size blocks m.image ok).are_bytes bytes;
      done = subst (λ (i : ℕ). GoesOnAs (flash_by (page_size page) e size blocks) (arranged e size blocks m.image m.image) [] [] i (indexed m)) (sym start) begun.done;
      long = (arranged_seen e size blocks m.image m.image holds.readable holds.within).contents;
    }

pub resumed_is_ok : (page : Page) (e : Endian) (size blocks : ℕ) (m : Mount) (at : ℕ) → resumes_by page e size blocks m ≡ Ok at → IsOk (resumes_by page e size blocks m)
resumed_is_ok page e size blocks m at goes = subst IsOk (sym goes) refl

-- an index that is the mount's
pub done_by : (page : ℕ) (e : Endian) (size size' blocks blocks' at at' : ℕ) (page' : Page) (base : List ℕ) (x y : Indexed) → page_size page' ≡ page → size' ≡ size → blocks' ≡ blocks → at' ≡ at → y ≡ x
    → GoesOnAs (flash_by page e size blocks) base [] [] at x → GoesOnAs (flash_by (page_size page') e size' blocks') base [] [] at' y
done_by page e size size' blocks blocks' at at' page' base x y page_is size_is blocks_is at_is index_is on =
    subst (λ (p : ℕ). GoesOnAs (flash_by p e size' blocks') base [] [] at' y) (sym page_is)
    (subst (λ (i : ℕ). GoesOnAs (flash_by page e i blocks') base [] [] at' y) (sym size_is)
    (subst (λ (i : ℕ). GoesOnAs (flash_by page e size i) base [] [] at' y) (sym blocks_is)
    (subst (λ (i : ℕ). GoesOnAs (flash_by page e size blocks) base [] [] i y) (sym at_is)
    (subst (λ (z : Indexed). GoesOnAs (flash_by page e size blocks) base [] [] at z) (sym index_is) on))))
