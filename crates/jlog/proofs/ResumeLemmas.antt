-- A session that goes on from a mounted image.
use Rattle.std.proofs.Common.{◌≡◌, ℕ, Bool, true, false, cond, Result, Ok, Err, ◌*◌, ◌≤◌, List, length, inl, inr, refl, sym, ap, ◌∙◌, subst, arith}
use Rattle.std.specs.Prelude.{IsTrue, nat_le, nat_lt, ◌&&◌, ◌⊎◌}
use Rattle.std.proofs.Math.Nat.{mul-le-mul_right}
use Rattle.std.proofs.lemmas.Bool.{and_parts, leb-true}
use Rattle.flashbase.specs.Ranges.{AreBytes}
use Rattle.jnode.specs.declared.order.Endian.{Endian}
use Rattle.jscan.specs.Image.{is_block_size, greatest_image}
use Rattle.jscan.specs.Blank.{blank_from, IsBlankFrom}
use Rattle.jscan.proofs.BlankLemmas.{blank_from_is_least}
use Rattle.jmount.specs.Mount.{Mount}
use Rattle.jmount.specs.Mounts.{IsMountOf, plain_nodes}
use Rattle.jsteps.specs.Nodes.{Indexed, indexed}
use Rattle.jsteps.specs.Laws.{IsConsistent}
use Rattle.jsteps.proofs.ConsistentLemmas.{index_is_consistent, index_is_of_nodes}
use Rattle.jlog.specs.Places.{is_writable_flash}
use Rattle.jlog.specs.Headline.{is_flash_of, resume_address}
use Rattle.jscan.specs.declared.page.Page.{Page}
use Rattle.jlog.specs.Resuming.{resumes_at, resumes_by, page_fits}
use Rattle.jlog.specs.Session.{IsGoing, IsFresh}
use Rattle.jlog.specs.declared.fault.SessionFault.{SessionFault}
use Rattle.jlog.specs.declared.fault.SessionFault.TheVariants as fault
use Rattle.jlog.proofs.HeadlineLemmas.{all_fit}
use Rattle.jlog.proofs.PlaceLemmas.{times_words}
use Rattle.jlog.proofs.StepLemmas.{size_words}

-- there is one least block from which on all are blank
pub blank_is : (e : Endian) (size : ℕ) (image : List ℕ) (blocks b : ℕ) → IsBlankFrom e size image blocks b → b ≡ blank_from e size image blocks
blank_is e size image blocks b is =
    let other : IsBlankFrom e size image blocks (blank_from e size image blocks) = blank_from_is_least e size image blocks in
    let up : b ≤ blank_from e size image blocks = is.least _ other.blank in
    let down : blank_from e size image blocks ≤ b = other.least b is.blank in
    omega (arith, up, down)

-- the parts of a flash that holds an image
pub record Holds (size blocks : ℕ) (image : List ℕ) : Type 0 where
  pub flash : IsTrue (is_writable_flash size blocks)
  pub readable : IsTrue (is_block_size size)
  pub within : length image ≤ blocks * size

pub holds_parts : (size blocks : ℕ) (image : List ℕ) → IsTrue (is_flash_of size blocks image) → Holds size blocks image
holds_parts size blocks image ok =
    let both = and_parts (is_writable_flash size blocks) (nat_le (length image) (blocks * size)) ok in
    let last = and_parts (is_block_size size && nat_le 8192 size && nat_lt 0 blocks) (nat_le (blocks * size) greatest_image) both.0 in
    let some = and_parts (is_block_size size && nat_le 8192 size) (nat_lt 0 blocks) last.0 in
    let sizes = and_parts (is_block_size size) (nat_le 8192 size) some.0 in
    record { flash = both.0; readable = sizes.0; within = leb-true _ _ both.1 }

pub resumes_within : (e : Endian) (size blocks : ℕ) (image : List ℕ) → resume_address e size blocks image ≤ blocks * size
resumes_within e size blocks image = mul-le-mul_right size (blank_from_is_least e size image blocks).blank.within

-- writing goes on from the base: its index is consistent, and its cursor is within the flash at a word
pub resumed : (e : Endian) (size blocks : ℕ) (m : Mount) → IsTrue (is_flash_of size blocks m.image) → IsMountOf e size m → AreBytes m.image
    → IsGoing size blocks (resume_address e size blocks m.image) (indexed m)
resumed e size blocks m ok is are_bytes =
    let holds = holds_parts size blocks m.image ok in
    record {
      within = resumes_within e size blocks m.image;
      word = times_words (blank_from e size m.image blocks) size (size_words size blocks holds.flash);
      consistent = subst IsConsistent (sym (index_is_of_nodes e size m is))
          (index_is_consistent (plain_nodes e size m.image) (all_fit e size m.image holds.readable are_bytes) is.mounts.root);
    }

pub fresh : (e : Endian) (size blocks : ℕ) (m : Mount) → IsTrue (is_flash_of size blocks m.image) → IsMountOf e size m
    → IsFresh e size blocks m.image (resume_address e size blocks m.image) (indexed m)
fresh e size blocks m ok is = record {
  is_base = record { flash = ok; mounts = record { sound = is.mounts.sound; root = is.mounts.root; same = refl } };
  cursor_is = refl;
  index_is = index_is_of_nodes e size m is;
}

-- ---- the answer

abbrev answer : Bool → Bool → ℕ → Result ℕ SessionFault
answer read_only ok at = cond read_only (Err fault.ReadOnly) (cond ok (Ok at) (Err fault.Geometry))

pub resumes : (e : Endian) (size blocks : ℕ) (m : Mount) (image : List ℕ) (b : ℕ) → image ≡ m.image → m.read_only ≡ false → is_flash_of size blocks image ≡ true
    → IsBlankFrom e size image blocks b → Ok (b * size) ≡ resumes_at e size blocks m
resumes e size blocks m image b image_is writes ok is =
    let fits : is_flash_of size blocks m.image ≡ true = subst (λ (l : List ℕ). is_flash_of size blocks l ≡ true) image_is ok in
    let at : b * size ≡ resume_address e size blocks m.image =
    ap (λ (n : ℕ). n * size) (blank_is e size m.image blocks b (subst (λ (l : List ℕ). IsBlankFrom e size l blocks b) image_is is)) in
    let last : answer false true (b * size) ≡ answer false true (resume_address e size blocks m.image) = ap (answer false true) at in
    last
    ∙ (sym (ap (λ (r : Bool). answer false r (resume_address e size blocks m.image)) fits)
    ∙ sym (ap (λ (r : Bool). answer r (is_flash_of size blocks m.image) (resume_address e size blocks m.image)) writes))

-- an answer that is an address
pub record ResumesAt (e : Endian) (size blocks : ℕ) (m : Mount) (at : ℕ) : Type 0 where
  pub flash : IsTrue (is_flash_of size blocks m.image)
  pub cursor : at ≡ resume_address e size blocks m.image

pub resumed_at : (e : Endian) (size blocks : ℕ) (m : Mount) (at : ℕ) → resumes_at e size blocks m ≡ Ok at → ResumesAt e size blocks m at
resumed_at e size blocks m at is = by m.read_only (is_flash_of size blocks m.image) refl is
  where
    by : (r ok : Bool) → is_flash_of size blocks m.image ≡ ok → answer r ok (resume_address e size blocks m.image) ≡ Ok at → ResumesAt e size blocks m at
    by true ok same is = cc
    by false true same is = record { flash = same; cursor = cc }
    by false false same is = cc

-- what holds of the session then
pub resumed_by : (e : Endian) (size blocks : ℕ) (m : Mount) (at : ℕ) (x : Indexed) → resumes_at e size blocks m ≡ Ok at → IsMountOf e size m → AreBytes m.image → x ≡ indexed m
    → IsTrue (is_writable_flash size blocks) × IsGoing size blocks at x
resumed_by e size blocks m at x is mount are_bytes index_is =
    let ok = resumed_at e size blocks m at is in (
      (holds_parts size blocks m.image ok.flash).flash,
      subst (IsGoing size blocks at) (sym index_is) (subst (λ (n : ℕ). IsGoing size blocks n (indexed m)) (sym ok.cursor) (resumed e size blocks m ok.flash mount are_bytes)),
    )

pub fresh_by : (e : Endian) (size blocks : ℕ) (m : Mount) (image : List ℕ) (at : ℕ) (x : Indexed) → resumes_at e size blocks m ≡ Ok at → IsMountOf e size m → image ≡ m.image → x ≡ indexed m
    → IsFresh e size blocks image at x
fresh_by e size blocks m image at x is mount image_is index_is =
    let ok = resumed_at e size blocks m at is in
    subst (λ (l : List ℕ). IsFresh e size blocks l at x) (sym image_is)
    (subst (IsFresh e size blocks m.image at) (sym index_is)
    (subst (λ (n : ℕ). IsFresh e size blocks m.image n (indexed m)) (sym ok.cursor) (fresh e size blocks m ok.flash mount)))

-- ---- by a page

-- an address by a page is one without
pub resumed_paged : (page : Page) (e : Endian) (size blocks : ℕ) (m : Mount) (at : ℕ) → resumes_by page e size blocks m ≡ Ok at
    → (resumes_at e size blocks m ≡ Ok at) × IsTrue (page_fits size page)
resumed_paged page e size blocks m at is = by m.read_only (is_flash_of size blocks m.image) (page_fits size page) is
  where
    by : (r ok fits : Bool) → answer r (ok && fits) (resume_address e size blocks m.image) ≡ Ok at → (answer r ok (resume_address e size blocks m.image) ≡ Ok at) × IsTrue fits
    by true ok fits is = cc
    by false true true is = (is, refl)
    by false true false is = cc
    by false false fits is = cc

-- why an image is not gone on from
pub why_not : (page : Page) (e : Endian) (size blocks : ℕ) (m : Mount) (f : SessionFault) → resumes_by page e size blocks m ≡ Err f → (f ≡ fault.ReadOnly) ⊎ (f ≡ fault.Geometry)
why_not page e size blocks m f is = by m.read_only (is_flash_of size blocks m.image && page_fits size page) is
  where
    by : (r ok : Bool) → answer r ok (resume_address e size blocks m.image) ≡ Err f → (f ≡ fault.ReadOnly) ⊎ (f ≡ fault.Geometry)
    by true ok is = inl cc
    by false true is = cc
    by false false is = inr cc
