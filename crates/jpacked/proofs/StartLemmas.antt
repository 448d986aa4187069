-- Where a log goes on, by a page.
use Rattle.std.proofs.Common.{◌≡◌, ℕ, Bool, true, false, cond, Result, Ok, Err}
use Rattle.std.specs.Prelude.{◌&&◌}
use Rattle.jnode.specs.declared.order.Endian.{Endian}
use Rattle.jmount.specs.Mount.{Mount}
use Rattle.jscan.specs.declared.page.Page.{Page}
use Rattle.jlog.specs.Headline.{is_flash_of, resume_address}
use Rattle.jlog.specs.Resuming.{resumes_at, resumes_by, page_fits}
use Rattle.jlog.specs.declared.fault.SessionFault.{SessionFault}
use Rattle.jlog.specs.declared.fault.SessionFault.TheVariants as fault

abbrev answer : Bool → Bool → ℕ → Result ℕ SessionFault
answer read_only ok at = cond read_only (Err fault.ReadOnly) (cond ok (Ok at) (Err fault.Geometry))

pub at_page : (page : Page) (e : Endian) (size blocks : ℕ) (m : Mount) (at : ℕ) → m.read_only ≡ false → is_flash_of size blocks m.image ≡ true → page_fits size page ≡ true
    → Ok at ≡ resumes_at e size blocks m → Ok at ≡ resumes_by page e size blocks m
at_page page e size blocks m at writes ok fits is = by m.read_only (is_flash_of size blocks m.image) (page_fits size page) writes ok fits is
  where
    by : (r o f : Bool) → r ≡ false → o ≡ true → f ≡ true → Ok at ≡ answer r o (resume_address e size blocks m.image) → Ok at ≡ answer r (o && f) (resume_address e size blocks m.image)
    by false true true writes ok fits is = is
    by true o f writes ok fits is = cc
    by false false f writes ok fits is = cc
    by false true false writes ok fits is = cc
