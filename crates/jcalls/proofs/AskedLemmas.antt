-- What holds of a flash and a byte order holds of those that a caller asks for.
use Rattle.std.proofs.Common.{◌≡◌, subst, sym, inr, Some, Ok, Err}
use Rattle.std.specs.Prelude.{Result, IfOk, IfErr, ◌⊎◌}
use Rattle.jnode.specs.declared.order.Endian.{Endian}
use Rattle.jscan.specs.declared.page.Page.{Page}
use Rattle.jlog.specs.declared.start.Flash.{Flash}
use Rattle.jcalls.specs.Asked.{asked_order}
use Rattle.jcalls.specs.Shown.{IsDueFault}
use Rattle.jcalls.specs.Works.{PageRefused, flash_by, page_with}
use Rattle.jcalls.specs.declared.how.How.{How}
use Rattle.jcalls.specs.declared.told.Told.{Told}
use Rattle.jcalls.specs.declared.working.Target.{Target}

-- a flash is the one of a target, by the page that it asks for
abbrev pub IsFlashFor : How → Target → Flash → Type 0
IsFlashFor how target flash =
    (page_with target.page ≡ Some flash.page) × (flash ≡ flash_by how.block target.blocks flash.page)

asked_one : {V : Type 0} (how : How) (target : Target) (flash : Flash) (e : Endian) (v : V) (P : Endian → Flash → V → Type 0) → asked_order how ≡ e → IsFlashFor how target flash
    → P e flash v → (page : Page) × (page_with target.page ≡ Some page) × P (asked_order how) (flash_by how.block target.blocks page) v
asked_one how target flash e v P order is has =
    (flash.page, is.0, subst (λ f. P (asked_order how) f v) is.1 (subst (λ o. P o flash v) (sym order) has))

pub asked_by : {V : Type 0} (how : How) (target : Target) (flash : Flash) (e : Endian) (r : Result V Told) (P : Endian → Flash → V → Type 0) → asked_order how ≡ e
    → IsFlashFor how target flash → IfOk r (P e flash)
    → IfOk r (λ v. (page : Page) × (page_with target.page ≡ Some page) × P (asked_order how) (flash_by how.block target.blocks page) v)
asked_by how target flash e (Ok v) P order is has = asked_one how target flash e v P order is has
asked_by how target flash e (Err told) P order is has = has

pub refused_by_asked : {V : Type 0} (how : How) (target : Target) (flash : Flash) (e : Endian) (r : Result V Told) (P : Endian → Flash → Told → Type 0) → asked_order how ≡ e
    → IsFlashFor how target flash → IfErr r (IsDueFault (P e flash))
    → IfErr r (IsDueFault (λ told. PageRefused target.page told ⊎ ((page : Page) × (page_with target.page ≡ Some page) × P (asked_order how) (flash_by how.block target.blocks page) told)))
refused_by_asked how target flash e (Ok v) P order is fails = fails
refused_by_asked how target flash e (Err told) P order is fails =
    record { is = fails.is; other = fails.other; due = inr (asked_one how target flash e told P order is fails.due) }
