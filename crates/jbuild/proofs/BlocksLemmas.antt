-- What is told of the operation at which a run stopped for want of room.
use Rattle.std.proofs.Common.{◌≡◌, ℕ, ◌<◌, Bool, false, List, [], length, Option, Some, None, Result, Ok, Err, refl, ap, ◌∙◌, subst}
use Rattle.std.specs.Prelude.{◌≢◌, IfOk, IsFalse}
use Rattle.std.proofs.lemmas.Option.{slice_get_within}
use Rattle.flashbase.specs.Sinks.{SinkChange}
use Rattle.jnode.specs.declared.order.Endian.{Endian}
use Rattle.jsteps.specs.Nodes.{Indexed}
use Rattle.jscan.specs.Pages.{page_size}
use Rattle.jsteps.specs.Refusals.{planned_by}
use Rattle.jsteps.specs.declared.op.Op.{Op}
use Rattle.jscan.specs.declared.page.Page.{Page}
use Rattle.jsteps.specs.declared.step.Step.{Step}
use Rattle.jlog.specs.Headline.{index_of_image, resume_address}
use Rattle.jlog.specs.Places.{least_blocks}
use Rattle.jlog.specs.Running.{written}
use Rattle.jlog.specs.Session.{Flash, IsFresh, LogState, Runs, TellsBlocks}
use Rattle.jlog.proofs.Parts.{RunsBy, change_by, flash_by, state_by}
use Rattle.jlog.specs.declared.fault.SessionFault.{SessionFault}
use Rattle.jlog.specs.declared.fault.SessionFault.TheVariants as fault
use Rattle.jlog.specs.declared.report.Place.{Place}
use Rattle.jbuild.specs.Blocks.{TellsRefused, TellsRefusedOn, state_after}
use Rattle.jbuild.specs.Emitting.{index_on, paged_flash, resume_on}

-- a run that stopped was stopped by one of its operations
pub stopped_within : (flash : Flash) (from : LogState) (ops : List Op) (n : ℕ) (to : LogState) (sink : SinkChange) (stopped : Option SessionFault)
    → Runs flash from ops n to sink stopped → stopped ≢ None → n < length ops
stopped_within flash from ops n to sink None runs some = absurd (some refl)
stopped_within flash from ops n to sink (Some f) runs some = slice_get_within ops n runs.op runs.next

-- what is told of a log is told of another that goes on at the same address, with the same index
told_of : (flash : Flash) (a b : LogState) (o : Op) (blocks : Option ℕ) → a.log.cursor ≡ b.log.cursor → a.log.index ≡ b.log.index → IsFalse b.broken
    → TellsBlocks flash a o (Ok blocks) → TellsBlocks flash b o (Ok blocks)
told_of flash a b o blocks cursor index whole told =
    let steps : List Step = told.1.0 in
    let least : blocks ≡ least_blocks flash.size b.log.cursor (written flash.order b.log.index steps) =
    subst (λ (x : Indexed). blocks ≡ least_blocks flash.size b.log.cursor (written flash.order x steps)) index
    (subst (λ (at : ℕ). blocks ≡ least_blocks flash.size at (written flash.order a.log.index steps)) cursor told.1.2) in
    (whole, (steps, subst (λ (x : Indexed). planned_by flash.page x o ≡ Ok steps) index told.1.1, least))

-- the log that a run leaves which stopped for want of room is that of the operations that it accepted
tells_on : (flash : Flash) (base : List ℕ) (ops : List Op) (n : ℕ) (to : LogState) (sink : SinkChange) (stopped : Option SessionFault) (blocks : Option ℕ)
    → Runs flash (state_by (resume_on flash base) (index_on flash base) false []) ops n to sink stopped
    → TellsRefused flash to ops n stopped blocks → TellsRefusedOn flash base ops n stopped blocks
tells_on flash base ops n to sink (Some (fault.Full needed free)) blocks runs told =
    let still = runs.stop.2 in
    let wrote = runs.run.wrote in
    (told.0, told.1, told_of flash to (state_after flash base ops n) told.0 blocks (still.cursor ∙ wrote.cursor) (still.index ∙ wrote.index) refl told.2)
tells_on flash base ops n to sink (Some (fault.Refused f)) blocks runs told = told
tells_on flash base ops n to sink (Some fault.ReadOnly) blocks runs told = told
tells_on flash base ops n to sink (Some fault.Sink) blocks runs told = told
tells_on flash base ops n to sink (Some fault.OutOfMemory) blocks runs told = told
tells_on flash base ops n to sink (Some fault.Broken) blocks runs told = told
tells_on flash base ops n to sink (Some fault.Geometry) blocks runs told = told
tells_on flash base ops n to sink None blocks runs told = told

-- the session's own words for a flash
same_flash : (page p : Page) (e : Endian) (size s blocks b : ℕ) → p ≡ page → s ≡ size → b ≡ blocks → flash_by (page_size p) e s b ≡ paged_flash page e size blocks
same_flash page p e size s blocks b same_page same_size same_blocks =
    ap (λ (z : Page). flash_by (page_size z) e s b) same_page
    ∙ (ap (λ (z : ℕ). flash_by (page_size page) e z b) same_size ∙ ap (λ (z : ℕ). flash_by (page_size page) e size z) same_blocks)

-- a run of a session that goes on from its base, in the words of those who asked for it
runs_on : (page p : Page) (e : Endian) (size s blocks b : ℕ) (base image : List ℕ) (from : ℕ) (x : Indexed) (ops : List Op) (was : Bool) (n end : ℕ) (y : Indexed) (is : Bool)
    (old new : Option (List ℕ)) (before now : ℕ) (places : List Place) (stopped : Option SessionFault)
    → p ≡ page → s ≡ size → b ≡ blocks → image ≡ base → IsFresh e s b image from x → was ≡ false
    → RunsBy (page_size p) e s b from x ops was n end y is old new before now places stopped
    → Runs (paged_flash page e size blocks) (state_by (resume_address e size blocks base) (index_of_image e size base) false []) ops n (state_by end y is places) (change_by old new before now) stopped
runs_on page p e size s blocks b base image from x ops was n end y is old new before now places stopped same_page same_size same_blocks same_base fresh whole runs =
    let to : LogState = state_by end y is places in
    let sink : SinkChange = change_by old new before now in
    let own : Flash = flash_by (page_size p) e s b in
    let at : from ≡ resume_address e size blocks base = fresh.cursor_is
    ∙ (ap (λ (z : List ℕ). resume_address e s b z) same_base
    ∙ (ap (λ (z : ℕ). resume_address e z b base) same_size ∙ ap (λ (z : ℕ). resume_address e size z base) same_blocks)) in
    let index : x ≡ index_of_image e size base = fresh.index_is ∙ (ap (λ (z : List ℕ). index_of_image e s z) same_base ∙ ap (λ (z : ℕ). index_of_image e z base) same_size) in
    subst (λ (f : Flash). Runs f (state_by (resume_address e size blocks base) (index_of_image e size base) false []) ops n to sink stopped) (same_flash page p e size s blocks b same_page same_size same_blocks)
    (subst (λ (a : ℕ). Runs own (state_by a (index_of_image e size base) false []) ops n to sink stopped) at
    (subst (λ (z : Indexed). Runs own (state_by from z false []) ops n to sink stopped) index
    (subst (λ (z : Bool). Runs own (state_by from x z []) ops n to sink stopped) whole runs)))

-- what a session tells after its run
pub tells_after : (page p q : Page) (e : Endian) (size s t blocks b d : ℕ) (base image : List ℕ) (from : ℕ) (x : Indexed) (ops : List Op) (was : Bool) (n end : ℕ) (y : Indexed) (is : Bool)
    (old new : Option (List ℕ)) (before now : ℕ) (places : List Place) (stopped : Option SessionFault) (told : Option ℕ)
    → p ≡ page → s ≡ size → b ≡ blocks → q ≡ p → t ≡ s → d ≡ b → image ≡ base → IsFresh e s b image from x → was ≡ false
    → RunsBy (page_size p) e s b from x ops was n end y is old new before now places stopped
    → TellsRefused (flash_by (page_size q) e t d) (state_by end y is []) ops n stopped told
    → TellsRefusedOn (paged_flash page e size blocks) base ops n stopped told
tells_after page p q e size s t blocks b d base image from x ops was n end y is old new before now places stopped told same_page same_size same_blocks page_stays size_stays blocks_stay same_base fresh whole runs tells =
    let flash : Flash = paged_flash page e size blocks in
    let run = runs_on page p e size s blocks b base image from x ops was n end y is old new before now places stopped same_page same_size same_blocks same_base fresh whole runs in
    let asked : TellsRefused flash (state_by end y is []) ops n stopped told =
    subst (λ (f : Flash). TellsRefused f (state_by end y is []) ops n stopped told) (same_flash page q e size t blocks d (page_stays ∙ same_page) (size_stays ∙ same_size) (blocks_stay ∙ same_blocks)) tells in
    tells_on flash base ops n (state_by end y is places) (change_by old new before now) stopped told run (placed flash ops n end y is places stopped told asked)
  where
    placed : (flash : Flash) (ops : List Op) (n end : ℕ) (y : Indexed) (is : Bool) (places : List Place) (stopped : Option SessionFault) (told : Option ℕ)
        → TellsRefused flash (state_by end y is []) ops n stopped told → TellsRefused flash (state_by end y is places) ops n stopped told
    placed flash ops n end y is places stopped told is_told = is_told

-- where memory did not run out for it
pub if_told : {X : Type 0} (P Q : Option ℕ → Type 0) (r : Result (Option ℕ) X) → ((blocks : Option ℕ) → P blocks → Q blocks) → IfOk r P → IfOk r Q
if_told P Q (Ok blocks) on told = on blocks told
if_told P Q (Err e) on told = tt
