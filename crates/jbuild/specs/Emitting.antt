-- What goes out for a base and operations on it.
use Rattle.std.specs.Prelude.{◌≡◌, ℕ, Bool, false, List, [], Option, Err, IsOk}
use Rattle.std.specs.Io.KnownBytes.{Appends}
use Rattle.flashbase.specs.Device.{PutsPart, next_count}
use Rattle.flashbase.specs.Sinks.{SinkChange}
use Rattle.jnode.specs.declared.order.Endian.{Endian}
use Rattle.jmount.specs.Mount.{Mount}
use Rattle.jsteps.specs.Nodes.{Indexed}
use Rattle.jscan.specs.Pages.{page_size}
use Rattle.jsteps.specs.Refusals.{steps_of_first}
use Rattle.jsteps.specs.declared.op.Op.{Op}
use Rattle.jscan.specs.declared.page.Page.{Page}
use Rattle.jlog.specs.Headline.{index_of_image, resume_address, Survives}
use Rattle.jlog.specs.Left.{front_of}
use Rattle.jlog.specs.Resuming.{resumes_by}
use Rattle.jlog.specs.Running.{log_at}
use Rattle.jlog.specs.Session.{Flash, Runs, attempted}
use Rattle.jlog.specs.declared.fault.SessionFault.{SessionFault}
use Rattle.jlog.specs.declared.fault.SessionFault.TheVariants as fault
use Rattle.jlog.specs.declared.report.Place.{Place}
use Rattle.jbuild.specs.declared.emitting.EmitFault.{EmitFault}
use Rattle.jbuild.specs.declared.emitting.EmitFault.TheVariants as emit

-- the base's bytes up to where writing goes on
abbrev pub front_before : Endian → ℕ → ℕ → List ℕ → List ℕ
front_before e size blocks base = front_of base (resume_address e size blocks base)

-- a flash of so many blocks of this size, that is written in this order, and in nodes of at most a
-- page
abbrev pub paged_flash : Page → Endian → ℕ → ℕ → Flash
paged_flash page e size blocks =
    record { order = e; size = size; blocks = blocks; page = page_size page }

-- where writing goes on behind a base on a flash, and the index of the base
abbrev pub resume_on : Flash → List ℕ → ℕ
resume_on flash base = resume_address flash.order flash.size flash.blocks base

abbrev pub index_on : Flash → List ℕ → Indexed
index_on flash base = index_of_image flash.order flash.size base

-- rule: Building and extending: The output for a base and operations on it.
--   definitions: jbuild.Emitting.IsEmitted, jbuild.Emitting.IsNotEmitted, jlog.Left.front_of
--   code: jbuild::emitting::emit
-- The base's bytes went out up to where writing goes on, and operations were run on it from there;
-- so many were accepted, their nodes have these places, and this stopped them. What they did
-- survives a stop of writing at any byte.
pub record IsEmitted (flash : Flash) (base : List ℕ) (ops : List Op) (accepted : ℕ)
    (places : List Place) (stopped : Option SessionFault) (sink : SinkChange) : Type 0 where
  pub between : Option (List ℕ)
  pub end : ℕ
  pub index : Indexed
  pub broken : Bool
  pub front : Appends sink.old between
      (front_before flash.order flash.size flash.blocks base)
  pub runs : Runs flash
      (record {
        log = log_at (resume_on flash base) (index_on flash base) [];
        broken = false;
      })
      ops accepted (record { log = log_at end index places; broken = broken })
      (record sink { old = between }) stopped
  pub survives : Survives flash.order flash.size flash.blocks base
      (steps_of_first flash.page (index_on flash base) ops (attempted accepted broken))

-- the fault of a session that says the same
abbrev pub session_fault : EmitFault → SessionFault
session_fault emit.Sink = fault.Sink
session_fault emit.OutOfMemory = fault.OutOfMemory

-- Nothing was run: only a beginning of the base's bytes up to there went out, or all of them and
-- then memory ran out.
abbrev pub IsNotRun : Flash → List ℕ → SinkChange → EmitFault → Type 0
IsNotRun flash base sink emit.Sink =
    PutsPart sink.old sink.new (front_before flash.order flash.size flash.blocks base)
    × (sink.now ≡ next_count sink.before)
IsNotRun flash base sink emit.OutOfMemory =
    Appends sink.old sink.new (front_before flash.order flash.size flash.blocks base)
    × (sink.now ≡ sink.before)

-- Nothing was run: only a beginning of the base's bytes went out, or all of them and then memory
-- ran out; or the image is not gone on from, and nothing went out.
abbrev pub IsNotEmitted : Page → Endian → ℕ → ℕ → Mount → SinkChange → SessionFault → Type 0
IsNotEmitted page e size blocks m sink fault.Sink =
    IsOk (resumes_by page e size blocks m)
    × PutsPart sink.old sink.new (front_before e size blocks m.image)
    × (sink.now ≡ next_count sink.before)
IsNotEmitted page e size blocks m sink fault.OutOfMemory =
    IsOk (resumes_by page e size blocks m)
    × Appends sink.old sink.new (front_before e size blocks m.image)
    × (sink.now ≡ sink.before)
IsNotEmitted page e size blocks m sink fault.ReadOnly =
    (resumes_by page e size blocks m ≡ Err fault.ReadOnly) × (sink.new ≡ sink.old)
    × (sink.now ≡ sink.before)
IsNotEmitted page e size blocks m sink fault.Geometry =
    (resumes_by page e size blocks m ≡ Err fault.Geometry) × (sink.new ≡ sink.old)
    × (sink.now ≡ sink.before)
IsNotEmitted page e size blocks m sink (fault.Refused why) = ⊥
IsNotEmitted page e size blocks m sink (fault.Full needed free) = ⊥
IsNotEmitted page e size blocks m sink fault.Broken = ⊥
