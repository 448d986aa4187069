-- What contracts see of a session in a row of openings.
use Rattle.std.specs.Prelude.{◌≡◌, ℕ, ◌+◌, Bool, IsFalse, List, [], ◌∷◌, ◌++◌, map, take, length, IfOk, IsOk, Option, is_some, Result, Ok, Err}
use Rattle.byteorder.specs.declared.ByteOrder.{Ghosts as OfByteOrder}
use Rattle.flashbase.specs.Ranges.{AreBytes}
use Rattle.flashbase.specs.Sinks.{SinkChange, change_of}
use Rattle.flashbase.specs.declared.sink.Sink.{Ghosts as OfSink}
use Rattle.jnode.specs.declared.order.Order.{Ghosts as OfOrder}
use Rattle.jmount.specs.Mount.{Mount}
use Rattle.jsteps.specs.Nodes.{Indexed, indexed}
use Rattle.jscan.specs.Pages.{page_size}
use Rattle.jscan.specs.declared.page.Page.{Page}
use Rattle.jsteps.specs.Refusals.{steps_of_first}
use Rattle.jsteps.specs.declared.op.Op.{Op}
use Rattle.jexpand.specs.Expanded.{unpacked_bytes}
use Rattle.jlog.specs.Done.{accepted_by}
use Rattle.jlog.specs.DoneThrough.{steps_through}
use Rattle.jlog.specs.Resuming.{resumes}
use Rattle.jlog.specs.Session.{Flash as LogFlash, attempted}
use Rattle.jlog.specs.SessionAs.{FlashAs, flash_as, content_len}
use Rattle.jlog.specs.SessionAsLaws.{held_by}
use Rattle.jlog.specs.declared.fault.SessionFault.{SessionFault}
use Rattle.jlog.specs.declared.fault.SessionFault.TheVariants as fault
use Rattle.jlog.specs.declared.report.Applied.{Applied}
use Rattle.jlog.specs.declared.report.Place.{Place}
use Rattle.jlog.specs.declared.start.Flash.{Flash}
use Rattle.jrests.specs.declared.opening.Opening.{Opening}
use Rattle.jrests.specs.Shares.{shares}
use Rattle.jopenings.specs.Done.{GoesOnInOpenings, SurvivesAfterInOpenings}
use Rattle.jopenings.specs.Stretches.{longer, stretches_of}
use Rattle.jopenings.specs.declared.placing.Stretch.{Stretch}
use Rattle.jpacked.specs.View.{stop_by}
use Rattle.jupdate.specs.Rows.{begins_of, left_in, unwritten}
use Rattle.jupdate.specs.SessionIn.{StateIn, AppliesIn, RunsIn}
use Rattle.jupdate.specs.Writing.{log_in}
use Rattle.jupdate.specs.declared.session.OpeningSession.{OpeningSession}

-- What an operation leaves of how much content is held: what was held, and that of its forms.
abbrev pub HoldsAfterIn : {T : Type 0} (on : FlashAs) (from : StateIn) (o : Op) (to : StateIn)
    (sink : SinkChange) (result : Result T SessionFault) → AppliesIn on from o to sink result → ℕ
    → Type 0
HoldsAfterIn on from o to sink (Ok _) did held =
    held ≡ on.held + content_len on.flash.order did.2.1
HoldsAfterIn on from o to sink (Err (fault.Refused f)) did held = held ≡ on.held
HoldsAfterIn on from o to sink (Err (fault.Full wanted left)) did held = held ≡ on.held
HoldsAfterIn on from o to sink (Err fault.Sink) did held = held ≡ on.held
HoldsAfterIn on from o to sink (Err fault.OutOfMemory) did held = held ≡ on.held
HoldsAfterIn on from o to sink (Err fault.Broken) did held = held ≡ on.held
HoldsAfterIn on from o to sink (Err fault.ReadOnly) did held = ⊥
HoldsAfterIn on from o to sink (Err fault.Geometry) did held = ⊥

-- What it leaves of what went out to each opening: what did before, and what does for its forms.
abbrev pub GrowsIn : {T : Type 0} (on : FlashAs) (from : StateIn) (o : Op) (to : StateIn)
    (sink : SinkChange) (result : Result T SessionFault) → AppliesIn on from o to sink result
    → List Stretch → List Stretch → Type 0
GrowsIn on from o to sink (Ok _) did old new = new
    ≡ longer (stretches_of on.flash.order on.flash.size
    (shares on.flash.size from.log.row did.2.1)) old
GrowsIn on from o to sink (Err (fault.Refused f)) did old new = new ≡ old
GrowsIn on from o to sink (Err (fault.Full wanted left)) did old new = new ≡ old
GrowsIn on from o to sink (Err fault.Sink) did old new = Unit {0}
GrowsIn on from o to sink (Err fault.OutOfMemory) did old new = IsFalse to.broken → new ≡ old
GrowsIn on from o to sink (Err fault.Broken) did old new = new ≡ old
GrowsIn on from o to sink (Err fault.ReadOnly) did old new = ⊥
GrowsIn on from o to sink (Err fault.Geometry) did old new = ⊥

module _ {E : Type 0} {S : Type 0} {order : OfOrder E} {numbers : OfByteOrder E}
    {sinks : OfSink S} where
  -- how the flash is divided: so many bytes a block, and so many blocks
  abbrev pub block_size_of : OpeningSession E S order numbers sinks → ℕ
  block_size_of session = session.block

  abbrev pub blocks_of : OpeningSession E S order numbers sinks → ℕ
  blocks_of session = session.blocks

  -- the page by which writes are planned
  abbrev pub page_of : OpeningSession E S order numbers sinks → Page
  page_of session = session.page

  -- what went out to each opening of the row that was given
  abbrev pub stretches_in : OpeningSession E S order numbers sinks → List Stretch
  stretches_in session = session.log.stretches.items

  -- where these openings began
  abbrev pub openings_of : OpeningSession E S order numbers sinks → List Opening
  openings_of session = begins_of (stretches_in session)

  -- what is left of them: where writing goes on
  abbrev pub left_of : OpeningSession E S order numbers sinks → List Opening
  left_of session = left_in session.log.passed (stretches_in session)

  -- what operations are planned on
  abbrev pub index_of_log : OpeningSession E S order numbers sinks → Indexed
  index_of_log session = session.log.index

  -- how many bytes the contents of the compressed nodes have, those of the base and those put
  abbrev pub held_of : OpeningSession E S order numbers sinks → ℕ
  held_of session = session.held

  -- an operation was written in part
  abbrev pub is_broken : OpeningSession E S order numbers sinks → Bool
  is_broken session = session.broken

  abbrev pub sink_of : OpeningSession E S order numbers sinks → S
  sink_of session = session.log.sink

  -- the flash that it writes
  abbrev pub flash_of_log : OpeningSession E S order numbers sinks → LogFlash
  flash_of_log session = record {
    order = order.order;
    size = block_size_of session;
    blocks = blocks_of session;
    page = page_size (page_of session);
  }

  -- whether it packs
  abbrev pub packs_of : OpeningSession E S order numbers sinks → Bool
  packs_of session = is_some session.packing

  -- the flash, as one that may pack sees it
  abbrev pub packed_flash_of : OpeningSession E S order numbers sinks → FlashAs
  packed_flash_of session = flash_as (packs_of session) (held_of session) (flash_of_log session)

  -- its state, with the places of its nodes
  abbrev pub state_with : OpeningSession E S order numbers sinks → List Place → StateIn
  state_with session places = record {
    log = log_in (left_of session) (index_of_log session) places;
    broken = is_broken session;
  }

  -- ---- what was done

  -- A session that began in a row of openings of this base did these operations since, in whatever
  -- calls. These forms went out for their nodes, to these stretches of the flash, and the session
  -- goes on in the row that is left.
  pub record HasDone (base : List ℕ) (row : List Opening)
      (session : OpeningSession E S order numbers sinks) (done : List Op)
      (before : List (List ℕ)) : Type 0 where
    pub bytes : AreBytes base
    pub goes_on : GoesOnInOpenings (flash_of_log session) base row done before (left_of session)
        (index_of_log session)
    pub held : held_of session ≡ held_by order.order (block_size_of session) base before
    pub stretches : stretches_in session
        ≡ stretches_of order.order (block_size_of session)
        (shares (block_size_of session) row before)

  -- It is on this flash, plans on the file system of this mount, goes on in this row of openings,
  -- and puts what it writes to this sink.
  pub record IsSessionOf (mount : Mount) (flash : Flash) (row : List Opening) (given : S)
      (session : OpeningSession E S order numbers sinks) : Type 0 where
    pub block : block_size_of session ≡ flash.geometry.block
    pub blocks : blocks_of session ≡ flash.blocks
    pub page : page_of session ≡ flash.page
    pub index : index_of_log session ≡ indexed mount
    pub held : held_of session
        ≡ length (unpacked_bytes order.order flash.geometry.block mount.image)
    pub stretches : stretches_in session ≡ map unwritten row
    pub left : left_of session ≡ row
    pub whole : IsFalse (is_broken session)
    pub sink : sink_of session ≡ given

  -- It goes on in a row of openings of an image mounted through its compression, and nothing was
  -- done yet.
  pub record IsBegunIn (mount : Mount) (flash : Flash) (row : List Opening) (given : S)
      (session : OpeningSession E S order numbers sinks) : Type 0 where
    pub of : IsSessionOf mount flash row given session
    pub resumes : IsOk (resumes order.order flash mount)
    pub begins : HasDone mount.image row session [] []

  -- ---- what survives

  -- Whatever the base that it began on, whatever its openings, and whatever was done before, in
  -- whatever forms: its steps, and then those of the operations that were attempted, survive on
  -- that base, in the forms that went out or were to go out.
  abbrev pub RunSurvives : OpeningSession E S order numbers sinks → List Op
      → OpeningSession E S order numbers sinks → ℕ → List (List ℕ) → Type 0
  RunSurvives old ops new accepted forms = (base : List ℕ) (row : List Opening) (done : List Op)
      (before : List (List ℕ)) → HasDone base row old done before
      → (more : List (List ℕ)) × SurvivesAfterInOpenings (flash_of_log old) base row
      (steps_through (page_size (page_of old)) order.order (block_size_of old) base done)
      (steps_of_first (page_size (page_of old)) (index_of_log old) ops
      (attempted accepted (is_broken new))) before (forms ++ more)

  -- What was accepted is done, after what was done before.
  abbrev pub HasDoneMore : OpeningSession E S order numbers sinks → List Op
      → OpeningSession E S order numbers sinks → ℕ → List (List ℕ) → Type 0
  HasDoneMore old ops new accepted forms = (base : List ℕ) (row : List Opening) (done : List Op)
      (before : List (List ℕ)) → HasDone base row old done before
      → HasDone base row new (done ++ take accepted ops) (before ++ forms)

  -- Applying an operation to the one leaves the other, and the places of its nodes are added to
  -- those before; and so much content is held then.
  abbrev pub TakesTo : {T : Type 0} → OpeningSession E S order numbers sinks → Op
      → OpeningSession E S order numbers sinks → List Place → List Place → Result T SessionFault
      → Type 0
  TakesTo old o new before after result =
      (did : AppliesIn (packed_flash_of old) (state_with old before) o (state_with new after)
      (change_of sinks (sink_of old) (sink_of new)) result)
      × HoldsAfterIn (packed_flash_of old) (state_with old before) o (state_with new after)
      (change_of sinks (sink_of old) (sink_of new)) result did (held_of new)

  -- And so much went out to each opening then.
  abbrev pub AppliesTo : {T : Type 0} → OpeningSession E S order numbers sinks → Op
      → OpeningSession E S order numbers sinks → List Place → List Place → Result T SessionFault
      → Type 0
  AppliesTo old o new before after result =
      (took : TakesTo old o new before after result)
      × GrowsIn (packed_flash_of old) (state_with old before) o (state_with new after)
      (change_of sinks (sink_of old) (sink_of new)) result took.0 (stretches_in old)
      (stretches_in new)

  -- Running operations on the one leaves the other: so many were accepted, in these forms, their
  -- nodes have these places, and this stopped it.
  abbrev pub RunsOn : OpeningSession E S order numbers sinks → List Op
      → OpeningSession E S order numbers sinks → ℕ → List (List ℕ) → List Place
      → Option SessionFault → Type 0
  RunsOn old ops new accepted forms places stopped =
      RunsIn (packed_flash_of old) (state_with old []) ops accepted forms (state_with new places)
      (change_of sinks (sink_of old) (sink_of new)) stopped

  -- What a run did: these forms went out for the nodes of what was accepted. A stop at any byte of
  -- what was put, or was to be put, loses no step whose form is whole, and none of what was done
  -- before.
  pub record HasRun (old : OpeningSession E S order numbers sinks) (ops : List Op)
      (new : OpeningSession E S order numbers sinks) (accepted : ℕ) (places : List Place)
      (stopped : Option SessionFault) : Type 0 where
    pub forms : List (List ℕ)
    pub runs : RunsOn old ops new accepted forms places stopped
    pub survives : IsFalse (is_broken old) → RunSurvives old ops new accepted forms
    pub done : IsFalse (is_broken new) → HasDoneMore old ops new accepted forms

  -- What applying an operation did: as applying it does, and as a run of this one does.
  pub record HasApplied (old : OpeningSession E S order numbers sinks) (o : Op)
      (new : OpeningSession E S order numbers sinks) (result : Result Applied SessionFault) : Type
      0 where
    pub places : List Place
    pub told : IfOk result (λ applied. applied.places.items ≡ places)
    pub applies : AppliesTo old o new [] places result
    pub alone : HasRun old (o ∷ []) new (accepted_by result) places (stop_by result)
