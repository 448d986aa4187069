-- What a reader of blocks has left, and what one call of it does.
use Rattle.std.specs.Prelude.{◌≡◌, ℕ, ◌+◌, ◌-◌, ◌<◌, ◌≤◌, Bool, true, false, List, length, drop, min, Option, Some, None, Result, Ok, Err, IfSome, IfNone, vec_len, ⊤}
use Rattle.std.specs.Io.KnownBytes.{IsAtEnd, Keeps}
use Rattle.flashbase.specs.Device.{next_count}
use Rattle.flashbase.specs.declared.source.Source.{Ghosts as OfSource}
use Rattle.jscan.specs.Image.{block_of, greatest_image, is_block_size}
use Rattle.jscan.specs.Filling.{Breaks, StopsWithin, StopsPast}
use Rattle.jscan.specs.declared.stream.StreamFault.{StreamFault}
use Rattle.jscan.specs.declared.stream.StreamFault.TheVariants.{BlockSize, Device, TooLarge, OutOfMemory}
use Rattle.jscan.specs.declared.stream.BlockReader.{BlockReader}
use denote.Ref.{Bor}

-- rule: Blocks and images: A source's blocks are those of its bytes, however it cuts them.
--   definitions: jscan.Stream.IsNextBlock, jscan.Stream.IsReadTo
--   code: jscan::stream::BlockReader, jscan::counting::scan_stream
-- The block is the next one of these bytes, all of them within the greatest image, and the others
-- are left.
abbrev pub IsNextBlock : ℕ → ℕ → Option (List ℕ) → Option (List ℕ) → List ℕ → Type 0
IsNextBlock size start None new block = ⊤
IsNextBlock size start (Some bytes) new block =
    (0 < length bytes) × (start + min size (length bytes) ≤ greatest_image)
    × (block ≡ block_of size bytes 0) × (new ≡ Some (drop size bytes))

module _ {S : Type 0} {o : OfSource S} where
  -- the bytes of a block
  abbrev pub size_of : BlockReader S o → ℕ
  size_of reader = vec_len reader.buffer

  -- where the next block begins
  abbrev pub start_of : BlockReader S o → ℕ
  start_of reader = reader.start

  abbrev pub source_of : BlockReader S o → S
  source_of reader = reader.source

  -- the source's bytes from the next block on, where it reports them
  abbrev pub rest_of : BlockReader S o → Option (List ℕ)
  rest_of reader = o.rest reader.source

  abbrev pub failures_of : BlockReader S o → ℕ
  failures_of reader = o.failures reader.source

  -- the source has no more bytes
  abbrev pub has_ended : BlockReader S o → Bool
  has_ended reader = reader.has_ended

  -- the fault that it has answered, and answers again
  abbrev pub fault_of : BlockReader S o → Option StreamFault
  fault_of reader = reader.fault

  pub record GivesBlock (old new : BlockReader S o) (block : List ℕ) : Type 0 where
    pub reading : fault_of old ≡ None
    pub not_ended : has_ended old ≡ false
    pub whole : length block ≡ size_of old
    pub begins : start_of old < greatest_image
    pub bytes : IsNextBlock (size_of old) (start_of old) (rest_of old) (rest_of new) block
    pub same_size : size_of new ≡ size_of old
    pub moves_on : start_of new ≡ start_of old + size_of old
    pub none_failed : failures_of new ≡ failures_of old
    pub going_on : fault_of new ≡ None

  pub record GivesNone (old new : BlockReader S o) : Type 0 where
    pub reading : fault_of old ≡ None
    pub at_end : IsAtEnd (rest_of old)
    pub left : IsAtEnd (rest_of new)
    pub kept : Keeps (rest_of old) (rest_of new)
    pub ended : has_ended new ≡ true
    pub same_size : size_of new ≡ size_of old
    pub stays : start_of new ≡ start_of old
    pub none_failed : failures_of new ≡ failures_of old
    pub going_on : fault_of new ≡ None
    pub again : has_ended old ≡ true → new ≡ old

  pub record GivesFault (old new : BlockReader S o) (fault : StreamFault) : Type 0 where
    pub same_size : size_of new ≡ size_of old
    pub stays : start_of new ≡ start_of old
    pub failed : fault_of new ≡ Some fault
    pub torn : fault ≡ Device → fault_of old ≡ None
        → StopsWithin (rest_of old) (rest_of new) (size_of old)
    pub passed : fault ≡ TooLarge → fault_of old ≡ None
        → StopsPast (rest_of old) (rest_of new) (greatest_image - start_of old) (size_of old)
    pub again : IfSome (fault_of old) (λ f. (fault ≡ f) × (new ≡ old))
    pub first : IfNone (fault_of old) ((has_ended old ≡ false)
        × Breaks (rest_of old) (failures_of old) (failures_of new) (size_of old)
        (greatest_image - start_of old) fault)

  -- one call, which answers whether there is a block in the buffer
  abbrev pub Steps : BlockReader S o → BlockReader S o → Result Bool StreamFault → Type 0
  Steps old new (Ok true) = GivesBlock old new new.buffer.items
  Steps old new (Ok false) = GivesNone old new
  Steps old new (Err fault) = GivesFault old new fault

  -- one call of `next`
  abbrev pub Gives : BlockReader S o → BlockReader S o → Result (Option (Bor (List ℕ))) StreamFault
      → Type 0
  Gives old new (Ok (Some block)) = GivesBlock old new block.now
  Gives old new (Ok None) = GivesNone old new
  Gives old new (Err fault) = GivesFault old new fault

  -- a reader of blocks of this size that has given none
  abbrev pub IsAtStart : ℕ → BlockReader S o → Type 0
  IsAtStart size reader = (is_block_size size ≡ true) × (size_of reader ≡ size)
      × (start_of reader ≡ 0) × (fault_of reader ≡ None)

-- ---- the source of a call that goes over all blocks

-- A source comes back with the count of its failures, which rose by one where it is blamed, and
-- else stayed. It is gone exactly where nothing is read of it.
abbrev pub ComesBack : {T : Type 0} → ℕ → Option ℕ → Result T StreamFault → Type 0
ComesBack before None (Err BlockSize) = ⊤
ComesBack before None (Err OutOfMemory) = ⊤
ComesBack before None (Err Device) = ⊥
ComesBack before None (Err TooLarge) = ⊥
ComesBack before None (Ok _) = ⊥
ComesBack before (Some now) (Err BlockSize) = ⊥
ComesBack before (Some now) (Err OutOfMemory) = ⊥
ComesBack before (Some now) (Err Device) = now ≡ next_count before
ComesBack before (Some now) (Err TooLarge) = now ≡ before
ComesBack before (Some now) (Ok _) = now ≡ before

-- What is left of it, of whose bytes `start` are those of the blocks given: nothing; or where it
-- failed, all but less than a block of what follows them; or all but a part that goes past the
-- greatest image.
abbrev pub IsReadTo : {T : Type 0} → ℕ → ℕ → List ℕ → Option (List ℕ) → Result T StreamFault
    → Type 0
IsReadTo size start image left (Ok _) = IsAtEnd left
IsReadTo size start image left (Err Device) = StopsWithin (Some (drop start image)) left size
IsReadTo size start image left (Err TooLarge) =
    StopsPast (Some (drop start image)) left (greatest_image - start) size
IsReadTo size start image left (Err _) = ⊤
