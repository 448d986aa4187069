-- What a mount answers, of what was collected.
use Rattle.std.proofs.Common.{◌≡◌, ◌≢◌, ℕ, ◌+◌, ◌<◌, ◌≤◌, ◌^◌, Bool, true, false, List, length, get_or, All, None, Some, Err, refl, ap, sym, ◌∙◌, subst, arith, IsFalse}
use Rattle.std.specs.Prelude.{Contains, IsTrue, Ok, Result}
use Rattle.std.specs.Ordering.{nat_cmp}
use Rattle.std.specs.BTreeMap.{IsOrdered}
use Rattle.std.proofs.lemmas.List.Elements.{Contains-get_or}
use Rattle.jnode.specs.declared.order.Endian.{Endian}
use Rattle.jnode.specs.declared.node.Dirent.{Dirent}
use Rattle.jnode.specs.declared.node.InodeNode.{InodeNode}
use Rattle.jnode.specs.declared.node.Fill.{Fill}
use Rattle.jnode.specs.declared.node.Fill.TheVariants as fill
use Rattle.jnode.specs.declared.node.NodeRef.{NodeRef}
use Rattle.jnode.specs.declared.node.NodeRef.TheVariants.{Entry, Inode}
use Rattle.jnode.specs.Writing.{IsWritable, IsWritableInode, HoldsRange}
use Rattle.jfrag.specs.Pieces.{end_of, body_len}
use Rattle.flashbase.proofs.MemberLemmas.{Contains-map_from}
use Rattle.jscan.specs.Image.{sightings, nodes}
use Rattle.jscan.specs.Scans.{IsScannable, first_refused, nodes_before_refusal, findings, is_read_only}
use Rattle.jscan.specs.declared.geometry.ScanFault.{ScanFault}
use Rattle.jscan.specs.declared.finding.Finding.{Finding}
use Rattle.jscan.proofs.AddressLaws.{sightings_ascend}
use Rattle.jscan.proofs.FitLaws.{nodes_writable}
use Rattle.jmount.specs.Tree.{State, is_directory}
use Rattle.jmount.specs.Mount.{Mount}
use Rattle.jmount.specs.Mounts.{Answers, IsMountOf, IsSound, state, plain_nodes}
use Rattle.jmount.specs.MountsNodes.{IsMountable, AreMountable, MountsNodes, IsMountedWith, AnswersNodes}
use Rattle.jmount.specs.StateOf.{body_of, piece_of, state_of, tops_of}
use Rattle.jmount.specs.Stored.{ObjectsByNumber, stored_state, stored_tops}
use Rattle.jmount.specs.Clash.{NoneClash}
use Rattle.jmount.specs.Collected.{Collected, FirstClash, HasNoClash, StopsCollecting, without_addresses, greatest_number, refusal_fault}
use Rattle.jmount.specs.declared.fault.MountFault.{MountFault}
use Rattle.jmount.specs.declared.fault.MountFault.TheVariants as fault
use Rattle.jmount.proofs.ClashLemmas.{from_entries, from_inodes, no_clash_at}
use Rattle.jmount.proofs.FaultLemmas.{Ascends, ascends_from_splits, first_clash_answers, refusal_answers, nodes_are_all, none_is_sound}
use Rattle.jmount.proofs.CollectedLemmas.{collected_none_clash}
use Rattle.jmount.proofs.StoredStateLemmas.{HasEach, state_stored, tops_stored}

ascends : (e : Endian) (size : ℕ) (image : List ℕ) → Ascends (sightings e size image)
ascends e size image = ascends_from_splits (sightings e size image) (sightings_ascend e size image)

-- ---- faults

pub stop_answers : (e : Endian) (size : ℕ) (image : List ℕ) (why : MountFault) → IsScannable size image → StopsCollecting (nodes_before_refusal e size image) why → Answers e size image (Err why)
stop_answers e size image (fault.Clash addr) scannable h = first_clash_answers e size image addr scannable (ascends e size image) h
stop_answers e size image fault.OutOfMemory scannable h = scannable
stop_answers e size image fault.BlockSize scannable h = absurd h
stop_answers e size image fault.TooLarge scannable h = absurd h
stop_answers e size image (fault.Incompatible addr nodetype) scannable h = absurd h
stop_answers e size image (fault.Compressed addr compr) scannable h = absurd h
stop_answers e size image fault.RootKind scannable h = absurd h

pub refused_answers : (e : Endian) (size : ℕ) (image : List ℕ) (why : ScanFault) (f : MountFault)
    → IsScannable size image → HasNoClash (nodes_before_refusal e size image) → first_refused e size image ≡ Some why → f ≡ refusal_fault why → Answers e size image (Err f)
refused_answers e size image why f scannable apart some is =
    subst (λ (g : MountFault). Answers e size image (Err g)) (sym is) (refusal_answers e size image why scannable (ascends e size image) apart some)

-- ---- nodes of an image are as a mount wants them

range_end : (offset dsize : ℕ) (f : Fill) → HoldsRange f dsize → offset + dsize ≤ 0xFFFF_FFFF → offset + body_len (body_of dsize f) < 2 ^ 32
range_end offset dsize fill.Zero h le = omega arith
range_end offset dsize (fill.Data bytes) h le = let same : length bytes ≡ dsize = h in omega arith

writable_mountable : (node : NodeRef) → IsWritable node → IsMountable node
writable_mountable (Inode node) w = range_end node.offset node.dsize node.fill w.stored w.end
writable_mountable (Entry entry) w = λ zero. let parent : 1 ≤ entry.pino = w.parent in let none : entry.pino ≡ 0 = zero in omega arith

pub nodes_mountable : (e : Endian) (size : ℕ) (image : List ℕ) → IsScannable size image → AreMountable (nodes e size image)
nodes_mountable e size image scannable n there = writable_mountable n.1 (nodes_writable e size image n scannable.0 there)

-- ---- of nodes that were collected

pub collected_ends : (names : List Dirent) (inode_list : List InodeNode) (ns : List (ℕ × NodeRef)) → AreMountable ns → Collected names inode_list ns
    → All (λ node. end_of (piece_of node) < 2 ^ 32) inode_list
collected_ends names inode_list ns mountable collected k d l =
    let node = get_or inode_list k d in
    let there : Contains (without_addresses ns) (Inode node) = from_inodes (without_addresses ns) node ((collected.same_inodes node).0 (Contains-get_or inode_list k d l)) in
    let found = Contains-map_from (λ (n : ℕ × NodeRef). n.1) ns (Inode node) there in
    subst IsMountable found.2 (mountable found.0 found.1)

pub collected_parents : (names : List Dirent) (inode_list : List InodeNode) (ns : List (ℕ × NodeRef)) → AreMountable ns → Collected names inode_list ns
    → (entry : Dirent) → Contains names entry → entry.pino ≢ 0
collected_parents names inode_list ns mountable collected entry h =
    let there : Contains (without_addresses ns) (Entry entry) = from_entries (without_addresses ns) entry ((collected.same_entries entry).0 h) in
    let found = Contains-map_from (λ (n : ℕ × NodeRef). n.1) ns (Entry entry) there in
    subst IsMountable found.2 (mountable found.0 found.1)

-- ---- the file system

-- what a mount keeps of nodes that do not clash
pub record Keeps (ns : List (ℕ × NodeRef)) (names : List Dirent) (inode_list : List InodeNode) (objects : ObjectsByNumber) (next : ℕ) : Type 0 where
  pub collected : Collected names inode_list ns
  pub ordered : IsOrdered nat_cmp objects
  pub each : HasEach objects inode_list
  pub number : next ≡ greatest_number (without_addresses ns) + 1

module _ (ns : List (ℕ × NodeRef)) (names : List Dirent) (inode_list : List InodeNode) (objects : ObjectsByNumber) (next : ℕ) (keeps : Keeps ns names inode_list objects next) where
  same_state : stored_state objects names next ≡ state_of (without_addresses ns)
  same_state = state_stored objects names inode_list ns next (greatest_number (without_addresses ns)) keeps.ordered keeps.each keeps.collected refl keeps.number

  same_tops : stored_tops objects names ≡ tops_of (without_addresses ns)
  same_tops = tops_stored objects names inode_list (without_addresses ns) keeps.ordered keeps.each keeps.collected.same_inodes keeps.collected.same_entries

  apart : NoneClash (without_addresses ns)
  apart = collected_none_clash names inode_list ns keeps.collected

  root_is : (b : Bool) → b ≡ is_directory (stored_state objects names next) 1 → b ≡ is_directory (state_of (without_addresses ns)) 1
  root_is b is = is ∙ ap (λ (s : State). is_directory s 1) same_state

  pub not_a_directory : (image : List ℕ) (mount : Mount) (found : List Finding) (forbids b : Bool) → mount ≡ record { image = image; state = stored_state objects names next; tops = stored_tops objects names; findings = found; read_only = forbids }
      → b ≡ is_directory mount.state 1 → b ≡ false → NoneClash (without_addresses ns) × IsFalse (is_directory (state_of (without_addresses ns)) 1)
  not_a_directory image mount found forbids b is same is_false = (apart, sym (root_is b (same ∙ ap (λ (m : Mount). is_directory m.state 1) is)) ∙ is_false)

  pub mounted : (image : List ℕ) (mount : Mount) (found : List Finding) (forbids b : Bool) → mount ≡ record { image = image; state = stored_state objects names next; tops = stored_tops objects names; findings = found; read_only = forbids }
      → b ≡ is_directory mount.state 1 → b ≡ true → MountsNodes ns mount × IsMountedWith image found forbids mount
  mounted image mount found forbids b is same is_true = (
    record {
      apart = apart;
      root = sym (root_is b (same ∙ ap (λ (m : Mount). is_directory m.state 1) is)) ∙ is_true;
      state = ap (λ (m : Mount). m.state) is ∙ same_state;
      tops = ap (λ (m : Mount). m.tops) is ∙ same_tops;
    },
    record {
      image = ap (λ (m : Mount). m.image) is;
      findings = ap (λ (m : Mount). m.findings) is;
      read_only = ap (λ (m : Mount). m.read_only) is;
    },
  )

-- ---- an image whose nodes are mounted

module _ (e : Endian) (size : ℕ) (image : List ℕ) (ns : List (ℕ × NodeRef)) (found : List Finding) (forbids : Bool) (scannable : IsScannable size image)
    (none : first_refused e size image ≡ None) (all : ns ≡ nodes_before_refusal e size image) (findings_are : found ≡ findings e size image) (forbids_is : forbids ≡ is_read_only e size image) where
  are : ns ≡ nodes e size image
  are = all ∙ nodes_are_all e size image none

  is_sound : NoneClash (without_addresses ns) → IsSound e size image
  is_sound apart = none_is_sound e size image scannable none (subst HasNoClash are (no_clash_at ns apart))

  whole_state : state_of (without_addresses ns) ≡ state e size image
  whole_state = ap (λ (l : List (ℕ × NodeRef)). state_of (without_addresses l)) are

  pub image_answers : (result : Result Mount MountFault) → AnswersNodes image ns found forbids result → Answers e size image result
  image_answers (Ok mount) h = (
    h.1.image,
    record {
      mounts = record {
        sound = subst (IsSound e size) (sym h.1.image) (is_sound h.0.apart);
        root = subst (λ (l : List ℕ). IsTrue (is_directory (state e size l) 1)) (sym h.1.image) (subst (λ (s : State). IsTrue (is_directory s 1)) whole_state h.0.root);
        same = subst (λ (l : List ℕ). state e size l ≡ mount.state) (sym h.1.image) (sym (h.0.state ∙ whole_state));
      };
      tops = h.0.tops ∙ ap (λ (l : List (ℕ × NodeRef)). tops_of (without_addresses l)) are ∙ ap (λ (l : List ℕ). tops_of (plain_nodes e size l)) (sym h.1.image);
      findings = h.1.findings ∙ findings_are ∙ ap (findings e size) (sym h.1.image);
      read_only = h.1.read_only ∙ forbids_is ∙ ap (is_read_only e size) (sym h.1.image);
    },
  )
  image_answers (Err (fault.Clash addr)) h = stop_answers e size image (fault.Clash addr) scannable (subst (λ (l : List (ℕ × NodeRef)). FirstClash l addr) all h)
  image_answers (Err fault.RootKind) h = (is_sound h.0, subst (λ (s : State). IsFalse (is_directory s 1)) whole_state h.1)
  image_answers (Err fault.OutOfMemory) h = scannable
  image_answers (Err fault.BlockSize) h = absurd h
  image_answers (Err fault.TooLarge) h = absurd h
  image_answers (Err (fault.Incompatible addr nodetype)) h = absurd h
  image_answers (Err (fault.Compressed addr compr)) h = absurd h

-- why nodes are not collected, as an answer of a mount of them
pub stop_answers_nodes : (image : List ℕ) (ns : List (ℕ × NodeRef)) (found : List Finding) (forbids : Bool) (why : MountFault) → StopsCollecting ns why → AnswersNodes image ns found forbids (Err why)
stop_answers_nodes image ns found forbids (fault.Clash addr) h = h
stop_answers_nodes image ns found forbids fault.OutOfMemory h = tt
stop_answers_nodes image ns found forbids fault.BlockSize h = h
stop_answers_nodes image ns found forbids fault.TooLarge h = h
stop_answers_nodes image ns found forbids (fault.Incompatible addr nodetype) h = h
stop_answers_nodes image ns found forbids (fault.Compressed addr compr) h = h
stop_answers_nodes image ns found forbids fault.RootKind h = absurd h
