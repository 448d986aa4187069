-- Taking in the extents of an image one by one, up to a refusal.
use Rattle.std.proofs.Common.{◌≡◌, ℕ, suc, ◌+◌, Bool, true, false, not, List, [], ◌∷◌, ◌++◌, take, cond, refl, sym, ap, ◌∙◌, arith, append_assoc, Option, None, Some, Err, subst}
use Rattle.std.specs.Prelude.{filter_map, ◌||◌, option_to_list}
use Rattle.std.specs.List.{list_any, prefix_len, cons_option}
use Rattle.std.specs.Option.{is_some, option_or}
use Rattle.std.proofs.lemmas.List.{append-nil}
use Rattle.jnode.specs.declared.node.NodeRef.{NodeRef}
use Rattle.jnode.specs.declared.node.Seen.{Seen}
use Rattle.jnode.specs.declared.node.Seen.TheVariants as seen
use Rattle.jnode.specs.declared.order.Endian.{Endian}
use Rattle.jscan.specs.Findings.{finding_of, refused_node, refused, refusal_of}
use Rattle.jscan.specs.Image.{node_sighted, sightings, nodes}
use Rattle.jscan.specs.Scans.{forbids_writing, refusal_by, refusal_among, before_refusal, image_extents, first_refused, nodes_before_refusal, findings, is_read_only, IsScannable, Scans}
use Rattle.jscan.specs.Extents.{sighted}
use Rattle.jscan.specs.PartialScans.{Adds, node_at, is_forbidding}
use Rattle.jscan.specs.declared.answer.PartialScan.{PartialScan}
use Rattle.jscan.specs.declared.finding.Finding.{Finding}
use Rattle.jscan.specs.declared.geometry.ScanFault.{ScanFault}
use Rattle.jscan.specs.declared.geometry.ScanFault.TheVariants as fault
use Rattle.jscan.specs.declared.extent.ExtentKind.{ExtentKind}
use Rattle.jscan.specs.declared.extent.ExtentKind.TheVariants.{Tiled, Erased, OtherOrder, Dirt}
use Rattle.jscan.specs.declared.extent.Extent.{Extent}
use Rattle.jscan.proofs.ImageLemmas.{image_sighted}

-- ---- of a list of sightings

abbrev pub any_forbids : List (ℕ × Seen) → Bool
any_forbids ss = list_any (λ s. forbids_writing s.1) ss

abbrev pub nodes_among : List (ℕ × Seen) → List (ℕ × NodeRef)
nodes_among ss = filter_map node_sighted (before_refusal ss)

abbrev pub how_many : Option ScanFault → ℕ → ℕ
how_many o n = cond (not (is_some o)) (1 + n) 0

pub before_open : (s : ℕ × Seen) (ss : List (ℕ × Seen)) → refusal_by s ≡ None → before_refusal (s ∷ ss) ≡ s ∷ before_refusal ss
before_open s ss none =
    let n : ℕ = prefix_len (λ t. not (is_some (refusal_by t))) ss in
    let more : 1 + n ≡ suc n = omega arith in
    ap (λ (o : Option ScanFault). take (how_many o n) (s ∷ ss)) none ∙ ap (λ (m : ℕ). take m (s ∷ ss)) more

pub before_shut : (s : ℕ × Seen) (ss : List (ℕ × Seen)) (fault : ScanFault) → refusal_by s ≡ Some fault → before_refusal (s ∷ ss) ≡ []
before_shut s ss fault some =
    let n : ℕ = prefix_len (λ t. not (is_some (refusal_by t))) ss in
    ap (λ (o : Option ScanFault). take (how_many o n) (s ∷ ss)) some

pub refusal_open : (s : ℕ × Seen) (ss : List (ℕ × Seen)) → refusal_by s ≡ None → refusal_among (s ∷ ss) ≡ refusal_among ss
refusal_open s ss none = ap (λ (o : Option ScanFault). option_or o (refusal_among ss)) none

pub refusal_shut : (s : ℕ × Seen) (ss : List (ℕ × Seen)) (fault : ScanFault) → refusal_by s ≡ Some fault → refusal_among (s ∷ ss) ≡ Some fault
refusal_shut s ss fault some = ap (λ (o : Option ScanFault). option_or o (refusal_among ss)) some

-- where nothing is refused, all are in front
pub before_none : (ss : List (ℕ × Seen)) → refusal_among ss ≡ None → before_refusal ss ≡ ss
before_none [] none = refl
before_none (s ∷ ss) none = by_cases (before_none ss) (refusal_by s) refl
  where
    by_cases : (refusal_among ss ≡ None → before_refusal ss ≡ ss) → (o : Option ScanFault) → refusal_by s ≡ o → before_refusal (s ∷ ss) ≡ s ∷ ss
    by_cases next None is = before_open s ss is ∙ ap (λ (l : List (ℕ × Seen)). s ∷ l) (next (sym (refusal_open s ss is) ∙ none))
    by_cases next (Some fault) is = let bad : Some fault ≡ None = sym (refusal_shut s ss fault is) ∙ none in cc

-- ---- one more at the end of a list, and the others after it

pub cons_append : {X : Type 0} (xs : List X) (o : Option X) (ys : List X) → xs ++ cons_option o ys ≡ (xs ++ option_to_list o) ++ ys
cons_append xs None ys = ap (λ l. l ++ ys) (sym (append-nil xs))
cons_append xs (Some x) ys = sym (append_assoc xs (x ∷ []) ys)

pub or_again : (a b c : Bool) → (a || (b || c)) ≡ ((a || b) || c)
or_again true b c = refl
or_again false b c = refl

or_none : (a c : Bool) → (a || c) ≡ ((a || false) || c)
or_none true c = refl
or_none false c = refl

-- ---- a scan on the way

-- what it has and what is left come to the same as all
pub record ScannedSoFar (all left : List Extent) (partial : PartialScan) : Type 0 where
  pub nodes : nodes_among (filter_map sighted all) ≡ partial.nodes.items ++ nodes_among (filter_map sighted left)
  pub findings : filter_map finding_of all ≡ partial.findings.items ++ filter_map finding_of left
  pub read_only : any_forbids (filter_map sighted all) ≡ (partial.read_only || any_forbids (filter_map sighted left))
  pub refusal : refusal_among (filter_map sighted all) ≡ refusal_among (filter_map sighted left)
  pub going_on : partial.refused ≡ None

-- the parts of one step, by the kind of the extent
pub nodes_step : (addr len : ℕ) (kind : ExtentKind) (left : List Extent) (xs : List (ℕ × NodeRef)) → refused addr kind ≡ None
    → xs ++ nodes_among (filter_map sighted (record { addr = addr; len = len; kind = kind } ∷ left)) ≡ (xs ++ node_at addr kind) ++ nodes_among (filter_map sighted left)
nodes_step addr len (Tiled what) left xs none =
    ap (λ (l : List (ℕ × Seen)). xs ++ filter_map node_sighted l) (before_open (addr, what) (filter_map sighted left) none)
    ∙ cons_append xs (node_sighted (addr, what)) (nodes_among (filter_map sighted left))
nodes_step addr len Erased left xs none = ap (λ (l : List (ℕ × NodeRef)). l ++ nodes_among (filter_map sighted left)) (sym (append-nil xs))
nodes_step addr len OtherOrder left xs none = ap (λ (l : List (ℕ × NodeRef)). l ++ nodes_among (filter_map sighted left)) (sym (append-nil xs))
nodes_step addr len Dirt left xs none = ap (λ (l : List (ℕ × NodeRef)). l ++ nodes_among (filter_map sighted left)) (sym (append-nil xs))

pub read_only_step : (addr len : ℕ) (kind : ExtentKind) (left : List Extent) (was : Bool)
    → (was || any_forbids (filter_map sighted (record { addr = addr; len = len; kind = kind } ∷ left))) ≡ ((was || is_forbidding kind) || any_forbids (filter_map sighted left))
read_only_step addr len (Tiled what) left was = or_again was (forbids_writing what) (any_forbids (filter_map sighted left))
read_only_step addr len Erased left was = or_none was (any_forbids (filter_map sighted left))
read_only_step addr len OtherOrder left was = or_none was (any_forbids (filter_map sighted left))
read_only_step addr len Dirt left was = or_none was (any_forbids (filter_map sighted left))

refusal_step : (addr len : ℕ) (kind : ExtentKind) (left : List Extent) → refused addr kind ≡ None
    → refusal_among (filter_map sighted (record { addr = addr; len = len; kind = kind } ∷ left)) ≡ refusal_among (filter_map sighted left)
refusal_step addr len (Tiled what) left none = refusal_open (addr, what) (filter_map sighted left) none
refusal_step addr len Erased left none = refl
refusal_step addr len OtherOrder left none = refl
refusal_step addr len Dirt left none = refl

pub scanned_so_far_next : (all left : List Extent) (s : Extent) (old new : PartialScan) → ScannedSoFar all (s ∷ left) old → refusal_of s ≡ None → Adds old new s
    → ScannedSoFar all left new
scanned_so_far_next all left s old new before none adds = record {
  nodes = before.nodes ∙ nodes_step s.addr s.len s.kind left old.nodes.items none
      ∙ ap (λ (l : List (ℕ × NodeRef)). l ++ nodes_among (filter_map sighted left)) (sym adds.nodes);
  findings = before.findings ∙ cons_append old.findings.items (finding_of s) (filter_map finding_of left)
      ∙ ap (λ (l : List Finding). l ++ filter_map finding_of left) (sym adds.findings);
  read_only = before.read_only ∙ read_only_step s.addr s.len s.kind left old.read_only
      ∙ ap (λ (b : Bool). b || any_forbids (filter_map sighted left)) (sym adds.read_only);
  refusal = before.refusal ∙ refusal_step s.addr s.len s.kind left none;
  going_on = adds.refused ∙ before.going_on;
}

-- ---- the end

-- at a refusal the partial scan has what is in front of it
pub record Refuses (all : List Extent) (fault : ScanFault) (partial : PartialScan) : Type 0 where
  pub refusal : Some fault ≡ refusal_among (filter_map sighted all)
  pub nodes : partial.nodes.items ≡ nodes_among (filter_map sighted all)

refuses_at : (addr len : ℕ) (kind : ExtentKind) (all left : List Extent) (partial : PartialScan) (fault : ScanFault)
    → ScannedSoFar all (record { addr = addr; len = len; kind = kind } ∷ left) partial → refused addr kind ≡ Some fault → Refuses all fault partial
refuses_at addr len (Tiled what) all left partial fault before some = record {
  refusal = sym (before.refusal ∙ refusal_shut (addr, what) (filter_map sighted left) fault some);
  nodes = sym (before.nodes
      ∙ ap (λ (l : List (ℕ × Seen)). partial.nodes.items ++ filter_map node_sighted l) (before_shut (addr, what) (filter_map sighted left) fault some)
      ∙ append-nil partial.nodes.items);
}
refuses_at addr len Erased all left partial fault before some = cc
refuses_at addr len OtherOrder all left partial fault before some = cc
refuses_at addr len Dirt all left partial fault before some = cc

pub scanned_so_far_refused : (all left : List Extent) (s : Extent) (partial : PartialScan) (fault : ScanFault) → ScannedSoFar all (s ∷ left) partial
    → Some fault ≡ refusal_of s → Refuses all fault partial
scanned_so_far_refused all left s partial fault before some = refuses_at s.addr s.len s.kind all left partial fault before (sym some)

-- else it has everything
pub record Whole (all : List Extent) (partial : PartialScan) : Type 0 where
  pub refusal : partial.refused ≡ refusal_among (filter_map sighted all)
  pub nodes : partial.nodes.items ≡ nodes_among (filter_map sighted all)
  pub findings : partial.findings.items ≡ filter_map finding_of all
  pub read_only : partial.read_only ≡ any_forbids (filter_map sighted all)

pub or_false : (a : Bool) → (a || false) ≡ a
or_false true = refl
or_false false = refl

pub scanned_so_far_end : (all : List Extent) (partial : PartialScan) → ScannedSoFar all [] partial → Whole all partial
scanned_so_far_end all partial done = record {
  refusal = done.going_on ∙ sym done.refusal;
  nodes = sym (done.nodes ∙ append-nil partial.nodes.items);
  findings = sym (done.findings ∙ append-nil partial.findings.items);
  read_only = sym (done.read_only ∙ or_false partial.read_only);
}

-- ---- of an image

pub record RefusesImage (e : Endian) (size : ℕ) (image : List ℕ) (fault : ScanFault) (partial : PartialScan) : Type 0 where
  pub refusal : Some fault ≡ first_refused e size image
  pub nodes : partial.nodes.items ≡ nodes_before_refusal e size image

pub image_refused : (e : Endian) (size : ℕ) (image : List ℕ) (left : List Extent) (s : Extent) (partial : PartialScan) (fault : ScanFault) (now : List Extent)
    → ScannedSoFar (image_extents e size image) now partial → now ≡ s ∷ left → Some fault ≡ refusal_of s → RefusesImage e size image fault partial
image_refused e size image left s partial fault now before first some =
    let refuses = scanned_so_far_refused (image_extents e size image) left s partial fault (subst (λ (l : List Extent). ScannedSoFar (image_extents e size image) l partial) first before) some in
    record {
      refusal = refuses.refusal ∙ ap refusal_among (image_sighted e size image);
      nodes = refuses.nodes ∙ ap nodes_among (image_sighted e size image);
    }

pub image_next : (all left : List Extent) (s : Extent) (old new : PartialScan) (now : List Extent) → ScannedSoFar all now old → now ≡ s ∷ left → refusal_of s ≡ None
    → Adds old new s → ScannedSoFar all left new
image_next all left s old new now before first none adds =
    scanned_so_far_next all left s old new (subst (λ (l : List Extent). ScannedSoFar all l old) first before) none adds

pub record WholeImage (e : Endian) (size : ℕ) (image : List ℕ) (partial : PartialScan) : Type 0 where
  pub first : partial.refused ≡ first_refused e size image
  pub in_front : partial.nodes.items ≡ nodes_before_refusal e size image
  pub all : partial.refused ≡ None → partial.nodes.items ≡ nodes e size image
  pub found : partial.findings.items ≡ findings e size image
  pub forbidding : partial.read_only ≡ is_read_only e size image

pub image_end : (e : Endian) (size : ℕ) (image : List ℕ) (partial : PartialScan) (now : List Extent)
    → ScannedSoFar (image_extents e size image) now partial → now ≡ [] → WholeImage e size image partial
image_end e size image partial now done empty =
    let whole = scanned_so_far_end (image_extents e size image) partial (subst (λ (l : List Extent). ScannedSoFar (image_extents e size image) l partial) empty done) in
    let is = image_sighted e size image in
    let first : partial.refused ≡ first_refused e size image = whole.refusal ∙ ap refusal_among is in
    let in_front : partial.nodes.items ≡ nodes_before_refusal e size image = whole.nodes ∙ ap nodes_among is in
    record {
      first = first;
      in_front = in_front;
      all = λ none. in_front ∙ ap (filter_map node_sighted) (before_none (sightings e size image) (sym first ∙ none));
      found = whole.findings;
      forbidding = whole.read_only ∙ ap any_forbids is;
    }

-- ---- what refuses is a node

IsRefusal : ScanFault → Type 0
IsRefusal (fault.Incompatible addr nodetype) = Unit {0}
IsRefusal (fault.Compressed addr compr) = Unit {0}
IsRefusal fault.BlockSize = ⊥
IsRefusal fault.TooLarge = ⊥
IsRefusal fault.OutOfMemory = ⊥

AreRefusals : Option ScanFault → Type 0
AreRefusals None = Unit {0}
AreRefusals (Some fault) = IsRefusal fault

refused_is : (addr : ℕ) (what : Seen) → AreRefusals (refused_node addr what)
unfolding AreRefusals IsRefusal
refused_is addr (seen.Incompatible nodetype) = tt
refused_is addr (seen.Compressed compr) = tt
refused_is addr (seen.Entry entry) = tt
refused_is addr (seen.Inode inode) = tt
refused_is addr seen.Marker = tt
refused_is addr seen.Padding = tt
refused_is addr seen.Obsolete = tt
refused_is addr seen.Attribute = tt
refused_is addr (seen.Skippable nodetype) = tt
refused_is addr (seen.ReadOnly nodetype) = tt
refused_is addr (seen.Damaged which) = tt

or_is : (o p : Option ScanFault) → AreRefusals o → AreRefusals p → AreRefusals (option_or o p)
or_is None p first others = others
or_is (Some fault) p first others = first

among_is : (ss : List (ℕ × Seen)) → AreRefusals (refusal_among ss)
unfolding AreRefusals
among_is [] = tt
among_is (s ∷ ss) = or_is (refusal_by s) (refusal_among ss) (refused_is s.0 s.1) (among_is ss)

scans_by : (e : Endian) (size : ℕ) (image : List ℕ) (why : ScanFault) → IsRefusal why → IsScannable size image
    → first_refused e size image ≡ Some why → Scans e size image (Err why)
unfolding IsRefusal
scans_by e size image (fault.Incompatible addr nodetype) is scannable first = (scannable, first)
scans_by e size image (fault.Compressed addr compr) is scannable first = (scannable, first)
scans_by e size image fault.BlockSize is scannable first = absurd is
scans_by e size image fault.TooLarge is scannable first = absurd is
scans_by e size image fault.OutOfMemory is scannable first = absurd is

pub scans_refused : (e : Endian) (size : ℕ) (image : List ℕ) (why : ScanFault) → IsScannable size image → first_refused e size image ≡ Some why
    → Scans e size image (Err why)
unfolding AreRefusals
scans_refused e size image why scannable first =
    scans_by e size image why (subst AreRefusals first (among_is (sightings e size image))) scannable first
