-- Counting a walk extent by extent.
use Rattle.std.proofs.Common.{◌≡◌, ℕ, ◌+◌, ◌%◌, ◌≤◌, ◌<◌, ◌^◌, Bool, true, false, ◌&&◌, ◌||◌, List, [], ◌∷◌, length, map, max, refl, sym, subst, ap, arith, ◌∙◌}
use Rattle.std.specs.Prelude.{not, nat_le}
use Rattle.std.specs.List.{list_all, list_any}
use Rattle.std.proofs.lemmas.Bool.{le-leb, eq-eqb}
use Rattle.std.proofs.lemmas.Nat.Gcd.{dvd-zero, mod-eq-zero_of_dvd}
use Rattle.std.proofs.lemmas.List.Sums.{count_by-le-length, sum_by-cons}
use Rattle.flashbase.specs.Lists.{greatest}
use Rattle.flashbase.proofs.ListLemmas.{greatest-cons}
use Rattle.jnode.specs.declared.order.Endian.{Endian}
use Rattle.jscan.specs.Counts.{count_in, one_if}
use Rattle.jscan.specs.declared.extent.ExtentKind.{ExtentKind}
use Rattle.jscan.specs.declared.extent.Extent.{Extent}
use Rattle.jinfo.specs.Census.{is_node_tile, is_dirent_tile, is_object_tile, is_obsolete_tile, is_damaged_tile, is_other_tile, is_stored_tile, is_zero_tile, is_packed_by, is_packed_otherwise, rtime, zlib, lzo, lzma, ino_named, version_named, node_counts_of, data_counts_of, highest_of}
use Rattle.jinfo.specs.BlockSizes.{block_sizes, lies_within, is_multiple, node_lies_within, node_has_room, marker_begins, is_marker_tile, is_later_marker, too_small, marker_count}
use Rattle.jinfo.specs.Counting.{nodes_counted, data_counted, higher_with}
use Rattle.jinfo.specs.Marks.{MarksWith, MarksOf}
use Rattle.jinfo.specs.Tallies.{no_tally, TallyWith, TallyOf, TallyHasRoom}
use Rattle.jinfo.specs.declared.nodes.NodeCounts.{NodeCounts}
use Rattle.jinfo.specs.declared.storage.DataCounts.{DataCounts}
use Rattle.jinfo.specs.declared.highest.Highest.{Highest}
use Rattle.jinfo.specs.declared.marks.Marks.{Marks}
use Rattle.jinfo.specs.declared.census.Tally.{Tally}
use Rattle.jinfo.proofs.FirstLemmas.{Rises, always_rises, first_of_all, within_rises}

count_cons : (test : ExtentKind → Bool) (s : Extent) (ss : List Extent) → count_in test (s ∷ ss) ≡ one_if (test s.kind) + count_in test ss
count_cons test s ss = sum_by-cons (λ (t : Extent). one_if (test t.kind)) s ss

count_fits : (test : ExtentKind → Bool) (ss : List Extent) → count_in test ss ≤ length ss
count_fits test ss = count_by-le-length (λ (s : Extent). test s.kind) ss

-- what is counted and what is left come to the whole
pub record NodesGoOn (whole left : List Extent) (now : NodeCounts) : Type 0 where
  pub all : now.all + count_in is_node_tile left ≡ count_in is_node_tile whole
  pub entries : now.entries + count_in is_dirent_tile left ≡ count_in is_dirent_tile whole
  pub inodes : now.inodes + count_in is_object_tile left ≡ count_in is_object_tile whole
  pub obsolete : now.obsolete + count_in is_obsolete_tile left ≡ count_in is_obsolete_tile whole
  pub damaged : now.damaged + count_in is_damaged_tile left ≡ count_in is_damaged_tile whole
  pub other : now.other + count_in is_other_tile left ≡ count_in is_other_tile whole

pub record DataGoOn (whole left : List Extent) (now : DataCounts) : Type 0 where
  pub none : now.none + count_in is_stored_tile left ≡ count_in is_stored_tile whole
  pub zero : now.zero + count_in is_zero_tile left ≡ count_in is_zero_tile whole
  pub rtime : now.rtime + count_in (is_packed_by rtime) left ≡ count_in (is_packed_by rtime) whole
  pub zlib : now.zlib + count_in (is_packed_by zlib) left ≡ count_in (is_packed_by zlib) whole
  pub lzo : now.lzo + count_in (is_packed_by lzo) left ≡ count_in (is_packed_by lzo) whole
  pub lzma : now.lzma + count_in (is_packed_by lzma) left ≡ count_in (is_packed_by lzma) whole
  pub other : now.other + count_in is_packed_otherwise left ≡ count_in is_packed_otherwise whole

pub record MarksGoOn (whole left : List Extent) (now : Marks) : Type 0 where
  pub markers : now.markers + marker_count left ≡ marker_count whole
  pub is_later : (now.is_later || list_any is_later_marker left) ≡ list_any is_later_marker whole
  pub too_small : max now.too_small (too_small left) ≡ too_small whole
  pub longest : (size : ℕ) → (nat_le now.longest size && list_all (node_has_room size) left) ≡ list_all (node_has_room size) whole
  pub common : (size : ℕ) → (is_multiple now.common size && list_all (marker_begins size) left) ≡ list_all (marker_begins size) whole

abbrev inos : Endian → List ℕ → List Extent → List ℕ
inos e block ss = map (λ s. ino_named e block s.addr s.kind) ss

abbrev versions : Endian → List ℕ → List Extent → List ℕ
versions e block ss = map (λ s. version_named e block s.addr s.kind) ss

pub record HighestGoOn (e : Endian) (block : List ℕ) (whole left : List Extent) (now : Highest) : Type 0 where
  pub ino : max now.ino (greatest (inos e block left)) ≡ greatest (inos e block whole)
  pub version : max now.version (greatest (versions e block left)) ≡ greatest (versions e block whole)

pub record TallyGoesOn (e : Endian) (block : List ℕ) (whole left : List Extent) (now : Tally) : Type 0 where
  pub nodes : NodesGoOn whole left now.nodes
  pub storage : DataGoOn whole left now.storage
  pub marks : MarksGoOn whole left now.marks
  pub highest : HighestGoOn e block whole left now.highest

-- ---- one extent more

nodes_next : (whole left : List Extent) (now : NodeCounts) (s : Extent) → NodesGoOn whole (s ∷ left) now → NodesGoOn whole left (nodes_counted now s.kind)
nodes_next whole left now s go = record {
  all = omega (arith, go.all, count_cons is_node_tile s left);
  entries = omega (arith, go.entries, count_cons is_dirent_tile s left);
  inodes = omega (arith, go.inodes, count_cons is_object_tile s left);
  obsolete = omega (arith, go.obsolete, count_cons is_obsolete_tile s left);
  damaged = omega (arith, go.damaged, count_cons is_damaged_tile s left);
  other = omega (arith, go.other, count_cons is_other_tile s left);
}

storage_next : (whole left : List Extent) (now : DataCounts) (s : Extent) → DataGoOn whole (s ∷ left) now → DataGoOn whole left (data_counted now s.kind)
storage_next whole left now s go = record {
  none = omega (arith, go.none, count_cons is_stored_tile s left);
  zero = omega (arith, go.zero, count_cons is_zero_tile s left);
  rtime = omega (arith, go.rtime, count_cons (is_packed_by rtime) s left);
  zlib = omega (arith, go.zlib, count_cons (is_packed_by zlib) s left);
  lzo = omega (arith, go.lzo, count_cons (is_packed_by lzo) s left);
  lzma = omega (arith, go.lzma, count_cons (is_packed_by lzma) s left);
  other = omega (arith, go.other, count_cons is_packed_otherwise s left);
}

or_assoc : (a b c : Bool) → ((a || b) || c) ≡ (a || (b || c))
or_assoc true b c = refl
or_assoc false b c = refl

pub node_rises : (s : Extent) → Rises (λ size. node_lies_within size s) block_sizes
node_rises s = by_node (is_node_tile s.kind) s.addr s.len
  where
    by_node : (is : Bool) (addr len : ℕ) → Rises (λ size. not is || lies_within addr len size) block_sizes
    by_node true addr len = within_rises addr len
    by_node false addr len = always_rises block_sizes

and_assoc : (a b c : Bool) → ((a && b) && c) ≡ (a && (b && c))
and_assoc true b c = refl
and_assoc false b c = refl

-- one test more of those that are left
all_next : (whole left : List Extent) (s : Extent) (test : Extent → Bool) (now next : Bool) → (now && list_all test (s ∷ left)) ≡ list_all test whole
    → next ≡ (now && test s) → (next && list_all test left) ≡ list_all test whole
all_next whole left s test now next go one =
    ap (λ (b : Bool). b && list_all test left) one ∙ and_assoc now (test s) (list_all test left) ∙ go

marks_next : (whole left : List Extent) (now : Marks) (s : Extent) (next : Marks) → MarksGoOn whole (s ∷ left) now → MarksWith now s next
    → MarksGoOn whole left next
marks_next whole left now s next go one = record {
  markers = omega (arith, go.markers, one.markers, count_cons is_marker_tile s left);
  is_later = ap (λ (b : Bool). b || list_any is_later_marker left) one.is_later
      ∙ or_assoc now.is_later (is_later_marker s) (list_any is_later_marker left) ∙ go.is_later;
  too_small = omega (arith, go.too_small, one.too_small, first_of_all node_lies_within s left block_sizes node_rises);
  longest = λ size. all_next whole left s (node_has_room size) (nat_le now.longest size) (nat_le next.longest size) (go.longest size) (one.longest size);
  common = λ size. all_next whole left s (marker_begins size) (is_multiple now.common size) (is_multiple next.common size) (go.common size) (one.common size);
}

highest_next : (e : Endian) (block : List ℕ) (whole left : List Extent) (now : Highest) (s : Extent)
    → HighestGoOn e block whole (s ∷ left) now → HighestGoOn e block whole left (higher_with e block now s)
highest_next e block whole left now s go = record {
  ino = omega (arith, go.ino, greatest-cons (ino_named e block s.addr s.kind) (inos e block left));
  version = omega (arith, go.version, greatest-cons (version_named e block s.addr s.kind) (versions e block left));
}

pub tally_next : (e : Endian) (block : List ℕ) (whole left : List Extent) (now : Tally) (s : Extent) (next : Tally)
    → TallyGoesOn e block whole (s ∷ left) now → TallyWith e block now s next → TallyGoesOn e block whole left next
tally_next e block whole left now s next go one = record {
  nodes = subst (λ (n : NodeCounts). NodesGoOn whole left n) (sym one.nodes) (nodes_next whole left now.nodes s go.nodes);
  storage = subst (λ (d : DataCounts). DataGoOn whole left d) (sym one.storage) (storage_next whole left now.storage s go.storage);
  marks = marks_next whole left now.marks s next.marks go.marks one.marks;
  highest = subst (λ (h : Highest). HighestGoOn e block whole left h) (sym one.highest) (highest_next e block whole left now.highest s go.highest);
}

-- ---- at the beginning and at the end

marks_begin : (whole : List Extent) → MarksGoOn whole whole no_tally.marks
unfolding is_multiple
marks_begin whole = record {
  markers = omega arith;
  is_later = refl;
  too_small = omega arith;
  longest = λ size. ap (λ (b : Bool). b && list_all (node_has_room size) whole) (le-leb 0 size (omega arith));
  common = λ size. ap (λ (b : Bool). b && list_all (marker_begins size) whole) (eq-eqb (0 % size) 0 (mod-eq-zero_of_dvd size (dvd-zero size)));
}

pub tally_begins : (e : Endian) (block : List ℕ) (whole : List Extent) → TallyGoesOn e block whole whole no_tally
tally_begins e block whole = record {
  nodes = record { all = omega arith; entries = omega arith; inodes = omega arith; obsolete = omega arith; damaged = omega arith; other = omega arith };
  storage = record { none = omega arith; zero = omega arith; rtime = omega arith; zlib = omega arith; lzo = omega arith; lzma = omega arith; other = omega arith };
  marks = marks_begin whole;
  highest = record { ino = omega arith; version = omega arith };
}

and_true : (b : Bool) → (b && true) ≡ b
and_true true = refl
and_true false = refl

or_false : (a : Bool) → (a || false) ≡ a
or_false true = refl
or_false false = refl

nodes_end : (whole : List Extent) (now : NodeCounts) → NodesGoOn whole [] now → now ≡ node_counts_of whole
nodes_end whole now n =
    let all : now.all ≡ count_in is_node_tile whole = omega (arith, n.all) in
    let entries : now.entries ≡ count_in is_dirent_tile whole = omega (arith, n.entries) in
    let inodes : now.inodes ≡ count_in is_object_tile whole = omega (arith, n.inodes) in
    let obsolete : now.obsolete ≡ count_in is_obsolete_tile whole = omega (arith, n.obsolete) in
    let damaged : now.damaged ≡ count_in is_damaged_tile whole = omega (arith, n.damaged) in
    let others : now.other ≡ count_in is_other_tile whole = omega (arith, n.other) in
    λ i. record { all = all i; entries = entries i; inodes = inodes i; obsolete = obsolete i; damaged = damaged i; other = others i }

storage_end : (whole : List Extent) (now : DataCounts) → DataGoOn whole [] now → now ≡ data_counts_of whole
storage_end whole now d =
    let none : now.none ≡ count_in is_stored_tile whole = omega (arith, d.none) in
    let zeros : now.zero ≡ count_in is_zero_tile whole = omega (arith, d.zero) in
    let by_rtime : now.rtime ≡ count_in (is_packed_by rtime) whole = omega (arith, d.rtime) in
    let by_zlib : now.zlib ≡ count_in (is_packed_by zlib) whole = omega (arith, d.zlib) in
    let by_lzo : now.lzo ≡ count_in (is_packed_by lzo) whole = omega (arith, d.lzo) in
    let by_lzma : now.lzma ≡ count_in (is_packed_by lzma) whole = omega (arith, d.lzma) in
    let packed : now.other ≡ count_in is_packed_otherwise whole = omega (arith, d.other) in
    λ i. record { none = none i; zero = zeros i; rtime = by_rtime i; zlib = by_zlib i; lzo = by_lzo i; lzma = by_lzma i; other = packed i }

marks_end : (whole : List Extent) (now : Marks) → MarksGoOn whole [] now → MarksOf whole now
marks_end whole now m = record {
  markers = omega (arith, m.markers);
  is_later = sym (or_false now.is_later) ∙ m.is_later;
  too_small = omega (arith, m.too_small);
  longest = λ size. sym (and_true (nat_le now.longest size)) ∙ m.longest size;
  common = λ size. sym (and_true (is_multiple now.common size)) ∙ m.common size;
}

highest_end : (e : Endian) (block : List ℕ) (whole : List Extent) (now : Highest) → HighestGoOn e block whole [] now → now ≡ highest_of e block whole
highest_end e block whole now h =
    let ino : now.ino ≡ greatest (inos e block whole) = omega (arith, h.ino) in
    let version : now.version ≡ greatest (versions e block whole) = omega (arith, h.version) in
    λ i. record { ino = ino i; version = version i }

pub tally_ends : (e : Endian) (block : List ℕ) (whole : List Extent) (now : Tally) → TallyGoesOn e block whole [] now → TallyOf e block whole now
tally_ends e block whole now done = record {
  nodes = nodes_end whole now.nodes done.nodes;
  storage = storage_end whole now.storage done.storage;
  marks = marks_end whole now.marks done.marks;
  highest = highest_end e block whole now.highest done.highest;
}

-- ---- each count is at most as large as the walk is long

pub tally_has_room : (e : Endian) (block : List ℕ) (whole left : List Extent) (now : Tally) → TallyGoesOn e block whole left now
    → length whole < 2 ^ 63 → TallyHasRoom now
tally_has_room e block whole left now go short = record {
  nodes = record {
    all = omega (arith, go.nodes.all, count_fits is_node_tile whole);
    entries = omega (arith, go.nodes.entries, count_fits is_dirent_tile whole);
    inodes = omega (arith, go.nodes.inodes, count_fits is_object_tile whole);
    obsolete = omega (arith, go.nodes.obsolete, count_fits is_obsolete_tile whole);
    damaged = omega (arith, go.nodes.damaged, count_fits is_damaged_tile whole);
    other = omega (arith, go.nodes.other, count_fits is_other_tile whole);
  };
  storage = record {
    none = omega (arith, go.storage.none, count_fits is_stored_tile whole);
    zero = omega (arith, go.storage.zero, count_fits is_zero_tile whole);
    rtime = omega (arith, go.storage.rtime, count_fits (is_packed_by rtime) whole);
    zlib = omega (arith, go.storage.zlib, count_fits (is_packed_by zlib) whole);
    lzo = omega (arith, go.storage.lzo, count_fits (is_packed_by lzo) whole);
    lzma = omega (arith, go.storage.lzma, count_fits (is_packed_by lzma) whole);
    other = omega (arith, go.storage.other, count_fits is_packed_otherwise whole);
  };
  markers = omega (arith, go.marks.markers, count_fits is_marker_tile whole);
}
