-- What goes out of the nodes that stay.
use Rattle.std.proofs.Common.{◌≡◌, ℕ, ◌*◌, ◌≤◌, List, [], ◌∷◌, length, refl, sym, ap, subst, ◌∙◌, arith, Contains, Err}
use Rattle.std.specs.Prelude.{IsTrue, filter, not}
use Rattle.std.specs.List.{flat_map}
use Rattle.flashbase.proofs.MemberLemmas.{Contains-map}
use Rattle.flashbase.specs.Sinks.{SinkChange}
use Rattle.jnode.specs.declared.node.NodeRef.{NodeRef}
use Rattle.jnode.specs.declared.order.Endian.{Endian}
use Rattle.jscan.specs.Image.{greatest_image}
use Rattle.jscan.specs.Scans.{is_read_only}
use Rattle.jclash.specs.declared.parting.LeftOut.{LeftOut}
use Rattle.jclash.proofs.PartLemmas.{all_stay}
use Rattle.jmount.specs.Clash.{NoneClash}
use Rattle.jmount.specs.Collected.{without_addresses}
use Rattle.jmount.specs.Mount.{Mount}
use Rattle.jview.specs.Through.{greatest_contents}
use Rattle.jthrough.specs.Addressed.{addressed_nodes}
use Rattle.jthrough.specs.View.{IsUnviewed}
use Rattle.jthrough.specs.declared.fault.ViewFault.{ViewFault}
use Rattle.jthrough.specs.declared.fault.ViewFault.TheVariants as view
use Rattle.jthrough.proofs.AddressedLemmas.{addressed_are_expanded}
use Rattle.jlog.proofs.CodeLemmas.{flash_limits}
use Rattle.jcompact.specs.Matters.{Placed, AreWhatMatters}
use Rattle.jcollect.specs.Collecting.{addresses_of, FitBlocks}
use Rattle.jcollect.specs.Planning.{ArePlanned, IsSinkUntouched, IsSoundNodeAt, MayPut}
use Rattle.jcollect.specs.PlanningApart.{ArePlannedApart, CompactsApart, IsUnplannedApart, PlannedApartIsPlanned, PlannedApartShows, ShowsApart}
use Rattle.jcollect.specs.Staying.{AnswersStaying, StayOfImage, is_left_out, not_left_out}
use Rattle.jcollect.specs.Through.{content_of_tile}
use Rattle.jcollect.specs.Tiles.{tile_in, tiles_at, copied_image}
use Rattle.jcollect.specs.declared.fault.CollectFault.TheVariants as fault
use Rattle.jcollect.specs.declared.fault.ThroughFault.{ThroughFault}
use Rattle.jcollect.specs.declared.fault.ThroughFault.TheVariants as through
use Rattle.jcollect.proofs.CollectLemmas.{found_at, may_put}
use Rattle.jcollect.proofs.CompactThroughLemmas.{MayGather, gathered, gathered_mounts, addressed_at, addressed_contents, fewer}
use Rattle.jcollect.proofs.StayingLemmas.{stay_apart, stay_part}

-- ---- the nodes that stay

pub stay_sighted : (e : Endian) (size : ℕ) (image : List ℕ) (stay : List Placed) (left : List LeftOut) → StayOfImage e size image stay left
    → (n : Placed) → Contains stay n → IsSoundNodeAt e size image n.0
stay_sighted e size image stay left is n has = addressed_at e size image n (stay_part (addressed_nodes e size image) stay left is.parted n has)

stay_contents : (e : Endian) (size : ℕ) (image : List ℕ) (stay : List Placed) (left : List LeftOut) → StayOfImage e size image stay left
    → length (flat_map (content_of_tile e) (tiles_at e size image (addresses_of stay))) ≤ greatest_contents
stay_contents e size image stay left is =
    let ns : List Placed = addressed_nodes e size image in
    let all = addressed_contents e size image is.read.scannable.0 is.read.contents in
    let some = fewer (content_of_tile e) (tile_in e size image) (λ n. not (is_left_out left n.0)) ns in
    subst (λ (l : List Placed). length (flat_map (content_of_tile e) (tiles_at e size image (addresses_of l))) ≤ greatest_contents) (sym is.parted.placed) (omega (arith, all, some))

may_gather : (e : Endian) (size blocks : ℕ) (image : List ℕ) (stay kept : List Placed) (left : List LeftOut) → StayOfImage e size image stay left → AreWhatMatters stay kept
    → FitBlocks e size blocks image (addresses_of kept) → MayGather e size blocks image stay kept
may_gather e size blocks image stay kept left is matter room = record {
  size_is = is.read.scannable.0;
  none = is.read.none;
  among = stay_part (addressed_nodes e size image) stay left is.parted;
  apart = stay_apart (addressed_nodes e size image) stay left is.parted;
  matter = matter;
  room = room;
}

-- ---- what is planned

pub planned_apart_shows : PlannedApartShows
planned_apart_shows e size blocks image left addresses count bytes plan =
    let stay : List Placed = plan.stay in
    let kept : List Placed = plan.planned.found.kept in
    let is = plan.mounts.stays in
    let room : FitBlocks e size blocks image (addresses_of kept) =
    subst (λ (i : List ℕ). FitBlocks e size blocks i (addresses_of kept)) plan.mounts.image_is
    (subst (FitBlocks e size blocks plan.mount.image) plan.planned.found.addresses_are plan.planned.room) in
    let may = may_gather e size blocks image stay kept left is plan.planned.found.matter room in
    let got = gathered e size blocks image stay kept may in
    let small : blocks * size ≤ greatest_image = (flash_limits size blocks plan.planned.flash).small in
    subst (λ (a : List ℕ). ShowsApart e size image left (copied_image e size image a)) (sym plan.planned.found.addresses_are)
    (record {
      stay = stay;
      parted = is;
      kept = kept;
      matter = plan.planned.found.matter;
      same = got.same;
      clean = got.clean;
      paths = got.paths;
      objects = got.objects;
      mounts = gathered_mounts e size blocks image stay kept may small (stay_contents e size image stay left is) plan.mounts.mount.root;
    })

pub planned_apart_may : (e : Endian) (size blocks : ℕ) (image : List ℕ) (left : List LeftOut) (addresses : List ℕ) (count bytes : ℕ)
    → ArePlannedApart e size blocks image left addresses count bytes → MayPut e size image addresses
planned_apart_may e size blocks image left addresses count bytes plan =
    let stay : List Placed = plan.stay in
    subst (λ (i : List ℕ). MayPut e size i addresses) plan.mounts.image_is
    (may_put stay e size blocks plan.mount addresses (length stay) bytes plan.planned
    (found_at stay e size plan.mount.image addresses (length stay) plan.planned.found
    (λ n has. subst (λ (i : List ℕ). IsSoundNodeAt e size i n.0) (sym plan.mounts.image_is) (stay_sighted e size image stay left plan.mounts.stays n has))))

-- ---- where no nodes clash

all_stay_placed : (ns : List Placed) → not_left_out [] ns ≡ ns
all_stay_placed [] = refl
all_stay_placed (n ∷ ns) = ap (λ (l : List Placed). n ∷ l) (all_stay_placed ns)

pub planned_apart_is_planned : PlannedApartIsPlanned
planned_apart_is_planned e size blocks image left addresses count bytes m plan mounted =
    let stay : List Placed = plan.stay in
    let ns : List Placed = addressed_nodes e size image in
    let kept : List Placed = plan.planned.found.kept in
    let apart : NoneClash (without_addresses ns) =
    subst NoneClash (sym (addressed_are_expanded e size m.image) ∙ ap (λ (i : List ℕ). without_addresses (addressed_nodes e size i)) mounted.0) mounted.1.mounts.sound.apart in
    let all = all_stay ns (without_addresses stay) left plan.mounts.stays.parted.parts
    (λ a b has_a has_b clash. apart a.1 b.1 (Contains-map (λ (n : Placed). n.1) ns a has_a) (Contains-map (λ (n : Placed). n.1) ns b has_b) clash) in
    let stay_is : stay ≡ ns = plan.mounts.stays.parted.placed ∙ ap (λ (l : List LeftOut). not_left_out l ns) all.1 ∙ all_stay_placed ns in
    let images : plan.mount.image ≡ m.image = plan.mounts.image_is ∙ sym mounted.0 in (
      all.1,
      subst (λ (i : List ℕ). ArePlanned (addressed_nodes e size i) e size blocks m addresses count bytes) (sym mounted.0)
          (record {
            found = record {
              kept = kept;
              matter = subst (λ (l : List Placed). AreWhatMatters l kept) stay_is plan.planned.found.matter;
              addresses_are = plan.planned.found.addresses_are;
              count_is = plan.count_is;
            };
            writable = mounted.1.read_only ∙ (ap (is_read_only e size) (sym images) ∙ (sym plan.mounts.mount.read_only ∙ plan.planned.writable));
            flash = plan.planned.flash;
            room = subst (λ (i : List ℕ). FitBlocks e size blocks i addresses) images plan.planned.room;
            length_is = plan.planned.length_is ∙ ap (λ (i : List ℕ). length (copied_image e size i addresses)) images;
          }),
    )

-- ---- what is answered

-- of so many nodes as there are
pub counted : (ns : List Placed) (e : Endian) (size blocks : ℕ) (m : Mount) (addresses : List ℕ) (count bytes : ℕ) → ArePlanned ns e size blocks m addresses count bytes
    → ArePlanned ns e size blocks m addresses (length ns) bytes
counted ns e size blocks m addresses count bytes plan = subst (λ (k : ℕ). ArePlanned ns e size blocks m addresses k bytes) plan.found.count_is plan

pub unviewed_staying : (e : Endian) (size : ℕ) (image : List ℕ) (why : ViewFault) → IsUnviewed size image why → AnswersStaying e size image (Err why)
unviewed_staying e size image view.BlockSize h = h
unviewed_staying e size image view.TooLarge h = h
unviewed_staying e size image view.OutOfMemory h = h
unviewed_staying e size image (view.Incompatible addr nodetype) h = absurd h
unviewed_staying e size image (view.Compressed addr compr) h = absurd h
unviewed_staying e size image (view.Data addr) h = absurd h
unviewed_staying e size image (view.TooLong addr) h = absurd h
unviewed_staying e size image (view.Clash addr) h = absurd h
unviewed_staying e size image view.RootKind h = absurd h

pub unplanned_compacts : (e : Endian) (size blocks : ℕ) (image : List ℕ) (sink : SinkChange) (f : ThroughFault) → IsUnplannedApart e size blocks image f → IsSinkUntouched sink
    → CompactsApart e size blocks image sink (Err f)
unplanned_compacts e size blocks image sink (through.Unmounted why) is same = (is, same)
unplanned_compacts e size blocks image sink (through.Uncollected fault.ReadOnly) is same = (is, same)
unplanned_compacts e size blocks image sink (through.Uncollected fault.Geometry) is same = (is, same)
unplanned_compacts e size blocks image sink (through.Uncollected (fault.TooLong addr)) is same = (is, same)
unplanned_compacts e size blocks image sink (through.Uncollected (fault.Full needed free)) is same = (is, same)
unplanned_compacts e size blocks image sink (through.Uncollected fault.Sink) is same = absurd is.4
unplanned_compacts e size blocks image sink (through.Uncollected fault.OutOfMemory) is same = same
