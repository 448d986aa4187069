-- What a stop leaves of an image: its base, and the new nodes that are intact.
use Rattle.std.proofs.Common.{◌≡◌, ℕ, zero, suc, ◌+◌, ◌-◌, ◌*◌, ◌^◌, ◌<◌, ◌≤◌, List, [], ◌∷◌, ◌++◌, length, take, map, refl, sym, ap, ap₂, subst, ◌∙◌, arith, inl, inr}
use Rattle.std.specs.Prelude.{◌⊎◌, filter, IsTrue}
use Rattle.std.specs.List.{AllByRecursion}
use Rattle.std.proofs.Math.Nat.{mul-le-mul_right}
use Rattle.std.proofs.lemmas.Bool.{and_parts, leb-true}
use Rattle.std.proofs.lemmas.List.{append-nil, ext_get_or, take_all, length-take, length-append, length-replicate, length-map}
use Rattle.flashbase.specs.Bytes.{erased}
use Rattle.jnode.specs.Writing.{canonical, clean_marker}
use Rattle.jnode.specs.declared.node.NodeRef.{NodeRef}
use Rattle.jnode.specs.declared.node.Seen.{Seen}
use Rattle.jnode.specs.declared.order.Endian.{Endian}
use Rattle.jscan.specs.Image.{is_block_size, block_of, sightings, nodes}
use Rattle.jscan.specs.Blank.{marked, AreBlankFrom}
use Rattle.jlog.specs.Places.{place_after, end_after, places}
use Rattle.jlog.specs.Output.{output}
use Rattle.jlog.specs.Left.{HoldsWritten, HoldsMarker, IsLeft, intact}
use Rattle.jlog.specs.Laws.{FitsBlock}
use Rattle.jlog.specs.Forms.{IsStorableForm, IsLoggableForm, AreStoredForms, AreLoggedForms, NoFormWeak, placed_forms, intact_forms, form_sighted, StandsIn, HasForms, LeftForms, WholeForms}
use Rattle.jlog.specs.LeftLaws.{IsStorable, IsLoggable, NoneWeak, AreLogged, AreStored, placed, tells, sighting_of, BaseStays, PlacedAreNew, LeftSightings, LeftNodes, LeftRefuses, WholeNodes, WholeRefuses, LeftIsWithin, RefusesAs, intact_of, IsLeftOf, IsUncut}
use Rattle.jlog.proofs.IntactLemmas.{all_is_intact, storable, storable_has_room}
use Rattle.jlog.proofs.TellLemmas.{nodes_told, refuses_as}
use Rattle.jlog.proofs.ByteLemmas.{erased_end, block_long, block_byte}
use Rattle.jlog.proofs.PlaceLemmas.{place_front}
use Rattle.jnode.proofs.FormLemmas.{form_is_not_erased}
use Rattle.jlog.proofs.SightLemmas.{marker_long, node_is_form, whole_seen}
use Rattle.jlog.proofs.FlashLemmas.{BlockLeft, up}
use Rattle.jlog.proofs.HereLemmas.{Sure, none_weak, none_cut}
use Rattle.jlog.proofs.FlashLemmas.{Flash}
use Rattle.jlog.proofs.WalkLemmas.{walks_all}
use Rattle.jscan.proofs.BlockLemmas.{count_within}
use Rattle.jlog.proofs.ImageLemmas.{told_below, below_up, below_same, told_image, blank_up, block_size}

pub left_is_within : LeftIsWithin
left_is_within e size blocks from k base out image some left = count_within size blocks image some left.no_longer

-- ---- the base's blocks

pub base_stays : BaseStays
base_stays e size blocks from k b base out image below left =
    ext_get_or 0xFF (block_of size image b) (block_of size base b) (block_long size image b ∙ sym (block_long size base b)) (λ i inside.
    let less : i < size = omega (arith, inside, block_long size image b) in
    block_byte size image b i less ∙ (left.stays (b * size + i) (omega arith) ∙ sym (block_byte size base b i less)))

-- ---- the new ones

marked_is : (e : Endian) (size from k b j : ℕ) (image : List ℕ) → 12 ≤ size → HoldsMarker e size from k image b j → block_of size image b ≡ marked e size j
marked_is e size from k b j image large m =
    let cut : length (take j (clean_marker e)) ≤ size = omega (arith, length-take j (clean_marker e), marker_long e) in
    let long : length (marked e size j) ≡ size =
    omega (arith, length-append (take j (clean_marker e)) (erased (size - j)), length-take j (clean_marker e), marker_long e, m.most, length-replicate {A = ℕ} (size - j) 0xFF) in
    ext_get_or 0xFF (block_of size image b) (marked e size j) (block_long size image b ∙ sym long) (λ i inside.
    let less : i < size = omega (arith, inside, block_long size image b) in
    block_byte size image b i less ∙ (m.bytes i less ∙ sym (erased_end (take j (clean_marker e)) (size - j) i)))

block_left : (e : Endian) (size from k b : ℕ) (out image : List ℕ) → 12 ≤ size
    → HoldsWritten size from out k image b ⊎ ((j : ℕ) × HoldsMarker e size from k image b j) → BlockLeft e size from out k (block_of size image b) b
block_left e size from k b out image large (inl holds) = inl (λ i inside low. block_byte size image b i inside ∙ holds i inside low)
block_left e size from k b out image large (inr (j, m)) =
    inr (j, record { unwritten = m.unwritten; before = m.before; no_fewer = m.no_fewer; most = m.most; is = marked_is e size from k b j image large m })

flash_left : (e : Endian) (size blocks from k : ℕ) (base out image : List ℕ) → 12 ≤ size → IsLeft e size blocks base from out k image
    → Flash e size from blocks (block_of size image) out k
flash_left e size blocks from k base out image large left = record {
  long = λ d inside. block_long size image d;
  each = λ d inside. block_left e size from k d out image large (left.each d inside);
}

-- what is told from the block on where they begin
new_told : (e : Endian) (size blocks block n k : ℕ) (base image : List ℕ) (new : List (List ℕ)) → block + n ≡ blocks → AreStoredForms e size blocks base block new
    → Sure e size (block * size) k new
    → IsLeft e size blocks base (block * size) (output e size (block * size) new) k image
    → (up e size (block_of size image) block n ≡ map (form_sighted e) (intact_forms size block new k)) × AllByRecursion (StandsIn size image) (intact_forms size block new k)
new_told e size blocks block zero k base image [] sum logged sure left = (refl, tt)
new_told e size blocks block zero k base image (x ∷ xs) sum logged sure left =
    let limits = block_size size logged.size_is in
    let ok : IsStorableForm e size x = logged.each.0 in
    let at : place_after size (block * size) (length x) ≡ block * size + 12 =
    place_front size (block * size) block (length x) limits.words refl ok.room (omega (arith, ok.is.least)) in
    let fits : place_after size (block * size) (length x) + length x ≤ blocks * size = leb-true _ _ (and_parts _ _ logged.room).0 in
    let same : block ≡ blocks = omega arith in
    let end : blocks * size ≡ block * size = ap (λ (b : ℕ). b * size) (sym same) in
    absurd (omega (arith, at, fits, end))
new_told e size blocks block (suc n) k base image new sum logged sure left =
    let limits = block_size size logged.size_is in
    let all = walks_all e size blocks (block_of size image) new logged.each (block * size) block 0 n k (record {
      cursor = record {
        sized = limits.words;
        large = omega (arith, limits.least);
        small = limits.most;
        at = omega arith;
        words = refl;
        high = omega arith;
        beside = inl refl;
      };
      ends = omega arith;
      room = logged.room;
      sure = sure;
      left = flash_left e size blocks (block * size) k base (output e size (block * size) new) image (omega (arith, limits.least)) left;
    }) in
    (all.told, all.stand)

-- what is told of a base is told of its blocks below those that are blank
pub told_of_base : (e : Endian) (size blocks block : ℕ) (base : List ℕ) → IsTrue (is_block_size size) → length base ≤ blocks * size → AreBlankFrom e size base blocks block
    → filter tells (sightings e size base) ≡ told_below e size (block_of size base) block
told_of_base e size blocks block base size_is no_longer blank =
    let limits = block_size size size_is in
    let n : ℕ = blocks - block in
    let sum : block + n ≡ blocks = omega (arith, blank.within) in
    told_image e size blocks base (omega (arith, limits.least)) no_longer
    ∙ (ap (told_below e size (block_of size base)) (sym sum)
    ∙ (below_up e size (block_of size base) block n
    ∙ (ap (λ ys. told_below e size (block_of size base) block ++ ys)
    (blank_up e size blocks base block block n (omega (arith, limits.least)) blank (omega arith) (omega arith))
    ∙ append-nil (told_below e size (block_of size base) block))))

-- ---- the whole

-- where none of the first forms is cut, and none of the others is weak
pub left_has_forms : (e : Endian) (size blocks block k : ℕ) (base image : List ℕ) (new : List (List ℕ)) → AreStoredForms e size blocks base block new
    → Sure e size (block * size) k new
    → IsLeft e size blocks base (block * size) (output e size (block * size) new) k image
    → HasForms e size base image (intact_forms size block new k)
left_has_forms e size blocks block k base image new logged sure left =
    let limits = block_size size logged.size_is in
    let some : 0 < size = omega (arith, limits.least) in
    let out : List ℕ = output e size (block * size) new in
    let n : ℕ = blocks - block in
    let sum : block + n ≡ blocks = omega (arith, logged.blank.within) in
    let old : filter tells (sightings e size base) ≡ told_below e size (block_of size base) block =
    told_of_base e size blocks block base logged.size_is logged.no_longer logged.blank in
    let added = new_told e size blocks block n k base image new sum logged sure left in
    record {
      sighted = told_image e size blocks image some left.no_longer
          ∙ (ap (told_below e size (block_of size image)) (sym sum)
          ∙ (below_up e size (block_of size image) block n
          ∙ ap₂ (λ (xs ys : List (ℕ × Seen)). xs ++ ys)
          (below_same e size (block_of size image) (block_of size base) block
          (λ d less.
          let next : (d + 1) * size ≤ block * size = mul-le-mul_right size (omega arith) in
          base_stays e size blocks (block * size) k d base out image (omega arith) left)
          ∙ sym old)
          added.0));
      stand = added.1;
    }

pub storable_forms : (e : Endian) (size : ℕ) (forms : List (List ℕ)) → AllByRecursion (IsLoggableForm e size) forms → AllByRecursion (IsStorableForm e size) forms
storable_forms e size [] ok = tt
storable_forms e size (x ∷ xs) ok = (record { is = ok.0.is; room = ok.0.room }, storable_forms e size xs ok.1)

pub stored_forms : (e : Endian) (size blocks : ℕ) (base : List ℕ) (block : ℕ) (forms : List (List ℕ)) → AreLoggedForms e size blocks base block forms → AreStoredForms e size blocks base block forms
stored_forms e size blocks base block forms logged = record {
  size_is = logged.size_is;
  no_longer = logged.no_longer;
  blank = logged.blank;
  each = storable_forms e size forms logged.each;
  room = logged.room;
}

pub forms_have_room : (e : Endian) (size : ℕ) (forms : List (List ℕ)) → AllByRecursion (IsStorableForm e size) forms → AllByRecursion (FitsBlock size) forms
forms_have_room e size [] ok = tt
forms_have_room e size (x ∷ xs) ok =
    (record { some = omega (arith, ok.0.is.least); written = form_is_not_erased e x ok.0.is; within = ok.0.room }, forms_have_room e size xs ok.1)

pub left_forms : LeftForms
left_forms e size blocks block k base image forms logged none left =
    left_has_forms e size blocks block k base image forms (stored_forms e size blocks base block forms logged) (none_weak e size (block * size) k forms logged.each none) left

placed_count : (size from : ℕ) (forms : List (List ℕ)) → length (placed_forms size from forms) ≡ length forms
placed_count size from [] = refl
placed_count size from (x ∷ xs) = ap suc (placed_count size (end_after size from (length x)) xs)

-- without a cut all are kept
pub all_intact_forms : (e : Endian) (size blocks block k : ℕ) (base : List ℕ) (forms : List (List ℕ)) → AreStoredForms e size blocks base block forms
    → length (output e size (block * size) forms) ≤ k → intact_forms size block forms k ≡ placed_forms size (block * size) forms
all_intact_forms e size blocks block k base forms logged all =
    let ns : List (ℕ × List ℕ) = placed_forms size (block * size) forms in
    let count : intact size (block * size) k forms ≡ length forms =
    all_is_intact e size (block * size) k forms (block_size size logged.size_is).words (forms_have_room e size forms logged.each) all in
    take_all (intact size (block * size) k forms) ns (omega (arith, count, placed_count size (block * size) forms))

pub whole_forms : WholeForms
whole_forms e size blocks block k base image forms logged all left =
    subst (HasForms e size base image) (all_intact_forms e size blocks block k base forms logged all)
    (left_has_forms e size blocks block k base image forms logged (none_cut e size (block * size) k forms all) left)

-- ---- nodes are forms

-- the greatest block is shorter than the least length that no header tells
node_small : (size len : ℕ) → IsTrue (is_block_size size) → 12 + len ≤ size → len < 2 ^ 32
node_small size len size_is room = omega (arith, (block_size size size_is).most)

nodes_storable : (e : Endian) (size : ℕ) (new : List NodeRef) → IsTrue (is_block_size size) → AllByRecursion (IsStorable e size) new
    → AllByRecursion (IsStorableForm e size) (map (canonical e) new)
nodes_storable e size [] size_is ok = tt
nodes_storable e size (x ∷ xs) size_is ok =
    (record { is = node_is_form e size x ok.0 (node_small size (length (canonical e x)) size_is ok.0.room); room = ok.0.room }, nodes_storable e size xs size_is ok.1)

pub nodes_stored : (e : Endian) (size blocks : ℕ) (base : List ℕ) (block : ℕ) (new : List NodeRef) → AreStored e size blocks base block new
    → AreStoredForms e size blocks base block (map (canonical e) new)
nodes_stored e size blocks base block new stored = record {
  size_is = stored.size_is;
  no_longer = stored.no_longer;
  blank = stored.blank;
  each = nodes_storable e size new stored.size_is stored.nodes;
  room = stored.room;
}

pub nodes_loggable : (e : Endian) (size : ℕ) (new : List NodeRef) → IsTrue (is_block_size size) → AllByRecursion (IsLoggable e size) new
    → AllByRecursion (IsLoggableForm e size) (map (canonical e) new)
nodes_loggable e size [] size_is ok = tt
nodes_loggable e size (x ∷ xs) size_is ok = (
  record {
    is = node_is_form e size x (record { fits = ok.0.fits; writable = ok.0.writable; room = ok.0.room }) (node_small size (length (canonical e x)) size_is ok.0.room);
    plain = ok.0.plain;
    room = ok.0.room;
  },
  nodes_loggable e size xs size_is ok.1,
)

pub nodes_not_weak : (e : Endian) (new : List NodeRef) → NoneWeak e new → NoFormWeak e (map (canonical e) new)
nodes_not_weak e [] none = tt
nodes_not_weak e (x ∷ xs) none = (none.0, nodes_not_weak e xs none.1)

-- what they are sighted as
nodes_sighted : (e : Endian) (size from n : ℕ) (new : List NodeRef) → IsTrue (is_block_size size) → AllByRecursion (IsStorable e size) new
    → map (form_sighted e) (take n (placed_forms size from (map (canonical e) new))) ≡ map sighting_of (take n (placed e size from new))
nodes_sighted e size from zero new size_is ok = refl
nodes_sighted e size from (suc n) [] size_is ok = refl
nodes_sighted e size from (suc n) (x ∷ xs) size_is ok =
    let at : ℕ = place_after size from (length (canonical e x)) in
    ap₂ (λ (s : ℕ × Seen) (ss : List (ℕ × Seen)). s ∷ ss) (whole_seen e at x size ok.0 (node_small size (length (canonical e x)) size_is ok.0.room))
    (nodes_sighted e size (end_after size from (length (canonical e x))) n xs size_is ok.1)

-- so it is with them, where none of the first is cut, and none of the others is weak
pub left_sightings : (e : Endian) (size blocks block k : ℕ) (base image : List ℕ) (new : List NodeRef) → AreStored e size blocks base block new
    → Sure e size (block * size) k (map (canonical e) new)
    → IsLeftOf e size blocks base block new k image
    → filter tells (sightings e size image)
    ≡ filter tells (sightings e size base) ++ map sighting_of (intact_of e size block new k)
left_sightings e size blocks block k base image new stored sure left =
    (left_has_forms e size blocks block k base image (map (canonical e) new) (nodes_stored e size blocks base block new stored) sure left).sighted
    ∙ ap (λ (ss : List (ℕ × Seen)). filter tells (sightings e size base) ++ ss)
    (nodes_sighted e size (block * size) (intact size (block * size) k (map (canonical e) new)) new stored.size_is stored.nodes)

pub stored : (e : Endian) (size blocks : ℕ) (base : List ℕ) (block : ℕ) (new : List NodeRef) → AreLogged e size blocks base block new → AreStored e size blocks base block new
stored e size blocks base block new logged = record {
  size_is = logged.size_is;
  no_longer = logged.no_longer;
  blank = logged.blank;
  nodes = storable e size new logged.nodes;
  room = logged.room;
}

pub none_weak_nodes : (e : Endian) (size c k : ℕ) (new : List NodeRef) → IsTrue (is_block_size size) → AllByRecursion (IsLoggable e size) new → NoneWeak e new
    → Sure e size c k (map (canonical e) new)
none_weak_nodes e size c k new size_is ok none = none_weak e size c k (map (canonical e) new) (nodes_loggable e size new size_is ok) (nodes_not_weak e new none)

-- ---- the laws

placed_places : (e : Endian) (size from : ℕ) (new : List NodeRef) → map (λ n. (n.0, length (canonical e n.1))) (placed e size from new) ≡ places size from (map (canonical e) new)
placed_places e size from [] = refl
placed_places e size from (x ∷ xs) =
    ap (λ (ps : List (ℕ × ℕ)). (place_after size from (length (canonical e x)), length (canonical e x)) ∷ ps) (placed_places e size (end_after size from (length (canonical e x))) xs)

placed_nodes : (e : Endian) (size from : ℕ) (new : List NodeRef) → map (λ n. n.1) (placed e size from new) ≡ new
placed_nodes e size from [] = refl
placed_nodes e size from (x ∷ xs) = ap (λ (ns : List NodeRef). x ∷ ns) (placed_nodes e size (end_after size from (length (canonical e x))) xs)

pub placed_are_new : PlacedAreNew
placed_are_new e size from new = record { places = placed_places e size from new; nodes = placed_nodes e size from new }

pub left_sightings_told : LeftSightings
left_sightings_told e size blocks block k base image new logged none left =
    left_sightings e size blocks block k base image new (stored e size blocks base block new logged) (none_weak_nodes e size (block * size) k new logged.size_is logged.nodes none) left

pub sure_nodes : (e : Endian) (size blocks block k : ℕ) (base image : List ℕ) (new : List NodeRef) → AreStored e size blocks base block new → Sure e size (block * size) k (map (canonical e) new)
    → IsLeftOf e size blocks base block new k image → nodes e size image ≡ nodes e size base ++ intact_of e size block new k
sure_nodes e size blocks block k base image new logged sure left =
    nodes_told e size base image (intact_of e size block new k) (left_sightings e size blocks block k base image new logged sure left)

pub sure_refuses : (e : Endian) (size blocks block k : ℕ) (base image : List ℕ) (new : List NodeRef) → AreStored e size blocks base block new → Sure e size (block * size) k (map (canonical e) new)
    → IsLeftOf e size blocks base block new k image → RefusesAs e size base image
sure_refuses e size blocks block k base image new logged sure left =
    refuses_as e size base image (intact_of e size block new k) (left_sightings e size blocks block k base image new logged sure left)

pub left_nodes : LeftNodes
left_nodes e size blocks block k base image new logged none left =
    sure_nodes e size blocks block k base image new (stored e size blocks base block new logged) (none_weak_nodes e size (block * size) k new logged.size_is logged.nodes none) left

pub left_refuses : LeftRefuses
left_refuses e size blocks block k base image new logged none left =
    sure_refuses e size blocks block k base image new (stored e size blocks base block new logged) (none_weak_nodes e size (block * size) k new logged.size_is logged.nodes none) left

-- without a cut all are kept
all_placed : (e : Endian) (size blocks block k : ℕ) (base : List ℕ) (new : List NodeRef) → AreStored e size blocks base block new
    → IsUncut e size block new k
    → intact_of e size block new k ≡ placed e size (block * size) new
all_placed e size blocks block k base new logged all =
    let ns : List (ℕ × NodeRef) = placed e size (block * size) new in
    let count : intact size (block * size) k (map (canonical e) new) ≡ length new =
    all_is_intact e size (block * size) k (map (canonical e) new) (block_size size logged.size_is).words (storable_has_room e size new logged.nodes) all ∙ length-map new (canonical e) in
    let long : length ns ≡ length new = sym (length-map ns (λ n. n.1)) ∙ ap length (placed_nodes e size (block * size) new) in
    take_all (intact size (block * size) k (map (canonical e) new)) ns (omega (arith, count, long))

pub whole_nodes : WholeNodes
whole_nodes e size blocks block k base image new logged all left =
    sure_nodes e size blocks block k base image new logged (none_cut e size (block * size) k (map (canonical e) new) all) left
    ∙ ap (λ (ns : List (ℕ × NodeRef)). nodes e size base ++ ns) (all_placed e size blocks block k base new logged all)

pub whole_refuses : WholeRefuses
whole_refuses e size blocks block k base image new logged all left =
    sure_refuses e size blocks block k base image new logged (none_cut e size (block * size) k (map (canonical e) new) all) left
