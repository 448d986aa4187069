-- A row is the tail of a flash whose blank blocks are last.
use Rattle.std.proofs.Common.{◌≡◌, ℕ, zero, suc, ◌+◌, ◌-◌, ◌*◌, ◌/◌, ◌%◌, ◌<◌, ◌≤◌, List, [], ◌∷◌, ◌++◌, length, take, drop, get_or, refl, sym, ap, ap₂, subst, ◌∙◌, arith, inl, inr, Contains, is_some}
use Rattle.std.specs.Prelude.{IsTrue, ◌&&◌, nat_le, nat_lt}
use Rattle.std.proofs.Math.Nat.{mul-le-mul_right}
use Rattle.std.proofs.lemmas.Bool.{cases_lt, and_parts, and_from, leb-true, le-leb, true≢false}
use Rattle.std.proofs.lemmas.List.Elements.{Contains-get_or}
use Rattle.flashbase.specs.Bytes.{erased}
use Rattle.flashbase.specs.Ranges.{AreBytes}
use Rattle.jnode.specs.declared.order.Endian.{Endian}
use Rattle.jnode.proofs.OrderLemmas.{bytes-take, bytes-drop}
use Rattle.jscan.specs.Image.{is_block_size, greatest_image, block_of}
use Rattle.jscan.specs.Scans.{IsScannable}
use Rattle.jmount.specs.Mount.{Mount}
use Rattle.jmount.specs.StateOf.{state_of}
use Rattle.jmount.specs.Tree.{State, is_directory}
use Rattle.jmount.specs.Shown.{top_at}
use Rattle.jmount.proofs.NumbersLemmas.{top_at-tops_of}
use Rattle.jmount.proofs.SameLemmas.{same_sym}
use Rattle.jmount.proofs.StateLemmas.{top-same}
use Rattle.jsteps.specs.Laws.{IsConsistent}
use Rattle.jsteps.specs.Nodes.{Indexed, indexed, index_by, nodes_of}
use Rattle.jsteps.specs.Refusals.{plans_of, steps_of_first}
use Rattle.jsteps.specs.declared.op.Op.{Op}
use Rattle.jsteps.specs.Steps.{bytes, after}
use Rattle.jsteps.specs.declared.step.Step.{Step}
use Rattle.jsteps.proofs.ConsistentLemmas.{index_is_consistent}
use Rattle.jexpand.specs.Expanded.{expanded_nodes}
use Rattle.jexpand.proofs.SightedLemmas.{size_some, size_words}
use Rattle.jview.specs.Through.{MountsThroughAs, IsMountThroughOf, first_fault}
use Rattle.jlog.specs.Places.{places, end_of_all, fit, is_writable_flash}
use Rattle.jlog.specs.Output.{output}
use Rattle.jlog.specs.Left.{IsLeft, count_whole}
use Rattle.jlog.specs.Headline.{is_flash_of, resume_address}
use Rattle.jlog.specs.HeadlineThrough.{state_through, IsBaseThrough, index_through, AreAcceptedAs, SurvivesAs}
use Rattle.jlog.specs.Packed.{AreNodeForms}
use Rattle.jlog.proofs.ByteLemmas.{block_byte}
use Rattle.jlog.proofs.HeadlineThroughLemmas.{all_fit_through, forms_survive}
use Rattle.jlog.proofs.PlaceLemmas.{times_words}
use Rattle.jlog.proofs.ResumeLemmas.{resumed_at}
use Rattle.jrow.specs.Arranged.{taken_blocks, blank_last, arranged, row_start, BaseIsArranged, ArrangedMounts, RowIsTail, ArrangedBegins, ArrangedSurvives, ArrangedEarlierStand}
use Rattle.jrow.specs.HeadlineInRow.{AreAcceptedInRow, FormsSurviveInRow}
use Rattle.jrow.specs.RowLeft.{IsLeftInRow}
use Rattle.jrow.specs.Row.{blank_blocks, side_by_side}
use Rattle.jrow.proofs.ArrangedLemmas.{AreSeenSame, arranged_seen, arranged_long, arranged_blank_from, blocks_parted, block_in_front, block_behind, taken_is_not_blank, row_is_blank}
use Rattle.jrow.proofs.MergedLemmas.{none_of}
use Rattle.jrow.proofs.MovedLemmas.{log_is_moved}
use Rattle.jrow.proofs.OrderLemmas.{order_does_not_matter}
use Rattle.jrow.proofs.RowLemmas.{other_blocks_stay}
use Rattle.jrow.proofs.SideLemmas.{side_block, div_within, div_parts, mod_small}

-- ---- where the same is seen, the same mounts

seen_turned : (e : Endian) (size : ℕ) (image other : List ℕ) → AreSeenSame e size image other → AreSeenSame e size other image
seen_turned e size image other same = record {
  nodes = same_sym (expanded_nodes e size image) (expanded_nodes e size other) same.nodes;
  contents = sym same.contents;
  refused = sym same.refused;
}

pub mounts_same : (e : Endian) (size : ℕ) (image other : List ℕ) (s : State) → AreSeenSame e size image other → IsScannable size other → MountsThroughAs e size image s → MountsThroughAs e size other s
mounts_same e size image other s same scannable mounts =
    let make = order_does_not_matter (expanded_nodes e size image) (expanded_nodes e size other) same.nodes mounts.sound.apart in
    record {
      sound = record {
        scannable = scannable;
        none = none_of (first_fault e size other) (sym same.refused ∙ ap is_some mounts.sound.none);
        contents = omega (arith, same.contents, mounts.sound.contents);
        apart = make.apart;
      };
      root = subst (λ (t : State). IsTrue (is_directory t 1)) make.state mounts.root;
      same = sym make.state ∙ mounts.same;
    }

pub arranged_mounts : ArrangedMounts
arranged_mounts e size blocks base image s size_is small within =
    let flash : List ℕ = arranged e size blocks base image in
    let seen : AreSeenSame e size flash image = arranged_seen e size blocks base image size_is within in (
      λ mounts. mounts_same e size image flash s (seen_turned e size flash image seen) (size_is, omega (arith, arranged_long e size blocks base image, small)) mounts,
      λ mounts. mounts_same e size flash image s seen (size_is, omega (arith, within, small)) mounts,
    )

-- ---- the base

bytes_erased : (n : ℕ) → AreBytes (erased n)
bytes_erased zero i = omega arith
bytes_erased (suc n) zero = omega arith
bytes_erased (suc n) (suc i) = bytes_erased n i

bytes_append : (xs ys : List ℕ) → AreBytes xs → AreBytes ys → AreBytes (xs ++ ys)
bytes_append [] ys these those i = those i
bytes_append (x ∷ xs) ys these those zero = these 0
bytes_append (x ∷ xs) ys these those (suc i) = bytes_append xs ys (λ j. these (suc j)) those i

bytes_side : (size : ℕ) (row image : List ℕ) → AreBytes image → AreBytes (side_by_side size row image)
bytes_side size [] image are = bytes_erased 0
bytes_side size (b ∷ bs) image are =
    bytes_append (block_of size image b) (side_by_side size bs image)
    (bytes-take size (drop (b * size) image ++ erased size) (bytes_append (drop (b * size) image) (erased size) (bytes-drop (b * size) image are) (bytes_erased size)))
    (bytes_side size bs image are)

record Limits (size blocks : ℕ) (base : List ℕ) : Type 0 where
  writable : IsTrue (is_writable_flash size blocks)
  size_is : IsTrue (is_block_size size)
  small : blocks * size ≤ greatest_image
  within : length base ≤ blocks * size

limits_of : (size blocks : ℕ) (base : List ℕ) → IsTrue (is_flash_of size blocks base) → Limits size blocks base
limits_of size blocks base ok =
    let both = and_parts (is_writable_flash size blocks) (nat_le (length base) (blocks * size)) ok in
    let last = and_parts (is_block_size size && nat_le 8192 size && nat_lt 0 blocks) (nat_le (blocks * size) greatest_image) both.0 in
    let some = and_parts (is_block_size size && nat_le 8192 size) (nat_lt 0 blocks) last.0 in
    let sizes = and_parts (is_block_size size) (nat_le 8192 size) some.0 in
    record { writable = both.0; size_is = sizes.0; small = leb-true _ _ last.1; within = leb-true _ _ both.1 }

pub base_is_arranged : BaseIsArranged
base_is_arranged e size blocks base ok =
    let limits = limits_of size blocks base ok in
    let flash : List ℕ = arranged e size blocks base base in
    let seen : AreSeenSame e size flash base = arranged_seen e size blocks base base limits.size_is limits.within in
    let long : length flash ≡ blocks * size = arranged_long e size blocks base base in
    record {
      flash = and_from (is_writable_flash size blocks) (nat_le (length flash) (blocks * size)) limits.writable (le-leb (length flash) (blocks * size) (omega (arith, long)));
      resumes = ap (λ (n : ℕ). n * size) (arranged_blank_from e size blocks base);
      leads = λ none.
          let same : state_of (expanded_nodes e size flash) ≡ state_of (expanded_nodes e size base) =
          sym (order_does_not_matter (expanded_nodes e size base) (expanded_nodes e size flash) (same_sym (expanded_nodes e size flash) (expanded_nodes e size base) seen.nodes) none).state in
          λ j. index_by (same j) (λ i. top-same (expanded_nodes e size flash) (expanded_nodes e size base) i seen.nodes j);
      are_bytes = λ are. bytes_side size (blank_last e size blocks base) base are;
    }

-- ---- what is left

pub tail_byte : (e : Endian) (size blocks : ℕ) (base image : List ℕ) (j i : ℕ) → j < length (blank_blocks e size blocks base) → i < size
    → get_or (arranged e size blocks base image) ((length (taken_blocks e size blocks base) + j) * size + i) 0xFF
    ≡ get_or (side_by_side size (blank_blocks e size blocks base) image) (j * size + i) 0xFF
tail_byte e size blocks base image j i inside small =
    let row : List ℕ = blank_blocks e size blocks base in
    let d : ℕ = length (taken_blocks e size blocks base) + j in
    sym (block_byte size (arranged e size blocks base image) d i small)
    ∙ (ap (λ (l : List ℕ). get_or l i 0xFF) (block_behind e size blocks base image j inside ∙ sym (side_block size row image j inside))
    ∙ block_byte size (side_by_side size row image) j i small)

pub row_is_tail : RowIsTail
row_is_tail e size blocks k base out image some left =
    let taken : List ℕ = taken_blocks e size blocks base in
    let row : List ℕ = blank_blocks e size blocks base in
    let flash : List ℕ = arranged e size blocks base image in
    let was : List ℕ = arranged e size blocks base base in
    let n : ℕ = length taken in
    let parted : n + length row ≡ blocks = blocks_parted e size blocks base in
    record {
      no_longer = omega (arith, arranged_long e size blocks base image);
      stays = λ at low.
          let d : ℕ = at / size in
          let i : ℕ = at % size in
          let small : i < size = mod_small at size some in
          let split : at ≡ d * size + i = div_parts at size some in
          let front : d < n = div_within at n size some low in
          let b : ℕ = get_or taken d 0 in
          let out_of : Contains row b → ⊥ = λ has.
          true≢false (sym (row_is_blank e size blocks base b has) ∙ taken_is_not_blank e size blocks base b (Contains-get_or taken d 0 front)) in
          let same : block_of size flash d ≡ block_of size was d =
          block_in_front e size blocks base image d front
          ∙ (other_blocks_stay e size blocks k b base row out image some left out_of ∙ sym (block_in_front e size blocks base base d front)) in
          subst (λ (a : ℕ). get_or flash a 0xFF ≡ get_or was a 0xFF) (sym split)
          (sym (block_byte size flash d i small) ∙ (ap (λ (l : List ℕ). get_or l i 0xFF) same ∙ block_byte size was d i small));
      each = λ d inside. elim (cases_lt d n) [
        | inl front ↦
            let next : (d + 1) * size ≤ n * size = mul-le-mul_right size (omega arith) in
            inl (λ i small low. absurd (omega (arith, next, small, low)))
        | inr behind ↦
            let j : ℕ = d - n in
            let at : n + j ≡ d = omega (arith, behind) in
            let within : j < length row = omega (arith, at, inside, parted) in
            let start : d * size ≡ n * size + j * size = ap (λ (m : ℕ). m * size) (sym at) ∙ omega arith in
            let there : (i : ℕ) → i < size → get_or flash (d * size + i) 0xFF ≡ get_or (side_by_side size row image) (j * size + i) 0xFF = λ i small.
            ap (λ (m : ℕ). get_or flash (m * size + i) 0xFF) (sym at) ∙ tail_byte e size blocks base image j i within small in
            elim (left.written.each j within) [
              | inl holds ↦ inl (λ i small low.
                  let place : j * size + i - 0 ≡ d * size + i - n * size = omega (arith, start) in
                  there i small ∙ (holds i small (omega arith) ∙ ap (λ (m : ℕ). get_or (take k out) m 0xFF) place))
              | inr marked ↦
                  let m = marked.1 in
                  inr (
                    marked.0,
                    record {
                      unwritten = omega (arith, start);
                      before = omega (arith, start, m.before);
                      no_fewer = omega (arith, start, m.no_fewer);
                      most = m.most;
                      bytes = λ i small. there i small ∙ m.bytes i small;
                    },
                  )
            ]
      ];
    }

-- ---- a log

index_is : (e : Endian) (size : ℕ) (m : Mount) → IsMountThroughOf e size m → indexed m ≡ index_through e size m.image
index_is e size m is = λ j.
    index_by (sym is.mounts.same j) (λ i. (ap (λ tops. top_at tops i) is.tops ∙ top_at-tops_of (expanded_nodes e size m.image) i) j)

pub arranged_begins : ArrangedBegins
arranged_begins flash at m is are_bytes resumes =
    let e : Endian = flash.order in
    let size : ℕ = flash.size in
    let blocks : ℕ = flash.blocks in
    let ok = resumed_at e size blocks m at resumes in
    let limits = limits_of size blocks m.image ok.flash in
    let other : List ℕ = arranged e size blocks m.image m.image in
    let arranged_is = base_is_arranged e size blocks m.image ok.flash in
    let mounts = (arranged_mounts e size blocks m.image m.image m.state limits.size_is limits.small limits.within).0 is.mounts in
    let same : indexed m ≡ index_through e size m.image = index_is e size m is in
    let fewer : length (taken_blocks e size blocks m.image) ≤ blocks = omega (arith, blocks_parted e size blocks m.image) in
    record {
      going = record {
        within = mul-le-mul_right size fewer;
        word = times_words (length (taken_blocks e size blocks m.image)) size (size_words size limits.size_is);
        consistent = subst IsConsistent (sym same) (index_is_consistent (expanded_nodes e size m.image) (all_fit_through e size m.image limits.size_is are_bytes) is.mounts.root);
      };
      done = record {
        is_base = record { flash = arranged_is.flash; mounts = record { sound = mounts.sound; root = mounts.root; same = refl } };
        widths = tt;
        accepted = record { planned = omega arith; forms_on = record { are = tt; fits = refl; contents = omega (arith, mounts.sound.contents) } };
        cursor_is = sym arranged_is.resumes;
        index_is = same ∙ sym (arranged_is.leads is.mounts.sound.apart);
      };
    }

-- what an arranged image mounts through as, the image does, from the base's file system on
mounts_from : (e : Endian) (size blocks : ℕ) (base image : List ℕ) (f : State → State) → IsBaseThrough e size blocks base → length image ≤ blocks * size
    → MountsThroughAs e size (arranged e size blocks base image) (f (state_through e size (arranged e size blocks base base)))
    → MountsThroughAs e size image (f (state_through e size base))
mounts_from e size blocks base image f is_base within mounts =
    let limits = limits_of size blocks base is_base.flash in
    let was : List ℕ = arranged e size blocks base base in
    let flash : List ℕ = arranged e size blocks base image in
    let seen : AreSeenSame e size was base = arranged_seen e size blocks base base limits.size_is limits.within in
    let state : state_through e size was ≡ state_through e size base =
    sym (order_does_not_matter (expanded_nodes e size base) (expanded_nodes e size was) (same_sym (expanded_nodes e size was) (expanded_nodes e size base) seen.nodes) is_base.mounts.sound.apart).state in
    (arranged_mounts e size blocks base image (f (state_through e size base)) limits.size_is limits.small within).1
    (subst (λ (s : State). MountsThroughAs e size flash (f s)) state mounts)

mounts_back : (e : Endian) (size blocks : ℕ) (base image : List ℕ) (steps : List Step) → IsBaseThrough e size blocks base → length image ≤ blocks * size
    → MountsThroughAs e size (arranged e size blocks base image) (after bytes (state_through e size (arranged e size blocks base base)) steps)
    → MountsThroughAs e size image (after bytes (state_through e size base) steps)
mounts_back e size blocks base image steps is_base within mounts = mounts_from e size blocks base image (λ s. after bytes s steps) is_base within mounts

pub arranged_survives : ArrangedSurvives
arranged_survives e size blocks base steps forms is_base survive none k image within left =
    let some : 0 < size = omega (arith, size_some size (limits_of size blocks base is_base.flash).size_is) in
    let was : List ℕ = arranged e size blocks base base in
    let from : ℕ = row_start e size blocks base in
    let cuts = subst
    (λ (c : ℕ). (i : ℕ) (other : List ℕ) → i ≤ length (output e size c forms) → IsLeft e size blocks was c (output e size c forms) i other
    → MountsThroughAs e size other (after bytes (state_through e size was) (take (count_whole c (output e size c forms) i (places size c forms)) steps)))
    (base_is_arranged e size blocks base is_base.flash).resumes (survive.cuts none) in
    mounts_back e size blocks base image (take (count_whole from (output e size from forms) k (places size from forms)) steps) is_base left.no_longer
    (cuts k (arranged e size blocks base image) within (row_is_tail e size blocks k base (output e size from forms) image some left))

whole_survives : (e : Endian) (size blocks : ℕ) (base : List ℕ) (steps : List Step) (forms : List (List ℕ)) → IsBaseThrough e size blocks base
    → SurvivesAs e size blocks (arranged e size blocks base base) steps forms
    → let out = output e size (row_start e size blocks base) forms in
    (image : List ℕ) → IsLeftInRow e size blocks base (blank_blocks e size blocks base) out (length out) image
    → MountsThroughAs e size image (after bytes (state_through e size base) steps)
whole_survives e size blocks base steps forms is_base survive image left =
    let some : 0 < size = omega (arith, size_some size (limits_of size blocks base is_base.flash).size_is) in
    let was : List ℕ = arranged e size blocks base base in
    let out : List ℕ = output e size (row_start e size blocks base) forms in
    let whole = subst
    (λ (c : ℕ). (other : List ℕ) → IsLeft e size blocks was c (output e size c forms) (length (output e size c forms)) other
    → MountsThroughAs e size other (after bytes (state_through e size was) steps))
    (base_is_arranged e size blocks base is_base.flash).resumes survive.whole in
    mounts_back e size blocks base image steps is_base left.no_longer (whole (arranged e size blocks base image) (row_is_tail e size blocks (length out) base out image some left))

-- the same while more is written after earlier forms
pub arranged_earlier_stand : ArrangedEarlierStand
arranged_earlier_stand e size blocks base earlier steps before forms is_base stand none k image within left =
    let some : 0 < size = omega (arith, size_some size (limits_of size blocks base is_base.flash).size_is) in
    let was : List ℕ = arranged e size blocks base base in
    let start : ℕ = row_start e size blocks base in
    let from : ℕ = end_of_all size start before in
    let out : List ℕ = output e size from forms in
    let whole : List ℕ = output e size start before ++ out in
    let cuts = subst
    (λ (c : ℕ). (i : ℕ) (other : List ℕ) → i ≤ length (output e size (end_of_all size c before) forms)
    → IsLeft e size blocks was c (output e size c before ++ output e size (end_of_all size c before) forms) (length (output e size c before) + i) other
    → MountsThroughAs e size other (after bytes (after bytes (state_through e size was) earlier)
    (take (count_whole (end_of_all size c before) (output e size (end_of_all size c before) forms) i (places size (end_of_all size c before) forms)) steps)))
    (base_is_arranged e size blocks base is_base.flash).resumes (stand none) in
    mounts_from e size blocks base image (λ s. after bytes (after bytes s earlier) (take (count_whole from out k (places size from forms)) steps)) is_base left.no_longer
    (cuts k (arranged e size blocks base image) within (row_is_tail e size blocks (length (output e size start before) + k) base whole image some left))

-- ---- accepted operations

-- a log that begins where the row does
record BeginsAt (e : Endian) (size n : ℕ) (forms : List (List ℕ)) : Type 0 where
  goes_out : output e size (n * size) forms ≡ output e size 0 forms
  whole : (out : List ℕ) (k : ℕ) → count_whole (n * size) out k (places size (n * size) forms) ≡ count_whole 0 out k (places size 0 forms)
  fits : (blocks : ℕ) → fit size (n + blocks) (n * size) forms ≡ fit size blocks 0 forms

begins_at : (e : Endian) (size n : ℕ) (forms : List (List ℕ)) → 0 < size → size % 4 ≡ 0 → BeginsAt e size n forms
begins_at e size n forms some words =
    let moved = log_is_moved e size 0 n forms some words in
    let here : n * size + 0 ≡ n * size = omega arith in
    record {
      goes_out = subst (λ (c : ℕ). output e size c forms ≡ output e size 0 forms) here moved.goes_out;
      whole = λ out k. subst (λ (c : ℕ). count_whole c out k (places size c forms) ≡ count_whole 0 out k (places size 0 forms)) here (moved.whole out k);
      fits = λ blocks. subst (λ (c : ℕ). fit size (n + blocks) c forms ≡ fit size blocks 0 forms) here (moved.fits blocks);
    }

arranged_base : (e : Endian) (size blocks : ℕ) (base : List ℕ) → IsBaseThrough e size blocks base → IsBaseThrough e size blocks (arranged e size blocks base base)
arranged_base e size blocks base is_base =
    let limits = limits_of size blocks base is_base.flash in
    let mounts = (arranged_mounts e size blocks base base (state_through e size base) limits.size_is limits.small limits.within).0 is_base.mounts in
    record {
      flash = (base_is_arranged e size blocks base is_base.flash).flash;
      mounts = record { sound = mounts.sound; root = mounts.root; same = refl };
    }

arranged_accepted : (page : ℕ) (e : Endian) (size blocks : ℕ) (base : List ℕ) (ops : List Op) (n : ℕ) (forms : List (List ℕ)) → IsBaseThrough e size blocks base
    → AreAcceptedInRow page e size blocks base ops n forms → AreAcceptedAs page e size blocks (arranged e size blocks base base) ops n forms
arranged_accepted page e size blocks base ops n forms is_base accepted =
    let limits = limits_of size blocks base is_base.flash in
    let some : 0 < size = omega (arith, size_some size limits.size_is) in
    let was : List ℕ = arranged e size blocks base base in
    let t : ℕ = length (taken_blocks e size blocks base) in
    let m : ℕ = length (blank_blocks e size blocks base) in
    let arranged_is = base_is_arranged e size blocks base is_base.flash in
    let leads : index_through e size base ≡ index_through e size was = sym (arranged_is.leads is_base.mounts.sound.apart) in
    let seen : AreSeenSame e size was base = arranged_seen e size blocks base base limits.size_is limits.within in
    let fits : fit size blocks (resume_address e size blocks was) forms ≡ fit size m 0 forms =
    ap₂ (λ (i c : ℕ). fit size i c forms) (sym (blocks_parted e size blocks base)) arranged_is.resumes ∙ (begins_at e size t forms some (size_words size limits.size_is)).fits m in
    record {
      planned = subst (λ (x : Indexed). n ≤ length (plans_of page x ops)) leads accepted.planned;
      forms_on = record {
        are = subst (λ (x : Indexed). AreNodeForms e (nodes_of x (steps_of_first page x ops n)) forms) leads accepted.forms_in.are;
        fits = subst IsTrue (sym fits) accepted.forms_in.fits;
        contents = omega (arith, seen.contents, accepted.forms_in.contents);
      };
    }

pub forms_survive_in_row : FormsSurviveInRow
forms_survive_in_row page e size blocks n base ops forms is_page room is_base are_bytes fit_ops accepted =
    let limits = limits_of size blocks base is_base.flash in
    let some : 0 < size = omega (arith, size_some size limits.size_is) in
    let was : List ℕ = arranged e size blocks base base in
    let row : List ℕ = blank_blocks e size blocks base in
    let from : ℕ = row_start e size blocks base in
    let arranged_is = base_is_arranged e size blocks base is_base.flash in
    let steps : List Step = steps_of_first page (index_through e size base) ops n in
    let survive : SurvivesAs e size blocks was steps forms =
    subst (λ (x : Indexed). SurvivesAs e size blocks was (steps_of_first page x ops n) forms) (arranged_is.leads is_base.mounts.sound.apart)
    (forms_survive page e size blocks n was ops forms is_page room (arranged_base e size blocks base is_base) (arranged_is.are_bytes are_bytes) fit_ops
    (arranged_accepted page e size blocks base ops n forms is_base accepted)) in
    let at = begins_at e size (length (taken_blocks e size blocks base)) forms some (size_words size limits.size_is) in
    let same : output e size 0 forms ≡ output e size from forms = sym at.goes_out in
    record {
      cuts = λ none k image within left.
          let count : count_whole from (output e size from forms) k (places size from forms) ≡ count_whole 0 (output e size 0 forms) k (places size 0 forms) =
          ap (λ (o : List ℕ). count_whole from o k (places size from forms)) at.goes_out ∙ at.whole (output e size 0 forms) k in
          subst (λ (i : ℕ). MountsThroughAs e size image (after bytes (state_through e size base) (take i steps))) count
          (arranged_survives e size blocks base steps forms is_base survive none k image (subst (λ (o : List ℕ). k ≤ length o) same within)
          (subst (λ (o : List ℕ). IsLeftInRow e size blocks base row o k image) same left));
      whole = λ image left.
          whole_survives e size blocks base steps forms is_base survive image
          (subst (λ (o : List ℕ). IsLeftInRow e size blocks base row o (length o) image) same left);
    }
