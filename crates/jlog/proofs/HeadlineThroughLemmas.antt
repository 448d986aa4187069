-- The steps of accepted operations survive a cut at any byte, whatever forms their nodes are put in.
use Rattle.std.proofs.Common.{◌≡◌, ℕ, zero, suc, ◌+◌, ◌*◌, ◌/◌, ◌%◌, ◌≤◌, List, [], ◌∷◌, ◌++◌, length, take, drop, refl, sym, ap, subst, ◌∙◌, arith, Option, None, Some, option_map, Contains, length-append}
use Rattle.std.specs.Prelude.{IsTrue, nat_le, nat_lt, ◌&&◌}
use Rattle.std.specs.List.{AllByRecursion, flat_map}
use Rattle.std.proofs.lemmas.Bool.{and_parts, leb-true}
use Rattle.std.proofs.lemmas.List.{take_all}
use Rattle.flashbase.specs.Bytes.{erased}
use Rattle.flashbase.specs.Ranges.{AreBytes}
use Rattle.flashbase.proofs.MemberLemmas.{Contains-filter_map, Contains-filter_map_from}
use Rattle.jnode.specs.Reading.{tile_of}
use Rattle.jnode.specs.Writing.{Fits}
use Rattle.jnode.specs.declared.node.CompressedNode.{CompressedNode}
use Rattle.jnode.specs.declared.node.Fill.TheVariants.{Data}
use Rattle.jnode.specs.declared.node.NodeRef.{NodeRef}
use Rattle.jnode.specs.declared.node.NodeRef.TheVariants as node
use Rattle.jnode.specs.declared.node.Seen.{Seen}
use Rattle.jnode.specs.declared.node.Seen.TheVariants as seen
use Rattle.jnode.specs.declared.order.Endian.{Endian}
use Rattle.jnode.proofs.FitsLemmas.{inode_fits}
use Rattle.jnode.proofs.OrderLemmas.{bytes-take, bytes-drop}
use Rattle.jscan.specs.Image.{is_block_size, greatest_image, block_of, sightings, node_sighted}
use Rattle.jscan.specs.Blank.{blank_from}
use Rattle.jscan.specs.Pages.{IsPage}
use Rattle.jscan.proofs.BlankLemmas.{blank_from_is_least}
use Rattle.jscan.proofs.FitLaws.{nodes_fit}
use Rattle.jmount.specs.Tree.{State, is_directory}
use Rattle.jmount.specs.StateOf.{state_of}
use Rattle.jsteps.specs.Steps.{bytes, after}
use Rattle.jsteps.specs.Refusals.{steps_of_first}
use Rattle.jsteps.specs.Laws.{AllFit, IsPlanned, GoesOn}
use Rattle.jmount.specs.Clash.{NoneClash}
use Rattle.jsteps.specs.declared.step.Step.{Step}
use Rattle.jsteps.proofs.GoesOnLemmas.{planned_goes_on}
use Rattle.jexpand.specs.Expanded.{rest_at, compressed_node_at, node_content, with_content, expanded_node, expanded_nodes, unpacked_bytes}
use Rattle.jlog.specs.Places.{places, is_writable_flash}
use Rattle.jlog.specs.Output.{output}
use Rattle.jlog.specs.Left.{IsLeft, count_whole, intact}
use Rattle.jlog.specs.LeftLaws.{IsLoggable}
use Rattle.jlog.specs.Forms.{AreLoggedForms, AreStoredForms}
use Rattle.jlog.specs.Headline.{is_flash_of, resume_address}
use Rattle.jlog.specs.HeadlineThrough.{state_through, IsBaseThrough, index_through, nodes_through, AreFormsOn, FormsSurvive}
use Rattle.jview.specs.Through.{MountsThroughAs}
use Rattle.jlog.specs.Through.{form_content, Expands}
use Rattle.jlog.proofs.HereLemmas.{Sure, none_weak, none_cut}
use Rattle.jlog.proofs.ImageLemmas.{block_size}
use Rattle.jlog.proofs.IntactLemmas.{intact_is_counted, all_is_intact}
use Rattle.jlog.proofs.LeftLemmas.{forms_have_room, stored_forms}
use Rattle.jlog.proofs.PackedLemmas.{AllCarry, forms_carry}
use Rattle.jlog.proofs.ThroughLemmas.{sure_expands}

-- ---- the limits, one by one

record Flash (size blocks : ℕ) (base : List ℕ) : Type 0 where
  size_is : IsTrue (is_block_size size)
  small : blocks * size ≤ greatest_image
  within : length base ≤ blocks * size

flash_of : (size blocks : ℕ) (base : List ℕ) → IsTrue (is_flash_of size blocks base) → Flash size blocks base
flash_of size blocks base ok =
    let both = and_parts (is_writable_flash size blocks) (nat_le (length base) (blocks * size)) ok in
    let last = and_parts (is_block_size size && nat_le 8192 size && nat_lt 0 blocks) (nat_le (blocks * size) greatest_image) both.0 in
    let some = and_parts (is_block_size size && nat_le 8192 size) (nat_lt 0 blocks) last.0 in
    let sizes = and_parts (is_block_size size) (nat_le 8192 size) some.0 in
    record { size_is = sizes.0; small = leb-true _ _ last.1; within = leb-true _ _ both.1 }

pub through_size : (e : Endian) (size blocks : ℕ) (base : List ℕ) → IsBaseThrough e size blocks base → IsTrue (is_block_size size)
through_size e size blocks base is = (flash_of size blocks base is.flash).size_is

-- ---- the expanded nodes of an image fit their widths

bytes_erased : (n : ℕ) → AreBytes (erased n)
bytes_erased zero i = omega arith
bytes_erased (suc n) zero = omega arith
bytes_erased (suc n) (suc i) = bytes_erased n i

bytes_append : (xs ys : List ℕ) → AreBytes xs → AreBytes ys → AreBytes (xs ++ ys)
bytes_append [] ys these those i = those i
bytes_append (x ∷ xs) ys these those zero = these 0
bytes_append (x ∷ xs) ys these those (suc i) = bytes_append xs ys (λ j. these (suc j)) those i

bytes_rest : (size addr : ℕ) (image : List ℕ) → AreBytes image → AreBytes (rest_at size image addr)
bytes_rest size addr image are =
    let k : ℕ = addr / size in
    bytes-drop (addr % size) (block_of size image k)
    (bytes-take size (drop (k * size) image ++ erased size) (bytes_append (drop (k * size) image) (erased size) (bytes-drop (k * size) image are) (bytes_erased size)))

mapped_some : {A B : Type 0} (f : A → B) (o : Option A) (y : B) → option_map f o ≡ Some y → (x : A) × (o ≡ Some x) × (f x ≡ y)
mapped_some f None y h = absurd (cc)
mapped_some f (Some x) y h = (x, refl, cc)

node_fits : (e : Endian) (size : ℕ) (image : List ℕ) (addr : ℕ) (s : Seen) (n : NodeRef) → IsTrue (is_block_size size) → AreBytes image
    → Contains (sightings e size image) (addr, s) → expanded_node e size image (addr, s) ≡ Some n → Fits n
node_fits e size image addr (seen.Entry entry) n size_is are has is =
    let same : node.Entry entry ≡ n = cc in
    subst Fits same
    (nodes_fit e size image (addr, node.Entry entry) size_is are
    (Contains-filter_map node_sighted (sightings e size image) (addr, seen.Entry entry) (addr, node.Entry entry) has refl)).0
node_fits e size image addr (seen.Inode inode) n size_is are has is =
    let same : node.Inode inode ≡ n = cc in
    subst Fits same
    (nodes_fit e size image (addr, node.Inode inode) size_is are
    (Contains-filter_map node_sighted (sightings e size image) (addr, seen.Inode inode) (addr, node.Inode inode) has refl)).0
node_fits e size image addr (seen.Compressed compr) n size_is are has is =
    let packed : CompressedNode = compressed_node_at e size image addr in
    let given = mapped_some (with_content packed) (node_content packed) n is in
    let rest : List ℕ = rest_at size image addr in
    subst Fits given.2 (inode_fits e (tile_of e rest) (Data given.0) (bytes-take _ rest (bytes_rest size addr image are)))
node_fits e size image addr seen.Marker n size_is are has is = absurd (cc)
node_fits e size image addr seen.Padding n size_is are has is = absurd (cc)
node_fits e size image addr seen.Obsolete n size_is are has is = absurd (cc)
node_fits e size image addr seen.Attribute n size_is are has is = absurd (cc)
node_fits e size image addr (seen.Skippable t) n size_is are has is = absurd (cc)
node_fits e size image addr (seen.ReadOnly t) n size_is are has is = absurd (cc)
node_fits e size image addr (seen.Incompatible t) n size_is are has is = absurd (cc)
node_fits e size image addr (seen.Damaged q) n size_is are has is = absurd (cc)

pub all_fit_through : (e : Endian) (size : ℕ) (base : List ℕ) → IsTrue (is_block_size size) → AreBytes base → AllFit (expanded_nodes e size base)
all_fit_through e size base size_is are x has =
    let it = Contains-filter_map_from (expanded_node e size base) (sightings e size base) x has in
    node_fits e size base it.0.0 it.0.1 x size_is are it.1 it.2

-- ---- planned nodes may be logged where a page and its header have room in a block

planned_loggable : (page : ℕ) (e : Endian) (size : ℕ) (xs : List NodeRef) → IsPage page → page + 80 ≤ size → AllByRecursion (IsPlanned page e) xs → AllByRecursion (IsLoggable e size) xs
planned_loggable page e size [] is_page room planned = tt
planned_loggable page e size (x ∷ xs) is_page room planned = (
  record {
    fits = planned.0.fits;
    writable = planned.0.writable;
    plain = (omega (arith, planned.0.within, is_page.most), planned.0.plain);
    room = omega (arith, planned.0.within, room);
  },
  planned_loggable page e size xs is_page room planned.1,
)

-- ---- contents of the first forms are no more than those of all

fewer_contents : (f : List ℕ → List ℕ) (m : ℕ) (forms : List (List ℕ)) → length (flat_map f (take m forms)) ≤ length (flat_map f forms)
fewer_contents f zero forms = omega arith
fewer_contents f (suc m) [] = omega arith
fewer_contents f (suc m) (x ∷ xs) = omega (arith, length-append (f x) (flat_map f (take m xs)), length-append (f x) (flat_map f xs), fewer_contents f m xs)

-- ---- a stop that cuts none of the first forms, where none of the others is weak

-- the base, and forms on it
pub record Goes (page : ℕ) (e : Endian) (size blocks : ℕ) (base : List ℕ) (steps : List Step) (forms : List (List ℕ)) : Type 0 where
  pub is_base : IsBaseThrough e size blocks base
  pub on : AreFormsOn e size blocks base steps forms
  pub go : GoesOn page (expanded_nodes e size base) steps
  pub carry : AllCarry e size (nodes_through e size base steps) forms

logged : (page : ℕ) (e : Endian) (size blocks : ℕ) (base : List ℕ) (steps : List Step) (forms : List (List ℕ)) → Goes page e size blocks base steps forms
    → AreLoggedForms e size blocks base (blank_from e size base blocks) forms
logged page e size blocks base steps forms it =
    let flash = flash_of size blocks base it.is_base.flash in
    record {
      size_is = flash.size_is;
      no_longer = flash.within;
      blank = (blank_from_is_least e size base blocks).blank;
      each = it.carry.loggable;
      room = it.on.fits;
    }

-- what has the nodes of the base and those of the first forms mounts through as the file system after as many steps
mounts_after : (page : ℕ) (e : Endian) (size blocks m : ℕ) (base image : List ℕ) (steps : List Step) (forms : List (List ℕ)) → Goes page e size blocks base steps forms
    → length image ≤ blocks * size → Expands e size base image (take m forms)
    → MountsThroughAs e size image (after bytes (state_through e size base) (take m steps))
mounts_after page e size blocks m base image steps forms it within has =
    let flash = flash_of size blocks base it.is_base.flash in
    let ns : List NodeRef = expanded_nodes e size base in
    let new : List NodeRef = nodes_through e size base steps in
    let sound = it.is_base.mounts.sound in
    let are : expanded_nodes e size image ≡ ns ++ take m new = has.nodes ∙ ap (λ (l : List NodeRef). ns ++ l) (it.carry.gives m) in
    let same : state_of (expanded_nodes e size image) ≡ after bytes (state_of ns) (take m steps) = ap state_of are ∙ it.go.states m in
    let sum : length (unpacked_bytes e size image) ≡ length (unpacked_bytes e size base) + length (flat_map (form_content e) (take m forms)) =
    ap length has.contents ∙ length-append (unpacked_bytes e size base) (flat_map (form_content e) (take m forms)) in
    record {
      sound = record {
        scannable = (flash.size_is, omega (arith, within, flash.small));
        none = has.fault ∙ sound.none;
        contents = omega (arith, sum, fewer_contents (form_content e) m forms, it.on.contents);
        apart = subst NoneClash (sym are) (it.go.apart sound.apart m);
      };
      root = subst (λ (s : State). IsTrue (is_directory s 1)) (sym same) (it.go.roots m);
      same = same;
    }

pub sure_mounts_through : (page : ℕ) (e : Endian) (size blocks k : ℕ) (base image : List ℕ) (steps : List Step) (forms : List (List ℕ)) → Goes page e size blocks base steps forms
    → Sure e size (resume_address e size blocks base) k forms
    → let from = resume_address e size blocks base in
    let out = output e size from forms in
    IsLeft e size blocks base from out k image
    → MountsThroughAs e size image (after bytes (state_through e size base) (take (count_whole from out k (places size from forms)) steps))
sure_mounts_through page e size blocks k base image steps forms it sure left =
    let block : ℕ = blank_from e size base blocks in
    let from : ℕ = block * size in
    let out : List ℕ = output e size from forms in
    let n : ℕ = count_whole from out k (places size from forms) in
    let stored : AreStoredForms e size blocks base block forms = stored_forms e size blocks base block forms (logged page e size blocks base steps forms it) in
    let count : intact size from k forms ≡ n = sym (intact_is_counted e size from k forms (block_size size stored.size_is).words (forms_have_room e size forms stored.each)) in
    mounts_after page e size blocks n base image steps forms it left.no_longer
    (subst (λ (i : ℕ). Expands e size base image (take i forms)) count (sure_expands e size blocks block k base image forms stored it.carry.read sure left))

whole_mounts_through : (page : ℕ) (e : Endian) (size blocks : ℕ) (base image : List ℕ) (steps : List Step) (forms : List (List ℕ)) → Goes page e size blocks base steps forms
    → let from = resume_address e size blocks base in
    let out = output e size from forms in
    IsLeft e size blocks base from out (length out) image
    → MountsThroughAs e size image (after bytes (state_through e size base) steps)
whole_mounts_through page e size blocks base image steps forms it left =
    let block : ℕ = blank_from e size base blocks in
    let from : ℕ = block * size in
    let out : List ℕ = output e size from forms in
    let k : ℕ = length out in
    let m : ℕ = length forms + length steps in
    let stored : AreStoredForms e size blocks base block forms = stored_forms e size blocks base block forms (logged page e size blocks base steps forms it) in
    let count : intact size from k forms ≡ length forms = all_is_intact e size from k forms (block_size size stored.size_is).words (forms_have_room e size forms stored.each) (omega arith) in
    let all : take (intact size from k forms) forms ≡ take m forms = take_all (intact size from k forms) forms (omega (arith, count)) ∙ sym (take_all m forms (omega arith)) in
    let all_steps : take m steps ≡ steps = take_all m steps (omega arith) in
    subst (λ (l : List Step). MountsThroughAs e size image (after bytes (state_through e size base) l)) all_steps
    (mounts_after page e size blocks m base image steps forms it left.no_longer
    (subst (Expands e size base image) all (sure_expands e size blocks block k base image forms stored it.carry.read (none_cut e size from k forms (omega arith)) left)))

pub forms_goes : (page : ℕ) (e : Endian) (size blocks : ℕ) (base : List ℕ) (steps : List Step) (forms : List (List ℕ)) → IsPage page → page + 80 ≤ size → IsBaseThrough e size blocks base
    → AreFormsOn e size blocks base steps forms → GoesOn page (expanded_nodes e size base) steps → Goes page e size blocks base steps forms
forms_goes page e size blocks base steps forms is_page room is_base on go = record {
  is_base = is_base;
  on = on;
  go = go;
  carry = forms_carry e size (nodes_through e size base steps) forms (planned_loggable page e size (nodes_through e size base steps) is_page room (go.written e)) on.are;
}

pub forms_survive : FormsSurvive
forms_survive page e size blocks n base ops forms is_page room is_base are_bytes fit_ops accepted =
    let flash = flash_of size blocks base is_base.flash in
    let ns : List NodeRef = expanded_nodes e size base in
    let steps : List Step = steps_of_first page (index_through e size base) ops n in
    let from : ℕ = resume_address e size blocks base in
    let go : GoesOn page ns steps = planned_goes_on page ns ops n is_page (all_fit_through e size base flash.size_is are_bytes) is_base.mounts.root fit_ops in
    let it : Goes page e size blocks base steps forms = forms_goes page e size blocks base steps forms is_page room is_base accepted.forms_on go in
    record {
      cuts = λ none k image within left. sure_mounts_through page e size blocks k base image steps forms it (none_weak e size from k forms it.carry.loggable none) left;
      whole = λ image left. whole_mounts_through page e size blocks base image steps forms it left;
    }
