-- What is left in the blank blocks of an image.
use Rattle.std.proofs.Common.{◌≡◌, ℕ, ◌+◌, ◌*◌, ◌/◌, ◌<◌, ◌≤◌, Bool, true, false, List, [], ◌∷◌, ◌++◌, length, take, get_or, filter_map, refl, sym, ap, ap₂, subst, ◌∙◌, arith, None, Contains}
use Rattle.std.specs.Prelude.{flat_map, IsTrue, ◌||◌}
use Rattle.std.proofs.lemmas.Bool.{true≢false}
use Rattle.std.proofs.lemmas.List.{ext_get_or, take_all}
use Rattle.std.proofs.lemmas.List.Elements.{Contains-get_or}
use Rattle.std.proofs.lemmas.Nat.{div-mul-add}
use Rattle.flashbase.specs.Lists.{below}
use Rattle.flashbase.proofs.MemberLemmas.{Contains-here, Contains-there, Contains-filter_from}
use Rattle.jnode.specs.declared.node.NodeRef.{NodeRef}
use Rattle.jnode.specs.declared.order.Endian.{Endian}
use Rattle.jscan.specs.Blank.{is_blank, AreBlankFrom}
use Rattle.jscan.specs.Image.{is_block_size, block_of, sightings}
use Rattle.jscan.specs.Scans.{is_read_only}
use Rattle.jscan.proofs.PartLemmas.{block_length}
use Rattle.jexpand.specs.Expanded.{expanded_nodes, unpacked_bytes}
use Rattle.jexpand.proofs.SightedLemmas.{size_some, size_words}
use Rattle.jview.specs.Through.{first_fault}
use Rattle.jlog.specs.Places.{fit}
use Rattle.jlog.specs.Output.{output}
use Rattle.jlog.specs.Left.{IsLeft, intact}
use Rattle.jlog.specs.Forms.{AreStoredForms}
use Rattle.jlog.specs.Through.{form_node, form_content, Expands}
use Rattle.jlog.proofs.ByteLemmas.{block_byte}
use Rattle.jlog.proofs.HereLemmas.{Sure, none_weak, none_cut}
use Rattle.jlog.proofs.IntactLemmas.{all_is_intact}
use Rattle.jlog.proofs.LeftLemmas.{forms_have_room}
use Rattle.jlog.proofs.ThroughLemmas.{sure_expands}
use Rattle.jrow.specs.Merging.{Interleaves}
use Rattle.jrow.specs.MergedLaws.{OthersStay}
use Rattle.jrow.specs.Row.{blank_blocks, side_by_side}
use Rattle.jrow.specs.RowLeft.{IsLeftInRow, IsLeftOfForms, OtherBlocksStay, AreStoredInRow, ExpandsInRow, LeftInRowExpands, WholeInRowExpands}
use Rattle.jrow.proofs.BlankLemmas.{blank_untold}
use Rattle.jrow.proofs.BlockLemmas.{glimpses_of, row_glimpsed}
use Rattle.jrow.proofs.GlimpseLemmas.{block_glimpses, AreGlimpsed}
use Rattle.jrow.proofs.MergedLemmas.{none_of, row_is_merged}
use Rattle.jrow.proofs.SideLemmas.{side_long, side_block}

-- ---- what is not of the row stays

pub other_blocks_stay : OtherBlocksStay
other_blocks_stay e size blocks k b base row out image some left out_of =
    ext_get_or 0xFF (block_of size image b) (block_of size base b) (block_length size image b ∙ sym (block_length size base b)) (λ i inside.
    let small : i < size = omega (arith, inside, block_length size image b) in
    let which : (b * size + i) / size ≡ b = div-mul-add b size i small in
    block_byte size image b i small
    ∙ (left.stays (b * size + i) (λ has. out_of (subst (λ (d : ℕ). Contains row d) which has)) ∙ sym (block_byte size base b i small)))

others_stay : (e : Endian) (size blocks k : ℕ) (base out image : List ℕ) → 0 < size → IsLeftInRow e size blocks base (blank_blocks e size blocks base) out k image
    → OthersStay e size blocks base image
others_stay e size blocks k base out image some left b inside not =
    other_blocks_stay e size blocks k b base (blank_blocks e size blocks base) out image some left
    (λ has.
    let blank : is_blank e size (block_of size base b) ≡ true = (Contains-filter_from (λ c. is_blank e size (block_of size base c)) (below blocks) b has).1 in
    true≢false (sym blank ∙ not))

-- ---- the row of the base is blank

row_blank : (e : Endian) (size blocks : ℕ) (base : List ℕ) (b : ℕ) → Contains (blank_blocks e size blocks base) b → is_blank e size (block_of size base b) ≡ true
row_blank e size blocks base b has = (Contains-filter_from (λ c. is_blank e size (block_of size base c)) (below blocks) b has).1

blank_from_first : (e : Endian) (size blocks : ℕ) (base : List ℕ)
    → let row = blank_blocks e size blocks base in
    AreBlankFrom e size (side_by_side size row base) (length row) 0
blank_from_first e size blocks base =
    let row : List ℕ = blank_blocks e size blocks base in
    record {
      within = omega arith;
      blank = λ k low inside.
          ap (is_blank e size) (side_block size row base k inside) ∙ row_blank e size blocks base (get_or row k 0) (Contains-get_or row k 0 inside);
    }

none_for_each : {Y : Type 0} (f : ℕ → List Y) (bs : List ℕ) → ((b : ℕ) → Contains bs b → f b ≡ []) → flat_map f bs ≡ []
none_for_each f [] none = refl
none_for_each f (b ∷ bs) none =
    ap₂ (λ xs ys. xs ++ ys) (none b (Contains-here b bs)) (none_for_each f bs (λ c has. none c (Contains-there b bs c has)))

-- nothing is seen in it
record IsBare (e : Endian) (size : ℕ) (image : List ℕ) : Type 0 where
  nodes : expanded_nodes e size image ≡ []
  contents : unpacked_bytes e size image ≡ []
  none : first_fault e size image ≡ None
  read_only : is_read_only e size image ≡ false

row_bare : (e : Endian) (size blocks : ℕ) (base : List ℕ) → IsTrue (is_block_size size) → IsBare e size (side_by_side size (blank_blocks e size blocks base) base)
row_bare e size blocks base size_is =
    let row : List ℕ = blank_blocks e size blocks base in
    let flash : List ℕ = side_by_side size row base in
    let large : 12 ≤ size = omega (arith, size_some size size_is) in
    let empty : glimpses_of e size base row ≡ [] =
    none_for_each (λ b. block_glimpses e (block_of size base b)) row (λ b has. blank_untold e size (block_of size base b) large (row_blank e size blocks base b has)) in
    let it : AreGlimpsed e size flash (sightings e size flash) [] = subst (AreGlimpsed e size flash (sightings e size flash)) empty (row_glimpsed e size row base size_is) in
    record { nodes = it.nodes; contents = it.contents; none = none_of (first_fault e size flash) it.refused; read_only = it.bans }

-- ---- what the forms of the row add to the base

or_false : (b : Bool) → (b || false) ≡ b
or_false true = refl
or_false false = refl

added : (e : Endian) (size blocks k : ℕ) (base image : List ℕ) (forms kept : List (List ℕ)) → AreStoredInRow e size blocks base forms
    → IsLeftOfForms e size blocks base forms k image
    → let row = blank_blocks e size blocks base in
    Expands e size (side_by_side size row base) (side_by_side size row image) kept
    → ExpandsInRow e size base image kept
added e size blocks k base image forms kept stored left has =
    let some : 0 < size = omega (arith, size_some size stored.size_is) in
    let row : List ℕ = blank_blocks e size blocks base in
    let merged = row_is_merged e size blocks base image stored.size_is stored.no_longer left.no_longer
    (others_stay e size blocks k base (output e size 0 forms) image some left) in
    let bare = row_bare e size blocks base stored.size_is in
    let nodes : expanded_nodes e size (side_by_side size row image) ≡ filter_map (form_node e) kept =
    has.nodes ∙ ap (λ (l : List NodeRef). l ++ filter_map (form_node e) kept) bare.nodes in
    let contents : unpacked_bytes e size (side_by_side size row image) ≡ flat_map (form_content e) kept =
    has.contents ∙ ap (λ (l : List ℕ). l ++ flat_map (form_content e) kept) bare.contents in
    record {
      nodes = subst (λ (l : List NodeRef). Interleaves (expanded_nodes e size base) l (expanded_nodes e size image)) nodes merged.nodes;
      contents = merged.contents ∙ ap (λ (l : List ℕ). length (unpacked_bytes e size base) + length l) contents;
      none = λ none. merged.none none (has.fault ∙ bare.none);
      read_only = merged.read_only ∙ (ap (λ (b : Bool). is_read_only e size base || b) (has.read_only ∙ bare.read_only) ∙ or_false (is_read_only e size base));
    }

-- where none of the first forms is cut, and none of the others is weak
pub sure_in_row : (e : Endian) (size blocks k : ℕ) (base image : List ℕ) (forms : List (List ℕ)) → AreStoredInRow e size blocks base forms → Sure e size 0 k forms
    → IsLeftOfForms e size blocks base forms k image
    → ExpandsInRow e size base image (take (intact size 0 k forms) forms)
sure_in_row e size blocks k base image forms stored sure left =
    let row : List ℕ = blank_blocks e size blocks base in
    let blank : List ℕ = side_by_side size row base in
    let written : List ℕ = side_by_side size row image in
    let start : 0 ≡ 0 * size = omega arith in
    let forms_stored : AreStoredForms e size (length row) blank 0 forms = record {
      size_is = stored.size_is;
      no_longer = omega (arith, side_long size row base);
      blank = blank_from_first e size blocks base;
      each = stored.each;
      room = subst (λ (from : ℕ). IsTrue (fit size (length row) from forms)) start stored.room;
    } in
    let moved : Expands e size blank written (take (intact size (0 * size) k forms) forms) =
    sure_expands e size (length row) 0 k blank written forms forms_stored stored.read
    (subst (λ (from : ℕ). Sure e size from k forms) start sure)
    (subst (λ (from : ℕ). IsLeft e size (length row) blank from (output e size from forms) k written) start left.written) in
    added e size blocks k base image forms (take (intact size 0 k forms) forms) stored left
    (subst (λ (from : ℕ). Expands e size blank written (take (intact size from k forms) forms)) (sym start) moved)

pub left_in_row_expands : LeftInRowExpands
left_in_row_expands e size blocks k base image forms stored loggable none left =
    sure_in_row e size blocks k base image forms stored (none_weak e size 0 k forms loggable none) left

pub whole_in_row_expands : WholeInRowExpands
whole_in_row_expands e size blocks k base image forms stored all left =
    let count : intact size 0 k forms ≡ length forms = all_is_intact e size 0 k forms (size_words size stored.size_is) (forms_have_room e size forms stored.each) all in
    subst (ExpandsInRow e size base image) (take_all (intact size 0 k forms) forms (omega (arith, count)))
    (sure_in_row e size blocks k base image forms stored (none_cut e size 0 k forms all) left)
