-- What is left, seen through its compression: the base, and the forms that stand.
use Rattle.std.proofs.Common.{◌≡◌, ℕ, zero, suc, ◌+◌, ◌*◌, ◌/◌, ◌%◌, ◌<◌, ◌≤◌, Bool, true, false, List, [], ◌∷◌, ◌++◌, length, map, filter_map, take, drop, refl, sym, ap, ap₂, subst, ◌∙◌, arith, inl, inr, Option, None, Some, Contains}
use Rattle.std.specs.Prelude.{filter, IsTrue, ◌||◌}
use Rattle.std.specs.List.{AllByRecursion, cons_option, flat_map, list_any}
use Rattle.std.specs.Option.{option_or}
use Rattle.std.proofs.Math.Nat.{mul-le-mul_right}
use Rattle.std.proofs.lemmas.Bool.{cases_Bool, true≢false, false≢true}
use Rattle.std.proofs.lemmas.List.{ext_get_or, get_or-take, length-take, map-append, take-map, take_all}
use Rattle.std.proofs.lemmas.List.Elements.{filter_map-append}
use Rattle.std.proofs.lemmas.List.Folds.{list_any-append}
use Rattle.std.proofs.lemmas.Grind.{flat_map-append}
use Rattle.flashbase.proofs.MemberLemmas.{Contains-here, Contains-there, Contains-filter_from}
use Rattle.jnode.specs.Compressed.{compressed_of}
use Rattle.jnode.specs.Reading.{seen_of, tile_of}
use Rattle.jnode.specs.Weak.{is_sound, IsForm}
use Rattle.jnode.specs.Writing.{filled}
use Rattle.jnode.specs.declared.node.CompressedNode.{CompressedNode}
use Rattle.jnode.specs.declared.node.NodeRef.{NodeRef}
use Rattle.jnode.specs.declared.node.Seen.{Seen}
use Rattle.jnode.specs.declared.node.Seen.TheVariants as seen
use Rattle.jnode.specs.declared.order.Endian.{Endian}
use Rattle.jscan.specs.Image.{is_block_size, block_of, block_count, sightings}
use Rattle.jscan.specs.Scans.{forbids_writing, is_read_only}
use Rattle.jscan.specs.Blank.{AreBlankFrom}
use Rattle.jscan.proofs.BlockLemmas.{count_within}
use Rattle.jexpand.specs.Expanded.{compressed_node_at, expanded_node, tile_content}
use Rattle.jexpand.specs.declared.fault.ConvertFault.{ConvertFault}
use Rattle.jexpand.proofs.SightedLemmas.{sighted_at}
use Rattle.jlog.specs.Output.{output}
use Rattle.jlog.specs.Left.{IsLeft}
use Rattle.jlog.specs.LeftLaws.{tells}
use Rattle.jlog.specs.Forms.{IsStorableForm, AreStoredForms, placed_forms, intact_forms, form_sighted, StandsIn, HasForms}
use Rattle.jlog.specs.Places.{end_after}
use Rattle.jlog.specs.Left.{intact}
use Rattle.jview.specs.Through.{node_by, content_by, fault_by, through_fault_among, first_fault}
use Rattle.jlog.specs.Through.{form_node, form_content, IsReadForm, Expands}
use Rattle.jlog.proofs.ByteLemmas.{block_long, block_byte}
use Rattle.jnode.proofs.FormLemmas.{form_is_tile}
use Rattle.jlog.proofs.ImageLemmas.{below_same, told_image, block_size}
use Rattle.jlog.proofs.LeftLemmas.{base_stays, forms_have_room, told_of_base, left_has_forms, stored_forms}
use Rattle.jlog.proofs.HereLemmas.{Sure, none_cut, none_weak}
use Rattle.jlog.specs.ThroughLaws.{LeftExpands, WholeExpands, OutputExpands}
use Rattle.jlog.specs.Places.{end_of_all, fit}
use Rattle.jscan.proofs.BlankCalls.{blank_past}
use Rattle.jlog.proofs.ExistLemmas.{written_is_left}
use Rattle.jlog.proofs.IntactLemmas.{all_is_intact, output_is_long}
use Rattle.jlog.proofs.RoomLemmas.{end_is_within}

-- ---- sightings, each with the compressed node that would be at its address

abbrev Sight : Type 0
Sight = ℕ × Seen × CompressedNode

sight : Endian → ℕ → List ℕ → ℕ × Seen → Sight
sight e size image s = (s.0, s.1, compressed_node_at e size image s.0)

-- those that are told
abbrev sights : Endian → ℕ → List ℕ → List Sight
sights e size image = map (sight e size image) (filter tells (sightings e size image))

form_sight : Endian → ℕ × List ℕ → Sight
form_sight e placed = (placed.0, seen_of e (filled placed.1), compressed_of e (filled placed.1))

map_same : {A B : Type 0} (f g : A → B) (xs : List A) → ((x : A) → Contains xs x → f x ≡ g x) → map f xs ≡ map g xs
map_same f g [] same = refl
map_same {B = B} f g (x ∷ xs) same =
    ap₂ (λ (y : B) (ys : List B). y ∷ ys) (same x (Contains-here x xs)) (map_same f g xs (λ y has. same y (Contains-there x xs y has)))

-- ---- the base's are the same

front_block : (size block d : ℕ) (base : List ℕ) → d < block → block_of size (take (block * size) base) d ≡ block_of size base d
front_block size block d base less =
    let front : List ℕ = take (block * size) base in
    let next : (d + 1) * size ≤ block * size = mul-le-mul_right size (omega arith) in
    ext_get_or 0xFF (block_of size front d) (block_of size base d) (block_long size front d ∙ sym (block_long size base d)) (λ i inside.
    let small : i < size = omega (arith, inside, block_long size front d) in
    block_byte size front d i small ∙ (get_or-take (block * size) base (d * size + i) 0xFF (omega arith) ∙ sym (block_byte size base d i small)))

-- what is told of a base is in its blocks below those that are blank
told_before : (e : Endian) (size blocks block : ℕ) (base : List ℕ) (s : ℕ × Seen) → IsTrue (is_block_size size) → length base ≤ blocks * size → AreBlankFrom e size base blocks block
    → Contains (filter tells (sightings e size base)) s → s.0 / size < block
told_before e size blocks block base s size_is no_longer blank has =
    let limits = block_size size size_is in
    let some : 0 < size = omega (arith, limits.least) in
    let front : List ℕ = take (block * size) base in
    let within : length front ≤ block * size = omega (arith, length-take (block * size) base) in
    let same : filter tells (sightings e size base) ≡ filter tells (sightings e size front) =
    told_of_base e size blocks block base size_is no_longer blank
    ∙ (below_same e size (block_of size base) (block_of size front) block (λ d less. sym (front_block size block d base less))
    ∙ sym (told_image e size block front some within)) in
    let there : Contains (sightings e size front) s =
    (Contains-filter_from tells (sightings e size front) s (subst (λ (ss : List (ℕ × Seen)). Contains ss s) same has)).0 in
    let at = sighted_at e size front s.0 s.1 limits.words there in
    omega (arith, at.begins, count_within size block front some within)

base_sights : (e : Endian) (size blocks block k : ℕ) (base image out : List ℕ) → IsTrue (is_block_size size) → length base ≤ blocks * size → AreBlankFrom e size base blocks block
    → IsLeft e size blocks base (block * size) out k image
    → map (sight e size image) (filter tells (sightings e size base)) ≡ sights e size base
unfolding sight
base_sights e size blocks block k base image out size_is no_longer blank left =
    map_same (sight e size image) (sight e size base) (filter tells (sightings e size base)) (λ s has.
    let d : ℕ = s.0 / size in
    let before : d < block = told_before e size blocks block base s size_is no_longer blank has in
    let next : (d + 1) * size ≤ block * size = mul-le-mul_right size (omega arith) in
    let same : block_of size image d ≡ block_of size base d = base_stays e size blocks (block * size) k d base out image (omega arith) left in
    ap (λ (b : List ℕ). (let it : Sight = (s.0, s.1, compressed_of e (tile_of e (drop (s.0 % size) b))) in it)) same)

-- ---- those of the forms that stand are the forms'

form_there : (e : Endian) (size : ℕ) (image : List ℕ) (placed : ℕ × List ℕ) → IsForm e placed.1 → StandsIn size image placed
    → sight e size image (form_sighted e placed) ≡ form_sight e placed
unfolding sight form_sight
form_there e size image placed is stands =
    ap (λ (tile : List ℕ). (let it : Sight = (placed.0, seen_of e (filled placed.1), compressed_of e tile) in it))
    (ap (tile_of e) stands.1 ∙ (form_is_tile e placed.1 stands.0 is).tile)

form_sights : (e : Endian) (size : ℕ) (image : List ℕ) (kept : List (ℕ × List ℕ)) → AllByRecursion (λ (placed : ℕ × List ℕ). IsForm e placed.1) kept → AllByRecursion (StandsIn size image) kept
    → map (sight e size image) (map (form_sighted e) kept) ≡ map (form_sight e) kept
form_sights e size image [] are stand = refl
form_sights e size image (placed ∷ kept) are stand =
    ap₂ (λ (s : Sight) (ss : List Sight). s ∷ ss) (form_there e size image placed are.0 stand.0) (form_sights e size image kept are.1 stand.1)

first_all : {A : Type 0} (P : A → Type 0) (n : ℕ) (xs : List A) → AllByRecursion P xs → AllByRecursion P (take n xs)
first_all P zero xs all = tt
first_all P (suc n) [] all = tt
first_all P (suc n) (x ∷ xs) all = (all.0, first_all P n xs all.1)

placed_are : (e : Endian) (size from : ℕ) (forms : List (List ℕ)) → AllByRecursion (IsStorableForm e size) forms → AllByRecursion (λ (placed : ℕ × List ℕ). IsForm e placed.1) (placed_forms size from forms)
placed_are e size from [] ok = tt
placed_are e size from (x ∷ xs) ok = (ok.0.is, placed_are e size (end_after size from (length x)) xs ok.1)

sights_are : (e : Endian) (size blocks block k : ℕ) (base image out : List ℕ) (kept : List (ℕ × List ℕ)) → IsTrue (is_block_size size) → length base ≤ blocks * size → AreBlankFrom e size base blocks block
    → IsLeft e size blocks base (block * size) out k image → AllByRecursion (λ (placed : ℕ × List ℕ). IsForm e placed.1) kept → HasForms e size base image kept
    → sights e size image ≡ sights e size base ++ map (form_sight e) kept
sights_are e size blocks block k base image out kept size_is no_longer blank left are has =
    ap (map (sight e size image)) has.sighted
    ∙ (map-append (sight e size image) (filter tells (sightings e size base)) (map (form_sighted e) kept)
    ∙ ap₂ (λ (xs ys : List Sight). xs ++ ys) (base_sights e size blocks block k base image out size_is no_longer blank left) (form_sights e size image kept are has.stand))

-- ---- what is seen of an image is seen of what is told

abbrev node_seen : Sight → Option NodeRef
node_seen t = node_by t.2 t.1

abbrev content_seen : Sight → List ℕ
content_seen t = content_by t.2 t.1

abbrev fault_seen : ℕ → Sight → Option ConvertFault
fault_seen size t = fault_by size t.0 t.2 t.1

faults_seen : ℕ → List Sight → Option ConvertFault
faults_seen size [] = None
faults_seen size (t ∷ ts) = option_or (fault_seen size t) (faults_seen size ts)

bans_seen : List Sight → Bool
bans_seen ts = list_any (λ t. forbids_writing t.1) ts

node_is : (e : Endian) (size : ℕ) (image : List ℕ) (s : ℕ × Seen) → expanded_node e size image s ≡ node_by (compressed_node_at e size image s.0) s.1
node_is e size image (addr, seen.Entry entry) = refl
node_is e size image (addr, seen.Inode inode) = refl
node_is e size image (addr, seen.Compressed compr) = refl
node_is e size image (addr, _) = refl

content_is : (e : Endian) (size : ℕ) (image : List ℕ) (s : ℕ × Seen) → tile_content e size image s ≡ content_by (compressed_node_at e size image s.0) s.1
content_is e size image (addr, seen.Compressed compr) = refl
content_is e size image (addr, _) = refl

-- what is not told gives nothing
record IsNothing (size addr : ℕ) (packed : CompressedNode) (s : Seen) : Type 0 where
  node : node_by packed s ≡ None
  content : content_by packed s ≡ []
  fault : fault_by size addr packed s ≡ None
  ban : forbids_writing s ≡ false

nothing : (size addr : ℕ) (packed : CompressedNode) (s : Seen) → tells (addr, s) ≡ false → IsNothing size addr packed s
nothing size addr packed seen.Marker none = record { node = refl; content = refl; fault = refl; ban = refl }
nothing size addr packed (seen.Damaged which) none = record { node = refl; content = refl; fault = refl; ban = refl }
nothing size addr packed _ none = absurd (true≢false none)

record AreSeen (e : Endian) (size : ℕ) (image : List ℕ) (ss : List (ℕ × Seen)) (ts : List Sight) : Type 0 where
  nodes : filter_map (expanded_node e size image) ss ≡ filter_map node_seen ts
  contents : flat_map (tile_content e size image) ss ≡ flat_map content_seen ts
  fault : through_fault_among e size image ss ≡ faults_seen size ts
  bans : list_any (λ s. forbids_writing s.1) ss ≡ bans_seen ts

all_seen : (e : Endian) (size : ℕ) (image : List ℕ) (ss : List (ℕ × Seen)) → AreSeen e size image ss (map (sight e size image) (filter tells ss))
unfolding sight faults_seen bans_seen
all_seen e size image [] = record { nodes = refl; contents = refl; fault = refl; bans = refl }
all_seen e size image (s ∷ ss) =
    let packed : CompressedNode = compressed_node_at e size image s.0 in
    let rest = all_seen e size image ss in
    elim (cases_Bool (tells s)) [
      | inl told ↦ rw told (record {
        nodes = ap₂ (λ (o : Option NodeRef) (l : List NodeRef). cons_option o l) (node_is e size image s) rest.nodes;
        contents = ap₂ (λ (xs ys : List ℕ). xs ++ ys) (content_is e size image s) rest.contents;
        fault = ap (option_or (fault_by size s.0 packed s.1)) rest.fault;
        bans = ap (λ (b : Bool). forbids_writing s.1 || b) rest.bans;
      })
      | inr none ↦
          let no = nothing size s.0 packed s.1 none in
          rw none (record {
            nodes = ap₂ (λ (o : Option NodeRef) (l : List NodeRef). cons_option o l) (node_is e size image s ∙ no.node) rest.nodes;
            contents = ap₂ (λ (xs ys : List ℕ). xs ++ ys) (content_is e size image s ∙ no.content) rest.contents;
            fault = ap₂ (λ (o p : Option ConvertFault). option_or o p) no.fault rest.fault;
            bans = ap₂ (λ (a b : Bool). a || b) no.ban rest.bans;
          })
    ]

-- ---- of the forms

form_nodes : (e : Endian) (kept : List (ℕ × List ℕ)) → filter_map node_seen (map (form_sight e) kept) ≡ filter_map (form_node e) (map (λ n. n.1) kept)
unfolding form_sight
form_nodes e [] = refl
form_nodes e (placed ∷ kept) = ap (cons_option (form_node e placed.1)) (form_nodes e kept)

form_contents : (e : Endian) (kept : List (ℕ × List ℕ)) → flat_map content_seen (map (form_sight e) kept) ≡ flat_map (form_content e) (map (λ n. n.1) kept)
unfolding form_sight
form_contents e [] = refl
form_contents e (placed ∷ kept) = ap (λ (xs : List ℕ). form_content e placed.1 ++ xs) (form_contents e kept)

form_faults : (e : Endian) (size : ℕ) (kept : List (ℕ × List ℕ)) → AllByRecursion (IsReadForm e size) (map (λ n. n.1) kept) → faults_seen size (map (form_sight e) kept) ≡ None
unfolding form_sight faults_seen
form_faults e size [] read = refl
form_faults e size (placed ∷ kept) read = ap₂ (λ (o p : Option ConvertFault). option_or o p) (read.0 placed.0) (form_faults e size kept read.1)

sound_writes : (s : Seen) → is_sound s ≡ true → forbids_writing s ≡ false
sound_writes (seen.Entry entry) sound = refl
sound_writes (seen.Inode inode) sound = refl
sound_writes (seen.Compressed compr) sound = refl
sound_writes _ sound = absurd (false≢true sound)

form_bans : (e : Endian) (kept : List (ℕ × List ℕ)) → AllByRecursion (λ (placed : ℕ × List ℕ). IsForm e placed.1) kept → bans_seen (map (form_sight e) kept) ≡ false
unfolding form_sight bans_seen
form_bans e [] are = refl
form_bans e (placed ∷ kept) are = ap₂ (λ (a b : Bool). a || b) (sound_writes (seen_of e (filled placed.1)) are.0.sound) (form_bans e kept are.1)

-- ---- the whole

or_none : (o : Option ConvertFault) → option_or o None ≡ o
or_none None = refl
or_none (Some f) = refl

or_assoc : (a b c : Option ConvertFault) → option_or (option_or a b) c ≡ option_or a (option_or b c)
or_assoc None b c = refl
or_assoc (Some f) b c = refl

or_false : (b : Bool) → (b || false) ≡ b
or_false true = refl
or_false false = refl

faults-append : (size : ℕ) (xs ys : List Sight) → faults_seen size (xs ++ ys) ≡ option_or (faults_seen size xs) (faults_seen size ys)
unfolding faults_seen
faults-append size [] ys = refl
faults-append size (x ∷ xs) ys =
    ap (option_or (fault_seen size x)) (faults-append size xs ys) ∙ sym (or_assoc (fault_seen size x) (faults_seen size xs) (faults_seen size ys))

expands : (e : Endian) (size : ℕ) (base image : List ℕ) (kept : List (ℕ × List ℕ)) → AllByRecursion (λ (placed : ℕ × List ℕ). IsForm e placed.1) kept
    → AllByRecursion (IsReadForm e size) (map (λ n. n.1) kept) → sights e size image ≡ sights e size base ++ map (form_sight e) kept
    → Expands e size base image (map (λ n. n.1) kept)
unfolding bans_seen
expands e size base image kept are read same =
    let new : List Sight = map (form_sight e) kept in
    let old : List Sight = sights e size base in
    let all = all_seen e size image (sightings e size image) in
    let was = all_seen e size base (sightings e size base) in
    record {
      nodes = all.nodes ∙ (ap (filter_map node_seen) same ∙ (filter_map-append node_seen old new
          ∙ ap₂ (λ (xs ys : List NodeRef). xs ++ ys) (sym was.nodes) (form_nodes e kept)));
      contents = all.contents ∙ (ap (flat_map content_seen) same ∙ (flat_map-append content_seen old new
          ∙ ap₂ (λ (xs ys : List ℕ). xs ++ ys) (sym was.contents) (form_contents e kept)));
      fault = all.fault ∙ (ap (faults_seen size) same ∙ (faults-append size old new
          ∙ (ap₂ (λ (o p : Option ConvertFault). option_or o p) (sym was.fault) (form_faults e size kept read) ∙ or_none (first_fault e size base))));
      read_only = all.bans ∙ (ap bans_seen same ∙ (list_any-append (λ (t : Sight). forbids_writing t.1) old new
          ∙ (ap₂ (λ (a b : Bool). a || b) (sym was.bans) (form_bans e kept are) ∙ or_false (is_read_only e size base))));
    }

-- ---- the laws

placed_forms_are : (size from : ℕ) (forms : List (List ℕ)) → map (λ n. n.1) (placed_forms size from forms) ≡ forms
placed_forms_are size from [] = refl
placed_forms_are size from (x ∷ xs) = ap (λ (l : List (List ℕ)). x ∷ l) (placed_forms_are size (end_after size from (length x)) xs)

intact_are : (size block k : ℕ) (forms : List (List ℕ)) → map (λ n. n.1) (intact_forms size block forms k) ≡ take (intact size (block * size) k forms) forms
intact_are size block k forms =
    let n : ℕ = intact size (block * size) k forms in
    sym (take-map (λ (p : ℕ × List ℕ). p.1) n (placed_forms size (block * size) forms)) ∙ ap (take n) (placed_forms_are size (block * size) forms)

-- where none of the first forms is cut, and none of the others is weak
pub sure_expands : (e : Endian) (size blocks block k : ℕ) (base image : List ℕ) (forms : List (List ℕ)) → AreStoredForms e size blocks base block forms → AllByRecursion (IsReadForm e size) forms
    → Sure e size (block * size) k forms
    → IsLeft e size blocks base (block * size) (output e size (block * size) forms) k image
    → Expands e size base image (take (intact size (block * size) k forms) forms)
sure_expands e size blocks block k base image forms stored read sure left =
    let n : ℕ = intact size (block * size) k forms in
    let kept : List (ℕ × List ℕ) = intact_forms size block forms k in
    let are : AllByRecursion (λ (placed : ℕ × List ℕ). IsForm e placed.1) kept =
    first_all (λ (placed : ℕ × List ℕ). IsForm e placed.1) n (placed_forms size (block * size) forms) (placed_are e size (block * size) forms stored.each) in
    let same : map (λ n. n.1) kept ≡ take n forms = intact_are size block k forms in
    let reads : AllByRecursion (IsReadForm e size) (map (λ n. n.1) kept) =
    subst (AllByRecursion (IsReadForm e size)) (sym same) (first_all (IsReadForm e size) n forms read) in
    subst (Expands e size base image) same
    (expands e size base image kept are reads
    (sights_are e size blocks block k base image (output e size (block * size) forms) kept stored.size_is stored.no_longer stored.blank left are
    (left_has_forms e size blocks block k base image forms stored sure left)))

pub left_expands : LeftExpands
left_expands e size blocks block k base image forms logged read none left =
    sure_expands e size blocks block k base image forms (stored_forms e size blocks base block forms logged) read (none_weak e size (block * size) k forms logged.each none) left

pub whole_expands : WholeExpands
whole_expands e size blocks block k base image forms stored read all left =
    let count : intact size (block * size) k forms ≡ length forms =
    all_is_intact e size (block * size) k forms (block_size size stored.size_is).words (forms_have_room e size forms stored.each) all in
    subst (Expands e size base image) (take_all (intact size (block * size) k forms) forms (omega (arith, count)))
    (sure_expands e size blocks block k base image forms stored read (none_cut e size (block * size) k forms all) left)

pub output_expands : OutputExpands
output_expands e size blocks forms size_is ok read room =
    let limits = block_size size size_is in
    let some : 0 < size = omega (arith, limits.least) in
    let image : List ℕ = output e size 0 forms in
    let start : 0 ≡ 0 * size = omega arith in
    let roomy = forms_have_room e size forms ok in
    let long : 0 + length image ≡ end_of_all size 0 forms = output_is_long e size 0 forms limits.words roomy in
    let ends : end_of_all size 0 forms ≤ blocks * size = (end_is_within size blocks 0 forms limits.words roomy refl (omega arith) room).0 in
    let whole : IsLeft e size blocks [] 0 image (length image) image =
    subst (λ (i : List ℕ). IsLeft e size blocks [] 0 image (length image) i) (take_all (length image) image (omega arith))
    (written_is_left e size blocks 0 (length image) [] image (omega (arith, long, ends))) in
    let none : block_count size [] ≡ 0 = let most : block_count size [] ≤ 0 = count_within size 0 [] some (omega arith) in omega (arith, most) in
    let stored : AreStoredForms e size blocks [] 0 forms = record {
      size_is = size_is;
      no_longer = omega arith;
      blank = subst (λ (b : ℕ). AreBlankFrom e size [] blocks b) none (blank_past e size [] blocks some (omega arith));
      each = ok;
      room = subst (λ (from : ℕ). IsTrue (fit size blocks from forms)) start room;
    } in
    whole_expands e size blocks 0 (length image) [] image forms stored read
    (subst (λ (from : ℕ). length (output e size from forms) ≤ length image) start (omega arith))
    (subst (λ (from : ℕ). IsLeft e size blocks [] from (output e size from forms) (length image) image) start whole)
