-- What is left of a write to a row of openings: the base, and the forms that are whole.
use Rattle.std.proofs.Common.{◌≡◌, ℕ, ◌+◌, ◌-◌, ◌%◌, ◌≤◌, Bool, true, false, List, [], ◌∷◌, ◌++◌, length, map, filter_map, take, drop, refl, sym, ap, ap₂, subst, ◌∙◌, arith, Option, None, is_some, Contains, length-append}
use Rattle.std.specs.Prelude.{flat_map, IsTrue, ◌||◌}
use Rattle.std.specs.List.{AllByRecursion, cons_option, list_any}
use Rattle.std.proofs.lemmas.Bool.{false≢true}
use Rattle.std.proofs.lemmas.List.{take_all, map-append}
use Rattle.jnode.specs.Laws.{IsPlain}
use Rattle.jnode.specs.Reading.{seen_of}
use Rattle.jnode.specs.Weak.{is_sound, IsLeastWeak}
use Rattle.jnode.specs.Writing.{filled}
use Rattle.jnode.specs.declared.node.NodeRef.{NodeRef}
use Rattle.jnode.specs.declared.node.Seen.{Seen}
use Rattle.jnode.specs.declared.node.Seen.TheVariants as seen
use Rattle.jnode.specs.declared.order.Endian.{Endian}
use Rattle.jscan.specs.Image.{is_block_size, block_of}
use Rattle.jscan.specs.Scans.{forbids_writing, is_read_only}
use Rattle.jscan.proofs.PartLemmas.{block_length}
use Rattle.jexpand.specs.Expanded.{expanded_nodes}
use Rattle.jexpand.specs.declared.fault.ConvertFault.{ConvertFault}
use Rattle.jview.specs.Through.{first_fault}
use Rattle.jlog.specs.Output.{output}
use Rattle.jlog.specs.Left.{intact}
use Rattle.jlog.specs.Forms.{IsStorableForm}
use Rattle.jlog.specs.Through.{form_node, form_content, IsReadForm}
use Rattle.jlog.proofs.HereLemmas.{CutsSeen, Sure, cuts_seen, none_cut}
use Rattle.jlog.proofs.ImageLemmas.{block_size}
use Rattle.jrow.specs.Merging.{Interleaves}
use Rattle.jrow.specs.RowLeft.{ExpandsInRow}
use Rattle.jrow.proofs.GlimpseLemmas.{Glimpse, node_glimpsed, content_glimpsed, is_refused, is_ban}
use Rattle.jrow.proofs.MergedLemmas.{none_of}
use Rattle.jrow.proofs.MergeLemmas.{merged_taken, merged_length, merged_any}
use Rattle.jrests.specs.Left.{SharesAreLeft, IsLeftOfShares, kept_in_shares, whole_in_shares, all_bytes}
use Rattle.jrests.specs.LeftLaws.{AreStoredInOpenings, LeftInOpenings, WholeInOpenings}
use Rattle.jrests.specs.Openings.{AreUpwards, IsOpeningOf}
use Rattle.jrests.specs.Shares.{taken_from, Share, shares, output_to}
use Rattle.jrests.specs.declared.opening.Opening.{Opening}
use Rattle.jrests.proofs.MixLemmas.{AreAdded, AreNewUp, News, fine_in, image_fine, mixed}
use Rattle.jrests.proofs.RunLemmas.{run}
use Rattle.jrests.proofs.OpenedLemmas.{fine_glimpses, form_glimpse, opened}
use Rattle.jlog.proofs.IntactLemmas.{intact_is_counted, all_is_intact}
use Rattle.jrests.proofs.ShareLemmas.{AllRoomy, all_behind, all_first, kept_are_first, shares_hold_all, shares_roomy, taken_fits}

-- ---- none of the first forms is cut, and a cut of each of the others is seen

unfoldable pub AllSure : Endian → ℕ → List Share → ℕ → Type 0
AllSure e size [] k = Unit {0}
AllSure e size (s ∷ more) k = Sure e size s.0.place k s.1 × AllSure e size more (k - length (output_to e size s))

cuts_sure : (e : Endian) (size place k : ℕ) (forms : List (List ℕ)) → CutsSeen e forms → Sure e size place k forms
cuts_sure e size place k forms seen = record { first = []; rest = forms; both = refl; uncut = omega arith; seen = seen }

pub all_seen_sure : (e : Endian) (size k : ℕ) (row : List Opening) (forms : List (List ℕ)) → CutsSeen e forms → AllSure e size (shares size row forms) k
unfolding AllSure
all_seen_sure e size k [] forms seen = tt
all_seen_sure e size k (o ∷ row) forms seen =
    let n : ℕ = taken_from size o.place forms in (
      cuts_sure e size o.place k (take n forms) (all_first (λ x. IsPlain (length x) × IsLeastWeak e x None) n forms seen),
      all_seen_sure e size (k - length (output e size o.place (take n forms))) row (drop n forms) (all_behind (λ x. IsPlain (length x) × IsLeastWeak e x None) n forms seen),
    )

none_cut_sure : (e : Endian) (size k : ℕ) (shares : List Share) → all_bytes e size shares ≤ k → AllSure e size shares k
unfolding AllSure
none_cut_sure e size k [] all = tt
none_cut_sure e size k (s ∷ more) all =
    (none_cut e size s.0.place k s.1 (omega (arith, all)), none_cut_sure e size (k - length (output_to e size s)) more (omega (arith, all)))

-- ---- what came to each block

news_of : Endian → ℕ → List Share → ℕ → News
news_of e size [] k = []
news_of e size (s ∷ more) k =
    (s.0.block, map (form_glimpse e) (take (intact size s.0.place k s.1) s.1)) ∷ news_of e size more (k - length (output_to e size s))

news_are : (e : Endian) (size k : ℕ) (shares : List Share) → flat_map (λ x. x.1) (news_of e size shares k) ≡ map (form_glimpse e) (kept_in_shares e size shares k)
unfolding news_of
news_are e size k [] = refl
news_are e size k (s ∷ more) =
    let front : List (List ℕ) = take (intact size s.0.place k s.1) s.1 in
    let left : ℕ = k - length (output_to e size s) in
    ap (λ (gs : List Glimpse). map (form_glimpse e) front ++ gs) (news_are e size left more) ∙ sym (map-append (form_glimpse e) front (kept_in_shares e size more left))

news_blocks : (e : Endian) (size k : ℕ) (shares : List Share) → map (λ x. x.0) (news_of e size shares k) ≡ map (λ share. share.0.block) shares
unfolding news_of
news_blocks e size k [] = refl
news_blocks e size k (s ∷ more) = ap (λ (l : List ℕ). s.0.block ∷ l) (news_blocks e size (k - length (output_to e size s)) more)

news_up : (e : Endian) (size lo blocks k : ℕ) (row : List Opening) (forms : List (List ℕ)) → AreUpwards lo blocks row → AreNewUp lo blocks (news_of e size (shares size row forms) k)
unfolding news_of
news_up e size lo blocks k [] forms up = tt
news_up e size lo blocks k (o ∷ row) forms up =
    let n : ℕ = taken_from size o.place forms in
    (up.0, up.1, news_up e size (o.block + 1) blocks (k - length (output e size o.place (take n forms))) row (drop n forms) up.2)

news_added : (e : Endian) (size k : ℕ) (base image : List ℕ) (row : List Opening) (forms : List (List ℕ)) → IsTrue (is_block_size size) → AllByRecursion (IsOpeningOf e size base) row
    → AllByRecursion (IsStorableForm e size) forms → AllSure e size (shares size row forms) k → SharesAreLeft e size base (shares size row forms) k image
    → AreAdded (fine_in e size base) (fine_in e size image) (news_of e size (shares size row forms) k)
unfolding news_of AllSure
news_added e size k base image [] forms size_is opens ok sure left = tt
news_added e size k base image (o ∷ row) forms size_is opens ok sure left =
    let n : ℕ = taken_from size o.place forms in (
      opened e size o.place k (block_of size base o.block) (block_of size image o.block) (take n forms) size_is (block_length size base o.block) (block_length size image o.block) opens.0
          (all_first (IsStorableForm e size) n forms ok) (taken_fits size o.place forms) sure.0 left.0,
      news_added e size (k - length (output e size o.place (take n forms))) base image row (drop n forms) size_is opens.1 (all_behind (IsStorableForm e size) n forms ok) sure.1 left.1,
    )

-- ---- what forms give

forms_give : (e : Endian) (forms : List (List ℕ)) → filter_map node_glimpsed (map (form_glimpse e) forms) ≡ filter_map (form_node e) forms
forms_give e [] = refl
forms_give e (x ∷ xs) = ap (cons_option (form_node e x)) (forms_give e xs)

forms_hold : (e : Endian) (forms : List (List ℕ)) → flat_map content_glimpsed (map (form_glimpse e) forms) ≡ flat_map (form_content e) forms
forms_hold e [] = refl
forms_hold e (x ∷ xs) = ap (λ (l : List ℕ). form_content e x ++ l) (forms_hold e xs)

forms_read : (e : Endian) (size : ℕ) (forms : List (List ℕ)) → AllByRecursion (IsReadForm e size) forms → list_any (is_refused size) (map (form_glimpse e) forms) ≡ false
forms_read e size [] read = refl
forms_read e size (x ∷ xs) read = ap₂ (λ (o : Option ConvertFault) (b : Bool). is_some o || b) (read.0 0) (forms_read e size xs read.1)

sound_writes : (s : Seen) → is_sound s ≡ true → forbids_writing s ≡ false
sound_writes (seen.Entry entry) sound = refl
sound_writes (seen.Inode inode) sound = refl
sound_writes (seen.Compressed compr) sound = refl
sound_writes _ sound = absurd (false≢true sound)

forms_write : (e : Endian) (size : ℕ) (forms : List (List ℕ)) → AllByRecursion (IsStorableForm e size) forms → list_any is_ban (map (form_glimpse e) forms) ≡ false
forms_write e size [] ok = refl
forms_write e size (x ∷ xs) ok = ap₂ (λ (a b : Bool). a || b) (sound_writes (seen_of e (filled x)) ok.0.is.sound) (forms_write e size xs ok.1)

-- ---- the whole

or_false : (b : Bool) → (b || false) ≡ b
or_false true = refl
or_false false = refl

pub sure_stands : (e : Endian) (size blocks k : ℕ) (base image : List ℕ) (row : List Opening) (forms : List (List ℕ)) → AreStoredInOpenings e size blocks base row forms
    → AllSure e size (shares size row forms) k → IsLeftOfShares e size blocks base (shares size row forms) k image
    → ExpandsInRow e size base image (take (whole_in_shares e size (shares size row forms) k) forms)
sure_stands e size blocks k base image row forms stored sure left =
    let all : List Share = shares size row forms in
    let n : ℕ = whole_in_shares e size all k in
    let kept : List (List ℕ) = take n forms in
    let words = (block_size size stored.size_is).words in
    let kept_is : kept_in_shares e size all k ≡ kept =
    kept_are_first e size k all words (shares_roomy e size row forms stored.each) ∙ ap (take n) (shares_hold_all size row forms stored.room) in
    let news : News = news_of e size all k in
    let was : List Glimpse = flat_map (fine_in e size base) (run 0 blocks) in
    let now : List Glimpse = flat_map (fine_in e size image) (run 0 blocks) in
    let new : List Glimpse = map (form_glimpse e) kept in
    let new_is : flat_map (λ x. x.1) news ≡ new = news_are e size k all ∙ ap (map (form_glimpse e)) kept_is in
    let mix : Interleaves was new now =
    subst (λ (l : List Glimpse). Interleaves was l now) new_is
    (mixed (fine_in e size base) (fine_in e size image) 0 blocks blocks news (omega arith) (news_up e size 0 blocks k row forms stored.openings.upwards)
    (news_added e size k base image row forms stored.size_is stored.openings.each stored.each sure left.written)
    (λ b low out. ap (fine_glimpses e) (left.stays b (λ has. out (subst (λ (l : List ℕ). Contains l b) (sym (news_blocks e size k all)) has))))) in
    let old = image_fine e size blocks base stored.size_is stored.no_longer in
    let is = image_fine e size blocks image stored.size_is left.no_longer in
    let read = forms_read e size kept (all_first (IsReadForm e size) n forms stored.read) in
    let write = forms_write e size kept (all_first (IsStorableForm e size) n forms stored.each) in
    record {
      nodes = subst (λ (l : List NodeRef). Interleaves l (filter_map (form_node e) kept) (expanded_nodes e size image)) (sym old.nodes)
          (subst (λ (l : List NodeRef). Interleaves (filter_map node_glimpsed was) l (expanded_nodes e size image)) (forms_give e kept)
          (subst (λ (l : List NodeRef). Interleaves (filter_map node_glimpsed was) (filter_map node_glimpsed new) l) (sym is.nodes)
          (merged_taken node_glimpsed was new now mix)));
      contents = ap length is.contents
          ∙ (merged_length content_glimpsed was new now mix ∙ ap₂ (λ (a b : List ℕ). length a + length b) (sym old.contents) (forms_hold e kept));
      none = λ base_none.
          none_of (first_fault e size image)
          (is.refused ∙ (merged_any (is_refused size) was new now mix ∙ ap₂ (λ (a b : Bool). a || b) (sym old.refused ∙ ap is_some base_none) read));
      read_only = is.bans ∙ (merged_any is_ban was new now mix ∙ (ap₂ (λ (a b : Bool). a || b) (sym old.bans) write ∙ or_false (is_read_only e size base)));
    }

pub left_in_openings : LeftInOpenings
left_in_openings e size blocks k base image row forms stored loggable none left =
    sure_stands e size blocks k base image row forms stored (all_seen_sure e size k row forms (cuts_seen e size forms loggable none)) left

all_whole : (e : Endian) (size k : ℕ) (shares : List Share) → size % 4 ≡ 0 → AllRoomy size shares → all_bytes e size shares ≤ k → whole_in_shares e size shares k ≡ length (flat_map (λ share. share.1) shares)
all_whole e size k [] words roomy all = refl
all_whole e size k (s ∷ more) words roomy all =
    let out : List ℕ = output_to e size s in
    let here = intact_is_counted e size s.0.place k s.1 words roomy.0 in
    let whole = all_is_intact e size s.0.place k s.1 words roomy.0 (omega (arith, all)) in
    let later = all_whole e size (k - length out) more words roomy.1 (omega (arith, all)) in
    ap₂ (λ (a b : ℕ). a + b) (here ∙ whole) later ∙ sym (length-append s.1 (flat_map (λ share. share.1) more))

pub whole_in_openings : WholeInOpenings
whole_in_openings e size blocks k base image row forms stored all left =
    let shared : List Share = shares size row forms in
    let words = (block_size size stored.size_is).words in
    let count : whole_in_shares e size shared k ≡ length forms =
    all_whole e size k shared words (shares_roomy e size row forms stored.each) all ∙ ap length (shares_hold_all size row forms stored.room) in
    subst (ExpandsInRow e size base image) (take_all (whole_in_shares e size shared k) forms (omega (arith, count)))
    (sure_stands e size blocks k base image row forms stored (none_cut_sure e size k shared all) left)
