-- What `verify` tells of an image and a folder.
use Rattle.std.proofs.Common.{◌≡◌, ◌∙◌, ◌⊎◌, ℕ, ◌-◌, ◌^◌, Bool, true, false, cond, List, [], ◌∷◌, ◌++◌, length, Option, Some, None, Ok, Err, ap, arith, inl, inr, refl, subst, sym}
use Rattle.std.proofs.lemmas.Bool.{eqb-true}
use Rattle.std.specs.Prelude.{◌==◌, Contains, Result, min}
use Rattle.std.specs.List.{flat_map}
use Rattle.jnode.specs.declared.order.Endian.{Endian}
use Rattle.jmount.specs.Mount.{Mount}
use Rattle.jmount.specs.Mounts.{Answers, MountsAs, state}
use Rattle.jmount.specs.Tree.{State}
use Rattle.jlisting.specs.Listing.{lines_of}
use Rattle.jlisting.specs.declared.line.Line.{Line}
use Rattle.jlog.specs.declared.start.Flash.{Flash}
use Rattle.jbuild.specs.HostFiles.{part_contents}
use Rattle.jbuild.specs.declared.host_files.HostFiles.{HostFiles}
use Rattle.jfolder.specs.Actions.{FitsListing}
use Rattle.jfolder.specs.Text.{listing_text}
use Rattle.jfolder.specs.Trees.{IsTree}
use Rattle.jfolder.specs.declared.reading.FolderTree.{FolderTree}
use Rattle.jtree.specs.Holding.{HoldsTree}
use Rattle.jtree.proofs.WrittenLemmas.{put_out_holds_tree}
use Rattle.jcommand.specs.declared.parsed.Packing.{Packing}
use Rattle.jdiff.specs.Differing.{AreDifferences}
use Rattle.jdiff.proofs.LawLemmas.{same_trees}
use Rattle.jreport.specs.Notes.{noted as findings}
use Rattle.jdiff.specs.declared.comparing.Comparing.{Comparing}
use Rattle.jedge.specs.Acts.{Act, and_closed, loads, prints}
use Rattle.jedge.specs.Calls.{Event, Did, Keep, Read, ReadFolder}
use Rattle.jedge.specs.Comparing.{Compares}
use Rattle.jedge.specs.Laws.{Happened}
use Rattle.jedge.specs.Told.{Told, either}
use Rattle.jedge.specs.declared.fault.Fault.{Fault}
use Rattle.jedge.proofs.BlamingLemmas.{after_more, before_more}
use Rattle.jreads.specs.Named.{files_named}
use Rattle.jreads.specs.ReadLaws.{IsFileKept}
use Rattle.jreads.proofs.KeptLemmas.{all_are_kept, both_done}
use Rattle.jupdates.proofs.ShownLemmas.{happened_in, kept_after, kept_in, same_answer}
use Rattle.jpacks.specs.Held.{ShowsFolder, WasRead}
use Rattle.jpacks.specs.Packing.{packed_told}
use Rattle.jpacks.proofs.HeldLaws.{folder_listed, folder_shown}
use Rattle.jverifies.specs.Verified.{AreToldApart, IsVerified, VerifiedIsSame, VerifyTellsDifferences}
use Rattle.jverifies.specs.Verifying.{Sought, compares_folder, compares_text, lines_verified, packing_verified, comparing_verified, sought_with}
use Rattle.jcommand.specs.declared.parsed.Verification.{Verification}
use Rattle.jverifies.proofs.MakingLemmas.{made_is_put}

-- ---- lines that were printed

-- the lines on two trees, and what was told of them
record AreLinesTold (how : Comparing) (left right : Mount) (answer : ℕ → Told) (told : Told) : Type 0 where
  lines : List (List ℕ)
  differ : AreDifferences how left.state right.state lines
  is : told ≡ answer (min (length lines) (2 ^ 64 - 1))

no_fault : {A F : Type 0} {x : A} {f : F} → ◌≡◌ {A = Result A F} (Ok x) (Err f) → ⊥
no_fault is = cc

put_told : (how : Comparing) (left right : Mount) (answer : ℕ → Told) (text : List ℕ) (told : Told) (put : Result Told Fault) (closed : Result Unit Fault) → Compares how left right answer text put → Ok told ≡ and_closed put closed
    → AreLinesTold how left right answer told
put_told how left right answer text told (Err f) closed says is = absurd (no_fault is)
put_told how left right answer text told (Ok put) (Err f) says is = absurd (no_fault is)
put_told how left right answer text told (Ok put) (Ok u) says is = record { lines = says.0; differ = says.1; is = same_answer is ∙ says.3 }

lines_told : (how : Comparing) (left right : Mount) (answer : ℕ → Told) (events : List Event) (told : Told) → prints (Compares how left right answer) events (Ok told) → AreLinesTold how left right answer told
lines_told how left right answer events told (inl put) = put_told how left right answer put.text told put.answer put.closed put.says put.comes_to
lines_told how left right answer events told (inr none) = absurd (no_fault none.1)

-- ---- the image of a folder

-- what mounts has one state
same_state : (e : Endian) (size : ℕ) (image : List ℕ) (s : State) (m : Mount) → MountsAs e size image s → Answers e size image (Ok m) → s ≡ m.state
same_state e size image s m mounts answers =
    sym mounts.same ∙ ap (λ (i : List ℕ). state e size i) (sym answers.0) ∙ answers.1.mounts.same

-- a listing's text was made in memory, with the bytes of its files, and is mounted as this
record IsTextTold (e : Endian) (sought : Sought) (before : HostFiles) (text : List ℕ) (events : List Event) (told : Told) : Type 0 where
  lines : List Line
  files : HostFiles
  left : Mount
  listed : lines_of text ≡ Ok lines
  kept : (name : List ℕ) → Contains (files_named lines) name → IsFileKept before files events name
  holds : (tree : FolderTree) → FitsListing tree.root tree.items.items → IsTree tree.items.items
      → text ≡ listing_text tree.root tree.items.items → HoldsTree e (part_contents files) tree.root tree.items.items left.state
  told_of : AreLinesTold sought.how left sought.image (lines_verified sought.image) told

text_told : (e : Endian) (sought : Sought) (before : HostFiles) (text : List ℕ) (events : List Event) (told : Told) → compares_text e sought before text events (Ok told)
    → IsTextTold e sought before text events told
text_told e sought before text events told did =
    let flash : Flash = sought.flash in
    let lines = both_done did in
    let files = both_done lines.two in
    let ops = both_done files.two in
    let made = both_done ops.two in
    let left = both_done made.two in
    let put = made_is_put e flash (part_contents files.x) lines.x ops.x made.before made.x ops.one.1.0 made.one in
    record {
      lines = lines.x;
      files = files.x;
      left = left.x;
      listed = lines.one.1;
      kept = λ name within. kept_after before files.x lines.before lines.after events name lines.all
          (kept_in before files.x files.before files.after lines.after name files.all (all_are_kept lines.x before files.x files.before files.one name within));
      holds = λ tree fits is_tree same.
          let held = put_out_holds_tree flash.page e flash.geometry.block flash.blocks made.x (part_contents files.x) tree.root tree.items.items lines.x fits is_tree (ap lines_of (sym same) ∙ lines.one.1) put in
          subst (λ (s : State). HoldsTree e (part_contents files.x) tree.root tree.items.items s) (same_state e flash.geometry.block made.x held.0 left.x held.1 left.one.1) held.2;
      told_of = lines_told sought.how left.x sought.image (lines_verified sought.image) left.after told left.two;
    }

-- ---- the folder

read_later : (name bytes : List ℕ) (first rest events : List Event) → events ≡ first ++ rest → WasRead rest name bytes → WasRead events name bytes
read_later name bytes first rest events all (inl is) = inl (happened_in (Did (Read name bytes)) all (after_more (Did (Read name bytes)) first rest is))
read_later name bytes first rest events all (inr is) = inr (is.0, is.1, happened_in (Did (Keep is.0 is.1)) all (after_more (Did (Keep is.0 is.1)) first rest is.2), is.3)

shown_later : (e : Endian) (asked : Packing (List ℕ)) (first rest events : List Event) (s : State) → events ≡ first ++ rest → ShowsFolder e asked rest s → ShowsFolder e asked events s
shown_later e asked first rest events s all shows = record {
  known = shows.known;
  folder = shows.folder;
  lines = shows.lines;
  files = shows.files;
  looked = happened_in (Did (ReadFolder asked.folder asked.quiet shows.known)) all (after_more (Did (ReadFolder asked.folder asked.quiet shows.known)) first rest shows.looked);
  tree = shows.tree;
  listed = shows.listed;
  read = λ name within. read_later name (shows.files name) first rest events all (shows.read name within);
  holds = shows.holds;
}

-- it was read, and compared with a mount
record IsFolderTold (e : Endian) (asked : Verification (List ℕ)) (m : Mount) (events : List Event) (told : Told) : Type 0 where
  held : State
  lines : List (List ℕ)
  folder : ShowsFolder e (packing_verified asked) events held
  differ : AreDifferences (comparing_verified e asked) held m.state lines
  counted : told.counted ≡ either folder.folder.left_out (either (min (length lines) (2 ^ 64 - 1)) (findings m))

folder_told : (e : Endian) (asked : Verification (List ℕ)) (m : Mount) (events : List Event) (told : Told) → compares_folder e asked m events (Ok told) → IsFolderTold e asked m events told
unfolding folder_shown
folder_told e asked m events told did =
    let packing : Packing (List ℕ) = packing_verified asked in
    let sought : Sought = sought_with e asked m in
    let writes : HostFiles → List ℕ → Act Told = compares_text e sought in
    let of = folder_listed packing writes events told did in
    let tree : FolderTree = of.folder.tree in
    let text = text_told e sought of.before of.listed.text.items of.during of.told of.wrote in
    let lines = text.told_of in
    let count : Told → ℕ = (λ (t : Told). t.counted) in
    record {
      held = text.left.state;
      lines = lines.lines;
      folder = folder_shown e packing writes events of text.lines text.files text.left.state text.listed text.kept
          (text.holds tree of.folder.listable.fits of.folder.listable.is_tree of.folder.text);
      differ = lines.differ;
      counted = ap count of.is ∙ (ap (λ (t : Told). either of.listed.left_out t.counted) lines.is
          ∙ ap (λ (n : ℕ). either n (either (min (length lines.lines) (2 ^ 64 - 1)) (findings m))) of.folder.left_out);
    }

-- ---- the image

image_read : (name : List ℕ) (events : List Event) (bytes : List ℕ) → loads name events (Ok bytes) → Happened (Did (Read name bytes)) events
image_read name events bytes did =
    let opens = both_done did in
    let read : Happened (Did (Read opens.x bytes)) opens.after = subst (λ (l : List Event). Happened (Did (Read opens.x bytes)) l) (sym opens.two.0) (inl refl) in
    subst (λ (n : List ℕ). Happened (Did (Read n bytes)) events) opens.one.0
    (subst (λ (l : List Event). Happened (Did (Read opens.x bytes)) l) (sym opens.all) (after_more _ opens.before opens.after read))

pub verify_tells_differences : VerifyTellsDifferences
unfolding shown_later
verify_tells_differences e asked events told did =
    let loaded = both_done did in
    let nodes = both_done loaded.two in
    let mounts = both_done nodes.two in
    let m : Mount = mounts.x in
    let size : ℕ = asked.options.geometry.block in
    let through = mounts.one.1 in
    let of = folder_told e asked m mounts.after told mounts.two in
    let packing : Packing (List ℕ) = packing_verified asked in
    let read : Happened (Did (Read asked.image m.image)) events =
    subst (λ (l : List Event). Happened (Did (Read asked.image m.image)) l) (sym loaded.all) (before_more _ loaded.before loaded.after
    (subst (λ (b : List ℕ). Happened (Did (Read asked.image b)) loaded.before) (sym through.0) (image_read asked.image loaded.before loaded.x loaded.one))) in
    record {
      image = m;
      held = of.held;
      lines = of.lines;
      read = read;
      mounts = through.1;
      folder = shown_later e packing loaded.before loaded.after events of.held loaded.all
          (shown_later e packing nodes.before nodes.after loaded.after of.held nodes.all
          (shown_later e packing mounts.before mounts.after nodes.after of.held mounts.all of.folder));
      differ = of.differ;
      counted = of.counted;
    }

-- ---- nothing is found

neither : (n m : ℕ) → either n m ≡ 0 → n ≡ 0
neither n m none = by (n == 0) refl
  where
    by : (b : Bool) → (n == 0) ≡ b → n ≡ 0
    by true is = eqb-true n 0 is
    by false is = sym (ap (λ (b : Bool). cond b m n) is) ∙ none

second_none : (n m : ℕ) → n ≡ 0 → either n m ≡ 0 → m ≡ 0
second_none n m is none = ap (λ (k : ℕ). either k m) (sym is) ∙ none

no_lines : (lines : List (List ℕ)) → min (length lines) (2 ^ 64 - 1) ≡ 0 → lines ≡ []
no_lines [] is = refl
no_lines (line ∷ lines) is = let no : ⊥ = omega (arith, is) in absurd no

pub verified_is_same : VerifiedIsSame
verified_is_same e asked events told did none =
    let of = verify_tells_differences e asked events told did in
    let left_out : ℕ = of.folder.folder.left_out in
    let counted : ℕ = min (length of.lines) (2 ^ 64 - 1) in
    let rest : ℕ = either counted (findings of.image) in
    let found : either left_out rest ≡ 0 = sym of.counted ∙ none in
    let all : left_out ≡ 0 = neither left_out rest found in
    let same : counted ≡ 0 = neither counted (findings of.image) (second_none left_out rest all found) in
    record {
      image = of.image.image;
      shown = of.image.state;
      held = of.held;
      read = of.read;
      mounts = of.mounts.mounts;
      folder = of.folder;
      all = all;
      same = λ left right lefts rights. (same_trees (comparing_verified e asked) of.held of.image.state left right of.lines lefts rights of.differ).0 (no_lines of.lines same);
    }
