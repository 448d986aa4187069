-- The image that `pack` makes holds the tree of the folder, compressed or not.
use Rattle.std.proofs.Common.{◌≡◌, ◌∙◌, ◌⊎◌, ℕ, Bool, List, [], ◌∷◌, ◌++◌, Option, Some, None, Result, Ok, Err, ap, inl, inr, refl, subst, sym}
use Rattle.std.specs.Prelude.{Contains, IfOk, IsOk, is_none}
use Rattle.std.specs.Option.{option_map_or}
use Rattle.std.proofs.lemmas.List.{append-nil}
use Rattle.jnode.specs.declared.order.Endian.{Endian}
use Rattle.jscan.specs.Pages.{page_size}
use Rattle.jmount.specs.Mount.{Mount}
use Rattle.jmount.specs.Mounts.{MountsAs, plain_nodes}
use Rattle.jmount.specs.Tree.{State}
use Rattle.jview.specs.Through.{MountsThroughAs}
use Rattle.jlisting.specs.Listing.{lines_of}
use Rattle.jlisting.specs.declared.line.Line.{Line}
use Rattle.jlog.specs.Resuming.{resumes_by}
use Rattle.jlog.specs.Session.{Flash as LogFlash}
use Rattle.jlog.specs.View.{written_flash}
use Rattle.jlog.specs.declared.fault.SessionFault.{SessionFault}
use Rattle.jlog.specs.declared.report.Place.{Place}
use Rattle.jsteps.specs.declared.op.Op.{Op}
use Rattle.jbuild.specs.Emitting.{IsEmitted}
use Rattle.jbuild.specs.HostFiles.{part_contents, read_of}
use Rattle.jbuild.specs.Operations.{ops_in}
use Rattle.jbuild.specs.declared.emitting.EmitFault.TheVariants as emit
use Rattle.jbuild.specs.declared.host_files.HostFiles.{HostFiles}
use Rattle.jreport.specs.declared.cause.Plan.{Plan}
use Rattle.jtree.specs.Holding.{HoldsTree}
use Rattle.jtree.specs.Numbers.{HaveDeviceNumbers}
use Rattle.jfolder.specs.Known.{Known}
use Rattle.jfolder.specs.Text.{listing_text}
use Rattle.jfolder.specs.declared.fault.ReadFault.{ReadFault}
use Rattle.jfolder.specs.declared.found.Options.{Options}
use Rattle.jfolder.specs.declared.reading.FolderTree.{FolderTree}
use Rattle.jcommand.specs.declared.parsed.Packing.{Packing}
use Rattle.jedge.specs.Acts.{Act, answers}
use Rattle.jedge.specs.Calls.{Answers, Did, Event, Keep, Read, ReadFolder}
use Rattle.jedge.specs.Laws.{Happened}
use Rattle.jedge.specs.Told.{Told}
use Rattle.jedge.proofs.BlamingLemmas.{after_more, before_more}
use Rattle.jedge.proofs.LookingLemmas.{closes_looks}
use Rattle.jreads.specs.Named.{files_named, loads_named}
use Rattle.jreads.specs.ReadLaws.{IsFileKept}
use Rattle.jreads.proofs.KeptLemmas.{all_are_kept, both_done}
use Rattle.jreads.proofs.LookLemmas.{loads_named_looks}
use Rattle.jfolders.specs.Keeping.{IsKeptAs, IsListingKept, files_kept, keeps_through, reads_folder}
use Rattle.jfolders.specs.Reading.{IsListableTree, asks_to_read, listing_settings}
use Rattle.jfolders.specs.declared.host.Closed.{Closed}
use Rattle.jfolders.specs.declared.kept.KeptFiles.{KeptFiles}
use Rattle.jfolders.specs.declared.keeping.Listed.{Listed}
use Rattle.jfolders.proofs.ReadLaws.{reading_makes_nothing}
use Rattle.jmakes.specs.Commands.{writes_text}
use Rattle.jmakes.specs.Making.{FileMade, FilePlace, closes_file, filled_to}
use Rattle.jmakes.specs.Writing.{Done, Emission, Emits, EndsAs, ImageWanted, NotRun, Ran, Run, all_ran, ending_of, ending_of_run, plan_on, sink_of, writes_lines}
use Rattle.jmakes.specs.declared.wanted.CloseFault.{CloseFault}
use Rattle.jmakes.specs.declared.wanted.CloseFault.TheVariants as close
use Rattle.jmakes.specs.declared.wanted.Filling.{Filling}
use Rattle.jupdates.specs.Asked.{DeviceWanted}
use Rattle.jupdates.specs.Commands.{updates_text}
use Rattle.jupdates.proofs.ShownLemmas.{happened_in, kept_after, kept_in, same_answer, skipped, text_run}
use Rattle.jpacks.specs.Held.{PackCompressedHoldsFolder, PackHoldsFolder, ShowsFolder, WasRead, all_written}
use Rattle.jpacks.specs.Packing.{device_of_packing, image_packed, packed_told, packs_folder}
use Rattle.jpacks.proofs.FilledLemmas.{filled_holds}
use Rattle.jpacks.proofs.FillLemmas.{packed_within}
use Rattle.jpacks.proofs.PackedLemmas.{run_holds}
use Rattle.jpacks.proofs.WrittenLemmas.{closed_written, created_written, looks_written, written_first, written_later}

no_fault : {A F : Type 0} {x : A} {f : F} → ◌≡◌ {A = Result A F} (Ok x) (Err f) → ⊥
no_fault is = cc

-- ---- the file

-- operations were put out on a base, nothing stopped them, and that is what was written, filled up
record IsPut (flash : LogFlash) (base : List ℕ) (ops : List Op) (to : Option Filling) (events : List Event) : Type 0 where
  text : List ℕ
  failures : ℕ
  accepted : ℕ
  places : List Place
  emitted : IsEmitted flash base ops accepted places None (sink_of text failures)
  written : all_written events ≡ filled_to to text

-- by what stopped them, and how the file ended
put_by : (flash : LogFlash) (base : List ℕ) (ops : List Op) (to : Option Filling) (place : FilePlace) (name : List ℕ) (plan : Plan) (line : Option ℕ) (run : Run) (text : List ℕ) (failures : ℕ)
    (done : Done) (events : List Event) (stopped : Option SessionFault) (closed : Result Unit CloseFault)
    → IsEmitted flash base ops run.accepted run.places stopped (sink_of text failures) → closes_file place to (is_none stopped) failures text events (Ok closed)
    → EndsAs name (ending_of_run plan line run stopped closed) (Ok done) → IsPut flash base ops to events
put_by flash base ops to place name plan line run text failures done events (Some why) closed emitted ends is = absurd (no_fault is)
put_by flash base ops to place name plan line run text failures done events None (Ok u) emitted ends is = record {
  text = text;
  failures = failures;
  accepted = run.accepted;
  places = run.places;
  emitted = emitted;
  written = closed_written place to failures text events ends;
}
put_by flash base ops to place name plan line run text failures done events None (Err (close.NotWritten reason)) emitted ends is = absurd (no_fault is)
put_by flash base ops to place name plan line run text failures done events None (Err (close.NotNamed reason)) emitted ends is =
    absurd (no_fault is.1)

emission_put : (flash : LogFlash) (base : List ℕ) (ops : List Op) (to : Option Filling) (place : FilePlace) (name : List ℕ) (plan : Plan) (numbers : List ℕ) (text : List ℕ) (failures : ℕ)
    (done : Done) (events : List Event) (answer : Emission) (closed : Result Unit CloseFault)
    → Emits flash base ops text failures answer → closes_file place to (all_ran answer) failures text events (Ok closed)
    → EndsAs name (ending_of plan numbers answer closed) (Ok done) → IsPut flash base ops to events
emission_put flash base ops to place name plan numbers text failures done events (Ran run) closed puts ends is =
    put_by flash base ops to place name plan _ run text failures done events run.stopped closed puts.0 ends is
emission_put flash base ops to place name plan numbers text failures done events (NotRun emit.Sink) closed puts ends is = absurd (no_fault is)
emission_put flash base ops to place name plan numbers text failures done events (NotRun emit.OutOfMemory) closed puts ends is = absurd (no_fault is)

-- ---- the lines

-- they were put out on a mounted empty image
record AreLinesPut (wanted : ImageWanted) (files : List ℕ → List ℕ) (lines : List Line) (events : List Event) : Type 0 where
  m : Mount
  none : m.image ≡ []
  resumes : IsOk (resumes_by wanted.flash.page wanted.order wanted.flash.geometry.block wanted.flash.blocks m)
  put : IsPut (written_flash wanted.order wanted.flash) m.image (ops_in wanted.order files lines) wanted.file.filling events

same_put : {flash : LogFlash} {base : List ℕ} {ops others : List Op} {to : Option Filling} {events after : List Event} → ops ≡ others → all_written events ≡ all_written after
    → IsPut flash base ops to after → IsPut flash base others to events
same_put {flash} {base} {ops} same written put = record {
  text = put.text;
  failures = put.failures;
  accepted = put.accepted;
  places = put.places;
  emitted = subst (λ (l : List Op). IsEmitted flash base l put.accepted put.places None (sink_of put.text put.failures)) same put.emitted;
  written = written ∙ put.written;
}

resumed : (r : Result ℕ SessionFault) (n : ℕ) → r ≡ Ok n → IsOk r
resumed (Ok m) n is = refl
resumed (Err why) n is = let no : ⊥ = cc in absurd no

lines_put : (wanted : ImageWanted) (files : List ℕ → List ℕ) (lines : List Line) (events : List Event) (told : Told) → writes_lines wanted None files lines events (Ok told) → AreLinesPut wanted files lines events
lines_put wanted files lines events told did =
    let ops = both_done did in
    let mounts = both_done ops.two in
    let starts = both_done mounts.two in
    let notes = both_done starts.two in
    let memory = both_done notes.two in
    let makes = both_done memory.two in
    let ends = both_done makes.two in
    let created = both_done makes.one in
    let outs = created.two in
    let same : makes.x ≡ outs.made = same_answer outs.is in
    let ended : EndsAs wanted.file.name (ending_of (plan_on wanted.flash mounts.x.image) ops.x.numbers outs.made.answer outs.made.closed) (Ok ends.x) =
    subst (λ (made : FileMade Emission). EndsAs wanted.file.name (ending_of (plan_on wanted.flash mounts.x.image) ops.x.numbers made.answer made.closed) (Ok ends.x)) same ends.one.1 in
    let put = emission_put (written_flash wanted.order wanted.flash) mounts.x.image ops.x.ops wanted.file.filling created.x wanted.file.name (plan_on wanted.flash mounts.x.image) ops.x.numbers
    outs.text outs.failures ends.x created.after outs.made.answer outs.made.closed outs.puts outs.ends ended in
    let printed : all_written ends.after ≡ [] = looks_written ends.after (closes_looks Answers ends.two.failures ends.two.text ends.after ends.two.closed ends.two.out) in
    let after : all_written makes.after ≡ [] = written_later ends.before ends.after ends.all (ap all_written ends.one.0) ∙ printed in
    let written : all_written events ≡ all_written created.after =
    written_later ops.before ops.after ops.all (ap all_written ops.one.0) ∙ (written_later mounts.before mounts.after mounts.all (ap all_written mounts.one.0) ∙ (written_later starts.before starts.after starts.all (ap all_written starts.one.0)
    ∙ (written_later notes.before notes.after notes.all (ap all_written notes.one.0) ∙ (written_later memory.before memory.after memory.all (ap all_written memory.one.0)
    ∙ (written_first makes.before makes.after makes.all after ∙ written_later created.before created.after created.all (created_written wanted.file created.x created.before created.one)))))) in
    record {
      m = mounts.x;
      none = mounts.one.1.0;
      resumes = resumed _ starts.x starts.one.1;
      put = same_put ops.one.1.0 written put;
    }

-- ---- the text

-- a listing's text was written, with the bytes of its files
record IsTextPut (wanted : ImageWanted) (before : HostFiles) (text : List ℕ) (events : List Event) : Type 0 where
  lines : List Line
  files : HostFiles
  listed : lines_of text ≡ Ok lines
  kept : (name : List ℕ) → Contains (files_named lines) name → IsFileKept before files events name
  put : AreLinesPut wanted (part_contents files) lines events

-- what was written is what was written later
put_later : {wanted : ImageWanted} {files : List ℕ → List ℕ} {lines : List Line} {events after : List Event} → all_written events ≡ all_written after
    → AreLinesPut wanted files lines after → AreLinesPut wanted files lines events
put_later written put = record { m = put.m; none = put.none; resumes = put.resumes; put = same_put refl written put.put }

text_put : (wanted : ImageWanted) (before : HostFiles) (text : List ℕ) (events : List Event) (told : Told) → writes_text wanted None before text events (Ok told) → IsTextPut wanted before text events
text_put wanted before text events told did =
    let lines = both_done did in
    let files = both_done lines.two in
    let put = lines_put wanted (part_contents files.x) lines.x files.after told files.two in
    let looked : all_written files.before ≡ [] = looks_written files.before (loads_named_looks lines.x before files.before (Ok files.x) files.one) in
    record {
      lines = lines.x;
      files = files.x;
      listed = lines.one.1;
      kept = λ name within. kept_after before files.x lines.before lines.after events name lines.all
          (kept_in before files.x files.before files.after lines.after name files.all (all_are_kept lines.x before files.x files.before files.one name within));
      put = put_later (written_later lines.before lines.after lines.all (ap all_written lines.one.0) ∙ written_later files.before files.after files.all looked) put;
    }

-- ---- the folder

-- a folder was read: this was known of it, this tree was found, and these files were kept
pub record IsFolderRead (name : List ℕ) (quiet : Bool) (options : Options) (events : List Event) (listed : Listed) : Type 0 where
  pub known : Known
  pub tree : FolderTree
  pub kept : List ℕ → Option (List ℕ)
  pub looked : Happened (Did (ReadFolder name quiet known)) events
  pub listable : IsListableTree known options tree
  pub text : listed.text.items ≡ listing_text tree.root tree.items.items
  pub keeps : Happened (Did (Keep name kept)) events
  pub are : (file : List ℕ) → kept file ≡ files_kept listed.files file
  pub left_out : listed.left_out ≡ tree.left_out

-- what a tree that was found comes to
record IsTreeKept (closed : Closed) (tree : FolderTree) (listed : Listed) : Type 0 where
  text : listed.text.items ≡ listing_text tree.root tree.items.items
  files : listed.files ≡ closed.files
  left_out : listed.left_out ≡ tree.left_out

tree_kept : (closed : Closed) (tree : FolderTree) (listed : Listed) → IsListingKept closed tree (Ok listed) → IsTreeKept closed tree listed
tree_kept closed tree listed (inl is) =
    let same : listed ≡ is.0 = same_answer is.1 in
    record {
      text = ap (λ (l : Listed). l.text.items) same ∙ is.2;
      files = ap (λ (l : Listed). l.files) same ∙ is.4;
      left_out = ap (λ (l : Listed). l.left_out) same ∙ is.3;
    }
tree_kept closed tree listed (inr none) = absurd (no_fault none)

record IsTreeFound (known : Known) (options : Options) (closed : Closed) (listed : Listed) : Type 0 where
  tree : FolderTree
  listable : IsListableTree known options tree
  kept : IsTreeKept closed tree listed

-- by what the reading answered
tree_by : (name : List ℕ) (known : Known) (options : Options) (answer : Result FolderTree ReadFault) (closed : Closed) (listed : Listed) → IfOk answer (IsListableTree known options)
    → IsKeptAs name answer closed (Ok listed) → IsTreeFound known options closed listed
tree_by name known options (Ok tree) closed listed listable is = record { tree = tree; listable = listable; kept = tree_kept closed tree listed is }
tree_by name known options (Err why) closed listed listable is = absurd (no_fault is.1)

folder_asked : (name : List ℕ) (quiet : Bool) (known : Known) (events : List Event) → asks_to_read name quiet events (Ok known) → events ≡ Did (ReadFolder name quiet known) ∷ []
folder_asked name quiet known events (inl is) =
    is.2 ∙ ap (λ (k : Known). Did (ReadFolder name quiet k) ∷ []) (sym (same_answer is.1))
folder_asked name quiet known events (inr is) = absurd (no_fault is.0)

pub folder_read : (name : List ℕ) (quiet : Bool) (options : Options) (events : List Event) (listed : Listed) → reads_folder name quiet options events (Ok listed) → IsFolderRead name quiet options events listed
folder_read name quiet options events listed did =
    let asks = both_done did in
    let through : keeps_through name options asks.x asks.after (Ok listed) = asks.two in
    let closes = both_done through.ends in
    let notes = both_done closes.two in
    let closed = closes.one in
    let same : closes.x ≡ closed.0 = same_answer closed.2 in
    let tree = tree_by name asks.x options through.answer closes.x listed through.listable notes.two.1 in
    let asked = folder_asked name quiet asks.x asks.before asks.one in
    let closing : Happened (Did (Keep name closed.1)) closes.before = subst (λ (l : List Event). Happened (Did (Keep name closed.1)) l) (sym closed.4) (inl refl) in
    record {
      known = asks.x;
      tree = tree.tree;
      kept = closed.1;
      looked = subst (λ (l : List Event). Happened (Did (ReadFolder name quiet asks.x)) l) (sym asks.all)
          (before_more _ asks.before asks.after (subst (λ (l : List Event). Happened (Did (ReadFolder name quiet asks.x)) l) (sym asked) (inl refl)));
      listable = tree.listable;
      text = tree.kept.text;
      keeps = subst (λ (l : List Event). Happened (Did (Keep name closed.1)) l) (sym asks.all)
          (after_more _ asks.before asks.after (subst (λ (l : List Event). Happened (Did (Keep name closed.1)) l) (sym closes.all) (before_more _ closes.before closes.after closing)));
      are = λ file. closed.3 file ∙ (ap (λ (c : Closed). files_kept c.files file) (sym same) ∙ ap (λ (f : KeptFiles). files_kept f file) (sym tree.kept.files));
      left_out = tree.kept.left_out;
    }

-- ---- `pack`

pub was_read : (name : List ℕ) (folder : List ℕ) (kept : List ℕ → Option (List ℕ)) (before files : HostFiles) (events : List Event) → Happened (Did (Keep folder kept)) events → read_of before name ≡ kept name
    → IsFileKept before files events name → WasRead events name (part_contents files name)
was_read name folder kept before files events keeps same is =
    let bytes : part_contents files name ≡ is.0 = ap (λ (o : Option (List ℕ)). option_map_or (λ (b : List ℕ). b) o []) is.1 in
    subst (λ (b : List ℕ). WasRead events name b) (sym bytes) (elim is.2 [
      | inl had ↦ inr (folder, kept, keeps, sym same ∙ had)
      | inr read ↦ inl read
    ])

-- A folder was read, and its listing was written by an act, to which all goes that was written; that
-- comes to the answer.
pub record IsFolderListed (asked : Packing (List ℕ)) (writes : HostFiles → List ℕ → Act Told) (events : List Event) (answer : Told) : Type 0 where
  pub listed : Listed
  pub before : HostFiles
  pub first : List Event
  pub during : List Event
  pub told : Told
  pub folder : IsFolderRead asked.folder asked.quiet (listing_settings asked.owner asked.time) events listed
  pub were : (name : List ℕ) → read_of before name ≡ folder.kept name
  pub wrote : writes before listed.text.items during (Ok told)
  pub all : events ≡ first ++ during
  pub written : all_written events ≡ all_written during
  pub is : answer ≡ packed_told listed.left_out told

unfoldable pub folder_listed : (asked : Packing (List ℕ)) (writes : HostFiles → List ℕ → Act Told) (events : List Event) (told : Told) → packs_folder asked writes events (Ok told) → IsFolderListed asked writes events told
folder_listed asked writes events told did =
    let options = listing_settings asked.owner asked.time in
    let reads = both_done did in
    let read = folder_read asked.folder asked.quiet options reads.before reads.x reads.one in
    let kept = both_done reads.two in
    let rest = both_done kept.two in
    let were = kept.one.1 in
    let same : kept.x ≡ were.0 = same_answer were.1 in
    let looked : all_written reads.before ≡ [] = looks_written reads.before ((reading_makes_nothing options asked.quiet asked.folder).1 reads.before (Ok reads.x) reads.one) in
    let tail : reads.after ≡ rest.before = skipped kept.before kept.after kept.all kept.one.0 ∙ (rest.all ∙ (ap (λ (l : List Event). rest.before ++ l) rest.two.0 ∙ append-nil rest.before)) in
    record {
      listed = reads.x;
      before = kept.x;
      first = reads.before;
      during = rest.before;
      told = rest.x;
      folder = record {
        known = read.known;
        tree = read.tree;
        kept = read.kept;
        looked = happened_in _ reads.all (before_more _ reads.before reads.after read.looked);
        listable = read.listable;
        text = read.text;
        keeps = happened_in _ reads.all (before_more _ reads.before reads.after read.keeps);
        are = read.are;
        left_out = read.left_out;
      };
      were = λ name. ap (λ (h : HostFiles). read_of h name) same ∙ (were.2 name ∙ sym (read.are name));
      wrote = rest.one;
      all = reads.all ∙ ap (λ (l : List Event). reads.before ++ l) tail;
      written = written_later reads.before reads.after reads.all looked ∙ ap all_written tail;
      is = same_answer rest.two.1;
    }

-- a file system that holds its tree is shown, where the bytes are those of the files
unfoldable pub folder_shown : {told : Told} (e : Endian) (asked : Packing (List ℕ)) (writes : HostFiles → List ℕ → Act Told) (events : List Event) (of : IsFolderListed asked writes events told) (lines : List Line) (files : HostFiles) (state : State)
    → lines_of of.listed.text.items ≡ Ok lines → ((name : List ℕ) → Contains (files_named lines) name → IsFileKept of.before files of.during name)
    → HoldsTree e (part_contents files) of.folder.tree.root of.folder.tree.items.items state → ShowsFolder e asked events state
folder_shown e asked writes events of lines files state listed kept holds = record {
  known = of.folder.known;
  folder = of.folder.tree;
  lines = lines;
  files = part_contents files;
  looked = of.folder.looked;
  tree = of.folder.listable;
  listed = ap lines_of (sym of.folder.text) ∙ listed;
  read = λ name within. was_read name asked.folder of.folder.kept of.before files events of.folder.keeps (of.were name)
      (kept_after of.before files of.first of.during events name of.all (kept name within));
  holds = holds;
}

pub pack_holds_folder : PackHoldsFolder
unfolding folder_shown folder_listed
pack_holds_folder e asked events told did =
    let wanted : ImageWanted = image_packed e asked in
    let of = folder_listed asked (writes_text wanted None) events told did in
    let tree = of.folder.tree in
    let text = text_put wanted of.before of.listed.text.items of.during of.told of.wrote in
    let put = text.put in
    let listed : lines_of (listing_text tree.root tree.items.items) ≡ Ok text.lines = ap lines_of (sym of.folder.text) ∙ text.listed in
    let size : ℕ = asked.options.geometry.block in
    let is = filled_holds asked.page e size wanted.flash.blocks put.put.accepted 0 put.put.failures put.put.places put.put.text (part_contents text.files) tree.root tree.items.items text.lines put.m wanted.file.filling
    of.folder.listable.fits of.folder.listable.is_tree listed put.none put.resumes (packed_within asked.placing.pad size asked.blocks) put.put.emitted in
    let image : all_written events ≡ filled_to wanted.file.filling put.put.text = of.written ∙ put.put.written in
    record {
      state = is.0;
      shows = folder_shown e asked (writes_text wanted None) events of text.lines text.files is.0 text.listed text.kept is.2;
      mounts = subst (λ (l : List ℕ). MountsAs e size l is.0) (sym image) is.1;
      numbered = subst (λ (l : List ℕ). HaveDeviceNumbers e (plain_nodes e size l) is.0 tree.items.items) (sym image) is.3;
    }

pub pack_compressed_holds_folder : PackCompressedHoldsFolder
pack_compressed_holds_folder e asked events told did =
    let wanted : DeviceWanted = device_of_packing asked in
    let of = folder_listed asked (updates_text e wanted []) events told did in
    let tree = of.folder.tree in
    let ran = text_run e wanted [] of.before of.listed.text.items of.during of.told of.wrote in
    let listed : lines_of (listing_text tree.root tree.items.items) ≡ Ok ran.lines = ap lines_of (sym of.folder.text) ∙ ran.lines_are in
    let size : ℕ = asked.options.geometry.block in
    let is = run_holds e wanted of.before of.listed.text.items of.during of.told tree.root tree.items.items ran of.folder.listable.fits of.folder.listable.is_tree listed (packed_within asked.placing.pad size asked.blocks) in
    let image : all_written events ≡ all_written of.during = of.written in
    record {
      state = is.0;
      shows = folder_shown e asked (updates_text e wanted []) events of ran.lines ran.files is.0 ran.lines_are
          (λ name within. kept_in of.before ran.files ran.looked ran.last of.during name ran.all (ran.kept name within)) is.2;
      mounts = subst (λ (l : List ℕ). MountsThroughAs e size l is.0) (sym image) is.1;
    }
