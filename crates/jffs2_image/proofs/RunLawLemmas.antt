-- What is true of all commands, by what is true of the acts of each crate's commands.
use Rattle.std.proofs.Common.{◌≡◌, List, [], Option, None, Ok, Err, Some, refl, subst, sym}
use Rattle.std.specs.Prelude.{string_bytes}
use Rattle.clap.specs.Words.{Text}
use Rattle.jcommand.specs.declared.command_line.RequestFault.{RequestFault}
use Rattle.jcommand.specs.declared.command_line.RequestFault.TheVariants as refused
use Rattle.jcommand.specs.declared.parsed.Command.{Command}
use Rattle.jcommand.specs.declared.parsed.Command.TheVariants as command
use Rattle.jcommand.specs.declared.parsed.Options.{Options}
use Rattle.jcommand.specs.declared.request.Request.{Request}
use Rattle.jcommand.specs.Requests.{file_made, image_read, images_read, with_options, writes_image}
use Rattle.jauto.proofs.AutoLemmas.{auto_does_as_given, auto_looks, leaving_makes_nothing, looking_makes_nothing}
use Rattle.jedge.specs.Acts.{Ends, GoesOn}
use Rattle.jedge.specs.Calls.{Event}
use Rattle.jedge.specs.declared.fault.Fault.{Fault}
use Rattle.jedge.specs.declared.fault.Fault.TheVariants as fault
use Rattle.jedge.specs.Commands.{Cat, Check, Damage, Diff, Info, Ls, reported}
use Rattle.jedge.specs.Laws.{MakesNothing}
use Rattle.jjson.specs.declared.lines.Lines.{Lines}
use Rattle.jspare.specs.declared.region.Region.{Region}
use Rattle.jedge.proofs.LookingLemmas as looking
use Rattle.jinspects.specs.Inspecting.{period_asked}
use Rattle.jinspects.specs.InspectLaws.{CatInode, CheckThrough, History, MapNodes}
use Rattle.jinspects.proofs.InspectLookLemmas.{inspects_only}
use Rattle.jreads.proofs.LookLemmas.{cuts_read_only}
use Rattle.jreads.proofs.ScanLawLemmas.{scan_reads_only}
use Rattle.jfolders.specs.Reading.{listing_settings}
use Rattle.jfolders.proofs.ReadLaws.{reading_makes_nothing}
use Rattle.jforetells.proofs.ForetellLaws.{cuts_through_reads_only, cuts_update_reads_only}
use Rattle.jmakes.specs.Commands.{Append, Build}
use Rattle.jmakes.specs.Keeping.{base_of}
use Rattle.jmakes.specs.Writing.{image_asked}
use Rattle.jmakes.specs.Leaving.{LeavesFiles}
use Rattle.jmakes.proofs.CommandLaws.{atomic_leaves_files}
use Rattle.jmakes.proofs.KeepingLemmas.{compares_looks}
use Rattle.jmakes.proofs.LeavingLemmas.{looks_quiet, quiet_then}
use Rattle.jpacks.proofs.PackLaws.{pack_compressed_leaves_files, pack_leaves_files}
use Rattle.jverifies.proofs.VerifyLaws.{verify_makes_nothing}
use Rattle.jupdates.proofs.UpdateLaws.{build_compressed_leaves_files, update_leaves_files}
use Rattle.jremakes.specs.Laws.{Apart, Compact, CompactApart, Compress, Decompress}
use Rattle.jremakes.proofs.LeftLemmas.{remade_is_left}
use Rattle.jffs2_image.specs.RunLaws.{AtomicCommandsLeaveFiles, AutoDoesAsGiven, IsAtomic, IsPrintedOnly, PrintingMakesNothing, Product, product_of}
use Rattle.jffs2_image.specs.Running.{command_act, found_act, image_left, image_looked, json_act, lines_asked, keeps_file, read_act, refused_act, region_act, remaking_asked}

-- ---- nothing is made

command_looks : (asked : Command Text) → IsPrintedOnly (product_of asked) → MakesNothing (reported (command_act asked))
command_looks (command.Scan i) is = scan_reads_only i.options i.image
command_looks (command.Check c) is = looking.reads_only (Check c.options c.shape c.image)
command_looks (command.CheckThrough c) is = inspects_only (CheckThrough c.options c.shape c.image)
command_looks (command.List l) is = looking.reads_only (Ls l.options l.decompress l.image l.path)
command_looks (command.Cat c) is = looking.reads_only (Cat c.options c.decompress c.strict c.image c.path)
command_looks (command.CatInode c) is = inspects_only (CatInode c.options (record { ino = c.ino; version = c.version }) c.image)
command_looks (command.Info image) is = looking.reads_only (Info image)
command_looks (command.Diff d) is = looking.reads_only (Diff d)
command_looks (command.Damage x) is = looking.reads_only (Damage x.options x.decompress x.image)
command_looks (command.Map m) is = inspects_only (MapNodes m.options m.svg m.image)
command_looks (command.History h) is = inspects_only (History h.options (period_asked h) h.image h.path)
command_looks (command.Build b) is = absurd is
command_looks (command.BuildCompressed b) is = absurd is
command_looks (command.Append a) is = absurd is
command_looks (command.Update u) is = absurd is
command_looks (command.Cuts c) is = cuts_read_only c.options c.blocks c.page c.on c.listing
command_looks (command.CutsThrough c) is = cuts_through_reads_only c.options.endian c
command_looks (command.CutsUpdate c) is = cuts_update_reads_only c.options.endian c
command_looks (command.Decompress c) is = absurd is
command_looks (command.Apart c) is = absurd is
command_looks (command.Compress c) is = absurd is
command_looks (command.Compact c) is = absurd is
command_looks (command.CompactApart c) is = absurd is
command_looks (command.Extract x) is = absurd is
command_looks (command.Listing l) is = (reading_makes_nothing (listing_settings l.owner l.time) l.quiet l.folder).0
command_looks (command.Pack p) is = absurd is
command_looks (command.PackCompressed p) is = absurd is
command_looks (command.Verify v) is = verify_makes_nothing v.options.endian v

refused_looks : (why : RequestFault) → MakesNothing (refused_act why)
refused_looks (refused.Help text) = looking.reported_looks _ (looking.prints_looks _)
refused_looks (refused.Usage text) = looking.then_looks _ _ (λ events r said. looking.said_looks (Some (string_bytes text)) events said) (λ _. looking.answers_looks _)
refused_looks refused.OutOfMemory = looking.reported_looks _ (looking.answers_looks _)

-- what a command makes beside what it prints is the same with other options
product_kept : (o : Options) (asked : Command Text) → product_of asked ≡ product_of (with_options o asked)
product_kept o (command.Scan x) = refl
product_kept o (command.Check x) = refl
product_kept o (command.CheckThrough x) = refl
product_kept o (command.List x) = refl
product_kept o (command.Cat x) = refl
product_kept o (command.CatInode x) = refl
product_kept o (command.Info x) = refl
product_kept o (command.Diff x) = refl
product_kept o (command.Damage x) = refl
product_kept o (command.Map x) = refl
product_kept o (command.History x) = refl
product_kept o (command.Build x) = refl
product_kept o (command.BuildCompressed x) = refl
product_kept o (command.Append x) = refl
product_kept o (command.Update x) = refl
product_kept o (command.Cuts x) = refl
product_kept o (command.CutsThrough x) = refl
product_kept o (command.CutsUpdate x) = refl
product_kept o (command.Decompress x) = refl
product_kept o (command.Apart x) = refl
product_kept o (command.Compress x) = refl
product_kept o (command.Compact x) = refl
product_kept o (command.CompactApart x) = refl
product_kept o (command.Extract x) = refl
product_kept o (command.Listing x) = refl
product_kept o (command.Pack x) = refl
product_kept o (command.PackCompressed x) = refl
product_kept o (command.Verify x) = refl

found_looks : (image : Option Text) (asked : Command Text) → IsPrintedOnly (product_of asked) → MakesNothing (reported (found_act image asked))
found_looks None asked is = command_looks asked is
found_looks (Some image) asked is = auto_looks (writes_image asked) image _ (λ (o : Options).
    command_looks (with_options o asked) (subst (λ (p : Product). IsPrintedOnly p) (product_kept o asked) is))

-- which part of its images is read changes no file, nor does the form of its lines
keeping_looks : (read made : Option Text) → MakesNothing (keeps_file read made)
keeping_looks (Some read) (Some made) = looking.then_looks _ _ (compares_looks read made) (λ _. looking.answers_looks _)
keeping_looks (Some read) None = looking.answers_looks _
keeping_looks None made = looking.answers_looks _

part_looks : (region : Option Region) (looked : Option Text) (asked : Command Text) → MakesNothing (region_act region looked asked)
part_looks (Some region) looked asked = looking.then_looks _ _ (keeping_looks (image_read asked) (file_made asked)) (λ _. looking.region_looks region (images_read asked))
part_looks None (Some image) asked = leaving_makes_nothing image
part_looks None None asked = looking.answers_looks _

form_looks : (lines : Option Lines) → MakesNothing (json_act lines)
form_looks None = looking.answers_looks _
form_looks (Some lines) = looking.json_looks lines

pub printing_makes_nothing : PrintingMakesNothing
printing_makes_nothing = (
  λ asked is. looking.step_looks (json_act (lines_asked asked)) (λ _. read_act asked) (form_looks (lines_asked asked)) (λ _.
      looking.step_looks (region_act asked.region (image_left asked) asked.command) (λ _. found_act (image_looked asked) asked.command)
      (part_looks asked.region (image_left asked) asked.command) (λ _. found_looks (image_looked asked) asked.command is)),
  refused_looks,
)

-- ---- with `--auto`

pub command_does_as_given : AutoDoesAsGiven
command_does_as_given asked image events result did =
    auto_does_as_given (writes_image asked) image (λ (o : Options). command_act (with_options o asked)) events result did

-- ---- with `--atomic`, a fault leaves the files as they were

command_leaves : (asked : Command Text) (events : List Event) (f : Fault) → IsAtomic (product_of asked) → (f ≡ fault.Output → ⊥) → command_act asked events (Err f) → LeavesFiles events
command_leaves (command.Scan i) events f atomic other did = absurd atomic
command_leaves (command.Check c) events f atomic other did = absurd atomic
command_leaves (command.CheckThrough c) events f atomic other did = absurd atomic
command_leaves (command.List l) events f atomic other did = absurd atomic
command_leaves (command.Cat c) events f atomic other did = absurd atomic
command_leaves (command.CatInode c) events f atomic other did = absurd atomic
command_leaves (command.Info image) events f atomic other did = absurd atomic
command_leaves (command.Diff d) events f atomic other did = absurd atomic
command_leaves (command.Damage x) events f atomic other did = absurd atomic
command_leaves (command.Map m) events f atomic other did = absurd atomic
command_leaves (command.History h) events f atomic other did = absurd atomic
command_leaves (command.Build b) events f atomic other did =
    atomic_leaves_files (Build (image_asked b.target.options.endian b.target) b.listing) events f atomic other did
command_leaves (command.BuildCompressed b) events f atomic other did = build_compressed_leaves_files b.target.options.endian b events f atomic other did
command_leaves (command.Append a) events f atomic other did =
    atomic_leaves_files (Append (image_asked a.target.options.endian a.target) (base_of a) a.listing) events f atomic other did
command_leaves (command.Update u) events f atomic other did = update_leaves_files u.options.endian u events f atomic other did
command_leaves (command.Cuts c) events f atomic other did = absurd atomic
command_leaves (command.CutsThrough c) events f atomic other did = absurd atomic
command_leaves (command.CutsUpdate c) events f atomic other did = absurd atomic
command_leaves (command.Decompress c) events f atomic other did = remade_is_left (Decompress (remaking_asked None c)) events f atomic other did
command_leaves (command.Apart c) events f atomic other did = remade_is_left (Apart (remaking_asked None c)) events f atomic other did
command_leaves (command.Compress c) events f atomic other did = remade_is_left (Compress (remaking_asked None c)) events f atomic other did
command_leaves (command.Compact c) events f atomic other did = remade_is_left (Compact (remaking_asked c.blocks c.conversion) c.blocks) events f atomic other did
command_leaves (command.CompactApart c) events f atomic other did = remade_is_left (CompactApart (remaking_asked c.blocks c.conversion) c.blocks) events f atomic other did
command_leaves (command.Extract x) events f atomic other did = absurd atomic
command_leaves (command.Listing l) events f atomic other did = absurd atomic
command_leaves (command.Pack p) events f atomic other did = pack_leaves_files p.options.endian p events f atomic other did
command_leaves (command.PackCompressed p) events f atomic other did = pack_compressed_leaves_files p.options.endian p events f atomic other did
command_leaves (command.Verify v) events f atomic other did = absurd atomic

found_leaves : (image : Text) (asked : Command Text) (events : List Event) (f : Fault) → IsAtomic (product_of asked) → (f ≡ fault.Output → ⊥)
    → found_act (Some image) asked events (Err f) → LeavesFiles events
found_leaves image asked events f atomic other (Ends g did is) =
    let quiet = looks_quiet [] events (looking_makes_nothing (writes_image asked) image events (Err g) did) in record { others = quiet.others; removed = quiet.removed }
found_leaves image asked events f atomic other (GoesOn o before after did more is) =
    let rest = command_leaves (with_options o asked) after f (subst (λ (p : Product). IsAtomic p) (product_kept o asked) atomic) other more in
    let looked = looks_quiet [] before (looking_makes_nothing (writes_image asked) image before (Ok o) did) in
    let quiet = quiet_then [] before after looked (record { others = rest.others; removed = rest.removed }) in
    subst (λ (l : List Event). LeavesFiles l) (sym is) (record { others = quiet.others; removed = quiet.removed })

image_leaves : (image : Option Text) (asked : Command Text) (events : List Event) (f : Fault) → IsAtomic (product_of asked) → (f ≡ fault.Output → ⊥)
    → found_act image asked events (Err f) → LeavesFiles events
image_leaves None asked events f atomic other did = command_leaves asked events f atomic other did
image_leaves (Some image) asked events f atomic other did = found_leaves image asked events f atomic other did

-- before that it is told which part of its images is read
read_leaves : (asked : Request Text) (events : List Event) (f : Fault) → IsAtomic (product_of asked.command) → (f ≡ fault.Output → ⊥) → read_act asked events (Err f) → LeavesFiles events
read_leaves asked events f atomic other (Ends g did is) =
    let looks = part_looks asked.region (image_left asked) asked.command events (Err g) did in
    let quiet = looks_quiet [] events looks in record { others = quiet.others; removed = quiet.removed }
read_leaves asked events f atomic other (GoesOn done before after did more is) =
    let rest = image_leaves (image_looked asked) asked.command after f atomic other more in
    let looked = looks_quiet [] before (part_looks asked.region (image_left asked) asked.command before (Ok done) did) in
    let quiet = quiet_then [] before after looked (record { others = rest.others; removed = rest.removed }) in
    subst (λ (l : List Event). LeavesFiles l) (sym is) (record { others = quiet.others; removed = quiet.removed })

-- and before that, in which form its lines go out
pub atomic_commands_leave_files : AtomicCommandsLeaveFiles
atomic_commands_leave_files asked events f atomic other (Ends g did is) =
    let looks = form_looks (lines_asked asked) events (Err g) did in
    let quiet = looks_quiet [] events looks in record { others = quiet.others; removed = quiet.removed }
atomic_commands_leave_files asked events f atomic other (GoesOn done before after did more is) =
    let rest = read_leaves asked after f atomic other more in
    let looked = looks_quiet [] before (form_looks (lines_asked asked) before (Ok done) did) in
    let quiet = quiet_then [] before after looked (record { others = rest.others; removed = rest.removed }) in
    subst (λ (l : List Event). LeavesFiles l) (sym is) (record { others = quiet.others; removed = quiet.removed })
