-- What is written, compressed, for a tree's text holds the tree.
use Rattle.std.proofs.Common.{◌≡◌, ◌∙◌, ℕ, ◌*◌, ◌<◌, ◌≤◌, List, [], length, Ok, ap, arith, inr, subst, sym}
use Rattle.jnode.specs.declared.node.NodeRef.{NodeRef}
use Rattle.jnode.specs.declared.order.Endian.{Endian}
use Rattle.jscan.specs.Pages.{page_size}
use Rattle.jmount.specs.Tree.{State}
use Rattle.jsteps.specs.Nodes.{index_of}
use Rattle.jsteps.specs.Refusals.{plans_of}
use Rattle.jsteps.specs.declared.op.Op.{Op}
use Rattle.jsteps.proofs.FewLemmas.{sizes_are_pages}
use Rattle.jview.specs.Through.{MountsThroughAs}
use Rattle.jlisting.specs.Listing.{lines_of}
use Rattle.jlog.specs.HeadlineThrough.{index_through}
use Rattle.jbuild.specs.HostFiles.{part_contents}
use Rattle.jbuild.specs.Operations.{ops_in}
use Rattle.jbuild.specs.declared.host_files.HostFiles.{HostFiles}
use Rattle.jfolder.specs.Actions.{FitsListing}
use Rattle.jfolder.specs.Text.{listing_text}
use Rattle.jfolder.specs.Trees.{IsTree}
use Rattle.jfolder.specs.declared.tree.Attributes.{Attributes}
use Rattle.jfolder.specs.declared.tree.Item.{Item}
use Rattle.jtree.specs.Holding.{HoldsTree}
use Rattle.jtree.proofs.RoomLemmas.{AreAllAccepted, planned_at_most}
use Rattle.jtree.proofs.TreeLemmas.{lines_lawful}
use Rattle.jdevice.specs.Run.{device_image}
use Rattle.jedge.specs.Calls.{Event}
use Rattle.jedge.specs.Told.{Told}
use Rattle.jmakes.specs.Making.{filled_to}
use Rattle.jupdates.specs.Asked.{DeviceWanted}
use Rattle.jupdates.specs.Laws.{made_of_nothing}
use Rattle.jupdates.proofs.BuiltLemmas.{made_from_nothing, no_nodes, some_size}
use Rattle.jupdates.proofs.FilledLemmas.{FillsWithin, filled_shows}
use Rattle.jupdates.proofs.ShownLemmas.{IsMadeWell, IsTextRun, all_planned, run_made, run_shown}
use Rattle.jpacks.specs.Held.{all_written}
use Rattle.jpacks.proofs.WrittenLemmas.{closed_written, created_written, looks_written, written_first, written_later}

-- all that was written is the image, filled up
run_written : (e : Endian) (wanted : DeviceWanted) (image : List ℕ) (before : HostFiles) (text : List ℕ) (events : List Event) (told : Told) → (ran : IsTextRun e wanted image before text events told)
    → (made : IsMadeWell wanted ran.m.image ran.run ran.last) → all_written events ≡ filled_to wanted.file.filling (device_image wanted.on ran.m.image ran.run)
run_written e wanted image before text events told ran made =
    let put = made.put in
    written_later ran.looked ran.last ran.all (looks_written ran.looked ran.looks)
    ∙ (written_first made.during made.printing made.all (looks_written made.printing made.prints_line)
    ∙ (written_later put.opening put.closing put.all (created_written wanted.file put.place put.opening put.opens)
    ∙ closed_written put.place wanted.file.filling put.failures (device_image wanted.on ran.m.image ran.run) put.closing put.ends))

-- The operations of the lines of a tree's text were run on an empty image, and it went to the file:
-- what was written mounts through its compression, and holds the tree.
pub run_holds : (e : Endian) (wanted : DeviceWanted) (before : HostFiles) (text : List ℕ) (events : List Event) (told : Told) (root : Attributes) (items : List Item) → (ran : IsTextRun e wanted [] before text events told)
    → FitsListing root items → IsTree items → lines_of (listing_text root items) ≡ Ok ran.lines → FillsWithin (wanted.on.flash.blocks * wanted.on.flash.geometry.block) wanted.file.filling
    → (s : State) × MountsThroughAs e wanted.on.flash.geometry.block (all_written events) s × HoldsTree e (part_contents ran.files) root items s
run_holds e wanted before text events told root items ran fits tree read fills =
    let size : ℕ = wanted.on.flash.geometry.block in
    let blocks : ℕ = wanted.on.flash.blocks in
    let page : ℕ = page_size wanted.on.flash.page in
    let ops : List Op = ops_in e (part_contents ran.files) ran.lines in
    let same : ran.of.ops ≡ ops = ran.ops_are.0 in
    let out : List ℕ = device_image wanted.on ran.m.image ran.run in
    let made = run_made e wanted [] before text events told ran in
    let shown = run_shown e wanted [] before text events told ran made.none in
    let some : 0 < size = some_size size shown.flash.readable in
    let planned : length ran.of.ops ≤ length (plans_of page (index_of []) ran.of.ops) =
    subst (λ (ns : List NodeRef). length ran.of.ops ≤ length (plans_of page (index_of ns) ran.of.ops)) (no_nodes e size some)
    (subst (λ (i : List ℕ). length ran.of.ops ≤ length (plans_of page (index_through e size i) ran.of.ops)) ran.mounts.0
    (all_planned e wanted.on ran.m.image ran.of.ops ran.run ran.is made.none)) in
    let most : length (plans_of page (index_of []) ran.of.ops) ≤ length ran.of.ops = planned_at_most page (index_of []) ran.of.ops in
    let whole : AreAllAccepted page (index_of []) ran.of.ops = omega (arith, planned, most) in
    let accepts : AreAllAccepted page (index_of []) ops = subst (λ (l : List Op). AreAllAccepted page (index_of []) l) same whole in
    let lawful = lines_lawful page e (part_contents ran.files) root items ran.lines (sizes_are_pages wanted.on.flash.page) fits tree (inr accepts) read in
    let state_is = made_from_nothing e wanted.on ran.of.ops some ∙ ap (made_of_nothing wanted.on.flash.page) same in
    let mounts : MountsThroughAs e size out (made_of_nothing wanted.on.flash.page ops) = subst (λ (s : State). MountsThroughAs e size out s) state_is shown.shows in
    let filled : MountsThroughAs e size (filled_to wanted.file.filling out) (made_of_nothing wanted.on.flash.page ops) =
    filled_shows e size blocks out wanted.file.filling _ shown.flash.readable shown.flash.small shown.within fills mounts in (
      made_of_nothing wanted.on.flash.page ops,
      subst (λ (l : List ℕ). MountsThroughAs e size l (made_of_nothing wanted.on.flash.page ops)) (sym (run_written e wanted [] before text events told ran made)) filled,
      lawful.makes.holds,
    )
