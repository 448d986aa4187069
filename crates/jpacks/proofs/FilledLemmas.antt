-- What is put out for a tree's text holds the tree, also if erased flash follows it.
use Rattle.std.proofs.Common.{◌≡◌, ◌∙◌, ℕ, ◌+◌, ◌-◌, ◌*◌, ◌<◌, ◌≤◌, Bool, true, false, List, [], ◌++◌, length, length-append, map, Option, Some, None, Ok, Err, ap, arith, inl, inr, refl, subst, sym}
use Rattle.std.specs.Prelude.{IsTrue, IsOk, ◌&&◌, if◌then◌else◌}
use Rattle.std.specs.List.{AllByRecursion}
use Rattle.std.specs.Io.KnownBytes.{Appends}
use Rattle.std.proofs.lemmas.Bool.{leb-true}
use Rattle.std.proofs.lemmas.List.{length-replicate, take_all}
use Rattle.flashbase.specs.Bytes.{erased}
use Rattle.jnode.specs.Writing.{canonical}
use Rattle.jnode.specs.declared.node.NodeRef.{NodeRef}
use Rattle.jnode.specs.declared.order.Endian.{Endian}
use Rattle.jscan.specs.Blank.{blank_from}
use Rattle.jscan.specs.Pages.{page_size}
use Rattle.jscan.specs.declared.page.Page.{Page}
use Rattle.jmount.specs.Mount.{Mount}
use Rattle.jmount.specs.Mounts.{MountsAs, plain_nodes}
use Rattle.jmount.specs.Tree.{State}
use Rattle.jsteps.specs.Laws.{GoesOn}
use Rattle.jsteps.specs.Nodes.{Indexed, index_of}
use Rattle.jsteps.specs.Refusals.{plans_of, steps_of_first}
use Rattle.jsteps.specs.declared.op.Op.{Op}
use Rattle.jsteps.specs.declared.step.Step.{Step}
use Rattle.jsteps.proofs.FewLemmas.{sizes_are_pages}
use Rattle.jsteps.proofs.GoesOnLemmas.{planned_goes_on}
use Rattle.jlisting.specs.Listing.{lines_of}
use Rattle.jlisting.specs.declared.line.Line.{Line}
use Rattle.jlog.specs.Headline.{index_of_image, is_flash_of, new_nodes, resume_address}
use Rattle.jlog.specs.Laws.{FitsBlock}
use Rattle.jlog.specs.Left.{IsLeft, HoldsWritten, HoldsMarker}
use Rattle.jlog.specs.Output.{output}
use Rattle.jlog.specs.Places.{end_of_all, fit}
use Rattle.jlog.specs.Resuming.{page_fits, resumes_by}
use Rattle.jlog.specs.Running.{written}
use Rattle.jlog.specs.declared.fault.SessionFault.TheVariants as session
use Rattle.jlog.specs.declared.report.Place.{Place}
use Rattle.jlog.proofs.ByteLemmas.{erased_end}
use Rattle.jlog.proofs.ExistLemmas.{written_is_left}
use Rattle.jlog.proofs.HeadlineLemmas.{all_fit, planned_loggable, readable}
use Rattle.jlog.proofs.ImageLemmas.{block_size}
use Rattle.jlog.proofs.IntactLemmas.{has_room, output_is_long}
use Rattle.jlog.proofs.PlaceLemmas.{times_words}
use Rattle.jlog.proofs.ResumeLemmas.{resumes_within}
use Rattle.jlog.proofs.RoomLemmas.{end_is_within}
use Rattle.jbuild.specs.Emitting.{IsEmitted, front_before, paged_flash}
use Rattle.jbuild.specs.Operations.{ops_in}
use Rattle.jfolder.specs.Actions.{FitsListing}
use Rattle.jfolder.specs.Text.{listing_text}
use Rattle.jfolder.specs.Trees.{IsTree}
use Rattle.jfolder.specs.declared.tree.Attributes.{Attributes}
use Rattle.jfolder.specs.declared.tree.Item.{Item}
use Rattle.jtree.specs.Holding.{HoldsTree}
use Rattle.jtree.specs.Image.{out_for}
use Rattle.jtree.specs.Making.{Files}
use Rattle.jtree.specs.Numbers.{HaveDeviceNumbers}
use Rattle.jtree.proofs.EmptyLemmas.{empty_is_bare}
use Rattle.jtree.proofs.RoomLemmas.{AreAllAccepted, planned_at_most}
use Rattle.jtree.proofs.TreeLemmas.{image_of_lines, lines_lawful}
use Rattle.jmakes.specs.Making.{fill_length, filled_to}
use Rattle.jmakes.specs.declared.wanted.Filling.{Filling}
use Rattle.jupdates.proofs.FilledLemmas.{FillsWithin}

-- ---- erased flash behind what is left

filled_left : (e : Endian) (size blocks : ℕ) (base : List ℕ) (from : ℕ) (out : List ℕ) (k : ℕ) (image : List ℕ) (n : ℕ) → length image + n ≤ blocks * size
    → IsLeft e size blocks base from out k image → IsLeft e size blocks base from out k (image ++ erased n)
filled_left e size blocks base from out k image n room left = record {
  no_longer = omega (arith, room, length-append image (erased n), length-replicate {A = ℕ} n 0xFF);
  stays = λ at less. erased_end image n at ∙ left.stays at less;
  each = λ block within. elim (left.each block within) [
    | inl holds ↦ inl (λ i inside low. erased_end image n (block * size + i) ∙ holds i inside low)
    | inr marked ↦ inr (
      marked.0,
      record {
        unwritten = marked.1.unwritten;
        before = marked.1.before;
        no_fewer = marked.1.no_fewer;
        most = marked.1.most;
        bytes = λ i inside. erased_end image n (block * size + i) ∙ marked.1.bytes i inside;
      },
    )
  ];
}

all_left : (e : Endian) (size blocks : ℕ) (base : List ℕ) (from : ℕ) (out : List ℕ) (k : ℕ) (image : List ℕ) (to : Option Filling) → FillsWithin (blocks * size) to
    → IsLeft e size blocks base from out k image → IsLeft e size blocks base from out k (filled_to to image)
all_left e size blocks base from out k image None fills left = left
all_left e size blocks base from out k image (Some filling) fills left =
    let n : ℕ = fill_length filling (length image) in
    filled_left e size blocks base from out k image n (omega (arith, fills image left.no_longer, length-append image (erased n), length-replicate {A = ℕ} n 0xFF)) left

-- ---- a run that nothing stopped

-- what a sink has that took two texts and had nothing
both_taken : (first second image : List ℕ) (between : Option (List ℕ)) → Appends (Some []) between first → Appends between (Some image) second → image ≡ first ++ second
both_taken first second image None front rest = absurd front
both_taken first second image (Some bytes) front rest = rest ∙ ap (λ bs. bs ++ second) front

-- an image that is gone on from fits its flash, and so does a page
record Goes (page : Page) (size blocks : ℕ) (base : List ℕ) : Type 0 where
  flash : IsTrue (is_flash_of size blocks base)
  room : page_size page + 80 ≤ size

goes_on : (page : Page) (e : Endian) (size blocks : ℕ) (m : Mount) → IsOk (resumes_by page e size blocks m) → Goes page size blocks m.image
goes_on page e size blocks m ok =
    let both = by m.read_only (is_flash_of size blocks m.image) (page_fits size page) ok in
    record { flash = both.0; room = leb-true _ _ both.1 }
  where
    by : (b c d : Bool) → IsOk (if b then Err session.ReadOnly else (if c && d then Ok (resume_address e size blocks m.image) else Err session.Geometry)) → IsTrue c × IsTrue d
    by true c d is = cc
    by false true true is = (refl, refl)
    by false true false is = cc
    by false false d is = cc

-- The operations of the lines of a tree's text were put out on the empty image, and nothing stopped
-- them. What was put holds the tree, and so it does filled up.
pub filled_holds : (page : Page) (e : Endian) (size blocks accepted before now : ℕ) (places : List Place) (image : List ℕ) (files : Files) (root : Attributes) (items : List Item) (lines : List Line)
    (m : Mount) (to : Option Filling) → FitsListing root items → IsTree items → lines_of (listing_text root items) ≡ Ok lines
    → m.image ≡ [] → IsOk (resumes_by page e size blocks m) → FillsWithin (blocks * size) to
    → IsEmitted (paged_flash page e size blocks) m.image (ops_in e files lines) accepted places None (record { old = Some []; new = Some image; before = before; now = now })
    → (s : State) × MountsAs e size (filled_to to image) s × HoldsTree e files root items s × HaveDeviceNumbers e (plain_nodes e size (filled_to to image)) s items
filled_holds page e size blocks accepted before now places image files root items lines m to fits tree read none resumes fills was =
    let goes : Goes page size blocks [] = subst (Goes page size blocks) none (goes_on page e size blocks m resumes) in
    let emitted : IsEmitted (paged_flash page e size blocks) [] (ops_in e files lines) accepted places None (record { old = Some []; new = Some image; before = before; now = now }) =
    subst (λ (base : List ℕ). IsEmitted (paged_flash page e size blocks) base (ops_in e files lines) accepted places None (record { old = Some []; new = Some image; before = before; now = now })) none was in
    let p : ℕ = page_size page in
    let is_page = sizes_are_pages page in
    let ops : List Op = ops_in e files lines in
    let empty = empty_is_bare e size blocks goes.flash in
    let from : ℕ = resume_address e size blocks [] in
    let x : Indexed = index_of_image e size [] in
    let steps : List Step = steps_of_first p x ops (length ops) in
    let new : List NodeRef = new_nodes e size [] steps in
    let nodes : List (List ℕ) = map (canonical e) new in
    let out : List ℕ = out_for p e size blocks [] ops in
    let front : List ℕ = front_before e size blocks [] in
    let sized = readable e size blocks [] empty.base_is in
    let words = (block_size size sized).words in
    let all : accepted ≡ length ops = emitted.runs.0 in
    let run = emitted.runs.2 in
    let planned : accepted ≤ length (plans_of p x ops) = run.planned in
    let most : length (plans_of p x ops) ≤ length ops = planned_at_most p x ops in
    let whole : AreAllAccepted p x ops = omega arith in
    let accepts : AreAllAccepted p (index_of []) ops = subst (λ (ns : List NodeRef). AreAllAccepted p (index_of ns) ops) empty.bare whole in
    let made = lines_lawful p e files root items lines is_page fits tree (inr accepts) read in
    let go : GoesOn p (plain_nodes e size []) steps = planned_goes_on p (plain_nodes e size []) ops (length ops) is_page (all_fit e size [] sized empty.are_bytes) empty.base_is.mounts.root made.op_fits in
    let roomy : AllByRecursion (FitsBlock size) nodes = has_room e size new (planned_loggable p e size new is_page goes.room (go.written e)) in
    let within : IsTrue (fit size blocks from nodes) = subst (λ (n : ℕ). IsTrue (fit size blocks from (written e x (steps_of_first p x ops n)))) all run.fits in
    let took : Appends emitted.between (Some image) out = subst (λ (n : ℕ). Appends emitted.between (Some image) (output e size from (written e x (steps_of_first p x ops n)))) all run.wrote.bytes in
    let is : image ≡ front ++ out = both_taken front out image emitted.between emitted.front took in
    let long : from + length out ≡ end_of_all size from nodes = output_is_long e size from nodes words roomy in
    let ends : end_of_all size from nodes ≤ blocks * size =
    (end_is_within size blocks from nodes words roomy (times_words (blank_from e size [] blocks) size words) (resumes_within e size blocks []) within).0 in
    let left : IsLeft e size blocks [] from out (length out) image =
    subst (λ (bytes : List ℕ). IsLeft e size blocks [] from out (length out) bytes) (ap (λ bs. front ++ bs) (take_all (length out) out (omega arith)) ∙ sym is)
    (written_is_left e size blocks from (length out) [] out (omega (arith, long, ends))) in
    image_of_lines p e size blocks [] (filled_to to image) files root items lines fits tree (inr accepts) read (record {
      page_is = is_page;
      room = goes.room;
      base_is = empty.base_is;
      are_bytes = empty.are_bytes;
      bare = empty.bare;
      fits = within;
      left = all_left e size blocks [] from out (length out) image to fills left;
    })
