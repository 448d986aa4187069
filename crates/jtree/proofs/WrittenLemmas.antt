-- What is put out for a tree's text is the image that holds the tree.
use Rattle.std.proofs.Common.{◌≡◌, ℕ, ◌+◌, ◌*◌, ◌≤◌, Bool, true, false, List, [], ◌++◌, length, map, Option, Some, None, Ok, Err, inr, refl, ap, sym, subst, ◌∙◌, arith}
use Rattle.std.specs.Prelude.{IsTrue, IsOk, ◌&&◌, if◌then◌else◌}
use Rattle.std.specs.List.{AllByRecursion}
use Rattle.std.specs.Io.KnownBytes.{Appends}
use Rattle.std.proofs.lemmas.Bool.{leb-true}
use Rattle.std.proofs.lemmas.List.{take_all}
use Rattle.jnode.specs.Writing.{canonical}
use Rattle.jnode.specs.declared.node.NodeRef.{NodeRef}
use Rattle.jnode.specs.declared.order.Endian.{Endian}
use Rattle.jscan.specs.Blank.{blank_from}
use Rattle.jmount.specs.Mounts.{MountsAs, plain_nodes}
use Rattle.jmount.specs.Tree.{State}
use Rattle.jsteps.specs.Laws.{GoesOn}
use Rattle.jsteps.specs.Nodes.{Indexed, index_of}
use Rattle.jscan.specs.Pages.{page_size}
use Rattle.jsteps.specs.Refusals.{plans_of, steps_of_first}
use Rattle.jsteps.specs.declared.op.Op.{Op}
use Rattle.jscan.specs.declared.page.Page.{Page}
use Rattle.jsteps.specs.declared.step.Step.{Step}
use Rattle.jsteps.proofs.FewLemmas.{sizes_are_pages}
use Rattle.jsteps.proofs.GoesOnLemmas.{planned_goes_on}
use Rattle.jlisting.specs.Listing.{lines_of}
use Rattle.jlisting.specs.declared.line.Line.{Line}
use Rattle.jlog.specs.Headline.{index_of_image, is_flash_of, new_nodes, resume_address}
use Rattle.jlog.specs.Laws.{FitsBlock}
use Rattle.jlog.specs.Left.{IsLeft}
use Rattle.jlog.specs.Output.{output}
use Rattle.jlog.specs.Places.{end_of_all, fit}
use Rattle.jlog.specs.Resuming.{page_fits, resumes_by}
use Rattle.jlog.specs.Running.{written}
use Rattle.jlog.specs.declared.fault.SessionFault.TheVariants as session
use Rattle.jlog.specs.declared.report.Place.{Place}
use Rattle.jlog.proofs.ExistLemmas.{written_is_left}
use Rattle.jlog.proofs.HeadlineLemmas.{all_fit, planned_loggable, readable}
use Rattle.jlog.proofs.ImageLemmas.{block_size}
use Rattle.jlog.proofs.IntactLemmas.{has_room, output_is_long}
use Rattle.jlog.proofs.PlaceLemmas.{times_words}
use Rattle.jlog.proofs.ResumeLemmas.{resumes_within}
use Rattle.jlog.proofs.RoomLemmas.{end_is_within}
use Rattle.jbuild.specs.Emitting.{IsEmitted, front_before, paged_flash}
use Rattle.jbuild.specs.Operations.{ops_in}
use Rattle.jfolder.specs.Actions.{FitsListing}
use Rattle.jfolder.specs.Text.{listing_text}
use Rattle.jfolder.specs.Trees.{IsTree}
use Rattle.jfolder.specs.declared.tree.Attributes.{Attributes}
use Rattle.jfolder.specs.declared.tree.Item.{Item}
use Rattle.jmount.specs.Mount.{Mount}
use Rattle.jtree.specs.Holding.{HoldsTree}
use Rattle.jtree.specs.Image.{out_for}
use Rattle.jtree.specs.Making.{Files}
use Rattle.jtree.specs.Numbers.{HaveDeviceNumbers}
use Rattle.jtree.specs.Written.{PutOutHoldsTree}
use Rattle.jtree.proofs.EmptyLemmas.{empty_is_bare}
use Rattle.jtree.proofs.RoomLemmas.{AreAllAccepted, planned_at_most}
use Rattle.jtree.proofs.TreeLemmas.{image_of_lines, lines_lawful}

-- what a sink has that took two texts and had nothing
both_taken : (first second image : List ℕ) (between : Option (List ℕ)) → Appends (Some []) between first → Appends between (Some image) second → image ≡ first ++ second
both_taken first second image None front rest = absurd front
both_taken first second image (Some bytes) front rest = rest ∙ ap (λ bs. bs ++ second) front

-- an image that is gone on from fits its flash, and so does a page
record Goes (page : Page) (size blocks : ℕ) (base : List ℕ) : Type 0 where
  flash : IsTrue (is_flash_of size blocks base)
  room : page_size page + 80 ≤ size

goes_on : (page : Page) (e : Endian) (size blocks : ℕ) (m : Mount) → IsOk (resumes_by page e size blocks m) → Goes page size blocks m.image
goes_on page e size blocks m ok =
    let both = by m.read_only (is_flash_of size blocks m.image) (page_fits size page) ok in
    record { flash = both.0; room = leb-true _ _ both.1 }
  where
    by : (b c d : Bool) → IsOk (if b then Err session.ReadOnly else (if c && d then Ok (resume_address e size blocks m.image) else Err session.Geometry)) → IsTrue c × IsTrue d
    by true c d is = cc
    by false true true is = (refl, refl)
    by false true false is = cc
    by false false d is = cc

put_out : (page : Page) (e : Endian) (size blocks accepted before now : ℕ) (places : List Place) (image : List ℕ) (files : Files) (root : Attributes) (items : List Item) (lines : List Line)
    → FitsListing root items → IsTree items → lines_of (listing_text root items) ≡ Ok lines
    → Goes page size blocks [] → IsEmitted (paged_flash page e size blocks) [] (ops_in e files lines) accepted places None (record { old = Some []; new = Some image; before = before; now = now })
    → (s : State) × MountsAs e size image s × HoldsTree e files root items s × HaveDeviceNumbers e (plain_nodes e size image) s items
put_out page e size blocks accepted before now places image files root items lines fits tree read goes emitted =
    let p : ℕ = page_size page in
    let is_page = sizes_are_pages page in
    let ops : List Op = ops_in e files lines in
    let empty = empty_is_bare e size blocks goes.flash in
    let from : ℕ = resume_address e size blocks [] in
    let x : Indexed = index_of_image e size [] in
    let steps : List Step = steps_of_first p x ops (length ops) in
    let new : List NodeRef = new_nodes e size [] steps in
    let nodes : List (List ℕ) = map (canonical e) new in
    let out : List ℕ = out_for p e size blocks [] ops in
    let front : List ℕ = front_before e size blocks [] in
    let sized = readable e size blocks [] empty.base_is in
    let words = (block_size size sized).words in
    let all : accepted ≡ length ops = emitted.runs.0 in
    let run = emitted.runs.2 in
    let planned : accepted ≤ length (plans_of p x ops) = run.planned in
    let most : length (plans_of p x ops) ≤ length ops = planned_at_most p x ops in
    let whole : AreAllAccepted p x ops = omega arith in
    let accepts : AreAllAccepted p (index_of []) ops = subst (λ (ns : List NodeRef). AreAllAccepted p (index_of ns) ops) empty.bare whole in
    let made = lines_lawful p e files root items lines is_page fits tree (inr accepts) read in
    let go : GoesOn p (plain_nodes e size []) steps = planned_goes_on p (plain_nodes e size []) ops (length ops) is_page (all_fit e size [] sized empty.are_bytes) empty.base_is.mounts.root made.op_fits in
    let roomy : AllByRecursion (FitsBlock size) nodes = has_room e size new (planned_loggable p e size new is_page goes.room (go.written e)) in
    let within : IsTrue (fit size blocks from nodes) = subst (λ (n : ℕ). IsTrue (fit size blocks from (written e x (steps_of_first p x ops n)))) all run.fits in
    let took : Appends emitted.between (Some image) out = subst (λ (n : ℕ). Appends emitted.between (Some image) (output e size from (written e x (steps_of_first p x ops n)))) all run.wrote.bytes in
    let is : image ≡ front ++ out = both_taken front out image emitted.between emitted.front took in
    let long : from + length out ≡ end_of_all size from nodes = output_is_long e size from nodes words roomy in
    let ends : end_of_all size from nodes ≤ blocks * size =
    (end_is_within size blocks from nodes words roomy (times_words (blank_from e size [] blocks) size words) (resumes_within e size blocks []) within).0 in
    let left : IsLeft e size blocks [] from out (length out) image =
    subst (λ (bytes : List ℕ). IsLeft e size blocks [] from out (length out) bytes) (ap (λ bs. front ++ bs) (take_all (length out) out (omega arith)) ∙ sym is)
    (written_is_left e size blocks from (length out) [] out (omega (arith, long, ends))) in
    image_of_lines p e size blocks [] image files root items lines fits tree (inr accepts) read (record {
      page_is = is_page;
      room = goes.room;
      base_is = empty.base_is;
      are_bytes = empty.are_bytes;
      bare = empty.bare;
      fits = within;
      left = left;
    })

pub put_out_holds_tree : PutOutHoldsTree
put_out_holds_tree page e size blocks image files root items lines fits tree read out =
    let goes = subst (Goes page size blocks) out.mounts.0 (goes_on page e size blocks out.mount out.resumes) in
    put_out page e size blocks out.accepted out.before out.now out.places image files root items lines fits tree read goes
    (subst (λ (base : List ℕ). IsEmitted (paged_flash page e size blocks) base (ops_in e files lines) out.accepted out.places None (record { old = Some []; new = Some image; before = out.before; now = out.now })) out.mounts.0 out.emitted)
