-- What stands after all items is the tree, and nothing else.
use Rattle.std.proofs.Common.{◌≡◌, ℕ, ◌+◌, ◌*◌, ◌≤◌, List, [], ◌∷◌, ◌++◌, length, map, Option, Some, None, Result, Ok, refl, ap, sym, ◌∙◌, subst, inl, inr, ◌⊎◌, ⊎_elim, arith}
use Rattle.std.specs.Prelude.{Contains, flat_map, is_ok}
use Rattle.std.specs.String.{string_bytes}
use Rattle.std.proofs.lemmas.Bool.{false≢true}
use Rattle.std.specs.List.{AllByRecursion}
use Rattle.jmount.specs.Mounts.{MountsAs, plain_nodes}
use Rattle.jsteps.specs.Laws.{GoesOn, OpFits}
use Rattle.jscan.specs.Pages.{IsPage}
use Rattle.jsteps.specs.Refusals.{plans_of, steps_of_first}
use Rattle.jnode.specs.declared.order.Endian.{Endian}
use Rattle.jlisting.specs.Listing.{lines_of}
use Rattle.jfolder.specs.Text.{listing_text}
use Rattle.jfolder.specs.Trees.{IsTree}
use Rattle.jlog.specs.Headline.{new_nodes}
use Rattle.jlog.specs.Output.{output}
use Rattle.jlog.proofs.HeadlineLemmas.{accepted_survives, all_fit, readable, soundly}
use Rattle.jlog.proofs.SoundLemmas.{whole_is_sound}
use Rattle.jnode.specs.Writing.{canonical}
use Rattle.jnode.specs.declared.node.NodeRef.{NodeRef}
use Rattle.jscan.specs.Blank.{blank_from}
use Rattle.jsteps.proofs.GoesOnLemmas.{planned_goes_on}
use Rattle.jmount.specs.Find.{IsPath, path_text, path_names, find, find_names, walk}
use Rattle.jmount.specs.StateOf.{state_of}
use Rattle.jmount.specs.Tree.{ObjectOf, State}
use Rattle.jmount.specs.Shape.{HasShape}
use Rattle.jmount.proofs.PathNameLemmas.{path_names_exactly}
use Rattle.jmount.proofs.ShapePathLemmas.{one_path_to_each}
use Rattle.jsteps.specs.Nodes.{Indexed, advanced_all, index_of, nodes_of}
use Rattle.jsteps.specs.Steps.{bytes, after}
use Rattle.jsteps.specs.Where.{names_on_path}
use Rattle.jsteps.specs.declared.op.Op.{Op}
use Rattle.jsteps.specs.declared.step.Step.{Step}
use Rattle.jlisting.specs.declared.line.Line.{Line}
use Rattle.jbuild.specs.Operations.{ops_in}
use Rattle.jfolder.specs.Actions.{FitsListing, actions_of, item_actions}
use Rattle.jfolder.specs.declared.tree.Attributes.{Attributes}
use Rattle.jfolder.specs.declared.tree.Item.{Item}
use Rattle.jfolder.specs.declared.tree.What.{What}
use Rattle.jfolder.specs.declared.tree.What.TheVariants as what
use Rattle.jfolder.proofs.ListingLemmas.{listing_is_read_back}
use Rattle.jtree.specs.Holding.{HoldsObject, HoldsTree, first_path_of, first_path, root_object}
use Rattle.jtree.specs.Image as image
use Rattle.jtree.specs.Image.{IsWrittenFor}
use Rattle.jtree.specs.Laws as law
use Rattle.jtree.specs.Laws.{MakesTree}
use Rattle.jtree.specs.Making.{AreFew, Files, FilesFit, op_with, ops_with}
use Rattle.jtree.specs.Numbers.{HasDeviceNumber, HaveDeviceNumbers}
use Rattle.jsteps.proofs.SeveralLemmas.{nodes_are_steps}
use Rattle.jtree.proofs.BeginLemmas.{root_op, root_reaches}
use Rattle.jtree.proofs.AppendLemmas.{after-append}
use Rattle.jtree.proofs.ItemLemmas.{IsKnown, Contains-from_map, Contains-mapped, made_of, names_of}
use Rattle.jtree.proofs.ObjectLemmas.{IsNumbered, made_at}
use Rattle.jtree.proofs.RunLemmas.{reaches_then, runs_all, runs_steps}
use Rattle.jtree.proofs.StandLemmas.{IsHeld, Made, Stands}
use Rattle.jtree.proofs.WayLemmas.{path_is, walk_last}
use Rattle.jtree.proofs.RoomLemmas.{AreAllAccepted, accepted_back}
use Rattle.jtree.proofs.WholeLemmas.{AreFewFrom, items_done, numbered_after}

-- ---- paths

found_is : (s : State) (path : List ℕ) (names : List (List ℕ)) → IsPath path names → find s path ≡ walk s names (Ok 1)
found_is s path names is = ap (find_names s) (path_is path names is)

record IsFound (s : State) (path : List ℕ) (number : ℕ) : Type 0 where
  names : List (List ℕ)
  path_of : IsPath path names
  leads : walk s names (Ok 1) ≡ Ok number

found_names : (s : State) (path : List ℕ) (number : ℕ) → find s path ≡ Ok number → IsFound s path number
found_names s path number e = by (path_names path) refl
  where
    by : (o : Option (List (List ℕ))) → path_names path ≡ o → IsFound s path number
    by None is = absurd (false≢true (ap is_ok (sym (ap (find_names s) is) ∙ e)))
    by (Some names) is = record { names = names; path_of = (path_names_exactly path names).0 is; leads = sym (ap (find_names s) is) ∙ e }

split_last : (x : List ℕ) (xs : List (List ℕ)) → (front : List (List ℕ)) × (last : List ℕ) × (x ∷ xs ≡ front ++ last ∷ [])
split_last x [] = ([], x, refl)
split_last x (y ∷ ys) = let rest = split_last y ys in (x ∷ rest.0, rest.1, ap (λ zs. x ∷ zs) rest.2)

-- ---- items

holds_object : (e : Endian) (s : State) (files : Files) (path : List ℕ) (a : Attributes) (w : What) → IsHeld s (made_at e files path a w) → IsPath path (names_on_path path)
    → IsPath (first_path path w) (names_on_path (first_path path w)) → HoldsObject e files s path a w
holds_object e s files path a what.Directory h is first = record {
  number = h.number;
  found = found_is s path (names_on_path path) is ∙ h.leads;
  below_root =
      h.below_root;
  object = h.there refl;
}
holds_object e s files path a (what.Regular file) h is first = record {
  number = h.number;
  found = found_is s path (names_on_path path) is ∙ h.leads;
  below_root =
      h.below_root;
  object = h.there refl;
}
holds_object e s files path a (what.Device device major minor) h is first = record {
  number = h.number;
  found = found_is s path (names_on_path path) is ∙ h.leads;
  below_root =
      h.below_root;
  object = h.there refl;
}
holds_object e s files path a what.Fifo h is first = record {
  number = h.number;
  found = found_is s path (names_on_path path) is ∙ h.leads;
  below_root =
      h.below_root;
  object = h.there refl;
}
holds_object e s files path a what.Socket h is first = record {
  number = h.number;
  found = found_is s path (names_on_path path) is ∙ h.leads;
  below_root =
      h.below_root;
  object = h.there refl;
}
holds_object e s files path a (what.Symlink t) h is first = record {
  number = h.number;
  found = found_is s path (names_on_path path) is ∙ h.leads;
  below_root =
      h.below_root;
  object = h.there refl;
}
holds_object e s files path a (what.Link old) h is first =
    found_is s path (names_on_path path) is ∙ h.leads ∙ sym (found_is s (string_bytes old) (names_on_path (string_bytes old)) first ∙ h.first)

same_first : (a b : List ℕ) → IsPath a (names_on_path a) → IsPath b (names_on_path b) → names_on_path a ≡ names_on_path b → a ≡ b
same_first a b is_a is_b e = is_a.0 ∙ ap path_text e ∙ sym is_b.0

only_items : (e : Endian) (s : State) (files : Files) (root : ObjectOf (List ℕ)) (items : List Item) → Stands root (map (made_of e files) items) s
    → ((j : Item) → Contains items j → IsKnown j) → HasShape s
    → (path : List ℕ) (number : ℕ) (names : List (List ℕ)) → IsPath path names → walk s names (Ok 1) ≡ Ok number
    → (path ≡ 47 ∷ []) ⊎ ((i : Item) × Contains items i × (string_bytes i.path ≡ path))
only_items e s files root items stands known shape path number [] is led = inl is.0
only_items e s files root items stands known shape path number (n ∷ ns) is led =
    let split = split_last n ns in
    let l = walk_last s split.0 split.1 1 number (ap (λ ns. walk s ns (Ok 1)) (sym split.2) ∙ led) in
    let one = stands.names_are l.dir split.1 number l.steps.entry in
    let way : one.way ≡ split.0 = one_path_to_each s one.way split.0 l.dir shape one.leads l.leads l.steps.directory in
    let from = Contains-from_map (made_of e files) items one.m one.among in
    let names : names_of from.0 ≡ n ∷ ns = ap (λ (m : Made). m.names) from.2 ∙ one.names ∙ ap (λ ns. ns ++ split.1 ∷ []) way ∙ sym split.2 in
    inr (from.0, from.1, (known from.0 from.1).path.0 ∙ ap path_text names ∙ sym is.0)

holds_tree : (e : Endian) (s : State) (files : Files) (root : Attributes) (items : List Item) → Stands (root_object root) (map (made_of e files) items) s
    → ((j : Item) → Contains items j → IsKnown j) → HasShape s
    → HoldsTree e files root items s
holds_tree e s files root items stands known shape = record {
  root_is = stands.root_is;
  items_are = λ i among.
      let k = known i among in
      holds_object e s files (string_bytes i.path) i.attributes i.what (stands.held (made_of e files i) (Contains-mapped (made_of e files) items i among))
      k.path k.origin;
  apart = λ i j in_i in_j both.
      let k = known i in_i in
      let l = known j in_j in
      let m = Contains-mapped (made_of e files) items i in_i in
      let o = Contains-mapped (made_of e files) items j in_j in
      let h = stands.held (made_of e files i) m in
      let leads : walk s (names_of j) (Ok 1) ≡ Ok h.number = sym (found_is s (string_bytes j.path) (names_of j) l.path) ∙ sym both ∙ found_is s
      (string_bytes i.path) (names_of i) k.path ∙ h.leads in
      same_first (first_path_of i) (first_path_of j) k.origin l.origin (stands.apart (made_of e files i) (made_of e files j) m o h.number h.leads leads);
  nothing_else = λ path number led.
      let f = found_names s path number led in
      only_items e s files (root_object root) items stands known shape path number f.names f.path_of f.leads;
  no_more_objects = λ number there.
      ⊎_elim
      (λ (is : number ≡ 1). inl is)
      (λ (o : (m : Made) × Contains (map (made_of e files) items) m × (walk s m.names (Ok 1) ≡ Ok number)).
      let from = Contains-from_map (made_of e files) items o.0 o.1 in
      inr (
        from.0,
        from.1,
        found_is s (string_bytes from.0.path) (names_of from.0) (known from.0 from.1).path ∙ ap (λ (m : Made). walk s m.names (Ok 1))
            from.2 ∙ o.2,
      ))
      (stands.objects_are number there);
}

-- ---- the numbers of devices

has_number : (e : Endian) (x : Indexed) (s t : State) (steps : List Step) (path : List ℕ) (w : What) → IsPath path (names_on_path path) → IsNumbered e x s t steps (names_on_path path) w
    → HasDeviceNumber e (nodes_of x steps) t path w
has_number e x s t steps path (what.Device device major minor) is numbered = (numbered.number, found_is t path (names_on_path path) is ∙ numbered.leads, numbered.fill_is)
has_number e x s t steps path what.Directory is numbered = tt
has_number e x s t steps path (what.Regular file) is numbered = tt
has_number e x s t steps path what.Fifo is numbered = tt
has_number e x s t steps path what.Socket is numbered = tt
has_number e x s t steps path (what.Symlink target) is numbered = tt
has_number e x s t steps path (what.Link first) is numbered = tt

-- ---- the law

-- the law, and the widths of what the operations have
pub record IsLawful (page : ℕ) (e : Endian) (files : Files) (root : Attributes) (items : List Item) (ops : List Op) : Type 0 where
  pub makes : MakesTree page e files root items ops
  pub op_fits : AllByRecursion OpFits ops

lawful : (page : ℕ) (e : Endian) (files : Files) (root : Attributes) (items : List Item) → IsPage page → FitsListing root items → IsTree items
    → (FilesFit files items × AreFew files items) ⊎ AreAllAccepted page (index_of []) (ops_with e files (actions_of root items))
    → IsLawful page e files root items (ops_with e files (actions_of root items))
unfolding actions_of
lawful page e files root items is_page fits tree has =
    let s = state_of [] in
    let x = index_of [] in
    let one = root_reaches page root is_page fits.root_fits in
    let used : length one.steps ≤ 1 = one.few in
    let t = after bytes s one.steps in
    let room : AreFewFrom (0 + length one.steps) files items ⊎ AreAllAccepted page (advanced_all x one.steps) (ops_with e files (flat_map item_actions items)) =
    ⊎_elim
    (λ (few : FilesFit files items × AreFew files items).
    let some : AreFew files items = few.1 in
    inl (record { short = few.0; few = omega arith }))
    (λ all. inr (accepted_back page x (root_op root ∷ []) (ops_with e files (flat_map item_actions items)) one.steps one.runs all)) has in
    let all = items_done page (0 + length one.steps) e _ t files (root_object root) [] items is_page
    (record { is_at = one.is_at; stands = one.stands; known = λ j among. absurd (let less = among.1 in omega arith) })
    tree fits.items_fit room in
    let ops : List Op = ops_with e files (actions_of root items) in
    let r = reaches_then page 0 x s (root_op root ∷ []) (ops_with e files (flat_map item_actions items)) (root_object root) [] (map (made_of e files) items) 1
    _ one all.does.reached in
    let rest = all.does.reached in
    let these = sym (runs_steps page x ops r.steps r.runs) in
    let holds = holds_tree e (after bytes s r.steps) files root items r.stands all.known r.is_at.shape in
    let numbered : (j : Item) → Contains items j → HasDeviceNumber e (nodes_of x r.steps) (after bytes s r.steps) (string_bytes j.path) j.what = λ j among.
    has_number e x s (after bytes s r.steps) r.steps (string_bytes j.path) j.what (all.known j among).path
    (subst (λ (v : State). IsNumbered e x s v (one.steps ++ rest.steps) (names_of j) j.what) (sym (after-append s one.steps rest.steps))
    (numbered_after e x s (after bytes s one.steps) (after bytes (after bytes s one.steps) rest.steps) one.steps rest.steps (names_of j) j.what one.writes (all.does.numbered j among))) in
    let makes : MakesTree page e files root items ops = record {
      accepted = runs_all page x ops r.steps r.runs;
      holds = subst (λ steps. HoldsTree e files root items (after bytes s steps)) these holds;
      written = subst (λ steps. HoldsTree e files root items (state_of (nodes_of x steps))) these
          (subst (HoldsTree e files root items) (sym (nodes_are_steps [] r.steps r.ready).state) holds);
      numbered = subst (λ steps. HaveDeviceNumbers e (nodes_of x steps) (after bytes s steps) items) these numbered;
    } in
    record { makes = makes; op_fits = r.op_fits }

pub listing_makes_tree : law.ListingMakesTree
listing_makes_tree page e files root items is_page fits tree short few = (lawful page e files root items is_page fits tree (inl (short, few))).makes

-- the operations of lines are those of their actions
ops_of_lines : (e : Endian) (files : Files) (lines : List Line) → ops_in e files lines ≡ ops_with e files (map (λ line. line.action) lines)
ops_of_lines e files [] = refl
ops_of_lines e files (line ∷ lines) = ap (λ ops. op_with e files line.action ∷ ops) (ops_of_lines e files lines)

same_lines : (a b : List Line) → ◌≡◌ {A = Result (List Line) ℕ} (Ok a) (Ok b) → a ≡ b
same_lines a b e = cc

-- whatever lines the text is read as
pub lines_ops : (e : Endian) (files : Files) (root : Attributes) (items : List Item) (lines : List Line) → FitsListing root items → lines_of (listing_text root items) ≡ Ok lines
    → ops_in e files lines ≡ ops_with e files (actions_of root items)
lines_ops e files root items lines fits is =
    let read = listing_is_read_back root items fits in
    ap (ops_in e files) (same_lines lines read.0 (sym is ∙ read.1)) ∙ ops_of_lines e files read.0 ∙ ap (ops_with e files) read.2

pub lines_lawful : (page : ℕ) (e : Endian) (files : Files) (root : Attributes) (items : List Item) (lines : List Line) → IsPage page → FitsListing root items → IsTree items
    → (FilesFit files items × AreFew files items) ⊎ AreAllAccepted page (index_of []) (ops_in e files lines) → lines_of (listing_text root items) ≡ Ok lines
    → IsLawful page e files root items (ops_in e files lines)
lines_lawful page e files root items lines is_page fits tree has is =
    let same = lines_ops e files root items lines fits is in
    subst (IsLawful page e files root items) (sym same) (lawful page e files root items is_page fits tree
    (⊎_elim (λ few. inl few) (λ all. inr (subst (AreAllAccepted page (index_of [])) same all)) has))

pub text_makes_tree : law.TextMakesTree
text_makes_tree page e files root items is_page fits tree short few =
    let read = listing_is_read_back root items fits in
    (read.0, read.1, (lines_lawful page e files root items read.0 is_page fits tree (inl (short, few)) read.1).makes)

pub image_of_lines : (page : ℕ) (e : Endian) (size blocks : ℕ) (base image : List ℕ) (files : Files) (root : Attributes) (items : List Item) (lines : List Line) → FitsListing root items → IsTree items
    → (FilesFit files items × AreFew files items) ⊎ AreAllAccepted page (index_of []) (ops_in e files lines) → lines_of (listing_text root items) ≡ Ok lines
    → IsWrittenFor page e size blocks base (ops_in e files lines) image
    → (s : State) × MountsAs e size image s × HoldsTree e files root items s × HaveDeviceNumbers e (plain_nodes e size image) s items
image_of_lines page e size blocks base image files root items lines fits tree has read is =
    let ops = ops_in e files lines in
    let made = lines_lawful page e files root items lines is.page_is fits tree has read in
    let planned : length (plans_of page (index_of (plain_nodes e size base)) ops) ≡ length ops =
    subst (λ ns. length (plans_of page (index_of ns) ops) ≡ length ops) (sym is.bare) made.makes.accepted in
    let ns : List NodeRef = plain_nodes e size base in
    let steps : List Step = steps_of_first page (index_of ns) ops (length ops) in
    let new : List NodeRef = new_nodes e size base steps in
    let block : ℕ = blank_from e size base blocks in
    let go : GoesOn page ns steps =
    planned_goes_on page ns ops (length ops) is.page_is (all_fit e size base (readable e size blocks base is.base_is) is.are_bytes) is.base_is.mounts.root made.op_fits in
    let sound = whole_is_sound e size blocks block (length (output e size (block * size) (map (canonical e) new))) base image new
    (soundly page e size blocks base steps is.page_is is.room is.base_is is.fits go) (omega arith) is.left in
    let are : plain_nodes e size image ≡ new = sound.nodes ∙ ap (λ (l : List NodeRef). l ++ new) is.bare in
    let numbered : HaveDeviceNumbers e new (after bytes (state_of ns) steps) items =
    subst (λ (l : List NodeRef). HaveDeviceNumbers e (nodes_of (index_of l) (steps_of_first page (index_of l) ops (length ops))) (after bytes (state_of l) (steps_of_first page (index_of l) ops (length ops))) items)
    (sym is.bare) made.makes.numbered in
    let survives = accepted_survives page e size blocks (length ops) base ops is.page_is is.room is.base_is is.are_bytes made.op_fits
    (record { planned = omega arith; fits = is.fits }) in (
      after bytes (state_of (plain_nodes e size base)) (steps_of_first page (index_of (plain_nodes e size base)) ops (length ops)),
      survives.whole image is.left,
      subst (λ ns. HoldsTree e files root items (after bytes (state_of ns) (steps_of_first page (index_of ns) ops (length ops)))) (sym is.bare) made.makes.holds,
      subst (λ (l : List NodeRef). HaveDeviceNumbers e l (after bytes (state_of ns) steps) items) (sym are) numbered,
    )

pub image_holds_tree : image.ImageHoldsTree
image_holds_tree page e size blocks base image files root items lines fits tree short few read is =
    image_of_lines page e size blocks base image files root items lines fits tree (inl (short, few)) read is
