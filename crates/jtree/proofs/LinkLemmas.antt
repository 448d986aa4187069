-- The operation of a further name, and what it reaches.
use Rattle.std.proofs.Common.{◌≡◌, ◌≢◌, ℕ, ◌+◌, ◌≤◌, true, false, List, [], ◌∷◌, ◌++◌, Option, Some, Ok, Result, refl, ap, sym, ◌∙◌, ⊎_elim, arith}
use Rattle.std.specs.Prelude.{Contains, ◌==◌, option_map, unwrap_or}
use Rattle.flashbase.specs.Ranges.{IsWord}
use Rattle.jmount.specs.Find.{IsPath, walk}
use Rattle.jmount.specs.Tree.{ObjectOf, State, object, sized, type_bits, regular_bits, directory_bits}
use Rattle.jmount.specs.declared.fault.FindFault.{FindFault}
use Rattle.jmount.proofs.ShapeLemmas.{there_of_directory}
use Rattle.jsteps.specs.Nodes.{Indexed}
use Rattle.jscan.specs.Pages.{IsPage}
use Rattle.jsteps.specs.Planning.{steps_of}
use Rattle.jsteps.specs.Refusals.{is_exhausted}
use Rattle.jsteps.specs.Where.{last_name, end_or_zero, number_or_zero}
use Rattle.jsteps.specs.declared.op.Op.TheVariants as op
use Rattle.jsteps.specs.declared.step.Step.TheVariants as step
use Rattle.jtree.proofs.AcceptLemmas.{IsFile, accept, link_free}
use Rattle.jtree.proofs.GainLemmas.{name_gains, name_stands, with_name}
use Rattle.jtree.proofs.ItemLemmas.{IsAhead, ahead_placed}
use Rattle.jtree.proofs.MakeLemmas.{few_numbers, not_spent, some_numbers}
use Rattle.jtree.proofs.RoomLemmas.{HasRoom, Passes}
use Rattle.jtree.proofs.RunLemmas.{IsAt, Reaches, at_directory, at_named, at_numbered, at_object, at_walk, reaches_one}
use Rattle.jtree.proofs.StandLemmas.{Made, Stands}
use Rattle.jtree.proofs.WayLemmas.{has_long, placed, walk_extends, walk_last}

-- a regular file that stands, which a link is a further name of
pub record IsTarget (made : List Made) (path : List ℕ) (f : Made) : Type 0 where
  pub among : Contains made f
  pub way : List (List ℕ)
  pub name : List ℕ
  pub names : f.names ≡ way ++ name ∷ []
  pub path_is : IsPath path (way ++ name ∷ [])
  pub first : f.names ≡ f.origin
  pub regular : (type_bits f.object_is.mode == regular_bits) ≡ true
  pub plain : (type_bits f.object_is.mode == directory_bits) ≡ false

pub link_reaches : (page n : ℕ) (x : Indexed) (s : State) (time : ℕ) (old new : List ℕ) (f m : Made) (root : ObjectOf (List ℕ)) (made : List Made)
    → IsPage page → IsAt n x s → Stands root made s → IsTarget made old f → (a : IsAhead new s) → IsWord time
    → m.names ≡ a.way ++ a.name ∷ [] → m.origin ≡ f.names → m.names ≢ m.origin → HasRoom n page x (op.Link time old new)
    → Reaches page n x s (op.Link time old new ∷ []) root (made ++ m ∷ []) 1
link_reaches page n x s time old new f m root made is_page at stands t a now names origin other has =
    let h = stands.held f t.among in
    let ino = h.number in
    let l = walk_last s t.way t.name 1 ino (ap (λ ns. walk s ns (Ok 1)) (sym t.names) ∙ h.leads) in
    let short : has_long (t.way ++ t.name ∷ []) ≡ false = ap has_long (sym t.names) ∙ h.short in
    let p = placed x.tree old t.way t.name l.dir t.path_is short (at_walk n x s at t.way ∙ l.leads) (at_directory n x s at l.dir ∙ l.steps.directory) in
    let q = ahead_placed n x s new at a in
    let there : object s ino ≡ Some f.object_is = h.there t.first in
    let file : IsFile x.tree l.dir t.name ino (sized f.object_is) = record {
      number = at_named n x s at l.dir t.name ∙ l.steps.entry;
      there = at_object n x s at ino ∙ ap (option_map sized) there;
      regular = t.regular;
      plain = t.plain;
    } in
    let steps = step.SetName time a.dir a.name ino ∷ [] in
    let number : number_or_zero x.tree old ≡ ino = ap (λ (o : Option ℕ). unwrap_or o 0) (p.number ∙ file.number) in
    let all : steps_of page x.tree (op.Link time old new) ≡ steps =
    ap (λ (r : Result ℕ FindFault). step.SetName time (end_or_zero r) (last_name new) (number_or_zero x.tree old) ∷ []) q.above_is
    ∙ ap (λ name. step.SetName time a.dir name (number_or_zero x.tree old) ∷ []) q.last
    ∙ ap (λ i. step.SetName time a.dir a.name i ∷ []) number in
    let room : is_exhausted page x (op.Link time old new) ≡ false =
    ⊎_elim
    (λ (few : n + 4 ≤ 0xFFFFFFFF).
    let owner : a.dir ≤ 0xFFFFFFFF = few_numbers n x s at a.dir (at_numbered n x s at a.dir (there_of_directory s a.dir a.directory)) (omega arith) in
    not_spent page n x s (op.Link time old new) steps at all (owner, tt) (omega arith))
    (λ (pass : Passes page x (op.Link time old new)). pass.room) has in
    let gains = name_gains s a.dir a.name ino l.steps.there h.used a.free in
    reaches_one page n x s (op.Link time old new) steps root (made ++ m ∷ []) 1 is_page at now
    (accept page x (op.Link time old new) steps
    (link_free page x time old new l.dir t.name ino (sized f.object_is) a.dir a.name p file q (at_named n x s at a.dir a.name ∙ a.free)) all room)
    (name_stands root made s a.way a.name a.dir f m stands (some_numbers n x s at) t.among t.first origin names other a.leads a.directory a.free
    (ap has_long names ∙ a.short) l.steps.there)
    (omega arith)
    (record {
      next = omega arith;
      keeps = λ names k some e. walk_extends s (with_name s a.dir a.name ino) names 1 k gains.extends e;
      kept = λ k some less. refl;
      fresh = λ k some le. refl;
    })
