use Rattle.std.proofs.Common.{◌≡◌, ◌∙◌, ℕ, List, ap, arith, get_or, length, sym}
use Rattle.std.proofs.lemmas.Bool.{ltb-true}
use Rattle.jfolder.specs.Links.{id_of}
use Rattle.jfolder.specs.declared.tree.Item.{Item}
use Rattle.jfolder.proofs.LinkLemmas.{first_index}
use Rattle.jfolder.proofs.TreeLemmas.{path_of}
use Rattle.jfolder.proofs.WalkLemmas.{file_of}
use Rattle.jfolder.proofs.reading.Walk.first_path.Goals as goal

pub returns-in-Regular-clause-file : goal.returns-in-Regular-clause-file
returns-in-Regular-clause-file c =
    let found = c.in_ok-item.ensures.lookup in
    file_of c.args.self.now.items.items c.as_slice.result.now c.in_ok-index.index.now c.in_ok-item.item.now c.in-Regular.file c.as_str.result.now
    c.as_slice.ensures.value (ltb-true _ _ (sym found.0)) found.1 c.in-Regular.is c.as_str.ensures.value

pub returns-in_err-item-clause-every : goal.returns-in_err-item-clause-every
returns-in_err-item-clause-every c = λ i has first regular.
    let at : c.in_ok-index.index.now ≡ first.0 =
    first_index c.args.self.now.firsts c.in_ok-identity_of.field-0 (id_of c.args.looked.now) c.in_ok-index.index.now first.0 c.in_ok-index.ensures.value
    c.in_ok-identity_of.ensures.only.1 first.3 in
    let short = c.in_err-item.ensures.lookup.3 in
    let same : length c.as_slice.result.now ≡ length c.args.self.now.items.items = ap (λ (l : List Item). length l) c.as_slice.ensures.value in
    let within = first.1 in
    absurd (omega arith)

pub returns-in-Regular-clause-every : goal.returns-in-Regular-clause-every
returns-in-Regular-clause-every c = λ i has first regular.
    let at : c.in_ok-index.index.now ≡ first.0 =
    first_index c.args.self.now.firsts c.in_ok-identity_of.field-0 (id_of c.args.looked.now) c.in_ok-index.index.now first.0 c.in_ok-index.ensures.value
    c.in_ok-identity_of.ensures.only.1 first.3 in
    let found = c.in_ok-item.ensures.lookup in
    let there : c.in_ok-item.item.now ≡ i =
    found.3.1 i ∙ ap (λ (l : List Item). get_or l c.in_ok-index.index.now i) c.as_slice.ensures.value ∙ ap (λ (n : ℕ). get_or c.args.self.now.items.items n i) at ∙ first.2 in
    c.as_str.ensures.value ∙ ap path_of there
