use Rattle.std.proofs.Common.{◌≡◌, ◌∙◌, ℕ, List, subst, nat_cmp}
use Rattle.std.specs.List.Sorted.{IsBinarySearchResult}
use Rattle.jrow.proofs.RowCodeLemmas.{found_is}
use Rattle.jrow.proofs.row.Row.index_of.Goals as goal

pub returns : goal.returns
returns c =
    let b : ℕ = c.args.block in
    let among : IsBinarySearchResult (λ y. nat_cmp y b) c.deref.result.now c.binary_search.result = c.binary_search.ensures.position in
    let same : c.deref.result.now ≡ c.args.self.now = c.deref.ensures.value ∙ c.self.view_is in
    c.ok.ensures.value
    ∙ found_is c.args.self.now b c.binary_search.result c.requires
    (subst (λ (l : List ℕ). IsBinarySearchResult (λ y. nat_cmp y b) l c.binary_search.result) same among)
