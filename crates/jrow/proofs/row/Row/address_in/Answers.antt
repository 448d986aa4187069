use Rattle.std.proofs.Common.{◌≡◌, ◌/◌, ◌∙◌, ℕ, List, arith, length, get_or, ap}
use Rattle.jscan.specs.Image.{greatest_image}
use Rattle.jrow.proofs.RowCodeLemmas.{block_there, rest_small}
use Rattle.jrow.proofs.row.Row.address_in.Goals as goal

pub overflow_mul-result : goal.overflow_mul-result
overflow_mul-result c =
    let size : ℕ = c.args.geometry.block in
    let b : ℕ = c.index.result.now in
    let there : b ≡ get_or c.args.self.now (c.args.at / size) b = c.index.ensures ∙ ap (λ (l : List ℕ). get_or l (c.args.at / size) b) c.self.view_is in
    let it = block_there c.args.blocks size c.args.at b greatest_image c.args.self.now c.requires.row c.requires.inside there c.requires.small in
    omega (arith, it.1)

pub overflow_add-result : goal.overflow_add-result
overflow_add-result c =
    let size : ℕ = c.args.geometry.block in
    let b : ℕ = c.index.result.now in
    let there : b ≡ get_or c.args.self.now (c.args.at / size) b = c.index.ensures ∙ ap (λ (l : List ℕ). get_or l (c.args.at / size) b) c.self.view_is in
    let it = block_there c.args.blocks size c.args.at b greatest_image c.args.self.now c.requires.row c.requires.inside there c.requires.small in
    omega (arith, it.1, rest_small size (length c.args.self.now) c.args.at c.requires.inside)
