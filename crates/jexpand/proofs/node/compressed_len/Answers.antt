use Rattle.std.proofs.Common.{◌≡◌, ℕ, List, [], rules, false, Option, None, Some, unwrap_or, sym, ap}
use Rattle.std.specs.Option.{is_none}
use Rattle.jcompr.specs.Content.{method_of}
use Rattle.jexpand.proofs.NodeLemmas.{compressed_ok}
use Rattle.jexpand.proofs.node.compressed_len.Goals as goal

pub returns-in-Ok-clause-len : goal.returns-in-Ok-clause-len
returns-in-Ok-clause-len c =
    let read : is_none (method_of c.args.node.now.compr) ≡ false = search rules in
    compressed_ok c.args.geometry.block c.args.addr c.args.node.now _ c.in_ok-len.len read c.in_ok-len.ensures.ok c.in_ok-len.ensures.len c.in-Ok.ensures.ok

pub returns-in-Ok-clause-content : goal.returns-in-Ok-clause-content
returns-in-Ok-clause-content c =
    let P : Option (List ℕ) → List ℕ = λ o. unwrap_or o [] in
    sym (ap P c.in-Ok.ensures.ok)
