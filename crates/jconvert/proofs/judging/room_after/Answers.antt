use Rattle.std.proofs.Common.{rules, ◌≡◌, ◌≤◌, ◌+◌, ℕ, Some, sym, ap, subst, ◌∙◌, arith}
use Rattle.flashbase.specs.Bytes.{pad4_of}
use Rattle.jscan.specs.Image.{greatest_image}
use Rattle.jlog.specs.Places.{place_within}
use Rattle.jlog.proofs.StepLemmas.{pad4_small}
use Rattle.jconvert.specs.Converting.{greatest_blocks}
use Rattle.jconvert.specs.Tallying.{IsRoomAfter}
use Rattle.jconvert.proofs.PlaceLemmas.{next_small, room_taken}
use Rattle.jconvert.proofs.judging.room_after.Goals as goal

pub overflow_cast-result : goal.overflow_cast-result
overflow_cast-result c =
    let long : c.pad4.result ≤ 4194307 = omega (arith, c.requires.len, c.pad4.ensures, pad4_small c.args.len) in
    search (rules, long)

pub overflow_add-result : goal.overflow_add-result
overflow_add-result c =
    let size : ℕ = c.args.geometry.block in
    let found : place_within size (greatest_blocks size) c.in_ok-from.from c.args.len ≡ Some c.in_ok-at.at =
    ap (λ (b : ℕ). place_within size b c.in_ok-from.from c.args.len) (sym c.greatest_blocks.ensures) ∙ (sym c.place_of.ensures ∙ c.in_ok-at.was) in
    let small : c.in_ok-at.at + pad4_of c.args.len ≤ greatest_image = next_small size c.in_ok-from.from c.args.len c.in_ok-at.at c.requires.readable found in
    let fits : c.in_ok-at.at + c.pad4.result ≤ 268435456 = subst (λ (n : ℕ). c.in_ok-at.at + n ≤ 268435456) (sym c.pad4.ensures) small in
    search (rules, fits)

pub returns : goal.returns
returns c =
    let size : ℕ = c.args.geometry.block in
    let found : place_within size (greatest_blocks size) c.in_ok-from.from c.args.len ≡ Some c.in_ok-at.at =
    ap (λ (b : ℕ). place_within size b c.in_ok-from.from c.args.len) (sym c.greatest_blocks.ensures) ∙ (sym c.place_of.ensures ∙ c.in_ok-at.was) in
    subst (λ (n : ℕ). IsRoomAfter size c.args.room c.args.len (Some (c.in_ok-at.at + n))) (sym c.pad4.ensures)
    (room_taken size c.in_ok-from.from c.args.len c.in_ok-at.at c.args.room c.in_ok-from.was c.requires.readable found)
