use Rattle.std.proofs.Common.{rules, ◌≡◌, ◌≤◌, ◌<◌, ◌+◌, ◌++◌, ℕ, List, length, Some, None, sym, ap, subst, ◌∙◌, arith}
use Rattle.std.specs.Io.KnownBytes.{Appends}
use Rattle.flashbase.specs.Bytes.{pad4_of}
use Rattle.jnode.specs.Writing.{filled}
use Rattle.jscan.specs.Image.{greatest_image}
use Rattle.jlog.specs.Places.{place_after, end_after, place_within}
use Rattle.jlog.specs.Output.{gap}
use Rattle.jlog.proofs.StepLemmas.{pad4_small}
use Rattle.jexpand.proofs.SightedLemmas.{size_some}
use Rattle.jconvert.specs.Converting.{greatest_blocks}
use Rattle.jconvert.specs.Tallying.{IsCursor}
use Rattle.jconvert.specs.Putting.{form_piece}
use Rattle.jconvert.proofs.PlaceLemmas.{within_some, place_up, next_small, next_cursor, piece_is, no_place}
use Rattle.jconvert.proofs.writing.put_form.Goals as goal

pub put_node-requires-clause-up : goal.put_node-requires-clause-up
put_node-requires-clause-up g c =
    let size : ℕ = c.args.geometry.block in
    let len : ℕ = length c.args.form.now in
    let found : place_within size (greatest_blocks size) c.args.from len ≡ Some c.in-Some.at =
    ap (λ (b : ℕ). place_within size b c.args.from len) (sym c.greatest_blocks.ensures) ∙ (sym c.place_of.ensures ∙ c.in-Some.is) in
    let least = size_some size c.requires.readable in
    let some : 0 < size = omega (arith, least) in
    subst (λ (n : ℕ). c.args.from ≤ n) (sym (within_some size (greatest_blocks size) c.args.from len c.in-Some.at found).0) (place_up size c.args.from len some)

pub overflow_cast-result : goal.overflow_cast-result
overflow_cast-result g c =
    let long : c.pad4.result ≤ 4194307 = omega (arith, c.requires.len, c.pad4.ensures, pad4_small (length c.args.form.now)) in
    search (rules, long)

pub overflow_add-result : goal.overflow_add-result
overflow_add-result g c =
    let size : ℕ = c.args.geometry.block in
    let len : ℕ = length c.args.form.now in
    let found : place_within size (greatest_blocks size) c.args.from len ≡ Some c.in-Some.at =
    ap (λ (b : ℕ). place_within size b c.args.from len) (sym c.greatest_blocks.ensures) ∙ (sym c.place_of.ensures ∙ c.in-Some.is) in
    let small : c.in-Some.at + pad4_of len ≤ greatest_image = next_small size c.args.from len c.in-Some.at c.requires.readable found in
    let fits : c.in-Some.at + c.pad4.result ≤ 268435456 = subst (λ (n : ℕ). c.in-Some.at + n ≤ 268435456) (sym c.pad4.ensures) small in
    search (rules, fits)

pub returns-in-Ok-clause-puts : goal.returns-in-Ok-clause-puts
returns-in-Ok-clause-puts g c =
    let e = g.E.Order.order in
    let size : ℕ = c.args.geometry.block in
    let form : List ℕ = c.args.form.now in
    let len : ℕ = length form in
    let found : place_within size (greatest_blocks size) c.args.from len ≡ Some c.in-Some.at =
    ap (λ (b : ℕ). place_within size b c.args.from len) (sym c.greatest_blocks.ensures) ∙ (sym c.place_of.ensures ∙ c.in-Some.is) in
    let at_is : c.in-Some.at ≡ place_after size c.args.from len = (within_some size (greatest_blocks size) c.args.from len c.in-Some.at found).0 in
    let put = c.in-Ok.ensures in
    let next_is : c.in-Some.at + c.pad4.result ≡ end_after size c.args.from len =
    ap (λ (n : ℕ). c.in-Some.at + n) c.pad4.ensures ∙ ap (λ (n : ℕ). n + pad4_of len) at_is in (
      subst (Appends (g.S.Sink.taken c.args.sink.now) (g.S.Sink.taken c.put_node.new.sink)) (piece_is e size c.args.from c.in-Some.at form at_is) put.0,
      put.1,
      next_is,
      subst (IsCursor size) (ap (λ (n : ℕ). c.in-Some.at + n) (sym c.pad4.ensures)) (next_cursor size c.args.from len c.in-Some.at c.requires.readable found),
    )

pub returns-in-None-clause-room : goal.returns-in-None-clause-room
returns-in-None-clause-room g c =
    let size : ℕ = c.args.geometry.block in
    let len : ℕ = length c.args.form.now in
    let found : place_within size (greatest_blocks size) c.args.from len ≡ None =
    ap (λ (b : ℕ). place_within size b c.args.from len) (sym c.greatest_blocks.ensures) ∙ (sym c.place_of.ensures ∙ c.in-None.is) in
    λ _. no_place size (greatest_blocks size) c.args.from len found
