use Rattle.std.proofs.Common.{rules, ◌≡◌, ◌+◌, ◌-◌, ◌<◌, ◌≤◌, [], ◌∷◌, ◌++◌, length, ℕ, List, true, false, arith, subst, sym, ap, ◌∙◌, refl, take}
use Rattle.std.specs.Prelude.{is_err}
use Rattle.std.specs.Io.KnownBytes.{Appends}
use Rattle.flashbase.specs.Bytes.{pad4_of}
use Rattle.flashbase.specs.Device.{next_count}
use Rattle.flashbase.proofs.BytesLemmas.{le_pad4}
use Rattle.jsteps.specs.Nodes.{node_of}
use Rattle.jlog.specs.Laws.{FitsBlock}
use Rattle.jlog.specs.Places.{place_after}
use Rattle.jlog.specs.Running.{shown_place}
use Rattle.jlog.specs.declared.report.Place.{Place}
use Rattle.jlog.proofs.StepLemmas.{failed, part_failed, pad4_small, went, on_ok, size_words}
use Rattle.jpacked.specs.Forms.{form_with}
use Rattle.jpacked.proofs.MadeLemmas.{form_fits_block, form_short}
use Rattle.jpacked.proofs.Parts.{PutBy, PartBy}
use Rattle.jpacked.proofs.PutLemmas.{Spot, spot_of, gap_failed, node_failed, pad_failed, form_put}
use Rattle.jpacked.proofs.writing.put_step.Goals as goal

pub overflow_cast-len : goal.overflow_cast-len
overflow_cast-len g c =
    let e = g.E.Order.order in
    let a = c.args in
    let x = a.log.now.index in
    let s = a.step.now in
    let form : List ℕ = form_with e (node_of x s) a.stream.now in
    let node : List ℕ = c.write_form.new.out.items in
    let is : node ≡ form = search rules in
    let long : c.len-len.result ≡ length node = search rules in
    let few : c.len-len.result ≤ 16452 = omega (arith, long, ap length is, form_short c.requires.step.page e x s a.stream.now c.requires.step.is_page c.requires.step.can.0 c.requires.made) in
    search (rules, few)

pub place_after-at-requires-clause-len : goal.place_after-at-requires-clause-len
place_after-at-requires-clause-len g c =
    let e = g.E.Order.order in
    let a = c.args in
    let x = a.log.now.index in
    let s = a.step.now in
    let form : List ℕ = form_with e (node_of x s) a.stream.now in
    let node : List ℕ = c.write_form.new.out.items in
    let is : node ≡ form = search rules in
    let long : c.len-len.result ≡ length node = search rules in
    let few : c.len-len.result ≤ 16452 = omega (arith, long, ap length is, form_short c.requires.step.page e x s a.stream.now c.requires.step.is_page c.requires.step.can.0 c.requires.made) in
    search (rules, few)

pub overflow_cast-len-2 : goal.overflow_cast-len-2
overflow_cast-len-2 g c =
    let e = g.E.Order.order in
    let a = c.args in
    let x = a.log.now.index in
    let s = a.step.now in
    let form : List ℕ = form_with e (node_of x s) a.stream.now in
    let node : List ℕ = c.write_form.new.out.items in
    let is : node ≡ form = search rules in
    let long : c.len-len.result ≡ length node = search rules in
    let few : c.len-len.result ≤ 16452 = omega (arith, long, ap length is, form_short c.requires.step.page e x s a.stream.now c.requires.step.is_page c.requires.step.can.0 c.requires.made) in
    search (rules, few)

pub overflow_cast-len-3 : goal.overflow_cast-len-3
overflow_cast-len-3 g c =
    let e = g.E.Order.order in
    let a = c.args in
    let x = a.log.now.index in
    let s = a.step.now in
    let form : List ℕ = form_with e (node_of x s) a.stream.now in
    let node : List ℕ = c.write_form.new.out.items in
    let is : node ≡ form = search rules in
    let long : c.len-len.result ≡ length node = search rules in
    let few : c.len-len.result ≤ 16452 = omega (arith, long, ap length is, form_short c.requires.step.page e x s a.stream.now c.requires.step.is_page c.requires.step.can.0 c.requires.made) in
    search (rules, few)

pub put_gap-requires-clause-up : goal.put_gap-requires-clause-up
put_gap-requires-clause-up g c =
    let e = g.E.Order.order in
    let a = c.args in
    let x = a.log.now.index in
    let s = a.step.now in
    let form : List ℕ = form_with e (node_of x s) a.stream.now in
    let room : FitsBlock a.flash.size form = form_fits_block c.requires.step.page e a.flash.size x s a.stream.now c.requires.step.is_page c.requires.step.fits c.requires.step.can.0 c.requires.made in
    let node : List ℕ = c.write_form.new.out.items in
    let is : node ≡ form = search rules in
    let long : c.len-len.result ≡ length node = search rules in
    let placed : c.place_after-at.result ≡ place_after a.flash.size a.log.now.cursor c.len-len.result = search rules in
    let spot : Spot e a.flash.size a.log.now.cursor form node c.place_after-at.result ((pad4_of c.len-len.result) - c.len-len.result) =
    spot_of e a.flash.size a.log.now.cursor form node c.len-len.result c.place_after-at.result (pad4_of c.len-len.result) (size_words a.flash.size a.flash.count c.requires.flash) room is long placed refl in
    omega (arith, spot.reach)

pub returns-then-is_err-3-clause-puts : goal.returns-then-is_err-3-clause-puts
returns-then-is_err-3-clause-puts g c =
    let e = g.E.Order.order in
    let a = c.args in
    let x = a.log.now.index in
    let s = a.step.now in
    let form : List ℕ = form_with e (node_of x s) a.stream.now in
    let room : FitsBlock a.flash.size form = form_fits_block c.requires.step.page e a.flash.size x s a.stream.now c.requires.step.is_page c.requires.step.fits c.requires.step.can.0 c.requires.made in
    let node : List ℕ = c.write_form.new.out.items in
    let is : node ≡ form = search rules in
    let long : c.len-len.result ≡ length node = search rules in
    let placed : c.place_after-at.result ≡ place_after a.flash.size a.log.now.cursor c.len-len.result = search rules in
    let spot : Spot e a.flash.size a.log.now.cursor form node c.place_after-at.result ((pad4_of c.len-len.result) - c.len-len.result) =
    spot_of e a.flash.size a.log.now.cursor form node c.len-len.result c.place_after-at.result (pad4_of c.len-len.result) (size_words a.flash.size a.flash.count c.requires.flash) room is long placed refl in
    let bad : is_err c.put_gap.result ≡ true = search rules in
    let f = failed _ _ _ _ _ c.put_gap.result bad c.put_gap.ensures in
    (gap_failed e a.flash.size a.log.now.cursor x form node c.place_after-at.result (pad4_of c.len-len.result - c.len-len.result) _ _ a.places.now.items spot f.0, f.1)

pub returns-then-is_err-4-clause-puts : goal.returns-then-is_err-4-clause-puts
returns-then-is_err-4-clause-puts g c =
    let e = g.E.Order.order in
    let a = c.args in
    let x = a.log.now.index in
    let s = a.step.now in
    let form : List ℕ = form_with e (node_of x s) a.stream.now in
    let room : FitsBlock a.flash.size form = form_fits_block c.requires.step.page e a.flash.size x s a.stream.now c.requires.step.is_page c.requires.step.fits c.requires.step.can.0 c.requires.made in
    let node : List ℕ = c.write_form.new.out.items in
    let is : node ≡ form = search rules in
    let long : c.len-len.result ≡ length node = search rules in
    let placed : c.place_after-at.result ≡ place_after a.flash.size a.log.now.cursor c.len-len.result = search rules in
    let spot : Spot e a.flash.size a.log.now.cursor form node c.place_after-at.result ((pad4_of c.len-len.result) - c.len-len.result) =
    spot_of e a.flash.size a.log.now.cursor form node c.len-len.result c.place_after-at.result (pad4_of c.len-len.result) (size_words a.flash.size a.flash.count c.requires.flash) room is long placed refl in
    let good : is_err c.put_gap.result ≡ false = search rules in
    let first = went _ _ _ _ _ c.put_gap.result good c.put_gap.ensures in
    let bad : is_err c.put_all.result ≡ true = search rules in
    let same : c.deref.result.now ≡ node = search rules in
    let f = part_failed _ _ _ _ _ c.put_all.result bad c.put_all.ensures.puts c.put_all.ensures.part in (
      node_failed e a.flash.size a.log.now.cursor x form node c.place_after-at.result (pad4_of c.len-len.result - c.len-len.result) f.0 _ _ _ a.places.now.items spot first.0
          (subst (λ (l : List ℕ). f.0 < length l) same f.1) (subst (λ (l : List ℕ). Appends (g.S.Sink.taken c.put_gap.new.sink) (g.S.Sink.taken c.put_all.new.sink) (take f.0 l)) same f.2),
      f.3 ∙ ap next_count first.1,
    )

pub overflow_cast-end : goal.overflow_cast-end
overflow_cast-end g c =
    let e = g.E.Order.order in
    let a = c.args in
    let x = a.log.now.index in
    let s = a.step.now in
    let form : List ℕ = form_with e (node_of x s) a.stream.now in
    let node : List ℕ = c.write_form.new.out.items in
    let is : node ≡ form = search rules in
    let long : c.len-len.result ≡ length node = search rules in
    let few : c.len-len.result ≤ 16452 = omega (arith, long, ap length is, form_short c.requires.step.page e x s a.stream.now c.requires.step.is_page c.requires.step.can.0 c.requires.made) in
    let far : c.pad4-end.result ≤ 16455 = omega (arith, few, c.pad4-end.ensures, pad4_small c.len-len.result) in
    search (rules, far)

pub overflow_sub-end : goal.overflow_sub-end
overflow_sub-end g c = omega (arith, c.pad4-end.ensures, le_pad4 c.len-len.result)

pub returns-then-is_err-5-clause-puts : goal.returns-then-is_err-5-clause-puts
returns-then-is_err-5-clause-puts g c =
    let e = g.E.Order.order in
    let a = c.args in
    let x = a.log.now.index in
    let s = a.step.now in
    let form : List ℕ = form_with e (node_of x s) a.stream.now in
    let room : FitsBlock a.flash.size form = form_fits_block c.requires.step.page e a.flash.size x s a.stream.now c.requires.step.is_page c.requires.step.fits c.requires.step.can.0 c.requires.made in
    let node : List ℕ = c.write_form.new.out.items in
    let is : node ≡ form = search rules in
    let long : c.len-len.result ≡ length node = search rules in
    let placed : c.place_after-at.result ≡ place_after a.flash.size a.log.now.cursor c.len-len.result = search rules in
    let spot : Spot e a.flash.size a.log.now.cursor form node c.place_after-at.result (c.pad4-end.result - c.len-len.result) =
    spot_of e a.flash.size a.log.now.cursor form node c.len-len.result c.place_after-at.result c.pad4-end.result (size_words a.flash.size a.flash.count c.requires.flash) room is long placed c.pad4-end.ensures in
    let good : is_err c.put_gap.result ≡ false = search rules in
    let first = went _ _ _ _ _ c.put_gap.result good c.put_gap.ensures in
    let fine : is_err c.put_all.result ≡ false = search rules in
    let second = went _ _ _ _ _ c.put_all.result fine c.put_all.ensures.puts in
    let same : c.deref.result.now ≡ node = search rules in
    let bad : is_err c.put_erased.result ≡ true = search rules in
    let f = failed _ _ _ _ _ c.put_erased.result bad c.put_erased.ensures in
    let pushed : c.push_place.new.places.items ≡ a.places.now.items ++ shown_place (c.place_after-at.result, length node) ∷ [] =
    c.push_place.ensures.items ∙ ap (λ (n : ℕ). a.places.now.items ++ shown_place (c.place_after-at.result, n) ∷ []) long in
    let began = pad_failed e a.flash.size a.log.now.cursor x form node c.place_after-at.result (c.pad4-end.result - c.len-len.result) _ _ _ _ a.places.now.items spot first.0
    (subst (Appends (g.S.Sink.taken c.put_gap.new.sink) (g.S.Sink.taken c.put_all.new.sink)) same second.0) f.0 in (
      (began.0, subst (λ (l : List Place). PartBy e a.flash.size a.log.now.cursor x (form ∷ []) began.0 (g.S.Sink.taken a.log.now.sink) (g.S.Sink.taken c.put_erased.new.sink) a.places.now.items l) (sym pushed) began.1),
      f.1 ∙ ap next_count (second.1 ∙ first.1),
    )

pub overflow_add-log : goal.overflow_add-log
overflow_add-log g c =
    let e = g.E.Order.order in
    let a = c.args in
    let x = a.log.now.index in
    let s = a.step.now in
    let form : List ℕ = form_with e (node_of x s) a.stream.now in
    let node : List ℕ = c.write_form.new.out.items in
    let is : node ≡ form = search rules in
    let long : c.len-len.result ≡ length node = search rules in
    let few : c.len-len.result ≤ 16452 = omega (arith, long, ap length is, form_short c.requires.step.page e x s a.stream.now c.requires.step.is_page c.requires.step.can.0 c.requires.made) in
    let far : c.pad4-end.result ≤ 16455 = omega (arith, few, c.pad4-end.ensures, pad4_small c.len-len.result) in
    let low : c.place_after-at.result + c.pad4-end.result ≤ 300000000 = omega (arith, far, c.place_after-at.ensures.small) in
    search (rules, low)

pub returns-clause-puts : goal.returns-clause-puts
returns-clause-puts g c =
    let e = g.E.Order.order in
    let a = c.args in
    let x = a.log.now.index in
    let s = a.step.now in
    let form : List ℕ = form_with e (node_of x s) a.stream.now in
    let room : FitsBlock a.flash.size form = form_fits_block c.requires.step.page e a.flash.size x s a.stream.now c.requires.step.is_page c.requires.step.fits c.requires.step.can.0 c.requires.made in
    let node : List ℕ = c.write_form.new.out.items in
    let is : node ≡ form = search rules in
    let long : c.len-len.result ≡ length node = search rules in
    let placed : c.place_after-at.result ≡ place_after a.flash.size a.log.now.cursor c.len-len.result = search rules in
    let spot : Spot e a.flash.size a.log.now.cursor form node c.place_after-at.result (c.pad4-end.result - c.len-len.result) =
    spot_of e a.flash.size a.log.now.cursor form node c.len-len.result c.place_after-at.result c.pad4-end.result (size_words a.flash.size a.flash.count c.requires.flash) room is long placed c.pad4-end.ensures in
    let good : is_err c.put_gap.result ≡ false = search rules in
    let first = went _ _ _ _ _ c.put_gap.result good c.put_gap.ensures in
    let fine : is_err c.put_all.result ≡ false = search rules in
    let second = went _ _ _ _ _ c.put_all.result fine c.put_all.ensures.puts in
    let same : c.deref.result.now ≡ node = search rules in
    let last : is_err c.put_erased.result ≡ false = search rules in
    let third = went _ _ _ _ _ c.put_erased.result last c.put_erased.ensures in
    let moved : is_err c.advance.result ≡ false = search rules in
    let on = on_ok c.advance.result moved c.advance.ensures.ok in
    let pushed : c.push_place.new.places.items ≡ a.places.now.items ++ shown_place (c.place_after-at.result, length node) ∷ [] =
    c.push_place.ensures.items ∙ ap (λ (n : ℕ). a.places.now.items ++ shown_place (c.place_after-at.result, n) ∷ []) long in
    let ends : c.place_after-at.result + c.pad4-end.result ≡ c.place_after-at.result + (length node + (c.pad4-end.result - c.len-len.result)) =
    omega (arith, long, c.pad4-end.ensures, le_pad4 c.len-len.result) in
    let wrote = form_put e a.flash.size a.log.now.cursor x c.advance.new.index s form node c.place_after-at.result (c.pad4-end.result - c.len-len.result) _ _ _ _ _ a.places.now.items spot on ends first.0
    (subst (Appends (g.S.Sink.taken c.put_gap.new.sink) (g.S.Sink.taken c.put_all.new.sink)) same second.0) third.0 in (
      subst (λ (l : List Place). PutBy e a.flash.size a.log.now.cursor x (s ∷ []) (form ∷ []) (c.place_after-at.result + c.pad4-end.result) c.advance.new.index (g.S.Sink.taken a.log.now.sink) (g.S.Sink.taken c.put_erased.new.sink) a.places.now.items l) (sym pushed) wrote,
      third.1 ∙ (second.1 ∙ first.1),
    )
