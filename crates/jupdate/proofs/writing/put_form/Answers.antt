use Rattle.std.proofs.Common.{rules, ◌≡◌, ◌+◌, ◌-◌, ◌*◌, ◌<◌, ◌≤◌, [], ◌∷◌, ◌++◌, length, ℕ, List, true, false, arith, subst, sym, ap, ◌∙◌, refl}
use Rattle.std.specs.Prelude.{is_err}
use Rattle.flashbase.specs.Bytes.{pad4_of}
use Rattle.flashbase.specs.Device.{next_count}
use Rattle.flashbase.proofs.BytesLemmas.{le_pad4}
use Rattle.jnode.specs.declared.order.Endian.{Endian}
use Rattle.jlog.specs.Laws.{FitsBlock}
use Rattle.jlog.specs.Places.{is_writable_flash, place_after}
use Rattle.jlog.specs.Running.{shown_place}
use Rattle.jlog.proofs.StepLemmas.{failed, part_failed, went, size_words}
use Rattle.jpacked.proofs.PutLemmas.{Spot, spot_of}
use Rattle.jrests.specs.declared.opening.Opening.{Opening}
use Rattle.jupdate.specs.declared.row.Spot.{Spot as At}
use Rattle.jupdate.proofs.FormLemmas.{form_broke, form_end, gap_failed, node_failed}
use Rattle.jupdate.proofs.writing.put_form.Goals as goal

-- where it goes on in its block
abbrev to : At → Opening
to spot = record { block = spot.block; place = spot.cursor.place }

pub put_gap-requires-clause-up : goal.put_gap-requires-clause-up
put_gap-requires-clause-up g c =
    let a = c.args in
    let form : List ℕ = a.form.now in
    let spot : Spot g.E.Order.order a.flash.size a.spot.cursor.place form form a.spot.at (pad4_of (length form) - length form) =
    spot_of g.E.Order.order a.flash.size a.spot.cursor.place form form (length form) a.spot.at (pad4_of (length form)) (size_words a.flash.size a.flash.count c.requires.flash) c.requires.fits refl refl c.requires.at refl in
    omega (arith, spot.reach)

pub returns-in_err-put_gap-clause-puts : goal.returns-in_err-put_gap-clause-puts
returns-in_err-put_gap-clause-puts g c =
    let e = g.E.Order.order in
    let a = c.args in
    let form : List ℕ = a.form.now in
    let pad : ℕ = pad4_of (length form) - length form in
    let spot : Spot e a.flash.size a.spot.cursor.place form form a.spot.at pad =
    spot_of e a.flash.size a.spot.cursor.place form form (length form) a.spot.at (pad4_of (length form)) (size_words a.flash.size a.flash.count c.requires.flash) c.requires.fits refl refl c.requires.at refl in
    let bad : is_err c.put_gap.result ≡ true = search rules in
    let f = failed _ _ _ _ _ c.put_gap.result bad c.put_gap.ensures in
    form_broke e a.flash.size (to a.spot) form _ _ _ _ a.places.now.items a.places.now.items c.from_residual.result c.from_residual.ensures.0
    (gap_failed e a.flash.size (to a.spot) form form a.spot.at pad _ _ a.places.now.items spot f.0) f.1

pub returns-in_err-put_all-clause-puts : goal.returns-in_err-put_all-clause-puts
returns-in_err-put_all-clause-puts g c =
    let e = g.E.Order.order in
    let a = c.args in
    let form : List ℕ = a.form.now in
    let pad : ℕ = pad4_of (length form) - length form in
    let spot : Spot e a.flash.size a.spot.cursor.place form form a.spot.at pad =
    spot_of e a.flash.size a.spot.cursor.place form form (length form) a.spot.at (pad4_of (length form)) (size_words a.flash.size a.flash.count c.requires.flash) c.requires.fits refl refl c.requires.at refl in
    let good : is_err c.put_gap.result ≡ false = search rules in
    let first = went _ _ _ _ _ c.put_gap.result good c.put_gap.ensures in
    let bad : is_err c.put_all.result ≡ true = search rules in
    let f = part_failed _ _ _ _ _ c.put_all.result bad c.put_all.ensures.puts c.put_all.ensures.part in
    form_broke e a.flash.size (to a.spot) form _ _ _ _ a.places.now.items a.places.now.items c.from_residual-in_err-put_all.result c.from_residual-in_err-put_all.ensures.0
    (node_failed e a.flash.size (to a.spot) form form a.spot.at pad f.0 _ _ _ a.places.now.items spot first.0 f.1 f.2) (f.3 ∙ ap next_count first.1)

pub overflow_sub-pad4 : goal.overflow_sub-pad4
overflow_sub-pad4 g c = omega (arith, c.pad4.ensures, le_pad4 (length c.args.form.now))

pub returns-clause-puts : goal.returns-clause-puts
returns-clause-puts g c =
    let e = g.E.Order.order in
    let a = c.args in
    let form : List ℕ = a.form.now in
    let spot : Spot e a.flash.size a.spot.cursor.place form form a.spot.at (c.pad4.result - length form) =
    spot_of e a.flash.size a.spot.cursor.place form form (length form) a.spot.at c.pad4.result (size_words a.flash.size a.flash.count c.requires.flash) c.requires.fits refl refl c.requires.at c.pad4.ensures in
    let good : is_err c.put_gap.result ≡ false = search rules in
    let first = went _ _ _ _ _ c.put_gap.result good c.put_gap.ensures in
    let fine : is_err c.put_all.result ≡ false = search rules in
    let second = went _ _ _ _ _ c.put_all.result fine c.put_all.ensures.puts in
    form_end e a.flash.size (to a.spot) form form a.spot.at (c.pad4.result - length form) _ _ _ _ _ _ _ a.places.now.items c.push_place.new.places.items c.put_erased.result spot first.0 second.0
    c.push_place.ensures.items (second.1 ∙ first.1) c.put_erased.ensures
