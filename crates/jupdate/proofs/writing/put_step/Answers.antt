use Rattle.std.proofs.Common.{rules, ◌≡◌, ◌+◌, ◌-◌, ◌<◌, ◌≤◌, [], ◌∷◌, ◌++◌, drop, length, map, ℕ, List, true, false, arith, subst, sym, ap, ◌∙◌}
use Rattle.std.specs.Prelude.{IsTrue, is_err}
use Rattle.std.specs.List.{AllByRecursion}
use Rattle.std.specs.Io.KnownBytes.{Appends}
use Rattle.jsteps.specs.Nodes.{node_of}
use Rattle.jlog.specs.Laws.{FitsBlock}
use Rattle.jlog.specs.Running.{shown_place}
use Rattle.jlog.proofs.CodeLemmas.{flash_limits}
use Rattle.jlog.proofs.StepLemmas.{on_ok, size_words}
use Rattle.jpacked.specs.Forms.{form_with}
use Rattle.jpacked.proofs.MadeLemmas.{form_fits_block, form_short}
use Rattle.jrests.specs.Shares.{fit_in, share_places, output_to}
use Rattle.jrests.specs.declared.opening.Opening.{Opening}
use Rattle.jopenings.specs.declared.placing.Stretch.{Stretch}
use Rattle.jupdate.specs.Rows.{IsOpen, IsSpot, ends_of, left_at}
use Rattle.jupdate.proofs.ExtendLemmas.{Extends, extends, goes_up}
use Rattle.jupdate.proofs.FormLemmas.{FormPart, form_failed, form_whole, part_in_row, put_in_row}
use Rattle.jupdate.proofs.RowLemmas.{GoesTo, opening_of, spot_at, spot_found, spot_goes, spot_within}
use Rattle.jupdate.proofs.writing.put_step.Goals as goal

pub overflow_cast-len : goal.overflow_cast-len
overflow_cast-len g c =
    let e = g.E.Order.order in
    let a = c.args in
    let x = a.log.now.index in
    let s = a.step.now in
    let form : List ℕ = form_with e (node_of x s) a.stream.now in
    let node : List ℕ = c.write_form.new.out.items in
    let is : node ≡ form = search rules in
    let long : c.len-len.result ≡ length node = search rules in
    let few : c.len-len.result ≤ 16452 = omega (arith, long, ap length is, form_short c.requires.step.page e x s a.stream.now c.requires.step.is_page c.requires.step.can.0 c.requires.made) in
    search (rules, few)

pub find-requires-clause-len : goal.find-requires-clause-len
find-requires-clause-len g c =
    let e = g.E.Order.order in
    let a = c.args in
    let x = a.log.now.index in
    let s = a.step.now in
    let form : List ℕ = form_with e (node_of x s) a.stream.now in
    let node : List ℕ = c.write_form.new.out.items in
    let is : node ≡ form = search rules in
    let long : c.len-len.result ≡ length node = search rules in
    omega (arith, long, ap length is, form_short c.requires.step.page e x s a.stream.now c.requires.step.is_page c.requires.step.can.0 c.requires.made)

pub unwrap-spot-requires : goal.unwrap-spot-requires
unwrap-spot-requires g c =
    let e = g.E.Order.order in
    let a = c.args in
    let ss : List Stretch = a.log.now.stretches.items in
    let form : List ℕ = form_with e (node_of a.log.now.index a.step.now) a.stream.now in
    let node : List ℕ = c.write_form.new.out.items in
    let is : node ≡ form = search rules in
    let long : c.len-len.result ≡ length node = search rules in
    let left : left_at (ends_of ss) c.begin_of-cursor.result ≡ drop a.log.now.passed (ends_of ss) =
    subst (λ (l : List Stretch). left_at (ends_of l) c.begin_of-cursor.result ≡ drop a.log.now.passed (ends_of l)) c.deref.ensures.value c.begin_of-cursor.ensures.left in
    spot_found a.flash.size (ends_of c.deref-2.result.now) (ends_of ss) c.begin_of-cursor.result form c.len-len.result c.find.result (ap ends_of c.deref-2.ensures.value) (long ∙ ap length is)
    (subst (λ (r : List Opening). IsTrue (fit_in a.flash.size r (form ∷ []))) (sym left) c.requires.space) c.find.ensures

pub put_form-requires-clause-block : goal.put_form-requires-clause-block
put_form-requires-clause-block g c =
    let a = c.args in
    let ss : List Stretch = a.log.now.stretches.items in
    let spot = c.unwrap-spot.result in
    let left : left_at (ends_of ss) c.begin_of-cursor.result ≡ drop a.log.now.passed (ends_of ss) =
    subst (λ (l : List Stretch). left_at (ends_of l) c.begin_of-cursor.result ≡ drop a.log.now.passed (ends_of l)) c.deref.ensures.value c.begin_of-cursor.ensures.left in
    spot_within a.flash.size a.flash.count (ends_of ss) c.begin_of-cursor.result c.len-len.result spot
    (spot_at a.flash.size (ends_of c.deref-2.result.now) (ends_of ss) c.begin_of-cursor.result c.len-len.result c.find.result spot (ap ends_of c.deref-2.ensures.value) c.unwrap-spot.ensures c.find.ensures)
    (subst (AllByRecursion (IsOpen a.flash.size a.flash.count)) (sym left) c.requires.openings)

pub put_form-requires-clause-fits : goal.put_form-requires-clause-fits
put_form-requires-clause-fits g c =
    let e = g.E.Order.order in
    let a = c.args in
    let x = a.log.now.index in
    let s = a.step.now in
    let form : List ℕ = form_with e (node_of x s) a.stream.now in
    let is : c.write_form.new.out.items ≡ form = search rules in
    subst (FitsBlock a.flash.size) (sym (c.deref-3.ensures.value ∙ is))
    (form_fits_block c.requires.step.page e a.flash.size x s a.stream.now c.requires.step.is_page c.requires.step.fits c.requires.step.can.0 c.requires.made)

pub returns-then-is_err-3-clause-puts : goal.returns-then-is_err-3-clause-puts
returns-then-is_err-3-clause-puts g c =
    let e = g.E.Order.order in
    let a = c.args in
    let x = a.log.now.index in
    let form : List ℕ = form_with e (node_of x a.step.now) a.stream.now in
    let node : List ℕ = c.write_form.new.out.items in
    let is : node ≡ form = search rules in
    let long : c.len-len.result ≡ length node = search rules in
    let ss : List Stretch = a.log.now.stretches.items in
    let row : List Opening = drop a.log.now.passed (ends_of ss) in
    let spot = c.unwrap-spot.result in
    let left : left_at (ends_of ss) c.begin_of-cursor.result ≡ row =
    subst (λ (l : List Stretch). left_at (ends_of l) c.begin_of-cursor.result ≡ drop a.log.now.passed (ends_of l)) c.deref.ensures.value c.begin_of-cursor.ensures.left in
    let at : IsSpot a.flash.size (ends_of ss) c.begin_of-cursor.result c.len-len.result spot =
    spot_at a.flash.size (ends_of c.deref-2.result.now) (ends_of ss) c.begin_of-cursor.result c.len-len.result c.find.result spot (ap ends_of c.deref-2.ensures.value) c.unwrap-spot.ensures c.find.ensures in
    let goes : GoesTo e a.flash.size row form (opening_of spot) at.rest =
    subst (λ (r : List Opening). GoesTo e a.flash.size r form (opening_of spot) at.rest) left
    (spot_goes e a.flash.size (ends_of ss) c.begin_of-cursor.result c.len-len.result spot form at (long ∙ ap length is)) in
    let bad : is_err c.put_form.result ≡ true = search rules in
    let f = form_failed e a.flash.size (opening_of spot) c.deref-3.result.now _ _ _ _ a.places.now.items c.put_form.new.places.items c.put_form.result bad c.put_form.ensures.puts in
    let part : FormPart e a.flash.size (opening_of spot) form f.0.0 (g.S.Sink.taken a.log.now.sink) (g.S.Sink.taken c.put_form.new.sink) a.places.now.items c.put_form.new.places.items =
    subst (λ (l : List ℕ). FormPart e a.flash.size (opening_of spot) l f.0.0 (g.S.Sink.taken a.log.now.sink) (g.S.Sink.taken c.put_form.new.sink) a.places.now.items c.put_form.new.places.items) (c.deref-3.ensures.value ∙ is) f.0.1 in
    ((f.0.0, part_in_row e a.flash.size row x form (opening_of spot) at.rest f.0.0 _ _ a.places.now.items c.put_form.new.places.items goes part), f.1)

pub overflow_sub-next : goal.overflow_sub-next
overflow_sub-next g c =
    let e = g.E.Order.order in
    let a = c.args in
    let x = a.log.now.index in
    let form : List ℕ = form_with e (node_of x a.step.now) a.stream.now in
    let node : List ℕ = c.write_form.new.out.items in
    let is : node ≡ form = search rules in
    let long : c.len-len.result ≡ length node = search rules in
    let ss : List Stretch = a.log.now.stretches.items in
    let row : List Opening = drop a.log.now.passed (ends_of ss) in
    let spot = c.unwrap-spot.result in
    let left : left_at (ends_of ss) c.begin_of-cursor.result ≡ row =
    subst (λ (l : List Stretch). left_at (ends_of l) c.begin_of-cursor.result ≡ drop a.log.now.passed (ends_of l)) c.deref.ensures.value c.begin_of-cursor.ensures.left in
    let at : IsSpot a.flash.size (ends_of ss) c.begin_of-cursor.result c.len-len.result spot =
    spot_at a.flash.size (ends_of c.deref-2.result.now) (ends_of ss) c.begin_of-cursor.result c.len-len.result c.find.result spot (ap ends_of c.deref-2.ensures.value) c.unwrap-spot.ensures c.find.ensures in
    let fits : FitsBlock a.flash.size form =
    form_fits_block c.requires.step.page e a.flash.size x a.step.now a.stream.now c.requires.step.is_page c.requires.step.fits c.requires.step.can.0 c.requires.made in
    goes_up e a.flash.size (ends_of ss) c.begin_of-cursor.result c.len-len.result spot form c.behind-next.result.place (size_words a.flash.size a.flash.count c.requires.flash) fits at (long ∙ ap length is) c.behind-next.ensures.place

pub overflow_add-index_mut : goal.overflow_add-index_mut
overflow_add-index_mut g c =
    let e = g.E.Order.order in
    let a = c.args in
    let x = a.log.now.index in
    let form : List ℕ = form_with e (node_of x a.step.now) a.stream.now in
    let node : List ℕ = c.write_form.new.out.items in
    let is : node ≡ form = search rules in
    let long : c.len-len.result ≡ length node = search rules in
    let ss : List Stretch = a.log.now.stretches.items in
    let row : List Opening = drop a.log.now.passed (ends_of ss) in
    let spot = c.unwrap-spot.result in
    let left : left_at (ends_of ss) c.begin_of-cursor.result ≡ row =
    subst (λ (l : List Stretch). left_at (ends_of l) c.begin_of-cursor.result ≡ drop a.log.now.passed (ends_of l)) c.deref.ensures.value c.begin_of-cursor.ensures.left in
    let at : IsSpot a.flash.size (ends_of ss) c.begin_of-cursor.result c.len-len.result spot =
    spot_at a.flash.size (ends_of c.deref-2.result.now) (ends_of ss) c.begin_of-cursor.result c.len-len.result c.find.result spot (ap ends_of c.deref-2.ensures.value) c.unwrap-spot.ensures c.find.ensures in
    let fits : FitsBlock a.flash.size form =
    form_fits_block c.requires.step.page e a.flash.size x a.step.now a.stream.now c.requires.step.is_page c.requires.step.fits c.requires.step.can.0 c.requires.made in
    let it : Extends e a.flash.size a.flash.count ss a.log.now.passed form c.index_mut.result.now spot.cursor.place c.behind-next.result.passed c.behind-next.result.place =
    extends e a.flash.size a.flash.count ss a.log.now.passed c.begin_of-cursor.result c.len-len.result spot form c.index_mut.result.now c.behind-next.result.passed c.behind-next.result.place (size_words a.flash.size a.flash.count c.requires.flash) fits
    c.requires.stretches c.requires.openings left c.begin_of-cursor.ensures.passed at (long ∙ ap length is) c.index_mut.ensures.value c.behind-next.ensures.passed c.behind-next.ensures.place in
    let small : c.index_mut.result.now.len + (c.behind-next.result.place - spot.cursor.place) ≤ 4194304 = omega (arith, it.short, (flash_limits a.flash.size a.flash.count c.requires.flash).most) in
    search (rules, small)

pub returns-clause-within : goal.returns-clause-within
returns-clause-within g c =
    let e = g.E.Order.order in
    let a = c.args in
    let x = a.log.now.index in
    let form : List ℕ = form_with e (node_of x a.step.now) a.stream.now in
    let node : List ℕ = c.write_form.new.out.items in
    let is : node ≡ form = search rules in
    let long : c.len-len.result ≡ length node = search rules in
    let ss : List Stretch = a.log.now.stretches.items in
    let row : List Opening = drop a.log.now.passed (ends_of ss) in
    let spot = c.unwrap-spot.result in
    let left : left_at (ends_of ss) c.begin_of-cursor.result ≡ row =
    subst (λ (l : List Stretch). left_at (ends_of l) c.begin_of-cursor.result ≡ drop a.log.now.passed (ends_of l)) c.deref.ensures.value c.begin_of-cursor.ensures.left in
    let at : IsSpot a.flash.size (ends_of ss) c.begin_of-cursor.result c.len-len.result spot =
    spot_at a.flash.size (ends_of c.deref-2.result.now) (ends_of ss) c.begin_of-cursor.result c.len-len.result c.find.result spot (ap ends_of c.deref-2.ensures.value) c.unwrap-spot.ensures c.find.ensures in
    let fits : FitsBlock a.flash.size form =
    form_fits_block c.requires.step.page e a.flash.size x a.step.now a.stream.now c.requires.step.is_page c.requires.step.fits c.requires.step.can.0 c.requires.made in
    let it : Extends e a.flash.size a.flash.count ss a.log.now.passed form c.index_mut.result.now spot.cursor.place c.behind-next.result.passed c.behind-next.result.place =
    extends e a.flash.size a.flash.count ss a.log.now.passed c.begin_of-cursor.result c.len-len.result spot form c.index_mut.result.now c.behind-next.result.passed c.behind-next.result.place (size_words a.flash.size a.flash.count c.requires.flash) fits
    c.requires.stretches c.requires.openings left c.begin_of-cursor.ensures.passed at (long ∙ ap length is) c.index_mut.ensures.value c.behind-next.ensures.passed c.behind-next.ensures.place in
    it.within

pub returns-clause-begins : goal.returns-clause-begins
returns-clause-begins g c =
    let e = g.E.Order.order in
    let a = c.args in
    let x = a.log.now.index in
    let form : List ℕ = form_with e (node_of x a.step.now) a.stream.now in
    let node : List ℕ = c.write_form.new.out.items in
    let is : node ≡ form = search rules in
    let long : c.len-len.result ≡ length node = search rules in
    let ss : List Stretch = a.log.now.stretches.items in
    let row : List Opening = drop a.log.now.passed (ends_of ss) in
    let spot = c.unwrap-spot.result in
    let left : left_at (ends_of ss) c.begin_of-cursor.result ≡ row =
    subst (λ (l : List Stretch). left_at (ends_of l) c.begin_of-cursor.result ≡ drop a.log.now.passed (ends_of l)) c.deref.ensures.value c.begin_of-cursor.ensures.left in
    let at : IsSpot a.flash.size (ends_of ss) c.begin_of-cursor.result c.len-len.result spot =
    spot_at a.flash.size (ends_of c.deref-2.result.now) (ends_of ss) c.begin_of-cursor.result c.len-len.result c.find.result spot (ap ends_of c.deref-2.ensures.value) c.unwrap-spot.ensures c.find.ensures in
    let fits : FitsBlock a.flash.size form =
    form_fits_block c.requires.step.page e a.flash.size x a.step.now a.stream.now c.requires.step.is_page c.requires.step.fits c.requires.step.can.0 c.requires.made in
    let it : Extends e a.flash.size a.flash.count ss a.log.now.passed form c.index_mut.result.now spot.cursor.place c.behind-next.result.passed c.behind-next.result.place =
    extends e a.flash.size a.flash.count ss a.log.now.passed c.begin_of-cursor.result c.len-len.result spot form c.index_mut.result.now c.behind-next.result.passed c.behind-next.result.place (size_words a.flash.size a.flash.count c.requires.flash) fits
    c.requires.stretches c.requires.openings left c.begin_of-cursor.ensures.passed at (long ∙ ap length is) c.index_mut.ensures.value c.behind-next.ensures.passed c.behind-next.ensures.place in
    it.begins

pub returns-clause-stretches : goal.returns-clause-stretches
returns-clause-stretches g c =
    let e = g.E.Order.order in
    let a = c.args in
    let x = a.log.now.index in
    let form : List ℕ = form_with e (node_of x a.step.now) a.stream.now in
    let node : List ℕ = c.write_form.new.out.items in
    let is : node ≡ form = search rules in
    let long : c.len-len.result ≡ length node = search rules in
    let ss : List Stretch = a.log.now.stretches.items in
    let row : List Opening = drop a.log.now.passed (ends_of ss) in
    let spot = c.unwrap-spot.result in
    let left : left_at (ends_of ss) c.begin_of-cursor.result ≡ row =
    subst (λ (l : List Stretch). left_at (ends_of l) c.begin_of-cursor.result ≡ drop a.log.now.passed (ends_of l)) c.deref.ensures.value c.begin_of-cursor.ensures.left in
    let at : IsSpot a.flash.size (ends_of ss) c.begin_of-cursor.result c.len-len.result spot =
    spot_at a.flash.size (ends_of c.deref-2.result.now) (ends_of ss) c.begin_of-cursor.result c.len-len.result c.find.result spot (ap ends_of c.deref-2.ensures.value) c.unwrap-spot.ensures c.find.ensures in
    let fits : FitsBlock a.flash.size form =
    form_fits_block c.requires.step.page e a.flash.size x a.step.now a.stream.now c.requires.step.is_page c.requires.step.fits c.requires.step.can.0 c.requires.made in
    let it : Extends e a.flash.size a.flash.count ss a.log.now.passed form c.index_mut.result.now spot.cursor.place c.behind-next.result.passed c.behind-next.result.place =
    extends e a.flash.size a.flash.count ss a.log.now.passed c.begin_of-cursor.result c.len-len.result spot form c.index_mut.result.now c.behind-next.result.passed c.behind-next.result.place (size_words a.flash.size a.flash.count c.requires.flash) fits
    c.requires.stretches c.requires.openings left c.begin_of-cursor.ensures.passed at (long ∙ ap length is) c.index_mut.ensures.value c.behind-next.ensures.passed c.behind-next.ensures.place in
    it.longer

pub returns-clause-puts : goal.returns-clause-puts
returns-clause-puts g c =
    let e = g.E.Order.order in
    let a = c.args in
    let x = a.log.now.index in
    let form : List ℕ = form_with e (node_of x a.step.now) a.stream.now in
    let node : List ℕ = c.write_form.new.out.items in
    let is : node ≡ form = search rules in
    let long : c.len-len.result ≡ length node = search rules in
    let ss : List Stretch = a.log.now.stretches.items in
    let row : List Opening = drop a.log.now.passed (ends_of ss) in
    let spot = c.unwrap-spot.result in
    let left : left_at (ends_of ss) c.begin_of-cursor.result ≡ row =
    subst (λ (l : List Stretch). left_at (ends_of l) c.begin_of-cursor.result ≡ drop a.log.now.passed (ends_of l)) c.deref.ensures.value c.begin_of-cursor.ensures.left in
    let at : IsSpot a.flash.size (ends_of ss) c.begin_of-cursor.result c.len-len.result spot =
    spot_at a.flash.size (ends_of c.deref-2.result.now) (ends_of ss) c.begin_of-cursor.result c.len-len.result c.find.result spot (ap ends_of c.deref-2.ensures.value) c.unwrap-spot.ensures c.find.ensures in
    let fits : FitsBlock a.flash.size form =
    form_fits_block c.requires.step.page e a.flash.size x a.step.now a.stream.now c.requires.step.is_page c.requires.step.fits c.requires.step.can.0 c.requires.made in
    let it : Extends e a.flash.size a.flash.count ss a.log.now.passed form c.index_mut.result.now spot.cursor.place c.behind-next.result.passed c.behind-next.result.place =
    extends e a.flash.size a.flash.count ss a.log.now.passed c.begin_of-cursor.result c.len-len.result spot form c.index_mut.result.now c.behind-next.result.passed c.behind-next.result.place (size_words a.flash.size a.flash.count c.requires.flash) fits
    c.requires.stretches c.requires.openings left c.begin_of-cursor.ensures.passed at (long ∙ ap length is) c.index_mut.ensures.value c.behind-next.ensures.passed c.behind-next.ensures.place in
    let goes : GoesTo e a.flash.size row form (opening_of spot) at.rest =
    subst (λ (r : List Opening). GoesTo e a.flash.size r form (opening_of spot) at.rest) left
    (spot_goes e a.flash.size (ends_of ss) c.begin_of-cursor.result c.len-len.result spot form at (long ∙ ap length is)) in
    let good : is_err c.put_form.result ≡ false = search rules in
    let f = form_whole e a.flash.size (opening_of spot) c.deref-3.result.now _ _ _ _ a.places.now.items c.put_form.new.places.items c.put_form.result good c.put_form.ensures.puts in
    let same : c.deref-3.result.now ≡ form = c.deref-3.ensures.value ∙ is in
    let bytes : Appends (g.S.Sink.taken a.log.now.sink) (g.S.Sink.taken c.put_form.new.sink) (output_to e a.flash.size (opening_of spot, form ∷ [])) =
    subst (λ (l : List ℕ). Appends (g.S.Sink.taken a.log.now.sink) (g.S.Sink.taken c.put_form.new.sink) (output_to e a.flash.size (opening_of spot, l ∷ []))) same f.0 in
    let shown : c.put_form.new.places.items ≡ a.places.now.items ++ map shown_place (share_places a.flash.size (opening_of spot, form ∷ [])) =
    subst (λ (l : List ℕ). c.put_form.new.places.items ≡ a.places.now.items ++ map shown_place (share_places a.flash.size (opening_of spot, l ∷ []))) same f.1 in
    let moved : is_err c.advance.result ≡ false = search rules in
    let on = on_ok c.advance.result moved c.advance.ensures.ok in
    (put_in_row e a.flash.size row _ x c.advance.new.index a.step.now form (opening_of spot) at.rest _ _ a.places.now.items c.put_form.new.places.items goes it.left on bytes shown, f.2)
