use Rattle.std.proofs.Common.{rules, ◌≡◌, [], ◌∷◌, ◌++◌, take, Ok, Err, sym}
use Rattle.jscan.specs.Pages.{page_size}
use Rattle.jsteps.proofs.FewLemmas.{sizes_are_pages}
use Rattle.jlog.proofs.SurviveLemmas.{apply_survives, apply_goes_on, moved}
use Rattle.jlog.proofs.ShapeLemmas.{apply_keeps_shape}
use Rattle.jlog.proofs.session.Session.apply.Goals as goal

pub returns-in-Ok-clause-shape : goal.returns-in-Ok-clause-shape
returns-in-Ok-clause-shape g c =
    let s = c.args.self.now in
    let t = c.apply_onto.new.self in
    apply_keeps_shape (page_size s.page) g.E.Order.order s.block s.blocks s.cursor s.index c.args.op.now s.broken t.cursor t.index t.broken (g.S.Sink.taken s.sink) (g.S.Sink.taken t.sink)
    (g.S.Sink.failures s.sink) (g.S.Sink.failures t.sink) c.new-places.result.items c.apply_onto.new.places.items c.apply_onto.result (λ whole. (s.going whole).consistent) c.apply_onto.ensures.applies

pub returns-in-Err-clause-shape : goal.returns-in-Err-clause-shape
returns-in-Err-clause-shape g c =
    let s = c.args.self.now in
    let t = c.apply_onto.new.self in
    apply_keeps_shape (page_size s.page) g.E.Order.order s.block s.blocks s.cursor s.index c.args.op.now s.broken t.cursor t.index t.broken (g.S.Sink.taken s.sink) (g.S.Sink.taken t.sink)
    (g.S.Sink.failures s.sink) (g.S.Sink.failures t.sink) c.new-places.result.items c.apply_onto.new.places.items c.apply_onto.result (λ whole. (s.going whole).consistent) c.apply_onto.ensures.applies

pub returns-in-Ok-clause-survives : goal.returns-in-Ok-clause-survives
returns-in-Ok-clause-survives g c =
    let s = c.args.self.now in
    let t = c.apply_onto.new.self in
    let none : c.new-places.result.items ≡ [] = search rules in
    λ whole done.
    apply_survives s.broken (page_size s.page) g.E.Order.order s.block s.blocks s.cursor s.index c.args.op.now t.cursor t.index t.broken (g.S.Sink.taken s.sink) (g.S.Sink.taken t.sink)
    (g.S.Sink.failures s.sink) (g.S.Sink.failures t.sink) c.new-places.result.items c.apply_onto.new.places.items c.apply_onto.result (Ok (tt {0})) s.base.now done (sizes_are_pages s.page) s.holds
    none c.in-Ok.is c.apply_onto.ensures.applies whole c.known_bytes.ensures c.known.ensures

pub returns-in-Ok-clause-done : goal.returns-in-Ok-clause-done
returns-in-Ok-clause-done g c =
    let s = c.args.self.now in
    let t = c.apply_onto.new.self in
    let none : c.new-places.result.items ≡ [] = search rules in
    λ whole done on.
    moved s.page t.page g.E.Order.order s.block t.block s.blocks t.blocks s.base.now t.base.now (done ++ take 1 (c.args.op.now ∷ [])) t.cursor t.index
    (sym c.apply_onto.ensures.page) (sym c.apply_onto.ensures.block) (sym c.apply_onto.ensures.blocks) (sym c.apply_onto.ensures.base)
    (apply_goes_on s.broken (page_size s.page) g.E.Order.order s.block s.blocks s.cursor s.index c.args.op.now t.cursor t.index t.broken (g.S.Sink.taken s.sink) (g.S.Sink.taken t.sink)
    (g.S.Sink.failures s.sink) (g.S.Sink.failures t.sink) c.new-places.result.items c.apply_onto.new.places.items c.apply_onto.result (Ok (tt {0})) s.base.now done
    none c.in-Ok.is c.apply_onto.ensures.applies whole c.known.ensures on)

pub returns-in-Err-clause-survives : goal.returns-in-Err-clause-survives
returns-in-Err-clause-survives g c =
    let s = c.args.self.now in
    let t = c.apply_onto.new.self in
    let none : c.new-places.result.items ≡ [] = search rules in
    λ whole done.
    apply_survives s.broken (page_size s.page) g.E.Order.order s.block s.blocks s.cursor s.index c.args.op.now t.cursor t.index t.broken (g.S.Sink.taken s.sink) (g.S.Sink.taken t.sink)
    (g.S.Sink.failures s.sink) (g.S.Sink.failures t.sink) c.new-places.result.items c.apply_onto.new.places.items c.apply_onto.result (Err c.in-Err.fault) s.base.now done (sizes_are_pages s.page) s.holds
    none c.in-Err.is c.apply_onto.ensures.applies whole c.known_bytes.ensures c.known.ensures

pub returns-in-Err-clause-done : goal.returns-in-Err-clause-done
returns-in-Err-clause-done g c =
    let s = c.args.self.now in
    let t = c.apply_onto.new.self in
    let none : c.new-places.result.items ≡ [] = search rules in
    λ whole done on.
    moved s.page t.page g.E.Order.order s.block t.block s.blocks t.blocks s.base.now t.base.now (done ++ take 0 (c.args.op.now ∷ [])) t.cursor t.index
    (sym c.apply_onto.ensures.page) (sym c.apply_onto.ensures.block) (sym c.apply_onto.ensures.blocks) (sym c.apply_onto.ensures.base)
    (apply_goes_on s.broken (page_size s.page) g.E.Order.order s.block s.blocks s.cursor s.index c.args.op.now t.cursor t.index t.broken (g.S.Sink.taken s.sink) (g.S.Sink.taken t.sink)
    (g.S.Sink.failures s.sink) (g.S.Sink.failures t.sink) c.new-places.result.items c.apply_onto.new.places.items c.apply_onto.result (Err c.in-Err.fault) s.base.now done
    none c.in-Err.is c.apply_onto.ensures.applies whole c.known.ensures on)
