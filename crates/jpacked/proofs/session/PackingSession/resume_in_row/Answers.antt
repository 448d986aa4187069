use Rattle.std.proofs.Common.{◌≡◌, ◌∙◌, ℕ, List, [], Ok, ap, subst, sym, arith}
use Rattle.flashbase.specs.Ranges.{AreBytes}
use Rattle.jscan.specs.Pages.{page_size}
use Rattle.jmount.specs.Mount.{Mount}
use Rattle.jsteps.specs.Nodes.{indexed}
use Rattle.jlog.specs.Resuming.{resumes_by}
use Rattle.jlog.specs.Session.{IsGoing}
use Rattle.jlog.specs.SessionAsLaws.{held_by}
use Rattle.jrow.specs.Arranged.{arranged}
use Rattle.jpacked.proofs.BeginLemmas.{begins_in_row, done_by, resumed_is_ok}
use Rattle.jpacked.proofs.session.PackingSession.resume_in_row.Goals as goal

pub start-cursor-requires-clause-row : goal.start-cursor-requires-clause-row
start-cursor-requires-clause-row g c =
    let f = c.args.flash in
    let e = g.E.Order.order in
    let m : Mount = c.args.mounted.now in
    let goes : resumes_by f.page e f.geometry.block f.blocks m ≡ Ok c.in-Ok.tail = sym c.start_at.ensures ∙ c.in-Ok.is in
    let known = begins_in_row f.page e f.geometry.block f.blocks c.in-Ok.tail m c.args.row.now c.requires.through (subst AreBytes c.image.ensures c.known_bytes.ensures) goes c.requires.row in
    known.is_row

pub begin-requires-clause-going : goal.begin-requires-clause-going
begin-requires-clause-going g c =
    let f = c.args.flash in
    let e = g.E.Order.order in
    let m : Mount = c.args.mounted.now in
    let goes : resumes_by f.page e f.geometry.block f.blocks m ≡ Ok c.in-Ok.tail = sym c.start_at.ensures ∙ c.in-Ok.is in
    let known = begins_in_row f.page e f.geometry.block f.blocks c.in-Ok.tail m c.args.row.now c.requires.through (subst AreBytes c.image.ensures c.known_bytes.ensures) goes c.requires.row in
    subst (λ (i : ℕ). IsGoing f.geometry.block f.blocks i (indexed m)) (sym c.start-cursor.ensures) known.going

pub returns-in-Ok-begin-clause-begun : goal.returns-in-Ok-begin-clause-begun
returns-in-Ok-begin-clause-begun g c =
    let f = c.args.flash in
    let e = g.E.Order.order in
    let m : Mount = c.args.mounted.now in
    let goes : resumes_by f.page e f.geometry.block f.blocks m ≡ Ok c.in-Ok.tail = sym c.start_at.ensures ∙ c.in-Ok.is in
    let known = begins_in_row f.page e f.geometry.block f.blocks c.in-Ok.tail m c.args.row.now c.requires.through (subst AreBytes c.image.ensures c.known_bytes.ensures) goes c.requires.row in
    let is = c.in-Ok-begin.ensures.begun in
    let s = c.in-Ok-begin.session in
    let base : List ℕ = arranged e f.geometry.block f.blocks m.image m.image in
    let at = is.cursor ∙ c.start-cursor.ensures in
    record {
      of = record { block = is.block; blocks = is.blocks; page = is.page; index = is.index; held = is.held; cursor = at ∙ known.start; whole = is.whole; sink = is.sink };
      resumes = resumed_is_ok f.page e f.geometry.block f.blocks m c.in-Ok.tail goes;
      begins = record {
        bytes = known.bytes;
        goes_on = done_by (page_size f.page) e f.geometry.block s.block f.blocks s.blocks _ s.log.cursor s.page base (indexed m) s.log.index (ap page_size is.page) is.block is.blocks at is.index known.done;
        held = subst (λ (i : ℕ). s.held ≡ held_by e i base []) (sym is.block) (omega (arith, is.held, known.long));
      };
    }
