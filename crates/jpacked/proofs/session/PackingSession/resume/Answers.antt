use Rattle.std.proofs.Common.{◌≡◌, ◌∙◌, ℕ, [], Ok, ap, refl, subst, sym, arith}
use Rattle.flashbase.specs.Ranges.{AreBytes}
use Rattle.jscan.specs.Pages.{page_size}
use Rattle.jmount.specs.Mount.{Mount}
use Rattle.jsteps.specs.Nodes.{indexed}
use Rattle.jlog.specs.Resuming.{resumes_by}
use Rattle.jlog.specs.SessionAsLaws.{held_by}
use Rattle.jpacked.proofs.BeginLemmas.{begins, done_by}
use Rattle.jpacked.proofs.session.PackingSession.resume.Goals as goal

pub begin-requires-clause-going : goal.begin-requires-clause-going
begin-requires-clause-going g c =
    let f = c.args.flash in
    let m : Mount = c.args.mounted.now in
    let goes : resumes_by f.page g.E.Order.order f.geometry.block f.blocks m ≡ Ok c.in-Ok.cursor = sym c.start_at.ensures ∙ c.in-Ok.is in
    (begins f.page g.E.Order.order f.geometry.block f.blocks c.in-Ok.cursor m c.requires (subst AreBytes c.image.ensures c.known_bytes.ensures) goes).going

pub returns-in-Ok-begin-clause-begun : goal.returns-in-Ok-begin-clause-begun
returns-in-Ok-begin-clause-begun g c =
    let f = c.args.flash in
    let e = g.E.Order.order in
    let m : Mount = c.args.mounted.now in
    let bytes : AreBytes m.image = subst AreBytes c.image.ensures c.known_bytes.ensures in
    let goes : resumes_by f.page e f.geometry.block f.blocks m ≡ Ok c.in-Ok.cursor = sym c.start_at.ensures ∙ c.in-Ok.is in
    let known = begins f.page e f.geometry.block f.blocks c.in-Ok.cursor m c.requires bytes goes in
    let is = c.in-Ok-begin.ensures.begun in
    let s = c.in-Ok-begin.session in
    record {
      of = record { block = is.block; blocks = is.blocks; page = is.page; index = is.index; held = is.held; cursor = refl; whole = is.whole; sink = is.sink };
      cursor = goes ∙ ap (λ (i : ℕ). Ok i) (sym is.cursor);
      begins = record {
        bytes = bytes;
        goes_on = done_by (page_size f.page) e f.geometry.block s.block f.blocks s.blocks c.in-Ok.cursor s.log.cursor s.page m.image (indexed m) s.log.index (ap page_size is.page) is.block is.blocks is.cursor is.index known.done;
        held = subst (λ (i : ℕ). s.held ≡ held_by e i m.image []) (sym is.block) (omega (arith, is.held));
      };
    }
