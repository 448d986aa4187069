use Rattle.std.proofs.Common.{◌≡◌, ◌∙◌, ◌≤◌, ℕ, List, ap, refl, subst, sym, arith, length}
use Rattle.jmount.specs.Mount.{Mount}
use Rattle.jsteps.specs.Nodes.{indexed}
use Rattle.jexpand.specs.Expanded.{unpacked_bytes}
use Rattle.jview.specs.Through.{greatest_contents, IsSoundThrough}
use Rattle.jlog.specs.Session.{IsGoing}
use Rattle.jpacked.proofs.session.PackingSession.begin.Goals as goal

pub contents_len-requires : goal.contents_len-requires
contents_len-requires g c =
    subst (IsSoundThrough g.E.Order.order c.args.flash.geometry.block) (sym c.image.ensures) c.requires.through.mounts.sound

pub invariant_of-result : goal.invariant_of-result
invariant_of-result g c =
    let e = g.E.Order.order in
    let a = c.args in
    let m : Mount = a.mounted.now in
    let index : c.in-Ok.parts.0 ≡ indexed m = c.in-Ok.ensures.index in
    let sound : length (unpacked_bytes e a.flash.geometry.block m.image) ≤ greatest_contents = c.requires.through.mounts.sound.contents in
    record {
      flash = c.requires.writable;
      holds = c.requires.holds;
      going = λ _. subst (IsGoing a.flash.geometry.block a.flash.blocks a.cursor) (sym index) c.requires.going;
      few = omega (arith, c.contents_len.ensures, ap (λ (l : List ℕ). length (unpacked_bytes e a.flash.geometry.block l)) c.image.ensures, sound);
    }

pub returns-clause-begun : goal.returns-clause-begun
returns-clause-begun g c =
    let e = g.E.Order.order in
    let a = c.args in
    record {
      block = refl;
      blocks = refl;
      page = refl;
      index = c.in-Ok.ensures.index;
      held = c.contents_len.ensures ∙ ap (λ (l : List ℕ). length (unpacked_bytes e a.flash.geometry.block l)) c.image.ensures;
      cursor = refl;
      whole = refl;
      sink = refl;
    }
