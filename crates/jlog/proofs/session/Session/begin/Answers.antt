use Rattle.std.proofs.Common.{◌≡◌, ◌∙◌, ◌+◌, Ok, ap, refl, subst, sym}
use Rattle.std.proofs.lemmas.Bool.{leb-true}
use Rattle.flashbase.specs.Ranges.{AreBytes}
use Rattle.jscan.specs.Pages.{page_size}
use Rattle.jmount.specs.Mount.{Mount}
use Rattle.jmount.specs.Mounts.{IsMountOf}
use Rattle.jsteps.specs.Nodes.{indexed}
use Rattle.jlog.specs.Resuming.{resumes}
use Rattle.jlog.specs.declared.start.Flash.{Flash}
use Rattle.jlog.proofs.ResumeLemmas.{resumed_by, resumed_paged, fresh_by}
use Rattle.jlog.proofs.SurviveLemmas.{fresh_has_done}
use Rattle.jlog.proofs.session.Session.begin.Goals as goal

pub invariant_of-result : goal.invariant_of-result
invariant_of-result g c =
    let e = g.E.Order.order in
    let f : Flash = c.flash-flash.result in
    let k : Mount = c.mounted-mounted.result.now in
    let goes : resumes e f k ≡ Ok c.address.result =
    subst (λ (n : Mount). resumes e f n ≡ Ok c.address.result) (sym c.mounted-mounted.ensures.same)
    (subst (λ (d : Flash). resumes e d c.args.start.now.mounted.now ≡ Ok c.address.result) (sym c.flash-flash.ensures) c.address.ensures.goes_on) in
    let mount : IsMountOf e f.geometry.block k = subst (λ (d : Flash). IsMountOf e d.geometry.block k) (sym c.flash-flash.ensures) c.mounted-mounted.ensures.mount in
    let bytes : AreBytes k.image = subst AreBytes c.image-base.ensures c.known_bytes.ensures in
    let paged = resumed_paged f.page e f.geometry.block f.blocks k c.address.result goes in
    let did = resumed_by e f.geometry.block f.blocks k c.address.result c.in-Ok.parts.0 paged.0 mount bytes c.in-Ok.ensures.index in
    record { flash = did.0; holds = leb-true (page_size f.page + 80) f.geometry.block paged.1; going = λ _. did.1 }

pub returns-clause-begun : goal.returns-clause-begun
returns-clause-begun g c =
    let e = g.E.Order.order in
    let f : Flash = c.flash-flash.result in
    let k : Mount = c.mounted-mounted.result.now in
    let goes : resumes e f k ≡ Ok c.address.result =
    subst (λ (n : Mount). resumes e f n ≡ Ok c.address.result) (sym c.mounted-mounted.ensures.same)
    (subst (λ (d : Flash). resumes e d c.args.start.now.mounted.now ≡ Ok c.address.result) (sym c.flash-flash.ensures) c.address.ensures.goes_on) in
    let mount : IsMountOf e f.geometry.block k = subst (λ (d : Flash). IsMountOf e d.geometry.block k) (sym c.flash-flash.ensures) c.mounted-mounted.ensures.mount in
    let paged = resumed_paged f.page e f.geometry.block f.blocks k c.address.result goes in
    let fresh = fresh_by e f.geometry.block f.blocks k c.image-base.result.now c.address.result c.in-Ok.parts.0 paged.0 mount c.image-base.ensures c.in-Ok.ensures.index in
    record {
      base = c.image-base.ensures ∙ ap (λ (n : Mount). n.image) c.mounted-mounted.ensures.same;
      block = ap (λ (d : Flash). d.geometry.block) c.flash-flash.ensures;
      blocks = ap (λ (d : Flash). d.blocks) c.flash-flash.ensures;
      page = ap (λ (d : Flash). d.page) c.flash-flash.ensures;
      index = c.in-Ok.ensures.index ∙ ap indexed c.mounted-mounted.ensures.same;
      cursor = c.address.ensures.goes_on;
      whole = refl;
      sink = refl;
      buffer = c.in-Ok.ensures.buffer;
      resumed = fresh;
      begins = fresh_has_done (page_size f.page) e f.geometry.block f.blocks c.address.result c.image-base.result.now c.in-Ok.parts.0 fresh;
    }
