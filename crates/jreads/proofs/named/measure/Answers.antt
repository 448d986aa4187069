use Rattle.std.proofs.Common.{◌∙◌, refl, sym}
use Rattle.jbuild.specs.HostFiles.{read_of}
use Rattle.jreads.proofs.NamedLemmas.{has_room, lacks_room, measured_before, measured_now}
use Rattle.jreads.proofs.named.measure.Goals as goal

pub returns-then-has : goal.returns-then-has
returns-then-has g c = λ files count.
    let seen = read_of c.args.count.now.files in
    measured_before seen c.args.count.now.left c.args.name.now (sym c.has.ensures ∙ c.if-has.true) files count

pub returns-then-count-length : goal.returns-then-count-length
returns-then-count-length g c = λ files count.
    let seen = read_of c.args.count.now.files in
    let left = c.args.count.now.left in
    measured_now seen left c.args.name.now c.length-length.result (sym c.has.ensures ∙ c.if-has.false) files count
    c.length-length.ensures
    (refl, lacks_room seen left c.length-length.result files count c.if-count-length.true)

pub returns-in-Ok : goal.returns-in-Ok
returns-in-Ok g c = λ files count.
    let seen = read_of c.args.count.now.files in
    let left = c.args.count.now.left in (
      _,
      measured_now seen left c.args.name.now c.length-length.result (sym c.has.ensures ∙ c.if-has.false) files count
          c.length-length.ensures
          (refl, has_room seen left c.length-length.result files count c.if-count-length.false),
      c.in-Ok.ensures files count,
    )

pub returns-in-Err : goal.returns-in-Err
returns-in-Err g c = λ files count.
    let seen = read_of c.args.count.now.files in
    let left = c.args.count.now.left in
    measured_now seen left c.args.name.now c.length-length.result (sym c.has.ensures ∙ c.if-has.false) files count
    c.length-length.ensures
    (has_room seen left c.length-length.result files count c.if-count-length.false)
