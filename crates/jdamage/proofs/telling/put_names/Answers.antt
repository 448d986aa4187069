use Rattle.std.proofs.Common.{[], get_or, refl, arith, ◌∙◌, subst}
use Rattle.std.specs.Io.KnownBytes.{Appends}
use Rattle.std.proofs.KnownBytes.{Appends-trans}
use Rattle.jline.proofs.TurnLemmas.{flat_map-next, item_failed}
use Rattle.jdamage.specs.Telling.{named_text}
use Rattle.jdamage.specs.Ways.{HeldName}
use Rattle.jdamage.proofs.RoomLemmas.{held_fits}
use Rattle.jdamage.proofs.telling.put_names.Goals as goal

pub put_name-requires : goal.put_name-requires
put_name-requires g c =
    let d : HeldName = (0, record { ref_ptr = (0, 0); now = [] }, 0) in
    omega (arith, held_fits c.args.ways.now.up.mounted.now.state _ c.args.names.now c.loop-name.name-index d c.loop-name-test.true c.requires, c.loop-name.invariant.capacity)

pub returns-in_err-put_name-clause-puts : goal.returns-in_err-put_name-clause-puts
returns-in_err-put_name-clause-puts g c =
    let put = c.in_err-put_name.ensures.puts in
    let before = c.loop-name.invariant in
    let d : HeldName = (0, record { ref_ptr = (0, 0); now = [] }, 0) in
    let name = get_or c.args.names.now c.loop-name.name-index d in
    item_failed (named_text c.args.ways.now.up.mounted.now.state c.args.start.now) c.args.names.now c.loop-name.name-index d name _ (g.T.Sink.taken c.loop-name.sink) _ _ _ _ _
    c.from_residual.ensures.0 c.loop-name-test.true refl before.put before.failed put.0 put.1

pub loop-name-preserved : goal.loop-name-preserved
loop-name-preserved g c =
    let s = c.args.ways.now.up.mounted.now.state in
    let put = c.in_ok-put_name.ensures.puts in
    let before = c.loop-name.invariant in
    let i = c.loop-name.name-index in
    let d : HeldName = (0, record { ref_ptr = (0, 0); now = [] }, 0) in
    let name = get_or c.args.names.now i d in
    let text = named_text s c.args.start.now in
    record {
      put = subst (Appends (g.T.Sink.taken c.args.sink.now) (g.T.Sink.taken c.put_name.new.sink)) (flat_map-next text c.args.names.now i d name c.loop-name-test.true refl)
          (Appends-trans _ (g.T.Sink.taken c.loop-name.sink) _ _ _ before.put put.0);
      failed = put.1 ∙ before.failed;
      capacity = omega (arith, before.capacity, c.put_name.ensures.capacity);
    }
