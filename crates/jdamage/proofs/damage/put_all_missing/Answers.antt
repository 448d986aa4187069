use Rattle.std.proofs.Common.{[], get_or, refl, arith, ◌∙◌, subst}
use Rattle.std.specs.Io.KnownBytes.{Appends}
use Rattle.std.proofs.KnownBytes.{Appends-trans}
use Rattle.jline.proofs.TurnLemmas.{flat_map-next, item_failed}
use Rattle.jdamage.specs.Damage.{missing_text}
use Rattle.jdamage.specs.Ways.{HeldName, name_held}
use Rattle.jdamage.proofs.RoomLemmas.{held_fits}
use Rattle.jdamage.proofs.damage.put_all_missing.Goals as goal

pub put_missing_name-requires : goal.put_missing_name-requires
put_missing_name-requires g c =
    let d : HeldName = (0, record { ref_ptr = (0, 0); now = [] }, 0) in
    omega (arith, held_fits c.args.ways.now.up.mounted.now.state _ c.args.missing.now c.loop-name.name-index d c.loop-name-test.true c.requires, c.loop-name.invariant.capacity)

pub returns-in_err-put_missing_name-clause-puts : goal.returns-in_err-put_missing_name-clause-puts
returns-in_err-put_missing_name-clause-puts g c =
    let put = c.in_err-put_missing_name.ensures.puts in
    let before = c.loop-name.invariant in
    let d : HeldName = (0, record { ref_ptr = (0, 0); now = [] }, 0) in
    let name = get_or c.args.missing.now c.loop-name.name-index d in
    item_failed (λ n. missing_text c.args.ways.now.up.mounted.now.state (name_held n)) c.args.missing.now c.loop-name.name-index d name _ (g.T.Sink.taken c.loop-name.sink) _ _ _ _ _
    c.from_residual.ensures.0 c.loop-name-test.true refl before.put before.failed put.0 put.1

pub loop-name-preserved : goal.loop-name-preserved
loop-name-preserved g c =
    let put = c.in_ok-put_missing_name.ensures.puts in
    let before = c.loop-name.invariant in
    let i = c.loop-name.name-index in
    let d : HeldName = (0, record { ref_ptr = (0, 0); now = [] }, 0) in
    let name = get_or c.args.missing.now i d in
    record {
      put = subst (Appends (g.T.Sink.taken c.args.sink.now) (g.T.Sink.taken c.put_missing_name.new.sink))
          (flat_map-next (λ n. missing_text c.args.ways.now.up.mounted.now.state (name_held n)) c.args.missing.now i d name c.loop-name-test.true refl)
          (Appends-trans _ (g.T.Sink.taken c.loop-name.sink) _ _ _ before.put put.0);
      failed = put.1 ∙ before.failed;
      capacity = omega (arith, before.capacity, c.put_missing_name.ensures.capacity);
    }
