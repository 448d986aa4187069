use Rattle.std.proofs.Common.{◌≡◌, ℕ, List, take, get_or, refl, ◌∙◌, subst, arith, take_all}
use Rattle.std.specs.Io.KnownBytes.{Appends}
use Rattle.std.proofs.KnownBytes.{Appends-trans}
use Rattle.flashbase.specs.Device.{PutsPart}
use Rattle.jclash.specs.declared.parting.LeftOut.{LeftOut}
use Rattle.jline.proofs.TurnLemmas.{flat_map-next, item_failed}
use Rattle.jremakes.specs.Leaving.{clashing_line, clashing_lines}
use Rattle.jremakes.proofs.leaving.put_lines.Goals as goal

abbrev nobody : LeftOut
nobody = record { addr = 0; by = 0 }

pub loop-i-preserved : goal.loop-i-preserved
loop-i-preserved g c =
    let all : List LeftOut = c.args.left.now in
    let i = c.loop-i.i in
    let inv = c.loop-i.invariant in
    let one : LeftOut = get_or all i nobody in
    let text = c.as_slice.ensures ∙ c.write_left_out.ensures in
    let put = c.in_ok-put_text.ensures.puts in
    record {
      within = omega (arith, c.loop-i-test.true);
      put = subst (Appends (g.T.Sink.taken c.args.sink.now) (g.T.Sink.taken c.put_text.new.sink)) (flat_map-next clashing_line all i nobody one c.loop-i-test.true refl)
          (Appends-trans (g.T.Sink.taken c.args.sink.now) (g.T.Sink.taken c.loop-i.sink) (g.T.Sink.taken c.put_text.new.sink) (clashing_lines (take i all)) (clashing_line one) inv.put
          (subst (λ (l : List ℕ). Appends (g.T.Sink.taken c.loop-i.sink) (g.T.Sink.taken c.put_text.new.sink) l) text put.0));
      failed = put.1 ∙ inv.failed;
    }

pub returns-in_err-put_text : goal.returns-in_err-put_text
returns-in_err-put_text g c =
    let all : List LeftOut = c.args.left.now in
    let i = c.loop-i.i in
    let inv = c.loop-i.invariant in
    let one : LeftOut = get_or all i nobody in
    let text = c.as_slice.ensures ∙ c.write_left_out.ensures in
    let put = c.in_err-put_text.ensures.puts in
    item_failed clashing_line all i nobody one _ (g.T.Sink.taken c.loop-i.sink) _ _ _ _ _ c.from_residual.ensures.0 c.loop-i-test.true refl inv.put inv.failed
    (subst (λ (l : List ℕ). PutsPart (g.T.Sink.taken c.loop-i.sink) (g.T.Sink.taken c.put_text.new.sink) l) text put.0) put.1

pub returns : goal.returns
returns g c =
    let all : List LeftOut = c.args.left.now in
    let inv = c.loop-i.invariant in
    let whole : take c.loop-i.i all ≡ all = take_all c.loop-i.i all (omega (arith, c.loop-i-test.false)) in
    (subst (λ (l : List LeftOut). Appends (g.T.Sink.taken c.args.sink.now) (g.T.Sink.taken c.loop-i.sink) (clashing_lines l)) whole inv.put, inv.failed)
