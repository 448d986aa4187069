use Rattle.std.proofs.Common.{◌≡◌, ℕ, ◌-◌, ◌+◌, List, take, ◌∙◌, subst, arith}
use Rattle.std.specs.Io.KnownBytes.{Appends}
use Rattle.flashbase.specs.Device.{PutsPart}
use Rattle.jjson.specs.Json.{string_spelled, string_spelled_byte}
use Rattle.jline.proofs.TurnLemmas.{piece_put, piece_failed}
use Rattle.jjson.proofs.strings.put_spelled.Goals as goal

pub returns-in_err-put_text : goal.returns-in_err-put_text
returns-in_err-put_text g c =
    let bytes = c.args.bytes.now in
    let start = c.loop-start.start in
    let before = c.loop-start.invariant in
    let line = c.as_slice.ensures ∙ c.write_piece.ensures in
    let put = c.in_err-put_text.ensures.puts in
    piece_failed (string_spelled_byte c.args.way) bytes start (c.min-end.result - start) _ (g.T.Sink.taken c.loop-start.sink) _ _ _ _ _ c.from_residual.ensures.0 before.put before.failed
    (subst (λ (l : List ℕ). PutsPart (g.T.Sink.taken c.loop-start.sink) (g.T.Sink.taken c.put_text.new.sink) l) line put.0) put.1

pub loop-start-preserved : goal.loop-start-preserved
loop-start-preserved g c =
    let bytes = c.args.bytes.now in
    let start = c.loop-start.start in
    let end = c.min-end.result in
    let before = c.loop-start.invariant in
    let line = c.as_slice.ensures ∙ c.write_piece.ensures in
    let put = c.in_ok-put_text.ensures.puts in
    let upto : start + (end - start) ≡ end = omega (arith, c.min-end.ensures, c.loop-start-test.true) in
    record {
      within = omega (arith, c.min-end.ensures);
      put = subst (λ (n : ℕ). Appends (g.T.Sink.taken c.args.sink.now) (g.T.Sink.taken c.put_text.new.sink) (string_spelled c.args.way (take n bytes))) upto
          (piece_put (string_spelled_byte c.args.way) bytes start (end - start) _ (g.T.Sink.taken c.loop-start.sink) _ before.put
          (subst (λ (l : List ℕ). Appends (g.T.Sink.taken c.loop-start.sink) (g.T.Sink.taken c.put_text.new.sink) l) line put.0));
      failed = put.1 ∙ before.failed;
    }
