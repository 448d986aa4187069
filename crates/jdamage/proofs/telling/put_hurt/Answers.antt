use Rattle.std.proofs.Common.{◌≡◌, ◌++◌, ℕ, List, codes, length, arith, subst, ◌∙◌}
use Rattle.std.specs.Prelude.{Ok, Result}
use Rattle.std.specs.Io.KnownBytes.{Appends}
use Rattle.flashbase.specs.Device.{Puts, PutsPart}
use Rattle.flashbase.specs.declared.source.DeviceFault.{DeviceFault}
use Rattle.flashbase.proofs.DeviceLemmas.{first_failed, then_failed, then_puts}
use Rattle.jdamage.specs.Damage.{rest_text}
use Rattle.jdamage.specs.Lines.{stretch_start}
use Rattle.jdamage.specs.Telling.{first_lines}
use Rattle.jdamage.specs.Ways.{paths_to}
use Rattle.jdamage.proofs.telling.put_hurt.Goals as goal

pub returns-in_err-count-clause-puts : goal.returns-in_err-count-clause-puts
returns-in_err-count-clause-puts g c =
    let s = c.args.ways.now.up.mounted.now.state in
    let addr = c.args.addr in
    let lost = c.args.lost.now in
    let start : c.as_slice.result.now ≡ stretch_start addr lost ++ codes " hides " = c.as_slice.ensures ∙ c.hides_start-start.ensures in
    let put = c.in_err-count.ensures.puts in
    first_failed _ _ _ _ (first_lines s (stretch_start addr lost ++ codes " hides ") lost.ino) (rest_text addr lost (length (paths_to s lost.ino))) _ c.from_residual.ensures.0
    (subst (λ (l : List ℕ). PutsPart (g.T.Sink.taken c.args.sink.now) (g.T.Sink.taken c.put_paths.new.sink) (first_lines s l lost.ino)) start put.0) put.1

pub returns-in_err-put_rest-clause-puts : goal.returns-in_err-put_rest-clause-puts
returns-in_err-put_rest-clause-puts g c =
    let s = c.args.ways.now.up.mounted.now.state in
    let addr = c.args.addr in
    let lost = c.args.lost.now in
    let start : c.as_slice.result.now ≡ stretch_start addr lost ++ codes " hides " = c.as_slice.ensures ∙ c.hides_start-start.ensures in
    let lines = c.in_ok-count.ensures.puts in
    let put = c.in_err-put_rest.ensures in
    then_failed _ (g.T.Sink.taken c.put_paths.new.sink) _ _ _ _ (first_lines s (stretch_start addr lost ++ codes " hides ") lost.ino) (rest_text addr lost (length (paths_to s lost.ino))) _
    c.from_residual-in_err-put_rest.ensures.0
    (subst (λ (l : List ℕ). Appends (g.T.Sink.taken c.args.sink.now) (g.T.Sink.taken c.put_paths.new.sink) (first_lines s l lost.ino)) start lines.0) lines.1
    (subst (λ (n : ℕ). PutsPart (g.T.Sink.taken c.put_paths.new.sink) (g.T.Sink.taken c.put_rest.new.sink) (rest_text addr lost n)) c.in_ok-count.ensures.count put.0) put.1

pub returns-clause-puts : goal.returns-clause-puts
returns-clause-puts g c =
    let s = c.args.ways.now.up.mounted.now.state in
    let addr = c.args.addr in
    let lost = c.args.lost.now in
    let start : c.as_slice.result.now ≡ stretch_start addr lost ++ codes " hides " = c.as_slice.ensures ∙ c.hides_start-start.ensures in
    let lines = c.in_ok-count.ensures.puts in
    let put = c.in_ok-put_rest.ensures in
    let answer : Result ℕ DeviceFault = Ok c.in_ok-count.count in
    then_puts _ (g.T.Sink.taken c.put_paths.new.sink) _ _ _ _ (first_lines s (stretch_start addr lost ++ codes " hides ") lost.ino) (rest_text addr lost (length (paths_to s lost.ino))) answer
    (subst (λ (l : List ℕ). Appends (g.T.Sink.taken c.args.sink.now) (g.T.Sink.taken c.put_paths.new.sink) (first_lines s l lost.ino)) start lines.0) lines.1
    (subst (λ (n : ℕ). Appends (g.T.Sink.taken c.put_paths.new.sink) (g.T.Sink.taken c.put_rest.new.sink) (rest_text addr lost n)) c.in_ok-count.ensures.count put.0, put.1)

pub returns-clause-count : goal.returns-clause-count
returns-clause-count g c = omega (arith, c.in_ok-count.ensures.count, c.in_ok-count.ensures.few)
