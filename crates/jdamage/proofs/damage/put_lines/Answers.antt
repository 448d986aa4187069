use Rattle.std.proofs.Common.{ℕ}
use Rattle.std.specs.Prelude.{Ok, Result}
use Rattle.std.specs.List.{flat_map}
use Rattle.flashbase.specs.declared.source.DeviceFault.{DeviceFault}
use Rattle.flashbase.proofs.DeviceLemmas.{first_failed, then_failed, then_puts}
use Rattle.jdamage.specs.Telling.{missing_texts, own_text}
use Rattle.jdamage.proofs.damage.put_lines.Goals as goal

pub returns-in_err-paths-clause-puts : goal.returns-in_err-paths-clause-puts
returns-in_err-paths-clause-puts g c =
    let e = g.E.Order.order in
    let m = c.args.ways.now.up.mounted.now in
    let put = c.in_err-paths.ensures.puts in
    first_failed _ _ _ _ (flat_map (own_text e m c.args.hidden.now) c.args.damaged.now) (missing_texts m.state c.args.missing.now) _ c.from_residual.ensures.0 put.0 put.1

pub returns-in_err-put_all_missing-clause-puts : goal.returns-in_err-put_all_missing-clause-puts
returns-in_err-put_all_missing-clause-puts g c =
    let e = g.E.Order.order in
    let m = c.args.ways.now.up.mounted.now in
    let nodes = c.in_ok-paths.ensures.puts in
    let put = c.in_err-put_all_missing.ensures.puts in
    then_failed _ (g.T.Sink.taken c.put_nodes.new.sink) _ _ _ _ (flat_map (own_text e m c.args.hidden.now) c.args.damaged.now) (missing_texts m.state c.args.missing.now) _
    c.from_residual-in_err-put_all_missing.ensures.0 nodes.0 nodes.1 put.0 put.1

pub returns-clause-puts : goal.returns-clause-puts
returns-clause-puts g c =
    let e = g.E.Order.order in
    let m = c.args.ways.now.up.mounted.now in
    let nodes = c.in_ok-paths.ensures.puts in
    let names = c.in_ok-put_all_missing.ensures.puts in
    let a = g.T.Sink.taken c.args.sink.now in
    let b = g.T.Sink.taken c.put_nodes.new.sink in
    let d = g.T.Sink.taken c.put_all_missing.new.sink in
    let before = g.T.Sink.failures c.args.sink.now in
    let mid = g.T.Sink.failures c.put_nodes.new.sink in
    let now = g.T.Sink.failures c.put_all_missing.new.sink in
    let answer : Result ℕ DeviceFault = Ok c.in_ok-paths.paths in
    then_puts a b d before mid now (flat_map (own_text e m c.args.hidden.now) c.args.damaged.now) (missing_texts m.state c.args.missing.now) answer nodes.0 nodes.1 (names.0, names.1)
