use Rattle.std.proofs.Common.{◌≡◌, ◌++◌, ℕ, length, ap, ◌∙◌, subst}
use Rattle.std.specs.Prelude.{Ok, Result}
use Rattle.std.specs.Io.KnownBytes.{Appends}
use Rattle.std.specs.List.{flat_map}
use Rattle.flashbase.specs.Device.{Puts, PutsPart}
use Rattle.flashbase.specs.declared.source.DeviceFault.{DeviceFault}
use Rattle.flashbase.proofs.DeviceLemmas.{first_failed, part_before, then_failed, then_puts}
use Rattle.jdamage.specs.Damage.{gap_text}
use Rattle.jdamage.specs.Lines.{totals_shown}
use Rattle.jdamage.specs.Telling.{own_lines, own_totals}
use Rattle.jdamage.specs.declared.totals.Totals.{Totals}
use Rattle.jdamage.proofs.RoomLemmas.{paths_fit_more}
use Rattle.jdamage.proofs.damage.put_all.Goals as goal

pub returns-in_err-paths-clause-puts : goal.returns-in_err-paths-clause-puts
returns-in_err-paths-clause-puts g c =
    let e = g.E.Order.order in
    let m = c.args.ways.now.up.mounted.now in
    let f = c.args.found in
    let put = c.in_err-paths.ensures.puts in
    first_failed _ _ _ _ (own_lines e m c.args.hidden.now f.damaged.now f.missing.now)
    (flat_map (gap_text m.state) f.gaps.now ++ totals_shown (own_totals e m c.args.hidden.now f.damaged.now f.missing.now f.gaps.now)) _ c.from_residual.ensures.0 put.0 put.1

pub put_gaps-requires-clause-room : goal.put_gaps-requires-clause-room
put_gaps-requires-clause-room g c = λ k d less. paths_fit_more c.args.ways.now.up.mounted.now.state _ _ _ c.put_lines.ensures.capacity (c.requires.gaps k d less)

pub returns-in_err-gaps-clause-puts : goal.returns-in_err-gaps-clause-puts
returns-in_err-gaps-clause-puts g c =
    let e = g.E.Order.order in
    let m = c.args.ways.now.up.mounted.now in
    let f = c.args.found in
    let last = totals_shown (own_totals e m c.args.hidden.now f.damaged.now f.missing.now f.gaps.now) in
    let lines = c.in_ok-paths.ensures.puts in
    let put = c.in_err-gaps.ensures.puts in
    then_failed _ (g.T.Sink.taken c.put_lines.new.sink) _ _ _ _ (own_lines e m c.args.hidden.now f.damaged.now f.missing.now) (flat_map (gap_text m.state) f.gaps.now ++ last) _
    c.from_residual-in_err-gaps.ensures.0 lines.0 lines.1 (part_before _ _ (flat_map (gap_text m.state) f.gaps.now) last put.0) put.1

abbrev the_totals : ℕ → ℕ → ℕ → ℕ → Totals
the_totals ds paths ms gaps = record { damaged = ds; paths = paths; missing = ms; gaps = gaps }

totals_same : (ds ms of_paths paths of_gaps gaps : ℕ) → of_paths ≡ paths → of_gaps ≡ gaps
    → the_totals ds of_paths ms of_gaps ≡ the_totals ds paths ms gaps
totals_same ds ms of_paths paths of_gaps gaps same alike = ap (λ (n : ℕ). the_totals ds n ms of_gaps) same ∙ ap (the_totals ds paths ms) alike

pub returns-in_err-put_totals-clause-puts : goal.returns-in_err-put_totals-clause-puts
returns-in_err-put_totals-clause-puts g c =
    let e = g.E.Order.order in
    let m = c.args.ways.now.up.mounted.now in
    let f = c.args.found in
    let last = totals_shown (own_totals e m c.args.hidden.now f.damaged.now f.missing.now f.gaps.now) in
    let lines = c.in_ok-paths.ensures.puts in
    let gaps = c.in_ok-gaps.ensures.puts in
    let put = c.in_err-put_totals.ensures in
    let same = ap totals_shown (totals_same (length f.damaged.now) (length f.missing.now) _ _ _ _ c.in_ok-paths.ensures.count c.in_ok-gaps.ensures.count) in
    then_puts _ (g.T.Sink.taken c.put_lines.new.sink) _ _ _ _ (own_lines e m c.args.hidden.now f.damaged.now f.missing.now) (flat_map (gap_text m.state) f.gaps.now ++ last) _ lines.0 lines.1
    (then_failed _ (g.T.Sink.taken c.put_gaps.new.sink) _ _ _ _ (flat_map (gap_text m.state) f.gaps.now) last _ c.from_residual-in_err-put_totals.ensures.0 gaps.0 gaps.1
    (subst (PutsPart (g.T.Sink.taken c.put_gaps.new.sink) (g.T.Sink.taken c.put_totals.new.sink)) same put.0) put.1)

pub returns-clause-puts : goal.returns-clause-puts
returns-clause-puts g c =
    let e = g.E.Order.order in
    let m = c.args.ways.now.up.mounted.now in
    let f = c.args.found in
    let told = own_lines e m c.args.hidden.now f.damaged.now f.missing.now in
    let of_gaps = flat_map (gap_text m.state) f.gaps.now in
    let last = totals_shown (own_totals e m c.args.hidden.now f.damaged.now f.missing.now f.gaps.now) in
    let lines = c.in_ok-paths.ensures.puts in
    let gaps = c.in_ok-gaps.ensures.puts in
    let put = c.in_ok-put_totals.ensures in
    let same = ap totals_shown (totals_same (length f.damaged.now) (length f.missing.now) _ _ _ _ c.in_ok-paths.ensures.count c.in_ok-gaps.ensures.count) in
    let a = g.T.Sink.taken c.args.sink.now in
    let b = g.T.Sink.taken c.put_lines.new.sink in
    let d = g.T.Sink.taken c.put_gaps.new.sink in
    let z = g.T.Sink.taken c.put_totals.new.sink in
    let before = g.T.Sink.failures c.args.sink.now in
    let mid = g.T.Sink.failures c.put_lines.new.sink in
    let late = g.T.Sink.failures c.put_gaps.new.sink in
    let now = g.T.Sink.failures c.put_totals.new.sink in
    let answer : Result Totals DeviceFault = Ok (the_totals (length f.damaged.now) c.in_ok-paths.paths (length f.missing.now) c.in_ok-gaps.gaps) in
    let ended : Puts d z late now last answer = (subst (Appends d z) same put.0, put.1) in
    let after : Puts b z mid now (of_gaps ++ last) answer = then_puts b d z mid late now of_gaps last answer gaps.0 gaps.1 ended in
    then_puts a b z before mid now told (of_gaps ++ last) answer lines.0 lines.1 after

pub returns-clause-totals : goal.returns-clause-totals
returns-clause-totals g c =
    let f = c.args.found in
    totals_same (length f.damaged.now) (length f.missing.now) _ _ _ _ c.in_ok-paths.ensures.count c.in_ok-gaps.ensures.count
