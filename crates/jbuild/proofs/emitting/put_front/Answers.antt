use Rattle.std.proofs.Common.{◌≤◌, ◌-◌, length, List, ℕ, arith, subst}
use Rattle.flashbase.specs.Bytes.{erased}
use Rattle.flashbase.specs.Device.{Puts}
use Rattle.flashbase.proofs.DeviceLemmas.{first_failed, then_puts}
use Rattle.jbuild.proofs.FrontLemmas.{front_past}
use Rattle.jbuild.proofs.emitting.put_front.Goals as goal

pub returns-in_err-put_all : goal.returns-in_err-put_all
returns-in_err-put_all g c =
    let base = c.args.base.now in
    let past : length base ≤ c.args.from = omega arith in
    let put = c.in_err-put_all.ensures in
    subst (λ (l : List ℕ). Puts (g.S.Sink.taken c.args.sink.now) (g.S.Sink.taken c.put_all-2.new.sink) (g.S.Sink.failures c.args.sink.now)
    (g.S.Sink.failures c.put_all-2.new.sink) l c.from_residual.result)
    (front_past base c.args.from past)
    (first_failed _ _ _ _ base (erased (c.args.from - length base)) _ c.from_residual.ensures.0 put.puts.0 put.puts.1)

pub returns : goal.returns
returns g c =
    let base = c.args.base.now in
    let past : length base ≤ c.args.from = omega arith in
    let put = c.in_ok-put_all.ensures in
    subst (λ (l : List ℕ). Puts (g.S.Sink.taken c.args.sink.now) (g.S.Sink.taken c.put_erased.new.sink) (g.S.Sink.failures c.args.sink.now)
    (g.S.Sink.failures c.put_erased.new.sink) l c.put_erased.result)
    (front_past base c.args.from past)
    (then_puts _ (g.S.Sink.taken c.put_all-2.new.sink) _ _ _ _ base (erased (c.args.from - length base)) _ put.puts.0 put.puts.1 c.put_erased.ensures)
