use Rattle.std.proofs.Common.{◌≡◌, ℕ, ◌-◌, List, length, sym, ap, subst}
use Rattle.flashbase.specs.Bytes.{erased}
use Rattle.flashbase.specs.Device.{Puts}
use Rattle.flashbase.proofs.DeviceLemmas.{first_failed, then_puts}
use Rattle.jcollect.proofs.writing.put_part.Goals as goal

pub returns-in_err-put_all : goal.returns-in_err-put_all
returns-in_err-put_all g c =
    let put = c.in_err-put_all.ensures.puts in
    let present : List ℕ = c.present-present.result.now in
    let rest : List ℕ = erased (length c.args.part.now - length present) in
    subst (λ (l : List ℕ). Puts (g.S.Sink.taken c.args.sink.now) (g.S.Sink.taken c.put_all.new.sink) (g.S.Sink.failures c.args.sink.now) (g.S.Sink.failures c.put_all.new.sink) l c.from_residual.result)
    (sym c.present-present.ensures) (first_failed _ _ _ _ present rest _ c.from_residual.ensures.0 put.0 put.1)

pub returns : goal.returns
returns g c =
    let put = c.in_ok-put_all.ensures.puts in
    let present : List ℕ = c.present-present.result.now in
    let rest : List ℕ = erased (length c.args.part.now - length present) in
    let count : erased (c.len.result - length present) ≡ rest = ap (λ (n : ℕ). erased (n - length present)) c.len.ensures in
    subst (λ (l : List ℕ). Puts (g.S.Sink.taken c.args.sink.now) (g.S.Sink.taken c.put_erased.new.sink) (g.S.Sink.failures c.args.sink.now) (g.S.Sink.failures c.put_erased.new.sink) l c.put_erased.result)
    (sym c.present-present.ensures)
    (then_puts _ (g.S.Sink.taken c.put_all.new.sink) _ _ _ _ present rest _ put.0 put.1
    (subst (λ (l : List ℕ). Puts (g.S.Sink.taken c.put_all.new.sink) (g.S.Sink.taken c.put_erased.new.sink) (g.S.Sink.failures c.put_all.new.sink) (g.S.Sink.failures c.put_erased.new.sink) l c.put_erased.result)
    count c.put_erased.ensures))
