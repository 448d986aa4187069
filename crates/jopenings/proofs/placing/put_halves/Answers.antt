use Rattle.std.proofs.Common.{◌≡◌, ◌+◌, ◌-◌, ◌<◌, ◌≤◌, ℕ, List, ◌++◌, min, length, take, subst, arith}
use Rattle.std.specs.Io.KnownBytes.{Appends}
use Rattle.std.proofs.lemmas.Result.{IfErr-weaker}
use Rattle.flashbase.specs.Device.{Puts}
use Rattle.flashbase.proofs.DeviceLemmas.{first_failed, then_puts}
use Rattle.jrow.proofs.BehindLemmas.{goes_on}
use Rattle.jopenings.proofs.PlacingLemmas.{halves_parts, front_stopped, behind_stopped}
use Rattle.jopenings.proofs.placing.put_halves.Goals as goal

pub returns-in_err-put_part-clause-puts : goal.returns-in_err-put_part-clause-puts
returns-in_err-put_part-clause-puts g c =
    let front : List ℕ = c.args.block.now.front in
    let behind : List ℕ = c.args.block.now.behind in
    let held : ℕ = c.min-held.result in
    let put = c.in_err-put_part.ensures.puts in
    subst (λ (l : List ℕ). Puts (g.S.Sink.taken c.args.sink.now) (g.S.Sink.taken c.put_part.new.sink) (g.S.Sink.failures c.args.sink.now)
    (g.S.Sink.failures c.put_part.new.sink) l c.from_residual.result)
    (halves_parts c.args.len held front behind (omega (arith, c.min-held.ensures, c.len.ensures)))
    (first_failed _ _ _ _ (take held front) (take (c.args.len - held) behind) _ c.from_residual.ensures.0 put.0 put.1)

pub returns-in_err-put_part-clause-part : goal.returns-in_err-put_part-clause-part
returns-in_err-put_part-clause-part g c =
    let front : List ℕ = c.args.block.now.front in
    let behind : List ℕ = c.args.block.now.behind in
    let held : ℕ = c.min-held.result in
    goes_on c.from_residual.result c.in_err-put_part.field-0.0
    (λ fault. (c.args.before ≤ fault.taken) × (fault.taken < c.args.before + c.args.len)
    × Appends (g.S.Sink.taken c.args.sink.now) (g.S.Sink.taken c.put_part.new.sink) (take (fault.taken - c.args.before) (front ++ behind)))
    c.from_residual.ensures.1
    (front_stopped (g.S.Sink.taken c.args.sink.now) (g.S.Sink.taken c.put_part.new.sink) c.args.before c.args.len held c.in_err-put_part.field-0.0.taken
    front behind (omega (arith, c.min-held.ensures, c.len.ensures)) c.in_err-put_part.ensures.part)

pub returns-clause-puts : goal.returns-clause-puts
returns-clause-puts g c =
    let front : List ℕ = c.args.block.now.front in
    let behind : List ℕ = c.args.block.now.behind in
    let held : ℕ = c.min-held.result in
    let put = c.in_ok-put_part.ensures.puts in
    subst (λ (l : List ℕ). Puts (g.S.Sink.taken c.args.sink.now) (g.S.Sink.taken c.put_part-2.new.sink) (g.S.Sink.failures c.args.sink.now)
    (g.S.Sink.failures c.put_part-2.new.sink) l c.put_part-2.result)
    (halves_parts c.args.len held front behind (omega (arith, c.min-held.ensures, c.len.ensures)))
    (then_puts _ (g.S.Sink.taken c.put_part.new.sink) _ _ _ _ (take held front) (take (c.args.len - held) behind) _ put.0 put.1 c.put_part-2.ensures.puts)

pub returns-clause-part : goal.returns-clause-part
returns-clause-part g c =
    let front : List ℕ = c.args.block.now.front in
    let behind : List ℕ = c.args.block.now.behind in
    let held : ℕ = c.min-held.result in
    let least : held ≡ min c.args.len (length front) = omega (arith, c.min-held.ensures, c.len.ensures) in
    let put = c.in_ok-put_part.ensures.puts in
    IfErr-weaker c.put_part-2.result
    (λ fault. (c.args.before + held ≤ fault.taken) × (fault.taken < c.args.before + held + (c.args.len - held))
    × Appends (g.S.Sink.taken c.put_part.new.sink) (g.S.Sink.taken c.put_part-2.new.sink) (take (fault.taken - (c.args.before + held)) behind))
    (λ fault. (c.args.before ≤ fault.taken) × (fault.taken < c.args.before + c.args.len)
    × Appends (g.S.Sink.taken c.args.sink.now) (g.S.Sink.taken c.put_part-2.new.sink) (take (fault.taken - c.args.before) (front ++ behind)))
    (λ fault stopped. behind_stopped (g.S.Sink.taken c.args.sink.now) (g.S.Sink.taken c.put_part.new.sink) (g.S.Sink.taken c.put_part-2.new.sink) c.args.before c.args.len held
    fault.taken front behind least put.0 stopped)
    c.put_part-2.ensures.part
