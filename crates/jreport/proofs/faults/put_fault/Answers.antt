use Rattle.std.proofs.Common.{◌≡◌, ◌++◌, List, ℕ, sym, ap, ◌∙◌, subst}
use Rattle.std.proofs.lemmas.Grind.{flat_map-append}
use Rattle.flashbase.specs.Device.{Puts}
use Rattle.jline.specs.Words.{in_line, in_line_byte}
use Rattle.flashbase.proofs.DeviceLemmas.{first_failed, then_puts}
use Rattle.jreport.proofs.faults.put_fault.Goals as goal

-- two texts within a line make up the whole within it
joined : (s t whole : List ℕ) → s ++ t ≡ whole → in_line s ++ in_line t ≡ in_line whole
joined s t whole is = sym (flat_map-append in_line_byte s t) ∙ ap in_line is

pub returns-in_err-put_in_line : goal.returns-in_err-put_in_line
returns-in_err-put_in_line g c =
    let front = c.as_slice.result.now in
    let name = c.push_fault-name.result.now in
    let whole = joined front name _ (ap (λ (l : List ℕ). l ++ name) c.as_slice.ensures ∙ c.push_fault-name.ensures.text) in
    let put = c.in_err-put_in_line.ensures in
    subst (λ (text : List ℕ). Puts (g.T.Sink.taken c.args.sink.now) (g.T.Sink.taken c.put_in_line.new.sink) (g.T.Sink.failures c.args.sink.now)
    (g.T.Sink.failures c.put_in_line.new.sink) text c.from_residual.result) whole
    (first_failed _ _ _ _ (in_line front) (in_line name) _ c.from_residual.ensures.0 put.0 put.1)

pub returns : goal.returns
returns g c =
    let front = c.as_slice.result.now in
    let name = c.as_bytes.result.now in
    let whole = joined front name _ (ap (λ (l : List ℕ). l ++ name) c.as_slice.ensures
    ∙ (ap (λ (l : List ℕ). c.push_fault-name.new.line ++ l) c.as_bytes.ensures.value ∙ c.push_fault-name.ensures.text)) in
    let put = c.in_ok-put_in_line.ensures in
    subst (λ (text : List ℕ). Puts (g.T.Sink.taken c.args.sink.now) (g.T.Sink.taken c.put_in_line-2.new.sink) (g.T.Sink.failures c.args.sink.now)
    (g.T.Sink.failures c.put_in_line-2.new.sink) text c.put_in_line-2.result) whole
    (then_puts _ _ _ _ _ _ (in_line front) (in_line name) _ put.0 put.1 c.put_in_line-2.ensures)
