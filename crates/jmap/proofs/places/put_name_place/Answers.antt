use Rattle.std.proofs.Common.{rules, ◌≡◌, ◌++◌, ℕ, List, Option, Some, sym, ap, ◌∙◌, subst}
use Rattle.std.specs.Prelude.{codes}
use Rattle.std.specs.Io.KnownBytes.{Appends}
use Rattle.flashbase.specs.Device.{Puts, PutsPart}
use Rattle.flashbase.specs.Sinks.{PutsTo}
use Rattle.flashbase.proofs.DeviceLemmas.{first_failed, then_puts}
use Rattle.jmap.specs.Places.{name_place, path_in, slash_name}
use Rattle.jmap.proofs.places.put_name_place.Goals as goal

pub returns-in_err-put_two-in-Some : goal.returns-in_err-put_two-in-Some
unfolding name_place
returns-in_err-put_two-in-Some g c =
    let name = c.args.entry.now.name in
    let path = c.in-Some.path.now.items in
    let known : path_in c.args.paths.now c.args.entry.now.pino ≡ Some path = search rules in
    let put = c.in_err-put_two-in-Some.ensures in
    subst (λ (o : Option (List ℕ)). PutsTo g.T.Sink c.args.sink.now c.put_two.new.sink (name_place o name) c.from_residual.result) (sym known)
    (first_failed _ _ _ _ (codes ", " ++ path) (slash_name name) _ c.from_residual.ensures.0
    (subst (PutsPart (g.T.Sink.taken c.args.sink.now) (g.T.Sink.taken c.put_two.new.sink)) (ap (λ (l : List ℕ). codes ", " ++ l) c.as_slice.ensures.value) put.0) put.1)

pub returns-in_ok-put_two-in-Some : goal.returns-in_ok-put_two-in-Some
unfolding name_place
returns-in_ok-put_two-in-Some g c =
    let name = c.args.entry.now.name in
    let path = c.in-Some.path.now.items in
    let known : path_in c.args.paths.now c.args.entry.now.pino ≡ Some path = search rules in
    let first = c.in_ok-put_two-in-Some.ensures in
    subst (λ (o : Option (List ℕ)). PutsTo g.T.Sink c.args.sink.now c.put_text.new.sink (name_place o name) c.put_text.result) (sym known)
    (then_puts _ (g.T.Sink.taken c.put_two.new.sink) _ _ _ _ (codes ", " ++ path) (slash_name name) _
    (subst (Appends (g.T.Sink.taken c.args.sink.now) (g.T.Sink.taken c.put_two.new.sink)) (ap (λ (l : List ℕ). codes ", " ++ l) c.as_slice.ensures.value) first.0) first.1
    (subst (λ (l : List ℕ). Puts (g.T.Sink.taken c.put_two.new.sink) (g.T.Sink.taken c.put_text.new.sink) (g.T.Sink.failures c.put_two.new.sink)
    (g.T.Sink.failures c.put_text.new.sink) l c.put_text.result) (c.as_slice-in-Some.ensures ∙ c.slash_name.ensures) c.put_text.ensures.puts))
