use Rattle.std.proofs.Common.{◌++◌, ◌∙◌, ℕ, List, [], ◌∷◌, ap, append_assoc, refl, sym}
use Rattle.std.specs.Prelude.{drop}
use Rattle.std.proofs.lemmas.List.{take-append-drop}
use Rattle.jedge.specs.Calls.{Event, Failed, Print, printed}
use Rattle.edge_tests.specs.Events.{stream_to}
use Rattle.edge_tests.proofs.host.MemoryHost.print.Goals as goal

pub returns : goal.returns
returns g c =
    let text = c.args.out.bytes.items in
    let prints = c.stream-stream.result.prints in
    let begun = c.truncate.new.self.items in
    let stream = stream_to c.args.to in
    let last : List Event = Failed (Print stream []) c.stream-stream.result.reason ∷ [] in (
      printed stream begun ++ last,
      record {
        begun = begun;
        left = drop prints text;
        rest = [];
        reason = c.stream-stream.result.reason;
        of = sym (take-append-drop prints text)
            ∙ ap (λ (l : List ℕ). l ++ drop prints text) (sym c.truncate.ensures.items);
        happened = refl;
      },
      c.note.ensures ∙ ap (λ (l : List Event). l ++ last) c.note_printed-2.ensures
          ∙ append_assoc _ (printed stream begun) last,
    )
