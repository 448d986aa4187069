use Rattle.std.proofs.Common.{◌++◌, List, [], Option, Some, option_map, subst, sym}
use Rattle.std.specs.Prelude.{unwrap_or}
use Rattle.flashbase.specs.Sinks.{PutsTo}
use Rattle.flashbase.proofs.DeviceLemmas.{first_failed, then_puts}
use Rattle.jedge.specs.Missing.{bytes_missing_line}
use Rattle.jedge.specs.Told.{read_note_text}
use Rattle.jedge.specs.declared.found.ReadNotes.{ReadNotes}
use Rattle.jedge.proofs.reporting.put_content.Goals as goal

pub returns-in_err-put_missing : goal.returns-in_err-put_missing
returns-in_err-put_missing g c =
    let put = c.in_err-put_missing.ensures in
    let of = c.args.of in
    first_failed _ _ _ _ (bytes_missing_line of.missing) (unwrap_or (option_map read_note_text of.read) []) _ c.from_residual.ensures.0 put.0 put.1

pub returns-in-Some : goal.returns-in-Some
returns-in-Some g c =
    let put = c.in_ok-put_missing.ensures in
    let line = bytes_missing_line c.args.of.missing in
    subst
    (λ (read : Option ReadNotes).
    PutsTo g.T.Sink c.args.sink.now c.put_read.new.sink (line ++ unwrap_or (option_map read_note_text read) []) c.put_read.result)
    (sym c.in-Some.is)
    (then_puts _ (g.T.Sink.taken c.put_missing.new.sink) _ _ _ _ line (read_note_text c.in-Some.read) _ put.0 put.1 c.put_read.ensures)
