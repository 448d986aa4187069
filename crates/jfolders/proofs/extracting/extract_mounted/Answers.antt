use Rattle.std.proofs.Common.{◌∙◌, Ok, Option, ap}
use Rattle.jhint.specs.declared.hint.Hint.{Hint}
use Rattle.jreport.specs.declared.findings.Found.{Found}
use Rattle.jedge.specs.Told.{Told}
use Rattle.jedge.proofs.Steps.{answered, then_err, then_ok}
use Rattle.jfolders.specs.Extracting.{extracted_told, found_mounted}
use Rattle.jfolders.proofs.extracting.extract_mounted.Goals as goal

pub returns-in-Err : goal.returns-in-Err
returns-in-Err g c = then_err (answered c.in-Err.ensures.part)

pub returns-in-Ok-fill : goal.returns-in-Ok-fill
returns-in-Ok-fill g c = then_ok (answered c.in-Ok.ensures.part) (then_ok c.in-Ok-fill.ensures
    (answered (ap (λ (told : Told). Ok told) (c.extracted.ensures
    ∙ ap (λ (found : Found). extracted_told c.hint_if_found-hint.result found c.in-Ok-fill.totals) c.found_mounted.ensures
    ∙ ap (λ (hint : Option Hint). extracted_told hint (found_mounted c.args.mounted.now) c.in-Ok-fill.totals) c.hint_if_found-hint.ensures))))

pub returns : goal.returns
returns g c = then_ok (answered c.in-Ok.ensures.part) (then_err c.in-Err-fill.ensures)
