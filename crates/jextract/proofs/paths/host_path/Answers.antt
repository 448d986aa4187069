use Rattle.std.proofs.Common.{◌≡◌, true, false, ap, ◌∙◌, sym, subst, arith, length}
use Rattle.std.specs.Prelude.{IsUtf8, string_bytes}
use Rattle.std.proofs.lemmas.Grind.{common_steps}
use Rattle.jextract.proofs.PathLemmas.{path_is_text, path_is_no_text}
use Rattle.jextract.proofs.paths.host_path.Goals as goal

pub returns-in-Ok : goal.returns-in-Ok
returns-in-Ok c =
    let same : string_bytes c.in-Ok.path ≡ c.in_ok-text.text.items = ap (λ v. v.items) c.in-Ok.ensures.ok in
    path_is_text _ (string_bytes c.in-Ok.path) (sym c.are_names.ensures ∙ c.if-not-are_names.false) (same ∙ c.in_ok-text.ensures)
    (omega (arith, c.if-len-gt-GREATEST_PATH.false, c.len.ensures, ap (λ l. length l) same))
    (subst IsUtf8 c.as_str-text.ensures.value c.as_str-text.utf8)

pub returns : goal.returns
returns c =
    path_is_no_text _ c.in_ok-text.text.items (grind (arith, common_steps, c.are_names.ensures, c.if-not-are_names.false)) c.in_ok-text.ensures
    (omega (arith, c.if-len-gt-GREATEST_PATH.false)) (λ u. let e : false ≡ true = c.in-Err.ensures.succeeds u in cc)
