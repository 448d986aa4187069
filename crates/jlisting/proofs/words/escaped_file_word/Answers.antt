use Rattle.std.proofs.Common.{◌≡◌, ◌∙◌, ℕ, sym, ap, subst, Some, length, false, true, rules}
use Rattle.std.specs.Prelude.{◌==◌, Vec, string_bytes}
use Rattle.std.specs.Str.{IsUtf8, is_utf8}
use Rattle.std.proofs.lemmas.Bool.{false≢true}
use Rattle.std.specs.declared.alloc.Global.{Global}
use Rattle.std.proofs.lemmas.Str.{IsUtf8-string_bytes, is_utf8-from_IsUtf8}
use Rattle.jline.specs.Read.{unescaped}
use Rattle.jlisting.proofs.WordLemmas.{unescaped_all_plain, plain_is_read, name_is_read, text_is_name, none_is_name}
use Rattle.jlisting.proofs.words.escaped_file_word.Goals as goal

pub returns-then-all : goal.returns-then-all
returns-then-all c =
    let plain : unescaped c.args.word.now ≡ Some c.args.word.now = search (rules, unescaped_all_plain) in
    plain_is_read c.args.word.now c.file_word.result plain c.file_word.ensures

pub returns-in-Ok : goal.returns-in-Ok
returns-in-Ok c =
    let bytes = c.in_ok-name.name.items in
    let some : (length c.args.word.now == 0) ≡ false = search rules in
    let same : string_bytes c.in-Ok.name ≡ bytes = ap (λ (v : Vec ℕ Global). v.items) c.in-Ok.ensures.ok in
    let text : is_utf8 bytes ≡ true = is_utf8-from_IsUtf8 bytes (subst IsUtf8 same (IsUtf8-string_bytes c.in-Ok.name)) in
    name_is_read c.args.word.now bytes some c.in_ok-name.ensures.ok ∙ text_is_name bytes text ∙ ap Some (sym same ∙ sym c.new.ensures)

pub returns : goal.returns
returns c =
    let some : (length c.args.word.now == 0) ≡ false = search rules in
    name_is_read c.args.word.now c.in_ok-name.name.items some c.in_ok-name.ensures.ok
    ∙ none_is_name c.in_ok-name.name.items (λ is. false≢true (c.in-Err.ensures.succeeds is))
