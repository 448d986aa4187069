use Rattle.std.proofs.Common.{◌≡◌, ℕ, ◌<◌, refl, sym, ap, ◌∙◌, arith, Option}
use Rattle.jhistory.specs.NewestEntries.{is_newer_than}
use Rattle.jhistory.proofs.NewestLemmas.{newer_case, older_case}
use Rattle.jhistory.proofs.newest.note_entry.Goals as goal

pub returns-then-not-is_newer : goal.returns-then-not-is_newer
returns-then-not-is_newer c = λ ns has.
    let less : c.args.addr < 4294967296 = omega arith in
    older_case ns c.args.newest.now c.args.addr c.args.entry.now (c.args.entry.now.pino, c.in_ok-name_of.field-0) c.rank-rank.result has less refl c.in_ok-name_of.ensures c.rank-rank.ensures
    (sym (c.is_newer.ensures ∙ ap (λ (o : Option (ℕ × ℕ)). is_newer_than o c.rank-rank.result) c.known.ensures) ∙ c.if-not-is_newer.true)

pub returns : goal.returns
returns c = λ ns has.
    let less : c.args.addr < 4294967296 = omega arith in
    newer_case ns c.args.newest.now c.insert.new.self c.args.addr c.args.entry.now (c.args.entry.now.pino, c.in_ok-name_of.field-0) c.rank-rank.result has less refl c.in_ok-name_of.ensures c.rank-rank.ensures
    (sym (c.is_newer.ensures ∙ ap (λ (o : Option (ℕ × ℕ)). is_newer_than o c.rank-rank.result) c.known.ensures) ∙ c.if-not-is_newer.false) c.in_ok-insert.ensures.updates.0
