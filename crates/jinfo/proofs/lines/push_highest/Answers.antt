use Rattle.std.proofs.Common.{ℕ, List, ◌++◌, ◌∙◌, ap, append_assoc}
use Rattle.std.specs.Prelude.{decimal, codes}
use Rattle.jinfo.specs.InfoText.{highest_line}
use Rattle.jinfo.proofs.LineLemmas.{more}
use Rattle.jinfo.proofs.lines.push_highest.Goals as goal

pub returns : goal.returns
unfolding highest_line
returns c =
    let rest5 : List ℕ = codes "\n" in
    let rest4 : List ℕ = decimal c.args.numbers.now.version ++ rest5 in
    let rest3 : List ℕ = codes " version " ++ rest4 in
    let rest2 : List ℕ = decimal c.args.numbers.now.ino ++ rest3 in
    let rest1 : List ℕ = codes " inode " ++ rest2 in
    let after4 = more c.push_text-3.new.self c.push_decimal-2.new.self c.push_text-4.new.self (decimal c.args.numbers.now.version) rest5 (c.push_decimal-2.ensures.text ∙ ap (λ (n : ℕ). c.push_text-3.new.self ++ decimal n) c.from-2.ensures) c.push_text-4.ensures in
    let after3 = more c.push_decimal.new.self c.push_text-3.new.self c.push_text-4.new.self (codes " version ") rest4 c.push_text-3.ensures after4 in
    let after2 = more c.push_text-2.new.self c.push_decimal.new.self c.push_text-4.new.self (decimal c.args.numbers.now.ino) rest3 (c.push_decimal.ensures.text ∙ ap (λ (n : ℕ). c.push_text-2.new.self ++ decimal n) c.from.ensures) after3 in
    let after1 = more c.push_text.new.self c.push_text-2.new.self c.push_text-4.new.self (codes " inode ") rest2 c.push_text-2.ensures after2 in
    simp append_assoc (more c.args.line.now c.push_text.new.self c.push_text-4.new.self (codes "highest") rest1 c.push_text.ensures after1)
