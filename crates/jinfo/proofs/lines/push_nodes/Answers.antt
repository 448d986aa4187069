use Rattle.std.proofs.Common.{ℕ, List, ◌++◌, append_assoc}
use Rattle.std.specs.Prelude.{decimal, codes}
use Rattle.jinfo.specs.InfoText.{nodes_line}
use Rattle.jinfo.proofs.LineLemmas.{more}
use Rattle.jinfo.proofs.lines.push_nodes.Goals as goal

pub returns-clause-text : goal.returns-clause-text
unfolding nodes_line
returns-clause-text c =
    let rest11 : List ℕ = codes "\n" in
    let rest10 : List ℕ = decimal c.args.counts.now.other ++ rest11 in
    let rest9 : List ℕ = codes " other " ++ rest10 in
    let rest8 : List ℕ = decimal c.args.counts.now.damaged ++ rest9 in
    let rest7 : List ℕ = codes " damaged " ++ rest8 in
    let rest6 : List ℕ = decimal c.args.counts.now.obsolete ++ rest7 in
    let rest5 : List ℕ = codes " obsolete " ++ rest6 in
    let rest4 : List ℕ = decimal c.args.counts.now.inodes ++ rest5 in
    let rest3 : List ℕ = codes " inodes " ++ rest4 in
    let rest2 : List ℕ = decimal c.args.counts.now.entries ++ rest3 in
    let rest1 : List ℕ = codes " entries " ++ rest2 in
    let after10 = more c.push_text-6.new.self c.push_decimal-5.new.self c.push_text-7.new.self (decimal c.args.counts.now.other) rest11 c.push_decimal-5.ensures.text c.push_text-7.ensures in
    let after9 = more c.push_decimal-4.new.self c.push_text-6.new.self c.push_text-7.new.self (codes " other ") rest10 c.push_text-6.ensures after10 in
    let after8 = more c.push_text-5.new.self c.push_decimal-4.new.self c.push_text-7.new.self (decimal c.args.counts.now.damaged) rest9 c.push_decimal-4.ensures.text after9 in
    let after7 = more c.push_decimal-3.new.self c.push_text-5.new.self c.push_text-7.new.self (codes " damaged ") rest8 c.push_text-5.ensures after8 in
    let after6 = more c.push_text-4.new.self c.push_decimal-3.new.self c.push_text-7.new.self (decimal c.args.counts.now.obsolete) rest7 c.push_decimal-3.ensures.text after7 in
    let after5 = more c.push_decimal-2.new.self c.push_text-4.new.self c.push_text-7.new.self (codes " obsolete ") rest6 c.push_text-4.ensures after6 in
    let after4 = more c.push_text-3.new.self c.push_decimal-2.new.self c.push_text-7.new.self (decimal c.args.counts.now.inodes) rest5 c.push_decimal-2.ensures.text after5 in
    let after3 = more c.push_decimal.new.self c.push_text-3.new.self c.push_text-7.new.self (codes " inodes ") rest4 c.push_text-3.ensures after4 in
    let after2 = more c.push_text-2.new.self c.push_decimal.new.self c.push_text-7.new.self (decimal c.args.counts.now.entries) rest3 c.push_decimal.ensures.text after3 in
    let after1 = more c.push_text.new.self c.push_text-2.new.self c.push_text-7.new.self (codes " entries ") rest2 c.push_text-2.ensures after2 in
    simp append_assoc (more c.args.line.now c.push_text.new.self c.push_text-7.new.self (codes "nodes") rest1 c.push_text.ensures after1)
