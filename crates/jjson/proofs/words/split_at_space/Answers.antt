use Rattle.std.proofs.Common.{◌≡◌, ◌+◌, ◌-◌, sym, arith, length, take, drop}
use Rattle.std.proofs.lemmas.List.{take_all, length-drop}
use Rattle.jjson.specs.Words.{is_space}
use Rattle.jjson.proofs.SplitLemmas.{split_some}
use Rattle.jjson.proofs.words.split_at_space.Goals as goal

pub returns-clause-some : goal.returns-clause-some
returns-clause-some c =
    let bytes = c.args.text.now in
    let behind = drop (c.in_ok-place.place + 1) bytes in
    let all : take (length bytes - (c.in_ok-place.place + 1)) behind ≡ behind =
    take_all (length bytes - (c.in_ok-place.place + 1)) behind (omega (arith, length-drop (c.in_ok-place.place + 1) bytes)) in
    rw all (split_some is_space bytes c.in_ok-place.place (sym c.in_ok-place.ensures))
