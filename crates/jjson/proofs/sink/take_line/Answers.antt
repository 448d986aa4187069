use Rattle.std.proofs.Common.{◌≡◌, ◌+◌, ℕ, List, [], ◌++◌, length, take, drop, ap, sym, ◌∙◌, subst, arith}
use Rattle.std.specs.Io.KnownBytes.{Appends}
use Rattle.std.proofs.lemmas.List.{take_all}
use Rattle.flashbase.specs.Device.{PutsPart}
use Rattle.flashbase.proofs.DeviceLemmas.{part_before}
use Rattle.jjson.specs.Texts.{json_after, json_line, unfinished}
use Rattle.jjson.proofs.PutLemmas.{appends_nothing, on_err}
use Rattle.jjson.proofs.TextLemmas.{ends_at, line_ends-first, line_ends-json, line_ends-unfinished, no_feed-json, no_feed-unfinished, no_place}
use Rattle.jjson.proofs.sink.take_line.Goals as goal

pub returns-in_err-end_line-in-Some-clause-part : goal.returns-in_err-end_line-in-Some-clause-part
returns-in_err-end_line-in-Some-clause-part g c =
    let lines = c.args.lines in
    let begun = c.args.line.now.items in
    let text = c.args.text.now in
    let end = c.in-Some.end in
    let at = ends_at text end (sym c.in-Some.ensures) in
    let same = ap (json_line lines) c.in_ok-add_to-in-Some.ensures in
    let old = g.S.Sink.taken c.args.below.now in
    let new = g.S.Sink.taken c.end_line.new.below in
    on_err _ _ (subst (λ (l : List ℕ). PutsPart old new l) (line_ends-first lines begun text end at)
    (part_before old new (json_line lines (begun ++ take end text)) (json_after lines [] (drop (end + 1) text))
    (subst (λ (l : List ℕ). PutsPart old new l) same c.in_err-end_line-in-Some.ensures.part)))

pub returns-in_ok-end_line-in-Some-clause-json : goal.returns-in_ok-end_line-in-Some-clause-json
returns-in_ok-end_line-in-Some-clause-json g c =
    let lines = c.args.lines in
    let begun = c.args.line.now.items in
    let text = c.args.text.now in
    let end = c.in-Some.end in
    let at = ends_at text end (sym c.in-Some.ensures) in
    subst (λ (l : List ℕ). Appends (g.S.Sink.taken c.args.below.now) (g.S.Sink.taken c.end_line.new.below) l)
    (ap (json_line lines) c.in_ok-add_to-in-Some.ensures ∙ sym (line_ends-json lines begun text end at))
    c.in_ok-end_line-in-Some.ensures.ok

pub returns-in_ok-end_line-in-Some-clause-line : goal.returns-in_ok-end_line-in-Some-clause-line
returns-in_ok-end_line-in-Some-clause-line g c =
    c.in_ok-end_line-in-Some.ensures.line
    ∙ sym (line_ends-unfinished c.args.line.now.items c.args.text.now c.in-Some.end (ends_at c.args.text.now c.in-Some.end (sym c.in-Some.ensures)))

pub returns-in_ok-add_to-in-None-clause-json : goal.returns-in_ok-add_to-in-None-clause-json
returns-in_ok-add_to-in-None-clause-json g c =
    let lines = c.args.lines in
    let begun = c.args.line.now.items in
    let text = c.args.text.now in
    let all : take (length text) text ≡ text = take_all (length text) text (omega arith) in
    let taken = g.S.Sink.taken c.args.below.now in
    subst (λ (l : List ℕ). Appends taken taken l)
    (sym (ap (json_after lines begun) all ∙ no_feed-json lines begun text (no_place text (sym c.in-None.ensures))))
    (appends_nothing taken)

pub returns-in_ok-add_to-in-None-clause-line : goal.returns-in_ok-add_to-in-None-clause-line
returns-in_ok-add_to-in-None-clause-line g c =
    let begun : List ℕ = c.args.line.now.items in
    let text : List ℕ = c.args.text.now in
    let all : take (length text) text ≡ text = take_all (length text) text (omega arith) in
    let kept : unfinished begun (take (length text) text) ≡ begun ++ text =
    ap (unfinished begun) all ∙ no_feed-unfinished begun text (no_place text (sym c.in-None.ensures)) in
    c.in_ok-add_to-in-None.ensures ∙ sym kept
