use Rattle.std.proofs.Common.{ℕ, List, [], ◌∷◌, ◌++◌, ◌∙◌, map, subst}
use Rattle.std.specs.Io.KnownBytes.{Appends}
use Rattle.flashbase.specs.Device.{PutsPart}
use Rattle.flashbase.proofs.DeviceLemmas.{part_before, first_failed, then_puts, then_failed}
use Rattle.jmount.specs.Shown.{readable}
use Rattle.jline.specs.Paths.{path_shown}
use Rattle.jreport.specs.TreeText.{tail_shown}
use Rattle.jdiff.specs.Changes.{entry_start}
use Rattle.jdiff.proofs.line.put_entry.Goals as goal

pub returns-in_err-put_text : goal.returns-in_err-put_text
returns-in_err-put_text g c =
    let f = c.args.found.now in
    let start = entry_start c.args.times f.object in
    let path = path_shown (map (λ name. name.now) c.args.path.now) in
    let tail = tail_shown (readable c.args.mounted.now.state f.ino) f.object.kind f.again in
    let put = c.in_err-put_text.ensures.puts in
    first_failed _ _ _ _ c.args.sign.now (start ++ (path ++ (tail ++ 10 ∷ []))) _ c.from_residual.ensures.0 put.0 put.1

pub returns-in_err-put_text-2 : goal.returns-in_err-put_text-2
returns-in_err-put_text-2 g c =
    let f = c.args.found.now in
    let start = entry_start c.args.times f.object in
    let path = path_shown (map (λ name. name.now) c.args.path.now) in
    let tail = tail_shown (readable c.args.mounted.now.state f.ino) f.object.kind f.again in
    let line = c.as_slice.ensures ∙ c.write_start.ensures in
    let signed = c.in_ok-put_text.ensures.puts in
    let put = c.in_err-put_text-2.ensures.puts in
    then_puts _ (g.T.Sink.taken c.put_text.new.sink) _ _ _ _ c.args.sign.now (start ++ (path ++ (tail ++ 10 ∷ []))) _ signed.0 signed.1
    (first_failed _ _ _ _ start (path ++ (tail ++ 10 ∷ [])) _ c.from_residual-in_err-put_text-2.ensures.0
    (subst (λ (l : List ℕ). PutsPart (g.T.Sink.taken c.put_text.new.sink) (g.T.Sink.taken c.put_text-2.new.sink) l) line put.0) put.1)

pub returns-in_err-put_path : goal.returns-in_err-put_path
returns-in_err-put_path g c =
    let f = c.args.found.now in
    let start = entry_start c.args.times f.object in
    let path = path_shown (map (λ name. name.now) c.args.path.now) in
    let tail = tail_shown (readable c.args.mounted.now.state f.ino) f.object.kind f.again in
    let line = c.as_slice.ensures ∙ c.write_start.ensures in
    let signed = c.in_ok-put_text.ensures.puts in
    let put = c.in_ok-put_text-2.ensures.puts in
    let next = c.in_err-put_path.ensures in
    then_puts _ (g.T.Sink.taken c.put_text.new.sink) _ _ _ _ c.args.sign.now (start ++ (path ++ (tail ++ 10 ∷ []))) _ signed.0 signed.1
    (then_failed _ (g.T.Sink.taken c.put_text-2.new.sink) _ _ _ _ start (path ++ (tail ++ 10 ∷ [])) _ c.from_residual-in_err-put_path.ensures.0
    (subst (λ (l : List ℕ). Appends (g.T.Sink.taken c.put_text.new.sink) (g.T.Sink.taken c.put_text-2.new.sink) l) line put.0) put.1
    (part_before _ _ path (tail ++ 10 ∷ []) next.0) next.1)

pub returns-in_err-put_tail : goal.returns-in_err-put_tail
returns-in_err-put_tail g c =
    let f = c.args.found.now in
    let start = entry_start c.args.times f.object in
    let path = path_shown (map (λ name. name.now) c.args.path.now) in
    let tail = tail_shown (readable c.args.mounted.now.state f.ino) f.object.kind f.again in
    let line = c.as_slice.ensures ∙ c.write_start.ensures in
    let signed = c.in_ok-put_text.ensures.puts in
    let put = c.in_ok-put_text-2.ensures.puts in
    let then = c.in_ok-put_path.ensures in
    let next = c.in_err-put_tail.ensures in
    then_puts _ (g.T.Sink.taken c.put_text.new.sink) _ _ _ _ c.args.sign.now (start ++ (path ++ (tail ++ 10 ∷ []))) _ signed.0 signed.1
    (then_puts _ (g.T.Sink.taken c.put_text-2.new.sink) _ _ _ _ start (path ++ (tail ++ 10 ∷ [])) _
    (subst (λ (l : List ℕ). Appends (g.T.Sink.taken c.put_text.new.sink) (g.T.Sink.taken c.put_text-2.new.sink) l) line put.0) put.1
    (then_failed _ (g.T.Sink.taken c.put_path.new.sink) _ _ _ _ path (tail ++ 10 ∷ []) _ c.from_residual-in_err-put_tail.ensures.0 then.0 then.1
    (part_before _ _ tail (10 ∷ []) next.0) next.1))

pub returns : goal.returns
returns g c =
    let f = c.args.found.now in
    let start = entry_start c.args.times f.object in
    let path = path_shown (map (λ name. name.now) c.args.path.now) in
    let tail = tail_shown (readable c.args.mounted.now.state f.ino) f.object.kind f.again in
    let line = c.as_slice.ensures ∙ c.write_start.ensures in
    let signed = c.in_ok-put_text.ensures.puts in
    let put = c.in_ok-put_text-2.ensures.puts in
    let then = c.in_ok-put_path.ensures in
    let next = c.in_ok-put_tail.ensures in
    then_puts _ (g.T.Sink.taken c.put_text.new.sink) _ _ _ _ c.args.sign.now (start ++ (path ++ (tail ++ 10 ∷ []))) _ signed.0 signed.1
    (then_puts _ (g.T.Sink.taken c.put_text-2.new.sink) _ _ _ _ start (path ++ (tail ++ 10 ∷ [])) _
    (subst (λ (l : List ℕ). Appends (g.T.Sink.taken c.put_text.new.sink) (g.T.Sink.taken c.put_text-2.new.sink) l) line put.0) put.1
    (then_puts _ (g.T.Sink.taken c.put_path.new.sink) _ _ _ _ path (tail ++ 10 ∷ []) _ then.0 then.1
    (then_puts _ (g.T.Sink.taken c.put_tail.new.sink) _ _ _ _ tail (10 ∷ []) _ next.0 next.1 c.put_text-3.ensures.puts)))
