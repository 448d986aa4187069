use Rattle.std.proofs.Common.{ℕ, List, [], ◌∷◌, ◌++◌, ◌∙◌, map, subst}
use Rattle.std.specs.Io.KnownBytes.{Appends}
use Rattle.flashbase.specs.Device.{PutsPart}
use Rattle.flashbase.proofs.DeviceLemmas.{part_before}
use Rattle.jmount.specs.Shown.{readable}
use Rattle.jline.specs.Paths.{path_shown}
use Rattle.jreport.specs.TreeText.{object_start, tail_shown}
use Rattle.flashbase.proofs.DeviceLemmas.{first_failed, then_puts, then_failed}
use Rattle.jreport.proofs.tree.put_object.Goals as goal

pub returns-in_err-put_text : goal.returns-in_err-put_text
returns-in_err-put_text g c =
    let start = object_start c.args.ino c.args.object.now in
    let path = path_shown (map (λ name. name.now) c.args.path.now) in
    let tail = tail_shown (readable c.args.mounted.now.state c.args.ino) c.args.object.now.kind c.args.again in
    let line = c.as_slice.ensures ∙ c.write_object.ensures in
    let put = c.in_err-put_text.ensures.puts in
    first_failed _ _ _ _ start (path ++ (tail ++ 10 ∷ [])) _ c.from_residual.ensures.0
    (subst (λ (l : List ℕ). PutsPart (g.T.Sink.taken c.args.sink.now) (g.T.Sink.taken c.put_text.new.sink) l) line put.0) put.1

pub returns-in_err-put_path : goal.returns-in_err-put_path
returns-in_err-put_path g c =
    let start = object_start c.args.ino c.args.object.now in
    let path = path_shown (map (λ name. name.now) c.args.path.now) in
    let tail = tail_shown (readable c.args.mounted.now.state c.args.ino) c.args.object.now.kind c.args.again in
    let line = c.as_slice.ensures ∙ c.write_object.ensures in
    let put = c.in_ok-put_text.ensures.puts in
    let next = c.in_err-put_path.ensures in
    then_failed _ (g.T.Sink.taken c.put_text.new.sink) _ _ _ _ start (path ++ (tail ++ 10 ∷ [])) _ c.from_residual-in_err-put_path.ensures.0
    (subst (λ (l : List ℕ). Appends (g.T.Sink.taken c.args.sink.now) (g.T.Sink.taken c.put_text.new.sink) l) line put.0) put.1
    (part_before _ _ path (tail ++ 10 ∷ []) next.0) next.1

pub returns-in_err-put_tail : goal.returns-in_err-put_tail
returns-in_err-put_tail g c =
    let start = object_start c.args.ino c.args.object.now in
    let path = path_shown (map (λ name. name.now) c.args.path.now) in
    let tail = tail_shown (readable c.args.mounted.now.state c.args.ino) c.args.object.now.kind c.args.again in
    let line = c.as_slice.ensures ∙ c.write_object.ensures in
    let put = c.in_ok-put_text.ensures.puts in
    let then = c.in_ok-put_path.ensures in
    let next = c.in_err-put_tail.ensures in
    then_puts _ (g.T.Sink.taken c.put_text.new.sink) _ _ _ _ start (path ++ (tail ++ 10 ∷ [])) _
    (subst (λ (l : List ℕ). Appends (g.T.Sink.taken c.args.sink.now) (g.T.Sink.taken c.put_text.new.sink) l) line put.0) put.1
    (then_failed _ (g.T.Sink.taken c.put_path.new.sink) _ _ _ _ path (tail ++ 10 ∷ []) _ c.from_residual-in_err-put_tail.ensures.0 then.0 then.1
    (part_before _ _ tail (10 ∷ []) next.0) next.1)

pub returns : goal.returns
returns g c =
    let start = object_start c.args.ino c.args.object.now in
    let path = path_shown (map (λ name. name.now) c.args.path.now) in
    let tail = tail_shown (readable c.args.mounted.now.state c.args.ino) c.args.object.now.kind c.args.again in
    let line = c.as_slice.ensures ∙ c.write_object.ensures in
    let put = c.in_ok-put_text.ensures.puts in
    let then = c.in_ok-put_path.ensures in
    let next = c.in_ok-put_tail.ensures in
    then_puts _ (g.T.Sink.taken c.put_text.new.sink) _ _ _ _ start (path ++ (tail ++ 10 ∷ [])) _
    (subst (λ (l : List ℕ). Appends (g.T.Sink.taken c.args.sink.now) (g.T.Sink.taken c.put_text.new.sink) l) line put.0) put.1
    (then_puts _ (g.T.Sink.taken c.put_path.new.sink) _ _ _ _ path (tail ++ 10 ∷ []) _ then.0 then.1
    (then_puts _ (g.T.Sink.taken c.put_tail.new.sink) _ _ _ _ tail (10 ∷ []) _ next.0 next.1 c.put_text-2.ensures.puts))
