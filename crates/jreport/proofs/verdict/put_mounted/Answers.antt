use Rattle.std.proofs.Common.{◌≡◌, ℕ, Bool, not, List, Option, length, ap, sym, ◌∙◌, subst, arith}
use Rattle.std.specs.Prelude.{◌++◌, ◌||◌}
use Rattle.std.specs.List.{flat_map}
use Rattle.std.specs.Io.KnownBytes.{Appends}
use Rattle.std.proofs.KnownBytes.{Appends-trans}
use Rattle.std.proofs.lemmas.Grind.{common_steps}
use Rattle.std.proofs.lemmas.List.Folds.{flat_map-map}
use Rattle.flashbase.specs.Device.{PutsPart, next_count}
use Rattle.flashbase.proofs.DeviceLemmas.{part_before, part_behind}
use Rattle.jmount.specs.Tree.{dangling}
use Rattle.jreport.specs.Verdict.{dangling_line, is_dangling, is_broken, ok_line, shape_if, shape_text}
use Rattle.jreport.proofs.VerdictLemmas.{mounted_failed}
use Rattle.jreport.proofs.verdict.put_mounted.Goals as goal

pub returns-in_err-put_ok : goal.returns-in_err-put_ok
returns-in_err-put_ok g c =
    let m = c.args.mounted.now in
    let put = c.in_err-put_ok.ensures in
    mounted_failed c.args.asked m _ _ _ _ _ c.from_residual-in_err-put_ok.ensures.1
    (part_before _ _ (ok_line m.read_only) (flat_map dangling_line (dangling m.state) ++ shape_text (shape_if c.args.asked m))
    (subst (λ (b : Bool). PutsPart (g.T.Sink.taken c.args.sink.now) (g.T.Sink.taken c.put_ok.new.sink) (ok_line b)) c.read_only.ensures put.0)) put.1

pub returns-in_err-put_all_dangling : goal.returns-in_err-put_all_dangling
returns-in_err-put_all_dangling g c =
    let m = c.args.mounted.now in
    let put = c.in_ok-put_ok.ensures in
    let next = c.in_err-put_all_dangling.ensures in
    let lines = ap (flat_map (λ x. dangling_line (x.0, x.1.now, x.2))) c.deref.ensures.value ∙ sym (flat_map-map dangling_line (λ x. (x.0, x.1.now, x.2)) c.in_ok-dangling.dangling.items)
    ∙ ap (flat_map dangling_line) c.in_ok-dangling.ensures in
    mounted_failed c.args.asked m _ _ _ _ _ c.from_residual-in_err-put_all_dangling.ensures.1
    (part_behind _ (g.T.Sink.taken c.put_ok.new.sink) _ (ok_line m.read_only) (flat_map dangling_line (dangling m.state) ++ shape_text (shape_if c.args.asked m))
    (subst (λ (b : Bool). Appends (g.T.Sink.taken c.args.sink.now) (g.T.Sink.taken c.put_ok.new.sink) (ok_line b)) c.read_only.ensures put.0)
    (part_before _ _ (flat_map dangling_line (dangling m.state)) (shape_text (shape_if c.args.asked m))
    (subst (λ (l : List ℕ). PutsPart (g.T.Sink.taken c.put_ok.new.sink) (g.T.Sink.taken c.put_all_dangling.new.sink) l) lines next.0)))
    (next.1 ∙ ap next_count put.1)

pub returns-in_err-put_shape : goal.returns-in_err-put_shape
returns-in_err-put_shape g c =
    let m = c.args.mounted.now in
    let put = c.in_ok-put_ok.ensures in
    let next = c.in_ok-put_all_dangling.ensures in
    let last = c.in_err-put_shape.ensures in
    let lines = ap (flat_map (λ x. dangling_line (x.0, x.1.now, x.2))) c.deref.ensures.value ∙ sym (flat_map-map dangling_line (λ x. (x.0, x.1.now, x.2)) c.in_ok-dangling.dangling.items)
    ∙ ap (flat_map dangling_line) c.in_ok-dangling.ensures in
    mounted_failed c.args.asked m _ _ _ _ _ c.from_residual-in_err-put_shape.ensures.1
    (part_behind _ (g.T.Sink.taken c.put_ok.new.sink) _ (ok_line m.read_only) (flat_map dangling_line (dangling m.state) ++ shape_text (shape_if c.args.asked m))
    (subst (λ (b : Bool). Appends (g.T.Sink.taken c.args.sink.now) (g.T.Sink.taken c.put_ok.new.sink) (ok_line b)) c.read_only.ensures put.0)
    (part_behind _ (g.T.Sink.taken c.put_all_dangling.new.sink) _ (flat_map dangling_line (dangling m.state)) (shape_text (shape_if c.args.asked m))
    (subst (λ (l : List ℕ). Appends (g.T.Sink.taken c.put_ok.new.sink) (g.T.Sink.taken c.put_all_dangling.new.sink) l) lines next.0)
    (subst (λ (o : Option Bool). PutsPart (g.T.Sink.taken c.put_all_dangling.new.sink) (g.T.Sink.taken c.put_shape.new.sink) (shape_text o)) c.shape_if-shape.ensures last.0)))
    (last.1 ∙ ap next_count (next.1 ∙ put.1))

pub returns : goal.returns
returns g c =
    let m = c.args.mounted.now in
    let put = c.in_ok-put_ok.ensures in
    let next = c.in_ok-put_all_dangling.ensures in
    let last = c.in_ok-put_shape.ensures in
    let lines = ap (flat_map (λ x. dangling_line (x.0, x.1.now, x.2))) c.deref.ensures.value ∙ sym (flat_map-map dangling_line (λ x. (x.0, x.1.now, x.2)) c.in_ok-dangling.dangling.items)
    ∙ ap (flat_map dangling_line) c.in_ok-dangling.ensures in
    let len = ap (λ (l : List (ℕ × List ℕ × ℕ)). length l) c.in_ok-dangling.ensures in
    let same : not c.is_empty.result ≡ is_dangling m = grind (arith, common_steps, len, c.is_empty.ensures) in (
      c.is_wrong.ensures ∙ ap (λ (b : Bool). b || is_broken c.shape_if-shape.result) same ∙ ap (λ (o : Option Bool). is_dangling m || is_broken o) c.shape_if-shape.ensures,
      Appends-trans _ (g.T.Sink.taken c.put_ok.new.sink) _ (ok_line m.read_only) (flat_map dangling_line (dangling m.state) ++ shape_text (shape_if c.args.asked m))
          (subst (λ (b : Bool). Appends (g.T.Sink.taken c.args.sink.now) (g.T.Sink.taken c.put_ok.new.sink) (ok_line b)) c.read_only.ensures put.0)
          (Appends-trans _ (g.T.Sink.taken c.put_all_dangling.new.sink) _ (flat_map dangling_line (dangling m.state)) (shape_text (shape_if c.args.asked m))
          (subst (λ (l : List ℕ). Appends (g.T.Sink.taken c.put_ok.new.sink) (g.T.Sink.taken c.put_all_dangling.new.sink) l) lines next.0)
          (subst (λ (o : Option Bool). Appends (g.T.Sink.taken c.put_all_dangling.new.sink) (g.T.Sink.taken c.put_shape.new.sink) (shape_text o)) c.shape_if-shape.ensures last.0)),
      last.1 ∙ next.1 ∙ put.1,
    )
