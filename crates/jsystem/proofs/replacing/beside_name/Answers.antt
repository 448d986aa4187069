use Rattle.std.proofs.Common.{◌≡◌, ◌∙◌}
use Rattle.std.specs.Prelude.{◌++◌, codes, decimal, string_bytes}
use Rattle.std.proofs.lemmas.Result.{IfOk-weaker}
use Rattle.jsystem.specs.Beside.{beside_name}
use Rattle.jsystem.proofs.BesideLemmas.{first_name, next_name}
use Rattle.jsystem.proofs.replacing.beside_name.Goals as goal

pub returns-then-i-eq0 : goal.returns-then-i-eq0
returns-then-i-eq0 c =
    IfOk-weaker c.format.result (λ s. string_bytes s ≡ c.args.name.now ++ codes ".tmp") (λ s. string_bytes s ≡ beside_name c.args.name.now c.args.i)
    (λ s wrote. wrote ∙ first_name c.args.name.now c.args.i c.if-i-eq0.true) c.format.ensures.ok

pub returns-else-i-eq0 : goal.returns-else-i-eq0
returns-else-i-eq0 c =
    IfOk-weaker c.format-else-i-eq0.result (λ s. string_bytes s ≡ c.args.name.now ++ (codes ".tmp" ++ decimal c.args.i)) (λ s. string_bytes s ≡ beside_name c.args.name.now c.args.i)
    (λ s wrote. wrote ∙ next_name c.args.name.now c.args.i c.if-i-eq0.false) c.format-else-i-eq0.ensures.ok
