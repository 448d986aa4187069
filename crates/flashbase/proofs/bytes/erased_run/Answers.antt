use Rattle.std.proofs.Common.{◌≡◌, ◌+◌, ◌*◌, ◌/◌, ◌<◌, ℕ, List, [], length, take, drop, get_or, sym, subst, ap, ◌∙◌, arith}
use Rattle.std.proofs.lemmas.List.{take_rest}
use Rattle.flashbase.specs.Bytes.{IsErasedRun, erased}
use Rattle.flashbase.proofs.BytesLemmas.{erased_run-behind}
use Rattle.flashbase.proofs.ChunkLemmas.{erased-chunk}
use Rattle.flashbase.proofs.bytes.erased_run.Goals as goal

pub loop-lanes-preserved : goal.loop-lanes-preserved
loop-lanes-preserved c =
    let k : ℕ = c.loop-lanes.lanes-index in
    let bytes : List ℕ = c.args.bytes.now in
    let count : ℕ = length bytes / 64 in
    let before = c.loop-lanes.invariant in
    let inside : k < count = omega (arith, c.as_chunks.ensures.front_len) in
    let moved : (k + 1) * 64 ≡ c.loop-lanes.start + 64 = omega (arith, before.start) in
    let lanes = sym (ap (λ (chunks : List (List ℕ)). get_or chunks k []) c.as_chunks.ensures.front) ∙ c.is_erased.ensures.0 c.if-not-is_erased.false in
    record {
      start = sym moved;
      within = omega (arith, before.start);
      erased = subst (λ n. take n bytes ≡ erased n) moved (erased-chunk 64 k count bytes inside (subst (λ n. take n bytes ≡ erased n) before.start before.erased) lanes);
    }

pub returns : goal.returns
returns c =
    let before = c.loop-lanes.invariant in
    let run : IsErasedRun (drop c.loop-lanes.start c.args.bytes.now) c.erased_run_by_byte.result = rw take_rest at c.erased_run_by_byte.ensures in
    erased_run-behind c.loop-lanes.start c.erased_run_by_byte.result c.args.bytes.now before.within before.erased run
