use Rattle.std.proofs.Common.{◌≡◌, ◌++◌, ◌≤◌, ℕ, List, take, ap, ◌∙◌, arith}
use Rattle.std.proofs.lemmas.List.{append_assoc, replicate-append-replicate, take-replicate}
use Rattle.flashbase.specs.Bytes.{erased}
use Rattle.flashbase.specs.Crc.{crc_of, crc_after}
use Rattle.flashbase.proofs.CrcLemmas.{crc_goes_on}
use Rattle.flashbase.proofs.part.padded_crc.Goals as goal

pub loop-done-preserved : goal.loop-done-preserved
loop-done-preserved c =
    let bytes : List ℕ = c.args.bytes.now in
    let missing : List ℕ = erased c.loop-done.done in
    let len : ℕ = c.min-len.result in
    let short : len ≤ 64 = omega (arith, c.min-len.ensures) in
    let piece : take len (erased 64) ≡ erased len = take-replicate len 64 0xFF short in
    record {
      sum = c.crc_from-sum.ensures ∙ ap (λ (p : List ℕ). crc_after c.loop-done.sum p) piece
          ∙ ap (λ (s : ℕ). crc_after s (erased len)) c.loop-done.invariant.sum
          ∙ crc_goes_on 0 (bytes ++ missing) (erased len)
          ∙ ap crc_of (append_assoc bytes missing (erased len) ∙ ap (λ (r : List ℕ). bytes ++ r) (replicate-append-replicate c.loop-done.done len 255));
      within = omega (arith, c.min-len.ensures);
    }
