use Rattle.std.proofs.Common.{◌≡◌, ℕ, ◌+◌, ◌-◌, ◌++◌, ◌≤◌, length, take, drop, ap, sym, ◌∙◌, arith}
use Rattle.std.proofs.lemmas.List.{length-take}
use Rattle.flashbase.specs.Lists.{each_below}
use Rattle.jfrag.specs.Overlays.{byte_at}
use Rattle.jmount.specs.Stored.{stored_object, visible_in}
use Rattle.jmount.proofs.ReadLemmas.{part-of_each, bytes-stored, length-stored}
use Rattle.jmount.proofs.read.read_stored.Goals as goal

pub returns-clause-count : goal.returns-clause-count
returns-clause-count c =
    let stored = c.args.stored.now in
    let has = sym c.has_bytes.ensures ∙ c.if-not-has_bytes.false in
    let stored_len = length-stored stored has in
    let left = c.saturating_sub-left.ensures in
    let size = c.from.ensures in
    let count = c.min-count.ensures in
    omega arith

pub returns-clause-bytes : goal.returns-clause-bytes
returns-clause-bytes c =
    let stored = c.args.stored.now in
    let offset = c.args.offset in
    let count = c.min-count.result in
    let out = c.args.out.now in
    let at = λ (place : ℕ). byte_at (visible_in stored.bytes place) in
    let has = sym c.has_bytes.ensures ∙ c.if-not-has_bytes.false in
    let left = c.saturating_sub-left.ensures in
    let size = c.from.ensures in
    let is = c.min-count.ensures in
    let fits : count ≤ stored.size - offset = omega arith in
    let room : length (take count out) ≡ count = omega (arith, length-take count out) in
    let read : c.read_at.new.out ≡ each_below (length (take count out)) (λ k. at (offset + k)) = c.read_at.ensures in
    ap (λ xs. xs ++ drop count out)
    (read ∙ ap (λ n. each_below n (λ k. at (offset + k))) room ∙ sym (part-of_each stored.size offset count at fits)
    ∙ ap (λ bytes. take count (drop offset bytes)) (sym (bytes-stored (stored_object stored) has)))
