use Rattle.std.proofs.Common.{rules, ◌≡◌, ◌≤◌, ◌+◌, ◌*◌, ℕ, Some, sym, ◌∙◌, arith}
use Rattle.flashbase.specs.Bytes.{pad4_of}
use Rattle.jlog.specs.Places.{place_within}
use Rattle.jlog.proofs.CodeLemmas.{flash_limits}
use Rattle.jlog.proofs.StepLemmas.{pad4_small}
use Rattle.jcollect.proofs.RoomLemmas.{flash_words, next_small}
use Rattle.jcollect.proofs.room.room_after.Goals as goal

pub overflow_cast-result : goal.overflow_cast-result
overflow_cast-result c =
    let long : c.pad4.result ≤ 4194307 = omega (arith, c.requires.len, c.pad4.ensures, pad4_small c.args.len) in
    search (rules, long)

pub overflow_add-result : goal.overflow_add-result
overflow_add-result c =
    let size : ℕ = c.args.geometry.block in
    let limits = flash_limits size c.args.blocks c.requires.flash in
    let found : place_within size c.args.blocks c.in_ok-from.from c.args.len ≡ Some c.in_ok-at.at = sym c.place_of.ensures ∙ c.in_ok-at.was in
    let small : c.in_ok-at.at + pad4_of c.args.len ≤ c.args.blocks * size = next_small size c.args.blocks c.in_ok-from.from c.args.len c.in_ok-at.at (flash_words size c.args.blocks c.requires.flash) found in
    let fits : c.in_ok-at.at + c.pad4.result ≤ 268435456 = omega (arith, small, limits.small, c.pad4.ensures) in
    search (rules, fits)
