use Rattle.std.proofs.Common.{◌≡◌, ℕ, ◌+◌, ◌*◌, ◌/◌, ◌%◌, ◌<◌, ◌≤◌, ◌∙◌, ap, sym, false, ⊎_elim}
use Rattle.std.specs.Prelude.{◌&&◌, nat_le}
use Rattle.std.proofs.lemmas.Bool.{cond-true, cond-false, and_from, and_left, and_right, le-leb, lt-leb}
use Rattle.jnode.specs.Order.{bytes_in}
use Rattle.jsteps.specs.Device.{device_number, old_number, new_number}
use Rattle.jsteps.proofs.device.DeviceNumber.new.Goals as goal

pub returns-then-minor-le255 : goal.returns-then-minor-le255
unfolding device_number
returns-then-minor-le255 g c =
    let e = g.E.Order.order in
    let a = c.args in
    c.two_bytes.ensures
    ∙ sym
    (cond-true (nat_le a.major 255 && nat_le a.minor 255) (bytes_in e 2 (old_number a.major a.minor)) (bytes_in e 4 (new_number a.major a.minor))
    (and_from (nat_le a.major 255) (nat_le a.minor 255) (le-leb a.major 255 c.if-major-le255.true) (le-leb a.minor 255 c.if-minor-le255.true)))

pub returns : goal.returns
unfolding device_number
returns g c =
    let e = g.E.Order.order in
    let a = c.args in
    let wide : (nat_le a.major 255 && nat_le a.minor 255) ≡ false =
    ⊎_elim
    (λ (h : (a.major ≤ 255) × (255 < a.minor)). and_right (nat_le a.major 255) (nat_le a.minor 255) (lt-leb a.minor 255 h.1))
    (λ (h : 255 < a.major). and_left (nat_le a.major 255) (nat_le a.minor 255) (lt-leb a.major 255 h))
    c.else-major-le255.either in
    c.four_bytes.ensures
    ∙ ap (λ (low : ℕ). bytes_in e 4 (a.minor % 256 + low * 256 + a.minor / 256 % 4096 * 1048576)) c.from.ensures
    ∙ sym (cond-false (nat_le a.major 255 && nat_le a.minor 255) (bytes_in e 2 (old_number a.major a.minor)) (bytes_in e 4 (new_number a.major a.minor)) wide)
