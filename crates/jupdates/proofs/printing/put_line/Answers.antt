use Rattle.std.proofs.Common.{◌≡◌, ℕ, ap, length, refl, rules, take}
use Rattle.jdevice.specs.Line.{updated_line}
use Rattle.jupdates.proofs.printing.put_line.Goals as goal

pub returns-in-Ok : goal.returns-in-Ok
returns-in-Ok g c =
    let many : c.len.result ≡ length c.args.done.now.places.items = search rules in
    record {
      text = updated_line c.args.done.now.accepted c.len.result c.args.bytes;
      says = (ap (λ (n : ℕ). updated_line c.args.done.now.accepted n c.args.bytes) many, refl);
      put = c.in-Ok.ensures.0;
      counts = c.in-Ok.ensures.1;
    }

pub returns-in-Err : goal.returns-in-Err
returns-in-Err g c =
    let many : c.len.result ≡ length c.args.done.now.places.items = search rules in
    let k : ℕ = c.in-Err.ensures.0.0 in
    record {
      text = take k (updated_line c.args.done.now.accepted c.len.result c.args.bytes);
      says = (refl, (k, ap (λ (n : ℕ). take k (updated_line c.args.done.now.accepted n c.args.bytes)) many));
      put = c.in-Err.ensures.0.1;
      counts = c.in-Err.ensures.1;
    }
