use Rattle.std.proofs.Common.{ℕ, List, refl}
use Rattle.std.specs.Borrow.{Bor}
use Rattle.std.specs.Prelude.{map}
use Rattle.jedge.specs.Streams.{reads_region}
use Rattle.jedge.proofs.Steps.{does_at, nothing_done}
use Rattle.jffs2_image.proofs.program.read_images.Goals as goal

pub returns-in-Ok : goal.returns-in-Ok
returns-in-Ok g c = does_at (λ (names : List (List ℕ)). reads_region c.args.region names) c.in-Ok.ensures
    (does_at (λ (names : List (Bor (List ℕ))). reads_region c.args.region (map (λ n. n.now) names))
    c.as_slice.ensures.value c.read_region.ensures)

pub returns-in-Err : goal.returns-in-Err
returns-in-Err g c = nothing_done refl refl
