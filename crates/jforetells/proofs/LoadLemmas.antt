-- A file that was read is no longer than the greatest image.
use Rattle.std.proofs.Common.{ℕ, List, Ok, length}
use Rattle.std.specs.Prelude.{◌≤◌}
use Rattle.jscan.specs.Image.{greatest_image}
use Rattle.jedge.specs.Acts.{DoesFrom, Ends, GoesOn, loads}
use Rattle.jedge.specs.Calls.{Event}
use Rattle.jedge.proofs.Steps.{History}

loaded_by : (name bytes : List ℕ) (events : List Event) → loads name events (Ok bytes) → length bytes ≤ greatest_image
loaded_by name bytes events (Ends f did is) = let no : ⊥ = cc in absurd no
loaded_by name bytes events (GoesOn opened before after did more is) = more.1

pub loaded_small : {old new : History} {name bytes : List ℕ} → DoesFrom old new (loads name) (Ok bytes) → length bytes ≤ greatest_image
loaded_small {name} {bytes} done = loaded_by name bytes done.events done.acts
