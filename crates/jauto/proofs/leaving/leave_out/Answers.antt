use Rattle.std.proofs.Common.{List, ℕ, Option, refl, sym, []}
use Rattle.std.specs.Prelude.{◌∷◌}
use Rattle.jspare.specs.declared.layout.PageLayout.{PageLayout}
use Rattle.jspare.specs.declared.region.Region.{Region}
use Rattle.jedge.specs.Streams.{reads_region}
use Rattle.jedge.proofs.Steps.{answered, does_at, then_ok}
use Rattle.jauto.specs.Leaving.{leaves_shown}
use Rattle.jauto.proofs.leaving.leave_out.Goals as goal

pub returns-in-Some : goal.returns-in-Some
returns-in-Some g c = does_at (λ (spare : Option PageLayout). leaves_shown c.args.name.now spare) (sym c.in-Some.is)
    (then_ok c.say_left.ensures
    (does_at (λ (region : Region). reads_region region (c.args.name.now ∷ [])) c.pages_alone.ensures c.read_region.ensures))

pub returns-in-None : goal.returns-in-None
returns-in-None g c = does_at (λ (spare : Option PageLayout). leaves_shown c.args.name.now spare) (sym c.in-None.is) (answered refl)
