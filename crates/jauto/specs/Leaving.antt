-- What `--auto` leaves out of a dump: the spare bytes behind its pages.
use Rattle.std.specs.Prelude.{◌≡◌, ℕ, List, [], ◌∷◌, Option, Some, None, Ok}
use Rattle.jspare.specs.declared.layout.PageLayout.{PageLayout}
use Rattle.jspare.specs.declared.region.Region.{Region}
use Rattle.jedge.specs.Acts.{Act, Then, answers, loads, says}
use Rattle.jedge.specs.Sparing.{FindsSpare}
use Rattle.jedge.specs.Streams.{reads_region}
use Rattle.jauto.specs.TakingText.{left_line}

-- all pages of a dump, without their spare bytes
abbrev pub pages_alone : PageLayout → Region
pages_alone layout = record { layout = Some layout; offset = 0; length = None }

-- It is said which spare bytes are left out of the file of a name, if there are any.
abbrev pub leaves_shown : List ℕ → Option PageLayout → Act Unit
leaves_shown name None = answers (λ result. result ≡ Ok (tt {0}))
leaves_shown name (Some layout) =
    Then (says (Some (left_line layout)))
    (λ _. reads_region (pages_alone layout) (name ∷ []))

-- rule: What is printed: `--auto` leaves out the spare bytes that a dump shows, as an act.
--   definitions: jauto.Leaving.leaving_act, jauto.Leaving.leaves_shown
--   code: jauto::leaving::leave_found
-- the file of a name is read, and the spare bytes that it shows are left out of it from here on
abbrev pub leaving_act : List ℕ → Act Unit
leaving_act name =
    Then (loads name) (λ dump. Then (answers (FindsSpare dump)) (λ spare. leaves_shown name spare))
