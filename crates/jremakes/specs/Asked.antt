-- What is asked of a command that makes an image of another one, and the image that it takes.
use Rattle.std.specs.Prelude.{◌≡◌, ℕ, Bool, IsFalse, IsTrue, List, None, Result, Ok, Err}
use Rattle.jnode.specs.declared.order.Endian.{Endian}
use Rattle.jcommand.specs.declared.parsed.Options.{Options}
use Rattle.jreport.specs.FoundIn.{HasFindings, found_count, found_in}
use Rattle.jedge.specs.Acts.{Act, Then, answers, loads}
use Rattle.jedge.specs.Images.{HasNodes}
use Rattle.jedge.specs.declared.fault.Fault.{Fault}
use Rattle.jmakes.specs.Keeping.{IsFindingsOf}
use Rattle.jmakes.specs.Making.{WantedFile, compares_names, wanted_file}
use Rattle.jremakes.specs.declared.asked.Remaking.{Remaking}

-- how the image is read, and its name; whether it may be replaced whatever is found in it; and the
-- file that is made of it
pub record AskedRemaking : Type 0 where
  pub options : Options
  pub force : Bool
  pub image : List ℕ
  pub output : WantedFile

abbrev pub remaking_of : Remaking → AskedRemaking
remaking_of asked = record {
  options = asked.options;
  force = asked.force;
  image = asked.image.now;
  output = wanted_file asked.output;
}

-- one with findings would be replaced, since it is the file that is made, and nobody forces that
pub record WouldReplace (e : Endian) (asked : AskedRemaking) (over : Bool) (image : List ℕ) : Type 0
  where
    pub is_over : IsTrue over
    pub unforced : IsFalse asked.force
    pub has : HasFindings e asked.options.geometry.block image

-- rule: What is printed: An image with findings is not replaced, as an act.
--   definitions: jremakes.Asked.WouldReplace, jremakes.Asked.MayBeReplaced
--   code: jremakes::original::judge_replaced
-- it may be replaced, or has findings, of which this many are told
abbrev pub MayBeReplaced : Endian → AskedRemaking → Bool → List ℕ → Result Unit Fault → Type 0
MayBeReplaced e asked over image (Ok _) = WouldReplace e asked over image → ⊥
MayBeReplaced e asked over image (Err f) = WouldReplace e asked over image
    × IsFindingsOf asked.image (found_count (found_in e asked.options.geometry.block image)) f

-- this is answered; nothing happens
abbrev pub gives : {A : Type 0} → A → Act A
gives x = answers (λ result. result ≡ Ok x)

-- The host is asked whether the image is the file that is made; the image is read; one in which no
-- node is found is refused, and one that has findings and would be replaced.
abbrev pub takes_original : Endian → AskedRemaking → Act (List ℕ)
takes_original e asked =
    Then (compares_names asked.image asked.output.name) (λ over.
    Then (loads asked.image) (λ image.
    Then (answers (HasNodes e asked.options.geometry.block None image)) (λ _.
    Then (answers (MayBeReplaced e asked over image)) (λ _.
    gives image))))
