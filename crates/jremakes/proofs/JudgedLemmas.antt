-- All is judged before a file is made.
use Rattle.std.proofs.Common.{◌≡◌, ◌⊎◌, ℕ, Bool, List, [], ◌∷◌, ◌++◌, Result, None, Ok, Err, refl, sym, ap, subst, inl, inr}
use Rattle.jnode.specs.declared.order.Endian.{Endian}
use Rattle.jreport.specs.NoNodes.{HasNoNode}
use Rattle.jedge.proofs.BlamingLemmas.{after_more, before_more}
use Rattle.jedge.proofs.LookingLemmas.{answers_looks, both, loads_looks, same, then_looks}
use Rattle.jedge.specs.Acts.{Act, Then, Ends, GoesOn, answers, loads}
use Rattle.jedge.specs.Calls.{Event, Did, Compare, Read}
use Rattle.jedge.specs.Images.{HasNodes}
use Rattle.jedge.specs.Laws.{Happened, LooksOnly, MakesNothing}
use Rattle.jedge.specs.Told.{Told}
use Rattle.jedge.specs.declared.fault.Fault.{Fault}
use Rattle.jmakes.specs.Making.{compares_names}
use Rattle.jmakes.proofs.KeepingLemmas.{compares_looks}
use Rattle.jremakes.specs.Asked.{AskedRemaking, MayBeReplaced, WouldReplace, gives, takes_original}
use Rattle.jremakes.specs.Judging.{IsCompressible, IsConvertible}
use Rattle.jremakes.specs.Compacting.{IsCompactable, compact_blocks}
use Rattle.jremakes.specs.CompactingApart.{IsCompactableApart}
use Rattle.jremakes.specs.Laws.{Apart, Compact, CompactApart, Compress, Decompress, IsAcceptedBy, JudgedIsRemade, MakesJudged, RemakeCommand, asked_by}

-- ---- the image is taken

pub takes_looks : (e : Endian) (asked : AskedRemaking) → MakesNothing (takes_original e asked)
takes_looks e asked = then_looks (compares_names asked.image asked.output.name) _ (compares_looks asked.image asked.output.name) (λ (over : Bool).
    then_looks (loads asked.image) _ (loads_looks asked.image) (λ (image : List ℕ).
    then_looks _ _ (answers_looks _) (λ _. then_looks _ _ (answers_looks _) (λ _. answers_looks _))))

loads_read : (name : List ℕ) (events : List Event) (image : List ℕ) → loads name events (Ok image) → Happened (Did (Read name image)) events
loads_read name events image (Ends f did is) = let no : ⊥ = cc in absurd no
loads_read name events image (GoesOn opened before after did more is) =
    subst (λ (l : List Event). Happened (Did (Read name image)) l) (sym is) (after_more _ before after
    (subst (λ (l : List Event). Happened (Did (Read name image)) l) (sym more.0) (inl (ap (λ (n : List ℕ). Did (Read n image)) did.0))))

-- what is known of an image that was taken
pub record IsTakenIn (e : Endian) (asked : AskedRemaking) (events : List Event) (image : List ℕ) : Type 0 where
  pub over : Bool
  pub compared : Happened (Did (Compare asked.image asked.output.name over)) events
  pub read : Happened (Did (Read asked.image image)) events
  pub nodes : HasNoNode e asked.options.geometry.block image → ⊥
  pub spared : WouldReplace e asked over image → ⊥

abbrev judges : Endian → AskedRemaking → Bool → List ℕ → Act (List ℕ)
judges e asked over image = Then (answers (HasNodes e asked.options.geometry.block None image)) (λ _. Then (answers (MayBeReplaced e asked over image)) (λ _. gives image))

-- the judged image is the one that is given
pub record IsJudgedAs (e : Endian) (asked : AskedRemaking) (over : Bool) (image given : List ℕ) : Type 0 where
  pub alike : given ≡ image
  pub nodes : HasNoNode e asked.options.geometry.block image → ⊥
  pub spared : WouldReplace e asked over image → ⊥

given_alike : (image given : List ℕ) (events : List Event) → gives image events (Ok given) → given ≡ image
given_alike image given events is = let one = is.1 in cc

spared_judged : (e : Endian) (asked : AskedRemaking) (over : Bool) (image given : List ℕ) (events : List Event) → (HasNoNode e asked.options.geometry.block image → ⊥)
    → Then (answers (MayBeReplaced e asked over image)) (λ _. gives image) events (Ok given) → IsJudgedAs e asked over image given
spared_judged e asked over image given events nodes (Ends f did is) = let no : ⊥ = cc in absurd no
spared_judged e asked over image given events nodes (GoesOn x before after did more is) = record {
  alike = given_alike image given after more;
  nodes = nodes;
  spared = did.1;
}

judged_as : (e : Endian) (asked : AskedRemaking) (over : Bool) (image given : List ℕ) (events : List Event) → judges e asked over image events (Ok given) → IsJudgedAs e asked over image given
judged_as e asked over image given events (Ends f did is) = let no : ⊥ = cc in absurd no
judged_as e asked over image given events (GoesOn x before after did more is) = spared_judged e asked over image given after did.1 more

-- the file is read, and judged
read_taken : (e : Endian) (asked : AskedRemaking) (over : Bool) (first events : List Event) (given : List ℕ) → first ≡ Did (Compare asked.image asked.output.name over) ∷ []
    → Then (loads asked.image) (judges e asked over) events (Ok given) → IsTakenIn e asked (first ++ events) given
read_taken e asked over first events given compared (Ends f did is) = let no : ⊥ = cc in absurd no
read_taken e asked over first events given compared (GoesOn image before after did more is) =
    let one = judged_as e asked over image given after more in record {
      over = over;
      compared = before_more _ first events (subst (λ (l : List Event). Happened (Did (Compare asked.image asked.output.name over)) l) (sym compared) (inl refl));
      read = after_more _ first events (subst (λ (l : List Event). Happened (Did (Read asked.image given)) l) (sym is)
          (before_more _ before after (subst (λ (b : List ℕ). Happened (Did (Read asked.image b)) before) (sym one.alike) (loads_read asked.image before image did))));
      nodes = subst (λ (b : List ℕ). HasNoNode e asked.options.geometry.block b → ⊥) (sym one.alike) one.nodes;
      spared = subst (λ (b : List ℕ). WouldReplace e asked over b → ⊥) (sym one.alike) one.spared;
    }

pub takes_taken : (e : Endian) (asked : AskedRemaking) (events : List Event) (given : List ℕ) → takes_original e asked events (Ok given) → IsTakenIn e asked events given
takes_taken e asked events given (Ends f did is) = let no : ⊥ = cc in absurd no
takes_taken e asked events given (GoesOn over before after did more is) =
    subst (λ (l : List Event). IsTakenIn e asked l given) (sym is) (read_taken e asked over before after given did more)

-- ---- it is accepted

abbrev IsLaw : RemakeCommand → List Event → Type 0
IsLaw command events = LooksOnly events ⊎ MakesJudged command events

law_at : (command : RemakeCommand) {events other : List Event} → events ≡ other → IsLaw command other → IsLaw command events
law_at command is law = subst (λ (l : List Event). IsLaw command l) (sym is) law

no_more : (xs ys : List Event) → ys ≡ [] → LooksOnly xs → LooksOnly (xs ++ ys)
no_more xs ys none looks = both xs ys looks (same none tt)

accepted_law : {A : Type 0} (command : RemakeCommand) (Judges : Result A Fault → Type 0) (next : A → Act Told) (before after : List Event) (image : List ℕ) (result : Result Told Fault)
    → ((x : A) → Judges (Ok x) → IsAcceptedBy command image) → LooksOnly before → IsTakenIn (asked_by command).options.endian (asked_by command) before image
    → Then (answers Judges) next after result → IsLaw command (before ++ after)
accepted_law command Judges next before after image result accepts looks taken (Ends f did is) = inl (no_more before after did.0 looks)
accepted_law command Judges next before after image result accepts looks taken (GoesOn x first last did more is) = inr (record {
  before = before;
  after = after;
  looks = looks;
  judged = record {
    image = image;
    over = taken.over;
    compared = taken.compared;
    read = taken.read;
    nodes = taken.nodes;
    spared = taken.spared;
    accepted = accepts x did.1;
  };
  all = refl;
})

pub judged_is_remade : JudgedIsRemade
judged_is_remade (Decompress asked) events result (Ends f did is) = inl (takes_looks asked.options.endian asked events (Err f) did)
judged_is_remade (Decompress asked) events result (GoesOn image before after did more is) = law_at (Decompress asked) is
    (accepted_law (Decompress asked) (IsConvertible asked.options.endian asked.options.geometry.block image) _ before after image result (λ x judged. judged.0)
    (takes_looks asked.options.endian asked before (Ok image) did) (takes_taken asked.options.endian asked before image did) more)
judged_is_remade (Compress asked) events result (Ends f did is) = inl (takes_looks asked.options.endian asked events (Err f) did)
judged_is_remade (Compress asked) events result (GoesOn image before after did more is) = law_at (Compress asked) is
    (accepted_law (Compress asked) (IsCompressible asked.options.endian asked.options.geometry.block image) _ before after image result (λ x judged. judged.0)
    (takes_looks asked.options.endian asked before (Ok image) did) (takes_taken asked.options.endian asked before image did) more)
judged_is_remade (Apart asked) events result (Ends f did is) = inl (takes_looks asked.options.endian asked events (Err f) did)
judged_is_remade (Apart asked) events result (GoesOn image before after did more is) = law_at (Apart asked) is
    (accepted_law (Apart asked) (IsConvertible asked.options.endian asked.options.geometry.block image) _ before after image result (λ x judged. judged.0)
    (takes_looks asked.options.endian asked before (Ok image) did) (takes_taken asked.options.endian asked before image did) more)
judged_is_remade (Compact asked blocks) events result (Ends f did is) = inl (takes_looks asked.options.endian asked events (Err f) did)
judged_is_remade (Compact asked blocks) events result (GoesOn image before after did more is) = law_at (Compact asked blocks) is
    (accepted_law (Compact asked blocks) (IsCompactable asked.options.endian asked.options.geometry.block (compact_blocks asked.options.geometry.block blocks) image) _ before after image result
    (λ x judged. (x, judged)) (takes_looks asked.options.endian asked before (Ok image) did) (takes_taken asked.options.endian asked before image did) more)
judged_is_remade (CompactApart asked blocks) events result (Ends f did is) = inl (takes_looks asked.options.endian asked events (Err f) did)
judged_is_remade (CompactApart asked blocks) events result (GoesOn image before after did more is) = law_at (CompactApart asked blocks) is
    (accepted_law (CompactApart asked blocks) (IsCompactableApart asked.options.endian asked.options.geometry.block (compact_blocks asked.options.geometry.block blocks) image) _ before after image result
    (λ x judged. (x, judged)) (takes_looks asked.options.endian asked before (Ok image) did) (takes_taken asked.options.endian asked before image did) more)
