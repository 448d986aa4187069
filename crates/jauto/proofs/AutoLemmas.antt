-- What a command with `--auto` does, by what it does with the options that are found.
use Rattle.std.proofs.Common.{◌≡◌, ℕ, Bool, List, [], ◌∷◌, ◌++◌, Option, None, Some, Ok, Err, sym, ap, subst, inl, inr}
use Rattle.std.specs.Prelude.{◌⊎◌, Result, option_map}
use Rattle.jinfo.specs.Containers.{container_line, container_of}
use Rattle.jinfo.specs.Infos.{info_of}
use Rattle.jspare.specs.declared.layout.PageLayout.{PageLayout}
use Rattle.jcommand.specs.declared.outcome.Outcome.{Outcome}
use Rattle.jcommand.specs.declared.parsed.Options.{Options}
use Rattle.jedge.specs.Acts.{Act, DoesFrom, Ends, GoesOn, loads}
use Rattle.jedge.specs.Calls.{Event, Did, Read}
use Rattle.jedge.specs.Commands.{ends, reported}
use Rattle.jedge.specs.Laws.{Happened, MakesNothing}
use Rattle.jedge.specs.Told.{Told}
use Rattle.jedge.specs.declared.fault.Fault.{Fault}
use Rattle.jedge.proofs.LookingLemmas.{answers_looks, loads_looks, said_looks, region_looks, step_looks, then_looks}
use Rattle.jedge.proofs.Steps.{History, does_at, step_reported, then_err, then_reported}
use Rattle.jauto.specs.AutoLaws.{DoesFound, EndsUnfound, FoundAreTold, LeavingMakesNothing, LookingMakesNothing}
use Rattle.jauto.specs.Leaving.{leaves_shown, pages_alone}
use Rattle.jauto.specs.Looking.{auto_act, options_act, takes_options}
use Rattle.jauto.specs.Taking.{taking_of}
use Rattle.jauto.specs.TakingText.{left_line, taken_line, unclear_line}
use Rattle.jauto.specs.declared.taking.Taking.{Taking}
use Rattle.jauto.specs.declared.taking.Taking.TheVariants as taking

-- ---- nothing is made

takes_looks : (image : List ℕ) (what : Taking) → MakesNothing (takes_options image what)
takes_looks image taking.Nothing = then_looks _ _ (λ events r said. said_looks (option_map container_line (container_of image)) events said) (λ _. answers_looks _)
takes_looks image (taking.Unclear order sizes) = then_looks _ _ (λ events r said. said_looks (Some (unclear_line order sizes)) events said) (λ _. answers_looks _)
takes_looks image (taking.Taken options) = then_looks _ _ (λ events r said. said_looks (Some (taken_line options)) events said) (λ _. answers_looks _)

pub looking_makes_nothing : LookingMakesNothing
looking_makes_nothing writes name = then_looks (loads name) _ (loads_looks name) (λ (image : List ℕ). takes_looks image (taking_of writes (info_of image)))

leaves_looks : (name : List ℕ) (spare : Option PageLayout) → MakesNothing (leaves_shown name spare)
leaves_looks name None = answers_looks _
leaves_looks name (Some layout) = then_looks _ _ (λ events r said. said_looks (Some (left_line layout)) events said) (λ _. region_looks (pages_alone layout) (name ∷ []))

pub leaving_makes_nothing : LeavingMakesNothing
leaving_makes_nothing name = then_looks (loads name) _ (loads_looks name) (λ (dump : List ℕ).
    then_looks _ _ (answers_looks _) (λ (spare : Option PageLayout). leaves_looks name spare))

-- ---- what is found

happened_front : (e : Event) (xs ys : List Event) → Happened e xs → Happened e (xs ++ ys)
happened_front e [] ys is = absurd is
happened_front e (x ∷ xs) ys (inl is) = inl is
happened_front e (x ∷ xs) ys (inr is) = inr (happened_front e xs ys is)

happened_back : (e : Event) (xs ys : List Event) → Happened e ys → Happened e (xs ++ ys)
happened_back e [] ys is = is
happened_back e (x ∷ xs) ys is = inr (happened_back e xs ys is)

taken_as : (image : List ℕ) (what : Taking) (events : List Event) (options : Options) → takes_options image what events (Ok options) → what ≡ taking.Taken options
taken_as image taking.Nothing events options (Ends f did is) = cc
taken_as image taking.Nothing events options (GoesOn a before after did more is) = let no = more.1 in cc
taken_as image (taking.Unclear order sizes) events options (Ends f did is) = cc
taken_as image (taking.Unclear order sizes) events options (GoesOn a before after did more is) = let no = more.1 in cc
taken_as image (taking.Taken other) events options (Ends f did is) = cc
taken_as image (taking.Taken other) events options (GoesOn a before after did more is) = let same = more.1 in cc

read_in : (name image : List ℕ) (events : List Event) → loads name events (Ok image) → Happened (Did (Read name image)) events
read_in name image events (Ends f did is) = cc
read_in name image events (GoesOn opened before after did more is) =
    subst (λ (l : List Event). Happened (Did (Read name image)) l) (sym is)
    (happened_back (Did (Read name image)) before after
    (subst (λ (l : List Event). Happened (Did (Read name image)) l) (sym more.0)
    (inl (ap (λ (n : List ℕ). Did (Read n image)) did.0))))

pub found_are_told : FoundAreTold
found_are_told writes name events options (Ends f did is) = cc
found_are_told writes name events options (GoesOn image before after did more is) = (
  image,
  subst (λ (l : List Event). Happened (Did (Read name image)) l) (sym is)
      (happened_front (Did (Read name image)) before after (read_in name image before did)),
  taken_as image (taking_of writes (info_of image)) after options more,
)

pub auto_does_as_given : (writes : Bool) (name : List ℕ) (act : Options → Act Told) (events : List Event) (result : Result Told Fault)
    → auto_act writes name act events result
    → EndsUnfound writes name events result ⊎ DoesFound writes name act events result
auto_does_as_given writes name act events result (Ends f did is) = inl (f, did, is)
auto_does_as_given writes name act events result (GoesOn options before after did more is) = inr (record {
  options = options;
  before = before;
  after = after;
  found = did;
  looked = looking_makes_nothing writes name before (Ok options) did;
  does = more;
  all = is;
})

-- ---- a command that is gone through, and told

-- the options were found, and the command was done with them
pub found_reported : {old mid new : History} (writes : Bool) {asked : Bool} {name : List ℕ} (act : Options → Act Told) {options : Options} {r : Result Outcome Fault}
    → asked ≡ writes → DoesFrom old mid (options_act asked name) (Ok options)
    → DoesFrom mid new (reported (act options)) r → DoesFrom old new (reported (auto_act writes name act)) r
found_reported writes {asked} {name} act is found done =
    step_reported (does_at (λ (w : Bool). options_act w name) is found) done

-- none were found, and the fault was told
pub unfound_reported : {old mid new : History} (writes : Bool) {asked : Bool} {name : List ℕ} (act : Options → Act Told) {f : Fault} {r : Result Outcome Fault}
    → asked ≡ writes → DoesFrom old mid (options_act asked name) (Err f)
    → DoesFrom mid new (ends (Err f)) r → DoesFrom old new (reported (auto_act writes name act)) r
unfound_reported writes {asked} {name} act is found told =
    then_reported (then_err (does_at (λ (w : Bool). options_act w name) is found)) told

-- the command makes nothing where it makes nothing with each options
pub auto_looks : (writes : Bool) (name : List ℕ) (act : Options → Act Told) → ((options : Options) → MakesNothing (reported (act options))) → MakesNothing (reported (auto_act writes name act))
auto_looks writes name act looks = step_looks (options_act writes name) act (looking_makes_nothing writes name) looks
