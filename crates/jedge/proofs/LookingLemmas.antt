-- What makes nothing.
use Rattle.std.proofs.Common.{◌≡◌, ℕ, Bool, List, [], ◌∷◌, ◌++◌, Option, None, Some, Result, Ok, Err, refl, sym, ap, subst, ◌∙◌, inl, inr, append_assoc}
use Rattle.jcommand.specs.declared.outcome.Outcome.{Outcome}
use Rattle.jcommand.specs.declared.parsed.Comparison.{Comparison}
use Rattle.jcommand.specs.declared.parsed.Options.{Options}
use Rattle.jedge.specs.Acts.{Act, Then, Ends, GoesOn, IsPrintedInPart, IsSaidBy, Saying, answers, closes, loads, opens, prints, reads_whole}
use Rattle.jedge.specs.Calls.{Event, Stream, Answers, Errors, Failed, Print, printed}
use Rattle.jnode.specs.declared.order.Endian.{Endian}
use Rattle.jjson.specs.declared.lines.Lines.{Lines}
use Rattle.jregions.specs.declared.region.Regions.{Regions}
use Rattle.jspare.specs.declared.layout.PageLayout.{PageLayout}
use Rattle.jspare.specs.declared.region.Region.{Region}
use Rattle.jmount.specs.Mount.{Mount}
use Rattle.jedge.specs.Commands.{Cat, Check, Damage, Diff, Info, Ls, cat_act, check_act, damage_act, diff_act, ends, info_act, list_act, reported}
use Rattle.jedge.specs.Views.{views}
use Rattle.jedge.specs.Streams.{prints_json, reads_region}
use Rattle.jedge.specs.Told.{Told}
use Rattle.jedge.specs.Laws.{LooksOnly, MakesNothing, ReadsOnly}
use Rattle.jedge.specs.declared.fault.Fault.{Fault}
use Rattle.jedge.specs.declared.fault.Fault.TheVariants as fault

pub same : {events other : List Event} → events ≡ other → LooksOnly other → LooksOnly events
same is looks = subst (λ (l : List Event). LooksOnly l) (sym is) looks

pub both : (xs ys : List Event) → LooksOnly xs → LooksOnly ys → LooksOnly (xs ++ ys)
both [] ys those more = more
both (x ∷ xs) ys those more = (those.0, both xs ys those.1 more)

pub opens_looks : (name : List ℕ) → MakesNothing (opens name)
opens_looks name events (Ok opened) is = same is.1 (tt, tt)
opens_looks name events (Err (fault.File file)) is = same is.1 (tt, tt)
opens_looks name events (Err (fault.NotRead file)) is = absurd is
opens_looks name events (Err (fault.NoNodes of others)) is = absurd is
opens_looks name events (Err (fault.NoSpace folder)) is = absurd is
opens_looks name events (Err (fault.Findings of findings)) is = absurd is
opens_looks name events (Err (fault.Refused why)) is = absurd is
opens_looks name events (Err fault.Output) is = absurd is
opens_looks name events (Err fault.OutOfMemory) is = same is tt

pub reads_looks : (name : List ℕ) → MakesNothing (reads_whole name)
reads_looks name events (Ok bytes) is = same is.0 (tt, tt)
reads_looks name events (Err (fault.File file)) is = absurd is
reads_looks name events (Err (fault.NotRead file)) is = same is.1.1 (tt, tt)
reads_looks name events (Err (fault.NoNodes of others)) is = absurd is
reads_looks name events (Err (fault.NoSpace folder)) is = absurd is
reads_looks name events (Err (fault.Findings of findings)) is = absurd is
reads_looks name events (Err (fault.Refused why)) is = same is.1 (tt, tt)
reads_looks name events (Err fault.Output) is = absurd is
reads_looks name events (Err fault.OutOfMemory) is = absurd is

pub region_looks : (region : Region) (names : List (List ℕ)) → MakesNothing (reads_region region names)
region_looks region names events (Ok done) did = same did (tt, tt)
region_looks region names events (Err (fault.File file)) did = absurd did
region_looks region names events (Err (fault.NotRead file)) did = absurd did
region_looks region names events (Err (fault.NoNodes of others)) did = absurd did
region_looks region names events (Err (fault.NoSpace folder)) did = absurd did
region_looks region names events (Err (fault.Findings of findings)) did = absurd did
region_looks region names events (Err (fault.Refused why)) did = absurd did
region_looks region names events (Err fault.Output) did = absurd did
region_looks region names events (Err fault.OutOfMemory) did = same did tt

pub json_looks : (lines : Lines) → MakesNothing (prints_json lines)
json_looks lines events (Ok done) did = same did (tt, tt)
json_looks lines events (Err f) did = absurd did

pub then_looks : {A B : Type 0} (first : Act A) (next : A → Act B) → MakesNothing first → ((a : A) → MakesNothing (next a)) → MakesNothing (Then first next)
then_looks first next one two events r (Ends f did is) = one events (Err f) did
then_looks first next one two events r (GoesOn a before after did more is) = same is (both before after (one before (Ok a) did) (two a after r more))

pub printed_looks : (stream : Stream) (text : List ℕ) → LooksOnly (printed stream text)
printed_looks stream [] = tt
printed_looks stream (b ∷ bytes) = (tt, tt)

pub cut_looks : (stream : Stream) (text : List ℕ) (events : List Event) → IsPrintedInPart stream text events → LooksOnly events
cut_looks stream text events cut = same cut.happened (both (printed stream cut.begun) (Failed (Print stream cut.rest) cut.reason ∷ []) (printed_looks stream cut.begun) (tt, tt))

pub closes_looks : (stream : Stream) (failures : ℕ) (text : List ℕ) → MakesNothing (closes stream failures text)
closes_looks stream failures text events (Ok _) is = same is.1 (printed_looks stream text)
closes_looks stream failures text events (Err (fault.File file)) is = absurd is
closes_looks stream failures text events (Err (fault.NotRead file)) is = absurd is
closes_looks stream failures text events (Err (fault.NoNodes of others)) is = absurd is
closes_looks stream failures text events (Err (fault.NoSpace folder)) is = absurd is
closes_looks stream failures text events (Err (fault.Findings of findings)) is = absurd is
closes_looks stream failures text events (Err (fault.Refused why)) is = absurd is
closes_looks stream failures text events (Err fault.Output) is = cut_looks stream text events is
closes_looks stream failures text events (Err fault.OutOfMemory) is = absurd is

pub prints_looks : {A : Type 0} (Says : Saying A) → MakesNothing (prints Says)
prints_looks Says events r (inl put) = closes_looks Answers put.failures put.text events put.closed put.out
prints_looks Says events r (inr none) = same none.0 tt

pub answers_looks : {A : Type 0} (Is : Result A Fault → Type 0) → MakesNothing (answers Is)
answers_looks Is events r is = same is.0 tt

pub said_looks : (text : Option (List ℕ)) (events : List Event) → IsSaidBy text events → LooksOnly events
said_looks None events is = same is tt
said_looks (Some text) events (inl is) = same is (printed_looks Errors text)
said_looks (Some text) events (inr cut) = cut_looks Errors text events cut

pub reported_looks : (act : Act Told) → MakesNothing act → MakesNothing (reported act)
reported_looks act looks events r did = same did.all (both did.work did.last (looks did.work did.answer did.worked) (said_looks did.ended.text did.last did.ended.said))

-- what is reported behind a first step makes nothing where neither does
step_looks_by : {A : Type 0} (first : Act A) (next : A → Act Told) → MakesNothing first → ((x : A) → MakesNothing (reported (next x)))
    → (events : List Event) (r : Result Outcome Fault) (work : List Event) (answer : Result Told Fault) → Then first next work answer
    → (last : List Event) → ends answer last r → events ≡ work ++ last → LooksOnly events
step_looks_by first next one two events r work answer (Ends f did is) last ended all =
    same all (both work last (one work (Err f) did) (said_looks ended.text last ended.said))
step_looks_by first next one two events r work answer (GoesOn x before after did more is) last ended all =
    same (all ∙ ap (λ (l : List Event). l ++ last) is ∙ append_assoc before after last)
    (both before (after ++ last) (one before (Ok x) did)
    (two x (after ++ last) r (record {
      answer = answer;
      work = after;
      last = last;
      worked = more;
      ended = ended;
      all = refl;
    })))

pub step_looks : {A : Type 0} (first : Act A) (next : A → Act Told) → MakesNothing first → ((x : A) → MakesNothing (reported (next x))) → MakesNothing (reported (Then first next))
step_looks first next one two events r did = step_looks_by first next one two events r did.work did.answer did.worked did.last did.ended did.all

pub loads_looks : (name : List ℕ) → MakesNothing (loads name)
loads_looks name = then_looks (opens name) reads_whole (opens_looks name) reads_looks

pub views_looks : (e : Endian) (size : ℕ) (decompress : Bool) (name : List ℕ) → MakesNothing (views e size decompress name)
views_looks e size decompress name = then_looks (loads name) _ (loads_looks name) (λ (image : List ℕ). answers_looks _)

pub check_looks : (options : Options) (shape : Bool) (name : List ℕ) → MakesNothing (check_act options shape name)
check_looks options shape name = then_looks (opens name) _ (opens_looks name) (λ (opened : List ℕ). then_looks _ _ (answers_looks _)
    (λ _. then_looks (reads_whole opened) _ (reads_looks opened) (λ (image : List ℕ). prints_looks _)))

pub list_looks : (options : Options) (decompress : Bool) (name : List ℕ) (word : Option (List ℕ)) → MakesNothing (list_act options decompress name word)
list_looks options decompress name word = then_looks _ _ (answers_looks _) (λ (part : Option (List ℕ)).
    then_looks (loads name) _ (loads_looks name) (λ (image : List ℕ). then_looks _ _ (answers_looks _) (λ (others : Option ℕ).
    then_looks _ _ (answers_looks _) (λ (m : Mount). prints_looks _))))

pub cat_looks : (options : Options) (decompress strict : Bool) (name word : List ℕ) → MakesNothing (cat_act options decompress strict name word)
cat_looks options decompress strict name word = then_looks _ _ (answers_looks _) (λ (path : List ℕ).
    then_looks (loads name) _ (loads_looks name) (λ (image : List ℕ). then_looks _ _ (answers_looks _) (λ (others : Option ℕ).
    then_looks _ _ (answers_looks _) (λ (m : Mount). prints_looks _))))

pub info_looks : (name : List ℕ) → MakesNothing (info_act name)
info_looks name = then_looks (loads name) _ (loads_looks name) (λ (image : List ℕ). then_looks _ _ (answers_looks _) (λ (spare : Option PageLayout). then_looks _ _ (answers_looks _) (λ (regions : Regions). prints_looks _)))

pub damage_looks : (options : Options) (decompress : Bool) (name : List ℕ) → MakesNothing (damage_act options decompress name)
damage_looks options decompress name = then_looks (loads name) _ (loads_looks name)
    (λ (image : List ℕ). then_looks _ _ (answers_looks _) (λ _. then_looks _ _ (answers_looks _) (λ _. prints_looks _)))

pub diff_looks : (x : Comparison (List ℕ)) → MakesNothing (diff_act x)
diff_looks x = then_looks (loads x.first) _ (loads_looks x.first) (λ (image : List ℕ).
    then_looks (loads x.second) _ (loads_looks x.second) (λ (other : List ℕ).
    then_looks _ _ (answers_looks _) (λ _. then_looks _ _ (answers_looks _) (λ _.
    then_looks _ _ (answers_looks _) (λ (both : Mount × Mount). prints_looks _)))))

pub reads_only : ReadsOnly
reads_only (Check options shape name) = reported_looks _ (check_looks options shape name)
reads_only (Ls options decompress name word) = reported_looks _ (list_looks options decompress name word)
reads_only (Cat options decompress strict name word) = reported_looks _ (cat_looks options decompress strict name word)
reads_only (Info name) = reported_looks _ (info_looks name)
reads_only (Damage options decompress name) = reported_looks _ (damage_looks options decompress name)
reads_only (Diff asked) = reported_looks _ (diff_looks asked)
