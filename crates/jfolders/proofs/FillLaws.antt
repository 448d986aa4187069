-- What an extraction is refused for is judged before anything is made.
use Rattle.std.proofs.Common.{◌≡◌, ◌⊎◌, ℕ, Bool, List, [], ◌∷◌, ◌++◌, Option, Some, Ok, Err, refl, sym, ap, subst, inl, inr, ◌∙◌}
use Rattle.std.specs.Prelude.{Result}
use Rattle.jmount.specs.Mount.{Mount}
use Rattle.jmount.specs.Tree.{State}
use Rattle.flashbase.specs.Sinks.{SinkChange}
use Rattle.jextract.specs.Extracts.{Extracts}
use Rattle.jextract.specs.Folders.{FolderChange, Made}
use Rattle.jextract.specs.declared.fault.ExtractFault.{ExtractFault}
use Rattle.jextract.specs.declared.fault.ExtractFault.TheVariants as extract
use Rattle.jextract.specs.declared.totals.Totals.{Totals}
use Rattle.jreport.specs.declared.reason.Reason.{Reason}
use Rattle.jedge.specs.Acts.{Act, Then, Ends, GoesOn, answers, closes_errors, loads, opens, reads_whole}
use Rattle.jedge.specs.Calls.{Event, Errors, Did, Failed, Fill, Print, printed}
use Rattle.jedge.specs.Laws.{Happened}
use Rattle.jedge.specs.declared.fault.Fault.{Fault}
use Rattle.jedge.specs.declared.fault.Fault.TheVariants as fault
use Rattle.jfolders.specs.Filling.{IsFilled, IsFillingFault, asks_to_fill, closes_filled, fillings, fills_asked, none_failed, stop_of}
use Rattle.jfolders.specs.Laws.{EndsUnfilled, FilledLast, IsFilledLast, NoneFilled}
use Rattle.jfolders.proofs.EndLemmas.{Ended, ended, filled_never}

-- nothing is made in a folder, whatever it answers
abbrev pub Unfilled : {A : Type 0} → Act A → Type 0
Unfilled {A} act = (events : List Event) (result : Result A Fault) → act events result → NoneFilled events

same : {events other : List Event} → events ≡ other → NoneFilled other → NoneFilled events
same is none = subst (λ (l : List Event). NoneFilled l) (sym is) none

happened_in : (e : Event) (xs ys : List Event) → Happened e (xs ++ ys) → Happened e xs ⊎ Happened e ys
happened_in e [] ys did = inr did
happened_in e (x ∷ xs) ys (inl is) = inl (inl is)
happened_in e (x ∷ xs) ys (inr did) = elim (happened_in e xs ys did) [
  | inl w ↦ inl (inr w)
  | inr w ↦ inr w
]

both : (xs ys : List Event) → NoneFilled xs → NoneFilled ys → NoneFilled (xs ++ ys)
both xs ys one two = λ name made did. elim (happened_in (Did (Fill name made)) xs ys did) [
  | inl w ↦ one name made w
  | inr w ↦ two name made w
]

none_last : (f : Fault) (events : List Event) → NoneFilled events → IsFilledLast f events
none_last (fault.File file) events none = none
none_last (fault.NotRead file) events none = none
none_last (fault.NoNodes of others) events none = none
none_last (fault.NoSpace folder) events none = tt
none_last (fault.Findings of findings) events none = none
none_last (fault.Refused why) events none = none
none_last fault.Output events none = tt
none_last fault.OutOfMemory events none = tt

last_after : (f : Fault) (xs ys : List Event) → NoneFilled xs → IsFilledLast f ys → IsFilledLast f (xs ++ ys)
last_after (fault.File file) xs ys none more = both xs ys none more
last_after (fault.NotRead file) xs ys none more = both xs ys none more
last_after (fault.NoNodes of others) xs ys none more = both xs ys none more
last_after (fault.NoSpace folder) xs ys none more = tt
last_after (fault.Findings of findings) xs ys none more = both xs ys none more
last_after (fault.Refused why) xs ys none more = both xs ys none more
last_after fault.Output xs ys none more = tt
last_after fault.OutOfMemory xs ys none more = tt

-- a call that is not of a folder, or that failed
one_unfilled : (e : Event) → ((name : List ℕ) (made : Made) → e ≡ Did (Fill name made) → ⊥) → NoneFilled (e ∷ [])
one_unfilled e not = λ name made did. elim did [
  | inl is ↦ not name made is
  | inr more ↦ absurd more
]

failed_unfilled : (e : Event) {call : _} {reason : Reason} → e ≡ Failed call reason → NoneFilled (e ∷ [])
failed_unfilled e is = one_unfilled e (λ name made did. cc)

opens_unfilled : (name : List ℕ) → Unfilled (opens name)
opens_unfilled name events (Ok opened) is = same is.1 (one_unfilled _ (λ n made did. cc))
opens_unfilled name events (Err (fault.File file)) is = same is.1 (one_unfilled _ (λ n made did. cc))
opens_unfilled name events (Err (fault.NotRead file)) is = absurd is
opens_unfilled name events (Err (fault.NoNodes of others)) is = absurd is
opens_unfilled name events (Err (fault.NoSpace folder)) is = absurd is
opens_unfilled name events (Err (fault.Findings of findings)) is = absurd is
opens_unfilled name events (Err (fault.Refused why)) is = absurd is
opens_unfilled name events (Err fault.Output) is = absurd is
opens_unfilled name events (Err fault.OutOfMemory) is = same is (λ n made did. did)

reads_unfilled : (name : List ℕ) → Unfilled (reads_whole name)
reads_unfilled name events (Ok bytes) is = same is.0 (one_unfilled _ (λ n made did. cc))
reads_unfilled name events (Err (fault.File file)) is = absurd is
reads_unfilled name events (Err (fault.NotRead file)) is = same is.1.1 (one_unfilled _ (λ n made did. cc))
reads_unfilled name events (Err (fault.NoNodes of others)) is = absurd is
reads_unfilled name events (Err (fault.NoSpace folder)) is = absurd is
reads_unfilled name events (Err (fault.Findings of findings)) is = absurd is
reads_unfilled name events (Err (fault.Refused why)) is = same is.1 (one_unfilled _ (λ n made did. cc))
reads_unfilled name events (Err fault.Output) is = absurd is
reads_unfilled name events (Err fault.OutOfMemory) is = absurd is

answers_unfilled : {A : Type 0} (Is : Result A Fault → Type 0) → Unfilled (answers Is)
answers_unfilled Is events result is = same is.0 (λ n made did. did)

then_unfilled : {A B : Type 0} (first : Act A) (next : A → Act B) → Unfilled first → ((a : A) → Unfilled (next a)) → Unfilled (Then first next)
then_unfilled first next one two events r (Ends f did is) = one events (Err f) did
then_unfilled first next one two events r (GoesOn a before after did more is) = same is (both before after (one before (Ok a) did) (two a after r more))

then_last : {A B : Type 0} (first : Act A) (next : A → Act B) → Unfilled first → ((a : A) → EndsUnfilled (next a)) → EndsUnfilled (Then first next)
then_last first next one two events f (Ends g did is) = none_last f events (one events (Err g) did)
then_last first next one two events f (GoesOn a before after did more is) =
    subst (λ (l : List Event). IsFilledLast f l) (sym is) (last_after f before after (one before (Ok a) did) (two a after f more))

asks_unfilled : (name : List ℕ) (quiet : Bool) → Unfilled (asks_to_fill name quiet)
asks_unfilled name quiet events r (inl w) = same w.1 (one_unfilled _ (λ n made did. cc))
asks_unfilled name quiet events r (inr w) = same w.1 (λ n made did. did)

printed_unfilled : (text : List ℕ) → NoneFilled (printed Errors text)
printed_unfilled [] = λ n made did. did
printed_unfilled (b ∷ bytes) = one_unfilled _ (λ n made did. cc)

told_unfilled : (lost : ℕ) (text : List ℕ) (events : List Event) (r : Result Unit Fault) → closes_errors lost text events r → NoneFilled events
told_unfilled lost text events r (inl w) = same w.1 (printed_unfilled text)
told_unfilled lost text events r (inr cut) = same cut.happened (both (printed Errors cut.begun) (Failed (Print Errors cut.rest) cut.reason ∷ []) (printed_unfilled cut.begun) (one_unfilled _ (λ n made did. cc)))

-- where the folder itself is refused, nothing is made
refused_unfilled : (name : List ℕ) (made : List Made) (reason : Reason) (events : List Event) (r : Result Reason Fault) → made ≡ [] → closes_filled name made (Some extract.Folder) events r → NoneFilled events
refused_unfilled name made reason events r none is =
    same (is.happened ∙ ap (λ (m : List Made). fillings name m ++ is.last) none ∙ is.ends) (one_unfilled _ (λ n of did. cc))

filled_last_by : (name : List ℕ) (reason : Reason) (why : ExtractFault) (f : Fault) (events : List Event) → IsFillingFault name reason why f → (why ≡ extract.Folder → NoneFilled events) → IsFilledLast f events
filled_last_by name reason extract.Folder f events is none = none_last f events (none refl)
filled_last_by name reason extract.Notes f events is none = subst (λ (g : Fault). IsFilledLast g events) (sym is) tt
filled_last_by name reason extract.NoSpace f events (inl w) none = subst (λ (g : Fault). IsFilledLast g events) (sym w.1) tt
filled_last_by name reason extract.NoSpace f events (inr w) none = subst (λ (g : Fault). IsFilledLast g events) (sym w) tt
filled_last_by name reason extract.OutOfMemory f events is none = subst (λ (g : Fault). IsFilledLast g events) (sym is) tt

fills_last_as : (name : List ℕ) (made : List Made) (answer : Result Totals ExtractFault) (lost : ℕ) (text : List ℕ) (events : List Event) (f : Fault) → (answer ≡ Err extract.Folder → made ≡ [])
    → Ended (closes_filled name made (stop_of answer)) lost text (λ reason. IsFilled name reason answer) events (Err f) → IsFilledLast f events
fills_last_as name made (Ok totals) lost text events f none end = let no : ⊥ = cc in absurd no
fills_last_as name made (Err extract.Folder) lost text events f none end =
    none_last f events (same end.happened (both end.work end.said (refused_unfilled name made end.answer end.work (Ok end.answer) (none refl) end.closed) (told_unfilled lost text end.said end.rest end.told)))
fills_last_as name made (Err extract.Notes) lost text events f none end = let is : f ≡ fault.Output = cc in subst (λ (g : Fault). IsFilledLast g events) (sym is) tt
fills_last_as name made (Err extract.NoSpace) lost text events f none end =
    let it = end.is in
    let alike : f ≡ it.0 = cc in
    filled_last_by name end.answer extract.NoSpace f events (subst (λ (g : Fault). IsFillingFault name end.answer extract.NoSpace g) (sym alike) it.2) (λ no. cc)
fills_last_as name made (Err extract.OutOfMemory) lost text events f none end = let is : f ≡ fault.OutOfMemory = cc in subst (λ (g : Fault). IsFilledLast g events) (sym is) tt

unmade_folder : (name : List ℕ) (owners : Bool) (s : State) (events : List Event) (r : Result Totals Fault) (did : fills_asked name owners s events r) → did.answer ≡ Err extract.Folder → did.made ≡ []
unmade_folder name owners s events r did is =
    let folder : FolderChange = record { old = Some []; new = Some did.made; before = none_failed; now = did.failures } in
    let notes : SinkChange = record { old = Some []; new = Some did.text; before = 0; now = did.lost } in
    let extracts : Extracts s owners folder notes (Err extract.Folder) = subst (λ (a : Result Totals ExtractFault). Extracts s owners folder notes a) is did.extracts in
    extracts.0

fills_last : (name : List ℕ) (owners : Bool) (s : State) → EndsUnfilled (fills_asked name owners s)
fills_last name owners s events f did = fills_last_as name did.made did.answer did.lost did.text events f (unmade_folder name owners s events (Err f) did)
    (ended _ did.lost did.text (λ reason. IsFilled name reason did.answer) events (Err f) (filled_never name did.made (stop_of did.answer)) did.ends)

loads_unfilled : (name : List ℕ) → Unfilled (loads name)
loads_unfilled name = then_unfilled (opens name) reads_whole (opens_unfilled name) reads_unfilled

answers_last : {A : Type 0} (Is : Result A Fault → Type 0) → EndsUnfilled (answers Is)
answers_last Is events f is = none_last f events (answers_unfilled Is events (Err f) is)

-- what is told of the totals comes to no fault
answered_never : {A : Type 0} (told : A) (events : List Event) (f : Fault) → answers (λ (result : Result A Fault). result ≡ Ok told) events (Err f) → ⊥
answered_never told events f is = cc

filled_then_last : {A : Type 0} (first : Act Totals) (told : Totals → A) → EndsUnfilled first → EndsUnfilled (Then first (λ totals. answers (λ result. result ≡ Ok (told totals))))
filled_then_last first told one events f (Ends g did is) = let alike : f ≡ g = cc in subst (λ (h : Fault). IsFilledLast h events) (sym alike) (one events g did)
filled_then_last first told one events f (GoesOn a before after did more is) = absurd (answered_never (told a) after f more)

pub filled_last : FilledLast
filled_last x = then_last _ _ (answers_unfilled _) (λ (part : Option (List ℕ)).
    then_last _ _ (loads_unfilled x.image) (λ (image : List ℕ). then_last _ _ (answers_unfilled _) (λ _.
    then_last _ _ (answers_unfilled _) (λ (m : Mount).
    then_last _ _ (answers_unfilled _) (λ (s : State).
    filled_then_last _ _ (then_last _ _ (asks_unfilled x.folder x.quiet) (λ _. fills_last x.folder x.owners s)))))))
