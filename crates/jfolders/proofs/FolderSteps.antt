-- How the work on a folder goes together: the calls on it, and what standard error is told.
use Rattle.std.proofs.Common.{◌≡◌, ℕ, Bool, List, [], ◌∷◌, Option, Some, Ok, Err, inl, inr, refl, sym, subst}
use Rattle.std.specs.Prelude.{All, IfOk, IfSome, Result, map}
use Rattle.flashbase.specs.Sinks.{SinkChange}
use Rattle.jmount.specs.Tree.{State}
use Rattle.jextract.specs.Extracts.{Extracts}
use Rattle.jextract.specs.Folders.{Failures, FolderChange, Made}
use Rattle.jextract.specs.declared.fault.ExtractFault.{ExtractFault}
use Rattle.jextract.specs.declared.totals.Totals.{Totals}
use Rattle.jfolder.specs.Actions.{FitsListing}
use Rattle.jfolder.specs.Known.{Known}
use Rattle.jfolder.specs.Links.{AreLinked}
use Rattle.jfolder.specs.Notes.{Tells}
use Rattle.jfolder.specs.Objects.{IsObjectTold}
use Rattle.jfolder.specs.Trees.{IsTree, Rise}
use Rattle.jfolder.specs.Walking.{HasOptions, IsItemTold, IsToldAt}
use Rattle.jfolder.specs.declared.fault.ReadFault.{ReadFault}
use Rattle.jfolder.specs.declared.found.Options.{Options}
use Rattle.jfolder.specs.declared.reading.FolderTree.{FolderTree}
use Rattle.jreport.specs.declared.reason.Reason.{Reason}
use Rattle.jedge.specs.Acts.{Act, DoesFrom, Then, answers, closes_errors}
use Rattle.jedge.specs.Calls.{Event}
use Rattle.jedge.specs.declared.fault.Fault.{Fault}
use Rattle.jedge.proofs.Steps.{answered, mapped, then_ok}
use Rattle.jfolders.specs.Filling.{IsFilled, IsFillingFault, asks_to_fill, closes_filled, fills_asked, none_failed, stop_of, closes_notes}
use Rattle.jfolders.specs.Keeping.{IsKeptAs, closes_whole, keeps_through}
use Rattle.jfolders.specs.Reading.{IsListableTree, IsReadAs, IsFolderReadFault, closes_read, looks_through}
use Rattle.jfolders.specs.declared.host.Closed.{Closed}
use Rattle.jfolders.specs.declared.keeping.Listed.{Listed}
use Rattle.jfolders.proofs.KnownLemmas.{History, filling_known, notes_known, still_known}

-- why the work on a folder ended
pub read_failed : (name : List ℕ) (reason : Reason) (answer : Result FolderTree ReadFault) (why : ReadFault) (f : Fault) → answer ≡ Err why → IsFolderReadFault name reason why f → IsReadAs name reason answer (Err f)
read_failed name reason answer why f is of = subst (λ (a : Result FolderTree ReadFault). IsReadAs name reason a (Err f)) (sym is) (f, refl, of)

pub keeping_failed : (name : List ℕ) (closed : Closed) (answer : Result FolderTree ReadFault) (why : ReadFault) (f : Fault) → answer ≡ Err why → IsFolderReadFault name closed.reason why f → IsKeptAs name answer closed (Err f)
keeping_failed name closed answer why f is of = subst (λ (a : Result FolderTree ReadFault). IsKeptAs name a closed (Err f)) (sym is) (f, refl, of)

pub filling_failed : (name : List ℕ) (reason : Reason) (answer : Result Totals ExtractFault) (why : ExtractFault) (f : Fault) → answer ≡ Err why → IsFillingFault name reason why f → IsFilled name reason answer (Err f)
filling_failed name reason answer why f is of = subst (λ (a : Result Totals ExtractFault). IsFilled name reason a (Err f)) (sym is) (f, refl, of)

-- a folder that was read is listable
pub listable : (known : Known) (options : Options) (answer : Result FolderTree ReadFault)
    → IfOk answer (λ tree. FitsListing tree.root tree.items.items) → IfOk answer (λ tree. IsTree tree.items.items) → IfOk answer (λ tree. Rise tree.items.items)
    → IfOk answer (λ tree. All (HasOptions options) (tree.root ∷ map (λ item. item.attributes) tree.items.items))
    → IfOk answer (λ tree. IsToldAt known.looked options [] tree.root) → IfOk answer (λ tree. All (IsItemTold known.looked options) tree.items.items)
    → IfOk answer (λ tree. All (IsObjectTold known) tree.items.items) → IfOk answer (λ tree. AreLinked known tree.items.items)
    → IfOk answer (IsListableTree known options)
listable known options (Ok tree) fits is_tree rises held root told objects links =
    record { fits = fits; is_tree = is_tree; rises = rises; options_hold = held; root_told = root; told = told; objects = objects; links = links }
listable known options (Err why) fits is_tree rises held root told objects links = tt

-- standard error has its lines, and the command goes on
told_on : {old new : History} {failures : ℕ} {text : List ℕ} {x : Unit} → DoesFrom old new (closes_errors failures text) (Ok x) → DoesFrom old new (closes_notes failures text) (Ok x)
told_on done = mapped (λ (events : List Event) did. (refl, did)) done

-- a folder was looked through, is given back, and standard error has its lines
pub looked_done : {h0 h1 h2 h3 : History} {name : List ℕ} {options : Options} {known : Known} (notes : SinkChange) (answer : Result FolderTree ReadFault) {why : Option ReadFault} {reason : Reason} {x : Unit} {result : Result FolderTree Fault}
    → h1 ≡ h0 → notes.before ≡ 0 → IfSome h0 (λ _. notes.old ≡ Some []) → IfOk answer (IsListableTree known options) → Tells known options notes answer → why ≡ stop_of answer
    → DoesFrom h1 h2 (closes_read name why) (Ok reason)
    → ((text : List ℕ) → IfSome h2 (λ _. notes.new ≡ Some text) → DoesFrom h2 h3 (closes_errors notes.now text) (Ok x))
    → IsReadAs name reason answer result
    → DoesFrom h0 h3 (looks_through name options known) result
looked_done {h0} {h1} {h2} {h3} {name} {options} {known} notes answer {why} {reason} {x} {result} same none fresh listable tells is closes ends comes =
    let noted = notes_known h0 known options notes answer none fresh tells in
    let text : List ℕ = noted.0 in
    let said : IfSome h1 (λ _. notes.new ≡ Some text) = subst (λ (h : History). IfSome h (λ _. notes.new ≡ Some text)) (sym same) noted.2 in
    let last = told_on (ends text (still_known h1 (notes.new ≡ Some text) closes said)) in
    let act : Option ReadFault → Act FolderTree = λ (w : Option ReadFault). Then (closes_read name w) (λ reason. Then (closes_notes notes.now text) (λ _. answers (IsReadAs name reason answer))) in
    let all : DoesFrom h1 h3 (act why) result = then_ok closes (then_ok last (answered comes)) in
    mapped (λ (events : List Event) did. record {
      text = text;
      lost = notes.now;
      answer = answer;
      listable = listable;
      tells = noted.1;
      ends = subst (λ (w : Option ReadFault). act w events result) is did;
    }) (subst (λ (h : History). DoesFrom h h3 (act why) result) same all)

-- the same of one whose files are kept
pub kept_done : {h0 h1 h2 h3 : History} {name : List ℕ} {options : Options} {known : Known} (notes : SinkChange) (answer : Result FolderTree ReadFault) {why : Option ReadFault} {closed : Closed} {x : Unit} {result : Result Listed Fault}
    → h1 ≡ h0 → notes.before ≡ 0 → IfSome h0 (λ _. notes.old ≡ Some []) → IfOk answer (IsListableTree known options) → Tells known options notes answer → why ≡ stop_of answer
    → DoesFrom h1 h2 (closes_whole name why) (Ok closed)
    → ((text : List ℕ) → IfSome h2 (λ _. notes.new ≡ Some text) → DoesFrom h2 h3 (closes_errors notes.now text) (Ok x))
    → IsKeptAs name answer closed result
    → DoesFrom h0 h3 (keeps_through name options known) result
kept_done {h0} {h1} {h2} {h3} {name} {options} {known} notes answer {why} {closed} {x} {result} same none fresh listable tells is closes ends comes =
    let noted = notes_known h0 known options notes answer none fresh tells in
    let text : List ℕ = noted.0 in
    let said : IfSome h1 (λ _. notes.new ≡ Some text) = subst (λ (h : History). IfSome h (λ _. notes.new ≡ Some text)) (sym same) noted.2 in
    let last = told_on (ends text (still_known h1 (notes.new ≡ Some text) closes said)) in
    let act : Option ReadFault → Act Listed = λ (w : Option ReadFault). Then (closes_whole name w) (λ closed. Then (closes_notes notes.now text) (λ _. answers (IsKeptAs name answer closed))) in
    let all : DoesFrom h1 h3 (act why) result = then_ok closes (then_ok last (answered comes)) in
    mapped (λ (events : List Event) did. record {
      text = text;
      lost = notes.now;
      answer = answer;
      listable = listable;
      tells = noted.1;
      ends = subst (λ (w : Option ReadFault). act w events result) is did;
    }) (subst (λ (h : History). DoesFrom h h3 (act why) result) same all)

-- a folder was filled, is given back, and standard error has its lines
pub filled_done : {h0 h1 h2 h3 : History} {name : List ℕ} {owners : Bool} {s : State} (folder : FolderChange) (notes : SinkChange) (answer : Result Totals ExtractFault) {why : Option ExtractFault} {reason : Reason} {x : Unit} {result : Result Totals Fault}
    → h1 ≡ h0 → folder.before ≡ none_failed → IfSome h0 (λ _. folder.old ≡ Some []) → notes.before ≡ 0 → IfSome h0 (λ _. notes.old ≡ Some [])
    → Extracts s owners folder notes answer → why ≡ stop_of answer
    → ((made : List Made) → IfSome h1 (λ _. folder.new ≡ Some made) → DoesFrom h1 h2 (closes_filled name made why) (Ok reason))
    → ((text : List ℕ) → IfSome h2 (λ _. notes.new ≡ Some text) → DoesFrom h2 h3 (closes_errors notes.now text) (Ok x))
    → IsFilled name reason answer result
    → DoesFrom h0 h3 (fills_asked name owners s) result
filled_done {h0} {h1} {h2} {h3} {name} {owners} {s} folder notes answer {why} {reason} {x} {result} same sound unmade none unsaid extracts is closes ends comes =
    let filled = filling_known h0 s owners folder notes answer unmade unsaid sound none extracts in
    let made : List Made = filled.0 in
    let text : List ℕ = filled.1 in
    let first = closes made (subst (λ (h : History). IfSome h (λ _. folder.new ≡ Some made)) (sym same) filled.3) in
    let said : IfSome h1 (λ _. notes.new ≡ Some text) = subst (λ (h : History). IfSome h (λ _. notes.new ≡ Some text)) (sym same) filled.4 in
    let last = told_on (ends text (still_known h1 (notes.new ≡ Some text) first said)) in
    let act : Option ExtractFault → Act Totals = λ (w : Option ExtractFault). Then (closes_filled name made w) (λ reason. Then (closes_notes notes.now text) (λ _. answers (IsFilled name reason answer))) in
    let all : DoesFrom h1 h3 (act why) result = then_ok first (then_ok last (answered comes)) in
    mapped (λ (events : List Event) did. record {
      made = made;
      failures = folder.now;
      text = text;
      lost = notes.now;
      answer = answer;
      extracts = filled.2;
      ends = subst (λ (w : Option ExtractFault). act w events result) is did;
    }) (subst (λ (h : History). DoesFrom h h3 (act why) result) same all)

-- a folder that is to be filled refused nothing yet
pub asked_sound : {old new : History} {name : List ℕ} {quiet : Bool} {failures : Failures} → DoesFrom old new (asks_to_fill name quiet) (Ok failures) → failures ≡ none_failed
asked_sound done = elim done.acts [
  | inl w ↦ cc
  | inr w ↦ let no : ⊥ = cc in absurd no
]
