use Rattle.std.proofs.Common.{rules, ◌≡◌, ℕ, ◌∙◌, ap, sym, subst, List, map, None, Some, Option}
use Rattle.std.specs.Prelude.{if◌then◌else◌, ◌==◌, ◌&&◌, IsSome, bytes_eq}
use Rattle.std.specs.Option.{option_and_then}
use Rattle.std.specs.Ordering.{nat_cmp, eq_by_cmp}
use Rattle.std.specs.Cow.{cow_slice_items}
use Rattle.std.specs.BTreeMap.{get, Updates}
use Rattle.jname.specs.declared.apart.Apart.{Apart}
use Rattle.jname.specs.declared.directory.Directory.{Directory}
use Rattle.jname.specs.Directories.{DirectoriesByNumber, content_held, content_under}
use Rattle.jname.specs.Entries.{entries_in_directory}
use Rattle.jname.proofs.ContentsByNameLemmas.{ok_map, err_map, err_always}
use Rattle.flashbase.proofs.MemberLemmas.{map-set_value}
use Rattle.jname.proofs.EntriesLemmas.{entries_in_directory-same, entries_of-same, entries_of-unchanged}
use Rattle.jname.proofs.GainLemmas.{content_at-replaced}
use Rattle.jname.proofs.names.add_entry.Goals as goal

pub returns-in-Some-clause-ok : goal.returns-in-Some-clause-ok
returns-in-Some-clause-ok c =
    let was : get nat_cmp c.args.directories.now c.args.pino ≡ Some c.in-Some.apart.now = search rules in
    let there : IsSome (get nat_cmp c.args.directories.now c.args.pino) = search rules in
    let replaced : Updates nat_cmp c.args.directories.now (c.get_mut.follows.lender c.add.new.self) c.args.pino (Some c.add.new.self) = (c.get_mut.follows.holds c.add.new.self).3 there in
    ok_map c.add.result (λ h. content_at-replaced c.args.directories.now (c.get_mut.follows.lender c.add.new.self) c.args.pino c.add.new.self (cow_slice_items c.args.name) c.args.version c.args.content replaced
    (λ n v. h n v ∙ ap (λ (o : Option Apart). if bytes_eq (cow_slice_items c.args.name) n && c.args.version == v then Some c.args.content else option_and_then (λ (d : Apart). content_held d n v) o) (sym was))) c.add.ensures.ok

pub returns-in-Some-clause-err : goal.returns-in-Some-clause-err
returns-in-Some-clause-err c =
    let was : get nat_cmp c.args.directories.now c.args.pino ≡ Some c.in-Some.apart.now = search rules in
    err_map c.add.result (λ h. entries_of-same c.args.directories.now (c.get_mut.follows.lender c.add.new.self)
    (ap (λ (es : List (ℕ × Apart)). map entries_in_directory es) (c.get_mut.follows.holds c.add.new.self).0
    ∙ map-set_value entries_in_directory (eq_by_cmp nat_cmp c.args.pino) c.args.directories.now.entries c.in-Some.apart.now c.add.new.self was (λ k. entries_in_directory-same k c.in-Some.apart.now c.add.new.self h)))
    c.add.ensures.err

pub returns-in_err-insert-clause-err : goal.returns-in_err-insert-clause-err
returns-in_err-insert-clause-err c =
    let unchanged : c.get_mut.follows.lender-at-none ≡ c.args.directories.now = search rules in
    let same : c.insert.new.self.entries ≡ c.get_mut.follows.lender-at-none.entries = c.in_err-insert.ensures.err in
    err_always c.from_residual-in_err-insert.result
    (entries_of-unchanged c.args.directories.now c.insert.new.self (same ∙ ap (λ (m : DirectoriesByNumber). m.entries) unchanged))

pub returns-clause-ok : goal.returns-clause-ok
returns-clause-ok c =
    let unchanged : c.get_mut.follows.lender-at-none ≡ c.args.directories.now = search rules in
    let absent : get nat_cmp c.args.directories.now c.args.pino ≡ None = search rules in
    let updates : Updates nat_cmp c.args.directories.now c.insert.new.self c.args.pino (Some c.in_ok-apart.apart) =
    subst (λ (m : DirectoriesByNumber). Updates nat_cmp m c.insert.new.self c.args.pino (Some c.in_ok-apart.apart)) unchanged c.in_ok-insert.ensures.updates in
    content_at-replaced c.args.directories.now c.insert.new.self c.args.pino c.in_ok-apart.apart (cow_slice_items c.args.name) c.args.version c.args.content updates
    (λ n v. ap (λ (d : Directory). content_under d n v) c.in_ok-apart.ensures ∙ c.in_ok-directory.ensures n v
    ∙ ap (λ (o : Option Apart). if bytes_eq (cow_slice_items c.args.name) n && c.args.version == v then Some c.args.content else option_and_then (λ (d : Apart). content_held d n v) o) (sym absent))
