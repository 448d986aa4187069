use Rattle.std.proofs.Common.{rules, ◌≡◌, ℕ, ◌∙◌, ap, sym, subst, List, map, None, Some, Option}
use Rattle.std.specs.Prelude.{if◌then◌else◌, ◌==◌, IsSome}
use Rattle.std.specs.Option.{option_and_then}
use Rattle.std.specs.Ordering.{nat_cmp, is_eq}
use Rattle.std.specs.Cmp.Lexicographic.{slice_cmp}
use Rattle.std.specs.Cow.{cow_slice_items}
use Rattle.jname.specs.declared.versions.Versions.{Versions}
use Rattle.jname.specs.declared.versions.Content.{Content}
use Rattle.jname.specs.Versions.{version_at, Agrees}
use Rattle.jname.specs.ContentsByName.{Name, ByName, versions_of_name, with_contents}
use Rattle.jname.proofs.ContentsByNameLemmas.{ok_map, err_map, Replaces, content_in-replaced, content_in-none}
use Rattle.flashbase.proofs.MemberLemmas.{map-set_value}
use Rattle.jname.proofs.name_map.add_name.Goals as goal

pub returns-in-Some-clause-alone : goal.returns-in-Some-clause-alone
returns-in-Some-clause-alone c =
    let found : versions_of_name c.args.names.now.entries c.as_slice.result.now ≡ Some c.in-Some.versions.now = search rules in
    let was : versions_of_name c.args.names.now.entries (cow_slice_items c.args.name) ≡ Some c.in-Some.versions.now =
    subst (λ (bytes : List ℕ). versions_of_name c.args.names.now.entries bytes ≡ Some c.in-Some.versions.now) c.as_slice.ensures.value found in
    ok_map c.add.result (λ h. subst (λ (o : Option Versions). Agrees (option_and_then (λ (x : Versions). version_at x c.args.version) o) c.args.content) (sym was) h) c.add.ensures.alone

pub returns-in-Some-clause-ok : goal.returns-in-Some-clause-ok
returns-in-Some-clause-ok c =
    let found : versions_of_name c.args.names.now.entries c.as_slice.result.now ≡ Some c.in-Some.versions.now = search rules in
    let was : versions_of_name c.args.names.now.entries (cow_slice_items c.args.name) ≡ Some c.in-Some.versions.now =
    subst (λ (bytes : List ℕ). versions_of_name c.args.names.now.entries bytes ≡ Some c.in-Some.versions.now) c.as_slice.ensures.value found in
    let there : IsSome (versions_of_name c.args.names.now.entries c.as_slice.result.now) = search rules in
    let replaced : Replaces c.args.names.now (c.get_mut.follows.lender c.add.new.self) (cow_slice_items c.args.name) c.add.new.self =
    subst (λ (bytes : List ℕ). Replaces c.args.names.now (c.get_mut.follows.lender c.add.new.self) bytes c.add.new.self) c.as_slice.ensures.value ((c.get_mut.follows.holds c.add.new.self).3 there) in
    ok_map c.add.result (λ h. content_in-replaced c.args.names.now (c.get_mut.follows.lender c.add.new.self) (cow_slice_items c.args.name) c.add.new.self c.args.version c.args.content replaced
    (λ v. h v ∙ ap (λ (o : Option Versions). if c.args.version == v then Some c.args.content else option_and_then (λ (x : Versions). version_at x v) o) (sym was))) c.add.ensures.ok

pub returns-in-Some-clause-unchanged : goal.returns-in-Some-clause-unchanged
returns-in-Some-clause-unchanged c =
    let was : versions_of_name c.args.names.now.entries c.as_slice.result.now ≡ Some c.in-Some.versions.now = search rules in
    err_map c.add.result (λ h.
    ap (λ (es : List (Name × Versions)). map with_contents es) (c.get_mut.follows.holds c.add.new.self).0
    ∙ map-set_value with_contents (λ (k : Name). is_eq (slice_cmp nat_cmp c.as_slice.result.now (cow_slice_items k))) c.args.names.now.entries c.in-Some.versions.now c.add.new.self was (λ k. ap (λ (es : List (ℕ × Content)). (k, es)) h))
    c.add.ensures.err

pub returns-clause-ok : goal.returns-clause-ok
returns-clause-ok c =
    let unchanged : c.get_mut.follows.lender-at-none ≡ c.args.names.now = search rules in
    let absent : versions_of_name c.args.names.now.entries (cow_slice_items c.args.name) ≡ None = search rules in
    let replaced : Replaces c.args.names.now c.insert.new.self (cow_slice_items c.args.name) c.of_one.result = subst (λ (names : ByName). Replaces names c.insert.new.self (cow_slice_items c.args.name) c.of_one.result) unchanged c.in_ok-insert.ensures.updates in
    content_in-replaced c.args.names.now c.insert.new.self (cow_slice_items c.args.name) c.of_one.result c.args.version c.args.content replaced
    (λ v. c.of_one.ensures v ∙ ap (λ (o : Option Content). if c.args.version == v then Some c.args.content else o) (sym (content_in-none c.args.names.now.entries (cow_slice_items c.args.name) v absent)))
