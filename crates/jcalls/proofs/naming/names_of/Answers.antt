use Rattle.std.proofs.Common.{◌≡◌, ℕ, List, [], ◌∷◌, ◌∙◌, rules, subst, sym}
use Rattle.jmount.specs.Tree.{all_entries}
use Rattle.jcalls.proofs.TreeLemmas.{AreAdded, added_begins, added_goes_on, added_rows, added_bytes}
use Rattle.jcalls.proofs.naming.names_of.Goals as goal

pub loop-directory-init : goal.loop-directory-init
loop-directory-init c =
    let s = c.args.mounted.now.state in
    let all : c.into_iter-directory-iterator.result ≡ all_entries s = c.into_iter-directory-iterator.ensures.into_iter_gives ∙ c.names-directory-items.ensures in
    record {
      can = tt;
      finite = tt;
      added = subst (λ (left : List (ℕ × List ℕ × ℕ)). AreAdded s (all_entries s) left c.new.result.items c.new-2.result.items) (sym all)
          (added_begins s (all_entries s) c.new.result.items c.new-2.result.items c.new.ensures.items c.new-2.ensures.items);
    }

pub loop-directory-preserved : goal.loop-directory-preserved
loop-directory-preserved c =
    let s = c.args.mounted.now.state in
    let is : c.loop-directory.directory-iterator ≡ (c.in-Some.directory, c.in-Some.name.now, c.in-Some.number) ∷ c.next.new.self = search rules in
    record {
      can = tt;
      finite = tt;
      added = added_goes_on s (all_entries s) c.next.new.self (c.in-Some.directory, c.in-Some.name.now, c.in-Some.number) c.loop-directory.names.rows.items _ c.loop-directory.names.bytes.items _
          (subst (λ (left : List (ℕ × List ℕ × ℕ)). AreAdded s (all_entries s) left c.loop-directory.names.rows.items c.loop-directory.names.bytes.items) is c.loop-directory.invariant.added)
          c.in_ok-add.ensures.rows c.in_ok-add.ensures.bytes;
    }

pub returns-clause-rows : goal.returns-clause-rows
returns-clause-rows c =
    let s = c.args.mounted.now.state in
    let none : c.loop-directory.directory-iterator ≡ [] = search rules in
    added_rows s (all_entries s) _ c.loop-directory.names.bytes.items
    (subst (λ (left : List (ℕ × List ℕ × ℕ)). AreAdded s (all_entries s) left c.loop-directory.names.rows.items c.loop-directory.names.bytes.items) none c.loop-directory.invariant.added)

pub returns-clause-bytes : goal.returns-clause-bytes
returns-clause-bytes c =
    let s = c.args.mounted.now.state in
    let none : c.loop-directory.directory-iterator ≡ [] = search rules in
    added_bytes s (all_entries s) c.loop-directory.names.rows.items _
    (subst (λ (left : List (ℕ × List ℕ × ℕ)). AreAdded s (all_entries s) left c.loop-directory.names.rows.items c.loop-directory.names.bytes.items) none c.loop-directory.invariant.added)
