use Rattle.std.proofs.Common.{rules, ◌≡◌, ◌++◌, [], List, map, length, refl, ap, sym, subst, Option, Ok, Err}
use Rattle.std.specs.Cow.{cow_slice_items}
use Rattle.std.specs.List.Sorted.{IsStrictlySortedBy}
use Rattle.std.specs.Map.{keys_of}
use Rattle.jname.specs.declared.versions.Content.{Content}
use Rattle.jname.specs.declared.versions.Versions.{Versions}
use Rattle.jname.specs.declared.fault.NameFault.TheVariants.{Clash}
use Rattle.jname.specs.Versions.{Agrees, Differs}
use Rattle.jname.specs.ContentsByName.{Name, name_cmp, with_contents}
use Rattle.jname.specs.Few.{place_in}
use Rattle.jname.proofs.ContentsByNameLemmas.{ok_map, err_map, err_always, HasOneMore}
use Rattle.jname.proofs.FewLemmas.{place_within, lent_more, lent_same, lent_sorted, lent_content, gap_content, put_more, put_sorted, none_by_length, either_way}
use Rattle.jname.proofs.name_map.NameMap.add.Goals as goal

pub index_mut-requires : goal.index_mut-requires
index_mut-requires c =
    let at : place_in c.args.self.now.few.items (cow_slice_items c.args.name) ≡ Ok c.in-Ok.place = search rules in
    let within = place_within c.args.self.now.few.items (cow_slice_items c.args.name) c.in-Ok.place at in
    search rules

pub invariant_of-self : goal.invariant_of-self
invariant_of-self c =
    let at : place_in c.args.self.now.few.items (cow_slice_items c.args.name) ≡ Ok c.in-Ok.place = search rules in
    record { ordered = lent_sorted c.args.self.now.few.items c.args.self.now.map.entries (cow_slice_items c.args.name) c.in-Ok.place c.index_mut.result.now c.add.new.self at c.index_mut.ensures.value c.args.self.now.ordered }

pub invariant_of-self-then-is_empty : goal.invariant_of-self-then-is_empty
invariant_of-self-then-is_empty c =
    let gap : place_in c.args.self.now.few.items (cow_slice_items c.args.name) ≡ Err c.in-Err.place = search rules in
    let zero : length c.args.self.now.map.entries ≡ 0 = search rules in
    let none : c.args.self.now.map.entries ≡ [] = none_by_length c.args.self.now.map.entries zero in
    record {
      ordered = either_way c.put.result
          (ok_map c.put.result (λ is. subst (λ (es : List (Name × Versions)). IsStrictlySortedBy name_cmp (keys_of (es ++ c.args.self.now.map.entries))) (sym is)
          (put_sorted c.args.self.now.few.items c.args.self.now.map.entries (cow_slice_items c.args.name) c.in-Err.place c.args.name c.of_one.result none c.args.self.now.ordered gap refl)) c.put.ensures.ok)
          (err_map c.put.result (λ is. subst (λ (es : List (Name × Versions)). IsStrictlySortedBy name_cmp (keys_of (es ++ c.args.self.now.map.entries))) (sym is) c.args.self.now.ordered) c.put.ensures.err);
    }

pub returns-then-is_empty-clause-alone : goal.returns-then-is_empty-clause-alone
returns-then-is_empty-clause-alone c =
    let gap : place_in c.args.self.now.few.items (cow_slice_items c.args.name) ≡ Err c.in-Err.place = search rules in
    let zero : length c.args.self.now.map.entries ≡ 0 = search rules in
    let none : c.args.self.now.map.entries ≡ [] = none_by_length c.args.self.now.map.entries zero in
    ok_map c.put.result (λ _. subst (λ (o : Option Content). Agrees o c.args.content)
    (sym (gap_content c.args.self.now.few.items c.args.self.now.map.entries (cow_slice_items c.args.name) c.in-Err.place c.args.version none c.args.self.now.ordered gap)) tt) c.put.ensures.ok

pub returns-then-is_empty-clause-ok : goal.returns-then-is_empty-clause-ok
returns-then-is_empty-clause-ok c =
    let gap : place_in c.args.self.now.few.items (cow_slice_items c.args.name) ≡ Err c.in-Err.place = search rules in
    let zero : length c.args.self.now.map.entries ≡ 0 = search rules in
    let none : c.args.self.now.map.entries ≡ [] = none_by_length c.args.self.now.map.entries zero in
    ok_map c.put.result (λ is. subst (λ (es : List (Name × Versions)). HasOneMore (c.args.self.now.few.items ++ c.args.self.now.map.entries) (es ++ c.args.self.now.map.entries) (cow_slice_items c.args.name) c.args.version c.args.content) (sym is)
    (put_more c.args.self.now.few.items c.args.self.now.map.entries (cow_slice_items c.args.name) c.in-Err.place c.args.name c.of_one.result c.args.version c.args.content none c.args.self.now.ordered gap refl c.of_one.ensures)) c.put.ensures.ok

pub returns-in_err-spread-in-Err-clause-err : goal.returns-in_err-spread-in-Err-clause-err
returns-in_err-spread-in-Err-clause-err c =
    err_always c.from_residual.result (ap (λ (es : List (Name × Versions)). map with_contents es) c.spread.ensures.same)

pub returns-in-Ok-clause-clash : goal.returns-in-Ok-clause-clash
returns-in-Ok-clause-clash c = λ (refused : c.add.result ≡ Err Clash).
    let at : place_in c.args.self.now.few.items (cow_slice_items c.args.name) ≡ Ok c.in-Ok.place = search rules in
    subst (λ (o : Option Content). Differs o c.args.content)
    (sym (lent_content c.args.self.now.few.items c.args.self.now.map.entries (cow_slice_items c.args.name) c.in-Ok.place c.index_mut.result.now c.args.version at c.index_mut.ensures.value)) (c.add.ensures.clash refused)

pub returns-in-Ok-clause-alone : goal.returns-in-Ok-clause-alone
returns-in-Ok-clause-alone c =
    let at : place_in c.args.self.now.few.items (cow_slice_items c.args.name) ≡ Ok c.in-Ok.place = search rules in
    ok_map c.add.result (λ h. subst (λ (o : Option Content). Agrees o c.args.content)
    (sym (lent_content c.args.self.now.few.items c.args.self.now.map.entries (cow_slice_items c.args.name) c.in-Ok.place c.index_mut.result.now c.args.version at c.index_mut.ensures.value)) h) c.add.ensures.alone

pub returns-in-Ok-clause-ok : goal.returns-in-Ok-clause-ok
returns-in-Ok-clause-ok c =
    let at : place_in c.args.self.now.few.items (cow_slice_items c.args.name) ≡ Ok c.in-Ok.place = search rules in
    ok_map c.add.result (λ more. lent_more c.args.self.now.few.items c.args.self.now.map.entries (cow_slice_items c.args.name) c.in-Ok.place c.index_mut.result.now c.add.new.self c.args.version c.args.content at c.index_mut.ensures.value more) c.add.ensures.ok

pub returns-in-Ok-clause-err : goal.returns-in-Ok-clause-err
returns-in-Ok-clause-err c =
    let at : place_in c.args.self.now.few.items (cow_slice_items c.args.name) ≡ Ok c.in-Ok.place = search rules in
    err_map c.add.result (λ same. lent_same c.args.self.now.few.items c.args.self.now.map.entries (cow_slice_items c.args.name) c.in-Ok.place c.index_mut.result.now c.add.new.self at c.index_mut.ensures.value same) c.add.ensures.err
