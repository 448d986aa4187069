use Rattle.std.proofs.Common.{rules, ◌≡◌, ◌∙◌, ◌∷◌, [], ◌++◌, sym, subst, List}
use Rattle.std.specs.List.Sorted.{IsStrictlySortedBy}
use Rattle.std.specs.Map.{keys_of}
use Rattle.std.specs.BTreeMap.{insert_entry}
use Rattle.jname.specs.declared.versions.Versions.{Versions}
use Rattle.jname.specs.ContentsByName.{Name, name_cmp}
use Rattle.jname.proofs.FewLemmas.{moved}
use Rattle.jname.proofs.few.spread.Goals as goal

pub loop-name-preserved-in-Ok : goal.loop-name-preserved-in-Ok
loop-name-preserved-in-Ok c =
    let last : c.loop-name.few.items ≡ c.pop.new.self.items ++ (c.in-Some.name, c.in-Some.versions) ∷ [] = search rules in
    let sorted : IsStrictlySortedBy name_cmp (keys_of (c.loop-name.few.items ++ c.loop-name.map.entries)) =
    subst (λ (es : List (Name × Versions)). IsStrictlySortedBy name_cmp (keys_of es)) (sym c.loop-name.invariant) c.requires in
    let inserted : c.insert.new.self.entries ≡ insert_entry name_cmp c.loop-name.map.entries c.in-Some.name c.in-Some.versions = search rules in
    moved c.loop-name.few.items c.pop.new.self.items c.loop-name.map.entries c.insert.new.self.entries c.in-Some.name c.in-Some.versions last sorted inserted ∙ c.loop-name.invariant

pub loop-name-preserved-in-Ok-2 : goal.loop-name-preserved-in-Ok-2
loop-name-preserved-in-Ok-2 c =
    let last : c.loop-name.few.items ≡ c.pop.new.self.items ++ (c.in-Some.name, c.in-Some.versions) ∷ [] = search rules in
    let sorted : IsStrictlySortedBy name_cmp (keys_of (c.loop-name.few.items ++ c.loop-name.map.entries)) =
    subst (λ (es : List (Name × Versions)). IsStrictlySortedBy name_cmp (keys_of es)) (sym c.loop-name.invariant) c.requires in
    let inserted : c.insert.new.self.entries ≡ insert_entry name_cmp c.loop-name.map.entries c.in-Some.name c.in-Some.versions = search rules in
    moved c.loop-name.few.items c.pop.new.self.items c.loop-name.map.entries c.insert.new.self.entries c.in-Some.name c.in-Some.versions last sorted inserted ∙ c.loop-name.invariant

pub loop-name-preserved-in-Ok-3 : goal.loop-name-preserved-in-Ok-3
loop-name-preserved-in-Ok-3 c =
    let last : c.loop-name.few.items ≡ c.pop.new.self.items ++ (c.in-Some.name, c.in-Some.versions) ∷ [] = search rules in
    let sorted : IsStrictlySortedBy name_cmp (keys_of (c.loop-name.few.items ++ c.loop-name.map.entries)) =
    subst (λ (es : List (Name × Versions)). IsStrictlySortedBy name_cmp (keys_of es)) (sym c.loop-name.invariant) c.requires in
    let inserted : c.insert.new.self.entries ≡ insert_entry name_cmp c.loop-name.map.entries c.in-Some.name c.in-Some.versions = search rules in
    moved c.loop-name.few.items c.pop.new.self.items c.loop-name.map.entries c.insert.new.self.entries c.in-Some.name c.in-Some.versions last sorted inserted ∙ c.loop-name.invariant
