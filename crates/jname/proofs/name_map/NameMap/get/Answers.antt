use Rattle.std.proofs.Common.{rules, ◌≡◌, ◌∙◌, ap, sym, Ok, Err, Some}
use Rattle.jname.specs.declared.versions.Versions.{Versions}
use Rattle.jname.specs.ContentsByName.{Name}
use Rattle.jname.specs.Few.{place_in}
use Rattle.jname.proofs.FewLemmas.{place_within, found_at, absent, behind}
use Rattle.jname.proofs.name_map.NameMap.get.Goals as goal

pub index-requires : goal.index-requires
index-requires c =
    let at : place_in c.args.self.now.few.items c.args.name.now ≡ Ok c.in-Ok.place = search rules in
    let within = place_within c.args.self.now.few.items c.args.name.now c.in-Ok.place at in
    search rules

pub returns-in-Ok : goal.returns-in-Ok
returns-in-Ok c =
    let at : place_in c.args.self.now.few.items c.args.name.now ≡ Ok c.in-Ok.place = search rules in
    ap (λ (e : Name × Versions). Some e.1) c.index.ensures
    ∙ sym (found_at c.args.self.now.few.items c.args.self.now.map.entries c.args.name.now c.in-Ok.place c.index.result.now at)

pub returns-in-Err : goal.returns-in-Err
returns-in-Err c =
    let gap : place_in c.args.self.now.few.items c.args.name.now ≡ Err c.in-Err.field-0 = search rules in
    c.get.ensures.value
    ∙ sym (behind c.args.self.now.few.items c.args.self.now.map.entries c.args.name.now
    (absent c.args.self.now.few.items c.args.self.now.map.entries c.args.name.now c.in-Err.field-0 c.args.self.now.ordered gap))
