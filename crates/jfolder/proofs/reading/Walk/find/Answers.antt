use Rattle.std.proofs.Common.{◌≡◌, ℕ, List, true, sym, subst, inl, inr, Result, Ok, Err}
use Rattle.std.specs.Prelude.{IfErr, IfSome}
use Rattle.jfolder.specs.Reasons.{IsAttributesWhy, IsRight, SkipsFor}
use Rattle.jfolder.specs.declared.found.Found.{Found}
use Rattle.jfolder.specs.declared.found.HostKind.TheVariants as host
use Rattle.jfolder.specs.declared.found.Options.{Options}
use Rattle.jfolder.specs.declared.found.Skip.{Skip}
use Rattle.jfolder.specs.declared.found.Skip.TheVariants as skip
use Rattle.jfolder.specs.declared.host.Looked.{Looked}
use Rattle.jfolder.specs.declared.tree.Item.{Item}
use Rattle.jfolder.specs.Known.{Known, MayAnswer, inside}
use Rattle.jfolder.specs.Links.{HasOtherNames, IsMet, id_of}
use Rattle.jfolder.specs.Objects.{AreOne, kind_bits}
use Rattle.jfolder.specs.Walking.{IsFileOf}
use Rattle.jfolder.proofs.WalkLemmas.{link_found, link_kind, link_object, told_if}
use Rattle.jfolder.proofs.LinkLemmas.{first_links, further_links, unmet_none, unmet_other}
use Rattle.jfolder.proofs.reading.Walk.find.Goals.{in-Some-first_path+in_ok-is_one+else-branch, in_default-first_path}
use Rattle.jfolder.proofs.reading.Walk.find.Goals as goal

pub returns-then-branch-clause-found : goal.returns-then-branch-clause-found
returns-then-branch-clause-found g c =
    let items = c.args.self.now.items.items in
    link_found c.args.options.now items c.link_to.result c.in_ok-from_str.field-0 c.requires.items
    c.link_to.ensures.fit c.link_to.ensures.options c.link_to.ensures.what c.link_to.ensures.names
    (subst (IsFileOf items) (sym c.in_ok-from_str.ensures.ok) c.in-Some-first_path.ensures.file)

pub returns-then-branch-clause-told : goal.returns-then-branch-clause-told
returns-then-branch-clause-told g c =
    let looked = (g.F.HostFolder.known c.args.folder.now).looked in
    told_if (looked (inside c.args.path.now)) c.args.options.now c.in_ok-looked.looked c.link_to.result
    (subst (λ (l : List ℕ). IfSome (looked l) (λ told. c.in_ok-looked.looked ≡ told)) c.in-Some.ensures.rest c.in_ok-looked.ensures.told) c.link_to.ensures.told

pub returns-then-branch-clause-kind : goal.returns-then-branch-clause-kind
returns-then-branch-clause-kind g c =
    let looked = (g.F.HostFolder.known c.args.folder.now).looked in
    link_kind (looked (inside c.args.path.now)) c.in_ok-looked.looked c.link_to.result c.in_ok-from_str.field-0
    (subst (λ (l : List ℕ). IfSome (looked l) (λ told. c.in_ok-looked.looked ≡ told)) c.in-Some.ensures.rest c.in_ok-looked.ensures.told)
    c.in-Some-first_path.ensures.kind c.link_to.ensures.what

pub returns-then-branch-clause-object : goal.returns-then-branch-clause-object
returns-then-branch-clause-object g c =
    let known = g.F.HostFolder.known c.args.folder.now in
    link_object known (inside c.args.path.now) c.in_ok-looked.looked c.link_to.result c.in_ok-from_str.field-0 c.in-Some-first_path.first.now
    (subst (λ (l : List ℕ). IfSome (known.looked l) (λ told. c.in_ok-looked.looked ≡ told)) c.in-Some.ensures.rest c.in_ok-looked.ensures.told)
    (subst (λ (k : Known). IfSome (k.looked (inside c.in-Some-first_path.first.now)) (λ told. AreOne told c.in_ok-looked.looked)) c.look.ensures.kept
    (c.in_ok-is_one.ensures.one c.if-branch.true))
    (subst (λ (k : Known). MayAnswer (k.is_told (inside c.in-Some-first_path.first.now)) true) c.look.ensures.kept (c.in_ok-is_one.ensures.seen c.if-branch.true))
    c.in_ok-from_str.ensures.ok c.link_to.ensures.what

pub returns-then-branch-clause-links : goal.returns-then-branch-clause-links
returns-then-branch-clause-links g c =
    let known = g.F.HostFolder.known c.args.folder.now in
    further_links known c.args.self.now.items.items c.args.self.now.firsts c.args.path.now c.in_ok-looked.looked c.link_to.result c.in_ok-from_str.field-0 c.in-Some-first_path.first.now c.requires.firsts
    (subst (λ (l : List ℕ). IfSome (known.looked l) (λ told. c.in_ok-looked.looked ≡ told)) c.in-Some.ensures.rest c.in_ok-looked.ensures.told)
    c.in-Some-first_path.ensures.every c.in_ok-from_str.ensures.ok c.link_to.ensures.what c.link_to.ensures.identity

pub returns-clause-links : goal.returns-clause-links
returns-clause-links g c =
    let known = g.F.HostFolder.known c.args.folder.now in
    let unmet : HasOtherNames c.in_ok-looked.looked → IsMet known c.args.self.now.items.items (id_of c.in_ok-looked.looked) → ⊥ =
    elim c.match-first_path.branch [
      | in-Some-first_path+in_ok-is_one+else-branch w ↦ unmet_other known (g.F.HostFolder.known c.look.new.folder) c.args.self.now.items.items c.args.self.now.firsts c.in_ok-looked.looked
          w.in-Some-first_path.first.now w.in_ok-is_one.field-0 c.requires.firsts c.requires.items w.in-Some-first_path.ensures.every c.look.ensures.kept
          w.in_ok-is_one.ensures.every w.if-branch.false
      | in_default-first_path w ↦ unmet_none known c.args.self.now.items.items c.args.self.now.firsts c.in_ok-looked.looked c.first_path.result (λ f. f.now) c.requires.firsts w.in_default-first_path.is c.first_path.ensures.every
    ] in
    first_links known c.args.self.now.items.items c.args.path.now c.in_ok-looked.looked c.first_found.result
    (subst (λ (l : List ℕ). IfSome (known.looked l) (λ told. c.in_ok-looked.looked ≡ told)) c.in-Some.ensures.rest c.in_ok-looked.ensures.told) c.first_found.ensures.identity unmet

-- a link is of a kind that a listing has, so what its attributes say against it is right
link_right : (known : Known) (options : Options) (items : List Item) (path : List ℕ) (told : Looked) (r : Result Found Skip) → IfSome (known.looked (inside path)) (λ k. told ≡ k)
    → kind_bits told.mode ≡ 8 → IfErr r (SkipsFor (IsAttributesWhy options told)) → IfErr r (SkipsFor (λ why. IsRight known options items (path, why)))
link_right known options items path told (Ok found) is kind why = tt
link_right known options items path told (Err (skip.LeftOut left)) is kind why = inr (inr (inr (told, is, inr (inl ((host.Regular, kind), why)))))
link_right known options items path told (Err skip.OutOfMemory) is kind why = tt

pub returns-then-branch-clause-why : goal.returns-then-branch-clause-why
returns-then-branch-clause-why g c =
    let known = g.F.HostFolder.known c.args.folder.now in
    link_right known c.args.options.now c.args.self.now.items.items c.args.path.now c.in_ok-looked.looked c.link_to.result
    (subst (λ (l : List ℕ). IfSome (known.looked l) (λ told. c.in_ok-looked.looked ≡ told)) c.in-Some.ensures.rest c.in_ok-looked.ensures.told)
    c.in-Some-first_path.ensures.kind c.link_to.ensures.why
