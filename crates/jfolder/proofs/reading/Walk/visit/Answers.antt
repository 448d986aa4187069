use Rattle.std.proofs.Common.{◌≡◌, ◌++◌, ◌∷◌, [], true, ℕ, List, Err, refl, subst, sym}
use Rattle.std.specs.Prelude.{IfOk, IfSome, IsPermutation}
use Rattle.std.specs.List.{All}
use Rattle.std.specs.String.{string_bytes}
use Rattle.jfolder.specs.Actions.{IsRooted}
use Rattle.jfolder.specs.Complete.{StaysCovered, NamesFit, children_of, left_paths}
use Rattle.jfolder.specs.Known.{inside}
use Rattle.jfolder.specs.Links.{LinksFit}
use Rattle.jfolder.specs.Objects.{HasObject, IsOfKind}
use Rattle.jfolder.specs.Reasons.{IsRight, IsUnlistedIn, SkipsFor}
use Rattle.jfolder.specs.declared.found.Skip.TheVariants as skip
use Rattle.jfolder.specs.WalkOrder.{IsInTurn}
use Rattle.jfolder.specs.Walking.{IsToldAt, comes_next, item_of}
use Rattle.jfolder.proofs.CompleteLemmas.{goes_on, leaves_out, texts}
use Rattle.jfolder.proofs.LinkLemmas.{links_go_on, links_stay}
use Rattle.jfolder.specs.SoFar.{LeadsOn, SomeUnlistedIn}
use Rattle.jfolder.specs.declared.fault.ReadFault.TheVariants as ReadFault
use Rattle.jfolder.proofs.NoteLemmas.{tells_as, tells_no_more}
use Rattle.jfolder.proofs.SoFarLemmas.{leads_into, leads_past_as, stays}
use Rattle.jfolder.proofs.ReasonLemmas.{all_unlisted_right, grown, left_as, not_grown}
use Rattle.jfolder.proofs.WalkLemmas.{walk_goes_on}
use Rattle.jfolder.proofs.WalkOrderLemmas.{next_in_turn, order_left}
use Rattle.jfolder.proofs.reading.Walk.visit.Goals as goal

pub returns-in-Ok-clause-fits : goal.returns-in-Ok-clause-fits
returns-in-Ok-clause-fits g c =
    let old = c.args.self.now in
    let known = g.F.HostFolder.known c.args.folder.now in
    walk_goes_on known c.args.options.now old.items.items c.add.new.self.items.items c.args.path c.in-Ok.found old.pending.items c.add.new.self.pending.items c.add.result
    c.requires.fits c.in-Ok.ensures.found (subst IsRooted c.as_str.ensures.value c.in-Ok.ensures.rooted)
    (subst (λ (l : List ℕ). comes_next old.items.items l ≡ true) c.as_str.ensures.value c.in-Ok.ensures.next)
    c.requires.path
    (subst (λ (l : List ℕ). IsToldAt known.looked c.args.options.now (inside l) c.in-Ok.found.attributes) c.as_str.ensures.value c.in-Ok.ensures.told)
    (record {
      kind = subst (λ (l : List ℕ). IfSome (known.looked (inside l)) (λ told. IsOfKind told c.in-Ok.found.what)) c.as_str.ensures.value c.in-Ok.ensures.kind;
      object = subst (λ (l : List ℕ). HasObject known (inside l) c.in-Ok.found.what) c.as_str.ensures.value c.in-Ok.ensures.object;
    })
    c.add.ensures.items c.add.ensures.pending

pub returns-in-Ok-clause-told : goal.returns-in-Ok-clause-told
returns-in-Ok-clause-told g c =
    let old = c.args.self.now in
    let known = g.F.HostFolder.known c.args.folder.now in
    let names : NamesFit (known.names (inside (string_bytes c.args.path))) c.in-Ok.found.what c.in-Ok.found.names =
    subst (λ (l : List ℕ). NamesFit (known.names (inside l)) c.in-Ok.found.what c.in-Ok.found.names) c.as_str.ensures.value c.in-Ok.ensures.names in
    tells_as (λ _ lefts. IsPermutation (children_of (string_bytes c.args.path) c.in-Ok.found.names ++ texts old.pending.items) (texts c.add.new.self.pending.items ++ left_paths lefts)
    × All (IsUnlistedIn (string_bytes c.args.path) c.in-Ok.found.names) lefts)
    (λ _ lefts. StaysCovered known old.items.items (texts old.pending.items ++ string_bytes c.args.path ∷ []) c.add.new.self.items.items (texts c.add.new.self.pending.items) lefts
    × All (IsRight known c.args.options.now c.add.new.self.items.items) lefts)
    (SomeUnlistedIn (string_bytes c.args.path) c.in-Ok.found.names) (LeadsOn known c.args.options.now old.items.items (texts old.pending.items ++ string_bytes c.args.path ∷ []))
    (g.N.Sink.taken c.args.notes.now) (g.N.Sink.taken c.add.new.notes) (g.N.Sink.failures c.args.notes.now) (g.N.Sink.failures c.add.new.notes)
    old.left_out c.add.new.self.left_out c.add.result
    (λ v lefts is moved. (
      goes_on known old.items.items c.add.new.self.items.items c.args.path c.in-Ok.found (texts old.pending.items) (texts c.add.new.self.pending.items) lefts
          (subst (λ r. IfOk r (λ _. c.add.new.self.items.items ≡ old.items.items ++ item_of c.args.path c.in-Ok.found ∷ [])) is c.add.ensures.items) names moved.0,
      all_unlisted_right known c.args.options.now c.add.new.self.items.items (string_bytes c.args.path) c.in-Ok.found.what c.in-Ok.found.names lefts names moved.1,
    ))
    (λ lefts some. leads_into known c.args.options.now old.items.items c.args.path c.in-Ok.found (texts old.pending.items) lefts names
    (subst (λ (l : List ℕ). IsToldAt known.looked c.args.options.now (inside l) c.in-Ok.found.attributes) c.as_str.ensures.value c.in-Ok.ensures.told)
    (record {
      kind = subst (λ (l : List ℕ). IfSome (known.looked (inside l)) (λ told. IsOfKind told c.in-Ok.found.what)) c.as_str.ensures.value c.in-Ok.ensures.kind;
      object = subst (λ (l : List ℕ). HasObject known (inside l) c.in-Ok.found.what) c.as_str.ensures.value c.in-Ok.ensures.object;
    }) some)
    c.add.ensures.told

pub returns-in-Err-LeftOut-clause-told : goal.returns-in-Err-LeftOut-clause-told
returns-in-Err-LeftOut-clause-told g c =
    let old = c.args.self.now in
    let known = g.F.HostFolder.known c.args.folder.now in
    let is : c.in-Err-LeftOut.field-0 ≡ skip.LeftOut c.in-Err-LeftOut.reason = cc in
    let right : IsRight known c.args.options.now old.items.items (c.as_str.result.now, c.in-Err-LeftOut.reason) =
    subst (SkipsFor (λ why. IsRight known c.args.options.now old.items.items (c.as_str.result.now, why))) is c.in-Err-LeftOut.ensures.why in
    tells_as _ (λ _ lefts. StaysCovered known old.items.items (texts old.pending.items ++ string_bytes c.args.path ∷ []) old.items.items (texts old.pending.items) lefts
    × All (IsRight known c.args.options.now old.items.items) lefts)
    _ (LeadsOn known c.args.options.now old.items.items (texts old.pending.items ++ string_bytes c.args.path ∷ []))
    (g.N.Sink.taken c.args.notes.now) (g.N.Sink.taken c.leave_out.new.notes) (g.N.Sink.failures c.args.notes.now) (g.N.Sink.failures c.leave_out.new.notes)
    old.left_out c.leave_out.new.count c.leave_out.result
    (λ v lefts is these. (
      leaves_out known old.items.items (texts old.pending.items) (string_bytes c.args.path) c.as_bytes.result.now _ lefts c.as_bytes.ensures.value these,
      left_as known c.args.options.now old.items.items (string_bytes c.args.path) c.as_bytes.result.now c.in-Err-LeftOut.reason _ lefts these c.as_bytes.ensures.value (cc)
          (subst (λ (l : List ℕ). IsRight known c.args.options.now old.items.items (l, c.in-Err-LeftOut.reason)) c.as_str.ensures.value right),
    ))
    (λ lefts these. leads_past_as known c.args.options.now old.items.items (texts old.pending.items) (string_bytes c.args.path) c.as_bytes.result.now c.in-Err-LeftOut.reason _ lefts c.as_bytes.ensures.value these
    (cc) (subst (λ (l : List ℕ). IsRight known c.args.options.now old.items.items (l, c.in-Err-LeftOut.reason)) c.as_str.ensures.value right))
    c.leave_out.ensures

pub returns-clause-told : goal.returns-clause-told
returns-clause-told g c =
    let old = c.args.self.now in
    let known = g.F.HostFolder.known c.args.folder.now in
    let pending = texts old.pending.items ++ string_bytes c.args.path ∷ [] in
    tells_no_more (Unit {0}) (λ _ _. Unit {0}) (LeadsOn known c.args.options.now old.items.items pending) (g.N.Sink.taken c.args.notes.now) (g.N.Sink.failures c.args.notes.now) old.left_out old.left_out
    (Err ReadFault.OutOfMemory) refl (stays known c.args.options.now old.items.items pending)

pub returns-in-Ok-clause-more : goal.returns-in-Ok-clause-more
returns-in-Ok-clause-more g c =
    grown c.add.result c.args.self.now.items.items c.add.new.self.items.items (item_of c.args.path c.in-Ok.found) c.add.ensures.items

pub returns-in-Err-LeftOut-clause-more : goal.returns-in-Err-LeftOut-clause-more
returns-in-Err-LeftOut-clause-more g c = not_grown c.leave_out.result c.args.self.now.items.items

pub returns-in-Ok-clause-links : goal.returns-in-Ok-clause-links
returns-in-Ok-clause-links g c =
    let old = c.args.self.now in
    let known = g.F.HostFolder.known c.args.folder.now in
    links_go_on known old.items.items c.add.new.self.items.items c.args.path c.in-Ok.found old.firsts c.add.new.self.firsts c.add.result c.requires.links
    (subst (λ (l : List ℕ). LinksFit known old.items.items l c.in-Ok.found) c.as_str.ensures.value c.in-Ok.ensures.links) c.add.ensures.items c.add.ensures.firsts

pub returns-in-Err-LeftOut-clause-links : goal.returns-in-Err-LeftOut-clause-links
returns-in-Err-LeftOut-clause-links g c =
    links_stay (g.F.HostFolder.known c.args.folder.now) c.args.self.now.items.items c.args.self.now.firsts c.leave_out.result c.requires.links

pub find-requires-clause-order : goal.find-requires-clause-order
find-requires-clause-order g c =
    let old = c.args.self.now in
    subst (IsInTurn old.items.items) (sym c.as_str.ensures.value) (next_in_turn old.items.items (texts old.pending.items) (string_bytes c.args.path) c.requires.order)

pub add-requires-clause-next : goal.add-requires-clause-next
add-requires-clause-next g c = subst (λ (l : List ℕ). comes_next c.args.self.now.items.items l ≡ true) c.as_str.ensures.value c.in-Ok.ensures.next

pub returns-in-Err-LeftOut-clause-order : goal.returns-in-Err-LeftOut-clause-order
returns-in-Err-LeftOut-clause-order g c =
    let old = c.args.self.now in
    order_left c.leave_out.result old.items.items (texts old.pending.items) (string_bytes c.args.path) c.requires.order
