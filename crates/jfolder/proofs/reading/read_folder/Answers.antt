use Rattle.std.proofs.Common.{◌≡◌, ◌∙◌, ◌++◌, ◌∷◌, [], List, ℕ, Err, Some, ap, arith, inl, inr, refl, reverse, subst, sym}
use Rattle.std.specs.Prelude.{IsPermutation, String, Vec}
use Rattle.std.specs.List.{All}
use Rattle.std.specs.String.{string_bytes}
use Rattle.std.proofs.lemmas.List.Elements.{All-append}
use Rattle.std.specs.declared.alloc.Global.{Global}
use Rattle.std.proofs.lemmas.Result.{err_from_is_err_and}
use Rattle.jfolder.specs.Complete.{StaysCovered, LeftOut, children, left_paths}
use Rattle.jfolder.specs.Known.{Known, named_of}
use Rattle.jfolder.specs.Links.{WalkLinks}
use Rattle.jfolder.specs.Reasons.{IsRight, IsUnlisted}
use Rattle.jfolder.specs.Walking.{WalkFits}
use Rattle.jfolder.specs.declared.found.Options.{Options}
use Rattle.jfolder.specs.declared.tree.Item.{Item}
use Rattle.jfolder.proofs.CompleteLemmas.{Reaches, covers_root, reaches_all, reaches_on, texts}
use Rattle.jfolder.proofs.LinkLemmas.{links_start}
use Rattle.jfolder.proofs.WalkLemmas.{all_have_options, popped, walk_starts}
use Rattle.std.proofs.KnownBytes.{Appends-nil}
use Rattle.std.proofs.lemmas.List.{map-append}
use Rattle.jfolder.specs.SoFar.{IsBeginning, HasReached, LeadsOn, SomeUnlisted}
use Rattle.jfolder.specs.declared.fault.ReadFault.{ReadFault as Fault}
use Rattle.jfolder.specs.declared.fault.ReadFault.TheVariants as ReadFault
use Rattle.jfolder.specs.declared.host.Names.{Names}
use Rattle.jfolder.proofs.NoteLemmas.{read_failed, read_no_more, tells_as, tells_then, told_same, told_then}
use Rattle.jfolder.proofs.SoFarLemmas.{begins_in, begins_on, walk_reached}
use Rattle.jfolder.proofs.ReasonLemmas.{all_still_right, root_unlisted_right}
use Rattle.jfolder.proofs.WalkOrderLemmas.{order_popped, order_starts}
use Rattle.jfolder.proofs.reading.read_folder.Goals as goal

abbrev ReachesRightly : Known → Options → List Item → List (String Global) → List LeftOut → Type 0
ReachesRightly known options items pending lefts = Reaches known items pending lefts × All (IsRight known options items) lefts

abbrev GoesRightly : Known → Options → List Item → List (List ℕ) → List Item → List (List ℕ) → List LeftOut → Type 0
GoesRightly known options items pending new later lefts = StaysCovered known items pending new later lefts × All (IsRight known options new) lefts

pub loop-init : goal.loop-init
loop-init g c =
    let known = g.F.HostFolder.known c.args.folder.now in
    let none = c.put_off.ensures.items ∙ c.new-walk.ensures.items in
    let later = c.in_ok-put_off.ensures.pending ∙ ap (λ l. l ++ reverse c.in_ok-paths.paths.items) c.new-walk.ensures.pending in
    record {
      kept = c.root_of.ensures.kept;
      fits = walk_starts known c.args.options.now c.put_off.new.self.items.items c.put_off.new.self.pending.items c.in_ok-paths.paths.items none later c.in_ok-paths.ensures.paths;
      links = links_start known c.put_off.new.self.items.items c.put_off.new.self.firsts none;
      order = order_starts c.put_off.new.self.items.items c.in_ok-paths.paths.items c.put_off.new.self.pending.items none later c.in_ok-paths.ensures.order;
      told = told_same (λ lefts. IsPermutation (children [] (named_of c.in-Ok.found.1)) (texts c.in_ok-paths.paths.items ++ left_paths lefts)
          × All (IsUnlisted [] (named_of c.in-Ok.found.1)) lefts)
          (ReachesRightly known c.args.options.now c.put_off.new.self.items.items c.put_off.new.self.pending.items)
          (g.N.Sink.taken c.args.notes.now) (g.N.Sink.taken c.children.new.notes) (g.N.Sink.failures c.args.notes.now) (g.N.Sink.failures c.children.new.notes)
          c.new-walk.result.left_out 0 c.children.new.left_out c.put_off.new.self.left_out c.new-walk.ensures.left_out c.put_off.ensures.left_out
          (λ lefts given. (
            covers_root known c.put_off.new.self.items.items c.in-Ok.found.1 c.in_ok-paths.paths.items c.put_off.new.self.pending.items lefts none later c.in-Ok.ensures.names given.0,
            root_unlisted_right known c.args.options.now c.put_off.new.self.items.items c.in-Ok.found.1 lefts c.in-Ok.ensures.names given.1,
          ))
          c.in_ok-paths.ensures.told;
    }

pub visit-requires-clause-fits : goal.visit-requires-clause-fits
visit-requires-clause-fits g c =
    let both = popped (g.F.HostFolder.known c.args.folder.now) c.args.options.now c.loop.walk.items.items c.loop.walk.pending.items c.pop.new.self.items (Some c.in-Some.path)
    c.in-Some.ensures.items c.loop.invariant.fits in
    subst (λ (known : Known). WalkFits known c.args.options.now c.loop.walk.items.items c.pop.new.self.items) (sym c.loop.invariant.kept) both.0

pub visit-requires-clause-path : goal.visit-requires-clause-path
visit-requires-clause-path g c =
    let both = popped (g.F.HostFolder.known c.args.folder.now) c.args.options.now c.loop.walk.items.items c.loop.walk.pending.items c.pop.new.self.items (Some c.in-Some.path)
    c.in-Some.ensures.items c.loop.invariant.fits in both.1

pub visit-requires-clause-links : goal.visit-requires-clause-links
visit-requires-clause-links g c =
    subst (λ (known : Known). WalkLinks known c.loop.walk.items.items c.loop.walk.firsts) (sym c.loop.invariant.kept) c.loop.invariant.links

pub visit-requires-clause-order : goal.visit-requires-clause-order
visit-requires-clause-order g c =
    order_popped c.loop.walk.items.items c.loop.walk.pending.items c.pop.new.self.items c.in-Some.path c.in-Some.ensures.items c.loop.invariant.order

pub loop-preserved : goal.loop-preserved
loop-preserved g c =
    let known = g.F.HostFolder.known c.args.folder.now in
    let here = g.F.HostFolder.known c.loop.folder in
    record {
      kept = c.visit.ensures.kept ∙ c.loop.invariant.kept;
      fits = subst (λ (k : Known). WalkFits k c.args.options.now c.visit.new.self.items.items c.visit.new.self.pending.items) c.loop.invariant.kept c.in_ok-visit.ensures.fits;
      links = subst (λ (k : Known). WalkLinks k c.visit.new.self.items.items c.visit.new.self.firsts) c.loop.invariant.kept c.in_ok-visit.ensures.links;
      order = c.in_ok-visit.ensures.order;
      told = told_then (ReachesRightly known c.args.options.now c.loop.walk.items.items c.loop.walk.pending.items)
          (GoesRightly here c.args.options.now c.loop.walk.items.items (texts c.pop.new.self.items ++ string_bytes c.in-Some.path ∷ []) c.visit.new.self.items.items (texts c.visit.new.self.pending.items))
          (ReachesRightly known c.args.options.now c.visit.new.self.items.items c.visit.new.self.pending.items)
          (g.N.Sink.taken c.args.notes.now) (g.N.Sink.taken c.loop.notes) (g.N.Sink.taken c.visit.new.notes)
          (g.N.Sink.failures c.args.notes.now) (g.N.Sink.failures c.loop.notes) (g.N.Sink.failures c.visit.new.notes)
          0 c.loop.walk.left_out c.visit.new.self.left_out
          (λ before lefts covers goes. (
            reaches_on known here c.loop.walk.items.items c.visit.new.self.items.items c.loop.walk.pending.items c.pop.new.self.items
                c.visit.new.self.pending.items c.in-Some.path before lefts c.loop.invariant.kept c.in-Some.ensures.items covers.0 goes.0,
            All-append (IsRight known c.args.options.now c.visit.new.self.items.items) before lefts
                (all_still_right known c.args.options.now c.loop.walk.items.items c.visit.new.self.items.items before c.in_ok-visit.ensures.more covers.1)
                (subst (λ (k : Known). All (IsRight k c.args.options.now c.visit.new.self.items.items) lefts) c.loop.invariant.kept goes.1),
          ))
          c.loop.invariant.told c.in_ok-visit.ensures.told;
    }

pub returns-in_default-clause-options : goal.returns-in_default-clause-options
returns-in_default-clause-options g c =
    all_have_options c.args.options.now c.in-Ok.found.0 c.loop.walk.items.items c.in-Ok.ensures.options c.loop.invariant.fits.options_hold

pub returns-in_default-clause-notes : goal.returns-in_default-clause-notes
returns-in_default-clause-notes g c =
    let told = c.loop.invariant.told in (
      told.0,
      told.1,
      told.2,
      omega (arith, told.3),
      reaches_all (g.F.HostFolder.known c.args.folder.now) c.loop.walk.items.items c.loop.walk.pending.items told.0 (sym c.loop.walk.pending.ok.0 ∙ c.in_default.ensures.cases.0) told.4.0,
      told.4.1,
    )

-- the names in the folder itself
abbrev UnlistedAtRoot : Names → List (String Global) → List LeftOut → Type 0
UnlistedAtRoot names paths lefts = IsPermutation (children [] (named_of names)) (texts paths ++ left_paths lefts) × All (IsUnlisted [] (named_of names)) lefts

pub returns-in-Err-OutOfMemory-clause-notes : goal.returns-in-Err-OutOfMemory-clause-notes
returns-in-Err-OutOfMemory-clause-notes g c = (([], Appends-nil (g.N.Sink.taken c.args.notes.now), inl refl), refl)

pub returns-in_err-paths-clause-notes : goal.returns-in_err-paths-clause-notes
returns-in_err-paths-clause-notes g c =
    let p = err_from_is_err_and c.from_residual.result c.from_residual.ensures.1 in
    let known = g.F.HostFolder.known c.args.folder.now in
    let names = c.in-Ok.found.1 in
    read_failed (Vec (String Global) Global) (λ paths lefts. UnlistedAtRoot names paths.items lefts)
    known c.args.options.now (g.N.Sink.taken c.args.notes.now) (g.N.Sink.taken c.children.new.notes)
    (g.N.Sink.failures c.args.notes.now) (g.N.Sink.failures c.children.new.notes)
    c.new-walk.result.left_out c.children.new.left_out c.in_err-paths.field-0.0 p.0 c.from_residual.result p.1 p.2
    (tells_as {X = Vec (String Global) Global} (λ paths lefts. UnlistedAtRoot names paths.items lefts) (λ paths lefts. UnlistedAtRoot names paths.items lefts)
    (SomeUnlisted [] (named_of names)) (IsBeginning known c.args.options.now)
    (g.N.Sink.taken c.args.notes.now) (g.N.Sink.taken c.children.new.notes) (g.N.Sink.failures c.args.notes.now) (g.N.Sink.failures c.children.new.notes)
    c.new-walk.result.left_out c.children.new.left_out (Err c.in_err-paths.field-0.0) (λ _ _ _ h. h)
    (λ lefts some. begins_in known c.args.options.now names lefts c.in-Ok.ensures.names some) c.in_err-paths.ensures.told)

pub returns-in_err-put_off-clause-notes : goal.returns-in_err-put_off-clause-notes
returns-in_err-put_off-clause-notes g c =
    let p = err_from_is_err_and c.from_residual-in_err-put_off.result c.from_residual-in_err-put_off.ensures.1 in
    let known = g.F.HostFolder.known c.args.folder.now in
    let names = c.in-Ok.found.1 in
    let paths = c.in_ok-paths.paths.items in
    read_no_more (UnlistedAtRoot names paths) known c.args.options.now (g.N.Sink.taken c.args.notes.now) (g.N.Sink.taken c.children.new.notes)
    (g.N.Sink.failures c.args.notes.now) (g.N.Sink.failures c.children.new.notes) c.new-walk.result.left_out c.children.new.left_out c.from_residual-in_err-put_off.result (p.1 ∙ ap (λ (f : Fault). Err f) p.2)
    (λ lefts these. begins_in known c.args.options.now names lefts c.in-Ok.ensures.names ((texts paths, these.0), these.1)) c.in_ok-paths.ensures.told

pub returns-in_err-visit-clause-notes : goal.returns-in_err-visit-clause-notes
returns-in_err-visit-clause-notes g c =
    let p = err_from_is_err_and c.from_residual-in_err-visit.result c.from_residual-in_err-visit.ensures.1 in
    let known = g.F.HostFolder.known c.args.folder.now in
    let here = g.F.HostFolder.known c.loop.folder in
    let items = c.loop.walk.items.items in
    let pending = texts c.pop.new.self.items ++ string_bytes c.in-Some.path ∷ [] in
    let same : texts c.loop.walk.pending.items ≡ pending = ap texts c.in-Some.ensures.items ∙ map-append (λ (q : String Global). string_bytes q) c.pop.new.self.items (c.in-Some.path ∷ []) in
    let told = tells_then {X = Unit {0}} (ReachesRightly known c.args.options.now items c.loop.walk.pending.items)
    (λ _ lefts. GoesRightly here c.args.options.now items pending c.visit.new.self.items.items (texts c.visit.new.self.pending.items) lefts) (λ _ _. Unit {0})
    (LeadsOn here c.args.options.now items pending) (IsBeginning known c.args.options.now)
    (g.N.Sink.taken c.args.notes.now) (g.N.Sink.taken c.loop.notes) (g.N.Sink.taken c.visit.new.notes)
    (g.N.Sink.failures c.args.notes.now) (g.N.Sink.failures c.loop.notes) (g.N.Sink.failures c.visit.new.notes)
    0 c.loop.walk.left_out c.visit.new.self.left_out (Err c.in_err-visit.field-0.0) (λ _ _ _ _ _. tt)
    (λ before lefts covers leads. begins_on known here c.args.options.now items pending before lefts c.loop.invariant.kept
    (subst (λ (l : List (List ℕ)). HasReached known c.args.options.now items l before) same
    (walk_reached known c.args.options.now items c.loop.walk.pending.items before c.loop.invariant.fits covers.0 covers.1)) leads)
    c.loop.invariant.told c.in_err-visit.ensures.told in
    read_failed (Unit {0}) (λ _ _. Unit {0}) known c.args.options.now (g.N.Sink.taken c.args.notes.now) (g.N.Sink.taken c.visit.new.notes)
    (g.N.Sink.failures c.args.notes.now) (g.N.Sink.failures c.visit.new.notes)
    0 c.visit.new.self.left_out c.in_err-visit.field-0.0 p.0 c.from_residual-in_err-visit.result p.1 p.2 told

pub returns-clause-notes : goal.returns-clause-notes
returns-clause-notes g c =
    let known = g.F.HostFolder.known c.args.folder.now in
    let items = c.loop.walk.items.items in
    read_no_more (ReachesRightly known c.args.options.now items c.loop.walk.pending.items) known c.args.options.now (g.N.Sink.taken c.args.notes.now) (g.N.Sink.taken c.loop.notes)
    (g.N.Sink.failures c.args.notes.now) (g.N.Sink.failures c.loop.notes) 0 c.loop.walk.left_out (Err ReadFault.OutOfMemory) refl
    (λ lefts reaches. inr (items, texts c.loop.walk.pending.items, walk_reached known c.args.options.now items c.loop.walk.pending.items lefts c.loop.invariant.fits reaches.0 reaches.1))
    c.loop.invariant.told
