use Rattle.std.proofs.Common.{◌≡◌, ◌∙◌, ◌++◌, ◌∷◌, ℕ, List, [], Err, subst, ap, reverse}
use Rattle.std.specs.List.{All}
use Rattle.std.specs.String.{string_bytes}
use Rattle.std.specs.Prelude.{IsPermutation, IsSome, String}
use Rattle.std.specs.declared.alloc.Global.{Global}
use Rattle.std.proofs.lemmas.List.Elements.{All-weaker}
use Rattle.jfolder.specs.Complete.{children_of, left_paths}
use Rattle.jfolder.specs.Reasons.{IsUnlistedIn}
use Rattle.jfolder.specs.Walking.{IsChild, item_of}
use Rattle.jfolder.specs.declared.tree.Item.{Item}
use Rattle.jfolder.proofs.CompleteLemmas.{pending_order, texts}
use Rattle.std.proofs.lemmas.Result.{err_from_is_err_and}
use Rattle.jfolder.specs.declared.fault.ReadFault.{ReadFault}
use Rattle.jfolder.specs.SoFar.{SomeUnlistedIn}
use Rattle.jfolder.proofs.NoteLemmas.{told_no_more}
use Rattle.jfolder.proofs.WalkLemmas.{pending_after}
use Rattle.jfolder.proofs.WalkOrderLemmas.{order_added}
use Rattle.jfolder.proofs.reading.Walk.add.Goals as goal

pub returns-clause-pending : goal.returns-clause-pending
returns-clause-pending g c =
    let old = c.args.self.now in
    let i = item_of c.args.path c.args.found in
    let kept = c.remember.ensures.items ∙ c.paths_in.ensures.items in
    let more : c.put_off.new.self.items.items ≡ old.items.items ++ i ∷ [] =
    c.put_off.ensures.items ∙ c.in_ok-push_item.ensures.items ∙ ap (λ (l : List Item). l ++ i ∷ []) kept in
    let later : c.put_off.new.self.pending.items ≡ old.pending.items ++ reverse c.in_ok-paths.paths.items =
    c.in_ok-put_off.ensures.pending
    ∙ ap (λ l. l ++ reverse c.in_ok-paths.paths.items) (c.push_item.ensures.pending ∙ c.remember.ensures.pending ∙ c.paths_in.ensures.pending) in
    let children = subst (λ (l : List ℕ). All (λ child. IsSome c.args.found.names × IsChild l (string_bytes child)) c.in_ok-paths.paths.items)
    c.as_str.ensures.value c.in_ok-paths.ensures.paths in
    pending_after old.items.items c.put_off.new.self.items.items c.args.path c.args.found old.pending.items c.put_off.new.self.pending.items c.in_ok-paths.paths.items
    more later c.requires.directory c.requires.path c.requires.pending children

pub returns-clause-told : goal.returns-clause-told
returns-clause-told g c =
    let old = c.args.self.now in
    let later : c.put_off.new.self.pending.items ≡ old.pending.items ++ reverse c.in_ok-paths.paths.items =
    c.in_ok-put_off.ensures.pending
    ∙ ap (λ l. l ++ reverse c.in_ok-paths.paths.items) (c.push_item.ensures.pending ∙ c.remember.ensures.pending ∙ c.paths_in.ensures.pending) in
    let told = c.in_ok-paths.ensures.told in
    let given = subst (λ (l : List ℕ). IsPermutation (children_of l c.args.found.names) (texts c.in_ok-paths.paths.items ++ left_paths told.0)) c.as_str.ensures.value told.4.0 in
    let unlisted = subst (λ (l : List ℕ). All (IsUnlistedIn l c.args.found.names) told.0) c.as_str.ensures.value told.4.1 in (
      told.0,
      told.1,
      told.2,
      c.put_off.ensures.left_out ∙ c.push_item.ensures.left_out ∙ c.remember.ensures.left_out ∙ told.3,
      (pending_order c.in_ok-paths.paths.items old.pending.items c.put_off.new.self.pending.items told.0 (children_of (string_bytes c.args.path) c.args.found.names) later given, unlisted),
    )

pub returns-clause-order : goal.returns-clause-order
returns-clause-order g c =
    let old = c.args.self.now in
    let i = item_of c.args.path c.args.found in
    let kept = c.remember.ensures.items ∙ c.paths_in.ensures.items in
    let more : c.put_off.new.self.items.items ≡ old.items.items ++ i ∷ [] =
    c.put_off.ensures.items ∙ c.in_ok-push_item.ensures.items ∙ ap (λ (l : List Item). l ++ i ∷ []) kept in
    let later : c.put_off.new.self.pending.items ≡ old.pending.items ++ reverse c.in_ok-paths.paths.items =
    c.in_ok-put_off.ensures.pending
    ∙ ap (λ l. l ++ reverse c.in_ok-paths.paths.items) (c.push_item.ensures.pending ∙ c.remember.ensures.pending ∙ c.paths_in.ensures.pending) in
    let given = subst (λ (l : List ℕ). All (λ child. IsSome c.args.found.names × IsChild l (string_bytes child)) c.in_ok-paths.paths.items)
    c.as_str.ensures.value c.in_ok-paths.ensures.paths in
    let children : All (λ (p : String Global). IsChild (string_bytes c.args.path) (string_bytes p)) c.in_ok-paths.paths.items =
    All-weaker (λ (p : String Global). IsSome c.args.found.names × IsChild (string_bytes c.args.path) (string_bytes p)) (λ (p : String Global). IsChild (string_bytes c.args.path) (string_bytes p))
    (λ p h. h.1) c.in_ok-paths.paths.items given in
    order_added old.items.items c.put_off.new.self.items.items i old.pending.items c.put_off.new.self.pending.items c.in_ok-paths.paths.items more later
    c.requires.rise c.requires.next c.requires.path c.requires.pending children c.in_ok-paths.ensures.order c.requires.order

pub returns-in_err-remember-clause-told : goal.returns-in_err-remember-clause-told
returns-in_err-remember-clause-told g c =
    let p = err_from_is_err_and c.from_residual-in_err-remember.result c.from_residual-in_err-remember.ensures.1 in
    let path = c.as_str.result.now in
    let names = c.args.found.names in
    let paths = c.in_ok-paths.paths.items in
    told_no_more (Unit {0}) (λ lefts. IsPermutation (children_of path names) (texts paths ++ left_paths lefts) × All (IsUnlistedIn path names) lefts) _ (SomeUnlistedIn (string_bytes c.args.path) names)
    (g.N.Sink.taken c.args.notes.now) (g.N.Sink.taken c.paths_in.new.notes) (g.N.Sink.failures c.args.notes.now) (g.N.Sink.failures c.paths_in.new.notes)
    c.args.self.now.left_out c.paths_in.new.self.left_out c.remember.new.self.left_out c.from_residual-in_err-remember.result (p.1 ∙ ap (λ (f : ReadFault). Err f) (p.2 ∙ c.in_err-remember.ensures.fault))
    (λ lefts these. subst (λ (l : List ℕ). SomeUnlistedIn l names lefts) c.as_str.ensures.value ((texts paths, these.0), these.1)) c.in_ok-paths.ensures.told

pub returns-in_err-push_item-clause-told : goal.returns-in_err-push_item-clause-told
returns-in_err-push_item-clause-told g c =
    let p = err_from_is_err_and c.from_residual-in_err-push_item.result c.from_residual-in_err-push_item.ensures.1 in
    let path = c.as_str.result.now in
    let names = c.args.found.names in
    let paths = c.in_ok-paths.paths.items in
    told_no_more (Unit {0}) (λ lefts. IsPermutation (children_of path names) (texts paths ++ left_paths lefts) × All (IsUnlistedIn path names) lefts) _ (SomeUnlistedIn (string_bytes c.args.path) names)
    (g.N.Sink.taken c.args.notes.now) (g.N.Sink.taken c.paths_in.new.notes) (g.N.Sink.failures c.args.notes.now) (g.N.Sink.failures c.paths_in.new.notes)
    c.args.self.now.left_out c.paths_in.new.self.left_out c.push_item.new.self.left_out c.from_residual-in_err-push_item.result (p.1 ∙ ap (λ (f : ReadFault). Err f) (p.2 ∙ c.in_err-push_item.ensures.fault))
    (λ lefts these. subst (λ (l : List ℕ). SomeUnlistedIn l names lefts) c.as_str.ensures.value ((texts paths, these.0), these.1)) c.in_ok-paths.ensures.told

pub returns-in_err-put_off-clause-told : goal.returns-in_err-put_off-clause-told
returns-in_err-put_off-clause-told g c =
    let p = err_from_is_err_and c.from_residual-in_err-put_off.result c.from_residual-in_err-put_off.ensures.1 in
    let path = c.as_str.result.now in
    let names = c.args.found.names in
    let paths = c.in_ok-paths.paths.items in
    told_no_more (Unit {0}) (λ lefts. IsPermutation (children_of path names) (texts paths ++ left_paths lefts) × All (IsUnlistedIn path names) lefts) _ (SomeUnlistedIn (string_bytes c.args.path) names)
    (g.N.Sink.taken c.args.notes.now) (g.N.Sink.taken c.paths_in.new.notes) (g.N.Sink.failures c.args.notes.now) (g.N.Sink.failures c.paths_in.new.notes)
    c.args.self.now.left_out c.paths_in.new.self.left_out c.put_off.new.self.left_out c.from_residual-in_err-put_off.result (p.1 ∙ ap (λ (f : ReadFault). Err f) p.2)
    (λ lefts these. subst (λ (l : List ℕ). SomeUnlistedIn l names lefts) c.as_str.ensures.value ((texts paths, these.0), these.1)) c.in_ok-paths.ensures.told
