-- An object that gets other bytes.
use Rattle.std.proofs.Common.{◌≡◌, ◌≢◌, ℕ, ◌+◌, Bool, true, false, cond, List, ◌++◌, length, take, drop, Option, Some, refl, ap, sym, ◌∙◌, subst, arith}
use Rattle.std.specs.Ordering.{eq_by_cmp, nat_cmp}
use Rattle.std.specs.Cmp.{nat_cmp_total, unsigned_tied}
use Rattle.std.specs.FinMap.{get, insert, get-insert}
use Rattle.std.proofs.lemmas.Bool.{cond-true, eq-eqb, ne_eqb}
use Rattle.std.proofs.lemmas.List.{append-nil, take_all, drop_all}
use Rattle.jmount.specs.Tree.{ObjectOf, State, object}
use Rattle.jsteps.specs.Steps.{bytes, do_step, with_body, rewritten}
use Rattle.jsteps.specs.declared.step.Step.TheVariants as step

pub record Rewrites (s t : State) (ino : ℕ) (old new : ObjectOf (List ℕ)) : Type 0 where
  pub names : t.names ≡ s.names
  pub next : t.next ≡ s.next
  pub was : object s ino ≡ Some old
  pub now : object t ino ≡ Some new
  pub others : (k : ℕ) → k ≢ ino → object t k ≡ object s k
  pub kind : new.mode ≡ old.mode

pub rewrites_none : (s : State) (ino : ℕ) (o : ObjectOf (List ℕ)) → object s ino ≡ Some o → Rewrites s s ino o o
rewrites_none s ino o e = record { names = refl; next = refl; was = e; now = e; others = λ k other. refl; kind = refl }

pub rewrites_then : (s t u : State) (ino : ℕ) (a b c : ObjectOf (List ℕ)) → Rewrites s t ino a b → Rewrites t u ino b c → Rewrites s u ino a c
rewrites_then s t u ino a b c one two = record {
  names = two.names ∙ one.names;
  next = two.next ∙ one.next;
  was = one.was;
  now = two.now;
  others = λ k other. two.others k other ∙ one.others k other;
  kind = two.kind ∙ one.kind;
}

pub insert_other : {X : Type 0} (b : Bool) (x : X) (o : Option X) → b ≡ false → cond b (Some x) o ≡ o
insert_other b x o e = ap (λ (b : Bool). cond b (Some x) o) e

pub untied : (k i : ℕ) → k ≢ i → eq_by_cmp nat_cmp k i ≡ false
untied k i other = unsigned_tied k i ∙ ne_eqb k i other

pub itself : (i : ℕ) → eq_by_cmp nat_cmp i i ≡ true
itself i = unsigned_tied i i ∙ eq-eqb i i refl

-- bytes that are put at the end follow those that are there
put_at_end : (old new : List ℕ) (offset : ℕ) → offset ≡ length old → take offset old ++ (new ++ drop (offset + length new) old) ≡ old ++ new
put_at_end old new offset e =
    ap (λ (xs : List ℕ). xs ++ (new ++ drop (offset + length new) old)) (take_all offset old (omega arith))
    ∙ ap (λ (xs : List ℕ). old ++ (new ++ xs)) (drop_all (offset + length new) old (omega arith))
    ∙ ap (λ (xs : List ℕ). old ++ xs) (append-nil new)

pub put_rewrites : (s : State) (time ino offset : ℕ) (new : List ℕ) (o : ObjectOf (List ℕ)) → object s ino ≡ Some o → offset ≡ length o.body
    → Rewrites s (do_step bytes s (step.Put time ino offset new)) ino o (with_body o time (o.body ++ new))
put_rewrites s time ino offset new o e at =
    let changed = with_body o time (take offset o.body ++ (new ++ drop (offset + length new) o.body)) in
    let t : State = record { objects = insert s.objects ino changed; names = s.names; next = s.next } in
    let is : do_step bytes s (step.Put time ino offset new) ≡ t = ap (λ ob. rewritten s ino time (λ old. bytes.put old offset new) ob) e in
    subst (λ u. Rewrites s u ino o (with_body o time (o.body ++ new))) (sym is)
    (record {
      names = refl;
      next = refl;
      was = e;
      now = get-insert nat_cmp_total s.objects ino changed ino
          ∙ cond-true (eq_by_cmp nat_cmp ino ino) (Some changed) (get s.objects ino) (itself ino)
          ∙ ap (λ body. Some (with_body o time body)) (put_at_end o.body new offset at);
      others = λ k other. get-insert nat_cmp_total s.objects ino changed k ∙ insert_other (eq_by_cmp nat_cmp k ino) changed (get s.objects k)
          (untied k ino other);
      kind = refl;
    })
