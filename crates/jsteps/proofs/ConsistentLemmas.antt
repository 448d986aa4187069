-- The index of nodes is consistent, and stays so from step to step.
use Rattle.std.proofs.Common.{◌≡◌, ℕ, ◌+◌, ◌<◌, ◌≤◌, ◌^◌, Bool, true, false, cond, List, [], ◌∷◌, length, Option, Some, None, refl, ap, sym, ◌∙◌, subst, inl, inr, ◌⊎◌, ⊎_elim, arith}
use Rattle.std.specs.Prelude.{◌==◌, max, min, option_map, is_some, unwrap_or, Contains}
use Rattle.std.specs.Ordering.{eq_by_cmp, nat_cmp}
use Rattle.std.specs.Cmp.{nat_cmp_total, unsigned_tied}
use Rattle.std.specs.FinMap.{FinMap, get, insert, remove, get-insert, get-remove}
use Rattle.std.proofs.lemmas.Bool.{eqb-true, false≢true}
use Rattle.std.proofs.lemmas.Option.{same_Some}
use Rattle.std.proofs.lemmas.Map.Views.{tells_apart}
use Rattle.flashbase.specs.Ranges.{IsHalf, IsWord}
use Rattle.jnode.specs.Writing.{Fits}
use Rattle.jnode.specs.declared.node.NodeRef.{NodeRef}
use Rattle.jnode.specs.declared.node.NodeRef.TheVariants.{Entry, Inode}
use Rattle.jname.specs.Live.{Key, key_cmp}
use Rattle.flashbase.proofs.MemberLemmas.{Contains-none, Contains-cases}
use Rattle.jname.proofs.NamingLemmas.{key_cmp_total, key_cmp-IsAntisymmetric}
use Rattle.jmount.specs.Tree.{ObjectOf, sized, object, has_bits, is_directory, directory_bits}
use Rattle.jmount.specs.StateOf.{state_of, inodes, numbers_in, next_of}
use Rattle.jmount.specs.Shown.{top_at}
use Rattle.jmount.specs.Mounts.{plain_nodes}
use Rattle.jmount.specs.Laws.{ObjectFits}
use Rattle.jmount.proofs.LeastLemmas.{next_is_least}
use Rattle.jmount.proofs.NumbersLemmas.{object-state_of, top_at-tops_of}
use Rattle.jmount.proofs.OutlineLemmas.{object-outline, is_directory-outline}
use Rattle.jmount.proofs.UseLemmas.{state_is_numbered, objects_fit, of_inodes}
use Rattle.jsteps.specs.Steps.{own_bytes, renamed, rewritten, with_body, with_attributes, reattributed}
use Rattle.jsteps.specs.Nodes.{Indexed, index_by, no_object, object_at, advanced}
use Rattle.jsteps.specs.Ready.{IsReady, HasRoom}
use Rattle.jsteps.specs.Laws as law
use Rattle.jsteps.specs.Laws.{OutlineObjectFits, GivenFit, IsConsistent}
use Rattle.jsteps.specs.declared.op.Attributes.{Attributes}
use Rattle.jsteps.specs.declared.step.Step.{Step}
use Rattle.jsteps.specs.declared.step.Step.TheVariants as step
use Rattle.jsteps.proofs.IndexLemmas.{some_and, with_some}
use Rattle.jsteps.proofs.StepsLemmas.{kind_stays, permissions_fit}

-- ---- that of nodes

one_number : (n i : ℕ) → Contains (n ∷ []) i → n ≡ i
one_number n i there = ⊎_elim (λ same. same) (λ none. absurd (Contains-none i none)) (Contains-cases n [] i there)

number_is_word : (node : NodeRef) (i : ℕ) → Fits node → Contains (numbers_in node) i → i < 2 ^ 32
number_is_word (Inode node) i fits there = subst IsWord (one_number node.ino i there) fits.ino
number_is_word (Entry entry) i fits there =
    ⊎_elim
    (λ same. subst IsWord same fits.pino)
    (λ later. subst IsWord (one_number entry.ino i later) fits.ino)
    (Contains-cases entry.pino (entry.ino ∷ []) i there)

next_is_within : (ns : List NodeRef) → law.AllFit ns → next_of ns ≤ 2 ^ 32
next_is_within ns fits = (next_is_least ns).1 (2 ^ 32) (omega arith, λ node i there named. number_is_word node i (fits node there) named)

sized_from : (o : Option (ObjectOf (List ℕ))) (p : ObjectOf ℕ) → option_map sized o ≡ Some p → (q : ObjectOf (List ℕ)) × (o ≡ Some q) × (sized q ≡ p)
sized_from None p e = absurd (false≢true (ap is_some e))
sized_from (Some q) p e = (q, refl, same_Some (sized q) p e)

attributes_fit : (o : ObjectOf (List ℕ)) → ObjectFits o → OutlineObjectFits (sized o)
attributes_fit o fits = record { mode = fits.mode; uid = fits.uid; gid = fits.gid; atime = fits.atime; size = fits.size }

pub index_is_consistent : law.IndexIsConsistent
index_is_consistent ns fits root =
    let s = state_of ns in
    record {
      root = is_directory-outline s 1 ∙ root;
      next = next_is_within ns fits;
      numbered = λ i p e. let found = sized_from (object s i) p (sym (object-outline s i) ∙ e) in (state_is_numbered ns).objects i found.0 found.1;
      fits = λ i p e.
          let found = sized_from (object s i) p (sym (object-outline s i) ∙ e) in
          subst OutlineObjectFits found.2
          (attributes_fit found.0 (objects_fit (inodes ns) i found.0 (λ node there. fits (Inode node) (of_inodes ns node there)) (sym (object-state_of ns i) ∙ found.1)));
      linked = λ dir name i e. (state_is_numbered ns).linked dir name i e;
      directories = λ dir name i e. (state_is_numbered ns).directories dir name i e;
    }

pub index_is_of_nodes : law.IndexIsOfNodes
index_is_of_nodes e size m is = λ j.
    index_by (sym is.mounts.same j) (λ i. (ap (λ tops. top_at tops i) is.tops ∙ top_at-tops_of (plain_nodes e size m.image) i) j)

-- ---- after another object, or other names

pub cond_some_cases : {X : Type 0} (b : Bool) (v : X) (o : Option X) (p : X) → cond b (Some v) o ≡ Some p → ((b ≡ true) × (v ≡ p)) ⊎ (o ≡ Some p)
cond_some_cases true v o p e = inl (refl, same_Some v p e)
cond_some_cases false v o p e = inr e

cond_none_cases : {X : Type 0} (b : Bool) (o : Option X) (p : X) → cond b None o ≡ Some p → o ≡ Some p
cond_none_cases true o p e = absurd (false≢true (ap is_some e))
cond_none_cases false o p e = e

bits_either : (bits : ℕ) (b : Bool) (v : ObjectOf ℕ) (o : Option (ObjectOf ℕ)) → (b ≡ true → has_bits bits (Some v) ≡ true) → has_bits bits o ≡ true
    → has_bits bits (cond b (Some v) o) ≡ true
bits_either bits true v o h old = h refl
bits_either bits false v o h old = old

pub tied : (i j : ℕ) → eq_by_cmp nat_cmp i j ≡ true → i ≡ j
tied i j h = eqb-true i j (sym (unsigned_tied i j) ∙ h)

insert_keeps : (x : Indexed) (ino : ℕ) (o : ObjectOf ℕ) (next : ℕ) (tops : FinMap nat_cmp ℕ) → IsConsistent x → ino < next → x.tree.next ≤ next → next ≤ 2 ^ 32 → OutlineObjectFits o
    → (1 ≡ ino → has_bits directory_bits (Some o) ≡ true)
    → IsConsistent (record { tree = record { objects = insert x.tree.objects ino o; names = x.tree.names; next = next }; tops = tops })
insert_keeps x ino o next tops same below more within fits root = record {
  root = ap (has_bits directory_bits) (get-insert nat_cmp_total x.tree.objects ino o 1)
      ∙ bits_either directory_bits (eq_by_cmp nat_cmp 1 ino) o (get x.tree.objects 1) (λ yes. root (tied 1 ino yes)) same.root;
  next = within;
  numbered = λ i p e.
      ⊎_elim
      (λ (here : (eq_by_cmp nat_cmp i ino ≡ true) × (o ≡ p)). let is : i ≡ ino = tied i ino here.0 in omega arith)
      (λ old. let h : i < x.tree.next = same.numbered i p old in omega arith)
      (cond_some_cases (eq_by_cmp nat_cmp i ino) o (get x.tree.objects i) p (sym (get-insert nat_cmp_total x.tree.objects ino o i) ∙ e));
  fits = λ i p e.
      ⊎_elim
      (λ (here : (eq_by_cmp nat_cmp i ino ≡ true) × (o ≡ p)). subst OutlineObjectFits here.1 fits)
      (λ old. same.fits i p old)
      (cond_some_cases (eq_by_cmp nat_cmp i ino) o (get x.tree.objects i) p (sym (get-insert nat_cmp_total x.tree.objects ino o i) ∙ e));
  linked = λ dir name i e. let h = same.linked dir name i e in (h.0, omega arith);
  directories = λ dir name i e. let h : dir < x.tree.next = same.directories dir name i e in omega arith;
}

names_keep : (x : Indexed) (names : FinMap key_cmp ℕ) (tops : FinMap nat_cmp ℕ) → IsConsistent x
    → ((k : Key) (i : ℕ) → get names k ≡ Some i → (0 < i) × (i < x.tree.next) × (k.0 < x.tree.next))
    → IsConsistent (record { tree = renamed x.tree names; tops = tops })
names_keep x names tops same linked = record {
  root = same.root;
  next = same.next;
  numbered = same.numbered;
  fits = same.fits;
  linked = λ dir name i e. let h = linked (dir, name) i e in (h.0, h.1);
  directories = λ dir name i e. (linked (dir, name) i e).2;
}

rewritten_keeps : (x : Indexed) (ino time : ℕ) (change : ℕ → ℕ) (tops : FinMap nat_cmp ℕ) → IsConsistent x → is_some (object x.tree ino) ≡ true → IsWord (change (object_at x ino).body)
    → IsConsistent (record { tree = rewritten x.tree ino time change (object x.tree ino); tops = tops })
rewritten_keeps x ino time change tops same there within =
    with_some (object x.tree ino) there
    (λ o e.
    let body : (object_at x ino).body ≡ o.body = ap (λ ob. (unwrap_or ob no_object).body) e in
    let fits = same.fits ino o e in
    let below : ino < x.tree.next = same.numbered ino o e in
    subst (λ ob. IsConsistent (record { tree = rewritten x.tree ino time change ob; tops = tops })) (sym e)
    (insert_keeps x ino (with_body o time (change o.body)) x.tree.next tops same below (omega arith) same.next
    (record { mode = fits.mode; uid = fits.uid; gid = fits.gid; atime = fits.atime; size = subst (λ n. IsWord (change n)) body within })
    (λ is. sym (ap (has_bits directory_bits) e) ∙ ap (λ i. is_directory x.tree i) (sym is) ∙ same.root)))

reattributed_keeps : (x : Indexed) (ino time : ℕ) (attributes : Attributes) (tops : FinMap nat_cmp ℕ) → IsConsistent x → is_some (object x.tree ino) ≡ true
    → GivenFit attributes
    → IsConsistent (record { tree = reattributed x.tree ino time attributes (object x.tree ino); tops = tops })
reattributed_keeps x ino time attributes tops same there given =
    with_some (object x.tree ino) there
    (λ o e.
    let fits = same.fits ino o e in
    let mode : o.mode < 2 ^ 32 = fits.mode in
    let below : ino < x.tree.next = same.numbered ino o e in
    subst (λ ob. IsConsistent (record { tree = reattributed x.tree ino time attributes ob; tops = tops })) (sym e)
    (insert_keeps x ino (with_attributes o time attributes) x.tree.next tops same below (omega arith) same.next
    (record { mode = permissions_fit o.mode attributes.mode mode; uid = given.0; gid = given.1; atime = given.2; size = fits.size })
    (λ is. ap (λ (kind : ℕ). kind == directory_bits) (kind_stays o.mode attributes.mode) ∙ sym (ap (has_bits directory_bits) e) ∙ ap (λ i. is_directory x.tree i) (sym is) ∙ same.root)))

-- ---- after a step

-- the fields of a step that 32 and 16 bits hold
unfoldable pub StepFits : Step → Type 0
StepFits (step.MakeObject time mode uid gid target) = IsWord time × IsWord mode × IsHalf uid × IsHalf gid
StepFits (step.SetName time directory name ino) = IsWord time
StepFits (step.ClearName time directory name) = IsWord time
StepFits (step.Put time ino offset new) = IsWord time
StepFits (step.Zero time ino count) = IsWord time
StepFits (step.Cut time ino size) = IsWord time
StepFits (step.SetAttributes time ino attributes) = IsWord time × GivenFit attributes

pub root_below : (x : Indexed) → IsConsistent x → 1 < x.tree.next
root_below x same = with_some (object x.tree 1) (there (object x.tree 1) same.root) (λ o e. same.numbered 1 o e)
  where
    there : (o : Option (ObjectOf ℕ)) → has_bits directory_bits o ≡ true → is_some o ≡ true
    there None h = absurd (false≢true h)
    there (Some o) h = refl

pub advanced_keeps : (x : Indexed) (s : Step) → IsConsistent x → IsReady x s → HasRoom x s → StepFits s → IsConsistent (advanced x s)
unfolding StepFits
advanced_keeps x (step.MakeObject time mode uid gid target) same ready room fits =
    let root : 1 < x.tree.next = root_below x same in
    let number : x.tree.next ≤ 0xFFFFFFFF = room.number in
    let long : length (own_bytes mode target) ≤ 0xFFFFFFFF = room.size in
    insert_keeps x x.tree.next (record { mode = mode; uid = uid; gid = gid; atime = time; mtime = time; ctime = time; device = None; body = length (own_bytes mode target) }) (x.tree.next + 1)
    (advanced x (step.MakeObject time mode uid gid target)).tops same (omega arith) (omega arith) (omega arith)
    (record { mode = fits.1; uid = fits.2; gid = fits.3; atime = fits.0; size = omega arith })
    (λ is. absurd (omega arith))
advanced_keeps x (step.SetName time directory name ino) same ready room fits =
    names_keep x (insert x.tree.names (directory, name) ino) (advanced x (step.SetName time directory name ino)).tops same
    (λ k i e.
    ⊎_elim
    (λ (here : (eq_by_cmp key_cmp k (directory, name) ≡ true) × (ino ≡ i)).
    let key : k ≡ (directory, name) = tells_apart {R = key_cmp} key_cmp-IsAntisymmetric k (directory, name) here.0 in
    let there : directory < x.tree.next = with_some (object x.tree directory) ready.defined (λ o found. same.numbered directory o found) in
    let dir : k.0 ≡ directory = ap (λ (k : Key). k.0) key in
    let is : ino ≡ i = here.1 in
    let number = ready.number in
    (omega arith, omega arith, omega arith))
    (λ old. let h = same.linked k.0 k.1 i old in (h.0, h.1, same.directories k.0 k.1 i old))
    (cond_some_cases (eq_by_cmp key_cmp k (directory, name)) ino (get x.tree.names k) i (sym (get-insert key_cmp_total x.tree.names (directory, name) ino k) ∙ e)))
advanced_keeps x (step.ClearName time directory name) same ready room fits =
    names_keep x (remove x.tree.names (directory, name)) (advanced x (step.ClearName time directory name)).tops same
    (λ k i e.
    let old = cond_none_cases (eq_by_cmp key_cmp k (directory, name)) (get x.tree.names k) i (sym (get-remove key_cmp_total x.tree.names (directory, name) k) ∙ e) in
    let h = same.linked k.0 k.1 i old in
    (h.0, h.1, same.directories k.0 k.1 i old))
advanced_keeps x (step.Put time ino offset new) same ready room fits =
    let size : max (object_at x ino).body (offset + length new) ≤ 0xFFFFFFFF = room.size in
    rewritten_keeps x ino time (λ old. max old (offset + length new)) (advanced x (step.Put time ino offset new)).tops same
    (some_and (object x.tree ino) (λ o. offset ≤ o.body) ready.defined) (omega arith)
advanced_keeps x (step.Zero time ino count) same ready room fits =
    let size : (object_at x ino).body + count ≤ 0xFFFFFFFF = room.size in
    rewritten_keeps x ino time (λ old. old + count) (advanced x (step.Zero time ino count)).tops same ready.defined (omega arith)
advanced_keeps x (step.Cut time ino size) same ready room fits =
    let left : size ≤ 0xFFFFFFFF = room.size in
    rewritten_keeps x ino time (λ old. min size old) (advanced x (step.Cut time ino size)).tops same
    (some_and (object x.tree ino) (λ o. size ≤ o.body) ready.defined) (omega arith)
advanced_keeps x (step.SetAttributes time ino attributes) same ready room fits =
    reattributed_keeps x ino time attributes (advanced x (step.SetAttributes time ino attributes)).tops same ready.defined fits.1
