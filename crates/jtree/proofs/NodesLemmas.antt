-- The inode nodes that steps are written as.
use Rattle.std.proofs.Common.{◌≡◌, ◌≢◌, ℕ, ◌<◌, ◌≤◌, cond, List, [], ◌∷◌, ◌++◌, Some, Ok, refl, ap, ap₂, sym, ◌∙◌, arith}
use Rattle.std.specs.Prelude.{◌==◌, option_map}
use Rattle.std.specs.List.{AllByRecursion}
use Rattle.std.proofs.lemmas.Bool.{eq-eqb, ne_eqb}
use Rattle.std.proofs.lemmas.List.{append-nil}
use Rattle.std.proofs.lemmas.List.Elements.{filter-append, filter_map-append}
use Rattle.jnode.specs.declared.node.Fill.{Fill}
use Rattle.jnode.specs.declared.node.Fill.TheVariants.{Data}
use Rattle.jnode.specs.declared.node.InodeNode.{InodeNode}
use Rattle.jnode.specs.declared.node.NodeRef.{NodeRef}
use Rattle.jnode.specs.declared.node.NodeRef.TheVariants.{Entry, Inode}
use Rattle.jmount.specs.Find.{walk}
use Rattle.jmount.specs.StateOf.{inode_in, inodes, latest, versions_of}
use Rattle.jmount.specs.Tree.{State}
use Rattle.jsteps.specs.Nodes.{Indexed, advanced, advanced_all, node_of, nodes_of}
use Rattle.jsteps.specs.declared.step.Step.{Step}
use Rattle.jsteps.specs.declared.step.Step.TheVariants as step
use Rattle.jtree.specs.Numbers.{newest_fill}

-- those of a number
abbrev pub inodes_at : Indexed → List Step → ℕ → List InodeNode
inodes_at x steps k = versions_of (inodes (nodes_of x steps)) k

nodes_of-append : (x : Indexed) (xs ys : List Step) → nodes_of x (xs ++ ys) ≡ nodes_of x xs ++ nodes_of (advanced_all x xs) ys
nodes_of-append x [] ys = refl
nodes_of-append x (a ∷ xs) ys = ap (λ ns. node_of x a ∷ ns) (nodes_of-append (advanced x a) xs ys)

pub inodes_at-append : (x : Indexed) (xs ys : List Step) (k : ℕ) → inodes_at x (xs ++ ys) k ≡ inodes_at x xs k ++ inodes_at (advanced_all x xs) ys k
inodes_at-append x xs ys k =
    ap (λ ns. versions_of (inodes ns) k) (nodes_of-append x xs ys)
    ∙ ap (λ ms. versions_of ms k) (filter_map-append inode_in (nodes_of x xs) (nodes_of (advanced_all x xs) ys))
    ∙ filter-append (λ (node : InodeNode). k == node.ino) (inodes (nodes_of x xs)) (inodes (nodes_of (advanced_all x xs) ys))

-- ---- steps on one number

-- an inode node of another number, or none
abbrev IsOther : ℕ → NodeRef → Type 0
IsOther k (Inode node) = k ≢ node.ino
IsOther k (Entry entry) = Unit {0}

other_node : (k : ℕ) (n : NodeRef) (ns : List NodeRef) → IsOther k n → versions_of (inodes (n ∷ ns)) k ≡ versions_of (inodes ns) k
other_node k (Inode node) ns other = ap (λ b. cond b (node ∷ versions_of (inodes ns) k) (versions_of (inodes ns) k)) (ne_eqb k node.ino other)
other_node k (Entry entry) ns other = refl

-- a step makes no object, and what it writes of one is of this number
abbrev pub IsOn : ℕ → Step → Type 0
IsOn i (step.MakeObject time mode uid gid target) = ⊥
IsOn i (step.SetName time directory name ino) = Unit {0}
IsOn i (step.ClearName time directory name) = Unit {0}
IsOn i (step.Put time ino offset new) = ino ≡ i
IsOn i (step.Zero time ino count) = ino ≡ i
IsOn i (step.Cut time ino size) = ino ≡ i
IsOn i (step.SetAttributes time ino attributes) = ino ≡ i

elsewhere : (i k : ℕ) (x : Indexed) (s : Step) → IsOn i s → k ≢ i → IsOther k (node_of x s)
elsewhere i k x (step.MakeObject time mode uid gid target) on other = absurd on
elsewhere i k x (step.SetName time directory name ino) on other = tt
elsewhere i k x (step.ClearName time directory name) on other = tt
elsewhere i k x (step.Put time ino offset new) on other = λ (e : k ≡ ino). other (e ∙ on)
elsewhere i k x (step.Zero time ino count) on other = λ (e : k ≡ ino). other (e ∙ on)
elsewhere i k x (step.Cut time ino size) on other = λ (e : k ≡ ino). other (e ∙ on)
elsewhere i k x (step.SetAttributes time ino attributes) on other = λ (e : k ≡ ino). other (e ∙ on)

pub none_elsewhere : (i k : ℕ) (x : Indexed) (steps : List Step) → AllByRecursion (IsOn i) steps → k ≢ i → inodes_at x steps k ≡ []
none_elsewhere i k x [] on other = refl
none_elsewhere i k x (s ∷ steps) on other =
    other_node k (node_of x s) (nodes_of (advanced x s) steps) (elsewhere i k x s on.0 other) ∙ none_elsewhere i k (advanced x s) steps on.1 other

-- an object is made, and then written
pub made_elsewhere : (i k : ℕ) (x : Indexed) (time mode uid gid : ℕ) (target : List ℕ) (steps : List Step) → x.tree.next ≡ i → AllByRecursion (IsOn i) steps → k ≢ i
    → inodes_at x (step.MakeObject time mode uid gid target ∷ steps) k ≡ []
made_elsewhere i k x time mode uid gid target steps next on other =
    let s = step.MakeObject time mode uid gid target in
    other_node k (node_of x s) (nodes_of (advanced x s) steps) (λ (e : k ≡ x.tree.next). other (e ∙ next)) ∙ none_elsewhere i k (advanced x s) steps on other

one_fill : (i : ℕ) (node : InodeNode) (how : Fill) → i ≡ node.ino → node.fill ≡ how → newest_fill (Inode node ∷ []) i ≡ Some how
one_fill i node how own is =
    ap (λ b. option_map (λ (n : InodeNode). n.fill) (latest (cond b (node ∷ []) []))) (eq-eqb i node.ino own) ∙ ap (λ how. Some how) is

-- the data of the node by which an object is made that is then named
pub made_fill : (i : ℕ) (x : Indexed) (time mode uid gid : ℕ) (target : List ℕ) (later dir : ℕ) (name : List ℕ) (ino : ℕ) → x.tree.next ≡ i
    → newest_fill (nodes_of x (step.MakeObject time mode uid gid target ∷ step.SetName later dir name ino ∷ [])) i ≡ Some (Data target)
made_fill i x time mode uid gid target later dir name ino next =
    let own : i ≡ x.tree.next = sym next in
    one_fill i _ (Data target) own refl

-- ---- steps that follow one another

-- What was there stays, and no inode node but the root's is of a number that was there, or of one
-- that is not yet.
pub record Writes (x : Indexed) (s t : State) (steps : List Step) : Type 0 where
  pub next : s.next ≤ t.next
  pub keeps : (names : List (List ℕ)) (k : ℕ) → 1 < k → walk s names (Ok 1) ≡ Ok k → walk t names (Ok 1) ≡ Ok k
  pub kept : (k : ℕ) → 1 < k → k < s.next → inodes_at x steps k ≡ []
  pub fresh : (k : ℕ) → 1 < k → t.next ≤ k → inodes_at x steps k ≡ []

pub writes_none : (x : Indexed) (s : State) → Writes x s s []
writes_none x s = record {
  next = omega arith;
  keeps = λ names k some e. e;
  kept = λ k some less. refl;
  fresh = λ k some le. refl;
}

pub writes_then : (x : Indexed) (s t u : State) (xs ys : List Step) → Writes x s t xs → Writes (advanced_all x xs) t u ys → Writes x s u (xs ++ ys)
writes_then x s t u xs ys a b =
    let first : s.next ≤ t.next = a.next in
    let second : t.next ≤ u.next = b.next in
    record {
      next = omega arith;
      keeps = λ names k some e. b.keeps names k some (a.keeps names k some e);
      kept = λ k some less.
          let under : k < s.next = less in
          inodes_at-append x xs ys k ∙ ap₂ (λ (l m : List InodeNode). l ++ m) (a.kept k some less) (b.kept k some (omega arith));
      fresh = λ k some le.
          let over : u.next ≤ k = le in
          inodes_at-append x xs ys k ∙ ap₂ (λ (l m : List InodeNode). l ++ m) (a.fresh k some (omega arith)) (b.fresh k some le);
    }

-- names lead to an object that is new, and these are the data of its newest node
pub record Numbered (x : Indexed) (s t : State) (steps : List Step) (names : List (List ℕ)) (bytes : List ℕ) : Type 0 where
  pub number : ℕ
  pub below_root : 1 < number
  pub new : s.next ≤ number
  pub used : number < t.next
  pub leads : walk t names (Ok 1) ≡ Ok number
  pub fill_is : newest_fill (nodes_of x steps) number ≡ Some (Data bytes)

pub numbered_first : (x : Indexed) (s t u : State) (xs ys : List Step) (names : List (List ℕ)) (bytes : List ℕ) → Numbered x s t xs names bytes → Writes (advanced_all x xs) t u ys
    → Numbered x s u (xs ++ ys) names bytes
numbered_first x s t u xs ys names bytes n b =
    let k : ℕ = n.number in
    let used : k < t.next = n.used in
    let next : t.next ≤ u.next = b.next in
    let same : inodes_at x (xs ++ ys) k ≡ inodes_at x xs k =
    inodes_at-append x xs ys k ∙ ap (λ (l : List InodeNode). inodes_at x xs k ++ l) (b.kept k n.below_root used) ∙ append-nil (inodes_at x xs k) in
    record {
      number = k;
      below_root = n.below_root;
      new = n.new;
      used = omega arith;
      leads = b.keeps names k n.below_root n.leads;
      fill_is = ap (λ (l : List InodeNode). option_map (λ (m : InodeNode). m.fill) (latest l)) same ∙ n.fill_is;
    }

pub numbered_later : (x : Indexed) (s t u : State) (xs ys : List Step) (names : List (List ℕ)) (bytes : List ℕ) → Writes x s t xs → Numbered (advanced_all x xs) t u ys names bytes
    → Numbered x s u (xs ++ ys) names bytes
numbered_later x s t u xs ys names bytes a n =
    let k : ℕ = n.number in
    let new : t.next ≤ k = n.new in
    let next : s.next ≤ t.next = a.next in
    let same : inodes_at x (xs ++ ys) k ≡ inodes_at (advanced_all x xs) ys k =
    inodes_at-append x xs ys k ∙ ap (λ (l : List InodeNode). l ++ inodes_at (advanced_all x xs) ys k) (a.fresh k n.below_root new) in
    record {
      number = k;
      below_root = n.below_root;
      new = omega arith;
      used = n.used;
      leads = n.leads;
      fill_is = ap (λ (l : List InodeNode). option_map (λ (m : InodeNode). m.fill) (latest l)) same ∙ n.fill_is;
    }
