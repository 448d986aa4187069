-- An image of the nodes that matter shows the same tree.
use Rattle.std.proofs.Common.{◌≡◌, ℕ, ◌<◌, true, List, [], length, get_or, refl, ap, sym, subst, ◌∙◌, arith, ⊎_elim}
use Rattle.std.specs.Prelude.{◌⊎◌, Contains}
use Rattle.std.specs.List.{AllPairs}
use Rattle.std.proofs.lemmas.Bool.{cases_order}
use Rattle.std.proofs.lemmas.List.{get_or_default}
use Rattle.flashbase.proofs.MemberLemmas.{Contains-map_from}
use Rattle.jnode.specs.declared.order.Endian.{Endian}
use Rattle.jnode.specs.declared.node.NodeRef.{NodeRef}
use Rattle.jnode.specs.declared.node.NodeRef.TheVariants.{Entry, Inode}
use Rattle.jscan.specs.Image.{nodes}
use Rattle.jmount.specs.Clash.{IsClashAt, NodesClash, NoneClash}
use Rattle.jmount.specs.Collected.{without_addresses}
use Rattle.jmount.specs.Find.{find, path_names}
use Rattle.jmount.specs.Mounts.{state}
use Rattle.jmount.specs.StateOf.{state_of}
use Rattle.jmount.specs.Tree.{State, dangling, is_there, object}
use Rattle.jmount.specs.declared.fault.MountFault.TheVariants as fault
use Rattle.jmount.proofs.ClashLemmas.{clashes_sym}
use Rattle.jmount.proofs.NumbersLemmas.{object-state_of}
use Rattle.jcompact.specs.Compacted.{IsCompactOf}
use Rattle.jcompact.specs.Matters.{NamesLeadTo, Placed}
use Rattle.jcompact.proofs.ImageLemmas.{nodes_in_order}
use Rattle.jcompact.proofs.ObjectLemmas.{object_kept}
use Rattle.jcompact.proofs.PartLemmas.{all_reached, none_dangle}
use Rattle.jcompact.proofs.PathLemmas.{find_same}

-- ---- no two nodes of a sound image clash

not_itself : (x : NodeRef) → NodesClash x x → ⊥
not_itself (Entry entry) clash = clash.contents refl
not_itself (Inode node) clash = clash.contents refl

module _ (ns : List Placed) (up : AllPairs (λ m n. m.0 < n.0) ns) (none : (addr : ℕ) → IsClashAt ns addr → ⊥) where
  at_places : (m n : Placed) → Contains ns m → Contains ns n → NodesClash m.1 n.1 → ⊥
  at_places m n (k, k_in, at_k) (j, j_in, at_j) clash =
      ⊎_elim
      (λ (same : k ≡ j).
      let one : m ≡ n = sym at_k ∙ ap (λ (i : ℕ). get_or ns i m) same ∙ get_or_default ns j m n j_in ∙ at_j in
      not_itself n.1 (subst (λ (x : Placed). NodesClash x.1 n.1) one clash))
      (λ (other : (k < j) ⊎ (j < k)).
      ⊎_elim
      (λ (less : k < j). let below = in_order m n k j at_k at_j k_in j_in less in
      none n.0 (n.1, m.0, m.1, (j, j_in, at_j), (k, k_in, at_k), below, clashes_sym m.1 n.1 clash))
      (λ (less : j < k). let below = in_order n m j k at_j at_k j_in k_in less in
      none m.0 (m.1, n.0, n.1, (k, k_in, at_k), (j, j_in, at_j), below, clash))
      other)
      (cases_order k j)
    where
      in_order : (x y : Placed) (a b : ℕ) → get_or ns a x ≡ x → get_or ns b y ≡ y → a < length ns → b < length ns → a < b → x.0 < y.0
      in_order x y a b at_a at_b a_in b_in less =
          let ranks : (get_or ns a x).0 < (get_or ns b x).0 = up a b x less b_in in
          let first : (get_or ns a x).0 ≡ x.0 = ap (λ (p : Placed). p.0) at_a in
          let last : (get_or ns b x).0 ≡ y.0 = ap (λ (p : Placed). p.0) (get_or_default ns b x y b_in ∙ at_b) in
          omega (arith, ranks, first, last)

  none_clash : NoneClash (without_addresses ns)
  none_clash a b in_a in_b clash =
      let x = Contains-map_from (λ (p : Placed). p.1) ns a in_a in
      let y = Contains-map_from (λ (p : Placed). p.1) ns b in_b in
      at_places x.0 y.0 x.1 y.1 (subst (λ (r : NodeRef). NodesClash r y.0.1) (sym x.2) (subst (λ (r : NodeRef). NodesClash a r) (sym y.2) clash))

-- ---- the same tree

module _ (e : Endian) (size : ℕ) (image compact : List ℕ) (is : IsCompactOf e size image compact) where
  abbrev ns : List Placed
  ns = nodes e size image

  apart : NoneClash (without_addresses ns)
  apart = none_clash ns (nodes_in_order e size image) (λ addr at. is.sound.1 addr (fault.Clash addr) (refl, at))

  made : state e size compact ≡ state_of (without_addresses is.kept)
  made = ap state_of is.same

  pub compact_paths : (text : List ℕ) → find (state e size compact) text ≡ find (state e size image) text
  compact_paths text = ap (λ (s : State). find s text) made ∙ find_same ns is.kept is.matter.0 apart is.matter.1 is.matter.2 (path_names text)

  pub compact_objects : (i : ℕ) → NamesLeadTo (state e size image) i → object (state e size compact) i ≡ object (state e size image) i
  compact_objects i leads =
      ap (λ (s : State). object s i) made ∙ object-state_of (without_addresses is.kept) i
      ∙ object_kept ns is.kept is.matter.0 apart is.matter.2 i ((is.matter.1 i).1 leads) ∙ sym (object-state_of (without_addresses ns) i)

  pub compact_names : dangling (state e size compact) ≡ []
  compact_names = ap dangling made ∙ none_dangle ns is.kept is.matter.0 apart is.matter.1 is.matter.2

  pub compact_reached : (i : ℕ) → is_there (state e size compact) i ≡ true → NamesLeadTo (state e size compact) i
  compact_reached i there =
      subst (λ (s : State). NamesLeadTo s i) (sym made)
      (all_reached ns is.kept is.matter.0 apart is.matter.1 is.matter.2 i (sym (ap (λ (s : State). is_there s i) made) ∙ there))
