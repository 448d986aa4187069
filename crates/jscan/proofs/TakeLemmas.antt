-- A scan that takes in one extent more.
use Rattle.std.proofs.Common.{◌≡◌, ℕ, Bool, List, [], ◌∷◌, ◌++◌, refl, sym, ap, ◌∙◌, true, false, Option, None, Some, Result, Ok, Err, OnOk}
use Rattle.std.specs.Prelude.{filter_map, ◌||◌, option_to_list}
use Rattle.std.specs.Option.{is_some, option_or}
use Rattle.std.proofs.lemmas.List.{append-nil}
use Rattle.std.proofs.lemmas.List.Elements.{filter_map-append}
use Rattle.jnode.specs.declared.node.NodeRef.{NodeRef}
use Rattle.jnode.specs.declared.node.Seen.{Seen}
use Rattle.jnode.specs.declared.order.Endian.{Endian}
use Rattle.jscan.specs.Extents.{sighted}
use Rattle.jscan.specs.Findings.{finding_of, refused, refusal_of}
use Rattle.jscan.specs.Image.{node_sighted}
use Rattle.jscan.specs.PartialScans.{Adds, HasScanned, IsScanOf, node_at, is_forbidding}
use Rattle.jscan.specs.Scans.{IsScannable, forbids_writing, refusal_by, refusal_among, before_refusal, image_extents}
use Rattle.jscan.specs.declared.answer.PartialScan.{PartialScan}
use Rattle.jscan.specs.declared.extent.Extent.{Extent}
use Rattle.jscan.specs.declared.extent.ExtentKind.{ExtentKind}
use Rattle.jscan.specs.declared.extent.ExtentKind.TheVariants.{Tiled, Erased, OtherOrder, Dirt}
use Rattle.jscan.specs.declared.finding.Finding.{Finding}
use Rattle.jscan.specs.declared.geometry.ScanFault.{ScanFault}
use Rattle.jscan.proofs.ImageLemmas.{image_sighted}
use Rattle.jscan.proofs.PartialScanLemmas.{any_forbids, nodes_among, before_open, before_shut, before_none, refusal_open, refusal_shut, cons_append, nodes_step, read_only_step, or_again, or_false}

-- ---- sightings one after another

or_apart : (o p q : Option ScanFault) → option_or o (option_or p q) ≡ option_or (option_or o p) q
or_apart None p q = refl
or_apart (Some fault) p q = refl

refusal_append : (xs ys : List (ℕ × Seen)) → refusal_among (xs ++ ys) ≡ option_or (refusal_among xs) (refusal_among ys)
refusal_append [] ys = refl
refusal_append (x ∷ xs) ys =
    ap (option_or (refusal_by x)) (refusal_append xs ys) ∙ or_apart (refusal_by x) (refusal_among xs) (refusal_among ys)

-- where nothing of the first is refused
before_append : (xs ys : List (ℕ × Seen)) → refusal_among xs ≡ None → before_refusal (xs ++ ys) ≡ xs ++ before_refusal ys
before_append [] ys none = refl
before_append (x ∷ xs) ys none = by_cases (before_append xs ys) (refusal_by x) refl
  where
    by_cases : (refusal_among xs ≡ None → before_refusal (xs ++ ys) ≡ xs ++ before_refusal ys) → (o : Option ScanFault) → refusal_by x ≡ o
        → before_refusal (x ∷ (xs ++ ys)) ≡ x ∷ (xs ++ before_refusal ys)
    by_cases next None is = before_open x (xs ++ ys) is ∙ ap (λ (l : List (ℕ × Seen)). x ∷ l) (next (sym (refusal_open x xs is) ∙ none))
    by_cases next (Some fault) is = let bad : Some fault ≡ None = sym (refusal_shut x xs fault is) ∙ none in cc

-- after a refusal nothing counts
before_same : (xs ys : List (ℕ × Seen)) (why : ScanFault) → refusal_among xs ≡ Some why → before_refusal (xs ++ ys) ≡ before_refusal xs
before_same [] ys why some = cc
before_same (x ∷ xs) ys why some = by_cases (before_same xs ys why) (refusal_by x) refl
  where
    by_cases : (refusal_among xs ≡ Some why → before_refusal (xs ++ ys) ≡ before_refusal xs) → (o : Option ScanFault) → refusal_by x ≡ o
        → before_refusal (x ∷ (xs ++ ys)) ≡ before_refusal (x ∷ xs)
    by_cases next None is =
        before_open x (xs ++ ys) is ∙ ap (λ (l : List (ℕ × Seen)). x ∷ l) (next (sym (refusal_open x xs is) ∙ some)) ∙ sym (before_open x xs is)
    by_cases next (Some fault) is = before_shut x (xs ++ ys) fault is ∙ sym (before_shut x xs fault is)

nodes_append : (xs ys : List (ℕ × Seen)) → refusal_among xs ≡ None → nodes_among (xs ++ ys) ≡ nodes_among xs ++ nodes_among ys
nodes_append xs ys none =
    ap (filter_map node_sighted) (before_append xs ys none)
    ∙ filter_map-append node_sighted xs (before_refusal ys)
    ∙ ap (λ (l : List (ℕ × Seen)). filter_map node_sighted l ++ nodes_among ys) (sym (before_none xs none))

forbids_append : (xs ys : List (ℕ × Seen)) → any_forbids (xs ++ ys) ≡ (any_forbids xs || any_forbids ys)
forbids_append [] ys = refl
forbids_append (x ∷ xs) ys =
    ap (λ (b : Bool). forbids_writing x.1 || b) (forbids_append xs ys) ∙ or_again (forbids_writing x.1) (any_forbids xs) (any_forbids ys)

-- ---- one extent

one_refusal : (addr len : ℕ) (kind : ExtentKind) → refusal_among (filter_map sighted (record { addr = addr; len = len; kind = kind } ∷ [])) ≡ refused addr kind
one_refusal addr len (Tiled what) = by (refused addr (Tiled what))
  where
    by : (o : Option ScanFault) → option_or o None ≡ o
    by None = refl
    by (Some fault) = refl
one_refusal addr len Erased = refl
one_refusal addr len OtherOrder = refl
one_refusal addr len Dirt = refl

-- in front of a refused extent there is nothing of it
one_refused : (addr len : ℕ) (kind : ExtentKind) (why : ScanFault) → refused addr kind ≡ Some why
    → nodes_among (filter_map sighted (record { addr = addr; len = len; kind = kind } ∷ [])) ≡ []
one_refused addr len (Tiled what) why some = ap (filter_map node_sighted) (before_shut (addr, what) [] why some)
one_refused addr len Erased why some = cc
one_refused addr len OtherOrder why some = cc
one_refused addr len Dirt why some = cc

module _ (ss : List Extent) (s : Extent) (old new : PartialScan) (has : HasScanned ss old) where
  more : filter_map sighted (ss ++ s ∷ []) ≡ filter_map sighted ss ++ filter_map sighted (s ∷ [])
  more = filter_map-append sighted ss (s ∷ [])

  refusal_more : refusal_among (filter_map sighted (ss ++ s ∷ [])) ≡ option_or old.refused (refusal_of s)
  refusal_more =
      ap refusal_among more ∙ refusal_append (filter_map sighted ss) (filter_map sighted (s ∷ []))
      ∙ ap (λ (o : Option ScanFault). option_or o (refusal_among (filter_map sighted (s ∷ [])))) (sym has.refused)
      ∙ ap (option_or old.refused) (one_refusal s.addr s.len s.kind)

  -- what comes after a refusal
  pub taken_after : (why : ScanFault) → old.refused ≡ Some why → HasScanned (ss ++ s ∷ []) old
  taken_after why some = record {
    refused = some ∙ sym (refusal_more ∙ ap (λ (o : Option ScanFault). option_or o (refusal_of s)) some);
    nodes = has.nodes
        ∙ ap (filter_map node_sighted) (sym (before_same (filter_map sighted ss) (filter_map sighted (s ∷ [])) why (sym has.refused ∙ some)))
        ∙ ap nodes_among (sym more);
    findings = λ none. absurd (no_refusal why old.refused some none);
    read_only = λ none. absurd (no_refusal why old.refused some none);
  }
    where
      no_refusal : (f : ScanFault) (o : Option ScanFault) → o ≡ Some f → o ≡ None → ⊥
      no_refusal f o is_some is_none = let bad : Some f ≡ None = sym is_some ∙ is_none in cc

  nodes_more : old.refused ≡ None → nodes_among (filter_map sighted (ss ++ s ∷ [])) ≡ old.nodes.items ++ nodes_among (filter_map sighted (s ∷ []))
  nodes_more none =
      ap nodes_among more ∙ nodes_append (filter_map sighted ss) (filter_map sighted (s ∷ [])) (sym has.refused ∙ none)
      ∙ ap (λ (l : List (ℕ × NodeRef)). l ++ nodes_among (filter_map sighted (s ∷ []))) (sym has.nodes)

  -- the refusal
  pub taken_refused : (why : ScanFault) → old.refused ≡ None → refusal_of s ≡ Some why → new.nodes.items ≡ old.nodes.items → new.refused ≡ Some why
      → HasScanned (ss ++ s ∷ []) new
  taken_refused why none some same is = record {
    refused = is ∙ sym (refusal_more ∙ ap (λ (o : Option ScanFault). option_or o (refusal_of s)) none ∙ some);
    nodes = same ∙ sym (nodes_more none
        ∙ ap (λ (l : List (ℕ × NodeRef)). old.nodes.items ++ l) (one_refused s.addr s.len s.kind why some) ∙ append-nil old.nodes.items);
    findings = λ not. absurd (no_refusal new.refused is not);
    read_only = λ not. absurd (no_refusal new.refused is not);
  }
    where
      no_refusal : (o : Option ScanFault) → o ≡ Some why → o ≡ None → ⊥
      no_refusal o is_some is_none = let bad : Some why ≡ None = sym is_some ∙ is_none in cc

  -- any other
  pub taken_in : old.refused ≡ None → refusal_of s ≡ None → Adds old new s → HasScanned (ss ++ s ∷ []) new
  taken_in none free adds = record {
    refused = adds.refused ∙ none ∙ sym (refusal_more ∙ ap (λ (o : Option ScanFault). option_or o (refusal_of s)) none ∙ free);
    nodes = adds.nodes ∙ sym (append-nil (old.nodes.items ++ node_at s.addr s.kind)) ∙ sym (nodes_step s.addr s.len s.kind [] old.nodes.items free) ∙ sym (nodes_more none);
    findings = λ not. adds.findings ∙ sym (append-nil (old.findings.items ++ option_to_list (finding_of s)))
        ∙ sym (cons_append old.findings.items (finding_of s) [])
        ∙ ap (λ (l : List Finding). l ++ filter_map finding_of (s ∷ [])) (has.findings none)
        ∙ sym (filter_map-append finding_of ss (s ∷ []));
    read_only = λ not. adds.read_only ∙ sym (or_false (old.read_only || is_forbidding s.kind)) ∙ sym (read_only_step s.addr s.len s.kind [] old.read_only)
        ∙ ap (λ (b : Bool). b || any_forbids (filter_map sighted (s ∷ []))) (has.read_only none)
        ∙ sym (ap any_forbids more ∙ forbids_append (filter_map sighted ss) (filter_map sighted (s ∷ [])));
  }

-- ---- as the code tells them apart

pub at_refusal : (o : Option ScanFault) (b : Bool) → b ≡ is_some o → b ≡ true → (why : ScanFault) × (o ≡ Some why)
at_refusal None b is so = let bad : false ≡ true = sym is ∙ so in cc
at_refusal (Some why) b is so = (why, refl)

pub at_none : (o : Option ScanFault) (b : Bool) → b ≡ is_some o → b ≡ false → o ≡ None
at_none None b is so = refl
at_none (Some why) b is so = let bad : true ≡ false = sym is ∙ so in cc

pub if_ok : {T E A B : Type 0} (r : Result T E) → OnOk r A → (A → B) → OnOk r B
if_ok (Ok x) holds then = then holds
if_ok (Err e) holds then = tt

-- ---- of an image

pub scanned_image : (e : Endian) (size : ℕ) (image : List ℕ) (partial : PartialScan) → IsScannable size image
    → HasScanned (image_extents e size image) partial → IsScanOf e size image partial
scanned_image e size image partial scannable has =
    let is = image_sighted e size image in
    record {
      scannable = scannable;
      refused = has.refused ∙ ap refusal_among is;
      nodes = has.nodes ∙ ap nodes_among is;
      findings = has.findings;
      read_only = λ none. has.read_only none ∙ ap any_forbids is;
    }
