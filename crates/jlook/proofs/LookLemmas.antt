-- A look at an image, tile by tile.
use Rattle.std.proofs.Common.{◌≡◌, ℕ, ◌+◌, suc, get_or, drop, drop-cons, add-one, ◌<◌, ◌≤◌, Bool, List, [], ◌∷◌, ◌++◌, length, map, None, Some, refl, sym, ap, subst, ◌∙◌, arith, append_assoc, inl, inr}
use Rattle.std.specs.Prelude.{◌||◌, Contains, option_to_list}
use Rattle.std.proofs.lemmas.List.{append-nil, drop_all, map-append}
use Rattle.std.proofs.lemmas.List.Elements.{Contains-append_left, Contains-append_right, Contains-append_cases, filter_map-append}
use Rattle.std.proofs.lemmas.Grind.{flat_map-append}
use Rattle.flashbase.proofs.MemberLemmas.{Contains-here, Contains-none, Contains-cases}
use Rattle.jnode.specs.declared.node.NodeRef.{NodeRef}
use Rattle.jnode.specs.declared.node.Seen.{Seen}
use Rattle.jnode.specs.declared.node.Seen.TheVariants as seen
use Rattle.jnode.specs.declared.order.Endian.{Endian}
use Rattle.jscan.specs.Image.{sightings}
use Rattle.jscan.specs.Scans.{IsScannable, findings, forbids_writing, is_read_only}
use Rattle.jscan.specs.declared.finding.Finding.{Finding}
use Rattle.jscan.proofs.PartialScanLemmas.{any_forbids, or_again, or_false}
use Rattle.jexpand.specs.Expanded.{tile_content, contents_of_tiles, compressed_node_at}
use Rattle.jview.specs.Through.{greatest_contents, through_fault}
use Rattle.jthrough.specs.Refusals.{HasTileFault, IsRefusedBy}
use Rattle.jthrough.specs.View.{BeginWith, RefusesTile, HasTiles, kept_tile, placed_node, placed_nodes}
use Rattle.jthrough.specs.declared.fault.ViewFault.{ViewFault}
use Rattle.jthrough.specs.declared.fault.ViewFault.TheVariants as fault
use Rattle.jlook.specs.Look.{IsLookBegun, IsSightedIfPacked, AddsLooked, TakesLooked, EndsLook, IsLookAt}
use Rattle.jlook.specs.Looked.{Wants, looked_by, looked_tile}
use Rattle.jlook.specs.declared.look.Look.{Look}
use Rattle.jlook.proofs.LookedLemmas.{packed_sighted, looked_forbids}

-- ---- a tile that is kept, or not

kept_nodes : (e : Endian) (size : ℕ) (image : List ℕ) (s : ℕ × Seen) → placed_nodes e size image (option_to_list (kept_tile s)) ≡ placed_nodes e size image (s ∷ [])
kept_nodes e size image (addr, seen.Entry entry) = refl
kept_nodes e size image (addr, seen.Inode inode) = refl
kept_nodes e size image (addr, seen.Compressed compr) = refl
kept_nodes e size image (addr, _) = refl

kept_contents : (e : Endian) (size : ℕ) (image : List ℕ) (s : ℕ × Seen) → contents_of_tiles e size image (option_to_list (kept_tile s)) ≡ contents_of_tiles e size image (s ∷ [])
kept_contents e size image (addr, seen.Entry entry) = refl
kept_contents e size image (addr, seen.Inode inode) = refl
kept_contents e size image (addr, seen.Compressed compr) = refl
kept_contents e size image (addr, _) = refl

kept_among : (s t : ℕ × Seen) → Contains (option_to_list (kept_tile s)) t → Contains (s ∷ []) t
kept_among (addr, seen.Entry entry) t has = has
kept_among (addr, seen.Inode inode) t has = has
kept_among (addr, seen.Compressed compr) t has = has
kept_among (addr, seen.Marker) t has = absurd (Contains-none t has)
kept_among (addr, seen.Padding) t has = absurd (Contains-none t has)
kept_among (addr, seen.Obsolete) t has = absurd (Contains-none t has)
kept_among (addr, seen.Attribute) t has = absurd (Contains-none t has)
kept_among (addr, seen.Skippable nodetype) t has = absurd (Contains-none t has)
kept_among (addr, seen.ReadOnly nodetype) t has = absurd (Contains-none t has)
kept_among (addr, seen.Incompatible nodetype) t has = absurd (Contains-none t has)
kept_among (addr, seen.Damaged which) t has = absurd (Contains-none t has)

-- ---- what tiles come to

module _ (e : Endian) (size : ℕ) (image : List ℕ) where
  content_more : (done : List (ℕ × Seen)) (s : ℕ × Seen) → contents_of_tiles e size image (done ++ s ∷ []) ≡ contents_of_tiles e size image done ++ tile_content e size image s
  content_more done s =
      flat_map-append (tile_content e size image) done (s ∷ [])
      ∙ ap (λ (l : List ℕ). contents_of_tiles e size image done ++ l) (append-nil (tile_content e size image s))

  has_none : (held : List ℕ) (kept : List (ℕ × Seen)) → kept ≡ [] → HasTiles e size image [] kept held
  has_none held kept none = record {
    none = λ s has. absurd (Contains-none s has);
    among = λ s has. subst (λ (l : List (ℕ × Seen)). Contains l s) none has;
    nodes = ap (placed_nodes e size image) none;
    tiles = ap (contents_of_tiles e size image) none;
    contents = (held, refl);
    few = omega arith;
  }

  has_next : (done kept more : List (ℕ × Seen)) (s : ℕ × Seen) (before after : List ℕ) → HasTiles e size image done kept before → before ≡ contents_of_tiles e size image done
      → through_fault e size image s ≡ None → more ≡ kept ++ option_to_list (kept_tile s) → after ≡ before ++ tile_content e size image s → length after ≤ greatest_contents
      → HasTiles e size image (done ++ s ∷ []) more after
  has_next done kept more s before after has exact none more_is after_is few =
      let whole : after ≡ contents_of_tiles e size image (done ++ s ∷ []) =
      after_is ∙ ap (λ (l : List ℕ). l ++ tile_content e size image s) exact ∙ sym (content_more done s) in
      record {
        none = λ t there.
            elim (Contains-append_cases done (s ∷ []) t there) [
              | inl was ↦ has.none t was
              | inr is ↦ elim (Contains-cases s [] t is) [
                | inl same ↦ subst (λ (u : ℕ × Seen). through_fault e size image u ≡ None) same none
                | inr isnt ↦ absurd (Contains-none t isnt)
              ]
            ];
        among = λ t there.
            elim (Contains-append_cases kept (option_to_list (kept_tile s)) t (subst (λ (l : List (ℕ × Seen)). Contains l t) more_is there)) [
              | inl was ↦ Contains-append_left done (s ∷ []) t (has.among t was)
              | inr is ↦ Contains-append_right done (s ∷ []) t (kept_among s t is)
            ];
        nodes = ap (placed_nodes e size image) more_is
            ∙ filter_map-append (placed_node e size image) kept (option_to_list (kept_tile s))
            ∙ ap (λ (l : List (ℕ × NodeRef)). l ++ placed_nodes e size image (option_to_list (kept_tile s))) has.nodes
            ∙ ap (λ (l : List (ℕ × NodeRef)). placed_nodes e size image done ++ l) (kept_nodes e size image s)
            ∙ sym (filter_map-append (placed_node e size image) done (s ∷ []));
        tiles = ap (contents_of_tiles e size image) more_is
            ∙ flat_map-append (tile_content e size image) kept (option_to_list (kept_tile s))
            ∙ ap (λ (l : List ℕ). l ++ contents_of_tiles e size image (option_to_list (kept_tile s))) has.tiles
            ∙ ap (λ (l : List ℕ). contents_of_tiles e size image done ++ l) (kept_contents e size image s)
            ∙ sym (flat_map-append (tile_content e size image) done (s ∷ []));
        contents = ([], whole ∙ sym (append-nil (contents_of_tiles e size image (done ++ s ∷ []))));
        few = subst (λ (l : List ℕ). length l ≤ greatest_contents) whole few;
      }

  -- ---- a tile that refuses the image

  by_itself : (done : List (ℕ × Seen)) (tile : ℕ × Seen) (why : ViewFault) → HasTileFault (through_fault e size image tile) why → (why ≡ fault.OutOfMemory → ⊥)
      → IsRefusedBy e size image done tile why
  by_itself done tile (fault.Incompatible addr nodetype) has isnt = has
  by_itself done tile (fault.Compressed addr compr) has isnt = has
  by_itself done tile (fault.Data addr) has isnt = has
  by_itself done tile (fault.TooLong addr) has isnt = inl has
  by_itself done tile (fault.Clash addr) has isnt = absurd has
  by_itself done tile fault.BlockSize has isnt = has
  by_itself done tile fault.TooLarge has isnt = has
  by_itself done tile fault.RootKind has isnt = has
  by_itself done tile fault.OutOfMemory has isnt = absurd (isnt refl)

  refuses : (done : List (ℕ × Seen)) (tile : ℕ × Seen) (before after : List ℕ) (why : ViewFault) → before ≡ contents_of_tiles e size image done
      → RefusesTile e size image tile before after why → IsRefusedBy e size image done tile why
  refuses done tile before after why exact r =
      elim r.why_is [
        | inl itself ↦ by_itself done tile why itself.0 itself.1
        | inr passes ↦
            subst (IsRefusedBy e size image done tile) (sym passes.0)
            (inr (
              refl,
              (
                passes.1,
                subst (λ (l : List ℕ). greatest_contents < length l) (ap (λ (l : List ℕ). l ++ tile_content e size image tile) exact ∙ sym (content_more done tile)) passes.2,
              ),
            ))
      ]

  begin_more : (front before after : List ℕ) → before ≡ front → BeginWith before after → BeginWith front after
  begin_more front before after same more = (more.0, more.1 ∙ ap (λ (l : List ℕ). l ++ more.0) same)

-- ---- the tiles that are left

pub left_next : (all items : List (ℕ × Seen)) (i : ℕ) (x : ℕ × Seen) → items ≡ all → i < length items → x ≡ get_or items i x → drop i all ≡ x ∷ drop (i + 1) all
left_next all items i x same within is =
    drop-cons all i x (subst (λ (l : List (ℕ × Seen)). i < length l) same within)
    ∙ ap (λ (y : ℕ × Seen). y ∷ drop (suc i) all) (sym (is ∙ ap (λ (l : List (ℕ × Seen)). get_or l i x) same))
    ∙ ap (λ (n : ℕ). x ∷ drop n all) (sym (add-one i))

pub left_end : (all items : List (ℕ × Seen)) (i : ℕ) → items ≡ all → length items ≤ i → drop i all ≡ []
left_end all items i same past = drop_all i all (subst (λ (l : List (ℕ × Seen)). length l ≤ i) same past)

module _ (wants : Wants) (e : Endian) (size : ℕ) (image : List ℕ) where
  -- ---- a look on the way

  -- what it has of the tiles so far, and what is left
  pub record Looking (left : List (ℕ × Seen)) (look : Look) (held : List ℕ) : Type 0 where
    pub done : List (ℕ × Seen)
    pub split : sightings e size image ≡ done ++ left
    pub has : HasTiles e size image (map (looked_tile wants e size image) done) look.tiles.items held
    pub exact : held ≡ contents_of_tiles e size image (map (looked_tile wants e size image) done)
    pub found : look.findings.items ≡ []
    pub forbids : is_read_only e size image ≡ (look.read_only || any_forbids left)
    pub going : look.refused ≡ None

  pub looking_start : (left : List (ℕ × Seen)) (look : Look) (held : List ℕ) → left ≡ sightings e size image → IsLookBegun look → held ≡ [] → Looking left look held
  looking_start left look held all begun empty = record {
    done = [];
    split = sym all;
    has = has_none e size image held look.tiles.items begun.tiles;
    exact = empty;
    found = begun.findings;
    forbids = ap any_forbids (sym all) ∙ ap (λ (b : Bool). b || any_forbids left) (sym begun.read_only);
    going = begun.refused;
  }

  pub looking_sighted : (now left : List (ℕ × Seen)) (tile : ℕ × Seen) (look : Look) (held : List ℕ) → Looking now look held → now ≡ tile ∷ left → Contains (sightings e size image) tile
  looking_sighted now left tile look held v first =
      subst (λ (l : List (ℕ × Seen)). Contains l tile) (sym (v.split ∙ ap (λ (l : List (ℕ × Seen)). v.done ++ l) first))
      (Contains-append_right v.done (tile ∷ left) tile (Contains-here tile left))

  pub looking_packed : (now left : List (ℕ × Seen)) (addr : ℕ) (what shown : Seen) (look : Look) (held : List ℕ) → Looking now look held → now ≡ (addr, what) ∷ left
      → shown ≡ looked_by wants (compressed_node_at e size image addr) what → IsSightedIfPacked e size image (addr, shown)
  looking_packed now left addr what shown look held v first is =
      subst (λ (w : Seen). IsSightedIfPacked e size image (addr, w)) (sym is)
      (packed_sighted wants e size image (addr, what) (looking_sighted now left (addr, what) look held v first))

  -- the tile as it is looked at
  shown_tile : (addr : ℕ) (what shown : Seen) → shown ≡ looked_by wants (compressed_node_at e size image addr) what → ◌≡◌ {A = ℕ × Seen} (addr, shown) (looked_tile wants e size image (addr, what))
  shown_tile addr what shown is = ap (λ (w : Seen). (addr, w)) is

  one_more : (done : List (ℕ × Seen)) (addr : ℕ) (what shown : Seen) → shown ≡ looked_by wants (compressed_node_at e size image addr) what
      → map (looked_tile wants e size image) done ++ (addr, shown) ∷ [] ≡ map (looked_tile wants e size image) (done ++ (addr, what) ∷ [])
  one_more done addr what shown is =
      ap (λ (t : ℕ × Seen). map (looked_tile wants e size image) done ++ t ∷ []) (shown_tile addr what shown is)
      ∙ sym (map-append (looked_tile wants e size image) done ((addr, what) ∷ []))

  -- a tile that is added
  pub looking_next : (now left : List (ℕ × Seen)) (addr : ℕ) (what shown : Seen) (old new : Look) (before after : List ℕ) → Looking now old before → now ≡ (addr, what) ∷ left
      → shown ≡ looked_by wants (compressed_node_at e size image addr) what → TakesLooked e size image (addr, shown) old new before after → new.refused ≡ None → Looking left new after
  looking_next now left addr what shown old new before after v first is takes going =
      let tile : ℕ × Seen = (addr, what) in
      let adds : AddsLooked e size image (addr, shown) old new before after = takes.adds going in
      let more = one_more v.done addr what shown is in
      record {
        done = v.done ++ tile ∷ [];
        split = v.split ∙ ap (λ (l : List (ℕ × Seen)). v.done ++ l) first ∙ sym (append_assoc v.done (tile ∷ []) left);
        has = subst (λ (l : List (ℕ × Seen)). HasTiles e size image l new.tiles.items after) more
            (has_next e size image (map (looked_tile wants e size image) v.done) old.tiles.items new.tiles.items (addr, shown) before after v.has v.exact adds.none adds.tiles adds.contents adds.few);
        exact = adds.contents ∙ ap (λ (l : List ℕ). l ++ tile_content e size image (addr, shown)) v.exact ∙ sym (content_more e size image (map (looked_tile wants e size image) v.done) (addr, shown))
            ∙ ap (contents_of_tiles e size image) more;
        found = takes.findings ∙ v.found;
        forbids = v.forbids ∙ ap (λ (l : List (ℕ × Seen)). old.read_only || any_forbids l) first
            ∙ or_again old.read_only (forbids_writing what) (any_forbids left)
            ∙ ap (λ (b : Bool). (old.read_only || b) || any_forbids left) (sym (ap forbids_writing is ∙ looked_forbids wants (compressed_node_at e size image addr) what))
            ∙ ap (λ (b : Bool). b || any_forbids left) (sym adds.read_only);
        going = going;
      }

  -- ---- a tile that refuses the image

  pub looking_refused : (now left : List (ℕ × Seen)) (addr : ℕ) (what shown : Seen) (old new : Look) (before after : List ℕ) (why : ViewFault) → IsScannable size image
      → Looking now old before → now ≡ (addr, what) ∷ left → shown ≡ looked_by wants (compressed_node_at e size image addr) what
      → TakesLooked e size image (addr, shown) old new before after → new.refused ≡ Some why → IsLookAt wants e size image after new
  looking_refused now left addr what shown old new before after why scannable v first is takes refused =
      let both = takes.refuses why refused in
      let r : RefusesTile e size image (addr, shown) before after why = both.0 in
      let tiles_are : new.tiles.items ≡ old.tiles.items = both.1 in
      let behind : List (ℕ × Seen) = map (looked_tile wants e size image) left in
      record {
        scannable = scannable;
        done = map (looked_tile wants e size image) v.done;
        rest = (addr, shown) ∷ behind;
        all = ap (map (looked_tile wants e size image)) (v.split ∙ ap (λ (l : List (ℕ × Seen)). v.done ++ l) first)
            ∙ map-append (looked_tile wants e size image) v.done ((addr, what) ∷ left)
            ∙ ap (λ (t : ℕ × Seen). map (looked_tile wants e size image) v.done ++ t ∷ behind) (sym (shown_tile addr what shown is));
        has = record {
          none = v.has.none;
          among = λ t there. v.has.among t (subst (λ (l : List (ℕ × Seen)). Contains l t) tiles_are there);
          nodes = ap (placed_nodes e size image) tiles_are ∙ v.has.nodes;
          tiles = ap (contents_of_tiles e size image) tiles_are ∙ v.has.tiles;
          contents = begin_more e size image (contents_of_tiles e size image (map (looked_tile wants e size image) v.done)) before after v.exact r.contents;
          few = v.has.few;
        };
        ends = subst (EndsLook e size image (map (looked_tile wants e size image) v.done) ((addr, shown) ∷ behind) new) (sym refused)
            ((addr, shown), behind, refl, refuses e size image (map (looked_tile wants e size image) v.done) (addr, shown) before after why v.exact r);
      }

  -- ---- the end, when the findings are added

  pub looking_end : (left : List (ℕ × Seen)) (old new : Look) (held : List ℕ) (all : List Finding) → IsScannable size image → Looking left old held → left ≡ []
      → all ≡ findings e size image → new.findings.items ≡ old.findings.items ++ all → new.tiles.items ≡ old.tiles.items → new.read_only ≡ old.read_only → new.refused ≡ old.refused
      → IsLookAt wants e size image held new
  looking_end left old new held all scannable v empty all_are found tiles forbids refused =
      record {
        scannable = scannable;
        done = map (looked_tile wants e size image) v.done;
        rest = [];
        all = ap (map (looked_tile wants e size image)) (v.split ∙ ap (λ (l : List (ℕ × Seen)). v.done ++ l) empty ∙ append-nil v.done) ∙ sym (append-nil (map (looked_tile wants e size image) v.done));
        has = subst (λ (l : List (ℕ × Seen)). HasTiles e size image (map (looked_tile wants e size image) v.done) l held) (sym tiles) v.has;
        ends = subst (EndsLook e size image (map (looked_tile wants e size image) v.done) [] new) (sym (refused ∙ v.going)) (
          refl,
          found ∙ ap (λ (l : List Finding). l ++ all) v.found ∙ all_are,
          forbids ∙ sym (v.forbids ∙ ap (λ (l : List (ℕ × Seen)). old.read_only || any_forbids l) empty ∙ or_false old.read_only),
        );
      }
