-- The tiles of a revision, taken one by one.
use Rattle.std.proofs.Common.{◌≡◌, ℕ, ◌+◌, ◌<◌, ◌≤◌, Bool, true, false, cond, List, [], ◌∷◌, ◌++◌, length, None, Some, Option, refl, sym, ap, subst, ◌∙◌, arith, append_assoc, inl, inr, Contains, nat_le}
use Rattle.std.specs.Prelude.{filter}
use Rattle.std.specs.Option.{is_none, option_or}
use Rattle.std.proofs.lemmas.List.{append-nil}
use Rattle.std.proofs.lemmas.List.Elements.{Contains-append_right, Contains-append_cases}
use Rattle.std.proofs.lemmas.Grind.{flat_map-append}
use Rattle.flashbase.proofs.MemberLemmas.{Contains-here, Contains-none, Contains-cases}
use Rattle.jnode.specs.Header.{header_len}
use Rattle.jnode.specs.Reading.{inode_len}
use Rattle.jnode.specs.declared.node.CompressedNode.{CompressedNode}
use Rattle.jnode.specs.declared.node.Seen.{Seen}
use Rattle.jnode.specs.declared.node.Seen.TheVariants as seen
use Rattle.jnode.specs.declared.order.Endian.{Endian}
use Rattle.jscan.specs.Image.{sightings}
use Rattle.jscan.specs.Scans.{IsScannable}
use Rattle.jcompr.specs.Content.{method_of}
use Rattle.jexpand.specs.Expanded.{compressed_node_at, contents_of_tiles, node_content, tile_content}
use Rattle.jexpand.specs.Refused.{compressed_fault}
use Rattle.jexpand.specs.declared.fault.ConvertFault.{ConvertFault}
use Rattle.jexpand.specs.declared.fault.ConvertFault.TheVariants as convert
use Rattle.jview.specs.Through.{greatest_contents, through_fault}
use Rattle.jthrough.specs.Refusals.{HasTileFault, IsRefusedBy}
use Rattle.jthrough.specs.declared.fault.ViewFault.{ViewFault}
use Rattle.jthrough.specs.declared.fault.ViewFault.TheVariants as fault
use Rattle.jversions.specs.Taking.{HoldsTile, IsFirstRefused, IsUntaken, RefusesHeld}
use Rattle.jversions.specs.Tiles.{AreTilesHeld, takes_tile, tiles_upto}
use Rattle.jversions.specs.declared.revision.Revision.{Revision}

-- ---- a node that is taken is of no unknown type

is_unknown : Option ConvertFault → Bool
is_unknown (Some (convert.Incompatible addr nodetype)) = true
is_unknown _ = false

judged : ℕ → ℕ → Bool → Bool → Bool → Option ConvertFault
judged addr compr unread fits empty =
    cond unread (Some (convert.Compressed addr compr))
    (option_or (cond fits None (Some (convert.TooLong addr))) (cond empty (Some (convert.Data addr)) None))

judged_known : (addr compr : ℕ) (unread fits empty : Bool) → is_unknown (judged addr compr unread fits empty) ≡ false
unfolding judged is_unknown
judged_known addr compr true fits empty = refl
judged_known addr compr false false empty = refl
judged_known addr compr false true true = refl
judged_known addr compr false true false = refl

compressed_known : (size addr : ℕ) (packed : CompressedNode) → is_unknown (compressed_fault size addr packed) ≡ false
unfolding judged
compressed_known size addr packed =
    judged_known addr packed.compr (is_none (method_of packed.compr)) (nat_le (header_len + (inode_len + packed.dsize)) size) (is_none (node_content packed))

module _ (r : Revision) (e : Endian) (size : ℕ) (image : List ℕ) where
  taken_known : (s : ℕ × Seen) → takes_tile r e size image s ≡ true → is_unknown (through_fault e size image s) ≡ false
  unfolding is_unknown
  taken_known (addr, seen.Inode inode) taken = refl
  taken_known (addr, seen.Compressed compr) taken = compressed_known size addr (compressed_node_at e size image addr)
  taken_known (addr, seen.Entry entry) taken = refl
  taken_known (addr, seen.Marker) taken = refl
  taken_known (addr, seen.Padding) taken = refl
  taken_known (addr, seen.Obsolete) taken = refl
  taken_known (addr, seen.Attribute) taken = refl
  taken_known (addr, seen.Skippable nodetype) taken = refl
  taken_known (addr, seen.ReadOnly nodetype) taken = refl
  taken_known (addr, seen.Incompatible nodetype) taken = absurd (cc)
  taken_known (addr, seen.Damaged which) taken = refl

  none_unknown : (s : ℕ × Seen) (addr nodetype : ℕ) → takes_tile r e size image s ≡ true → through_fault e size image s ≡ Some (convert.Incompatible addr nodetype) → ⊥
  unfolding is_unknown
  none_unknown s addr nodetype taken is =
      let bad : false ≡ true = sym (taken_known s taken) ∙ ap is_unknown is in cc

  -- ---- on the way

  -- what is taken of the tiles so far, and what is left
  pub record Taking (left tiles : List (ℕ × Seen)) (held : List ℕ) : Type 0 where
    pub done : List (ℕ × Seen)
    pub split : sightings e size image ≡ done ++ left
    pub taken : tiles ≡ filter (takes_tile r e size image) done
    pub sound : AreTilesHeld e size image tiles
    pub exact : held ≡ contents_of_tiles e size image tiles

  filter_more : (done left : List (ℕ × Seen)) → filter (takes_tile r e size image) (done ++ left) ≡ filter (takes_tile r e size image) done ++ filter (takes_tile r e size image) left
  filter_more [] left = refl
  filter_more (s ∷ done) left = one (filter_more done left) (takes_tile r e size image s)
    where
      one : filter (takes_tile r e size image) (done ++ left) ≡ filter (takes_tile r e size image) done ++ filter (takes_tile r e size image) left → (b : Bool)
          → cond b (s ∷ filter (takes_tile r e size image) (done ++ left)) (filter (takes_tile r e size image) (done ++ left))
          ≡ cond b (s ∷ filter (takes_tile r e size image) done) (filter (takes_tile r e size image) done) ++ filter (takes_tile r e size image) left
      one more true = ap (λ (l : List (ℕ × Seen)). s ∷ l) more
      one more false = more

  filter_one : (s : ℕ × Seen) (left : List (ℕ × Seen)) (b : Bool) → takes_tile r e size image s ≡ b
      → filter (takes_tile r e size image) (s ∷ left) ≡ cond b (s ∷ filter (takes_tile r e size image) left) (filter (takes_tile r e size image) left)
  filter_one s left b is = ap (λ (c : Bool). cond c (s ∷ filter (takes_tile r e size image) left) (filter (takes_tile r e size image) left)) is

  pub taking_start : (left tiles : List (ℕ × Seen)) (held : List ℕ) → left ≡ sightings e size image → tiles ≡ [] → held ≡ [] → Taking left tiles held
  taking_start left tiles held all none empty = record {
    done = [];
    split = sym all;
    taken = none;
    sound = record {
      none = λ s has. absurd (Contains-none s (subst (λ (l : List (ℕ × Seen)). Contains l s) none has));
      few = let zero : contents_of_tiles e size image tiles ≡ [] = ap (contents_of_tiles e size image) none in let long : length (contents_of_tiles e size image tiles) ≡ 0 = ap length zero in omega (arith, long);
    };
    exact = empty ∙ sym (ap (contents_of_tiles e size image) none);
  }

  pub taking_sighted : (left rest tiles : List (ℕ × Seen)) (s : ℕ × Seen) (held : List ℕ) → Taking left tiles held → left ≡ s ∷ rest → Contains (sightings e size image) s
  taking_sighted left rest tiles s held t first =
      subst (λ (l : List (ℕ × Seen)). Contains l s) (sym (t.split ∙ ap (λ (l : List (ℕ × Seen)). t.done ++ l) first)) (Contains-append_right t.done (s ∷ rest) s (Contains-here s rest))

  next_split : (left rest done : List (ℕ × Seen)) (s : ℕ × Seen) → sightings e size image ≡ done ++ left → left ≡ s ∷ rest → sightings e size image ≡ (done ++ s ∷ []) ++ rest
  next_split left rest done s split first = split ∙ ap (λ (l : List (ℕ × Seen)). done ++ l) first ∙ sym (append_assoc done (s ∷ []) rest)

  -- a tile that is not taken
  pub taking_skip : (left rest tiles : List (ℕ × Seen)) (s : ℕ × Seen) (held : List ℕ) → Taking left tiles held → left ≡ s ∷ rest → takes_tile r e size image s ≡ false → Taking rest tiles held
  taking_skip left rest tiles s held t first isnt = record {
    done = t.done ++ s ∷ [];
    split = next_split left rest t.done s t.split first;
    taken = t.taken ∙ sym (filter_more t.done (s ∷ []) ∙ ap (λ (l : List (ℕ × Seen)). filter (takes_tile r e size image) t.done ++ l) (filter_one s [] false isnt)
        ∙ append-nil (filter (takes_tile r e size image) t.done));
    sound = t.sound;
    exact = t.exact;
  }

  content_more : (tiles : List (ℕ × Seen)) (s : ℕ × Seen) → contents_of_tiles e size image (tiles ++ s ∷ []) ≡ contents_of_tiles e size image tiles ++ tile_content e size image s
  content_more tiles s =
      flat_map-append (tile_content e size image) tiles (s ∷ [])
      ∙ ap (λ (l : List ℕ). contents_of_tiles e size image tiles ++ l) (append-nil (tile_content e size image s))

  -- a tile that is taken
  pub taking_next : (left rest tiles more : List (ℕ × Seen)) (s : ℕ × Seen) (before after : List ℕ) → Taking left tiles before → left ≡ s ∷ rest → takes_tile r e size image s ≡ true
      → HoldsTile e size image s tiles more before after → Taking rest more after
  taking_next left rest tiles more s before after t first is holds =
      let whole : after ≡ contents_of_tiles e size image more =
      holds.contents ∙ ap (λ (l : List ℕ). l ++ tile_content e size image s) t.exact ∙ sym (content_more tiles s)
      ∙ ap (contents_of_tiles e size image) (sym holds.tiles) in
      record {
        done = t.done ++ s ∷ [];
        split = next_split left rest t.done s t.split first;
        taken = holds.tiles ∙ ap (λ (l : List (ℕ × Seen)). l ++ s ∷ []) t.taken
            ∙ sym (filter_more t.done (s ∷ []) ∙ ap (λ (l : List (ℕ × Seen)). filter (takes_tile r e size image) t.done ++ l) (filter_one s [] true is));
        sound = record {
          none = λ u has.
              elim (Contains-append_cases tiles (s ∷ []) u (subst (λ (l : List (ℕ × Seen)). Contains l u) holds.tiles has)) [
                | inl was ↦ t.sound.none u was
                | inr new ↦ elim (Contains-cases s [] u new) [
                  | inl same ↦ subst (λ (v : ℕ × Seen). through_fault e size image v ≡ None) same holds.none
                  | inr later ↦ absurd (Contains-none u later)
                ]
              ];
          few = subst (λ (l : List ℕ). length l ≤ greatest_contents) whole holds.few;
        };
        exact = whole;
      }

  -- ---- the end

  pub taking_all : (left tiles : List (ℕ × Seen)) (held : List ℕ) → Taking left tiles held → left ≡ [] → tiles ≡ tiles_upto r e size image
  taking_all left tiles held t empty =
      t.taken ∙ ap (filter (takes_tile r e size image)) (sym (t.split ∙ ap (λ (l : List (ℕ × Seen)). t.done ++ l) empty ∙ append-nil t.done))

  pub taking_held : (left tiles : List (ℕ × Seen)) (held : List ℕ) → Taking left tiles held → left ≡ [] → AreTilesHeld e size image (tiles_upto r e size image)
  taking_held left tiles held t empty = subst (AreTilesHeld e size image) (taking_all left tiles held t empty) t.sound

  pub taking_contents : (left tiles : List (ℕ × Seen)) (held : List ℕ) → Taking left tiles held → left ≡ [] → held ≡ contents_of_tiles e size image (tiles_upto r e size image)
  taking_contents left tiles held t empty = t.exact ∙ ap (contents_of_tiles e size image) (taking_all left tiles held t empty)

  -- ---- a tile that is refused

  first_refused : (left rest tiles : List (ℕ × Seen)) (s : ℕ × Seen) (held : List ℕ) (why : ViewFault) → Taking left tiles held → left ≡ s ∷ rest → takes_tile r e size image s ≡ true
      → IsRefusedBy e size image tiles s why → IsFirstRefused e size image (tiles_upto r e size image) why
  first_refused left rest tiles s held why t first is refused =
      let all : tiles_upto r e size image ≡ tiles ++ s ∷ filter (takes_tile r e size image) rest =
      ap (filter (takes_tile r e size image)) (t.split ∙ ap (λ (l : List (ℕ × Seen)). t.done ++ l) first)
      ∙ filter_more t.done (s ∷ rest)
      ∙ ap (λ (l : List (ℕ × Seen)). filter (takes_tile r e size image) t.done ++ l) (filter_one s rest true is)
      ∙ ap (λ (l : List (ℕ × Seen)). l ++ s ∷ filter (takes_tile r e size image) rest) (sym t.taken) in
      (tiles, s, filter (takes_tile r e size image) rest, all, t.sound, refused)

  pub taking_refused : (left rest tiles : List (ℕ × Seen)) (s : ℕ × Seen) (held : List ℕ) (why : ViewFault) → IsScannable size image → Taking left tiles held → left ≡ s ∷ rest
      → takes_tile r e size image s ≡ true → RefusesHeld e size image s held why → IsUntaken r e size image why
  taking_refused left rest tiles s held why scannable t first is refuses =
      elim refuses [
        | inl itself ↦ by_itself why itself
        | inr passes ↦
            subst (IsUntaken r e size image) (sym passes.0) (
              scannable,
              first_refused left rest tiles s held (fault.TooLong s.0) t first is (inr (
                refl,
                (
                  passes.1,
                  subst (λ (l : List ℕ). greatest_contents < length l) (ap (λ (l : List ℕ). l ++ tile_content e size image s) t.exact ∙ sym (content_more tiles s)) passes.2,
                ),
              )),
            )
      ]
    where
      by_itself : (f : ViewFault) → HasTileFault (through_fault e size image s) f → IsUntaken r e size image f
      by_itself (fault.Incompatible addr nodetype) has = absurd (none_unknown s addr nodetype is has)
      by_itself (fault.Compressed addr compr) has = (scannable, first_refused left rest tiles s held (fault.Compressed addr compr) t first is has)
      by_itself (fault.Data addr) has = (scannable, first_refused left rest tiles s held (fault.Data addr) t first is has)
      by_itself (fault.TooLong addr) has = (scannable, first_refused left rest tiles s held (fault.TooLong addr) t first is (inl has))
      by_itself (fault.Clash addr) has = absurd has
      by_itself fault.BlockSize has = absurd has
      by_itself fault.TooLarge has = absurd has
      by_itself fault.RootKind has = absurd has
      by_itself fault.OutOfMemory has = scannable
