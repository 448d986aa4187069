-- Writing the expanded nodes of an image, tile by tile.
use Rattle.std.proofs.Common.{◌≡◌, ℕ, ◌+◌, ◌*◌, ◌%◌, ◌<◌, ◌≤◌, Bool, List, [], ◌∷◌, ◌++◌, length, map, take, refl, sym, ap, subst, ◌∙◌, arith, Option, None, Some, Ok, Err, Contains, inr, append_assoc}
use Rattle.std.specs.Prelude.{IsErr, IsTrue, IsFalse, Result}
use Rattle.std.specs.List.{cons_option, AllByRecursion}
use Rattle.std.specs.Option.{option_or}
use Rattle.std.specs.Io.KnownBytes.{Appends}
use Rattle.std.proofs.KnownBytes.{Appends-trans}
use Rattle.std.proofs.Math.Seq.{take-append_seam}
use Rattle.std.proofs.lemmas.List.{append-nil}
use Rattle.flashbase.specs.Device.{PutsPart, next_count}
use Rattle.flashbase.proofs.MemberLemmas.{Contains-there}
use Rattle.flashbase.proofs.DeviceLemmas.{part_before, part_behind}
use Rattle.jnode.specs.Header.{header_len}
use Rattle.jnode.specs.Writing.{canonical, filled}
use Rattle.jnode.specs.declared.node.NodeRef.{NodeRef}
use Rattle.jnode.specs.declared.node.NodeRef.TheVariants as node
use Rattle.jnode.specs.declared.node.Seen.{Seen}
use Rattle.jnode.specs.declared.order.Endian.{Endian}
use Rattle.jnode.proofs.WritingLemmas.{canonical_long, canonical_is_not_erased, length-canonical_entry, length-canonical_inode}
use Rattle.jscan.specs.Image.{sightings}
use Rattle.jlog.specs.Places.{place_after, end_after, end_of_all}
use Rattle.jlog.specs.Output.{gap, output}
use Rattle.jlog.specs.Laws.{FitsBlock}
use Rattle.jexpand.specs.Answers.{IsFormOf}
use Rattle.jexpand.specs.Expanded.{expanded_node, node_length}
use Rattle.jexpand.specs.Refused.{node_fault, fault_among}
use Rattle.jexpand.proofs.NodeLemmas.{accepted_long}
use Rattle.jexpand.specs.declared.fault.ConvertFault.{ConvertFault}
use Rattle.jexpand.specs.declared.fault.ConvertFault.TheVariants as fault
use Rattle.jconvert.specs.Converting.{expanded_forms, converted_image, WritesConverted}
use Rattle.jconvert.specs.Tallying.{IsCursor}
use Rattle.jconvert.specs.Putting.{form_piece}
use Rattle.jconvert.proofs.TallyLemmas.{nodes_of_tiles, forms_of_tiles, length_form}
use Rattle.jconvert.proofs.JudgeLemmas.{both_none}

-- what went out so far, and the tiles that are left
pub record Writing (e : Endian) (size : ℕ) (image : List ℕ) (left : List (ℕ × Seen)) (from : ℕ) (old now : Option (List ℕ)) : Type 0 where
  pub among : (s : ℕ × Seen) → Contains left s → Contains (sightings e size image) s
  pub none : fault_among e size image left ≡ None
  pub done : List ℕ
  pub appended : Appends old now done
  pub whole : converted_image e size image ≡ done ++ output e size from (forms_of_tiles e size image left)
  pub cursor : IsCursor size from

-- the form that a tile gives has the length that was judged
pub form_long : (e : Endian) (size : ℕ) (image : List ℕ) (addr : ℕ) (s : Seen) (form : List ℕ) (n : NodeRef) → node_fault e size image (addr, s) ≡ None
    → expanded_node e size image (addr, s) ≡ Some n → form ≡ canonical e n → header_len + length form ≤ size
form_long e size image addr s form n none gives is =
    subst (λ (xs : List ℕ). header_len + length xs ≤ size) (sym is)
    (subst (λ (k : ℕ). header_len + k ≤ size) (sym (length_form e n)) (accepted_long e size image addr s n none gives))

-- the node of a form that was written
pub form_of : (e : Endian) (o : Option NodeRef) (form : List ℕ) (is_one : Bool) → IsFormOf e o form is_one → IsTrue is_one
    → (n : NodeRef) × (o ≡ Some n) × (form ≡ canonical e n)
form_of e (Some n) form is_one is inside = (n, refl, is.1)
form_of e None form is_one is inside = let clash = sym inside ∙ is in absurd (cc)

pub no_form : (e : Endian) (o : Option NodeRef) (form : List ℕ) (is_one : Bool) → IsFormOf e o form is_one → IsFalse is_one → o ≡ None
no_form e (Some n) form is_one is outside = let clash = sym outside ∙ is.0 in absurd (cc)
no_form e None form is_one is outside = refl

among_rest : {X : Type 0} (P : X → Type 0) (s : X) (rest : List X) → ((t : X) → Contains (s ∷ rest) t → P t) → (t : X) → Contains rest t → P t
among_rest P s rest all t has = all t (Contains-there s rest t has)

-- a tile that gives no node adds nothing
pub writing_past : (e : Endian) (size : ℕ) (image : List ℕ) (left rest : List (ℕ × Seen)) (addr : ℕ) (seen : Seen) (from : ℕ) (old now : Option (List ℕ))
    → Writing e size image left from old now → left ≡ (addr, seen) ∷ rest → expanded_node e size image (addr, seen) ≡ None
    → Writing e size image rest from old now
writing_past e size image left rest addr seen from old now before is none =
    let s : ℕ × Seen = (addr, seen) in
    let at : Writing e size image (s ∷ rest) from old now = subst (λ (l : List (ℕ × Seen)). Writing e size image l from old now) is before in
    let same : forms_of_tiles e size image (s ∷ rest) ≡ forms_of_tiles e size image rest =
    ap (λ (o : Option NodeRef). map (canonical e) (cons_option o (nodes_of_tiles e size image rest))) none in
    record {
      among = among_rest (λ (x : ℕ × Seen). Contains (sightings e size image) x) s rest at.among;
      none = (both_none (node_fault e size image s) (fault_among e size image rest) at.none).1;
      done = at.done;
      appended = at.appended;
      whole = at.whole ∙ ap (λ (fs : List (List ℕ)). at.done ++ output e size from fs) same;
      cursor = at.cursor;
    }

-- what goes out with one node more
piece_out : (e : Endian) (size : ℕ) (image : List ℕ) (rest : List (ℕ × Seen)) (s : ℕ × Seen) (from : ℕ) (done form : List ℕ) (n : NodeRef)
    → converted_image e size image ≡ done ++ output e size from (forms_of_tiles e size image (s ∷ rest)) → expanded_node e size image s ≡ Some n → form ≡ canonical e n
    → converted_image e size image ≡ (done ++ form_piece e size from form) ++ output e size (end_after size from (length form)) (forms_of_tiles e size image rest)
piece_out e size image rest s from done form n whole gives is =
    let others : List (List ℕ) = forms_of_tiles e size image rest in
    let same : forms_of_tiles e size image (s ∷ rest) ≡ form ∷ others =
    ap (λ (o : Option NodeRef). map (canonical e) (cons_option o (nodes_of_tiles e size image rest))) gives ∙ ap (λ (f : List ℕ). f ∷ others) (sym is) in
    whole ∙ (ap (λ (fs : List (List ℕ)). done ++ output e size from fs) same
    ∙ sym (append_assoc done (form_piece e size from form) (output e size (end_after size from (length form)) others)))

pub writing_next : (e : Endian) (size : ℕ) (image : List ℕ) (left rest : List (ℕ × Seen)) (addr : ℕ) (seen : Seen) (from next : ℕ) (old mid now : Option (List ℕ)) (form : List ℕ) (n : NodeRef)
    → Writing e size image left from old mid → left ≡ (addr, seen) ∷ rest → expanded_node e size image (addr, seen) ≡ Some n → form ≡ canonical e n
    → Appends mid now (form_piece e size from form) → next ≡ end_after size from (length form) → IsCursor size next
    → Writing e size image rest next old now
writing_next e size image left rest addr seen from next old mid now form n before is gives form_is put next_is cursor =
    let s : ℕ × Seen = (addr, seen) in
    let at : Writing e size image (s ∷ rest) from old mid = subst (λ (l : List (ℕ × Seen)). Writing e size image l from old mid) is before in
    record {
      among = among_rest (λ (x : ℕ × Seen). Contains (sightings e size image) x) s rest at.among;
      none = (both_none (node_fault e size image s) (fault_among e size image rest) at.none).1;
      done = at.done ++ form_piece e size from form;
      appended = Appends-trans old mid now at.done (form_piece e size from form) at.appended put;
      whole = piece_out e size image rest s from at.done form n at.whole gives form_is
          ∙ ap (λ (k : ℕ). (at.done ++ form_piece e size from form) ++ output e size k (forms_of_tiles e size image rest)) (sym next_is);
      cursor = cursor;
    }

-- a beginning of what goes out
beginning : (a b : Option (List ℕ)) (done rest whole : List ℕ) → whole ≡ done ++ rest → Appends a b done → PutsPart a b whole
beginning a b done rest whole is put =
    (length done, subst (λ (l : List ℕ). Appends a b l) (sym (ap (take (length done)) is ∙ take-append_seam done rest)) put)

pub writing_begun : (e : Endian) (size : ℕ) (image : List ℕ) (left : List (ℕ × Seen)) (from : ℕ) (old now : Option (List ℕ))
    → Writing e size image left from old now → PutsPart old now (converted_image e size image)
writing_begun e size image left from old now at =
    beginning old now at.done (output e size from (forms_of_tiles e size image left)) (converted_image e size image) at.whole at.appended

-- a beginning of a beginning's continuation
part_of_more : (a b : Option (List ℕ)) (xs rest whole : List ℕ) → whole ≡ xs ++ rest → PutsPart a b xs → PutsPart a b whole
part_of_more a b xs rest whole is part = subst (PutsPart a b) (sym is) (part_before a b xs rest part)

pub writing_failed : (e : Endian) (size : ℕ) (image : List ℕ) (left rest : List (ℕ × Seen)) (addr : ℕ) (seen : Seen) (from : ℕ) (old mid now : Option (List ℕ)) (form : List ℕ) (n : NodeRef)
    → Writing e size image left from old mid → left ≡ (addr, seen) ∷ rest → expanded_node e size image (addr, seen) ≡ Some n → form ≡ canonical e n
    → PutsPart mid now (form_piece e size from form) → PutsPart old now (converted_image e size image)
writing_failed e size image left rest addr seen from old mid now form n before is gives form_is part =
    let s : ℕ × Seen = (addr, seen) in
    let at : Writing e size image (s ∷ rest) from old mid = subst (λ (l : List (ℕ × Seen)). Writing e size image l from old mid) is before in
    part_of_more old now (at.done ++ form_piece e size from form) (output e size (end_after size from (length form)) (forms_of_tiles e size image rest)) (converted_image e size image)
    (piece_out e size image rest s from at.done form n at.whole gives form_is)
    (part_behind old mid now at.done (form_piece e size from form) at.appended part)

pub writing_end : (e : Endian) (size : ℕ) (image : List ℕ) (left : List (ℕ × Seen)) (from : ℕ) (old now : Option (List ℕ))
    → Writing e size image left from old now → left ≡ [] → Appends old now (converted_image e size image)
writing_end e size image left from old now before is =
    let at : Writing e size image [] from old now = subst (λ (l : List (ℕ × Seen)). Writing e size image l from old now) is before in
    subst (Appends old now) (sym (at.whole ∙ append-nil at.done)) at.appended

-- ---- the forms fit their blocks

fit_cons : (e : Endian) (size : ℕ) (o : Option NodeRef) (ns : List NodeRef) → ((n : NodeRef) → o ≡ Some n → header_len + node_length n ≤ size)
    → AllByRecursion (FitsBlock size) (map (canonical e) ns) → AllByRecursion (FitsBlock size) (map (canonical e) (cons_option o ns))
fit_cons e size None ns within rest = rest
fit_cons e size (Some n) ns within rest =
    let long = canonical_long e n in
    let some : 0 < length (canonical e n) = omega arith in (
      record {
        some = some;
        written = canonical_is_not_erased e n;
        within = subst (λ (k : ℕ). header_len + k ≤ size) (sym (length_form e n)) (within n refl);
      },
      rest,
    )

pub forms_fit : (e : Endian) (size : ℕ) (image : List ℕ) (ss : List (ℕ × Seen)) → fault_among e size image ss ≡ None
    → AllByRecursion (FitsBlock size) (forms_of_tiles e size image ss)
forms_fit e size image [] none = tt
forms_fit e size image (s ∷ ss) none =
    let both = both_none (node_fault e size image s) (fault_among e size image ss) none in
    fit_cons e size (expanded_node e size image s) (nodes_of_tiles e size image ss)
    (λ n gives. accepted_long e size image s.0 s.1 n both.0 gives) (forms_fit e size image ss both.1)
