-- What a compressed node answers, and how long the written form of an expanded node is.
use Rattle.std.proofs.Common.{◌≡◌, ℕ, ◌+◌, ◌<◌, ◌≤◌, ◌==◌, subst, Bool, true, false, cond, List, [], length, refl, sym, ap, ◌∙◌, arith, Option, None, Some, Ok, option_map, option_and_then, unwrap_or, nat_le}
use Rattle.std.specs.Option.{is_none, option_or}
use Rattle.std.proofs.lemmas.Bool.{leb-true, eqb-true, cases_Bool, cond-true, cond-false}
use Rattle.std.proofs.Common.{⊎_elim}
use Rattle.jnode.specs.Header.{header_len}
use Rattle.jnode.specs.Reading.{inode_len}
use Rattle.jnode.specs.declared.node.CompressedNode.{CompressedNode}
use Rattle.jnode.specs.declared.node.NodeRef.{NodeRef}
use Rattle.jnode.specs.declared.node.NodeRef.TheVariants as node
use Rattle.jnode.specs.declared.node.Seen.{Seen}
use Rattle.jnode.specs.declared.node.Seen.TheVariants as seen
use Rattle.jnode.specs.declared.order.Endian.{Endian}
use Rattle.jcompr.specs.Answer.{of_length}
use Rattle.jcompr.specs.Content.{method_of, decompressed_of}
use Rattle.jcompr.specs.declared.method.Method.{Method}
use Rattle.jexpand.specs.Expanded.{unpacked, node_content, with_content, compressed_node_at, expanded_node, node_length}
use Rattle.jexpand.specs.Refused.{too_long, compressed_fault, node_fault}
use Rattle.jexpand.specs.Answers.{AnswersLength}
use Rattle.jexpand.specs.declared.fault.ConvertFault.{ConvertFault}
use Rattle.jexpand.specs.declared.fault.ConvertFault.TheVariants as fault

then_some : {A B : Type 0} (f : A → Option B) (o : Option A) (r : B) → option_and_then f o ≡ Some r → (x : A) × (o ≡ Some x) × (f x ≡ Some r)
then_some f None r h = absurd (cc)
then_some f (Some x) r h = (x, refl, h)

-- bytes of a length have that length
of_length_is : (size : ℕ) (bytes r : List ℕ) → of_length size bytes ≡ Some r → length r ≡ size
of_length_is size bytes r h =
    ⊎_elim
    (λ same.
    let is : Some bytes ≡ Some r = sym (cond-true (length bytes == size) (Some bytes) None same) ∙ h in
    let eq : bytes ≡ r = cc in
    ap (λ (xs : List ℕ). length xs) (sym eq) ∙ eqb-true _ _ same)
    (λ other. let no : None ≡ Some r = sym (cond-false (length bytes == size) (Some bytes) None other) ∙ h in absurd (cc))
    (cases_Bool (length bytes == size))

-- the bytes of a compressed node are as many as its range has
pub content_long : (node : CompressedNode) (bytes : List ℕ) → node_content node ≡ Some bytes → length bytes ≡ node.dsize
content_long node bytes h =
    let rest : Option (List ℕ) = option_and_then (unpacked node.dsize node.data) (method_of node.compr) in
    ⊎_elim
    (λ none.
    let is : Some [] ≡ Some bytes = sym (cond-true (node.dsize == 0) (Some []) rest none) ∙ h in
    let eq : [] ≡ bytes = cc in
    ap (λ (xs : List ℕ). length xs) (sym eq) ∙ sym (eqb-true _ _ none))
    (λ some.
    let is : rest ≡ Some bytes = sym (cond-false (node.dsize == 0) (Some []) rest some) ∙ h in
    let method = then_some (unpacked node.dsize node.data) (method_of node.compr) bytes is in
    let given = then_some (of_length node.dsize) (decompressed_of method.0 node.dsize node.data) bytes method.2 in
    of_length_is node.dsize given.0 bytes given.2)
    (cases_Bool (node.dsize == 0))

-- a node that is not too long is held by a block after its marker
pub not_long : (size addr len : ℕ) → too_long size addr len ≡ None → header_len + len ≤ size
not_long size addr len h =
    let P : Option ConvertFault = Some (fault.TooLong addr) in
    ⊎_elim (λ fits. leb-true (header_len + len) size fits)
    (λ other. let no : P ≡ None = sym (cond-false _ None P other) ∙ h in absurd (cc))
    (cases_Bool (nat_le (header_len + len) size))

judged : ℕ → ℕ → Bool → Option ConvertFault → Bool → Option ConvertFault
judged addr compr unread long empty = cond unread (Some (fault.Compressed addr compr)) (option_or long (cond empty (Some (fault.Data addr)) None))

pub compressed_ok : (size addr : ℕ) (node : CompressedNode) (bytes : List ℕ) (len : Option ℕ) → is_none (method_of node.compr) ≡ false
    → too_long size addr (inode_len + node.dsize) ≡ None → len ≡ Some (inode_len + node.dsize) → node_content node ≡ Some bytes
    → AnswersLength (compressed_fault size addr node) (option_map (with_content node) (node_content node)) (Ok len)
unfolding judged
compressed_ok size addr node bytes len read fits long content =
    let no : Bool = is_none (node_content node) in
    let fault_is : compressed_fault size addr node ≡ None =
    ap (λ (b : Bool). judged addr node.compr b (too_long size addr (inode_len + node.dsize)) no) read
    ∙ ap (λ (t : Option ConvertFault). judged addr node.compr false t no) fits
    ∙ ap (λ (b : Bool). judged addr node.compr false None b) (ap is_none content) in
    let size_is : length bytes ≡ node.dsize = content_long node bytes content in (
      fault_is,
      long ∙ ap (λ (n : ℕ). Some (inode_len + n)) (sym size_is) ∙ sym (ap (λ (o : Option (List ℕ)). option_map node_length (option_map (with_content node) o)) content),
    )

pub compressed_wrong : (size addr : ℕ) (node : CompressedNode) → is_none (method_of node.compr) ≡ false
    → too_long size addr (inode_len + node.dsize) ≡ None → node_content node ≡ None → compressed_fault size addr node ≡ Some (fault.Data addr)
unfolding judged
compressed_wrong size addr node read fits content =
    let no : Bool = is_none (node_content node) in
    ap (λ (b : Bool). judged addr node.compr b (too_long size addr (inode_len + node.dsize)) no) read
    ∙ ap (λ (t : Option ConvertFault). judged addr node.compr false t no) fits
    ∙ ap (λ (b : Bool). judged addr node.compr false None b) (ap is_none content)

-- ---- an expanded node that is not refused fits a block

read_none : (b : Bool) (f : ConvertFault) (o : Option ConvertFault) → cond b (Some f) o ≡ None → o ≡ None
read_none true f o h = absurd (cc)
read_none false f o h = h

first_none : (o p : Option ConvertFault) → option_or o p ≡ None → o ≡ None
first_none None p h = refl
first_none (Some f) p h = absurd (cc)

accepted_compressed : (size addr : ℕ) (node : CompressedNode) → compressed_fault size addr node ≡ None → too_long size addr (inode_len + node.dsize) ≡ None
accepted_compressed size addr node h = first_none (too_long size addr (inode_len + node.dsize)) _ (read_none _ _ _ h)

second_none : (o p : Option ConvertFault) → option_or o p ≡ None → p ≡ None
second_none None p h = h
second_none (Some f) p h = absurd (cc)

some_content : (o : Option (List ℕ)) (f : ConvertFault) → cond (is_none o) (Some f) None ≡ None → o ≡ Some (unwrap_or o [])
some_content None f h = absurd (cc)
some_content (Some bytes) f h = refl

-- the data of a node that is not refused have content
pub accepted_content : (size addr : ℕ) (node : CompressedNode) → compressed_fault size addr node ≡ None → node_content node ≡ Some (unwrap_or (node_content node) [])
accepted_content size addr node h =
    some_content (node_content node) (fault.Data addr) (second_none (too_long size addr (inode_len + node.dsize)) _ (read_none _ _ _ h))

-- which is as long as its range
pub accepted_size : (size addr : ℕ) (node : CompressedNode) → compressed_fault size addr node ≡ None → length (unwrap_or (node_content node) []) ≡ node.dsize
accepted_size size addr node h = content_long node (unwrap_or (node_content node) []) (accepted_content size addr node h)

mapped_some : {A B : Type 0} (f : A → B) (o : Option A) (y : B) → option_map f o ≡ Some y → (x : A) × (o ≡ Some x) × (f x ≡ y)
mapped_some f None y h = absurd (cc)
mapped_some f (Some x) y h = (x, refl, cc)

pub accepted_long : (e : Endian) (size : ℕ) (image : List ℕ) (addr : ℕ) (s : Seen) (gives : NodeRef) → node_fault e size image (addr, s) ≡ None
    → expanded_node e size image (addr, s) ≡ Some gives → header_len + node_length gives ≤ size
accepted_long e size image addr (seen.Entry entry) gives none is =
    let same : node.Entry entry ≡ gives = cc in
    subst (λ (n : NodeRef). header_len + node_length n ≤ size) same (not_long size addr (node_length (node.Entry entry)) none)
accepted_long e size image addr (seen.Inode inode) gives none is =
    let same : node.Inode inode ≡ gives = cc in
    subst (λ (n : NodeRef). header_len + node_length n ≤ size) same (not_long size addr (node_length (node.Inode inode)) none)
accepted_long e size image addr (seen.Compressed compr) gives none is =
    let packed : CompressedNode = compressed_node_at e size image addr in
    let given = mapped_some (with_content packed) (node_content packed) gives is in
    let fits : header_len + (inode_len + packed.dsize) ≤ size = not_long size addr (inode_len + packed.dsize) (accepted_compressed size addr packed none) in
    let long : length given.0 ≡ packed.dsize = content_long packed given.0 given.1 in
    subst (λ (n : NodeRef). header_len + node_length n ≤ size) given.2
    (subst (λ (n : ℕ). header_len + (inode_len + n) ≤ size) (sym long) fits)
accepted_long e size image addr seen.Marker gives none is = absurd (cc)
accepted_long e size image addr seen.Padding gives none is = absurd (cc)
accepted_long e size image addr seen.Obsolete gives none is = absurd (cc)
accepted_long e size image addr seen.Attribute gives none is = absurd (cc)
accepted_long e size image addr (seen.Skippable t) gives none is = absurd (cc)
accepted_long e size image addr (seen.ReadOnly t) gives none is = absurd (cc)
accepted_long e size image addr (seen.Incompatible t) gives none is = absurd (cc)
accepted_long e size image addr (seen.Damaged q) gives none is = absurd (cc)
