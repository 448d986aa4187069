-- `verify` makes nothing, and a fault of it is an event.
use Rattle.std.proofs.Common.{◌≡◌, ℕ, Bool, List, Ok, Err, Some, true, inl, inr, subst, sym}
use Rattle.std.specs.Prelude.{Result}
use Rattle.jnode.specs.declared.order.Endian.{Endian}
use Rattle.jmount.specs.Mount.{Mount}
use Rattle.jlisting.specs.declared.line.Line.{Line}
use Rattle.jlog.specs.declared.start.Flash.{Flash}
use Rattle.jbuild.specs.HostFiles.{part_contents}
use Rattle.jbuild.specs.declared.host_files.HostFiles.{HostFiles}
use Rattle.jedge.specs.Acts.{Act, answers, loads, prints}
use Rattle.jedge.specs.Calls.{Event}
use Rattle.jedge.specs.Comparing.{Compares}
use Rattle.jedge.specs.Images.{HasNodes, MountsOrRefuses, MountsWith}
use Rattle.jedge.specs.Laws.{BlamesEvent, BlamesFailed, MakesNothing}
use Rattle.jedge.specs.Told.{Told}
use Rattle.jedge.specs.declared.fault.Fault.{Fault}
use Rattle.jedge.proofs.BlamingLemmas.{differs_unnamed, loads_blames, mounts_as_blame, mounts_blame, nodes_blame, prints_blames, then_blames}
use Rattle.jedge.proofs.LookingLemmas.{answers_looks, loads_looks, prints_looks, reported_looks, then_looks}
use Rattle.jreads.specs.Named.{loads_named}
use Rattle.jreads.proofs.BlameLemmas.{loads_named_blames}
use Rattle.jreads.proofs.LookLemmas.{loads_named_looks}
use Rattle.jfolders.specs.Laws.{BlamesOnlyFailed}
use Rattle.jfolders.specs.Reading.{listing_settings}
use Rattle.jfolders.specs.declared.keeping.Listed.{Listed}
use Rattle.jfolders.proofs.BlameLaws.{folders_blamed, of_act, then_blamed}
use Rattle.jfolders.proofs.ReadLaws.{reading_makes_nothing}
use Rattle.jmakes.specs.Writing.{HasOps, Numbered, ReadsListingLines}
use Rattle.jmakes.proofs.CommandLaws.{listing_blames}
use Rattle.jpacks.specs.Packing.{WereKept, packed_told}
use Rattle.jverifies.specs.Making.{makes_in_memory}
use Rattle.jverifies.specs.Verifying.{Sought, compares_folder, compares_made, compares_text, lines_verified, sought_with}
use Rattle.jverifies.specs.VerifyLaws.{VerifyBlamed, VerifyMakesNothing}
use Rattle.jcommand.specs.declared.parsed.Verification.{Verification}
use Rattle.jverifies.proofs.MakingLemmas.{in_memory_blames}

-- ---- nothing is made

memory_looks : (e : Endian) (flash : Flash) (of : Numbered) → MakesNothing (makes_in_memory e flash of)
memory_looks e flash of = then_looks _ _ (answers_looks _) (λ (m : Mount). then_looks _ _ (answers_looks _) (λ (from : ℕ). answers_looks _))

made_looks : (e : Endian) (sought : Sought) (made : List ℕ) → MakesNothing (compares_made e sought made)
made_looks e sought made = then_looks _ _ (answers_looks _) (λ (left : Mount). prints_looks _)

text_looks : (e : Endian) (sought : Sought) (before : HostFiles) (text : List ℕ) → MakesNothing (compares_text e sought before text)
text_looks e sought before text = then_looks _ _ (answers_looks _) (λ (lines : List Line).
    then_looks _ _ (loads_named_looks lines before) (λ (files : HostFiles).
    then_looks _ _ (answers_looks _) (λ (of : Numbered).
    then_looks _ _ (memory_looks e sought.flash of) (λ (made : List ℕ). made_looks e sought made))))

folder_looks : (e : Endian) (asked : Verification (List ℕ)) (m : Mount) → MakesNothing (compares_folder e asked m)
folder_looks e asked m = then_looks _ _ (reading_makes_nothing (listing_settings asked.owner asked.time) asked.quiet asked.folder).1 (λ (listed : Listed).
    then_looks _ _ (answers_looks _) (λ (before : HostFiles).
    then_looks _ _ (text_looks e (sought_with e asked m) before listed.text.items) (λ (told : Told). answers_looks _)))

pub verify_makes_nothing : VerifyMakesNothing
verify_makes_nothing e asked = reported_looks _ (then_looks _ _ (loads_looks asked.image) (λ (image : List ℕ).
    then_looks _ _ (answers_looks _) (λ _. then_looks _ _ (answers_looks _) (λ (m : Mount). folder_looks e asked m))))

-- ---- a fault is an event

ops_blame : (e : Endian) (files : List ℕ → List ℕ) (lines : List Line) → BlamesFailed (answers (HasOps e files lines))
ops_blame e files lines events f is = subst (λ (g : Fault). BlamesEvent g events) (sym is.1) tt

made_blames : (e : Endian) (sought : Sought) (made : List ℕ) → BlamesFailed (compares_made e sought made)
made_blames e sought made = then_blames _ _ (mounts_blame e sought.flash.geometry.block made) (λ (left : Mount).
    prints_blames _ (differs_unnamed sought.how left sought.image (lines_verified sought.image)))

text_blames : (e : Endian) (sought : Sought) (before : HostFiles) (text : List ℕ) → BlamesFailed (compares_text e sought before text)
text_blames e sought before text = then_blames _ _ (listing_blames text) (λ (lines : List Line).
    then_blames _ _ (loads_named_blames lines before) (λ (files : HostFiles).
    then_blames _ _ (ops_blame e (part_contents files) lines) (λ (of : Numbered).
    then_blames _ _ (in_memory_blames e sought.flash of) (λ (made : List ℕ). made_blames e sought made))))

kept_blamed : (listed : Listed) → BlamesOnlyFailed (answers (WereKept listed.files))
kept_blamed listed events f is = let no : ⊥ = (let wrong = is.1.1 in cc) in absurd no

gives_blamed : (told : Told) → BlamesOnlyFailed (answers (λ (result : Result Told Fault). result ≡ Ok told))
gives_blamed told events f is = let no : ⊥ = (let wrong = is.1 in cc) in absurd no

folder_blamed : (e : Endian) (asked : Verification (List ℕ)) (m : Mount) → BlamesOnlyFailed (compares_folder e asked m)
folder_blamed e asked m = then_blamed _ _ (folders_blamed.0 (listing_settings asked.owner asked.time) asked.quiet asked.folder).1 (λ (listed : Listed).
    then_blamed _ _ (kept_blamed listed) (λ (before : HostFiles).
    then_blamed _ _ (of_act (compares_text e (sought_with e asked m) before listed.text.items) (text_blames e (sought_with e asked m) before listed.text.items)) (λ (told : Told).
    gives_blamed (packed_told listed.left_out told))))

pub verify_blamed : VerifyBlamed
verify_blamed e asked =
    let size : ℕ = asked.options.geometry.block in
    then_blamed _ _ (of_act (loads asked.image) (loads_blames asked.image)) (λ (image : List ℕ).
    then_blamed _ _ (of_act (answers (HasNodes e size (Some asked.image) image)) (nodes_blame e size (Some asked.image) image)) (λ _.
    then_blamed _ _ (of_act (answers (MountsWith true e size image)) (mounts_as_blame true e size image)) (λ (m : Mount). folder_blamed e asked m)))
