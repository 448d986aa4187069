-- Laws of `build` and `append`: what comes before the lines are written only looks.
use Rattle.std.proofs.Common.{ℕ, Bool, List, Option, None, Some, inl, inr, subst, sym}
use Rattle.jlisting.specs.declared.line.Line.{Line}
use Rattle.jbuild.specs.HostFiles.{part_contents}
use Rattle.jbuild.specs.declared.host_files.HostFiles.{HostFiles}
use Rattle.jedge.specs.Acts.{answers, loads}
use Rattle.jedge.specs.Laws.{BlamesEvent, BlamesFailed}
use Rattle.jedge.specs.Views.{Viewed, views}
use Rattle.jedge.specs.declared.fault.Fault.{Fault}
use Rattle.jedge.proofs.BlamingLemmas.{loads_blames, views_blames}
use Rattle.jedge.proofs.LookingLemmas.{answers_looks, loads_looks, views_looks}
use Rattle.jreads.specs.Named.{NoneRead, loads_named}
use Rattle.jreads.proofs.BlameLemmas.{loads_named_blames}
use Rattle.jreads.proofs.LookLemmas.{loads_named_looks}
use Rattle.jmakes.specs.Commands.{Append, Build, writes_listing, writes_text}
use Rattle.jmakes.specs.Keeping.{keeps_base}
use Rattle.jmakes.specs.Laws.{AtomicLeavesFiles, BlamesMade, BlamesMaking, JudgedBeforeMade, JudgesBeforeMaking, LeavesAtFault}
use Rattle.jmakes.specs.Writing.{ImageWanted, ReadsListingLines}
use Rattle.jmakes.proofs.KeepingLemmas.{keeps_blames, keeps_looks}
use Rattle.jmakes.proofs.LawLemmas.{failed_blamed, lines_blamed, lines_judge, lines_leave, then_blamed, then_judges, then_leaves}

-- ---- the text of a listing is written

pub text_leaves : (wanted : ImageWanted) (base : Option Viewed) (before : HostFiles) (text : List ℕ) → LeavesAtFault wanted.file (writes_text wanted base before text)
text_leaves wanted base before text = then_leaves wanted.file _ _ (answers_looks _) (λ (lines : List Line).
    then_leaves wanted.file _ _ (loads_named_looks lines before) (λ (files : HostFiles). lines_leave wanted base (part_contents files) lines))

pub text_judges : (wanted : ImageWanted) (base : Option Viewed) (before : HostFiles) (text : List ℕ) → JudgesBeforeMaking wanted.file (writes_text wanted base before text)
text_judges wanted base before text = then_judges wanted.file _ _ (answers_looks _) (λ (lines : List Line).
    then_judges wanted.file _ _ (loads_named_looks lines before) (λ (files : HostFiles). lines_judge wanted base (part_contents files) lines))

pub listing_blames : (text : List ℕ) → BlamesFailed (answers (ReadsListingLines text))
listing_blames text events f is = elim is.1 [
  | inl w ↦ subst (λ (g : Fault). BlamesEvent g events) (sym w.1) tt
  | inr w ↦ subst (λ (g : Fault). BlamesEvent g events) (sym w) tt
]

pub text_blamed : (wanted : ImageWanted) (base : Option Viewed) (before : HostFiles) (text : List ℕ) → BlamesMaking wanted.file (writes_text wanted base before text)
text_blamed wanted base before text = then_blamed wanted.file _ _ (failed_blamed {A = List Line} wanted.file (answers (ReadsListingLines text)) (listing_blames text)) (λ (lines : List Line).
    then_blamed wanted.file _ _ (failed_blamed {A = HostFiles} wanted.file (loads_named lines before) (loads_named_blames lines before)) (λ (files : HostFiles). lines_blamed wanted base (part_contents files) lines))

-- ---- none of its files was read before

listing_leaves : (wanted : ImageWanted) (base : Option Viewed) (text : List ℕ) → LeavesAtFault wanted.file (writes_listing wanted base text)
listing_leaves wanted base text = then_leaves wanted.file _ _ (answers_looks _) (λ (none : HostFiles). text_leaves wanted base none text)

listing_judges : (wanted : ImageWanted) (base : Option Viewed) (text : List ℕ) → JudgesBeforeMaking wanted.file (writes_listing wanted base text)
listing_judges wanted base text = then_judges wanted.file _ _ (answers_looks _) (λ (none : HostFiles). text_judges wanted base none text)

none_blames : BlamesFailed (answers NoneRead)
none_blames events f is = let no : ⊥ = cc in absurd no

listing_blamed : (wanted : ImageWanted) (base : Option Viewed) (text : List ℕ) → BlamesMaking wanted.file (writes_listing wanted base text)
listing_blamed wanted base text = then_blamed wanted.file _ _ (failed_blamed {A = HostFiles} wanted.file (answers NoneRead) none_blames) (λ (none : HostFiles). text_blamed wanted base none text)

-- ---- the commands

pub atomic_leaves_files : AtomicLeavesFiles
atomic_leaves_files (Build wanted listing) = then_leaves wanted.file _ _ (loads_looks listing) (λ (text : List ℕ). listing_leaves wanted None text)
atomic_leaves_files (Append wanted base listing) =
    then_leaves wanted.file _ _ (views_looks wanted.order wanted.flash.geometry.block base.decompress base.image) (λ (view : Viewed).
    then_leaves wanted.file _ _ (keeps_looks base wanted.file.name view) (λ _.
    then_leaves wanted.file _ _ (loads_looks listing) (λ (text : List ℕ). listing_leaves wanted (Some view) text)))

pub judged_before_made : JudgedBeforeMade
judged_before_made (Build wanted listing) = then_judges wanted.file _ _ (loads_looks listing) (λ (text : List ℕ). listing_judges wanted None text)
judged_before_made (Append wanted base listing) =
    then_judges wanted.file _ _ (views_looks wanted.order wanted.flash.geometry.block base.decompress base.image) (λ (view : Viewed).
    then_judges wanted.file _ _ (keeps_looks base wanted.file.name view) (λ _.
    then_judges wanted.file _ _ (loads_looks listing) (λ (text : List ℕ). listing_judges wanted (Some view) text)))

pub blames_made : BlamesMade
blames_made (Build wanted listing) = then_blamed wanted.file _ _ (failed_blamed {A = List ℕ} wanted.file (loads listing) (loads_blames listing)) (λ (text : List ℕ). listing_blamed wanted None text)
blames_made (Append wanted base listing) =
    then_blamed wanted.file _ _ (failed_blamed {A = Viewed} wanted.file (views wanted.order wanted.flash.geometry.block base.decompress base.image) (views_blames wanted.order wanted.flash.geometry.block base.decompress base.image)) (λ (view : Viewed).
    then_blamed wanted.file _ _ (failed_blamed wanted.file (keeps_base base wanted.file.name view) (keeps_blames base wanted.file.name view)) (λ _.
    then_blamed wanted.file _ _ (failed_blamed {A = List ℕ} wanted.file (loads listing) (loads_blames listing)) (λ (text : List ℕ). listing_blamed wanted (Some view) text)))
