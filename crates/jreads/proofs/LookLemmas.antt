-- Reading the files of a listing makes nothing.
use Rattle.std.proofs.Common.{ℕ, List, [], ◌∷◌, Option, None, Some, Bool, true, false}
use Rattle.jnode.specs.declared.order.Endian.{Endian}
use Rattle.jmount.specs.Mount.{Mount}
use Rattle.jlisting.specs.declared.line.Line.{Line}
use Rattle.jlog.specs.declared.start.Flash.{Flash}
use Rattle.jbuild.specs.HostFiles.{read_of}
use Rattle.jbuild.specs.declared.host_files.HostFiles.{HostFiles}
use Rattle.jcuts.specs.Cuts.{Asked}
use Rattle.jedge.specs.Acts.{Act}
use Rattle.jedge.specs.Laws.{MakesNothing}
use Rattle.jedge.proofs.LookingLemmas.{answers_looks, loads_looks, opens_looks, prints_looks, reads_looks, reported_looks, same, then_looks}
use Rattle.jreads.specs.Cutting.{cuts_base, loads_base}
use Rattle.jreads.specs.CutTexts.{cuts_asked}
use Rattle.jreads.specs.Named.{Measured, each, files_named, loads_if, loads_listed, loads_named, loads_one, measures, measures_if, measures_one, was_measured}
use Rattle.jreads.specs.ReadLaws.{CutsReadOnly}
use Rattle.std.specs.Prelude.{is_some}

measures_looks : (name : List ℕ) → MakesNothing (measures name)
measures_looks name events r is = same is.2 (tt, tt)

each_looks : {S : Type 0} (one : List ℕ → S → Act S) → ((name : List ℕ) (s : S) → MakesNothing (one name s)) → (names : List (List ℕ)) (s : S) → MakesNothing (each one names s)
each_looks one looks [] s = answers_looks _
each_looks one looks (name ∷ names) s = then_looks (one name s) _ (looks name s) (λ t. each_looks one looks names t)

measures_if_looks : (b : Bool) (name : List ℕ) (files : List Measured) → MakesNothing (measures_if b name files)
measures_if_looks true name files = answers_looks _
measures_if_looks false name files = then_looks (measures name) _ (measures_looks name) (λ n. answers_looks _)

loads_if_looks : (b : Bool) (name : List ℕ) (files : HostFiles) → MakesNothing (loads_if b name files)
loads_if_looks true name files = answers_looks _
loads_if_looks false name files = then_looks _ _ (opens_looks name) (λ (opened : List ℕ). then_looks _ _ (reads_looks opened) (λ bytes. answers_looks _))

pub loads_named_looks : (lines : List Line) (files : HostFiles) → MakesNothing (loads_named lines files)
loads_named_looks lines files = then_looks _ _
    (each_looks measures_one (λ name counted. measures_if_looks (was_measured name counted) name counted) (files_named lines) [])
    (λ _. each_looks loads_one (λ name kept. loads_if_looks (is_some (read_of kept name)) name kept) (files_named lines) files)

pub loads_listed_looks : (lines : List Line) → MakesNothing (loads_listed lines)
loads_listed_looks lines = then_looks _ _ (answers_looks _) (loads_named_looks lines)

base_looks : (on : Option (List ℕ)) → MakesNothing (loads_base on)
base_looks None = answers_looks _
base_looks (Some name) = loads_looks name

cuts_base_looks : (e : Endian) (flash : Flash) (base : List ℕ) (asked : Asked) → MakesNothing (cuts_base e flash base asked)
cuts_base_looks e flash base asked = then_looks _ _ (answers_looks _) (λ _. then_looks _ _ (answers_looks _) (λ (m : Mount).
    then_looks _ _ (answers_looks _) (λ _. prints_looks _)))

pub cuts_read_only : CutsReadOnly
cuts_read_only options blocks page on listing = reported_looks _ (then_looks _ _ (base_looks on) (λ (base : List ℕ).
    then_looks _ _ (loads_looks listing) (λ (text : List ℕ). then_looks _ _ (answers_looks _) (λ (lines : List Line).
    then_looks _ _ (loads_listed_looks lines) (λ (files : HostFiles). cuts_base_looks options.endian _ base (cuts_asked options.endian files lines))))))
