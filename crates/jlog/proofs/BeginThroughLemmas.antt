-- A log that goes on from an image that is mounted through.
use Rattle.std.proofs.Common.{◌≡◌, ℕ, refl, sym, ap, ◌∙◌, subst, arith}
use Rattle.jnode.specs.declared.order.Endian.{Endian}
use Rattle.jscan.specs.Blank.{blank_from}
use Rattle.jmount.specs.Mount.{Mount}
use Rattle.jmount.specs.Shown.{top_at}
use Rattle.jmount.proofs.NumbersLemmas.{top_at-tops_of}
use Rattle.jsteps.specs.Nodes.{indexed, index_by}
use Rattle.jsteps.specs.Laws.{IsConsistent}
use Rattle.jsteps.proofs.ConsistentLemmas.{index_is_consistent}
use Rattle.jexpand.specs.Expanded.{expanded_nodes}
use Rattle.jlog.specs.Headline.{resume_address}
use Rattle.jlog.specs.HeadlineThrough.{IsBaseThrough, index_through}
use Rattle.jlog.specs.Session.{IsGoing}
use Rattle.jview.specs.Through.{IsMountThroughOf}
use Rattle.jlog.specs.DoneThrough.{ThroughBegins}
use Rattle.jlog.proofs.HeadlineThroughLemmas.{all_fit_through}
use Rattle.jlog.proofs.PlaceLemmas.{times_words}
use Rattle.jlog.proofs.ResumeLemmas.{holds_parts, resumed_at, resumes_within}
use Rattle.jlog.proofs.StepLemmas.{size_words}

-- what it leads to is what its expanded nodes lead to
index_is : (e : Endian) (size : ℕ) (m : Mount) → IsMountThroughOf e size m → indexed m ≡ index_through e size m.image
index_is e size m is = λ j.
    index_by (sym is.mounts.same j) (λ i. (ap (λ tops. top_at tops i) is.tops ∙ top_at-tops_of (expanded_nodes e size m.image) i) j)

pub through_begins : ThroughBegins
through_begins flash at m is are_bytes resumes =
    let e : Endian = flash.order in
    let size : ℕ = flash.size in
    let blocks : ℕ = flash.blocks in
    let ok = resumed_at e size blocks m at resumes in
    let holds = holds_parts size blocks m.image ok.flash in
    let start : ℕ = resume_address e size blocks m.image in
    let same : indexed m ≡ index_through e size m.image = index_is e size m is in
    let going : IsGoing size blocks start (indexed m) = record {
      within = resumes_within e size blocks m.image;
      word = times_words (blank_from e size m.image blocks) size (size_words size blocks holds.flash);
      consistent = subst IsConsistent (sym same) (index_is_consistent (expanded_nodes e size m.image) (all_fit_through e size m.image holds.readable are_bytes) is.mounts.root);
    } in
    let base : IsBaseThrough e size blocks m.image = record { flash = ok.flash; mounts = record { sound = is.mounts.sound; root = is.mounts.root; same = refl } } in
    record {
      going = subst (λ (n : ℕ). IsGoing size blocks n (indexed m)) (sym ok.cursor) going;
      done = record {
        is_base = base;
        widths = tt;
        accepted = record { planned = omega arith; forms_on = record { are = tt; fits = refl; contents = omega (arith, is.mounts.sound.contents) } };
        cursor_is = ok.cursor;
        index_is = same;
      };
    }
