use Rattle.std.proofs.Common.{◌≡◌, ◌+◌, ◌-◌, ◌*◌, ◌/◌, ◌<◌, ◌≤◌, ℕ, ◌++◌, length, drop, min, refl, sym, subst, ap, ◌∙◌, arith}
use Rattle.jspare.specs.Spare.{first_pages, page_at}
use Rattle.jspare.proofs.PageLemmas.{copied, more_pages, pages_before, page_begins, one_page, page_length}
use Rattle.jspare.proofs.dropping.drop_spare.Goals as goal

pub loop-i-init : goal.loop-i-init
unfolding first_pages
loop-i-init c = record { kept = refl; items = refl; long = refl }

pub copy_within-requires-clause-dest_in_bounds : goal.copy_within-requires-clause-dest_in_bounds
copy_within-requires-clause-dest_in_bounds c =
    let from : ℕ = c.loop-i.i * (c.args.layout.page + c.args.layout.spare) in
    let count : ℕ = c.min-count.result in
    let fits : c.loop-i.kept ≤ from =
    subst (λ k. k ≤ from) (sym c.loop-i.invariant.kept) (pages_before c.args.layout c.args.dump.now.items c.loop-i.i) in
    let stride : ℕ = c.args.layout.page + c.args.layout.spare in
    let long : c.len.result ≡ length c.args.dump.now.items =
    omega (arith, c.len.ensures, c.args.dump.now.ok.0) in
    let begins = page_begins c.args.layout c.args.dump.now.items c.loop-i.i
    (subst (λ n. c.loop-i.i < n / stride + 1) long c.loop-i-test.true) in
    omega (arith, fits, begins, c.min-count.ensures, c.len-in-loop-i.ensures, c.loop-i.invariant.long, c.args.dump.now.ok.0)

pub loop-i-preserved : goal.loop-i-preserved
loop-i-preserved c =
    let l = c.args.layout in
    let d = c.args.dump.now.items in
    let w = first_pages l d c.loop-i.i in
    let from : ℕ = c.loop-i.i * (l.page + l.spare) in
    let count : ℕ = c.min-count.result in
    let kept : c.loop-i.kept ≡ length w = c.loop-i.invariant.kept in
    let fits = pages_before l d c.loop-i.i in
    let before : c.loop-i.dump.items ≡ w ++ drop (length w) d =
    subst (λ k. c.loop-i.dump.items ≡ w ++ drop k d) kept c.loop-i.invariant.items in
    let is_count : count ≡ min l.page (length d - from) =
    omega (arith, c.min-count.ensures, c.len-in-loop-i.ensures, c.loop-i.invariant.long, c.args.dump.now.ok.0) in
    let moved : c.copy_within.new.self.items ≡ copied c.loop-i.dump.items from count c.loop-i.kept =
    c.copy_within.ensures.items in
    let there : c.copy_within.new.self.items ≡ (w ++ page_at l d c.loop-i.i) ++ drop (length w + count) d =
    moved ∙ ap (λ k. copied c.loop-i.dump.items from count k) kept
    ∙ ap (λ xs. copied xs from count (length w)) before
    ∙ one_page w d l.page from count fits is_count in
    record {
      long = c.copy_within.ensures.len ∙ c.loop-i.invariant.long;
      kept = ap (λ k. k + count) kept ∙ page_length w d l.page from count is_count ∙ ap length (sym (more_pages l d c.loop-i.i));
      items = there ∙ ap (λ b. b ++ drop (length w + count) d) (sym (more_pages l d c.loop-i.i))
          ∙ ap (λ k. first_pages l d (c.loop-i.i + 1) ++ drop (k + count) d) (sym kept);
    }
