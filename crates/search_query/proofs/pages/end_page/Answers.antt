use Rattle.std.proofs.Common.{◌≡◌, ◌+◌, ◌<◌, ◌≤◌, ℕ, false, refl, sym, ◌∙◌, arith}
use Rattle.std.specs.Prelude.{nat_lt, if◌then◌else◌}
use Rattle.std.proofs.lemmas.Bool.Decides.{nat_tests}
use Rattle.fence_model.specs.Queries.{is_count}
use Rattle.search_query.specs.PageLaws.{next_page}
use Rattle.search_query.proofs.pages.end_page.Goals as goal
use Rattle.search_query.proofs.pages.end_page.Goals.{then-next-found, else-next-found}

taken : (found page a b cursor limit : ℕ) → a ≡ cursor → b ≡ limit → a + b < found → page ≡ a + b → page ≡ (if nat_lt (cursor + limit) found then cursor + limit else 0)
taken found page a b cursor limit p q less is = grind (arith, nat_tests)

left : (found page a b cursor limit : ℕ) → a ≡ cursor → b ≡ limit → found ≤ a + b → page ≡ 0 → page ≡ (if nat_lt (cursor + limit) found then cursor + limit else 0)
left found page a b cursor limit p q less is = grind (arith, nat_tests)

pub returns : goal.returns
returns c = λ all ids enough.
    let q = c.args.query.now in
    let paged : is_count q.shown ≡ false = sym c.is_count.ensures ∙ c.if-is_count.false in
    let next = next_page q all c.args.found enough paged in
    let is : c.if-next-found.page ≡ (if nat_lt (q.cursor + q.limit) c.args.found then q.cursor + q.limit else 0) = elim c.if-next-found.branch [
      | then-next-found w ↦ taken c.args.found c.if-next-found.page c.from.result c.from-2.result q.cursor q.limit c.from.ensures c.from-2.ensures w.if-next-found.true w.page-is
      | else-next-found w ↦ left c.args.found c.if-next-found.page c.from.result c.from-2.result q.cursor q.limit c.from.ensures c.from-2.ensures w.if-next-found.false w.page-is
    ] in
    record {
      ids = ids;
      cursor = rw paged (is ∙ next);
      count = rw paged refl;
    }
