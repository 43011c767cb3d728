use Rattle.std.proofs.Common.{rules, ◌≡◌, ◌∙◌, sym, ap, length, List, ℕ, slice_get, take, drop, ◌-◌, ◌+◌, Some, arith}
use Rattle.byte_text.specs.Requests.{start_of}
use Rattle.byte_text.proofs.CutWords.{length-cut, word_at}
use Rattle.byte_text.proofs.requests.Request.word.Goals as goal

pub start_of-start-requires : goal.start_of-start-requires
start_of-start-requires c =
    let ends_are : c.as_slice-ends.result.now ≡ c.self.inside.ends.items = search rules in
    let count : length c.as_slice-ends.result.now ≡ length c.args.self.now = ap length ends_are ∙ sym (length-cut 0 c.self.inside.ends.items c.self.inside.bytes.items) ∙ ap length c.self.view_is in
    omega (arith, c.requires, count)

pub start_of-end-requires : goal.start_of-end-requires
start_of-end-requires c =
    let ends_are : c.as_slice-ends.result.now ≡ c.self.inside.ends.items = search rules in
    let count : length c.as_slice-ends.result.now ≡ length c.args.self.now = ap length ends_are ∙ sym (length-cut 0 c.self.inside.ends.items c.self.inside.bytes.items) ∙ ap length c.self.view_is in
    omega (arith, c.requires, count)

pub part-requires : goal.part-requires
part-requires c =
    let ends_are : c.as_slice-ends.result.now ≡ c.self.inside.ends.items = search rules in
    let bytes_are : c.as_slice.result.now ≡ c.self.inside.bytes.items = search rules in
    let count : length c.self.inside.ends.items ≡ length c.args.self.now = sym (length-cut 0 c.self.inside.ends.items c.self.inside.bytes.items) ∙ ap length c.self.view_is in
    let w = word_at 0 c.self.inside.ends.items c.self.inside.bytes.items c.args.at c.self.invariant.1 (omega (arith, c.requires, count)) in
    let start : c.start_of-start.result ≡ start_of 0 c.self.inside.ends.items c.args.at = c.start_of-start.ensures ∙ ap (λ (es : List ℕ). start_of 0 es c.args.at) ends_are in
    let end : c.start_of-end.result ≡ start_of 0 c.self.inside.ends.items (c.args.at + 1) = c.start_of-end.ensures ∙ ap (λ (es : List ℕ). start_of 0 es (c.args.at + 1)) ends_are in
    let lengths : length c.as_slice.result.now ≡ length c.self.inside.bytes.items = ap length bytes_are in
    (omega (arith, start, end, w.ordered), omega (arith, end, lengths, w.inside))

pub returns : goal.returns
returns c =
    let ends_are : c.as_slice-ends.result.now ≡ c.self.inside.ends.items = search rules in
    let bytes_are : c.as_slice.result.now ≡ c.self.inside.bytes.items = search rules in
    let ends = c.self.inside.ends.items in
    let bytes = c.self.inside.bytes.items in
    let count : length ends ≡ length c.args.self.now = sym (length-cut 0 ends bytes) ∙ ap length c.self.view_is in
    let w = word_at 0 ends bytes c.args.at c.self.invariant.1 (omega (arith, c.requires, count)) in
    let start : c.start_of-start.result ≡ start_of 0 ends c.args.at = c.start_of-start.ensures ∙ ap (λ (es : List ℕ). start_of 0 es c.args.at) ends_are in
    let end : c.start_of-end.result ≡ start_of 0 ends (c.args.at + 1) = c.start_of-end.ensures ∙ ap (λ (es : List ℕ). start_of 0 es (c.args.at + 1)) ends_are in
    ap (λ (ws : List (List ℕ)). slice_get ws c.args.at) (sym c.self.view_is) ∙ w.is
    ∙ ap (λ (k : ℕ). Some (take (start_of 0 ends (c.args.at + 1) - k) (drop k bytes))) (sym start)
    ∙ ap (λ (k : ℕ). Some (take (k - c.start_of-start.result) (drop c.start_of-start.result bytes))) (sym end)
    ∙ ap (λ (bs : List ℕ). Some (take (c.start_of-end.result - c.start_of-start.result) (drop c.start_of-start.result bs))) (sym bytes_are)
    ∙ ap Some (sym c.part.ensures)
