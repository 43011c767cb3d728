use Rattle.std.proofs.Common.{◌++◌, ◌+◌, ◌∷◌, [], ℕ, List, drop, sym, ap, subst, ◌∙◌, arith}
use Rattle.byte_text.specs.Requests.{FitsRequest}
use Rattle.record_reader.proofs.Undated.{second_word, begun, first_fits, second_fits, next_fits, next_stands, all_stand}
use Rattle.record_reader.proofs.channels.without_deadline.Goals as goal

pub push-requires : goal.push-requires
push-requires c =
    let words = c.args.words.now in
    let second = second_word words c.requires in
    subst (λ (l : List (List ℕ)). FitsRequest (l ++ c.word.result.now ∷ [])) (sym c.new-normal.ensures)
    (first_fits words c.words-count.ensures.fits c.requires c.word.result.now second.0 c.word.ensures second.1)

pub push-requires-2 : goal.push-requires-2
push-requires-2 c =
    let words = c.args.words.now in
    let first = c.in_ok-push.ensures.ok ∙ ap (λ (l : List (List ℕ)). l ++ c.word.result.now ∷ []) c.new-normal.ensures in
    subst (λ (l : List (List ℕ)). FitsRequest (l ++ c.word-2.result.now ∷ [])) (sym first)
    (second_fits words c.words-count.ensures.fits c.requires c.word.result.now c.word-2.result.now c.word.ensures c.word-2.ensures)

pub loop-at-init : goal.loop-at-init
loop-at-init c =
    let words = c.args.words.now in
    let first = c.in_ok-push.ensures.ok ∙ ap (λ (l : List (List ℕ)). l ++ c.word.result.now ∷ []) c.new-normal.ensures in
    let both = c.in_ok-push-2.ensures.ok ∙ ap (λ (l : List (List ℕ)). l ++ c.word-2.result.now ∷ []) first in
    ap (λ (l : List (List ℕ)). l ++ drop 4 words) both ∙ begun words c.words-count.ensures.fits c.requires c.word.result.now c.word-2.result.now c.word.ensures c.word-2.ensures

pub push-requires-in-loop-at : goal.push-requires-in-loop-at
push-requires-in-loop-at c =
    next_fits c.args.words.now c.words-count.ensures.fits c.requires c.loop-at.normal c.loop-at.at c.loop-at.invariant c.word-in-loop-at.result.now
    (omega (arith, c.loop-at-test.true, c.words-count.ensures.count)) c.word-in-loop-at.ensures

pub loop-at-preserved : goal.loop-at-preserved
loop-at-preserved c =
    let words = c.args.words.now in
    ap (λ (l : List (List ℕ)). l ++ drop (c.loop-at.at + 1) words) c.in_ok-push-3.ensures.ok
    ∙ next_stands words c.words-count.ensures.fits c.requires c.loop-at.normal c.loop-at.at c.loop-at.invariant c.word-in-loop-at.result.now
    (omega (arith, c.loop-at-test.true, c.words-count.ensures.count)) c.word-in-loop-at.ensures

pub returns : goal.returns
returns c =
    all_stand c.args.words.now c.words-count.ensures.fits c.requires c.loop-at.normal c.loop-at.at c.loop-at.invariant
    (omega (arith, c.loop-at-test.false, c.words-count.ensures.count))
