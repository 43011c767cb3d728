use Rattle.std.proofs.Common.{◌++◌, ◌∷◌, [], ◌+◌, suc, ap, sym, ◌∙◌, subst, List, arith}
use Rattle.std.specs.Prelude.{codes}
use Rattle.std.proofs.lemmas.List.{take_all}
use Rattle.byte_text.specs.Names.{Bytes}
use Rattle.byte_text.specs.Requests.{FitsRequest}
use Rattle.world_data.specs.RequestLaws.{take_next, fits_take}
use Rattle.live_fence.proofs.pairs.fence_request.Goals as goal

pub push-requires-in-loop-at : goal.push-requires-in-loop-at
push-requires-in-loop-at c =
    let words = c.args.request.now in
    let front : List Bytes → List Bytes = λ ws. codes "SETCHAN" ∷ c.args.channel.now ∷ ws in
    let next = take_next words c.loop-at.at c.word.result.now c.word.ensures in
    subst FitsRequest (ap front next ∙ ap (λ (ws : List Bytes). ws ++ c.word.result.now ∷ []) (sym c.loop-at.invariant))
    (fits_take (front words) (suc (suc (c.loop-at.at + 1))) c.requires.fits)

pub loop-at-preserved : goal.loop-at-preserved
loop-at-preserved c =
    let words = c.args.request.now in
    let front : List Bytes → List Bytes = λ ws. codes "SETCHAN" ∷ c.args.channel.now ∷ ws in
    c.in_ok-push-3.ensures.ok ∙ ap (λ (ws : List Bytes). ws ++ c.word.result.now ∷ []) c.loop-at.invariant
    ∙ sym (ap front (take_next words c.loop-at.at c.word.result.now c.word.ensures))

pub returns : goal.returns
returns c =
    let words = c.args.request.now in
    let front : List Bytes → List Bytes = λ ws. codes "SETCHAN" ∷ c.args.channel.now ∷ ws in
    c.loop-at.invariant ∙ ap front (take_all c.loop-at.at words (omega (arith, c.loop-at-test.false, c.words-at-end.ensures.count)))
