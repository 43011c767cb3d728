use Rattle.std.proofs.Common.{◌++◌, ◌∷◌, [], ◌+◌, ap, sym, ◌∙◌, subst}
use Rattle.byte_text.specs.Requests.{FitsRequest}
use Rattle.world_data.specs.RequestLaws.{take_next, fits_take}
use Rattle.world_data.proofs.copies.copy_request.Goals as goal

pub push-requires : goal.push-requires
push-requires c = subst FitsRequest (take_next c.args.words.now c.loop-at.at c.word.result.now c.word.ensures ∙ ap (λ ws. ws ++ c.word.result.now ∷ []) (sym c.loop-at.invariant)) (fits_take c.args.words.now (c.loop-at.at + 1) c.words-at-end.ensures.fits)

pub loop-at-preserved : goal.loop-at-preserved
loop-at-preserved c = c.in_ok-push.ensures.ok ∙ ap (λ ws. ws ++ c.word.result.now ∷ []) c.loop-at.invariant ∙ sym (take_next c.args.words.now c.loop-at.at c.word.result.now c.word.ensures)
