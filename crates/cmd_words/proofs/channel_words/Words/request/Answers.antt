use Rattle.std.proofs.Common.{rules, arith, refl, ◌≡◌, ◌++◌, ◌∷◌, [], ◌+◌, length, ap, sym, ◌∙◌, subst}
use Rattle.std.specs.Prelude.{Some}
use Rattle.std.specs.List.{slice_get}
use Rattle.std.proofs.lemmas.Option.{slice_get_read}
use Rattle.byte_text.specs.Requests.{FitsRequest}
use Rattle.byte_text.specs.ListLaws.{take_next}
use Rattle.world_data.specs.RequestLaws.{fits_take}
use Rattle.cmd_words.proofs.channel_words.Words.request.Goals as goal

pub push-requires : goal.push-requires
push-requires c =
    let items = c.as_slice-text-items.result.now in
    let i = c.loop-text.text-index in
    let word = c.bytes.result.now in
    let fits : FitsRequest items = subst FitsRequest (search rules) c.requires in
    let at : slice_get items i ≡ Some word = slice_get_read items (length items) i word refl (omega arith) (search rules) in
    subst FitsRequest (take_next items i word at ∙ ap (λ (ws : _). ws ++ word ∷ []) (sym c.loop-text.invariant)) (fits_take items (i + 1) fits)
