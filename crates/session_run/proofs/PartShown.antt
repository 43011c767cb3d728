-- A part's text is no message of a live fence, so all of it is shown.
use Rattle.std.proofs.Common.{◌≡◌, ℕ, sym, ap, ◌∙◌, [], ◌∷◌, ◌++◌, arith, subst}
use Rattle.std.proofs.lemmas.List.{append-nil}
use Rattle.std.specs.Prelude.{false, Option, Some, None, Result, Ok, Err, OnOk, codes, decimal, flat_map}
use Rattle.std.specs.Result.{is_err}
use Rattle.std.proofs.lemmas.Fmt.{decimal_digit}
use Rattle.std.specs.Io.KnownBytes.{append_known, Appends}
use Rattle.byte_text.specs.Lines.{line, bulk_text}
use Rattle.byte_text.specs.Names.{Bytes}
use Rattle.byte_text.specs.Replies.{frame_text}
use Rattle.byte_text.specs.declared.replies.Piece.TheVariants as piece
use Rattle.live_fence.specs.LiveFences.{live_name}
use Rattle.live_fence.specs.Parts.{behind, bulk_in, head_pieces, payload_or, shown}
use Rattle.repl_stream.specs.Texts.{part_text, part_words}
use Rattle.repl_stream.specs.declared.parts.Part.{Part}
use Rattle.world_model.specs.declared.events.Outcome.TheVariants as outcome
use Rattle.session_run.specs.Live.{shown_bytes}
use Rattle.session_run.specs.Outs.{given_bytes}
use Rattle.session_run.specs.Owing.{owed_taken}
use Rattle.session_run.specs.Steps.{UnlessLost}
use Rattle.session_run.specs.declared.phases.TakeEnd.{TakeEnd}
use Rattle.session_run.specs.declared.phases.TakeEnd.TheVariants as took

-- an array of three is no beginning of one of five
apart : (n : ℕ) (rest : Bytes) → behind (frame_text (head_pieces n)) (line 42 (decimal 5) ++ rest) ≡ None
apart n rest =
    ap (λ (ds : Bytes). behind (line 42 ds ++ frame_text (piece.Bulk (codes "message") ∷ piece.Bulk (live_name n) ∷ [])) (line 42 (decimal 5) ++ rest))
    (decimal_digit 3 (omega arith))
    ∙ ap (λ (ds : Bytes). behind (line 42 (51 ∷ []) ++ frame_text (piece.Bulk (codes "message") ∷ piece.Bulk (live_name n) ∷ [])) (line 42 ds ++ rest))
    (decimal_digit 5 (omega arith))

pub part_shown : (n : ℕ) (part : Part) (bytes : Bytes) → shown_bytes n (part_text part bytes ∷ []) ≡ part_text part bytes
part_shown n part bytes =
    append-nil (shown n (part_text part bytes))
    ∙ ap (λ (o : Option Bytes). payload_or (part_text part bytes) (bulk_in o)) (apart n (flat_map bulk_text (part_words part bytes)))

-- where it was put it is to be written behind all that was
put_ok : {P E : Type 0} → (r : Result (Unit {0}) E) → false ≡ is_err r → OnOk r P → P
put_ok (Ok u) well p = p
put_ok (Err e) well p = absurd (cc well)

part_ends : (end : Option TakeEnd) (held : Option Bytes) (n : ℕ) (part : Part) (bytes : Bytes)
    → UnlessLost end (Appends (append_known held []) (append_known held (part_text part bytes)) (shown_bytes n (part_text part bytes ∷ [])))
part_ends (Some took.Memory) held n part bytes = tt
part_ends end held n part bytes =
    subst (λ (l : Bytes). Appends (append_known held []) (append_known held (part_text part bytes)) l) (sym (part_shown n part bytes))
    (owed_taken held [] (part_text part bytes))

pub part_owed : {E : Type 0} → (end : Option TakeEnd) (held : Option Bytes) (old out : Bytes) (n : ℕ) (part : Part) (bytes : Bytes)
    (r : Result (Unit {0}) E) → old ≡ [] → false ≡ is_err r → OnOk r (out ≡ part_text part bytes)
    → UnlessLost end (Appends (append_known held old) (append_known held out) (given_bytes n (outcome.Given (part_text part bytes ∷ []))))
part_owed end held old out n part bytes r bare well put =
    subst (λ (l : Bytes). UnlessLost end (Appends (append_known held old) (append_known held l) (shown_bytes n (part_text part bytes ∷ []))))
    (sym (put_ok r well put))
    (subst (λ (l : Bytes). UnlessLost end (Appends (append_known held l) (append_known held (part_text part bytes)) (shown_bytes n (part_text part bytes ∷ []))))
    (sym bare) (part_ends end held n part bytes))
