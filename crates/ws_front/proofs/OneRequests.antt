-- What is read as one request is one request's text, and the other way round.
use Rattle.std.proofs.Common.{◌≡◌, ◌∙◌, Bool, true, List, [], ◌∷◌, ◌++◌, Result, Ok, Err, IfOk, refl, sym, ap, append-nil}
use Rattle.std.specs.Prelude.{Decides}
use Rattle.byte_text.specs.Names.{Bytes}
use Rattle.byte_text.specs.Requests.{IsRequest, IsRequestText, request_text}
use Rattle.byte_text.specs.Streams.{Front, found, begun, broken, request}
use Rattle.ws_front.specs.Requests.{is_whole, is_one_request}

abbrev Texts : Type 0
Texts = (words : List Bytes) (behind : Bytes) → IsRequest words → request (request_text words ++ behind) ≡ found words behind

abbrev Founds : Type 0
Founds = (bytes behind : Bytes) (words : List Bytes) → request bytes ≡ found words behind → IsRequest words × (bytes ≡ request_text words ++ behind)

whole_text : Founds → (bytes : Bytes) (x : Front (List Bytes)) → request bytes ≡ x → is_whole x ≡ true → IsRequestText bytes
whole_text law bytes (found words []) is e = let h = law bytes [] words is in (words, h.0, h.1 ∙ append-nil (request_text words))
whole_text law bytes (found words (b ∷ behind)) is e = absurd (cc e)
whole_text law bytes begun is e = absurd (cc e)
whole_text law bytes (broken fault) is e = absurd (cc e)

text_whole : Texts → (bytes : Bytes) → IsRequestText bytes → is_one_request bytes ≡ true
text_whole law bytes is = ap (λ t. is_whole (request t)) (is.2 ∙ sym (append-nil (request_text is.0))) ∙ ap is_whole (law is.0 [] is.1)

pub decides : {E : Type 0} → Texts → Founds → (bytes : Bytes) (r : Result Bool E) → IfOk r (λ is. is ≡ is_one_request bytes)
    → IfOk r (λ is. Decides is (IsRequestText bytes))
decides texts founds bytes (Ok is) e = ((λ t. whole_text founds bytes (request bytes) refl (sym e ∙ t)), (λ t. e ∙ text_whole texts bytes t))
decides texts founds bytes (Err f) e = tt
