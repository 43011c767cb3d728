-- What a piece gives.
use Rattle.std.proofs.Common.{◌≡◌, ◌≤◌, ℕ, true, List, [], ◌∷◌, ◌++◌, length, take, drop, Option, Some, None, refl, sym, ap, subst, ◌∙◌, append_assoc, append-nil, take-append-drop}
use Rattle.std.specs.Prelude.{is_some}
use Rattle.std.proofs.lemmas.List.{append_cancel_right}
use Rattle.byte_text.specs.Names.{Bytes}
use Rattle.byte_text.specs.Requests.{request_text, IsRequest, IsRequestText}
use Rattle.byte_text.specs.Streams.{found, begun, broken, request}
use Rattle.byte_text.specs.declared.faults.RespFault.{RespFault}
use Rattle.resp_frames.specs.declared.faults.FeedFault.TheVariants.{Broken, Memory}
use Rattle.resp_frames.specs.declared.request_places.Place.{Place}
use Rattle.resp_frames.specs.declared.request_places.Place.TheVariants.{Star}
use Rattle.resp_frames.specs.declared.pieces.Scan.TheVariants as scans
use Rattle.resp_frames.specs.RequestPlaces.{from, IsPlace}
use Rattle.resp_frames.specs.Pieces.{Says}
use Rattle.resp_frames.specs.RequestReader.{Held, held_of, IsReader, IsFed, IsNotFed, blind, TextsAreRead, ReadTexts}
use Rattle.resp_frames.proofs.StepLaws.{from_none}
use Rattle.resp_frames.proofs.BlindLaws.{blind_request, blind_begun, blind_broken, blind_found}

-- a reader at this place, and its value
pub record Stands (p : Option Place) (held : Bytes) (value : Held) (place : Place) : Type 0 where
  pub is : p ≡ Some place
  pub value_is : held_of p held ≡ value
  pub reader : IsReader p held

some_value : (p : Option Place) (held : Bytes) (place : Place) → p ≡ Some place → held_of p held ≡ Some held
some_value None held place e = absurd (cc e)
some_value (Some q) held place e = refl

value_of : (p : Option Place) (held : Bytes) (value : Held) (place : Place) → Stands p held value place → value ≡ Some held
value_of p held value place s = sym s.value_is ∙ some_value p held place s.is

reader_of : (p : Option Place) (held : Bytes) (value : Held) (place : Place) → Stands p held value place → IsReader (Some place) held
reader_of p held value place s = subst (λ q. IsReader q held) s.is s.reader

pub is_place : (p : Option Place) (held : Bytes) (value : Held) (place : Place) → Stands p held value place → IsPlace place
is_place p held value place s = (reader_of p held value place s).0

-- what is read behind the bytes held
reads_on : (p : Option Place) (held piece : Bytes) (value : Held) (place : Place) → Stands p held value place → blind (request (held ++ piece)) ≡ from place piece
reads_on p held piece value place s = (reader_of p held value place s).1 piece

pub goes_begun : (place next : Place) (piece : Bytes) → Says place piece (scans.Goes next) → from place piece ≡ begun
goes_begun place next piece g = ap (from place) (sym (append-nil piece)) ∙ g.1 [] ∙ from_none next

pub fed_on : (p : Option Place) (held new piece : Bytes) (value : Held) (place next : Place) → Stands p held value place → Says place piece (scans.Goes next) → new ≡ held ++ piece → IsFed value (Some new) piece (length piece) None
fed_on p held new piece value place next s g n =
    let begins : request (held ++ piece) ≡ begun = blind_begun (request (held ++ piece)) (reads_on p held piece value place s ∙ goes_begun place next piece g) in
    subst (λ v. IsFed v (Some new) piece (length piece) None) (sym (value_of p held value place s)) (begins, refl, ap Some n)

pub reader_on : (p : Option Place) (held new piece : Bytes) (value : Held) (place next : Place) → Stands p held value place → Says place piece (scans.Goes next) → new ≡ held ++ piece → IsReader (Some next) new
reader_on p held new piece value place next s g n =
    (g.0, λ more. ap (λ x. blind (request (x ++ more))) n ∙ ap (λ x. blind (request x)) (append_assoc held piece more) ∙ reads_on p held (piece ++ more) value place s ∙ g.1 more)

pub reader_begins : IsReader (Some Star) []
reader_begins = (tt, blind_request)

-- the request that ends in the piece
ended : (p : Option Place) (held piece : Bytes) (value : Held) (place : Place) (taken : ℕ) → Stands p held value place → Says place piece (scans.Whole taken)
    → (words : List Bytes) × (request (held ++ piece) ≡ found words (drop taken piece))
ended p held piece value place taken s w = blind_found (request (held ++ piece)) (drop taken piece) (reads_on p held piece value place s ∙ w.1)

parted : (held piece : Bytes) (taken : ℕ) → held ++ piece ≡ (held ++ take taken piece) ++ drop taken piece
parted held piece taken = ap (λ x. held ++ x) (sym (take-append-drop taken piece)) ∙ sym (append_assoc held (take taken piece) (drop taken piece))

pub ended_text : ReadTexts → (p : Option Place) (held piece : Bytes) (value : Held) (place : Place) (taken : ℕ) → Stands p held value place → Says place piece (scans.Whole taken) → IsRequestText (held ++ take taken piece)
ended_text read_texts p held piece value place taken s w =
    let e = ended p held piece value place taken s w in
    let h = read_texts (held ++ piece) (drop taken piece) e.0 e.1 in
    (e.0, h.0, append_cancel_right (held ++ take taken piece) (request_text e.0) (drop taken piece) (sym (parted held piece taken) ∙ h.1))

pub fed_whole : TextsAreRead → (p : Option Place) (held piece : Bytes) (value : Held) (place : Place) (taken : ℕ) (words : List Bytes) → Stands p held value place → Says place piece (scans.Whole taken)
    → IsRequest words → held ++ take taken piece ≡ request_text words → IsFed value (Some []) piece taken (Some words)
fed_whole texts_read p held piece value place taken words s w is text =
    let read : request (held ++ piece) ≡ found words (drop taken piece) = ap request (parted held piece taken ∙ ap (λ x. x ++ drop taken piece) text) ∙ texts_read words (drop taken piece) is in
    subst (λ v. IsFed v (Some []) piece taken (Some words)) (sym (value_of p held value place s)) (read, w.0, refl, is)

-- a request that stands whole at the front of the piece, where no bytes are held
pub fed_short : TextsAreRead → (p : Option Place) (held piece : Bytes) (value : Held) (taken : ℕ) (words : List Bytes) → is_some p ≡ true → length held ≡ 0 → held_of p held ≡ value
    → IsRequest words × (taken ≤ length piece) × (take taken piece ≡ request_text words) → IsFed value value piece taken (Some words)
fed_short texts_read None held piece value taken words some empty is w = absurd (cc)
fed_short texts_read (Some q) (b ∷ held) piece value taken words some empty is w = absurd (cc)
fed_short texts_read (Some q) [] piece value taken words some empty is w =
    let read : request piece ≡ found words (drop taken piece) = ap request (sym (take-append-drop taken piece) ∙ ap (λ x. x ++ drop taken piece) w.2) ∙ texts_read words (drop taken piece) w.0 in
    subst (λ v. IsFed v v piece taken (Some words)) is (read, w.1, refl, w.0)

pub not_fed : (p : Option Place) (held piece : Bytes) (value : Held) (place : Place) (fault : RespFault) → Stands p held value place → Says place piece (scans.Fails fault) → IsNotFed value None piece (Broken fault)
not_fed p held piece value place fault s f =
    let breaks : request (held ++ piece) ≡ broken fault = blind_broken (request (held ++ piece)) fault (reads_on p held piece value place s ∙ f) in
    subst (λ v. IsNotFed v None piece (Broken fault)) (sym (value_of p held value place s)) (breaks, refl)

pub no_memory : (p : Option Place) (held piece : Bytes) (value new : Held) (place : Place) → Stands p held value place → new ≡ value → IsNotFed value new piece Memory
no_memory p held piece value new place s n =
    let is = value_of p held value place s in
    subst (λ v. IsNotFed v new piece Memory) (sym is) (n ∙ is)
