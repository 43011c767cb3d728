-- The names and values of fields, one after another.
use Rattle.std.proofs.Common.{◌≡◌, ℕ, zero, suc, ◌+◌, ◌*◌, ◌<◌, List, [], ◌∷◌, ◌++◌, length, flat_map, drop, refl, arith, subst, add-one, append_assoc}
use Rattle.std.specs.Prelude.{Option, Some, IfSome, slice_get}
use Rattle.byte_text.specs.Names.{Bytes}
use Rattle.byte_text.specs.Replies.{bulk}
use Rattle.byte_text.specs.declared.replies.Piece.{Piece}
use Rattle.byte_text.specs.declared.replies.Piece.TheVariants as piece
use Rattle.byte_text.specs.ListLaws.{item_at}
use Rattle.world_data.specs.declared.values.Value.{Value}
use Rattle.world_data.specs.Filters.{Field}
use Rattle.world_model.specs.Replies.{value_reply}

abbrev pub items : List Field → List (List Piece)
items fields = flat_map (λ f. bulk f.0 ∷ value_reply f.1 ∷ []) fields

abbrev pub pieces : List Field → List Piece
pieces fields = flat_map (λ r. r) (items fields)

pub counted : (fields : List Field) → length (items fields) ≡ length fields * 2
counted [] = refl
counted (f ∷ fields) = let e = counted fields in omega arith

step : (fields : List Field) (i : ℕ) (f : Field) → slice_get fields i ≡ Some f
    → pieces (drop i fields) ≡ bulk f.0 ++ (value_reply f.1 ++ pieces (drop (suc i) fields))
step [] i f is = absurd (cc)
step (g ∷ fields) zero f is = let e : g ≡ f = cc in rw e refl
step (g ∷ fields) (suc i) f is = step fields i f is

-- a field is written, and the rest is as it was
pub written : (fields : List Field) (i : ℕ) (name : Bytes) (value : Value) (before between after whole : List Piece) → i < length fields
    → IfSome (slice_get fields i) (λ f. name ≡ f.0) → between ≡ before ++ bulk name
    → IfSome (slice_get fields i) (λ f. value ≡ f.1) → after ≡ between ++ value_reply value
    → before ++ pieces (drop i fields) ≡ whole → after ++ pieces (drop (i + 1) fields) ≡ whole
written fields i name value before between after whole lt called first valued second w =
    let f = (item_at fields i lt).0 in
    let at = (item_at fields i lt).1 in
    let is : name ≡ f.0 = subst (λ (o : Option Field). IfSome o (λ f. name ≡ f.0)) at called in
    let same : value ≡ f.1 = subst (λ (o : Option Field). IfSome o (λ f. value ≡ f.1)) at valued in
    rw (second, first, is, same, add-one, append_assoc, append_assoc, ← step fields i f at) w

-- the head with room for all, and all that follows
pub begun : (fields : List Field) (words : ℕ) (before after : List Piece) → words ≡ length fields * 2 → after ≡ before ++ piece.List words ∷ []
    → after ++ pieces (drop 0 fields) ≡ before ++ piece.List (length (items fields)) ∷ pieces fields
begun fields words before after n e = rw (e, n, ← counted fields, append_assoc) refl
