-- Which replies are whole and clean.
use Rattle.std.proofs.Common.{◌≡◌, ◌≢◌, ℕ, ◌+◌, suc, Bool, true, false, List, [], ◌∷◌, ◌++◌, length, map, flat_map, subst, arith, refl, ap, ◌<◌, length-append}
use Rattle.std.specs.Prelude.{if◌then◌else◌, decimal}
use Rattle.std.specs.List.{AllByRecursion}
use Rattle.std.specs.Fmt.{signed_decimal}
use Rattle.byte_text.specs.Names.{Bytes}
use Rattle.byte_text.specs.Lines.{line_end}
use Rattle.byte_text.specs.Replies.{piece_text, frame_text, AreReplies, IsWhole, IsClean, IsFrame, array, bulk}
use Rattle.byte_text.specs.declared.replies.Piece.{Piece}
use Rattle.byte_text.specs.declared.replies.Piece.TheVariants as piece
use Rattle.world_data.specs.Filters.{Field, value_text}
use Rattle.world_model.specs.Replies.{value_reply, fields_reply, fields_part, is_ids, item_reply, object_reply, channel_reply}
use Rattle.world_data.specs.declared.channels.Channel.{Channel}
use Rattle.world_data.specs.declared.objects.Object.{Object}
use Rattle.world_data.specs.declared.queries.Query.{Query}
use Rattle.world_data.specs.declared.queries.Shown.{Shown}
use Rattle.world_data.specs.declared.queries.Shown.TheVariants as shown

abbrev pub Next : Type 0
Next = (m n : ℕ) (a b : List Piece) → AreReplies m a → AreReplies n b → AreReplies (m + n) (a ++ b)

abbrev pub Listed : Type 0
Listed = (n : ℕ) (a : List Piece) → AreReplies n a → IsWhole (piece.List n ∷ a)

clean_joined : (a b : List Piece) → AllByRecursion IsClean a → AllByRecursion IsClean b → AllByRecursion IsClean (a ++ b)
clean_joined [] b p q = q
clean_joined (x ∷ a) b p q = (p.0, clean_joined a b p.1 q)

items_whole : Next → (rs : List (List Piece)) → AllByRecursion IsFrame rs → AreReplies (length rs) (flat_map (λ r. r) rs)
items_whole next [] f = tt
items_whole next (r ∷ rs) f =
    let e : 1 + length rs ≡ suc (length rs) = omega arith in
    subst (λ (n : ℕ). AreReplies n (r ++ flat_map (λ r. r) rs)) e (next 1 (length rs) r (flat_map (λ r. r) rs) f.0.whole (items_whole next rs f.1))

items_clean : (rs : List (List Piece)) → AllByRecursion IsFrame rs → AllByRecursion IsClean (flat_map (λ r. r) rs)
items_clean [] f = tt
items_clean (r ∷ rs) f = clean_joined r _ f.0.clean (items_clean rs f.1)

pub array_frame : Next → Listed → (rs : List (List Piece)) → AllByRecursion IsFrame rs → IsFrame (array rs)
array_frame next list rs f = record { whole = list (length rs) _ (items_whole next rs f); clean = (tt, items_clean rs f) }

bulk_frame : (b : Bytes) → IsFrame (bulk b)
bulk_frame b = record { whole = tt; clean = (tt, tt) }

fields_frames : (fields : List Field) → AllByRecursion IsFrame (flat_map (λ f. bulk f.0 ∷ value_reply f.1 ∷ []) fields)
fields_frames [] = tt
fields_frames (f ∷ fields) = (bulk_frame f.0, (bulk_frame (value_text f.1), fields_frames fields))

pub fields_frame : Next → Listed → (fields : List Field) → IsFrame (fields_reply fields)
fields_frame next list fields = array_frame next list _ (fields_frames fields)

pub object_frame : (s : Shown) (o : Object) → s ≢ shown.Count → IsFrame (object_reply s o)
object_frame shown.Points o h = record { whole = tt; clean = (tt, (tt, (tt, tt))) }
object_frame shown.Bounds o h = record { whole = tt; clean = (tt, (tt, (tt, (tt, (tt, (tt, (tt, tt))))))) }
object_frame shown.Objects o h = bulk_frame o.text
object_frame shown.Ids o h = bulk_frame o.id
object_frame shown.Count o h = absurd (h refl)

pub with_fields_frame : Next → Listed → (s : Shown) (o : Object) → s ≢ shown.Count → IsFrame (array (object_reply s o ∷ fields_reply o.fields ∷ []))
with_fields_frame next list s o h = array_frame next list (object_reply s o ∷ fields_reply o.fields ∷ []) (object_frame s o h, (fields_frame next list o.fields, tt))

part_frames : Next → Listed → (bare : Bool) (fields : List Field) → AllByRecursion IsFrame (fields_part bare fields)
part_frames next list bare [] = tt
part_frames next list true (f ∷ fields) = tt
part_frames next list false (f ∷ fields) = (fields_frame next list (f ∷ fields), tt)

one_of : (b : Bool) (x y : List Piece) → IsFrame x → IsFrame y → IsFrame (if b then x else y)
one_of true x y f g = f
one_of false x y f g = g

pub item_frame : Next → Listed → (q : Query) (o : Object) → q.shown ≢ shown.Count → IsFrame (item_reply q o)
item_frame next list q o h =
    one_of (is_ids q.shown) _ _ (bulk_frame o.id)
    (array_frame next list (bulk o.id ∷ object_reply q.shown o ∷ fields_part q.bare o.fields) (bulk_frame o.id, (object_frame q.shown o h, part_frames next list q.bare o.fields)))

words_frames : (words : List Bytes) → AllByRecursion IsFrame (map bulk words)
words_frames [] = tt
words_frames (w ∷ words) = (bulk_frame w, words_frames words)

pub channel_frame : Next → Listed → (c : Channel) → IsFrame (channel_reply c)
channel_frame next list c = array_frame next list (bulk c.name ∷ bulk c.fence.key ∷ array (map bulk c.words) ∷ []) (bulk_frame c.name, (bulk_frame c.fence.key, (array_frame next list (map bulk c.words) (words_frames c.words), tt)))

-- a frame has a byte at least

marked : (p : Piece) → (b : ℕ) × (rest : Bytes) × (piece_text p ≡ b ∷ rest)
marked (piece.Status text) = (43, text ++ line_end, refl)
marked (piece.Fault text) = (45, text ++ line_end, refl)
marked (piece.Number n) = (58, signed_decimal n ++ line_end, refl)
marked (piece.Bulk bytes) = (36, (decimal (length bytes) ++ line_end) ++ (bytes ++ line_end), refl)
marked piece.NoBulk = (36, (45 ∷ 49 ∷ []) ++ line_end, refl)
marked piece.NoList = (42, (45 ∷ 49 ∷ []) ++ line_end, refl)
marked (piece.List n) = (42, decimal n ++ line_end, refl)

some_text : (r : List Piece) → IsFrame r → 0 < length (frame_text r)
some_text [] f = absurd f.whole
some_text (p ∷ ps) f = let m = marked p in let n = ap length m.2 in let l = length-append (piece_text p) (frame_text ps) in omega (arith, n, l)

pub longer : (before : Bytes) (r : List Piece) → IsFrame r → length before < length (before ++ frame_text r)
longer before r f = let s = some_text r f in let l = length-append before (frame_text r) in omega (arith, s, l)
