-- The confirmations of subscriptions fit behind a queue that is not full.
use Rattle.std.proofs.Common.{◌≡◌, ℕ, ◌+◌, ◌*◌, ◌^◌, ◌≤◌, ◌<◌, Bool, true, false, ◌&&◌, refl, lit≤, List, [], ◌∷◌, ◌++◌, length, length-append, arith}
use Rattle.std.specs.Prelude.{map, decimal, codes, nat_le, nat_lt, if◌then◌else◌}
use Rattle.std.specs.List.{AllByRecursion, list_any, list_all}
use Rattle.std.proofs.lemmas.List.{length-map}
use Rattle.std.proofs.lemmas.List.Sums.{sum_by-cons}
use Rattle.std.proofs.lemmas.Fmt.{length-decimal-le}
use Rattle.byte_text.specs.Names.{Bytes, max_name}
use Rattle.byte_text.specs.Lines.{line, line_end, bulk_text}
use Rattle.byte_text.specs.Requests.{max_words}
use Rattle.byte_text.specs.Replies.{frame_text}
use Rattle.world_data.specs.Limits.{max_reply, max_subs}
use Rattle.world_model.specs.Subscriptions.{Sub, same_sub, has_subs, with_sub, with_subs}
use Rattle.world_model.specs.Replies.{confirmation, confirmations}
use Rattle.world_model.specs.declared.faults.Refusal.TheVariants as refusal
use Rattle.world_model.specs.Effects.{Effect, refuses, subscribe_effect, within_reply, effect}
use Rattle.world_data.specs.Frames.{frame_bytes}
use Rattle.world_data.specs.declared.worlds.World.{World}
use Rattle.world_model.specs.declared.commands.Command.{Command}
use Rattle.world_model.specs.declared.commands.Command.TheVariants as command
use Rattle.world_model.specs.declared.session_commands.SessionCommand.TheVariants as of_session
use Rattle.delivery_model.specs.Plans.{FitBehind, HasShortWords, subs_of, subscribes}

-- one confirmation is short

digits : (n : ℕ) → n < 2 ^ 64 → length (decimal n) ≤ 20
digits n lt = length-decimal-le 20 n (omega arith) (omega (arith, lt)) lt

line_len : (mark : ℕ) (t : Bytes) → length (line mark t) ≡ length t + 3
line_len mark t = omega (arith, length-append t (13 ∷ 10 ∷ []))

bulk_len : (b : Bytes) → length b < 2 ^ 64 → length (bulk_text b) ≤ length b + 25
bulk_len b lt = let d = digits (length b) lt in
    omega (arith, d, length-append (line 36 (decimal (length b))) (b ++ line_end), line_len 36 (decimal (length b)), length-append b line_end)

joined_len : (a b c d : Bytes) → length a ≤ 30 → length b ≤ 40 → length c ≤ 290 → length d ≤ 30 → length (a ++ (b ++ (c ++ (d ++ [])))) ≤ 400
joined_len a b c d p q r s = omega (
  arith,
  p,
  q,
  r,
  s,
  length-append a (b ++ (c ++ (d ++ []))),
  length-append b (c ++ (d ++ [])),
  length-append c (d ++ []),
  length-append d [],
)

pub confirmation_len : (called : Bytes) (s : Sub) (k : ℕ) → length called ≤ 10 → length s.word ≤ max_name → k < 2 ^ 64
    → length (frame_text (confirmation called (s, k))) ≤ 400
confirmation_len called s k p q r =
    joined_len (line 42 (decimal 3)) (bulk_text called) (bulk_text s.word) (line 58 (decimal k))
    (omega (arith, digits 3 (omega arith), line_len 42 (decimal 3)))
    (omega (arith, p, bulk_len called (omega (arith, p))))
    (omega (arith, q, bulk_len s.word (omega (arith, q))))
    (omega (arith, digits k r, line_len 58 (decimal k)))

with_len : (held : List Sub) (s : Sub) → length (with_sub held s) ≤ length held + 1
with_len held s = by (list_any (same_sub s) held)
  where
    by : (b : Bool) → length (if b then held else held ++ s ∷ []) ≤ length held + 1
    by true = omega arith
    by false = omega (arith, length-append held (s ∷ []))

abbrev pub AreShort : List Sub → Type 0
AreShort subs = AllByRecursion (λ s. length s.word ≤ max_name) subs

abbrev frames_of : Bytes → List Sub → List Sub → List Bytes
frames_of called held subs = map frame_text (confirmations called held subs)

as_many : (called : Bytes) (held subs : List Sub) → length (frames_of called held subs) ≡ length subs
as_many called held [] = refl
as_many called held (s ∷ subs) = let ih = as_many called (with_sub held s) subs in omega (arith, ih)

bytes_of : (called : Bytes) (held subs : List Sub) → length called ≤ 10 → AreShort subs → length held + length subs ≤ 100000
    → frame_bytes (frames_of called held subs) ≤ 400 * length subs
bytes_of called held [] p a b = omega arith
bytes_of called held (s ∷ subs) p a b =
    let more = with_len held s in
    let ih = bytes_of called (with_sub held s) subs p a.1 (omega (arith, b, more)) in
    let one = confirmation_len called s (length (with_sub held s)) p a.0 (omega (arith, b, more)) in
    omega (
      arith,
      ih,
      one,
      sum_by-cons length (frame_text (confirmation called (s, length (with_sub held s))))
          (frames_of called (with_sub held s) subs),
    )

-- all but the confirmations are short refusals
record Fits (e : Effect) : Type 0 where
  fit : FitBehind (map frame_text e.replies)

if_fits : (b : Bool) (e f : Effect) → Fits e → Fits f → Fits (if b then e else f)
if_fits true e f p q = p
if_fits false e f p q = q

pub short_subs : (pattern : Bool) (words : List Bytes) → AllByRecursion (λ w. length w ≤ max_name) words → AreShort (subs_of pattern words)
short_subs pattern [] all = tt
short_subs pattern (w ∷ words) all = (all.0, short_subs pattern words all.1)

confirmed : (called : Bytes) (held subs : List Sub) → length called ≤ 10 → AreShort subs → length held ≤ max_subs → length subs ≤ max_words
    → Fits (record { replies = confirmations called held subs; subs = subs; writes = []; closes = false })
confirmed called held subs p a h l = record {
  fit = record {
    few = omega (arith, as_many called held subs, l);
    light = omega (arith, bytes_of called held subs p a (omega (arith, h, l)), l);
  };
}

subscribed : (called : Bytes) (held subs : List Sub) → length called ≤ 10 → AreShort subs → length held ≤ max_subs → length subs ≤ max_words
    → Fits (within_reply (subscribe_effect called held subs))
subscribed called held subs p a h l =
    let e : Effect = subscribe_effect called held subs in
    let one : Fits e = if_fits (nat_lt max_subs (length (with_subs held subs))) (refuses refusal.TooManySubscriptions)
    (record { replies = confirmations called held subs; subs = subs; writes = []; closes = false })
    (record { fit = record { few = lit≤ tt; light = lit≤ tt } }) (confirmed called held subs p a h l) in
    if_fits (list_all (λ r. nat_le (length (frame_text r)) max_reply) e.replies) e (refuses refusal.ReplyTooLong) one
    (record { fit = record { few = lit≤ tt; light = lit≤ tt } })

whole : (w : World) (now : ℕ) (held : List Sub) (c : Command) → subscribes c ≡ true → HasShortWords c → length held ≤ max_subs
    → Fits (effect w now held c)
unfolding effect
whole w now held (command.Session (of_session.Subscribe names)) e s h =
    let l : length (subs_of false names) ≤ max_words = omega (arith, s.0, length-map {B = Sub} names (λ n. record { pattern = false; word = n })) in
    if_fits (has_subs held && false) (refuses refusal.Subscribed) (within_reply (subscribe_effect (codes "subscribe") held (subs_of false names)))
    (record { fit = record { few = lit≤ tt; light = lit≤ tt } })
    (subscribed (codes "subscribe") held (subs_of false names) (lit≤ tt) (short_subs false names s.1) h l)
whole w now held (command.Session (of_session.Psubscribe globs)) e s h =
    let l : length (subs_of true globs) ≤ max_words = omega (arith, s.0, length-map {B = Sub} globs (λ n. record { pattern = true; word = n })) in
    if_fits (has_subs held && false) (refuses refusal.Subscribed) (within_reply (subscribe_effect (codes "psubscribe") held (subs_of true globs)))
    (record { fit = record { few = lit≤ tt; light = lit≤ tt } })
    (subscribed (codes "psubscribe") held (subs_of true globs) (lit≤ tt) (short_subs true globs s.1) h l)
whole w now held c e s h = absurd (cc)

pub subscribing_fits : (w : World) (now : ℕ) (held : List Sub) (c : Command) → subscribes c ≡ true → HasShortWords c → length held ≤ max_subs
    → FitBehind (map frame_text (effect w now held c).replies)
subscribing_fits w now held c e s h = (whole w now held c e s h).fit
