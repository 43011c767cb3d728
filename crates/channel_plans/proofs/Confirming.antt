-- Subscriptions one after another, and what confirms them.
use Rattle.std.proofs.Common.{◌≡◌, ℕ, zero, suc, ◌+◌, ◌≤◌, ◌<◌, Bool, true, false, refl, sym, ap, ◌∙◌, subst, lit≤, List, [], ◌∷◌, ◌++◌, length, map, arith}
use Rattle.std.specs.Prelude.{nat_le, nat_lt, ◌&&◌, if◌then◌else◌}
use Rattle.std.specs.List.{AllByRecursion, list_all}
use Rattle.std.proofs.lemmas.Bool.Decides.{nat_tests}
use Rattle.std.proofs.lemmas.List.{map-append}
use Rattle.byte_text.specs.ListLaws.{take_next}
use Rattle.byte_text.specs.Names.{Bytes, is_name, max_name}
use Rattle.byte_text.specs.Replies.{frame_text}
use Rattle.byte_text.specs.Requests.{max_words}
use Rattle.world_data.specs.Limits.{max_reply, max_subs}
use Rattle.world_data.specs.declared.worlds.World.{World}
use Rattle.world_model.specs.Effects.{Effect, effect, refuses, within_reply}
use Rattle.world_model.specs.Replies.{confirmation, confirmations}
use Rattle.world_model.specs.Subscriptions.{Sub, with_sub, with_subs, has_subs}
use Rattle.world_model.specs.declared.faults.Refusal.TheVariants as refusal
use Rattle.delivery_model.specs.Confirming.{AreShort, confirmation_len, short_subs}
use Rattle.delivery_model.specs.Plans.{HasShortWords, subs_of, subscribes}
use Rattle.reply_text.specs.Confirmations.{called_of}
use Rattle.session_table.specs.FanLaws.{sound_with_sub}
use Rattle.session_table.specs.Sessions.{AreSoundSubs}
use Rattle.session_table.specs.SubscribeLaws.{no_fewer}
use Rattle.session_table.specs.Subscribed.{sub}
use Rattle.channel_plans.specs.Subscribing.{subscribing}
use Rattle.std.specs.Prelude.{Some, slice_get, take}

-- one more

pub with_more : (held subs : List Sub) (s : Sub) → with_subs held (subs ++ s ∷ []) ≡ with_sub (with_subs held subs) s
with_more held [] s = refl
with_more held (x ∷ subs) s = with_more (with_sub held x) subs s

confirmed_more : (called : Bytes) (held subs : List Sub) (s : Sub) → confirmations called held (subs ++ s ∷ []) ≡ confirmations called held subs ++ confirmation called (s, length (with_sub (with_subs held subs) s)) ∷ []
confirmed_more called held [] s = refl
confirmed_more called held (x ∷ subs) s = ap (λ cs. confirmation called (x, length (with_sub held x)) ∷ cs) (confirmed_more called (with_sub held x) subs s)

pub frames_more : (called : Bytes) (held subs : List Sub) (s : Sub) → map frame_text (confirmations called held (subs ++ s ∷ [])) ≡ map frame_text (confirmations called held subs) ++ frame_text (confirmation called (s, length (with_sub (with_subs held subs) s))) ∷ []
frames_more called held subs s =
    ap (map frame_text) (confirmed_more called held subs s) ∙ map-append frame_text (confirmations called held subs) (confirmation called (s, length (with_sub (with_subs held subs) s)) ∷ [])

pub subs_more : (pattern : Bool) (words : List Bytes) (i : ℕ) (w : Bytes) → slice_get words i ≡ Some w → subs_of pattern (take (i + 1) words) ≡ subs_of pattern (take i words) ++ sub pattern w ∷ []
subs_more pattern words i w at = ap (subs_of pattern) (take_next words i w at) ∙ map-append (sub pattern) (take i words) (w ∷ [])

-- where one word of them is too many, all are
pub too_many_first : (held : List Sub) (pattern : Bool) (words : List Bytes) (i : ℕ) (w : Bytes) → slice_get words i ≡ Some w → max_subs < length (with_sub (with_subs held (subs_of pattern (take i words))) (sub pattern w)) → max_subs < length (with_subs held (subs_of pattern words))
too_many_first held pattern [] i w at more = absurd (cc)
too_many_first held pattern (v ∷ words) zero w at more =
    let is : v ≡ w = cc in
    let here : max_subs < length (with_sub held (sub pattern v)) = subst (λ (u : Bytes). max_subs < length (with_sub held (sub pattern u))) (sym is) more in
    omega (arith, here, no_fewer (with_sub held (sub pattern v)) (subs_of pattern words))
too_many_first held pattern (v ∷ words) (suc i) w at more = too_many_first (with_sub held (sub pattern v)) pattern words i w at more

-- patterns stay well formed

pub sound_all : (held subs : List Sub) → AreSoundSubs held → AreSoundSubs subs → AreSoundSubs (with_subs held subs)
sound_all held [] all more = all
sound_all held (s ∷ subs) all more = sound_all (with_sub held s) subs (sound_with_sub held s all more.0) more.1

-- confirmations are short

all_fit : (called : Bytes) (held subs : List Sub) → length called ≤ 10 → AreShort subs → length (with_subs held subs) ≤ max_subs → list_all (λ r. nat_le (length (frame_text r)) max_reply) (confirmations called held subs) ≡ true
all_fit called held [] p a few = refl
all_fit called held (s ∷ subs) p a few =
    let count : length (with_sub held s) ≤ max_subs = omega (arith, few, no_fewer (with_sub held s) subs) in
    let one = confirmation_len called s (length (with_sub held s)) p a.0 (omega (arith, count)) in
    let t : nat_le (length (frame_text (confirmation called (s, length (with_sub held s))))) max_reply ≡ true = fits_frame (length (frame_text (confirmation called (s, length (with_sub held s))))) one in
    rw t (all_fit called (with_sub held s) subs p a.1 few)
  where
    fits_frame : (n : ℕ) → n ≤ 400 → nat_le n max_reply ≡ true
    fits_frame n le = let more : n ≤ max_reply = omega (arith, le) in grind (arith, nat_tests)

short_called : (pattern : Bool) → length (called_of pattern) ≤ 10
short_called true = lit≤ tt
short_called false = lit≤ tt

words_of : (pattern : Bool) (words : List Bytes) → HasShortWords (subscribing pattern words) → AllByRecursion (λ w. length w ≤ max_name) words
words_of true words s = s.1
words_of false words s = s.1

-- what the command does

abbrev pub confirmed : Bool → List Sub → List Bytes → Effect
confirmed pattern held words = record { replies = confirmations (called_of pattern) held (subs_of pattern words); subs = subs_of pattern words; writes = []; closes = false }

-- whatever may be asked while subscribed
open_to : (b : Bool) (e : Effect) → (if b && false then refuses refusal.Subscribed else e) ≡ e
open_to true e = refl
open_to false e = refl

full : (many : Bool) (e : Effect) → many ≡ true → within_reply (if many then refuses refusal.TooManySubscriptions else e) ≡ within_reply (refuses refusal.TooManySubscriptions)
full many e t = rw t refl

taken : (many : Bool) (e : Effect) → many ≡ false → list_all (λ r. nat_le (length (frame_text r)) max_reply) e.replies ≡ true → within_reply (if many then refuses refusal.TooManySubscriptions else e) ≡ e
taken many e f t = rw (f, t) refl

module _ (u : World) (now : ℕ) (held : List Sub) (words : List Bytes) where
  abbrev are_many : Bool → Bool
  are_many pattern = nat_lt max_subs (length (with_subs held (subs_of pattern words)))

  abbrev answered : Bool → Effect
  answered pattern = within_reply (if are_many pattern then refuses refusal.TooManySubscriptions else confirmed pattern held words)

  pub refused : (pattern : Bool) → max_subs < length (with_subs held (subs_of pattern words)) → effect u now held (subscribing pattern words) ≡ within_reply (refuses refusal.TooManySubscriptions)
  unfolding effect
  refused true more = let t : are_many true ≡ true = grind (arith, nat_tests) in open_to (has_subs held) (answered true) ∙ full (are_many true) (confirmed true held words) t
  refused false more = let t : are_many false ≡ true = grind (arith, nat_tests) in open_to (has_subs held) (answered false) ∙ full (are_many false) (confirmed false held words) t

  pub accepted : (pattern : Bool) → HasShortWords (subscribing pattern words) → length (with_subs held (subs_of pattern words)) ≤ max_subs → effect u now held (subscribing pattern words) ≡ confirmed pattern held words
  unfolding effect
  accepted true s few =
      let t : are_many true ≡ false = grind (arith, nat_tests) in
      open_to (has_subs held) (answered true) ∙ taken (are_many true) (confirmed true held words) t (all_fit (called_of true) held (subs_of true words) (short_called true) (short_subs true words (words_of true words s)) few)
  accepted false s few =
      let t : are_many false ≡ false = grind (arith, nat_tests) in
      open_to (has_subs held) (answered false) ∙ taken (are_many false) (confirmed false held words) t (all_fit (called_of false) held (subs_of false words) (short_called false) (short_subs false words (words_of false words s)) few)

all_short : (words : List Bytes) → AllByRecursion (λ w. is_name w ≡ true) words → AllByRecursion (λ w. length w ≤ max_name) words
all_short [] names = tt
all_short (w ∷ words) names = (short w names.0, all_short words names.1)
  where
    short : (w : Bytes) → is_name w ≡ true → length w ≤ max_name
    short w e = let t : nat_le (length w) max_name ≡ true = grind arith in grind (arith, nat_tests)

pub it_subscribes : (pattern : Bool) (words : List Bytes) → subscribes (subscribing pattern words) ≡ true
it_subscribes true words = refl
it_subscribes false words = refl

-- names are no longer than they may be, and no more than a request holds
pub short_words : (pattern : Bool) (words : List Bytes) → length words ≤ max_words → AllByRecursion (λ w. is_name w ≡ true) words → HasShortWords (subscribing pattern words)
short_words true words few names = (few, all_short words names)
short_words false words few names = (few, all_short words names)

pub held_few : (held subs : List Sub) → length (with_subs held subs) ≤ max_subs → length held ≤ max_subs
held_few held subs few = omega (arith, few, no_fewer held subs)
