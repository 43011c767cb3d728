-- What effects are made of: one reply and no subscription, or subscriptions and no change.
use Rattle.std.proofs.Common.{◌≡◌, inl, inr, ℕ, ◌≤◌, ◌==◌, ◌+◌, ◌*◌, Bool, true, false, not, ◌&&◌, refl, sym, ap, ◌∙◌, lit≤, List, [], ◌∷◌, length}
use Rattle.std.proofs.Common.{arith}
use Rattle.std.specs.Prelude.{Option, Some, None, Result, Ok, Err, nat_le, nat_lt, is_none, codes, if◌then◌else◌}
use Rattle.std.specs.List.{AllByRecursion, list_all}
use Rattle.std.proofs.lemmas.Bool.Decides.{nat_tests}
use Rattle.byte_text.specs.Names.{Bytes}
use Rattle.byte_text.specs.Replies.{frame_text, fine, number}
use Rattle.byte_text.specs.declared.replies.Piece.{Piece}
use Rattle.planar_geom.specs.declared.shapes.Area.{Area}
use Rattle.world_data.specs.Limits.{max_reply, max_fields, max_objects, max_channels, max_subs}
use Rattle.world_data.specs.Worlds.{object_at, channel_of}
use Rattle.world_data.specs.Filters.{Field, with_values}
use Rattle.world_model.specs.Subscriptions.{Sub, has_subs, with_subs}
use Rattle.world_model.specs.Replies.{null, confirmations}
use Rattle.world_model.specs.Refusals.{refusal_reply}
use Rattle.world_model.specs.declared.faults.Refusal.{Refusal}
use Rattle.world_model.specs.declared.faults.Refusal.TheVariants as refusal
use Rattle.world_model.specs.Effects.{given_and_cleared, Effect, says, changes, refuses, unless, if_object, with_object, missing, resolved}
use Rattle.world_model.specs.Effects.{command_effect, within_reply, is_served_subscribed, effect, put_effect, fset_effect, deadline_effect}
use Rattle.world_model.specs.Effects.{persist_effect, setchan_effect, settled_channel, set_area, with_deadline, subscribe_effect, changed_count}
use Rattle.world_model.specs.Effects.{fits, is_kept_back}
use Rattle.fence_model.specs.Writes.{Write, announced, silent}
use Rattle.world_data.specs.declared.objects.Object.{Object}
use Rattle.world_data.specs.declared.worlds.World.{World}
use Rattle.world_data.specs.declared.worlds.Change.TheVariants as change
use Rattle.world_data.specs.declared.channels.Channel.{Channel}
use Rattle.world_model.specs.declared.object_commands.Only.{Only}
use Rattle.world_model.specs.declared.search_commands.AreaWords.{AreaWords}
use Rattle.world_model.specs.declared.search_commands.AreaWords.TheVariants.{Given, Of}
use Rattle.world_model.specs.declared.commands.Command.{Command}
use Rattle.world_model.specs.declared.commands.Command.TheVariants as command
use Rattle.world_model.specs.declared.object_commands.ObjectCommand.TheVariants as of_object
use Rattle.world_model.specs.declared.search_commands.SearchCommand.TheVariants as of_search
use Rattle.world_model.specs.declared.channel_commands.ChannelCommand.TheVariants as of_channel
use Rattle.world_model.specs.declared.session_commands.SessionCommand.TheVariants as of_session
use Rattle.world_model.specs.declared.faults.WordFault.{WordFault}
use Rattle.world_model.specs.declared.events.Asked.{Asked}
use Rattle.world_model.specs.declared.events.Asked.TheVariants.{Words, Broken}
use Rattle.world_model.specs.Commands.{reads}
use Rattle.delivery_model.specs.Plans.{IsAnswer, SubscribesOrChanges, subs_of, subscribes, effect_of_read, effect_of_asked}

-- one reply and no subscription
record IsPlain (e : Effect) : Type 0 where
  reply : List Piece
  one : e.replies ≡ reply ∷ []
  none : e.subs ≡ []

plain : (r : List Piece) (writes : List Write) (closes : Bool) → IsPlain (record { replies = r ∷ []; subs = []; writes = writes; closes = closes })
plain r writes closes = record { reply = r; one = refl; none = refl }

answer : (r : List Piece) → IsPlain (says r)
answer r = plain r [] false

refused : (r : Refusal) → IsPlain (refuses r)
refused r = answer (refusal_reply r)

if_plain : (b : Bool) (e f : Effect) → IsPlain e → IsPlain f → IsPlain (if b then e else f)
if_plain true e f p q = p
if_plain false e f p q = q

unless_plain : (rs : List (Bool × Effect)) (e : Effect) → AllByRecursion (λ (r : Bool × Effect). IsPlain r.1) rs → IsPlain e → IsPlain (unless rs e)
unless_plain [] e all p = p
unless_plain (r ∷ rs) e all p = if_plain r.0 r.1 (unless rs e) all.0 (unless_plain rs e all.1 p)

object_plain : (o : Option Object) (e : Effect) (f : Object → Effect) → IsPlain e → ((p : Object) → IsPlain (f p)) → IsPlain (if_object o e f)
object_plain None e f p q = p
object_plain (Some o) e f p q = q o

missing_plain : (w : World) (key : Bytes) → IsPlain (missing w key)
missing_plain w key = answer _

with_plain : (w : World) (key id : Bytes) (f : Object → Effect) → ((o : Object) → IsPlain (f o)) → IsPlain (with_object w key id f)
with_plain w key id f q = by (object_at w key id) refl
  where
    by : (o : Option Object) → object_at w key id ≡ o → IsPlain (with_object w key id f)
    by None e = rw e (missing_plain w key)
    by (Some o) e = rw e (q o)

resolved_plain : (w : World) (from : AreaWords) (f : Area → List Bytes → Effect) → ((a : Area) (words : List Bytes) → IsPlain (f a words))
    → IsPlain (resolved w from f)
resolved_plain w (Given a) f q = q a []
resolved_plain w (Of key id) f q = with_plain w key id _ (λ o. q _ _)

put_plain : (w : World) (only : Only) (old : Option Object) (o : Object) → IsPlain (put_effect w only old o)
put_plain w only old o = unless_plain (
    (is_kept_back only old, says null) ∷
    (nat_lt max_fields (length o.fields), refuses refusal.TooManyFields) ∷
    (is_none old && nat_le max_objects (length w.objects), refuses refusal.TooManyObjects) ∷
    (not (fits w (change.Put o)), refuses refusal.DatabaseFull) ∷ [])
    (changes fine (announced (change.Put o) ∷ []))
    (answer null, (refused refusal.TooManyFields, (refused refusal.TooManyObjects, (refused refusal.DatabaseFull, tt))))
    (plain fine (announced (change.Put o) ∷ []) false)

fset_plain : (w : World) (o : Object) (given : List Field) → IsPlain (fset_effect w o given)
fset_plain w old given = let o : Object = record old { fields = with_values old.fields given } in
    let n = changed_count old.fields given in
    let writes : List Write = silent (change.Put o) ∷ [] in
    if_plain (n == 0) (says (number 0))
    (unless ((nat_lt max_fields (length o.fields), refuses refusal.TooManyFields) ∷ (not (fits w (change.Put o)), refuses refusal.DatabaseFull) ∷ [])
    (changes (number n) writes))
    (answer (number 0))
    (unless_plain ((nat_lt max_fields (length o.fields), refuses refusal.TooManyFields) ∷
    (not (fits w (change.Put o)), refuses refusal.DatabaseFull) ∷ []) (changes (number n) writes)
    (refused refusal.TooManyFields, (refused refusal.DatabaseFull, tt)) (plain (number n) writes false))

deadline_plain : (w : World) (o : Object) (d : ℕ) → IsPlain (deadline_effect w o d)
deadline_plain w old d = let o : Object = record old { deadline = Some d } in
    let writes : List Write = silent (change.Put o) ∷ [] in
    unless_plain ((not (fits w (change.Put o)), refuses refusal.DatabaseFull) ∷ []) (changes (number 1) writes) (refused refusal.DatabaseFull, tt)
    (plain (number 1) writes false)

persist_plain : (o : Object) → IsPlain (persist_effect o)
persist_plain o = if_plain _ _ _ (plain _ _ _) (answer _)

setchan_plain : (w : World) (c : Channel) → IsPlain (setchan_effect w c)
setchan_plain w c =
    let writes : List Write = silent (change.SetChan c) ∷ [] in
    unless_plain (
    (is_none (channel_of w c.name) && nat_le max_channels (length w.channels), refuses refusal.TooManyChannels) ∷
    (not (fits w (change.SetChan c)), refuses refusal.DatabaseFull) ∷ [])
    (changes (number 1) writes) (refused refusal.TooManyChannels, (refused refusal.DatabaseFull, tt)) (plain (number 1) writes false)

area_plain : (w : World) (c : Channel) (from : Option AreaWords) → IsPlain (set_area w c from)
area_plain w c None = setchan_plain w c
area_plain w c (Some from) = resolved_plain w from _ (λ a words. setchan_plain w (settled_channel c a words))

command_plain : (w : World) (now : ℕ) (held : List Sub) (c : Command) → subscribes c ≡ false → IsPlain (command_effect w now held c)
command_plain w now held (command.Object (of_object.Set key id given cleared after_ex only text shape)) e = put_plain w only (object_at w key id) _
command_plain w now held (command.Object (of_object.Get key id with_fields how)) e = object_plain (object_at w key id) _ _ (answer _) (λ o. answer _)
command_plain w now held (command.Object (of_object.Del key id)) e = object_plain (object_at w key id) _ _ (answer _) (λ o. plain _ _ _)
command_plain w now held (command.Object (of_object.Pdel key glob)) e = plain _ _ _
command_plain w now held (command.Object (of_object.Drop key)) e = if_plain _ _ _ (plain _ _ _) (answer _)
command_plain w now held (command.Object (of_object.Fset key id given cleared)) e =
    with_plain w key id _ (λ o. fset_plain w o (given_and_cleared given cleared))
command_plain w now held (command.Object (of_object.Fget key id field)) e = with_plain w key id _ (λ o. answer _)
command_plain w now held (command.Object (of_object.Expire key id s)) e =
    object_plain (object_at w key id) _ _ (answer _) (λ o. deadline_plain w o (now + 1000 * s))
command_plain w now held (command.Object (of_object.Persist key id)) e = object_plain (object_at w key id) _ _ (answer _) persist_plain
command_plain w now held (command.Object (of_object.Ttl key id)) e = object_plain (object_at w key id) _ _ (answer _) (λ o. answer _)
command_plain w now held (command.Object (of_object.Keys glob)) e = answer _
command_plain w now held (command.Object (of_object.Bounds key)) e = answer _
command_plain w now held (command.Object (of_object.Stats keys)) e = answer _
command_plain w now held (command.Object of_object.Flush) e = plain _ _ _
command_plain w now held (command.Object of_object.Shrink) e = answer _
command_plain w now held (command.Session of_session.Ping) e = answer _
command_plain w now held (command.Session of_session.Quit) e = plain _ _ _
command_plain w now held (command.Search (of_search.Scan key q)) e = answer _
command_plain w now held (command.Search (of_search.Area key q from)) e = resolved_plain w from _ (λ a words. answer _)
command_plain w now held (command.Search (of_search.Nearby key q p reach)) e = answer _
command_plain w now held (command.Channel (of_channel.Setchan c from after_ex)) e = area_plain w (with_deadline now after_ex c) from
command_plain w now held (command.Channel (of_channel.Delchan name)) e = if_plain _ _ _ (plain _ _ _) (answer _)
command_plain w now held (command.Channel (of_channel.Pdelchan glob)) e = plain _ _ _
command_plain w now held (command.Channel (of_channel.Chans glob)) e = answer _
command_plain w now held (command.Session (of_session.Subscribe names)) e = absurd (cc)
command_plain w now held (command.Session (of_session.Psubscribe globs)) e = absurd (cc)

-- refused where it is too long
short_answer : (r : List Piece) (writes : List Write) (closes : Bool) → length (frame_text r) ≤ max_reply
    → IsAnswer (record { replies = r ∷ []; subs = []; writes = writes; closes = closes })
short_answer r writes closes le = record { reply = r; one = refl; none = refl; short = le }

and_left : (n : ℕ) (b : Bool) → nat_le n max_reply ≡ b → (b && true) ≡ true → n ≤ max_reply
and_left n true e f = grind (arith, nat_tests)
and_left n false e f = absurd (cc)

within : (e : Effect) → IsPlain e → IsAnswer (within_reply e)
within e p = by (list_all (λ r. nat_le (length (frame_text r)) max_reply) e.replies) refl
  where
    by : (b : Bool) → list_all (λ r. nat_le (length (frame_text r)) max_reply) e.replies ≡ b
        → IsAnswer (if b then e else refuses refusal.ReplyTooLong)
    by true t = record {
      reply = p.reply;
      one = p.one;
      none = p.none;
      short = and_left (length (frame_text p.reply)) (nat_le (length (frame_text p.reply)) max_reply) refl
          (sym (ap (list_all (λ r. nat_le (length (frame_text r)) max_reply)) p.one) ∙ t);
    }
    by false t = short_answer _ [] false (lit≤ tt)

pub answers : (w : World) (now : ℕ) (held : List Sub) (c : Command) → subscribes c ≡ false → IsAnswer (effect w now held c)
unfolding effect
answers w now held c e = by (has_subs held && not (is_served_subscribed c))
  where
    by : (b : Bool) → IsAnswer (if b then refuses refusal.Subscribed else within_reply (command_effect w now held c))
    by true = short_answer _ [] false (lit≤ tt)
    by false = within (command_effect w now held c) (command_plain w now held c e)

-- those that subscribe change nothing
record Keeps (e : Effect) : Type 0 where
  same : e.writes ≡ []

if_keeps : (b : Bool) (e f : Effect) → Keeps e → Keeps f → Keeps (if b then e else f)
if_keeps true e f p q = p
if_keeps false e f p q = q

no_change : (replies : List (List Piece)) (subs : List Sub) (closes : Bool)
    → Keeps (record { replies = replies; subs = subs; writes = []; closes = closes })
no_change replies subs closes = record { same = refl }

subscribe_keeps : (called : Bytes) (held subs : List Sub) → Keeps (within_reply (subscribe_effect called held subs))
subscribe_keeps called held subs =
    let e : Effect = subscribe_effect called held subs in
    let p : Keeps e = if_keeps (nat_lt max_subs (length (with_subs held subs))) (refuses refusal.TooManySubscriptions)
    (record { replies = confirmations called held subs; subs = subs; writes = []; closes = false }) (no_change _ _ _) (no_change _ _ _) in
    if_keeps (list_all (λ r. nat_le (length (frame_text r)) max_reply) e.replies) e (refuses refusal.ReplyTooLong) p (no_change _ _ _)

both_keep : (w : World) (now : ℕ) (held : List Sub) (c : Command) → subscribes c ≡ true → Keeps (effect w now held c)
unfolding effect
both_keep w now held (command.Session (of_session.Subscribe names)) e =
    if_keeps (has_subs held && false) (refuses refusal.Subscribed) (within_reply (subscribe_effect (codes "subscribe") held (subs_of false names)))
    (no_change _ _ _) (subscribe_keeps (codes "subscribe") held (subs_of false names))
both_keep w now held (command.Session (of_session.Psubscribe globs)) e =
    if_keeps (has_subs held && false) (refuses refusal.Subscribed) (within_reply (subscribe_effect (codes "psubscribe") held (subs_of true globs)))
    (no_change _ _ _) (subscribe_keeps (codes "psubscribe") held (subs_of true globs))
both_keep w now held c e = absurd (cc)

pub subscribing_keeps : (w : World) (now : ℕ) (held : List Sub) (c : Command) → subscribes c ≡ true → (effect w now held c).writes ≡ []
subscribing_keeps w now held c e = (both_keep w now held c e).same

pub either : (w : World) (now : ℕ) (held : List Sub) (asked : Asked) → SubscribesOrChanges (effect_of_asked w now held asked)
either w now held (Words words) = of_read (reads words)
  where
    of_command : (c : Command) (b : Bool) → subscribes c ≡ b → SubscribesOrChanges (effect w now held c)
    of_command c true e = inr (subscribing_keeps w now held c e)
    of_command c false e = inl ((answers w now held c e).none)

    of_read : (r : Result Command WordFault) → SubscribesOrChanges (effect_of_read w now held r)
    of_read (Ok c) = of_command c (subscribes c) refl
    of_read (Err f) = inl refl
either w now held (Broken f) = inl refl

-- a session with subscriptions is served four commands alone
pub four_alone : (w : World) (now : ℕ) (held : List Sub) (c : Command) → has_subs held ≡ true → is_served_subscribed c ≡ false
    → effect w now held c ≡ refuses refusal.Subscribed
unfolding effect
four_alone w now held c h f = rw (h, f) refl

-- none of them changes anything
four_do : (w : World) (now : ℕ) (held : List Sub) (c : Command) → is_served_subscribed c ≡ true → Keeps (within_reply (command_effect w now held c))
four_do w now held (command.Session (of_session.Subscribe names)) e = subscribe_keeps (codes "subscribe") held (subs_of false names)
four_do w now held (command.Session (of_session.Psubscribe globs)) e = subscribe_keeps (codes "psubscribe") held (subs_of true globs)
four_do w now held (command.Session of_session.Ping) e = no_change _ _ _
four_do w now held (command.Session of_session.Quit) e = no_change _ _ _
four_do w now held c e = absurd (cc)

pub four_keep : (w : World) (now : ℕ) (held : List Sub) (c : Command) → has_subs held ≡ true → (effect w now held c).writes ≡ []
unfolding effect
four_keep w now held c h = by (is_served_subscribed c) refl
  where
    by : (b : Bool) → is_served_subscribed c ≡ b
        → (if has_subs held && not b then refuses refusal.Subscribed else within_reply (command_effect w now held c)).writes ≡ []
    by true e = let k = four_do w now held c e in both (has_subs held) k.same
      where
        both : (b : Bool) → (within_reply (command_effect w now held c)).writes ≡ []
            → (if b && false then refuses refusal.Subscribed else within_reply (command_effect w now held c)).writes ≡ []
        both true k = k
        both false k = k
    by false e = rw h refl
