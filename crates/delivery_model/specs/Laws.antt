-- The laws of deliveries.
use Rattle.std.specs.Prelude.{◌≡◌, ℕ, ◌==◌, ◌≤◌, max, true, false, List, [], ◌∷◌, ◌++◌, map, length, Some}
use Rattle.std.specs.List.{AllByRecursion}
use Rattle.byte_text.specs.Replies.{frame_text}
use Rattle.byte_text.specs.declared.replies.Piece.{Piece}
use Rattle.world_model.specs.Histories.{is_full}
use Rattle.world_data.specs.Limits.{max_subs, max_reply}
use Rattle.byte_text.specs.Names.{Bytes}
use Rattle.world_model.specs.Subscriptions.{Sub, has_subs}
use Rattle.world_model.specs.Effects.{Effect, effect, refuses, is_served_subscribed}
use Rattle.fence_model.specs.Writes.{Write, due_writes}
use Rattle.world_data.specs.declared.worlds.World.{World}
use Rattle.world_model.specs.declared.commands.Command.{Command}
use Rattle.world_model.specs.declared.faults.Refusal.TheVariants as refusal
use Rattle.world_model.specs.Halls.{Hall, Session, session_of, is_live, placed_each, place_all, apply_all, due, do_call}
use Rattle.delivery_model.specs.Staging.{AreStaged, Suffice, Delivery, HaveOwnNumbers, Rise, after_all, after_writes, staged, frames_to, listens}
use Rattle.delivery_model.specs.Staging.{heard, placed_all, has_room_for}
use Rattle.delivery_model.specs.Plans.{CallPlan, IsCallPlan, IsReplied, FitBehind, HasShortWords, NoneListens, IsOfObjects, plan_names, IsAnswer}
use Rattle.delivery_model.specs.Plans.{SubscribesOrChanges, subscribes, effect_of_asked, brought, answered, finish}
use Rattle.world_model.specs.declared.events.Asked.{Asked}

-- placing a list changes the sessions alone
abbrev pub PlacingIsOfSessions : Type 0
PlacingIsOfSessions = (h : Hall) (list : List Delivery) → place_all h list ≡ record h { sessions = placed_all h.sessions list }

-- each session takes the frames that are for its number
abbrev pub EachTakesItsOwn : Type 0
EachTakesItsOwn = (sessions : List Session) (list : List Delivery)
    → placed_all sessions list ≡ map (λ s. placed_each s (frames_to s.number list)) sessions

-- changes in order are done by staging all that they bring, and placing it after the last of them
abbrev pub StagingIsSound : Type 0
StagingIsSound = (h : Hall) (writes : List Write) → HaveOwnNumbers h.sessions
    → apply_all h writes ≡ place_all (after_writes h writes h.sessions) (staged h.world h.sessions writes)

-- the same, session by session
abbrev pub EachHears : Type 0
EachHears = (h : Hall) (writes : List Write) → HaveOwnNumbers h.sessions
    → apply_all h writes ≡ after_writes h writes (map (λ s. placed_each s (heard h.world writes (listens s))) h.sessions)

-- a session is still served just where it had room for all frames together, which then stand last in its queue
abbrev pub ServedByCounts : Type 0
ServedByCounts = (s : Session) (frames : List Bytes) → is_live s ≡ true → is_live (placed_each s frames) ≡ has_room_for s frames

abbrev pub ServedTakesAll : Type 0
ServedTakesAll = (s : Session) (frames : List Bytes) → is_live s ≡ true → has_room_for s frames ≡ true
    → placed_each s frames ≡ record s { frames = s.frames ++ frames }

-- what is due is done by staging it
abbrev pub DueIsStaged : Type 0
DueIsStaged = (h : Hall) (moment : ℕ) → HaveOwnNumbers h.sessions → let writes = due_writes h.world (max h.now moment) in
    due h moment ≡ after_writes (record h { now = max h.now moment }) writes (placed_all h.sessions (staged h.world h.sessions writes))

-- the finish of a plan is the whole call
abbrev pub PlanDoesCall : Type 0
PlanDoesCall = (h : Hall) (moment n : ℕ) (asked : Asked) (p : CallPlan) → HaveOwnNumbers h.sessions → IsCallPlan h moment n asked p
    → finish h moment n p ≡ do_call (due h moment) n asked

-- a call of a session that is served behind what is due, session by session: each is brought all that it hears of what is due and of the
-- call's own writes, and then the caller has its subscriptions and replies
abbrev pub CallBySessions : Type 0
CallBySessions = (h : Hall) (moment n : ℕ) (asked : Asked) (s : Session) → HaveOwnNumbers h.sessions → session_of h n ≡ Some s → is_live s ≡ true
    → let now = max h.now moment in let dues = due_writes h.world now in let w = after_all h.world dues in
    let e = effect_of_asked w now s.subs asked in
    has_room_for s (heard h.world dues (listens s)) ≡ true
    → do_call (due h moment) n asked ≡ after_writes (after_writes (record h { now = now }) dues h.sessions) e.writes
    (answered n e (brought h.world (dues ++ e.writes) h.sessions))

-- no request both subscribes and changes something
abbrev pub NoneSubscribesAndChanges : Type 0
NoneSubscribesAndChanges = (w : World) (now : ℕ) (held : List Sub) (asked : Asked) → SubscribesOrChanges (effect_of_asked w now held asked)

-- a command that does not subscribe answers with one reply that is short enough
abbrev pub OthersAnswer : Type 0
OthersAnswer = (w : World) (now : ℕ) (held : List Sub) (c : Command) → subscribes c ≡ false → IsAnswer (effect w now held c)

-- one that subscribes changes nothing
abbrev pub SubscribingKeeps : Type 0
SubscribingKeeps = (w : World) (now : ℕ) (held : List Sub) (c : Command) → subscribes c ≡ true → (effect w now held c).writes ≡ []

-- a session with subscriptions is served four commands alone, and none of them changes anything
abbrev pub SubscribedAreServedFour : Type 0
SubscribedAreServedFour = (w : World) (now : ℕ) (held : List Sub) (c : Command) → has_subs held ≡ true → is_served_subscribed c ≡ false
    → effect w now held c ≡ refuses refusal.Subscribed

abbrev pub SubscribedChangeNothing : Type 0
SubscribedChangeNothing = (w : World) (now : ℕ) (held : List Sub) (c : Command) → has_subs held ≡ true → (effect w now held c).writes ≡ []

-- a session without subscriptions that is not full is not cut by its own call, and its replies then stand last in its queue
abbrev pub OwnCallNeverCuts : Type 0
OwnCallNeverCuts = (h : Hall) (moment n : ℕ) (asked : Asked) (s : Session) → HaveOwnNumbers h.sessions → session_of h n ≡ Some s
    → is_live s ≡ true → is_full s ≡ false → s.subs ≡ []
    → let frames = map frame_text (effect_of_asked (due h moment).world (max h.now moment) s.subs asked).replies in
    FitBehind frames → IsReplied (session_of h n) (session_of (do_call (due h moment) n asked) n) frames

-- one short reply fits, and so do the confirmations of the words of a request
abbrev pub AnswersFit : Type 0
AnswersFit = (e : Effect) → IsAnswer e → FitBehind (map frame_text e.replies)

abbrev pub ConfirmationsFit : Type 0
ConfirmationsFit = (w : World) (now : ℕ) (held : List Sub) (c : Command) → subscribes c ≡ true → HasShortWords c → length held ≤ max_subs
    → FitBehind (map frame_text (effect w now held c).replies)

-- every call has a plan
abbrev pub CallsHavePlans : Type 0
CallsHavePlans = (h : Hall) (moment n : ℕ) (asked : Asked) → HaveOwnNumbers h.sessions → (p : CallPlan) × IsCallPlan h moment n asked p

-- a session that is neither the caller nor named in a plan is as it was
abbrev pub TouchedAreNamed : Type 0
TouchedAreNamed = (h : Hall) (moment n k : ℕ) (asked : Asked) (p : CallPlan) → HaveOwnNumbers h.sessions → IsCallPlan h moment n asked p
    → (k == n) ≡ false → plan_names k p ≡ false
    → session_of (do_call (due h moment) n asked) k ≡ session_of h k

-- nothing is staged where no session listens, nor for changes of objects where there are no channels
abbrev pub NoneListeningNoneStaged : Type 0
NoneListeningNoneStaged = (w : World) (sessions : List Session) (writes : List Write) → NoneListens sessions → staged w sessions writes ≡ []

abbrev pub WithoutChannelsNoneStaged : Type 0
WithoutChannelsNoneStaged = (w : World) (sessions : List Session) (writes : List Write) → w.channels ≡ []
    → AllByRecursion (λ d. IsOfObjects d.change) writes → staged w sessions writes ≡ []

-- staging goes on from the world that it came to
abbrev pub StagedInTurn : Type 0
StagedInTurn = (w : World) (sessions : List Session) (a b : List Write)
    → staged w sessions (a ++ b) ≡ staged w sessions a ++ staged (after_all w a) sessions b

-- so does what a session hears
abbrev pub HeardInTurn : Type 0
HeardInTurn = (w : World) (a b : List Write) (subs : List Sub) → heard w (a ++ b) subs ≡ heard w a subs ++ heard (after_all w a) b subs

-- sessions by rising numbers have numbers of their own
abbrev pub RisingHaveOwnNumbers : Type 0
RisingHaveOwnNumbers = (low : ℕ) (sessions : List Session) → Rise low sessions → HaveOwnNumbers sessions

-- what is staged with the sessions of the start is a list that has what each session is brought
abbrev pub StagedAreStaged : Type 0
StagedAreStaged = (w : World) (sessions : List Session) (writes : List Write) → HaveOwnNumbers sessions
    → AreStaged w writes sessions (staged w sessions writes)

-- changes in order are done by placing any such list, on sessions that may have taken other frames since
abbrev pub StagedListsServe : Type 0
StagedListsServe = (h : Hall) (writes : List Write) (before : List Session) (between list : List Delivery) → HaveOwnNumbers before
    → h.sessions ≡ placed_all before between → AreStaged h.world writes before list
    → apply_all h writes ≡ after_writes h writes (placed_all h.sessions list)

-- a beginning for which there is no room does for all that comes behind it
abbrev pub EnoughIsEnough : Type 0
EnoughIsEnough = (s : Session) (all some more : List Bytes) → Suffice s.frames all some → has_room_for s some ≡ false
    → Suffice s.frames (all ++ more) some

-- all frames do, whatever the room
abbrev pub AllSuffice : Type 0
AllSuffice = (s : Session) (all : List Bytes) → Suffice s.frames all all

-- so a call with one short reply is answered by one frame, which stands last in the caller's queue
abbrev pub OneReplyAnswers : Type 0
OneReplyAnswers = (h : Hall) (moment n : ℕ) (asked : Asked) (s : Session) (reply : List Piece) → HaveOwnNumbers h.sessions
    → session_of h n ≡ Some s → is_live s ≡ true → is_full s ≡ false → s.subs ≡ []
    → (effect_of_asked (due h moment).world (max h.now moment) s.subs asked).replies ≡ reply ∷ [] → length (frame_text reply) ≤ max_reply
    → IsReplied (session_of h n) (session_of (do_call (due h moment) n asked) n) (frame_text reply ∷ [])
