-- What is staged for a session is what it hears.
use Rattle.std.proofs.Common.{◌≡◌, ℕ, ◌==◌, Bool, true, false, refl, ◌∙◌, ap, List, [], ◌∷◌, ◌++◌, append-nil, arith}
use Rattle.std.specs.Prelude.{map, flat_map, if◌then◌else◌}
use Rattle.std.specs.List.{AllByRecursion}
use Rattle.std.proofs.lemmas.Bool.Decides.{nat_tests}
use Rattle.byte_text.specs.Names.{Bytes}
use Rattle.world_data.specs.Worlds.{after}
use Rattle.fence_model.specs.Messages.{Message, messages}
use Rattle.fence_model.specs.Writes.{Write}
use Rattle.world_model.specs.Halls.{Session, is_live, is_session, frames_for, sent_to, deliveries_of, deliveries}
use Rattle.world_data.specs.declared.worlds.World.{World}
use Rattle.world_model.specs.SessionLaws.{other_way}
use Rattle.delivery_model.specs.Staging.{Delivery, HaveOwnNumbers, staged, frames_to, all_to, listens, frames_each, heard_of, heard}
use Rattle.delivery_model.specs.Placing.{all_by}

pub to_append : (n : ℕ) (a b : List Delivery) → frames_to n (a ++ b) ≡ frames_to n a ++ frames_to n b
to_append n [] b = refl
to_append n (d ∷ a) b = by (n == d.0) (to_append n a b)
  where
    by : (t : Bool) → frames_to n (a ++ b) ≡ frames_to n a ++ frames_to n b
        → (if t then d.1 ∷ frames_to n (a ++ b) else frames_to n (a ++ b)) ≡ (if t then d.1 ∷ frames_to n a else frames_to n a) ++ frames_to n b
    by true e = ap (λ (fs : List Bytes). d.1 ∷ fs) e
    by false e = e

equal : (n : ℕ) → (n == n) ≡ true
equal n = grind (arith, nat_tests)

pub to_own : (n : ℕ) (frames : List Bytes) → frames_to n (all_to n frames) ≡ frames
to_own n [] = refl
to_own n (f ∷ frames) = rw (equal n) (ap (λ (fs : List Bytes). f ∷ fs) (to_own n frames))

pub to_other : (n k : ℕ) (frames : List Bytes) → (n == k) ≡ false → frames_to n (all_to k frames) ≡ []
to_other n k [] e = refl
to_other n k (f ∷ frames) e = rw e (to_other n k frames e)

pub sent_is : (m : Message) (s : Session) → sent_to m s ≡ all_to s.number (frames_for m (listens s))
sent_is m s = by (is_live s)
  where
    by : (b : Bool) → (if b then map (λ f. (s.number, f)) (frames_for m s.subs) else []) ≡ all_to s.number (frames_for m (if b then s.subs else []))
    by true = refl
    by false = refl

-- a message that is sent to others
to_none : (n : ℕ) (m : Message) (sessions : List Session) → AllByRecursion (λ t. is_session n t ≡ false) sessions
    → frames_to n (flat_map (sent_to m) sessions) ≡ []
to_none n m [] all = refl
to_none n m (s ∷ sessions) all =
    to_append n (sent_to m s) (flat_map (sent_to m) sessions)
    ∙ ap (λ (fs : List Bytes). fs ++ frames_to n (flat_map (sent_to m) sessions))
    (ap (frames_to n) (sent_is m s) ∙ to_other n s.number (frames_for m (listens s)) (other_way s.number n all.0))
    ∙ to_none n m sessions all.1

-- each session is sent a message that it hears
abbrev Gets : List Session → Session → Type 0
Gets sessions s = (m : Message) → frames_to s.number (flat_map (sent_to m) sessions) ≡ frames_for m (listens s)

one_more : (s : Session) (sessions : List Session) (t : Session) → (is_session s.number t ≡ false) × Gets sessions t → Gets (s ∷ sessions) t
one_more s sessions t p m =
    to_append t.number (sent_to m s) (flat_map (sent_to m) sessions)
    ∙ ap (λ (fs : List Bytes). fs ++ frames_to t.number (flat_map (sent_to m) sessions))
    (ap (frames_to t.number) (sent_is m s) ∙ to_other t.number s.number (frames_for m (listens s)) p.0)
    ∙ p.1 m

both : (P Q : Session → Type 0) (ss : List Session) → AllByRecursion P ss → AllByRecursion Q ss → AllByRecursion (λ s. P s × Q s) ss
both P Q [] a b = tt
both P Q (s ∷ ss) a b = ((a.0, b.0), both P Q ss a.1 b.1)

all_get : (sessions : List Session) → HaveOwnNumbers sessions → AllByRecursion (Gets sessions) sessions
all_get [] own = tt
all_get (s ∷ sessions) own = (
  (λ m. to_append s.number (sent_to m s) (flat_map (sent_to m) sessions)
      ∙ ap (λ (fs : List Bytes). fs ++ frames_to s.number (flat_map (sent_to m) sessions))
      (ap (frames_to s.number) (sent_is m s) ∙ to_own s.number (frames_for m (listens s)))
      ∙ ap (λ (fs : List Bytes). frames_for m (listens s) ++ fs) (to_none s.number m sessions own.0)
      ∙ append-nil (frames_for m (listens s))),
  all_by (λ t. (is_session s.number t ≡ false) × Gets sessions t) (Gets (s ∷ sessions)) (one_more s sessions) sessions
      (both (λ t. is_session s.number t ≡ false) (Gets sessions) sessions own.0 (all_get sessions own.1)),
)

gets_each : (sessions : List Session) (s : Session) → Gets sessions s → (ms : List Message)
    → frames_to s.number (deliveries_of ms sessions) ≡ frames_each ms (listens s)
gets_each sessions s g [] = refl
gets_each sessions s g (m ∷ ms) =
    to_append s.number (flat_map (sent_to m) sessions) (deliveries_of ms sessions)
    ∙ ap (λ (fs : List Bytes). fs ++ frames_to s.number (deliveries_of ms sessions)) (g m)
    ∙ ap (λ (fs : List Bytes). frames_for m (listens s) ++ fs) (gets_each sessions s g ms)

gets_of : (w : World) (d : Write) (sessions : List Session) (s : Session) → Gets sessions s
    → frames_to s.number (deliveries w sessions d) ≡ heard_of w d (listens s)
gets_of w d sessions s g = gets_each sessions s g (messages w d)

pub gets_staged : (w : World) (writes : List Write) (sessions : List Session) (s : Session) → Gets sessions s
    → frames_to s.number (staged w sessions writes) ≡ heard w writes (listens s)
gets_staged w [] sessions s g = refl
gets_staged w (d ∷ writes) sessions s g =
    to_append s.number (deliveries w sessions d) (staged (after w d.change) sessions writes)
    ∙ ap (λ (fs : List Bytes). fs ++ frames_to s.number (staged (after w d.change) sessions writes)) (gets_of w d sessions s g)
    ∙ ap (λ (fs : List Bytes). heard_of w d (listens s) ++ fs) (gets_staged (after w d.change) writes sessions s g)

pub addressed : (w : World) (writes : List Write) (sessions : List Session) → HaveOwnNumbers sessions
    → AllByRecursion (λ s. frames_to s.number (staged w sessions writes) ≡ heard w writes (listens s)) sessions
addressed w writes sessions own = all_by (Gets sessions) (λ s. frames_to s.number (staged w sessions writes) ≡ heard w writes (listens s))
    (gets_staged w writes sessions) sessions (all_get sessions own)

pub addressed_one : (w : World) (d : Write) (sessions : List Session) → HaveOwnNumbers sessions
    → AllByRecursion (λ s. frames_to s.number (deliveries w sessions d) ≡ heard_of w d (listens s)) sessions
addressed_one w d sessions own = all_by (Gets sessions) (λ s. frames_to s.number (deliveries w sessions d) ≡ heard_of w d (listens s))
    (gets_of w d sessions) sessions (all_get sessions own)
