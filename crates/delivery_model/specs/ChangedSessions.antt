-- Sessions found behind the finish of a plan.
use Rattle.std.proofs.Common.{◌≡◌, ℕ, ◌==◌, Bool, true, false, ◌||◌, refl, ◌∙◌, ap, List, [], ◌∷◌, arith}
use Rattle.std.specs.Prelude.{Option, Some, None, find, option_map, if◌then◌else◌}
use Rattle.std.proofs.lemmas.Bool.Decides.{nat_tests}
use Rattle.world_model.specs.Halls.{Hall, Session, closing, is_live, is_session, session_of, placed_each}
use Rattle.world_model.specs.SessionLaws.{found_map, found_number}
use Rattle.delivery_model.specs.Staging.{Delivery, frames_to, all_to, names, changed_at, placed_all}
use Rattle.delivery_model.specs.Plans.{Part, CallPlan, subscribing, ending, ended_if, with_part, with_parts, part_names, plan_names, finish}
use Rattle.delivery_model.specs.Serving.{found_placed, number_is}

-- the session of a number, changed
pub placed_some : (n : ℕ) (s : Session) (ss : List Session) (list : List Delivery) → find (is_session n) ss ≡ Some s
    → find (is_session n) (placed_all ss list) ≡ Some (placed_each s (frames_to n list))
placed_some n s ss list f =
    found_placed n ss list
    ∙ ap (option_map (λ t. placed_each t (frames_to t.number list))) f
    ∙ ap (λ (k : ℕ). Some (placed_each s (frames_to k list))) (number_is n s (found_number n s ss f))

number_of : (b : Bool) (f : Session → Session) (s : Session) → (f s).number ≡ s.number → (if b then f s else s).number ≡ s.number
number_of true f s e = e
number_of false f s e = refl

changed_found : (n k : ℕ) (f : Session → Session) (ss : List Session) → ((s : Session) → (f s).number ≡ s.number)
    → find (is_session k) (changed_at f n ss) ≡ option_map (λ s. if is_session n s then f s else s) (find (is_session k) ss)
changed_found n k f ss keeps = found_map (λ s. if is_session n s then f s else s) (λ s. number_of (is_session n s) f s (keeps s)) k ss

pub changed_some : (n : ℕ) (s : Session) (f : Session → Session) (ss : List Session) → ((s : Session) → (f s).number ≡ s.number)
    → find (is_session n) ss ≡ Some s → find (is_session n) (changed_at f n ss) ≡ Some (f s)
changed_some n s f ss keeps e =
    let found : is_session n s ≡ true = found_number n s ss e in
    changed_found n n f ss keeps ∙ ap (option_map (λ t. if is_session n t then f t else t)) e ∙ ap (λ (b : Bool). Some (if b then f s else s)) found

pub ending_number : (s : Session) → (ending s).number ≡ s.number
ending_number s = by (is_live s)
  where
    by : (b : Bool) → (if b then record s { stage = closing; subs = [] } else s).number ≡ s.number
    by true = refl
    by false = refl

pub ended_some : (b : Bool) (n : ℕ) (s : Session) (ss : List Session) → find (is_session n) ss ≡ Some s
    → find (is_session n) (ended_if b n ss) ≡ Some (if b then ending s else s)
ended_some true n s ss e = changed_some n s ending ss ending_number e
ended_some false n s ss e = e

-- the caller behind its part
pub caller_some : (n : ℕ) (s : Session) (q : Part) (ss : List Session) → find (is_session n) ss ≡ Some s
    → find (is_session n) (with_part n q ss) ≡ Some
    (if q.closes then ending (placed_each (placed_each (subscribing q.subs s) (frames_to n (all_to n q.replies))) (frames_to n q.brings))
    else placed_each (placed_each (subscribing q.subs s) (frames_to n (all_to n q.replies))) (frames_to n q.brings))
caller_some n s q ss e =
    let one = changed_some n s (subscribing q.subs) ss (λ t. refl) e in
    let two = placed_some n (subscribing q.subs s) (changed_at (subscribing q.subs) n ss) (all_to n q.replies) one in
    let three = placed_some n (placed_each (subscribing q.subs s) (frames_to n (all_to n q.replies)))
    (placed_all (changed_at (subscribing q.subs) n ss) (all_to n q.replies)) q.brings two in
    ended_some q.closes n (placed_each (placed_each (subscribing q.subs s) (frames_to n (all_to n q.replies))) (frames_to n q.brings))
    (placed_all (placed_all (changed_at (subscribing q.subs) n ss) (all_to n q.replies)) q.brings) three

-- sessions of other numbers

none_to : (k : ℕ) (list : List Delivery) → names k list ≡ false → frames_to k list ≡ []
none_to k [] e = refl
none_to k (d ∷ list) e = by (k == d.0) (none_to k list) e
  where
    by : (b : Bool) → (names k list ≡ false → frames_to k list ≡ []) → (b || names k list) ≡ false
        → (if b then d.1 ∷ frames_to k list else frames_to k list) ≡ []
    by true ih e = absurd (cc)
    by false ih e = ih e

pub placed_other : (k : ℕ) (ss : List Session) (list : List Delivery) → names k list ≡ false
    → find (is_session k) (placed_all ss list) ≡ find (is_session k) ss
placed_other k ss list e = by (find (is_session k) ss) refl
  where
    by : (o : Option Session) → find (is_session k) ss ≡ o → find (is_session k) (placed_all ss list) ≡ o
    by None f = found_placed k ss list ∙ ap (option_map (λ t. placed_each t (frames_to t.number list))) f
    by (Some s) f = placed_some k s ss list f ∙ ap (λ fs. Some (placed_each s fs)) (none_to k list e)

differs : (n m k : ℕ) → (k == n) ≡ false → m ≡ k → (m == n) ≡ false
differs n m k e f = grind (arith, nat_tests)

pub changed_other : (n k : ℕ) (f : Session → Session) (ss : List Session) → ((s : Session) → (f s).number ≡ s.number) → (k == n) ≡ false
    → find (is_session k) (changed_at f n ss) ≡ find (is_session k) ss
changed_other n k f ss keeps e = changed_found n k f ss keeps ∙ by (find (is_session k) ss) refl
  where
    by : (o : Option Session) → find (is_session k) ss ≡ o → option_map (λ s. if is_session n s then f s else s) o ≡ o
    by None g = refl
    by (Some s) g = ap (λ (b : Bool). Some (if b then f s else s)) (differs n s.number k e (number_is k s (found_number k s ss g)))

own_names : (n k : ℕ) (frames : List (List ℕ)) → (k == n) ≡ false → names k (all_to n frames) ≡ false
own_names n k [] e = refl
own_names n k (f ∷ frames) e = rw e (own_names n k frames e)

ended_other : (b : Bool) (n k : ℕ) (ss : List Session) → (k == n) ≡ false → find (is_session k) (ended_if b n ss) ≡ find (is_session k) ss
ended_other true n k ss e = changed_other n k ending ss ending_number e
ended_other false n k ss e = refl

parts_other : (n k : ℕ) (part : Option Part) (ss : List Session) → (k == n) ≡ false → part_names k part ≡ false
    → find (is_session k) (with_parts n part ss) ≡ find (is_session k) ss
parts_other n k None ss e unnamed = refl
parts_other n k (Some q) ss e unnamed =
    let subscribed = changed_at (subscribing q.subs) n ss in
    let told = placed_all subscribed (all_to n q.replies) in
    ended_other q.closes n k (placed_all told q.brings) e
    ∙ placed_other k told q.brings unnamed
    ∙ placed_other k subscribed (all_to n q.replies) (own_names n k q.replies e)
    ∙ changed_other n k (subscribing q.subs) ss (λ s. refl) e

or_false : (a b : Bool) → (a || b) ≡ false → (a ≡ false) × (b ≡ false)
or_false true b e = absurd (cc)
or_false false b e = (refl, e)

pub finish_other : (h : Hall) (moment n k : ℕ) (p : CallPlan) → (k == n) ≡ false → plan_names k p ≡ false
    → session_of (finish h moment n p) k ≡ session_of h k
finish_other h moment n k p e unnamed =
    let both = or_false (names k p.dues) (part_names k p.part) unnamed in
    parts_other n k p.part (placed_all h.sessions p.dues) e both.1 ∙ placed_other k h.sessions p.dues both.0
