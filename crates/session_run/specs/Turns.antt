-- The calls of one turn, as those that serve what a session is to be asked.
use Rattle.std.specs.Prelude.{◌≡◌, ◌<◌, ℕ, List, [], ◌∷◌, ◌++◌, length, map, take, drop, Option, Some, MatchOption}
use Rattle.std.proofs.Common.{refl, sym, ap, ◌∙◌, subst, arith, append_assoc, take-append-drop, inr}
use Rattle.world_model.specs.Outcomes.{call_act, call_acts, last_call}
use Rattle.world_model.specs.Seats.{Act}
use Rattle.world_model.specs.declared.events.Asked.{Asked}
use Rattle.world_model.specs.declared.events.CallOutcome.{CallOutcome}
use Rattle.world_model.specs.declared.events.CallOutcome.TheVariants as called
use Rattle.session_run.specs.Calls.{Call, call_of, Serves, IsStop, behind}
use Rattle.session_run.specs.Ends.{end_of, EndsAt}
use Rattle.session_run.specs.declared.ends.InEnd.{InEnd}

-- a call of this at a moment, and its answer
abbrev pub call_at : ℕ → CallOutcome → Asked → Call
call_at m answer a = record { moment = m; asked = a; answer = answer }

-- the calls of a turn that were answered Ok, and the one behind them, where there is one
abbrev pub ok_calls : ℕ → List Asked → ℕ → List Call
ok_calls m asked served = map (call_at m called.Ok) (take served asked)

abbrev pub next_calls : ℕ → List Asked → ℕ → CallOutcome → List Call
next_calls m asked served called.Ok = []
next_calls m asked served end = map (call_at m end) (take 1 (drop served asked))

abbrev pub turn_calls : ℕ → List Asked → ℕ → CallOutcome → List Call
turn_calls m asked served end = ok_calls m asked served ++ next_calls m asked served end

-- the turn's moment is the one that the clock tells
abbrev pub IsTold : Option ℕ → ℕ → Type 0
IsTold told m = MatchOption told (Unit {0}) (λ t. m ≡ t)

map_more : (n : ℕ) (a b : List Call) → map (call_of n) (a ++ b) ≡ map (call_of n) a ++ map (call_of n) b
map_more n [] b = refl
map_more n (c ∷ a) b = ap (λ (l : List Act). call_of n c ∷ l) (map_more n a b)

acts_of : (n m : ℕ) (end : CallOutcome) (asked : List Asked) → map (call_of n) (map (call_at m end) asked) ≡ map (call_act n m end) asked
acts_of n m end [] = refl
acts_of n m end (a ∷ asked) = ap (λ (l : List Act). call_act n m end a ∷ l) (acts_of n m end asked)

last_act : (n m : ℕ) (end : CallOutcome) (asked : List Asked) → map (call_of n) (next_calls m asked 0 end) ≡ last_call n m end asked
last_act n m called.Ok [] = refl
last_act n m called.Ok (a ∷ asked) = refl
last_act n m end [] = refl
last_act n m end (a ∷ asked) = refl

next_behind : (m : ℕ) (asked : List Asked) (served : ℕ) (end : CallOutcome) → next_calls m asked served end ≡ next_calls m (drop served asked) 0 end
next_behind m asked served called.Ok = refl
next_behind m asked served end = refl

-- these are the acts that a turn of the hall makes
pub turn_acts : (n m : ℕ) (asked : List Asked) (served : ℕ) (end : CallOutcome)
    → map (call_of n) (turn_calls m asked served end) ≡ call_acts n m asked served end
turn_acts n m asked served end =
    map_more n (ok_calls m asked served) (next_calls m asked served end)
    ∙ ap (λ (l : List Act). l ++ map (call_of n) (next_calls m asked served end)) (acts_of n m called.Ok (take served asked))
    ∙ ap (λ (l : List Act). map (call_act n m called.Ok) (take served asked) ++ l)
    (ap (map (call_of n)) (next_behind m asked served end) ∙ last_act n m end (drop served asked))

-- calls one behind another
pub serves_more : (told : Option ℕ) (a b : List Call) (asks mid left : List Asked) → Serves told a asks mid → Serves told b mid left
    → Serves told (a ++ b) asks left
serves_more told [] b asks mid left s t = subst (λ (l : List Asked). Serves told b l left) s t
serves_more told (c ∷ a) b asks mid left s t = (s.0, s.1, s.2, serves_more told a b (behind c.answer asks) mid left s.3 t)

module _ (told : Option ℕ) (m : ℕ) (timely : IsTold told m) where
  pub serves_oks : (oks left : List Asked) → Serves told (map (call_at m called.Ok) oks) (oks ++ left) left
  serves_oks [] left = refl
  serves_oks (a ∷ oks) left = (timely, (oks ++ left, refl), refl, serves_oks oks left)

  pub serves_full : (asks more : List Asked) → 0 < length asks → Serves told (map (call_at m called.Full) (take 1 asks)) (asks ++ more) (asks ++ more)
  serves_full [] more some = absurd (omega (arith, some))
  serves_full (a ∷ asks) more some = (timely, (asks ++ more, refl), refl, refl)

  pub stops_next : (end : CallOutcome) (asks more : List Asked) → 0 < length asks → IsStop told end (map (call_at m end) (take 1 asks)) (asks ++ more)
  stops_next end [] more some = absurd (omega (arith, some))
  stops_next end (a ∷ asks) more some = (call_at m end a, refl, refl, timely, (asks ++ more, refl))

-- what was answered Ok, and then what is left
pub split_asks : (n : ℕ) (asks more : List Asked) → asks ++ more ≡ take n asks ++ (drop n asks ++ more)
split_asks n asks more = ap (λ (l : List Asked). l ++ more) (sym (take-append-drop n asks)) ∙ append_assoc (take n asks) (drop n asks) more

-- what is left stood behind all that was served
pub serves_front : (told : Option ℕ) (calls : List Call) (asks left : List Asked) → Serves told calls asks left
    → (front : List Asked) × (asks ≡ front ++ left)
serves_front told [] asks left s = ([], sym s)
serves_front told (c ∷ calls) asks left s = front_more c.answer c.asked s.1.0 asks left s.1.1
    (serves_front told calls (behind c.answer asks) left s.3)
  where
    front_more : (answer : CallOutcome) (a : Asked) (more asks left : List Asked) → asks ≡ a ∷ more
        → ((front : List Asked) × (behind answer asks ≡ front ++ left)) → (front : List Asked) × (asks ≡ front ++ left)
    front_more called.Ok a more asks left is f = (a ∷ f.0, is ∙ ap (λ (l : List Asked). a ∷ l) (sym (ap (behind called.Ok) is) ∙ f.1))
    front_more answer a more asks left is f = f

same_end : (a b : InEnd) → Some a ≡ Some b → a ≡ b
same_end a b e = cc

-- the end that an answer brings is an end with this call
pub ends_at : (told : Option ℕ) (end : CallOutcome) (why : InEnd) (stop : List Call) (asks left : List Asked) → end_of end ≡ Some why
    → IsStop told end stop left → EndsAt told why stop asks left
ends_at told called.Ok why stop asks left is s = absurd (cc)
ends_at told called.Full why stop asks left is s = absurd (cc)
ends_at told called.Memory why stop asks left is s = subst (λ (w : InEnd). EndsAt told w stop asks left) (same_end _ why is) (inr s)
ends_at told end why stop asks left is s = subst (λ (w : InEnd). EndsAt told w stop asks left) (same_end _ why is) s
