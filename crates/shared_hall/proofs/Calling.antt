-- Calls one behind another.
use Rattle.std.proofs.Common.{◌≡◌, ◌≢◌, ◌<◌, ℕ, zero, suc, ◌+◌, Bool, true, false, true≢false, List, [], ◌∷◌, ◌++◌, map, take, drop, refl, sym, ap, ◌∙◌, arith}
use Rattle.std.specs.Prelude.{Some, slice_get}
use Rattle.std.specs.List.{list_all}
use Rattle.std.proofs.lemmas.List.{append-nil}
use Rattle.ordered_lists.specs.Reading.{all_at}
use Rattle.world_model.specs.Halls.{Hall, session_of, NamesChanged}
use Rattle.world_model.specs.Seats.{Act}
use Rattle.world_model.specs.Outcomes.{is_proper, call_act, last_call, call_acts, IsCount}
use Rattle.world_model.specs.declared.events.Asked.{Asked}
use Rattle.world_model.specs.declared.events.CallOutcome.{CallOutcome}
use Rattle.world_model.specs.declared.events.CallOutcome.TheVariants as called
use Rattle.tile_core.specs.Answered.{StayNamed, is_named}

next_of : (f : Asked → Act) (xs : List Asked) (i : ℕ) (x : Asked) → slice_get xs i ≡ Some x → map f (take i xs) ++ f x ∷ [] ≡ map f (take (suc i) xs)
next_of f [] i x at = absurd (cc)
next_of f (y ∷ xs) zero x at = let is : y ≡ x = cc in ap (λ (z : Asked). f z ∷ []) (sym is)
next_of f (y ∷ xs) (suc i) x at = ap (λ (zs : List Act). f y ∷ zs) (next_of f xs i x at)

-- one call more is made
pub next_call : (f : Asked → Act) (xs : List Asked) (i : ℕ) (x : Asked) → slice_get xs i ≡ Some x → map f (take i xs) ++ f x ∷ [] ≡ map f (take (i + 1) xs)
next_call f xs i x at = let one : suc i ≡ i + 1 = omega arith in next_of f xs i x at ∙ ap (λ (n : ℕ). map f (take n xs)) one

pub is_proper_at : (xs : List Asked) (i : ℕ) (x : Asked) → list_all is_proper xs ≡ true → slice_get xs i ≡ Some x → is_proper x ≡ true
is_proper_at xs i x all at = all_at is_proper xs i x at all

last_one : (n m : ℕ) (end : CallOutcome) (x : Asked) (xs : List Asked) → end ≢ called.Ok → last_call n m end (x ∷ xs) ≡ call_act n m end x ∷ []
last_one n m called.Ok x xs not_ok = absurd (not_ok refl)
last_one n m called.Full x xs not_ok = refl
last_one n m called.Gone x xs not_ok = refl
last_one n m called.LogFault x xs not_ok = refl
last_one n m called.Stopped x xs not_ok = refl
last_one n m called.Spent x xs not_ok = refl
last_one n m called.Memory x xs not_ok = refl

last_at : (n m : ℕ) (end : CallOutcome) (xs : List Asked) (i : ℕ) (x : Asked) → end ≢ called.Ok → slice_get xs i ≡ Some x → last_call n m end (drop i xs) ≡ call_act n m end x ∷ []
last_at n m end [] i x not_ok at = absurd (cc)
last_at n m end (y ∷ xs) zero x not_ok at = let is : y ≡ x = cc in last_one n m end y xs not_ok ∙ ap (λ (z : Asked). call_act n m end z ∷ []) is
last_at n m end (y ∷ xs) (suc i) x not_ok at = last_at n m end xs i x not_ok at

-- the calls up to the first that was not answered Ok
pub acts_to : (n m : ℕ) (end : CallOutcome) (xs : List Asked) (i : ℕ) (x : Asked) → end ≢ called.Ok → slice_get xs i ≡ Some x → map (call_act n m called.Ok) (take i xs) ++ call_act n m end x ∷ [] ≡ call_acts n m xs i end
acts_to n m end xs i x not_ok at = ap (λ (l : List Act). map (call_act n m called.Ok) (take i xs) ++ l) (sym (last_at n m end xs i x not_ok at))

none_last : (n m : ℕ) (xs : List Asked) → last_call n m called.Ok xs ≡ []
none_last n m [] = refl
none_last n m (x ∷ xs) = refl

-- all calls were answered Ok
pub acts_all : (n m : ℕ) (xs : List Asked) (i : ℕ) → map (call_act n m called.Ok) (take i xs) ≡ call_acts n m xs i called.Ok
acts_all n m xs i = sym (ap (λ (l : List Act). map (call_act n m called.Ok) (take i xs) ++ l) (none_last n m (drop i xs)) ∙ append-nil (map (call_act n m called.Ok) (take i xs)))

pub stops_at : (end : CallOutcome) (i n : ℕ) → end ≢ called.Ok → i < n → IsCount i end n
stops_at called.Ok i n not_ok lt = absurd (not_ok refl)
stops_at called.Full i n not_ok lt = lt
stops_at called.Gone i n not_ok lt = lt
stops_at called.LogFault i n not_ok lt = lt
stops_at called.Stopped i n not_ok lt = lt
stops_at called.Spent i n not_ok lt = lt
stops_at called.Memory i n not_ok lt = lt

-- what was changed before is still named, and what is changed now is
pub names_more : (named more : List ℕ) (h k l : Hall) → NamesChanged named h k → StayNamed named more → NamesChanged more k l → NamesChanged more h l
names_more named more h k l p stay q = λ n ne. by n ne (is_named more n) refl
  where
    by : (n : ℕ) → session_of l n ≢ session_of h n → (b : Bool) → is_named more n ≡ b → is_named more n ≡ true
    by n ne true e = e
    by n ne false e = absurd (
        let not_ok : is_named more n ≡ true → ⊥ = λ yes. true≢false (sym yes ∙ e) in
        not_ok (q n (λ same. not_ok (stay n (p n (λ (before : session_of k n ≡ session_of h n). ne (same ∙ before)))))))

pub none_changed : (named : List ℕ) (h : Hall) → NamesChanged named h h
none_changed named h = λ n ne. absurd (ne refl)
