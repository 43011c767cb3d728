-- What a turn adds to what a seat shows.
use Rattle.std.proofs.Common.{◌≡◌, ℕ, zero, suc, ◌+◌, Bool, false, List, [], ◌∷◌, ◌++◌, length, map, take, drop, refl, sym, ap, ◌∙◌, subst}
use Rattle.std.specs.Prelude.{Option, Some}
use Rattle.std.specs.List.{range_with_len}
use Rattle.byte_text.specs.Names.{Bytes}
use Rattle.outside.specs.Sides.{Sides}
use Rattle.turn_lock.specs.declared.seat.Known.{Known}
use Rattle.turn_lock.specs.Seats.{Turn, OwnsKept, OwnPlaces}
use Rattle.turn_lock.specs.Turned.{NoneKept}
use Rattle.world_model.specs.Halls.{NamesChanged}
use Rattle.world_model.specs.Histories.{IsLegal, Reaches}
use Rattle.world_model.specs.Laws.{StepsLeadToOne}
use Rattle.world_model.specs.Outcomes.{call_act, call_acts, last_call}
use Rattle.world_model.specs.Seats.{Act, act_of, places_from, Knows, AddsCalls, AddsNamed, NamesChangedBy}
use Rattle.world_model.specs.declared.events.Asked.{Asked}
use Rattle.world_model.specs.declared.events.CallOutcome.{CallOutcome}
use Rattle.world_model.specs.declared.events.CallOutcome.TheVariants as called
use Rattle.world_model.specs.declared.events.Entry.{Entry}
use Rattle.world_model.specs.declared.events.Opening.{Opening}
use Rattle.log_record.specs.Journals.{is_retire}
use Rattle.durable_core.specs.Histories.{Writing}
use Rattle.shared_hall.specs.Cores.{hall_in, tells, StandsIn}
use Rattle.shared_hall.specs.Times.{Time, entries_at, is_retirement}
use Rattle.shared_hall.specs.Turns.{acts, note_by, Gives}
use Rattle.shared_hall.specs.declared.places.Begun.{Begun}
use Rattle.shared_hall.specs.declared.places.Place.{Place}
use Rattle.shared_hall.specs.declared.works.HallWork.{HallWork}
use Rattle.shared_hall.specs.declared.works.HallAnswer.{HallAnswer}
use Rattle.shared_hall.specs.Seats.{IsDone, opening_in, shown}
use Rattle.shared_hall.proofs.Leading.{leads_to_one, names_changed, steps_between}
use Rattle.shared_hall.proofs.Once.{seen_before}

same_places : (at n : ℕ) → range_with_len at n ≡ places_from at n
same_places at zero = refl
same_places at (suc n) = ap (λ (l : List ℕ). at ∷ l) (same_places (at + 1) n)

pub same_acts : (begun ended : Time) (note : Bytes) (acts : List Act) → map act_of (entries_at begun ended note acts) ≡ acts
same_acts begun ended note [] = refl
same_acts begun ended note (a ∷ []) = refl
same_acts begun ended note (a ∷ b ∷ acts) = ap (λ (l : List Act). a ∷ l) (same_acts begun ended note (b ∷ acts))

-- entries that a turn made of these acts, behind a history that they lead on legally
pub adds : {D : Type 0} (k l : Known (Begun D) Entry) (b : Begun D) (log made : List Entry) (acts : List Act) → k.opening ≡ Some b → Turn k l log made → map act_of made ≡ acts → IsLegal b.opening (log ++ made) → AddsCalls acts (shown k) (shown l)
adds k l b log made acts was t are legal =
    let opens : opening_in l.opening ≡ b.opening = ap opening_in (t.opening ∙ was) in
    record {
      between = t.begins.0;
      entries = made;
      seen = t.seen ∙ ap (λ (z : List Entry). z ++ made) (sym t.begins.1);
      mine = t.mine ∙ ap (λ (z : List ℕ). k.mine ++ z) (same_places (length log) (length made) ∙ ap (λ (z : List Entry). places_from (length z) (length made)) (sym t.begins.1));
      are = are;
      opening = ap opening_in t.opening;
      first = t.first;
      legal = subst (λ (z : Opening). IsLegal z l.seen) (sym opens) (subst (λ (z : List Entry). IsLegal b.opening z) (sym t.seen) legal);
    }

module _ {D : Type 0} (crashes : D → Bool) (seen : D → Option Sides) (images : D → Sides → Type 0) (moment : D → ℕ) (left_since : D → ℕ → Sides → Type 0) (faults : D → ℕ) (handed : D) (first : Writing) where
  abbrev Done : HallWork → HallAnswer D → Knows → Knows → Type 0
  Done = IsDone crashes seen images moment left_since faults handed first

  abbrev In : Bool → Place D → Opening → List Entry → Type 0
  In told = StandsIn crashes seen images moment left_since faults handed told first

  -- a turn did the work, and its acts are the seat's own
  pub is_done : StepsLeadToOne → (told : Bool) (w : HallWork) (out : HallAnswer D) (k l : Known (Begun D) Entry) (b : Begun D) (log made : List Entry) (g h' : Place D) → told ≡ tells crashes seen handed → OwnPlaces k → OwnsKept is_retirement l → Gives crashes seen images moment left_since faults w g out h'
      → k.opening ≡ Some b → Turn k l log made → map act_of made ≡ acts w out → ((begun : Time) × (ended : Time) × (made ≡ entries_at begun ended (note_by w out) (acts w out))) → In told g b.opening log → In told h' b.opening (log ++ made) → Done w out (shown k) (shown l)
  unfolding adds
  is_done one told w out k l b log made g h' same own keeps gives was t are noted p s =
      let opens : opening_in l.opening ≡ b.opening = ap opening_in (t.opening ∙ was) in
      let back = λ (es : List Entry) (named : List ℕ) (changed : NamesChangedBy b.opening log es named).
      subst (λ (z : Opening). NamesChangedBy z (k.seen ++ t.begins.0) es named) (sym opens) (subst (λ (z : List Entry). NamesChangedBy b.opening z es named) (sym t.begins.1) changed) in
      record {
        before = g;
        after = h';
        gives = gives;
        adds = adds k l b log made (acts w out) was t are (record { opening = s.sound; hall = hall_in h'; reached = s.reached });
        noted = noted;
        names = λ named names. back made named (names_changed one b.opening log made (map act_of made) (hall_in g) (hall_in h') named refl p.reached (steps_between one b.opening log made (hall_in g) (hall_in h') p.reached s.reached) names);
        stood = subst (λ (b : Bool). In b g (opening_in l.opening) (k.seen ++ t.begins.0)) same
            (subst (λ (z : Opening). In told g z (k.seen ++ t.begins.0)) (sym opens) (subst (λ (z : List Entry). In told g b.opening z) (sym t.begins.1) p));
        stands = subst (λ (b : Bool). In b h' (opening_in l.opening) l.seen) same
            (subst (λ (z : Opening). In told h' z l.seen) (sym opens) (subst (λ (z : List Entry). In told h' b.opening z) (sym t.seen) s));
        one = λ h reached. leads_to_one one b.opening (log ++ made) h (hall_in h') (subst (λ (z : Opening). Reaches z (log ++ made) h) opens (subst (λ (z : List Entry). Reaches (opening_in l.opening) z h) t.seen reached)) s.reached;
        once = λ first. seen_before is_retirement k l log made t own keeps first ∙ sym p.out;
      }

  -- a work that was done added its acts, by what they are
  pub adds_acts : (w : HallWork) (out : HallAnswer D) (old new : Knows) (made : List Act) → acts w out ≡ made → Done w out old new → AddsCalls made old new
  adds_acts w out old new made is d = subst (λ (z : List Act). AddsCalls z old new) is d.adds

  -- the same, with the sessions that were changed
  pub adds_named : (w : HallWork) (out : HallAnswer D) (old new : Knows) (made : List Act) (named : List ℕ) → acts w out ≡ made → (d : Done w out old new) → NamesChanged named (hall_in d.before) (hall_in d.after) → AddsNamed made named old new
  adds_named w out old new made named is d names = subst (λ (z : List Act). AddsNamed z named old new) is (record { adds = d.adds; names = d.names named names })

-- acts that are no retirement are kept for no seat

abbrev pub NoRetire : List Act → Type 0
NoRetire [] = Unit {0}
NoRetire (a ∷ acts) = (is_retire a.0 ≡ false) × NoRetire acts

none_behind : (xs ys : List Act) → NoRetire xs → NoRetire ys → NoRetire (xs ++ ys)
none_behind [] ys p q = q
none_behind (x ∷ xs) ys p q = (p.0, none_behind xs ys p.1 q)

last_goes_on : (n m : ℕ) (end : CallOutcome) (xs : List Asked) → NoRetire (last_call n m end xs)
last_goes_on n m end [] = tt
last_goes_on n m called.Ok (x ∷ xs) = tt
last_goes_on n m called.Full (x ∷ xs) = (refl, tt)
last_goes_on n m called.Gone (x ∷ xs) = (refl, tt)
last_goes_on n m called.LogFault (x ∷ xs) = (refl, tt)
last_goes_on n m called.Stopped (x ∷ xs) = (refl, tt)
last_goes_on n m called.Spent (x ∷ xs) = (refl, tt)
last_goes_on n m called.Memory (x ∷ xs) = (refl, tt)

pub calls_go_on : (n m : ℕ) (xs : List Asked) (served : ℕ) (end : CallOutcome) → NoRetire (call_acts n m xs served end)
calls_go_on n m xs served end = none_behind (map (call_act n m called.Ok) (take served xs)) (last_call n m end (drop served xs)) (all (take served xs)) (last_goes_on n m end (drop served xs))
  where
    all : (ys : List Asked) → NoRetire (map (call_act n m called.Ok) ys)
    all [] = tt
    all (y ∷ ys) = (refl, all ys)

pub none_kept : (begun ended : Time) (note : Bytes) (acts : List Act) → NoRetire acts → NoneKept is_retirement (entries_at begun ended note acts)
none_kept begun ended note [] none = tt
none_kept begun ended note (a ∷ []) none = (none.0, tt)
none_kept begun ended note (a ∷ b ∷ acts) none = (none.0, none_kept begun ended note (b ∷ acts) none.1)
