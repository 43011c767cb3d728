-- What a retirement tells.
use Rattle.std.proofs.Common.{◌≡◌, ℕ, Bool, true, List, [], ◌∷◌, sym, ap, ◌∙◌, subst}
use Rattle.std.specs.Prelude.{Option, None, Some, is_some, not, min, IfSome}
use Rattle.std.specs.List.{list_any}
use Rattle.byte_text.specs.Names.{Bytes}
use Rattle.outside.specs.Causes.{most_count}
use Rattle.outside.specs.Crashes.{EachImage}
use Rattle.outside.specs.Sides.{Sides}
use Rattle.world_model.specs.Halls.{Hall}
use Rattle.world_model.specs.Histories.{Reaches, opening_hall}
use Rattle.world_model.specs.Seats.{Knows, AddsCalls}
use Rattle.world_model.specs.declared.events.CallOutcome.{CallOutcome}
use Rattle.world_model.specs.declared.events.CallOutcome.TheVariants as called
use Rattle.world_model.specs.declared.events.Event.TheVariants as event
use Rattle.log_record.specs.Recovery.{Recovers}
use Rattle.log_record.specs.Safety.{Safe, count_after}
use Rattle.durable_core.specs.Histories.{LeavesGeneration, Writing}
use Rattle.journal.specs.Openings.{opened_generation}
use Rattle.shared_hall.specs.Cores.{disk_in, hall_in, has_left, tells, writing_in}
use Rattle.shared_hall.specs.Fed.{FeedsLogs, GrewFrom, IsFound, LastsOn, any_grown, any_lasting}
use Rattle.shared_hall.specs.Restarts.{Carries}
use Rattle.shared_hall.specs.Seats.{IsDone}
use Rattle.shared_hall.specs.Times.{is_retirement}
use Rattle.shared_hall.specs.Turns.{acts, retire_outcome, Gives, GivesOut}
use Rattle.shared_hall.specs.declared.works.HallAnswer.{HallAnswer}
use Rattle.shared_hall.specs.declared.works.HallAnswer.TheVariants as answer
use Rattle.shared_hall.specs.declared.works.HallWork.TheVariants as work
use Rattle.shared_hall.proofs.Adding.{adds_acts}
use Rattle.shared_hall.proofs.Feeding.{any_feeds, fed_lasting}

module _ {D : Type 0} (crashes : D → Bool) (seen : D → Option Sides) (images : D → Sides → Type 0) (moment : D → ℕ) (left_since : D → ℕ → Sides → Type 0) (faults : D → ℕ) (handed : D) (first : Writing)
    (out : HallAnswer D) (old new : Knows) (given : Option (D × CallOutcome)) (is : out ≡ answer.Retired given) (d : IsDone crashes seen images moment left_since faults handed first work.Retire out old new) where
  pub retired : AddsCalls ((event.Retire, retire_outcome given) ∷ []) old new
  retired = adds_acts crashes seen images moment left_since faults handed first work.Retire out old new ((event.Retire, retire_outcome given) ∷ []) (ap (λ (z : HallAnswer D). acts work.Retire z) is) d

  gives : GivesOut crashes seen images moment left_since faults d.before given d.after
  gives = subst (λ (z : HallAnswer D). Gives crashes seen images moment left_since faults work.Retire d.before z d.after) is d.gives

  pub given_once : old.first ≡ true → is_some given ≡ not (list_any is_retirement old.seen)
  given_once first = by given gives ∙ sym (ap not (d.once first))
    where
      by : (given : Option (D × CallOutcome)) → GivesOut crashes seen images moment left_since faults d.before given d.after → is_some given ≡ not (has_left d.before)
      by None g = sym (ap not g)
      by (Some p) g = sym (ap not g.0)

  pub given_counted : IfSome given (λ p. count_after new.opening.count new.seen ≡ min (faults p.0) most_count)
  given_counted = by given gives
    where
      by : (given : Option (D × CallOutcome)) → GivesOut crashes seen images moment left_since faults d.before given d.after → IfSome given (λ p. count_after new.opening.count new.seen ≡ min (faults p.0) most_count)
      by None g = tt
      by (Some p) g = (d.stands.still g.1).1 ∙ ap (λ (x : D). min (faults x) most_count) g.2

  pub given_safe : tells crashes seen handed ≡ true → IfSome given (λ p. Safe left_since p.0 new.opening new.seen)
  given_safe told = by given gives
    where
      by : (given : Option (D × CallOutcome)) → GivesOut crashes seen images moment left_since faults d.before given d.after → IfSome given (λ p. Safe left_since p.0 new.opening new.seen)
      by None g = tt
      by (Some p) g = subst (λ (x : D). Safe left_since x new.opening new.seen) g.2 (d.stands.kept told).1.2.safe

  pub given_stands : tells crashes seen handed ≡ true → IfSome given (λ p. p.1 ≡ called.Ok → (h : Hall) → Reaches new.opening new.seen h → EachImage (images p.0) (λ image. Recovers image h.world))
  given_stands told = by given gives
    where
      by : (given : Option (D × CallOutcome)) → GivesOut crashes seen images moment left_since faults d.before given d.after
          → IfSome given (λ p. p.1 ≡ called.Ok → (h : Hall) → Reaches new.opening new.seen h → EachImage (images p.0) (λ image. Recovers image h.world))
      by None g = tt
      by (Some p) g = λ ok h reached image at.
          let k = d.stood.kept told in
          subst (λ (x : Hall). Recovers image x.world) (sym (d.one h reached)) (g.3 k.1.0 k.1.1 k.0 ok image at)

  pub given_feeds : tells crashes seen handed ≡ true → FeedsLogs any_lasting any_grown first new
  given_feeds told = let f = d.stands.fed told in any_feeds _ _ first new f.0 f.1 f.2 f.3

  -- of the disk that is given out
  abbrev Found : ℕ → List Bytes → Type 0
  Found = IsFound (seen handed) (images handed)

  pub given_lasts : tells crashes seen handed ≡ true → IfSome given (λ p. FeedsLogs (LastsOn (left_since p.0)) (GrewFrom Found) first new)
  given_lasts told = by given gives
    where
      by : (given : Option (D × CallOutcome)) → GivesOut crashes seen images moment left_since faults d.before given d.after → IfSome given (λ p. FeedsLogs (LastsOn (left_since p.0)) (GrewFrom Found) first new)
      by None g = tt
      by (Some p) g =
          let f = d.stands.fed told in
          subst (λ (x : D). FeedsLogs (LastsOn (left_since x)) (GrewFrom Found) first new) g.2
          (record { logs = f.0; whole = f.1; told = f.2; fed = fed_lasting _ (LastsOn (left_since (disk_in d.after))) f.0 (opening_hall new.opening.world new.opening.logged) first [] new.seen (λ since n batches was. was.lasts) f.3 })

  pub given_carries : tells crashes seen handed ≡ true → IfSome given (λ p. Carries Found (left_since p.0) (moment handed))
  given_carries told = by given gives
    where
      by : (given : Option (D × CallOutcome)) → GivesOut crashes seen images moment left_since faults d.before given d.after → IfSome given (λ p. Carries Found (left_since p.0) (moment handed))
      by None g = tt
      by (Some p) g = subst (λ (x : D). Carries Found (left_since x) (moment handed)) g.2 (λ before earlier was. (d.stands.carried told before earlier was).lasts)

  pub given_generation : tells crashes seen handed ≡ true → IfSome given (λ p. p.1 ≡ called.Ok → (s : Sides) → seen p.0 ≡ Some s → LeavesGeneration new.opening first new.seen (opened_generation s))
  given_generation told = by given gives
    where
      by : (given : Option (D × CallOutcome)) → GivesOut crashes seen images moment left_since faults d.before given d.after
          → IfSome given (λ p. p.1 ≡ called.Ok → (s : Sides) → seen p.0 ≡ Some s → LeavesGeneration new.opening first new.seen (opened_generation s))
      by None g = tt
      by (Some p) g = λ ok s found.
          let k = d.stood.kept told in
          record { hall = hall_in d.after; end = writing_in d.after; writes = d.stands.writes; is = g.4 k.1.0 k.1.1 ok s found }
