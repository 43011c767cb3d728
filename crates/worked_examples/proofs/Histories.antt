-- Histories with the same events have the same outcomes.
use Rattle.std.proofs.Common.{◌≡◌, ℕ, Bool, refl, sym, ◌∙◌, subst, List, [], ◌∷◌, map, arith}
use Rattle.std.specs.Prelude.{◌||◌}
use Rattle.std.specs.List.{AllByRecursion}
use Rattle.world_model.specs.Halls.{Hall}
use Rattle.world_model.specs.Histories.{Step, Leads, gives_disk}
use Rattle.world_model.specs.Laws.{StepsAreDetermined}
use Rattle.world_model.specs.declared.events.Entry.{Entry}
use Rattle.worked_examples.specs.Outcomes.{IsDetermined}

first_event : (x y : Entry) (xs ys : List Entry) → map (λ e. e.event) (x ∷ xs) ≡ map (λ e. e.event) (y ∷ ys) → x.event ≡ y.event
first_event x y xs ys e = grind arith

later_events : (x y : Entry) (xs ys : List Entry) → map (λ e. e.event) (x ∷ xs) ≡ map (λ e. e.event) (y ∷ ys) → map (λ e. e.event) xs ≡ map (λ e. e.event) ys
later_events x y xs ys e = grind arith

pub outcomes_follow : StepsAreDetermined → (h : Hall) (m c n d : ℕ) (out away : Bool) (entries others : List Entry) (last other : Hall)
    → map (λ e. e.event) entries ≡ map (λ e. e.event) others
    → AllByRecursion IsDetermined entries → AllByRecursion IsDetermined others
    → Leads h m c out entries last → Leads h n d away others other
    → (map (λ e. e.outcome) entries ≡ map (λ e. e.outcome) others) × (last ≡ other)
outcomes_follow det h m c n d out away [] [] last other e a b l k = (refl, l ∙ sym k)
outcomes_follow det h m c n d out away [] (y ∷ others) last other e a b l k = absurd (grind arith)
outcomes_follow det h m c n d out away (x ∷ entries) [] last other e a b l k = absurd (grind arith)
outcomes_follow det h m c n d out away (x ∷ entries) (y ∷ others) last other e (a, firsts) (b, seconds) (next, step, follows, rest) (after, made, comes, ends) =
    let same = first_event x y entries others e in
    let one = det h next after x.event x.outcome y.outcome a.0 a.1 b.0 b.1 step (subst (λ event. Step h event y.outcome after) (sym same) made) in
    let more = outcomes_follow det next x.moment x.count y.moment y.count (out || gives_disk x) (away || gives_disk y) entries others last other (later_events x y entries others e) firsts seconds rest (subst (λ hall. Leads hall y.moment y.count (away || gives_disk y) others other) (sym one.1) ends) in
    (grind arith, more.1)
