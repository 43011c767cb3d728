-- What leads from one state of a core to another, act by act.
use Rattle.std.proofs.Common.{◌≡◌, ℕ, Bool, false, List, [], ◌∷◌, ◌++◌, map, refl, sym, ◌∙◌, subst, inl, inr}
use Rattle.std.specs.Prelude.{◌||◌}
use Rattle.byte_text.specs.Names.{Bytes}
use Rattle.outside.specs.Sides.{Sides}
use Rattle.world_model.specs.Halls.{Hall, NamesChanged}
use Rattle.world_model.specs.Histories.{Step, Leads, Reaches, opening_hall, is_log_fault, gives_disk}
use Rattle.world_model.specs.Laws.{StepsLeadToOne}
use Rattle.world_model.specs.Seats.{Act, act_of, NamesChangedBy}
use Rattle.world_model.specs.declared.events.Entry.{Entry}
use Rattle.world_model.specs.declared.events.Opening.{Opening}
use Rattle.log_record.specs.Journals.{Journal, is_retire}
use Rattle.durable_core.specs.Histories.{Writing}
use Rattle.durable_core.specs.Written.{Sided}
use Rattle.shared_hall.specs.Standing.{IsAct, FrontBy, TurnBy}

module _ {S D : Type 0} (hall : S → Hall) (writing : S → Writing) (disk : S → D) (is_out : S → Bool) (is_log : S → Journal → Type 0)
    (is_sided : S → Sided → Type 0) (crashes : D → Bool) (images : D → Sides → Type 0) (moment : D → ℕ) (left_since : D → ℕ → Sides → Type 0) (faults : D → ℕ) where
  abbrev Acted : S → S → Act → Bytes → Type 0
  Acted = IsAct hall writing disk is_out is_log is_sided crashes images moment left_since faults

  abbrev Fronted : List Act → S → S → Type 0
  Fronted = FrontBy hall writing disk is_out is_log is_sided crashes images moment left_since faults

  abbrev Turned : List Act → Bytes → D → S → S → Type 0
  Turned = TurnBy hall writing disk is_out is_log is_sided crashes images moment left_since faults

  -- one act more in front
  pub front_more : (acts : List Act) (a : Act) (old mid new : S) → Fronted acts old mid → Acted mid new a [] → is_log_fault a.1 ≡ false → is_retire a.0 ≡ false → Fronted (acts ++ a ∷ []) old new
  front_more [] a old mid new made act fine stays = subst (λ (s : S). Fronted (a ∷ []) s new) made (new, act, fine, stays, refl)
  front_more (b ∷ acts) a old mid new made act fine stays = (made.0, made.1, made.2, made.3, front_more acts a made.0 mid new made.4 act fine stays)

  -- one act behind others
  pub turn_more : (acts : List Act) (a : Act) (begun : D) (old mid new : S) → Fronted acts old mid → begun ≡ disk mid → Acted mid new a [] → Turned (acts ++ a ∷ []) [] begun old new
  turn_more acts a begun old mid new made began act = inr (record { front = acts; last = a; are = refl; mid = mid; made = made; began = began; act = act })

  -- or alone
  pub one_act : (a : Act) (note : Bytes) (begun : D) (old new : S) → begun ≡ disk old → Acted old new a note → Turned (a ∷ []) note begun old new
  one_act a note begun old new began act = inr (record { front = []; last = a; are = refl; mid = old; made = refl; began = began; act = act })

  pub no_act : (begun : D) (old new : S) → new ≡ old → Turned [] [] begun old new
  no_act begun old new same = inl (refl, same)

-- these acts lead from a hall to another
abbrev pub StepsBy : List Act → Hall → Hall → Type 0
StepsBy [] old new = new ≡ old
StepsBy (a ∷ more) old new = (next : Hall) × Step old a.0 a.1 next × StepsBy more next new

-- acts lead to one hall
steps_to_one : StepsLeadToOne → (acts : List Act) (h k l : Hall) → StepsBy acts h k → StepsBy acts h l → k ≡ l
steps_to_one one [] h k l p q = p ∙ sym q
steps_to_one one (a ∷ acts) h k l p q =
    steps_to_one one acts p.0 k l p.2 (subst (λ (z : Hall). StepsBy acts z l) (one h q.0 p.0 a.0 a.1 q.1 p.1) q.2)

-- entries lead as their acts do
leads_by : (es : List Entry) (h k : Hall) (m c : ℕ) (is_out : Bool) → Leads h m c is_out es k → StepsBy (map act_of es) h k
leads_by [] h k m c is_out p = p
leads_by (e ∷ es) h k m c is_out p = (p.0, p.1, leads_by es p.0 k e.moment e.count (is_out || gives_disk e) p.3)

-- a history leads to one hall
pub leads_to_one : StepsLeadToOne → (o : Opening) (log : List Entry) (k l : Hall) → Reaches o log k → Reaches o log l → k ≡ l
leads_to_one one o log k l p q =
    let start = opening_hall o.world o.logged in
    steps_to_one one (map act_of log) start k l (leads_by log start k o.moment o.count false p) (leads_by log start l o.moment o.count false q)

-- and with more entries behind it through the hall that it leads to
leads_through : StepsLeadToOne → (before es : List Entry) (h k l : Hall) (m c : ℕ) (is_out : Bool) → Leads h m c is_out before k → Leads h m c is_out (before ++ es) l → StepsBy (map act_of es) k l
leads_through one [] es h k l m c is_out p q = subst (λ (z : Hall). StepsBy (map act_of es) z l) (sym p) (leads_by es h l m c is_out q)
leads_through one (e ∷ before) es h k l m c is_out p q =
    leads_through one before es p.0 k l e.moment e.count (is_out || gives_disk e) p.3
    (subst (λ (z : Hall). Leads z e.moment e.count (is_out || gives_disk e) (before ++ es) l) (one h q.0 p.0 e.event e.outcome q.1 p.1) q.3)

-- who names the sessions that differ between two halls, names those that the entries between them changed
pub names_changed : StepsLeadToOne → (o : Opening) (before es : List Entry) (acts : List Act) (k l : Hall) (named : List ℕ) → map act_of es ≡ acts → Reaches o before k → StepsBy acts k l
    → NamesChanged named k l → NamesChangedBy o before es named
names_changed one o before es acts k l named are p steps names = λ old new r r'.
    let start = opening_hall o.world o.logged in
    let here = leads_to_one one o before k old p r in
    let there = steps_to_one one acts k l new steps (subst (λ (a : List Act). StepsBy a k new) are (leads_through one before es start k new o.moment o.count false p r')) in
    subst (λ (z : Hall). NamesChanged named z new) here (subst (λ (z : Hall). NamesChanged named k z) there names)

-- the acts between two halls to which a history leads
pub steps_between : StepsLeadToOne → (o : Opening) (before es : List Entry) (k l : Hall) → Reaches o before k → Reaches o (before ++ es) l → StepsBy (map act_of es) k l
steps_between one o before es k l p q = leads_through one before es (opening_hall o.world o.logged) k l o.moment o.count false p q
