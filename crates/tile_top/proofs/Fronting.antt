-- What becomes of a look at a disk and of serving on its world.
use Rattle.std.proofs.Common.{◌≡◌, ◌≢◌, ◌⊎◌, ◌≤◌, ◌||◌, ℕ, Bool, true, false, not, refl, sym, ap, ◌∙◌, subst, List, [], ◌∷◌, ◌++◌, length, arith, inl, inr}
use Rattle.std.specs.List.{list_any}
use Rattle.std.proofs.Math.Nat.{min-le_left, min-le_right, le-min}
use Rattle.std.specs.Prelude.{min, Option, None, Some, is_some, option_map, IfSome, Result, Ok, IfOk, codes, decimal, map}
use Rattle.byte_text.specs.Names.{Bytes}
use Rattle.outside.specs.Causes.{most_count}
use Rattle.outside.specs.Crashes.{EachImage}
use Rattle.outside.specs.Sides.{Sides}
use Rattle.outside.specs.declared.sides.Side.{Side}
use Rattle.world_data.specs.declared.worlds.World.{World}
use Rattle.world_model.specs.Halls.{Hall}
use Rattle.world_model.specs.Histories.{answer, gives_disk, Reaches}
use Rattle.world_model.specs.Seats.{Act, Adds, Knows, act_of}
use Rattle.world_model.specs.declared.events.CallOutcome.{CallOutcome}
use Rattle.world_model.specs.declared.events.CallOutcome.TheVariants as called
use Rattle.world_model.specs.declared.events.Entry.{Entry}
use Rattle.world_model.specs.declared.events.Event.TheVariants as event
use Rattle.world_model.specs.declared.events.Outcome.{Outcome}
use Rattle.durable_core.specs.Histories.{LeavesGeneration, Writing, writing_of}
use Rattle.durable_core.specs.Logged.{generation_of}
use Rattle.durable_core.specs.Upgrading.{upgraded}
use Rattle.durable_core.specs.declared.cores.DurableCore.{DurableCore}
use Rattle.durable_core.specs.declared.rewritings.Rewriting.{Rewriting}
use Rattle.durable_core.specs.declared.rewritings.Rewriting.TheVariants.{Idle}
use Rattle.journal.specs.Openings.{opened_generation, opened_version}
use Rattle.journal.specs.declared.openings.OpenFault.{OpenFault}
use Rattle.journal.specs.declared.openings.OpenFault.TheVariants as fault_of
use Rattle.log_record.specs.Readings.{Damaged}
use Rattle.log_record.specs.Recovery.{Recovers}
use Rattle.log_record.specs.Safety.{Safe, count_after}
use Rattle.serve_run.specs.Ends.{IsEnd}
use Rattle.serve_run.specs.Words.{Serve}
use Rattle.serve_run.specs.Loops.{around}
use Rattle.serve_run.specs.LoopServes.{ServesLoop}
use Rattle.outside.specs.Doors.{DoorState}
use Rattle.outside.specs.Waits.{WaitState}
use Rattle.world_model.specs.declared.events.Opening.{Opening}
use Rattle.shared_hall.specs.Fed.{FeedsLogs, GrewFrom, IsFound, LastsOn, any_grown, any_lasting}
use Rattle.shared_hall.specs.Restarts.{Carries}
use Rattle.shared_hall.specs.Seats.{AnswersAsk}
use Rattle.shared_hall.specs.Times.{is_retirement}
use Rattle.shared_hall.specs.Turns.{retire_outcome}
use Rattle.replay_run.specs.Openings.{IsDamagedAt}
use Rattle.replay_run.specs.Undone.{halt_at}
use Rattle.replay_run.specs.HaltLaws.{unspent_at, damaged_at}
use Rattle.replay_run.specs.declared.halts.Halt.{Halt}
use Rattle.replay_run.specs.declared.halts.Halt.TheVariants as halted
use Rattle.tile_top.specs.Tops.{IsHaltEnd, check_line}
use Rattle.tile_top.specs.Fronts.{EndsBehind, Fronts, IsCounted, IsDue, IsFirst, IsLeft, IsRetired, IsRewritten, IsSettled, IsWrittenFrom, ServesFront, opened_writing}

-- what is told of an opening that failed
pub unspent_as : (why : OpenFault) (h : Halt) → h ≡ halt_at why → h ≢ halted.Spent
unspent_as why h is e = unspent_at why (sym is ∙ e)

pub damaged_as : (seen : Option Sides) (why : OpenFault) (h : Halt) → h ≡ halt_at why
    → ((s : Sides) → seen ≡ Some s → (side : Side) (place : ℕ) → why ≡ fault_of.Damaged side place → Damaged s side place)
    → (side : Side) (place : ℕ) → h ≡ halted.Damaged side place → IsDamagedAt seen side place
damaged_as seen why h is of side place e s told = of s told side place (damaged_at why side place (sym is ∙ e))

-- a last line, told of what is the same
pub end_as : (held mid held' : Option Bytes) (at : ℕ) (text line : Bytes) (status status' : ℕ) → mid ≡ held' → text ≡ line → status ≡ status' → IsEnd held mid at text status → IsEnd held held' at line status'
end_as held mid held' at text line status status' m t s e =
    subst (λ (z : Option Bytes). IsEnd held z at line status') m (subst (λ (z : Bytes). IsEnd held mid at z status') t (subst (λ (z : ℕ). IsEnd held mid at text z) s e))

pub halt_as : (halt : Halt) (held mid held' : Option Bytes) (status status' : ℕ) → mid ≡ held' → status ≡ status' → IsHaltEnd halt held mid status → IsHaltEnd halt held held' status'
halt_as halt held mid held' status status' there at e =
    subst (λ (n : ℕ). IsHaltEnd halt held held' n) at (subst (λ (m : Option Bytes). IsHaltEnd halt held m status) there e)

pub checked_line : {E : Type 0} (w : World) (objects channels generation : ℕ) (r : Result Bytes E) (text : Bytes) → r ≡ Ok text
    → IfOk r (λ t. t ≡ codes "objects " ++ decimal objects ++ codes " channels " ++ decimal channels ++ codes " generation " ++ decimal generation ++ codes "\n")
    → objects ≡ length w.objects → channels ≡ length w.channels → text ≡ check_line w generation
checked_line {E} w objects channels generation r text is said o c =
    let told = subst (λ (z : Result Bytes E). IfOk z (λ t. t ≡ codes "objects " ++ decimal objects ++ codes " channels " ++ decimal channels ++ codes " generation " ++ decimal generation ++ codes "\n")) is said in
    told ∙ ap (λ (n : ℕ). codes "objects " ++ decimal n ++ codes " channels " ++ decimal channels ++ codes " generation " ++ decimal generation ++ codes "\n") o
    ∙ ap (λ (n : ℕ). codes "objects " ++ decimal (length w.objects) ++ codes " channels " ++ decimal n ++ codes " generation " ++ decimal generation ++ codes "\n") c

pub not_done : (a : CallOutcome) → (a ≡ called.Ok) ⊎ (a ≡ called.LogFault) → (a ≡ called.Ok → ⊥) → a ≡ called.LogFault
not_done a (inl e) n = absurd (n e)
not_done a (inr e) n = e

-- an answer, by the outcome that it is
answered : (a b : CallOutcome) → answer a ≡ answer b → a ≡ b
answered a b e = cc

-- a retirement that was not done
pub not_fine : (a : CallOutcome) → (a ≡ called.Ok → ⊥) → answer a ≢ answer called.Ok
not_fine a not e = not (answered a called.Ok e)

-- a status behind a retirement, told of how that ended
pub behind_as : (retired told : Outcome) (before status : ℕ) (between held : Option Bytes) → retired ≡ told → EndsBehind told before status between held → EndsBehind retired before status between held
behind_as retired told before status between held is e = subst (λ (o : Outcome). EndsBehind o before status between held) (sym is) e

-- the last of some entries
abbrev last_entry : Entry → List Entry → Entry
last_entry e [] = e
last_entry e (d ∷ entries) = last_entry d entries

last_entry_is : (e last : Entry) (entries : List Entry) → last_entry e (entries ++ last ∷ []) ≡ last
last_entry_is e last [] = refl
last_entry_is e last (d ∷ entries) = last_entry_is d last entries

-- and those before it
abbrev front_entries : List Entry → List Entry
front_entries [] = []
front_entries (e ∷ []) = []
front_entries (e ∷ d ∷ entries) = e ∷ front_entries (d ∷ entries)

front_is : (last : Entry) (entries : List Entry) → front_entries (entries ++ last ∷ []) ≡ entries
front_is last [] = refl
front_is last (e ∷ []) = refl
front_is last (e ∷ d ∷ entries) = ap (λ (es : List Entry). e ∷ es) (front_is last (d ∷ entries))

-- what is not in more is not in less, behind the same first
less_behind : (first more less : Bool) → (more ≡ false → less ≡ false) → (first || more) ≡ false → (first || less) ≡ false
less_behind true more less goes none = none
less_behind false more less goes none = goes none

none_in_front : (entries more : List Entry) → list_any is_retirement (entries ++ more) ≡ false → list_any is_retirement entries ≡ false
none_in_front [] more none = refl
none_in_front (e ∷ entries) more none =
    less_behind (is_retirement e) (list_any is_retirement (entries ++ more)) (list_any is_retirement entries) (none_in_front entries more) none

-- an entry of this act alone
one_entry : (entries : List Entry) (a : Act) → map act_of entries ≡ a ∷ [] → (e : Entry) × (entries ≡ e ∷ []) × (act_of e ≡ a)
one_entry [] a is = absurd (cc)
one_entry (e ∷ []) a is = (e, refl, cc)
one_entry (e ∷ d ∷ entries) a is = absurd (cc)

-- an entry that gave the disk out was answered Ok
gave_out : (e : Entry) (a : CallOutcome) → act_of e ≡ (event.Retire, answer a) → gives_disk e ≡ true → a ≡ called.Ok
gave_out e a is out = fine a (sym (ap (λ (x : Act). gives_disk (record e { event = x.0; outcome = x.1 })) is) ∙ out)
  where
    fine : (a : CallOutcome) → gives_disk (record e { event = event.Retire; outcome = answer a }) ≡ true → a ≡ called.Ok
    fine called.Ok out = refl
    fine called.Full out = absurd (cc)
    fine called.Gone out = absurd (cc)
    fine called.LogFault out = absurd (cc)
    fine called.Stopped out = absurd (cc)
    fine called.Spent out = absurd (cc)
    fine called.Memory out = absurd (cc)

-- where the last entry of all is a retirement that was answered Ok, this one was
retired_ok : (old new : Knows) (a : CallOutcome) → Adds event.Retire (answer a) old new → IsSettled new.seen → a ≡ called.Ok
retired_ok old new a adds s =
    let last = s.1 in
    let one = one_entry adds.entries (event.Retire, answer a) adds.are in
    let seen : new.seen ≡ (old.seen ++ adds.between) ++ one.0 ∷ [] = adds.seen ∙ ap (λ (es : List Entry). (old.seen ++ adds.between) ++ es) one.1 in
    let same : one.0 ≡ last = sym (last_entry_is last one.0 (old.seen ++ adds.between)) ∙ ap (last_entry last) (sym seen ∙ s.2) ∙ last_entry_is last last s.0 in
    gave_out one.0 a one.2 (ap gives_disk same ∙ s.3)

-- a disk that is not given out was given out before, which the seat has seen, and the retirement is answered Stopped
pub given_well : {D : Type 0} (old new : Knows) (r : Option (D × CallOutcome)) → r ≡ None → is_some r ≡ not (list_any is_retirement old.seen) → Adds event.Retire (retire_outcome r) old new → IsDue new.seen → ⊥
given_well old new (Some p) none once adds due = cc
given_well old new None none once adds due = by_due due.3
  where
    one : (e : Entry) × (adds.entries ≡ e ∷ []) × (act_of e ≡ (event.Retire, answer called.Stopped))
    one = one_entry adds.entries (event.Retire, answer called.Stopped) adds.are

    seen : new.seen ≡ (old.seen ++ adds.between) ++ one.0 ∷ []
    seen = adds.seen ∙ ap (λ (es : List Entry). (old.seen ++ adds.between) ++ es) one.1

    last : one.0 ≡ due.1
    last = sym (last_entry_is due.1 one.0 (old.seen ++ adds.between)) ∙ ap (last_entry due.1) (sym seen ∙ due.2) ∙ last_entry_is due.1 due.1 due.0

    before : old.seen ++ adds.between ≡ due.0
    before = sym (front_is one.0 (old.seen ++ adds.between)) ∙ ap front_entries (sym seen ∙ due.2) ∙ front_is due.1 due.0

    by_due : (due.1.outcome ≢ answer called.Stopped) ⊎ (list_any is_retirement due.0 ≡ false) → ⊥
    by_due (inl apart) = apart (ap (λ (e : Entry). e.outcome) (sym last) ∙ ap (λ (a : Act). a.1) one.2)
    by_due (inr none_before) =
        let seen_none = none_in_front old.seen adds.between (ap (list_any is_retirement) before ∙ none_before) in
        let clash : false ≡ true = once ∙ ap not seen_none in
        cc

-- a count of faults that has not fallen, as far as it is counted
pub count_later : (a b : ℕ) → a ≤ b → min a most_count ≤ min b most_count
count_later a b le = let left = min-le_left a most_count in le-min (omega (arith, left, le)) (min-le_right a most_count)

pub begun_still : (handed : ℕ) (old new : Opening) → new ≡ old → min handed most_count ≤ old.count → min handed most_count ≤ new.count
begun_still handed old new same begun = subst (λ (o : Opening). min handed most_count ≤ o.count) (sym same) begun

-- the count that a retirement gave
pub counts_as : {D : Type 0} (faults : D → ℕ) (handed : ℕ) (old new : Knows) (r : Option (D × CallOutcome)) (given : D × CallOutcome) → r ≡ Some given → new.opening ≡ old.opening → min handed most_count ≤ old.opening.count
    → IfSome r (λ p. count_after new.opening.count new.seen ≡ min (faults p.0) most_count) → IsCounted handed (faults given.0) new
counts_as faults handed old new None given is same begun counted = absurd (cc)
counts_as {D} faults handed old new (Some p) given is same begun counted =
    let this : p ≡ given = cc in
    record {
      begun = begun_still handed old.opening new.opening same begun;
      last = subst (λ (x : D × CallOutcome). count_after new.opening.count new.seen ≡ min (faults x.0) most_count) this counted;
    }

-- the disk that a retirement gave
pub given_left : {D : Type 0} (seen : D → Option Sides) (images : D → Sides → Type 0) (moment : D → ℕ) (left_since : D → ℕ → Sides → Type 0) (handed : D) (first : Writing) (old new : Knows) (r : Option (D × CallOutcome)) (given : D × CallOutcome) → r ≡ Some given → Adds event.Retire (retire_outcome r) old new
    → IfSome r (λ p. Safe left_since p.0 new.opening new.seen)
    → IfSome r (λ p. p.1 ≡ called.Ok → (h : Hall) → Reaches new.opening new.seen h → EachImage (images p.0) (λ image. Recovers image h.world))
    → IfSome r (λ p. FeedsLogs (LastsOn (left_since p.0)) (GrewFrom (IsFound (seen handed) (images handed))) first new)
    → IfSome r (λ p. Carries (IsFound (seen handed) (images handed)) (left_since p.0) (moment handed)) → IsLeft seen images moment left_since handed given.0 new
given_left seen images moment left_since handed first old new None given is adds safe stands lasts carries = absurd (cc)
given_left {D} seen images moment left_since handed first old new (Some p) given is adds safe stands lasts carries =
    let same : p ≡ given = cc in
    subst (λ (x : D × CallOutcome). IsLeft seen images moment left_since handed x.0 new) same (record {
      safe = safe;
      settled = λ s. stands (retired_ok old new p.1 adds s);
      first = first;
      lasts = lasts;
      carries = carries;
    })

-- and how far its log was rewritten then
pub given_written : {D : Type 0} (seen : D → Option Sides) (first : Writing) (old new : Knows) (r : Option (D × CallOutcome)) (given : D × CallOutcome) → r ≡ Some given
    → Adds event.Retire (retire_outcome r) old new
    → IfSome r (λ p. p.1 ≡ called.Ok → (s : Sides) → seen p.0 ≡ Some s → LeavesGeneration new.opening first new.seen (opened_generation s))
    → IsWrittenFrom seen first given.0 new
given_written seen first old new None given is adds leaves = absurd (cc)
given_written {D} seen first old new (Some p) given is adds leaves =
    let same : p ≡ given = cc in
    subst (λ (x : D × CallOutcome). IsWrittenFrom seen first x.0 new) same (λ settled. leaves (retired_ok old new p.1 adds settled))

-- from the opening of the disk that was handed in
pub written_as : {F D : Type 0} (shows : F → Knows) (seen : D → Option Sides) (handed : D) (first : Writing) (front : Option F) (disk : Option D)
    → ((s : Sides) → seen handed ≡ Some s → first ≡ opened_writing s)
    → IfSome front (λ last. IfSome disk (λ d. IsWrittenFrom seen first d (shows last)))
    → IfSome front (λ last. IfSome disk (λ d. IsRewritten seen handed d (shows last)))
written_as shows seen handed first None disk is w = tt
written_as shows seen handed first (Some x) None is w = tt
written_as shows seen handed first (Some x) (Some d) is w = λ s told. subst (λ (f : Writing). IsWrittenFrom seen f d (shows x)) (is s told) w

pub opened_as : {D : Type 0} (core c : DurableCore D) (s : Sides) → core ≡ c → c.tail.rewriting ≡ Idle → generation_of c ≡ upgraded (opened_version s) (opened_generation s)
    → writing_of core ≡ opened_writing s
opened_as {D} core c s same idle generation =
    ap (λ (x : DurableCore D). writing_of x) same ∙ ap (λ (r : Rewriting). record { rewriting = r; generation = generation_of c }) idle
    ∙ ap (λ (n : ℕ). record { rewriting = Idle; generation = n }) generation

-- a hall was retired behind its serving
pub fronts_behind : {F : Type 0} (shows : F → Knows) (tell : Bool) (seen : Option Sides) (writing : Writing) (told : Option ℕ) (s : Serve) (first served : Knows) (door door' : DoorState) (wait wait' : WaitState) (held between held' : Option Bytes) (before status : ℕ) (front : Option F)
    → IsFirst seen first → ((sides : Sides) → seen ≡ Some sides → writing ≡ opened_writing sides) → ServesLoop told (AnswersAsk tell writing) s (around first door wait) (around served door' wait') held between before
    → IfSome (option_map shows front) (λ k. IsRetired served k between held' before status)
    → (tell ≡ true → IfSome (option_map shows front) (FeedsLogs any_lasting any_grown writing)) → IfSome (option_map shows front) (ServesFront tell seen told s door door' wait wait' held held' status)
fronts_behind shows tell seen writing told s first served door door' wait wait' held between held' before status None f b v r fed = tt
fronts_behind shows tell seen writing told s first served door door' wait wait' held between held' before status (Some x) f b v r fed =
    record { first = first; is_first = f; writing = writing; begun = b; served = served; between = between; before = before; serves = v; retired = r; fed = fed }

pub mapped_some : {F : Type 0} (shows : F → Knows) (front : Option F) → is_some front ≡ true → is_some (option_map shows front) ≡ true
mapped_some shows None some = absurd (cc)
mapped_some shows (Some x) some = refl

pub fronts_of : (was tell : Bool) (seen : Option Sides) (Back : Halt → Type 0) (told : Option ℕ) (s : Serve) (door door' : DoorState) (wait wait' : WaitState) (held held' : Option Bytes) (status : ℕ) (front : Option Knows) → was ≡ tell → is_some front ≡ true
    → IfSome front (ServesFront was seen told s door door' wait wait' held held' status) → Fronts tell seen Back told s door door' wait wait' held held' status front
fronts_of was tell seen Back told s door door' wait wait' held held' status None same some v = absurd (cc)
fronts_of was tell seen Back told s door door' wait wait' held held' status (Some k) same some v =
    subst (λ (b : Bool). ServesFront b seen told s door door' wait wait' held held' status k) same v
