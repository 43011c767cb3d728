-- What the calls of a turn tell of a session's live channel.
use Rattle.std.specs.Prelude.{◌≡◌, ℕ, Bool, false, List, [], ◌∷◌, ◌++◌, ◌||◌, map, take, drop}
use Rattle.std.proofs.Common.{refl, ap, ◌∙◌}
use Rattle.std.specs.List.{list_any}
use Rattle.std.proofs.Math.Bool.{or-false}
use Rattle.std.proofs.lemmas.List.Folds.{list_any-append}
use Rattle.world_model.specs.declared.events.Asked.{Asked}
use Rattle.world_model.specs.declared.events.CallOutcome.{CallOutcome}
use Rattle.world_model.specs.declared.events.CallOutcome.TheVariants as called
use Rattle.session_run.specs.Calls.{Call}
use Rattle.session_run.specs.Live.{is_ok, sets_channel, has_set}
use Rattle.session_run.specs.Turns.{call_at, ok_calls, next_calls, turn_calls}

pub set_more : (n : ℕ) (a b : List Call) → has_set n (a ++ b) ≡ (has_set n a || has_set n b)
set_more n a b = list_any-append _ a b

set_oks : (n m : ℕ) (asks : List Asked) → has_set n (map (call_at m called.Ok) asks) ≡ list_any (sets_channel n) asks
set_oks n m [] = refl
set_oks n m (a ∷ asks) = ap (λ (b : Bool). sets_channel n a || b) (set_oks n m asks)

-- a call that was not answered Ok sets nothing
set_none : (n m : ℕ) (end : CallOutcome) (asks : List Asked) → is_ok end ≡ false → has_set n (map (call_at m end) asks) ≡ false
set_none n m called.Ok asks is = absurd (cc)
set_none n m end [] is = refl
set_none n m called.Full (a ∷ asks) is = set_none n m called.Full asks is
set_none n m called.Gone (a ∷ asks) is = set_none n m called.Gone asks is
set_none n m called.LogFault (a ∷ asks) is = set_none n m called.LogFault asks is
set_none n m called.Stopped (a ∷ asks) is = set_none n m called.Stopped asks is
set_none n m called.Spent (a ∷ asks) is = set_none n m called.Spent asks is
set_none n m called.Memory (a ∷ asks) is = set_none n m called.Memory asks is

set_next : (n m : ℕ) (asked : List Asked) (served : ℕ) (end : CallOutcome) → has_set n (next_calls m asked served end) ≡ false
set_next n m asked served called.Ok = refl
set_next n m asked served called.Full = set_none n m called.Full (take 1 (drop served asked)) refl
set_next n m asked served called.Gone = set_none n m called.Gone (take 1 (drop served asked)) refl
set_next n m asked served called.LogFault = set_none n m called.LogFault (take 1 (drop served asked)) refl
set_next n m asked served called.Stopped = set_none n m called.Stopped (take 1 (drop served asked)) refl
set_next n m asked served called.Spent = set_none n m called.Spent (take 1 (drop served asked)) refl
set_next n m asked served called.Memory = set_none n m called.Memory (take 1 (drop served asked)) refl

-- the calls of a turn set it where one of the requests does that were answered Ok
pub set_turn : (n m served : ℕ) (end : CallOutcome) (asked : List Asked)
    → has_set n (turn_calls m asked served end) ≡ list_any (sets_channel n) (take served asked)
set_turn n m served end asked =
    set_more n (ok_calls m asked served) (next_calls m asked served end)
    ∙ ap (λ (b : Bool). has_set n (ok_calls m asked served) || b) (set_next n m asked served end)
    ∙ or-false (has_set n (ok_calls m asked served))
    ∙ set_oks n m (take served asked)
