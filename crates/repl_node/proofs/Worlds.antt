-- Worlds that are folded on with a log: the world of a replay that stands behind whole batches, one batch more, and a longer log.
use Rattle.std.proofs.Common.{◌≡◌, ◌≤◌, ◌∙◌, ◌+◌, ℕ, List, [], ◌∷◌, ◌++◌, length, take, drop, Option, Some, None, IfSome, refl, sym, ap, arith, length-append}
use Rattle.std.proofs.lemmas.List.{take_at, take_all, take-append-le, take-append-drop, length-drop}
use Rattle.byte_text.specs.Names.{Bytes}
use Rattle.byte_text.specs.StreamTexts.{text_long}
use Rattle.world_data.specs.Records.{record_reader}
use Rattle.world_data.specs.declared.worlds.Change.{Change}
use Rattle.log_sides.specs.Texts.{batches_text, newest, with_batch}
use Rattle.log_record.specs.Batches.{records_text}
use Rattle.log_record.specs.Folding.{folded}
use Rattle.world_recovery.specs.Recorded.{world_in}
use Rattle.world_recovery.specs.Replayed.{Replayed, StandsFor}
use Rattle.repl_node.specs.LogTexts.{AreLog, IsTaken, IsWorldOf}
use Rattle.repl_node.specs.LogWorlds.{HasTaken}
use Rattle.repl_node.specs.declared.log_worlds.LogWorld.{LogWorld}
use Rattle.repl_node.proofs.Frames.{one_more, whole_more}

-- no bytes are the records of no change
no_changes : (changes : List Change) (rest : Bytes) → [] ≡ records_text changes ++ rest → changes ≡ []
no_changes [] rest none = refl
no_changes (c ∷ changes) rest none =
    let some = text_long (record_reader c) in
    absurd (omega (arith, some, ap (λ (l : Bytes). length l) none, length-append (records_text (c ∷ changes)) rest, length-append (records_text (c ∷ [])) (records_text changes)))

pub world_behind : (r : Replayed) (v : ℕ) (batches : List Bytes) → StandsFor r v batches [] → r.world ≡ world_in v batches
world_behind r v batches stands =
    stands.1.world_is ∙ ap (λ (l : List Change). folded (world_in v batches) l) (no_changes stands.1.changes stands.1.beginning stands.1.text)

-- no batch of a log was taken
pub none_taken : (log : Bytes) (w : LogWorld) → w.at ≡ 0 → StandsFor w.replay newest [] [] → HasTaken log w
none_taken log w at stands = record {
  within = omega (arith, at);
  batches = [];
  front = record { text_is = ap (λ (k : ℕ). take k log) at; whole = tt };
  taken = stands;
}

-- the log in front of a place, and what stands behind it
pub split_there : (log : Bytes) (at : ℕ) (done : List Bytes) → AreLog (take at log) done → log ≡ batches_text done ++ drop at log
split_there log at done front = sym (take-append-drop at log) ∙ ap (λ (l : Bytes). l ++ drop at log) front.text_is

-- the batch behind that place was taken
pub one_taken : (log : Bytes) (at n : ℕ) (replay : Replayed) (done : List Bytes) → at ≤ length log → AreLog (take at log) done → IsTaken replay done (drop at log) n
    → HasTaken log (record { replay = replay; at = at + n })
one_taken log at n replay done within front took =
    let all = with_batch done took.batch in
    let is : log ≡ batches_text all ++ drop (at + n) log = one_more log done took.batch at n (split_there log at done front) took.first in
    let inside : at + n ≤ length log = omega (arith, within, took.within, length-drop at log) in
    let long : length (batches_text all) ≡ at + n = omega (arith, ap length is, length-append (batches_text all) (drop (at + n) log), length-drop (at + n) log, inside) in
    record {
      within = inside;
      batches = all;
      front = record {
        text_is = ap (λ (l : Bytes). take (at + n) l) is ∙ take_at (batches_text all) (drop (at + n) log) (at + n) long;
        whole = whole_more done took.batch front.whole took.whole;
      };
      taken = took.taken;
    }

-- what is pushed to a log changes nothing
pub taken_longer : (log more : Bytes) (w : LogWorld) → HasTaken log w → HasTaken (log ++ more) w
taken_longer log more w has = record {
  within = omega (arith, has.within, length-append log more);
  batches = has.batches;
  front = record { text_is = take-append-le w.at log more has.within ∙ has.front.text_is; whole = has.front.whole };
  taken = has.taken;
}

pub second_longer : (log more : Bytes) (second : Option LogWorld) → IfSome second (HasTaken log) → IfSome second (HasTaken (log ++ more))
second_longer log more None has = tt
second_longer log more (Some w) has = taken_longer log more w has

-- the world of the whole log
pub world_there : (log : Bytes) (w : LogWorld) → HasTaken log w → w.at ≡ length log → IsWorldOf log w.replay.world
world_there log w has all = record {
  batches = has.batches;
  log = record { text_is = sym (take_all w.at log (omega (arith, all))) ∙ has.front.text_is; whole = has.front.whole };
  world_is = world_behind w.replay newest has.batches has.taken;
}
