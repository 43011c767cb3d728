-- What was read for an ask is a part of the log.
use Rattle.std.proofs.Common.{◌≡◌, ◌∙◌, ◌≤◌, ℕ, Bool, true, false, List, take, drop, min, arith, length-append, refl, ap, subst}
use Rattle.std.specs.Prelude.{Option, if◌then◌else◌}
use Rattle.byte_text.specs.Names.{Bytes}
use Rattle.outside.specs.Sides.{Sides, side_of}
use Rattle.log_sides.specs.Texts.{StandsFor, batches_text, front_text, gate_place, newest, number_bytes}
use Rattle.log_sides.specs.Torn.{length-number_bytes}
use Rattle.append_log.specs.Once.{stands_once}
use Rattle.journal.specs.Journals.{Keeps}
use Rattle.journal.specs.Openings.{AreWhole}
use Rattle.journal.specs.declared.journals.Journal.{Journal}
use Rattle.log_record.specs.Journals as log
use Rattle.repl_stream.specs.Texts.{max_part}
use Rattle.repl_stream.specs.declared.asks.Ask.{Ask}
use Rattle.repl_stream.specs.declared.parts.Part.{Part}
use Rattle.world_recovery.specs.Recorded.{record_fault, world_in}
use Rattle.durable_core.specs.Kept.{IsKeptBy}
use Rattle.durable_core.specs.Parts.{IsPartOfLog, IsPartOfWorld, MakeWorld, is_within}
use Rattle.durable_core.specs.Written.{KeepsSided, Sided}
use Rattle.durable_core.specs.declared.tails.Tail.{Tail}

-- no gate stands in front of the header's end
header_first : (v g : ℕ) (batches : List Bytes) → 16 ≤ gate_place v g batches
header_first v g batches = omega (arith, length-append (number_bytes g) (batches_text batches), length-number_bytes g)

min_first : (n : ℕ) → 16 ≤ n → min 16 n ≡ 16
min_first n least = omega (arith, least)

pub from_first : (b : Bool) (from end : ℕ) → 16 ≤ end → (if b then from else min 16 end) ≡ (if b then from else 16)
from_first true from end least = refl
from_first false from end least = min_first end least

module _ {D : Type 0} (crashes : D → Bool) (seen : D → Option Sides) (images : D → Sides → Type 0) (old : Journal D) (latest : old.log.version ≡ newest) (ask : Ask) (g from end : ℕ) (bytes : Bytes)
    (g_is : g ≡ old.log.generation) (end_is : end ≡ old.log.gate) (first : from ≡ (if is_within ask g end then ask.from else min 16 end))
    (read : (batches copied : List Bytes) → Keeps crashes seen images old batches copied → bytes ≡ take max_part (drop from (front_text old.log.version old.log.generation batches))) where
  abbrev part : Part
  part = record { generation = g; from = from; end = end }

  pub part_of : (batches copied : List Bytes) → Keeps crashes seen images old batches copied → IsPartOfLog ask old.log.generation batches part bytes
  part_of batches copied keeps =
      let n = old.log.generation in
      let place : end ≡ gate_place newest n batches = end_is ∙ keeps.log.place ∙ ap (λ (v : ℕ). gate_place v n batches) latest in
      record {
        generation_is = g_is;
        end = place;
        from = first ∙ ap (λ (m : ℕ). if is_within ask m end then ask.from else min 16 end) g_is ∙ ap (λ (m : ℕ). if is_within ask n m then ask.from else min 16 m) place
            ∙ from_first (is_within ask n (gate_place newest n batches)) ask.from (gate_place newest n batches) (header_first newest n batches);
        bytes_are = read batches copied keeps ∙ ap (λ (v : ℕ). take max_part (drop from (front_text v n batches))) latest;
      }

-- and of a log that makes a world
module _ {D : Type 0} (crashes : D → Bool) (seen : D → Option Sides) (images : D → Sides → Type 0) (old : Tail D) (latest : old.journal.log.version ≡ newest) (ask : Ask) (part : Part) (bytes : Bytes)
    (is : (batches copied : List Bytes) → Keeps crashes seen images old.journal batches copied → IsPartOfLog ask old.journal.log.generation batches part bytes) where
  pub world_of : (j : log.Journal) → IsKeptBy crashes seen images old j → IsPartOfWorld ask old.journal.log.generation j.committed part bytes
  world_of j kept = record {
    batches = kept.batches;
    whole = subst (λ (v : ℕ). AreWhole (record_fault v) kept.batches) latest kept.whole;
    world_is = kept.committed ∙ ap (λ (v : ℕ). world_in v kept.batches) latest;
    is = is kept.batches kept.copied kept.keeps;
  }

-- the disk tells which batches a journal keeps
keeps_once : {D : Type 0} (crashes : D → Bool) (seen : D → Option Sides) (images : D → Sides → Type 0) (k : Journal D) (bs xs cs ys : List Bytes) → Keeps crashes seen images k bs xs → Keeps crashes seen images k cs ys → bs ≡ cs
keeps_once crashes seen images k bs xs cs ys one two =
    let here = one.log.safe in
    let there = two.log.safe in
    let told = here.told in
    let too = there.told in
    let same : here.contents ≡ there.contents = cc in
    stands_once k.log.version k.log.generation bs cs (side_of there.contents k.log.side)
    (subst (λ (x : Sides). StandsFor k.log.version k.log.generation bs (side_of x k.log.side)) same here.has) there.has

-- so they are the ones that make the committed world
pub they_make : {D : Type 0} (crashes : D → Bool) (seen : D → Option Sides) (images : D → Sides → Type 0) (t : Tail D) (j : log.Journal) (s : Sided) → t.journal.log.version ≡ newest → IsKeptBy crashes seen images t j
    → KeepsSided crashes seen images t.journal s → MakeWorld s.batches j.committed
they_make crashes seen images t j s latest kept keeps =
    let same = keeps_once crashes seen images t.journal kept.batches kept.copied s.batches s.copied kept.keeps keeps in
    record {
      whole = subst (AreWhole (record_fault newest)) same (subst (λ (v : ℕ). AreWhole (record_fault v) kept.batches) latest kept.whole);
      world_is = kept.committed ∙ ap (λ (v : ℕ). world_in v kept.batches) latest ∙ ap (world_in newest) same;
    }
