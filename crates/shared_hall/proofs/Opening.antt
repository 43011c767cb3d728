-- A hall that has no history yet.
use Rattle.std.proofs.Common.{◌≡◌, ◌≤◌, ℕ, zero, suc, Bool, true, false, List, [], take, inl, ⊎_elim, Option, refl, sym, ap, ◌∙◌, subst, arith, true≢false}
use Rattle.std.specs.Prelude.{if◌then◌else◌}
use Rattle.outside.specs.Sides.{Sides}
use Rattle.byte_text.specs.Names.{Bytes}
use Rattle.journal.specs.Logs.{Grows}
use Rattle.turn_lock.specs.Seats.{first_known}
use Rattle.turn_lock.specs.declared.seat.Known.{Known}
use Rattle.world_data.specs.declared.worlds.World.{World}
use Rattle.world_model.specs.Halls.{Hall}
use Rattle.world_model.specs.Histories.{opening_hall, IsLegal, Reaches}
use Rattle.world_model.specs.declared.events.Entry.{Entry}
use Rattle.world_model.specs.declared.events.Opening.{Opening}
use Rattle.log_record.specs.Journals.{Journal}
use Rattle.log_record.specs.Laws.{Stood}
use Rattle.log_record.specs.Safety.{Safe}
use Rattle.durable_core.specs.Kept.{settled_log}
use Rattle.durable_core.specs.Logged.{hall_of, disk_of, generation_of}
use Rattle.durable_core.specs.declared.cores.DurableCore.{DurableCore}
use Rattle.shared_hall.specs.Cores.{core_in, hall_in, writing_in, disk_in, tells, SidedIn, begun, opening_with, StandsFor, StandsIn, IsOpenedOn}
use Rattle.shared_hall.specs.Seats.{shown, first_knows}
use Rattle.shared_hall.specs.declared.places.Begun.{Begun}
use Rattle.shared_hall.specs.declared.places.HallCore.{HallCore}
use Rattle.shared_hall.specs.declared.places.Place.{Place}
use Rattle.shared_hall.specs.declared.places.Place.TheVariants.{Inside}
use Rattle.shared_hall.proofs.Feeding.{last_still}
use Rattle.shared_hall.proofs.Lasting.{keeps_once}

-- a disk that is safe since an earlier moment of an opening is so since a later one
module _ {D : Type 0} (images : D → Sides → Type 0) (moment : D → ℕ) (left_since : D → ℕ → Sides → Type 0) (disk : D) (o p : Opening)
    (from_earlier : (t u : ℕ) (c : Sides) → t ≤ u → u ≤ moment disk → left_since disk u c → left_since disk t c)
    (worlds : p.world ≡ o.world) (lengths : p.logged ≡ o.logged) (later : o.moment ≤ p.moment) (within : p.moment ≤ moment disk) where
  opens_same : (g : Hall) → g ≡ opening_hall o.world o.logged → g ≡ opening_hall p.world p.logged
  opens_same g is = is ∙ sym (ap (λ (w : World). opening_hall w p.logged) worlds ∙ ap (λ (n : ℕ). opening_hall o.world n) lengths)

  reaches_same : (m : ℕ) (g : Hall) → Reaches o (take m []) g → Reaches p (take m []) g
  reaches_same zero g is = opens_same g is
  reaches_same (suc m) g is = opens_same g is

  opens_safe : Safe left_since disk o [] → Safe left_since disk p []
  unfolding Safe
  opens_safe was zero few c left =
      let found = was zero few c (from_earlier o.moment p.moment c later within left) in
      record {
        count = found.count;
        at_least = found.at_least;
        at_most = found.at_most;
        world = found.world;
        passed = (found.passed.0, reaches_same found.count found.passed.0 found.passed.1, found.passed.2);
        recovers = found.recovers;
      }
  opens_safe was (suc n) few c left = absurd (omega (arith, few))

  pub opens_later : (h : Hall) (j : Journal) → Stood images moment left_since disk o [] h j → Stood images moment left_since disk p [] h j
  opens_later h j s = record { reached = opens_same h s.reached; past = within; safe = opens_safe s.safe; log = s.log }

module _ {D : Type 0} (crashes : D → Bool) (seen : D → Option Sides) (images : D → Sides → Type 0) (moment : D → ℕ) (left_since : D → ℕ → Sides → Type 0) (faults : D → ℕ)
    (from_earlier : (disk : D) (t u : ℕ) (c : Sides) → t ≤ u → u ≤ moment disk → left_since disk u c → left_since disk t c)
    (only_now : (disk : D) (c : Sides) → left_since disk (moment disk) c → images disk c) where
  abbrev OpenedOn : DurableCore D → D → Type 0
  OpenedOn = IsOpenedOn crashes seen images moment left_since faults

  opening_of : DurableCore D → D → Opening
  opening_of c handed = opening_with crashes seen images moment left_since faults handed (hall_of c) (disk_of c)

  now_within : (told : Bool) (disk : D) → (if told then moment disk else 0) ≤ moment disk
  now_within true disk = omega arith
  now_within false disk = omega arith

  told_now : (told : Bool) (n : ℕ) → told ≡ true → n ≡ (if told then n else 0)
  told_now true n is = refl
  told_now false n is = absurd (true≢false (sym is))

  -- a core as an opening gives it stands for no history yet
  pub stands_at : (h : HallCore D) (c : DurableCore D) → h.place ≡ Inside c → OpenedOn c h.handed.value → StandsFor crashes seen images moment left_since faults h (begun crashes seen images moment left_since faults h) []
  stands_at h c is opened = record {
    handed = refl;
    stands = subst (λ (p : Place D). StandsIn crashes seen images moment left_since faults h.handed.value (tells crashes seen h.handed.value) (writing_in p) p (opening_with crashes seen images moment left_since faults h.handed.value (hall_in p) (disk_in p)) []) (sym is) (record {
      reached = opened.hall;
      writes = (opened.hall, refl);
      sound = opened.sound;
      past = omega arith;
      counted = omega arith;
      out = refl;
      still = λ out. absurd (true≢false (sym out));
      kept = λ told.
          let found = opened.stood told in
          let o = found.0 in
          let now = told_now (tells crashes seen h.handed.value) (moment (disk_of c)) told in (
            opened.told told,
            (
              settled_log (hall_of c).world,
              opened.kept told,
              opens_later images moment left_since (disk_of c) o (opening_with crashes seen images moment left_since faults h.handed.value (hall_of c) (disk_of c)) (from_earlier (disk_of c))
                  (sym found.1) (sym found.2) (omega (arith, found.3.past, now)) (now_within (tells crashes seen h.handed.value) (disk_of c)) (hall_of c) (settled_log (hall_of c).world) found.3,
            ),
          );
      carried = λ told before earlier was.
          let left = opened.left told before earlier was in
          let has = opened.grown told before earlier was in
          let k = c.tail.journal in
          record {
            past = left.later;
            lasts = λ image at. ⊎_elim (λ old. was.each image (only_now h.handed.value image old)) (λ grown. grown) (left.either (moment h.handed.value) image (omega arith) at);
            now = λ going t keeps. subst (λ (b : List Bytes). Grows before (generation_of c) earlier b) (keeps_once crashes seen images k has.sides.batches has.sides.copied t.batches t.copied has.keeps keeps) has.grows;
          };
      fed = λ told.
          let k = (opened.kept told (ap (λ (g : Hall). g.stopped) opened.hall)).kept in
          let n = generation_of c in (
            λ m. [],
            λ m. tt,
            λ m. inl refl,
            tt,
            λ goes. last_still (λ m. []) n n [] k.batches ([], refl) (λ m later. refl) (inl (refl, (k.batches, refl))) (record { batches = k.batches; copied = k.copied }) (SidedIn crashes seen images (Inside c)) refl k.keeps,
          );
    });
  }

  -- the first seat of a lock round it
  pub shows_first : (h : HallCore D) (c : DurableCore D) (k : Known (Begun D) Entry) → h.place ≡ Inside c → k ≡ first_known (begun crashes seen images moment left_since faults h)
      → shown k ≡ first_knows crashes seen images moment left_since faults c h.handed.value
  shows_first h c k is first = ap shown first ∙ ap (λ (p : Place D). shown (first_known (record { opening = opening_with crashes seen images moment left_since faults h.handed.value (hall_in p) (disk_in p); disk = h.handed.value; core = core_in p }))) is

  pub opening_legal : (h : HallCore D) (c : DurableCore D) (k : Known (Begun D) Entry) → h.place ≡ Inside c → OpenedOn c h.handed.value → k ≡ first_known (begun crashes seen images moment left_since faults h)
      → IsLegal (shown k).opening k.seen
  opening_legal h c k is opened first =
      let s = (stands_at h c is opened).stands in
      subst (λ (z : Known (Begun D) Entry). IsLegal (shown z).opening z.seen) (sym first) (record { opening = s.sound; hall = hall_in h.place; reached = s.reached })
