-- The parts that a history tells are answers of a leader, and what is published of them is the world of a beginning of that history.
use Rattle.std.specs.Prelude.{if◌then◌else◌, not, nat_lt}
use Rattle.std.proofs.Common.{◌≡◌, ◌⊎◌, ◌≤◌, ◌&&◌, ◌==◌, ◌+◌, ◌∙◌, ℕ, Bool, true, false, List, [], ◌∷◌, ◌++◌, length, map, take, drop, refl, sym, ap, subst, inl, inr, arith, append_assoc, length-append}
use Rattle.std.proofs.lemmas.Bool.{and_parts}
use Rattle.std.proofs.lemmas.Bool.Decides.{nat_tests}
use Rattle.std.proofs.lemmas.List.Elements.{All-contains, All-from_recursion}
use Rattle.byte_text.specs.Names.{Bytes}
use Rattle.world_data.specs.declared.worlds.World.{World}
use Rattle.world_model.specs.Halls.{Hall}
use Rattle.world_model.specs.Histories.{opening_hall}
use Rattle.world_model.specs.Seats.{Act, Knows, act_of}
use Rattle.world_model.specs.declared.events.Entry.{Entry}
use Rattle.log_sides.specs.Texts.{batches_text, framed, front_text, gate_place, max_side, newest, number_bytes}
use Rattle.log_sides.specs.Torn.{length-number_bytes}
use Rattle.repl_stream.specs.Laws.{AsksAreApart, PartsAreApart}
use Rattle.repl_stream.specs.Texts.{max_part, part_text}
use Rattle.repl_stream.specs.declared.asks.Ask.{Ask}
use Rattle.repl_stream.specs.declared.parts.Part.{Part}
use Rattle.world_recovery.specs.Recorded.{world_in}
use Rattle.repl_node.specs.Deliveries.{Delivery, IsAnswered, PublishesBeginnings, Shows, ShowsNothing, TakesRecords}
use Rattle.repl_node.specs.Following.{Followed}
use Rattle.durable_core.specs.Histories.{Writing, Writes}
use Rattle.durable_core.specs.Parts.{is_within, part_from}
use Rattle.shared_hall.specs.Fed.{AreFed, FeedsLogs, IsFed, IsGiven, any_grown, any_lasting, part_note}
use Rattle.shared_hall.specs.Followers.{FollowersShowHistories, FollowersTakeParts, IsTold, PartsAreAnswered, ShowsHistory}

-- the entry at a place
fed_at : (lasting : ℕ → ℕ → List Bytes → Type 0) (logs : ℕ → List Bytes) (h : Hall) (first : Writing) (acts : List Act) (front : List Entry) (e : Entry) (back : List Entry)
    → AreFed lasting logs h first acts (front ++ e ∷ back) → (e.note ≡ []) ⊎ IsFed lasting logs h first (acts ++ map act_of (front ++ e ∷ [])) e.moment e.note
fed_at lasting logs h first acts [] e back fed = fed.0
fed_at lasting logs h first acts (d ∷ front) e back fed =
    subst (λ (l : List Act). (e.note ≡ []) ⊎ IsFed lasting logs h first l e.moment e.note) (append_assoc acts (act_of d ∷ []) (map act_of (front ++ e ∷ [])))
    (fed_at lasting logs h first (acts ++ act_of d ∷ []) front e back fed.1)

-- a note of a part is none without bytes
some_note : (ask : Ask) (part : Part) (bytes : Bytes) → [] ≡ part_note ask part bytes → ⊥
some_note ask part bytes is = cc is

-- no gate stands in front of the header's end
header_first : (v g : ℕ) (batches : List Bytes) → 16 ≤ gate_place v g batches
header_first v g batches = omega (arith, length-append (number_bytes g) (batches_text batches), length-number_bytes g)

-- a part begins behind the header, and not behind the end
begins_within : (ask : Ask) (g end : ℕ) → 16 ≤ end → (16 ≤ part_from ask g end) × (part_from ask g end ≤ end)
begins_within ask g end least = by (is_within ask g end) refl
  where
    by : (b : Bool) → is_within ask g end ≡ b → (16 ≤ (if b then ask.from else 16)) × ((if b then ask.from else 16) ≤ end)
    by false is = (omega arith, least)
    by true is =
        let both = and_parts (ask.generation == g) (not (nat_lt ask.from 16) && not (nat_lt end ask.from)) is in
        let ends = and_parts (not (nat_lt ask.from 16)) (not (nat_lt end ask.from)) both.1 in
        let low = ends.0 in
        let high = ends.1 in
        (grind (arith, nat_tests), grind (arith, nat_tests))

-- a part that was given is answered
pub is_answered : (logs : ℕ → List Bytes) (g : ℕ) (world : World) (batches later : List Bytes) (ask : Ask) (part : Part) (bytes : Bytes) → logs g ≡ batches ++ later → IsGiven g world batches ask part bytes
    → IsAnswered logs (record { part = part; bytes = bytes })
is_answered logs g world batches later ask part bytes begun given =
    let is = given.is in
    let same : part.generation ≡ g = is.generation_is in
    let least : 16 ≤ gate_place newest g batches = header_first newest g batches in
    let within = begins_within ask g (gate_place newest g batches) least in
    record {
      batches = batches;
      later = later;
      begun = ap logs same ∙ begun;
      numbered = subst (λ (n : ℕ). 1 ≤ n) (sym same) given.numbered;
      short = subst (λ (n : ℕ). gate_place newest n batches ≤ max_side) (sym same) given.short;
      end = subst (λ (n : ℕ). part.end ≡ gate_place newest n batches) (sym same) is.end;
      behind = subst (λ (n : ℕ). 16 ≤ n) (sym is.from) within.0;
      within = subst (λ (n : ℕ). n ≤ part.end) (sym is.from) (subst (λ (n : ℕ). part_from ask g (gate_place newest g batches) ≤ n) (sym is.end) within.1);
      bytes_are = subst (λ (n : ℕ). bytes ≡ take max_part (drop part.from (front_text newest n batches))) (sym same) is.bytes_are;
    }

-- of two beginnings of a list of batches with texts as long as one another the one is the other
as_long : (bs cs x y : List Bytes) → bs ++ x ≡ cs ++ y → length (batches_text bs) ≡ length (batches_text cs) → bs ≡ cs
as_long [] [] x y same long = refl
as_long [] (c ∷ cs) x y same long = absurd (omega (arith, long))
as_long (b ∷ bs) [] x y same long = absurd (omega (arith, long))
as_long (b ∷ bs) (c ∷ cs) x y same long =
    let heads : b ≡ c = cc same in
    let tails : bs ++ x ≡ cs ++ y = cc same in
    let rest = as_long bs cs x y tails
    (omega (arith, long, length-append (framed b) (batches_text bs), length-append (framed c) (batches_text cs), ap (λ (l : Bytes). length (framed l)) heads)) in
    ap (λ (h : Bytes). h ∷ bs) heads ∙ ap (λ (l : List Bytes). c ∷ l) rest

gate_is : (v g : ℕ) (bs : List Bytes) → gate_place v g bs ≡ 16 + length (batches_text bs)
gate_is v g bs = omega (arith, length-append (number_bytes g) (batches_text bs), length-number_bytes g)

-- what an entry tells of a delivery
pub record Tells (lasting : ℕ → ℕ → List Bytes → Type 0) (logs : ℕ → List Bytes) (h : Hall) (first : Writing) (acts : List Act) (since : ℕ) (d : Delivery) : Type 0 where
  pub hall : Hall
  pub end : Writing
  pub writes : Writes h first acts hall end
  pub batches : List Bytes
  pub later : List Bytes
  pub begun : logs end.generation ≡ batches ++ later
  pub ask : Ask
  pub given : IsGiven end.generation hall.world batches ask d.part d.bytes
  pub lasts : lasting since end.generation batches

-- the same of an entry that a seat has seen
abbrev pub TellsTold : (ℕ → ℕ → List Bytes → Type 0) → (ℕ → List Bytes) → Writing → (k : Knows) → (d : Delivery) → IsTold k.seen d → Type 0
TellsTold lasting logs first k d told =
    Tells lasting logs (opening_hall k.opening.world k.opening.logged) first (map act_of (told.front ++ told.last ∷ [])) told.last.moment d

-- a node that shows a world of logs shows that of the history which tells the part, where its batches are a beginning of those logs too
pub shows_told : (lasting : ℕ → ℕ → List Bytes → Type 0) (own logs : ℕ → List Bytes) (first : Writing) (k : Knows) (ds : List Delivery) (node : Followed) (batches : List Bytes)
    (s : Shows logs ds node batches) (told : IsTold k.seen s.delivery) (t : TellsTold lasting own first k s.delivery told) (later : List Bytes)
    → logs t.end.generation ≡ t.batches ++ later → ShowsHistory first k ds node
shows_told lasting own logs first k ds node batches s told t later begun =
    let same : s.delivery.part.generation ≡ t.end.generation = t.given.is.generation_is in
    let log : batches ++ s.later ≡ t.batches ++ later = sym s.begun ∙ ap logs same ∙ begun in
    let long : length (batches_text batches) ≡ length (batches_text t.batches) =
    omega (arith, s.end, t.given.is.end, gate_is newest s.delivery.part.generation batches, gate_is newest t.end.generation t.batches) in
    let one = as_long batches t.batches s.later later log long in
    record {
      delivery = s.delivery;
      heard = s.heard;
      told = told;
      hall = t.hall;
      end = t.end;
      writes = t.writes;
      world = s.world ∙ ap (world_in newest) one ∙ sym t.given.makes.world_is;
      published = s.published;
      generation = same;
    }

module _ (asks : AsksAreApart) (parts : PartsAreApart) where
  -- a note tells one part alone
  pub tells_of : (lasting : ℕ → ℕ → List Bytes → Type 0) (logs : ℕ → List Bytes) (h : Hall) (first : Writing) (entries : List Entry) (d : Delivery) (told : IsTold entries d)
      → AreFed lasting logs h first [] entries → Tells lasting logs h first (map act_of (told.front ++ told.last ∷ [])) told.last.moment d
  tells_of lasting logs h first entries d told fed =
      by (fed_at lasting logs h first [] told.front told.last told.back (subst (λ (l : List Entry). AreFed lasting logs h first [] l) told.there fed))
    where
      by : (told.last.note ≡ []) ⊎ IsFed lasting logs h first (map act_of (told.front ++ told.last ∷ [])) told.last.moment told.last.note
          → Tells lasting logs h first (map act_of (told.front ++ told.last ∷ [])) told.last.moment d
      by (inl none) = absurd (some_note told.ask d.part d.bytes (sym none ∙ told.note_is))
      by (inr f) =
          let n = f.noted in
          let notes = asks told.ask n.ask (part_text d.part d.bytes) (part_text n.part n.bytes) told.asked n.given.asked (sym told.note_is ∙ n.note_is) in
          let one = parts d.part n.part d.bytes n.bytes [] [] told.given n.given.given (ap (λ (l : Bytes). l ++ []) notes.1) in
          record {
            hall = f.hall;
            end = f.end;
            writes = f.writes;
            batches = f.batches;
            later = f.later;
            begun = f.begun;
            ask = n.ask;
            given = subst (λ (p : Part). IsGiven f.end.generation f.hall.world f.batches n.ask p d.bytes) (sym one.0) (subst (λ (l : Bytes). IsGiven f.end.generation f.hall.world f.batches n.ask n.part l) (sym one.1) n.given);
            lasts = f.lasts;
          }

  -- the same of a part that a seat's history tells
  pub tells_told : (lasting : ℕ → ℕ → List Bytes → Type 0) (grew : ℕ → List Bytes → Type 0) (first : Writing) (k : Knows) (f : FeedsLogs lasting grew first k) (d : Delivery) (told : IsTold k.seen d)
      → TellsTold lasting f.logs first k d told
  tells_told lasting grew first k f d told = tells_of lasting f.logs (opening_hall k.opening.world k.opening.logged) first k.seen d told f.fed

  pub parts_answered : PartsAreAnswered
  parts_answered first k f [] told = tt
  parts_answered first k f (d ∷ ds) told =
      let t = tells_told any_lasting any_grown first k f d told.0 in
      (is_answered f.logs t.end.generation t.hall.world t.batches t.later t.ask d.part d.bytes t.begun t.given, parts_answered first k f ds told.1)

  pub parts_taken : TakesRecords → FollowersTakeParts
  parts_taken takes first k ds node next f told heard one refused =
      let both = parts_answered first k f (next ∷ []) (one, tt) in
      takes f.logs ds node next (parts_answered first k f ds told) heard both.0 (f.whole next.part.generation) refused

  pub histories_shown : PublishesBeginnings → FollowersShowHistories
  histories_shown beginnings first k ds node f told heard = by (beginnings f.logs ds node (parts_answered first k f ds told) heard)
    where
      by : ShowsNothing node ⊎ ((batches : List Bytes) × Shows f.logs ds node batches) → ShowsNothing node ⊎ ShowsHistory first k ds node
      by (inl nothing) = inl nothing
      by (inr shows) =
          let s = shows.1 in
          let tell = All-contains (IsTold k.seen) ds s.delivery (All-from_recursion (IsTold k.seen) ds told) s.heard in
          let t = tells_told any_lasting any_grown first k f s.delivery tell in
          inr (shows_told any_lasting f.logs f.logs first k ds node shows.0 s tell t t.later t.begun)
