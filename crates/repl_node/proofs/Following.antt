-- A node that hears parts of a leader's logs.
use Rattle.std.specs.Prelude.{if◌then◌else◌, nat_lt}
use Rattle.std.specs.List.{AllByRecursion, Contains}
use Rattle.std.proofs.Common.{◌≡◌, ◌⊎◌, ◌<◌, ◌∙◌, ◌+◌, ◌==◌, ◌&&◌, ℕ, Bool, true, false, List, [], ◌∷◌, ◌++◌, length, refl, sym, ap, subst, arith, inl, inr, length-append}
use Rattle.std.proofs.lemmas.Bool.{and_parts, eqb-true, ltb-true}
use Rattle.std.proofs.lemmas.List.Elements.{All-contains_itself, recursion_from_All}
use Rattle.byte_text.specs.Names.{Bytes}
use Rattle.world_data.specs.declared.worlds.World.{World}
use Rattle.log_sides.specs.Texts.{newest}
use Rattle.journal.specs.Openings.{AreWhole}
use Rattle.repl_stream.specs.declared.parts.Part.{Part}
use Rattle.world_recovery.specs.Recorded.{record_fault, world_in}
use Rattle.repl_node.specs.LogTexts.{AreLog, IsWorldOf}
use Rattle.repl_node.specs.Following.{Followed, IsHeard, IsRefused, first_node, first_place, had, is_next, place, with_part, with_world}
use Rattle.repl_node.specs.Deliveries.{Delivery, IsAnswered, AreAnswered, Hears, HearsAll, ShowsNothing, Shows, IsBehind}
use Rattle.repl_node.specs.declared.nodes.Heard.{Heard}
use Rattle.repl_node.specs.declared.nodes.Heard.TheVariants.{Old, More, Published}
use Rattle.repl_node.specs.declared.nodes.LogPlace.{LogPlace}
use Rattle.repl_node.proofs.Texts.{gate_is, longer, texts_once}
use Rattle.repl_node.proofs.Answers.{HasFront, GoesBehind, behind_first, next_behind, front_behind, reaches, no_more}

-- nothing was published, or the world of one of these parts
abbrev ShowsSome : (ℕ → List Bytes) → List Delivery → Followed → Type 0
ShowsSome logs parts node = ShowsNothing node ⊎ ((batches : List Bytes) × Shows logs parts node batches)

-- what holds of a node that heard some of these parts
record Sound (logs : ℕ → List Bytes) (parts : List Delivery) (node : Followed) : Type 0 where
  pub has : HasFront logs node.generation node.taken
  pub shows : ShowsSome logs parts node

first_sound : (logs : ℕ → List Bytes) (parts : List Delivery) → Sound logs parts first_node
first_sound logs parts = record { has = record { front = λ some. absurd (omega (arith, some)) }; shows = inl (record { published = refl; world = refl }) }

-- a world that is shown stays where nothing is published
shown_still : (logs : ℕ → List Bytes) (parts : List Delivery) (old new : Followed) → new.published ≡ old.published → new.world ≡ old.world
    → ShowsSome logs parts old → ShowsSome logs parts new
shown_still logs parts old new published world (inl nothing) = inl (record { published = published ∙ nothing.published; world = world ∙ nothing.world })
shown_still logs parts old new published world (inr (batches, shows)) = inr (
  batches,
  record {
    delivery = shows.delivery;
    heard = shows.heard;
    later = shows.later;
    begun = shows.begun;
    end = shows.end;
    published = published ∙ shows.published;
    world = world ∙ shows.world;
  },
)

module _ (logs : ℕ → List Bytes) (parts : List Delivery) (d : Delivery) (one : Contains parts d) (answered : IsAnswered logs d) (old : Followed) (sound : Sound logs parts old) where
  goes : is_next old d.part ≡ true → GoesBehind logs d answered.batches (had old d.part)
  goes next = next_behind logs d old answered next sound.has

  same_world : (world : World) (whole : d.part.from + length d.bytes ≡ d.part.end) → is_next old d.part ≡ true → IsWorldOf (had old d.part ++ d.bytes) world
      → world ≡ world_in newest answered.batches
  same_world world whole next is =
      let text = reaches logs d (had old d.part) answered (goes next) whole in
      let once = texts_once answered.batches is.batches (omega (arith, answered.short, gate_is newest d.part.generation answered.batches)) (text ∙ is.log.text_is) in
      is.world_is ∙ ap (world_in newest) (sym once)

  by_heard : (new : Followed) (heard : Heard) → IsHeard old d.part d.bytes new heard → Sound logs parts new
  by_heard new Old is = subst (Sound logs parts) (sym is.1) sound
  by_heard new More is = subst (Sound logs parts) (sym is.new_is) (record {
    has = front_behind logs d (had old d.part) answered (goes is.next);
    shows = shown_still logs parts old (with_part old d.part d.bytes) refl refl sound.shows;
  })
  by_heard new Published is = subst (Sound logs parts) (sym is.new_is) (record {
    has = front_behind logs d (had old d.part) answered (goes is.next);
    shows = inr (
      answered.batches,
      record {
        delivery = d;
        heard = one;
        later = answered.later;
        begun = answered.begun;
        end = answered.end;
        published = refl;
        world = same_world is.world is.whole is.next is.world_is;
      },
    );
  })

  hears_sound : (new : Followed) → Hears old d new → Sound logs parts new
  hears_sound new (inl (heard, is)) = by_heard new heard is
  hears_sound new (inr same) = subst (Sound logs parts) (sym same) sound

all_sound : (logs : ℕ → List Bytes) (parts heard : List Delivery) (old new : Followed) → AllByRecursion (Contains parts) heard → AreAnswered logs heard
    → Sound logs parts old → HearsAll old heard new → Sound logs parts new
all_sound logs parts [] old new among answered sound same = subst (Sound logs parts) (sym same) sound
all_sound logs parts (d ∷ heard) old new among answered sound (next, one, later) =
    all_sound logs parts heard next new among.1 answered.1 (hears_sound logs parts d among.0 answered.0 old sound next one) later

sound_after : (logs : ℕ → List Bytes) (parts : List Delivery) (node : Followed) → AreAnswered logs parts → HearsAll first_node parts node → Sound logs parts node
sound_after logs parts node answered hears =
    all_sound logs parts parts first_node node (recursion_from_All (Contains parts) parts (All-contains_itself parts)) answered (first_sound logs parts) hears

pub beginnings : (logs : ℕ → List Bytes) (parts : List Delivery) (node : Followed) → AreAnswered logs parts → HearsAll first_node parts node
    → ShowsNothing node ⊎ ((batches : List Bytes) × Shows logs parts node batches)
beginnings logs parts node answered hears = (sound_after logs parts node answered hears).shows

-- a part of whole records

front_whole : (batches later : List Bytes) → AreWhole (record_fault newest) (batches ++ later) → AreWhole (record_fault newest) batches
front_whole [] later whole = tt
front_whole (b ∷ batches) later whole = (whole.0, front_whole batches later whole.1)

pub records_taken : (logs : ℕ → List Bytes) (parts : List Delivery) (node : Followed) (next : Delivery) → AreAnswered logs parts
    → HearsAll first_node parts node → IsAnswered logs next → AreWhole (record_fault newest) (logs next.part.generation)
    → IsRefused node next.part next.bytes → ⊥
records_taken logs parts node next answered hears last whole refused =
    let sound = sound_after logs parts node answered hears in
    let behind = next_behind logs next node last refused.next sound.has in
    by refused.why behind
  where
    by : ((next.part.end < next.part.from + length next.bytes) ⊎ ((length next.bytes ≡ 0) × (next.part.from < next.part.end)))
        ⊎ ((next.part.from + length next.bytes ≡ next.part.end) × ((batches : List Bytes) → AreLog (had node next.part ++ next.bytes) batches → ⊥))
        → GoesBehind logs next last.batches (had node next.part) → ⊥
    by (inl piece) behind = no_more logs next (had node next.part) last behind piece
    by (inr (reached, none)) behind = none last.batches (record {
      text_is = sym (reaches logs next (had node next.part) last behind reached);
      whole = front_whole last.batches last.later (subst (AreWhole (record_fault newest)) last.begun whole);
    })

-- never back

-- what is published is not past what a node has
record IsOnward (node : Followed) : Type 0 where
  pub behind : IsBehind node.published (record { generation = node.generation; place = place node })

behind_all : (a b c : LogPlace) → IsBehind a b → IsBehind b c → IsBehind a c
behind_all a b c (inl ab) (inl bc) = inl (omega (arith, ab, bc))
behind_all a b c (inl ab) (inr bc) = inl (omega (arith, ab, bc.0))
behind_all a b c (inr ab) (inl bc) = inl (omega (arith, ab.0, bc))
behind_all a b c (inr ab) (inr bc) = inr (ab.0 ∙ bc.0, omega (arith, ab.1, bc.1))

behind_self : (a : LogPlace) → IsBehind a a
behind_self a = inr (refl, omega arith)

-- a part that is next reaches no less far than the node
by_place : (node : Followed) (part : Part) (bytes : Bytes) (b : Bool) → (part.generation == node.generation) ≡ b
    → (if b then part.from == place node else (nat_lt node.generation part.generation && part.from == 16)) ≡ true
    → IsBehind (record { generation = node.generation; place = place node })
    (record { generation = part.generation; place = first_place part.generation + length ((if b then node.taken else []) ++ bytes) })
by_place node part bytes true is next =
    let same : part.generation ≡ node.generation = eqb-true part.generation node.generation is in
    inr (sym same, omega (arith, ap first_place same, length-append node.taken bytes))
by_place node part bytes false is next = inl (ltb-true node.generation part.generation (and_parts (nat_lt node.generation part.generation) (part.from == 16) next).0)

goes_onward : (node : Followed) (part : Part) (bytes : Bytes) → is_next node part ≡ true
    → IsBehind (record { generation = node.generation; place = place node }) (record { generation = part.generation; place = place (with_part node part bytes) })
goes_onward node part bytes next = by_place node part bytes (part.generation == node.generation) refl next

-- the place behind a part that is next is the one that its bytes reach
by_reach : (node : Followed) (part : Part) (bytes : Bytes) (b : Bool) → (part.generation == node.generation) ≡ b
    → (if b then part.from == place node else (nat_lt node.generation part.generation && part.from == 16)) ≡ true
    → first_place part.generation + length ((if b then node.taken else []) ++ bytes) ≡ part.from + length bytes
by_reach node part bytes true is next =
    let same : part.generation ≡ node.generation = eqb-true part.generation node.generation is in
    let from : part.from ≡ place node = eqb-true part.from (place node) next in
    omega (arith, ap first_place same, from, length-append node.taken bytes)
by_reach node part bytes false is next =
    let both = and_parts (nat_lt node.generation part.generation) (part.from == 16) next in
    let later : node.generation < part.generation = ltb-true node.generation part.generation both.0 in
    let first : first_place part.generation ≡ 16 = behind_first part.generation (omega (arith, later)) in
    let from : part.from ≡ 16 = eqb-true part.from 16 both.1 in
    omega (arith, first, from)

pub place_reached : (node : Followed) (part : Part) (bytes : Bytes) → is_next node part ≡ true → place (with_part node part bytes) ≡ part.from + length bytes
place_reached node part bytes next = by_reach node part bytes (part.generation == node.generation) refl next

-- a node that heard a part goes on, and has published no less
record GoneOn (old new : Followed) : Type 0 where
  pub onward : IsOnward new
  pub behind : IsBehind old.published new.published

still : (old : Followed) → IsOnward old → GoneOn old old
still old onward = record { onward = onward; behind = behind_self old.published }

onward_heard : (old : Followed) (d : Delivery) (onward : IsOnward old) (new : Followed) (heard : Heard) → IsHeard old d.part d.bytes new heard → GoneOn old new
onward_heard old d onward new Old is = subst (GoneOn old) (sym is.1) (still old onward)
onward_heard old d onward new More is =
    let next = with_part old d.part d.bytes in
    let here : LogPlace = record { generation = old.generation; place = place old } in
    let there : LogPlace = record { generation = next.generation; place = place next } in
    subst (GoneOn old) (sym is.new_is) (record {
      onward = record { behind = behind_all old.published here there onward.behind (goes_onward old d.part d.bytes is.next) };
      behind = behind_self old.published;
    })
onward_heard old d onward new Published is =
    let next = with_world old d.part d.bytes is.world in
    let here : LogPlace = record { generation = old.generation; place = place old } in
    let there : LogPlace = record { generation = next.generation; place = place next } in
    let reached : place next ≡ d.part.end = place_reached old d.part d.bytes is.next ∙ is.whole in
    let ends : IsBehind there next.published = inr (refl, omega (arith, reached)) in
    subst (GoneOn old) (sym is.new_is) (record {
      onward = record { behind = inr (refl, omega (arith, reached)) };
      behind = behind_all old.published there next.published (behind_all old.published here there onward.behind (goes_onward old d.part d.bytes is.next)) ends;
    })

onward_hears : (old : Followed) (d : Delivery) (new : Followed) → IsOnward old → Hears old d new → GoneOn old new
onward_hears old d new onward (inl (heard, is)) = onward_heard old d onward new heard is
onward_hears old d new onward (inr same) = subst (GoneOn old) (sym same) (still old onward)

gone_on : (heard : List Delivery) (old new : Followed) → IsOnward old → HearsAll old heard new → GoneOn old new
gone_on [] old new onward same = subst (GoneOn old) (sym same) (still old onward)
gone_on (d ∷ heard) old new onward (next, one, later) =
    let step = onward_hears old d next onward one in
    let rest = gone_on heard next new step.onward later in
    record { onward = rest.onward; behind = behind_all old.published next.published new.published step.behind rest.behind }

first_onward : IsOnward first_node
first_onward = record { behind = inr (refl, omega arith) }

pub never_back : (parts later : List Delivery) (old new : Followed) → HearsAll first_node parts old → HearsAll old later new
    → IsBehind old.published new.published
never_back parts later old new one two = (gone_on later old new (gone_on parts first_node old first_onward one).onward two).behind

-- no shorter beginning of the same log

by_behind : (logs : ℕ → List Bytes) (parts heard : List Delivery) (old new : Followed) (batches others : List Bytes) → Shows logs parts old batches → Shows logs heard new others
    → new.published.generation ≡ old.published.generation → IsBehind old.published new.published → (more : List Bytes) × (others ≡ batches ++ more)
by_behind logs parts heard old new batches others one two same (inl less) = absurd (omega (arith, less, same))
by_behind logs parts heard old new batches others one two same (inr behind) =
    let first = one.delivery.part in
    let next = two.delivery.part in
    let of_first : old.published.generation ≡ first.generation = ap (λ (p : LogPlace). p.generation) one.published in
    let of_next : new.published.generation ≡ next.generation = ap (λ (p : LogPlace). p.generation) two.published in
    let log : first.generation ≡ next.generation = sym of_first ∙ sym same ∙ of_next in
    let start : old.published.place ≡ first.end = ap (λ (p : LogPlace). p.place) one.published in
    let end : new.published.place ≡ next.end = ap (λ (p : LogPlace). p.place) two.published in
    longer batches others one.later two.later (sym one.begun ∙ ap logs log ∙ two.begun)
    (omega (arith, behind.1, start, end, one.end, two.end, gate_is newest first.generation batches, gate_is newest next.generation others))

pub never_shorter : (logs : ℕ → List Bytes) (parts later heard : List Delivery) (old new : Followed) (batches others : List Bytes) → HearsAll first_node parts old
    → HearsAll old later new → Shows logs parts old batches → Shows logs heard new others → new.published.generation ≡ old.published.generation → (more : List Bytes) × (others ≡ batches ++ more)
never_shorter logs parts later heard old new batches others one two shown next same =
    by_behind logs parts heard old new batches others shown next same (never_back parts later old new one two)
