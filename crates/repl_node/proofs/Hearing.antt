-- What a node publishes: where a part brings nothing, what it had published; the world of a log that it begins to read, and what its worlds took.
use Rattle.std.proofs.Common.{◌≡◌, ◌≤◌, ◌<◌, ◌∙◌, ◌+◌, ℕ, true, [], ◌++◌, length, Option, None, IfSome, refl, sym, ap, subst, arith, length-append}
use Rattle.std.proofs.lemmas.Bool.Decides.{nat_tests}
use Rattle.std.proofs.lemmas.List.{append-nil, nil_from_length}
use Rattle.byte_text.specs.Names.{Bytes}
use Rattle.world_data.specs.declared.worlds.World.{World}
use Rattle.log_sides.specs.Texts.{newest}
use Rattle.repl_stream.specs.declared.parts.Part.{Part}
use Rattle.world_recovery.specs.Replayed.{StandsFor}
use Rattle.repl_node.specs.LogTexts.{IsWorldOf}
use Rattle.repl_node.specs.Following.{Followed, IsShown, Publishes, first_node, first_place, had, is_next, place, reach}
use Rattle.repl_node.specs.LogWorlds.{AreFolded, HasAll, HasTaken}
use Rattle.repl_node.specs.declared.log_worlds.LogWorld.{LogWorld}
use Rattle.repl_node.specs.declared.nodes.LogPlace.{LogPlace}
use Rattle.repl_node.proofs.Answers.{behind_first}
use Rattle.repl_node.proofs.Worlds.{none_taken, second_longer, taken_longer, world_behind, world_there}

next_same : (node : Followed) (part : Part) → part.generation ≡ node.generation → part.from ≡ place node → is_next node part ≡ true
next_same node part same from = grind (arith, nat_tests)

had_same : (node : Followed) (part : Part) → part.generation ≡ node.generation → had node part ≡ node.taken
had_same node part same = grind (arith, nat_tests)

abbrev pub made : ℕ → Bytes → LogPlace → World → Followed
made g t p w = record { generation = g; taken = t; published = p; world = w }

same_node : (g h : ℕ) (t u : Bytes) (p q : LogPlace) (w : World) → g ≡ h → t ≡ u → p ≡ q → made g t p w ≡ made h u q w
same_node g h t u p q w gh tu pq = ap (λ (x : ℕ). made x t p w) gh ∙ ap (λ (x : Bytes). made h x p w) tu ∙ ap (λ (x : LogPlace). made h u x w) pq

abbrev pub placed : ℕ → ℕ → LogPlace
placed g k = record { generation = g; place = k }

-- the parts of a place that is known
pub same_place : (p : LogPlace) (g k : ℕ) → p.generation ≡ g → p.place ≡ k → p ≡ record { generation = g; place = k }
same_place p g k gh kh = ap (λ (x : ℕ). placed x p.place) gh ∙ ap (λ (x : ℕ). placed g x) kh

pub rests : (node : Followed) (part : Part) (bytes : Bytes) → part.generation ≡ node.generation → part.from ≡ place node → reach part bytes ≡ part.end
    → IsShown node.generation node.taken node.published node.world → node.published ≡ record { generation = part.generation; place = part.end }
    → Publishes node part bytes node
rests node part bytes same from whole shown is =
    let log : node.published.generation ≡ node.generation = ap (λ (p : LogPlace). p.generation) is ∙ same in
    let end : node.published.place ≡ part.end = ap (λ (p : LogPlace). p.place) is in
    let within = shown.no_further log in
    let none : length bytes ≡ 0 = omega (arith, from, whole, end, within) in
    let here : node.published.place ≡ place node = omega (arith, from, whole, end, none) in
    let taken : had node part ++ bytes ≡ node.taken = ap (λ (l : Bytes). had node part ++ l) (nil_from_length bytes none) ∙ append-nil (had node part) ∙ had_same node part same in
    record {
      next = next_same node part same from;
      whole = whole;
      world = node.world;
      world_is = subst (λ (l : Bytes). IsWorldOf l node.world) (sym taken) (shown.world_is log here);
      new_is = same_node node.generation part.generation node.taken (had node part ++ bytes) node.published (record { generation = part.generation; place = part.end }) node.world (sym same) (sym taken) is;
    }

-- the first part of a later log

next_later : (node : Followed) (part : Part) → node.generation < part.generation → part.from ≡ 16 → is_next node part ≡ true
next_later node part later from = grind (arith, nat_tests)

had_none : (node : Followed) (part : Part) → node.generation < part.generation → had node part ≡ []
had_none node part later = grind (arith, nat_tests)

pub begins : (node : Followed) (part : Part) (bytes log : Bytes) (reached : ℕ) (world : World) → node.generation < part.generation → part.from ≡ 16 → reached ≡ reach part bytes → reached ≡ part.end
    → log ≡ bytes → IsWorldOf log world → Publishes node part bytes (record { generation = part.generation; taken = log; published = record { generation = part.generation; place = reached }; world = world })
begins node part bytes log reached world later from place end is of =
    let taken : had node part ++ bytes ≡ log = ap (λ (l : Bytes). l ++ bytes) (had_none node part later) ∙ sym is in
    record {
      next = next_later node part later from;
      whole = sym place ∙ end;
      world = world;
      world_is = subst (λ (l : Bytes). IsWorldOf l world) (sym taken) of;
      new_is = same_node part.generation part.generation log (had node part ++ bytes) (placed part.generation reached) (placed part.generation part.end) world refl (sym taken) (ap (placed part.generation) end);
    }

-- ---- what the worlds of a node took

-- the published world is shown as it should be
shown_there : (generation : ℕ) (log : Bytes) (published : LogPlace) (shown : LogWorld) (second : Option LogWorld) → published.generation ≤ generation
    → AreFolded generation log published shown second → IsShown generation log published shown.replay.world
shown_there generation log published shown second no_later folded = record {
  no_later = no_later;
  no_further = λ same. omega (arith, folded.shown_to same, (folded.shown_took same).within);
  world_is = λ same here. world_there log shown (folded.shown_took same) (omega (arith, folded.shown_to same, here));
}

abbrev pub AreShown : ℕ → Bytes → LogPlace → LogWorld → Option LogWorld → Type 0
AreShown generation log published shown second = IsShown generation log published shown.replay.world × AreFolded generation log published shown second

-- nothing was heard
pub first_worlds : (log : Bytes) (shown : LogWorld) → log ≡ [] → shown.at ≡ 0 → StandsFor shown.replay newest [] []
    → (0 ≡ first_place 0 + length log) × IsShown 0 log (placed 0 0) shown.replay.world × AreFolded 0 log (placed 0 0) shown None
first_worlds log shown none at stands =
    let has = none_taken log shown at stands in
    let folded : AreFolded 0 log (placed 0 0) shown None = record { shown_took = λ same. has; shown_to = λ same. omega (arith, at); second_took = tt } in
    let here : 0 ≡ first_place 0 + length log = omega (arith, ap (λ (l : Bytes). length l) none) in
    (here, shown_there 0 log (placed 0 0) shown None (omega arith) folded, folded)

pub first_is : (log : Bytes) (shown : LogWorld) → log ≡ [] → StandsFor shown.replay newest [] [] → made 0 log (placed 0 0) shown.replay.world ≡ first_node
first_is log shown none stands =
    ap (λ (l : Bytes). made 0 l (placed 0 0) shown.replay.world) none ∙ ap (λ (w : World). made 0 [] (placed 0 0) w) (world_behind shown.replay newest [] stands)

-- bytes were pushed
pub went_on : (generation : ℕ) (log more : Bytes) (published : LogPlace) (shown : LogWorld) (second : Option LogWorld) → AreShown generation log published shown second
    → AreShown generation (log ++ more) published shown second
went_on generation log more published shown second are =
    let folded : AreFolded generation (log ++ more) published shown second = record {
      shown_took = λ same. taken_longer log more shown (are.1.shown_took same);
      shown_to = are.1.shown_to;
      second_took = second_longer log more second are.1.second_took;
    } in
    (shown_there generation (log ++ more) published shown second are.0.no_later folded, folded)

-- the second world was dropped
pub gave_up : (generation : ℕ) (log : Bytes) (published : LogPlace) (shown : LogWorld) (second : Option LogWorld) → AreShown generation log published shown second
    → AreShown generation log published shown None
gave_up generation log published shown second are = (are.0, record { shown_took = are.1.shown_took; shown_to = are.1.shown_to; second_took = tt })

-- the log is a later one
pub later_log : (generation : ℕ) (log : Bytes) (published : LogPlace) (shown : LogWorld) → published.generation < generation → AreShown generation log published shown None
later_log generation log published shown later =
    let folded : AreFolded generation log published shown None = record {
      shown_took = λ same. absurd (omega (arith, later, same));
      shown_to = λ same. absurd (omega (arith, later, same));
      second_took = tt;
    } in
    (shown_there generation log published shown None (omega (arith, later)) folded, folded)

-- the world of the whole log was published
pub whole_log : (generation : ℕ) (log : Bytes) (published : LogPlace) (world : LogWorld) (second : Option LogWorld) → published.generation ≡ generation
    → published.place ≡ first_place generation + length log → HasAll log world → IfSome second (HasTaken log) → AreShown generation log published world second
whole_log generation log published world second same here has taken =
    let folded : AreFolded generation log published world second = record {
      shown_took = λ log_is. has.took;
      shown_to = λ log_is. here ∙ ap (λ (k : ℕ). first_place generation + k) (sym has.all);
      second_took = taken;
    } in
    (shown_there generation log published world second (omega (arith, same)) folded, folded)

pub shown_first : (node : Followed) (part : Part) (bytes log : Bytes) (reached : ℕ) (world : LogWorld) → node.generation < part.generation → part.from ≡ 16 → reached ≡ reach part bytes
    → log ≡ bytes → HasAll log world
    → (reached ≡ first_place part.generation + length log) × IsShown part.generation log (placed part.generation reached) world.replay.world
    × AreFolded part.generation log (placed part.generation reached) world None
shown_first node part bytes log reached world later from place is has =
    let first : first_place part.generation ≡ 16 = behind_first part.generation (omega (arith, later)) in
    let here : reached ≡ first_place part.generation + length log = omega (arith, place, from, first, ap length is) in
    let are = whole_log part.generation log (placed part.generation reached) world None refl here has tt in
    (here, are.0, are.1)

-- a world of the whole log takes the place of the one that was shown, which is the second one then

pub none_second : (log : Bytes) (second : Option LogWorld) → second ≡ None → IfSome second (HasTaken log)
none_second log second none = subst (λ (o : Option LogWorld). IfSome o (HasTaken log)) (sym none) tt

pub last_second : (log bytes more : Bytes) (shown last : LogWorld) → more ≡ log ++ bytes → last ≡ shown → HasTaken log shown → HasTaken more last
last_second log bytes more shown last is same has =
    subst (λ (l : Bytes). HasTaken l last) (sym is) (taken_longer log bytes last (subst (λ (w : LogWorld). HasTaken log w) (sym same) has))

pub goes_whole : (generation : ℕ) (log bytes more : Bytes) (part : Part) (reached : ℕ) (world shown : LogWorld) (second : Option LogWorld) → more ≡ log ++ bytes
    → part.generation ≡ generation → part.from ≡ first_place generation + length log → reached ≡ reach part bytes → reached ≡ part.end → shown ≡ world
    → HasAll more world → IfSome second (HasTaken more)
    → (reached ≡ first_place generation + length more) × IsShown generation more (placed part.generation part.end) shown.replay.world
    × AreFolded generation more (placed part.generation part.end) shown second
goes_whole generation log bytes more part reached world shown second is same from reaches end shown_is has took =
    let here : reached ≡ first_place generation + length more = omega (arith, reaches, from, ap length is, length-append log bytes) in
    let all : HasAll more shown = subst (λ (w : LogWorld). HasAll more w) (sym shown_is) has in
    let are = whole_log generation more (placed part.generation part.end) shown second same (sym end ∙ here) all took in
    (here, are.0, are.1)

pub goes_published : (node : Followed) (part : Part) (bytes more : Bytes) (generation : ℕ) (world shown : LogWorld) → part.generation ≡ node.generation → part.from ≡ place node
    → reach part bytes ≡ part.end → generation ≡ node.generation → more ≡ node.taken ++ bytes → shown ≡ world → HasAll more world
    → Publishes node part bytes (record { generation = generation; taken = more; published = record { generation = part.generation; place = part.end }; world = shown.replay.world })
goes_published node part bytes more generation world shown same from whole here is shown_is has =
    let all : HasAll more shown = subst (λ (w : LogWorld). HasAll more w) (sym shown_is) has in
    let taken : had node part ++ bytes ≡ more = ap (λ (l : Bytes). l ++ bytes) (had_same node part same) ∙ sym is in
    let end : LogPlace = placed part.generation part.end in
    record {
      next = next_same node part same from;
      whole = whole;
      world = shown.replay.world;
      world_is = subst (λ (l : Bytes). IsWorldOf l shown.replay.world) (sym taken) (world_there more shown all.took all.all);
      new_is = same_node generation part.generation more (had node part ++ bytes) end end shown.replay.world (here ∙ sym same) (sym taken) refl;
    }
