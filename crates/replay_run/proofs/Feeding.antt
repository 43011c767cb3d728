-- Bytes that are fed to a reader, request by request.
use Rattle.std.proofs.Common.{◌≡◌, inl, inr, ℕ, ◌+◌, ◌<◌, ◌≤◌, ◌-◌, refl, sym, ap, ◌∙◌, subst, List, [], ◌∷◌, ◌++◌, length, true, take, drop, append_assoc, length-append, length-drop, arith}
use Rattle.std.specs.Prelude.{Some, None, map}
use Rattle.std.proofs.lemmas.List.{take_all}
use Rattle.byte_text.specs.Names.{Bytes}
use Rattle.byte_text.specs.Requests.{IsRequest, request_text}
use Rattle.byte_text.specs.Streams.{Stream, found, begun, broken, request, stream_of, with_first, only_rest, only_fault}
use Rattle.byte_text.specs.declared.faults.RespFault.{RespFault}
use Rattle.resp_frames.specs.declared.faults.FeedFault.{FeedFault}
use Rattle.resp_frames.specs.declared.faults.FeedFault.TheVariants as feed
use Rattle.resp_frames.specs.RequestReader.{Held, IsFed, IsNotFed}
use Rattle.world_model.specs.Outcomes.{is_proper}
use Rattle.world_model.specs.Halls.{Hall}
use Rattle.world_model.specs.declared.events.Asked.TheVariants.{Words, Broken}
use Rattle.world_model.specs.declared.events.Event.{Event}
use Rattle.world_model.specs.declared.events.Event.TheVariants as event
use Rattle.replay_run.specs.declared.halts.Halt.{Halt}
use Rattle.replay_run.specs.declared.halts.Halt.TheVariants as halted
use Rattle.replay_run.specs.Readers.{Unread, unread_of, asked_by}
use Rattle.replay_run.specs.Traces.{Deed, Trace, no_trace, joined}
use Rattle.replay_run.specs.Scripts.{Makes, MakesEach, Calls, FedTo}
use Rattle.replay_run.specs.Undone.{Fails, WantsMemory, FailsEach, FedFails}
use Rattle.replay_run.specs.Steps.{IsBrokenOff, BreakingFails, IsFirst, IsStep}
use Rattle.replay_run.proofs.Traces.{joined_assoc, joined_nothing}

-- what is said of a stream by its front
pub record Laws : Type 0 where
  pub found_first : (bytes behind : Bytes) (words : List Bytes) → request bytes ≡ found words behind → stream_of bytes ≡ with_first words (stream_of behind)
  pub begun_rest : (bytes : Bytes) → request bytes ≡ begun → stream_of bytes ≡ only_rest bytes
  pub broken_fault : (bytes : Bytes) (fault : RespFault) → request bytes ≡ broken fault → stream_of bytes ≡ only_fault fault
  pub found_text : (bytes behind : Bytes) (words : List Bytes) → request bytes ≡ found words behind → IsRequest words × (bytes ≡ request_text words ++ behind)

some_text : (words : List Bytes) → 0 < length (request_text words)
some_text words = omega arith

module _ (laws : Laws) (h next : Hall) (n m : ℕ) where
  -- a request was read, and its call was made
  pub first_step : (old new : Held) (bytes : Bytes) (t : Trace) (taken : ℕ) (words : List Bytes) → IsFed old new bytes taken (Some words) → Makes h (event.Call n m (Words words)) t next → IsStep h n m old bytes t next new (Some taken)
  first_step None new bytes t taken words fed made = absurd fed
  first_step (Some held) new bytes t taken words fed made =
      let text = laws.found_text (held ++ bytes) (drop taken bytes) words fed.0 in
      let long : length held + length bytes ≡ length (request_text words) + length (drop taken bytes) = sym (length-append held bytes) ∙ ap length text.1 ∙ length-append (request_text words) (drop taken bytes) in
      let some : 0 < length (request_text words) = some_text words in
      record {
        words = words;
        first = laws.found_first (held ++ bytes) (drop taken bytes) words fed.0;
        made = made;
        read = fed.2;
        within = fed.1;
        less = omega (arith, long, some);
      }

  -- no request ends in the bytes, and they begin one
  pub rest_step : (old new : Held) (bytes : Bytes) (taken : ℕ) → IsFed old new bytes taken None → FedTo h n m old bytes no_trace h new
  rest_step None new bytes taken fed = absurd fed
  rest_step (Some held) new bytes taken fed =
      let is = laws.begun_rest (held ++ bytes) fed.0 in
      (subst (λ (s : Stream). Calls h n m s no_trace h) (sym is) (refl, refl), fed.2 ∙ ap (λ (s : Stream). unread_of s.ending) (sym is))

  broken_step : (held new bytes : Bytes) (t : Trace) (fault : RespFault) (left : Unread) → request (held ++ bytes) ≡ broken fault → left ≡ None → Makes h (event.Call n m (Broken fault)) t next → FedTo h n m (Some held) bytes t next left
  broken_step held new bytes t fault left e is made =
      let s = laws.broken_fault (held ++ bytes) fault e in
      let one : Calls h n m (only_fault fault) t next = (next, t, no_trace, made, (refl, refl), sym (joined_nothing t)) in
      (subst (λ (z : Stream). Calls h n m z t next) (sym s) one, is ∙ ap (λ (z : Stream). unread_of z.ending) (sym s))

  -- the bytes are refused
  pub last_step : (old new : Held) (bytes : Bytes) (t : Trace) (fault : FeedFault) → IsNotFed old new bytes fault → IsBrokenOff h n m fault t next → FedTo h n m old bytes t next new
  last_step None new bytes t fault fed off =
      let is = subst (λ (f : FeedFault). IsBrokenOff h n m f t next) fed.0 off in
      (is.0, is.1, fed.1)
  last_step (Some held) new bytes t (feed.Broken fault) fed off = broken_step held [] bytes t fault new fed.0 fed.1 off
  last_step (Some held) new bytes t feed.Dead fed off = absurd fed
  last_step (Some held) new bytes t feed.Memory fed off = absurd off

-- where memory wants no event is made, whatever they are
wants_each : (halt : Halt) (h last : Hall) (events : List Event) (deeds : List Deed) → WantsMemory halt h deeds last → FailsEach halt h events deeds last
wants_each halt h last [] deeds w = w
wants_each halt h last (e ∷ events) deeds w = inl (subst (λ (z : Halt). Fails z h e deeds last) (sym w.0) (inl (w.1, w.2)))

-- no more of the bytes is read
pub wants_fed : (halt : Halt) (h last : Hall) (n m : ℕ) (unread : Unread) (bytes : Bytes) (deeds : List Deed) → WantsMemory halt h deeds last → FedFails halt h n m unread bytes deeds last
wants_fed halt h last n m None bytes deeds w = w
wants_fed halt h last n m (Some rest) bytes deeds w = wants_each halt h last (map (event.Call n m) (asked_by (stream_of (rest ++ bytes)))) deeds w

-- all events were made, and then memory wanted
made_each : (h last : Hall) (events : List Event) (t : Trace) → MakesEach h events t last → FailsEach halted.Memory h events t.deeds last
made_each h last [] t made = (refl, ap (λ (z : Trace). z.deeds) made.0, made.1)
made_each h last (e ∷ events) t made = inr (made.0, made.1, made.2.deeds, made.3, made_each made.0 last events made.2 made.4, ap (λ (z : Trace). z.deeds) made.5)

pub made_fed : (h last : Hall) (n m : ℕ) (unread left : Unread) (bytes : Bytes) (t : Trace) → FedTo h n m unread bytes t last left → FedFails halted.Memory h n m unread bytes t.deeds last
made_fed h last n m None left bytes t fed = (refl, ap (λ (z : Trace). z.deeds) fed.0, fed.1)
made_fed h last n m (Some rest) left bytes t fed = made_each h last (map (event.Call n m) (asked_by (stream_of (rest ++ bytes)))) t fed.0

module _ (laws : Laws) (halt : Halt) (h last : Hall) (n m : ℕ) (deeds : List Deed) where
  -- a request was read, and its call ends the script
  pub first_fails : (old new : Held) (bytes : Bytes) (taken : ℕ) (words : List Bytes) → IsFed old new bytes taken (Some words) → Fails halt h (event.Call n m (Words words)) deeds last → FedFails halt h n m old bytes deeds last
  first_fails None new bytes taken words fed f = absurd fed
  first_fails (Some held) new bytes taken words fed f =
      let is = laws.found_first (held ++ bytes) (drop taken bytes) words fed.0 in
      subst (λ (z : Stream). FailsEach halt h (map (event.Call n m) (asked_by z)) deeds last) (sym is) (inl f)

  -- so does the call of the bytes' fault
  pub last_fails : (old new : Held) (bytes : Bytes) (fault : FeedFault) → IsNotFed old new bytes fault → BreakingFails halt h n m fault deeds last → FedFails halt h n m old bytes deeds last
  last_fails None new bytes fault fed f = subst (λ (z : FeedFault). BreakingFails halt h n m z deeds last) fed.0 f
  last_fails (Some held) new bytes (feed.Broken fault) fed f =
      let is = laws.broken_fault (held ++ bytes) fault fed.0 in
      subst (λ (z : Stream). FailsEach halt h (map (event.Call n m) (asked_by z)) deeds last) (sym is) (inl f)
  last_fails (Some held) new bytes feed.Dead fed f = absurd fed
  last_fails (Some held) new bytes feed.Memory fed f = wants_fed halt h last n m (Some held) bytes deeds f

-- a request that was read is proper
pub proper_words : (old new : Held) (bytes : Bytes) (taken : ℕ) (words : List Bytes) → IsFed old new bytes taken (Some words) → is_proper (Words words) ≡ true
proper_words None new bytes taken words fed = absurd fed
proper_words (Some held) new bytes taken words fed = some_words words fed.3.some
  where
    some_words : (ws : List Bytes) → 0 < length ws → is_proper (Words ws) ≡ true
    some_words [] h = absurd (omega (arith, h))
    some_words (w ∷ ws) h = refl

-- the first call, and then those of the other bytes
fed_first : (h mid last : Hall) (n m : ℕ) (rest bytes : Bytes) (t more : Trace) (left unread : Unread) (taken : ℕ) → IsFirst h n m rest bytes t mid left taken → FedTo mid n m left (drop taken bytes) more last unread → FedTo h n m (Some rest) bytes (joined t more) last unread
fed_first h mid last n m rest bytes t more left unread taken f g =
    let others : FedTo mid n m (Some []) (drop taken bytes) more last unread = subst (λ (u : Unread). FedTo mid n m u (drop taken bytes) more last unread) f.read g in
    let all : Calls h n m (with_first f.words (stream_of (drop taken bytes))) (joined t more) last = (mid, t, more, f.made, others.0, refl) in
    (subst (λ (s : Stream). Calls h n m s (joined t more) last) (sym f.first) all, others.1 ∙ ap (λ (s : Stream). unread_of s.ending) (sym f.first))

-- the first call, and then one that ends the script
fails_behind : (halt : Halt) (h mid last : Hall) (n m : ℕ) (rest bytes : Bytes) (t : Trace) (behind : List Deed) (left : Unread) (taken : ℕ) → IsFirst h n m rest bytes t mid left taken → FedFails halt mid n m left (drop taken bytes) behind last → FedFails halt h n m (Some rest) bytes (t.deeds ++ behind) last
fails_behind halt h mid last n m rest bytes t behind left taken f g =
    let others : FedFails halt mid n m (Some []) (drop taken bytes) behind last = subst (λ (u : Unread). FedFails halt mid n m u (drop taken bytes) behind last) f.read g in
    subst (λ (z : Stream). FailsEach halt h (map (event.Call n m) (asked_by z)) (t.deeds ++ behind) last) (sym f.first) (inr (mid, t, behind, f.made, others, refl))

-- what was fed, and what is left of the bytes: what comes of those is, behind what was made, what comes of all
pub record Goes (old : Hall) (n m : ℕ) (unread : Unread) (bytes : Bytes) (h : Hall) (left : Unread) (rest : Bytes) (t : Trace) : Type 0 where
  pub goes : (more : Trace) (next : Hall) (last : Unread) → FedTo h n m left rest more next last → FedTo old n m unread bytes (joined t more) next last
  pub fails : (halt : Halt) (behind : List Deed) (last : Hall) → FedFails halt h n m left rest behind last → FedFails halt old n m unread bytes (t.deeds ++ behind) last

pub goes_start : (old : Hall) (n m : ℕ) (unread : Unread) (bytes : Bytes) → Goes old n m unread bytes old unread bytes no_trace
goes_start old n m unread bytes = record { goes = λ more next last f. f; fails = λ halt behind last f. f }

pub goes_more : (old : Hall) (n m : ℕ) (unread : Unread) (bytes : Bytes) (h mid : Hall) (left new : Unread) (rest : Bytes) (t u : Trace) (taken : ℕ)
    → Goes old n m unread bytes h left rest t → IsStep h n m left rest u mid new (Some taken) → Goes old n m unread bytes mid new (drop taken rest) (joined t u)
goes_more old n m unread bytes h mid None new rest t u taken g s = absurd s
goes_more old n m unread bytes h mid (Some held) new rest t u taken g s = record {
  goes = λ more next last f. subst (λ (z : Trace). FedTo old n m unread bytes z next last) (sym (joined_assoc t u more)) (g.goes (joined u more) next last (fed_first h mid next n m held rest u more new last taken s f));
  fails = λ halt behind last f. subst (λ (z : List Deed). FedFails halt old n m unread bytes z last) (sym (append_assoc t.deeds u.deeds behind)) (g.fails halt (u.deeds ++ behind) last (fails_behind halt h mid last n m held rest u behind new taken s f));
}

-- the bytes that are left are a piece of those before
pub goes_piece : (old : Hall) (n m : ℕ) (unread : Unread) (bytes : Bytes) (h mid : Hall) (left new : Unread) (rest : Bytes) (t u : Trace) (taken : ℕ)
    → Goes old n m unread bytes h left rest t → IsStep h n m left rest u mid new (Some taken) → Goes old n m unread bytes mid new (take (length rest - taken) (drop taken rest)) (joined t u)
goes_piece old n m unread bytes h mid left new rest t u taken g s =
    let all : take (length rest - taken) (drop taken rest) ≡ drop taken rest = take_all (length rest - taken) (drop taken rest) (omega (arith, length-drop taken rest)) in
    subst (λ (z : Bytes). Goes old n m unread bytes mid new z (joined t u)) (sym all) (goes_more old n m unread bytes h mid left new rest t u taken g s)

-- the bytes that are still to be gone over
abbrev pub left_of : Unread → Bytes → ℕ
left_of None bytes = length bytes
left_of (Some rest) bytes = length rest + length bytes

pub less_left : (h mid : Hall) (n m : ℕ) (left new : Unread) (rest : Bytes) (t : Trace) (taken : ℕ) → IsStep h n m left rest t mid new (Some taken) → left_of new (drop taken rest) < left_of left rest
less_left h mid n m None new rest t taken s = absurd s
less_left h mid n m (Some held) new rest t taken s =
    let less : length (drop taken rest) < length held + length rest = s.less in
    let as_little : left_of (Some []) (drop taken rest) < length held + length rest = omega (arith, less) in
    subst (λ (u : Unread). left_of u (drop taken rest) < length held + length rest) (sym s.read) as_little

pub within_step : (h mid : Hall) (n m : ℕ) (left new : Unread) (rest : Bytes) (t : Trace) (taken : ℕ) → IsStep h n m left rest t mid new (Some taken) → taken ≤ length rest
within_step h mid n m None new rest t taken s = absurd s
within_step h mid n m (Some held) new rest t taken s = s.within
