-- What each step of a follower keeps of what was read and written so far.
use Rattle.std.proofs.Common.{◌≡◌, ◌≤◌, ◌∙◌, ℕ, List, [], ◌∷◌, ◌++◌, map, take, drop, refl, sym, ap, subst, arith, append_assoc, inl, inr}
use Rattle.std.proofs.Common.{take-append-drop}
use Rattle.std.specs.Prelude.{Option, Some, None, Result, Ok, Err}
use Rattle.std.proofs.lemmas.List.{append-nil}
use Rattle.std.proofs.lemmas.Grind.{flat_map-append}
use Rattle.std.specs.Io.KnownBytes.{Appends, Consumes}
use mathlib.Core.List.{IsPrefix}
use Rattle.outside.specs.CauseLaws.{rose_later}
use Rattle.outside.specs.Links.{LinkState, Reads, Writes}
use Rattle.outside.specs.Writing.{appends_more, appends_nothing}
use Rattle.outside.specs.declared.links.Got.{Got}
use Rattle.outside.specs.declared.links.Got.TheVariants as got
use Rattle.outside.specs.declared.links.Sent.{Sent}
use Rattle.outside.specs.declared.links.Sent.TheVariants as sent
use Rattle.byte_text.specs.Names.{Bytes}
use Rattle.byte_text.specs.Streams.{begun, request}
use Rattle.repl_stream.specs.Texts.{ask_text, part_text}
use Rattle.repl_node.specs.Deliveries.{Delivery, Hears, HearsAll}
use Rattle.repl_node.specs.FollowedSoFar.{Adopts, FollowedSoFar, Stands, TakesTurns, Turn, all_asks_text, asks_text, parts_text, shown_now}
use Rattle.repl_node.specs.Followers.{Asks, AsksAgain, Comes, FollowerState, Receives, IsAnswer, IsBad, Opens, WantsToRead, WantsToWrite}
use Rattle.repl_node.specs.Followers.{WritesOut}
use Rattle.repl_node.specs.Following.{Followed, next_ask}
use Rattle.repl_node.specs.declared.nodes.Heard.TheVariants as heard
use Rattle.repl_node.specs.declared.phases.FollowEnd.{FollowEnd}
use Rattle.repl_node.specs.declared.phases.FollowEnd.TheVariants.{Over, BadPart, ReadFault, WriteFault, Memory}
use Rattle.repl_node.specs.declared.phases.Phase.{Phase}
use Rattle.repl_node.specs.declared.phases.Phase.TheVariants.{Asking, Published, Ended}

-- ---- turns

adopted : (old : Followed) (d : Delivery) (new : Followed) (others shown : List Followed) → Adopts old d new others shown → Hears old d new
adopted old d new others shown (is, inl (more, same)) = inl (heard.More, more)
adopted old d new others shown (is, inr (last, one)) = inl (heard.Published, last)

hears_all : (old : Followed) (turns : List Turn) (shown : List Followed) (new : Followed) → TakesTurns old turns shown new
    → HearsAll old (map (λ t. t.answer) turns) new
hears_all old [] shown new (e, none) = e
hears_all old (t ∷ turns) shown new (asks, next, others, adopts, later) =
    (next, adopted old t.answer next others shown adopts, hears_all next turns others new later)

-- the same, with more nodes behind those
adopts_more : (old : Followed) (d : Delivery) (new : Followed) (others shown more : List Followed) → Adopts old d new others shown
    → Adopts old d new (others ++ more) (shown ++ more)
adopts_more old d new others shown more (is, inl (goes, same)) = (is, inl (goes, ap (λ (l : List Followed). l ++ more) same))
adopts_more old d new others shown more (is, inr (last, one)) = (is, inr (last, ap (λ (l : List Followed). l ++ more) one))

turns_more : (old : Followed) (turns : List Turn) (shown more : List Followed) (mid new : Followed) (t : Turn) → TakesTurns old turns shown mid
    → t.ask ≡ next_ask mid → Adopts mid t.answer new [] more → TakesTurns old (turns ++ t ∷ []) (shown ++ more) new
turns_more old [] shown more mid new t (e, none) asks adopts =
    subst (λ (l : List Followed). TakesTurns old (t ∷ []) (l ++ more) new) (sym none)
    (subst (λ (n : Followed). TakesTurns n (t ∷ []) more new) e (asks, new, [], adopts, (refl, refl)))
turns_more old (u ∷ turns) shown more mid new t (first, next, others, adoption, later) asks adopts =
    (first, next, others ++ more, adopts_more old u.answer next others shown more adoption, turns_more next turns others more mid new t later asks adopts)

asks_more : (turns : List Turn) (t : Turn) → asks_text (turns ++ t ∷ []) ≡ asks_text turns ++ ask_text t.ask
asks_more turns t = flat_map-append (λ (u : Turn). ask_text u.ask) turns (t ∷ [])
    ∙ ap (λ (l : Bytes). asks_text turns ++ l) (append-nil (ask_text t.ask))

parts_more : (turns : List Turn) (t : Turn) → parts_text (turns ++ t ∷ []) ≡ parts_text turns ++ part_text t.answer.part t.answer.bytes
parts_more turns t = flat_map-append (λ (u : Turn). part_text u.answer.part u.answer.bytes) turns (t ∷ [])
    ∙ ap (λ (l : Bytes). parts_text turns ++ l) (append-nil (part_text t.answer.part t.answer.bytes))

-- ---- bytes

consumes_none : (left : Option Bytes) → Consumes left left []
consumes_none None = tt
consumes_none (Some xs) = refl

consumes_more : (a b c : Option Bytes) (x y : Bytes) → Consumes a b x → Consumes b c y → Consumes a c (x ++ y)
consumes_more None b c x y p q = tt
consumes_more (Some s) None c x y p q = absurd p
consumes_more (Some s) (Some t) None x y p q = absurd q
consumes_more (Some s) (Some t) (Some u) x y p q = p ∙ ap (λ (l : Bytes). x ++ l) q ∙ sym (append_assoc x y u)

held_of : {a b : LinkState} → a ≡ b → a.held ≡ b.held
held_of e = ap (λ (l : LinkState). l.held) e

left_of : {a b : LinkState} → a ≡ b → a.left ≡ b.left
left_of e = ap (λ (l : LinkState). l.left) e

no_less : {a b : LinkState} → a ≡ b → b.faults ≤ a.faults
no_less e = let f = ap (λ (l : LinkState). l.faults) e in omega (arith, f)

prefix_self : (bytes : Bytes) → IsPrefix bytes bytes
prefix_self bytes = ([], append-nil bytes)

nothing_begins : request [] ≡ begun
unfolding request
nothing_begins = refl

abbrev state : LinkState → Followed → Bytes → Bytes → Phase → FollowerState
state line node held out phase = record { line = line; node = node; held = held; out = out; phase = phase }

so_far_at : {first : Followed} {came : LinkState} {before : List Followed} {a b : FollowerState} → b ≡ a → FollowedSoFar first came before a
    → FollowedSoFar first came before b
so_far_at {first} {came} {before} e s = subst (λ (f : FollowerState). FollowedSoFar first came before f) (sym e) s

-- nothing more is shown while it asks, or where it has ended
quiet : (first : Followed) (turns : List Turn) (before : List Followed) (node : Followed) → TakesTurns first turns before node
    → TakesTurns first turns (before ++ []) node
quiet first turns before node takes = subst (λ (l : List Followed). TakesTurns first turns l node) (sym (append-nil before)) takes

-- ---- the first step

opened : (line : LinkState) (node : Followed) (out : Bytes) (phase : Phase) → Asks node out phase
    → FollowedSoFar node line [] (state line node [] out phase)
opened line node out phase asks = record {
  turns = [];
  takes = (refl, none asks);
  hears = refl;
  read = [];
  rest = [];
  consumed = consumes_none line.left;
  read_is = refl;
  sent = [];
  appended = appends_nothing line.held;
  stands = stands asks;
  later = omega arith;
}
  where
    none : Asks node out phase → shown_now phase node ≡ []
    none (inl (o, p)) = ap (λ (x : Phase). shown_now x node) p
    none (inr (o, p)) = ap (λ (x : Phase). shown_now x node) p

    stands : Asks node out phase → Stands [] line (state line node [] out phase) [] [] phase
    stands (inl (o, p)) = subst (λ (x : Phase). Stands [] line (state line node [] out phase) [] [] x) (sym p) (refl, nothing_begins, o)
    stands (inr (o, p)) = subst (λ (x : Phase). Stands [] line (state line node [] out phase) [] [] x) (sym p)
        (tt, (ask_text (next_ask node), refl))

pub kept_open : (line : LinkState) (node : Followed) (new : FollowerState) → Opens line node new → FollowedSoFar node line [] new
kept_open line node new (is, asks) = so_far_at is (opened line node new.out new.phase asks)

-- ---- the others

module _ (first : Followed) (came : LinkState) (before : List Followed) (old : FollowerState) (s : FollowedSoFar first came before old) where
  -- what stands behind the parts, and all that was asked, while it asks
  abbrev AsksOn : Type 0
  AsksOn = (old.held ≡ s.rest) × (request s.rest ≡ begun) × (s.sent ++ old.out ≡ all_asks_text s.turns old.node)

  asks_on : old.phase ≡ Asking → AsksOn
  asks_on e = subst (λ (p : Phase). Stands s.turns came old s.sent s.rest p) e s.stands

  sent_all : WantsToRead old → s.sent ≡ all_asks_text s.turns old.node
  sent_all wants = sym (append-nil s.sent) ∙ ap (λ (l : Bytes). s.sent ++ l) (sym wants.1) ∙ (asks_on wants.0).2

  -- what was taken, while it asks
  takes_on : old.phase ≡ Asking → TakesTurns first s.turns before old.node
  takes_on e = subst (λ (l : List Followed). TakesTurns first s.turns l old.node)
      (ap (λ (p : Phase). before ++ shown_now p old.node) e ∙ append-nil before) s.takes

  -- an end that brings nothing
  ended : (line : LinkState) (end : FollowEnd) → old.phase ≡ Asking → line.left ≡ old.line.left → line.held ≡ old.line.held → old.line.faults ≤ line.faults
      → Stands s.turns came (state line old.node old.held old.out (Ended end)) s.sent s.rest (Ended end)
      → FollowedSoFar first came before (state line old.node old.held old.out (Ended end))
  ended line end asking left held faults stands = record {
    turns = s.turns;
    takes = quiet first s.turns before old.node (takes_on asking);
    hears = s.hears;
    read = s.read;
    rest = s.rest;
    consumed = subst (λ (l : Option Bytes). Consumes came.left l s.read) (sym left) s.consumed;
    read_is = s.read_is;
    sent = s.sent;
    appended = subst (λ (h : Option Bytes). Appends came.held h s.sent) (sym held) s.appended;
    stands = stands;
    later = omega (arith, s.later, faults);
  }

  -- ---- bytes were read

  module _ (wants : WantsToRead old) (line : LinkState) (bytes : Bytes) (consumed : Consumes old.line.left line.left bytes)
      (held_is : line.held ≡ old.line.held) (faults : old.line.faults ≤ line.faults) where
    all_read : s.read ++ bytes ≡ parts_text s.turns ++ (old.held ++ bytes)
    all_read = ap (λ (l : Bytes). l ++ bytes) s.read_is ∙ append_assoc (parts_text s.turns) s.rest bytes
        ∙ ap (λ (l : Bytes). parts_text s.turns ++ (l ++ bytes)) (sym (asks_on wants.0).0)

    -- no part was taken
    same : (node : Followed) (held out : Bytes) (phase : Phase) → node ≡ old.node → shown_now phase node ≡ []
        → Stands s.turns came (state line node held out phase) s.sent (old.held ++ bytes) phase
        → FollowedSoFar first came before (state line node held out phase)
    same node held out phase is none stands = record {
      turns = s.turns;
      takes = subst (λ (l : List Followed). TakesTurns first s.turns (before ++ l) node) (sym none) (quiet first s.turns before node takes);
      hears = hears_all first s.turns before node takes;
      read = s.read ++ bytes;
      rest = old.held ++ bytes;
      consumed = consumes_more came.left old.line.left line.left s.read bytes s.consumed consumed;
      read_is = all_read;
      sent = s.sent;
      appended = subst (λ (h : Option Bytes). Appends came.held h s.sent) (sym held_is) s.appended;
      stands = stands;
      later = omega (arith, s.later, faults);
    }
      where
        takes : TakesTurns first s.turns before node
        takes = subst (λ (n : Followed). TakesTurns first s.turns before n) (sym is) (takes_on wants.0)

    abbrev turn : Delivery → Turn
    turn d = record { ask = next_ask old.node; answer = d }

    abbrev with_turn : Delivery → List Turn
    with_turn d = s.turns ++ turn d ∷ []

    sent_turn : (d : Delivery) → s.sent ≡ asks_text (with_turn d)
    sent_turn d = sent_all wants ∙ sym (asks_more s.turns (turn d))

    -- a part was
    took : (d : Delivery) (node : Followed) (held out : Bytes) (phase : Phase) → IsAnswer (old.held ++ bytes) d
        → Adopts old.node d node [] (shown_now phase node)
        → Stands (with_turn d) came (state line node held out phase) s.sent [] phase
        → FollowedSoFar first came before (state line node held out phase)
    took d node held out phase answer adopts stands = record {
      turns = with_turn d;
      takes = takes;
      hears = hears_all first (with_turn d) (before ++ shown_now phase node) node takes;
      read = s.read ++ bytes;
      rest = [];
      consumed = consumes_more came.left old.line.left line.left s.read bytes s.consumed consumed;
      read_is = all_read ∙ ap (λ (l : Bytes). parts_text s.turns ++ l) answer.text_is ∙ sym (parts_more s.turns (turn d))
          ∙ sym (append-nil (parts_text (with_turn d)));
      sent = s.sent;
      appended = subst (λ (h : Option Bytes). Appends came.held h s.sent) (sym held_is) s.appended;
      stands = stands;
      later = omega (arith, s.later, faults);
    }
      where
        takes : TakesTurns first (with_turn d) (before ++ shown_now phase node) node
        takes = turns_more first s.turns before (shown_now phase node) old.node node (turn d) (takes_on wants.0) refl adopts

    came_in : (node : Followed) (held out : Bytes) (phase : Phase) → Comes (old.held ++ bytes) old.node node held out phase
        → FollowedSoFar first came before (state line node held out phase)
    came_in node held out Asking (inl (begins, is, h, o)) = same node held out Asking is refl (
      h,
      begins,
      ap (λ (l : Bytes). s.sent ++ l) o ∙ append-nil s.sent ∙ sent_all wants ∙ ap (λ (n : Followed). all_asks_text s.turns n) (sym is),
    )
    came_in node held out Asking (inr (m, h, o)) = took m.answer node held out Asking m.is_answer (m.is_answer.part, inl (m.goes_on, refl)) (
      h,
      nothing_begins,
      ap (λ (l : Bytes). s.sent ++ l) o ∙ ap (λ (l : Bytes). l ++ ask_text (next_ask node)) (sent_turn m.answer),
    )
    came_in node held out Published (m, h, o) = took m.answer node held out Published m.is_answer (m.is_answer.part, inr (m.publishes, refl)) (
      h,
      refl,
      sent_turn m.answer,
      record { before = s.turns; last = turn m.answer; turns_are = refl; old = old.node; publishes = m.publishes },
    )
    came_in node held out (Ended BadPart) (bad, is) = same node held out (Ended BadPart) is refl (
      subst (λ (n : Followed). IsBad n (old.held ++ bytes)) (sym is) bad,
      sent_all wants ∙ ap (λ (n : Followed). all_asks_text s.turns n) (sym is),
    )
    came_in node held out (Ended Memory) (inl is) = same node held out (Ended Memory) is refl (
      tt,
      ([], append-nil s.sent ∙ sent_all wants ∙ ap (λ (n : Followed). all_asks_text s.turns n) (sym is)),
    )
    came_in node held out (Ended Memory) (inr m) = took m.answer node held out (Ended Memory) m.is_answer (m.is_answer.part, inl (m.goes_on, refl)) (
      tt,
      (ask_text (next_ask node), ap (λ (l : Bytes). l ++ ask_text (next_ask node)) (sent_turn m.answer)),
    )
    came_in node held out (Ended Over) c = absurd c
    came_in node held out (Ended ReadFault) c = absurd c
    came_in node held out (Ended WriteFault) c = absurd c

  pub kept_read : {E : Type 0} → (new : FollowerState) (r : Result Got E) (into : Bytes) → WantsToRead old → Reads old.line new.line r into
      → Receives old new r into → FollowedSoFar first came before new
  kept_read new (Ok (got.Bytes n)) into wants (consumed, is) comes =
      came_in wants new.line (take n into) consumed (held_of is) (no_less is) new.node new.held new.out new.phase comes
  kept_read new (Ok got.End) into wants (at_end, is) e = so_far_at e
      (ended old.line Over wants.0 refl refl (omega arith) ((at_end, (asks_on wants.0).1), sent_all wants))
  kept_read new (Ok got.Later) into wants is e = so_far_at e s
  kept_read new (Err x) into wants fails e = so_far_at e
      (ended new.line ReadFault wants.0 (left_of fails.same) (held_of fails.same) fails.later
      ((rose_later came.faults old.line.faults new.line.faults s.later fails.rose, (asks_on wants.0).1), sent_all wants))

  -- ---- bytes were written

  wrote : (line : LinkState) (n : ℕ) → old.phase ≡ Asking → Appends old.line.held line.held (take n old.out) → line.left ≡ old.line.left
      → old.line.faults ≤ line.faults → FollowedSoFar first came before (state line old.node old.held (drop n old.out) old.phase)
  wrote line n e appends left faults = record {
    turns = s.turns;
    takes = s.takes;
    hears = s.hears;
    read = s.read;
    rest = s.rest;
    consumed = subst (λ (l : Option Bytes). Consumes came.left l s.read) (sym left) s.consumed;
    read_is = s.read_is;
    sent = s.sent ++ take n old.out;
    appended = appends_more came.held old.line.held line.held s.sent (take n old.out) s.appended appends;
    stands = subst (λ (p : Phase). Stands s.turns came (state line old.node old.held (drop n old.out) old.phase) (s.sent ++ take n old.out) s.rest p)
        (sym e) (
          (asks_on e).0,
          (asks_on e).1,
          append_assoc s.sent (take n old.out) (drop n old.out) ∙ ap (λ (l : Bytes). s.sent ++ l) (take-append-drop n old.out) ∙ (asks_on e).2,
        );
    later = omega (arith, s.later, faults);
  }

  pub kept_write : {E : Type 0} → (new : FollowerState) (r : Result Sent E) → WantsToWrite old → Writes old.line new.line r old.out
      → WritesOut old new r → FollowedSoFar first came before new
  kept_write new (Ok (sent.Bytes n)) wants (appends, is) e = so_far_at e (wrote new.line n wants.0 appends (left_of is) (no_less is))
  kept_write new (Ok sent.Later) wants is e = so_far_at e s
  kept_write new (Err x) wants fails e = so_far_at e
      (ended new.line WriteFault wants.0 (left_of fails.same) (held_of fails.same) fails.later
      ((rose_later came.faults old.line.faults new.line.faults s.later fails.rose, (asks_on wants.0).1), (old.out, (asks_on wants.0).2)))

  -- ---- it asks again

  asked : (out : Bytes) (phase : Phase) → old.phase ≡ Published → Asks old.node out phase
      → FollowedSoFar first came (before ++ old.node ∷ []) (state old.line old.node old.held out phase)
  asked out phase e asks = record {
    turns = s.turns;
    takes = subst (λ (l : List Followed). TakesTurns first s.turns ((before ++ old.node ∷ []) ++ l) old.node) (sym (none asks))
        (quiet first s.turns (before ++ old.node ∷ []) old.node
        (subst (λ (p : Phase). TakesTurns first s.turns (before ++ shown_now p old.node) old.node) e s.takes));
    hears = s.hears;
    read = s.read;
    rest = s.rest;
    consumed = s.consumed;
    read_is = s.read_is;
    sent = s.sent;
    appended = s.appended;
    stands = stands asks;
    later = s.later;
  }
    where
      none : Asks old.node out phase → shown_now phase old.node ≡ []
      none (inl (o, p)) = ap (λ (x : Phase). shown_now x old.node) p
      none (inr (o, p)) = ap (λ (x : Phase). shown_now x old.node) p

      behind : Stands s.turns came old s.sent s.rest Published
      behind = subst (λ (p : Phase). Stands s.turns came old s.sent s.rest p) e s.stands

      stands : Asks old.node out phase → Stands s.turns came (state old.line old.node old.held out phase) s.sent s.rest phase
      stands (inl (o, p)) = subst (λ (x : Phase). Stands s.turns came (state old.line old.node old.held out phase) s.sent s.rest x) (sym p) (
        behind.0 ∙ sym behind.1,
        ap request behind.1 ∙ nothing_begins,
        ap (λ (l : Bytes). s.sent ++ l) o ∙ ap (λ (l : Bytes). l ++ ask_text (next_ask old.node)) behind.2,
      )
      stands (inr (o, p)) = subst (λ (x : Phase). Stands s.turns came (state old.line old.node old.held out phase) s.sent s.rest x) (sym p) (
        tt,
        (ask_text (next_ask old.node), ap (λ (l : Bytes). l ++ ask_text (next_ask old.node)) behind.2),
      )

  pub kept_ask : (new : FollowerState) → old.phase ≡ Published → AsksAgain old new
      → FollowedSoFar first came (before ++ old.node ∷ []) new
  kept_ask new e (is, asks) = so_far_at is (asked new.out new.phase e asks)
