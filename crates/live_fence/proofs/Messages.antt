-- What is shown of messages.
use Rattle.std.proofs.Common.{◌≡◌, ◌==◌, ◌<◌, ◌^◌, ℕ, Bool, true, false, refl, sym, ap, ◌∙◌, List, [], ◌∷◌, ◌++◌}
use Rattle.std.proofs.Common.{append-nil, arith}
use Rattle.std.specs.Prelude.{Option, Some, None, codes, decimal, is_some, find, if◌then◌else◌, map, filter}
use Rattle.std.specs.List.{AllByRecursion, list_any}
use Rattle.std.proofs.lemmas.Fmt.{decimal_digit}
use Rattle.std.proofs.lemmas.List.{map-append}
use Rattle.std.proofs.lemmas.List.Elements.{filter-append}
use Rattle.byte_text.specs.ByteOrder.{same_refl, same_equal}
use Rattle.byte_text.specs.Names.{Bytes, same}
use Rattle.byte_text.specs.Lines.{line}
use Rattle.byte_text.specs.Replies.{frame_text, array, bulk}
use Rattle.byte_text.specs.declared.replies.Piece.TheVariants as piece
use Rattle.world_data.specs.Worlds.{after}
use Rattle.world_data.specs.declared.worlds.World.{World}
use Rattle.fence_model.specs.Messages.{Message, messages}
use Rattle.fence_model.specs.Writes.{Write}
use Rattle.world_model.specs.Subscriptions.{Sub}
use Rattle.world_model.specs.Halls.{Hall, Session, is_live, is_session, session_of, placed_each, message_frame, pattern_frame, holds_name, pattern_meets, frames_for}
use Rattle.delivery_model.specs.Staging.{heard, heard_of, frames_each, listens, has_room_for}
use Rattle.delivery_model.specs.Laws.{EachHears, ServedByCounts, ServedTakesAll}
use Rattle.delivery_model.specs.Placing.{each_number}
use Rattle.live_fence.specs.LiveFences.{live_name}
use Rattle.live_fence.specs.Parts.{behind, bulk_in, payload_at, payload_or, shown, own_message}
use Rattle.live_fence.specs.Laws.{IsTold, shown_message, shown_for, MessagesAreShown, messages_along, payloads_of, is_cut}
use Rattle.live_fence.specs.Laws.{PayloadsAreMessages, PayloadsArePlaced}
use Rattle.live_fence.proofs.Replies.{Differ, own_found, others_none}

-- a frame for a pattern has four parts
pattern_none : (session : ℕ) (pattern : Bytes) (m : Message) → payload_at session (pattern_frame pattern m) ≡ None
pattern_none session pattern m =
    let head : Bytes = frame_text (piece.Bulk (codes "message") ∷ piece.Bulk (live_name session) ∷ []) in
    let rest : Bytes = frame_text (piece.Bulk (codes "pmessage") ∷ piece.Bulk pattern ∷ piece.Bulk m.0 ∷ piece.Bulk m.1 ∷ []) in
    ap (λ (three : Bytes). bulk_in (behind (line 42 three ++ head) (line 42 (decimal 4) ++ rest))) (decimal_digit 3 (omega arith))
    ∙ ap (λ (four : Bytes). bulk_in (behind (line 42 (51 ∷ []) ++ head) (line 42 four ++ rest))) (decimal_digit 4 (omega arith))

patterns_whole : (session : ℕ) (m : Message) (subs : List Sub)
    → map (shown session) (map (λ s. pattern_frame s.word m) subs) ≡ map (λ s. pattern_frame s.word m) subs
patterns_whole session m [] = refl
patterns_whole session m (s ∷ subs) =
    let frame = pattern_frame s.word m in
    ap (λ (f : Bytes). f ∷ map (shown session) (map (λ t. pattern_frame t.word m) subs)) (ap (payload_or frame) (pattern_none session s.word m))
    ∙ ap (λ (fs : List Bytes). frame ∷ fs) (patterns_whole session m subs)

none_kept : (session : ℕ) (m : Message) (subs : List Sub) → filter (is_cut session) (map (λ s. pattern_frame s.word m) subs) ≡ []
none_kept session m [] = refl
none_kept session m (s ∷ subs) =
    let frame = pattern_frame s.word m in
    let rest = filter (is_cut session) (map (λ t. pattern_frame t.word m) subs) in
    ap (λ (o : Option Bytes). if is_some o then frame ∷ rest else rest) (pattern_none session s.word m) ∙ none_kept session m subs

-- lists one behind another

payloads_append : (name : Bytes) (ms ns : List Message) → payloads_of name (ms ++ ns) ≡ payloads_of name ms ++ payloads_of name ns
payloads_append name [] ns = refl
payloads_append name (m ∷ ms) ns = one (same m.0 name) (payloads_append name ms ns)
  where
    one : (b : Bool) → payloads_of name (ms ++ ns) ≡ payloads_of name ms ++ payloads_of name ns
        → map (λ k. k.1) (if b then m ∷ filter (λ k. same k.0 name) (ms ++ ns) else filter (λ k. same k.0 name) (ms ++ ns))
        ≡ map (λ k. k.1) (if b then m ∷ filter (λ k. same k.0 name) ms else filter (λ k. same k.0 name) ms) ++ payloads_of name ns
    one true e = ap (λ (l : List Bytes). m.1 ∷ l) e
    one false e = e

all_left : {A : Type 0} (P : A → Type 0) (xs ys : List A) → AllByRecursion P (xs ++ ys) → AllByRecursion P xs
all_left P [] ys all = tt
all_left P (x ∷ xs) ys all = (all.0, all_left P xs ys all.1)

all_right : {A : Type 0} (P : A → Type 0) (xs ys : List A) → AllByRecursion P (xs ++ ys) → AllByRecursion P ys
all_right P [] ys all = all
all_right P (x ∷ xs) ys all = all_right P xs ys all.1

-- messages

module _ (differ : Differ) (session : ℕ) (small : session < 2 ^ 32) where
  abbrev name : Bytes
  name = live_name session

  other_none : (m : Message) → IsTold m → same m.0 name ≡ false → payload_at session (message_frame m) ≡ None
  other_none m told other =
      let reply = array (bulk (codes "message") ∷ bulk m.0 ∷ bulk m.1 ∷ []) in
      others_none differ session reply small (record { whole = tt; clean = (tt, (tt, (tt, (tt, tt)))) })
      (omega arith, (omega arith, (told.name, (told.payload, tt))))
      (λ payload e. absurd (cc (sym other ∙ ap (λ (n : Bytes). same n name) (named m payload e) ∙ same_refl name)))
    where
      named : (m : Message) (payload : Bytes) → array (bulk (codes "message") ∷ bulk m.0 ∷ bulk m.1 ∷ []) ≡ own_message session payload → m.0 ≡ name
      named m payload e = cc e

  own_some : (m : Message) → IsTold m → same m.0 name ≡ true → payload_at session (message_frame m) ≡ Some (frame_text (bulk m.1))
  own_some m told own =
      ap (λ (n : Bytes). payload_at session (message_frame (n, m.1))) (same_equal m.0 name own) ∙ own_found session m.1 told.payload

  one_shown : (m : Message) → IsTold m → shown session (message_frame m) ≡ shown_message session m
  one_shown m told = by (same m.0 name) refl
    where
      by : (b : Bool) → same m.0 name ≡ b → payload_or (message_frame m) (payload_at session (message_frame m))
          ≡ (if b then frame_text (bulk m.1) else message_frame m)
      by true e = ap (payload_or (message_frame m)) (own_some m told e)
      by false e = ap (payload_or (message_frame m)) (other_none m told e)

  pub shown_is : (m : Message) (subs : List Sub) → IsTold m → map (shown session) (frames_for m subs) ≡ shown_for session m subs
  shown_is m subs told =
      map-append (shown session) (if list_any (holds_name m.0) subs then message_frame m ∷ [] else [])
      (map (λ s. pattern_frame s.word m) (filter (pattern_meets m.0) subs))
      ∙ ap (λ (fs : List Bytes). map (shown session) (if list_any (holds_name m.0) subs then message_frame m ∷ [] else []) ++ fs)
      (patterns_whole session m (filter (pattern_meets m.0) subs))
      ∙ ap (λ (fs : List Bytes). fs ++ map (λ s. pattern_frame s.word m) (filter (pattern_meets m.0) subs)) (by (list_any (holds_name m.0) subs))
    where
      by : (b : Bool) → map (shown session) (if b then message_frame m ∷ [] else []) ≡ (if b then shown_message session m ∷ [] else [])
      by true = ap (λ (f : Bytes). f ∷ []) (one_shown m told)
      by false = refl

  module _ (subs : List Sub) (holds : list_any (holds_name name) subs ≡ true) where
    abbrev cut_of : List Bytes → List Bytes
    cut_of fs = map (shown session) (filter (is_cut session) fs)

    abbrev bulks : List Bytes → List Bytes
    bulks ps = map (λ p. frame_text (bulk p)) ps

    cut_append : (fs gs : List Bytes) → cut_of (fs ++ gs) ≡ cut_of fs ++ cut_of gs
    cut_append fs gs = ap (map (shown session)) (filter-append (is_cut session) fs gs)
        ∙ map-append (shown session) (filter (is_cut session) fs) (filter (is_cut session) gs)

    -- the frame for the channel's name
    own_frames : (m : Message) → IsTold m → cut_of (if list_any (holds_name m.0) subs then message_frame m ∷ [] else []) ≡ bulks (payloads_of name (m ∷ []))
    own_frames m told = by (same m.0 name) (list_any (holds_name m.0) subs) refl refl
      where
        frame : Bytes
        frame = message_frame m

        by : (b h : Bool) → same m.0 name ≡ b → list_any (holds_name m.0) subs ≡ h
            → cut_of (if h then message_frame m ∷ [] else [])
            ≡ bulks (map (λ k. k.1) (if b then m ∷ [] else []))
        by true true e f =
            let found = own_some m told e in
            ap (λ (o : Option Bytes). map (shown session) (if is_some o then message_frame m ∷ [] else [])) found
            ∙ ap (λ (o : Option Bytes). payload_or (message_frame m) o ∷ []) found
        by true false e f = absurd (cc (sym f ∙ ap (λ (n : Bytes). list_any (holds_name n) subs) (same_equal m.0 name e) ∙ holds))
        by false true e f = ap (λ (o : Option Bytes). map (shown session) (if is_some o then message_frame m ∷ [] else [])) (other_none m told e)
        by false false e f = refl

    of_message : (m : Message) → IsTold m → cut_of (frames_for m subs) ≡ bulks (payloads_of name (m ∷ []))
    of_message m told =
        let named = if list_any (holds_name m.0) subs then message_frame m ∷ [] else [] in
        let patterns = map (λ s. pattern_frame s.word m) (filter (pattern_meets m.0) subs) in
        cut_append named patterns
        ∙ ap (λ (fs : List Bytes). cut_of named ++ map (shown session) fs) (none_kept session m (filter (pattern_meets m.0) subs))
        ∙ append-nil (cut_of named)
        ∙ own_frames m told

    of_messages : (ms : List Message) → AllByRecursion IsTold ms → cut_of (frames_each ms subs) ≡ bulks (payloads_of name ms)
    of_messages [] all = refl
    of_messages (m ∷ ms) all =
        cut_append (frames_for m subs) (frames_each ms subs)
        ∙ ap (λ (fs : List Bytes). fs ++ cut_of (frames_each ms subs)) (of_message m all.0)
        ∙ ap (λ (fs : List Bytes). bulks (payloads_of name (m ∷ [])) ++ fs) (of_messages ms all.1)
        ∙ sym (map-append (λ p. frame_text (bulk p)) (payloads_of name (m ∷ [])) (payloads_of name ms))
        ∙ ap bulks (sym (payloads_append name (m ∷ []) ms))

    pub of_writes : (w : World) (writes : List Write) → AllByRecursion IsTold (messages_along w writes)
        → cut_of (heard w writes subs) ≡ bulks (payloads_of name (messages_along w writes))
    of_writes w [] all = refl
    of_writes w (d ∷ writes) all =
        let next = after w d.change in
        let first = all_left IsTold (messages w d) (messages_along next writes) all in
        let rest = all_right IsTold (messages w d) (messages_along next writes) all in
        cut_append (heard_of w d subs) (heard next writes subs)
        ∙ ap (λ (fs : List Bytes). fs ++ cut_of (heard next writes subs)) (of_messages (messages w d) first)
        ∙ ap (λ (fs : List Bytes). bulks (payloads_of name (messages w d)) ++ fs) (of_writes next writes rest)
        ∙ sym (map-append (λ p. frame_text (bulk p)) (payloads_of name (messages w d)) (payloads_of name (messages_along next writes)))
        ∙ ap bulks (sym (payloads_append name (messages w d) (messages_along next writes)))

module _ (differ : Differ) where
  pub messages_shown : MessagesAreShown
  messages_shown session m subs small told = shown_is differ session small m subs told

  pub payloads_are : PayloadsAreMessages
  payloads_are session w writes subs small told holds = of_writes differ session small subs holds w writes told

-- on the queue of a session

module _ (n : ℕ) (f : Session → Session) (keeps : (s : Session) → (f s).number ≡ s.number) where
  changed_found : (ss : List Session) (s : Session) → find (is_session n) ss ≡ Some s → find (is_session n) (map f ss) ≡ Some (f s)
  changed_found [] s e = absurd (cc e)
  changed_found (u ∷ ss) s e = one (is_session n u) (ap (λ (k : ℕ). k == n) (keeps u)) e (changed_found ss s)
    where
      one : (b : Bool) → is_session n (f u) ≡ b → (if b then Some u else find (is_session n) ss) ≡ Some s
          → (find (is_session n) ss ≡ Some s → find (is_session n) (map f ss) ≡ Some (f s))
          → (if is_session n (f u) then Some (f u) else find (is_session n) (map f ss)) ≡ Some (f s)
      one true own is rest = let same : u ≡ s = cc is in rw own (ap (λ (v : Session). Some (f v)) same)
      one false own is rest = rw own (rest is)

module _ (differ : Differ) (each : EachHears) (counts : ServedByCounts) (all : ServedTakesAll) where
  pub payloads_placed : PayloadsArePlaced
  payloads_placed h writes n s t own found now live served small told holds =
      let hears : Session → Session = λ u. placed_each u (heard h.world writes (listens u)) in
      let frames = heard h.world writes s.subs in
      let mine : hears s ≡ placed_each s frames = ap (λ (b : Bool). placed_each s (heard h.world writes (if b then s.subs else []))) live in
      let is : Some t ≡ Some (placed_each s frames) =
      sym now ∙ ap (λ (k : Hall). session_of k n) (each h writes own)
      ∙ changed_found n hears (λ u. each_number u (heard h.world writes (listens u))) h.sessions s found ∙ ap Some mine in
      let taken : t ≡ placed_each s frames = cc is in
      let room : has_room_for s frames ≡ true = sym (counts s frames live) ∙ ap is_live (sym taken) ∙ served in
      (frames, taken ∙ all s frames live room, of_writes differ n small s.subs holds h.world writes told)
