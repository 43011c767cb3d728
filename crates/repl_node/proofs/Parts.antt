-- What a text is as a part: read as a part's words it is this part alone, and else it is none.
use Rattle.std.proofs.Common.{◌≡◌, ◌≤◌, ◌∙◌, ℕ, List, [], ◌++◌, length, drop, refl, sym, ap, subst, inl, inr}
use Rattle.std.proofs.lemmas.List.{append-nil}
use Rattle.byte_text.specs.Names.{Bytes}
use Rattle.byte_text.specs.Requests.{request_text}
use Rattle.byte_text.specs.Streams.{Front, begun, broken, found, request}
use Rattle.byte_text.specs.declared.faults.RespFault.{RespFault}
use Rattle.repl_stream.specs.Laws.{PartsAreApart, PartsAreRequests}
use Rattle.repl_stream.specs.Texts.{IsPart, IsPartOf, part_text, part_words}
use Rattle.repl_stream.specs.declared.parts.Part.{Part}
use Rattle.repl_node.specs.Deliveries.{Delivery}
use Rattle.std.specs.Prelude.{Option, None, Some, slice_get}
use Rattle.std.proofs.Common.{arith, length-drop}
use Rattle.std.proofs.lemmas.List.{drop_all}
use Rattle.resp_frames.specs.RequestReader.{Held, IsFed, IsNotFed, IsTaken, ReadTexts}
use Rattle.resp_frames.specs.declared.faults.FeedFault.{FeedFault}
use Rattle.resp_frames.specs.declared.faults.FeedFault.TheVariants.{Broken}
use Rattle.repl_node.specs.Followers.{Asks, Comes, IsAnswer, IsBad, IsNotTaken, IsReading, TakesLast, TakesMore, bytes_held}
use Rattle.repl_node.specs.Following.{Followed, IsHeard}
use Rattle.repl_node.specs.declared.nodes.Heard.{Heard}
use Rattle.repl_node.specs.declared.nodes.Heard.TheVariants.{More, Published}
use Rattle.repl_node.specs.declared.phases.Phase.{Phase}

abbrev delivered : Part → Bytes → Delivery
delivered part bytes = record { part = part; bytes = bytes }

module _ (parts : PartsAreRequests) where
  -- the text of a part is read as its words
  answer_read : (text : Bytes) (d : Delivery) → IsAnswer text d → request text ≡ found (part_words d.part d.bytes) []
  answer_read text d a = subst (λ (t : Bytes). request t ≡ found (part_words d.part d.bytes) [])
      (append-nil (part_text d.part d.bytes) ∙ sym a.text_is) (parts d.part d.bytes [] a.part).1

  -- a text that is read otherwise is none that a node takes
  bad_front : (node : Followed) (text : Bytes) (front : Front (List Bytes)) → request text ≡ front → (front ≡ begun → ⊥)
      → ((d : Delivery) → IsAnswer text d → front ≡ found (part_words d.part d.bytes) [] → IsNotTaken node d) → IsBad node text
  bad_front node text front is whole none = record {
    no_begin = λ b. whole (sym is ∙ b);
    not_taken = λ d a. none d a (sym is ∙ answer_read text d a);
  }

  pub bad_broken : (node : Followed) (text : Bytes) (fault : RespFault) → request text ≡ broken fault → IsBad node text
  bad_broken node text fault is = bad_front node text (broken fault) is (λ e. absurd (cc)) (λ d a e. absurd (cc))

  -- something stands behind the request
  pub bad_behind : (node : Followed) (text behind : Bytes) (words : List Bytes) → request text ≡ found words behind → (behind ≡ [] → ⊥)
      → IsBad node text
  bad_behind node text behind words is some = bad_front node text (found words behind) is (λ e. absurd (cc)) (λ d a e. absurd (some (cc)))

  -- a request is no part
  pub bad_words : (node : Followed) (text : Bytes) (words : List Bytes) → request text ≡ found words []
      → ((part : Part) → IsPartOf part words → ⊥) → IsBad node text
  bad_words node text words is none = bad_front node text (found words []) is (λ e. absurd (cc))
      (λ d a e. absurd (none d.part (d.bytes, a.part, (cc))))

  -- it is a part that the node does not take
  pub bad_part : PartsAreApart → (node : Followed) (part : Part) (bytes : Bytes) → IsPart part bytes
      → IsNotTaken node (delivered part bytes) → IsBad node (part_text part bytes)
  bad_part apart node part bytes is not = bad_front node (part_text part bytes) (found (part_words part bytes) [])
      (answer_read (part_text part bytes) (delivered part bytes) (record { part = is; text_is = refl })) (λ e. absurd (cc))
      (λ d a e. let same = apart part d.part bytes d.bytes [] [] is a.part (ap (λ (t : Bytes). t ++ []) a.text_is) in
      subst (λ (p : Part). IsNotTaken node (delivered p d.bytes)) same.0
      (subst (λ (b : Bytes). IsNotTaken node (delivered part b)) same.1 not))

-- ---- a request that is a part

-- the text of a request alone
pub read_alone : (words : List Bytes) → request (request_text words ++ []) ≡ found words [] → request (request_text words) ≡ found words []
read_alone words e = subst (λ (t : Bytes). request t ≡ found words []) (append-nil (request_text words)) e

-- the bytes of a part are its last word
pub part_words_are : (part : Part) (words : List Bytes) (bytes : Bytes) → IsPartOf part words → slice_get words 4 ≡ Some bytes
    → IsPart part bytes × (words ≡ part_words part bytes)
part_words_are part words bytes (b, is, e) at =
    let same : Some b ≡ Some bytes = subst (λ (ws : List Bytes). slice_get ws 4 ≡ Some bytes) e at in
    let b_is : b ≡ bytes = (cc) in
    subst (λ (v : Bytes). IsPart part v × (words ≡ part_words part v)) b_is (is, e)

module _ (old new : Followed) (part : Part) (bytes : Bytes) (words : List Bytes) (is : IsPart part bytes × (words ≡ part_words part bytes)) where
  answer : IsAnswer (request_text words) (delivered part bytes)
  answer = record { part = is.0; text_is = ap request_text is.1 }

  takes_more : (h : Heard) → h ≡ More → IsHeard old part bytes new h → TakesMore old (request_text words) new
  takes_more h e heard = record {
    answer = delivered part bytes;
    is_answer = answer;
    goes_on = subst (λ (x : Heard). IsHeard old part bytes new x) e heard;
  }

  -- the log goes on behind it
  pub comes_more : (h : Heard) (out : Bytes) (phase : Phase) → h ≡ More → IsHeard old part bytes new h → Asks new out phase
      → Comes (request_text words) old new [] out phase
  comes_more h out phase e heard (inl (o, p)) = subst (λ (x : Phase). Comes (request_text words) old new [] out x) (sym p)
      (inr (takes_more h e heard, refl, o))
  comes_more h out phase e heard (inr (o, p)) = subst (λ (x : Phase). Comes (request_text words) old new [] out x) (sym p)
      (inr (takes_more h e heard))

  -- it reaches the end of the log
  pub takes_last : (h : Heard) → h ≡ Published → IsHeard old part bytes new h → TakesLast old (request_text words) new
  takes_last h e heard = record {
    answer = delivered part bytes;
    is_answer = answer;
    publishes = subst (λ (x : Heard). IsHeard old part bytes new x) e heard;
  }

  -- the node does not take it
  pub bad_answer : PartsAreRequests → PartsAreApart → IsNotTaken old (delivered part bytes) → IsBad old (request_text words)
  bad_answer parts apart not = subst (λ (t : Bytes). IsBad old t) (sym answer.text_is) (bad_part parts apart old part bytes is.0 not)

-- ---- what was fed

-- a request came: the bytes are read as it and what stands behind it, and none is held
fed_request : (held new : Held) (piece : Bytes) (taken : ℕ) (read : Option (List Bytes)) (words : List Bytes) → read ≡ Some words
    → IsFed held new piece taken read
    → (request (bytes_held held ++ piece) ≡ found words (drop taken piece)) × (taken ≤ length piece) × (new ≡ Some [])
fed_request None new piece taken read words is f = absurd f
fed_request (Some held) new piece taken read words is f =
    let t = subst (λ (r : Option (List Bytes)). IsTaken held new piece taken r) is f in (t.0, t.1, t.2)

module _ (held new : Held) (piece : Bytes) (taken : ℕ) (read : Option (List Bytes)) (words : List Bytes) (is : read ≡ Some words)
    (f : IsFed held new piece taken read) where
  -- and nothing behind it
  pub fed_whole : ReadTexts → taken ≡ length piece → (old node : Followed) (out : Bytes) (phase : Phase)
      → Comes (request_text words) old node [] out phase → Comes (bytes_held held ++ piece) old node (bytes_held new) out phase
  fed_whole texts all old node out phase comes =
      let t = fed_request held new piece taken read words is f in
      let none : drop taken piece ≡ [] = drop_all taken piece (omega (arith, all)) in
      let text : bytes_held held ++ piece ≡ request_text words = (texts (bytes_held held ++ piece) (drop taken piece) words t.0).1
      ∙ ap (λ (l : Bytes). request_text words ++ l) none ∙ append-nil (request_text words) in
      subst (λ (h : Held). Comes (bytes_held held ++ piece) old node (bytes_held h) out phase) (sym t.2)
      (subst (λ (l : Bytes). Comes l old node [] out phase) (sym text) comes)

  pub fed_behind : PartsAreRequests → (taken ≡ length piece → ⊥) → (node : Followed) → IsBad node (bytes_held held ++ piece)
  fed_behind parts some node =
      let t = fed_request held new piece taken read words is f in
      let left = length-drop taken piece in
      bad_behind parts node (bytes_held held ++ piece) (drop taken piece) words t.0
      (λ none. let n = ap (λ (l : Bytes). length l) none in some (omega (arith, t.1, left, n)))

-- the bytes go on as no request
pub fed_broken : PartsAreRequests → (held new : Held) (piece : Bytes) (fault : FeedFault) (why : RespFault) → fault ≡ Broken why → IsReading held
    → IsNotFed held new piece fault → (node : Followed) → IsBad node (bytes_held held ++ piece)
fed_broken parts None new piece fault why is reads f node = absurd reads
fed_broken parts (Some held) new piece fault why is reads f node =
    let b = subst (λ (x : FeedFault). IsNotFed (Some held) new piece x) is f in
    bad_broken parts node (held ++ piece) why b.0
