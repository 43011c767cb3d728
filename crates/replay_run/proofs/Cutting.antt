-- Two feeds, and one of all their bytes.
use Rattle.std.proofs.Common.{◌≡◌, ℕ, Bool, true, false, refl, sym, ap, ◌∙◌, subst, List, [], ◌∷◌, ◌++◌, append_assoc}
use Rattle.std.specs.Prelude.{Option, Some, None, map}
use Rattle.std.proofs.lemmas.List.{append-nil}
use Rattle.byte_text.specs.Names.{Bytes}
use Rattle.byte_text.specs.Streams.{Stream, StreamEnd, holds, fails, stream_of, fed, fed_ending}
use Rattle.world_model.specs.Halls.{Hall}
use Rattle.world_model.specs.declared.events.Asked.{Asked}
use Rattle.world_model.specs.declared.events.Asked.TheVariants.{Words}
use Rattle.world_model.specs.declared.events.Event.{Event}
use Rattle.world_model.specs.declared.events.Event.TheVariants as event
use Rattle.replay_run.specs.declared.readers.Reader.{Reader}
use Rattle.replay_run.specs.Readers.{Unread, unread_of, asked_by, last_asked, is_of, reader_of, with_unread}
use Rattle.replay_run.specs.Played.{Played}
use Rattle.replay_run.specs.Traces.{Trace, joined}
use Rattle.replay_run.specs.Scripts.{MakesEach, Calls, FedTo, Feeds}
use Rattle.replay_run.specs.Cuts.{IsRead, CutAnywhere}
use Rattle.replay_run.proofs.Traces.{joined_assoc}

-- events behind others
makes_more : (h mid last : Hall) (es fs : List Event) (t more : Trace) → MakesEach h es t mid → MakesEach mid fs more last → MakesEach h (es ++ fs) (joined t more) last
makes_more h mid last [] fs t more a b =
    let here : MakesEach h fs more last = subst (λ (z : Hall). MakesEach z fs more last) a.1 b in
    subst (λ (z : Trace). MakesEach h fs (joined z more) last) (sym a.0) here
makes_more h mid last (e ∷ es) fs t more a b =
    (a.0, a.1, joined a.2 more, a.3, makes_more a.0 mid last es fs a.2 more a.4 b, ap (λ (z : Trace). joined z more) a.5 ∙ joined_assoc a.1 a.2 more)

map_more : {A B : Type 0} (f : A → B) (xs ys : List A) → map f (xs ++ ys) ≡ map f xs ++ map f ys
map_more f [] ys = refl
map_more f (x ∷ xs) ys = ap (λ zs. f x ∷ zs) (map_more f xs ys)

-- the reader whose unread bytes were changed is found again, and changed again
found_again : (n : ℕ) (u : Unread) (readers : List Reader) (r : Reader) → reader_of n readers ≡ Some r → reader_of n (with_unread n u readers) ≡ Some (record r { unread = u })
found_again n u [] r e = absurd (cc)
found_again n u (q ∷ readers) r e = by_first (is_of n q) refl (found_again n u readers r)
  where
    by_first : (t : Bool) → is_of n q ≡ t → (reader_of n readers ≡ Some r → reader_of n (with_unread n u readers) ≡ Some (record r { unread = u })) → reader_of n (with_unread n u (q ∷ readers)) ≡ Some (record r { unread = u })
    by_first true t ih =
        let here : Some q ≡ Some r = rw t at e in
        let is : q ≡ r = cc in
        rw (t, t) (ap (λ (z : Reader). Some (record z { unread = u })) is)
    by_first false t ih = let rest = rw t at e in rw (t, t) (ih rest)

changed_again : (n : ℕ) (u v : Unread) (readers : List Reader) → with_unread n v (with_unread n u readers) ≡ with_unread n v readers
changed_again n u v [] = refl
changed_again n u v (q ∷ readers) = by_first (is_of n q) refl (changed_again n u v readers)
  where
    by_first : (t : Bool) → is_of n q ≡ t → with_unread n v (with_unread n u readers) ≡ with_unread n v readers → with_unread n v (with_unread n u (q ∷ readers)) ≡ with_unread n v (q ∷ readers)
    by_first true t ih = rw (t, t) refl
    by_first false t ih = rw (t, t) (ap (λ (rs : List Reader). q ∷ rs) ih)

module _ (cut : (bytes more : Bytes) → stream_of (bytes ++ more) ≡ fed (stream_of bytes) more) (n m : ℕ) where
  abbrev call_of : Asked → Event
  call_of asked = event.Call n m asked

  -- behind a stream that goes on, what it asks for and what the stream of its rest and more bytes does
  calls_more : (requests : List (List Bytes)) (ending : StreamEnd) (rest second : Bytes) (h mid next : Hall) (t more : Trace) (v : Unread) → unread_of ending ≡ Some rest
      → Calls h n m (record { requests = requests; ending = ending }) t mid → Calls mid n m (stream_of (rest ++ second)) more next → v ≡ unread_of (stream_of (rest ++ second)).ending
      → Calls h n m (fed_ending requests ending second) (joined t more) next × (v ≡ unread_of (fed_ending requests ending second).ending)
  calls_more requests (fails fault) rest second h mid next t more v e a b w = absurd (cc)
  calls_more requests (holds left) rest second h mid next t more v e a b w =
      let is : left ≡ rest = cc in
      let others : Stream = stream_of (left ++ second) in
      let first : MakesEach h (map call_of (map Words requests)) t mid = subst (λ (q : List Asked). MakesEach h (map call_of q) t mid) (append-nil (map Words requests)) a in
      let same : stream_of (rest ++ second) ≡ others = ap (λ (z : Bytes). stream_of (z ++ second)) (sym is) in
      let behind : MakesEach mid (map call_of (asked_by others)) more next = subst (λ (s : Stream). MakesEach mid (map call_of (asked_by s)) more next) same b in
      let all : MakesEach h (map call_of (map Words requests) ++ map call_of (asked_by others)) (joined t more) next = makes_more h mid next (map call_of (map Words requests)) (map call_of (asked_by others)) t more first behind in
      let asked : map Words requests ++ asked_by others ≡ map Words (requests ++ others.requests) ++ last_asked others.ending = sym (append_assoc (map Words requests) (map Words others.requests) (last_asked others.ending)) ∙ ap (λ (q : List Asked). q ++ last_asked others.ending) (sym (map_more Words requests others.requests)) in
      let events : map call_of (map Words requests) ++ map call_of (asked_by others) ≡ map call_of (map Words (requests ++ others.requests) ++ last_asked others.ending) = sym (map_more call_of (map Words requests) (asked_by others)) ∙ ap (map call_of) asked in
      (subst (λ (es : List Event). MakesEach h es (joined t more) next) events all, w ∙ ap (λ (s : Stream). unread_of s.ending) same)

  fed_more : (unread : Unread) (first second rest : Bytes) (t more : Trace) (h mid next : Hall) (u v : Unread) → u ≡ Some rest → FedTo h n m unread first t mid u → FedTo mid n m u second more next v → FedTo h n m unread (first ++ second) (joined t more) next v
  fed_more None first second rest t more h mid next u v e a b = let none : u ≡ None = a.2 in absurd (cc)
  fed_more (Some held) first second rest t more h mid next u v e a b =
      let stream : Stream = stream_of (held ++ first) in
      let left : unread_of stream.ending ≡ Some rest = sym a.1 ∙ e in
      let others : FedTo mid n m (Some rest) second more next v = subst (λ (z : Unread). FedTo mid n m z second more next v) e b in
      let both = calls_more stream.requests stream.ending rest second h mid next t more v left a.0 others.0 others.1 in
      let is : stream_of (held ++ (first ++ second)) ≡ fed stream second = ap stream_of (sym (append_assoc held first second)) ∙ cut (held ++ first) second in
      (subst (λ (s : Stream). Calls h n m s (joined t more) next) (sym is) both.0, both.1 ∙ ap (λ (s : Stream). unread_of s.ending) (sym is))

  one_feed : (p mid next : Played) (first second : Bytes) (t more : Trace) (o : Option Reader) → o ≡ reader_of n p.readers → Feeds p n m first o t mid → IsRead n mid → Feeds mid n m second (reader_of n mid.readers) more next → Feeds p n m (first ++ second) o (joined t more) next
  one_feed p mid next first second t more None e a r b =
      let same : reader_of n mid.readers ≡ None = ap (λ (q : Played). reader_of n q.readers) a.1 ∙ sym e in
      let found : reader_of n mid.readers ≡ Some r.reader = r.found in
      absurd (cc)
  one_feed p mid next first second t more (Some q) e a r b =
      let again : reader_of n mid.readers ≡ Some (record q { unread = a.0 }) = ap (reader_of n) a.2 ∙ found_again n a.0 p.readers q (sym e) in
      let is : r.reader ≡ record q { unread = a.0 } = let found : reader_of n mid.readers ≡ Some r.reader = r.found in cc in
      let whole : a.0 ≡ Some r.rest = sym (ap (λ (z : Reader). z.unread) is) ∙ r.unbroken in
      let other : Feeds mid n m second (Some (record q { unread = a.0 })) more next = subst (λ (z : Option Reader). Feeds mid n m second z more next) again b in
      (other.0, fed_more q.unread first second r.rest t more p.hall mid.hall next.hall a.0 other.0 whole a.1 other.1, other.2 ∙ ap (λ (rs : List Reader). with_unread n other.0 rs) a.2 ∙ changed_again n a.0 other.0 p.readers)

pub cut_anywhere : ((bytes more : Bytes) → stream_of (bytes ++ more) ≡ fed (stream_of bytes) more) → CutAnywhere
cut_anywhere cut told p mid next n m first second t more a r b = one_feed cut n m p mid next first second t more (reader_of n p.readers) refl a r b
