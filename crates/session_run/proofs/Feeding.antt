-- Bytes that are fed to a reader, request by request.
use Rattle.std.proofs.Common.{◌≡◌, ℕ, ◌≤◌, ◌<◌, Bool, true, false, refl, sym, ap, ◌∙◌, subst, List, [], ◌∷◌, ◌++◌, length, drop, append_assoc, arith}
use Rattle.std.specs.Prelude.{Some, None, ◌&&◌, Result, Ok, Err, IfOk, IfErr, Option, if◌then◌else◌}
use Rattle.std.specs.List.{list_all}
use Rattle.std.proofs.lemmas.List.{append-nil}
use Rattle.std.proofs.lemmas.List.Folds.{list_all-append}
use Rattle.byte_text.specs.Names.{Bytes}
use Rattle.byte_text.specs.Requests.{IsRequest, request_text}
use Rattle.byte_text.specs.Streams.{found, broken, request, stream_of}
use Rattle.byte_text.specs.StreamTexts.{request_read}
use Rattle.byte_text.specs.StreamFound.{request_found}
use Rattle.byte_text.specs.StreamLaws.{stream_found, stream_begun, stream_broken, broken_stays}
use Rattle.byte_text.specs.declared.faults.RespFault.{RespFault}
use Rattle.resp_frames.specs.declared.faults.FeedFault.{FeedFault}
use Rattle.resp_frames.specs.declared.faults.FeedFault.TheVariants as feed
use Rattle.resp_frames.specs.declared.request_reader.Fed.{Fed}
use Rattle.resp_frames.specs.RequestReader.{Held, IsFed, IsNotFed}
use Rattle.world_model.specs.Outcomes.{is_proper}
use Rattle.world_model.specs.declared.events.Asked.{Asked}
use Rattle.world_model.specs.declared.events.Asked.TheVariants.{Words, Broken}
use Rattle.live_fence.specs.LiveFences.{is_live, pair_of}
use Rattle.session_run.specs.Feeds.{asked_by, asked_behind, asked_next, Feeds, Reads, ReadsFault}
use Rattle.session_run.specs.Live.{pair_asks, becomes, asked_of}

proper_words : (words : List Bytes) → IsRequest words → is_proper (Words words) ≡ true
proper_words [] r = absurd (omega (arith, r.some))
proper_words (w ∷ words) r = refl

found_more : (bytes behind more : Bytes) (words : List Bytes) → request bytes ≡ found words behind → request (bytes ++ more) ≡ found words (behind ++ more)
found_more bytes behind more words e =
    let t = request_found bytes words behind e in
    ap request (ap (λ (l : Bytes). l ++ more) t.1 ∙ append_assoc (request_text words) behind more) ∙ request_read words (behind ++ more) t.0

-- what is asked in place of a request
some_if : (b : Bool) (n : ℕ) (words : List Bytes) → 0 < length (pair_asks words (if b then Some (pair_of n words) else None))
some_if true n words = omega arith
some_if false n words = omega arith

few_if : (b : Bool) (n : ℕ) (words : List Bytes) → length (pair_asks words (if b then Some (pair_of n words) else None)) ≤ 2
few_if true n words = omega arith
few_if false n words = omega arith

proper_if : (b : Bool) (n : ℕ) (words : List Bytes) → is_proper (Words words) ≡ true
    → list_all is_proper (pair_asks words (if b then Some (pair_of n words) else None)) ≡ true
proper_if true n words is = refl
proper_if false n words is = ap (λ (b : Bool). b && true) is

pub reads_next : (n : ℕ) (old new : Held) (bytes : Bytes) (taken : ℕ) (words : List Bytes) (before now : List Asked) → IsFed old new bytes taken (Some words)
    → now ≡ before ++ becomes n (Words words) → (taken ≤ length bytes) × Reads n old bytes new (drop taken bytes) before now
reads_next n None new bytes taken words before now fed pushed = absurd fed
reads_next n (Some held) new bytes taken words before now fed pushed = (
  fed.1,
  record {
    asks = becomes n (Words words);
    some = some_if (is_live n words) n words;
    few = few_if (is_live n words) n words;
    pushed = pushed;
    proper = proper_if (is_live n words) n words (proper_words words fed.3);
    feeds = record { goes = λ more. ap (asked_of n) (goes more) };
  },
)
  where
    goes : (more : Bytes) → asked_behind (Some held) (bytes ++ more) ≡ Words words ∷ asked_behind new (drop taken bytes ++ more)
    goes more = subst (λ (h : Held). asked_behind (Some held) (bytes ++ more) ≡ Words words ∷ asked_behind h (drop taken bytes ++ more)) (sym fed.2)
        (ap asked_by (ap stream_of (sym (append_assoc held bytes more)) ∙ stream_found ((held ++ bytes) ++ more) (drop taken bytes ++ more) words (found_more (held ++ bytes) (drop taken bytes) more words fed.0)))

pub reads_dry : (n : ℕ) (old new : Held) (bytes : Bytes) (taken : ℕ) → IsFed old new bytes taken None → Feeds n old bytes new [] []
reads_dry n None new bytes taken fed = absurd fed
reads_dry n (Some held) new bytes taken fed = record {
  goes = λ more. ap (asked_of n) (subst (λ (h : Held). asked_behind (Some held) (bytes ++ more) ≡ asked_behind h more) (sym fed.2)
      (ap (λ (l : Bytes). asked_by (stream_of l)) (sym (append_assoc held bytes more))));
}

broken_feeds : (n : ℕ) (held bytes : Bytes) (new : Held) (fault : RespFault) → request (held ++ bytes) ≡ broken fault → new ≡ None → Feeds n (Some held) bytes new [] (Broken fault ∷ [])
broken_feeds n held bytes new fault e is = record {
  goes = λ more. ap (asked_of n) (subst (λ (h : Held). asked_behind (Some held) (bytes ++ more) ≡ Broken fault ∷ asked_behind h more) (sym is)
      (ap asked_by (ap stream_of (sym (append_assoc held bytes more)) ∙ stream_broken ((held ++ bytes) ++ more) fault (broken_stays (held ++ bytes) more fault e))));
}

pub reads_fault : (n : ℕ) (old new : Held) (bytes : Bytes) (fault : RespFault) (before now : List Asked) → IsNotFed old new bytes (feed.Broken fault) → now ≡ before ++ Broken fault ∷ [] → ReadsFault n old bytes new before now
reads_fault n None new bytes fault before now fed pushed = absurd (cc)
reads_fault n (Some held) new bytes fault before now fed pushed = record { fault = fault; pushed = pushed; proper = refl; feeds = broken_feeds n held bytes new fault fed.0 fed.1; dead = fed.1 }

pub feeds_none : (n : ℕ) (held : Held) (bytes : Bytes) → Feeds n held bytes held bytes []
feeds_none n held bytes = record { goes = λ more. refl }

pub feeds_more : (n : ℕ) (old mid new : Held) (bytes rest left : Bytes) (a b : List Asked) → Feeds n old bytes mid rest a → Feeds n mid rest new left b → Feeds n old bytes new left (a ++ b)
feeds_more n old mid new bytes rest left a b f h = record {
  goes = λ more. f.goes more ∙ ap (λ (l : List Asked). a ++ l) (h.goes more) ∙ sym (append_assoc a b (asked_next n new (left ++ more)));
}

pub proper_more : (asks more : List Asked) → list_all is_proper asks ≡ true → list_all is_proper more ≡ true → list_all is_proper (asks ++ more) ≡ true
proper_more asks more h k = list_all-append is_proper asks more ∙ ap (λ (b : Bool). b && list_all is_proper more) h ∙ k

-- ---- no whole request is held

nothing_asked : asked_behind (Some []) [] ≡ []
unfolding stream_of
nothing_asked = refl

same_asked : (held held' : Held) → held ≡ held' → asked_behind held' [] ≡ [] → asked_behind held [] ≡ []
same_asked held held' is dry = subst (λ (h : Held). asked_behind h [] ≡ []) (sym is) dry

dry_fed : (old new : Held) (bytes : Bytes) (taken : ℕ) (read : Option (List Bytes)) → IsFed old new bytes taken read → asked_behind new [] ≡ []
dry_fed None new bytes taken read fed = absurd fed
dry_fed (Some held) new bytes taken None fed = same_asked new (Some (held ++ bytes)) fed.2 (ap asked_by (ap stream_of (append-nil (held ++ bytes)) ∙ stream_begun (held ++ bytes) fed.0))
dry_fed (Some held) new bytes taken (Some words) fed = same_asked new (Some []) fed.2 nothing_asked

dry_fault : (old new : Held) (bytes : Bytes) (fault : FeedFault) → asked_behind old [] ≡ [] → IsNotFed old new bytes fault → asked_behind new [] ≡ []
dry_fault None new bytes fault dry fed = same_asked new None fed.1 refl
dry_fault (Some held) new bytes (feed.Broken f) dry fed = same_asked new None fed.1 refl
dry_fault (Some held) new bytes feed.Dead dry fed = absurd fed
dry_fault (Some held) new bytes feed.Memory dry fed = same_asked new (Some held) fed dry

pub dry_read : (old new : Held) (bytes : Bytes) (r : Result Fed FeedFault) → asked_behind old [] ≡ [] → IfOk r (λ f. IsFed old new bytes f.taken f.request) → IfErr r (λ f. IsNotFed old new bytes f) → asked_behind new [] ≡ []
dry_read old new bytes (Ok f) dry fed fault = dry_fed old new bytes f.taken f.request fed
dry_read old new bytes (Err e) dry fed fault = dry_fault old new bytes e dry fault
