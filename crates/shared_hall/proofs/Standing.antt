-- How a core goes on standing for its history, act by act and turn by turn.
use Rattle.std.proofs.Common.{◌≡◌, ◌≤◌, ◌<◌, ◌⊎◌, ◌||◌, ℕ, Bool, true, false, List, [], ◌∷◌, ◌++◌, map, min, refl, sym, ap, ◌∙◌, subst, arith, inl, inr, true≢false, append_assoc, append-nil, ⊎_elim}
use Rattle.std.specs.Prelude.{◌-◌, ◌^◌, nat_le}
use Rattle.std.proofs.lemmas.Bool.Decides.{nat_tests}
use Rattle.std.specs.List.{list_any}
use Rattle.std.proofs.lemmas.List.Folds.{list_any-append}
use Rattle.byte_text.specs.Names.{Bytes}
use Rattle.outside.specs.Causes.{Rose, most_count}
use Rattle.outside.specs.Crashes.{EachSince}
use Rattle.outside.specs.Sides.{Sides}
use Rattle.world_model.specs.Halls.{Hall}
use Rattle.world_model.specs.Histories.{gives_disk, is_rewrite, opening_hall}
use Rattle.world_model.specs.Seats.{Act, act_of}
use Rattle.world_model.specs.declared.events.Event.{Event}
use Rattle.world_model.specs.declared.events.Event.TheVariants.{Enter, Call, Take, Tick, Close, Remove, Rewrite, Retire}
use Rattle.world_model.specs.declared.events.Entry.{Entry}
use Rattle.world_model.specs.declared.events.Opening.{Opening}
use Rattle.journal.specs.Growing.{grows_none, grows_on}
use Rattle.journal.specs.Logs.{Grows, HasGrown}
use Rattle.log_record.specs.Journals.{Journal, is_retire}
use Rattle.log_record.specs.Laws.{Stood}
use Rattle.log_record.specs.Safety.{moment_after, count_after, out_after, ComesNext}
use Rattle.log_record.specs.Acknowledged.{moment_last, count_last}
use Rattle.log_record.specs.LeadingLaws.{leads_on}
use Rattle.durable_core.specs.Histories.{Writing, Writes}
use Rattle.durable_core.specs.Written.{Sided}
use Rattle.shared_hall.specs.Fed.{AreAllWhole, AreFed, GrewFrom, IsNoted, WereTold}
use Rattle.shared_hall.specs.Times.{Time, time_of, entry_at, entries_at, noted_at, is_retirement}
use Rattle.shared_hall.specs.Standing.{IsAct, IsCarried, IsLast, FeedsOn, FrontBy, TurnBy, Stands}
use Rattle.shared_hall.proofs.Feeding.{fed_last, fed_lasting, fed_more, fed_raised, told_more, last_more, last_still, went_on, whole_more, with_log}
use Rattle.shared_hall.proofs.Raising.{ArePlain, Raises, raised, raise_reaches, raise_stood, raised_past}
use Rattle.shared_hall.proofs.Writes.{acts_last, raised_acts, writes_last}

-- an entry that gave the disk out is a retirement
gives_retires : (event : Event) (e : Entry) → gives_disk (record e { event = event }) ≡ true → is_retire event ≡ true
gives_retires Enter e gives = absurd (true≢false (sym gives))
gives_retires (Call n m asked) e gives = absurd (true≢false (sym gives))
gives_retires (Take n) e gives = absurd (true≢false (sym gives))
gives_retires (Tick m) e gives = absurd (true≢false (sym gives))
gives_retires (Close n) e gives = absurd (true≢false (sym gives))
gives_retires (Remove n) e gives = absurd (true≢false (sym gives))
gives_retires Rewrite e gives = absurd (true≢false (sym gives))
gives_retires Retire e gives = refl

gives_none : (e : Entry) → is_retirement e ≡ false → (b : Bool) → gives_disk e ≡ b → gives_disk e ≡ false
gives_none e none true is = absurd (true≢false (sym (gives_retires e.event e is) ∙ none))
gives_none e none false is = is

either_out : (a b c : Bool) → (b ≡ true → c ≡ true) → (a || b) ≡ true → (a || c) ≡ true
either_out true b c p is = refl
either_out false b c p is = p is

or_moved : (a b c : Bool) → ((a || b) || c) ≡ (a || (b || c))
or_moved true b c = refl
or_moved false b c = refl

-- where the disk was given out, there was a retirement
out_retired : (is_out : Bool) (log : List Entry) → out_after is_out log ≡ true → (is_out || list_any is_retirement log) ≡ true
out_retired true log out = refl
out_retired false [] out = absurd (true≢false (sym out))
out_retired false (e ∷ log) out = by (λ more. out_retired false log more) (gives_disk e) refl
  where
    by_head : (r : Bool) → list_any is_retirement log ≡ true → (r || list_any is_retirement log) ≡ true
    by_head true more = refl
    by_head false more = more

    by : (out_after false log ≡ true → list_any is_retirement log ≡ true) → (b : Bool) → gives_disk e ≡ b → (is_retirement e || list_any is_retirement log) ≡ true
    by rest true is = ap (λ (r : Bool). r || list_any is_retirement log) (gives_retires e.event e is)
    by rest false is = by_head (is_retirement e) (rest (subst (λ (g : Bool). out_after g log ≡ true) is out))

-- the count that a fault shows
rose_counted : (c before now : ℕ) → c ≤ min before most_count → before ≤ now → Rose before now → (c < min now most_count) ⊎ (min now most_count ≡ 2 ^ 64 - 1)
rose_counted c before now within later rose = by (nat_le most_count now) refl
  where
    by : (b : Bool) → nat_le most_count now ≡ b → (c < min now most_count) ⊎ (min now most_count ≡ 2 ^ 64 - 1)
    by true is = inr (grind (arith, nat_tests))
    by false is = inl (grind (arith, nat_tests))

-- the same of entries that were raised

raised_retired : (t : Time) (es : List Entry) → list_any is_retirement (map (raised t) es) ≡ list_any is_retirement es
raised_retired t [] = refl
raised_retired t (e ∷ es) = ap (λ (b : Bool). is_retirement e || b) (raised_retired t es)

raised_counted : (t : Time) (most : ℕ) (before es : List Entry) (c : ℕ) → t.count ≤ most → count_after c (before ++ es) ≤ most → count_after c (before ++ map (raised t) es) ≤ most
raised_counted t most [] [] c within past = past
raised_counted t most [] (e ∷ es) c within past = all es
  where
    all : (fs : List Entry) → count_after t.count (map (raised t) fs) ≤ most
    all [] = within
    all (f ∷ fs) = all fs
raised_counted t most (b ∷ before) es c within past = raised_counted t most before es b.count within past

ended_moment : (t : Time) (before es : List Entry) (m : ℕ) → moment_after m (before ++ es) ≡ t.moment → moment_after m (before ++ map (raised t) es) ≡ t.moment
ended_moment t [] [] m is = is
ended_moment t [] (e ∷ es) m is = all es
  where
    all : (fs : List Entry) → moment_after t.moment (map (raised t) fs) ≡ t.moment
    all [] = refl
    all (f ∷ fs) = all fs
ended_moment t (b ∷ before) es m is = ended_moment t before es b.moment is

ended_count : (t : Time) (before es : List Entry) (c : ℕ) → count_after c (before ++ es) ≡ t.count → count_after c (before ++ map (raised t) es) ≡ t.count
ended_count t [] [] c is = is
ended_count t [] (e ∷ es) c is = all es
  where
    all : (fs : List Entry) → count_after t.count (map (raised t) fs) ≡ t.count
    all [] = refl
    all (f ∷ fs) = all fs
ended_count t (b ∷ before) es c is = ended_count t before es b.count is

raised_are : (t : Time) (es : List Entry) → map (raised t) es ≡ map (entry_at t) (map act_of es)
raised_are t [] = refl
raised_are t (e ∷ es) = ap (λ (l : List Entry). raised t e ∷ l) (raised_are t es)

pub entries_end : (begun ended : Time) (note : Bytes) (front : List Act) (last : Act) → entries_at begun ended note (front ++ last ∷ []) ≡ map (entry_at begun) front ++ noted_at ended last note ∷ []
entries_end begun ended note [] last = refl
entries_end begun ended note (a ∷ []) last = refl
entries_end begun ended note (a ∷ b ∷ front) last = ap (λ (l : List Entry). entry_at begun a ∷ l) (entries_end begun ended note (b ∷ front) last)

module _ {S D : Type 0} (hall : S → Hall) (writing : S → Writing) (disk : S → D) (is_out : S → Bool) (is_log : S → Journal → Type 0)
    (is_sided : S → Sided → Type 0) (crashes : D → Bool) (images : D → Sides → Type 0) (moment : D → ℕ) (left_since : D → ℕ → Sides → Type 0) (faults : D → ℕ) (first : Writing) (begun : ℕ) (found : ℕ → List Bytes → Type 0)
    (once : (s : S) → (hall s).stopped ≡ false → (t u : Sided) → is_sided s t → is_sided s u → t.batches ≡ u.batches)
    (left_now : (s : S) → (hall s).stopped ≡ false → crashes (disk s) ≡ true → (t : Sided) → is_sided s t → EachSince left_since (disk s) (moment (disk s)) (HasGrown (writing s).generation t.batches)) where
  abbrev Acted : S → S → Act → Bytes → Type 0
  Acted = IsAct hall writing disk is_out is_log is_sided crashes images moment left_since faults

  abbrev Fronted : List Act → S → S → Type 0
  Fronted = FrontBy hall writing disk is_out is_log is_sided crashes images moment left_since faults

  abbrev StandsAt : Bool → S → Opening → List Entry → Type 0
  StandsAt told = Stands hall writing disk is_out is_log is_sided crashes images moment left_since faults begun found told first

  abbrev Carried : S → ℕ → ℕ → List Bytes → Type 0
  Carried = IsCarried hall writing disk is_out is_log is_sided crashes images moment left_since faults

  abbrev time : Bool → S → Time
  time told s = time_of moment faults told (disk s)

  abbrev Kept : S → Opening → List Entry → Type 0
  Kept s o log = (crashes (disk s) ≡ true) × ((j : Journal) × is_log s j × Stood images moment left_since (disk s) o log (hall s) j)

  moment_later : (told : Bool) (s t : S) (o : Opening) (log : List Entry) (a : Act) (note : Bytes) → StandsAt told s o log → Acted s t a note → (time told s).moment ≤ (time told t).moment
  moment_later false s t o log a note stands act = omega arith
  moment_later true s t o log a note stands act = let k = stands.kept refl in (act.log k.1.0 k.1.1 k.0).2

  is_still : (told : Bool) (s : S) (o : Opening) (log : List Entry) → StandsAt told s o log → out_after false log ≡ true → is_out s ≡ true
  is_still told s o log stands out = stands.out ∙ out_retired false log out

  follows : (told : Bool) (s t : S) (o : Opening) (log : List Entry) (a : Act) (note : Bytes) → StandsAt told s o log → Acted s t a note → ComesNext o log (noted_at (time told t) a note)
  follows told s t o log a note stands act = record {
    later = omega (arith, stands.past, moment_later told s t o log a note stands act);
    not_fallen = omega (arith, stands.counted, act.later);
    moment_stays = λ out. let is = is_still told s o log stands out in ap (λ (d : D). (time_of moment faults told d).moment) (act.stays is) ∙ sym (stands.still is).0;
    count_stays = λ out. let is = is_still told s o log stands out in ap (λ (d : D). (time_of moment faults told d).count) (act.stays is) ∙ sym (stands.still is).1;
    cause = λ failed. rose_counted (count_after o.count log) (faults (disk s)) (faults (disk t)) stands.counted act.later (act.cause failed);
    note = λ other. by other act.noted;
  }
    where
      by : is_rewrite a.0 ≡ false → (note ≡ []) ⊎ ((is_rewrite a.0 ≡ true) × ((hall t).stopped ≡ false)) → note ≡ []
      by other (inl none) = none
      by other (inr is) = absurd (true≢false (sym is.0 ∙ other))

  kept_more : (told : Bool) (s t : S) (o : Opening) (log : List Entry) (a : Act) (note : Bytes) → StandsAt told s o log → Acted s t a note → told ≡ true → Kept t o (log ++ noted_at (time told t) a note ∷ [])
  kept_more false s t o log a note stands act is = absurd (true≢false (sym is))
  kept_more true s t o log a note stands act is =
      let k = stands.kept refl in
      let next = act.log k.1.0 k.1.1 k.0 in
      (act.told ∙ k.0, (next.0, next.1, next.3 o log (noted_at (time true t) a note) k.1.2 refl refl refl (follows true s t o log a note stands act)))

  abbrev FedAt : S → Opening → List Entry → Type 0
  FedAt s o log = (logs : ℕ → List Bytes) × AreAllWhole logs × WereTold (GrewFrom found) logs × AreFed (Carried s) logs (opening_hall o.world o.logged) first [] log
      × ((hall s).stopped ≡ false → IsLast logs (writing s).generation (is_sided s))

  -- what was carried so far an act carries on
  carried_on : (s t : S) (a : Act) (note : Bytes) → Acted s t a note → crashes (disk s) ≡ true → (j : Journal) → is_log s j → ((hall s).stopped ≡ false → (l : Sided) × is_sided s l)
      → (since g : ℕ) (batches : List Bytes) → Carried s since g batches → Carried t since g batches
  carried_on s t a note act crash j log sides since g batches was =
      let left = act.left j log crash g batches (λ going. let l = sides going in (l.0, l.1, was.now going l.0 l.1)) in
      record {
        past = let past = was.past in let later = left.later in omega (arith, past, later);
        lasts = λ image at. ⊎_elim (λ before. was.lasts image before) (λ has. has) (left.either since image was.past at);
        now = λ going u keeps.
            let on = went_on (hall s) (hall t) a.0 a.1 act.step going in
            let l = sides on in
            let x = act.fed going j log l.0 l.1 in
            subst (λ (b : List Bytes). Grows g (writing t).generation batches b) (once t going x.sides u x.keeps keeps)
            (grows_on g (writing s).generation (writing t).generation batches l.0.batches x.sides.batches (was.now on l.0 l.1) x.grows);
      }

  -- what the log has now is carried from now on
  now_carried : (told : Bool) (t : S) → (hall t).stopped ≡ false → crashes (disk t) ≡ true → (u : Sided) → is_sided t u → told ≡ true → Carried t (time told t).moment (writing t).generation u.batches
  now_carried false t going crash u keeps is = absurd (true≢false (sym is))
  now_carried true t going crash u keeps is = record {
    past = omega arith;
    lasts = left_now t going crash u keeps;
    now = λ _ v kept. subst (λ (b : List Bytes). Grows (writing t).generation (writing t).generation u.batches b) (once t going u v keeps kept) (grows_none (writing t).generation u.batches);
  }

  -- of the log of a state that stands
  carry : (told : Bool) (s t : S) (o : Opening) (log : List Entry) (a : Act) (note : Bytes) → StandsAt told s o log → Acted s t a note → told ≡ true
      → (since g : ℕ) (batches : List Bytes) → Carried s since g batches → Carried t since g batches
  carry told s t o log a note stands act is =
      let k = stands.kept is in
      let f = stands.fed is in
      carried_on s t a note act k.0 k.1.0 k.1.1 (λ going. let l = f.4 going in (l.sides, l.keeps))

  fed_next : (told : Bool) (s t : S) (o : Opening) (log : List Entry) (a : Act) (note : Bytes) → StandsAt told s o log → Acted s t a note
      → Writes (opening_hall o.world o.logged) first (map act_of log ++ a ∷ []) (hall t) (writing t) → told ≡ true → FedAt t o (log ++ noted_at (time told t) a note ∷ [])
  fed_next told s t o log a note stands act writes is = by (hall t).stopped refl
    where
      none_noted : (hall t).stopped ≡ true → (note ≡ []) ⊎ ((is_rewrite a.0 ≡ true) × ((hall t).stopped ≡ false)) → note ≡ []
      none_noted stops (inl none) = none
      none_noted stops (inr goes) = absurd (true≢false (sym stops ∙ goes.1))

      -- where the hall goes on
      goes_on : (hall s).stopped ≡ false → (hall t).stopped ≡ false → (f : FedAt s o log) (l : IsLast f.0 (writing s).generation (is_sided s)) (x : FeedsOn hall writing is_sided s t note l.sides)
          → (note ≡ []) ⊎ IsNoted (writing t).generation (hall t).world x.sides.batches note → FedAt t o (log ++ noted_at (time told t) a note ∷ [])
      goes_on on going f l x (inl none) = (
        f.0,
        f.1,
        f.2,
        fed_last (Carried t) f.0 (opening_hall o.world o.logged) first [] log (noted_at (time told t) a note)
            (fed_lasting (Carried s) (Carried t) f.0 (opening_hall o.world o.logged) first [] log (carry told s t o log a note stands act is) f.3) (inl none),
        λ _. last_still f.0 (writing s).generation (writing t).generation l.sides.batches x.sides.batches l.here l.none x.grows x.sides (is_sided t) refl x.keeps,
      )
      goes_on on going f l x (inr noted) = (
        with_log (writing t).generation x.sides.batches f.0,
        whole_more f.0 (writing s).generation (writing t).generation l.sides.batches x.sides.batches l.here l.none x.grows f.1 noted.given.makes.whole,
        told_more f.0 (writing s).generation (writing t).generation l.sides.batches x.sides.batches l.here l.none x.grows (GrewFrom found)
            (λ before earlier was. grows_on before (writing s).generation (writing t).generation earlier l.sides.batches x.sides.batches ((stands.carried is before earlier was).now on l.sides l.keeps) x.grows) f.2,
        fed_more f.0 (writing s).generation (writing t).generation l.sides.batches x.sides.batches l.here l.none x.grows (Carried s) (Carried t) (opening_hall o.world o.logged) first log (noted_at (time told t) a note) (hall t) (writing t) refl
            (carry told s t o log a note stands act is) f.3 writes noted (now_carried told t going (act.told ∙ (stands.kept is).0) x.sides x.keeps is),
        λ _. last_more f.0 (writing s).generation (writing t).generation l.sides.batches x.sides.batches l.here l.none x.grows x.sides (is_sided t) refl x.keeps,
      )

      by : (b : Bool) → (hall t).stopped ≡ b → FedAt t o (log ++ noted_at (time told t) a note ∷ [])
      by true stops =
          let f = stands.fed is in (
            f.0,
            f.1,
            f.2,
            fed_last (Carried t) f.0 (opening_hall o.world o.logged) first [] log (noted_at (time told t) a note)
                (fed_lasting (Carried s) (Carried t) f.0 (opening_hall o.world o.logged) first [] log (carry told s t o log a note stands act is) f.3) (inl (none_noted stops act.noted)),
            λ going. absurd (true≢false (sym stops ∙ going)),
          )
      by false going =
          let f = stands.fed is in
          let k = stands.kept is in
          let on = went_on (hall s) (hall t) a.0 a.1 act.step going in
          let l = f.4 on in
          let x = act.fed going k.1.0 k.1.1 l.sides l.keeps in
          goes_on on going f l x x.noted

  -- one act more
  pub one_more : (told : Bool) (s t : S) (o : Opening) (log : List Entry) (a : Act) (note : Bytes) → StandsAt told s o log → Acted s t a note → StandsAt told t o (log ++ noted_at (time told t) a note ∷ [])
  one_more told s t o log a note stands act =
      let e = noted_at (time told t) a note in
      let writes = writes_last (map act_of log) a (opening_hall o.world o.logged) (hall s) (hall t) first (writing s) (writing t) stands.writes act.step act.writes in
      record {
        reached = leads_on (opening_hall o.world o.logged) (hall s) (hall t) o.moment o.count false log e stands.reached act.step (follows told s t o log a note stands act);
        writes = subst (λ (l : List Act). Writes (opening_hall o.world o.logged) first l (hall t) (writing t)) (sym (acts_last log e)) writes;
        sound = stands.sound;
        past = omega (arith, moment_last o.moment log e);
        counted = omega (arith, count_last o.count log e);
        out = act.out ∙ ap (λ (b : Bool). b || is_retire a.0) stands.out ∙ sym (list_any-append is_retirement log (e ∷ []) ∙ ap (λ (b : Bool). list_any is_retirement log || b) (one (is_retire a.0)));
        still = λ _. (moment_last o.moment log e, count_last o.count log e);
        kept = kept_more told s t o log a note stands act;
        carried = λ is before earlier was. carry told s t o log a note stands act is begun before earlier (stands.carried is before earlier was);
        fed = fed_next told s t o log a note stands act writes;
      }
    where
      one : (b : Bool) → (b || false) ≡ b
      one true = refl
      one false = refl

  -- acts that others may follow, each as an entry of its own time
  record Fronts (told : Bool) (s : S) (o : Opening) (log : List Entry) (acts : List Act) : Type 0 where
    entries : List Entry
    are : map act_of entries ≡ acts
    plain : ArePlain entries
    stands : StandsAt told s o (log ++ entries)

  front_own : (told : Bool) (acts : List Act) (s t : S) (o : Opening) (log : List Entry) → StandsAt told s o log → Fronted acts s t → Fronts told t o log acts
  front_own told [] s t o log stands made = record {
    entries = [];
    are = refl;
    plain = tt;
    stands = subst (λ (l : List Entry). StandsAt told t o l) (sym (append-nil log)) (subst (λ (x : S). StandsAt told x o log) (sym made) stands);
  }
  front_own told (a ∷ acts) s t o log stands made =
      let e = entry_at (time told made.0) a in
      let rest = front_own told acts made.0 t o (log ++ e ∷ []) (one_more told s made.0 o log a [] stands made.1) made.4 in
      record {
        entries = e ∷ rest.entries;
        are = ap (λ (l : List Act). a ∷ l) rest.are;
        plain = (made.2, gives_none e made.3 (gives_disk e) refl, rest.plain);
        stands = subst (λ (l : List Entry). StandsAt told t o l) (append_assoc log (e ∷ []) rest.entries) rest.stands;
      }

  front_stays : (acts : List Act) (s t : S) → Fronted acts s t → is_out s ≡ true → disk t ≡ disk s
  front_stays [] s t made out = ap disk made
  front_stays (a ∷ acts) s t made out = front_stays acts made.0 t made.4 (made.1.out ∙ ap (λ (b : Bool). b || is_retire a.0) out) ∙ made.1.stays out

  module _ (from_earlier : (d : D) (t u : ℕ) (c : Sides) → t ≤ u → u ≤ moment d → left_since d u c → left_since d t c) where
    kept_raised : (told : Bool) (t : S) (o : Opening) (log es : List Entry) → StandsAt told t o (log ++ es) → Raises (time told t) o log es → told ≡ true → Kept t o (log ++ map (raised (time told t)) es)
    kept_raised false t o log es stands raises is = absurd (true≢false (sym is))
    kept_raised true t o log es stands raises is =
        let k = stands.kept refl in
        (k.0, (k.1.0, k.1.1, raise_stood (time true t) o log es raises (hall t) stands.reached images moment left_since (disk t) k.1.0 (from_earlier (disk t)) (omega arith) k.1.2))

    -- the same, each as an entry that ended when the last of them did
    front_stands : (told : Bool) (acts : List Act) (s t : S) (o : Opening) (log : List Entry) → StandsAt told s o log → Fronted acts s t → StandsAt told t o (log ++ map (entry_at (time told t)) acts)
    front_stands told acts s t o log stands made =
        let own = front_own told acts s t o log stands made in
        let es = own.entries in
        let u = time told t in
        let raises : Raises u o log es = record {
          plain = own.plain;
          later = own.stands.past;
          more = own.stands.counted;
          still = λ out.
              let is = is_still told s o log stands out in
              let same = front_stays acts s t made is in
              (ap (λ (d : D). (time_of moment faults told d).moment) same ∙ sym (stands.still is).0, ap (λ (d : D). (time_of moment faults told d).count) same ∙ sym (stands.still is).1);
        } in
        subst (λ (l : List Entry). StandsAt told t o (log ++ l)) (raised_are u es ∙ ap (λ (l : List Act). map (entry_at u) l) own.are) (record {
          reached = raise_reaches u o log es raises (hall t) own.stands.reached;
          writes = subst (λ (l : List Act). Writes (opening_hall o.world o.logged) first l (hall t) (writing t)) (sym (raised_acts u log es)) own.stands.writes;
          sound = stands.sound;
          past = raised_past u o log es raises (hall t) own.stands.reached u.moment (omega arith) own.stands.past;
          counted = raised_counted u u.count log es o.count (omega arith) own.stands.counted;
          out = own.stands.out ∙ list_any-append is_retirement log es ∙ ap (λ (b : Bool). list_any is_retirement log || b) (sym (raised_retired u es)) ∙ sym (list_any-append is_retirement log (map (raised u) es));
          still = λ is. (ended_moment u log es o.moment (own.stands.still is).0, ended_count u log es o.count (own.stands.still is).1);
          kept = kept_raised told t o log es own.stands raises;
          carried = own.stands.carried;
          fed = λ is. let f = own.stands.fed is in (f.0, f.1, f.2, fed_raised u (Carried t) f.0 (opening_hall o.world o.logged) first [] log es f.3, f.4);
        })

    -- a turn
    pub turn_stands : (told : Bool) (acts : List Act) (note : Bytes) (at : D) (s t : S) (o : Opening) (log : List Entry) → StandsAt told s o log
        → TurnBy hall writing disk is_out is_log is_sided crashes images moment left_since faults acts note at s t
        → StandsAt told t o (log ++ entries_at (time_of moment faults told at) (time told t) note acts)
    turn_stands told acts note at s t o log stands (inl none) =
        subst (λ (l : List Act). StandsAt told t o (log ++ entries_at (time_of moment faults told at) (time told t) note l)) (sym none.0)
        (subst (λ (l : List Entry). StandsAt told t o l) (sym (append-nil log)) (subst (λ (x : S). StandsAt told x o log) (sym none.1) stands))
    turn_stands told acts note at s t o log stands (inr e) =
        let mid = e.mid in
        let front = front_stands told e.front s mid o log stands e.made in
        let all = one_more told mid t o (log ++ map (entry_at (time told mid)) e.front) e.last note front e.act in
        let began : time_of moment faults told at ≡ time told mid = ap (λ (d : D). time_of moment faults told d) e.began in
        subst (λ (l : List Act). StandsAt told t o (log ++ entries_at (time_of moment faults told at) (time told t) note l)) (sym e.are)
        (subst (λ (u : Time). StandsAt told t o (log ++ entries_at u (time told t) note (e.front ++ e.last ∷ []))) (sym began)
        (subst (λ (l : List Entry). StandsAt told t o (log ++ l)) (sym (entries_end (time told mid) (time told t) note e.front e.last))
        (subst (λ (l : List Entry). StandsAt told t o l) (append_assoc log (map (entry_at (time told mid)) e.front) (noted_at (time told t) e.last note ∷ [])) all)))
