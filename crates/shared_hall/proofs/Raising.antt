-- Entries that end later: the history leads to the same hall, and a disk that is safe for it stays so.
use Rattle.std.proofs.Common.{◌≡◌, ◌≤◌, ◌||◌, ◌==◌, ◌+◌, ℕ, zero, suc, Bool, true, false, List, [], ◌∷◌, ◌++◌, length, map, take, refl, sym, ap, ◌∙◌, subst, arith, true≢false}
use Rattle.std.specs.Prelude.{if◌then◌else◌}
use Rattle.std.proofs.lemmas.List.{take_all}
use Rattle.outside.specs.Sides.{Sides}
use Rattle.world_model.specs.Halls.{Hall}
use Rattle.world_model.specs.Histories.{opening_hall, Follows, Leads, Reaches, gives_disk, acknowledges, acked_count, is_log_fault}
use Rattle.world_model.specs.Seats.{Act, act_of}
use Rattle.world_model.specs.declared.events.Entry.{Entry}
use Rattle.world_model.specs.declared.events.Opening.{Opening}
use Rattle.log_record.specs.Safety.{moment_after, count_after, out_after, Safe}
use Rattle.log_record.specs.Laws.{Stood}
use Rattle.log_record.specs.Journals.{Journal}
use Rattle.log_record.specs.LeadingLaws.{not_before, moments_ascend}
use Rattle.shared_hall.specs.Times.{Time, entry_at}

-- the entry as one that ends at this time
abbrev pub raised : Time → Entry → Entry
raised t e = entry_at t (act_of e)

-- entries in which the log did not fail and the disk was not given out
abbrev pub ArePlain : List Entry → Type 0
ArePlain [] = Unit {0}
ArePlain (e ∷ es) = (is_log_fault e.outcome ≡ false) × (gives_disk e ≡ false) × ArePlain es

same_out : (is_out : Bool) (e : Entry) → gives_disk e ≡ false → (is_out || gives_disk e) ≡ is_out
same_out true e none = refl
same_out false e none = none

-- the raised entries lead on
raise_leads : (t : Time) (n : ℕ) (es : List Entry) (h last : Hall) (m c m' c' : ℕ) (is_out : Bool) → ArePlain es → m' ≤ t.moment → c' ≤ t.count
    → (is_out ≡ true → (t.moment ≡ m') × (t.count ≡ c')) → Leads h m c is_out (take n es) last → Leads h m' c' is_out (take n (map (raised t) es)) last
raise_leads t zero es h last m c m' c' is_out plain later more still leads = leads
raise_leads t (suc n) [] h last m c m' c' is_out plain later more still leads = leads
raise_leads t (suc n) (e ∷ es) h last m c m' c' is_out plain later more still leads =
    let follows : Follows m' c' is_out (raised t e) = record {
      later = later;
      not_fallen = more;
      moment_stays = λ out. (still out).0;
      count_stays = λ out. (still out).1;
      cause = λ failed. absurd (true≢false (sym failed ∙ plain.0));
      note = λ _. refl;
    } in (
      leads.0,
      leads.1,
      follows,
      raise_leads t n es leads.0 last e.moment e.count t.moment t.count (is_out || gives_disk e) plain.2 (omega arith) (omega arith) (λ _. (refl, refl)) leads.3,
    )

-- behind other entries, too
pub raise_behind : (t : Time) (n : ℕ) (before es : List Entry) (h last : Hall) (m c : ℕ) (is_out : Bool) → ArePlain es
    → moment_after m before ≤ t.moment → count_after c before ≤ t.count
    → (out_after is_out before ≡ true → (t.moment ≡ moment_after m before) × (t.count ≡ count_after c before))
    → Leads h m c is_out (take n (before ++ es)) last → Leads h m c is_out (take n (before ++ map (raised t) es)) last
raise_behind t n [] es h last m c is_out plain later more still leads = raise_leads t n es h last m c m c is_out plain later more still leads
raise_behind t zero (b ∷ before) es h last m c is_out plain later more still leads = leads
raise_behind t (suc n) (b ∷ before) es h last m c is_out plain later more still leads =
    (leads.0, leads.1, leads.2, raise_behind t n before es leads.0 last b.moment b.count (is_out || gives_disk b) plain later more still leads.3)

-- and later
raised_moment : (t : Time) (n : ℕ) (es : List Entry) → moment_after t.moment (take n (map (raised t) es)) ≡ t.moment
raised_moment t zero es = refl
raised_moment t (suc n) [] = refl
raised_moment t (suc n) (e ∷ es) = raised_moment t n es

raised_later : (t : Time) (n : ℕ) (before es : List Entry) (h last : Hall) (m c : ℕ) (is_out : Bool) → moment_after m (before ++ es) ≤ t.moment
    → Leads h m c is_out (before ++ es) last → moment_after m (take n (before ++ es)) ≤ moment_after m (take n (before ++ map (raised t) es))
raised_later t zero before es h last m c is_out later leads = omega arith
raised_later t (suc n) [] [] h last m c is_out later leads = omega arith
raised_later t (suc n) [] (e ∷ es) h last m c is_out later leads =
    omega (arith, raised_moment t n es, later, moments_ascend h last m c is_out (e ∷ es) leads (suc n))
raised_later t (suc n) (b ∷ before) es h last m c is_out later leads =
    raised_later t n before es leads.0 last b.moment b.count (is_out || gives_disk b) later leads.3

-- who is acknowledged is told by the acts
same_mark : (d e : Entry) → act_of d ≡ act_of e → acknowledges d ≡ acknowledges e
same_mark d e is = ap (λ (a : Act). acknowledges (record { event = a.0; outcome = a.1; note = []; moment = 0; count = 0 })) is

same_acked : (xs ys : List Entry) → map act_of xs ≡ map act_of ys → acked_count acknowledges xs ≡ acked_count acknowledges ys
same_acked [] [] is = refl
same_acked [] (y ∷ ys) is = absurd (cc)
same_acked (x ∷ xs) [] is = absurd (cc)
same_acked (x ∷ xs) (y ∷ ys) is =
    let here : act_of x ≡ act_of y = cc in
    let more : map act_of xs ≡ map act_of ys = cc in
    let n = same_acked xs ys more in
    ap (λ (k : ℕ). if k == 0 then (if acknowledges x then 1 else 0) else k + 1) n
    ∙ ap (λ (g : Bool). if acked_count acknowledges ys == 0 then (if g then 1 else 0) else acked_count acknowledges ys + 1) (same_mark x y here)

map_taken : {A B : Type 0} (f : A → B) (n : ℕ) (xs : List A) → map f (take n xs) ≡ take n (map f xs)
map_taken f zero xs = refl
map_taken f (suc n) [] = refl
map_taken {A} {B} f (suc n) (x ∷ xs) = ap (λ (l : List B). f x ∷ l) (map_taken f n xs)

raised_acts : (t : Time) (es : List Entry) → map act_of (map (raised t) es) ≡ map act_of es
raised_acts t [] = refl
raised_acts t (e ∷ es) = ap (λ (l : List Act). act_of e ∷ l) (raised_acts t es)

behind_acts : (t : Time) (before es : List Entry) → map act_of (before ++ map (raised t) es) ≡ map act_of (before ++ es)
behind_acts t [] es = raised_acts t es
behind_acts t (b ∷ before) es = ap (λ (l : List Act). act_of b ∷ l) (behind_acts t before es)

raised_acked : (t : Time) (n : ℕ) (before es : List Entry)
    → acked_count acknowledges (take n (before ++ map (raised t) es)) ≡ acked_count acknowledges (take n (before ++ es))
raised_acked t n before es = same_acked (take n (before ++ map (raised t) es)) (take n (before ++ es))
    (map_taken act_of n (before ++ map (raised t) es) ∙ ap (λ (l : List Act). take n l) (behind_acts t before es) ∙ sym (map_taken act_of n (before ++ es)))

raised_length : (t : Time) (before es : List Entry) → length (before ++ map (raised t) es) ≡ length (before ++ es)
raised_length t [] [] = refl
raised_length t [] (e ∷ es) = ap suc (raised_length t [] es)
raised_length t (b ∷ before) es = ap suc (raised_length t before es)

-- neither moments nor counts fall
front_moment : (before es : List Entry) (h last : Hall) (m c : ℕ) (is_out : Bool) → Leads h m c is_out (before ++ es) last → moment_after m before ≤ moment_after m (before ++ es)
front_moment [] es h last m c is_out leads = not_before h last m c is_out es leads
front_moment (b ∷ before) es h last m c is_out leads = front_moment before es leads.0 last b.moment b.count (is_out || gives_disk b) leads.3

count_rises : (es : List Entry) (h last : Hall) (m c : ℕ) (is_out : Bool) → Leads h m c is_out es last → c ≤ count_after c es
count_rises [] h last m c is_out leads = omega arith
count_rises (e ∷ es) h last m c is_out leads = omega (arith, leads.2.not_fallen, count_rises es leads.0 last e.moment e.count (is_out || gives_disk e) leads.3)

front_count : (before es : List Entry) (h last : Hall) (m c : ℕ) (is_out : Bool) → Leads h m c is_out (before ++ es) last → count_after c before ≤ count_after c (before ++ es)
front_count [] es h last m c is_out leads = count_rises es h last m c is_out leads
front_count (b ∷ before) es h last m c is_out leads = front_count before es leads.0 last b.moment b.count (is_out || gives_disk b) leads.3

-- a history with some entries of its end raised to one time, which is not before theirs
pub record Raises (t : Time) (o : Opening) (before es : List Entry) : Type 0 where
  pub plain : ArePlain es
  pub later : moment_after o.moment (before ++ es) ≤ t.moment
  pub more : count_after o.count (before ++ es) ≤ t.count
  pub still : out_after false before ≡ true → (t.moment ≡ moment_after o.moment before) × (t.count ≡ count_after o.count before)

module _ (t : Time) (o : Opening) (before es : List Entry) (r : Raises t o before es) (h : Hall) (reached : Reaches o (before ++ es) h) where
  abbrev start : Hall
  start = opening_hall o.world o.logged

  raise_some : (n : ℕ) (g : Hall) → Reaches o (take n (before ++ es)) g → Reaches o (take n (before ++ map (raised t) es)) g
  raise_some n g leads = raise_behind t n before es start g o.moment o.count false r.plain
      (omega (arith, r.later, front_moment before es start h o.moment o.count false reached))
      (omega (arith, r.more, front_count before es start h o.moment o.count false reached)) r.still leads

  pub raise_reaches : Reaches o (before ++ map (raised t) es) h
  raise_reaches =
      let n = length (before ++ es) in
      let old : take n (before ++ es) ≡ before ++ es = take_all n (before ++ es) (omega arith) in
      let new : take n (before ++ map (raised t) es) ≡ before ++ map (raised t) es = take_all n (before ++ map (raised t) es) (omega (arith, raised_length t before es)) in
      subst (λ (l : List Entry). Reaches o l h) new (raise_some n h (subst (λ (l : List Entry). Reaches o l h) (sym old) reached))

  pub raised_past : (most : ℕ) → t.moment ≤ most → moment_after o.moment (before ++ es) ≤ most → moment_after o.moment (before ++ map (raised t) es) ≤ most
  raised_past most within past = behind before o.moment past
    where
      last : (m : ℕ) (fs : List Entry) → moment_after m fs ≤ most → moment_after m (map (raised t) fs) ≤ most
      last m [] le = le
      last m (f ∷ fs) le = let n = raised_moment t (length (map (raised t) fs)) fs in
          let all : take (length (map (raised t) fs)) (map (raised t) fs) ≡ map (raised t) fs = take_all (length (map (raised t) fs)) (map (raised t) fs) (omega arith) in
          subst (λ (l : List Entry). moment_after t.moment l ≤ most) all (omega (arith, n, within))

      behind : (xs : List Entry) (m : ℕ) → moment_after m (xs ++ es) ≤ most → moment_after m (xs ++ map (raised t) es) ≤ most
      behind [] m le = last m es le
      behind (x ∷ xs) m le = behind xs x.moment le

  -- a disk that is safe stays so
  pub raise_safe : {D : Type 0} (moment : D → ℕ) (left_since : D → ℕ → Sides → Type 0) (disk : D)
      → ((s u : ℕ) (c : Sides) → s ≤ u → u ≤ moment disk → left_since disk u c → left_since disk s c)
      → t.moment ≤ moment disk → Safe left_since disk o (before ++ es) → Safe left_since disk o (before ++ map (raised t) es)
  unfolding Safe
  raise_safe moment left_since disk from_earlier within safe n few c left =
      let new = before ++ map (raised t) es in
      let same = raised_length t before es in
      let at_once : moment_after o.moment new ≤ moment disk = raised_past (moment disk) within (omega (arith, r.later, within)) in
      let ends : moment_after o.moment (take n new) ≤ moment disk = omega (arith, at_once, moments_ascend start h o.moment o.count false new raise_reaches n) in
      let found = safe n (omega (arith, few, same)) c (from_earlier (moment_after o.moment (take n (before ++ es))) (moment_after o.moment (take n new)) c
      (raised_later t n before es start h o.moment o.count false r.later reached) ends left) in
      record {
        count = found.count;
        at_least = omega (arith, found.at_least, raised_acked t n before es);
        at_most = omega (arith, found.at_most, same);
        world = found.world;
        passed = (found.passed.0, raise_some found.count found.passed.0 found.passed.1, found.passed.2);
        recovers = found.recovers;
      }

  pub raise_stood : {D : Type 0} (images : D → Sides → Type 0) (moment : D → ℕ) (left_since : D → ℕ → Sides → Type 0) (disk : D) (j : Journal)
      → ((s u : ℕ) (c : Sides) → s ≤ u → u ≤ moment disk → left_since disk u c → left_since disk s c)
      → t.moment ≤ moment disk → Stood images moment left_since disk o (before ++ es) h j
      → Stood images moment left_since disk o (before ++ map (raised t) es) h j
  raise_stood images moment left_since disk j from_earlier within s = record {
    reached = raise_reaches;
    past = raised_past (moment disk) within s.past;
    safe = raise_safe moment left_since disk from_earlier within s.safe;
    log = s.log;
  }
