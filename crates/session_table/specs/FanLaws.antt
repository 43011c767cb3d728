-- Laws of what was done to sessions, and of what is staged in them.
use Rattle.std.proofs.Common.{◌≡◌, inl, inr, ℕ, zero, suc, ◌+◌, ◌≤◌, refl, sym, ◌∙◌, ap, subst, List, [], ◌∷◌, ◌++◌, length, arith}
use Rattle.std.specs.List.{list_any}
use Rattle.std.specs.Prelude.{Bool, true, false, Some, if◌then◌else◌, map, slice_get, slice_set}
use Rattle.byte_text.specs.Names.{Bytes}
use Rattle.fence_model.specs.Messages.{Message, messages}
use Rattle.fence_model.specs.Writes.{Write}
use Rattle.world_data.specs.declared.worlds.World.{World}
use Rattle.world_model.specs.Subscriptions.{Sub, same_sub, with_sub}
use Rattle.world_model.specs.Halls as halls
use Rattle.world_model.specs.Halls.{Hall, apply_all, placed_each}
use Rattle.delivery_model.specs.Staging.{HaveOwnNumbers, after_all, records_len, listens, frames_each, heard}
use Rattle.delivery_model.specs.Applying.{apply_hears, suffices}
use Rattle.delivery_model.specs.Silent.{heard_append}
use Rattle.session_table.specs.Mail.{Mail, IsStaged, Stages, has_room_left}
use Rattle.session_table.specs.Sessions.{State, session_of, AreSoundSubs, is_sound_sub}
use Rattle.session_table.specs.Fans.{Done, DoneTo, IsBrought, AreBrought, IsPlaced, ArePlaced, AreBare, HaveStaged}

pub append_frames : (a b c : List Bytes) → (a ++ b) ++ c ≡ a ++ (b ++ c)
append_frames [] b c = refl
append_frames (x ∷ a) b c = ap (λ (fs : List Bytes). x ∷ fs) (append_frames a b c)

pub all_there : (fs : List Bytes) → fs ++ [] ≡ fs
all_there [] = refl
all_there (f ∷ fs) = ap (λ (gs : List Bytes). f ∷ gs) (all_there fs)

-- one staging behind another
pub stages_both : (a b : List Bytes) (m n o : Mail) → Stages a m n → Stages b n o → Stages (a ++ b) m o
stages_both a b m n o p q = record {
  behind =
      λ all is. subst (λ (fs : List Bytes). IsStaged o fs) (append_frames all a b) (q.behind (all ++ a) (p.behind all is));
}

pub stages_none : (m : Mail) → Stages [] m m
stages_none m = record { behind = λ all is. subst (λ (fs : List Bytes). IsStaged m fs) (sym (all_there all)) is }

-- where there is no room left, what is staged does for all that comes behind it
pub stages_enough : (fs : List Bytes) (m : Mail) → has_room_left m ≡ false → Stages fs m m
stages_enough fs m room = record {
  behind = λ all is. record {
    rest = is.rest ++ fs;
    front = ap (λ (x : List Bytes). x ++ fs) is.front
        ∙ append_frames m.staged is.rest fs;
    enough = inr room;
  };
}

-- done to each in turn

pub done_start : (R : State → State → Type 0) (ss : List State) → DoneTo R zero ss ss
done_start R [] = tt
done_start R (s ∷ ss) = (refl, done_start R ss)

pub done_step : (R : State → State → Type 0) (n : ℕ) (old new : List State) (s v : State) → DoneTo R n old new → slice_get new n ≡ Some s → R s v
    → DoneTo R (suc n) old (slice_set new n v)
done_step R n [] [] s v d at r = absurd (cc)
done_step R n [] (y ∷ new) s v d at r = absurd d
done_step R n (x ∷ old) [] s v d at r = absurd (cc)
done_step R zero (x ∷ old) (y ∷ new) s v d at r =
    let is : y ≡ s = cc in
    let same : s ≡ x = sym is ∙ d.0 in
    (subst (λ (z : State). R z v) same r, d.1)
done_step R (suc n) (x ∷ old) (y ∷ new) s v d at r = (d.0, done_step R n old new s v d.1 at r)

plus_one : (n : ℕ) → suc n ≡ n + 1
plus_one n = omega arith

pub done_next : (R : State → State → Type 0) (n : ℕ) (old new : List State) (s v : State) → DoneTo R n old new → slice_get new n ≡ Some s → R s v
    → DoneTo R (n + 1) old (slice_set new n v)
done_next R n old new s v d at r = subst (λ (k : ℕ). DoneTo R k old (slice_set new n v)) (plus_one n) (done_step R n old new s v d at r)

pub done_length : (R : State → State → Type 0) (n : ℕ) (old new : List State) → DoneTo R n old new → length new ≡ length old
done_length R n [] [] d = refl
done_length R n [] (y ∷ new) d = absurd d
done_length R n (x ∷ old) [] d = absurd d
done_length R zero (x ∷ old) (y ∷ new) d = let ih = done_length R zero old new d.1 in omega (arith, ih)
done_length R (suc n) (x ∷ old) (y ∷ new) d = let ih = done_length R n old new d.1 in omega (arith, ih)

pub done_all : (R : State → State → Type 0) (n : ℕ) (old new : List State) → length old ≤ n → DoneTo R n old new → Done R old new
done_all R n [] [] le d = tt
done_all R n [] (y ∷ new) le d = absurd d
done_all R n (x ∷ old) [] le d = absurd d
done_all R zero (x ∷ old) (y ∷ new) le d = absurd (omega (arith, le))
done_all R (suc n) (x ∷ old) (y ∷ new) le d = (d.0, done_all R n old new (omega (arith, le)) d.1)

-- the sessions of the hall stay where each does

pub same_set : (ss : List State) (n : ℕ) (s v : State) → slice_get ss n ≡ Some s → session_of v ≡ session_of s
    → map session_of (slice_set ss n v) ≡ map session_of ss
same_set [] n s v at e = absurd (cc)
same_set (x ∷ ss) zero s v at e =
    let is : x ≡ s = cc in
    ap (λ (h : halls.Session). h ∷ map session_of ss) (e ∙ ap session_of (sym is))
same_set (x ∷ ss) (suc n) s v at e = ap (λ (hs : List halls.Session). session_of x ∷ hs) (same_set ss n s v at e)

module _ (R : State → State → Type 0) (keeps : (s t : State) → R s t → session_of t ≡ session_of s) where
  pub same_done_to : (n : ℕ) (old new : List State) → DoneTo R n old new → map session_of new ≡ map session_of old
  same_done_to n [] [] d = refl
  same_done_to n [] (y ∷ new) d = absurd d
  same_done_to n (x ∷ old) [] d = absurd d
  same_done_to zero (x ∷ old) (y ∷ new) d = ap (λ (h : halls.Session). h ∷ map session_of new) (ap session_of d.0)
      ∙ ap (λ (hs : List halls.Session). session_of x ∷ hs) (same_done_to zero old new d.1)
  same_done_to (suc n) (x ∷ old) (y ∷ new) d = ap (λ (h : halls.Session). h ∷ map session_of new) (keeps x y d.0)
      ∙ ap (λ (hs : List halls.Session). session_of x ∷ hs) (same_done_to n old new d.1)

-- messages behind one another

pub each_append : (ms ns : List Message) (subs : List Sub) → frames_each (ms ++ ns) subs ≡ frames_each ms subs ++ frames_each ns subs
each_append [] ns subs = refl
each_append (m ∷ ms) ns subs =
    ap (λ (fs : List Bytes). halls.frames_for m subs ++ fs) (each_append ms ns subs)
    ∙ sym (append_frames (halls.frames_for m subs) (frames_each ms subs) (frames_each ns subs))

one_both : (ms ns : List Message) (s t u : State) → IsBrought ms s t → IsBrought ns t u → IsBrought (ms ++ ns) s u
one_both ms ns s t u p q =
    let subs = listens (session_of s) in
    let second : Stages (frames_each ns subs) t.mail u.mail =
    subst (λ (h : halls.Session). Stages (frames_each ns (listens h)) t.mail u.mail) p.same q.staged in
    record {
      same = q.same ∙ p.same;
      staged = subst (λ (fs : List Bytes). Stages fs s.mail u.mail) (sym (each_append ms ns subs))
          (stages_both (frames_each ms subs) (frames_each ns subs) s.mail t.mail u.mail p.staged second);
    }

pub brought_both : (ms ns : List Message) (a b c : List State) → AreBrought ms a b → AreBrought ns b c → AreBrought (ms ++ ns) a c
brought_both ms ns [] [] [] p q = tt
brought_both ms ns [] [] (z ∷ c) p q = absurd q
brought_both ms ns [] (y ∷ b) c p q = absurd p
brought_both ms ns (x ∷ a) [] c p q = absurd p
brought_both ms ns (x ∷ a) (y ∷ b) [] p q = absurd q
brought_both ms ns (x ∷ a) (y ∷ b) (z ∷ c) p q = (one_both ms ns x y z p.0 q.0, brought_both ms ns a b c p.1 q.1)

pub brought_none : (ss : List State) → AreBrought [] ss ss
brought_none [] = tt
brought_none (s ∷ ss) = (record { same = refl; staged = stages_none s.mail }, brought_none ss)

-- what is staged, and what is placed of it

bare_suffice : (m : Mail) → m.staged ≡ [] → IsStaged m []
bare_suffice m e = record { rest = []; front = sym (ap (λ (fs : List Bytes). fs ++ []) e); enough = inl refl }

pub bare_staged : (w : World) (ss : List State) → AreBare ss → HaveStaged w [] ss
bare_staged w [] all = tt
bare_staged w (s ∷ ss) all = (bare_suffice s.mail all.0, bare_staged w ss all.1)

one_more : (w : World) (a : List Write) (d : Write) (s t : State) → IsStaged s.mail (heard w a (listens (session_of s)))
    → IsBrought (messages (after_all w a) d) s t → IsStaged t.mail (heard w (a ++ d ∷ []) (listens (session_of t)))
one_more w a d s t is b =
    let subs = listens (session_of s) in
    let last = frames_each (messages (after_all w a) d) subs in
    let whole : heard w (a ++ d ∷ []) subs ≡ heard w a subs ++ last = heard_append w a (d ∷ []) subs
    ∙ ap (λ (fs : List Bytes). heard w a subs ++ fs) (all_there last) in
    subst (λ (h : halls.Session). IsStaged t.mail (heard w (a ++ d ∷ []) (listens h))) (sym b.same)
    (subst (λ (fs : List Bytes). IsStaged t.mail fs) (sym whole) (b.staged.behind (heard w a subs) is))

-- one write more
pub staged_more : (w : World) (a : List Write) (d : Write) (old new : List State) → HaveStaged w a old
    → AreBrought (messages (after_all w a) d) old new → HaveStaged w (a ++ d ∷ []) new
staged_more w a d [] [] all b = tt
staged_more w a d [] (t ∷ new) all b = absurd b
staged_more w a d (s ∷ old) [] all b = absurd b
staged_more w a d (s ∷ old) (t ∷ new) all b = (one_more w a d s t all.0 b.0, staged_more w a d old new all.1 b.1)

placed_one : (w : World) (writes : List Write) (s t : State) → IsPlaced s t → IsStaged s.mail (heard w writes (listens (session_of s)))
    → session_of t ≡ placed_each (session_of s) (heard w writes (listens (session_of s)))
placed_one w writes s t p is = p.same ∙ sym (suffices (session_of s) [] (heard w writes (listens (session_of s))) s.mail.staged is)

pub placed_are : (w : World) (writes : List Write) (old new : List State) → ArePlaced old new → HaveStaged w writes old
    → map session_of new ≡ map (λ s. placed_each s (heard w writes (listens s))) (map session_of old)
placed_are w writes [] [] p all = refl
placed_are w writes [] (t ∷ new) p all = absurd p
placed_are w writes (s ∷ old) [] p all = absurd p
placed_are w writes (s ∷ old) (t ∷ new) p all =
    ap (λ (h : halls.Session). h ∷ map session_of new) (placed_one w writes s t p.0 all.0)
    ∙ ap (λ (hs : List halls.Session). placed_each (session_of s) (heard w writes (listens (session_of s))) ∷ hs)
    (placed_are w writes old new p.1 all.1)

-- so the hall is as the writes leave it
pub hall_placed : (h : Hall) (writes : List Write) (old new : List State) → HaveOwnNumbers h.sessions → h.sessions ≡ map session_of old
    → ArePlaced old new → HaveStaged h.world writes old
    → apply_all h writes ≡ record h { world = after_all h.world writes; logged = h.logged + records_len writes; sessions = map session_of new }
hall_placed h writes old new own is p all =
    apply_hears h writes own
    ∙ ap (λ (ss : List halls.Session). record h { world = after_all h.world writes; logged = h.logged + records_len writes; sessions = ss })
    (ap (map (λ s. placed_each s (heard h.world writes (listens s)))) is ∙ sym (placed_are h.world writes old new p all))

pub bare_all : (R : State → State → Type 0) → ((s t : State) → R s t → t.mail.staged ≡ []) → (old new : List State) → Done R old new → AreBare new
bare_all R bare [] [] d = tt
bare_all R bare [] (t ∷ new) d = absurd d
bare_all R bare (s ∷ old) [] d = absurd d
bare_all R bare (s ∷ old) (t ∷ new) d = (bare s t d.0, bare_all R bare old new d.1)

-- one message alone
pub one_brought : (m : Message) (s t : State) → session_of t ≡ session_of s → Stages (halls.frames_for m (listens (session_of s))) s.mail t.mail
    → IsBrought (m ∷ []) s t
one_brought m s t same staged =
    record {
      same = same;
      staged = subst (λ (fs : List Bytes). Stages fs s.mail t.mail)
          (sym (all_there (halls.frames_for m (listens (session_of s))))) staged;
    }

-- subscriptions stay sound with one more
pub sound_with_sub : (held : List Sub) (s : Sub) → AreSoundSubs held → is_sound_sub s ≡ true → AreSoundSubs (with_sub held s)
sound_with_sub held s all sound = by (list_any (same_sub s) held)
  where
    added : (subs : List Sub) → AreSoundSubs subs → AreSoundSubs (subs ++ s ∷ [])
    added [] all = (sound, tt)
    added (x ∷ subs) all = (all.0, added subs all.1)

    by : (b : Bool) → AreSoundSubs (if b then held else held ++ s ∷ [])
    by true = all
    by false = added held all
