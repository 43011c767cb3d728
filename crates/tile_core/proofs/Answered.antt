-- Who may make a call, and who is given frames.
use Rattle.std.proofs.Common.{◌≡◌, ℕ, ◌<◌, Bool, true, false, true≢false, refl, sym, ◌∙◌, ap, List, length, map, inl, inr, arith}
use Rattle.std.specs.Prelude.{Decides, Option, Some, Result, Ok, Err, is_ok, find, not, slice_get, ◌==◌, ◌&&◌}
use Rattle.std.proofs.lemmas.Bool.Decides.{nat_tests}
use Rattle.world_model.specs.Halls as halls
use Rattle.world_model.specs.Histories.{gone, full, ended, idle}
use Rattle.world_model.specs.declared.events.CallOutcome.{CallOutcome}
use Rattle.world_model.specs.declared.events.CallOutcome.TheVariants as called
use Rattle.session_table.specs.Sessions.{State, session_of}
use Rattle.tile_core.specs.Sessions.{AreOthers, IsServed, Rises}
use Rattle.tile_core.proofs.Present.{found, none_found}

-- the session of a number in the hall
abbrev pub seen : List State → ℕ → Option halls.Session
seen sessions n = find (halls.is_session n) (map session_of sessions)

-- a call of a session that may make it is not refused
pub may_not : (drawn : ℕ) (sessions : List State) (n : ℕ) → Rises 0 drawn sessions → (answer : CallOutcome) → IsServed sessions n (Err answer) → gone (seen sessions n) ≡ false → full (seen sessions n) ≡ false → ⊥
may_not drawn sessions n r called.Gone e here room = elim e [
  | inl o ↦ true≢false (sym (ap gone (none_found sessions n o)) ∙ here)
  | inr p ↦ true≢false (sym (gone_is p.1.session p.2) ∙ sym (ap gone (found 0 drawn sessions p.0 n p.1.session r p.1.here p.1.numbered)) ∙ here)
]
  where
    gone_is : (s : State) → halls.is_live (session_of s) ≡ false → gone (Some (session_of s)) ≡ true
    gone_is s e = rw e refl
may_not drawn sessions n r called.Full e here room = true≢false (sym e.3 ∙ sym (ap full (found 0 drawn sessions e.0 n e.1.session r e.1.here e.1.numbered)) ∙ room)
may_not drawn sessions n r called.Ok e here room = e
may_not drawn sessions n r called.LogFault e here room = e
may_not drawn sessions n r called.Stopped e here room = e
may_not drawn sessions n r called.Spent e here room = e
may_not drawn sessions n r called.Memory e here room = e

-- one that is served and not full may make it
pub may : (drawn : ℕ) (sessions : List State) (n i : ℕ) → Rises 0 drawn sessions → IsServed sessions n (Ok i) → (gone (seen sessions n) ≡ false) × (full (seen sessions n) ≡ false)
may drawn sessions n i r sv =
    let s = sv.0.session in
    let is = found 0 drawn sessions i n s r sv.0.here sv.0.numbered in
    (ap gone is ∙ ap not sv.1, ap full is ∙ sv.2)

-- so it is served exactly where it may
pub serves : (drawn : ℕ) (sessions : List State) (n : ℕ) → Rises 0 drawn sessions → (answer : Result ℕ CallOutcome) → IsServed sessions n answer → Decides (is_ok answer) ((gone (seen sessions n) ≡ false) × (full (seen sessions n) ≡ false))
serves drawn sessions n r (Ok i) sv = (λ e. may drawn sessions n i r sv, λ m. refl)
serves drawn sessions n r (Err answer) sv = (λ e. absurd (cc e), λ m. absurd (may_not drawn sessions n r answer sv m.0 m.1))

-- a session that is absent has no frames
pub none_to_take : (sessions : List State) (n : ℕ) → AreOthers n sessions → ended (seen sessions n) ≡ false → ⊥
none_to_take sessions n o e = true≢false (sym (ap ended (none_found sessions n o)) ∙ e)

module _ (drawn : ℕ) (sessions : List State) (n i : ℕ) (s : State) (r : Rises 0 drawn sessions) (at : slice_get sessions i ≡ Some s) (numbered : s.number ≡ n) where
  is : seen sessions n ≡ Some (session_of s)
  is = found 0 drawn sessions i n s r at numbered

  pub some_to_take : 0 < length s.mail.frames → (ended (seen sessions n) ≡ false) × (idle (seen sessions n) ≡ false)
  some_to_take some = (ap ended is ∙ by (halls.is_live (session_of s)), ap idle is ∙ or_idle (halls.is_live (session_of s)))
    where
      none : (length s.mail.frames == 0) ≡ false
      none = grind (arith, nat_tests)

      by : (b : Bool) → (not b && (length s.mail.frames == 0)) ≡ false
      by b = grind arith

      or_idle : (b : Bool) → (b && (length s.mail.frames == 0)) ≡ false
      or_idle b = grind arith

  pub no_more_to_take : length s.mail.frames ≡ 0 → ended (seen sessions n) ≡ false → idle (seen sessions n) ≡ false → ⊥
  no_more_to_take e goes waits = by (halls.is_live (session_of s)) (sym (ap ended is) ∙ goes) (sym (ap idle is) ∙ waits)
    where
      none : (length s.mail.frames == 0) ≡ true
      none = grind (arith, nat_tests)

      by : (b : Bool) → (not b && (length s.mail.frames == 0)) ≡ false → (b && (length s.mail.frames == 0)) ≡ false → ⊥
      by true f g = true≢false (sym none ∙ g)
      by false f g = true≢false (sym none ∙ f)
