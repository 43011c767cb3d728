-- A Tick and the Rewrites behind it.
use Rattle.std.proofs.Common.{◌≡◌, ◌<◌, ◌≤◌, ℕ, ◌+◌, List, refl, subst}
use Rattle.std.specs.Prelude.{Some, None, Result, Ok, Err}
use Rattle.std.proofs.lemmas.List.{replicate_more}
use Rattle.world_model.specs.declared.events.CallOutcome.{CallOutcome}
use Rattle.world_model.specs.declared.events.CallOutcome.TheVariants as called
use Rattle.world_model.specs.declared.events.LogState.{LogState}
use Rattle.world_model.specs.Seats.{Knows, Act, Adds}
use Rattle.world_model.specs.declared.events.Event.TheVariants as event
use Rattle.world_model.specs.declared.events.Outcome.TheVariants as outcome
use Rattle.session_run.specs.Gains.{Gains, Makes, made, gains_last}
use Rattle.serve_run.specs.declared.tends.ServeEnd.{ServeEnd}
use Rattle.serve_run.specs.Tends.{serve_end, tick_act, rewrite_act, rewrite_steps, rewrites, Rewritten, Tends}

pub tends_tick : (old new : Knows) (m : ℕ) (c : CallOutcome) (e : ServeEnd) → serve_end c ≡ Some e → Adds (event.Tick m) (outcome.Answered c) old new
    → Tends m old new (Err e)
tends_tick old new m c e is adds = (None, c, tt, is, (new, made (event.Tick m) (outcome.Answered c) old new adds, refl))

fine : (c : CallOutcome) → serve_end c ≡ None → c ≡ called.Ok
fine called.Ok e = refl
fine c e = absurd (cc)

-- one more Rewrite behind those that were answered Ok
pub rewrote_next : (old mid new : Knows) (n : ℕ) (c : CallOutcome) → serve_end c ≡ None → Gains old mid (rewrites n) → Adds event.Rewrite (outcome.Answered c) mid new → Gains old new (rewrites (n + 1))
rewrote_next old mid new n c is before adds =
    let one : Makes (rewrite_act called.Ok) mid new = subst (λ (x : CallOutcome). Makes (rewrite_act x) mid new) (fine c is) (made event.Rewrite (outcome.Answered c) mid new adds) in
    subst (λ (l : List Act). Gains old new l) (replicate_more n (rewrite_act called.Ok)) (gains_last old mid new (rewrites n) (rewrite_act called.Ok) before one)

-- a Rewrite that brings the end
pub rewrote_last : (old mid new : Knows) (n : ℕ) (c : CallOutcome) (e : ServeEnd) → n < rewrite_steps → serve_end c ≡ Some e → Gains old mid (rewrites n) → Adds event.Rewrite (outcome.Answered c) mid new → Rewritten old new (Err e)
rewrote_last old mid new n c e few is before adds = (n, c, few, is, gains_last old mid new (rewrites n) (rewrite_act c) before (made event.Rewrite (outcome.Answered c) mid new adds))

-- some Rewrites, each answered Ok, and no more of them
pub rewrote_some : (old new : Knows) (n : ℕ) (log : LogState) → 0 < n → n ≤ rewrite_steps → Gains old new (rewrites n) → Rewritten old new (Ok log)
rewrote_some old new n log some few made = (n, (some, few), made)

pub tends_all : (old mid new : Knows) (m : ℕ) (c : CallOutcome) (r : Result LogState ServeEnd) → serve_end c ≡ None
    → Adds (event.Tick m) (outcome.Answered c) old mid → Rewritten mid new r → Tends m old new r
tends_all old mid new m c r is tick rewritten = by r rewritten
  where
    ticked : Makes (tick_act m called.Ok) old mid
    ticked = subst (λ (x : CallOutcome). Makes (tick_act m x) old mid) (fine c is) (made (event.Tick m) (outcome.Answered c) old mid tick)

    by : (r : Result LogState ServeEnd) → Rewritten mid new r → Tends m old new r
    by (Ok log) x = (x.0, x.1, (mid, ticked, x.2))
    by (Err e) x = (Some x.0, x.1, x.2, x.3, (mid, ticked, x.4))
