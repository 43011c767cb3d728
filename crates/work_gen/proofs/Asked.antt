-- One round.
use Rattle.std.proofs.Common.{◌≡◌, ℕ, ◌+◌, [], ◌∷◌, refl, ap, ◌∙◌, arith}
use Rattle.world_data.specs.Frames.{frame_bytes}
use Rattle.world_model.specs.Halls.{Hall}
use Rattle.work_gen.specs.Frames.{all_of, messages_in, capped}
use Rattle.work_gen.specs.declared.lines.Line.{Line}
use Rattle.work_gen.specs.Rounds.{Round, Goes, CallsBy, asker, messages, bytes}
use Rattle.work_gen.specs.Asking.{Drained}
use Rattle.work_gen.specs.declared.pairs.Pair.{Pair}
use Rattle.work_gen.specs.declared.tallies.Tally.{Tally}
use Rattle.work_gen.proofs.Sums.{cap_both, cap_none, cap_three}

pub goes_round : (p : Pair) (l : Line) (old one two new : Hall) (t h s a b u : Tally)
    → CallsBy (asker p l.role) l.words old one → Drained p.listener one two h → Drained p.sender two new s
    → a.messages ≡ capped (t.messages + h.messages) → a.bytes ≡ capped (t.bytes + h.bytes) → b ≡ record { messages = 0; bytes = s.bytes }
    → u.messages ≡ capped (a.messages + b.messages) → u.bytes ≡ capped (a.bytes + b.bytes)
    → Goes p (l ∷ []) old new t u
goes_round p l old one two new t h s a b u call heard told am ab bs um ub =
    let r : Round = record { line = l; heard = heard.takes; told = told.takes } in
    let m = messages_in (all_of heard.takes) in
    let mine : u.messages ≡ capped (capped (t.messages + h.messages) + 0) = um ∙ ap (λ (k : ℕ). capped (k + b.messages)) am ∙ ap (λ (v : Tally). capped (capped (t.messages + h.messages) + v.messages)) bs in
    let ours : u.bytes ≡ capped (capped (t.bytes + h.bytes) + s.bytes) = ub ∙ ap (λ (k : ℕ). capped (k + b.bytes)) ab ∙ ap (λ (v : Tally). capped (capped (t.bytes + h.bytes) + v.bytes)) bs in
    let hb = frame_bytes (all_of heard.takes) in
    let tb = frame_bytes (all_of told.takes) in
    record {
      rounds = r ∷ [];
      asked = refl;
      leads = (new, record { asked = one; drained = two; call = call; listens = heard.drains; sends = told.drains }, refl);
      heard = λ n e. let sum : n + m ≡ n + messages (r ∷ []) = omega arith in mine ∙ cap_none (t.messages + h.messages) ∙ ap (λ (k : ℕ). capped (k + h.messages)) e ∙ ap (λ (k : ℕ). capped (capped n + k)) heard.heard ∙ cap_both n m ∙ ap (λ (k : ℕ). capped k) sum;
      given = λ n e. let sum : n + (hb + tb) ≡ n + bytes (r ∷ []) = omega arith in ours ∙ ap (λ (k : ℕ). capped (capped (k + h.bytes) + s.bytes)) e ∙ ap (λ (k : ℕ). capped (capped (capped n + k) + s.bytes)) heard.given
          ∙ ap (λ (k : ℕ). capped (capped (capped n + capped hb) + k)) told.given ∙ cap_three n hb tb ∙ ap (λ (k : ℕ). capped k) sum;
    }
