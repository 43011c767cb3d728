-- Takes, one behind another.
use Rattle.std.proofs.Common.{◌≡◌, ℕ, ◌+◌, List, [], ◌∷◌, ◌++◌, refl, sym, ap, ◌∙◌, subst}
use Rattle.std.specs.Prelude.{Some, None}
use Rattle.byte_text.specs.Names.{Bytes}
use Rattle.world_data.specs.Frames.{frame_bytes}
use Rattle.world_model.specs.Halls.{Hall}
use Rattle.world_model.specs.declared.events.Event.TheVariants.{Take}
use Rattle.world_model.specs.declared.events.Outcome.TheVariants.{Given}
use Rattle.work_gen.specs.Frames.{all_of, messages_in, capped}
use Rattle.work_gen.specs.Steps.{Makes}
use Rattle.work_gen.specs.Rounds.{Drains}
use Rattle.work_gen.specs.Asking.{TakesOn, Drained}
use Rattle.work_gen.specs.declared.tallies.Tally.{Tally}
use Rattle.work_gen.proofs.Sums.{cap_both, messages_snoc, bytes_snoc}

-- takes that each gave frames
abbrev pub GivenBy : ℕ → List (List Bytes) → Hall → Hall → Type 0
GivenBy n [] old new = new ≡ old
GivenBy n (frames ∷ takes) old new = (next : Hall) × Makes (Take n) (Given frames) old next × GivenBy n takes next new

given_more : (n : ℕ) (takes : List (List Bytes)) (frames : List Bytes) (old mid new : Hall) → GivenBy n takes old mid → Makes (Take n) (Given frames) mid new → GivenBy n (takes ++ frames ∷ []) old new
given_more n [] frames old mid new same x = subst (λ (h : Hall). GivenBy n (frames ∷ []) h new) same (new, x, refl)
given_more n (f ∷ takes) frames old mid new (next, y, more) x = (next, y, given_more n takes frames next mid new more x)

given_last : (n : ℕ) (takes : List (List Bytes)) (old mid new : Hall) → GivenBy n takes old mid → Drains n [] mid new → Drains n takes old new
given_last n [] old mid new same last = subst (λ (h : Hall). Drains n [] h new) same last
given_last n (f ∷ takes) old mid new (next, y, more) last = (next, y, given_last n takes next mid new more last)

-- the takes so far
pub record Draining (n : ℕ) (old now : Hall) (t : Tally) : Type 0 where
  pub takes : List (List Bytes)
  pub leads : GivenBy n takes old now
  pub heard : t.messages ≡ capped (messages_in (all_of takes))
  pub given : t.bytes ≡ capped (frame_bytes (all_of takes))

pub draining_start : (n : ℕ) (old : Hall) (t : Tally) → t ≡ record { messages = 0; bytes = 0 } → Draining n old old t
draining_start n old t none = record {
  takes = [];
  leads = refl;
  heard = ap (λ (u : Tally). u.messages) none;
  given = ap (λ (u : Tally). u.bytes) none;
}

pub draining_on : (n : ℕ) (old mid new : Hall) (t v u : Tally) → Draining n old mid t → TakesOn (Some v) n mid new → u.messages ≡ capped (t.messages + v.messages) → u.bytes ≡ capped (t.bytes + v.bytes) → Draining n old new u
draining_on n old mid new t v u d (frames, makes, heard, given) messages bytes =
    let m = messages_in (all_of d.takes) in
    let b = frame_bytes (all_of d.takes) in
    record {
      takes = d.takes ++ frames ∷ [];
      leads = given_more n d.takes frames old mid new d.leads makes;
      heard = messages ∙ ap (λ (k : ℕ). capped (k + v.messages)) d.heard ∙ ap (λ (k : ℕ). capped (capped m + k)) heard ∙ cap_both m (messages_in frames) ∙ ap (λ (k : ℕ). capped k) (sym (messages_snoc d.takes frames));
      given = bytes ∙ ap (λ (k : ℕ). capped (k + v.bytes)) d.given ∙ ap (λ (k : ℕ). capped (capped b + k)) given ∙ cap_both b (frame_bytes frames) ∙ ap (λ (k : ℕ). capped k) (sym (bytes_snoc d.takes frames));
    }

pub drained : (n : ℕ) (old mid new : Hall) (t : Tally) → Draining n old mid t → TakesOn None n mid new → Drained n old new t
drained n old mid new t d last = record {
  takes = d.takes;
  drains = given_last n d.takes old mid new d.leads last;
  heard = d.heard;
  given = d.given;
}
