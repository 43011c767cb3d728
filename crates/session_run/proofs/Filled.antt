-- Requests that are made of what is read and kept.
use Rattle.std.proofs.Common.{◌≡◌, ℕ, Bool, true, false, refl, sym, ap, ◌∙◌, List, [], ◌∷◌, ◌++◌, take, drop, arith}
use Rattle.std.specs.Prelude.{Some, suc, zero, ◌&&◌}
use Rattle.std.specs.List.{list_all}
use Rattle.byte_text.specs.Names.{Bytes}
use Rattle.byte_text.specs.Streams.{stream_of}
use Rattle.resp_frames.specs.RequestReader.{Held}
use Rattle.world_model.specs.Outcomes.{is_proper}
use Rattle.world_model.specs.declared.events.Asked.{Asked}
use Rattle.session_run.specs.Feeds.{asked_behind, asked_next}
use Rattle.session_run.specs.declared.ends.InEnd.TheVariants as ended
use Rattle.session_run.specs.declared.phases.Asking.{Asking}
use Rattle.session_run.specs.declared.phases.Asking.TheVariants.{Open, Breaking, Ended}
use Rattle.session_run.specs.Filling.{IsFilled, IsFit}
use Rattle.session_run.specs.Steps.{UnlessMemory, said, said_too}
use Rattle.session_run.specs.Turns.{split_asks}

no_bytes_ask : asked_behind (Some []) [] ≡ []
unfolding stream_of
no_bytes_ask = refl

pub fit_at_first : IsFit (Some []) [] Open
fit_at_first = record { dry = no_bytes_ask; few = omega arith; proper = refl; dead = λ is. absurd (cc) }

-- what was asked before and with what was filled in is the same
pub filled_asks : (n : ℕ) (held held' : Held) (bytes rest : Bytes) (asks : List Asked) (asking : Asking) → IsFilled n held bytes held' rest asks asking
    → UnlessMemory asking ((more : Bytes) → asked_next n held (bytes ++ more) ≡ asks ++ asked_next n held' (rest ++ more))
filled_asks n held held' bytes rest asks Open f = f.0.goes
filled_asks n held held' bytes rest asks Breaking f = λ more. f.0.goes more ∙ ap (λ (l : Bytes). asks ++ asked_next n held' (l ++ more)) (sym f.2)
filled_asks n held held' bytes rest asks (Ended ended.Memory) f = tt
filled_asks n held held' bytes rest asks (Ended end) f = absurd f

-- ---- behind the calls of a turn

second_too : (a b : Bool) → (a && b) ≡ true → b ≡ true
second_too true b h = h
second_too false b h = absurd (cc)

pub proper_drop : (asks : List Asked) (n : ℕ) → list_all is_proper asks ≡ true → list_all is_proper (drop n asks) ≡ true
proper_drop asks zero h = h
proper_drop [] (suc n) h = h
proper_drop (a ∷ asks) (suc n) h = proper_drop asks n (second_too (is_proper a) (list_all is_proper asks) h)

module _ (n : ℕ) (held held' : Held) (rest rest' : Bytes) (asks left now : List Asked) (served : ℕ) where
  -- what is to be asked before and behind the answers
  abbrev Goes : Type 0
  Goes = (more : Bytes) → asks ++ asked_next n held (rest ++ more) ≡ take served asks ++ (now ++ asked_next n held' (rest' ++ more))

  refilled : drop served asks ≡ [] → ((more : Bytes) → asked_next n held (rest ++ more) ≡ now ++ asked_next n held' (rest' ++ more)) → Goes
  refilled none goes = λ more. split_asks served asks (asked_next n held (rest ++ more))
      ∙ ap (λ (l : List Asked). take served asks ++ (l ++ asked_next n held (rest ++ more))) none
      ∙ ap (λ (l : List Asked). take served asks ++ l) (goes more)

  stayed : left ≡ drop served asks → (held' ≡ held) × (rest' ≡ rest) × (now ≡ left) → Goes
  stayed is same = λ more. rw (same.0, same.1, same.2, is) (split_asks served asks (asked_next n held (rest ++ more)))

  pub all_answered : (asking result : Asking) → left ≡ drop served asks → left ≡ [] → (asking ≡ Open → IsFilled n held rest held' rest' now result)
      → ((asking ≡ Open → ⊥) → (held' ≡ held) × (rest' ≡ rest) × (now ≡ left)) → UnlessMemory result Goes
  all_answered Open result is none filled same = said_too result (refilled (sym is ∙ none)) (filled_asks n held held' rest rest' now result (filled refl))
  all_answered Breaking result is none filled same = said result (stayed is (same (λ e. absurd (cc))))
  all_answered (Ended end) result is none filled same = said result (stayed is (same (λ e. absurd (cc))))

pub some_answered : (n : ℕ) (held : Held) (rest : Bytes) (asks left : List Asked) (served : ℕ) (asking : Asking) → left ≡ drop served asks
    → UnlessMemory asking (Goes n held held rest rest asks left left served)
some_answered n held rest asks left served asking is = said asking (stayed n held held rest rest asks left left served is (refl, refl, refl))
