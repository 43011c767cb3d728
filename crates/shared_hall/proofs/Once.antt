-- The first seat has seen each retirement of its hall, as each is its own.
use Rattle.std.proofs.Common.{◌≡◌, ◌≤◌, ◌<◌, ◌⊎◌, ◌||◌, ◌+◌, ℕ, zero, suc, Bool, true, false, List, [], ◌∷◌, ◌++◌, length, refl, sym, ap, ◌∙◌, subst, arith, inl, inr, ⊎_elim, true≢false}
use Rattle.std.specs.Prelude.{Some, slice_get}
use Rattle.std.specs.List.{list_any, range_with_len}
use Rattle.std.proofs.lemmas.Bool.{or_right}
use Rattle.std.proofs.lemmas.Option.{slice_get_within}
use Rattle.turn_lock.specs.declared.seat.Known.{Known}
use Rattle.turn_lock.specs.Places.{IsAmong}
use Rattle.turn_lock.specs.Seats.{Turn, OwnsKept, OwnPlaces}

in_front : {E : Type 0} (es fs : List E) (at : ℕ) → at < length es → slice_get (es ++ fs) at ≡ slice_get es at
in_front [] fs at short = absurd (omega (arith, short))
in_front (e ∷ es) fs zero short = refl
in_front (e ∷ es) fs (suc at) short = in_front es fs at (omega (arith, short))

among_either : (p : ℕ) (xs ys : List ℕ) → IsAmong p (xs ++ ys) → IsAmong p xs ⊎ IsAmong p ys
among_either p [] ys among = inr among
among_either p (x ∷ xs) ys (inl here) = inl (inl here)
among_either p (x ∷ xs) ys (inr there) = ⊎_elim (λ a. inl (inr a)) (λ b. inr b) (among_either p xs ys there)

not_before : (p at n : ℕ) → IsAmong p (range_with_len at n) → at ≤ p
not_before p at zero among = absurd among
not_before p at (suc n) (inl here) = omega (arith, here)
not_before p at (suc n) (inr there) = omega (arith, not_before p (at + 1) n there)

module _ {E : Type 0} (kept : E → Bool) where
  -- where one is kept
  record Kept (es : List E) : Type 0 where
    at : ℕ
    entry : E
    here : slice_get es at ≡ Some entry
    is : kept entry ≡ true

  find_kept : (es : List E) → list_any kept es ≡ true → Kept es
  find_kept [] any = absurd (true≢false (sym any))
  find_kept (e ∷ es) any = by (find_kept es) (kept e) refl
    where
      by : (list_any kept es ≡ true → Kept es) → (b : Bool) → kept e ≡ b → Kept (e ∷ es)
      by rest true is = record { at = 0; entry = e; here = refl; is = is }
      by rest false is = let k = rest (sym (ap (λ (b : Bool). b || list_any kept es) is) ∙ any) in record { at = suc k.at; entry = k.entry; here = k.here; is = k.is }

  kept_at : (es : List E) (at : ℕ) (e : E) → slice_get es at ≡ Some e → kept e ≡ true → list_any kept es ≡ true
  kept_at [] at e here is = absurd (cc)
  kept_at (d ∷ es) zero e here is = let same : d ≡ e = cc in ap (λ (x : E). kept x || list_any kept es) same ∙ ap (λ (b : Bool). b || list_any kept es) is
  kept_at (d ∷ es) (suc at) e here is = or_right (kept d) (list_any kept es) (kept_at es at e here is)

  any_front : (es fs : List E) → list_any kept es ≡ true → list_any kept (es ++ fs) ≡ true
  any_front es fs any = let k = find_kept es any in kept_at (es ++ fs) k.at k.entry (in_front es fs k.at (slice_get_within es k.at k.entry k.here) ∙ k.here) k.is

module _ {O E : Type 0} (kept : E → Bool) where
  -- what is kept before a turn of the first seat, it had seen
  pub seen_before : (k l : Known O E) (log made : List E) → Turn k l log made → OwnPlaces k → OwnsKept kept l → k.first ≡ true → list_any kept k.seen ≡ list_any kept log
  seen_before k l log made t own keeps first = by (list_any kept k.seen) refl (list_any kept log) refl
    where
      found : list_any kept log ≡ true → list_any kept k.seen ≡ true
      found any =
          let x = find_kept kept log any in
          let short = slice_get_within log x.at x.entry x.here in
          let now : slice_get l.seen x.at ≡ Some x.entry = ap (λ (es : List E). slice_get es x.at) t.seen ∙ in_front log made x.at short ∙ x.here in
          let among = subst (λ (places : List ℕ). IsAmong x.at places) t.mine (keeps (t.first ∙ first) x.at x.entry now x.is) in
          let mine = ⊎_elim (λ (a : IsAmong x.at k.mine). a) (λ b. absurd (omega (arith, short, not_before x.at (length log) (length made) b))) (among_either x.at k.mine (range_with_len (length log) (length made)) among) in
          let early = own.are_seen x.at mine in
          let here : slice_get k.seen x.at ≡ Some x.entry = sym (in_front k.seen t.begins.0 x.at early) ∙ ap (λ (es : List E). slice_get es x.at) t.begins.1 ∙ x.here in
          kept_at kept k.seen x.at x.entry here x.is

      by : (a : Bool) → list_any kept k.seen ≡ a → (b : Bool) → list_any kept log ≡ b → list_any kept k.seen ≡ list_any kept log
      by true is true is' = is ∙ sym is'
      by true is false is' = is ∙ sym (ap (λ (es : List E). list_any kept es) (sym t.begins.1) ∙ any_front kept k.seen t.begins.0 is)
      by false is true is' = found is' ∙ sym is'
      by false is false is' = is ∙ sym is'
