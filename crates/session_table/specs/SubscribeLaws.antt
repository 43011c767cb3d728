-- What is held when more is subscribed: it stays in front, so that it can be cut back to.
use Rattle.std.proofs.Common.{◌≡◌, ◌≤◌, Bool, true, false, refl, sym, ◌∙◌, ap, subst, List, [], ◌∷◌, ◌++◌, length, take, append_assoc, append-nil}
use Rattle.std.proofs.Common.{arith}
use Rattle.std.specs.List.{list_any}
use Rattle.world_model.specs.Subscriptions.{Sub, same_sub, with_sub, with_subs}

-- some more behind those that are held
record Grown (held all : List Sub) : Type 0 where
  more : List Sub
  all_are : all ≡ held ++ more

with_one : (held : List Sub) (s : Sub) (b : Bool) → list_any (same_sub s) held ≡ b → Grown held (with_sub held s)
with_one held s true e = record { more = []; all_are = rw e (sym (append-nil held)) }
with_one held s false e = record { more = s ∷ []; all_are = rw e refl }

with_many : (held subs : List Sub) → Grown held (with_subs held subs)
with_many held [] = record { more = []; all_are = sym (append-nil held) }
with_many held (s ∷ subs) =
    let one = with_one held s (list_any (same_sub s) held) refl in
    let many = with_many (with_sub held s) subs in
    record {
      more = one.more ++ many.more;
      all_are = many.all_are ∙ ap (λ (l : List Sub). l ++ many.more) one.all_are
          ∙ append_assoc held one.more many.more;
    }

take_front : (held more : List Sub) → take (length held) (held ++ more) ≡ held
take_front [] more = refl
take_front (s ∷ held) more = ap (λ (l : List Sub). s ∷ l) (take_front held more)

longer : (held more : List Sub) → length held ≤ length (held ++ more)
longer [] more = omega arith
longer (s ∷ held) more = let ih = longer held more in omega (arith, ih)

-- the count does not fall
pub no_fewer : (held subs : List Sub) → length held ≤ length (with_subs held subs)
no_fewer held subs = let g = with_many held subs in subst (λ (l : List Sub). length held ≤ length l) (sym g.all_are) (longer held g.more)
