-- Slots under names, in a map whose keys have the names' bytes.
use Rattle.std.proofs.Common.{◌≡◌, ℕ, Bool, true, false, refl, sym, ap, ◌∙◌, subst, List, [], ◌∷◌, map, arith}
use Rattle.std.specs.Prelude.{Option, if◌then◌else◌}
use Rattle.std.specs.Map.{lookup, KeepsOthers}
use Rattle.byte_text.specs.ByteOrder.{same_equal, same_refl}
use Rattle.byte_text.specs.Names.{Bytes, same}
use Rattle.indexmap.specs.IndexMap.{IndexMap, UpdatesBy}
use Rattle.channel_hub.specs.Named.{slot_in}

module _ {K : Type 0} (items : K → Bytes) where
  -- the slots under the names that the keys spell
  abbrev pub spelled : List (K × ℕ) → List (Bytes × ℕ)
  spelled es = map (λ e. (items e.0, e.1)) es

  pub looked_up : (es : List (K × ℕ)) (name : Bytes) → slot_in (spelled es) name ≡ lookup (λ k. same name (items k)) es
  looked_up [] name = refl
  looked_up (e ∷ es) name = let ih = looked_up es name in grind arith

  -- a test for one name is one for its key alone
  one_key : (name : Bytes) (x y : K) → same name (items x) ≡ true → same name (items y) ≡ same (items x) (items y)
  one_key name x y is = ap (λ (b : Bytes). same b (items y)) (same_equal name (items x) is)

  apart : (name n : Bytes) → same name n ≡ false → (k : K) → same name (items k) ≡ true → same n (items k) ≡ false
  apart name n other k is = by_test (same n (items k)) refl
    where
      by_test : (b : Bool) → same n (items k) ≡ b → same n (items k) ≡ false
      by_test false e = e
      by_test true e =
          let one = same_equal name (items k) is ∙ sym (same_equal n (items k) e) in
          let both : same name n ≡ true = subst (λ (m : Bytes). same name m ≡ true) one (same_refl name) in
          absurd (cc)

  module _ {S : Type 0} (old new : IndexMap K ℕ S) (name : Bytes) (w : Option ℕ) where
    -- a write at one name leaves the others
    pub written : UpdatesBy (λ x y. same (items x) (items y)) (λ k. same name (items k)) old new w → (n : Bytes)
        → slot_in (spelled new.entries) n ≡ (if same name n then w else slot_in (spelled old.entries) n)
    unfolding KeepsOthers
    written u n = by_name (same name n) refl
      where
        by_name : (b : Bool) → same name n ≡ b → slot_in (spelled new.entries) n ≡ (if same name n then w else slot_in (spelled old.entries) n)
        by_name true e =
            let it : slot_in (spelled new.entries) n ≡ w = ap (slot_in (spelled new.entries)) (sym (same_equal name n e)) ∙ looked_up new.entries name ∙ u.1 in
            rw e it
        by_name false e =
            let kept = u.3 (λ k. same n (items k)) (one_key n) (apart name n e) in
            rw e (looked_up new.entries n ∙ kept ∙ sym (looked_up old.entries n))
