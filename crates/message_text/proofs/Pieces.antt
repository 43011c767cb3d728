-- Pieces that were written one after another, the last of which may have failed.
use Rattle.std.proofs.Common.{◌≡◌, ◌++◌, OnOk, Result, Ok, Err, ap, ◌∙◌, append_assoc}
use Rattle.byte_text.specs.Names.{Bytes}

pub two : {E : Type 0} (r : Result (Unit {0}) E) (old p t one new : Bytes) → one ≡ old ++ p → OnOk r (new ≡ one ++ t) → OnOk r (new ≡ old ++ (p ++ t))
two (Ok x) old p t one new a b = b ∙ ap (λ (xs : Bytes). xs ++ t) a ∙ append_assoc old p t
two (Err e) old p t one new a b = tt

pub three : {E : Type 0} (r : Result (Unit {0}) E) (old p q t one next new : Bytes) → one ≡ old ++ p → next ≡ one ++ q → OnOk r (new ≡ next ++ t) → OnOk r (new ≡ old ++ (p ++ (q ++ t)))
three r old p q t one next new a b c = two r old p (q ++ t) one new a (two r one q t next new b c)
