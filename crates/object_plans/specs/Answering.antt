-- Answers, and the plans that are answers alone.
use Rattle.std.proofs.Common.{◌≡◌, ℕ, ◌<◌, ◌≤◌, ◌^◌, Bool, true, false, refl, sym, ap, ◌∙◌, subst, lit≤, List, [], ◌∷◌, ◌++◌, length, length-append}
use Rattle.std.proofs.Common.{arith}
use Rattle.std.specs.Prelude.{nat_le, decimal, Result, IfOk, if◌then◌else◌}
use Rattle.std.specs.List.{list_any}
use Rattle.std.proofs.lemmas.Result.{IfOk-weaker}
use Rattle.std.proofs.lemmas.Fmt.{length-decimal-le}
use Rattle.std.proofs.lemmas.Bool.Decides.{nat_tests}
use Rattle.byte_text.specs.Names.{Bytes}
use Rattle.byte_text.specs.Replies.{frame_text, number}
use Rattle.byte_text.specs.declared.replies.Piece.{Piece}
use Rattle.world_data.specs.Limits.{max_reply}
use Rattle.fence_model.specs.Writes.{Write}
use Rattle.world_data.specs.Worlds.{has_key}
use Rattle.world_data.specs.declared.worlds.World.{World}
use Rattle.world_model.specs.Effects.{Effect, says, changes, missing, refuses, within_reply}
use Rattle.world_model.specs.declared.faults.Refusal.TheVariants as refusal
use Rattle.world_data.specs.declared.objects.Object.{Object}
use Rattle.object_plans.specs.declared.moves.ObjectChange.TheVariants.{Stay}
use Rattle.object_plans.specs.declared.plans.Plan.{Plan}
use Rattle.object_plans.specs.Kept.{AreKept}
use Rattle.object_plans.specs.Plans.{Says, IsPlan}

-- changes behind a reply that fits
pub within_changes : (r : List Piece) (writes : List Write) → length (frame_text r) ≤ max_reply → within_reply (changes r writes) ≡ changes r writes
within_changes r writes le = let t : nat_le (length (frame_text r)) max_reply ≡ true = grind (arith, nat_tests) in rw t refl

-- a count fits
pub count_fits : (n : ℕ) → n < 2 ^ 64 → length (frame_text (number n)) ≤ max_reply
count_fits n lt = sizes (decimal n) (length-decimal-le 20 n (omega arith) (omega (arith, lt)) lt)
  where
    sizes : (d : Bytes) → length d ≤ 20 → length ((58 ∷ (d ++ 13 ∷ 10 ∷ [])) ++ []) ≤ max_reply
    sizes d le = omega (arith, le, length-append (d ++ 13 ∷ 10 ∷ []) [], length-append d (13 ∷ 10 ∷ []))

-- the plan of a reply and no change
pub replies_alone : (objects : List Object) (total : ℕ) → AreKept objects total → (e : Effect) (r : List Piece) (frame : Bytes) (closes : Bool)
    → e ≡ record { replies = r ∷ []; subs = []; writes = []; closes = closes } → frame ≡ frame_text r → length frame ≤ max_reply
    → IsPlan objects e (record { frame = frame; action = Stay; announced = false; length = 0; weight = total; closes = closes })
replies_alone objects total kept e r frame closes is text short = record {
  reply = r;
  is = is;
  frame = text;
  short = short;
  there = tt;
  accepted = tt;
  few = tt;
  length_is = refl;
  small = lit≤ tt;
  weight_is = kept.weighed;
  light = kept.light;
}

-- an answer and nothing else is the plan of an effect that is this answer
pub said : (objects : List Object) (total : ℕ) → AreKept objects total → (e : Effect) (r : List Piece) (p : Plan) → e ≡ within_reply (says r)
    → Says (within_reply (says r)) total p → IsPlan objects e p
said objects total kept e r p same s =
    subst (IsPlan objects e) (sym s.is)
    (replies_alone objects total kept e s.replies.reply p.frame false (same ∙ s.replies.is) s.replies.frame_is s.replies.short)

-- so is one whose reply is this one, at one moment or at every one
module _ {E : Type 0} (objects : List Object) (total : ℕ) (kept : AreKept objects total) (given r : List Piece) (answer : Result Plan E)
    (same : given ≡ r) (s : IfOk answer (λ p. Says (within_reply (says given)) total p)) where
  pub answers : (e : Effect) → e ≡ within_reply (says r) → IfOk answer (λ p. IsPlan objects e p)
  answers e is = IfOk-weaker answer _ _
      (λ p t. said objects total kept e given p (is ∙ ap (λ (q : List Piece). within_reply (says q)) (sym same)) t) s

  pub answers_ever : (e : ℕ → Effect) → ((now : ℕ) → e now ≡ within_reply (says r)) → IfOk answer (λ p. (now : ℕ) → IsPlan objects (e now) p)
  answers_ever e is = IfOk-weaker answer _ _
      (λ p t. λ (now : ℕ). said objects total kept (e now) given p (is now ∙ ap (λ (q : List Piece). within_reply (says q)) (sym same)) t) s

-- an object that is not there: the refusal fits
pub missing_fits : (w : World) (key : Bytes) → within_reply (missing w key) ≡ missing w key
missing_fits w key = by (list_any (has_key key) w.objects)
  where
    by : (b : Bool) → within_reply (refuses (if b then refusal.IdNotFound else refusal.KeyNotFound)) ≡ refuses
        (if b then refusal.IdNotFound else refusal.KeyNotFound)
    by true = refl
    by false = refl
