-- The lines of the workload, one behind another.
use Rattle.std.proofs.Common.{◌≡◌, ℕ, ◌+◌, ◌-◌, ◌<◌, ◌≤◌, suc, true, false, List, [], ◌∷◌, ◌++◌, refl, ap, arith}
use Rattle.byte_text.specs.Names.{Bytes}
use Rattle.work_gen.specs.declared.lines.Role.TheVariants.{Listener, Sender}
use Rattle.work_gen.specs.Words.{texts}
use Rattle.work_gen.specs.Workload.{subscribing, channel, channels, command, commands, opening, lines}

pub opening_subscribes : (i : ℕ) (words : List Bytes) → words ≡ texts subscribing → opening false i ≡ record { role = Listener; words = words } ∷ opening true i
opening_subscribes i words e = rw e refl

pub opening_sets : (i : ℕ) (words : List Bytes) → i < 16 → words ≡ texts (channel i) → opening true i ≡ record { role = Sender; words = words } ∷ opening true (i + 1)
opening_sets i words h e =
    let next : 16 - i ≡ suc (16 - (i + 1)) = omega (arith, h) in
    rw e (ap (λ (k : ℕ). channels i k) next)

pub opening_done : (i : ℕ) → 16 ≤ i → opening true i ≡ []
opening_done i h = let e : 16 - i ≡ 0 = omega (arith, h) in ap (λ (k : ℕ). channels i k) e

pub commands_next : (n left x : ℕ) (words : List Bytes) → 0 < left → words ≡ texts (command n x).words → commands n left x ≡ record { role = Sender; words = words } ∷ commands n (left - 1) (command n x).behind
commands_next n left x words h e =
    let next : left ≡ suc (left - 1) = omega (arith, h) in
    rw e (ap (λ (k : ℕ). commands n k x) next)

pub commands_done : (n left x : ℕ) → left ≡ 0 → commands n left x ≡ []
commands_done n left x e = ap (λ (k : ℕ). commands n k x) e

pub lines_are : (n seed : ℕ) → opening false 0 ++ commands n n seed ≡ lines n seed
unfolding lines
lines_are n seed = refl
