-- The parts that a leader answers, for a node that has the bytes in front of them.
use Rattle.std.specs.Prelude.{if◌then◌else◌, nat_lt}
use Rattle.std.proofs.Common.{◌≡◌, ◌⊎◌, ◌≤◌, ◌<◌, ◌∙◌, ◌+◌, ◌==◌, ◌&&◌, ℕ, Bool, true, false, List, [], ◌++◌, length, take, drop, refl, sym, ap, subst, arith, inl, inr}
use Rattle.std.proofs.Common.{length-append, append_assoc}
use Rattle.std.proofs.lemmas.Bool.{and_parts, eqb-true}
use Rattle.std.proofs.lemmas.Bool.Decides.{nat_tests}
use Rattle.std.proofs.lemmas.List.{take_at, take-append-le, take-append-drop, length-take, nil_from_length, append-nil}
use Rattle.byte_text.specs.Names.{Bytes}
use Rattle.log_sides.specs.Texts.{batches_text, front_text, newest}
use Rattle.repl_stream.specs.Texts.{max_part}
use Rattle.repl_node.specs.Following.{Followed, first_place, had, is_next, place}
use Rattle.repl_node.specs.Deliveries.{Delivery, IsAnswered}
use Rattle.repl_node.proofs.Texts.{batches_joined, gate_is, behind_header}

-- a part that goes on behind these bytes of a log: the bytes of its batches are these, its own, and the rest
pub record GoesBehind (logs : ℕ → List Bytes) (d : Delivery) (batches : List Bytes) (front : Bytes) : Type 0 where
  pub rest : Bytes
  pub text : batches_text batches ≡ front ++ rest
  pub bytes_are : d.bytes ≡ take max_part rest
  pub from : d.part.from ≡ 16 + length front

pub goes_behind : (logs : ℕ → List Bytes) (d : Delivery) (answered : IsAnswered logs d) (front more : Bytes) → batches_text (logs d.part.generation) ≡ front ++ more
    → d.part.from ≡ 16 + length front → GoesBehind logs d answered.batches front
goes_behind logs d answered front more log from =
    let g = d.part.generation in
    let text = batches_text answered.batches in
    let joined : text ++ batches_text answered.later ≡ front ++ more = sym (batches_joined answered.batches answered.later) ∙ ap (λ (l : List Bytes). batches_text l) (sym answered.begun) ∙ log in
    let inside : length front ≤ length text = omega (arith, from, answered.within, answered.end, gate_is newest g answered.batches) in
    let begins : take (length front) text ≡ front =
    sym (take-append-le (length front) text (batches_text answered.later) inside) ∙ ap (λ (l : Bytes). take (length front) l) joined ∙ take_at front more (length front) refl in
    record {
      rest = drop (length front) text;
      text = sym (take-append-drop (length front) text) ∙ ap (λ (l : Bytes). l ++ drop (length front) text) begins;
      bytes_are = answered.bytes_are ∙ ap (λ (k : ℕ). take max_part (drop k (front_text newest g answered.batches))) from
          ∙ ap (λ (l : Bytes). take max_part l) (behind_header newest g (length front) answered.batches);
      from = from;
    }

-- what a node has of a log of the leader
pub record HasFront (logs : ℕ → List Bytes) (generation : ℕ) (taken : Bytes) : Type 0 where
  pub front : 1 ≤ generation → (more : Bytes) × (batches_text (logs generation) ≡ taken ++ more)

pub behind_first : (generation : ℕ) → 1 ≤ generation → first_place generation ≡ 16
behind_first generation some = grind (arith, nat_tests)

by_next : (logs : ℕ → List Bytes) (d : Delivery) (node : Followed) (answered : IsAnswered logs d) (b : Bool) → (d.part.generation == node.generation) ≡ b
    → (if b then d.part.from == place node else (nat_lt node.generation d.part.generation && d.part.from == 16)) ≡ true
    → HasFront logs node.generation node.taken → GoesBehind logs d answered.batches (if b then node.taken else [])
by_next logs d node answered true is next has =
    let same : d.part.generation ≡ node.generation = eqb-true d.part.generation node.generation is in
    let from : d.part.from ≡ place node = eqb-true d.part.from (place node) next in
    let some : 1 ≤ node.generation = omega (arith, answered.numbered, same) in
    let front = has.front some in
    let log = subst (λ (g : ℕ). batches_text (logs g) ≡ node.taken ++ front.0) (sym same) front.1 in
    goes_behind logs d answered node.taken front.0 log (omega (arith, from, behind_first node.generation some))
by_next logs d node answered false is next has =
    let both = and_parts (nat_lt node.generation d.part.generation) (d.part.from == 16) next in
    goes_behind logs d answered [] (batches_text (logs d.part.generation)) refl (omega (arith, eqb-true d.part.from 16 both.1))

pub next_behind : (logs : ℕ → List Bytes) (d : Delivery) (node : Followed) (answered : IsAnswered logs d) → is_next node d.part ≡ true
    → HasFront logs node.generation node.taken → GoesBehind logs d answered.batches (had node d.part)
next_behind logs d node answered next has = by_next logs d node answered (d.part.generation == node.generation) refl next has

-- what stands in front of the next part then
pub front_behind : (logs : ℕ → List Bytes) (d : Delivery) (front : Bytes) (answered : IsAnswered logs d) → GoesBehind logs d answered.batches front
    → HasFront logs d.part.generation (front ++ d.bytes)
front_behind logs d front answered behind =
    let rest = behind.rest in
    let later = batches_text answered.later in
    let mine : d.bytes ++ drop max_part rest ≡ rest = ap (λ (l : Bytes). l ++ drop max_part rest) behind.bytes_are ∙ take-append-drop max_part rest in
    let text : batches_text answered.batches ≡ (front ++ d.bytes) ++ drop max_part rest =
    behind.text ∙ ap (λ (l : Bytes). front ++ l) (sym mine) ∙ sym (append_assoc front d.bytes (drop max_part rest)) in
    record {
      front = λ some. (
        drop max_part rest ++ later,
        ap (λ (l : List Bytes). batches_text l) answered.begun ∙ batches_joined answered.batches answered.later ∙ ap (λ (l : Bytes). l ++ later) text
            ∙ append_assoc (front ++ d.bytes) (drop max_part rest) later,
      );
    }

-- where the bytes reach the part's end, they are all
pub reaches : (logs : ℕ → List Bytes) (d : Delivery) (front : Bytes) (answered : IsAnswered logs d) → GoesBehind logs d answered.batches front
    → d.part.from + length d.bytes ≡ d.part.end → batches_text answered.batches ≡ front ++ d.bytes
reaches logs d front answered behind whole =
    let rest = behind.rest in
    let mine : d.bytes ++ drop max_part rest ≡ rest = ap (λ (l : Bytes). l ++ drop max_part rest) behind.bytes_are ∙ take-append-drop max_part rest in
    let none : length (drop max_part rest) ≡ 0 =
    omega (arith, whole, behind.from, answered.end, gate_is newest d.part.generation answered.batches, ap length behind.text, length-append front rest, ap length mine, length-append d.bytes (drop max_part rest)) in
    let all : d.bytes ≡ rest = sym (append-nil d.bytes) ∙ ap (λ (l : Bytes). d.bytes ++ l) (sym (nil_from_length (drop max_part rest) none)) ∙ mine in
    behind.text ∙ ap (λ (l : Bytes). front ++ l) (sym all)

-- and they are no more, and some where some stand there
pub no_more : (logs : ℕ → List Bytes) (d : Delivery) (front : Bytes) (answered : IsAnswered logs d) → GoesBehind logs d answered.batches front
    → (d.part.end < d.part.from + length d.bytes) ⊎ ((length d.bytes ≡ 0) × (d.part.from < d.part.end)) → ⊥
no_more logs d front answered behind (inl past) =
    let rest = behind.rest in
    omega (arith, past, behind.from, answered.end, gate_is newest d.part.generation answered.batches, ap length behind.text, length-append front rest, ap length behind.bytes_are, length-take max_part rest)
no_more logs d front answered behind (inr none) =
    let rest = behind.rest in
    omega (arith, none.0, none.1, behind.from, answered.end, gate_is newest d.part.generation answered.batches, ap length behind.text, length-append front rest, ap length behind.bytes_are, length-take max_part rest)
