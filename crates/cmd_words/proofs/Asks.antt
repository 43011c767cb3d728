-- What is read of a whole request.
use Rattle.std.proofs.Common.{◌≡◌, inl, inr, sym, ◌∙◌, ap, subst, List, [], ◌∷◌, ◌++◌}
use Rattle.std.specs.Prelude.{Ok, Err, Result, IfOk, IfErr}
use Rattle.byte_text.specs.Names.{Bytes}
use Rattle.world_model.specs.Commands.{reads, shown_of, wrong_count}
use Rattle.world_model.specs.declared.commands.Command.{Command}
use Rattle.world_model.specs.declared.faults.WordFault.{WordFault}
use Rattle.world_model.specs.declared.faults.WordFault.TheVariants as fault
use Rattle.cmd_words.specs.CommandNames.{IsNoName}
use Rattle.cmd_words.specs.Progress.{IsFault, Place, Answers, IsBehind, all_words, start, answered, IfRefused}
use Rattle.cmd_words.proofs.Heads.{not_known, no_words}
use Rattle.cmd_words.specs.declared.faults.CommandFault.{CommandFault}
use Rattle.cmd_words.specs.declared.faults.CommandFault.TheVariants.{Refused, Memory}

refusal : (r : Result Command WordFault) (f : WordFault) → answered r ≡ Err (Refused f) → r ≡ Err f
refusal (Ok c) f e = absurd cc
refusal (Err g) f e = cc

-- the two clauses of an answer
pub ok_answered : (words : List Bytes) (r : Result Command CommandFault) → Answers words r → IfOk r (λ c. reads words ≡ Ok c)
ok_answered words (Ok c) a = a
ok_answered words (Err why) a = tt

pub err_answered : (words : List Bytes) (r : Result Command CommandFault) → Answers words r → IfErr r (λ why. IfRefused why (λ f. reads words ≡ Err f))
err_answered words (Ok c) a = tt
err_answered words (Err Memory) a = tt
err_answered words (Err (Refused f)) (inl m) = absurd cc
err_answered words (Err (Refused f)) (inr a) = refusal (reads words) f a

-- the first word of a request, and those behind it
first_of : (words : List Bytes) (p q : Place) (w : Bytes) → p ≡ start words → IsBehind w p q → words ≡ w ∷ q.left
first_of words p q w e b = sym (ap (λ (x : Place). x.left) e) ∙ b.left

pub one_read : (words : List Bytes) (p q : Place) (w : Bytes) → p ≡ start words → IsBehind w p q → q.read ≡ w ∷ []
one_read words p q w e b = b.read ∙ ap (λ (x : Place). x.read ++ w ∷ []) e

pub named_answers : (words : List Bytes) (p q : Place) (w : Bytes) → p ≡ start words → IsBehind w p q → (r : Result Command CommandFault) → Answers (all_words q) r → Answers words r
named_answers words p q w e b r a = subst (λ (ws : List Bytes). Answers ws r) (ap (λ (l : List Bytes). l ++ q.left) (one_read words p q w e b) ∙ sym (first_of words p q w e b)) a

pub unnamed_answers : (words : List Bytes) (p q : Place) (w : Bytes) → p ≡ start words → IsBehind w p q → (why : CommandFault) → IsNoName w → IsFault (fault.Unknown (shown_of w)) why → Answers words (Err why)
unnamed_answers words p q w e b why n f = subst (λ (ws : List Bytes). Answers ws (Err why)) (sym (first_of words p q w e b)) (not_known w q.left why n f)

pub empty_answers : (words : List Bytes) (p q : Place) → p ≡ start words → (q ≡ p) × (p.left ≡ []) → (why : CommandFault) → IsFault (wrong_count (all_words q)) why → Answers words (Err why)
empty_answers words p q e none why f =
    let empty : words ≡ [] = sym (ap (λ (x : Place). x.left) e) ∙ none.1 in
    let same : all_words q ≡ words = ap all_words (none.0 ∙ e) in
    let nothing : all_words q ≡ [] = same ∙ empty in
    subst (λ (ws : List Bytes). Answers ws (Err why)) (sym empty) (no_words why (subst (λ (ws : List Bytes). IsFault (wrong_count ws) why) nothing f))
