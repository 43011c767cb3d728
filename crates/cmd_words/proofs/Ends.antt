-- How a whole command is read or refused.
use Rattle.std.proofs.Common.{◌≡◌, inl, inr, sym, ◌∙◌, ap, subst, []}
use Rattle.std.specs.Prelude.{Option, Some, None, Result, Ok, Err, Bool, codes}
use Rattle.byte_text.specs.Names.{Bytes}
use Rattle.world_model.specs.Grammar.{Form, Due, done, one_word, ◌>>=◌}
use Rattle.world_model.specs.Commands.{reads, wrong_count, shown_of}
use Rattle.world_model.specs.declared.commands.Command.{Command}
use Rattle.world_model.specs.declared.commands.Command.TheVariants as command
use Rattle.world_model.specs.declared.object_commands.ObjectCommand.TheVariants as of_object
use Rattle.world_data.specs.declared.queries.Shown.{Shown}
use Rattle.world_data.specs.declared.queries.Shown.TheVariants as shown
use Rattle.world_model.specs.declared.faults.WordFault.TheVariants as fault
use Rattle.cmd_words.specs.Progress.{Place, all_words, IsBehind, IsFault, IsOne, Follows, Parses, Answers, IsEnd, Took, ReadsShown, a_name, key_and_id, get_options, answers, answered}
use Rattle.cmd_words.proofs.Follows.{took, lacks, refuses, finished, unfinished}
use Rattle.cmd_words.proofs.Gets.{moves, moves_on, option_faults, objects_read, shown_behind}
use Rattle.cmd_words.specs.declared.faults.CommandFault.{CommandFault}
use Rattle.cmd_words.specs.declared.faults.CommandFault.TheVariants.{Refused}

-- the end of a command

pub end_refused : (p : Place) (c : Command) (why : CommandFault) → IsEnd (λ _. wrong_count (all_words p)) p (Err why) → Follows p (done c) → Answers (all_words p) (Err why)
end_refused p c why (w, rest, l, inl m) h = inl m
end_refused p c why (w, rest, l, inr e) h = inr (ap answered (unfinished p w rest c l h) ∙ ap Err (sym e))

pub begun_fails : {A : Type 0} (form : (A → Form Command) → Form Command) (next : A → Form Command) (old new : Place) (why : CommandFault) → Parses form old new (Err why) → Follows old (form next) → Answers (all_words old) (Err why)
begun_fails form next old new why (inl m) h = inl m
begun_fails form next old new why (inr f) h = inr (f next h)

module _ {A : Type 0} (form : (A → Form Command) → Form Command) (make : A → Command) where
  pub not_begun : (old new : Place) (why : CommandFault) → Parses form old new (Err why) → Follows old (form (λ a. done (make a))) → Answers (all_words old) (Err why)
  not_begun old new why (inl m) h = inl m
  not_begun old new why (inr f) h = inr (f (λ a. done (make a)) h)

  pub not_ended : (old new : Place) (a : A) (why : CommandFault) → Parses form old new (Ok a) → IsEnd (λ _. wrong_count (all_words new)) new (Err why) → Follows old (form (λ x. done (make x))) → Answers (all_words old) (Err why)
  not_ended old new a why p e h = subst (λ ws. Answers ws (Err why)) p.0.words (end_refused new (make a) why e (p.1 (λ x. done (make x)) h))

  pub ended : (old new : Place) (a : A) → Parses form old new (Ok a) → new.left ≡ [] → Follows old (form (λ x. done (make x))) → reads (all_words old) ≡ Ok (make a)
  ended old new a p l h = subst (λ ws. reads ws ≡ Ok (make a)) p.0.words (finished new (make a) l (p.1 (λ x. done (make x)) h))

-- one word of a kind

module _ {A : Type 0} (due : Due) (kind : Bytes → Option A) where
  pub one_lacks : (old new : Place) (why : CommandFault) → (new ≡ old) × (old.left ≡ []) → IsFault (wrong_count (all_words new)) why → Parses (λ next. one_word due kind >>= next) old new (Err why)
  one_lacks old new why e (inl m) = inl m
  one_lacks old new why e (inr f) = inr (λ next h. ap answered (lacks due kind next old e.1 h) ∙ ap Err (ap (λ p. Refused (wrong_count (all_words p))) (sym e.0) ∙ sym f))

  pub one_refused : (old new : Place) (w : Bytes) (why : CommandFault) → IsBehind w old new → IsOne due kind w (Err why) → Parses (λ next. one_word due kind >>= next) old new (Err why)
  one_refused old new w why b (inl m) = inl m
  one_refused old new w why b (inr f) = inr (λ next h. ap answered (refuses due kind next old w new.left b.left f.0 h) ∙ ap Err (sym f.1))

  pub one_read : (old new : Place) (w : Bytes) (a : A) → IsBehind w old new → kind w ≡ Some a → Parses (λ next. one_word due kind >>= next) old new (Ok a)
  one_read old new w a b e = (moves w old new b, λ next h. took due kind next old new w a b e h)

  pub one_found : (old new : Place) (w : Bytes) (r : Result A CommandFault) → IsBehind w old new → IsOne due kind w r → Parses (λ next. one_word due kind >>= next) old new r
  one_found old new w (Ok a) b e = one_read old new w a b e
  one_found old new w (Err why) b e = one_refused old new w why b e

-- a key and an id

pub key_fails : (old new : Place) (why : CommandFault) → Parses a_name old new (Err why) → Parses key_and_id old new (Err why)
key_fails old new why (inl m) = inl m
key_fails old new why (inr f) = inr (λ next h. f (λ key. a_name (λ id. next (key, id))) h)

pub id_fails : (old mid new : Place) (key : Bytes) (why : CommandFault) → Parses a_name old mid (Ok key) → Parses a_name mid new (Err why) → Parses key_and_id old new (Err why)
id_fails old mid new key why k (inl m) = inl m
id_fails old mid new key why k (inr f) = inr (λ next h. subst (λ ws. answers ws ≡ Err why) k.0.words (f (λ id. next (key, id)) (k.1 (λ name. a_name (λ id. next (name, id))) h)))

pub both_read : (old mid new : Place) (key id : Bytes) → Parses a_name old mid (Ok key) → Parses a_name mid new (Ok id) → Parses key_and_id old new (Ok (key, id))
both_read old mid new key id k i = (moves_on old mid new k.0 i.0, λ next h. i.1 (λ name. next (key, name)) (k.1 (λ name. a_name (λ other. next (name, other))) h))

-- GET: behind its key and id

module _ (old mid p q : Place) (key id : Bytes) (b : Bool) (k : Parses key_and_id old mid (Ok (key, id))) (t : Took (codes "WITHFIELDS") mid p b) (h : Follows old (key_and_id get_options)) where
  pub get_faults : (why : CommandFault) → ReadsShown p q None → IsEnd (λ w. fault.Invalid (shown_of w)) q (Err why) → Answers (all_words old) (Err why)
  get_faults why s e = subst (λ ws. Answers ws (Err why)) k.0.words (option_faults b (key, id) mid p q why t s e (k.1 get_options h))

  pub get_objects : ReadsShown p q None → q.left ≡ [] → reads (all_words old) ≡ Ok (command.Object (of_object.Get key id b shown.Objects))
  get_objects s l = subst (λ ws. reads ws ≡ Ok (command.Object (of_object.Get key id b shown.Objects))) k.0.words (objects_read b (key, id) mid p q t s l (k.1 get_options h))

  pub get_refused : (how : Shown) (why : CommandFault) → ReadsShown p q (Some how) → IsEnd (λ _. wrong_count (all_words q)) q (Err why) → Answers (all_words old) (Err why)
  get_refused how why s e =
      let at = shown_behind b (key, id) mid p q how t s (k.1 get_options h) in
      subst (λ ws. Answers ws (Err why)) (at.1 ∙ k.0.words) (end_refused q (command.Object (of_object.Get key id b how)) why e at.0)

  pub get_read : (how : Shown) → ReadsShown p q (Some how) → q.left ≡ [] → reads (all_words old) ≡ Ok (command.Object (of_object.Get key id b how))
  get_read how s l =
      let at = shown_behind b (key, id) mid p q how t s (k.1 get_options h) in
      subst (λ ws. reads ws ≡ Ok (command.Object (of_object.Get key id b how))) (at.1 ∙ k.0.words) (finished q (command.Object (of_object.Get key id b how)) l at.0)
