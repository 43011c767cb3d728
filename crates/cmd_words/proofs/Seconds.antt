-- How a whole command is read or refused that takes another form behind a first one.
use Rattle.std.proofs.Common.{◌≡◌, inl, inr, ◌∙◌, subst, []}
use Rattle.std.specs.Prelude.{Ok, Err}
use Rattle.world_model.specs.Grammar.{Form, done, ◌>>=◌}
use Rattle.world_model.specs.Commands.{reads, wrong_count}
use Rattle.world_model.specs.declared.commands.Command.{Command}
use Rattle.cmd_words.specs.Progress.{Place, all_words, Follows, Parses, Reads, Answers, IsEnd, answers}
use Rattle.cmd_words.proofs.Follows.{finished}
use Rattle.cmd_words.proofs.Ends.{end_refused}
use Rattle.cmd_words.specs.declared.faults.CommandFault.{CommandFault}

module _ {A B : Type 0} (form : (A → Form Command) → Form Command) (second : Form B) (make : A → B → Command) (old mid new : Place) (a : A) (k : Parses form old mid (Ok a)) (h : Follows old (form (λ x. second >>= λ y. done (make x y)))) where
  second_follows : Follows mid (second >>= λ y. done (make a y))
  second_follows = k.1 (λ x. second >>= λ y. done (make x y)) h

  pub second_fails : (why : CommandFault) → Reads second mid new (Err why) → Answers (all_words old) (Err why)
  second_fails why (inl m) = inl m
  second_fails why (inr r) = inr (subst (λ ws. answers ws ≡ Err why) k.0.words (r (λ y. done (make a y)) second_follows))

  module _ (b : B) (r : Reads second mid new (Ok b)) where
    end_follows : Follows new (done (make a b))
    end_follows = r.1 (λ y. done (make a y)) second_follows

    pub second_not_ended : (why : CommandFault) → IsEnd (λ _. wrong_count (all_words new)) new (Err why) → Answers (all_words old) (Err why)
    second_not_ended why e = subst (λ ws. Answers ws (Err why)) (r.0.words ∙ k.0.words) (end_refused new (make a b) why e end_follows)

    pub second_ended : new.left ≡ [] → reads (all_words old) ≡ Ok (make a b)
    second_ended l = subst (λ ws. reads ws ≡ Ok (make a b)) (r.0.words ∙ k.0.words) (finished new (make a b) l end_follows)
