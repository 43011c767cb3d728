-- How a whole SET is read or refused.
use Rattle.std.proofs.Common.{◌≡◌, inl, inr, sym, ◌∙◌, ap, subst, []}
use Rattle.std.specs.Prelude.{Result, Ok, Err, IfOk, IfErr}
use Rattle.byte_text.specs.Names.{Bytes}
use Rattle.geo_text.specs.Texts.{Shape}
use Rattle.world_model.specs.Grammar.{Form, done}
use Rattle.world_model.specs.Commands.{SetOptions, reads, wrong_count}
use Rattle.world_model.specs.declared.commands.Command.{Command}
use Rattle.cmd_words.specs.Progress.{Place, all_words, Follows, Parses, Answers, IsEnd, key_and_id, answers}
use Rattle.cmd_words.specs.Sets.{options_and_place, no_options, behind_set, set_of, Refuses, ReadsOptions, ReadsPlace}
use Rattle.cmd_words.proofs.Follows.{finished}
use Rattle.cmd_words.proofs.Ends.{end_refused}
use Rattle.cmd_words.specs.declared.faults.CommandFault.{CommandFault}
use Rattle.cmd_words.specs.declared.faults.CommandFault.TheVariants.{Memory}

refused : (o : SetOptions) (next : SetOptions → Bytes × Shape → Form Command) (first p : Place) (why : CommandFault) → all_words p ≡ all_words first → Refuses o p why → Follows p (options_and_place o next) → Answers (all_words first) (Err why)
refused o next first p why same (inl m) h = inl m
refused o next first p why same (inr r) h = inr (subst (λ ws. answers ws ≡ Err why) same (r next h))

module _ (old behind_key : Place) (k : Bytes × Bytes) (a : Parses key_and_id old behind_key (Ok k)) (h : Follows old (key_and_id behind_set)) where
  options_follow : Follows behind_key (options_and_place no_options (λ o t. done (set_of k o t)))
  options_follow = a.1 behind_set h

  pub options_refused : (why : CommandFault) → Refuses no_options behind_key why → Answers (all_words old) (Err why)
  options_refused why r = refused no_options (λ o t. done (set_of k o t)) old behind_key why a.0.words r options_follow

  module _ (behind_options : Place) (o : SetOptions) (g : ReadsOptions no_options behind_key behind_options (Ok o)) where
    place_follows : Follows behind_options (options_and_place o (λ p t. done (set_of k p t)))
    place_follows = g.0.follows (λ p t. done (set_of k p t)) options_follow

    pub place_refused : (why : CommandFault) → Refuses o behind_options why → Answers (all_words old) (Err why)
    place_refused why r = refused o (λ p t. done (set_of k p t)) old behind_options why (g.0.moves.words ∙ a.0.words) r place_follows

    module _ (behind_place : Place) (t : Bytes × Shape) (p : ReadsPlace o behind_options behind_place (Ok t)) where
      end_follows : Follows behind_place (done (set_of k o t))
      end_follows = p.1 (λ q u. done (set_of k q u)) place_follows

      same : all_words behind_place ≡ all_words old
      same = p.0.words ∙ g.0.moves.words ∙ a.0.words

      pub more_refused : (why : CommandFault) → IsEnd (λ _. wrong_count (all_words behind_place)) behind_place (Err why) → Answers (all_words old) (Err why)
      more_refused why e = subst (λ ws. Answers ws (Err why)) same (end_refused behind_place (set_of k o t) why e end_follows)

      pub put_asked : (r : Result Command CommandFault) → behind_place.left ≡ [] → IfOk r (λ c. c ≡ set_of k o t) → IfErr r (λ why. why ≡ Memory) → Answers (all_words old) r
      put_asked (Ok c) l ok err = subst (λ ws. reads ws ≡ Ok c) same (finished behind_place (set_of k o t) l end_follows ∙ ap Ok (sym ok))
      put_asked (Err why) l ok err = inl err
