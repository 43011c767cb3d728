-- One field or more, to the end of the words.
use Rattle.std.proofs.Common.{◌≡◌, inl, inr, refl, ◌∙◌, ap, subst, List, [], ◌∷◌, ◌++◌}
use Rattle.std.specs.Prelude.{Some, None, Ok, Err, flat_map}
use Rattle.std.proofs.lemmas.List.{append-nil}
use Rattle.byte_text.specs.Names.{Bytes}
use Rattle.world_model.specs.Grammar.{a_word, spells, runs_out, go_on, ◌>>=◌, done, repeated, once_or_more, live}
use Rattle.world_model.specs.Kinds.{name, value}
use Rattle.world_data.specs.Filters.{Field}
use Rattle.world_data.specs.declared.values.Value.{Value}
use Rattle.world_model.specs.Commands.{field, reads}
use Rattle.world_model.specs.declared.commands.Command.{Command}
use Rattle.world_model.specs.FormLaws.{Takes, fair_done, fair_word, fair_bind, takes_word, takes_bind}
use Rattle.cmd_words.specs.Progress.{Place, all_words, IsBehind, Moves, Follows, Parses, Reads, Answers, IsOne, name_of, key_and_id, answers, answered}
use Rattle.cmd_words.specs.Sets.{field_step, fields_more, fields_first, fset_of, ReadsFields}
use Rattle.cmd_words.proofs.Gets.{step, ends, stops, moves, moves_on}
use Rattle.cmd_words.proofs.Binds.{unrolled, done_behind, bind_assoc}
use Rattle.cmd_words.specs.declared.faults.CommandFault.{CommandFault}

takes_step : (given : List Field) → Takes (field_step given)
takes_step given = takes_bind field (λ f. done (given ++ f ∷ [])) (takes_bind name _ (takes_word a_word _) (λ n. fair_bind value _ (fair_word a_word _) (λ v. fair_done (n, v)))) (λ f. fair_done (given ++ f ∷ []))

-- the first field, and those behind it
pub first_field : (make : List Field → Command) (words : List Bytes) → (once_or_more field_step [] >>= λ all. done (make all)) words ≡ fields_first make words
first_field make words = bind_assoc (field_step []) (repeated field_step) (λ all. done (make all)) words ∙ done_behind (λ (f : Field). [] ++ f ∷ []) (λ s. fields_more make s) (field words)

module _ (make : List Field → Command) (given : List Field) where
  unroll : (words : List Bytes) → fields_more make given words ≡ done (make given) words ++ (field_step given >>= λ t. fields_more make t) words
  unroll words = unrolled field_step takes_step (λ all. done (make all)) given words

  behind_name : (n : Bytes) (more : List Bytes) → flat_map (go_on (λ t. fields_more make t)) (flat_map (go_on (λ (f : Field). done (given ++ f ∷ []))) (flat_map (go_on (λ (v : Value). done (n, v))) (value more)))
      ≡ (value >>= λ v. fields_more make (given ++ (n, v) ∷ [])) more
  behind_name n more =
      done_behind (λ (f : Field). given ++ f ∷ []) (λ t. fields_more make t) (flat_map (go_on (λ (v : Value). done (n, v))) (value more))
      ∙ done_behind (λ (v : Value). (n, v)) (λ f. fields_more make (given ++ f ∷ [])) (value more)

  fields_take : (w n : Bytes) (more : List Bytes) → name_of w ≡ Some n → live (fields_more make given (w ∷ more)) ≡ live ((value >>= λ v. fields_more make (given ++ (n, v) ∷ [])) more)
  fields_take w n more e = ap live (unroll (w ∷ more)) ∙ rw e (simp append-nil (ap live (behind_name n more)))

  fields_stop : (w : Bytes) → name_of w ≡ None → live (fields_more make given (w ∷ [])) ≡ []
  fields_stop w e = ap live (unroll (w ∷ [])) ∙ rw e refl

  fields_end : live (fields_more make given []) ≡ spells (make given) [] ∷ runs_out a_word ∷ []
  fields_end = ap live (unroll [])

-- what holds while fields are read
pub record HasFields (all p : Place) (given : List Field) : Type 0 where
  pub follows : (make : List Field → Command) → Follows all (fields_first make) → Follows p (fields_more make given)
  pub moved : Moves all p

pub begun : (all p : Place) (f : Field) (given : List Field) → Reads field all p (Ok f) → given ≡ f ∷ [] → HasFields all p given
begun all p f given k e = rw e (record { follows = λ make h. k.1 (λ g. fields_more make (g ∷ [])) h; moved = k.0 })

module _ (all p q : Place) (given : List Field) (w n : Bytes) (s : HasFields all p given) (b : IsBehind w p q) (e : name_of w ≡ Some n) where
  value_follows : (make : List Field → Command) → Follows all (fields_first make) → Follows q (value >>= λ v. fields_more make (given ++ (n, v) ∷ []))
  value_follows make h = step (fields_more make given) (value >>= λ v. fields_more make (given ++ (n, v) ∷ [])) p q w b (λ more. fields_take make given w n more e) (s.follows make h)

  pub one_more : (r : Place) (v : Value) (more : List Field) → Reads value q r (Ok v) → more ≡ given ++ (n, v) ∷ [] → HasFields all r more
  one_more r v more k m = rw m (record { follows = λ make h. k.1 (λ x. fields_more make (given ++ (n, x) ∷ [])) (value_follows make h); moved = moves_on all q r (moves_on all p q s.moved (moves w p q b)) k.0 })

  pub value_refused : (r : Place) (why : CommandFault) → Reads value q r (Err why) → ReadsFields all (Err why)
  value_refused r why (inl m) = inl m
  value_refused r why (inr k) = inr (λ make h. subst (λ ws. answers ws ≡ Err why) (moves_on all p q s.moved (moves w p q b)).words (k (λ x. fields_more make (given ++ (n, x) ∷ [])) (value_follows make h)))

pub name_refused : (all p q : Place) (given : List Field) (w : Bytes) (why : CommandFault) → HasFields all p given → IsBehind w p q → IsOne a_word name_of w (Err why) → ReadsFields all (Err why)
name_refused all p q given w why s b (inl m) = inl m
name_refused all p q given w why s b (inr f) = inr (λ make h. subst (λ ws. answers ws ≡ Err why) s.moved.words
    (rw f.1 (ap answered (stops p (fields_more make given) (make given) (runs_out a_word ∷ []) w q.left (fields_end make given) refl refl refl b.left (fields_stop make given w f.0) (s.follows make h)))))

pub first_refused : (all p : Place) (why : CommandFault) → Reads field all p (Err why) → ReadsFields all (Err why)
first_refused all p why (inl m) = inl m
first_refused all p why (inr k) = inr (λ make h. k (λ f. fields_more make (f ∷ [])) h)

pub all_read : (all p : Place) (given : List Field) → HasFields all p given → p.left ≡ [] → ReadsFields all (Ok given)
all_read all p given s l = λ make h. subst (λ ws. reads ws ≡ Ok (make given)) s.moved.words (ends p (fields_more make given) (make given) (runs_out a_word ∷ []) (fields_end make given) l (s.follows make h))

-- FSET

module _ (old mid : Place) (k : Bytes × Bytes) (a : Parses key_and_id old mid (Ok k)) (h : Follows old (key_and_id (λ x. fields_first (fset_of x)))) where
  pub fields_refused : (why : CommandFault) → ReadsFields mid (Err why) → Answers (all_words old) (Err why)
  fields_refused why (inl m) = inl m
  fields_refused why (inr r) = inr (subst (λ ws. answers ws ≡ Err why) a.0.words (r (fset_of k) (a.1 (λ x. fields_first (fset_of x)) h)))

  pub fields_set : (given : List Field) → ReadsFields mid (Ok given) → reads (all_words old) ≡ Ok (fset_of k given)
  fields_set given r = subst (λ ws. reads ws ≡ Ok (fset_of k given)) a.0.words (r (fset_of k) (a.1 (λ x. fields_first (fset_of x)) h))
