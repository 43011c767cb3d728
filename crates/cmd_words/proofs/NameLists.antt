-- One name or more, to the end of the words.
use Rattle.std.proofs.Common.{◌≡◌, inl, inr, suc, refl, ap, subst, List, [], ◌∷◌, ◌++◌, length, add-one}
use Rattle.std.specs.Prelude.{Option, Some, None, Ok, Err, flat_map}
use Rattle.std.proofs.lemmas.List.{append-nil}
use Rattle.byte_text.specs.Names.{Bytes}
use Rattle.world_model.specs.Grammar.{a_word, Reading, runs_out, go_on, ◌>>=◌, done, read_as, one_word, at_most_times, repeated, once_or_more, live}
use Rattle.world_model.specs.Commands.{reads}
use Rattle.world_model.specs.declared.commands.Command.{Command}
use Rattle.cmd_words.specs.Progress.{Place, all_words, IsBehind, Moves, Follows, Reads, Answers, IsOne, answers, answered}
use Rattle.cmd_words.specs.NameLists.{name_step, names_more, some_names, ReadsNames}
use Rattle.cmd_words.proofs.Gets.{step, ends, stops, moves, moves_on}
use Rattle.cmd_words.specs.declared.faults.CommandFault.{CommandFault}

module _ (reader : Bytes → Option Bytes) (make : List Bytes → Command) where
  takes : (names : List Bytes) (w n : Bytes) (more : List Bytes) → reader w ≡ Some n → live (names_more reader make names (w ∷ more)) ≡ live (names_more reader make (names ++ n ∷ []) more)
  takes names w n more e = rw (add-one (suc (length more)), add-one (length more), e)
      (ap (λ (rs : List (Reading (List Bytes))). live (flat_map (go_on (λ (all : List Bytes). done (make all))) rs)) (append-nil (at_most_times (suc (length more)) (name_step reader) (names ++ n ∷ []) more)))

  not_taken : (names : List Bytes) (w : Bytes) → reader w ≡ None → live (names_more reader make names (w ∷ [])) ≡ []
  not_taken names w e = rw e refl

  -- the first name, and those behind it
  first_read : (o : Option Bytes) (rest : List Bytes)
      → live (flat_map (go_on (λ (all : List Bytes). done (make all))) (flat_map (go_on (repeated (name_step reader))) (flat_map (go_on (λ (n : Bytes). done ([] ++ n ∷ []))) (read_as o rest))))
      ≡ live (flat_map (go_on (λ (n : Bytes). names_more reader make (n ∷ []))) (read_as o rest))
  first_read None rest = refl
  first_read (Some n) rest = simp append-nil

  pub first_name : (more : List Bytes) → live ((once_or_more (name_step reader) [] >>= λ all. done (make all)) more) ≡ live (some_names reader make more)
  first_name [] = refl
  first_name (w ∷ rest) = first_read (reader w) rest

module _ (reader : Bytes → Option Bytes) where
  -- what holds while names are read
  pub record HasNames (all p : Place) (names : List Bytes) : Type 0 where
    pub follows : (make : List Bytes → Command) → Follows all (some_names reader make) → Follows p (names_more reader make names)
    pub moved : Moves all p

  pub begun : (all p : Place) (n : Bytes) (names : List Bytes) → Reads (one_word a_word reader) all p (Ok n) → names ≡ [] ++ n ∷ [] → HasNames all p names
  begun all p n names f e = rw e (record { follows = λ make h. f.1 (λ m. names_more reader make (m ∷ [])) h; moved = f.0 })

  pub first_refused : (all p : Place) (why : CommandFault) → Reads (one_word a_word reader) all p (Err why) → ReadsNames reader all (Err why)
  first_refused all p why (inl m) = inl m
  first_refused all p why (inr k) = inr (λ make h. k (λ n. names_more reader make (n ∷ [])) h)

  module _ (all p q : Place) (names : List Bytes) (w : Bytes) (s : HasNames all p names) (b : IsBehind w p q) where
    pub one_more : (n : Bytes) (more : List Bytes) → reader w ≡ Some n → more ≡ names ++ n ∷ [] → HasNames all q more
    one_more n more e m = rw m (record {
      follows = λ make h. step (names_more reader make names) (names_more reader make (names ++ n ∷ [])) p q w b (λ rest. takes reader make names w n rest e) (s.follows make h);
      moved = moves_on all p q s.moved (moves w p q b);
    })

    pub refused : (why : CommandFault) → IsOne a_word reader w (Err why) → ReadsNames reader all (Err why)
    refused why (inl m) = inl m
    refused why (inr f) = inr (λ make h. subst (λ ws. answers ws ≡ Err why) s.moved.words
        (rw f.1 (ap answered (stops p (names_more reader make names) (make names) (runs_out a_word ∷ []) w q.left refl refl refl refl b.left (not_taken reader make names w f.0) (s.follows make h)))))

  pub read_all : (all p q : Place) (names : List Bytes) → HasNames all p names → (q ≡ p) × (p.left ≡ []) → ReadsNames reader all (Ok names)
  read_all all p q names s e = λ make h. subst (λ ws. reads ws ≡ Ok (make names)) s.moved.words
      (ends p (names_more reader make names) (make names) (runs_out a_word ∷ []) refl e.1 (s.follows make h))

  -- a whole command
  pub names_refused : (make : List Bytes → Command) (old : Place) (why : CommandFault) → ReadsNames reader old (Err why) → Follows old (some_names reader make) → Answers (all_words old) (Err why)
  names_refused make old why (inl m) h = inl m
  names_refused make old why (inr r) h = inr (r make h)
