-- Options in any order, and what is to follow them.
use Rattle.std.proofs.Common.{◌≡◌, Bool, true, false, inl, inr, refl, sym, ◌∙◌, ap, subst, List, [], ◌∷◌, ◌++◌, arith}
use Rattle.std.specs.Prelude.{if◌then◌else◌, ◌&&◌, flat_map, Ok, Err}
use Rattle.std.proofs.lemmas.List.{append-nil}
use Rattle.byte_text.specs.Names.{Bytes, is_word}
use Rattle.world_model.specs.Grammar.{Form, a_word, a_coordinate, a_geojson, Reading, spells, runs_out, go_on, ◌>>=◌, done, live}
use Rattle.world_model.specs.declared.commands.Command.{Command}
use Rattle.world_model.specs.FormLaws.{Each, Takes}
use Rattle.cmd_words.specs.Progress.{Place, all_words, IsBehind, Moves, Follows, Parses, Reads, Answers, IsAhead, IsWordDue, a_name, answers}
use Rattle.cmd_words.specs.Options.{Options, LacksOption, options_then, IsNoOption, Goes, Refuses, ReadsOptions}
use Rattle.cmd_words.proofs.Gets.{step, moves, moves_on}
use Rattle.cmd_words.proofs.Binds.{unrolled, follows_same, bind_done}
use Rattle.cmd_words.proofs.Ahead.{live_both}
use Rattle.cmd_words.specs.declared.faults.CommandFault.{CommandFault}

-- what holds of the options of a command: each takes a word, a word that begins one that may come is read as it, another word as none, and where the words run out a word is due
pub record OptionLaws {S K : Type 0} (t : Options S K) : Type 0 where
  pub takes : (o : S) → Takes (t.one o)
  pub taken : (o : S) (next : S → Form Command) (w : Bytes) (more : List Bytes) (kind : K) → is_word w (t.name kind) ≡ true → t.may o kind ≡ true → (t.one o >>= next) (w ∷ more) ≡ (t.behind o kind >>= next) more
  pub none : (o : S) (w : Bytes) (rest more : List Bytes) → LacksOption t o (w ∷ rest) → t.one o (w ∷ more) ≡ []
  pub due : (o : S) → Each IsWordDue (t.one o [])

-- where a test fails, of one word and of two

pub absent_both : {A : Type 0} (b e f : Bool) (xs : List A) → (b && e) ≡ false → (b && f) ≡ false → (e ≡ false → f ≡ false → xs ≡ []) → (if b then xs else []) ≡ []
absent_both false e f xs p q n = refl
absent_both true e f xs p q n = n p q

-- where the words run out, words are due

pub due_if : {A : Type 0} (b : Bool) (rs : List (Reading A)) → Each IsWordDue rs → Each IsWordDue (if b then rs else [])
due_if true rs d = d
due_if false rs d = tt

due_behind : {A B : Type 0} (g : A → Form B) (rs : List (Reading A)) → Each IsWordDue rs → Each IsWordDue (flat_map (go_on g) rs)
due_behind g [] d = tt
due_behind g (spells a rest ∷ rs) d = absurd d.0
due_behind g (runs_out a_word ∷ rs) d = (tt, due_behind g rs d.1)
due_behind g (runs_out a_coordinate ∷ rs) d = absurd d.0
due_behind g (runs_out a_geojson ∷ rs) d = absurd d.0

-- an option with a value: the options with it, whose words say the same
pub value_read : {S A : Type 0} (f : Form A) (made : S → A → S) (o p : S) → p ≡ o → (old new : Place) (a : A) → Reads f old new (Ok a) → Reads (f >>= λ x. done (made o x)) old new (Ok (made p a))
value_read {S = S} f made o p e old new a k = subst (λ (q : S). Reads (f >>= λ x. done (made o x)) old new (Ok (made q a))) (sym e) (bind_done f (λ x. done (made o x)) old new a (made o a) refl k)

-- an option without a value
pub done_read : {A : Type 0} (a : A) (p : Place) → Reads (done a) p p (Ok a)
done_read a p = (record { words = refl; fewer = omega arith }, λ next h. follows_same p (done a >>= next) (next a) (λ words. append-nil (next a words)) h)

module _ {S K : Type 0} (t : Options S K) (laws : OptionLaws t) where
  pub unroll : (o : S) (next : S → Form Command) (words : List Bytes) → options_then t o next words ≡ next o words ++ (t.one o >>= λ p. options_then t p next) words
  unroll o next words = unrolled t.one laws.takes next o words

  -- a word that begins an option
  option_goes : (o : S) (next : S → Form Command) → IsNoOption t next → (w : Bytes) (more : List Bytes) (kind : K) → is_word w (t.name kind) ≡ true → t.may o kind ≡ true
      → live (options_then t o next (w ∷ more)) ≡ live ((t.behind o kind >>= λ p. options_then t p next) more)
  option_goes o next quiet w more kind e x =
      let behind : List (Reading Command) = (t.one o >>= λ p. options_then t p next) (w ∷ more) in
      ap live (unroll o next (w ∷ more)) ∙ live_both (next o (w ∷ more)) behind ∙ ap (λ (l : List (Reading Command)). l ++ live behind) (quiet o kind w more e)
      ∙ ap live (laws.taken o (λ p. options_then t p next) w more kind e x)

  -- a word that begins no option that may still come
  pub past_options : (o : S) (w : Bytes) (rest more : List Bytes) → LacksOption t o (w ∷ rest) → (next : S → Form Command) → options_then t o next (w ∷ more) ≡ next o (w ∷ more)
  past_options o w rest more n next =
      let nothing : (t.one o >>= λ p. options_then t p next) (w ∷ more) ≡ [] = ap (flat_map (go_on (λ p. options_then t p next))) (laws.none o w rest more n) in
      unroll o next (w ∷ more) ∙ ap (λ (l : List (Reading Command)). next o (w ∷ more) ++ l) nothing ∙ append-nil (next o (w ∷ more))

  -- what follows the options goes on with the next word
  pub options_ahead : (o : S) (next : S → Form Command) (p : Place) → LacksOption t o p.left → Follows p (options_then t o next) → IsAhead p (next o)
  options_ahead o next p n h = record { begun = h.begun; goes = λ w rest l more. h.goes (w ∷ more) ∙ ap live (past_options o w rest more (subst (LacksOption t o) l n) next) }

  -- what is due behind what follows the options
  abbrev pub behind_options : S → (S → Form Command) → List (Reading Command)
  behind_options o next = (t.one o >>= λ p. options_then t p next) []

  pub options_due : (o : S) (next : S → Form Command) → Each IsWordDue (behind_options o next)
  options_due o next = due_behind (λ p. options_then t p next) (t.one o []) (laws.due o)

  -- options in order

  pub goes_on_from : (o : S) (p : Place) → Goes t o o p p
  goes_on_from o p = record { moves = record { words = refl; fewer = omega arith }; follows = λ next quiet h. h }

  pub options_read : (first_options o : S) (first old new : Place) → Goes t first_options o first old → (new ≡ old) × LacksOption t o old.left → ReadsOptions t first_options first new (Ok o)
  options_read first_options o first old new g e = rw e.0 (g, e.1)

  module _ (first_options o : S) (first old mid new : Place) (g : Goes t first_options o first old) (kind : K) (w : Bytes) (x : t.may o kind ≡ true) (e : is_word w (t.name kind) ≡ true) (b : IsBehind w old mid) where
    begun : (next : S → Form Command) → IsNoOption t next → Follows first (options_then t first_options next) → Follows mid (t.behind o kind >>= λ p. options_then t p next)
    begun next quiet h = step (options_then t o next) (t.behind o kind >>= λ p. options_then t p next) old mid w b (λ more. option_goes o next quiet w more kind e x) (g.follows next quiet h)

    moved : Moves first mid
    moved = moves_on first old mid g.moves (moves w old mid b)

    pub goes_further : (p : S) → Reads (t.behind o kind) mid new (Ok p) → Goes t first_options p first new
    goes_further p k = record { moves = moves_on first mid new moved k.0; follows = λ next quiet h. k.1 (λ q. options_then t q next) (begun next quiet h) }

    pub refused_further : (why : CommandFault) → Reads (t.behind o kind) mid new (Err why) → ReadsOptions t first_options first new (Err why)
    refused_further why (inl m) = inl m
    refused_further why (inr r) = inr (λ next quiet h. subst (λ ws. answers ws ≡ Err why) moved.words (r (λ q. options_then t q next) (begun next quiet h)))

  -- the options behind a key

  module _ (none : S) (next : Bytes → S → Form Command) (quiet : (key : Bytes) → IsNoOption t (next key)) (old behind_key : Place) (key : Bytes) (a : Parses a_name old behind_key (Ok key))
      (h : Follows old (a_name (λ k. options_then t none (next k)))) where
    options_follow : Follows behind_key (options_then t none (next key))
    options_follow = a.1 (λ k. options_then t none (next k)) h

    pub options_refused : (why : CommandFault) → Refuses t none behind_key why → Answers (all_words old) (Err why)
    options_refused why (inl m) = inl m
    options_refused why (inr r) = inr (subst (λ ws. answers ws ≡ Err why) a.0.words (r (next key) (quiet key) options_follow))

    module _ (mid : Place) (o : S) (g : ReadsOptions t none behind_key mid (Ok o)) where
      pub options_done : Follows mid (options_then t o (next key))
      options_done = g.0.follows (next key) (quiet key) options_follow

      pub same_words : all_words mid ≡ all_words old
      same_words = g.0.moves.words ∙ a.0.words

      pub next_ahead : IsAhead mid (next key o)
      next_ahead = options_ahead o (next key) mid g.1 options_done
