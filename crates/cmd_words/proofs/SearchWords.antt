-- What stands behind the key of a search: options in any order, and what is to follow them.
use Rattle.std.proofs.Common.{◌≡◌, ℕ, zero, suc, Bool, true, false, not, refl, List, [], ◌∷◌, length}
use Rattle.std.specs.Prelude.{codes, is_none, ◌&&◌, nat_lt, Some}
use Rattle.std.specs.Str.{str_to_ascii_lowercase}
use Rattle.std.proofs.lemmas.List.{append-nil}
use Rattle.byte_text.specs.Names.{Bytes, is_word}
use Rattle.world_data.specs.Limits.{max_tests, max_limit}
use Rattle.world_model.specs.Grammar.{Form, a_word, runs_out, ◌>>=◌, ◌>>◌, done, word, times}
use Rattle.world_model.specs.Kinds.{name, glob, value, between, bound, text, again}
use Rattle.world_model.specs.Commands.{SearchOptions, search_option, test, where_range, where_same}
use Rattle.world_data.specs.declared.filters.Test.TheVariants.{Range, Same, Among}
use Rattle.world_model.specs.declared.commands.Command.{Command}
use Rattle.world_model.specs.FormLaws.{Each, Takes, Fair, fair_done, fair_or, fair_word, fair_bind, takes_word, takes_bind, each_append}
use Rattle.cmd_words.specs.Progress.{IsWordDue}
use Rattle.cmd_words.specs.Options.{LacksOption}
use Rattle.cmd_words.specs.SearchWords.{behind_name, value_test, among_test, with_test, behind_word, option_name, may_come, search_table}
use Rattle.cmd_words.specs.declared.search_options.SearchWord.{SearchWord}
use Rattle.cmd_words.specs.declared.search_options.SearchWord.TheVariants as option
use Rattle.cmd_words.proofs.Gets.{lower_word}
use Rattle.cmd_words.proofs.OptionWords.{takes_where, takes_behind, takes_alone, nothing, absent_when}
use Rattle.cmd_words.proofs.Options.{OptionLaws, absent_both, due_if}

-- every option takes a word

fair_times : {A : Type 0} (n : ℕ) (f : Form A) → Fair f → Fair (times n f)
fair_times zero f p = fair_done []
fair_times (suc n) f p = fair_bind f _ p (λ a. fair_bind (times n f) _ (fair_times n f p) (λ rest. fair_done (a ∷ rest)))

fair_range : (n : Bytes) → Fair (where_range n)
fair_range n = fair_bind bound _ (fair_word a_word _) (λ low. fair_bind bound _ (fair_word a_word _) (λ high. fair_done (Range n low high)))

fair_same : (n : Bytes) → Fair (where_same n)
fair_same n = fair_bind text _ (fair_word a_word _) (λ t. fair_bind (again t) _ (fair_word a_word _) (λ u. fair_done (Same n t)))

fair_value : Fair value_test
fair_value = fair_bind name behind_name (fair_word a_word _) (λ n. fair_or (where_range n) (where_same n) (fair_range n) (fair_same n))

fair_among : Fair among_test
fair_among = fair_bind name _ (fair_word a_word _) (λ n. fair_bind (between 1 _) _ (fair_word a_word _) (λ count. fair_bind (times count value) _ (fair_times count value (fair_word a_word _)) (λ values. fair_done (Among n values))))

pub takes_test : Takes test
takes_test words = each_append _ _ _ (takes_bind (word (codes "WHERE")) (λ _. value_test) (takes_word a_word _) (λ _. fair_value) words) (takes_bind (word (codes "WHEREIN")) (λ _. among_test) (takes_word a_word _) (λ _. fair_among) words)

takes_option : (ordered : Bool) (o : SearchOptions) → Takes (search_option ordered o)
takes_option ordered o words =
    each_append _ _ _ (takes_where (is_none o.glob) _ (takes_behind (codes "MATCH") glob _ (fair_word a_word _)) words) (
    each_append _ _ _ (takes_where (is_none o.cursor) _ (takes_behind (codes "CURSOR") (between 0 4294967295) _ (fair_word a_word _)) words) (
    each_append _ _ _ (takes_where (is_none o.limit) _ (takes_behind (codes "LIMIT") (between 1 max_limit) _ (fair_word a_word _)) words) (
    each_append _ _ _ (takes_where (not o.bare) _ (takes_alone (codes "NOFIELDS") _) words) (
    each_append _ _ _ (takes_where (ordered && is_none o.down) _ (takes_alone (codes "ASC") _) words) (
    each_append _ _ _ (takes_where (ordered && is_none o.down) _ (takes_alone (codes "DESC") _) words) (
    each_append _ _ _ (takes_where (nat_lt (length o.tests) max_tests) _ (takes_bind test _ takes_test (λ t. fair_done (with_test o t))) words) tt))))))

-- a word that begins an option

module _ (ordered : Bool) (o : SearchOptions) (next : SearchOptions → Form Command) (w : Bytes) (more : List Bytes) where
  abbrev TakesWord : SearchWord → Type 0
  TakesWord kind = (search_option ordered o >>= next) (w ∷ more) ≡ (behind_word o kind >>= next) more

  match_taken : str_to_ascii_lowercase w ≡ codes "match" → may_come ordered o option.Match ≡ true → TakesWord option.Match
  match_taken e x = rw (e, x, nothing (is_none o.cursor), nothing (is_none o.limit), nothing (not o.bare), nothing (ordered && is_none o.down), nothing (nat_lt (length o.tests) max_tests)) (simp append-nil)

  cursor_taken : str_to_ascii_lowercase w ≡ codes "cursor" → may_come ordered o option.Cursor ≡ true → TakesWord option.Cursor
  cursor_taken e x = rw (e, x, nothing (is_none o.glob), nothing (is_none o.limit), nothing (not o.bare), nothing (ordered && is_none o.down), nothing (nat_lt (length o.tests) max_tests)) (simp append-nil)

  limit_taken : str_to_ascii_lowercase w ≡ codes "limit" → may_come ordered o option.Limit ≡ true → TakesWord option.Limit
  limit_taken e x = rw (e, x, nothing (is_none o.glob), nothing (is_none o.cursor), nothing (not o.bare), nothing (ordered && is_none o.down), nothing (nat_lt (length o.tests) max_tests)) (simp append-nil)

  nofields_taken : str_to_ascii_lowercase w ≡ codes "nofields" → may_come ordered o option.NoFields ≡ true → TakesWord option.NoFields
  nofields_taken e x = rw (e, x, nothing (is_none o.glob), nothing (is_none o.cursor), nothing (is_none o.limit), nothing (ordered && is_none o.down), nothing (nat_lt (length o.tests) max_tests)) (simp append-nil)

  ascending_taken : str_to_ascii_lowercase w ≡ codes "asc" → may_come ordered o option.Ascending ≡ true → TakesWord option.Ascending
  ascending_taken e x = rw (e, x, nothing (is_none o.glob), nothing (is_none o.cursor), nothing (is_none o.limit), nothing (not o.bare), nothing (nat_lt (length o.tests) max_tests)) (simp append-nil)

  descending_taken : str_to_ascii_lowercase w ≡ codes "desc" → may_come ordered o option.Descending ≡ true → TakesWord option.Descending
  descending_taken e x = rw (e, x, nothing (is_none o.glob), nothing (is_none o.cursor), nothing (is_none o.limit), nothing (not o.bare), nothing (nat_lt (length o.tests) max_tests)) (simp append-nil)

  where_taken : str_to_ascii_lowercase w ≡ codes "where" → may_come ordered o option.Where ≡ true → TakesWord option.Where
  where_taken e x = rw (e, x, nothing (is_none o.glob), nothing (is_none o.cursor), nothing (is_none o.limit), nothing (not o.bare), nothing (ordered && is_none o.down)) (simp append-nil)

  wherein_taken : str_to_ascii_lowercase w ≡ codes "wherein" → may_come ordered o option.WhereIn ≡ true → TakesWord option.WhereIn
  wherein_taken e x = rw (e, x, nothing (is_none o.glob), nothing (is_none o.cursor), nothing (is_none o.limit), nothing (not o.bare), nothing (ordered && is_none o.down)) (simp append-nil)

  option_taken : (kind : SearchWord) → is_word w (option_name kind) ≡ true → may_come ordered o kind ≡ true → TakesWord kind
  option_taken option.Match e x = match_taken (lower_word w (codes "MATCH") e) x
  option_taken option.Cursor e x = cursor_taken (lower_word w (codes "CURSOR") e) x
  option_taken option.Limit e x = limit_taken (lower_word w (codes "LIMIT") e) x
  option_taken option.NoFields e x = nofields_taken (lower_word w (codes "NOFIELDS") e) x
  option_taken option.Ascending e x = ascending_taken (lower_word w (codes "ASC") e) x
  option_taken option.Descending e x = descending_taken (lower_word w (codes "DESC") e) x
  option_taken option.Where e x = where_taken (lower_word w (codes "WHERE") e) x
  option_taken option.WhereIn e x = wherein_taken (lower_word w (codes "WHEREIN") e) x

-- a word that begins no option that may still come

module _ (ordered : Bool) (o : SearchOptions) (w : Bytes) (rest more : List Bytes) (n : LacksOption (search_table ordered) o (w ∷ rest)) where
  no_option : search_option ordered o (w ∷ more) ≡ []
  no_option =
      rw (
        absent_when (is_none o.glob) (is_word w (codes "MATCH")) ((word (codes "MATCH") >> glob >>= λ pattern. done (record o { glob = Some pattern })) (w ∷ more)) (n option.Match) (λ e. rw e refl),
        absent_when (is_none o.cursor) (is_word w (codes "CURSOR")) ((word (codes "CURSOR") >> between 0 4294967295 >>= λ k. done (record o { cursor = Some k })) (w ∷ more)) (n option.Cursor) (λ e. rw e refl),
        absent_when (is_none o.limit) (is_word w (codes "LIMIT")) ((word (codes "LIMIT") >> between 1 max_limit >>= λ k. done (record o { limit = Some k })) (w ∷ more)) (n option.Limit) (λ e. rw e refl),
        absent_when (not o.bare) (is_word w (codes "NOFIELDS")) ((word (codes "NOFIELDS") >> done (record o { bare = true })) (w ∷ more)) (n option.NoFields) (λ e. rw e refl),
        absent_when (ordered && is_none o.down) (is_word w (codes "ASC")) ((word (codes "ASC") >> done (record o { down = Some false })) (w ∷ more)) (n option.Ascending) (λ e. rw e refl),
        absent_when (ordered && is_none o.down) (is_word w (codes "DESC")) ((word (codes "DESC") >> done (record o { down = Some true })) (w ∷ more)) (n option.Descending) (λ e. rw e refl),
        absent_both (nat_lt (length o.tests) max_tests) (is_word w (codes "WHERE")) (is_word w (codes "WHEREIN")) ((test >>= λ t. done (with_test o t)) (w ∷ more)) (n option.Where) (n option.WhereIn) (λ e f. rw (e, f) refl),
      ) refl

-- where the words run out, words are due that another option could begin with
due_options : (ordered : Bool) (o : SearchOptions) → Each IsWordDue (search_option ordered o [])
due_options ordered o =
    each_append _ _ _ (due_if (is_none o.glob) (runs_out a_word ∷ []) (tt, tt)) (
    each_append _ _ _ (due_if (is_none o.cursor) (runs_out a_word ∷ []) (tt, tt)) (
    each_append _ _ _ (due_if (is_none o.limit) (runs_out a_word ∷ []) (tt, tt)) (
    each_append _ _ _ (due_if (not o.bare) (runs_out a_word ∷ []) (tt, tt)) (
    each_append _ _ _ (due_if (ordered && is_none o.down) (runs_out a_word ∷ []) (tt, tt)) (
    each_append _ _ _ (due_if (ordered && is_none o.down) (runs_out a_word ∷ []) (tt, tt)) (
    each_append _ _ _ (due_if (nat_lt (length o.tests) max_tests) (runs_out a_word ∷ runs_out a_word ∷ []) (tt, (tt, tt))) tt))))))

pub search_laws : (ordered : Bool) → OptionLaws (search_table ordered)
search_laws ordered = record {
  takes = takes_option ordered;
  taken = λ o next w more kind e x. option_taken ordered o next w more kind e x;
  none = λ o w rest more n. no_option ordered o w rest more n;
  due = due_options ordered;
}
