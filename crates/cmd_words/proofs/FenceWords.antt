-- What stands behind the key of SETCHAN: options in any order.
use Rattle.std.proofs.Common.{◌≡◌, Bool, true, false, not, refl, List, [], ◌∷◌, ◌++◌, length}
use Rattle.std.specs.Prelude.{codes, is_none, if◌then◌else◌, ◌&&◌, nat_lt, Some}
use Rattle.std.specs.Str.{str_to_ascii_lowercase}
use Rattle.std.proofs.lemmas.List.{append-nil}
use Rattle.byte_text.specs.Names.{Bytes, is_word}
use Rattle.world_data.specs.Limits.{max_tests}
use Rattle.world_model.specs.Grammar.{Form, a_word, Reading, runs_out, ◌>>=◌, ◌>>◌, done, word}
use Rattle.world_model.specs.Kinds.{glob, list_of}
use Rattle.world_model.specs.Commands.{FenceOptions, fence_option, test, detect_names, command_names}
use Rattle.world_model.specs.declared.commands.Command.{Command}
use Rattle.world_model.specs.FormLaws.{Each, Takes, fair_done, fair_word, takes_bind, each_append}
use Rattle.cmd_words.specs.Progress.{IsWordDue}
use Rattle.cmd_words.specs.Options.{LacksOption}
use Rattle.cmd_words.specs.FenceWords.{with_test, behind_word, option_name, may_come, fence_table}
use Rattle.cmd_words.specs.declared.fence_options.FenceWord.{FenceWord}
use Rattle.cmd_words.specs.declared.fence_options.FenceWord.TheVariants as option
use Rattle.cmd_words.proofs.Gets.{lower_word}
use Rattle.cmd_words.proofs.OptionWords.{takes_where, takes_behind, takes_alone, nothing, absent_when}
use Rattle.cmd_words.proofs.Options.{OptionLaws, absent_both, due_if}
use Rattle.cmd_words.proofs.SearchWords.{takes_test}

-- every option takes a word
takes_option : (near : Bool) (o : FenceOptions) → Takes (fence_option near o)
takes_option near o words =
    each_append _ _ _ (takes_where (is_none o.glob) _ (takes_behind (codes "MATCH") glob _ (fair_word a_word _)) words) (
    each_append _ _ _ (takes_where (nat_lt (length o.tests) max_tests) _ (takes_bind test _ takes_test (λ t. fair_done (with_test o t))) words) (
    each_append _ _ _ (takes_where (not o.fence) _ (takes_alone (codes "FENCE") _) words) (
    each_append _ _ _ (takes_where (is_none o.detect && not o.nodwell) _ (takes_behind (codes "DETECT") (list_of detect_names) _ (fair_word a_word _)) words) (
    each_append _ _ _ (takes_where (is_none o.commands) _ (takes_behind (codes "COMMANDS") (list_of command_names) _ (fair_word a_word _)) words) (
    each_append _ _ _ (takes_where (near && not o.nodwell && is_none o.detect) _ (takes_alone (codes "NODWELL") _) words) tt)))))

-- a word that begins an option

module _ (near : Bool) (o : FenceOptions) (next : FenceOptions → Form Command) (w : Bytes) (more : List Bytes) where
  abbrev TakesWord : FenceWord → Type 0
  TakesWord kind = (fence_option near o >>= next) (w ∷ more) ≡ (behind_word o kind >>= next) more

  match_taken : str_to_ascii_lowercase w ≡ codes "match" → may_come near o option.Match ≡ true → TakesWord option.Match
  match_taken e x = rw (e, x, nothing (nat_lt (length o.tests) max_tests), nothing (not o.fence), nothing (is_none o.detect && not o.nodwell), nothing (is_none o.commands), nothing (near && not o.nodwell && is_none o.detect)) (simp append-nil)

  where_taken : str_to_ascii_lowercase w ≡ codes "where" → may_come near o option.Where ≡ true → TakesWord option.Where
  where_taken e x = rw (e, x, nothing (is_none o.glob), nothing (not o.fence), nothing (is_none o.detect && not o.nodwell), nothing (is_none o.commands), nothing (near && not o.nodwell && is_none o.detect)) (simp append-nil)

  wherein_taken : str_to_ascii_lowercase w ≡ codes "wherein" → may_come near o option.WhereIn ≡ true → TakesWord option.WhereIn
  wherein_taken e x = rw (e, x, nothing (is_none o.glob), nothing (not o.fence), nothing (is_none o.detect && not o.nodwell), nothing (is_none o.commands), nothing (near && not o.nodwell && is_none o.detect)) (simp append-nil)

  fence_taken : str_to_ascii_lowercase w ≡ codes "fence" → may_come near o option.Fence ≡ true → TakesWord option.Fence
  fence_taken e x = rw (e, x, nothing (is_none o.glob), nothing (nat_lt (length o.tests) max_tests), nothing (is_none o.detect && not o.nodwell), nothing (is_none o.commands), nothing (near && not o.nodwell && is_none o.detect)) (simp append-nil)

  detect_taken : str_to_ascii_lowercase w ≡ codes "detect" → may_come near o option.Detect ≡ true → TakesWord option.Detect
  detect_taken e x = rw (e, x, nothing (is_none o.glob), nothing (nat_lt (length o.tests) max_tests), nothing (not o.fence), nothing (is_none o.commands), nothing (near && not o.nodwell && is_none o.detect)) (simp append-nil)

  commands_taken : str_to_ascii_lowercase w ≡ codes "commands" → may_come near o option.Commands ≡ true → TakesWord option.Commands
  commands_taken e x = rw (e, x, nothing (is_none o.glob), nothing (nat_lt (length o.tests) max_tests), nothing (not o.fence), nothing (is_none o.detect && not o.nodwell), nothing (near && not o.nodwell && is_none o.detect)) (simp append-nil)

  nodwell_taken : str_to_ascii_lowercase w ≡ codes "nodwell" → may_come near o option.NoDwell ≡ true → TakesWord option.NoDwell
  nodwell_taken e x = rw (e, x, nothing (is_none o.glob), nothing (nat_lt (length o.tests) max_tests), nothing (not o.fence), nothing (is_none o.detect && not o.nodwell), nothing (is_none o.commands)) (simp append-nil)

  option_taken : (kind : FenceWord) → is_word w (option_name kind) ≡ true → may_come near o kind ≡ true → TakesWord kind
  option_taken option.Match e x = match_taken (lower_word w (codes "MATCH") e) x
  option_taken option.Where e x = where_taken (lower_word w (codes "WHERE") e) x
  option_taken option.WhereIn e x = wherein_taken (lower_word w (codes "WHEREIN") e) x
  option_taken option.Fence e x = fence_taken (lower_word w (codes "FENCE") e) x
  option_taken option.Detect e x = detect_taken (lower_word w (codes "DETECT") e) x
  option_taken option.Commands e x = commands_taken (lower_word w (codes "COMMANDS") e) x
  option_taken option.NoDwell e x = nodwell_taken (lower_word w (codes "NODWELL") e) x

-- a word that begins no option that may still come

module _ (near : Bool) (o : FenceOptions) (w : Bytes) (rest more : List Bytes) (n : LacksOption (fence_table near) o (w ∷ rest)) where
  no_option : fence_option near o (w ∷ more) ≡ []
  no_option =
      rw (
        absent_when (is_none o.glob) (is_word w (codes "MATCH")) ((word (codes "MATCH") >> glob >>= λ pattern. done (record o { glob = Some pattern })) (w ∷ more)) (n option.Match) (λ e. rw e refl),
        absent_both (nat_lt (length o.tests) max_tests) (is_word w (codes "WHERE")) (is_word w (codes "WHEREIN")) ((test >>= λ t. done (with_test o t)) (w ∷ more)) (n option.Where) (n option.WhereIn) (λ e f. rw (e, f) refl),
        absent_when (not o.fence) (is_word w (codes "FENCE")) ((word (codes "FENCE") >> done (record o { fence = true })) (w ∷ more)) (n option.Fence) (λ e. rw e refl),
        absent_when (is_none o.detect && not o.nodwell) (is_word w (codes "DETECT")) ((word (codes "DETECT") >> list_of detect_names >>= λ l. done (record o { detect = Some l })) (w ∷ more)) (n option.Detect) (λ e. rw e refl),
        absent_when (is_none o.commands) (is_word w (codes "COMMANDS")) ((word (codes "COMMANDS") >> list_of command_names >>= λ l. done (record o { commands = Some l })) (w ∷ more)) (n option.Commands) (λ e. rw e refl),
        absent_when (near && not o.nodwell && is_none o.detect) (is_word w (codes "NODWELL")) ((word (codes "NODWELL") >> done (record o { nodwell = true })) (w ∷ more)) (n option.NoDwell) (λ e. rw e refl),
      ) refl

-- where the words run out, words are due that another option could begin with
due_options : (near : Bool) (o : FenceOptions) → Each IsWordDue (fence_option near o [])
due_options near o =
    each_append _ _ _ (due_if (is_none o.glob) (runs_out a_word ∷ []) (tt, tt)) (
    each_append _ _ _ (due_if (nat_lt (length o.tests) max_tests) (runs_out a_word ∷ runs_out a_word ∷ []) (tt, (tt, tt))) (
    each_append _ _ _ (due_if (not o.fence) (runs_out a_word ∷ []) (tt, tt)) (
    each_append _ _ _ (due_if (is_none o.detect && not o.nodwell) (runs_out a_word ∷ []) (tt, tt)) (
    each_append _ _ _ (due_if (is_none o.commands) (runs_out a_word ∷ []) (tt, tt)) (
    each_append _ _ _ (due_if (near && not o.nodwell && is_none o.detect) (runs_out a_word ∷ []) (tt, tt)) tt)))))

pub fence_laws : (near : Bool) → OptionLaws (fence_table near)
fence_laws near = record {
  takes = takes_option near;
  taken = λ o next w more kind e x. option_taken near o next w more kind e x;
  none = λ o w rest more n. no_option near o w rest more n;
  due = due_options near;
}

-- before FENCE was read it is due
fence_there : {A : Type 0} (a b : Bool) (x y z : Reading A) (rest : List (Reading A)) → (first : Reading A) × (others : List (Reading A)) × ((if a then x ∷ [] else []) ++ ((if b then y ∷ z ∷ [] else []) ++ runs_out a_word ∷ rest) ≡ first ∷ others)
fence_there true b x y z rest = (x, _, refl)
fence_there false true x y z rest = (y, _, refl)
fence_there false false x y z rest = (runs_out a_word, _, refl)

pub fence_due : (near : Bool) (o : FenceOptions) → o.fence ≡ false → (first : Reading FenceOptions) × (others : List (Reading FenceOptions)) × (fence_option near o [] ≡ first ∷ others)
fence_due near o e = rw e (fence_there (is_none o.glob) (nat_lt (length o.tests) max_tests) (runs_out a_word) (runs_out a_word) (runs_out a_word) (
    (if is_none o.detect && not o.nodwell then runs_out a_word ∷ [] else [])
    ++ ((if is_none o.commands then runs_out a_word ∷ [] else []) ++ ((if near && not o.nodwell && is_none o.detect then runs_out a_word ∷ [] else []) ++ []))))
