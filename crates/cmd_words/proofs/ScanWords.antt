-- How a whole SCAN is read or refused.
use Rattle.std.proofs.Common.{◌≡◌, true, false, inl, inr, refl, sym, ◌∙◌, ap, subst, List, [], ◌∷◌}
use Rattle.std.specs.Prelude.{codes, Some, None, Ok, Err}
use Rattle.byte_text.specs.Names.{Bytes, is_word}
use Rattle.world_model.specs.Grammar.{a_word, Reading, spells, runs_out, done, live}
use Rattle.world_model.specs.Commands.{SearchOptions, no_search_options, reads, wrong_count, shown_of}
use Rattle.world_data.specs.declared.queries.Shown.{Shown}
use Rattle.world_data.specs.declared.queries.Shown.TheVariants as shown
use Rattle.world_model.specs.declared.commands.Command.{Command}
use Rattle.world_model.specs.declared.faults.WordFault.TheVariants as fault
use Rattle.cmd_words.specs.Progress.{Place, all_words, Follows, Parses, Answers, IsEnd, IsNot, a_name, answers, answered}
use Rattle.cmd_words.specs.Options.{LacksOption, options_then, IsNoOption, ReadsOptions}
use Rattle.cmd_words.specs.SearchWords.{search_table, output_name, ReadsOutput}
use Rattle.cmd_words.specs.Scans.{scan_of, scan_output, behind_scan}
use Rattle.cmd_words.specs.declared.search_options.SearchWord.TheVariants as option
use Rattle.cmd_words.proofs.Gets.{lower_word, ends, stops, moves}
use Rattle.cmd_words.proofs.Follows.{finished}
use Rattle.cmd_words.proofs.Ends.{end_refused}
use Rattle.cmd_words.proofs.Ahead.{next_read, due_live, no_coordinate, no_geojson}
use Rattle.cmd_words.proofs.Options.{unroll, past_options, behind_options, options_due, options_done, same_words, next_ahead}
use Rattle.cmd_words.proofs.SearchWords.{search_laws}
use Rattle.cmd_words.specs.declared.faults.CommandFault.{CommandFault}

-- no output begins with the word of an option
pub no_option_word : (key : Bytes) → IsNoOption (search_table true) (scan_output key)
no_option_word key o option.Match w more e = rw (lower_word w (codes "MATCH") e) refl
no_option_word key o option.Cursor w more e = rw (lower_word w (codes "CURSOR") e) refl
no_option_word key o option.Limit w more e = rw (lower_word w (codes "LIMIT") e) refl
no_option_word key o option.NoFields w more e = rw (lower_word w (codes "NOFIELDS") e) refl
no_option_word key o option.Ascending w more e = rw (lower_word w (codes "ASC") e) refl
no_option_word key o option.Descending w more e = rw (lower_word w (codes "DESC") e) refl
no_option_word key o option.Where w more e = rw (lower_word w (codes "WHERE") e) refl
no_option_word key o option.WhereIn w more e = rw (lower_word w (codes "WHEREIN") e) refl

module _ (key : Bytes) (o : SearchOptions) (w : Bytes) where
  output_goes : (how : Shown) (more : List Bytes) → is_word w (output_name how) ≡ true → live (scan_output key o (w ∷ more)) ≡ live (done (scan_of key o how) more)
  output_goes shown.Count more e = rw (lower_word w (codes "COUNT") e) (refl {a = live (done (scan_of key o shown.Count) more)})
  output_goes shown.Ids more e = rw (lower_word w (codes "IDS") e) (refl {a = live (done (scan_of key o shown.Ids) more)})
  output_goes shown.Objects more e = rw (lower_word w (codes "OBJECTS") e) (refl {a = live (done (scan_of key o shown.Objects) more)})
  output_goes shown.Points more e = rw (lower_word w (codes "POINTS") e) (refl {a = live (done (scan_of key o shown.Points) more)})
  output_goes shown.Bounds more e = rw (lower_word w (codes "BOUNDS") e) (refl {a = live (done (scan_of key o shown.Bounds) more)})

  none_goes : ((how : Shown) → is_word w (output_name how) ≡ false) → live (scan_output key o (w ∷ [])) ≡ []
  none_goes n =
      let no_count = n shown.Count in
      let no_ids = n shown.Ids in
      let no_objects = n shown.Objects in
      let no_points = n shown.Points in
      let no_bounds = n shown.Bounds in
      rw (no_count, no_ids, no_objects, no_points, no_bounds) refl

-- where the words run out: the command is whole, and words are due that it could go on with

module _ (key : Bytes) (o : SearchOptions) where
  abbrev behind : List (Reading Command)
  behind = behind_options (search_table true) (search_laws true) o (scan_output key)

  abbrev due_there : List (Reading Command)
  due_there = runs_out a_word ∷ runs_out a_word ∷ runs_out a_word ∷ runs_out a_word ∷ runs_out a_word ∷ behind

  whole_there : live (options_then (search_table true) o (scan_output key) []) ≡ spells (scan_of key o shown.Objects) [] ∷ due_there
  whole_there = ap live (unroll (search_table true) (search_laws true) o (scan_output key) []) ∙ ap (λ (l : List (Reading Command)). spells (scan_of key o shown.Objects) [] ∷ runs_out a_word ∷ runs_out a_word ∷ runs_out a_word ∷ runs_out a_word ∷ runs_out a_word ∷ l) (due_live behind (options_due (search_table true) (search_laws true) o (scan_output key)))

module _ (old behind_key : Place) (key : Bytes) (a : Parses a_name old behind_key (Ok key)) (h : Follows old (a_name behind_scan)) (mid new : Place) (o : SearchOptions) (g : ReadsOptions (search_table true) no_search_options behind_key mid (Ok o)) where
  follows : Follows mid (options_then (search_table true) o (scan_output key))
  follows = options_done (search_table true) (search_laws true) no_search_options scan_output no_option_word old behind_key key a h mid o g

  same : all_words mid ≡ all_words old
  same = same_words (search_table true) (search_laws true) no_search_options scan_output no_option_word old behind_key key a h mid o g

  -- no output is next
  pub bare_read : ReadsOutput mid new None → new.left ≡ [] → reads (all_words old) ≡ Ok (scan_of key o shown.Objects)
  bare_read s l = subst (λ ws. reads ws ≡ Ok (scan_of key o shown.Objects)) same
      (ends mid (options_then (search_table true) o (scan_output key)) (scan_of key o shown.Objects) (due_there key o) (whole_there key o) (subst (λ p. p.left ≡ []) s.0 l) follows)

  stopped_at : (w : Bytes) (rest : List Bytes) → mid.left ≡ w ∷ rest → ((how : Shown) → IsNot (output_name how) mid.left) → reads (all_words mid) ≡ Err (fault.Invalid (shown_of w))
  stopped_at w rest l n = stops mid (options_then (search_table true) o (scan_output key)) (scan_of key o shown.Objects) (due_there key o) w rest (whole_there key o)
      refl (no_coordinate (behind key o) (options_due (search_table true) (search_laws true) o (scan_output key))) (no_geojson (behind key o) (options_due (search_table true) (search_laws true) o (scan_output key)))
      l (ap live (past_options (search_table true) (search_laws true) o w rest [] (subst (LacksOption (search_table true) o) l g.1) (scan_output key)) ∙ none_goes key o w (λ how. subst (IsNot (output_name how)) l (n how))) follows

  pub more_refused : (why : CommandFault) → ReadsOutput mid new None → IsEnd (λ w. fault.Invalid (shown_of w)) new (Err why) → Answers (all_words old) (Err why)
  more_refused why s (w, rest, l, inl m) = inl m
  more_refused why s (w, rest, l, inr e) = inr (subst (λ ws. answers ws ≡ Err why) same (ap answered (stopped_at w rest (subst (λ p. p.left ≡ w ∷ rest) s.0 l) s.1) ∙ ap Err (sym e)))

  module _ (how : Shown) (s : ReadsOutput mid new (Some how)) where
    end_follows : Follows new (done (scan_of key o how))
    end_follows = next_read (scan_output key o) (done (scan_of key o how)) mid new s.0 s.2 (λ more. output_goes key o s.0 how more s.1) (next_ahead (search_table true) (search_laws true) no_search_options scan_output no_option_word old behind_key key a h mid o g)

    words_are : all_words new ≡ all_words old
    words_are = (moves s.0 mid new s.2).words ∙ same

    pub output_refused : (why : CommandFault) → IsEnd (λ _. wrong_count (all_words new)) new (Err why) → Answers (all_words old) (Err why)
    output_refused why e = subst (λ ws. Answers ws (Err why)) words_are (end_refused new (scan_of key o how) why e end_follows)

    pub output_read : new.left ≡ [] → reads (all_words old) ≡ Ok (scan_of key o how)
    output_read l = subst (λ ws. reads ws ≡ Ok (scan_of key o how)) words_are (finished new (scan_of key o how) l end_follows)
