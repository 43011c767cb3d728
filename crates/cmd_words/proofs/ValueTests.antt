-- What stands behind the name of a field in WHERE: two bounds, or twice a text.
use Rattle.std.proofs.Common.{◌≡◌, inl, inr, Bool, true, false, refl, sym, ◌∙◌, ap, subst, List, [], ◌∷◌, ◌++◌}
use Rattle.std.specs.Prelude.{ℤ, ◌&&◌, Option, Some, None, Result, Ok, Err, flat_map, is_none}
use Rattle.std.proofs.lemmas.List.{append-nil}
use Rattle.byte_text.specs.Names.{Bytes, same, is_name}
use Rattle.world_data.specs.declared.filters.Test.{Test}
use Rattle.world_data.specs.declared.filters.Test.TheVariants.{Same}
use Rattle.world_model.specs.Grammar.{Form, a_word, runs_out, go_on, ◌>>=◌, done, one_word, read_as, live}
use Rattle.world_model.specs.Kinds.{when, bound_of, again, same_text}
use Rattle.world_model.specs.Commands.{shown_of, wrong_count}
use Rattle.world_model.specs.declared.commands.Command.{Command}
use Rattle.world_model.specs.declared.faults.WordFault.TheVariants as fault
use Rattle.cmd_words.specs.Progress.{Place, all_words, IsBehind, Follows, Reads, IsAhead, WantsWord, ParsesAhead, IsFault, IsOne, IsRefusal, answers}
use Rattle.cmd_words.specs.SearchWords.{behind_name, first_by, a_first_value, behind_least, behind_text, behind_first}
use Rattle.cmd_words.specs.declared.conditions.FirstValue.{FirstValue}
use Rattle.cmd_words.specs.declared.faults.CommandFault.{CommandFault}
use Rattle.cmd_words.proofs.Gets.{moves, moves_on}
use Rattle.cmd_words.proofs.Follows.{now}
use Rattle.cmd_words.proofs.Binds.{bind_fails, bind_done}
use Rattle.cmd_words.proofs.Ends.{one_lacks, one_read, one_refused}
use Rattle.cmd_words.proofs.Ahead.{next_read, none_ahead, wants_by}
use Rattle.cmd_words.proofs.Coordinates.{not_one}

-- one word of a kind, where it is what the next word goes on with
module _ {A : Type 0} (kind : Bytes → Option A) where
  abbrev pub one_ahead : (A → Form Command) → Form Command
  one_ahead next = one_word a_word kind >>= next

  shut : (w v : Bytes) (left rest : List Bytes) (next : A → Form Command) → w ∷ left ≡ v ∷ rest → kind w ≡ None → live (one_ahead next (v ∷ [])) ≡ []
  shut w v left rest next e none =
      let it : v ≡ w = cc e in
      let other : kind v ≡ None = ap kind it ∙ none in
      let past : live (flat_map (go_on next) (read_as (kind v) [])) ≡ [] = rw other refl in
      past

  pub ahead_found : (old new : Place) (w : Bytes) (r : Result A CommandFault) → IsBehind w old new → IsOne a_word kind w r → ParsesAhead one_ahead old new r
  ahead_found old new w (Ok a) b e = (
    moves w old new b,
    λ next h. next_read (one_ahead next) (next a) old new w b (λ more.
        let here : live (flat_map (go_on next) (read_as (kind w) more)) ≡ live (next a more) = rw e (ap live (append-nil (next a more))) in here) h,
  )
  ahead_found old new w (Err why) b (inl m) = inl m
  ahead_found old new w (Err why) b (inr f) =
      none_ahead one_ahead old old new why refl (λ next v rest l. shut w v new.left rest next (sym b.left ∙ l) f.0)
      (subst (λ (ws : List Bytes). IsRefusal (all_words old) ws why) (sym b.left) (inr f.1))

  pub ahead_lacks : (old new : Place) (why : CommandFault) → (new ≡ old) × (old.left ≡ []) → IsFault (wrong_count (all_words new)) why
      → ParsesAhead one_ahead old new (Err why)
  ahead_lacks old new why e f =
      let left : new.left ≡ [] = ap (λ (p : Place). p.left) e.0 ∙ e.1 in
      none_ahead one_ahead old new new why e.0 (λ next v rest l. absurd (cc (sym e.1 ∙ l)))
      (subst (λ (ws : List Bytes). IsRefusal (all_words new) ws why) (sym left) f)

-- behind the name, either form goes on with the next word, or none
module _ (n : Bytes) where
  abbrev then_first : (Test → Form Command) → FirstValue → Form Command
  then_first next x = behind_first n x >>= next

  one_first : (w : Bytes) (named : Bool) (o : Option (Option ℤ)) (next : Test → Form Command) (more : List Bytes)
      → flat_map (go_on next) (flat_map (go_on (behind_least n)) (read_as o more) ++ flat_map (go_on (behind_text n)) (read_as (when (named && is_none o) w) more))
      ≡ flat_map (go_on (then_first next)) (read_as (first_by w named o) more)
  one_first w true (Some low) next more =
      ap (flat_map (go_on next)) (append-nil (behind_least n low more ++ []) ∙ append-nil (behind_least n low more))
      ∙ sym (append-nil (flat_map (go_on next) (behind_least n low more)))
  one_first w false (Some low) next more =
      ap (flat_map (go_on next)) (append-nil (behind_least n low more ++ []) ∙ append-nil (behind_least n low more))
      ∙ sym (append-nil (flat_map (go_on next) (behind_least n low more)))
  one_first w true None next more =
      ap (flat_map (go_on next)) (append-nil (behind_text n w more)) ∙ sym (append-nil (flat_map (go_on next) (behind_text n w more)))
  one_first w false None next more = refl

  first_ahead : (p : Place) (next : Test → Form Command) → Follows p (behind_name n >>= next) → IsAhead p (a_first_value (then_first next))
  first_ahead p next h = record {
    begun = h.begun;
    goes = λ w rest l more. h.goes (w ∷ more) ∙ ap live (one_first w (is_name w) (bound_of w) next more);
  }

  first_due : (p : Place) (next : Test → Form Command) → Follows p (behind_name n >>= next) → WantsWord p
  first_due p next h = wants_by p (runs_out a_word) (runs_out a_word ∷ []) (now p (behind_name n >>= next) h) (tt, (tt, tt))

  pub first_fails : (old mid new : Place) (why : CommandFault) → ParsesAhead a_first_value old mid (Err why) → Reads (behind_name n) old new (Err why)
  first_fails old mid new why (inl m) = inl m
  first_fails old mid new why (inr r) = inr (λ next h. r (then_first next) (first_ahead old next h) (first_due old next h))

  pub first_then : (old mid new : Place) (x : FirstValue) (r : Result Test CommandFault) → ParsesAhead a_first_value old mid (Ok x) → Reads (behind_first n x) mid new r
      → Reads (behind_name n) old new r
  first_then old mid new x (Ok t) k i = (moves_on old mid new k.0 i.0, λ next h. i.1 next (k.1 (then_first next) (first_ahead old next h)))
  first_then old mid new x (Err why) k (inl m) = inl m
  first_then old mid new x (Err why) k (inr i) =
      inr (λ next h. subst (λ ws. answers ws ≡ Err why) k.0.words (i next (k.1 (then_first next) (first_ahead old next h))))

  -- the text once more
  module _ (t : Bytes) where
    abbrev done_behind : Bytes → Form Test
    done_behind u = done (Same n t)

    pub same_read : (old new : Place) (w : Bytes) → IsBehind w old new → same w t ≡ true → Reads (behind_text n t) old new (Ok (Same n t))
    same_read old new w b e =
        let is : same_text t w ≡ Some t = rw e refl in
        bind_done (again t) done_behind old new t (Same n t) refl (one_read a_word (same_text t) old new w t b is)

    pub other_read : (old new : Place) (w : Bytes) (why : CommandFault) → IsBehind w old new → same w t ≡ false → IsFault (fault.Invalid (shown_of w)) why
        → Reads (behind_text n t) old new (Err why)
    other_read old new w why b e f =
        let none : same_text t w ≡ None = rw e refl in
        bind_fails (again t) done_behind old new new why (one_refused a_word (same_text t) old new w why b (not_one a_word (same_text t) w why none f))

    pub none_read : (old new : Place) (why : CommandFault) → (new ≡ old) × (old.left ≡ []) → IsFault (wrong_count (all_words new)) why
        → Reads (behind_text n t) old new (Err why)
    none_read old new why e f = bind_fails (again t) done_behind old new new why (one_lacks a_word (same_text t) old new why e f)
