-- How a whole SETCHAN is read or refused.
use Rattle.std.proofs.Common.{◌≡◌, ℕ, Bool, true, false, inl, inr, refl, sym, ◌∙◌, ap, subst, List, [], ◌∷◌, ◌++◌}
use Rattle.std.specs.Prelude.{codes, Option, Some, None, Result, Ok, Err, flat_map}
use Rattle.std.proofs.lemmas.List.{append-nil}
use Rattle.byte_text.specs.Names.{Bytes, is_word}
use Rattle.world_data.specs.declared.channels.Kind.{Kind}
use Rattle.world_data.specs.declared.channels.Kind.TheVariants as kind
use Rattle.world_model.specs.Grammar.{Form, Reading, spells, runs_out, a_word, a_coordinate, a_geojson, go_on, ◌>>=◌, done, live}
use Rattle.world_model.specs.Kinds.{seconds}
use Rattle.world_model.specs.Commands.{Called, FenceOptions, no_fence_options, after_ex_words, readings, reads, wrong_count}
use Rattle.world_model.specs.declared.commands.Command.{Command}
use Rattle.world_model.specs.FormLaws.{Each, each_append}
use Rattle.cmd_words.specs.Progress.{Place, all_words, Follows, Parses, ParsesAhead, Reads, Took, IsNot, Answers, IsAhead, IsWordDue, WantsWord, IsEnd, IsRefusal, a_form, a_name, answers}
use Rattle.cmd_words.specs.Options.{IsNoOption, Refuses, ReadsOptions, options_then}
use Rattle.cmd_words.specs.FenceWords.{fence_table, IsApart}
use Rattle.cmd_words.specs.FenceAreas.{watched, fence_area}
use Rattle.cmd_words.specs.Channels.{ReadsEx, kind_name, is_near, a_kind, TakesKind, LacksKind, setchan_of, behind_key, behind_kind, behind_ex, behind_setchan}
use Rattle.cmd_words.specs.declared.fence_areas.FenceArea.{FenceArea}
use Rattle.cmd_words.proofs.Gets.{lower_word, moves, step}
use Rattle.cmd_words.proofs.Follows.{now, finished}
use Rattle.cmd_words.proofs.Ends.{begun_fails, end_refused}
use Rattle.cmd_words.proofs.Binds.{done_behind}
use Rattle.cmd_words.proofs.Ahead.{ahead, next_read, wants_by, none_ahead, due_live}
use Rattle.cmd_words.proofs.Options.{behind_options, options_due, unroll, options_refused, options_done, same_words, next_ahead}
use Rattle.cmd_words.proofs.FenceWords.{fence_laws, fence_due}
use Rattle.cmd_words.proofs.FenceAreas.{SomeDue, watched_due, no_fence_area}
use Rattle.cmd_words.specs.declared.faults.CommandFault.{CommandFault}

-- the word of a kind

kind_goes : (next : Kind → Form Command) (kind : Kind) (w : Bytes) (more : List Bytes) → is_word w (kind_name kind) ≡ true → a_kind next (w ∷ more) ≡ next kind more
kind_goes next kind.Within w more e = rw (lower_word w (codes "WITHIN") e) (simp append-nil)
kind_goes next kind.Intersects w more e = rw (lower_word w (codes "INTERSECTS") e) (simp append-nil)
kind_goes next kind.Near w more e = rw (lower_word w (codes "NEARBY") e) (simp append-nil)

kind_stops : (next : Kind → Form Command) (w : Bytes) (rest more : List Bytes) → LacksKind (w ∷ rest) → a_kind next (w ∷ more) ≡ []
kind_stops next w rest more n =
    let no_within = n kind.Within in
    let no_intersects = n kind.Intersects in
    let no_nearby = n kind.Near in
    rw (no_within, no_intersects, no_nearby) refl

pub kind_read : (old new : Place) (kind : Kind) → TakesKind old new (Some kind) → ParsesAhead a_kind old new (Ok kind)
kind_read old new kind t = (moves t.0 old new t.2, λ next h. next_read (a_kind next) (next kind) old new t.0 t.2 (λ more. ap live (kind_goes next kind t.0 more t.1)) h)

pub no_kind : (p q new : Place) (why : CommandFault) → TakesKind p q None → IsRefusal (all_words q) q.left why → ParsesAhead a_kind p new (Err why)
no_kind p q new why t r = none_ahead a_kind p q new why t.0 (λ next w rest l. ap live (kind_stops next w rest [] (subst LacksKind l t.1))) r

-- words are due where FENCE and what is watched are

wants_due : (p : Place) (rs : List (Reading Command)) → readings p.read ≡ live rs → SomeDue rs → WantsWord p
wants_due p rs e d =
    let there : readings p.read ≡ d.0 ∷ d.1 = e ∙ ap live d.2 ∙ due_live (d.0 ∷ d.1) d.3 in
    wants_by p d.0 d.1 there d.3

more_due : (rs more : List (Reading Command)) → SomeDue rs → Each IsWordDue more → SomeDue (rs ++ more)
more_due rs more d e = (d.0, d.1 ++ more, ap (λ (l : List (Reading Command)). l ++ more) d.2, each_append IsWordDue (d.0 ∷ d.1) more d.3 e)

first_behind : {S : Type 0} (g : S → Form Command) (rs : List (Reading S)) (first : Reading S) (others : List (Reading S)) → rs ≡ first ∷ others → Each IsWordDue rs → Each IsWordDue (flat_map (go_on g) rs) → SomeDue (flat_map (go_on g) rs)
first_behind g [] first others e d f = absurd cc
first_behind g (spells a rest ∷ rs) first others e d f = absurd d.0
first_behind g (runs_out a_word ∷ rs) first others e d f = (runs_out a_word, flat_map (go_on g) rs, refl, f)
first_behind g (runs_out a_coordinate ∷ rs) first others e d f = absurd d.0
first_behind g (runs_out a_geojson ∷ rs) first others e d f = absurd d.0

module _ (channel : Called) (kind : Kind) where
  abbrev watch_made : Bytes → FenceOptions → FenceArea → Form Command
  watch_made key o area = done (setchan_of channel kind key o area)

  abbrev watch_next : Bytes → FenceOptions → Form Command
  watch_next key o = fence_area kind o (watch_made key o)

  quiet : (key : Bytes) → IsNoOption (fence_table (is_near kind)) (watch_next key)
  quiet key o option w more e = ap live (no_fence_area o (watch_made key o) w more kind option e)

  module _ (key : Bytes) (o : FenceOptions) (apart : IsApart o) where
    abbrev behind : List (Reading Command)
    behind = behind_options (fence_table (is_near kind)) (fence_laws (is_near kind)) o (watch_next key)

    due_by : (b : Bool) → o.fence ≡ b → SomeDue (watch_next key o [] ++ behind)
    due_by true e =
        let fenced : watch_next key o [] ≡ watched kind o (watch_made key o) [] = rw e refl in
        more_due (watch_next key o []) behind (subst SomeDue (sym fenced) (watched_due kind o apart (watch_made key o))) (options_due (fence_table (is_near kind)) (fence_laws (is_near kind)) o (watch_next key))
    due_by false e =
        let first = fence_due (is_near kind) o e in
        let none : watch_next key o [] ≡ [] = rw e refl in
        subst (λ (l : List (Reading Command)). SomeDue (l ++ behind)) (sym none)
        (first_behind (λ p. options_then (fence_table (is_near kind)) p (watch_next key)) ((fence_table (is_near kind)).one o []) first.0 first.1 first.2 ((fence_laws (is_near kind)).due o)
        (options_due (fence_table (is_near kind)) (fence_laws (is_near kind)) o (watch_next key)))

    pub wanted_there : (p : Place) → Follows p (options_then (fence_table (is_near kind)) o (watch_next key)) → WantsWord p
    wanted_there p h = wants_due p (watch_next key o [] ++ behind) (now p (options_then (fence_table (is_near kind)) o (watch_next key)) h ∙ ap live (unroll (fence_table (is_near kind)) (fence_laws (is_near kind)) o (watch_next key) [])) (due_by o.fence refl)

-- the kind of a channel is due, whose name and seconds were read
pub record WantsKind (old p : Place) (channel : Called) : Type 0 where
  pub ahead : IsAhead p (behind_ex channel)
  pub wants : WantsWord p
  pub words : all_words p ≡ all_words old

-- EX and its seconds, or neither: another word that is no kind does not stand there
module _ (n : Bytes) where
  abbrev called : Option ℕ → Called
  called after_ex = record { name = n; after_ex = after_ex }

  abbrev next : Option ℕ → Form Command
  next after_ex = behind_ex (called after_ex)

  abbrev some_seconds : Form Command
  some_seconds = seconds >>= λ s. next (Some s)

  ex_is_no_kind : (w : Bytes) (more : List Bytes) → is_word w (codes "EX") ≡ true → next None (w ∷ more) ≡ []
  ex_is_no_kind w more e = rw (lower_word w (codes "EX") e) refl

  made_some : (rs : List (Reading ℕ)) → flat_map (go_on next) (flat_map (go_on (λ s. done (Some s))) (rs ++ [])) ≡ flat_map (go_on (λ s. next (Some s))) rs
  made_some rs = ap (λ (l : List (Reading ℕ)). flat_map (go_on next) (flat_map (go_on (λ s. done (Some s))) l)) (append-nil rs) ∙ done_behind Some next rs

  ex_goes : (w : Bytes) (more : List Bytes) → is_word w (codes "EX") ≡ true → (after_ex_words >>= next) (w ∷ more) ≡ some_seconds more
  ex_goes w more e = rw (ex_is_no_kind w more e, e) (made_some (seconds more))

  ex_skips : (w : Bytes) (more : List Bytes) → is_word w (codes "EX") ≡ false → (after_ex_words >>= next) (w ∷ more) ≡ next None (w ∷ more)
  ex_skips w more e = rw e (append-nil (next None (w ∷ more)))

  module _ (old : Place) (h : Follows old (behind_setchan n)) where
    ex_follows : (mid : Place) → Took (codes "EX") old mid true → Follows mid some_seconds
    ex_follows mid t = step (after_ex_words >>= next) some_seconds old mid t.0 t.2 (λ more. ap live (ex_goes t.0 more t.1)) h

    not_ex : (w : Bytes) (left : List Bytes) → IsNot (codes "EX") left → (rest : List Bytes) → left ≡ w ∷ rest → is_word w (codes "EX") ≡ false
    not_ex w left other rest l = subst (IsNot (codes "EX")) l other

    wants_no_seconds : IsNot (codes "EX") old.left → WantsKind old old (called None)
    wants_no_seconds other = record {
      ahead = record { begun = h.begun; goes = λ w rest l more. h.goes (w ∷ more) ∙ ap live (ex_skips w more (not_ex w old.left other rest l)) };
      wants = wants_by old (runs_out a_word) (runs_out a_word ∷ runs_out a_word ∷ runs_out a_word ∷ []) (now old (behind_setchan n) h) (tt, (tt, (tt, (tt, tt))));
      words = refl;
    }

    wants_some : (mid new : Place) (s : ℕ) → Took (codes "EX") old mid true → Reads seconds mid new (Ok s) → WantsKind old new (called (Some s))
    wants_some mid new s t r =
        let there : Follows new (next (Some s)) = r.1 (λ x. next (Some x)) (ex_follows mid t) in
        record {
          ahead = ahead new (next (Some s)) there;
          wants = wants_by new (runs_out a_word) (runs_out a_word ∷ runs_out a_word ∷ []) (now new (next (Some s)) there) (tt, (tt, (tt, tt)));
          words = r.0.words ∙ (moves t.0 old mid t.2).words;
        }

    pub kind_wanted : (new : Place) (after_ex : Option ℕ) → ReadsEx old new (Ok after_ex) → WantsKind old new (called after_ex)
    kind_wanted new None r = subst (λ (p : Place). WantsKind old p (called None)) (sym r.0) (wants_no_seconds r.1)
    kind_wanted new (Some s) r = wants_some r.0 new s r.1 r.2

    pub ex_refused : (new : Place) (why : CommandFault) → ReadsEx old new (Err why) → Answers (all_words old) (Err why)
    ex_refused new why r = subst (λ ws. Answers ws (Err why)) (moves r.1.0 old r.0 r.1.2).words (begun_fails (a_form seconds) (λ s. next (Some s)) r.0 new why r.2 (ex_follows r.0 r.1))

-- from left to right, up to the kind
module _ (old behind_name : Place) (name : Bytes) (n : Parses a_name old behind_name (Ok name)) (h : Follows old (a_name behind_setchan)) where
  name_follows : Follows behind_name (behind_setchan name)
  name_follows = n.1 behind_setchan h

  pub seconds_refused : (new : Place) (why : CommandFault) → ReadsEx behind_name new (Err why) → Answers (all_words old) (Err why)
  seconds_refused new why r = subst (λ ws. Answers ws (Err why)) n.0.words (ex_refused name behind_name name_follows new why r)

  module _ (at_kind : Place) (after_ex : Option ℕ) (x : ReadsEx behind_name at_kind (Ok after_ex)) where
    abbrev channel : Called
    channel = record { name = name; after_ex = after_ex }

    wanted : WantsKind behind_name at_kind channel
    wanted = kind_wanted name behind_name name_follows at_kind after_ex x

    words_there : all_words at_kind ≡ all_words old
    words_there = wanted.words ∙ n.0.words

    pub kind_refused : (new : Place) (why : CommandFault) → ParsesAhead a_kind at_kind new (Err why) → Answers (all_words old) (Err why)
    kind_refused new why (inl m) = inl m
    kind_refused new why (inr r) = inr (subst (λ ws. answers ws ≡ Err why) words_there (r (behind_kind channel) wanted.ahead wanted.wants))

    module _ (new : Place) (kind : Kind) (k : ParsesAhead a_kind at_kind new (Ok kind)) where
      pub key_due : Follows new (a_name (behind_key channel kind))
      key_due = k.1 (behind_kind channel) wanted.ahead

      pub setting_answers : (r : Result Command CommandFault) → Answers (all_words new) r → Answers (all_words old) r
      setting_answers r a = subst (λ ws. Answers ws r) (k.0.words ∙ words_there) a

-- from the key on
module _ (channel : Called) (kind : Kind) (old at_key : Place) (key : Bytes) (a : Parses a_name old at_key (Ok key)) (key_follows : Follows old (a_name (behind_key channel kind))) where
  pub fence_refused : (why : CommandFault) → Refuses (fence_table (is_near kind)) no_fence_options at_key why → Answers (all_words old) (Err why)
  fence_refused why r = options_refused (fence_table (is_near kind)) (fence_laws (is_near kind)) no_fence_options (watch_next channel kind) (quiet channel kind) old at_key key a key_follows why r

  module _ (mid : Place) (o : FenceOptions) (g : ReadsOptions (fence_table (is_near kind)) no_fence_options at_key mid (Ok o)) where
    area_ahead : IsAhead mid (watch_next channel kind key o)
    area_ahead = next_ahead (fence_table (is_near kind)) (fence_laws (is_near kind)) no_fence_options (watch_next channel kind) (quiet channel kind) old at_key key a key_follows mid o g

    mid_words : all_words mid ≡ all_words old
    mid_words = same_words (fence_table (is_near kind)) (fence_laws (is_near kind)) no_fence_options (watch_next channel kind) (quiet channel kind) old at_key key a key_follows mid o g

    pub area_refused : IsApart o → (new : Place) (why : CommandFault) → ParsesAhead (fence_area kind o) mid new (Err why) → Answers (all_words old) (Err why)
    area_refused apart new why (inl m) = inl m
    area_refused apart new why (inr r) =
        let there = options_done (fence_table (is_near kind)) (fence_laws (is_near kind)) no_fence_options (watch_next channel kind) (quiet channel kind) old at_key key a key_follows mid o g in
        inr (subst (λ ws. answers ws ≡ Err why) mid_words (r (watch_made channel kind key o) area_ahead (wanted_there channel kind key o apart mid there)))

    module _ (new : Place) (area : FenceArea) (s : ParsesAhead (fence_area kind o) mid new (Ok area)) where
      end_follows : Follows new (done (setchan_of channel kind key o area))
      end_follows = s.1 (watch_made channel kind key o) area_ahead

      pub new_words : all_words new ≡ all_words old
      new_words = s.0.words ∙ mid_words

      pub setchan_not_ended : (why : CommandFault) → IsEnd (λ _. wrong_count (all_words new)) new (Err why) → Answers (all_words old) (Err why)
      setchan_not_ended why e = subst (λ ws. Answers ws (Err why)) new_words (end_refused new (setchan_of channel kind key o area) why e end_follows)

      pub setchan_read : new.left ≡ [] → reads (all_words old) ≡ Ok (setchan_of channel kind key o area)
      setchan_read l = subst (λ ws. reads ws ≡ Ok (setchan_of channel kind key o area)) new_words (finished new (setchan_of channel kind key o area) l end_follows)
