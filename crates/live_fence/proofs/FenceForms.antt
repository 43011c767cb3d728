-- Words that spell a setting have the word FENCE among them.
use Rattle.std.proofs.Common.{◌≡◌, ℕ, zero, suc, ◌+◌, Bool, true, false, refl, sym, subst, List, [], ◌∷◌, length, append-nil}
use Rattle.std.specs.Prelude.{flat_map, ◌||◌, ◌&&◌, not, nat_lt, is_none, Option, Some, None, codes, if◌then◌else◌}
use Rattle.byte_text.specs.Names.{Bytes, is_word}
use Rattle.world_data.specs.Limits.{max_tests, max_values}
use Rattle.world_data.specs.declared.channels.Kind.{Kind}
use Rattle.world_data.specs.declared.channels.Kind.TheVariants.{Within, Intersects}
use Rattle.world_model.specs.Grammar.{Due, a_word, Reading, spells, runs_out, Form, go_on, ◌>>=◌, ◌>>◌, done, ◌or◌, one_of, where_, read_as, one_word}
use Rattle.world_model.specs.Grammar.{word, at_most_times, repeated, times}
use Rattle.world_model.specs.FormLaws.{Each, each_append, each_map}
use Rattle.world_model.specs.MadeForms.{Said, spelled_said}
use Rattle.world_model.specs.Kinds.{name, glob, value, between, bound, text, again, list_of, seconds}
use Rattle.world_model.specs.Commands as table
use Rattle.world_model.specs.declared.commands.Command.{Command}
use Rattle.live_fence.specs.FenceWord.{has_fence}

-- where a reading spells a value with the mark, or leaves the word, there was the mark before, or the words have it
abbrev Told : {A : Type 0} → Bool → (A → Bool) → List Bytes → Reading A → Type 0
Told before mark words (spells a rest) = (mark a || has_fence rest) ≡ true → (before || has_fence words) ≡ true
Told before mark words (runs_out due) = Unit {0}

record Shows {A : Type 0} (before : Bool) (mark : A → Bool) (f : Form A) : Type 0 where
  told : (words : List Bytes) → Each (Told before mark words) (f words)

-- a form that gives no mark
abbrev Keeps : {A : Type 0} → Form A → Type 0
Keeps f = (before : Bool) → Shows before (λ _. before) f

as_much : (m b h : Bool) → (m ≡ true → b ≡ true) → (m || h) ≡ true → (b || h) ≡ true
as_much m true h i e = refl
as_much true false h i e = absurd (cc (i refl))
as_much false false h i e = e

more : (m b t h : Bool) → (m ≡ true → b ≡ true) → (m || h) ≡ true → (b || (t || h)) ≡ true
more m true t h i e = refl
more true false t h i e = absurd (cc (i refl))
more false false true h i e = refl
more false false false h i e = e

shows_done : {A : Type 0} (before : Bool) (mark : A → Bool) (a : A) → (mark a ≡ true → before ≡ true) → Shows before mark (done a)
shows_done before mark a h = record { told = λ words. (as_much (mark a) before (has_fence words) h, tt) }

shows_or : {A : Type 0} (before : Bool) (mark : A → Bool) (f g : Form A) → Shows before mark f → Shows before mark g → Shows before mark (f or g)
shows_or before mark f g p q =
    record { told = λ words. each_append (Told before mark words) (f words) (g words) (p.told words) (q.told words) }

shows_none : {A : Type 0} (before : Bool) (mark : A → Bool) → Shows before mark (one_of [])
shows_none before mark = record { told = λ words. tt }

shows_where : {A : Type 0} (before : Bool) (mark : A → Bool) (test : Bool) (f : Form A) → Shows before mark f → Shows before mark (where_ test f)
shows_where before mark true f p = p
shows_where before mark false f p = record { told = λ words. tt }

-- with the mark before, every form does
any_told : {A : Type 0} (mark : A → Bool) (words : List Bytes) (rs : List (Reading A)) → Each (Told true mark words) rs
any_told mark words [] = tt
any_told mark words (spells a rest ∷ rs) = ((λ e. refl), any_told mark words rs)
any_told mark words (runs_out due ∷ rs) = (tt, any_told mark words rs)

shows_any : {A : Type 0} (mark : A → Bool) (f : Form A) → Shows true mark f
shows_any mark f = record { told = λ words. any_told mark words (f words) }

shows_if : {A : Type 0} (mark : A → Bool) (test : Bool) (f : Form A) → Shows test mark (where_ test f)
shows_if mark true f = shows_any mark f
shows_if mark false f = record { told = λ words. tt }

shows_then_if : {A B : Type 0} (mark : B → Bool) (test : Bool) (f : Form A) (g : A → Form B) → Shows test mark (where_ test f >>= g)
shows_then_if mark true f g = shows_any mark (f >>= g)
shows_then_if mark false f g = record { told = λ words. tt }

-- one word

read_told : {A : Type 0} (before : Bool) (mark : A → Bool) (o : Option A) (w : Bytes) (words : List Bytes)
    → ((a : A) → o ≡ Some a → mark a ≡ true → before ≡ true) → Each (Told before mark (w ∷ words)) (read_as o words)
read_told before mark None w words h = tt
read_told before mark (Some a) w words h = (more (mark a) before (is_word w (codes "FENCE")) (has_fence words) (h a refl), tt)

shows_word : {A : Type 0} (before : Bool) (mark : A → Bool) (due : Due) (reader : Bytes → Option A)
    → ((w : Bytes) (a : A) → reader w ≡ Some a → mark a ≡ true → before ≡ true) → Shows before mark (one_word due reader)
shows_word {A = A} before mark due reader h = record { told = told }
  where
    told : (words : List Bytes) → Each (Told before mark words) (one_word due reader words)
    told [] = (tt, tt)
    told (w ∷ words) = read_told before mark (reader w) w words (h w)

keeps_word : {A : Type 0} (due : Due) (reader : Bytes → Option A) → Keeps (one_word due reader)
keeps_word due reader before = shows_word before (λ _. before) due reader (λ w a e m. m)

-- the word FENCE itself
shows_fence : (before : Bool) → Shows before (λ _. true) (word (codes "FENCE"))
shows_fence before = record { told = told }
  where
    whole : (b t h : Bool) → t ≡ true → (b || (t || h)) ≡ true
    whole true t h e = refl
    whole false true h e = refl
    whole false false h e = absurd (cc e)

    read : (w : Bytes) (words : List Bytes) (t : Bool) → is_word w (codes "FENCE") ≡ t
        → Each (Told before (λ _. true) (w ∷ words)) (read_as (if t then Some (codes "FENCE") else None) words)
    read w words true e = ((λ h. whole before (is_word w (codes "FENCE")) (has_fence words) e), tt)
    read w words false e = tt

    told : (words : List Bytes) → Each (Told before (λ _. true) words) (word (codes "FENCE") words)
    told [] = (tt, tt)
    told (w ∷ words) = read w words (is_word w (codes "FENCE")) refl

-- one form behind another

module _ {A B : Type 0} (before : Bool) (mark : A → Bool) (last : B → Bool) (g : A → Form B) (goes : (a : A) → Shows (mark a) last (g a)) where
  bound_told : (words : List Bytes) (rs : List (Reading A)) → Each (Told before mark words) rs → Each (Told before last words) (flat_map (go_on g) rs)
  bound_told words [] all = tt
  bound_told words (spells a rest ∷ rs) all = each_append (Told before last words) (g a rest) (flat_map (go_on g) rs)
      (each_map (Told (mark a) last rest) (Told before last words) on (g a rest) ((goes a).told rest)) (bound_told words rs all.1)
    where
      on : (r : Reading B) → Told (mark a) last rest r → Told before last words r
      on (spells b left) h = λ e. all.0 (h e)
      on (runs_out due) h = tt
  bound_told words (runs_out due ∷ rs) all = (tt, bound_told words rs all.1)

shows_bind : {A B : Type 0} (before : Bool) (mark : A → Bool) (last : B → Bool) (f : Form A) (g : A → Form B) → Shows before mark f
    → ((a : A) → Shows (mark a) last (g a)) → Shows before last (f >>= g)
shows_bind before mark last f g p goes = record { told = λ words. bound_told before mark last g goes words (f words) (p.told words) }

shows_behind : {A B : Type 0} (before : Bool) (last : B → Bool) (f : Form A) (g : A → Form B) → Keeps f → ((a : A) → Shows before last (g a))
    → Shows before last (f >>= g)
shows_behind before last f g p goes = shows_bind before (λ _. before) last f g (p before) goes

shows_then : {B : Type 0} (before : Bool) (last : B → Bool) (called : Bytes) (g : Form B) → Shows before last g → Shows before last (word called >> g)
shows_then before last called g q = shows_behind before last (word called) (λ _. g) (keeps_word a_word _) (λ _. q)

module _ {S : Type 0} (mark : S → Bool) (step : S → Form S) (steps : (s : S) → Shows (mark s) mark (step s)) where
  many : (n : ℕ) (s : S) → Shows (mark s) mark (at_most_times n step s)
  many zero s = shows_done (mark s) mark s (λ e. e)
  many (suc n) s = shows_or (mark s) mark (done s) (step s >>= at_most_times n step) (shows_done (mark s) mark s (λ e. e))
      (shows_bind (mark s) mark mark (step s) (at_most_times n step) (steps s) (many n))

  shows_repeated : (s : S) → Shows (mark s) mark (repeated step s)
  shows_repeated s = record { told = λ words. (many (length words + 1) s).told words }

module _ {A : Type 0} (f : Form A) (one : Keeps f) where
  keeps_times : (n : ℕ) → Keeps (times n f)
  keeps_times zero before = shows_done before (λ _. before) [] (λ e. e)
  keeps_times (suc n) before = shows_behind before (λ _. before) f _ one (λ a. shows_behind before (λ _. before) (times n f) _ (keeps_times n)
      (λ rest. shows_done before (λ _. before) (a ∷ rest) (λ e. e)))

-- tests

keeps_where_test : Keeps table.where_test
keeps_where_test before =
    shows_then before (λ _. before) (codes "WHERE") _ (shows_behind before (λ _. before) name _ (keeps_word a_word _) (λ n.
    shows_or before (λ _. before) (table.where_range n) (table.where_same n)
    (shows_behind before (λ _. before) bound _ (keeps_word a_word _) (λ low. shows_behind before (λ _. before) bound _ (keeps_word a_word _)
    (λ high. shows_done before (λ _. before) _ (λ e. e))))
    (shows_behind before (λ _. before) text _ (keeps_word a_word _) (λ t. shows_behind before (λ _. before) (again t) _ (keeps_word a_word _)
    (λ u. shows_done before (λ _. before) _ (λ e. e))))))

keeps_wherein_test : Keeps table.wherein_test
keeps_wherein_test before =
    shows_then before (λ _. before) (codes "WHEREIN") _ (shows_behind before (λ _. before) name _ (keeps_word a_word _) (λ n.
    shows_behind before (λ _. before) (between 1 max_values) _ (keeps_word a_word _) (λ count.
    shows_behind before (λ _. before) (times count value) _ (keeps_times value (keeps_word a_word _) count)
    (λ values. shows_done before (λ _. before) _ (λ e. e)))))

keeps_test : Keeps table.test
keeps_test before = shows_or before (λ _. before) table.where_test table.wherein_test (keeps_where_test before) (keeps_wherein_test before)

-- options

abbrev fenced : table.FenceOptions → Bool
fenced o = o.fence

module _ (near : Bool) (o : table.FenceOptions) where
  abbrev ShowsOption : Form table.FenceOptions → Type 0
  ShowsOption f = Shows o.fence fenced f

  own : (p : table.FenceOptions) → p.fence ≡ o.fence → ShowsOption (done p)
  own p e = shows_done o.fence fenced p (λ h. subst (λ (b : Bool). b ≡ true) e h)

  next : (f g : Form table.FenceOptions) (test : Bool) → ShowsOption f → ShowsOption g → ShowsOption (where_ test f or g)
  next f g test p q = shows_or o.fence fenced (where_ test f) g (shows_where o.fence fenced test f p) q

  keeps_list : (called : Bytes) (names : List Bytes) → Keeps (word called >> list_of names)
  keeps_list called names before = shows_then before (λ _. before) called (list_of names) (keeps_word a_word _ before)

  shows_option : ShowsOption (table.fence_option near o)
  shows_option =
      next _ _ (is_none o.glob) (shows_behind o.fence fenced (word (codes "MATCH") >> glob) _
      (λ before. shows_then before (λ _. before) (codes "MATCH") glob (keeps_word a_word _ before)) (λ p. own (record o { glob = Some p }) refl)) (
      next _ _ (nat_lt (length o.tests) max_tests) (shows_behind o.fence fenced table.test _ keeps_test (λ t. own _ refl)) (
      next _ _ (not o.fence) (shows_bind o.fence (λ _. true) fenced (word (codes "FENCE")) (λ _. done (record o { fence = true }))
      (shows_fence o.fence) (λ _. shows_any fenced _)) (
      next _ _ (is_none o.detect && not o.nodwell) (shows_behind o.fence fenced _ _ (keeps_list (codes "DETECT") table.detect_names) (λ l. own _ refl)) (
      next _ _ (is_none o.commands) (shows_behind o.fence fenced _ _ (keeps_list (codes "COMMANDS") table.command_names) (λ l. own _ refl)) (
      next _ _ (near && not o.nodwell && is_none o.detect) (shows_then o.fence fenced (codes "NODWELL") _ (own (record o { nodwell = true }) refl))
      (shows_none o.fence fenced))))))

shows_options : (near : Bool) → Shows false fenced (repeated (table.fence_option near) table.no_fence_options)
shows_options near = shows_repeated fenced (table.fence_option near) (shows_option near) table.no_fence_options

-- settings

abbrev always : Command → Bool
always c = true

shows_area : (kind_word : Bytes) (kind : Kind) (channel : table.Called) → Shows false always (table.setchan_area kind_word kind channel)
shows_area kind_word kind channel = shows_then false always kind_word _ (shows_behind false always name _ (keeps_word a_word _) (λ key.
    shows_bind false fenced always (repeated (table.fence_option false) table.no_fence_options) _ (shows_options false) (λ o.
    shows_then_if always o.fence table.area _)))

shows_near : (channel : table.Called) → Shows false always (table.setchan_near channel)
shows_near channel = shows_then false always (codes "NEARBY") _ (shows_behind false always name _ (keeps_word a_word _) (λ key.
    shows_bind false fenced always (repeated (table.fence_option true) table.no_fence_options) _ (shows_options true) (λ o.
    shows_if always o.fence (table.near_area channel key o))))

keeps_ex : Keeps table.after_ex_words
keeps_ex before = shows_or before (λ _. before) (done None) _ (shows_done before (λ _. before) None (λ e. e))
    (shows_behind before (λ _. before) (word (codes "EX") >> seconds) _
    (λ b. shows_then b (λ _. b) (codes "EX") seconds (keeps_word a_word _ b)) (λ s. shows_done before (λ _. before) (Some s) (λ e. e)))

shows_setchan : Shows false always table.setchan_words
shows_setchan = shows_behind false always name _ (keeps_word a_word _) (λ n. shows_behind false always table.after_ex_words _ keeps_ex (λ ex.
    let channel : table.Called = record { name = n; after_ex = ex } in
    shows_or false always (table.setchan_area (codes "WITHIN") Within channel) _ (shows_area (codes "WITHIN") Within channel)
    (shows_or false always (table.setchan_area (codes "INTERSECTS") Intersects channel) _ (shows_area (codes "INTERSECTS") Intersects channel)
    (shows_or false always (table.setchan_near channel) _ (shows_near channel) (shows_none false always)))))

-- behind SETCHAN the table has this form alone
pub table_is : (rest : List Bytes) → table.command_table (codes "SETCHAN" ∷ rest) ≡ table.setchan_words rest
table_is rest = simp append-nil refl

said : (words : List Bytes) (r : Reading Command) → Told false always words r → Said (λ _. has_fence words ≡ true) r
said words (spells c rest) h = h refl
said words (runs_out due) h = tt

pub setting_has_fence : (rest : List Bytes) (c : Command) → table.command_spelled (codes "SETCHAN" ∷ rest) ≡ Some c → has_fence rest ≡ true
unfolding table.readings
setting_has_fence rest c e = spelled_said (λ _. has_fence rest ≡ true) (table.command_table (codes "SETCHAN" ∷ rest)) c
    (subst (λ (rs : List (Reading Command)). Each (Said (λ _. has_fence rest ≡ true)) rs) (sym (table_is rest))
    (each_map (Told false always rest) (Said (λ _. has_fence rest ≡ true)) (said rest) (table.setchan_words rest) (shows_setchan.told rest))) e
