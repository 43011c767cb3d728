-- How the words behind others are read or refused.
use Rattle.std.proofs.Common.{◌≡◌, ◌<◌, Bool, true, false, refl, sym, ◌∙◌, ap, subst, List, [], ◌∷◌, ◌++◌, length, arith, length-append, append_assoc}
use Rattle.std.specs.Prelude.{Option, Some, None, Ok, Err, flat_map}
use Rattle.std.proofs.lemmas.List.{append-nil}
use Rattle.std.proofs.lemmas.Bool.Decides.{nat_tests}
use Rattle.byte_text.specs.Names.{Bytes}
use Rattle.world_model.specs.Grammar.{Form, Due, a_word, a_coordinate, a_geojson, Reading, spells, runs_out, go_on, ◌>>=◌, done, one_word, read_as, live}
use Rattle.world_model.specs.Commands.{readings, reads, is_open, command_spelled, stop_behind, fault_at, wrong_count}
use Rattle.world_model.specs.declared.commands.Command.{Command}
use Rattle.world_model.specs.PrefixLaws.{beginnings, spelling_open, stops_there}
use Rattle.cmd_words.specs.Progress.{Place, all_words, IsBehind, Follows, due_fault}

pub open_by : (words : List Bytes) (r : Reading Command) (rs : List (Reading Command)) → readings words ≡ r ∷ rs → is_open words ≡ true
open_by words r rs e = rw e (grind (arith, nat_tests))

pub shut_by : (words : List Bytes) → readings words ≡ [] → is_open words ≡ false
shut_by words e = rw e refl

unspelled : (words : List Bytes) (o : Option Command) → command_spelled words ≡ o → is_open words ≡ false → o ≡ None
unspelled words None e s = refl
unspelled words (Some c) e s = let open_ : is_open words ≡ true = spelling_open words c e in absurd (cc (open_, s))

longer_shut : (read : List Bytes) (w : Bytes) (rest : List Bytes) (b : Bool) → is_open (read ++ w ∷ rest) ≡ b → is_open (read ++ w ∷ []) ≡ false → b ≡ false
longer_shut read w rest false e s = refl
longer_shut read w rest true e s =
    let whole : is_open ((read ++ w ∷ []) ++ rest) ≡ true = subst (λ (l : List Bytes). is_open l ≡ true) (sym (append_assoc read (w ∷ []) rest)) e in
    let open_ : is_open (read ++ w ∷ []) ≡ true = beginnings (read ++ w ∷ []) rest whole in
    absurd (cc (open_, s))

-- the words are refused at w
pub stopped : (read : List Bytes) (w : Bytes) (rest : List Bytes) → is_open read ≡ true → is_open (read ++ w ∷ []) ≡ false
    → reads (read ++ w ∷ rest) ≡ Err (fault_at read w (readings read))
stopped read w rest o s =
    let shut : is_open (read ++ w ∷ rest) ≡ false = longer_shut read w rest (is_open (read ++ w ∷ rest)) refl s in
    let none : command_spelled (read ++ w ∷ rest) ≡ None = unspelled (read ++ w ∷ rest) (command_spelled (read ++ w ∷ rest)) refl shut in
    rw (none, stops_there read w rest o s) refl

unstopped : (before words : List Bytes) → is_open (before ++ words) ≡ true → stop_behind before words ≡ None
unstopped before [] o = refl
unstopped before (w ∷ words) o =
    let whole : is_open ((before ++ w ∷ []) ++ words) ≡ true = subst (λ (l : List Bytes). is_open l ≡ true) (sym (append_assoc before (w ∷ []) words)) o in
    let here : is_open (before ++ w ∷ []) ≡ true = beginnings (before ++ w ∷ []) words whole in
    rw here (unstopped (before ++ w ∷ []) words whole)

-- the words have run out
pub ran_out : (words : List Bytes) → is_open words ≡ true → command_spelled words ≡ None → reads words ≡ Err (wrong_count words)
ran_out words o none = rw (none, unstopped [] words o) refl

pub spelt : (words : List Bytes) (c : Command) → command_spelled words ≡ Some c → reads words ≡ Ok c
spelt words c e = rw e refl

-- what is read where nothing is behind
pub now : (p : Place) (f : Form Command) → Follows p f → readings p.read ≡ live (f [])
now p f h = subst (λ (l : List Bytes). readings l ≡ live (f [])) (append-nil p.read) (h.goes [])

pub no_more : (p : Place) → p.left ≡ [] → all_words p ≡ p.read
no_more p e = rw e (append-nil p.read)

pub some_more : (p : Place) (w : Bytes) (rest : List Bytes) → p.left ≡ w ∷ rest → all_words p ≡ p.read ++ w ∷ rest
some_more p w rest e = rw e refl

-- one word of a kind

module _ {A : Type 0} (due : Due) (kind : Bytes → Option A) (next : A → Form Command) where
  pub took : (old new : Place) (w : Bytes) (a : A) → IsBehind w old new → kind w ≡ Some a → Follows old (one_word due kind >>= next) → Follows new (next a)
  took old new w a b e f = record {
    begun = subst (λ (l : List Bytes). 0 < length l) (sym b.read) (let n = length-append old.read (w ∷ []) in omega (arith, n));
    goes = λ more.
        let same : new.read ++ more ≡ old.read ++ w ∷ more = ap (λ (l : List Bytes). l ++ more) b.read ∙ append_assoc old.read (w ∷ []) more in
        let here : live (flat_map (go_on next) (read_as (kind w) more)) ≡ live (next a more) = rw e (ap live (append-nil (next a more))) in
        ap readings same ∙ f.goes (w ∷ more) ∙ here;
  }

  due_there : (p : Place) → Follows p (one_word due kind >>= next) → readings p.read ≡ runs_out due ∷ []
  due_there p f = now p (one_word due kind >>= next) f

  pub lacks : (p : Place) → p.left ≡ [] → Follows p (one_word due kind >>= next) → reads (all_words p) ≡ Err (wrong_count (all_words p))
  lacks p e f =
      let there = due_there p f in
      let none : command_spelled p.read ≡ None = rw there refl in
      rw (no_more p e) (ran_out p.read (open_by p.read (runs_out due) [] there) none)

  faulty : (d : Due) (read : List Bytes) (w : Bytes) → 0 < length read → fault_at read w (runs_out d ∷ []) ≡ due_fault d w
  faulty d [] w b = absurd (omega arith)
  faulty a_word (first ∷ read) w b = refl
  faulty a_coordinate (first ∷ read) w b = refl
  faulty a_geojson (first ∷ read) w b = refl

  pub refuses : (p : Place) (w : Bytes) (rest : List Bytes) → p.left ≡ w ∷ rest → kind w ≡ None → Follows p (one_word due kind >>= next) → reads (all_words p) ≡ Err (due_fault due w)
  refuses p w rest e k f =
      let there = due_there p f in
      let past : live (flat_map (go_on next) (read_as (kind w) [])) ≡ [] = rw k refl in
      let shut : readings (p.read ++ w ∷ []) ≡ [] = f.goes (w ∷ []) ∙ past in
      let at = stopped p.read w rest (open_by p.read (runs_out due) [] there) (shut_by (p.read ++ w ∷ []) shut) in
      rw (some_more p w rest e) (at ∙ ap Err (ap (fault_at p.read w) there ∙ faulty due p.read w f.begun))

-- the end of a command

pub finished : (p : Place) (c : Command) → p.left ≡ [] → Follows p (done c) → reads (all_words p) ≡ Ok c
finished p c e f =
    let there : readings p.read ≡ spells c [] ∷ [] = now p (done c) f in
    let said : command_spelled p.read ≡ Some c = rw there refl in
    rw (no_more p e) (spelt p.read c said)

too_many : (read rest : List Bytes) (w : Bytes) (c : Command) → 0 < length read → fault_at read w (spells c [] ∷ []) ≡ wrong_count (read ++ rest)
too_many [] rest w c b = absurd (omega arith)
too_many (first ∷ read) rest w c b = refl

pub unfinished : (p : Place) (w : Bytes) (rest : List Bytes) (c : Command) → p.left ≡ w ∷ rest → Follows p (done c) → reads (all_words p) ≡ Err (wrong_count (all_words p))
unfinished p w rest c e f =
    let there : readings p.read ≡ spells c [] ∷ [] = now p (done c) f in
    let shut : readings (p.read ++ w ∷ []) ≡ [] = f.goes (w ∷ []) in
    let at = stopped p.read w rest (open_by p.read (spells c []) [] there) (shut_by (p.read ++ w ∷ []) shut) in
    rw (some_more p w rest e) (at ∙ ap Err (ap (fault_at p.read w) there ∙ too_many p.read (w ∷ rest) w c f.begun))
