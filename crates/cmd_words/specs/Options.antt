-- Options in any order, and what is to follow them.
use Rattle.std.specs.Prelude.{◌≡◌, ◌⊎◌, Bool, true, List, [], ◌∷◌, Option, Some, None, Result, Ok, Err}
use Rattle.byte_text.specs.Names.{Bytes, is_word}
use Rattle.world_model.specs.Grammar.{Form, ◌>>=◌, repeated, live}
use Rattle.world_model.specs.declared.commands.Command.{Command}
use Rattle.cmd_words.specs.Progress.{Place, all_words, answers, Moves, Follows, TookDue, IsNotDue}
use Rattle.cmd_words.specs.declared.faults.CommandFault.{CommandFault}
use Rattle.cmd_words.specs.declared.faults.CommandFault.TheVariants.{Memory}

-- the options of a command: one more behind those that were read, the word that each begins with, whether it may still come, and what is behind that
-- word
pub record Options (S K : Type 0) : Type 0 where
  pub one : S → Form S
  pub name : K → Bytes
  pub may : S → K → Bool
  pub behind : S → K → Form S

-- no option that may come is next
abbrev pub LacksOption : {S K : Type 0} → Options S K → S → List Bytes → Type 0
LacksOption {K = K} t o left = (kind : K) → IsNotDue (t.may o kind) (t.name kind) left

-- the word of an option was read; or none was, and none is next
abbrev pub TakesOption : {S K : Type 0} → Options S K → S → Place → Place → Option K → Type 0
TakesOption t o old new (Some kind) = TookDue (t.may o kind) (t.name kind) old new true
TakesOption t o old new None = (new ≡ old) × LacksOption t o old.left

-- more options behind those that were read, and then what is to follow them
abbrev pub options_then : {S K : Type 0} → Options S K → S → (S → Form Command) → Form Command
options_then t o next = repeated t.one o >>= next

-- what follows the options begins with no word of an option
abbrev pub IsNoOption : {S K : Type 0} → Options S K → (S → Form Command) → Type 0
IsNoOption {S = S} {K = K} t next = (o : S) (kind : K) (w : Bytes) (more : List Bytes) → is_word w (t.name kind) ≡ true
    → live (next o (w ∷ more)) ≡ []

-- the words behind are read from here on with these options in place of those
pub record Goes {S K : Type 0} (t : Options S K) (o p : S) (old new : Place) : Type 0 where
  pub moves : Moves old new
  pub follows : (next : S → Form Command) → IsNoOption t next → Follows old (options_then t o next) → Follows new (options_then t p next)

-- how all the words are refused, whatever is to follow the options; or memory ran out
abbrev pub Refuses : {S K : Type 0} → Options S K → S → Place → CommandFault → Type 0
Refuses {S = S} t o old why = (why ≡ Memory)
    ⊎ ((next : S → Form Command) → IsNoOption t next → Follows old (options_then t o next) → answers (all_words old) ≡ Err why)

-- all options were read
abbrev pub ReadsOptions : {S K : Type 0} → Options S K → S → Place → Place → Result S CommandFault → Type 0
ReadsOptions t o old new (Ok p) = Goes t o p old new × LacksOption t p new.left
ReadsOptions t o old new (Err why) = Refuses t o old why
