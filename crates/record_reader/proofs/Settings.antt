-- A setting is the command that its normal words spell, with the deadline, where its record has the words.
use Rattle.std.proofs.Common.{◌≡◌, ℕ, Bool, true, false, List, [], ◌∷◌, ◌++◌, refl, sym, ap, ◌∙◌}
use Rattle.std.specs.Prelude.{Option, Some, None, IfNone, Result, Ok, Err, codes, decimal, ◌&&◌, if◌then◌else◌}
use Rattle.byte_text.specs.Names.{Bytes, is_name, same}
use Rattle.byte_text.specs.Numbers.{digits_value}
use Rattle.byte_text.specs.ByteOrder.{same_equal}
use Rattle.world_data.specs.Records.{deadline_words, record_reader, is_kept_deadline}
use Rattle.world_data.specs.declared.channels.Channel.{Channel}
use Rattle.world_data.specs.declared.worlds.Change.{Change}
use Rattle.world_data.specs.declared.worlds.Change.TheVariants.{SetChan}
use Rattle.world_model.specs.Commands.{command_spelled, readings}
use Rattle.world_model.specs.declared.search_commands.AreaWords.TheVariants.{Given}
use Rattle.world_model.specs.declared.commands.Command.{Command}
use Rattle.world_model.specs.declared.commands.Command.TheVariants as command
use Rattle.world_model.specs.declared.channel_commands.ChannelCommand.TheVariants as of_channel
use Rattle.log_record.specs.Words.{change_of_words, deadline_front, if_recorded, until, settled, setchan_until, same_words}
use Rattle.log_record.specs.RecordsRead.{first, second}
use Rattle.log_record.specs.RecordsBack.{moment_back}
use Rattle.record_reader.specs.declared.faults.ReadFault.{ReadFault}
use Rattle.record_reader.specs.declared.faults.ReadFault.TheVariants.{NotRecord, Memory}
use Rattle.record_reader.specs.Reading.{BeginsNot, IsChangeOf, IsSpelled, ReadsDeadline, record_words}
use Rattle.record_reader.proofs.LeftWords.{none_begins, other_begins}
use Rattle.record_reader.proofs.OtherRecords.{differs}

-- by the deadline that was read

none_in_front : (words : List Bytes) → BeginsNot (codes "AT") words → deadline_front words ≡ (None, words)
none_in_front [] none = refl
none_in_front (w ∷ []) none = refl
none_in_front (w ∷ v ∷ words) none =
    ap (λ (at : Bool). if at then (Some (digits_value v), words) else (None, w ∷ v ∷ words)) (differs (codes "AT") w (v ∷ words) none)

in_front : (deadline : Option ℕ) (left : List Bytes) → is_kept_deadline deadline ≡ true → IfNone deadline (BeginsNot (codes "AT") left)
    → deadline_front (deadline_words deadline ++ left) ≡ (deadline, left)
in_front None left kept none = none_in_front left none
in_front (Some d) left kept none = moment_back d left kept

by_front : (name : Bytes) (deadline : Option ℕ) (left : List Bytes) → let words = record_words name deadline left in
    change_of_words words ≡ if_recorded words (setchan_until name (deadline_front (deadline_words deadline ++ left)))
unfolding change_of_words
by_front name deadline left = refl

module _ (words : List Bytes) (name : Bytes) (behind left : List Bytes) (is : words ≡ codes "SETCHAN" ∷ name ∷ behind) (deadline : Option ℕ)
    (read : ReadsDeadline behind left (Ok deadline)) where
  pub all_words : words ≡ record_words name deadline left
  all_words = is ∙ ap (λ l. codes "SETCHAN" ∷ name ∷ l) read.0

  by_spelling : change_of_words words ≡ if_recorded (record_words name deadline left) (setchan_until name (deadline, left))
  by_spelling = ap change_of_words all_words ∙ by_front name deadline left
      ∙ ap (λ (front : Option ℕ × List Bytes). if_recorded (record_words name deadline left) (setchan_until name front)) (in_front deadline left read.1 read.2)

  pub setting_read : (r : Result Change ReadFault) → IsSpelled name deadline left r → IsChangeOf words r
  setting_read (Ok c) found = by_spelling ∙ found
  setting_read (Err NotRecord) found = by_spelling ∙ found
  setting_read (Err Memory) found = tt

-- no name, and a deadline that is none

nothing_set : change_of_words (codes "SETCHAN" ∷ []) ≡ None
unfolding change_of_words
nothing_set = refl

pub no_channel : (words behind : List Bytes) → words ≡ codes "SETCHAN" ∷ behind → behind ≡ [] → change_of_words words ≡ None
no_channel words behind is none = ap change_of_words (is ∙ ap (λ l. codes "SETCHAN" ∷ l) none) ∙ nothing_set

at_alone : (name : Bytes) → command_spelled (codes "SETCHAN" ∷ name ∷ codes "AT" ∷ []) ≡ None
unfolding readings
at_alone name = by (is_name name) refl
  where
    by : (b : Bool) → is_name name ≡ b → command_spelled (codes "SETCHAN" ∷ name ∷ codes "AT" ∷ []) ≡ None
    by true e = rw e refl
    by false e = rw e refl

module _ (name v : Bytes) (left : List Bytes) (none : (n : ℕ) → is_kept_deadline (Some n) ≡ true → v ≡ decimal n → ⊥) where
  abbrev moment : ℕ
  moment = digits_value v

  abbrev at_words : List Bytes
  at_words = codes "SETCHAN" ∷ name ∷ codes "AT" ∷ v ∷ left

  other_moment : (c : Channel) → if_recorded at_words (Some (SetChan (until (Some moment) c))) ≡ None
  other_moment c = by (same_words (record_reader (SetChan (until (Some moment) c))) at_words) refl (is_kept_deadline (Some moment)) refl
    where
      by : (a : Bool) → same_words (record_reader (SetChan (until (Some moment) c))) at_words ≡ a → (b : Bool) → is_kept_deadline (Some moment) ≡ b
          → (if a && (is_name c.name && b) then Some (SetChan (until (Some moment) c)) else None) ≡ None
      by true e true kept =
          let behind = second (same c.name name) (same (decimal moment) v && same_words c.words left) e in
          let equal = first (same (decimal moment) v) (same_words c.words left) behind in
          absurd (none moment kept (sym (same_equal (decimal moment) v equal)))
      by true e false kept = ap (λ (b : Bool). if b then Some (SetChan (until (Some moment) c)) else None) (and_none (is_name c.name))
        where
          and_none : (b : Bool) → (b && false) ≡ false
          and_none true = refl
          and_none false = refl
      by false e b kept = refl

  no_moment : (o : Option Command) → if_recorded at_words (settled (Some moment) o) ≡ None
  no_moment (Some (command.Channel (of_channel.Setchan c None after_ex))) = other_moment c
  no_moment (Some (command.Channel (of_channel.Setchan c (Some (Given a)) after_ex))) = other_moment c
  no_moment o = refl

no_setting : (name : Bytes) (old new : List Bytes) → ReadsDeadline old new (Err NotRecord) → change_of_words (codes "SETCHAN" ∷ name ∷ old) ≡ None
unfolding change_of_words
no_setting name [] new none = absurd (none None [] refl (none_begins (codes "AT") [] refl) refl)
no_setting name (w ∷ left) new none = by (same w (codes "AT")) refl left refl
  where
    behind : (left : List Bytes) → w ∷ left ≡ codes "AT" ∷ left → ((n : ℕ) (behind : List Bytes) → is_kept_deadline (Some n) ≡ true → left ≡ decimal n ∷ behind → ⊥)
        → change_of_words (codes "SETCHAN" ∷ name ∷ codes "AT" ∷ left) ≡ None
    behind [] e none = ap (λ (o : Option Command). if_recorded (codes "SETCHAN" ∷ name ∷ codes "AT" ∷ []) (settled None o)) (at_alone name)
    behind (v ∷ left) e none = no_moment name v left (λ n kept f. none n left kept (ap (λ u. u ∷ left) f))
        (command_spelled (codes "SETCHAN" ∷ name ∷ left))

    by : (b : Bool) → same w (codes "AT") ≡ b → (rest : List Bytes) → rest ≡ left → change_of_words (codes "SETCHAN" ∷ name ∷ w ∷ left) ≡ None
    by true e rest f =
        let is : w ≡ codes "AT" = same_equal w (codes "AT") e in
        ap (λ v. change_of_words (codes "SETCHAN" ∷ name ∷ v ∷ left)) is
        ∙ behind left (ap (λ v. v ∷ left) is) (λ n more kept g. none (Some n) more kept tt (ap (λ v. v ∷ left) is ∙ ap (λ l. codes "AT" ∷ l) g))
    by false e rest f = absurd (none None (w ∷ left) refl (other_begins (codes "AT") w (w ∷ left) left refl e) refl)

pub deadline_refused : (words : List Bytes) (name : Bytes) (old new : List Bytes) (why : ReadFault) → words ≡ codes "SETCHAN" ∷ name ∷ old
    → ReadsDeadline old new (Err why) → IsChangeOf words (Err why)
deadline_refused words name old new NotRecord is none = ap change_of_words is ∙ no_setting name old new none
deadline_refused words name old new Memory is none = tt
