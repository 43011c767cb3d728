-- How the words of a record are read, from left to right: what each function of the reader answers.
use Rattle.std.specs.Prelude.{◌≡◌, ◌^◌, ◌<◌, ℕ, Bool, true, false, List, [], ◌∷◌, ◌++◌, flat_map, decimal, codes, Option, Some, None, IfNone}
use Rattle.std.specs.Prelude.{Result, Ok, Err}
use Rattle.std.specs.List.{list_all}
use Rattle.byte_text.specs.Names.{Bytes, is_name}
use Rattle.geo_text.specs.Texts.{Shape, shape_of}
use Rattle.world_data.specs.Filters.{Field, are_fields, value_in, value_text}
use Rattle.world_data.specs.Records.{field_words, deadline_words, is_kept_value, is_kept_field, is_kept_deadline}
use Rattle.world_data.specs.declared.values.Value.{Value}
use Rattle.world_data.specs.declared.worlds.Change.{Change}
use Rattle.world_model.specs.declared.search_commands.AreaWords.{AreaWords}
use Rattle.world_model.specs.declared.search_commands.AreaWords.TheVariants.{Given, Of}
use Rattle.world_model.specs.declared.commands.Command.{Command}
use Rattle.log_record.specs.Words.{change_of_words, if_recorded, settled, setchan_until}
use Rattle.record_reader.specs.declared.faults.ReadFault.{ReadFault}
use Rattle.record_reader.specs.declared.faults.ReadFault.TheVariants.{NotRecord, Memory}

-- the words do not begin with this one
pub record BeginsNot (called : Bytes) (words : List Bytes) : Type 0 where
  pub other : (behind : List Bytes) → words ≡ called ∷ behind → ⊥

-- what holds of an answer: of what was read, of the words where they are refused, and nothing where memory ran out
abbrev pub Answers : {A : Type 0} → (A → Type 0) → Type 0 → Result A ReadFault → Type 0
Answers good bad (Ok a) = good a
Answers good bad (Err NotRecord) = bad
Answers good bad (Err Memory) = Unit {0}

-- the change whose record the words are, or that they are the record of none
abbrev pub IsChangeOf : List Bytes → Result Change ReadFault → Type 0
IsChangeOf words = Answers (λ c. change_of_words words ≡ Some c) (change_of_words words ≡ None)

-- the words begin with those of a value that is fit, or with those of none that is
abbrev pub Reads : {A : Type 0} → (A → List Bytes) → (A → Type 0) → List Bytes → List Bytes → Result A ReadFault → Type 0
Reads {A = A} words_of IsFit old new = Answers (λ a. (old ≡ words_of a ++ new) × IsFit a)
    ((a : A) (behind : List Bytes) → IsFit a → old ≡ words_of a ++ behind → ⊥)

-- no word is left, or some is
abbrev pub IsEnd : List Bytes → Result (Unit {0}) ReadFault → Type 0
IsEnd left (Ok u) = left ≡ []
IsEnd left (Err NotRecord) = left ≡ [] → ⊥
IsEnd left (Err Memory) = ⊥

abbrev pub one_word : Bytes → List Bytes
one_word w = w ∷ []

abbrev pub name_words : Bytes → List Bytes
name_words n = one_word n

abbrev pub IsName : Bytes → Type 0
IsName w = is_name w ≡ true

abbrev pub moment_words : ℕ → List Bytes
moment_words n = one_word (decimal n)

abbrev pub IsMoment : ℕ → Type 0
IsMoment n = n < 2 ^ 64

abbrev pub value_words : Value → List Bytes
value_words v = one_word (value_text v)

-- a value that is kept, and that its text writes
abbrev pub IsValue : Value → Type 0
IsValue v = (is_kept_value v ≡ true) × (value_in (value_text v) ≡ v)

-- a field behind its first word
abbrev pub pair_words : Field → List Bytes
pair_words f = f.0 ∷ value_text f.1 ∷ []

abbrev pub IsPair : Field → Type 0
IsPair f = IsName f.0 × IsValue f.1

-- the fields of an object that has a record
pub record AreKept (fields : List Field) : Type 0 where
  pub ordered : are_fields fields ≡ true
  pub kept : list_all is_kept_field fields ≡ true

-- all fields at the front
abbrev pub ReadsFields : List Bytes → List Bytes → Result (List Field) ReadFault → Type 0
ReadsFields old new = Answers
    (λ fields. (old ≡ flat_map field_words fields ++ new) × AreKept fields × BeginsNot (codes "FIELD") new)
    ((fields : List Field) (behind : List Bytes) → AreKept fields → BeginsNot (codes "FIELD") behind → old ≡ flat_map field_words fields ++ behind
    → ⊥)

-- the deadline at the front, if there is one
abbrev pub ReadsDeadline : List Bytes → List Bytes → Result (Option ℕ) ReadFault → Type 0
ReadsDeadline old new = Answers
    (λ deadline. (old ≡ deadline_words deadline ++ new) × (is_kept_deadline deadline ≡ true) × IfNone deadline (BeginsNot (codes "AT") new))
    ((deadline : Option ℕ) (behind : List Bytes) → is_kept_deadline deadline ≡ true → IfNone deadline (BeginsNot (codes "AT") behind)
    → old ≡ deadline_words deadline ++ behind → ⊥)

-- no word, or more than one
abbrev pub IsNotOne : List Bytes → Type 0
IsNotOne words = (w : Bytes) → words ≡ one_word w → ⊥

-- a text with its shape, which is its last word
abbrev pub text_words : Bytes → List Bytes
text_words text = codes "OBJECT" ∷ text ∷ []

abbrev pub ReadsText : List Bytes → Result (Bytes × Shape) ReadFault → Type 0
ReadsText old = Answers (λ t. (old ≡ text_words t.0) × (shape_of t.0 ≡ Ok t.1))
    ((t : Bytes × Shape) → shape_of t.0 ≡ Ok t.1 → old ≡ text_words t.0 → ⊥)

abbrev pub IsPlaceOf : Bytes → Result (Bytes × Shape) ReadFault → Type 0
IsPlaceOf text = Answers (λ t. (t.0 ≡ text) × (shape_of text ≡ Ok t.1)) ((shape : Shape) → shape_of text ≡ Ok shape → ⊥)

-- where an area is from: the command's words, or an object
abbrev pub stands_in_words : Option AreaWords → Bool
stands_in_words None = true
stands_in_words (Some (Given a)) = true
stands_in_words (Some (Of key id)) = false

-- the words of a setting's record: behind the name the deadline, and then the words that are left
abbrev pub record_words : Bytes → Option ℕ → List Bytes → List Bytes
record_words name deadline left = codes "SETCHAN" ∷ name ∷ deadline_words deadline ++ left

-- the change that the words are the record of, if they are that of this one
abbrev pub IsRecordOf : List Bytes → Option Change → Result Change ReadFault → Type 0
IsRecordOf words setting = Answers (λ c. if_recorded words setting ≡ Some c) (if_recorded words setting ≡ None)

-- the setting of a channel that a command gives, where the words are its record
abbrev pub IsSettingIn : List Bytes → Option ℕ → Command → Result Change ReadFault → Type 0
IsSettingIn words deadline command = IsRecordOf words (settled deadline (Some command))

-- the setting that the words spell, where they are its record with this deadline
abbrev pub IsSpelled : Bytes → Option ℕ → List Bytes → Result Change ReadFault → Type 0
IsSpelled name deadline left = IsRecordOf (record_words name deadline left) (setchan_until name (deadline, left))

-- the words but for the third and the fourth
abbrev pub undated : List Bytes → List Bytes
undated (called ∷ name ∷ at ∷ moment ∷ words) = called ∷ name ∷ words
undated words = words
