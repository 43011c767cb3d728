-- The record of a change: the words that the log keeps of it, their length, and which changes are kept.
use Rattle.std.specs.Prelude.{ℕ, pos, neg_ℤ, ◌+◌, ◌-◌, ◌^◌, Bool, true, ◌&&◌, nat_le, int_le, List, [], ◌∷◌, ◌++◌, length, Option, Some, None}
use Rattle.std.specs.Prelude.{codes, decimal, flat_map, sum_by}
use Rattle.std.specs.List.{list_all}
use Rattle.byte_text.specs.Names.{Bytes, is_name}
use Rattle.byte_text.specs.Requests.{request_text}
use Rattle.world_data.specs.Filters.{Field, are_fields, value_text}
use Rattle.world_data.specs.declared.values.Value.{Value}
use Rattle.world_data.specs.declared.values.Value.TheVariants.{Whole, Word}
use Rattle.world_data.specs.declared.worlds.World.{World}
use Rattle.world_data.specs.declared.worlds.Change.{Change}
use Rattle.world_data.specs.declared.worlds.Change.TheVariants.{Put, Del, Drop, Flush, SetChan, DelChan}

abbrev pub deadline_words : Option ℕ → List Bytes
deadline_words None = []
deadline_words (Some d) = codes "AT" ∷ decimal d ∷ []

abbrev pub field_words : Field → List Bytes
field_words f = codes "FIELD" ∷ f.0 ∷ value_text f.1 ∷ []

abbrev pub record_reader : Change → List Bytes
record_reader (Put o) = codes "SET" ∷ o.key ∷ o.id ∷ flat_map field_words o.fields ++ deadline_words o.deadline ++ codes "OBJECT" ∷ o.text ∷ []
record_reader (Del key id) = codes "DEL" ∷ key ∷ id ∷ []
record_reader (Drop key) = codes "DROP" ∷ key ∷ []
record_reader Flush = codes "FLUSHDB" ∷ []
record_reader (SetChan c) = codes "SETCHAN" ∷ c.name ∷ deadline_words c.deadline ++ c.words
record_reader (DelChan name) = codes "DELCHAN" ∷ name ∷ []

-- the text of a change in the log, and its length
abbrev pub record_writer : Change → Bytes
record_writer change = request_text (record_reader change)

abbrev pub record_len : Change → ℕ
record_len change = length (record_writer change)

-- the bytes of the records of all that a world holds
abbrev pub weight : World → ℕ
weight w = sum_by (λ o. record_len (Put o)) w.objects + sum_by (λ c. record_len (SetChan c)) w.channels

-- a number has 64 bits, and a text is as long as a name
abbrev pub is_kept_value : Value → Bool
is_kept_value (Whole z) = int_le (neg_ℤ (pos (2 ^ 63))) z && int_le z (pos (2 ^ 63 - 1))
is_kept_value (Word w) = is_name w

-- a field's name is a name, and its value can be kept
abbrev pub is_kept_field : Field → Bool
is_kept_field f = is_name f.0 && is_kept_value f.1

-- a deadline has 64 bits
abbrev pub is_kept_deadline : Option ℕ → Bool
is_kept_deadline None = true
is_kept_deadline (Some d) = nat_le d (2 ^ 64 - 1)

-- names are names, fields stand in order with values that a field may have, numbers have 64 bits
abbrev pub is_kept : Change → Bool
is_kept (Put o) = is_name o.key && is_name o.id && are_fields o.fields && list_all is_kept_field o.fields && is_kept_deadline o.deadline
is_kept (Del key id) = is_name key && is_name id
is_kept (Drop key) = is_name key
is_kept Flush = true
is_kept (SetChan c) = is_name c.name && is_kept_deadline c.deadline
is_kept (DelChan name) = is_name name
