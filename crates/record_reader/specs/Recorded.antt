-- The records of changes fit a request, and are read back.
use Rattle.std.specs.Prelude.{◌≡◌, ℕ, ◌+◌, ◌*◌, ◌<◌, ◌≤◌, true, length, Option, Ok}
use Rattle.std.proofs.Common.{arith}
use Rattle.byte_text.specs.Names.{Bytes}
use Rattle.byte_text.specs.Requests.{max_words, max_word}
use Rattle.geo_text.specs.Texts.{shape_of}
use Rattle.world_data.specs.declared.objects.Object.{Object}
use Rattle.world_data.specs.declared.worlds.Change.TheVariants.{Put, Del, Drop, Flush, DelChan}
use Rattle.log_record.specs.Words.{IsRecorded}
use Rattle.world_data.specs.Records.{is_kept, is_kept_deadline}
use Rattle.record_reader.specs.declared.limits.TheConstants.{MOST_FIELDS}

-- the most fields of an object whose record fits a request: the constant of the code
abbrev pub most_fields : ℕ
most_fields = MOST_FIELDS

-- a record with a deadline, of so many fields, is `SET key id`, three words a field, `AT deadline` and `OBJECT text`
pub most_fields_fit : 3 * most_fields + 7 ≤ max_words
most_fields_fit = omega arith

-- one more field does not fit, even where no deadline is said
pub one_more_does_not : max_words < 3 * (most_fields + 1) + 5
one_more_does_not = omega arith

pub record ChangesAreRecorded : Type 0 where
  -- the text is no longer than a word may be, as that of each object that a command or a record gave
  pub puts : (o : Object) → is_kept (Put o) ≡ true → shape_of o.text ≡ Ok o.shape → length o.fields ≤ most_fields → length o.text ≤ max_word
      → IsRecorded (Put o)
  -- and with more fields there is none
  pub most : (o : Object) → IsRecorded (Put o) → length o.fields ≤ most_fields
  -- an object with another deadline, or with none
  pub deadlines : (o : Object) (deadline : Option ℕ) → IsRecorded (Put o) → is_kept_deadline deadline ≡ true
      → IsRecorded (Put (record o { deadline = deadline }))
  pub dels : (key id : Bytes) → is_kept (Del key id) ≡ true → IsRecorded (Del key id)
  pub drops : (key : Bytes) → is_kept (Drop key) ≡ true → IsRecorded (Drop key)
  pub flush : IsRecorded Flush
  pub channel_ends : (name : Bytes) → is_kept (DelChan name) ≡ true → IsRecorded (DelChan name)
