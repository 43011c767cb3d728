-- The record of a setting that the words of a request spell fits a request, and is read back.
use Rattle.std.proofs.Common.{◌≡◌, ℕ, ◌+◌, ◌<◌, ◌≤◌, true, List, [], ◌∷◌, ◌++◌, length, refl, sym, ap, subst, ◌∙◌, arith, length-append}
use Rattle.std.specs.Prelude.{Option, Some, None, Ok, codes}
use Rattle.std.proofs.lemmas.Bool.{and_from, leb-true}
use Rattle.byte_text.specs.Names.{Bytes, is_name}
use Rattle.byte_text.specs.Requests.{FitsRequest, IsRequest, max_word}
use Rattle.geo_text.specs.Texts.{Shape, shape_of}
use Rattle.planar_geom.specs.declared.shapes.Area.{Area}
use Rattle.planar_geom.specs.declared.shapes.Area.TheVariants.{Figure}
use Rattle.world_data.specs.Records.{deadline_words, is_kept_deadline}
use Rattle.world_data.specs.declared.channels.Channel.{Channel}
use Rattle.world_data.specs.declared.channels.Watch.{Watch}
use Rattle.world_data.specs.declared.worlds.Change.TheVariants.{SetChan}
use Rattle.world_model.specs.Commands as table
use Rattle.world_model.specs.EffectParts.{deadline_after}
use Rattle.world_model.specs.Effects.{settled_channel}
use Rattle.world_model.specs.declared.search_commands.AreaWords.{AreaWords}
use Rattle.world_model.specs.declared.search_commands.AreaWords.TheVariants.{Given, Of}
use Rattle.world_model.specs.declared.commands.Command.TheVariants as command
use Rattle.world_model.specs.declared.channel_commands.ChannelCommand.TheVariants as of_channel
use Rattle.log_record.specs.Words.{until, IsRecorded, SettingsAreNormal}
use Rattle.log_record.specs.RecordsBack.{channel_back, near_back}
use Rattle.cmd_words.specs.SmallWords.{AreSmall, small, small_decimal, small_name, AreLight, light_text, light_append}
use Rattle.cmd_words.specs.SettingSizes.{ex_count, spelled_within}
use Rattle.channel_plans.specs.Settings.{bare_settled, IsRecordableAt}
use Rattle.command_plans.proofs.GivenAreas.{area_stands}

abbrev IsName : Bytes → Type 0
IsName w = is_name w ≡ true

-- words of which one may be as long as a word can be
light_fits : (words : List Bytes) → AreLight words → 0 < length words → length words ≤ 4096 → IsRequest words
light_fits words light some few = let l = light.1 in record { some = some; fits = record { few = few; short = light.0; small = omega (arith, l, few) } }

-- a deadline that is kept is said in two small words

small_deadline : (deadline : Option ℕ) → is_kept_deadline deadline ≡ true → AreSmall (deadline_words deadline)
small_deadline None kept = tt
small_deadline (Some d) kept =
    let most : d ≤ 18446744073709551615 = leb-true d 18446744073709551615 kept in
    (small (codes "AT") refl, (small_decimal d (omega (arith, most)), tt))

-- in the place of EX and its seconds
same_count : (now : ℕ) (after_ex : Option ℕ) → length (deadline_words (deadline_after now after_ex)) ≡ ex_count after_ex
same_count now None = refl
same_count now (Some s) = refl

-- a record whose words are few and light
fits_light : (words : List Bytes) (name : Bytes) (deadline : Option ℕ) (normal : List Bytes) → FitsRequest words
    → 2 + length (deadline_words deadline) + length normal ≤ length words → IsName name → is_kept_deadline deadline ≡ true → AreLight normal
    → IsRequest (codes "SETCHAN" ∷ name ∷ deadline_words deadline ++ normal)
fits_light words name deadline normal request few named kept light =
    let most = request.few in
    let n = length-append (deadline_words deadline) normal in
    light_fits (codes "SETCHAN" ∷ name ∷ deadline_words deadline ++ normal)
    (light_append (codes "SETCHAN" ∷ name ∷ deadline_words deadline) normal (small (codes "SETCHAN") refl, (small_name name named, small_deadline deadline kept)) light)
    (omega arith) (omega (arith, few, most, n))

module _ (normal : SettingsAreNormal) (words : List Bytes) (c : Channel) (after_ex : Option ℕ) (request : FitsRequest words) (now : ℕ)
    (kept : is_kept_deadline (deadline_after now after_ex) ≡ true) where
  abbrev deadline : Option ℕ
  deadline = deadline_after now after_ex

  given : (a : Area) → table.command_spelled words ≡ Some (command.Channel (of_channel.Setchan c (Some (Given a)) after_ex)) → IsRecorded (SetChan (until deadline c))
  given a e =
      let is = spelled_within words (command.Channel (of_channel.Setchan c (Some (Given a)) after_ex)) request.short e in
      let le = is.0 in
      let n = same_count now after_ex in
      record {
        read_back = channel_back deadline c a (and_from (is_name c.name) (is_kept_deadline deadline) is.1 kept) (normal.given words c a after_ex e);
        fits = fits_light words c.name deadline c.words request (omega (arith, le, n)) is.1 kept is.2;
      }

  near : table.command_spelled words ≡ Some (command.Channel (of_channel.Setchan c None after_ex)) → IsRecorded (SetChan (until deadline c))
  near e =
      let is = spelled_within words (command.Channel (of_channel.Setchan c None after_ex)) request.short e in
      let le = is.0 in
      let n = same_count now after_ex in
      record {
        read_back = near_back deadline c (and_from (is_name c.name) (is_kept_deadline deadline) is.1 kept) (normal.near words c after_ex e);
        fits = fits_light words c.name deadline c.words request (omega (arith, le, n)) is.1 kept is.2;
      }

  stored : (key id text : Bytes) (shape : Shape) → table.command_spelled words ≡ Some (command.Channel (of_channel.Setchan c (Some (Of key id)) after_ex))
      → shape_of text ≡ Ok shape → length text ≤ max_word
      → IsRecorded (SetChan (until deadline (settled_channel c (Figure shape) (codes "OBJECT" ∷ text ∷ []))))
  stored key id text shape e accepted_as short =
      let is = spelled_within words (command.Channel (of_channel.Setchan c (Some (Of key id)) after_ex)) request.short e in
      let le = is.0 in
      let n = same_count now after_ex in
      let given = codes "OBJECT" ∷ text ∷ [] in
      let m = length-append c.words given in
      record {
        read_back = channel_back deadline (settled_channel c (Figure shape) given) (Figure shape)
            (and_from (is_name c.name) (is_kept_deadline deadline) is.1 kept) (normal.stored words c after_ex key id text shape e accepted_as);
        fits = fits_light words c.name deadline (c.words ++ given) request (omega (arith, le, n, m)) is.1 kept
            (light_append c.words given is.2 (light_text (codes "OBJECT") text (small (codes "OBJECT") refl) short));
      }

-- the setting that the words of a request ask for, at a moment
pub recordable : SettingsAreNormal → (words : List Bytes) → FitsRequest words → (c : Channel) (from : Option AreaWords) (after_ex : Option ℕ)
    → table.command_spelled words ≡ Some (command.Channel (of_channel.Setchan c from after_ex)) → (now : ℕ) → IsRecordableAt now after_ex c from
recordable normal words fits c None after_ex e now = λ kept. near normal words c after_ex fits now kept e
recordable normal words fits c (Some (Given a)) after_ex e now = λ kept.
    let d = until (deadline_after now after_ex) c in
    let stands = ap (λ (w : Watch). record d { fence = record d.fence { watch = w } }) (area_stands words c a after_ex e) in
    subst (λ (x : Channel). IsRecorded (SetChan x)) (sym (bare_settled d a ∙ stands)) (given normal words c after_ex fits now kept a e)
recordable normal words fits c (Some (Of key id)) after_ex e now = λ kept text shape accepted_as short.
    stored normal words c after_ex fits now kept key id text shape e accepted_as short
