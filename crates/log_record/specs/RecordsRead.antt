-- Records are read back.
use Rattle.std.proofs.Common.{arith, ◌≡◌, ℕ, ℤ, pos, negsuc, ◌≤◌, ◌&&◌, Bool, true, false, List, [], ◌∷◌, Option, Some, None, Result, Ok, Err, codes}
use Rattle.std.proofs.Common.{refl, ap, subst, ◌∙◌, int_le, if◌then◌else◌, IfSome}
use Rattle.std.specs.Int.{w64}
use Rattle.std.proofs.lemmas.Bool.{leb-true}
use Rattle.byte_text.specs.Names.{Bytes, same}
use Rattle.byte_text.specs.ByteOrder.{same_equal, same_refl}
use mir.Val.{SFits as FitsSigned}
use Rattle.geo_text.specs.Texts.{Shape, shape_of}
use Rattle.geo_text.specs.declared.faults.GeoFault.{GeoFault}
use Rattle.world_data.specs.Filters.{Field}
use Rattle.world_data.specs.Records.{record_reader, is_kept}
use Rattle.world_model.specs.Commands.{command_spelled}
use Rattle.world_data.specs.Sound.{is_sound_channel, is_sound_area}
use Rattle.world_model.specs.Sound.{IsSoundCommand, takes_areas}
use Rattle.world_model.specs.SoundLaws.{spellings_are_sound}
use Rattle.world_data.specs.declared.worlds.Change.{Change}
use Rattle.world_model.specs.declared.search_commands.AreaWords.TheVariants.{Given}
use Rattle.world_model.specs.declared.commands.Command.{Command}
use Rattle.world_model.specs.declared.commands.Command.TheVariants as command
use Rattle.world_model.specs.declared.channel_commands.ChannelCommand.TheVariants as of_channel
use Rattle.log_record.specs.Words.{fields_front, deadline_front, put_with, put_text, put_of, del_of, drop_of, flush_of, delchan_of, settled}
use Rattle.log_record.specs.Words.{setchan_of, could_be, same_words, if_recorded, change_of_words, HasShape}

-- tests

pub first : (a b : Bool) → (a && b) ≡ true → a ≡ true
first true b e = refl
first false b e = absurd (cc e)

pub second : (a b : Bool) → (a && b) ≡ true → b ≡ true
second true b e = e
second false b e = absurd (cc e)

by_test : {A : Type 0} (P : A → Type 0) (b : Bool) (x y : A) → P x → P y → P (if b then x else y)
by_test P true x y p q = p
by_test P false x y p q = q

words_are_same : (v w : List Bytes) → same_words v w ≡ true → v ≡ w
words_are_same [] [] e = refl
words_are_same [] (w ∷ ws) e = absurd (cc e)
words_are_same (v ∷ vs) [] e = absurd (cc e)
words_are_same (v ∷ vs) (w ∷ ws) e =
    let h = same_equal v w (first (same v w) (same_words vs ws) e) in
    let t = words_are_same vs ws (second (same v w) (same_words vs ws) e) in
    ap (λ x. x ∷ vs) h ∙ ap (λ xs. w ∷ xs) t

pub same_are_words : (w : List Bytes) → same_words w w ≡ true
same_are_words [] = refl
same_are_words (w ∷ ws) = rw (same_refl w) (same_are_words ws)

-- what is read is the record of what it is read as, and is kept

recorded_of : (words : List Bytes) (d c : Change) (b : Bool) → (same_words (record_reader d) words && is_kept d) ≡ b
    → (if b then Some d else None) ≡ Some c → (d ≡ c) × (same_words (record_reader d) words ≡ true) × (is_kept d ≡ true)
recorded_of words d c true test e =
    ((cc e), first (same_words (record_reader d) words) (is_kept d) test, second (same_words (record_reader d) words) (is_kept d) test)
recorded_of words d c false test e = absurd (cc e)

recorded : (words : List Bytes) (x : Option Change) (c : Change) → if_recorded words x ≡ Some c
    → (x ≡ Some c) × (record_reader c ≡ words) × (is_kept c ≡ true)
recorded words None c e = absurd (cc e)
recorded words (Some d) c e = let found = recorded_of words d c (same_words (record_reader d) words && is_kept d) refl e in (
  ap Some found.0,
  words_are_same (record_reader c) words (subst (λ x. same_words (record_reader x) words ≡ true) found.0 found.1),
  subst (λ x. is_kept x ≡ true) found.0 found.2,
)

-- the text of an object has its shape, and a channel is sound

shaped_put : (key id text : Bytes) (fields : List Field) (deadline : Option ℕ) (r : Result Shape GeoFault) → shape_of text ≡ r
    → IfSome (put_with key id fields deadline text r) HasShape
shaped_put key id text fields deadline (Ok shape) e = e
shaped_put key id text fields deadline (Err fault) e = tt

shaped_text : (key id : Bytes) (fields : List Field) (deadline : Option ℕ) (words : List Bytes)
    → IfSome (put_text key id fields deadline words) HasShape
shaped_text key id fields deadline (called ∷ text ∷ []) = shaped_put key id text fields deadline (shape_of text) refl
shaped_text key id fields deadline words = tt

shaped_of : (words : List Bytes) → IfSome (put_of words) HasShape
shaped_of (key ∷ id ∷ words) = shaped_text key id (fields_front words).0 (deadline_front (fields_front words).1).0
    (deadline_front (fields_front words).1).1
shaped_of words = tt

del_shaped : (words : List Bytes) → IfSome (del_of words) HasShape
del_shaped (key ∷ id ∷ []) = tt
del_shaped words = tt

drop_shaped : (words : List Bytes) → IfSome (drop_of words) HasShape
drop_shaped (key ∷ []) = tt
drop_shaped words = tt

flush_shaped : (words : List Bytes) → IfSome (flush_of words) HasShape
flush_shaped [] = tt
flush_shaped words = tt

delchan_shaped : (words : List Bytes) → IfSome (delchan_of words) HasShape
delchan_shaped (name ∷ []) = tt
delchan_shaped words = tt

settled_sound : (deadline : Option ℕ) (o : Option Command) → IfSome o IsSoundCommand → IfSome (settled deadline o) HasShape
settled_sound deadline (Some (command.Channel (of_channel.Setchan c None after_ex))) sound = sound
settled_sound deadline (Some (command.Channel (of_channel.Setchan c (Some (Given a)) after_ex))) sound =
    first (is_sound_channel c) (is_sound_area a && takes_areas c.fence.watch) sound
settled_sound deadline o sound = tt

spelled_sound : (words : List Bytes) (o : Option Command) → command_spelled words ≡ o → IfSome o IsSoundCommand
spelled_sound words None e = tt
spelled_sound words (Some c) e = spellings_are_sound words c e

setting_sound : (words : List Bytes) → IfSome (setchan_of words) HasShape
setting_sound [] = tt
setting_sound (name ∷ words) =
    let behind = deadline_front words in
    let normal = codes "SETCHAN" ∷ name ∷ behind.1 in
    settled_sound behind.0 (command_spelled normal) (spelled_sound normal (command_spelled normal) refl)

could_be_shaped : (words : List Bytes) → IfSome (could_be words) HasShape
could_be_shaped [] = tt
could_be_shaped (called ∷ words) =
    let P = λ (x : Option Change). IfSome x HasShape in
    by_test P (same called (codes "SET")) (put_of words) _ (shaped_of words)
    (by_test P (same called (codes "DEL")) (del_of words) _ (del_shaped words)
    (by_test P (same called (codes "DROP")) (drop_of words) _ (drop_shaped words)
    (by_test P (same called (codes "FLUSHDB")) (flush_of words) _ (flush_shaped words)
    (by_test P (same called (codes "SETCHAN")) (setchan_of words) _ (setting_sound words)
    (by_test P (same called (codes "DELCHAN")) (delchan_of words) None (delchan_shaped words) tt)))))

pub record_read : (words : List Bytes) (c : Change) → change_of_words words ≡ Some c → (record_reader c ≡ words) × (is_kept c ≡ true) × HasShape c
unfolding change_of_words
record_read words c e = let found = recorded words (could_be words) c e in
    (found.1, found.2, subst (λ (x : Option Change). IfSome x HasShape) found.0 (could_be_shaped words))

-- the other way: what is kept and has its shape is read back

pub fits_of : (z : ℤ) → (int_le (negsuc 9223372036854775807) z && int_le z (pos 9223372036854775807)) ≡ true → FitsSigned w64 z
fits_of (pos n) e = let l : n ≤ 9223372036854775807 = leb-true n 9223372036854775807 (second (int_le (negsuc 9223372036854775807) (pos n)) _ e) in
    record { sfits = omega (arith, l) }
fits_of (negsuc n) e = let l : n ≤ 9223372036854775807 = leb-true n 9223372036854775807
    (first (int_le (negsuc 9223372036854775807) (negsuc n)) _ e) in record { sfits = omega (arith, l) }
