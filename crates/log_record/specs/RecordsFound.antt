-- What is read as records is their text.
use Rattle.std.proofs.Common.{◌≡◌, ℕ, zero, suc, ◌+◌, ◌-◌, List, [], ◌∷◌, ◌++◌, length, Option, Some, None, Result, Ok, Err, option_map, refl, sym}
use Rattle.std.proofs.Common.{ap, subst, ◌∙◌}
use Rattle.std.specs.List.{AllByRecursion}
use Rattle.byte_text.specs.Names.{Bytes}
use Rattle.byte_text.specs.Requests.{IsRequest, request_text}
use Rattle.byte_text.specs.Streams.{Front, found, begun, broken, request}
use Rattle.byte_text.specs.StreamFound.{request_found}
use Rattle.world_data.specs.Records.{record_writer}
use Rattle.world_data.specs.declared.worlds.Change.{Change}
use Rattle.log_record.specs.Words.{change_of_words}
use Rattle.log_record.specs.Versions.{change_of_version, IsRecordedIn}
use Rattle.log_record.specs.VersionLaws.{version_read}
use Rattle.log_record.specs.Batches.{records_text, record_front, with_record, records_behind, first_records, records_in}
use Rattle.log_record.specs.RecordsRead.{record_read}

abbrev IsText : ℕ → Bytes → List Change → Type 0
IsText v bytes changes = AllByRecursion (IsRecordedIn v) changes × (bytes ≡ records_text changes)

abbrev fine : List Change → Result (List Change) ℕ
fine cs = Ok cs

ok_is : (cs ds : List Change) → fine cs ≡ fine ds → cs ≡ ds
ok_is cs ds e = cc e

err_not : (at : ℕ) (cs : List Change) → Err at ≡ Ok cs → ⊥
err_not at cs e = cc e

-- what words are the record of has a record
pub is_recorded : (v : ℕ) (words : List Bytes) (c : Change) → IsRequest words → change_of_version v words ≡ Some c → IsRecordedIn v c
is_recorded v words c fits e =
    let read = version_read v words c e in
    let is = (record_read words c read.0).0 in
    record {
      recorded = record { read_back = ap change_of_words is ∙ read.0; fits = subst IsRequest (sym is) fits };
      said = read.1;
    }

text_is : (v : ℕ) (words : List Bytes) (c : Change) → change_of_version v words ≡ Some c → request_text words ≡ record_writer c
text_is v words c e = ap request_text (sym (record_read words c (version_read v words c e).0).0)

by_rest : (v : ℕ) (bytes behind : Bytes) (c : Change) (cs : List Change) (r : Result (List Change) ℕ) → IsRecordedIn v c
    → bytes ≡ record_writer c ++ behind → ((ds : List Change) → r ≡ Ok ds → IsText v behind ds) → with_record c r ≡ Ok cs → IsText v bytes cs
by_rest v bytes behind c cs (Ok ds) is text ih e = let rest = ih ds refl in
    subst (IsText v bytes) (ok_is (c ∷ ds) cs e) ((is, rest.0), text ∙ ap (λ (l : Bytes). record_writer c ++ l) rest.1)
by_rest v bytes behind c cs (Err at) is text ih e = absurd (err_not at cs e)

by_change : (v at : ℕ) (bytes behind : Bytes) (words : List Bytes) (cs : List Change) (next : ℕ → Bytes → Result (List Change) ℕ) (o : Option Change)
    → change_of_version v words ≡ o → IsRequest words → bytes ≡ request_text words ++ behind
    → ((k : ℕ) (ds : List Change) → next k behind ≡ Ok ds → IsText v behind ds)
    → records_behind at bytes (option_map (λ (c : Change). (c, behind)) o) next ≡ Ok cs → IsText v bytes cs
by_change v at bytes behind words cs next None is fits text ih e = absurd (err_not at cs e)
by_change v at bytes behind words cs next (Some c) is fits text ih e =
    let k = at + (length bytes - length behind) in
    by_rest v bytes behind c cs (next k behind) (is_recorded v words c fits is) (text ∙ ap (λ (l : Bytes). l ++ behind) (text_is v words c is)) (ih k) e

by_front : (v at : ℕ) (bytes : Bytes) (cs : List Change) (next : ℕ → Bytes → Result (List Change) ℕ) (x : Front (List Bytes)) → request bytes ≡ x
    → ((k : ℕ) (behind : Bytes) (ds : List Change) → next k behind ≡ Ok ds → IsText v behind ds)
    → records_behind at bytes (record_front v x) next ≡ Ok cs → IsText v bytes cs
by_front v at bytes cs next (found words behind) is ih e =
    let read = request_found bytes words behind is in
    by_change v at bytes behind words cs next (change_of_version v words) refl read.0 read.1 (λ k. ih k behind) e
by_front v at bytes cs next begun is ih e = absurd (err_not at cs e)
by_front v at bytes cs next (broken fault) is ih e = absurd (err_not at cs e)

first_found : (v n at : ℕ) (bytes : Bytes) (cs : List Change) → first_records v n at bytes ≡ Ok cs → IsText v bytes cs
first_found v zero at [] cs e = subst (IsText v []) (ok_is [] cs e) (tt, refl)
first_found v (suc n) at [] cs e = subst (IsText v []) (ok_is [] cs e) (tt, refl)
first_found v zero at (b ∷ bytes) cs e = absurd (err_not at cs e)
first_found v (suc n) at (b ∷ bytes) cs e = by_front v at (b ∷ bytes) cs (first_records v n) (request (b ∷ bytes)) refl (first_found v n) e

-- what is read as records of a version is the text of changes that have records in it
pub records_found : (v at : ℕ) (bytes : Bytes) (cs : List Change) → records_in v at bytes ≡ Ok cs
    → AllByRecursion (IsRecordedIn v) cs × (bytes ≡ records_text cs)
unfolding records_in
records_found v at bytes cs e = first_found v (length bytes) at bytes cs e
