-- The objects and channels of a world that recorded changes made have records.
use Rattle.std.proofs.Common.{◌≡◌, ℕ, not, List, [], ◌∷◌, length, flat_map, Some, ap, sym, subst, arith}
use Rattle.std.specs.List.{AllByRecursion}
use Rattle.byte_text.specs.Names.{Bytes}
use Rattle.ordered_lists.specs.Reading.{each-append, each-filter}
use Rattle.ordered_lists.specs.Ascending.{each-put_in}
use Rattle.world_data.specs.Worlds.{after, empty_world, object_before, channel_before, is_at, has_key, is_named}
use Rattle.world_data.specs.declared.objects.Object.{Object}
use Rattle.world_data.specs.declared.channels.Channel.{Channel}
use Rattle.world_data.specs.declared.worlds.Change.{Change}
use Rattle.world_data.specs.declared.worlds.World.{World}
use Rattle.world_data.specs.declared.worlds.Change.TheVariants.{Put, Del, Drop, Flush, SetChan, DelChan}
use Rattle.journal.specs.Openings.{AreWhole}
use Rattle.byte_text.specs.Requests.{IsRequest}
use Rattle.log_record.specs.Words.{IsRecorded}
use Rattle.log_record.specs.Versions.{IsRecordedIn, change_of_version}
use Rattle.log_record.specs.VersionLaws.{recorded_any, version_read}
use Rattle.log_record.specs.RecordsRead.{record_read}
use Rattle.record_writer.specs.LengthLaws.{put_count}
use Rattle.world_store.specs.Stored.{HasFew}
use Rattle.log_record.specs.Folding.{folded}
use Rattle.log_record.specs.RecordsFound.{records_found}
use Rattle.world_recovery.specs.BatchesHeld.{read_whole}
use Rattle.log_record.specs.Batches.{records_in}
use Rattle.world_recovery.specs.Recorded.{record_fault, changes_in, world_in}
use Rattle.world_recovery.specs.Opened.{AreRecorded}

abbrev has_record : Object → Type 0
has_record o = IsRecorded (Put o)

abbrev channel_has : Channel → Type 0
channel_has c = IsRecorded (SetChan c)

after_one : (w : World) (c : Change) → IsRecorded c → AreRecorded w → AreRecorded (after w c)
after_one w (Put o) is are = record { objects = each-put_in has_record object_before o w.objects is are.objects; channels = are.channels }
after_one w (Del key id) is are = record { objects = each-filter has_record (λ o. not (is_at key id o)) w.objects are.objects; channels = are.channels }
after_one w (Drop key) is are = record { objects = each-filter has_record (λ o. not (has_key key o)) w.objects are.objects; channels = are.channels }
after_one w Flush is are = record { objects = tt; channels = tt }
after_one w (SetChan c) is are = record { objects = are.objects; channels = each-put_in channel_has channel_before c w.channels is are.channels }
after_one w (DelChan name) is are = record { objects = are.objects; channels = each-filter channel_has (λ c. not (is_named name c)) w.channels are.channels }

after_each : (w : World) (changes : List Change) → AllByRecursion IsRecorded changes → AreRecorded w → AreRecorded (folded w changes)
after_each w [] are rest = rest
after_each w (c ∷ changes) are rest = after_each (after w c) changes are.1 (after_one w c are.0 rest)

all_recorded : (v : ℕ) (batches : List Bytes) → AreWhole (record_fault v) batches → AllByRecursion (IsRecordedIn v) (flat_map (changes_in v) batches)
all_recorded v [] whole = tt
all_recorded v (batch ∷ batches) whole =
    let one = records_found v 0 batch (changes_in v batch) (read_whole (records_in v 0 batch) whole.0) in
    each-append (IsRecordedIn v) (changes_in v batch) (flat_map (changes_in v) batches) one.0 (all_recorded v batches whole.1)

pub world_recorded : (v : ℕ) (batches : List Bytes) (w : World) → AreWhole (record_fault v) batches → w ≡ world_in v batches → AreRecorded w
world_recorded v batches w whole is =
    let changes = flat_map (changes_in v) batches in
    subst AreRecorded (sym is) (after_each empty_world changes (recorded_any v changes (all_recorded v batches whole)) (record { objects = tt; channels = tt }))

-- what a record puts has no more fields than a request has words
pub few_of : (v : ℕ) (words : List Bytes) (c : Change) → IsRequest words → change_of_version v words ≡ Some c → HasFew c
few_of v words (Put o) is read =
    let same = ap (λ (l : List Bytes). length l) (record_read words (Put o) (version_read v words (Put o) read).0).0 in
    omega (arith, put_count o, same, is.fits.few)
few_of v words (Del key id) is read = tt
few_of v words (Drop key) is read = tt
few_of v words Flush is read = tt
few_of v words (SetChan c) is read = tt
few_of v words (DelChan name) is read = tt
