-- What a ledger takes of a call.
use Rattle.std.specs.Prelude.{◌≡◌, List, [], ◌++◌, map, Option, Some, None}
use Rattle.std.specs.List.{AllByRecursion}
use Rattle.byte_text.specs.Names.{Bytes}
use Rattle.world_data.specs.Records.{record_writer}
use Rattle.world_data.specs.declared.worlds.Change.{Change}
use Rattle.world_data.specs.Expiry.{in_turn}
use Rattle.world_data.specs.declared.channels.Channel.{Channel}
use Rattle.fence_model.specs.Writes.{Write, going}
use Rattle.world_model.specs.Halls.{Hall}
use Rattle.world_model.specs.declared.events.Event.{Event}
use Rattle.log_record.specs.Batches.{records_text}
use Rattle.log_record.specs.EventWrites.{changes_of, writes_of}
use Rattle.log_record.specs.Words.{IsRecorded}
use Rattle.channel_plans.specs.declared.planned.Planned.{Planned}
use Rattle.channel_plans.specs.declared.planned.Planned.TheVariants.{Objects, Channels, Subscribed}
use Rattle.tile_core.specs.declared.ready.Ready.{Ready}
use Rattle.object_plans.specs.Moves.{HoldsOfPut, IsAccepted}
use Rattle.channel_plans.specs.Planned.{IsRecordedMove}
use Rattle.tile_core.specs.Ready.{planned_writes}

-- a ledger took the records of the writes that an event makes, each of which is read back from its record
pub record IsRecordedBy {L : Type 0} (takes : L → Bytes → L → Type 0) (h : Hall) (event : Event) (old new : L) : Type 0 where
  pub took : takes old (records_text (changes_of (writes_of h event))) new
  pub recorded : AllByRecursion IsRecorded (changes_of (writes_of h event))

-- it took the records of these writes
pub record AreTaken {L : Type 0} (takes : L → Bytes → L → Type 0) (writes : List Write) (old new : L) : Type 0 where
  pub took : takes old (records_text (changes_of writes)) new
  pub recorded : AllByRecursion IsRecorded (changes_of writes)

-- the record of a change is appended to a text, and the change is read back from it
pub record IsPushed (change : Change) (old new : Bytes) : Type 0 where
  pub text : new ≡ old ++ record_writer change
  pub recorded : IsRecorded change

-- the records of these writes are appended to a text
pub record ArePushed (writes : List Write) (old new : Bytes) : Type 0 where
  pub text : new ≡ old ++ records_text (changes_of writes)
  pub recorded : AllByRecursion IsRecorded (changes_of writes)

-- with the records of the writes that are left appended behind, those of all are appended to the text that was there
abbrev pub ArePushedUpTo : List Write → List Write → Bytes → Bytes → Type 0
ArePushedUpTo all left old now = (new : Bytes) → ArePushed left now new → ArePushed all old new

-- what is put is read back from its record
abbrev pub CanRecord : Planned → Type 0
CanRecord (Objects p) = HoldsOfPut IsAccepted p.action
CanRecord (Channels p) = IsRecordedMove p.action
CanRecord (Subscribed p) = Unit {0}

abbrev pub CanRecordIf : Option Planned → Type 0
CanRecordIf None = Unit {0}
CanRecordIf (Some p) = CanRecord p

abbrev pub writes_if : Option Planned → List Write
writes_if None = []
writes_if (Some p) = planned_writes p

-- the writes of what was made ready, where these channels are out: what goes by its deadline, and what is planned
abbrev pub ready_writes : List Channel → Ready → List Write
ready_writes out r = map going (in_turn r.gone.held.items out) ++ writes_if r.planned
