use Rattle.std.proofs.Common.{◌≡◌, ℕ, List, subst, sym, arith}
use Rattle.std.specs.Prelude.{Option, Some, None}
use Rattle.byte_text.specs.Names.{Bytes}
use Rattle.resp_frames.specs.RequestReader.{IsFed, IsNotFed}
use Rattle.resp_frames.specs.declared.faults.FeedFault.{FeedFault}
use Rattle.log_record.specs.Versions.{change_of_version}
use Rattle.world_recovery.specs.Replayed.{Replayed, StandsFor, IsNoRecord}
use Rattle.world_recovery.proofs.Feeding.{begins_fed, begins_not_fed, fed_some, fed_within, fed_request, fed_on, fed_record, fed_no_record, not_fed, not_dead}
use Rattle.world_recovery.proofs.world_replays.WorldReplay.take_next.Goals as goal

pub invariant_of-self : goal.invariant_of-self
invariant_of-self c = begins_not_fed c.self.inside.records c.feed.new.self c.args.bytes.now _ c.in-Err-Memory.ensures.fault c.self.invariant

pub invariant_of-self-in-Err-Broken : goal.invariant_of-self-in-Err-Broken
invariant_of-self-in-Err-Broken c = begins_not_fed c.self.inside.records c.feed.new.self c.args.bytes.now _ c.in-Err-Broken.ensures.fault c.self.invariant

pub invariant_of-self-in-Err-Dead : goal.invariant_of-self-in-Err-Dead
invariant_of-self-in-Err-Dead c = begins_not_fed c.self.inside.records c.feed.new.self c.args.bytes.now _ c.in-Err-Dead.ensures.fault c.self.invariant

pub returns-in-Err-Broken-clause-refused : goal.returns-in-Err-Broken-clause-refused
returns-in-Err-Broken-clause-refused c = λ v batches part stands at is.
    let s = c.self.inside in
    let here = subst (λ (r : Replayed). StandsFor r v batches part) (sym c.self.view_is) stands in
    let fault = subst (λ (f : FeedFault). IsNotFed s.records c.feed.new.self c.args.bytes.now f) c.in-Err-Broken.field-0-is c.in-Err-Broken.ensures.fault in
    let same : s.place ≡ at = cc is in
    subst (IsNoRecord v _) same (not_fed v s.world s.records c.feed.new.self s.taken s.place batches part c.args.bytes.now _ here.1 fault c.requests_are_read.ensures.broken)

pub returns-in-Err-Dead-clause-refused : goal.returns-in-Err-Dead-clause-refused
returns-in-Err-Dead-clause-refused c = λ v batches part stands at is.
    let s = c.self.inside in
    let here = subst (λ (r : Replayed). StandsFor r v batches part) (sym c.self.view_is) stands in
    let fault = subst (λ (f : FeedFault). IsNotFed s.records c.feed.new.self c.args.bytes.now f) c.in-Err-Dead.field-0-is c.in-Err-Dead.ensures.fault in
    absurd (not_dead v s.world s.records c.feed.new.self s.taken s.place batches part c.args.bytes.now here.1 fault)

pub invariant_of-self-in_default : goal.invariant_of-self-in_default
invariant_of-self-in_default c = begins_fed c.self.inside.records c.feed.new.self c.args.bytes.now _ _ c.in-Ok.ensures.fed

pub invariant_of-self-in_default-request : goal.invariant_of-self-in_default-request
invariant_of-self-in_default-request c = begins_fed c.self.inside.records c.feed.new.self c.args.bytes.now _ _ c.in-Ok.ensures.fed

pub returns-in_default-request-clause-some : goal.returns-in_default-request-clause-some
returns-in_default-request-clause-some c = fed_some c.self.inside.records c.feed.new.self c.args.bytes.now _ _ c.self.invariant c.requires c.in-Ok.ensures.fed

pub returns-in_default-request-clause-within : goal.returns-in_default-request-clause-within
returns-in_default-request-clause-within c = fed_within c.self.inside.records c.feed.new.self c.args.bytes.now _ _ c.in-Ok.ensures.fed

pub take_record-requires : goal.take_record-requires
take_record-requires c =
    let fed = subst (λ (o : Option (List Bytes)). IsFed c.self.inside.records c.feed.new.self c.args.bytes.now c.in-Ok.field-0.taken o) c.in-Some-request.is c.in-Ok.ensures.fed in
    fed_request c.self.inside.records c.feed.new.self c.args.bytes.now _ _ fed

pub returns-in-Err-Memory-clause-refused : goal.returns-in-Err-Memory-clause-refused
returns-in-Err-Memory-clause-refused c = λ v batches part stands at is. absurd (cc is)

pub returns-in_default-clause-refused : goal.returns-in_default-clause-refused
returns-in_default-clause-refused c = λ v batches part stands at is. absurd (cc is)

pub returns-in_default-request-clause-took : goal.returns-in_default-request-clause-took
returns-in_default-request-clause-took c = λ v batches part stands.
    let s = c.self.inside in
    let here = subst (λ (r : Replayed). StandsFor r v batches part) (sym c.self.view_is) stands in
    let fed = subst (λ (o : Option (List Bytes)). IsFed s.records c.feed.new.self c.args.bytes.now c.in-Ok.field-0.taken o) c.in_default-request.is c.in-Ok.ensures.fed in
    (here.0, fed_on v s.world s.records c.feed.new.self s.taken s.place batches part c.args.bytes.now c.in-Ok.field-0.taken c.in-Some.end here.1 fed (omega (arith, c.in-Some.ensures)))

pub invariant_of-self-in-Ok-take_record : goal.invariant_of-self-in-Ok-take_record
invariant_of-self-in-Ok-take_record c = begins_fed c.self.inside.records c.feed.new.self c.args.bytes.now _ _ c.in-Ok.ensures.fed

pub invariant_of-self-in-Err : goal.invariant_of-self-in-Err
invariant_of-self-in-Err c = begins_fed c.self.inside.records c.feed.new.self c.args.bytes.now _ _ c.in-Ok.ensures.fed

pub returns-in-Ok-take_record-clause-some : goal.returns-in-Ok-take_record-clause-some
returns-in-Ok-take_record-clause-some c = fed_some c.self.inside.records c.feed.new.self c.args.bytes.now _ _ c.self.invariant c.requires c.in-Ok.ensures.fed

pub returns-in-Ok-take_record-clause-within : goal.returns-in-Ok-take_record-clause-within
returns-in-Ok-take_record-clause-within c = fed_within c.self.inside.records c.feed.new.self c.args.bytes.now _ _ c.in-Ok.ensures.fed

pub returns-in-Ok-take_record-clause-took : goal.returns-in-Ok-take_record-clause-took
returns-in-Ok-take_record-clause-took c = λ v batches part stands.
    let s = c.self.inside in
    let here = subst (λ (r : Replayed). StandsFor r v batches part) (sym c.self.view_is) stands in
    let fed = subst (λ (o : Option (List Bytes)). IsFed s.records c.feed.new.self c.args.bytes.now c.in-Ok.field-0.taken o) c.in-Some-request.is c.in-Ok.ensures.fed in
    let folded = c.in-Ok-take_record.ensures.folded in
    let of = subst (λ (k : ℕ). change_of_version k c.in-Some-request.words ≡ Some folded.0) here.0 folded.1 in (
      here.0,
      fed_record v s.world s.records c.feed.new.self s.taken s.place batches part c.args.bytes.now c.in-Ok.field-0.taken c.in-Some.end c.in-Some-request.words folded.0 c.take_record.new.world here.1 fed of folded.2
          (omega (arith, c.in-Some.ensures)),
    )

pub returns-clause-refused : goal.returns-clause-refused
returns-clause-refused c = λ v batches part stands at is.
    let s = c.self.inside in
    let here = subst (λ (r : Replayed). StandsFor r v batches part) (sym c.self.view_is) stands in
    let fed = subst (λ (o : Option (List Bytes)). IsFed s.records c.feed.new.self c.args.bytes.now c.in-Ok.field-0.taken o) c.in-Some-request.is c.in-Ok.ensures.fed in
    let refused = c.in-Err.ensures.refused at is in
    let none = subst (λ (k : ℕ). change_of_version k c.in-Some-request.words ≡ None) here.0 refused.1 in
    subst (IsNoRecord v _) (sym refused.0) (fed_no_record v s.world s.records c.feed.new.self s.taken s.place batches part c.args.bytes.now c.in-Ok.field-0.taken c.in-Some-request.words here.1 fed none)
