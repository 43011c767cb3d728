use Rattle.std.proofs.Common.{◌≡◌, ◌++◌, Some, rules, sym, subst}
use Rattle.resp_frames.specs.declared.request_places.Place.TheVariants.{Star}
use Rattle.resp_frames.specs.RequestReader.{IsReader, IsFed}
use Rattle.resp_frames.proofs.ReaderLaws.{reader_begins, ended_text, fed_on, fed_whole}
use Rattle.resp_frames.proofs.request_reader.Requests.go_on.Goals as goal

pub finish-requires : goal.finish-requires
finish-requires c =
    ended_text c.requests_are_read.ensures.found c.self.inside.place c.self.inside.held.items c.args.piece.now c.args.self.now c.in-Some.place c.in-Whole.taken
    (record { is = c.in-Some.is; value_is = c.self.view_is; reader = c.self.invariant }) c.in-Whole.ensures

pub invariant_of-self-in-Ok : goal.invariant_of-self-in-Ok
invariant_of-self-in-Ok c = subst (λ held. IsReader (Some Star) held) (sym c.in-Ok.ensures.ok) reader_begins

pub returns-else-is_err-clause-fed : goal.returns-else-is_err-clause-fed
returns-else-is_err-clause-fed c =
    let grown : c.extend_from_slice.new.self.items ≡ c.self.inside.held.items ++ c.args.piece.now = search rules in
    fed_on c.self.inside.place c.self.inside.held.items c.extend_from_slice.new.self.items c.args.piece.now c.args.self.now c.in-Some.place c.in-Goes.next
    (record { is = c.in-Some.is; value_is = c.self.view_is; reader = c.self.invariant }) c.in-Goes.ensures grown

pub returns-in-Ok-clause-fed : goal.returns-in-Ok-clause-fed
returns-in-Ok-clause-fed c =
    subst (λ held. IsFed c.args.self.now (Some held) c.args.piece.now c.in-Whole.taken (Some c.in-Ok.request)) (sym c.in-Ok.ensures.ok)
    (fed_whole c.requests_are_read.ensures.text c.self.inside.place c.self.inside.held.items c.args.piece.now c.args.self.now c.in-Some.place c.in-Whole.taken c.in-Ok.request
    (record { is = c.in-Some.is; value_is = c.self.view_is; reader = c.self.invariant }) c.in-Whole.ensures c.in-Ok.ensures.read.0 c.in-Ok.ensures.read.1)
