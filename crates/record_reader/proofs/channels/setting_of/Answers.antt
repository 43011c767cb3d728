use Rattle.std.proofs.Common.{◌≡◌, ◌∷◌, List, ℕ, Some, None, Ok, codes, ap, subst, ◌∙◌}
use Rattle.std.specs.Prelude.{Option}
use Rattle.std.proofs.lemmas.Result.{err_from_is_err_and}
use Rattle.record_reader.specs.Reading.{ReadsDeadline, undated}
use Rattle.record_reader.proofs.Settings.{no_channel, deadline_refused, all_words, setting_read}
use Rattle.record_reader.proofs.channels.setting_of.Goals as goal

abbrev with_name : (words reader behind : List (List ℕ)) (name : List ℕ) → words ≡ codes "SETCHAN" ∷ reader → reader ≡ name ∷ behind
    → words ≡ codes "SETCHAN" ∷ name ∷ behind
with_name words reader behind name is named = is ∙ ap (λ (l : List (List ℕ)). codes "SETCHAN" ∷ l) named

pub returns-in_default : goal.returns-in_default
returns-in_default c = no_channel c.args.words.now c.args.reader.now c.requires c.in_default.ensures.1

pub returns-in_err-deadline : goal.returns-in_err-deadline
returns-in_err-deadline c =
    let p = err_from_is_err_and c.from_residual.result c.from_residual.ensures.1 in
    let words = with_name c.args.words.now c.args.reader.now c.next.new.self c.in-Some.name.now c.requires c.in-Some.ensures in
    rw (p.1, p.2) (deadline_refused c.args.words.now c.in-Some.name.now c.next.new.self c.deadline.new.self _ words c.in_err-deadline.ensures)

pub setting_by-requires-in-Some-deadline : goal.setting_by-requires-in-Some-deadline
setting_by-requires-in-Some-deadline c =
    let words = with_name c.args.words.now c.args.reader.now c.next.new.self c.in-Some.name.now c.requires c.in-Some.ensures in
    let read = subst (λ (d : Option ℕ). ReadsDeadline c.next.new.self c.deadline.new.self (Ok d)) c.in-Some-deadline.is c.in_ok-deadline.ensures in
    let all = all_words c.args.words.now c.in-Some.name.now c.next.new.self c.deadline.new.self words (Some c.in-Some-deadline.moment) read in
    record { spelled = c.in-Ok.ensures ∙ ap undated all; kept = read.1 }

pub returns-in-None : goal.returns-in-None
returns-in-None c =
    let words = with_name c.args.words.now c.args.reader.now c.next.new.self c.in-Some.name.now c.requires c.in-Some.ensures in
    let read = subst (λ (d : Option ℕ). ReadsDeadline c.next.new.self c.deadline.new.self (Ok d)) c.in-None.is c.in_ok-deadline.ensures in
    setting_read c.args.words.now c.in-Some.name.now c.next.new.self c.deadline.new.self words None read c.setting_by.result c.setting_by.ensures

pub returns-in-Ok : goal.returns-in-Ok
returns-in-Ok c =
    let words = with_name c.args.words.now c.args.reader.now c.next.new.self c.in-Some.name.now c.requires c.in-Some.ensures in
    let read = subst (λ (d : Option ℕ). ReadsDeadline c.next.new.self c.deadline.new.self (Ok d)) c.in-Some-deadline.is c.in_ok-deadline.ensures in
    setting_read c.args.words.now c.in-Some.name.now c.next.new.self c.deadline.new.self words (Some c.in-Some-deadline.moment) read
    c.setting_by-in-Some-deadline.result c.setting_by-in-Some-deadline.ensures
