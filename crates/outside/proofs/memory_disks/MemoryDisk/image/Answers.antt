use Rattle.std.proofs.Common.{◌≡◌, ◌≤◌, ◌∙◌, ℕ, List, [], length, take, reverse, sym, ap, subst, arith}
use Rattle.std.proofs.lemmas.List.{reverse-reverse, length-reverse}
use Rattle.outside.specs.declared.disk_calls.Call.{Call}
use Rattle.outside.specs.Sides.{Sides}
use Rattle.outside.specs.DiskCalls.{Remembered, IsImage, calls_until, chosen}
use Rattle.outside.proofs.Choosing.{chosen_after, calls_until-reverse}
use Rattle.outside.proofs.memory_disks.MemoryDisk.image.Goals as goal

pub returns-clause-chosen : goal.returns-clause-chosen
returns-clause-chosen c =
    let items = c.self.inside.calls.items in
    let same_start : c.self.inside.first ≡ c.args.self.now.start = ap (λ (d : Remembered). d.start) c.self.view_is in
    let same_calls : reverse items ≡ c.args.self.now.calls = ap (λ (d : Remembered). d.calls) c.self.view_is in
    let within : c.args.moment ≤ length items = omega (arith, c.requires, ap length same_calls, length-reverse items) in
    let first : take c.args.moment items ≡ reverse (calls_until c.args.moment c.args.self.now.calls) = sym (ap (λ (l : List Call). reverse (calls_until c.args.moment l)) (sym same_calls) ∙ ap (λ (l : List Call). reverse l) (calls_until-reverse c.args.moment items within) ∙ reverse-reverse (take c.args.moment items)) in
    let contents : c.in_ok-contents.contents ≡ chosen c.args.self.now.start (reverse (calls_until c.args.moment c.args.self.now.calls)) c.args.choice =
    c.in_ok-contents.ensures ∙ ap (λ (s : Sides). chosen s (take c.args.moment c.deref.result.now) c.args.choice) same_start ∙ ap (λ (l : List Call). chosen c.args.self.now.start l c.args.choice) (ap (λ (l : List Call). take c.args.moment l) c.deref.ensures.value ∙ first) in
    c.over.ensures ∙ ap (λ (s : Sides). record { start = s; calls = []; failing = c.new.result.items; made = 0; faults = 0 }) contents ∙ ap (λ (l : List ℕ). record { start = chosen c.args.self.now.start (reverse (calls_until c.args.moment c.args.self.now.calls)) c.args.choice; calls = []; failing = l; made = 0; faults = 0 }) c.new.ensures.items

pub returns-clause-image : goal.returns-clause-image
returns-clause-image c =
    let now = c.args.self.now in
    subst (λ (s : Sides). IsImage now.start (calls_until c.args.moment now.calls) s) (sym (ap (λ (d : Remembered). d.start) (returns-clause-chosen c))) (chosen_after now.start (calls_until c.args.moment now.calls) c.args.choice)

pub returns-clause-since : goal.returns-clause-since
returns-clause-since c = record { moment = c.args.moment; since = omega arith; until = c.requires; image = returns-clause-image c }
