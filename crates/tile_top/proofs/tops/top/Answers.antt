use Rattle.std.proofs.Common.{◌≡◌, true, Some, Option, ℕ, ◌∷◌, ◌∙◌, IfSome, codes, inl, inr, refl, sym, ap, subst, option_map}
use Rattle.std.specs.Prelude.{is_some, map, string_bytes}
use Rattle.outside.specs.Causes.{Rose}
use Rattle.outside.specs.Sides.{Sides}
use Rattle.world_data.specs.declared.worlds.World.{World}
use Rattle.journal.specs.declared.openings.OpenFault.TheVariants as fault_of
use Rattle.serve_run.specs.Ends.{IsEnd, memory_line}
use Rattle.serve_run.specs.Words.{asked_of, begins_to_serve}
use Rattle.shared_hall.specs.Seats.{knows_of}
use Rattle.replay_run.specs.BackLaws.{untouched}
use Rattle.replay_run.specs.HandedBack.{HoldsWorld, IsBackAt}
use Rattle.replay_run.specs.Traces.{opens}
use Rattle.replay_run.specs.Standing.{IsSafeFor}
use Rattle.replay_run.specs.Checks.{IsLookedAt}
use Rattle.replay_run.specs.declared.halts.Halt.{Halt}
use Rattle.tile_top.specs.FollowWords.{follow_of}
use Rattle.tile_top.specs.Follows.{Follows}
use Rattle.tile_top.specs.Loads.{Loads}
use Rattle.tile_top.specs.LoadWords.{load_of}
use Rattle.tile_top.specs.Tops.{IsUsage, Replays}
use Rattle.tile_top.specs.Backtests.{Backtests}
use Rattle.tile_top.specs.Checks.{Checks}
use Rattle.shared_hall.specs.Cores.{tells}
use Rattle.tile_top.proofs.Unfollowed.{alone_unfollowed, begun_unfollowed, follow_unasked, served_unfollowed}
use Rattle.tile_top.proofs.Wanting.{front_wanting, load_unasked, load_wanting, not_alone}
use Rattle.tile_top.proofs.tops.top.Goals as goal

pub returns-in-Ok-None-clause-replay : goal.returns-in-Ok-None-clause-replay
returns-in-Ok-None-clause-replay g c asked =
    let seen = g.D.Disk.seen c.args.disk in
    let p = c.replay_script-scripted in
    let w = c.without_hall-in-Ok-None in
    subst (λ (o : Option g.row.D.Denot). Replays seen (λ (halt : Halt). IfSome o (λ d. IsBackAt g.D.Disk.crashes g.D.Disk.seen g.D.Disk.images g.D.Disk.moment g.D.Disk.left_since c.args.disk d halt))
    (λ (v : World). is_some seen ≡ true → IfSome o (λ d. HoldsWorld (g.D.Disk.seen d) v))
    (λ world logged deeds. (s : Sides) → seen ≡ Some s → g.D.Disk.crashes c.args.disk ≡ true → IfSome o (λ d. IsSafeFor g.D.Disk.images g.D.Disk.left_since d (opens world logged ∷ deeds)))
    (Rose (g.S.Source.faults c.args.source.now) (g.S.Source.faults p.new.source)) (g.S.Source.left c.args.source.now) (g.S.Source.left p.new.source) (g.K.Sink.held c.args.sink.now) (g.K.Sink.held p.new.sink) w.result.status) (sym w.ensures.disk)
    (subst (λ (n : ℕ). Replays seen (IsBackAt g.D.Disk.crashes g.D.Disk.seen g.D.Disk.images g.D.Disk.moment g.D.Disk.left_since c.args.disk p.result.disk)
    (λ (v : World). is_some seen ≡ true → HoldsWorld (g.D.Disk.seen p.result.disk) v)
    (λ world logged deeds. (s : Sides) → seen ≡ Some s → g.D.Disk.crashes c.args.disk ≡ true → IsSafeFor g.D.Disk.images g.D.Disk.left_since p.result.disk (opens world logged ∷ deeds))
    (Rose (g.S.Source.faults c.args.source.now) (g.S.Source.faults p.new.source)) (g.S.Source.left c.args.source.now) (g.S.Source.left p.new.source) (g.K.Sink.held c.args.sink.now) (g.K.Sink.held p.new.sink) n) (sym w.ensures.status) p.ensures.told)

pub returns-in-Ok-None-2-clause-check : goal.returns-in-Ok-None-2-clause-check
returns-in-Ok-None-2-clause-check g c asked =
    let seen = g.D.Disk.seen c.args.disk in
    let p = c.check_disk-scripted in
    let w = c.without_hall-in-Ok-None-2 in
    subst (λ (o : Option g.row.D.Denot). Checks seen (λ (halt : Halt). IfSome o (λ d. IsBackAt g.D.Disk.crashes g.D.Disk.seen g.D.Disk.images g.D.Disk.moment g.D.Disk.left_since c.args.disk d halt))
    (λ world logged generation answered. IfSome o (λ d. IsLookedAt g.D.Disk.crashes g.D.Disk.seen g.D.Disk.images g.D.Disk.moment g.D.Disk.left_since c.args.disk d world logged generation answered))
    (g.K.Sink.held c.args.sink.now) (g.K.Sink.held p.new.sink) w.result.status) (sym w.ensures.disk)
    (subst (λ (n : ℕ). Checks seen (IsBackAt g.D.Disk.crashes g.D.Disk.seen g.D.Disk.images g.D.Disk.moment g.D.Disk.left_since c.args.disk p.result.disk)
    (IsLookedAt g.D.Disk.crashes g.D.Disk.seen g.D.Disk.images g.D.Disk.moment g.D.Disk.left_since c.args.disk p.result.disk)
    (g.K.Sink.held c.args.sink.now) (g.K.Sink.held p.new.sink) n) (sym w.ensures.status) p.ensures.told)

pub returns-in-Ok-None-3-clause-backtest : goal.returns-in-Ok-None-3-clause-backtest
returns-in-Ok-None-3-clause-backtest g c asked =
    let p = c.backtest_disk-scripted in
    subst (λ (n : ℕ). Backtests (g.D.Disk.seen c.args.disk) (g.S.Source.left c.args.source.now) (g.S.Source.left p.new.source) (g.K.Sink.held c.args.sink.now) (g.K.Sink.held p.new.sink) n)
    (sym c.without_hall-in-Ok-None-3.ensures.status) p.ensures.told

pub returns-in-Ok-Some-clause-load : goal.returns-in-Ok-Some-clause-load
returns-in-Ok-Some-clause-load g c = load_unasked (map string_bytes c.args.words.now) (asked_of c.in-Ok-Some.asked) (g.K.Sink.held c.args.sink.now) (g.K.Sink.held c.serve_hall.new.sink) c.serve_hall.result.status
    (ap (option_map asked_of) (sym c.in-Ok-Some.field-0-is) ∙ c.in-Ok-Some.ensures.asked)

pub returns-in-Ok-Some-clause-follow : goal.returns-in-Ok-Some-clause-follow
returns-in-Ok-Some-clause-follow g c = follow_unasked (map string_bytes c.args.words.now) _ (served_unfollowed (map string_bytes c.args.words.now) (asked_of c.in-Ok-Some.asked)
    (ap (option_map asked_of) (sym c.in-Ok-Some.field-0-is) ∙ c.in-Ok-Some.ensures.asked))

-- memory wanted for reading the words behind `serve` or `ws`
pub returns-in-Err-clause-replay : goal.returns-in-Err-clause-replay
returns-in-Err-clause-replay g c asked = absurd (not_alone begins_to_serve _ (codes "replay") refl c.in-Err.ensures.begun asked)

pub returns-in-Err-clause-check : goal.returns-in-Err-clause-check
returns-in-Err-clause-check g c asked = absurd (not_alone begins_to_serve _ (codes "check") refl c.in-Err.ensures.begun asked)

pub returns-in-Err-clause-backtest : goal.returns-in-Err-clause-backtest
returns-in-Err-clause-backtest g c asked = absurd (not_alone begins_to_serve _ (codes "backtest") refl c.in-Err.ensures.begun asked)

pub returns-in-Err-clause-read_alone : goal.returns-in-Err-clause-read_alone
returns-in-Err-clause-read_alone g c asked = absurd (not_alone begins_to_serve _ (codes "backtest") refl c.in-Err.ensures.begun asked)

pub returns-in-Err-clause-serve : goal.returns-in-Err-clause-serve
returns-in-Err-clause-serve g c =
    let w = c.without_hall in
    let disk = c.args.disk in
    front_wanting knows_of (tells g.D.Disk.crashes g.D.Disk.seen disk) (g.D.Disk.seen disk) (IsBackAt g.D.Disk.crashes g.D.Disk.seen g.D.Disk.images g.D.Disk.moment g.D.Disk.left_since disk) (g.C.Clock.told c.args.clock.now) _ (g.L.ReadyDoor.shows c.args.door.now)
    (g.W.WaitForLinks.shows c.args.wait.now) (g.K.Sink.held c.args.sink.now) (g.K.Sink.held c.end.new.sink) c.end.result w.result.status disk w.result.disk w.result.front w.ensures.disk w.ensures.front w.ensures.status
    (fault_of.Memory, refl, untouched g.D.Disk.crashes g.D.Disk.seen g.D.Disk.images g.D.Disk.moment g.D.Disk.left_since disk fault_of.Memory) c.end.ensures.told

pub returns-in-Err-clause-load : goal.returns-in-Err-clause-load
returns-in-Err-clause-load g c = load_wanting _ (g.K.Sink.held c.args.sink.now) (g.K.Sink.held c.end.new.sink) c.end.result c.without_hall.result.status c.without_hall.ensures.status c.end.ensures.told

pub returns-in-Err-clause-usage : goal.returns-in-Err-clause-usage
returns-in-Err-clause-usage g c replay check backtest serve load follow = inr (
  inl c.in-Err.ensures.begun,
  subst (λ (n : ℕ). IsEnd (g.K.Sink.held c.args.sink.now) (g.K.Sink.held c.end.new.sink) 7 memory_line n) (sym c.without_hall.ensures.status) c.end.ensures.told,
)

pub returns-in-Err-clause-follow : goal.returns-in-Err-clause-follow
returns-in-Err-clause-follow g c = follow_unasked (map string_bytes c.args.words.now) _ (begun_unfollowed (map string_bytes c.args.words.now) c.in-Err.ensures.begun)

-- what needs no disk
pub returns-in-Ok-None-4-clause-load : goal.returns-in-Ok-None-4-clause-load
returns-in-Ok-None-4-clause-load g c =
    subst (λ (n : ℕ). IfSome (load_of (map string_bytes c.args.words.now)) (λ w. Loads w (g.K.Sink.held c.args.sink.now) (g.K.Sink.held c.aside.new.sink) n)) (sym c.without_hall-in-Ok-None-4.ensures.status) c.aside.ensures.load

pub returns-in-Ok-None-4-clause-follow : goal.returns-in-Ok-None-4-clause-follow
returns-in-Ok-None-4-clause-follow g c =
    let a = c.aside in
    subst (λ (n : ℕ). IfSome (follow_of (map string_bytes c.args.words.now)) (λ f. Follows f (g.L.ReadyDoor.shows c.args.door.now) (g.L.ReadyDoor.shows a.new.door) (g.W.WaitForLinks.shows c.args.wait.now) (g.W.WaitForLinks.shows a.new.wait)
    (g.K.Sink.held c.args.sink.now) (g.K.Sink.held a.new.sink) (g.K.Sink.faults c.args.sink.now) (g.K.Sink.faults a.new.sink) n)) (sym c.without_hall-in-Ok-None-4.ensures.status) a.ensures.follow

pub returns-in-Ok-None-4-clause-usage : goal.returns-in-Ok-None-4-clause-usage
returns-in-Ok-None-4-clause-usage g c replay check backtest serve load follow =
    subst (λ (n : ℕ). IsUsage (map string_bytes c.args.words.now) (g.K.Sink.held c.args.sink.now) (g.K.Sink.held c.aside.new.sink) n) (sym c.without_hall-in-Ok-None-4.ensures.status) (c.aside.ensures.usage load follow)
