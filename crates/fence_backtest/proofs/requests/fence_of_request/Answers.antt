use Rattle.std.proofs.Common.{◌≡◌, sym, subst, true, None}
use Rattle.std.specs.Prelude.{IfSome}
use Rattle.byte_text.specs.Globs.{is_sound_glob}
use Rattle.fence_model.specs.Fences.{roams_over}
use Rattle.fence_backtest.proofs.ZoneLaws.{zone_is_sound}
use Rattle.fence_backtest.proofs.requests.fence_of_request.Goals as goal

pub returns-in-Ok-clause-sound : goal.returns-in-Ok-clause-sound
returns-in-Ok-clause-sound c =
    let sound = c.command_laws.ensures.sound c.args.words.now c.in-Ok.command c.in-Ok.ensures.ok in
    subst (λ f. IfSome f (λ d. (is_sound_glob d.fence.glob ≡ true) × (roams_over d.fence.watch ≡ None))) (sym c.zone_in.ensures) (zone_is_sound c.in-Ok.command sound)
