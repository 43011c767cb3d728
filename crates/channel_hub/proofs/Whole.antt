-- What stays as channels come and go: each is whole, and none is prepared once it is put.
use Rattle.std.proofs.Common.{◌≡◌, ℕ, zero, suc, Bool, true, false, not, refl, List, [], ◌∷◌}
use Rattle.std.specs.List.{remove}
use Rattle.std.specs.Prelude.{Option, Some, None, filter, is_some}
use Rattle.ordered_lists.specs.Lists.{put_in}
use Rattle.fence_index.specs.declared.marks.Mark.{Mark}
use Rattle.fence_index.specs.Silence.{IsWholeWatch}
use Rattle.world_data.specs.declared.channels.Channel.{Channel}
use Rattle.world_data.specs.Worlds.{channel_before}
use Rattle.world_data.specs.Expiry.{is_channel_due}
use Rattle.channel_hub.specs.Hubs.{AreWhole}
use Rattle.channel_hub.specs.Dues.{left_of}

-- none is prepared any more
pub none_prepared : {P : Type 0} (o : Option Mark) → o ≡ None → is_some o ≡ true → P
none_prepared None e some = absurd (cc)
none_prepared (Some m) e some = absurd (cc)

-- whole channels stay whole

pub whole_put : (c : Channel) (cs : List Channel) → AreWhole cs → IsWholeWatch c.fence.watch → AreWhole (put_in channel_before c cs)
whole_put c [] all one = (one, all)
whole_put c (d ∷ cs) all one = by_order (channel_before c d) refl (channel_before d c) refl (whole_put c cs all.1 one)
  where
    by_order : (a : Bool) → channel_before c d ≡ a → (b : Bool) → channel_before d c ≡ b → AreWhole (put_in channel_before c cs) → AreWhole (put_in channel_before c (d ∷ cs))
    by_order true e b f rest = rw e (one, all)
    by_order false e true f rest = rw (e, f) (all.0, rest)
    by_order false e false f rest = rw (e, f) (one, all.1)

pub whole_left : (kept : Channel → Bool) (cs : List Channel) → AreWhole cs → AreWhole (filter kept cs)
whole_left kept [] all = all
whole_left kept (c ∷ cs) all = by_test (kept c) refl (whole_left kept cs all.1)
  where
    by_test : (b : Bool) → kept c ≡ b → AreWhole (filter kept cs) → AreWhole (filter kept (c ∷ cs))
    by_test true e rest = rw e (all.0, rest)
    by_test false e rest = rw e rest

pub whole_removed : (cs : List Channel) (at : ℕ) → AreWhole cs → AreWhole (remove cs at)
whole_removed [] zero all = all
whole_removed [] (suc at) all = all
whole_removed (c ∷ cs) zero all = all.1
whole_removed (c ∷ cs) (suc at) all = (all.0, whole_removed cs at all.1)

pub whole_of : (out : Option ℕ) (cs : List Channel) → AreWhole cs → AreWhole (left_of out cs)
whole_of None cs all = all
whole_of (Some now) cs all = whole_left (λ c. not (is_channel_due now c)) cs all
