-- Writes in turn: what one raises, behind what those before it brought.
use Rattle.std.proofs.Common.{◌≡◌, Bool, true, false, refl, sym, ◌∙◌, ap, subst, List, [], ◌∷◌, ◌++◌}
use Rattle.std.specs.Prelude.{Some, filter, flat_map}
use Rattle.byte_text.specs.Names.{Bytes}
use Rattle.byte_text.specs.ByteOrder.{same_equal}
use Rattle.world_data.specs.declared.channels.Channel.{Channel}
use Rattle.world_data.specs.declared.worlds.World.{World}
use Rattle.world_data.specs.declared.worlds.Change.{Change}
use Rattle.world_data.specs.declared.worlds.Change.TheVariants.{Drop}
use Rattle.fence_model.specs.Messages.{Message, messages, announced_messages, watches}
use Rattle.fence_model.specs.Writes.{Write, announced, silent}
use Rattle.channel_hub.specs.MessageLaws.{messages_on}
use Rattle.delivery_model.specs.Staging.{after_all}
use Rattle.delivery_model.specs.Silent.{no_messages}
use Rattle.session_table.specs.Sessions.{State}
use Rattle.session_table.specs.Fans.{AreBrought, HaveStaged}
use Rattle.session_table.specs.FanLaws.{brought_none, staged_more}
use Rattle.message_fanout.specs.Stagings.{IsStagedIn}
use Rattle.message_fanout.specs.Laws.{QuietBringsNothing, NothingWithoutChannels}

pub loud_are : (w : World) (change : Change) → messages w (announced change) ≡ announced_messages w change
unfolding messages
loud_are w change = refl

quiet_none : (w : World) (change : Change) → messages w (silent change) ≡ []
unfolding messages
quiet_none w change = refl

pub staged_in : (IsSuch : World → Type 0) (change : Change) (old new : List State) → ((w : World) → IsSuch w → AreBrought (announced_messages w change) old new) → IsStagedIn IsSuch (announced change) old new
staged_in IsSuch change old new brought =
    let all : (w : World) → IsSuch w → AreBrought (messages w (announced change)) old new = λ w is. subst (λ (ms : List Message). AreBrought ms old new) (sym (loud_are w change)) (brought w is) in
    record { brought = all; behind = λ w writes is staged. staged_more w writes (announced change) old new staged (all (after_all w writes) is) }

-- where a write has no messages

none_more : (w : World) (writes : List Write) (d : Write) (ss : List State) → messages (after_all w writes) d ≡ [] → HaveStaged w writes ss → HaveStaged w (writes ++ d ∷ []) ss
none_more w writes d ss none all = staged_more w writes d ss ss all (subst (λ (ms : List Message). AreBrought ms ss ss) (sym none) (brought_none ss))

pub quiet_more : QuietBringsNothing
quiet_more w writes change ss all = none_more w writes (silent change) ss (quiet_none (after_all w writes) change) all

pub without_channels : NothingWithoutChannels
without_channels w writes d ss none all = none_more w writes d ss (no_messages (after_all w writes) d none) all

-- each channel of a key that is dropped tells of its own key

pub own_key : (w : World) (key : Bytes) (cs : List Channel) → flat_map (λ c. messages_on w (Drop c.fence.key) c) (filter (watches (Some key)) cs) ≡ flat_map (messages_on w (Drop key)) (filter (watches (Some key)) cs)
own_key w key [] = refl
own_key w key (c ∷ cs) = by (watches (Some key) c) refl (own_key w key cs)
  where
    own : Channel → List Message
    own d = messages_on w (Drop d.fence.key) d

    by : (b : Bool) → watches (Some key) c ≡ b → flat_map own (filter (watches (Some key)) cs) ≡ flat_map (messages_on w (Drop key)) (filter (watches (Some key)) cs)
        → flat_map own (filter (watches (Some key)) (c ∷ cs)) ≡ flat_map (messages_on w (Drop key)) (filter (watches (Some key)) (c ∷ cs))
    by false e ih = rw e ih
    by true e ih =
        let whole : own c ++ flat_map own (filter (watches (Some key)) cs) ≡ messages_on w (Drop key) c ++ flat_map (messages_on w (Drop key)) (filter (watches (Some key)) cs) =
        ap (λ (ms : List Message). own c ++ ms) ih
        ∙ ap (λ (k : Bytes). messages_on w (Drop k) c ++ flat_map (messages_on w (Drop key)) (filter (watches (Some key)) cs)) (same_equal c.fence.key key e) in
        rw e whole
