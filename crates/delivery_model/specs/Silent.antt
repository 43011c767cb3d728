-- Where no frame is staged.
use Rattle.std.proofs.Common.{◌≡◌, Bool, true, false, refl, sym, ◌∙◌, ap, List, [], ◌∷◌, ◌++◌, append_assoc}
use Rattle.std.specs.Prelude.{flat_map, if◌then◌else◌}
use Rattle.std.specs.List.{AllByRecursion}
use Rattle.byte_text.specs.Names.{Bytes}
use Rattle.world_data.specs.Worlds.{after}
use Rattle.fence_model.specs.Messages.{Message, messages, announced_messages}
use Rattle.world_model.specs.Subscriptions.{Sub}
use Rattle.fence_model.specs.Writes.{Write}
use Rattle.world_model.specs.Halls.{Session, frames_for, sent_to, deliveries_of, deliveries}
use Rattle.world_data.specs.declared.worlds.World.{World}
use Rattle.world_data.specs.declared.worlds.Change.{Change}
use Rattle.world_data.specs.declared.worlds.Change.TheVariants as change
use Rattle.delivery_model.specs.Staging.{Delivery, staged, all_to, frames_each, heard_of, heard, after_all}
use Rattle.delivery_model.specs.Plans.{NoneListens, IsOfObjects}
use Rattle.delivery_model.specs.Addressing.{sent_is}

-- one without subscriptions hears nothing

each_none : (ms : List Message) → frames_each ms [] ≡ []
each_none [] = refl
each_none (m ∷ ms) = each_none ms

of_none : (w : World) (d : Write) → heard_of w d [] ≡ []
of_none w d = each_none (messages w d)

pub heard_none : (w : World) (writes : List Write) → heard w writes [] ≡ []
heard_none w [] = refl
heard_none w (d ∷ writes) = ap (λ (fs : List Bytes). fs ++ heard (after w d.change) writes []) (of_none w d) ∙ heard_none (after w d.change) writes

sent_none : (m : Message) (ss : List Session) → NoneListens ss → flat_map (sent_to m) ss ≡ []
sent_none m [] all = refl
sent_none m (s ∷ ss) all =
    ap (λ (list : List Delivery). list ++ flat_map (sent_to m) ss) (sent_is m s ∙ ap (λ (subs : List Sub). all_to s.number (frames_for m subs)) all.0)
    ∙ sent_none m ss all.1

all_none : (ms : List Message) (ss : List Session) → NoneListens ss → deliveries_of ms ss ≡ []
all_none [] ss all = refl
all_none (m ∷ ms) ss all = ap (λ (list : List Delivery). list ++ deliveries_of ms ss) (sent_none m ss all) ∙ all_none ms ss all

pub none_listening : (w : World) (ss : List Session) (writes : List Write) → NoneListens ss → staged w ss writes ≡ []
none_listening w ss [] all = refl
none_listening w ss (d ∷ writes) all = ap (λ (list : List Delivery). list ++ staged (after w d.change) ss writes) (all_none (messages w d) ss all)
    ∙ none_listening (after w d.change) ss writes all

-- without channels there are no messages

pub no_messages : (w : World) (d : Write) → w.channels ≡ [] → messages w d ≡ []
unfolding messages
no_messages w d e = by d.announced
  where
    by : (b : Bool) → (if b then announced_messages w d.change else []) ≡ []
    by true = rw e refl
    by false = refl

no_deliveries : (w : World) (ss : List Session) (d : Write) → w.channels ≡ [] → deliveries w ss d ≡ []
no_deliveries w ss d e = rw (no_messages w d e) refl

still_none : (w : World) (c : Change) → IsOfObjects c → w.channels ≡ [] → (after w c).channels ≡ []
still_none w (change.Put o) is e = e
still_none w (change.Del key id) is e = e
still_none w (change.Drop key) is e = e
still_none w change.Flush is e = refl
still_none w (change.SetChan c) is e = absurd is
still_none w (change.DelChan name) is e = absurd is

pub without_channels : (w : World) (ss : List Session) (writes : List Write) → w.channels ≡ [] → AllByRecursion (λ d. IsOfObjects d.change) writes
    → staged w ss writes ≡ []
without_channels w ss [] e are = refl
without_channels w ss (d ∷ writes) e are =
    ap (λ (list : List Delivery). list ++ staged (after w d.change) ss writes) (no_deliveries w ss d e)
    ∙ without_channels (after w d.change) ss writes (still_none w d.change are.0 e) are.1

-- in turn
pub staged_append : (w : World) (ss : List Session) (a b : List Write) → staged w ss (a ++ b) ≡ staged w ss a ++ staged (after_all w a) ss b
staged_append w ss [] b = refl
staged_append w ss (d ∷ a) b = ap (λ (list : List Delivery). deliveries w ss d ++ list) (staged_append (after w d.change) ss a b)
    ∙ sym (append_assoc (deliveries w ss d) (staged (after w d.change) ss a) (staged (after_all (after w d.change) a) ss b))

pub after_append : (w : World) (a b : List Write) → after_all w (a ++ b) ≡ after_all (after_all w a) b
after_append w [] b = refl
after_append w (d ∷ a) b = after_append (after w d.change) a b

pub heard_append : (w : World) (a b : List Write) (subs : List Sub) → heard w (a ++ b) subs ≡ heard w a subs ++ heard (after_all w a) b subs
heard_append w [] b subs = refl
heard_append w (d ∷ a) b subs =
    ap (λ (frames : List Bytes). heard_of w d subs ++ frames) (heard_append (after w d.change) a b subs)
    ∙ sym (append_assoc (heard_of w d subs) (heard (after w d.change) a subs) (heard (after_all (after w d.change) a) b subs))
