-- What the following of a link keeps from step to step.
use Rattle.std.proofs.Common.{◌≡◌, ◌⊎◌, ◌≤◌, ◌∙◌, ℕ, Bool, true, false, List, [], ◌∷◌, ◌++◌, refl, sym, ap, subst, inl, inr, arith, append_assoc}
use Rattle.std.specs.Prelude.{Option, None, Some}
use Rattle.std.proofs.lemmas.List.{append-nil}
use Rattle.std.specs.Io.KnownBytes.{Appends}
use mathlib.Core.List.{IsPrefix}
use Rattle.byte_text.specs.Names.{Bytes}
use Rattle.outside.specs.CauseLaws.{rose_later}
use Rattle.outside.specs.Causes.{Rose}
use Rattle.outside.specs.Links.{LinkState}
use Rattle.outside.specs.Writing.{AppendsPart, appends_more, appends_nothing}
use Rattle.outside.specs.Waits.{WaitState}
use Rattle.repl_node.specs.FollowedSoFar.{FollowedSoFar, all_shown, shown_now}
use Rattle.repl_node.specs.Followers.{FollowerState}
use Rattle.repl_node.specs.Following.{Followed}
use Rattle.repl_node.specs.declared.nodes.LogPlace.{LogPlace}
use Rattle.repl_node.specs.declared.phases.FollowEnd.{FollowEnd}
use Rattle.repl_node.specs.declared.phases.FollowEnd.TheVariants as link
use Rattle.repl_node.specs.declared.phases.Phase.{Phase}
use Rattle.repl_node.specs.declared.phases.Phase.TheVariants.{Asking, Published, Ended}
use Rattle.tile_top.specs.Follows.{IsShutAt, StopsBy, WritesLines, lines_of, news, stop_of, told_behind}
use Rattle.tile_top.specs.Tellings.{HasTold, IsTelling, IsVisited, KeepsTelling, TellsOn}
use Rattle.tile_top.specs.declared.follow_words.FollowTerms.{FollowTerms}
use Rattle.tile_top.specs.declared.stops.Stop.{Stop}
use Rattle.tile_top.specs.declared.stops.Stop.TheVariants.{Lost, Done, BadPart, ReadFault, WriteFault, OutputFault, DoorFault, OutOfMemory}

-- ---- lines

lines_more : (told : Option LogPlace) (before : List Followed) (node : Followed)
    → lines_of told (before ++ node ∷ []) ≡ lines_of told before ++ news (told_behind told before) node
lines_more told [] node = append-nil (news told node)
lines_more told (b ∷ before) node = ap (λ (l : Bytes). news told b ++ l) (lines_more (Some b.published) before node)
    ∙ sym (append_assoc (news told b) (lines_of (Some b.published) before) (news (told_behind (Some b.published) before) node))

told_more : (told : Option LogPlace) (before : List Followed) (node : Followed) → told_behind told (before ++ node ∷ []) ≡ Some node.published
told_more told [] node = refl
told_more told (b ∷ before) node = told_more (Some b.published) before node

pub part_as : (held held' : Option Bytes) (text line : Bytes) → text ≡ line → AppendsPart held held' text → AppendsPart held held' line
part_as held held' text line is part = subst (λ (l : Bytes). AppendsPart held held' l) is part

prefix_self : (bytes : Bytes) → IsPrefix bytes bytes
prefix_self bytes = ([], append-nil bytes)

-- what was written whole was written as far as it could be
writes_all : (stop : Stop) (held held' : Option Bytes) (lines : Bytes) → Appends held held' lines → WritesLines stop held held' lines
writes_all Lost held held' lines a = a
writes_all Done held held' lines a = a
writes_all BadPart held held' lines a = a
writes_all ReadFault held held' lines a = a
writes_all WriteFault held held' lines a = a
writes_all OutputFault held held' lines a = (lines, prefix_self lines, a)
writes_all DoorFault held held' lines a = a
writes_all OutOfMemory held held' lines a = (lines, prefix_self lines, a)

-- a link was lost, or nobody listens: its lines as a stop has them, where another stop stands in its place
pub writes_as : (stop now : Stop) (held held' : Option Bytes) (lines : Bytes) (Failed : Type 0)
    → (now ≡ stop) ⊎ ((now ≡ OutOfMemory) ⊎ ((stop ≡ Lost) × (now ≡ DoorFault) × Failed))
    → WritesLines stop held held' lines → WritesLines now held held' lines
writes_as stop now held held' lines Failed (inl same) w = subst (λ (s : Stop). WritesLines s held held' lines) (sym same) w
writes_as stop now held held' lines Failed (inr (inl memory)) w =
    subst (λ (s : Stop). WritesLines s held held' lines) (sym memory) (in_part stop w)
  where
    in_part : (s : Stop) → WritesLines s held held' lines → AppendsPart held held' lines
    in_part Lost a = (lines, prefix_self lines, a)
    in_part Done a = (lines, prefix_self lines, a)
    in_part BadPart a = (lines, prefix_self lines, a)
    in_part ReadFault a = (lines, prefix_self lines, a)
    in_part WriteFault a = (lines, prefix_self lines, a)
    in_part OutputFault a = a
    in_part DoorFault a = (lines, prefix_self lines, a)
    in_part OutOfMemory a = a
writes_as stop now held held' lines Failed (inr (inr (lost, door, f))) w =
    subst (λ (s : Stop). WritesLines s held held' lines) (sym door) (subst (λ (s : Stop). WritesLines s held held' lines) lost w)

-- ---- steps

module _ (terms : FollowTerms) (first : Followed) (came : LinkState) (told0 : Option LogPlace) (held0 : Option Bytes) where
  -- the follower went on up to there, and nothing was told
  pub telling_kept : (f f' : FollowerState) (told : Option LogPlace) (held : Option Bytes)
      → ((first : Followed) (came : LinkState) (before : List Followed) → FollowedSoFar first came before f → FollowedSoFar first came before f')
      → IsTelling terms first came told0 held0 f told held → IsTelling terms first came told0 held0 f' told held
  telling_kept f f' told held kept t = record {
    before = t.before;
    followed = kept first came t.before t.followed;
    once = t.once;
    told_is = t.told_is;
    written = t.written;
  }

  -- it stops where no world was published since
  pub told_quiet : (stop : Stop) (f : FollowerState) (told : Option LogPlace) (held : Option Bytes) → shown_now f.phase f.node ≡ []
      → IsTelling terms first came told0 held0 f told held → HasTold stop terms first came told0 held0 f told held
  told_quiet stop f told held quiet t =
      let same : all_shown t.before f ≡ t.before = ap (λ (l : List Followed). t.before ++ l) quiet ∙ append-nil t.before in
      record {
        before = t.before;
        followed = t.followed;
        once = t.once;
        told_is = λ lost. t.told_is ∙ ap (told_behind told0) (sym same);
        written = writes_all stop held0 held (lines_of told0 (all_shown t.before f))
            (subst (λ (l : List Followed). Appends held0 held (lines_of told0 l)) (sym same) t.written);
      }

  -- behind a published world: its line
  module _ (f : FollowerState) (told : Option LogPlace) (held held' : Option Bytes) (shows : f.phase ≡ Published)
      (t : IsTelling terms first came told0 held0 f told held) where
    all_are : all_shown t.before f ≡ t.before ++ f.node ∷ []
    all_are = ap (λ (p : Phase). t.before ++ shown_now p f.node) shows

    lines_are : lines_of told0 t.before ++ news told f.node ≡ lines_of told0 (t.before ++ f.node ∷ [])
    lines_are = ap (λ (o : Option LogPlace). lines_of told0 t.before ++ news o f.node) t.told_is ∙ sym (lines_more told0 t.before f.node)

    whole : Appends held held' (news told f.node) → Appends held0 held' (lines_of told0 (t.before ++ f.node ∷ []))
    whole a = subst (λ (l : Bytes). Appends held0 held' l) lines_are
        (appends_more held0 held held' (lines_of told0 t.before) (news told f.node) t.written a)

    in_part : AppendsPart held held' (news told f.node) → AppendsPart held0 held' (lines_of told0 (all_shown t.before f))
    in_part (part, (rest, is), a) = (
      lines_of told0 t.before ++ part,
      (
        rest,
        append_assoc (lines_of told0 t.before) part rest ∙ ap (λ (l : Bytes). lines_of told0 t.before ++ l) is ∙ lines_are
            ∙ ap (lines_of told0) (sym all_are),
      ),
      appends_more held0 held held' (lines_of told0 t.before) part t.written a,
    )

    pub told_part : (stop : Stop) (Failed : Type 0) → ((stop ≡ OutputFault) × Failed) ⊎ (stop ≡ OutOfMemory)
        → AppendsPart held held' (news told f.node) → HasTold stop terms first came told0 held0 f told held'
    told_part stop Failed why a = record {
      before = t.before;
      followed = t.followed;
      once = t.once;
      told_is = λ lost. absurd (never why lost);
      written = as_part why;
    }
      where
        never : ((stop ≡ OutputFault) × Failed) ⊎ (stop ≡ OutOfMemory) → stop ≡ Lost → ⊥
        never (inl (o, f)) lost = cc
        never (inr m) lost = cc

        as_part : ((stop ≡ OutputFault) × Failed) ⊎ (stop ≡ OutOfMemory) → WritesLines stop held0 held' (lines_of told0 (all_shown t.before f))
        as_part (inl (o, x)) = subst (λ (s : Stop). WritesLines s held0 held' (lines_of told0 (all_shown t.before f))) (sym o) (in_part a)
        as_part (inr m) = subst (λ (s : Stop). WritesLines s held0 held' (lines_of told0 (all_shown t.before f))) (sym m) (in_part a)

    pub told_whole : (stop : Stop) (told' : Option LogPlace) → told' ≡ Some f.node.published → Appends held held' (news told f.node)
        → HasTold stop terms first came told0 held0 f told' held'
    told_whole stop told' is a = record {
      before = t.before;
      followed = t.followed;
      once = t.once;
      told_is = λ lost. is ∙ sym (told_more told0 t.before f.node) ∙ ap (told_behind told0) (sym all_are);
      written = writes_all stop held0 held' (lines_of told0 (all_shown t.before f))
          (subst (λ (l : List Followed). Appends held0 held' (lines_of told0 l)) (sym all_are) (whole a));
    }

    -- and it asks again
    pub told_on : (f' : FollowerState) (told' : Option LogPlace) → told' ≡ Some f.node.published → Appends held held' (news told f.node)
        → (terms.watch ≡ false → ⊥)
        → ((first : Followed) (came : LinkState) (before : List Followed) → FollowedSoFar first came before f
        → FollowedSoFar first came (before ++ f.node ∷ []) f')
        → IsTelling terms first came told0 held0 f' told' held'
    told_on f' told' is a watch kept = record {
      before = t.before ++ f.node ∷ [];
      followed = kept first came t.before t.followed;
      once = λ once. absurd (watch once);
      told_is = is ∙ sym (told_more told0 t.before f.node);
      written = whole a;
    }

-- ---- why it stops

pub quiet_unless : (phase : Phase) (node : Followed) → (phase ≡ Published → ⊥) → shown_now phase node ≡ []
quiet_unless Asking node not = refl
quiet_unless Published node not = absurd (not refl)
quiet_unless (Ended end) node not = refl

abbrev IsOfLink : Stop → Type 0
IsOfLink Done = ⊥
IsOfLink OutputFault = ⊥
IsOfLink DoorFault = ⊥
IsOfLink s = Unit {0}

of_link : (watch : Bool) (end : FollowEnd) → IsOfLink (stop_of watch end)
of_link true link.Over = tt
of_link false link.Over = tt
of_link watch link.BadPart = tt
of_link true link.ReadFault = tt
of_link false link.ReadFault = tt
of_link true link.WriteFault = tt
of_link false link.WriteFault = tt
of_link watch link.Memory = tt

pub stops_at_end : (terms : FollowTerms) (stop : Stop) (phase : Phase) (end : FollowEnd) (over : Bool) (waits waits' failed failed' : ℕ)
    → phase ≡ Ended end → stop ≡ stop_of terms.watch end → StopsBy terms stop phase over waits waits' failed failed'
stops_at_end terms Lost phase end over waits waits' failed failed' p s = (end, p, s)
stops_at_end terms Done phase end over waits waits' failed failed' p s = absurd (subst IsOfLink (sym s) (of_link terms.watch end))
stops_at_end terms BadPart phase end over waits waits' failed failed' p s = (end, p, s)
stops_at_end terms ReadFault phase end over waits waits' failed failed' p s = (end, p, s)
stops_at_end terms WriteFault phase end over waits waits' failed failed' p s = (end, p, s)
stops_at_end terms OutputFault phase end over waits waits' failed failed' p s = absurd (subst IsOfLink (sym s) (of_link terms.watch end))
stops_at_end terms DoorFault phase end over waits waits' failed failed' p s = absurd (subst IsOfLink (sym s) (of_link terms.watch end))
stops_at_end terms OutOfMemory phase end over waits waits' failed failed' p s = tt

-- from earlier counts on
pub stops_later : (terms : FollowTerms) (stop : Stop) (phase : Phase) (over : Bool) (waits mid waits' failed between failed' : ℕ)
    → waits ≤ mid → failed ≤ between → StopsBy terms stop phase over mid waits' between failed' → StopsBy terms stop phase over waits waits' failed failed'
stops_later terms Lost phase over waits mid waits' failed between failed' w f why = why
stops_later terms Done phase over waits mid waits' failed between failed' w f why = why
stops_later terms BadPart phase over waits mid waits' failed between failed' w f why = why
stops_later terms ReadFault phase over waits mid waits' failed between failed' w f why = why
stops_later terms WriteFault phase over waits mid waits' failed between failed' w f why = why
stops_later terms OutputFault phase over waits mid waits' failed between failed' w f why = rose_later failed between failed' f why
stops_later terms DoorFault phase over waits mid waits' failed between failed' w f why = rose_later waits mid waits' w why
stops_later terms OutOfMemory phase over waits mid waits' failed between failed' w f why = tt

-- behind the shutting of the link
pub stops_shut : (terms : FollowTerms) (stop now : Stop) (phase : Phase) (over over' : Bool) (waits mid waits' failed failed' : ℕ)
    → (now ≡ stop) ⊎ ((now ≡ OutOfMemory) ⊎ ((stop ≡ Lost) × (now ≡ DoorFault) × Rose mid waits'))
    → (stop ≡ Lost) ⊎ (over' ≡ over) → waits ≤ mid → mid ≤ waits' → StopsBy terms stop phase over waits mid failed failed'
    → StopsBy terms now phase over' waits waits' failed failed'
stops_shut terms stop now phase over over' waits mid waits' failed failed' (inl same) o w m why =
    subst (λ (s : Stop). StopsBy terms s phase over' waits waits' failed failed') (sym same) (still stop o why)
  where
    still : (s : Stop) → (s ≡ Lost) ⊎ (over' ≡ over) → StopsBy terms s phase over waits mid failed failed'
        → StopsBy terms s phase over' waits waits' failed failed'
    still Lost o why = why
    still Done (inl lost) why = absurd (cc)
    still Done (inr same) (inl first) = inl first
    still Done (inr same) (inr (may, is)) = inr (may, same ∙ is)
    still BadPart o why = why
    still ReadFault o why = why
    still WriteFault o why = why
    still OutputFault o why = why
    still DoorFault o why = omega (arith, why, m)
    still OutOfMemory o why = tt
stops_shut terms stop now phase over over' waits mid waits' failed failed' (inr (inl memory)) o w m why =
    subst (λ (s : Stop). StopsBy terms s phase over' waits waits' failed failed') (sym memory) tt
stops_shut terms stop now phase over over' waits mid waits' failed failed' (inr (inr (lost, door, rose))) o w m why =
    subst (λ (s : Stop). StopsBy terms s phase over' waits waits' failed failed') (sym door) (rose_later waits mid waits' w rose)

-- one step behind others
pub tells_behind : (r : Option Stop) (terms : FollowTerms) (f mid f' : FollowerState) (told between told' : Option LogPlace) (held there held' : Option Bytes)
    → KeepsTelling None terms f mid told between held there → KeepsTelling r terms mid f' between told' there held'
    → KeepsTelling r terms f f' told told' held held'
tells_behind r terms f mid f' told between told' held there held' first next = λ node came told0 held0 t. next node came told0 held0 (first node came told0 held0 t)

-- ---- the whole link

-- a follower that has read nothing yet
pub begun_telling : (terms : FollowTerms) (node : Followed) (came : LinkState) (told : Option LogPlace) (held : Option Bytes) (f : FollowerState)
    → FollowedSoFar node came [] f → IsTelling terms node came told held f told held
begun_telling terms node came told held f so_far = record {
  before = [];
  followed = so_far;
  once = λ once. refl;
  told_is = refl;
  written = appends_nothing held;
}

-- the link is shut
pub told_shut : (terms : FollowTerms) (stop now : Stop) (came line : LinkState) (node node' : Followed) (told told' : Option LogPlace)
    (wait mid wait' : WaitState) (held held' : Option Bytes) (failed failed' : ℕ) (f : FollowerState)
    → HasTold stop terms node came told held f told' held' → node' ≡ f.node → line ≡ f.line
    → IsShutAt now mid.shut wait'.shut line → mid.shut ≡ wait.shut
    → (now ≡ stop) ⊎ ((now ≡ OutOfMemory) ⊎ ((stop ≡ Lost) × (now ≡ DoorFault) × Rose mid.faults wait'.faults))
    → (stop ≡ Lost) ⊎ (wait'.over ≡ mid.over) → wait.faults ≤ mid.faults → mid.faults ≤ wait'.faults
    → StopsBy terms stop f.phase mid.over wait.faults mid.faults failed failed'
    → IsVisited terms now came node node' told told' wait wait' held held' failed failed'
told_shut terms stop now came line node node' told told' wait mid wait' held held' failed failed' f t nodes lines shut same is over first later why =
    record {
      before = t.before;
      left = f;
      followed = t.followed;
      once = t.once;
      node_is = nodes;
      told_is = λ lost. t.told_is (was_lost is lost);
      written = writes_as stop now held held' (lines_of told (all_shown t.before f)) (Rose mid.faults wait'.faults) is t.written;
      shut = subst (λ (l : LinkState). IsShutAt now wait.shut wait'.shut l) lines
          (subst (λ (s : Option (List LinkState)). IsShutAt now s wait'.shut line) same shut);
      why = stops_shut terms stop now f.phase mid.over wait'.over wait.faults mid.faults wait'.faults failed failed' is over first later why;
    }
  where
    was_lost : (now ≡ stop) ⊎ ((now ≡ OutOfMemory) ⊎ ((stop ≡ Lost) × (now ≡ DoorFault) × Rose mid.faults wait'.faults)) → now ≡ Lost → stop ≡ Lost
    was_lost (inl same) lost = sym same ∙ lost
    was_lost (inr (inl memory)) lost = cc
    was_lost (inr (inr (lost, door, rose))) other = lost
