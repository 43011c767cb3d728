use Rattle.std.proofs.Common.{◌≡◌, ◌<◌, ◌+◌, ℕ, true, false, sym, ap, ◌∙◌, subst, inl, inr, List, length, arith}
use Rattle.std.specs.Prelude.{Some, slice_get, ◌⊎◌, []}
use Rattle.std.proofs.lemmas.Option.{slice_get_within}
use Rattle.ordered_lists.specs.Reading.{stands_at}
use Rattle.session_table.specs.Sessions.{State}
use Rattle.tile_core.specs.Answered.{AreRoomy, StayNamed, is_named}
use Rattle.tile_core.proofs.NamedChanges.{is_it, named_all, named_next, none_told, room_for_one, stay, still_roomy, with_name}
use Rattle.tile_core.proofs.touching.name_told.Goals as goal
use Rattle.tile_core.proofs.touching.name_told.Goals.{then-is_told, else-is_told}

pub name_session-requires : goal.name_session-requires
name_session-requires c = λ was.
    let l = c.loop-i in
    let xs = c.args.sessions.now in
    let s = c.index-sessions-i-then-is_told.result in
    let at : slice_get xs l.i ≡ Some s = stands_at xs l.i s (omega (arith, c.loop-i-test.true)) c.index-sessions-i-then-is_told.is in
    let lt = room_for_one l.touched xs l.invariant.1 l.i s at (subst (λ (n : ℕ). is_named l.touched n ≡ false) c.number.ensures was) in
    omega (arith, lt, c.requires.few)

-- what the loop keeps
abbrev Keeps : List State → List ℕ → ℕ → List ℕ → Type 0
Keeps xs old i named = StayNamed old named × AreRoomy named xs × ((k : ℕ) (s : State) → k < i → slice_get xs k ≡ Some s → (s.mail.staged ≡ []) ⊎ (is_named named s.number ≡ true))

pub loop-i-preserved : goal.loop-i-preserved
loop-i-preserved c =
    let l = c.loop-i in
    let xs = c.args.sessions.now in
    let old = c.args.touched.now in
    elim c.if-is_told.branch [
      | then-is_told w ↦
          let s = w.index-sessions-i-then-is_told.result in
          let at : slice_get xs l.i ≡ Some s = stands_at xs l.i s (omega (arith, c.loop-i-test.true)) w.index-sessions-i-then-is_told.is in
          let is : c.if-is_told.touched ≡ with_name l.touched s.number = w.touched-is ∙ w.name_session.ensures ∙ ap (with_name l.touched) w.number.ensures in
          let kept = stay l.touched s.number in
          subst (Keeps xs old (l.i + 1)) (sym is) (
            λ n e. kept n (l.invariant.0 n e),
            still_roomy l.touched xs l.invariant.1 l.i s at,
            named_next l.touched (with_name l.touched s.number) xs l.i s at kept l.invariant.2 (inr (is_it l.touched s.number)),
          )
      | else-is_told w ↦
          let s = c.index-sessions-i.result in
          let at : slice_get xs l.i ≡ Some s = stands_at xs l.i s (omega (arith, c.loop-i-test.true)) c.index-sessions-i.is in
          subst (Keeps xs old (l.i + 1)) (sym w.touched-is)
          (l.invariant.0, l.invariant.1, named_next l.touched l.touched xs l.i s at (λ n e. e) l.invariant.2 (inl (c.is_told.ensures.quiet w.if-is_told.false)))
    ]

pub returns-clause-named : goal.returns-clause-named
returns-clause-named c =
    let l = c.loop-i in
    let xs = c.args.sessions.now in
    named_all l.touched xs (λ k s at. l.invariant.2 k s (let lt : k < length xs = slice_get_within xs k s at in omega (arith, lt, c.loop-i-test.false)) at)

pub returns-then-not-is_told-clause-named : goal.returns-then-not-is_told-clause-named
returns-then-not-is_told-clause-named c = none_told c.args.touched.now c.args.sessions.now (c.requires.quiet c.if-not-is_told.true)
