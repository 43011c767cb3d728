-- A number and a seed have one summary.
use Rattle.std.proofs.Common.{◌≡◌, ℕ, true, false, List, [], ◌∷◌, length, refl, sym, ap, ◌∙◌, subst}
use Rattle.byte_text.specs.Names.{Bytes}
use Rattle.world_data.specs.Worlds.{empty_world}
use Rattle.world_model.specs.Halls.{Hall}
use Rattle.world_model.specs.Histories.{opening_hall}
use Rattle.world_model.specs.Laws.{StepsAreDetermined}
use Rattle.world_model.specs.declared.events.Asked.TheVariants.{Words}
use Rattle.world_model.specs.declared.events.Event.{Event}
use Rattle.world_model.specs.declared.events.Event.TheVariants.{Enter, Call, Take}
use Rattle.world_model.specs.declared.events.Outcome.{Outcome}
use Rattle.world_model.specs.declared.events.Outcome.TheVariants.{Answered, Given, Entered}
use Rattle.work_gen.specs.Frames.{capped}
use Rattle.work_gen.specs.Steps.{Makes}
use Rattle.work_gen.specs.Rounds.{Round, CallsBy, Drains, RoundLeads, RoundsLead, asker, is_last, lines_of, messages, bytes}
use Rattle.work_gen.specs.Drives.{Enters, Drives}
use Rattle.work_gen.specs.Summaries.{summary_text}
use Rattle.work_gen.specs.Outs.{IsLoadOut}
use Rattle.work_gen.specs.declared.lines.Line.{Line}
use Rattle.work_gen.specs.declared.pairs.Pair.{Pair}
use Rattle.work_gen.specs.declared.summaries.Summary.{Summary}
use Rattle.work_gen.proofs.Stepping.{no_log_fault, no_memory}

given_same : (a b : List Bytes) → Given a ≡ Given b → a ≡ b
given_same a b e = cc

entered_same : (a b : ℕ) → Entered a ≡ Entered b → a ≡ b
entered_same a b e = cc

-- a take that gave frames was not the last
not_last : (o : Outcome) (frames : List Bytes) → is_last o ≡ true → o ≡ Given frames → ⊥
not_last o frames last e = let w : false ≡ true = subst (λ (x : Outcome). is_last x ≡ true) e last in absurd (cc)

line_same : (l m : Line) (ls ms : List Line) → l ∷ ls ≡ m ∷ ms → l ≡ m
line_same l m ls ms e = cc

lines_same : (l m : Line) (ls ms : List Line) → l ∷ ls ≡ m ∷ ms → ls ≡ ms
lines_same l m ls ms e = cc

module _ (law : StepsAreDetermined) where
  one_step : (event : Event) (o o' : Outcome) (old new new' : Hall) → Makes event o old new → Makes event o' old new' → (o ≡ o') × (new ≡ new')
  one_step event o o' old new new' x y = law old new new' event o o' (no_log_fault o x.free) (no_memory o x.free) (no_log_fault o' y.free) (no_memory o' y.free) x.step y.step

  one_drain : (n : ℕ) (takes takes' : List (List Bytes)) (old new new' : Hall) → Drains n takes old new → Drains n takes' old new' → (takes ≡ takes') × (new ≡ new')
  one_drain n [] [] old new new' (o, last, x) (o', last', y) = (refl, (one_step (Take n) o o' old new new' x y).1)
  one_drain n [] (g ∷ takes') old new new' (o, last, x) (next', y, more') = absurd (not_last o g last (one_step (Take n) o (Given g) old new next' x y).0)
  one_drain n (f ∷ takes) [] old new new' (next, x, more) (o', last', y) = absurd (not_last o' f last' (sym (one_step (Take n) (Given f) o' old next new' x y).0))
  one_drain n (f ∷ takes) (g ∷ takes') old new new' (next, x, more) (next', y, more') =
      let same = one_step (Take n) (Given f) (Given g) old next next' x y in
      let rest = one_drain n takes takes' next' new new' (subst (λ (h : Hall). Drains n takes h new) same.1 more) more' in
      (ap (λ (a : List Bytes). a ∷ takes) (given_same f g same.0) ∙ ap (λ (l : List (List Bytes)). g ∷ l) rest.0, rest.1)

  one_call : (n : ℕ) (words : List Bytes) (old new new' : Hall) → CallsBy n words old new → CallsBy n words old new' → new ≡ new'
  one_call n words old new new' (a, x) (b, y) = (one_step (Call n 0 (Words words)) (Answered a) (Answered b) old new new' x y).1

  one_round : (p : Pair) (l : Line) (heard heard' told told' : List (List Bytes)) (old new new' : Hall)
      → RoundLeads p (record { line = l; heard = heard; told = told }) old new → RoundLeads p (record { line = l; heard = heard'; told = told' }) old new'
      → (heard ≡ heard') × (told ≡ told') × (new ≡ new')
  one_round p l heard heard' told told' old new new' x y =
      let asked = one_call (asker p l.role) l.words old x.asked y.asked x.call y.call in
      let listens = one_drain p.listener heard heard' y.asked x.drained y.drained (subst (λ (h : Hall). Drains p.listener heard h x.drained) asked x.listens) y.listens in
      let sends = one_drain p.sender told told' y.drained new new' (subst (λ (h : Hall). Drains p.sender told h new) listens.1 x.sends) y.sends in
      (listens.0, sends.0, sends.1)

  same_round : (p : Pair) (r s : Round) (old new new' : Hall) → r.line ≡ s.line → RoundLeads p r old new → RoundLeads p s old new' → (r ≡ s) × (new ≡ new')
  same_round p r s old new new' line x y =
      let moved : RoundLeads p (record { line = s.line; heard = r.heard; told = r.told }) old new = subst (λ (l : Line). RoundLeads p (record { line = l; heard = r.heard; told = r.told }) old new) line x in
      let one = one_round p s.line r.heard s.heard r.told s.told old new new' moved y in
      let is : r ≡ s = ap (λ (l : Line). let a : Round = record { line = l; heard = r.heard; told = r.told } in a) line
      ∙ ap (λ (h : List (List Bytes)). let a : Round = record { line = s.line; heard = h; told = r.told } in a) one.0
      ∙ ap (λ (t : List (List Bytes)). let a : Round = record { line = s.line; heard = s.heard; told = t } in a) one.1 in
      (is, one.2)

  one_rounds : (p : Pair) (rounds others : List Round) (old new new' : Hall) → lines_of rounds ≡ lines_of others → RoundsLead p rounds old new → RoundsLead p others old new'
      → (rounds ≡ others) × (new ≡ new')
  one_rounds p [] [] old new new' e x y = (refl, x ∙ sym y)
  one_rounds p [] (s ∷ others) old new new' e x y = absurd (cc)
  one_rounds p (r ∷ rounds) [] old new new' e x y = absurd (cc)
  one_rounds p (r ∷ rounds) (s ∷ others) old new new' e (next, x, more) (next', y, more') =
      let one = same_round p r s old next next' (line_same r.line s.line (lines_of rounds) (lines_of others) e) x y in
      let rest = one_rounds p rounds others next' new new' (lines_same r.line s.line (lines_of rounds) (lines_of others) e) (subst (λ (h : Hall). RoundsLead p rounds h new) one.1 more) more' in
      (ap (λ (a : Round). a ∷ rounds) one.0 ∙ ap (λ (l : List Round). s ∷ l) rest.0, rest.1)

  one_pair : (p q : Pair) (old new new' : Hall) → Enters p old new → Enters q old new' → (p ≡ q) × (new ≡ new')
  one_pair p q old new new' (one, x, more) (one', y, more') =
      let first = one_step Enter (Entered p.listener) (Entered q.listener) old one one' x y in
      let second = one_step Enter (Entered p.sender) (Entered q.sender) one' new new' (subst (λ (h : Hall). Makes Enter (Entered p.sender) h new) first.1 more) more' in
      let is : p ≡ q = ap (λ (n : ℕ). let a : Pair = record { listener = n; sender = p.sender } in a) (entered_same p.listener q.listener first.0)
      ∙ ap (λ (n : ℕ). let a : Pair = record { listener = q.listener; sender = n } in a) (entered_same p.sender q.sender second.0) in
      (is, second.1)

  one_drive : (n seed : ℕ) (old new new' : Hall) (s t : Summary) → Drives n seed old new s → Drives n seed old new' t → s ≡ t
  one_drive n seed old new new' s t x y =
      let pair = one_pair x.pair y.pair old x.start y.start x.enters y.enters in
      let moved = subst (λ (h : Hall). RoundsLead y.pair x.rounds h new) pair.1 (subst (λ (p : Pair). RoundsLead p x.rounds x.start new) pair.0 x.leads) in
      let rounds = one_rounds y.pair x.rounds y.rounds y.start new new' (x.asked ∙ sym y.asked) moved y.leads in
      let commands = x.commands ∙ sym y.commands in
      let objects = x.objects ∙ ap (λ (h : Hall). length h.world.objects) rounds.1 ∙ sym y.objects in
      let told = x.messages ∙ ap (λ (l : List Round). capped (messages l)) rounds.0 ∙ sym y.messages in
      let given = x.bytes ∙ ap (λ (l : List Round). capped (bytes l)) rounds.0 ∙ sym y.bytes in
      ap (λ (n : ℕ). let a : Summary = record { commands = n; objects = s.objects; messages = s.messages; bytes = s.bytes } in a) commands
      ∙ ap (λ (n : ℕ). let a : Summary = record { commands = t.commands; objects = n; messages = s.messages; bytes = s.bytes } in a) objects
      ∙ ap (λ (n : ℕ). let a : Summary = record { commands = t.commands; objects = t.objects; messages = n; bytes = s.bytes } in a) told
      ∙ ap (λ (n : ℕ). let a : Summary = record { commands = t.commands; objects = t.objects; messages = t.messages; bytes = n } in a) given

  pub one_out : (n seed : ℕ) (out other : Bytes) → IsLoadOut n seed out → IsLoadOut n seed other → out ≡ other
  one_out n seed out other x y =
      x.is ∙ ap (λ (s : Summary). summary_text s) (one_drive n seed (opening_hall empty_world 0) x.last y.last x.summary y.summary x.drives y.drives) ∙ sym y.is
