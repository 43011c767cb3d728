use Rattle.std.proofs.Common.{◌≡◌, ℕ, Bool, true, List, [], ◌∷◌, ◌++◌, length, take, drop, sym, ap, ◌∙◌, append-nil, arith}
use Rattle.std.specs.Prelude.{if◌then◌else◌}
use Rattle.std.proofs.lemmas.List.{take_all, take-append-drop}
use Rattle.byte_text.specs.Names.{Bytes}
use Rattle.world_data.specs.Frames.{frame_bytes}
use Rattle.session_table.specs.Mail.{Mail, has_room_left}
use Rattle.session_table.proofs.Mails.{bytes_both}
use Rattle.session_table.proofs.mailboxes.Mailbox.stage.Goals as goal

-- where nothing stands behind the first ones these are all
no_more : (s : ℕ) (xs : List Bytes) → drop s xs ≡ [] → xs ≡ take s xs
no_more s xs none = sym (take-append-drop s xs) ∙ ap (λ (ys : List Bytes). take s xs ++ ys) none ∙ append-nil (take s xs)

one_more : (f : Bytes) → frame_bytes (f ∷ []) ≡ length f
one_more f = omega arith

pub invariant_of-self-2 : goal.invariant_of-self-2
invariant_of-self-2 c =
    let k = c.self.inside in
    let xs = k.outbox.staged in
    let f = c.args.frame.now in
    let none : drop k.staged xs ≡ [] = ap (λ (m : Mail). m.replies) (c.self.view_is ∙ c.clear_replies.ensures) in
    let all : c.stage.new.self.staged ≡ take k.staged xs ++ f ∷ [] = c.in_ok-stage.ensures.ok ∙ ap (λ (ys : List Bytes). ys ++ f ∷ []) (no_more k.staged xs none) in
    let count = c.staged-self-inside.ensures in
    let whole : take c.staged-self-inside.result c.stage.new.self.staged ≡ c.stage.new.self.staged = take_all c.staged-self-inside.result c.stage.new.self.staged (omega (arith, count)) in
    let bytes = ap frame_bytes (whole ∙ all) ∙ bytes_both (take k.staged xs) (f ∷ []) in
    let one = one_more f in
    let was = c.self.invariant.1 in
    (omega (arith, count), omega (arith, bytes, one, was))

pub returns-clause-ok : goal.returns-clause-ok
returns-clause-ok c =
    let k = c.self.inside in
    let xs = k.outbox.staged in
    let f = c.args.frame.now in
    let m = c.args.self.now in
    let none : drop k.staged xs ≡ [] = ap (λ (n : Mail). n.replies) (c.self.view_is ∙ c.clear_replies.ensures) in
    let same : take k.staged xs ≡ m.staged = ap (λ (n : Mail). n.staged) (c.self.view_is ∙ c.clear_replies.ensures) in
    let all : c.stage.new.self.staged ≡ m.staged ++ f ∷ [] = c.in_ok-stage.ensures.ok ∙ ap (λ (ys : List Bytes). ys ++ f ∷ []) (no_more k.staged xs none ∙ same) in
    let count = c.staged-self-inside.ensures in
    let whole : take c.staged-self-inside.result c.stage.new.self.staged ≡ c.stage.new.self.staged = take_all c.staged-self-inside.result c.stage.new.self.staged (omega (arith, count)) in
    let room : has_room_left m ≡ true = sym (ap has_room_left c.clear_replies.ensures) ∙ sym c.has_room_left.ensures ∙ c.if-not-has_room_left.false in
    whole ∙ all ∙ ap (λ (b : Bool). if b then m.staged ++ f ∷ [] else m.staged) (sym room)
