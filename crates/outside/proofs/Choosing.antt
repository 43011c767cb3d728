-- What a choice makes of the calls of a disk is one of the images that a crash may leave.
use Rattle.std.proofs.Common.{◌≡◌, ◌-◌, ◌≤◌, ◌/◌, ◌%◌, ◌==◌, ◌∙◌, ℕ, Bool, true, false, not, if◌then◌else◌, List, [], ◌∷◌, ◌++◌, length, take, drop, reverse, replicate, refl, sym, ap, subst, arith, length-drop, append_assoc, take-append-drop}
use Rattle.std.specs.List.{list_any}
use Rattle.std.proofs.lemmas.List.{reverse-append, reverse-reverse, length-reverse, length-replicate, drop_at, append-nil}
use Rattle.outside.specs.declared.sides.Side.{Side}
use Rattle.outside.specs.declared.sides.Side.TheVariants.{A, B}
use Rattle.outside.specs.declared.disk_calls.Call.{Call}
use Rattle.outside.specs.declared.disk_calls.Call.TheVariants.{Look, Write, Cut, Sync}
use Rattle.outside.specs.Sides.{Sides}
use Rattle.outside.specs.Disks.{write_over, Torn, CutOrNot}
use Rattle.outside.specs.DiskCalls.{done, read_after, IsImage, calls_until, syncs, is_open, with_ones, done_by, chosen}
use Rattle.outside.specs.SideLaws.{on_with, on_self}
use Rattle.outside.specs.WriteLaws.{torn_done, torn_self, cut_done, cut_not}

-- an image, of which each side that is synced later reads as the disk does
pub record Leads (start : Sides) (earlier later : List Call) (c : Sides) : Type 0 where
  pub image : IsImage start earlier c
  pub a : list_any (syncs A) later ≡ true → c.a ≡ (read_after start earlier).a
  pub b : list_any (syncs B) later ≡ true → c.b ≡ (read_after start earlier).b

any_later : (side : Side) (call : Call) (later : List Call) → list_any (syncs side) later ≡ true → list_any (syncs side) (call ∷ later) ≡ true
any_later side call later e = grind (arith, e)

not_synced : {P : Type 0} (side : Side) (later : List Call) → not (list_any (syncs side) later) ≡ true → list_any (syncs side) later ≡ true → P
not_synced side later is_open synced = absurd (let clash : true ≡ false = sym is_open ∙ ap not synced in cc)

-- a call that happened
happens : (start c : Sides) (earlier : List Call) (call : Call) (later : List Call) → Leads start earlier (call ∷ later) c → Leads start (call ∷ earlier) later (done call c)
happens start c earlier Look later h = record { image = h.image; a = λ e. h.a (any_later A Look later e); b = λ e. h.b (any_later B Look later e) }
happens start c earlier (Write A at piece) later h = record {
  image = (c, h.image, on_with A (Torn at (length piece)) c (write_over at piece c.a) (torn_done at piece c.a));
  a = λ e. ap (λ (l : List ℕ). write_over at piece l) (h.a (any_later A (Write A at piece) later e));
  b = λ e. h.b (any_later B (Write A at piece) later e);
}
happens start c earlier (Write B at piece) later h = record {
  image = (c, h.image, on_with B (Torn at (length piece)) c (write_over at piece c.b) (torn_done at piece c.b));
  a = λ e. h.a (any_later A (Write B at piece) later e);
  b = λ e. ap (λ (l : List ℕ). write_over at piece l) (h.b (any_later B (Write B at piece) later e));
}
happens start c earlier (Cut A len) later h = record {
  image = (c, h.image, on_with A (CutOrNot len) c (take len c.a) (cut_done len c.a));
  a = λ e. ap (λ (l : List ℕ). take len l) (h.a (any_later A (Cut A len) later e));
  b = λ e. h.b (any_later B (Cut A len) later e);
}
happens start c earlier (Cut B len) later h = record {
  image = (c, h.image, on_with B (CutOrNot len) c (take len c.b) (cut_done len c.b));
  a = λ e. h.a (any_later A (Cut B len) later e);
  b = λ e. ap (λ (l : List ℕ). take len l) (h.b (any_later B (Cut B len) later e));
}
happens start c earlier (Sync A) later h = record { image = (h.image, h.a refl); a = λ e. h.a refl; b = λ e. h.b (any_later B (Sync A) later e) }
happens start c earlier (Sync B) later h = record { image = (h.image, h.b refl); a = λ e. h.a (any_later A (Sync B) later e); b = λ e. h.b refl }

-- an open call that did not happen
fails : (start c : Sides) (earlier : List Call) (call : Call) (later : List Call) → is_open call later ≡ true → Leads start earlier (call ∷ later) c → Leads start (call ∷ earlier) later c
fails start c earlier Look later open_ h = absurd (cc)
fails start c earlier (Sync side) later open_ h = absurd (cc)
fails start c earlier (Write A at piece) later open_ h = record {
  image = (c, h.image, on_self A (Torn at (length piece)) (torn_self at (length piece)) c);
  a = not_synced A later open_;
  b = λ e. h.b (any_later B (Write A at piece) later e);
}
fails start c earlier (Write B at piece) later open_ h = record {
  image = (c, h.image, on_self B (Torn at (length piece)) (torn_self at (length piece)) c);
  a = λ e. h.a (any_later A (Write B at piece) later e);
  b = not_synced B later open_;
}
fails start c earlier (Cut A len) later open_ h = record {
  image = (c, h.image, on_self A (CutOrNot len) (cut_not len) c);
  a = not_synced A later open_;
  b = λ e. h.b (any_later B (Cut A len) later e);
}
fails start c earlier (Cut B len) later open_ h = record {
  image = (c, h.image, on_self B (CutOrNot len) (cut_not len) c);
  a = λ e. h.a (any_later A (Cut B len) later e);
  b = not_synced B later open_;
}

torn_ones : (at : ℕ) (piece old : List ℕ) → Torn at (length piece) old (write_over at (replicate (length piece) 1) old)
torn_ones at piece old = subst (λ (n : ℕ). Torn at n old (write_over at (replicate (length piece) 1) old)) (length-replicate (length piece) 1) (torn_done at (replicate (length piece) 1) old)

-- an open call of which the bytes are others
tears : (start c : Sides) (earlier : List Call) (call : Call) (later : List Call) → is_open call later ≡ true → Leads start earlier (call ∷ later) c → Leads start (call ∷ earlier) later (done (with_ones call) c)
tears start c earlier Look later open_ h = happens start c earlier Look later h
tears start c earlier (Sync side) later open_ h = happens start c earlier (Sync side) later h
tears start c earlier (Cut side len) later open_ h = happens start c earlier (Cut side len) later h
tears start c earlier (Write A at piece) later open_ h = record {
  image = (c, h.image, on_with A (Torn at (length piece)) c (write_over at (replicate (length piece) 1) c.a) (torn_ones at piece c.a));
  a = not_synced A later open_;
  b = λ e. h.b (any_later B (Write A at piece) later e);
}
tears start c earlier (Write B at piece) later open_ h = record {
  image = (c, h.image, on_with B (Torn at (length piece)) c (write_over at (replicate (length piece) 1) c.b) (torn_ones at piece c.b));
  a = λ e. h.a (any_later A (Write B at piece) later e);
  b = not_synced B later open_;
}

of_three : (P : Sides → Type 0) (x y z : Sides) → P x → P y → P z → (one two : Bool) → P (if one then x else if two then y else z)
of_three P x y z p q r true two = p
of_three P x y z p q r false true = q
of_three P x y z p q r false false = r

chooses : (start c : Sides) (earlier : List Call) (call : Call) (later : List Call) (digit : ℕ) → is_open call later ≡ true → Leads start earlier (call ∷ later) c → Leads start (call ∷ earlier) later (done_by digit call c)
chooses start c earlier call later digit open_ h =
    of_three (Leads start (call ∷ earlier) later) c (done call c) (done (with_ones call) c) (fails start c earlier call later open_ h) (happens start c earlier call later h) (tears start c earlier call later open_ h) (digit == 0) (digit == 1)

-- later calls before earlier ones, the newest first
abbrev behind : List Call → List Call → List Call
behind earlier [] = earlier
behind earlier (call ∷ later) = behind (call ∷ earlier) later

behind-reverse : (earlier later : List Call) → behind earlier later ≡ reverse later ++ earlier
behind-reverse earlier [] = refl
behind-reverse earlier (call ∷ later) =
    let one : reverse (call ∷ later) ≡ reverse later ++ call ∷ [] = reverse-append (call ∷ []) later in
    behind-reverse (call ∷ earlier) later ∙ sym (append_assoc (reverse later) (call ∷ []) earlier) ∙ ap (λ (l : List Call). l ++ earlier) (sym one)

chosen_behind : (start c : Sides) (earlier later : List Call) (choice : ℕ) → Leads start earlier later c → IsImage start (behind earlier later) (chosen c later choice)
chosen_behind start c earlier [] choice h = h.image
chosen_behind start c earlier (call ∷ later) choice h = by_case (λ d rest. chosen_behind start d (call ∷ earlier) later rest) (is_open call later) refl
  where
    by_case : ((d : Sides) (rest : ℕ) → Leads start (call ∷ earlier) later d → IsImage start (behind (call ∷ earlier) later) (chosen d later rest)) → (open_ : Bool) → is_open call later ≡ open_
        → IsImage start (behind (call ∷ earlier) later) (if open_ then chosen (done_by (choice % 3) call c) later (choice / 3) else chosen (done call c) later choice)
    by_case again true e = again (done_by (choice % 3) call c) (choice / 3) (chooses start c earlier call later (choice % 3) e h)
    by_case again false e = again (done call c) choice (happens start c earlier call later h)

-- what a choice makes of the calls, the oldest first, is one of the images after them
chosen_image : (start : Sides) (calls : List Call) (choice : ℕ) → IsImage start (reverse calls) (chosen start calls choice)
chosen_image start calls choice = subst (λ (l : List Call). IsImage start l (chosen start calls choice)) (behind-reverse [] calls ∙ append-nil (reverse calls)) (chosen_behind start start [] calls choice (record { image = refl; a = λ _. refl; b = λ _. refl }))

pub chosen_after : (start : Sides) (calls : List Call) (choice : ℕ) → IsImage start calls (chosen start (reverse calls) choice)
chosen_after start calls choice = subst (λ (l : List Call). IsImage start l (chosen start (reverse calls) choice)) (reverse-reverse calls) (chosen_image start (reverse calls) choice)

-- the first calls of those that were made
pub calls_until-reverse : (moment : ℕ) (calls : List Call) → moment ≤ length calls → calls_until moment (reverse calls) ≡ reverse (take moment calls)
calls_until-reverse moment calls within =
    let first = take moment calls in
    let last = drop moment calls in
    let parts : reverse calls ≡ reverse last ++ reverse first = sym (ap (λ (l : List Call). reverse l) (take-append-drop moment calls)) ∙ reverse-append first last in
    let many : length (reverse last) ≡ length (reverse calls) - moment = length-reverse last ∙ length-drop moment calls ∙ sym (ap (λ (n : ℕ). n - moment) (length-reverse calls)) in
    ap (λ (l : List Call). drop (length (reverse calls) - moment) l) parts ∙ drop_at (reverse last) (reverse first) (length (reverse calls) - moment) many
