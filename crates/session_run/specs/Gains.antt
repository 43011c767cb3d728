-- The entries that a seat gains, one behind another.
use Rattle.std.specs.Prelude.{◌≡◌, ℕ, ◌+◌, ◌<◌, List, [], ◌∷◌, ◌++◌, length, map}
use Rattle.std.proofs.Common.{refl, sym, ap, ◌∙◌, subst, arith, append_assoc, length-append}
use Rattle.std.proofs.lemmas.List.{append-nil}
use Rattle.world_model.specs.Seats.{Knows, Act, act_of, places_from, AddsCalls, Adds}
use Rattle.world_model.specs.declared.events.Event.{Event}
use Rattle.world_model.specs.declared.events.Outcome.{Outcome}
use Rattle.world_model.specs.declared.events.Entry.{Entry}

-- an entry of the seat's own: others may have come between
pub record Makes (a : Act) (old new : Knows) : Type 0 where
  pub between : List Entry
  pub entry : Entry
  pub seen : new.seen ≡ (old.seen ++ between) ++ entry ∷ []
  pub mine : new.mine ≡ old.mine ++ length (old.seen ++ between) ∷ []
  pub is : act_of entry ≡ a
  pub opening : new.opening ≡ old.opening
  pub first : new.first ≡ old.first

-- the seat made these entries, one behind another, and no other
abbrev pub Gains : Knows → Knows → List Act → Type 0
Gains old new [] = new ≡ old
Gains old new (a ∷ acts) = (mid : Knows) × Makes a old mid × Gains mid new acts

pub gains_more : (old mid new : Knows) (a b : List Act) → Gains old mid a → Gains mid new b → Gains old new (a ++ b)
gains_more old mid new [] b p q = subst (λ (k : Knows). Gains k new b) p q
gains_more old mid new (x ∷ a) b p q = (p.0, p.1, gains_more p.0 mid new a b p.2 q)

pub gains_one : (old new : Knows) (a : Act) → Makes a old new → Gains old new (a ∷ [])
gains_one old new a m = (new, m, refl)

pub gains_last : (old mid new : Knows) (a : List Act) (x : Act) → Gains old mid a → Makes x mid new → Gains old new (a ++ x ∷ [])
gains_last old mid new a x g m = gains_more old mid new a (x ∷ []) g (gains_one mid new x m)

same_knows : (a b : Knows) → a.opening ≡ b.opening → a.seen ≡ b.seen → a.mine ≡ b.mine → a.first ≡ b.first → a ≡ b
same_knows a b o s m f =
    ap (λ x. record a { opening = x }) o
    ∙ ap (λ x. record a { opening = b.opening; seen = x }) s
    ∙ ap (λ x. record b { mine = x; first = a.first }) m
    ∙ ap (λ x. record b { first = x }) f

one_place : (seen : List Entry) (e : Entry) → length (seen ++ e ∷ []) ≡ length seen + 1
one_place seen e = length-append seen (e ∷ [])

-- entries at the end of what is seen, with none between
neighbours : (old new : Knows) (entries : List Entry) → new.seen ≡ old.seen ++ entries → new.mine ≡ old.mine
    ++ places_from (length old.seen) (length entries)
    → new.opening ≡ old.opening → new.first ≡ old.first → Gains old new (map act_of entries)
neighbours old new [] seen mine opening first = same_knows new old opening (seen ∙ append-nil old.seen) (mine ∙ append-nil old.mine) first
neighbours old new (e ∷ entries) seen mine opening first =
    let mid : Knows = record old { seen = old.seen ++ e ∷ []; mine = old.mine ++ length old.seen ∷ [] } in (
      mid,
      record {
        between = [];
        entry = e;
        seen = ap (λ (l : List Entry). l ++ e ∷ []) (sym (append-nil old.seen));
        mine = ap (λ (l : List Entry). old.mine ++ length l ∷ []) (sym (append-nil old.seen));
        is = refl;
        opening = refl;
        first = refl;
      },
      neighbours mid new entries
          (seen ∙ sym (append_assoc old.seen (e ∷ []) entries))
          (mine ∙ sym (append_assoc old.mine (length old.seen ∷ []) (places_from (length old.seen + 1) (length entries)))
          ∙ ap (λ (n : ℕ). (old.mine ++ length old.seen ∷ []) ++ places_from n (length entries)) (sym (one_place old.seen e)))
          opening first,
    )

-- the entries of one turn, of which there are some
pub gains_calls : (acts : List Act) (old new : Knows) → 0 < length acts → AddsCalls acts old new → Gains old new acts
gains_calls acts old new some a = subst (λ (l : List Act). Gains old new l) a.are (by a.entries a.seen a.mine a.are)
  where
    by : (entries : List Entry) → new.seen ≡ (old.seen ++ a.between) ++ entries → new.mine ≡ old.mine
        ++ places_from (length (old.seen ++ a.between)) (length entries)
        → map act_of entries ≡ acts → Gains old new (map act_of entries)
    by [] seen mine are = absurd (omega (arith, some, ap (λ (l : List Act). length l) are))
    by (e ∷ entries) seen mine are =
        let s = old.seen ++ a.between in
        let mid : Knows = record old { seen = s ++ e ∷ []; mine = old.mine ++ length s ∷ [] } in (
          mid,
          record { between = a.between; entry = e; seen = refl; mine = refl; is = refl; opening = refl; first = refl },
          neighbours mid new entries
              (seen ∙ sym (append_assoc s (e ∷ []) entries))
              (mine ∙ sym (append_assoc old.mine (length s ∷ []) (places_from (length s + 1) (length entries)))
              ∙ ap (λ (n : ℕ). (old.mine ++ length s ∷ []) ++ places_from n (length entries)) (sym (one_place s e)))
              a.opening a.first,
        )

-- the first of some entries, where nothing comes behind it
first_act : (a b : Act) (more : List Act) → a ∷ more ≡ b ∷ [] → a ≡ b
first_act a b more e = cc

no_more : (a b : Act) (more : List Act) → a ∷ more ≡ b ∷ [] → more ≡ []
no_more a b more e = cc

-- the entry of a call
pub made : (event : Event) (outcome : Outcome) (old new : Knows) → Adds event outcome old new → Makes (event, outcome) old new
made event outcome old new a = by a.entries a.seen a.mine a.are
  where
    act : Act
    act = (event, outcome)

    none : (entries : List Entry) → map act_of entries ≡ [] → entries ≡ []
    none [] e = refl
    none (x ∷ entries) e = absurd (cc)

    by : (entries : List Entry) → new.seen ≡ (old.seen ++ a.between) ++ entries → new.mine ≡ old.mine
        ++ places_from (length (old.seen ++ a.between)) (length entries)
        → map act_of entries ≡ act ∷ [] → Makes act old new
    by [] seen mine are = absurd (cc)
    by (e ∷ entries) seen mine are =
        let nothing = none entries (no_more (act_of e) act (map act_of entries) are) in
        let s = old.seen ++ a.between in
        record {
          between = a.between;
          entry = e;
          seen = seen ∙ ap (λ (l : List Entry). s ++ e ∷ l) nothing;
          mine = mine ∙ ap (λ (l : List Entry). old.mine ++ length s ∷ places_from (length s + 1) (length l)) nothing;
          is = first_act (act_of e) act (map act_of entries) are;
          opening = a.opening;
          first = a.first;
        }
