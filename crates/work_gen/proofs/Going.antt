-- Rounds, one behind another.
use Rattle.std.proofs.Common.{◌≡◌, ℕ, ◌+◌, List, [], ◌∷◌, ◌++◌, refl, sym, ap, ◌∙◌, subst, arith, append_assoc}
use Rattle.std.proofs.lemmas.List.{map-append}
use Rattle.std.proofs.lemmas.List.Sums.{sum_by-append}
use Rattle.world_model.specs.Halls.{Hall}
use Rattle.work_gen.specs.Frames.{all_of, messages_in, capped}
use Rattle.work_gen.specs.declared.lines.Line.{Line}
use Rattle.work_gen.specs.Rounds.{Round, Goes, RoundsLead, lines_of, messages, bytes, round_bytes}
use Rattle.work_gen.specs.declared.pairs.Pair.{Pair}
use Rattle.work_gen.specs.declared.tallies.Tally.{Tally}
use Rattle.work_gen.proofs.Sums.{cap_assoc}

lines_more : (a b : List Round) → lines_of (a ++ b) ≡ lines_of a ++ lines_of b
lines_more a b = map-append (λ (r : Round). r.line) a b

messages_more : (a b : List Round) → messages (a ++ b) ≡ messages a + messages b
messages_more a b = sum_by-append (λ (r : Round). messages_in (all_of r.heard)) a b

bytes_more : (a b : List Round) → bytes (a ++ b) ≡ bytes a + bytes b
bytes_more a b = sum_by-append round_bytes a b

leads_more : (p : Pair) (a b : List Round) (old mid new : Hall) → RoundsLead p a old mid → RoundsLead p b mid new → RoundsLead p (a ++ b) old new
leads_more p [] b old mid new same y = subst (λ (h : Hall). RoundsLead p b h new) same y
leads_more p (r ∷ a) b old mid new (next, x, more) y = (next, x, leads_more p a b next mid new more y)

module _ (p : Pair) where
  pub goes_none : (old : Hall) (t : Tally) → Goes p [] old old t t
  goes_none old t = record {
    rounds = [];
    asked = refl;
    leads = refl;
    heard = λ n e. let none : n ≡ n + messages [] = omega arith in e ∙ ap (λ (k : ℕ). capped k) none;
    given = λ n e. let none : n ≡ n + bytes [] = omega arith in e ∙ ap (λ (k : ℕ). capped k) none;
  }

  pub goes_more : (a b : List Line) (old mid new : Hall) (t u v : Tally) → Goes p a old mid t u → Goes p b mid new u v → Goes p (a ++ b) old new t v
  goes_more a b old mid new t u v x y = record {
    rounds = x.rounds ++ y.rounds;
    asked = lines_more x.rounds y.rounds ∙ ap (λ (l : List Line). l ++ lines_of y.rounds) x.asked ∙ ap (λ (l : List Line). a ++ l) y.asked;
    leads = leads_more p x.rounds y.rounds old mid new x.leads y.leads;
    heard = λ n e. y.heard (n + messages x.rounds) (x.heard n e) ∙ cap_assoc n (messages x.rounds) (messages y.rounds) ∙ ap (λ (k : ℕ). capped (n + k)) (sym (messages_more x.rounds y.rounds));
    given = λ n e. y.given (n + bytes x.rounds) (x.given n e) ∙ cap_assoc n (bytes x.rounds) (bytes y.rounds) ∙ ap (λ (k : ℕ). capped (n + k)) (sym (bytes_more x.rounds y.rounds));
  }

  -- rounds were made for the first lines of a whole, up to the rest
  pub record GoesTo (whole rest : List Line) (old new : Hall) (t u : Tally) : Type 0 where
    pub front : List Line
    pub goes : Goes p front old new t u
    pub is : front ++ rest ≡ whole

  pub to_start : (whole : List Line) (old : Hall) (t : Tally) → GoesTo whole whole old old t t
  to_start whole old t = record { front = []; goes = goes_none old t; is = refl }

  pub to_next : (whole rest : List Line) (l : Line) (old mid new : Hall) (t u v : Tally) → GoesTo whole (l ∷ rest) old mid t u → Goes p (l ∷ []) mid new u v → GoesTo whole rest old new t v
  to_next whole rest l old mid new t u v g y = record {
    front = g.front ++ l ∷ [];
    goes = goes_more g.front (l ∷ []) old mid new t u v g.goes y;
    is = append_assoc g.front (l ∷ []) rest ∙ g.is;
  }
