-- What a channel watches: the words behind its options.
use Rattle.std.proofs.Common.{◌≡◌, Bool, true, false, not, inl, inr, refl, sym, ◌∙◌, ap, subst, List, [], ◌∷◌, ◌++◌}
use Rattle.std.specs.Prelude.{codes, Option, Some, None, is_none, is_some, if◌then◌else◌, ◌&&◌, Result, Ok, Err}
use Rattle.std.proofs.lemmas.List.{append-nil}
use Rattle.byte_text.specs.Names.{Bytes, is_word}
use Rattle.world_data.specs.declared.channels.Kind.{Kind}
use Rattle.world_data.specs.declared.channels.Kind.TheVariants as kind
use Rattle.world_model.specs.Grammar.{Form, Reading, runs_out, a_word, ◌>>=◌, ◌>>◌, where_, word, live}
use Rattle.world_model.specs.Commands.{AreaRead, FenceOptions}
use Rattle.world_model.specs.declared.commands.Command.{Command}
use Rattle.world_model.specs.FormLaws.{Each}
use Rattle.cmd_words.specs.Progress.{Place, all_words, IsBehind, Reads, ParsesAhead, IsWordDue, IsNotDue, IsRefusal, answers}
use Rattle.cmd_words.specs.Areas.{an_area}
use Rattle.cmd_words.specs.FenceWords.{option_name, IsApart}
use Rattle.cmd_words.specs.FenceAreas.{around, beside, given_area, near_area, watched, fence_area}
use Rattle.cmd_words.specs.declared.fence_areas.FenceArea.{FenceArea}
use Rattle.cmd_words.specs.declared.fence_areas.FenceArea.TheVariants as area
use Rattle.cmd_words.specs.declared.fence_options.FenceWord.{FenceWord}
use Rattle.cmd_words.specs.declared.fence_options.FenceWord.TheVariants as option
use Rattle.cmd_words.proofs.Gets.{lower_word, moves, moves_on}
use Rattle.cmd_words.proofs.OptionWords.{nothing, absent_when}
use Rattle.cmd_words.proofs.Ahead.{next_read, none_ahead}
use Rattle.cmd_words.specs.declared.faults.CommandFault.{CommandFault}

-- a form that a word leads to
module _ {A : Type 0} (form : (A → Form Command) → Form Command) (f : Form A) (old mid new : Place) (w : Bytes) (b : IsBehind w old mid) (goes : (next : A → Form Command) (more : List Bytes) → form next (w ∷ more) ≡ (f >>= next) more) where
  pub led_to : (r : Result A CommandFault) → Reads f mid new r → ParsesAhead form old new r
  led_to (Ok a) k = (moves_on old mid new (moves w old mid b) k.0, λ next h. k.1 next (next_read (form next) (f >>= next) old mid w b (λ more. ap live (goes next more)) h))
  led_to (Err why) (inl m) = inl m
  led_to (Err why) (inr r) = inr (λ next h d. subst (λ ws. answers ws ≡ Err why) (moves w old mid b).words (r next (next_read (form next) (f >>= next) old mid w b (λ more. ap live (goes next more)) h)))

-- POINT or ROAM

module _ (o : FenceOptions) where
  pub point_goes : (w : Bytes) → is_word w (codes "POINT") ≡ true → not o.nodwell ≡ true → (next : FenceArea → Form Command) (more : List Bytes) → near_area o next (w ∷ more) ≡ (around >>= next) more
  point_goes w e x next more = rw (lower_word w (codes "POINT") e, x, nothing (is_none o.detect)) (simp append-nil)

  pub roam_goes : (w : Bytes) → is_word w (codes "ROAM") ≡ true → is_none o.detect ≡ true → (next : FenceArea → Form Command) (more : List Bytes) → near_area o next (w ∷ more) ≡ (beside >>= next) more
  roam_goes w e x next more = rw (lower_word w (codes "ROAM") e, x, nothing (not o.nodwell)) (simp append-nil)

  near_stops : (next : FenceArea → Form Command) (w : Bytes) (rest more : List Bytes) → IsNotDue (not o.nodwell) (codes "POINT") (w ∷ rest) → IsNotDue (is_none o.detect) (codes "ROAM") (w ∷ rest) → near_area o next (w ∷ more) ≡ []
  near_stops next w rest more p r =
      rw (
        absent_when (not o.nodwell) (is_word w (codes "POINT")) ((word (codes "POINT") >> (around >>= next)) (w ∷ more)) p (λ e. rw e refl),
        absent_when (is_none o.detect) (is_word w (codes "ROAM")) ((word (codes "ROAM") >> (beside >>= next)) (w ∷ more)) r (λ e. rw e refl),
      ) refl

  pub no_near : (p q r new : Place) (why : CommandFault) → (q ≡ p) × IsNotDue (not o.nodwell) (codes "POINT") p.left → (r ≡ q) × IsNotDue (is_none o.detect) (codes "ROAM") q.left → IsRefusal (all_words r) r.left why → ParsesAhead (near_area o) p new (Err why)
  no_near p q r new why point roam f = none_ahead (near_area o) p r new why (roam.0 ∙ point.0)
      (λ next w rest l. ap live (near_stops next w rest [] (subst (IsNotDue (not o.nodwell) (codes "POINT")) l point.1)
      (subst (IsNotDue (is_none o.detect) (codes "ROAM")) (ap (λ (x : Place). x.left) point.0 ∙ l) roam.1))) f

-- an area

pub given_found : (old new : Place) (a : AreaRead) → ParsesAhead an_area old new (Ok a) → ParsesAhead given_area old new (Ok (area.Given a))
given_found old new a k = (k.0, λ next h. k.1 (λ x. next (area.Given x)) h)

pub given_refused : (old new : Place) (why : CommandFault) → ParsesAhead an_area old new (Err why) → ParsesAhead given_area old new (Err why)
given_refused old new why (inl m) = inl m
given_refused old new why (inr r) = inr (λ next h d. r (λ x. next (area.Given x)) h d)

-- behind FENCE, and without it

pub fenced : (kind : Kind) (o : FenceOptions) → o.fence ≡ true → (old new : Place) (r : Result FenceArea CommandFault) → ParsesAhead (watched kind o) old new r → ParsesAhead (fence_area kind o) old new r
fenced kind o e old new r k = subst (λ (b : Bool). ParsesAhead (λ next. where_ b (watched kind o next)) old new r) (sym e) k

unfenced_stops : (kind : Kind) (o : FenceOptions) → o.fence ≡ false → (next : FenceArea → Form Command) (words : List Bytes) → fence_area kind o next words ≡ []
unfenced_stops kind o e next words = rw e refl

pub unfenced : (kind : Kind) (o : FenceOptions) → o.fence ≡ false → (p new : Place) (why : CommandFault) → IsRefusal (all_words p) p.left why → ParsesAhead (fence_area kind o) p new (Err why)
unfenced kind o e p new why f = none_ahead (fence_area kind o) p p new why refl (λ next w rest l. ap live (unfenced_stops kind o e next (w ∷ []))) f

-- no area begins with the word of an option

module _ (o : FenceOptions) (next : FenceArea → Form Command) (w : Bytes) (more : List Bytes) where
  no_given : (option : FenceWord) → is_word w (option_name option) ≡ true → given_area next (w ∷ more) ≡ []
  no_given option.Match e = rw (lower_word w (codes "MATCH") e) refl
  no_given option.Where e = rw (lower_word w (codes "WHERE") e) refl
  no_given option.WhereIn e = rw (lower_word w (codes "WHEREIN") e) refl
  no_given option.Fence e = rw (lower_word w (codes "FENCE") e) refl
  no_given option.Detect e = rw (lower_word w (codes "DETECT") e) refl
  no_given option.Commands e = rw (lower_word w (codes "COMMANDS") e) refl
  no_given option.NoDwell e = rw (lower_word w (codes "NODWELL") e) refl

  no_point_or_roam : (option : FenceWord) → is_word w (option_name option) ≡ true → near_area o next (w ∷ more) ≡ []
  no_point_or_roam option.Match e = rw (lower_word w (codes "MATCH") e, nothing (not o.nodwell), nothing (is_none o.detect)) refl
  no_point_or_roam option.Where e = rw (lower_word w (codes "WHERE") e, nothing (not o.nodwell), nothing (is_none o.detect)) refl
  no_point_or_roam option.WhereIn e = rw (lower_word w (codes "WHEREIN") e, nothing (not o.nodwell), nothing (is_none o.detect)) refl
  no_point_or_roam option.Fence e = rw (lower_word w (codes "FENCE") e, nothing (not o.nodwell), nothing (is_none o.detect)) refl
  no_point_or_roam option.Detect e = rw (lower_word w (codes "DETECT") e, nothing (not o.nodwell), nothing (is_none o.detect)) refl
  no_point_or_roam option.Commands e = rw (lower_word w (codes "COMMANDS") e, nothing (not o.nodwell), nothing (is_none o.detect)) refl
  no_point_or_roam option.NoDwell e = rw (lower_word w (codes "NODWELL") e, nothing (not o.nodwell), nothing (is_none o.detect)) refl

  no_watched : (kind : Kind) (option : FenceWord) → is_word w (option_name option) ≡ true → watched kind o next (w ∷ more) ≡ []
  no_watched kind.Within option e = no_given option e
  no_watched kind.Intersects option e = no_given option e
  no_watched kind.Near option e = no_point_or_roam option e

  pub no_fence_area : (kind : Kind) (option : FenceWord) → is_word w (option_name option) ≡ true → fence_area kind o next (w ∷ more) ≡ []
  no_fence_area kind option e = rw (no_watched kind option e) (nothing o.fence)

-- where the words run out, words are due

abbrev pub SomeDue : List (Reading Command) → Type 0
SomeDue rs = (first : Reading Command) × (others : List (Reading Command)) × (rs ≡ first ∷ others) × Each IsWordDue (first ∷ others)

near_due : (nodwell : Bool) (detect : Option (List Bytes)) → (nodwell && is_some detect) ≡ false → SomeDue ((if not nodwell then runs_out a_word ∷ [] else []) ++ ((if is_none detect then runs_out a_word ∷ [] else []) ++ []))
near_due false None e = (runs_out a_word, runs_out a_word ∷ [], refl, (tt, (tt, tt)))
near_due false (Some l) e = (runs_out a_word, [], refl, (tt, tt))
near_due true None e = (runs_out a_word, [], refl, (tt, tt))
near_due true (Some l) e = absurd cc

pub watched_due : (kind : Kind) (o : FenceOptions) → IsApart o → (next : FenceArea → Form Command) → SomeDue (watched kind o next [])
watched_due kind.Within o apart next = (runs_out a_word, runs_out a_word ∷ runs_out a_word ∷ runs_out a_word ∷ [], refl, (tt, (tt, (tt, (tt, tt)))))
watched_due kind.Intersects o apart next = (runs_out a_word, runs_out a_word ∷ runs_out a_word ∷ runs_out a_word ∷ [], refl, (tt, (tt, (tt, (tt, tt)))))
watched_due kind.Near o apart next = near_due o.nodwell o.detect apart
