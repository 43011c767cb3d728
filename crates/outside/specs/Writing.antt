-- Pieces that are written one behind another, where the contents are told.
use Rattle.std.proofs.Common.{◌≡◌, ℕ, ◌-◌, List, [], ◌++◌, length, take, drop, Some, None, sym, ap, ◌∙◌, arith, length-drop, append_assoc}
use Rattle.std.proofs.Common.{take-append-drop}
use Rattle.std.specs.Prelude.{Option}
use Rattle.std.proofs.lemmas.List.{take_all, append-nil}
use mathlib.Core.List.{IsPrefix}
use Rattle.std.specs.Io.KnownBytes.{Keeps, Appends}

pub appends_more : (old mid new : Option (List ℕ)) (a b : List ℕ) → Appends old mid a → Appends mid new b → Appends old new (a ++ b)
appends_more None mid new a b p q = tt
appends_more (Some xs) None new a b p q = absurd p
appends_more (Some xs) (Some ys) None a b p q = absurd q
appends_more (Some xs) (Some ys) (Some zs) a b p q = q ∙ ap (λ (l : List ℕ). l ++ b) p ∙ append_assoc xs a b

pub appends_nothing : (held : Option (List ℕ)) → Appends held held []
appends_nothing None = tt
appends_nothing (Some xs) = sym (append-nil xs)

pub appends_kept : (held0 held held' : Option (List ℕ)) (bs : List ℕ) → Appends held0 held bs → Keeps held held' → Appends held0 held' bs
appends_kept None held held' bs a k = tt
appends_kept (Some xs) None held' bs a k = absurd a
appends_kept (Some xs) (Some ys) None bs a k = absurd k
appends_kept (Some xs) (Some ys) (Some zs) bs a k = k ∙ a

-- a first part of the bytes was written
abbrev pub AppendsPart : Option (List ℕ) → Option (List ℕ) → List ℕ → Type 0
AppendsPart held held' bytes = (part : List ℕ) × IsPrefix part bytes × Appends held held' part

-- what was written of the piece so far, and what is left of it
pub record Written (held0 held : Option (List ℕ)) (piece rest : List ℕ) : Type 0 where
  pub done : List ℕ
  pub split : piece ≡ done ++ rest
  pub held_is : Appends held0 held done

pub written_more : (held0 held held' : Option (List ℕ)) (piece rest : List ℕ) (n : ℕ) → Written held0 held piece rest
    → Appends held held' (take n rest) → Written held0 held' piece (take (length rest - n) (drop n rest))
written_more held0 held held' piece rest n w a = record {
  done = w.done ++ take n rest;
  split = w.split ∙ ap (λ (l : List ℕ). w.done ++ l) (sym (take-append-drop n rest)) ∙ sym (append_assoc w.done (take n rest) (drop n rest))
      ∙ ap (λ (l : List ℕ). (w.done ++ take n rest) ++ l) (sym (take_all (length rest - n) (drop n rest) (omega (arith, length-drop n rest))));
  held_is = appends_more held0 held held' w.done (take n rest) w.held_is a;
}

pub written_part : (held0 held held' : Option (List ℕ)) (piece rest : List ℕ) → Written held0 held piece rest → Keeps held held'
    → AppendsPart held0 held' piece
written_part held0 held held' piece rest w k = (w.done, (rest, sym w.split), appends_kept held0 held held' w.done w.held_is k)
