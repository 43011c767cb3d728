-- What is told where memory wanted for reading the words, and of words that begin otherwise.
use Rattle.std.proofs.Common.{◌≡◌, ◌⊎◌, ℕ, Bool, true, false, true≢false, refl, sym, ap, ◌∙◌, subst, List, [], ◌∷◌, inl, inr}
use Rattle.std.specs.Prelude.{Option, None, Some, option_map, option_and_then, IfSome, bytes_eq, codes, if◌then◌else◌}
use Rattle.std.proofs.lemmas.Slice.Eq.{bytes_eq-Decides}
use Rattle.byte_text.specs.Names.{Bytes}
use Rattle.outside.specs.Doors.{DoorState}
use Rattle.outside.specs.Sides.{Sides}
use Rattle.outside.specs.Waits.{WaitState}
use Rattle.world_model.specs.Seats.{Knows}
use Rattle.journal.specs.declared.openings.OpenFault.TheVariants as fault_of
use Rattle.tile_top.specs.Loads.{Loads}
use Rattle.tile_top.specs.LoadWords.{load_app, load_in, load_of}
use Rattle.tile_top.specs.declared.workloads.LoadWords.{LoadWords}
use Rattle.replay_run.specs.declared.halts.Halt.{Halt}
use Rattle.replay_run.specs.declared.halts.Halt.TheVariants as halted
use Rattle.serve_run.specs.Ends.{IsEnd, memory_line}
use Rattle.serve_run.specs.Options.{begins_with, rows_taken}
use Rattle.serve_run.specs.Words.{Serve, serve_of, serve_taken, ws_taken}
use Rattle.tile_top.specs.Fronts.{Fronts}
use Rattle.tile_top.proofs.Fronting.{damaged_as, unspent_as}

-- words that begin so are not another one alone
pub not_alone : (begins : List Bytes → Bool) (words : List Bytes) (name : Bytes) → begins (name ∷ []) ≡ false → begins words ≡ true → words ≡ name ∷ [] → ⊥
not_alone begins words name apart begun is = true≢false (sym begun ∙ ap begins is ∙ apart)

-- words that ask to serve begin so, and ask for no workload
pub serving_of : {A : Type 0} (serve ws : Bool) (o p : Option A) (x : A) → Some x ≡ (if serve then o else if ws then p else None) → (serve ≡ true) ⊎ (ws ≡ true)
serving_of true ws o p x is = inl refl
serving_of false true o p x is = inr refl
serving_of false false o p x is = absurd (cc)

pub begins_alone : (words : List Bytes) (name other : Bytes) → bytes_eq name other ≡ false → begins_with name words ≡ true → begins_with other words ≡ false
begins_alone [] name other apart begun = refl
begins_alone (word ∷ words) name other apart begun = ap (λ (w : Bytes). bytes_eq w other) ((bytes_eq-Decides word name).0 begun) ∙ apart

no_load : (words : List Bytes) → (begins_with (codes "serve") words ≡ true) ⊎ (begins_with (codes "ws") words ≡ true) → begins_with (codes "load") words ≡ false
no_load words (inl serve) = begins_alone words (codes "serve") (codes "load") refl serve
no_load words (inr ws) = begins_alone words (codes "ws") (codes "load") refl ws

pub loads_not : (words : List Bytes) (s : Serve) → Some s ≡ serve_of words → load_of words ≡ None
loads_not words s is = ap (λ (b : Bool). if b then option_and_then load_in (rows_taken load_app words) else None)
    (no_load words (serving_of (begins_with (codes "serve") words) (begins_with (codes "ws") words) (serve_taken words) (ws_taken words) s is))

-- whatever workload is told of, where none was asked for
pub load_unasked : (words : List Bytes) (s : Serve) (held held' : Option Bytes) (status : ℕ) → Some s ≡ serve_of words → IfSome (load_of words) (λ w. Loads w held held' status)
load_unasked words s held held' status is = subst (λ (o : Option LoadWords). IfSome o (λ w. Loads w held held' status)) (sym (loads_not words s is)) tt

-- no hall was made, and nothing was touched
unmade : (tell : Bool) (seen : Option Sides) (Back : Halt → Type 0) (told : Option ℕ) (o : Option Serve) (door : DoorState) (wait : WaitState) (held held' : Option Bytes) (status : ℕ)
    → Back halted.Memory → IsEnd held held' 7 memory_line status → IfSome o (λ s. Fronts tell seen Back told s door door wait wait held held' status None)
unmade tell seen Back told None door wait held held' status back end = tt
unmade tell seen Back told (Some s) door wait held held' status back end = record {
  same_door = refl;
  same_wait = refl;
  why = halted.Memory;
  unspent = unspent_as fault_of.Memory halted.Memory refl;
  damaged = damaged_as seen fault_of.Memory halted.Memory refl (λ (sides : Sides) t side place e. absurd (cc));
  back = back;
  ended = inl end;
}

-- the same, by what is handed out
pub front_wanting : {D F : Type 0} (shows : F → Knows) (tell : Bool) (seen : Option Sides) (IsBack : D → Halt → Type 0) (told : Option ℕ) (o : Option Serve) (door : DoorState) (wait : WaitState) (held held' : Option Bytes) (ended status : ℕ) (disk : D) (left : Option D) (front : Option F)
    → left ≡ Some disk → front ≡ None → status ≡ ended → IsBack disk halted.Memory → IsEnd held held' 7 memory_line ended
    → IfSome o (λ s. Fronts tell seen (λ halt. IfSome left (λ d. IsBack d halt)) told s door door wait wait held held' status (option_map shows front))
front_wanting {D} {F} shows tell seen IsBack told o door wait held held' ended status disk left front is none at back end =
    subst (λ (l : Option D). IfSome o (λ s. Fronts tell seen (λ halt. IfSome l (λ d. IsBack d halt)) told s door door wait wait held held' status (option_map shows front))) (sym is)
    (subst (λ (f : Option F). IfSome o (λ s. Fronts tell seen (IsBack disk) told s door door wait wait held held' status (option_map shows f))) (sym none)
    (subst (λ (n : ℕ). IfSome o (λ s. Fronts tell seen (IsBack disk) told s door door wait wait held held' n None)) (sym at)
    (unmade tell seen (IsBack disk) told o door wait held held' ended back end)))

-- whatever workload was asked for
pub load_wanting : (o : Option LoadWords) (held held' : Option Bytes) (ended status : ℕ) → status ≡ ended → IsEnd held held' 7 memory_line ended
    → IfSome o (λ w. Loads w held held' status)
load_wanting None held held' ended status at end = tt
load_wanting (Some w) held held' ended status at end = subst (λ (n : ℕ). Loads w held held' n) (sym at) (inr end)
