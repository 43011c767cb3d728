-- What a link in memory shows: a script that is played, and what came of it.
use Rattle.std.specs.Prelude.{◌≡◌, ◌==◌, ◌-◌, ◌^◌, ℕ, Bool, List, [], ◌∷◌, length, min, Some, Result, Ok, IsErr, IfOk, if◌then◌else◌}
use Rattle.outside.specs.Links.{LinkState}
use Rattle.outside.specs.declared.links.Got.{Got}
use Rattle.outside.specs.declared.links.Got.TheVariants as got
use Rattle.outside.specs.declared.links.Sent.{Sent}
use Rattle.outside.specs.declared.links.Sent.TheVariants as sent
use Rattle.outside.specs.declared.scripted_links.CallerScript.{CallerScript}
use Rattle.outside.specs.declared.scripted_links.Move.{Move}
use Rattle.outside.specs.declared.scripted_links.Move.TheVariants as move

-- a link: its caller, the bytes to be read and those that were written, whether the caller stays behind its last byte, how each read and
-- each write to come moves, and how often it failed
pub record Scripted : Type 0 where
  pub caller : ℕ
  pub left : List ℕ
  pub held : List ℕ
  pub stays : Bool
  pub reads : List Move
  pub writes : List Move
  pub faults : ℕ

-- the link to a caller who does so, before any call
abbrev pub begun : ℕ → CallerScript → Scripted
begun caller script = record {
  caller = caller;
  left = script.sends.items;
  held = [];
  stays = script.stays;
  reads = script.reads.items;
  writes = script.writes.items;
  faults = 0;
}

abbrev pub shown : Scripted → LinkState
shown s = record { caller = s.caller; left = Some s.left; held = Some s.held; faults = s.faults }

-- how the next call moves, as much as it may behind the end of the script
abbrev pub next_move : List Move → Move
next_move [] = move.Most (2 ^ 64 - 1)
next_move (m ∷ moves) = m

abbrev pub later : {A : Type 0} → List A → List A
later [] = []
later (x ∷ xs) = xs

-- what a read answers that may bring n bytes
abbrev pub got_of : ℕ → List ℕ → Bool → ℕ → Got
got_of n left stays room =
    if n == 0 then got.Later else
    if length left == 0 then (if stays then got.Later else got.End)
    else got.Bytes (min (min n room) (length left))

abbrev pub ReadBy : {E : Type 0} → Move → Scripted → ℕ → Result Got E → Type 0
ReadBy move.Fails s room r = IsErr r
ReadBy move.Later s room r = r ≡ Ok got.Later
ReadBy (move.Most n) s room r = r ≡ Ok (got_of n s.left s.stays room)

-- what a write answers that may take n bytes of so many
abbrev pub sent_of : ℕ → ℕ → Sent
sent_of n most = if n == 0 then sent.Later else sent.Bytes (min n most)

-- want of memory is free
abbrev pub WrittenBy : {E : Type 0} → Move → ℕ → Result Sent E → Type 0
WrittenBy move.Fails most r = IsErr r
WrittenBy move.Later most r = r ≡ Ok sent.Later
WrittenBy (move.Most n) most r = IfOk r (λ s. s ≡ sent_of n most)
