-- How a side is read on, and what of it is no record.
use Rattle.std.proofs.Common.{◌≡◌, ◌∙◌, ◌+◌, ℕ, Bool, List, [], ◌∷◌, ◌++◌, length, take, drop, Option, None, refl, sym, ap, subst, arith, length-append, length-take, length-drop, append_assoc, append-nil, take-append-drop}
use Rattle.std.specs.Prelude.{Result, Ok, Err, OnOk}
use Rattle.byte_text.specs.Names.{Bytes}
use Rattle.outside.specs.declared.sides.Side.{Side}
use Rattle.outside.specs.Sides.{Sides}
use Rattle.log_sides.specs.Texts.{open_gate, number_bytes, framed, front_text, gate_place, with_batch}
use Rattle.log_sides.specs.States.{SideIsSafe}
use Rattle.log_sides.specs.Crashing.{leads_self, leads_then}
use Rattle.append_log.specs.Reading.{IsAtGate, IsInBatch}
use Rattle.journal.specs.Openings.{AreWhole, HasNoRecord, IsRefused, Looked}
use Rattle.journal.specs.Replaying.{TookPiece, TookBatch}

module _ {D : Type 0} (crashes : D → Bool) (seen : D → Option Sides) (images : D → Sides → Type 0) (moment : D → ℕ) (left_since : D → ℕ → Sides → Type 0) (faults : D → ℕ) where
  -- no call
  pub looked_self : (side : Side) (disk : D) → Looked crashes seen images moment left_since faults side disk disk
  looked_self side disk = record {
    told = refl;
    later = omega arith;
    safe = λ bytes safe. safe;
    same = λ bytes safe. leads_self crashes seen images moment left_since side (λ x. x ≡ bytes) disk safe;
  }

  -- one run of calls and then another
  pub looked_then : (side : Side) (old mid new : D) → Looked crashes seen images moment left_since faults side old mid
      → Looked crashes seen images moment left_since faults side mid new → Looked crashes seen images moment left_since faults side old new
  looked_then side old mid new one two = record {
    told = two.told ∙ one.told;
    later = omega (arith, one.later, two.later);
    safe = λ bytes safe. two.safe bytes (one.safe bytes safe);
    same = λ bytes safe. leads_then crashes seen images moment left_since side (λ x. x ≡ bytes) old mid new one.told (one.same bytes safe) (two.same bytes (one.safe bytes safe));
  }

  -- on a side that is this one
  pub looked_on : (side other : Side) (old mid new : D) → other ≡ side → Looked crashes seen images moment left_since faults side old mid
      → Looked crashes seen images moment left_since faults other mid new → Looked crashes seen images moment left_since faults side old new
  looked_on side other old mid new is one two =
      looked_then side old mid new one (subst (λ (s : Side). Looked crashes seen images moment left_since faults s mid new) is two)

-- two facts of what was done
pub on_ok_two : {T E : Type 0} {P Q R : Type 0} (r : Result T E) → (P → Q → R) → OnOk r P → OnOk r Q → OnOk r R
on_ok_two (Ok x) f p q = f p q
on_ok_two (Err e) f p q = tt

-- a batch of which this was read, and no byte of it is a record from some place on
pub no_record : (fault : Bytes → Option ℕ) (v g : ℕ) (batches : List Bytes) (part : Bytes) (len left at start place : ℕ) (bytes : Bytes)
    → IsInBatch v g batches part len left at bytes → start ≡ gate_place v g batches + 9 → IsRefused fault start place (part ++ take left (drop at bytes))
    → HasNoRecord fault v g batches bytes place
no_record fault v g batches part len left at start place bytes reading begun refused =
    let behind = drop at bytes in
    let body = take left behind in
    let rest = drop left behind in
    let batch = part ++ body in
    let long : length batch ≡ length part + left = omega (arith, length-append part body, length-take left behind, length-drop at bytes, reading.within, reading.whole) in
    let parts : batch ++ rest ≡ part ++ behind = append_assoc part body rest ∙ ap (λ (l : Bytes). part ++ l) (take-append-drop left behind) in
    let inner : number_bytes (length part + left) ++ (part ++ behind) ≡ framed batch ++ rest =
    ap (λ (l : Bytes). number_bytes (length part + left) ++ l) (sym parts) ∙ ap (λ (n : ℕ). number_bytes n ++ (batch ++ rest)) (sym long) ∙ sym (append_assoc (number_bytes (length batch)) batch rest) in
    record {
      batch = batch;
      rest = rest;
      text = reading.text ∙ ap (λ (l : Bytes). front_text v g batches ++ open_gate ∷ l) inner;
      at = refused.at;
      none = refused.none;
      here = omega (arith, refused.here, begun);
    }

-- the last bytes of a batch were read
pub refused_end : (fault : Bytes → Option ℕ) (start place left at : ℕ) (part bytes : Bytes) → left ≡ 0 → IsRefused fault start place part
    → IsRefused fault start place (part ++ take left (drop at bytes))
refused_end fault start place left at part bytes none refused =
    subst (λ (l : Bytes). IsRefused fault start place l) (sym (ap (λ (n : ℕ). part ++ take n (drop at bytes)) none ∙ append-nil part)) refused

-- one whole batch more
pub whole_more : (fault : Bytes → Option ℕ) (batches : List Bytes) (batch : Bytes) → AreWhole fault batches → fault batch ≡ None → AreWhole fault (with_batch batches batch)
whole_more fault [] batch whole one = (one, tt)
whole_more fault (b ∷ batches) batch whole one = (whole.0, whole_more fault batches batch whole.1 one)

-- some batches of a side were taken
pub record TookSome {R D : Type 0} (took : R → ℕ → List Bytes → Bytes → Type 0) (fault : ℕ → Bytes → Option ℕ) (crashes : D → Bool) (seen : D → Option Sides) (images : D → Sides → Type 0) (side : Side) (version len at at' : ℕ) (disk : D) (replay : R) : Type 0 where
  pub batches : List Bytes
  pub taken : took replay version batches []
  pub whole : AreWhole (fault version) batches
  pub read : (g : ℕ) (bytes : Bytes) → SideIsSafe (crashes disk) (seen disk) (images disk) side (λ x. x ≡ bytes) → IsAtGate version g [] len at bytes → IsAtGate version g batches len at' bytes

module _ {R D : Type 0} (took : R → ℕ → List Bytes → Bytes → Type 0) (fault : ℕ → Bytes → Option ℕ) (crashes : D → Bool) (seen : D → Option Sides) (images : D → Sides → Type 0) (moment : D → ℕ) (left_since : D → ℕ → Sides → Type 0) (faults : D → ℕ) where
  -- nothing was read of a batch yet
  pub piece_none : (side : Side) (version : ℕ) (batches : List Bytes) (len left at : ℕ) (disk : D) (replay : R) → took replay version batches []
      → TookPiece took fault crashes seen images disk side version batches [] len left at left at replay
  piece_none side version batches len left at disk replay taken = record { more = []; taken = taken; read = λ g bytes safe inside. inside }

  -- one piece and then another
  pub piece_then : (side other : Side) (version : ℕ) (batches : List Bytes) (len len' left at left' at' left'' at'' : ℕ) (old now : D) (replay replay' : R) → other ≡ side → len' ≡ len
      → Looked crashes seen images moment left_since faults side old now
      → (one : TookPiece took fault crashes seen images old side version batches [] len left at left' at' replay)
      → TookPiece took fault crashes seen images now other version batches one.more len' left' at' left'' at'' replay'
      → TookPiece took fault crashes seen images old side version batches [] len left at left'' at'' replay'
  piece_then side other version batches len len' left at left' at' left'' at'' old now replay replay' is same looked one two = record {
    more = one.more ++ two.more;
    taken = two.taken;
    read = λ g bytes safe inside.
        subst (λ (n : ℕ). IsInBatch version g batches (one.more ++ two.more) n left'' at'' bytes) same
        (two.read g bytes (subst (λ (s : Side). SideIsSafe (crashes now) (seen now) (images now) s (λ x. x ≡ bytes)) (sym is) (looked.safe bytes safe))
        (subst (λ (n : ℕ). IsInBatch version g batches one.more n left' at' bytes) (sym same) (one.read g bytes safe inside)));
  }

  pub some_none : (side : Side) (version len at : ℕ) (disk : D) (replay : R) → took replay version [] [] → TookSome took fault crashes seen images side version len at at disk replay
  some_none side version len at disk replay taken = record { batches = []; taken = taken; whole = tt; read = λ g bytes safe first. first }

  -- and one more
  pub some_more : (side other : Side) (version len len' at at' mid left next : ℕ) (old now later : D) (replay replay' : R) → other ≡ side → len' ≡ len
      → Looked crashes seen images moment left_since faults side old now → Looked crashes seen images moment left_since faults side now later
      → (some : TookSome took fault crashes seen images side version len at at' old replay)
      → ((g : ℕ) (bytes : Bytes) → SideIsSafe (crashes now) (seen now) (images now) side (λ x. x ≡ bytes) → IsAtGate version g some.batches len at' bytes
      → IsInBatch version g some.batches [] len' left mid bytes)
      → TookBatch took fault crashes seen images later other version some.batches len' left mid next replay'
      → TookSome took fault crashes seen images side version len at next old replay'
  some_more side other version len len' at at' mid left next old now later replay replay' is same looked again some gate one = record {
    batches = with_batch some.batches one.batch;
    taken = one.taken;
    whole = whole_more (fault version) some.batches one.batch some.whole one.whole;
    read = λ g bytes safe first.
        subst (λ (n : ℕ). IsAtGate version g (with_batch some.batches one.batch) n next bytes) same
        (one.read g bytes (subst (λ (s : Side). SideIsSafe (crashes later) (seen later) (images later) s (λ x. x ≡ bytes)) (sym is) (again.safe bytes (looked.safe bytes safe)))
        (gate g bytes (looked.safe bytes safe) (some.read g bytes safe first)));
  }
