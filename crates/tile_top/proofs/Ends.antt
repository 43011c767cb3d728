-- The end of a script, with its last line.
use Rattle.std.proofs.Common.{◌≡◌, ◌⊎◌, ℕ, Bool, refl, sym, ap, ◌∙◌, subst, List, [], ◌++◌, ◌∷◌, ◌≤◌, ◌<◌, length, get_or, arith, inl, inr}
use Rattle.std.specs.Prelude.{Option, is_some, map, IsTrue, bytes_eq, true}
use Rattle.std.proofs.lemmas.Bool.Decides.{nat_tests}
use Rattle.std.proofs.lemmas.List.{append-nil}
use Rattle.std.specs.Io.KnownBytes.{Appends}
use Rattle.byte_text.specs.Names.{Bytes}
use Rattle.outside.specs.Sides.{Sides}
use Rattle.outside.specs.Writing.{appends_more}
use Rattle.world_data.specs.declared.worlds.World.{World}
use Rattle.serve_run.specs.Ends.{IsEnd, memory_line}
use Rattle.replay_run.specs.TextLines.{TextLine}
use Rattle.replay_run.specs.Traces.{Deed}
use Rattle.replay_run.specs.Played.{Played}
use Rattle.replay_run.specs.Scripts.{opening}
use Rattle.replay_run.specs.Plays.{AreDone, IsDone, IsRead, IsFaulty, IsBefore, IsHalted, IsWithinLine, IsCut, OnPlay, OnReplay}
use Rattle.replay_run.specs.declared.ends.ReplayEnd.{ReplayEnd}
use Rattle.replay_run.specs.declared.ends.ReplayEnd.TheVariants as ended
use Rattle.replay_run.specs.declared.halts.Halt.{Halt}
use Rattle.replay_run.specs.declared.halts.Halt.TheVariants as halted
use Rattle.world_model.specs.declared.events.CallOutcome.{CallOutcome}
use Rattle.outside.specs.declared.sides.Side.{Side}
use Rattle.tile_top.specs.Tops.{IsDamage, IsHaltEnd, IsReplayEnd, IsStopped, Plays, Replays, status_of, line_of, damaged_line, script_line, read_line}

-- the last line of a damage, of want of memory, of a line that is none of a script, and of a read fault
pub damage_ends : (halt : Halt) (side : Side) (place : ℕ) (held held' : Option Bytes) (text : Bytes) (status : ℕ) → halt ≡ halted.Damaged side place → text ≡ damaged_line side place → IsEnd held held' 6 text status → IsHaltEnd halt held held' status
damage_ends halt side place held held' text status is said e = subst (λ (h : Halt). IsHaltEnd h held held' status) (sym is) (inl (subst (λ (l : Bytes). IsEnd held held' 6 l status) said e))

pub damage_wants : (halt : Halt) (side : Side) (place : ℕ) (held held' : Option Bytes) (status : ℕ) → halt ≡ halted.Damaged side place
    → IsEnd held held' 7 memory_line status → IsHaltEnd halt held held' status
damage_wants halt side place held held' status is e = inr ((side, place, is), e)

pub memory_ends : (halt : Halt) (held held' : Option Bytes) (status : ℕ) → halt ≡ halted.Memory → IsEnd held held' 7 memory_line status
    → IsHaltEnd halt held held' status
memory_ends halt held held' status is e = subst (λ (h : Halt). IsHaltEnd h held held' status) (sym is) (inl e)

pub script_ends : (end : ReplayEnd) (number : ℕ) (held held' : Option Bytes) (text : Bytes) (status : ℕ) → end ≡ ended.Script number → text ≡ script_line number → IsEnd held held' 2 text status → IsReplayEnd end held held' status
script_ends end number held held' text status is said e = subst (λ (h : ReplayEnd). IsReplayEnd h held held' status) (sym is) (inl (subst (λ (l : Bytes). IsEnd held held' 2 l status) said e))

pub read_ends : (end : ReplayEnd) (held held' : Option Bytes) (status : ℕ) → end ≡ ended.ReadFault → IsEnd held held' 3 read_line status → IsReplayEnd end held held' status
read_ends end held held' status is e = subst (λ (h : ReplayEnd). IsReplayEnd h held held' status) (sym is) e

module _ (told : Bool) (first : Played) (Ends : List Deed → Type 0) (left0 left held0 mid held : Option Bytes) where
  -- more was written behind what was done
  done_more : (front : List TextLine) (last : Played) (deeds : List Deed) (tail : Bytes) → AreDone told first held0 mid front last deeds [] → Appends mid held tail → AreDone told first held0 held front last deeds tail
  done_more front last deeds tail d a = record {
    out = d.out;
    runs = d.runs;
    written =
        let same : (d.out ++ []) ++ tail ≡ d.out ++ tail = ap (λ (z : Bytes). z ++ tail) (append-nil d.out) in
        subst (λ (z : Bytes). Appends held0 held z) same (appends_more held0 mid held (d.out ++ []) tail d.written a);
  }

  before_more : (tail : Bytes) → IsBefore told first Ends left0 left held0 mid [] → Appends mid held tail → IsBefore told first Ends left0 left held0 held tail
  before_more tail b a = record { front = b.front; last = b.last; deeds = b.deeds; done = done_more b.front b.last b.deeds tail b.done a; closing = b.closing; closed = b.closed; ends = b.ends; told_is = b.told_is }

  faulty_more : (number : ℕ) (tail : Bytes) → IsFaulty told first Ends left0 left held0 mid number [] → Appends mid held tail → IsFaulty told first Ends left0 left held0 held number tail
  faulty_more number tail f a = record { front = f.front; last = f.last; deeds = f.deeds; done = done_more f.front f.last f.deeds tail f.done a; numbered = f.numbered; closing = f.closing; closed = f.closed; ends = f.ends; told_is = f.told_is }

  read_more : (answered : CallOutcome) (tail : Bytes) → IsRead told first Ends left0 left held0 mid answered [] → Appends mid held tail → IsRead told first Ends left0 left held0 held answered tail
  read_more answered tail r a = record { all = r.all; last = r.last; deeds = r.deeds; done = done_more r.all r.last r.deeds tail r.done a; closed = r.closed; ends = r.ends; told_is = r.told_is }

  halted_more : (halt : Halt) (tail : Bytes) → IsHalted told first Ends left0 left held0 mid halt [] → Appends mid held tail → IsHalted told first Ends left0 left held0 held halt tail
  halted_more halt tail h a = record {
    front = h.front;
    before = h.before;
    deeds = h.deeds;
    done = done_more h.front h.before h.deeds tail h.done a;
    l = h.l;
    part = h.part;
    last = h.last;
    undone = h.undone;
    closing = h.closing;
    closed = h.closed;
    ends = h.ends;
    told_is = h.told_is;
  }

  cut_more : (halt : Halt) (tail : Bytes) → IsCut told first Ends left0 left held0 mid halt [] → Appends mid held tail → IsCut told first Ends left0 left held0 held halt tail
  cut_more halt tail (inl h) a = inl (halted_more halt tail h a)
  cut_more halt tail (inr (inl b)) a = inr (inl (b.0, before_more tail b.1 a))
  cut_more halt tail (inr (inr r)) a = inr (inr (r.0, read_more _ tail r.1 a))

  -- the lines before a faulty one were done
  faulty_before : (number : ℕ) → IsFaulty told first Ends left0 left held0 mid number [] → IsBefore told first Ends left0 left held0 mid []
  faulty_before number f = record {
    front = f.front;
    last = f.last;
    deeds = f.deeds;
    done = f.done;
    closing = f.closing;
    closed = f.closed;
    ends = f.ends;
    told_is = λ text is. let b = f.told_is text is in record { behind = b.behind; is = b.is; read = b.read };
  }

module _ (told : Bool) (first : Played) (Holds : World → Type 0) (Ends : List Deed → Type 0) (ReadFailed : Type 0) (left0 left held0 held : Option Bytes) (status : ℕ) where
  plays_done : status ≡ 0 → IsDone told first Holds Ends left0 left held0 held → Plays told first Holds Ends ReadFailed left0 left held0 held status
  plays_done is d = record { done = λ _. d; script = λ e. absurd (omega (arith, e, is)); read = λ e. absurd (omega (arith, e, is)); write = λ e. absurd (omega (arith, e, is)); disk = λ e. absurd (omega (arith, e, is)); damaged = λ e. absurd (omega (arith, e, is)); memory = λ e. absurd (omega (arith, e, is)); spent = λ e. absurd (omega (arith, e, is)); few = inl is }

  plays_stopped : status ≡ 4 → IsStopped told first Ends ReadFailed left0 left held0 held → Plays told first Holds Ends ReadFailed left0 left held0 held status
  plays_stopped is s = record { done = λ e. absurd (omega (arith, e, is)); script = λ e. absurd (omega (arith, e, is)); read = λ e. absurd (omega (arith, e, is)); write = λ _. s; disk = λ e. absurd (omega (arith, e, is)); damaged = λ e. absurd (omega (arith, e, is)); memory = λ e. absurd (omega (arith, e, is)); spent = λ e. absurd (omega (arith, e, is)); few = inr (inr (inr (inl is))) }

  plays_script : (number : ℕ) → status ≡ 2 → IsFaulty told first Ends left0 left held0 held number (script_line number) → Plays told first Holds Ends ReadFailed left0 left held0 held status
  plays_script number is f = record { done = λ e. absurd (omega (arith, e, is)); script = λ _. (number, f); read = λ e. absurd (omega (arith, e, is)); write = λ e. absurd (omega (arith, e, is)); disk = λ e. absurd (omega (arith, e, is)); damaged = λ e. absurd (omega (arith, e, is)); memory = λ e. absurd (omega (arith, e, is)); spent = λ e. absurd (omega (arith, e, is)); few = inr (inl is) }

  plays_read : status ≡ 3 → IsBefore told first Ends left0 left held0 held read_line → Plays told first Holds Ends ReadFailed left0 left held0 held status
  plays_read is b = record { done = λ e. absurd (omega (arith, e, is)); script = λ e. absurd (omega (arith, e, is)); read = λ _. b; write = λ e. absurd (omega (arith, e, is)); disk = λ e. absurd (omega (arith, e, is)); damaged = λ e. absurd (omega (arith, e, is)); memory = λ e. absurd (omega (arith, e, is)); spent = λ e. absurd (omega (arith, e, is)); few = inr (inr (inl is)) }

  plays_memory : status ≡ 7 → IsBefore told first Ends left0 left held0 held memory_line ⊎ ((halt : Halt) × ((halt ≡ halted.Memory) ⊎ IsDamage halt) × IsCut told first Ends left0 left held0 held halt memory_line) → Plays told first Holds Ends ReadFailed left0 left held0 held status
  plays_memory is m = record { done = λ e. absurd (omega (arith, e, is)); script = λ e. absurd (omega (arith, e, is)); read = λ e. absurd (omega (arith, e, is)); write = λ e. absurd (omega (arith, e, is)); disk = λ e. absurd (omega (arith, e, is)); damaged = λ e. absurd (omega (arith, e, is)); memory = λ _. m; spent = λ e. absurd (omega (arith, e, is)); few = inr (inr (inr (inr (inr (inr (inl is)))))) }

  plays_halt : (halt : Halt) → status ≡ status_of halt → IsCut told first Ends left0 left held0 held halt (line_of halt) → Plays told first Holds Ends ReadFailed left0 left held0 held status
  plays_halt halted.Spent is c = record { done = λ e. absurd (omega (arith, e, is)); script = λ e. absurd (omega (arith, e, is)); read = λ e. absurd (omega (arith, e, is)); write = λ e. absurd (omega (arith, e, is)); disk = λ e. absurd (omega (arith, e, is)); damaged = λ e. absurd (omega (arith, e, is)); memory = λ e. absurd (omega (arith, e, is)); spent = λ _. c; few = inr (inr (inr (inr (inr (inr (inr is)))))) }
  plays_halt halted.DiskFault is c = record { done = λ e. absurd (omega (arith, e, is)); script = λ e. absurd (omega (arith, e, is)); read = λ e. absurd (omega (arith, e, is)); write = λ e. absurd (omega (arith, e, is)); disk = λ _. c; damaged = λ e. absurd (omega (arith, e, is)); memory = λ e. absurd (omega (arith, e, is)); spent = λ e. absurd (omega (arith, e, is)); few = inr (inr (inr (inr (inl is)))) }
  plays_halt (halted.Damaged side place) is c = record { done = λ e. absurd (omega (arith, e, is)); script = λ e. absurd (omega (arith, e, is)); read = λ e. absurd (omega (arith, e, is)); write = λ e. absurd (omega (arith, e, is)); disk = λ e. absurd (omega (arith, e, is)); damaged = λ _. (side, place, c); memory = λ e. absurd (omega (arith, e, is)); spent = λ e. absurd (omega (arith, e, is)); few = inr (inr (inr (inr (inr (inl is))))) }
  plays_halt halted.Memory is c = plays_memory is (inr (halted.Memory, inl refl, c))

module _ (told : Bool) (first : Played) (Holds : World → Type 0) (Ends : List Deed → Type 0) (ReadFailed : Type 0) (left0 left held0 mid held : Option Bytes) (status : ℕ) where
  -- the last line was written, or in part
  ends_memory : IsBefore told first Ends left0 left held0 mid [] → IsEnd mid held 7 memory_line status → Plays told first Holds Ends ReadFailed left0 left held0 held status
  ends_memory b (inl w) = plays_memory told first Holds Ends ReadFailed left0 left held0 held status w.0 (inl (before_more told first Ends left0 left held0 mid held memory_line b w.1))
  ends_memory b (inr w) = plays_stopped told first Holds Ends ReadFailed left0 left held0 held status w.0 (inr (inr (inl (w.1.0, inr w.1.1, before_more told first Ends left0 left held0 mid held w.1.0 b w.1.2))))

  ends_halt : (halt : Halt) → IsCut told first Ends left0 left held0 mid halt [] → IsHaltEnd halt mid held status → Plays told first Holds Ends ReadFailed left0 left held0 held status
  ends_halt halt c (inl (inl w)) = plays_halt told first Holds Ends ReadFailed left0 left held0 held status halt w.0 (cut_more told first Ends left0 left held0 mid held halt (line_of halt) c w.1)
  ends_halt halt c (inl (inr w)) = plays_stopped told first Holds Ends ReadFailed left0 left held0 held status w.0 (inr (inr (inr (halt, w.1.0, inl w.1.1, cut_more told first Ends left0 left held0 mid held halt w.1.0 c w.1.2))))
  ends_halt halt c (inr (d, inl w)) = plays_memory told first Holds Ends ReadFailed left0 left held0 held status w.0 (inr (halt, inr d, cut_more told first Ends left0 left held0 mid held halt memory_line c w.1))
  ends_halt halt c (inr (d, inr w)) = plays_stopped told first Holds Ends ReadFailed left0 left held0 held status w.0 (inr (inr (inr (halt, w.1.0, inr (d, w.1.1), cut_more told first Ends left0 left held0 mid held halt w.1.0 c w.1.2))))

  ends_play : (end : ReplayEnd) → (end ≡ ended.ReadFault → ReadFailed) → OnPlay told first Holds Ends end left0 left held0 mid → IsReplayEnd end mid held status → Plays told first Holds Ends ReadFailed left0 left held0 held status
  ends_play ended.Done failed p e = plays_done told first Holds Ends ReadFailed left0 left held0 held status e.0 (subst (λ (z : Option Bytes). IsDone told first Holds Ends left0 left held0 z) (sym e.1) p)
  ends_play (ended.Script number) failed p (inl (inl w)) = plays_script told first Holds Ends ReadFailed left0 left held0 held status number w.0 (faulty_more told first Ends left0 left held0 mid held number (script_line number) p w.1)
  ends_play (ended.Script number) failed p (inl (inr w)) = plays_stopped told first Holds Ends ReadFailed left0 left held0 held status w.0 (inr (inl (number, w.1.0, w.1.1, faulty_more told first Ends left0 left held0 mid held number w.1.0 p w.1.2)))
  ends_play (ended.Script number) failed p (inr w) = ends_memory (faulty_before told first Ends left0 left held0 mid held number p) w
  ends_play ended.ReadFault failed p (inl w) = plays_read told first Holds Ends ReadFailed left0 left held0 held status w.0 (before_more told first Ends left0 left held0 mid held read_line p w.1)
  ends_play ended.ReadFault failed p (inr w) = plays_stopped told first Holds Ends ReadFailed left0 left held0 held status w.0 (inr (inr (inl (w.1.0, inl (failed refl, w.1.1), before_more told first Ends left0 left held0 mid held w.1.0 p w.1.2))))
  ends_play ended.WriteFault failed p e = plays_stopped told first Holds Ends ReadFailed left0 left held0 held status e.0 (inl (subst (λ (z : Option Bytes). IsWithinLine told first Ends left0 left held0 z) (sym e.1) p))
  ends_play (ended.Halted halt) failed p e = ends_halt halt p e
  ends_play (ended.Unopened halt) failed p e = absurd p

-- the end of a script
pub ends_replay : (seen : Option Sides) (Back : Halt → Type 0) (Holds : World → Type 0) (Ends : World → ℕ → List Deed → Type 0) (ReadFailed : Type 0) (left0 left held0 mid held : Option Bytes) (end : ReplayEnd) (status : ℕ) → (end ≡ ended.ReadFault → ReadFailed) → OnReplay seen Back Holds Ends end left0 left held0 mid → IsReplayEnd end mid held status → Replays seen Back Holds Ends ReadFailed left0 left held0 held status
ends_replay seen Back Holds Ends ReadFailed left0 left held0 mid held end status failed (inl s) e = inl (record { why = s.0; between = mid; shut = s.2; ended = subst (λ (z : ReplayEnd). IsReplayEnd z mid held status) s.1 e })
ends_replay seen Back Holds Ends ReadFailed left0 left held0 mid held end status failed (inr p) e = inr (p.0, p.1, p.2, ends_play (is_some seen) (opening p.0 p.1) Holds (Ends p.0 p.1) ReadFailed left0 left held0 mid held status end failed p.3 e)

-- a list of one item
pub single : {A : Type 0} (f : A → Bytes) (xs : List A) (w : A) → 1 ≤ length xs → length xs < 2 → w ≡ get_or xs 0 w → f w ∷ [] ≡ map f xs
single f [] w a b e = absurd (omega (arith, a))
single f (x ∷ []) w a b e = ap (λ z. f z ∷ []) e
single f (x ∷ y ∷ xs) w a b e = absurd (omega (arith, b))

head_is : (x y : Bytes) → x ∷ [] ≡ y ∷ [] → x ≡ y
head_is x y e = cc

pub is_one : {A : Type 0} (f : A → Bytes) (xs : List A) (w : A) (name text : Bytes) (t : Bool) → 1 ≤ length xs → length xs < 2 → w ≡ get_or xs 0 w → text ≡ f w → (IsTrue t → text ≡ name) → (text ≡ name → IsTrue t)
    → (IsTrue t → map f xs ≡ name ∷ []) × (map f xs ≡ name ∷ [] → IsTrue t)
is_one f xs w name text t a b e is to from =
    let one = single f xs w a b e in
    (λ h. sym one ∙ ap (λ (z : Bytes). z ∷ []) (sym is ∙ to h), λ m. from (is ∙ head_is (f w) name (one ∙ m)))

alike : (a b : Bytes) → bytes_eq a b ≡ true → a ≡ b
alike [] [] e = refl
alike [] (y ∷ b) e = absurd (cc)
alike (x ∷ a) [] e = absurd (cc)
alike (x ∷ a) (y ∷ b) e = let ih = alike a b in grind (arith, nat_tests)

itself : (a : Bytes) → bytes_eq a a ≡ true
itself [] = refl
itself (x ∷ a) = let ih = itself a in grind (arith, nat_tests)

pub alike_if : (t : Bool) (a b : Bytes) → t ≡ bytes_eq a b → IsTrue t → a ≡ b
alike_if t a b e h = alike a b (sym e ∙ h)

pub if_alike : (t : Bool) (a b : Bytes) → t ≡ bytes_eq a b → a ≡ b → IsTrue t
if_alike t a b e is = e ∙ subst (λ (z : Bytes). bytes_eq a z ≡ true) is (itself a)
