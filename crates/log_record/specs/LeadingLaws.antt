-- Entries that lead on.
use Rattle.std.proofs.Common.{◌≡◌, ◌≤◌, ◌||◌, ℕ, zero, suc, Bool, List, [], ◌∷◌, ◌++◌, length, take, refl, sym, subst, arith}
use Rattle.std.proofs.lemmas.List.{take_all, take-append-le}
use Rattle.world_model.specs.Halls.{Hall}
use Rattle.world_model.specs.Histories.{Step, Follows, Leads, Reaches, gives_disk}
use Rattle.world_data.specs.declared.worlds.World.{World}
use Rattle.world_model.specs.declared.events.Entry.{Entry}
use Rattle.world_model.specs.declared.events.Opening.{Opening}
use Rattle.log_record.specs.Safety.{moment_after, count_after, out_after, Passes}

-- moments do not fall
pub not_before : (h last : Hall) (moment count : ℕ) (is_out : Bool) (entries : List Entry) → Leads h moment count is_out entries last
    → moment ≤ moment_after moment entries
not_before h last moment count is_out [] leads = omega arith
not_before h last moment count is_out (e ∷ entries) leads =
    omega (arith, leads.2.later, not_before leads.0 last e.moment e.count (is_out || gives_disk e) entries leads.3)

pub moments_ascend : (h last : Hall) (moment count : ℕ) (is_out : Bool) (entries : List Entry) → Leads h moment count is_out entries last
    → (n : ℕ) → moment_after moment (take n entries) ≤ moment_after moment entries
moments_ascend h last moment count is_out entries leads zero = not_before h last moment count is_out entries leads
moments_ascend h last moment count is_out [] leads (suc n) = omega arith
moments_ascend h last moment count is_out (e ∷ entries) leads (suc n) =
    moments_ascend leads.0 last e.moment e.count (is_out || gives_disk e) entries leads.3 n

-- one entry more
pub leads_on : (h mid new : Hall) (moment count : ℕ) (is_out : Bool) (entries : List Entry) (e : Entry) → Leads h moment count is_out entries mid
    → Step mid e.event e.outcome new → Follows (moment_after moment entries) (count_after count entries) (out_after is_out entries) e
    → Leads h moment count is_out (entries ++ e ∷ []) new
leads_on h mid new moment count is_out [] e leads step follows = (new, subst (λ (g : Hall). Step g e.event e.outcome new) leads step, follows, refl)
leads_on h mid new moment count is_out (d ∷ entries) e leads step follows =
    (leads.0, leads.1, leads.2, leads_on leads.0 mid new d.moment d.count (is_out || gives_disk d) entries e leads.3 step follows)

pub passes_still : (o : Opening) (entries : List Entry) (e : Entry) (m : ℕ) (w : World) → m ≤ length entries → Passes o entries m w
    → Passes o (entries ++ e ∷ []) m w
passes_still o entries e m w few passes = subst (λ (l : List Entry). (h : Hall) × Reaches o l h × (h.world ≡ w))
    (sym (take-append-le m entries (e ∷ []) few)) passes

pub passes_all : (o : Opening) (entries : List Entry) (h : Hall) (n : ℕ) (w : World) → length entries ≤ n → Reaches o entries h → h.world ≡ w
    → Passes o entries n w
passes_all o entries h n w long reached is = (h, subst (λ (l : List Entry). Reaches o l h) (sym (take_all n entries long)) reached, is)
