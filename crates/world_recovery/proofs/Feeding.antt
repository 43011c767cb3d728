-- What a reader of requests answers to bytes, for a replay.
use Rattle.std.proofs.Common.{◌≡◌, ℕ, ◌+◌, ◌≤◌, ◌<◌, List, [], ◌++◌, length, take, drop, Option, Some, None, sym, subst, arith}
use Rattle.std.proofs.lemmas.List.{take_all}
use Rattle.byte_text.specs.Names.{Bytes}
use Rattle.byte_text.specs.Requests.{IsRequest}
use Rattle.byte_text.specs.Streams.{broken, request}
use Rattle.byte_text.specs.declared.faults.RespFault.{RespFault}
use Rattle.resp_frames.specs.RequestReader.{Held, IsFed, IsNotFed}
use Rattle.resp_frames.specs.declared.faults.FeedFault.{FeedFault}
use Rattle.resp_frames.specs.declared.faults.FeedFault.TheVariants.{Broken, Dead, Memory}
use Rattle.world_data.specs.Worlds.{after}
use Rattle.world_data.specs.declared.worlds.Change.{Change}
use Rattle.world_data.specs.declared.worlds.World.{World}
use Rattle.log_record.specs.Versions.{change_of_version}
use Rattle.world_recovery.specs.Replayed.{Begins, Stands, IsNoRecord}
use Rattle.world_recovery.proofs.Reading.{nothing_begun, some_end}
use Rattle.world_recovery.proofs.Steps.{stands_on, stands_behind, refuses_words, refuses_bytes}

-- nothing is held, and that begins one
pub begins_first : Begins (Some [])
begins_first = nothing_begun

begins_as : (held new : Held) → new ≡ held → Begins held → Begins new
begins_as held new is begins = subst Begins (sym is) begins

pub begins_fed : (held new : Held) (bytes : Bytes) (n : ℕ) (read : Option (List Bytes)) → IsFed held new bytes n read → Begins new
begins_fed None new bytes n read fed = absurd fed
begins_fed (Some h) new bytes n None fed = begins_as (Some (h ++ bytes)) new fed.2 fed.0
begins_fed (Some h) new bytes n (Some words) fed = begins_as (Some []) new fed.2 begins_first

pub begins_not_fed : (held new : Held) (bytes : Bytes) (fault : FeedFault) → IsNotFed held new bytes fault → Begins held → Begins new
begins_not_fed None new bytes fault not begins = begins_as None new not.1 tt
begins_not_fed (Some h) new bytes (Broken fault) not begins = begins_as None new not.1 tt
begins_not_fed (Some h) new bytes Dead not begins = absurd not
begins_not_fed (Some h) new bytes Memory not begins = begins_as (Some h) new not begins

-- of some bytes some are taken, and no more than there are
pub fed_some : (held new : Held) (bytes : Bytes) (n : ℕ) (read : Option (List Bytes)) → Begins held → 0 < length bytes → IsFed held new bytes n read → 0 < n
fed_some None new bytes n read begins some fed = absurd fed
fed_some (Some h) new bytes n None begins some fed = let all : n ≡ length bytes = fed.1 in omega (arith, some, all)
fed_some (Some h) new bytes n (Some words) begins some fed = some_end h bytes words n begins fed.0

pub fed_within : (held new : Held) (bytes : Bytes) (n : ℕ) (read : Option (List Bytes)) → IsFed held new bytes n read → n ≤ length bytes
fed_within None new bytes n read fed = absurd fed
fed_within (Some h) new bytes n None fed = let all : n ≡ length bytes = fed.1 in omega (arith, all)
fed_within (Some h) new bytes n (Some words) fed = fed.1

pub fed_request : (held new : Held) (bytes : Bytes) (n : ℕ) (words : List Bytes) → IsFed held new bytes n (Some words) → IsRequest words
fed_request None new bytes n words fed = absurd fed
fed_request (Some h) new bytes n words fed = fed.3

-- what the replay stands for then
pub fed_on : (v : ℕ) (world : World) (held new : Held) (taken place : ℕ) (batches : List Bytes) (part bytes : Bytes) (n end : ℕ) → Stands v world held taken place batches part
    → IsFed held new bytes n None → end ≡ taken + n → Stands v world new end place batches (part ++ take n bytes)
fed_on v world None new taken place batches part bytes n end stands fed counted = absurd fed
fed_on v world (Some h) new taken place batches part bytes n end stands fed counted =
    let all : n ≡ length bytes = fed.1 in
    let same : take n bytes ≡ bytes = take_all n bytes (omega (arith, all)) in
    subst (λ (l : Bytes). Stands v world new end place batches (part ++ l)) (sym same)
    (stands_on v world h taken place batches part stands bytes new end fed.0 fed.2 (omega (arith, counted, all)))

pub fed_record : (v : ℕ) (world : World) (held new : Held) (taken place : ℕ) (batches : List Bytes) (part bytes : Bytes) (n end : ℕ) (words : List Bytes) (c : Change) (w : World)
    → Stands v world held taken place batches part → IsFed held new bytes n (Some words) → change_of_version v words ≡ Some c → w ≡ after world c → end ≡ taken + n
    → Stands v w new end end batches (part ++ take n bytes)
fed_record v world None new taken place batches part bytes n end words c w stands fed of folds counted = absurd fed
fed_record v world (Some h) new taken place batches part bytes n end words c w stands fed of folds counted =
    let behind = stands_behind v world h taken place batches part stands bytes words n end c w fed.3 fed.0 fed.1 of folds counted in
    subst (λ (l : Held). Stands v w l end end batches (part ++ take n bytes)) (sym fed.2) behind

-- where it refuses
pub fed_no_record : (v : ℕ) (world : World) (held new : Held) (taken place : ℕ) (batches : List Bytes) (part bytes : Bytes) (n : ℕ) (words : List Bytes)
    → Stands v world held taken place batches part → IsFed held new bytes n (Some words) → change_of_version v words ≡ None → IsNoRecord v (part ++ bytes) place
fed_no_record v world None new taken place batches part bytes n words stands fed none = absurd fed
fed_no_record v world (Some h) new taken place batches part bytes n words stands fed none = refuses_words v world h taken place batches part stands bytes (drop n bytes) words fed.0 none

pub not_fed : (v : ℕ) (world : World) (held new : Held) (taken place : ℕ) (batches : List Bytes) (part bytes : Bytes) (fault : RespFault) → Stands v world held taken place batches part
    → IsNotFed held new bytes (Broken fault) → ((front more : Bytes) (f : RespFault) → request front ≡ broken f → request (front ++ more) ≡ broken f) → IsNoRecord v (part ++ bytes) place
not_fed v world None new taken place batches part bytes fault stands not stays = absurd (let e : None ≡ Some stands.beginning = stands.waits in cc)
not_fed v world (Some h) new taken place batches part bytes fault stands not stays =
    refuses_bytes v world h taken place batches part stands bytes fault not.0 (λ rest. stays (h ++ bytes) rest fault not.0)

-- a reader that goes on is not dead
pub not_dead : (v : ℕ) (world : World) (held new : Held) (taken place : ℕ) (batches : List Bytes) (part bytes : Bytes) → Stands v world held taken place batches part
    → IsNotFed held new bytes Dead → ⊥
not_dead v world None new taken place batches part bytes stands not = absurd (let e : None ≡ Some stands.beginning = stands.waits in cc)
not_dead v world (Some h) new taken place batches part bytes stands not = not
