-- The limits of this profile, as the definitions name them: each is a constant of the code.
use Rattle.std.specs.Prelude.{ℕ, suc, ℤ, pos, negsuc}
use Rattle.planar_geom.specs.declared.points.TheConstants.{MAX_COORD}
use Rattle.world_data.specs.declared.limits.TheConstants.{MAX_METERS, MAX_SECONDS, MAX_FIELDS, MAX_TESTS, MAX_VALUES, MAX_LIMIT, MAX_OBJECTS}
use Rattle.world_data.specs.declared.limits.TheConstants.{MAX_CHANNELS, MAX_WEIGHT, MAX_SESSIONS, MOST_DRAWN, MAX_SUBS, MAX_REPLY, FULL_FRAMES}
use Rattle.world_data.specs.declared.limits.TheConstants.{FULL_BYTES, CAP_FRAMES, CAP_BYTES, TAKE, MOST_LOGGED, MAX_MOMENT}

-- the greatest coordinate, either way from 0
abbrev pub max_coord : ℕ
max_coord = size_of MAX_COORD
  where
    size_of : ℤ → ℕ
    size_of (pos n) = n
    size_of (negsuc n) = suc n

-- the greatest radius or reach
abbrev pub max_meters : ℕ
max_meters = MAX_METERS

-- the longest time to live, in seconds
abbrev pub max_seconds : ℕ
max_seconds = MAX_SECONDS

-- the fields of one object
abbrev pub max_fields : ℕ
max_fields = MAX_FIELDS

-- the tests of one query or channel, and the values of one WHEREIN
abbrev pub max_tests : ℕ
max_tests = MAX_TESTS

abbrev pub max_values : ℕ
max_values = MAX_VALUES

-- the greatest LIMIT
abbrev pub max_limit : ℕ
max_limit = MAX_LIMIT

-- the objects and channels of a world, and the bytes of the records of them all
abbrev pub max_objects : ℕ
max_objects = MAX_OBJECTS

abbrev pub max_channels : ℕ
max_channels = MAX_CHANNELS

abbrev pub max_weight : ℕ
max_weight = MAX_WEIGHT

-- the sessions that are present at once, and the numbers that are given to sessions
abbrev pub max_sessions : ℕ
max_sessions = MAX_SESSIONS

abbrev pub most_drawn : ℕ
most_drawn = MOST_DRAWN

-- the subscriptions of one session
abbrev pub max_subs : ℕ
max_subs = MAX_SUBS

-- the bytes of one reply frame
abbrev pub max_reply : ℕ
max_reply = MAX_REPLY

-- a session with so many frames, or bytes of frames, is not served until it takes some
abbrev pub full_frames : ℕ
full_frames = FULL_FRAMES

abbrev pub full_bytes : ℕ
full_bytes = FULL_BYTES

-- the frames of a session's queue, and their bytes
abbrev pub cap_frames : ℕ
cap_frames = CAP_FRAMES

abbrev pub cap_bytes : ℕ
cap_bytes = CAP_BYTES

-- the frames of one take
abbrev pub take_frames : ℕ
take_frames = TAKE

-- the bytes of log after which the hall is spent
abbrev pub most_logged : ℕ
most_logged = MOST_LOGGED

-- the greatest moment, in milliseconds
abbrev pub max_moment : ℕ
max_moment = MAX_MOMENT
