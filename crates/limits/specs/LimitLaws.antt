-- The digits of the limits: each limit is below the power of ten that its number of digits says, and not below the one before.
--     Digits limit digits     limit has so many digits
--     channel_digits_lem, row_digits_lem, coordinate_digits_lem, weight_digits_lem, centre_digits_lem, distance_digits_lem, moves_digits_lem
use Rattle.std.specs.Prelude.{ℕ, ◌-◌, ◌^◌, ◌≤◌, ◌<◌}
use Rattle.std.proofs.Common.{lit<, lit≤}
use Rattle.limits.specs.Limits.{total, row_limit, channel_limit, coordinate_limit, centre_limit, distance_limit, budget_limit, channel_digits, row_digits, coordinate_digits, weight_digits, centre_digits, distance_digits, moves_digits}

-- limit has so many digits
pub record Digits (limit digits : ℕ) : Type 0 where
  pub below : limit < 10 ^ digits
  pub least : 10 ^ (digits - 1) ≤ limit

pub channel_digits_lem : Digits channel_limit channel_digits
channel_digits_lem = record { below = lit< tt; least = lit≤ tt }

pub row_digits_lem : Digits row_limit row_digits
row_digits_lem = record { below = lit< tt; least = lit≤ tt }

pub coordinate_digits_lem : Digits coordinate_limit coordinate_digits
coordinate_digits_lem = record { below = lit< tt; least = lit≤ tt }

pub weight_digits_lem : Digits total weight_digits
weight_digits_lem = record { below = lit< tt; least = lit≤ tt }

pub centre_digits_lem : Digits (centre_limit total) centre_digits
centre_digits_lem = record { below = lit< tt; least = lit≤ tt }

pub distance_digits_lem : Digits (distance_limit total) distance_digits
distance_digits_lem = record { below = lit< tt; least = lit≤ tt }

pub moves_digits_lem : Digits budget_limit moves_digits
moves_digits_lem = record { below = lit< tt; least = lit≤ tt }
