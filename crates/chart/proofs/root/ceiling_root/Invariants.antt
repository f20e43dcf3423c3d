-- `chart::root::ceiling_root` meets its contract. The loop's invariant: the square of `low` is below M, the square of `high` is not. The
-- measure is how far the two are apart. In the end `high` is `low` + 1.
use Prim.Native.Nat.{◌-◌, ◌*◌, ◌≤◌, ◌<◌}
use Rattle.limits.specs.Limits.{total}
use Rattle.chart.specs.Root.{root_limit}
use Rattle.chart.proofs.root.ceiling_root.Given as goal

abbrev pub invariant-loop-low : goal.invariant-loop-low
invariant-loop-low l = (l.low < l.high) × (l.high ≤ root_limit total) × (l.low * l.low < l.scaled_squared_radius) × (l.scaled_squared_radius ≤ l.high * l.high)

abbrev pub decreases-loop-low : goal.decreases-loop-low
decreases-loop-low l = l.high - l.low
