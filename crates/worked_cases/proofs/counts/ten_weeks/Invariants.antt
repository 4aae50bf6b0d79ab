use Rattle.std.proofs.Common.{◌≡◌, ◌+◌, ◌*◌}
use Rattle.worked_cases.proofs.counts.ten_weeks.Given as goal

abbrev pub invariant-loop-second : goal.invariant-loop-second
invariant-loop-second l = l.gauge + 12000 * l._second ≡ l.initial.gauge

abbrev pub invariant-loop-day : goal.invariant-loop-day
invariant-loop-day l = (l.gauge ≡ l.exact) × (l.exact + 1036800000 * l._day ≡ 163839999999)
