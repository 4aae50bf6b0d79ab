use Rattle.std.proofs.Common.{◌≡◌, ◌++◌, map, take, drop}
use Rattle.watch.specs.Levels.{over_current}
use Rattle.watch.specs.Rule.{sensed}
use Rattle.watch.proofs.row.Row.see.Given as goal

abbrev pub invariant-loop-alarm : goal.invariant-loop-alarm
invariant-loop-alarm l =
    let alarms = l.initial.alarm-items in
    l.alarm-items ≡ map (sensed over_current l.reading) (take l.alarm-index alarms) ++ drop l.alarm-index alarms
