use Rattle.std.proofs.Common.{arith}
use Rattle.std.proofs.lemmas.List.Edits.{map_over_more}
use Rattle.watch.proofs.row.Row.see.Goals as goal

pub loop-alarm-preserved : goal.loop-alarm-preserved
loop-alarm-preserved c =
    let more = map_over_more _ c.self.inside.alarms c.loop-alarm.alarm-items c.loop-alarm.alarm-index c.alarm-item.result (omega arith) c.loop-alarm.invariant c.alarm-item.is in
    rw (c.see.ensures.after, ← c.alarm-item.is) more
