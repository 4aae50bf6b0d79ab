-- A reading and its six numbers.
use Rattle.reading.specs.declared.Measured.{Measured}
use Rattle.reading.specs.declared.Reading.TheInside.{Inside}

-- The six numbers of a reading, without their units.
abbrev pub measured : Inside → Measured
measured r = record {
  tick = r.tick;
  vbat = r.vbat.0;
  vsys = r.vsys.0;
  dcin = r.dcin.0;
  cur = r.cur.0;
  temp = r.temp.0;
}

-- They leave nothing out.
abbrev pub from_measured : Measured → Inside
from_measured m = record {
  tick = m.tick;
  vbat = record { 0 = m.vbat };
  vsys = record { 0 = m.vsys };
  dcin = record { 0 = m.dcin };
  cur = record { 0 = m.cur };
  temp = record { 0 = m.temp };
}
