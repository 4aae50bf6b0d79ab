-- The charger's codes, by their numbers and by what they drive.
use Rattle.std.specs.Prelude.{ℕ, Bool, ◌==◌}
use Rattle.charger.specs.declared.Code.{Code}
use Rattle.charger.specs.declared.Code.TheVariants.{Suspend, TrickleCharge, PreCharge, FastCharge, BatDet, TopOff, Done, TempErr1, TempErr2, TempErr3, TempErr4, TempErr5, BattAssist1, BattAssist2, BattAssist3, BattError}
use Rattle.charger.specs.declared.settings.Draft.{Draft}

-- The number of a code, as register CHG_STATE shows it.
abbrev pub byte_of : Code → ℕ
byte_of Suspend = 0x00
byte_of TrickleCharge = 0x01
byte_of PreCharge = 0x02
byte_of FastCharge = 0x03
byte_of BatDet = 0x0d
byte_of TopOff = 0x0e
byte_of Done = 0x0f
byte_of TempErr1 = 0x10
byte_of TempErr2 = 0x11
byte_of TempErr3 = 0x12
byte_of TempErr4 = 0x13
byte_of TempErr5 = 0x14
byte_of BattAssist1 = 0x30
byte_of BattAssist2 = 0x31
byte_of BattAssist3 = 0x32
byte_of BattError = 0x7f

-- Two codes are the same if their numbers are.
abbrev pub same : Code → Code → Bool
same x y = byte_of x == byte_of y

-- The current that a code asks for, in mA.
abbrev pub asked : Draft → Code → ℕ
asked d Suspend = 0
asked d TrickleCharge = d.itri.0
asked d PreCharge = d.ipre.0
asked d FastCharge = d.ifst.0
asked d BatDet = 0
asked d TopOff = d.ifst.0
asked d Done = 0
asked d TempErr1 = 0
asked d TempErr2 = 0
asked d TempErr3 = 0
asked d TempErr4 = 0
asked d TempErr5 = 0
asked d BattAssist1 = 0
asked d BattAssist2 = 0
asked d BattAssist3 = 0
asked d BattError = 0
