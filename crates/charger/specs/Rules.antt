-- The rules by which a good reading leads from code to code.
use Rattle.std.specs.Prelude.{ℕ, ◌+◌, Bool, true, false, cond, not, ◌&&◌, ◌||◌, List, [], ◌∷◌, ◌++◌, pos, int_le, int_lt, nat_le, nat_lt}
use Rattle.reading.specs.declared.Measured.{Measured}
use Rattle.watch.specs.Levels.{too_hot}
use Rattle.charger.specs.Codes.{same}
use Rattle.charger.specs.declared.Code.{Code}
use Rattle.charger.specs.declared.Code.TheVariants.{Suspend, TrickleCharge, PreCharge, FastCharge, BatDet, TopOff, Done, TempErr1, TempErr2, TempErr3, TempErr4, TempErr5, BattAssist1, BattAssist2, BattAssist3, BattError}
use Rattle.charger.specs.declared.settings.Draft.{Draft}

-- What the rules look at besides the code. Clocks are in ticks.
pub record Facts : Type 0 where
  -- the charger reset bit
  pub reset : Bool
  pub held : Bool
  pub input_good : Bool
  pub over_voltage : Bool
  pub hot_clock : ℕ
  pub pre_clock : ℕ
  pub fast_clock : ℕ
  pub top_clock : ℕ
  pub reading : Measured

-- Charging is barred by bad input, by over-voltage and by a hold.
abbrev pub barred : Facts → Bool
barred f = not f.input_good || f.over_voltage || f.held

-- Below 2 degrees a battery is too cold to be charged, above 58 too hot.
abbrev pub outside : Measured → Bool
outside m = int_lt m.temp (pos 2) || too_hot m

-- The battery is nearly full: it has the full voltage, and takes no more than the end current.
abbrev pub nearly_full : Draft → Measured → Bool
nearly_full d m = nat_le d.vbat_chg.0 m.vbat && int_le (pos 0) m.cur && int_le m.cur d.ifst_term.0

-- The battery's voltage is so many millivolts or more above the system's.
abbrev pub above : ℕ → Measured → Bool
above n m = nat_le (m.vsys + n) m.vbat

-- How long a clock may run: 129 minutes for pre-charging and for heat, 641 for fast charging, 15 seconds for topping
-- off, in ticks of 250 µs.
abbrev pub pre_limit : ℕ
pre_limit = 30960000

abbrev pub hot_limit : ℕ
hot_limit = 30960000

abbrev pub fast_limit : ℕ
fast_limit = 153840000

abbrev pub top_limit : ℕ
top_limit = 60000

-- A rule: the codes that it speaks of, when it fits, and where it leads.
pub record Rule : Type 0 where
  pub from : Code → Bool
  pub when : Bool
  pub to : Code → Code

abbrev pub any : Code → Bool
any c = true

abbrev pub among : List Code → Code → Bool
among [] c = false
among (x ∷ xs) c = same c x || among xs c

abbrev pub always : Bool
always = true

abbrev pub stay : Code → Code
stay c = c

abbrev pub rule : (Code → Bool) → Bool → (Code → Code) → Rule
rule from when to = record { from = from; when = when; to = to }

-- From some codes to another.
abbrev pub goes : List Code → Bool → Code → Rule
goes from when to = rule (among from) when (λ c. to)

-- A reset, a battery error and what bars charging come first.
abbrev pub bar_rules : Facts → List Rule
bar_rules f =
    rule any f.reset (λ c. Suspend)
    ∷ rule (among (BattError ∷ [])) always stay
    ∷ rule any (barred f) (λ c. Suspend)
    ∷ []

-- Then a battery that is too cold or too hot, perhaps too hot for too long; what no line leads on stays as it is.
abbrev pub heat_rules : Bool → Bool → List Rule
heat_rules out too_long =
    goes (TempErr1 ∷ TempErr2 ∷ TempErr5 ∷ []) (out && too_long) BattError
    ∷ goes (TrickleCharge ∷ []) out TempErr5
    ∷ goes (PreCharge ∷ []) out TempErr1
    ∷ goes (FastCharge ∷ TopOff ∷ BattAssist1 ∷ BattAssist2 ∷ []) out TempErr2
    ∷ goes (Done ∷ BattAssist3 ∷ []) out TempErr3
    ∷ goes (Suspend ∷ BatDet ∷ []) out TempErr4
    ∷ rule any out stay
    ∷ []

-- Back from where it was too cold or too hot, and on to where charging begins.
abbrev pub start_rules : Draft → Facts → List Rule
start_rules d f =
    goes (TempErr5 ∷ []) always TrickleCharge
    ∷ goes (TempErr1 ∷ []) always PreCharge
    ∷ goes (TempErr2 ∷ []) always FastCharge
    ∷ goes (TempErr3 ∷ []) always Done
    ∷ goes (TempErr4 ∷ []) always Suspend
    ∷ goes (Suspend ∷ []) always BatDet
    ∷ goes (BatDet ∷ []) (nat_lt f.reading.vbat d.vpre_lo.0) TrickleCharge
    ∷ goes (BatDet ∷ []) (nat_lt f.reading.vbat d.vpre_hi.0) PreCharge
    ∷ goes (BatDet ∷ []) always FastCharge
    ∷ []

-- Through the charge.
abbrev pub charge_rules : Draft → Facts → List Rule
charge_rules d f =
    goes (TrickleCharge ∷ PreCharge ∷ []) (nat_le pre_limit f.pre_clock) BattError
    ∷ goes (TrickleCharge ∷ []) (nat_le d.vpre_lo.0 f.reading.vbat) PreCharge
    ∷ goes (PreCharge ∷ []) (nat_le d.vpre_hi.0 f.reading.vbat) FastCharge
    ∷ goes (FastCharge ∷ []) (nat_le fast_limit f.fast_clock) BattError
    ∷ goes (FastCharge ∷ []) (above 60 f.reading) BattAssist1
    ∷ goes (FastCharge ∷ []) (nearly_full d f.reading) TopOff
    ∷ goes (TopOff ∷ []) (above 60 f.reading) BattAssist2
    ∷ goes (TopOff ∷ []) (not (nearly_full d f.reading)) FastCharge
    ∷ goes (TopOff ∷ []) (nat_le top_limit f.top_clock) Done
    ∷ goes (Done ∷ []) (above 60 f.reading) BattAssist3
    ∷ goes (Done ∷ []) (nat_lt f.reading.vbat d.vbat_mnt.0) FastCharge
    ∷ goes (BattAssist1 ∷ []) (not (above 20 f.reading)) FastCharge
    ∷ goes (BattAssist2 ∷ []) (not (above 20 f.reading)) TopOff
    ∷ goes (BattAssist3 ∷ []) (not (above 20 f.reading)) Done
    ∷ []

-- The first rule that fits the code leads on; where none does, the code stays.
abbrev pub first_fit : List Rule → Code → Code
first_fit [] c = c
first_fit (r ∷ rs) c = cond (r.from c && r.when) (r.to c) (first_fit rs c)

-- What is tried where the battery is in range.
abbrev pub range_rules : Draft → Facts → List Rule
range_rules d f = start_rules d f ++ charge_rules d f

-- All rules, one group after the other.
abbrev pub rules : Draft → Facts → List Rule
rules d f = bar_rules f ++ (heat_rules (outside f.reading) (nat_le hot_limit f.hot_clock) ++ range_rules d f)

-- The code after a good reading.
abbrev pub next : Draft → Facts → Code → Code
next d f c = first_fit (rules d f) c
