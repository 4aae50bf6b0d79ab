-- The clocks: which change of code starts each of them.
use Rattle.std.specs.Prelude.{ℕ, Bool, cond, ◌&&◌, [], ◌∷◌, Some, None}
use Rattle.charger.specs.Rules.{among}
use Rattle.charger.specs.declared.Clock.{Clock}
use Rattle.charger.specs.declared.Clocks.{Clocks}
use Rattle.charger.specs.declared.Code.{Code}
use Rattle.charger.specs.declared.Code.TheVariants.{TrickleCharge, PreCharge, FastCharge, BatDet, TopOff, Done}

-- The pre clock starts where the code leaves battery detection for trickle or pre-charging.
abbrev pub starts_pre : Code → Code → Bool
starts_pre old new = among (BatDet ∷ []) old && among (TrickleCharge ∷ PreCharge ∷ []) new

-- The fast clock starts where the code leaves pre-charging, battery detection or the full battery for fast charging.
abbrev pub starts_fast : Code → Code → Bool
starts_fast old new = among (PreCharge ∷ BatDet ∷ Done ∷ []) old && among (FastCharge ∷ []) new

-- The top clock starts where the code leaves fast charging for topping off.
abbrev pub starts_top : Code → Code → Bool
starts_top old new = among (FastCharge ∷ []) old && among (TopOff ∷ []) new

abbrev pub stopped : Clocks
stopped = record { pre = record { since = None }; fast = record { since = None }; top = record { since = None } }

-- A clock that a change of code may start anew.
abbrev pub restarted : (Code → Code → Bool) → Code → Code → ℕ → Clock → Clock
restarted starts old new tick clock = cond (starts old new) (record { since = Some tick }) clock

abbrev pub started : Code → Code → ℕ → Clocks → Clocks
started old new tick cs = record {
  pre = restarted starts_pre old new tick cs.pre;
  fast = restarted starts_fast old new tick cs.fast;
  top = restarted starts_top old new tick cs.top;
}
