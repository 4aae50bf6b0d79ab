-- The check of a draft.
use Rattle.std.specs.Prelude.{◌≡◌, ℕ, Bool, true, false, cond, not, ◌&&◌, List, [], ◌∷◌, ◌++◌, map, pos, Some, None, Ok, Err, Option, Result, int_le, nat_le, nat_lt, find}
use Rattle.std.specs.List.{AllByRecursion}
use Rattle.charger.specs.declared.settings.Draft.{Draft}
use Rattle.charger.specs.declared.settings.Setting.{Setting}
use Rattle.charger.specs.declared.settings.Setting.TheVariants.{VpreLo, VpreHi, Itri, Ipre, Ifst, IfstTerm, VbatOvp, VbatChg, VbatMnt}
use Rattle.charger.specs.declared.settings.SettingsFault.{SettingsFault}
use Rattle.charger.specs.declared.settings.SettingsFault.TheVariants.{OutOfRange, OutOfOrder}

abbrev pub between : ℕ → ℕ → ℕ → Bool
between low top n = nat_le low n && nat_le n top

-- The range of each setting, both ends included.
abbrev pub in_range : Setting → Draft → Bool
in_range VpreLo d = between 2100 3600 d.vpre_lo.0
in_range VpreHi d = between 2100 3600 d.vpre_hi.0
in_range Itri d = between 20 100 d.itri.0
in_range Ipre d = between 100 500 d.ipre.0
in_range Ifst d = between 100 2000 d.ifst.0
in_range IfstTerm d = int_le (pos 10) d.ifst_term.0 && int_le d.ifst_term.0 (pos 200)
in_range VbatOvp d = between 4400 4800 d.vbat_ovp.0
in_range VbatChg d = between 3720 4340 d.vbat_chg.0
in_range VbatMnt d = between 3600 4340 d.vbat_mnt.0

-- The settings in their order.
abbrev pub settings : List Setting
settings = VpreLo ∷ VpreHi ∷ Itri ∷ Ipre ∷ Ifst ∷ IfstTerm ∷ VbatOvp ∷ VbatChg ∷ VbatMnt ∷ []

-- The first setting out of its range.
abbrev pub first_bad : Draft → List Setting → Option Setting
first_bad d ss = find (λ s. not (in_range s d)) ss

abbrev pub in_order : Draft → Bool
in_order d = nat_le d.vpre_lo.0 d.vpre_hi.0 && nat_lt d.vbat_mnt.0 d.vbat_chg.0

-- Ranges are checked first, in the order of the settings, and then the order of the voltages.
abbrev pub judged : Option Setting → Draft → Result Draft SettingsFault
judged (Some s) d = Err (OutOfRange s)
judged None d = cond (in_order d) (Ok d) (Err OutOfOrder)

abbrev pub checked : Draft → Result Draft SettingsFault
checked d = judged (first_bad d settings) d

-- The number of a setting.
abbrev pub setting_number : Setting → ℕ
setting_number VpreLo = 1
setting_number VpreHi = 2
setting_number Itri = 3
setting_number Ipre = 4
setting_number Ifst = 5
setting_number IfstTerm = 6
setting_number VbatOvp = 7
setting_number VbatChg = 8
setting_number VbatMnt = 9

-- The first of some settings that is out of its range: all before it are within theirs.
pub record FirstBad (d : Draft) (ss : List Setting) (s : Setting) : Type 0 where
  pub earlier : List Setting
  pub later : List Setting
  pub order : ss ≡ earlier ++ (s ∷ later)
  pub good : AllByRecursion (λ q. in_range q d ≡ true) earlier
  pub bad : in_range s d ≡ false

abbrev pub InRanges : Draft → Type 0
InRanges d = AllByRecursion (λ q. in_range q d ≡ true) settings

-- What a check says of a draft: that a setting is out of its range exactly where it is the first such, that the
-- voltages are out of order exactly where all settings are in their ranges and the order is wrong, and that the draft
-- passes exactly where all is well.
pub record Judged (d : Draft) : Type 0 where
  pub numbers : map setting_number settings ≡ 1 ∷ 2 ∷ 3 ∷ 4 ∷ 5 ∷ 6 ∷ 7 ∷ 8 ∷ 9 ∷ []
  pub tells_range : (s : Setting) → checked d ≡ Err (OutOfRange s) → FirstBad d settings s
  pub range : (s : Setting) → FirstBad d settings s → checked d ≡ Err (OutOfRange s)
  pub tells_order : checked d ≡ Err OutOfOrder → InRanges d × (in_order d ≡ false)
  pub order : InRanges d → in_order d ≡ false → checked d ≡ Err OutOfOrder
  pub tells_good : checked d ≡ Ok d → InRanges d × (in_order d ≡ true)
  pub good : InRanges d → in_order d ≡ true → checked d ≡ Ok d

abbrev pub ACheckTellsWhatIsWrong : Type 0
ACheckTellsWhatIsWrong = (d : Draft) → Judged d

abbrev pub fault_number : SettingsFault → ℕ
fault_number (OutOfRange s) = 10
fault_number OutOfOrder = 11

-- What a handheld starts with.
abbrev pub standard_draft : Draft
standard_draft = record {
  vpre_lo = record { 0 = 2500 };
  vpre_hi = record { 0 = 3000 };
  itri = record { 0 = 50 };
  ipre = record { 0 = 200 };
  ifst = record { 0 = 500 };
  ifst_term = record { 0 = pos 50 };
  vbat_ovp = record { 0 = 4400 };
  vbat_chg = record { 0 = 4200 };
  vbat_mnt = record { 0 = 4100 };
}
